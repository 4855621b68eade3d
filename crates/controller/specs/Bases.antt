-- What ports over seats are made over.
use Rattle.std.specs.Prelude.{[]}
use Rattle.shared_words.specs.Seats.{SeatState}

-- a seat, apart from what main's own stores change: its table, and of its view all but the base and the latest store
abbrev pub unstored : SeatState → SeatState
unstored s = record s { view = record s.view { base = []; stored = 0 } }
