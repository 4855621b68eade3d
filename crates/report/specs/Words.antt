-- Words of a line: names of blocks, accesses and data, numbers, and what was seen.
use Rattle.std.specs.Prelude.{ℕ, ℤ, List, [], ◌∷◌, ◌++◌, codes, decimal, map, get_or, Bool, true, false}
use Rattle.std.specs.Fmt.{signed_decimal}
use Rattle.std.specs.List.{join_with_byte}
use Rattle.nest_lang.specs.declared.tree.BlockRef.{BlockRef}
use Rattle.nest_lang.specs.declared.tree.Part.{Part}
use Rattle.nest_lang.specs.declared.tree.Part.TheVariants as part
use Rattle.nest_lang.specs.declared.tree.Trap.{Trap}
use Rattle.nest_lang.specs.declared.tree.Trap.TheVariants as trap
use Rattle.domain.specs.declared.prediction.What.{What}
use Rattle.domain.specs.declared.prediction.What.TheVariants as what
use Rattle.domain.specs.declared.held.HeldWhy.{HeldWhy}
use Rattle.domain.specs.declared.held.HeldWhy.TheVariants as held
use Rattle.follow.specs.declared.how.How.{How}
use Rattle.follow.specs.declared.how.How.TheVariants as how
use Rattle.fourier_motzkin.specs.declared.verdicts.Ruling.{Ruling}
use Rattle.fourier_motzkin.specs.declared.verdicts.Ruling.TheVariants.{Empty, Maybe, Wide}
use Rattle.report.specs.declared.line.At.{At}
use Rattle.report.specs.declared.line.Spot.{Spot}
use Rattle.report.specs.declared.line.LineUnfit.{LineUnfit}
use Rattle.report.specs.declared.line.LineUnfit.TheVariants as unfit

-- words in a row, with one space between each two
abbrev pub phrase : List (List ℕ) → List ℕ
phrase words = join_with_byte 32 words

-- a word behind others: a space, and then the word
abbrev pub next_word : List ℕ → List ℕ
next_word word = 32 ∷ word

-- the names of a file's scalars name a scalar by its number, from 0
abbrev pub scalar_name : List (List ℕ) → ℕ → List ℕ
scalar_name names number = get_or names number []

-- a part of a loop
unfoldable pub part_word : Part → List ℕ
part_word part.Head = codes "head"
part_word part.Pre = codes "pre"
part_word part.Post = codes "post"

-- a block: its part and the level of its loop
unfoldable pub block_word : BlockRef → List ℕ
block_word block = part_word block.part ++ decimal block.level

-- an access: its block, a point and its number
unfoldable pub access_word : Spot → List ℕ
access_word spot = block_word spot.block ++ (codes "." ++ decimal spot.access)

-- counters in parentheses, with commas and no spaces
unfoldable pub counters_word : List ℤ → List ℕ
counters_word counters = codes "(" ++ (join_with_byte 44 (map signed_decimal counters) ++ codes ")")

-- a block and its counters
unfoldable pub instance_phrase : At → List ℕ
instance_phrase at = phrase (block_word at.block ∷ counters_word at.counters.items ∷ [])

-- a datum of a block
unfoldable pub datum_phrase : List (List ℕ) → What → List ℕ
datum_phrase names (what.Scalar number) = phrase (codes "scalar" ∷ scalar_name names number ∷ [])
datum_phrase names (what.Address access) = phrase (codes "address" ∷ decimal access ∷ [])
datum_phrase names what.Lower = codes "lower"
datum_phrase names what.Trip = codes "trip"

-- what is expected and what was seen
abbrev pub expected_phrase : List ℕ → List ℕ → List ℕ
expected_phrase expected seen = phrase (codes "expected" ∷ expected ∷ codes "seen" ∷ seen ∷ [])

-- a condition that holds is 1
unfoldable pub condition_word : Bool → List ℕ
condition_word true = codes "1"
condition_word false = codes "0"

-- why a datum has no form
unfoldable pub unfit_phrase : LineUnfit → List ℕ
unfit_phrase (unfit.Line at line seen) = phrase (codes "at" ∷ counters_word at.counters.items ∷ codes "line" ∷ signed_decimal line ∷ codes "seen" ∷ signed_decimal seen ∷ [])
unfit_phrase (unfit.Large value) = phrase (codes "large" ∷ signed_decimal value ∷ [])

-- why a chunk is held
unfoldable pub held_phrase : List (List ℕ) → HeldWhy → List ℕ
held_phrase names (held.Negative value) = phrase (codes "trip" ∷ signed_decimal value ∷ [])
held_phrase names held.Many = codes "many"
held_phrase names (held.Outside access address) = phrase (codes "store" ∷ decimal access ∷ codes "address" ∷ signed_decimal address ∷ [])
held_phrase names (held.Scalar number value) = phrase (codes "scalar" ∷ scalar_name names number ∷ signed_decimal value ∷ [])
held_phrase names (held.Lower value) = phrase (codes "lower" ∷ signed_decimal value ∷ [])
held_phrase names (held.Last value) = phrase (codes "last" ∷ signed_decimal value ∷ [])

-- a trap
unfoldable pub trap_phrase : Trap → List ℕ
trap_phrase trap.Overflow = codes "overflow"
trap_phrase trap.ZeroDivisor = codes "zero"
trap_phrase (trap.Outside address) = phrase (codes "outside" ∷ signed_decimal address ∷ [])

-- how a run differs from what is expected of it
unfoldable pub how_phrase : List (List ℕ) → How → List ℕ
how_phrase names (how.Scalar number expected seen) = phrase (codes "scalar" ∷ scalar_name names number ∷ expected_phrase (signed_decimal expected) (signed_decimal seen) ∷ [])
how_phrase names (how.Address access expected seen) = phrase (codes "address" ∷ decimal access ∷ expected_phrase (signed_decimal expected) (signed_decimal seen) ∷ [])
how_phrase names (how.Unseen access address) = phrase (codes "unseen" ∷ decimal access ∷ codes "address" ∷ signed_decimal address ∷ [])
how_phrase names (how.Lower expected seen) = phrase (codes "lower" ∷ expected_phrase (signed_decimal expected) (signed_decimal seen) ∷ [])
how_phrase names (how.Trip expected seen) = phrase (codes "trip" ∷ expected_phrase (signed_decimal expected) (decimal seen) ∷ [])
how_phrase names (how.Condition expected seen) = phrase (codes "condition" ∷ expected_phrase (condition_word expected) (condition_word seen) ∷ [])
how_phrase names how.Ended = codes "ended"
how_phrase names (how.Trap cause) = phrase (codes "trap" ∷ trap_phrase cause ∷ [])
how_phrase names how.Limit = codes "limit"

-- the side of a row on which a schedule violates it
abbrev pub side_word : Bool → List ℕ
side_word true = codes "above"
side_word false = codes "below"

-- a verdict that refuses; an empty one stands in no line
unfoldable pub verdict_word : Ruling → List ℕ
verdict_word Maybe = codes "maybe"
verdict_word Wide = codes "wide"
verdict_word Empty = []
