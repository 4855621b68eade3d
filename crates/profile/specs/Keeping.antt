-- What a sampler shows of itself.
use Rattle.std.specs.Prelude.{List, Option, Some, None, Bool, true, false}
use Rattle.nest_lang.specs.Traces.{Observation}

-- the observations that were kept, unless memory was refused
abbrev pub kept_unless : Bool → List Observation → Option (List Observation)
kept_unless true kept = None
kept_unless false kept = Some kept
