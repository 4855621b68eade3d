-- Comparisons: a plain run that is watched for its first deviation.
use Rattle.std.specs.Prelude.{◌≡◌, ℕ, ◌≤◌, Option, Some, None, option_map}
use Rattle.nest_lang.specs.declared.observe.Seen.TheVariants.{Trip}
use Rattle.nest_lang.specs.Traces.{Observation}
use Rattle.domain.specs.declared.chunk.Chunk.{Chunk}
use Rattle.domain.specs.Tables.{Table}
use Rattle.domain.specs.Instances.{Instance, opening_at}
use Rattle.follow.specs.declared.how.How.{How}
use Rattle.follow_chunk.specs.declared.task.Deviation.{Deviation}
use Rattle.follow_chunk.specs.Predicted.{instance_of}
use Rattle.compare.specs.Differences.{difference}

-- something that isn't as it is predicted: at which instance, and how
pub record Found : Type 0 where
  pub at : Instance
  pub how : How

abbrev pub found_at : Instance → How → Found
found_at x how = record { at = x; how = how }

abbrev pub found_of : {D : ℕ} → Deviation D → Found
found_of d = record { at = d.at; how = d.how }

-- a chunk that is watched: what is predicted of it, the instance that was shown last, and the first thing that
-- wasn't as it is predicted
pub record Comparison : Type 0 where
  pub table : Table
  pub chunk : Chunk
  pub at : Instance
  pub first : Option Found

-- before anything was shown the first instance of the chunk is due
abbrev pub fresh : Table → Chunk → Comparison
fresh t chunk = record { table = t; chunk = chunk; at = opening_at t chunk.first; first = None }

-- turns show the trips of inner loops alone
abbrev pub IsOfTurns : Observation → Type 0
IsOfTurns o = o.what ≡ Trip → 2 ≤ o.at.block.level

abbrev pub looked_by : Option Found → Comparison → Observation → Comparison
looked_by (Some found) c o = c
looked_by None c o = record c { at = instance_of c.table o.at; first = option_map (found_at (instance_of c.table o.at)) (difference c.table o) }

-- what was found first stays; else an observation is looked at, and is found where it doesn't agree
abbrev pub looked : Comparison → Observation → Comparison
looked c o = looked_by c.first c o

-- one thing was shown
abbrev pub MayCompare : Comparison → Observation → Comparison → Type 0
MayCompare old o new = IsOfTurns o → new ≡ looked old o
