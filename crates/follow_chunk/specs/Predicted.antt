-- Predicted: the forecast that a table of forms makes.
use Rattle.std.specs.Prelude.{ℕ, zero, suc, ◌-◌, ℤ, pos, List, [], ◌∷◌, map, length, take, Option, Some, None, unwrap_or}
use Rattle.affine.specs.Forms.{Affine, value_at}
use Rattle.nest_lang.specs.declared.tree.BlockRef.{BlockRef}
use Rattle.nest_lang.specs.Lookups.{Interval}
use Rattle.nest_lang.specs.Traces.{Occurrence}
use Rattle.domain.specs.declared.prediction.What.TheVariants.{Address, Lower}
use Rattle.domain.specs.Tables.{Table, depth, rank_of, counters, trip}
use Rattle.domain.specs.Instances.{Instance, instance, block_of}
use Rattle.domain.specs.Expected.{expected_of, tube_of}
use Rattle.follow.specs.Forecasts.{Forecast}

-- the first d counters, with zeros after them where there are fewer
abbrev pub padded_to : ℕ → List ℤ → List ℤ
padded_to zero cs = []
padded_to (suc d) [] = pos 0 ∷ padded_to d []
padded_to (suc d) (c ∷ cs) = c ∷ padded_to d cs

-- the occurrence that an instance is: the block of its rank, and as many of its counters as that block has
unfoldable pub occurrence_of : Table → Instance → Occurrence
occurrence_of t x = record { block = record { part = (block_of t x).part; level = (block_of t x).level }; counters = take (counters t (block_of t x)) x.at }

-- the instance that an occurrence is: the rank of its block, past the last one where it is none of them, and its
-- counters with zeros after them
unfoldable pub instance_of : Table → Occurrence → Instance
instance_of t i = instance (unwrap_or (rank_of t i.block.part i.block.level) (length t.blocks)) (padded_to (depth t) i.counters)

-- the value of a form; a form that is missing counts as 0
abbrev pub value_or_zero : Option Affine → List ℤ → ℤ
value_or_zero None at = pos 0
value_or_zero (Some form) at = value_at form at

-- the scalars expected as an instance begins: the values of their forms at its counters
unfoldable pub scalars_at : Table → Instance → List ℤ
scalars_at t x = map (λ form. value_or_zero form x.at) (block_of t x).scalars

abbrev pub interval_about : Option ℤ → Option (ℤ × ℤ) → Option Interval
interval_about None tube = None
interval_about (Some line) None = None
interval_about (Some line) (Some tube) = Some (record { line = line; low = tube.0; high = tube.1 })

-- the expected interval of an access: its tube about its line, and none where it has no form
unfoldable pub interval_at : Table → Instance → ℕ → Option Interval
interval_at t x access = interval_about (expected_of t x (Address access)) (tube_of t x.block access)

-- the expected lower bound of the head of a `for`
unfoldable pub lower_at : Table → Instance → ℤ
lower_at t x = unwrap_or (expected_of t x Lower) (pos 0)

-- the predicted trip of the loop with this head, at the turn numbers of the loops around it
abbrev pub trip_at : Table → BlockRef → List ℤ → ℤ
trip_at t head counters = trip t (head.level - 1) (padded_to (depth t) counters)

-- what is expected of the instances of a nest by a table of forms
abbrev pub forecast_of : Table → Forecast
forecast_of t = record {
  scalars = λ i. scalars_at t (instance_of t i);
  interval = λ i. interval_at t (instance_of t i);
  lower = λ i. lower_at t (instance_of t i);
  trip = trip_at t;
}
