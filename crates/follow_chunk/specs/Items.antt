-- Items: the instances of a table with what they run.
use Rattle.std.specs.Prelude.{ℕ, ◌+◌, ℤ, pos, unsigned_abs, List, [], ◌∷◌, map, take, Option, Some, None, unwrap_or}
use Rattle.nest_lang.specs.declared.tree.Expr.TheVariants.{Number}
use Rattle.nest_lang.specs.declared.tree.Head.{Head}
use Rattle.nest_lang.specs.declared.tree.Head.TheVariants.{While}
use Rattle.nest_lang.specs.declared.tree.Loop.{Loop}
use Rattle.nest_lang.specs.declared.state.Outer.{Outer}
use Rattle.nest_lang.specs.Blocks.{head_at}
use Rattle.nest_lang.specs.Traces.{Occurrence}
use Rattle.nest_lang.specs.Loops.{Around, outside}
use Rattle.domain.specs.Tables.{Table}
use Rattle.domain.specs.Instances.{Instance, counter}
use Rattle.domain.specs.Steps.{next}
use Rattle.follow.specs.Forecasts.{Forecast}
use Rattle.follow.specs.Plans.{Item, Evaluates}
use Rattle.follow.specs.Instances.{value_in, into, item_of}
use Rattle.follow_chunk.specs.Predicted.{occurrence_of, instance_of, scalars_at, forecast_of}

-- what stands for an occurrence of a block that the nest hasn't got
abbrev pub idle : Occurrence → Item
idle at = record { at = at; values = []; work = Evaluates (While (Number (pos 0))) }

-- an instance with what it runs: the values of the names of the loops around it, of the outermost one from the lower
-- bound of the position and of the others from the expected ones, and its statements or its head
unfoldable pub item_at : Table → List Loop → Outer → Instance → Item
item_at t loops o x = unwrap_or (item_of (forecast_of t) o loops (occurrence_of t x)) (idle (occurrence_of t x))

-- a list of instances with what they run
abbrev pub items_at : Table → List Loop → Outer → List Instance → List Item
items_at t loops o xs = map (item_at t loops o) xs

-- the scalars expected after an instance: those that its successor begins with
abbrev pub scalars_after : Table → Item → List ℤ
scalars_after t i = scalars_at t (next t (instance_of t i.at))

-- so many of the loops inside a level, each in the turn that a number says, with the values of their names
abbrev pub inside_of : Forecast → Outer → ℕ → List Loop → Around → List ℤ → Around
inside_of p o level [] a turns = a
inside_of p o level (l ∷ ls) a [] = a
inside_of p o level (l ∷ ls) a (t ∷ turns) = inside_of p o (level + 1) ls (into p o l.head level a t) turns

-- where an instance of a nest runs, with these turn numbers
unfoldable pub around_of : Table → List Loop → Outer → List ℤ → Around
around_of t loops o turns = inside_of (forecast_of t) o 1 loops outside turns

abbrev pub value_by : Forecast → Outer → Option Head → ℕ → List ℤ → ℤ → ℤ
value_by p o None level turns t = pos 0
value_by p o (Some head) level turns t = value_in p o head level (record { counters = turns; values = [] }) (unsigned_abs t)

-- the value of the name of the loop inside so many others, in the turn that its counter says
unfoldable pub name_value : Table → List Loop → Outer → List ℤ → ℕ → ℤ
name_value t loops o at depth = value_by (forecast_of t) o (head_at loops (depth + 1)) (depth + 1) (take depth at) (counter at depth)
