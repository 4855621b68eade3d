-- How a crew runs its jobs.
use Rattle.std.specs.Prelude.{ℕ, Bool, true, false, List, Option, Some, None}
use Rattle.crew.specs.declared.handed.Way.{Way}
use Rattle.crew.specs.declared.handed.Way.TheVariants.{Line, Script, Beside}

-- jobs are run beside each other, which may start threads and wait for them
abbrev pub runs_beside : {R G : Type 0} → Way R G → Bool
runs_beside Line = false
runs_beside (Script order) = false
runs_beside (Beside rt gate) = true

-- the list by which jobs are given turns, where they are
abbrev pub order_of : {R G : Type 0} → Way R G → Option (List ℕ)
order_of Line = None
order_of (Script order) = Some order.now
order_of (Beside rt gate) = None
