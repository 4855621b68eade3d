-- The runs of a list of points: its longest stretches of points that differ by 1 in their last value alone.
use Rattle.std.specs.Prelude.{◌≡◌, ◌+◌, ℤ, pos, ◌≤ℤ◌, ◌+ℤ◌, ◌-ℤ◌, List, [], ◌∷◌, ◌++◌, ◌↔◌, length}
use Rattle.orders.specs.Orders.{Ordered}
use Rattle.plain_lemmas.specs.Lists.{Has}
use Rattle.level_walk.specs.Orders.{Precedes}
use Rattle.level_walk.specs.declared.runs.Run.{Run}

-- the point of a run with this last value
abbrev pub point_at : Run → ℤ → List ℤ
point_at r value = r.front.items ++ value ∷ []

-- its points are listed, and neither the one before the first nor the one behind the last is
pub record IsRunOf (list : List (List ℤ)) (r : Run) : Type 0 where
  pub some : r.low ≤ℤ r.high
  pub all : (value : ℤ) → r.low ≤ℤ value → value ≤ℤ r.high → Has list (point_at r value)
  pub begins : Has list (point_at r (r.low -ℤ pos 1)) → ⊥
  pub ends : Has list (point_at r (r.high +ℤ pos 1)) → ⊥

-- by the first points, in lexicographic order
abbrev pub RunComes : Run → Run → Type 0
RunComes r q = Precedes (point_at r r.low) (point_at q q.low)

-- the point is one of a run
pub record LiesAmong (runs : List Run) (point : List ℤ) : Type 0 where
  pub run : Run
  pub there : Has runs run
  pub value : ℤ
  pub from : run.low ≤ℤ value
  pub to : value ≤ℤ run.high
  pub is : point ≡ point_at run value

-- exactly the runs of the points, by their first points; each point lies in one of them
pub record AreRunsOf (list : List (List ℤ)) (runs : List Run) : Type 0 where
  pub ordered : Ordered RunComes runs
  pub has : (r : Run) → Has runs r ↔ IsRunOf list r
  pub covers : (point : List ℤ) → Has list point → LiesAmong runs point

-- a run of one point that comes after all points of the list, which are as long
pub record IsBehind (list : List (List ℤ)) (next : Run) : Type 0 where
  pub one : next.low ≡ next.high
  pub after : (point : List ℤ) → Has list point → Precedes point (point_at next next.low)
  pub long : (point : List ℤ) → Has list point → length point ≡ length next.front.items + 1
