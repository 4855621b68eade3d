-- What holds of the instances of a task.
use Rattle.std.specs.Prelude.{◌≡◌, ◌↔◌, ℕ, pos, List, [], ◌∷◌, Some}
use Rattle.nest_lang.specs.declared.tree.Expr.TheVariants.{Number, Var}
use Rattle.nest_lang.specs.declared.tree.Head.TheVariants.{For}
use Rattle.nest_lang.specs.declared.tree.Place.TheVariants.{Counter}
use Rattle.nest_lang.specs.declared.tree.Stmt.TheVariants.{Store}
use Rattle.nest_lang.specs.declared.tree.Loop.{Loop}
use Rattle.nest_lang.specs.declared.state.Outer.{Outer}
use Rattle.domain.specs.declared.chunk.Chunk.{Chunk}
use Rattle.domain.specs.Tables.{Table, IsTable}
use Rattle.domain.specs.Instances.{Instance, IsInstance, Predicted, IsSuccessor}
use Rattle.domain.specs.Steps.{next}
use Rattle.domain.specs.Examples.{row}
use Rattle.domain.specs.Footprints as table
use Rattle.follow.specs.Instances.{item_of}
use Rattle.follow.specs.ReorderLaws as list
use Rattle.follow_chunk.specs.Predicted.{occurrence_of, instance_of, forecast_of}
use Rattle.follow_chunk.specs.Items.{item_at}
use Rattle.follow_chunk.specs.Tasks.{TaskState, IsTask}

-- an instance is that of its occurrence
abbrev pub InstancesReturn : Type 0
InstancesReturn = (D : ℕ) (t : Table) (x : Instance) → IsTable D t → IsInstance t x → instance_of t (occurrence_of t x) ≡ x

-- a predicted instance of a task is one of its nest: its block and its turn numbers say what it runs
abbrev pub InstancesHaveItems : Type 0
InstancesHaveItems =
    (D : ℕ) (k : TaskState) (words : ℕ) (x : Instance) → IsTask D k (pos words) → Predicted k.pred k.chunk x
    → (item_of (forecast_of k.pred) k.outer k.loops (occurrence_of k.pred x) ≡ Some (item_at k.pred k.loops k.outer x)) × ((item_at k.pred k.loops k.outer x).at ≡ occurrence_of k.pred x)

-- the instance after a predicted one is its successor, and no other is
abbrev pub NextIsSuccessor : Type 0
NextIsSuccessor = (D : ℕ) (t : Table) (chunk : Chunk) (x y : Instance) → IsTable D t → Predicted t chunk x → IsSuccessor t chunk x y ↔ (y ≡ next t x)

-- two predicted instances conflict as what they run does
abbrev pub ConflictsAgree : Type 0
ConflictsAgree =
    (D : ℕ) (k : TaskState) (words : ℕ) (x y : Instance) → IsTask D k (pos words) → Predicted k.pred k.chunk x → Predicted k.pred k.chunk y
    → list.Conflict (forecast_of k.pred) words (item_at k.pred k.loops k.outer x) (item_at k.pred k.loops k.outer y) ↔ table.Conflict k.pred (pos words) x y

-- for i = 0 below 40 { [i] = 1 }
abbrev pub one_row : List Loop
one_row = record { head = For (Number (pos 0)) (Number (pos 40)) (pos 1); pre = Store 1 (Var (Counter 0)) (Number (pos 1)) ∷ []; post = [] } ∷ []

abbrev pub one_turn : Chunk
one_turn = record { first = pos 0; turns = pos 1 }

-- its first turn
abbrev pub first_turn : TaskState
first_turn = record { scalars = 0; loops = one_row; pred = row; outer = record { lower = pos 0; next = pos 0; left = Some 40 }; chunk = one_turn }

-- the premises of the contracts can be met: by the first turn of that nest, over 40 words
abbrev pub PremisesCanHold : Type 0
PremisesCanHold = IsTask 1 first_turn (pos 40)
