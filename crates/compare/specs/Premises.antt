-- The premises of the laws and of the watch can be met.
use Rattle.std.specs.Prelude.{pos, List, [], ◌∷◌, None, Some}
use Rattle.nest_lang.specs.declared.tree.Expr.TheVariants.{Number}
use Rattle.nest_lang.specs.declared.tree.Head.TheVariants as head
use Rattle.nest_lang.specs.declared.tree.Loop.{Loop}
use Rattle.nest_lang.specs.declared.tree.Part.TheVariants.{Pre}
use Rattle.nest_lang.specs.declared.tree.Stmt.TheVariants.{Set}
use Rattle.domain.specs.declared.table.LoopKind.TheVariants.{For}
use Rattle.domain.specs.Tables.{Table}
use Rattle.compare.specs.Chunks.{IsWatchable}

-- for i = 0 below 36 { s = 1 }
abbrev pub nest : List Loop
nest = record { head = head.For (Number (pos 0)) (Number (pos 36)) (pos 1); pre = Set 0 (Number (pos 1)) ∷ []; post = [] } ∷ []

-- s is expected to be 1
abbrev pub expected : Table
expected = record {
  levels = record { kind = For (pos 1); lower = None; trip = None } ∷ [];
  blocks = record { part = Pre; level = 1; scalars = Some (record { coef = pos 0 ∷ []; cst = pos 1 }) ∷ []; accesses = [] } ∷ [];
}

-- turns 4 to 35 of it are a chunk that can be watched
abbrev pub PremisesCanHold : Type 0
PremisesCanHold =
    IsWatchable 1 (record { scalars = 1; loops = nest; pred = expected; outer = record { lower = pos 0; next = pos 4; left = Some 32 }; chunk = record { first = pos 4; turns = pos 32 } })
