-- Examples, computed: what is planned for small nests, and how what they show differs.
use Rattle.std.specs.Prelude.{◌≡◌, refl, ℤ, pos, true, false, Some, None, List, [], ◌∷◌, map}
use Rattle.affine.specs.Forms.{Affine}
use Rattle.nest_lang.specs.declared.tree.Expr.TheVariants.{Number}
use Rattle.nest_lang.specs.declared.tree.Head.TheVariants as head
use Rattle.nest_lang.specs.declared.tree.Loop.{Loop}
use Rattle.nest_lang.specs.declared.tree.Part.TheVariants.{Head, Pre}
use Rattle.nest_lang.specs.declared.tree.Stmt.TheVariants.{Set}
use Rattle.nest_lang.specs.declared.observe.Seen.TheVariants as see
use Rattle.nest_lang.specs.Blocks.{block_ref}
use Rattle.nest_lang.specs.Traces.{Observation}
use Rattle.domain.specs.declared.table.LoopKind.TheVariants.{For, While}
use Rattle.domain.specs.Tables.{Table, trip}
use Rattle.domain.specs.Expected.{form_of, tube_of, expected_of}
use Rattle.domain.specs.Instances.{instance}
use Rattle.follow.specs.declared.how.How.TheVariants as how
use Rattle.follow.specs.Plans.{planned, Item}
use Rattle.follow_chunk.specs.Predicted.{instance_of, scalars_at, interval_at}
use Rattle.compare.specs.Differences.{difference}
use Rattle.compare.specs.PredictedLaws.{planned_in}

abbrev form : List ℤ → ℤ → Affine
form coef cst = record { coef = coef; cst = cst }

-- for i { s = .. }, where s is expected to be i, and an access is expected at i
abbrev counted : Table
counted = record {
  levels = record { kind = For (pos 1); lower = None; trip = None } ∷ [];
  blocks =
      record {
        part = Pre;
        level = 1;
        scalars = Some (form (pos 1 ∷ []) (pos 0)) ∷ [];
        accesses = record { stores = false; line = Some (form (pos 1 ∷ []) (pos 0)); low = pos 0; high = pos 0 } ∷ record { stores = true; line = None; low = pos 0; high = pos 0 } ∷ [];
      }
      ∷ [];
}

-- for i { while .. { s = .. } }, where the inner loop is expected to have two turns
abbrev repeated : Table
repeated = record {
  levels = record { kind = For (pos 1); lower = None; trip = None } ∷ record { kind = While; lower = None; trip = Some (form (pos 0 ∷ pos 0 ∷ []) (pos 2)) } ∷ [];
  blocks = record { part = Head; level = 2; scalars = []; accesses = [] } ∷ record { part = Pre; level = 2; scalars = []; accesses = [] } ∷ [];
}

abbrev repeated_loops : List Loop
repeated_loops =
    record { head = head.For (Number (pos 0)) (Number (pos 36)) (pos 1); pre = []; post = [] } ∷ record { head = head.While (Number (pos 1)); pre = Set 0 (Number (pos 1)) ∷ []; post = [] } ∷ []

-- turns 4 and 5 of the outer loop: two inner turns in each, with a head before each and one more
planned-turns :
    map (λ (i : Item). instance_of repeated i.at) (planned_in repeated repeated_loops (record { lower = pos 0; next = pos 4; left = Some 32 }) (record { first = pos 4; turns = pos 2 }))
    ≡ instance 0 (pos 4 ∷ pos 0 ∷ [])
    ∷ instance 1 (pos 4 ∷ pos 0 ∷ [])
    ∷ instance 0 (pos 4 ∷ pos 1 ∷ [])
    ∷ instance 1 (pos 4 ∷ pos 1 ∷ [])
    ∷ instance 0 (pos 4 ∷ pos 2 ∷ [])
    ∷ instance 0 (pos 5 ∷ pos 0 ∷ [])
    ∷ instance 1 (pos 5 ∷ pos 0 ∷ [])
    ∷ instance 0 (pos 5 ∷ pos 1 ∷ [])
    ∷ instance 1 (pos 5 ∷ pos 1 ∷ [])
    ∷ instance 0 (pos 5 ∷ pos 2 ∷ [])
    ∷ []
unfolding planned instance_of trip
planned-turns = refl

abbrev shown_at_36 : Observation
shown_at_36 = record { at = record { block = block_ref Pre 1; counters = pos 36 ∷ [] }; what = see.Scalar 0; value = pos 100 }

-- a scalar is expected to be 36 and is 100
scalar-differs : difference counted shown_at_36 ≡ Some (how.Scalar 0 (pos 36) (pos 100))
unfolding instance_of scalars_at
scalar-differs = refl

scalar-agrees : difference counted (record shown_at_36 { value = pos 36 }) ≡ None
unfolding instance_of scalars_at
scalar-agrees = refl

-- an address is expected at 6 and is 99; one for which nothing is expected
address-differs : difference counted (record { at = record { block = block_ref Pre 1; counters = pos 6 ∷ [] }; what = see.Address 1; value = pos 99 }) ≡ Some (how.Address 1 (pos 6) (pos 99))
unfolding instance_of interval_at expected_of form_of tube_of
address-differs = refl

address-unseen : difference counted (record { at = record { block = block_ref Pre 1; counters = pos 6 ∷ [] }; what = see.Address 2; value = pos 6 }) ≡ Some (how.Unseen 2 (pos 6))
unfolding instance_of interval_at expected_of form_of tube_of
address-unseen = refl

-- an inner loop ends a turn early, or has one more
condition-early : difference repeated (record { at = record { block = block_ref Head 2; counters = pos 8 ∷ pos 1 ∷ [] }; what = see.Condition; value = pos 0 }) ≡ Some (how.Condition true false)
unfolding trip
condition-early = refl

condition-late : difference repeated (record { at = record { block = block_ref Head 2; counters = pos 8 ∷ pos 2 ∷ [] }; what = see.Condition; value = pos 1 }) ≡ Some (how.Condition false true)
unfolding trip
condition-late = refl

-- an outermost loop ends
ended : difference counted (record { at = record { block = block_ref Head 1; counters = pos 40 ∷ [] }; what = see.Condition; value = pos 0 }) ≡ Some how.Ended
ended = refl
