-- A port that verifies the accesses of an instance by the table verifies those of what it runs.
use Rattle.std.proofs.Common.{◌≡◌, refl, sym, ap, ◌∙◌, subst, ℕ, suc, ◌+◌, ℤ, Bool, List, map, Option, Some, None, arith}
use Rattle.std.specs.Prelude.{slice_get, option_map}
use Rattle.nest_lang.specs.declared.tree.Access.{Access as NestAccess}
use Rattle.nest_lang.specs.declared.tree.AccessKind.{AccessKind}
use Rattle.nest_lang.specs.declared.tree.AccessKind.TheVariants as kinds
use Rattle.nest_lang.specs.declared.tree.Head as tree
use Rattle.nest_lang.specs.declared.tree.Loop.{Loop}
use Rattle.nest_lang.specs.declared.tree.Part.TheVariants.{Head}
use Rattle.nest_lang.specs.declared.tree.Stmt.{Stmt}
use Rattle.nest_lang.specs.declared.state.Outer.{Outer}
use Rattle.nest_lang.specs.Accesses.{accesses_of, block_accesses, head_accesses}
use Rattle.nest_lang.specs.Blocks.{block_ref, head_at, statements_of}
use Rattle.nest_lang.specs.Lookups.{Expectation}
use Rattle.domain.specs.declared.chunk.Chunk.{Chunk}
use Rattle.domain.specs.Tables.{Table, Access}
use Rattle.domain.specs.Instances.{Instance, block_of, Predicted}
use Rattle.domain.specs.Shapes.{is_store}
use Rattle.follow.specs.Plans.{item, Item, Evaluates}
use Rattle.follow.specs.Footprints.{work_accesses}
use Rattle.follow.specs.Verifies.{expected_by, VerifiesOwn}
use Rattle.follow_chunk.specs.Predicted.{interval_at}
use Rattle.follow_chunk.specs.Items.{item_at}
use Rattle.follow_chunk.specs.Tasks.{TaskState, IsTask}
use Rattle.follow_chunk.specs.Nests.{IsNest, IsInTurns}
use Rattle.follow_chunk.specs.Verifies.{expected_where, VerifiesInstance}
use Rattle.follow_chunk.proofs.ConflictLaws.{has-place, number-at, stores-at, some-same}
use Rattle.follow_chunk.proofs.NestInstanceLaws as nests
use Rattle.follow_chunk.proofs.PlacingLaws.{nest-of, in-turns}

by-kind : (k : AccessKind) (e : Expectation) (n : ℕ) → expected_by k e n ≡ expected_where (is_store k) e n
by-kind kinds.Load e n = refl
by-kind kinds.Store e n = refl

module _ (D : ℕ) (job : TaskState) (words : ℤ) (x : Instance) (task : IsTask D job words) (p : Predicted job.pred job.chunk x) (e : Expectation) (v : VerifiesInstance e job.pred x) where
  abbrev nest : IsNest D job.scalars job.loops job.pred
  nest = nest-of D job words task

  abbrev turns : IsInTurns job.pred x
  turns = in-turns D job words task x p

  abbrev accesses : List NestAccess
  accesses = accesses_of job.loops (block_ref (block_of job.pred x).part (block_of job.pred x).level)

  own : VerifiesOwn e (interval_at job.pred x) accesses
  own = record {
    verifies = v.verifies;
    each = λ na has. let (k, is) = has-place accesses na has in each na k is (slice_get (block_of job.pred x).accesses k) refl;
  }
    where
      of : map (λ (a : Access). a.stores) (block_of job.pred x).accesses ≡ map (λ (a : NestAccess). is_store a.kind) accesses
      of = (nests.block-is D job.scalars job.loops job.pred job.outer nest x turns).accesses

      each : (na : NestAccess) (k : ℕ) → slice_get accesses k ≡ Some na → (found : Option Access) → slice_get (block_of job.pred x).accesses k ≡ found → expected_by na.kind e na.number ≡ interval_at job.pred x na.number
      each na k is None f = absurd (let g : None ≡ Some (is_store na.kind) = sym (ap (option_map (λ (y : Access). y.stores)) f) ∙ stores-at (block_of job.pred x).accesses accesses k of ∙ ap (option_map (λ (y : NestAccess). is_store y.kind)) is in cc)
      each na k is (Some d) f =
          let kind : d.stores ≡ is_store na.kind = some-same d.stores (is_store na.kind) (sym (ap (option_map (λ (y : Access). y.stores)) f) ∙ stores-at (block_of job.pred x).accesses accesses k of ∙ ap (option_map (λ (y : NestAccess). is_store y.kind)) is) in
          let number : na.number ≡ suc k = number-at accesses 1 k na (nests.numbered-here D job.scalars job.loops job.pred job.outer nest x turns).0 is ∙ (let z : 1 + k ≡ suc k = omega arith in z) in
          by-kind na.kind e na.number
          ∙ ap (λ (b : Bool). expected_where b e na.number) (sym kind)
          ∙ ap (expected_where d.stores e) number
          ∙ v.each (suc k) d f
          ∙ sym (ap (interval_at job.pred x) number)

  work-is : work_accesses (item_at job.pred job.loops job.outer x).work ≡ accesses
  work-is = nests.item-accesses D job.scalars job.loops job.pred job.outer nest x turns

  pub own-block : (ss : List Stmt) → statements_of job.loops (block_ref (block_of job.pred x).part (block_of job.pred x).level) ≡ Some ss → VerifiesOwn e (interval_at job.pred x) (block_accesses ss)
  own-block ss is =
      let (s, rest, are, item-is) = nests.item-statements D job.scalars job.loops job.pred job.outer nest x turns ss is in
      subst (VerifiesOwn e (interval_at job.pred x)) (sym (ap block_accesses are ∙ sym (ap (λ (i : Item). work_accesses i.work) item-is) ∙ work-is)) own

  pub own-head : (h : tree.Head) → head_at job.loops (block_of job.pred x).level ≡ Some h → (block_of job.pred x).part ≡ Head → VerifiesOwn e (interval_at job.pred x) (head_accesses h)
  own-head h is part =
      let item-is : item_at job.pred job.loops job.outer x ≡ item (block_of job.pred x).part (block_of job.pred x).level (nests.A D job.scalars job.loops job.pred job.outer nest x turns) (Evaluates h) =
      nests.item-head D job.scalars job.loops job.pred job.outer nest x turns part
      ∙ ap (λ (z : tree.Head). item (block_of job.pred x).part (block_of job.pred x).level (nests.A D job.scalars job.loops job.pred job.outer nest x turns) (Evaluates z)) (nests.head-same D job.scalars job.loops job.pred job.outer nest x turns h is) in
      subst (VerifiesOwn e (interval_at job.pred x)) (sym work-is ∙ ap (λ (i : Item). work_accesses i.work) item-is) own
