-- Keeping: what an instance leaves, whether it deviates or not.
use Rattle.std.proofs.Common.{◌≡◌, refl, sym, ap, ◌∙◌, subst, ℕ, ◌<◌, ◌≤◌, ℤ, pos, FitsSigned, w64, Bool, true, false, List, [], length, get_or, Some, Ok, ⊎_elim, arith}
use Rattle.std.specs.Prelude.{◌^◌}
use Rattle.std.proofs.lemmas.Bool.{cases_lt}
use Rattle.std.proofs.lemmas.Int.{ints}
use Rattle.std.proofs.lemmas.List.{take_all, get_or_past}
use Rattle.nest_lang.specs.declared.tree.Loop.{Loop}
use Rattle.nest_lang.specs.declared.tree.Stmt.{Stmt}
use Rattle.nest_lang.specs.declared.state.Outer.{Outer}
use Rattle.nest_lang.specs.Blocks.{block_ref, statements_of}
use Rattle.nest_lang.specs.Lookups.{Expectation}
use Rattle.nest_lang.specs.Stores.{Store, store_of}
use Rattle.nest_lang.specs.Traces.{Entry, Trace, after_all, cut}
use Rattle.nest_lang.specs.Expressions.{Frame}
use Rattle.nest_lang.specs.Statements.{instance_trace}
use Rattle.nest_lang.specs.Loops.{Around, frame_of}
use Rattle.block_exec.specs.declared.site.Site.{Site}
use Rattle.block_exec.specs.Sites.{frame_at}
use Rattle.domain.specs.declared.chunk.Chunk.{Chunk}
use Rattle.domain.specs.Tables.{Table}
use Rattle.domain.specs.Instances.{Instance, block_of, Predicted}
use Rattle.domain.specs.Steps.{next}
use Rattle.follow.specs.Forecasts.{expectation_at}
use Rattle.follow.specs.Intervals.{Intervals, verified_by}
use Rattle.follow.specs.Plans.{Item, item_trace, frame_with, occurrence}
use Rattle.follow.specs.Footprints.{item_writes}
use Rattle.follow.specs.Followed.{occurrence_at}
use Rattle.follow.proofs.FollowedLaws.{foretold-verified}
use Rattle.follow.proofs.LawfulLaws.{item-long, item-leaves}
use Rattle.follow_chunk.specs.Predicted.{occurrence_of, scalars_at, interval_at, forecast_of}
use Rattle.follow_chunk.specs.Items.{item_at}
use Rattle.follow_chunk.specs.Tasks.{TaskState, IsTask}
use Rattle.follow_chunk.specs.Nests.{IsNest, IsInTurns}
use Rattle.follow_chunk.specs.Followed.{store_at, ChangesWrites, ClosesSmall}
use Rattle.follow_chunk.proofs.ConflictLaws.{writes-to}
use Rattle.follow_chunk.proofs.NestInstanceLaws as nests
use Rattle.follow_chunk.proofs.PlacingLaws.{nest-of, in-turns}
use Rattle.follow_chunk.proofs.RunningLaws as running
use Rattle.follow_chunk.proofs.WholeInstanceLaws as whole
use Rattle.follow_chunk.proofs.PredictingLaws.{length-scalars}

-- the words stay
pub changes-nothing : (t : Table) (x : Instance) (m after : List ℤ) → after ≡ m → ChangesWrites t x m after
changes-nothing t x m after e = record { long = ap length e; others = λ a none. ap (λ (ws : List ℤ). get_or ws a (pos 0)) e }

-- a run that isn't cut short leaves the store after all of it
whole-memory : (t : Trace) (s : Store) (left : ℕ) → length t.entries ≤ left → (cut t s left 0).store.memory ≡ (after_all s t.entries).memory
unfolding cut
whole-memory t s left few = ap (λ (es : List Entry). (after_all s es).memory) (take_all left t.entries few)

not-true : (b : Bool) → (b ≡ true → ⊥) → b ≡ false
not-true true h = absurd (h refl)
not-true false h = refl

module _ (D : ℕ) (job : TaskState) (words : ℤ) (task : IsTask D job words) (x : Instance) (p : Predicted job.pred job.chunk x) where
  abbrev nest : IsNest D job.scalars job.loops job.pred
  nest = nest-of D job words task

  abbrev turns : IsInTurns job.pred x
  turns = in-turns D job words task x p

  abbrev around : Around
  around = nests.A D job.scalars job.loops job.pred job.outer nest x turns

  abbrev frame : Frame
  frame = frame_with (occurrence (block_of job.pred x).part (block_of job.pred x).level around) around.values (expectation_at (forecast_of job.pred) (occurrence (block_of job.pred x).part (block_of job.pred x).level around))

  changes-by : (m : List ℤ) → ChangesWrites job.pred x m (after_all (store_at job.pred x m) (item_trace (forecast_of job.pred) (item_at job.pred job.loops job.outer x) (store_at job.pred x m)).entries).memory
  changes-by m = record {
    long = item-long (forecast_of job.pred) (item_at job.pred job.loops job.outer x) (store_at job.pred x m);
    others = λ a none. item-leaves (forecast_of job.pred) (item_at job.pred job.loops job.outer x) (store_at job.pred x m) a (not-true (item_writes (forecast_of job.pred) (item_at job.pred job.loops job.outer x) a) (λ e. none (writes-to D job words x task p a e)));
  }

  -- a block that was run with its addresses verified
  pub changes-block : (site : Site) → ((e : Expectation) → frame_at site e ≡ frame_of e (block_of job.pred x).part (block_of job.pred x).level (nests.A D job.scalars job.loops job.pred job.outer nest x turns))
      → (intervals : Intervals) → ((access : ℕ) → interval_at job.pred x access ≡ intervals access)
      → (m after sc : List ℤ) (ss : List Stmt) → sc ≡ scalars_at job.pred x → statements_of job.loops (block_ref (block_of job.pred x).part (block_of job.pred x).level) ≡ Some ss
      → after ≡ (cut (instance_trace (frame_at site (verified_by intervals)) ss (store_of m sc [])) (store_of m sc []) (2 ^ 32) 0).store.memory
      → ChangesWrites job.pred x m after
  changes-block site frames intervals each m after sc ss sc_is ss_is is = subst (ChangesWrites job.pred x m) (sym (is ∙ here ∙ whole-memory (item_trace (forecast_of job.pred) (item_at job.pred job.loops job.outer x) (store_at job.pred x m)) (store_at job.pred x m) (2 ^ 32) (whole.few-steps D job words task x p (store_at job.pred x m)))) (changes-by m)
    where
      verified : frame_at site (verified_by intervals) ≡ frame_at site (expectation_at (forecast_of job.pred) (occurrence_at site))
      verified = ap (frame_at site) (foretold-verified (forecast_of job.pred) (occurrence_at site) (occurrence_of job.pred (next job.pred x)) (scalars_at job.pred x) intervals (scalars_at job.pred (next job.pred x)) (running.told D job words task x p site frames intervals each m after (Ok 0)))

      trace-is : (s : Store) → instance_trace (frame_at site (verified_by intervals)) ss s ≡ item_trace (forecast_of job.pred) (item_at job.pred job.loops job.outer x) s
      trace-is s =
          let (first, rest, are, item-is) = nests.item-statements D job.scalars job.loops job.pred job.outer nest x turns ss ss_is in
          ap (λ (f : Frame). instance_trace f ss s) (verified ∙ running.frame-is D job words task x p site frames intervals each m after (Ok 0))
          ∙ ap (λ (us : List Stmt). instance_trace frame us s) are
          ∙ sym (ap (λ (i : Item). item_trace (forecast_of job.pred) i s) item-is)

      here : (cut (instance_trace (frame_at site (verified_by intervals)) ss (store_of m sc [])) (store_of m sc []) (2 ^ 32) 0).store.memory
          ≡ (cut (item_trace (forecast_of job.pred) (item_at job.pred job.loops job.outer x) (store_at job.pred x m)) (store_at job.pred x m) (2 ^ 32) 0).store.memory
      here =
          ap (λ (us : List ℤ). (cut (instance_trace (frame_at site (verified_by intervals)) ss (store_of m us [])) (store_of m us []) (2 ^ 32) 0).store.memory) sc_is
          ∙ ap (λ (tr : Trace). (cut tr (store_at job.pred x m) (2 ^ 32) 0).store.memory) (trace-is (store_at job.pred x m))

  -- numbers that fit as far as there are scalars
  pub closes-small : (sc aft : List ℤ) → sc ≡ scalars_at job.pred x → aft ≡ scalars_at job.pred (next job.pred x) → ((k : ℕ) → k < length sc → FitsSigned w64 (get_or aft k (pos 0))) → ClosesSmall job.pred x
  closes-small sc aft sc_is aft_is fits k =
      subst (λ (us : List ℤ). FitsSigned w64 (get_or us k (pos 0))) aft_is
      (⊎_elim (fits k) (λ past. subst (λ (z : ℤ). FitsSigned w64 z) (sym (get_or_past aft k (pos 0) (let s = sizes in omega arith))) zero-fits) (cases_lt k (length sc)))
    where
      sizes : length aft ≡ length sc
      sizes =
          ap length aft_is ∙ length-scalars job.pred (next job.pred x) ∙ running.count-next D job words task x p
          ∙ sym (ap length sc_is ∙ length-scalars job.pred x ∙ running.count-here D job words task x p)

      zero-fits : FitsSigned w64 (pos 0)
      zero-fits = omega (arith, ints)
