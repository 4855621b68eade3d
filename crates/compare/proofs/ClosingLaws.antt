-- What a comparison answers, from what it keeps.
use Rattle.std.proofs.Common.{◌≡◌, refl, sym, ap, ap₂, subst, ◌∙◌, ℕ, ℤ, true, false, is_some, List, Option, Some, None}
use Rattle.std.specs.Prelude.{option_map}
use Rattle.nest_lang.specs.declared.tree.Loop.{Loop}
use Rattle.nest_lang.specs.declared.tree.Trap.{Trap}
use Rattle.nest_lang.specs.declared.state.Outer.{Outer}
use Rattle.nest_lang.specs.Traces.{Occurrence, Observation, Halt, Trapped, Over, Finish, Done, Halted, Limited}
use Rattle.domain.specs.declared.chunk.Chunk.{Chunk}
use Rattle.domain.specs.Tables.{Table}
use Rattle.domain.specs.Instances.{Instance}
use Rattle.follow.specs.declared.how.How.{How}
use Rattle.follow.specs.declared.how.How.TheVariants as how
use Rattle.follow.specs.Hows.{how_halted}
use Rattle.follow_chunk.specs.declared.task.Deviation as code
use Rattle.follow_chunk.specs.Predicted.{occurrence_of, instance_of}
use Rattle.follow_chunk.specs.Tasks.{TaskState}
use Rattle.compare.specs.ChainLaw.{behind}
use Rattle.compare.specs.Chunks.{IsWatchable}
use Rattle.compare.specs.Differences.{difference, scalars_difference}
use Rattle.compare.specs.Comparisons.{Found, found_at, found_of, Comparison, looked}
use Rattle.compare.specs.Compared.{IsFirstKept}
use Rattle.compare.proofs.PredictingLaws.{behind-occurs}
use Rattle.compare.proofs.WatchLaws.{watched, found-deviates, halt-deviates, limit-deviates, closes-differ, closes-agree}

module _ (D : ℕ) (job : TaskState) (w : IsWatchable D job) (at : Instance) (first : Option (code.Deviation D)) where
  abbrev self : Comparison
  self = record { table = job.pred; chunk = job.chunk; at = at; first = option_map found_of first }

  abbrev next : Occurrence
  next = occurrence_of job.pred (behind job.pred job.chunk)

  next-is : instance_of job.pred (occurrence_of job.pred (behind job.pred job.chunk)) ≡ behind job.pred job.chunk
  next-is = behind-occurs D job.scalars job.pred job.loops w.shape w.next.table job.outer job.chunk w.next

  no-first : is_some first ≡ false → option_map found_of first ≡ None
  no-first e = by first e
    where
      by : (f : Option (code.Deviation D)) → is_some f ≡ false → option_map found_of f ≡ None
      by None e = refl
      by (Some d) e = absurd (cc)

  abbrev Right : Finish → List ℤ → Option (code.Deviation D) → Type 0
  Right finish scalars result = IsFirstKept {D = D} self finish scalars result

  pub first-closes : (finish : Finish) (scalars : List ℤ) → is_some first ≡ true → Right finish scalars first
  first-closes finish scalars e = by first refl e
    where
      by : (f : Option (code.Deviation D)) → first ≡ f → is_some f ≡ true → Right finish scalars f
      by None is e = absurd (cc)
      by (Some d) is e = watched D self finish scalars (Some d) (λ os shown. found-deviates job.pred job.chunk next next-is D os scalars self shown finish d (ap (option_map found_of) is))

  halt-closes : (halt : Halt) (scalars : List ℤ) (d : code.Deviation D) → is_some first ≡ false → d.at ≡ at → d.how ≡ how_halted halt → Right (Halted halt) scalars (Some d)
  halt-closes halt scalars d e here how = watched D self (Halted halt) scalars (Some d) (λ os shown. halt-deviates job.pred job.chunk next next-is D os scalars self shown halt d (no-first e) here how)

  pub ended-closes : (finish : Finish) (scalars : List ℤ) → is_some first ≡ false → finish ≡ Halted Over → Right finish scalars (Some (record { at = at; how = how.Ended }))
  ended-closes finish scalars e is = subst (λ (f : Finish). Right f scalars (Some (record { at = at; how = how.Ended }))) (sym is) (halt-closes Over scalars (record { at = at; how = how.Ended }) e refl refl)

  pub trapped-closes : (finish : Finish) (scalars : List ℤ) (trap : Trap) → is_some first ≡ false → finish ≡ Halted (Trapped trap) → Right finish scalars (Some (record { at = at; how = how.Trap trap }))
  trapped-closes finish scalars trap e is =
      subst (λ (f : Finish). Right f scalars (Some (record { at = at; how = how.Trap trap }))) (sym is) (halt-closes (Trapped trap) scalars (record { at = at; how = how.Trap trap }) e refl refl)

  pub limited-closes : (finish : Finish) (scalars : List ℤ) → is_some first ≡ false → finish ≡ Limited → Right finish scalars (Some (record { at = at; how = how.Limit }))
  limited-closes finish scalars e is =
      let d : code.Deviation D = record { at = at; how = how.Limit } in
      subst (λ (f : Finish). Right f scalars (Some d)) (sym is) (watched D self Limited scalars (Some d) (λ os shown. limit-deviates job.pred job.chunk next next-is D os scalars self shown d (no-first e) refl refl))

  pub went-closes : (finish : Finish) (scalars : List ℤ) (result : Option (code.Deviation D)) → is_some first ≡ false → finish ≡ Done
      → option_map found_of result ≡ option_map (found_at (behind job.pred job.chunk)) (scalars_difference job.pred (behind job.pred job.chunk) 0 scalars) → Right finish scalars result
  went-closes finish scalars result e is same = subst (λ (f : Finish). Right f scalars result) (sym is) (by result (scalars_difference job.pred (behind job.pred job.chunk) 0 scalars) refl same)
    where
      by : (r : Option (code.Deviation D)) (h : Option How) → scalars_difference job.pred (behind job.pred job.chunk) 0 scalars ≡ h → option_map found_of r ≡ option_map (found_at (behind job.pred job.chunk)) h → Right Done scalars r
      by None None f g = watched D self Done scalars None (λ os shown. closes-agree job.pred job.chunk next next-is D os scalars self shown (no-first e) f)
      by None (Some h) f g = absurd (cc)
      by (Some d) None f g = absurd (cc)
      by (Some d) (Some h) f g =
          let k : ◌≡◌ {A = Found} (found_of d) (found_at (behind job.pred job.chunk) h) = cc in
          watched D self Done scalars (Some d) (λ os shown. closes-differ job.pred job.chunk next next-is D os scalars self shown h d (no-first e) f (ap (λ (z : Found). z.at) k) (ap (λ (z : Found). z.how) k))

  -- what it keeps once it was shown one more thing
  pub now-looked : (shown : Observation) (x : Instance) (h : Option How) (f : Option (code.Deviation D)) → is_some first ≡ false → x ≡ instance_of job.pred shown.at → h ≡ difference job.pred shown → option_map found_of f ≡ option_map (found_at x) h
      → ◌≡◌ {A = Comparison} (record { table = job.pred; chunk = job.chunk; at = x; first = option_map found_of f }) (looked self shown)
  now-looked shown x h f e here how is = by first e
    where
      by : (g : Option (code.Deviation D)) → is_some g ≡ false → ◌≡◌ {A = Comparison} (record { table = job.pred; chunk = job.chunk; at = x; first = option_map found_of f }) (looked (record { table = job.pred; chunk = job.chunk; at = at; first = option_map found_of g }) shown)
      by None e =
          ap₂ (λ (y : Instance) (q : Option Found). let c : Comparison = record { table = job.pred; chunk = job.chunk; at = y; first = q } in c) here
          (is ∙ ap₂ (λ (y : Instance) (q : Option How). option_map (found_at y) q) here how)
      by (Some d) e = absurd (cc)
