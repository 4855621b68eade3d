-- Committing: a chunk that was followed in the order of a schedule, against the plain run of its turns.
use Rattle.std.proofs.Common.{◌≡◌, refl, sym, ap, ap₂, ◌∙◌, subst, ℕ, ◌<◌, ◌≤◌, ◌+◌, ◌-◌, min, ⊎_elim, ℤ, pos, Bool, true, false, List, [], ◌∷◌, length, take, set, Option, Some, None, arith}
use Rattle.std.specs.Prelude.{nat_le, ◌↔◌, if◌then◌else◌}
use Rattle.std.proofs.lemmas.Bool.Decides.{nat_tests}
use Rattle.nest_lang.specs.declared.tree.Loop.{Loop}
use Rattle.nest_lang.specs.declared.state.Outer.{Outer}
use Rattle.nest_lang.specs.Stores.{Store, store_of, Effect, Nothing, Local, Scalar, Word, effect_on}
use Rattle.nest_lang.specs.Traces.{Trace, Entry, Cut, Finish, Done, Limited, finish_of, after_all, cut, cut_of}
use Rattle.plain_lemmas.specs.Lists.{Has}
use Rattle.orders.specs.Runs.{Outcome}
use Rattle.orders.specs.Tiles.{flat}
use Rattle.domain.specs.declared.chunk.Chunk.{Chunk}
use Rattle.domain.specs.Tables.{Table}
use Rattle.domain.specs.Instances.{Instance, IsOriginal, opening_at}
use Rattle.transform.specs.Schedules.{IsSchedule}
use Rattle.skeletons.specs.Cells.{Cell, Extent, AreCellsOf}
use Rattle.follow.specs.Deviations.{FollowsPrediction}
use Rattle.follow.specs.ChainLaw.{Ends}
use Rattle.follow.proofs.DeviatingLaws.{deviates-or-follows}
use Rattle.follow_chunk.specs.Predicted.{scalars_at, forecast_of}
use Rattle.follow_chunk.specs.Tasks.{TaskState, IsTask}
use Rattle.compare.specs.ChainLaw.{behind, Chained}
use Rattle.compare.proofs.PredictedChainLaws.{tasks-are-chunks, chain-at-predictions}
use Rattle.chunk_run.specs.ScheduleLaw.{followed}
use Rattle.chunk_run.specs.Parts.{IsPart, IsPartOf, Succeeds, Fails, IsAttempt}
use Rattle.chunk_run.specs.ChunkEnds.{IsLegalFor, Between, between, store_in, turns_from, run_from, LeadsTo, Follows, Deviates}
use Rattle.chunk_run.proofs.ScheduleLaws.{scheduled-keeps}
use Rattle.chunk_run.proofs.CellListLaws.{lists-exist}
use Rattle.chunk_run.proofs.SchedulingLaws.{lists-scheduled}
use Rattle.chunk_run.proofs.ClosingLaws.{closing-fits}

-- ---- a chunk that was followed phase by phase and tile by tile

module _ (D : ℕ) (job : TaskState) (words : ℕ) (task : IsTask D job (pos words)) where
  module _ (e : Extent) (table : e.table ≡ job.pred) (same : e.chunk ≡ job.chunk) (sched : IsSchedule D e.schedule) (legal : IsLegalFor job.pred e.schedule job.chunk) (cells : List Cell) (are : AreCellsOf e cells)
      (m : List ℤ) (long : length m ≡ words) (left : ℕ) (result : Option ℕ) (after : List ℤ) (part : IsPartOf e job.loops job.outer cells m left result after) where
    abbrev f : Extent
    f = record { table = job.pred; schedule = e.schedule; chunk = job.chunk }

    e-is : e ≡ f
    e-is = ap₂ (λ (u : Table) (c : Chunk). record { table = u; schedule = e.schedule; chunk = c }) table same

    f-are : AreCellsOf f cells
    f-are = subst (λ (x : Extent). AreCellsOf x cells) e-is are

    f-part : IsPartOf f job.loops job.outer cells m left result after
    f-part = subst (λ (x : Extent). IsPartOf x job.loops job.outer cells m left result after) e-is part

    -- the scheduled list of the chunk has the follow run of the original one
    record Scheduled (xs : List Instance) : Type 0 where
      ys : List Instance
      part-of : (r : Option ℕ) → result ≡ r → IsPart job.pred job.loops job.outer ys m left r after
      keeps : followed job.pred job.loops job.outer ys m ≡ followed job.pred job.loops job.outer xs m
      all : (x : Instance) → Has xs x → Has ys x

    scheduled : (xs : List Instance) → IsOriginal job.pred job.chunk xs → Scheduled xs
    scheduled xs original =
        let (lists, are_lists) = lists-exist D f task.shape sched xs original cells in
        let is = lists-scheduled f xs cells lists original f-are are_lists in
        record {
          ys = flat lists;
          part-of = λ r e. subst (λ (q : Option ℕ). IsPart job.pred job.loops job.outer (flat lists) m left q after) e (f-part lists are_lists);
          keeps = scheduled-keeps D job legal.length e.schedule xs (flat lists) m (subst (λ (n : ℕ). IsTask D job (pos n)) (sym long) task) sched legal.legal legal.turns original is;
          all = is.same.there;
        }

    succeeds : (begins : List ℤ) (rest : ℕ) → begins ≡ scalars_at job.pred (opening_at job.pred job.chunk.first) → result ≡ Some rest → Succeeds job.pred job.loops job.outer job.chunk m begins left after rest
    succeeds begins rest first e =
        let launched = (task.launched).1 in
        let here = scheduled launched.list launched.original in
        let g = here.part-of (Some rest) e in
        record {
          steps = g.steps;
          suffice = g.suffice;
          chained = λ xs original.
              let there = scheduled xs original in
              let h = there.part-of (Some rest) e in
              let few = h.suffice in
              record {
                begins = first;
                follows = sym there.keeps ∙ h.run ∙ (let q = h.suffice in let r = g.suffice in let n : h.steps ≡ g.steps = omega (arith, q, r) in ap (λ (k : ℕ). Some (record { memory = after; steps = k })) n);
                suffice = let r = g.suffice in omega (arith, r);
              };
          closes = closing-fits D job words task launched.list launched.original (λ x h. g.closes x (here.all x h));
        }

    pub fails : (begins : List ℤ) → result ≡ None → Fails job.pred job.loops job.outer job.chunk m begins left
    fails begins e xs r original chained =
        let here = scheduled xs original in
        let l = here.part-of None e r (here.keeps ∙ chained.follows) in
        let few = chained.suffice in
        omega (arith, l, few)

    pub attempted : (begins : List ℤ) → begins ≡ scalars_at job.pred (opening_at job.pred job.chunk.first) → IsAttempt job.pred job.loops job.outer job.chunk m begins left result after
    attempted begins first = by result refl
      where
        by : (r : Option ℕ) → result ≡ r → IsAttempt job.pred job.loops job.outer job.chunk m begins left r after
        by None e = fails begins e
        by (Some rest) e = succeeds begins rest first e

  -- a chunk that begins with other scalars
  pub fails-at-once : (m begins : List ℤ) (left : ℕ) → (begins ≡ scalars_at job.pred (opening_at job.pred job.chunk.first) → ⊥) → Fails job.pred job.loops job.outer job.chunk m begins left
  fails-at-once m begins left apart xs r original chained = apart chained.begins

-- ---- where the plain run of a chunk ends, with the steps that were used before

bare-set : (xs : List ℤ) (n : ℕ) (v : ℤ) → xs ≡ [] → set xs n v ≡ []
bare-set xs n v e = rw e refl

after-bare : (es : List Entry) (s : Store) → s.locals ≡ [] → (after_all s es).locals ≡ []
after-bare [] s h = h
after-bare (e ∷ es) s h = after-bare es (effect_on s e.effect) (one e.effect)
  where
    one : (d : Effect) → (effect_on s d).locals ≡ []
    one Nothing = h
    one (Local number value) = bare-set s.locals number value h
    one (Scalar number value) = h
    one (Word address value) = h

same-store : (s : Store) (memory scalars : List ℤ) → s.memory ≡ memory → s.scalars ≡ scalars → s.locals ≡ [] → s ≡ store_of memory scalars []
same-store s memory scalars e f g =
    ap (λ (ms : List ℤ). store_of ms s.scalars s.locals) e ∙ ap (λ (xs : List ℤ). store_of memory xs s.locals) f ∙ ap (λ (ls : List ℤ). store_of memory scalars ls) g

same-cut : (c : Cut) (s : Store) (left used : ℕ) (finish : Finish) → c.store ≡ s → c.left ≡ left → c.used ≡ used → c.ending ≡ finish → c ≡ cut_of s left used finish
same-cut c s left used finish e f g h =
    ap (λ (x : Store). cut_of x c.left c.used c.ending) e ∙ ap (λ (x : ℕ). cut_of s x c.used c.ending) f ∙ ap (λ (x : ℕ). cut_of s left x c.ending) g ∙ ap (λ (x : Finish). cut_of s left used x) h

ends-cut : (t : Trace) (s : Store) (left used : ℕ) (closing : List ℤ) (r : Outcome) → s.locals ≡ [] → r.steps ≤ left → Ends t s left closing r → cut t s left used ≡ cut_of (store_of r.memory closing []) (left - r.steps) (used + r.steps) Done
unfolding cut
ends-cut t s left used closing r bare few ends = by (nat_le (length t.entries) left) refl ends.finish
  where
    limited : (b : Bool) → b ≡ false → (if b then finish_of t.halt else Limited) ≡ Done → ⊥
    limited b e f = cc

    by : (b : Bool) → nat_le (length t.entries) left ≡ b → (if nat_le (length t.entries) left then finish_of t.halt else Limited) ≡ Done
        → cut t s left used ≡ cut_of (store_of r.memory closing []) (left - r.steps) (used + r.steps) Done
    by true e done =
        let l : length t.entries ≤ left = grind (arith, nat_tests) in
        let same : left - length t.entries ≡ left - r.steps = ends.steps in
        same-cut (cut t s left used) (store_of r.memory closing []) (left - r.steps) (used + r.steps) Done
        (same-store (after_all s (take left t.entries)) r.memory closing ends.memory ends.scalars (after-bare (take left t.entries) s bare))
        same
        (let n : min left (length t.entries) ≡ r.steps = omega (arith, l, same, few) in ap (λ (k : ℕ). used + k) n)
        done
    by false e done = absurd (limited (nat_le (length t.entries) left) e done)

-- ---- the plain run of a chunk

module _ (D : ℕ) (job : TaskState) (words : ℕ) (task : IsTask D job (pos words)) (a : Between) (size : length a.scalars ≡ job.scalars) where
  law : (xs : List Instance) → IsOriginal job.pred job.chunk xs → (k : ℕ) → a.steps.left < k
      → (FollowsPrediction (forecast_of job.pred) (run_from job.pred job.loops job.outer job.chunk a k) ↔ ((r : Outcome) × Chained job.pred job.loops job.outer job.chunk xs (store_in a) a.steps.left r))
      × ((r : Outcome) → Chained job.pred job.loops job.outer job.chunk xs (store_in a) a.steps.left r → Ends (turns_from job.loops job.outer job.chunk a k) (store_in a) a.steps.left (scalars_at job.pred (behind job.pred job.chunk)) r)
  law xs original k less =
      chain-at-predictions D job.scalars job.loops job.pred job.outer job.chunk xs k (store_in a) a.steps.left task.shape (tasks-are-chunks D job (pos words) task) original size refl less

  pub deviates : Fails job.pred job.loops job.outer job.chunk a.words a.scalars a.steps.left → Deviates job.pred job.loops job.outer job.chunk a
  deviates fails k less =
      let launched = (task.launched).1 in
      ⊎_elim (λ d. d) (λ f. let r = (law launched.list launched.original k less).0.0 f in absurd (fails launched.list r.0 launched.original r.1)) (deviates-or-follows (forecast_of job.pred) (run_from job.pred job.loops job.outer job.chunk a k))

  module _ (after : List ℤ) (rest : ℕ) (s : Succeeds job.pred job.loops job.outer job.chunk a.words a.scalars a.steps.left after rest) where
    abbrev outcome : Outcome
    outcome = record { memory = after; steps = s.steps }

    pub follows : Follows job.pred job.loops job.outer job.chunk a
    follows k less = let launched = (task.launched).1 in (law launched.list launched.original k less).0.1 (outcome, s.chained launched.list launched.original)

    pub leads-to : (used : ℕ) → used ≡ a.steps.used + s.steps → LeadsTo job.loops job.outer job.chunk a (between after (scalars_at job.pred (behind job.pred job.chunk)) (record { left = rest; used = used }))
    leads-to used is k less =
        let launched = (task.launched).1 in
        let chained = s.chained launched.list launched.original in
        let few = s.suffice in
        ends-cut (turns_from job.loops job.outer job.chunk a k) (store_in a) a.steps.left a.steps.used (scalars_at job.pred (behind job.pred job.chunk)) outcome refl chained.suffice ((law launched.list launched.original k less).1 outcome chained)
        ∙ ap₂ (λ (l u : ℕ). cut_of (store_of after (scalars_at job.pred (behind job.pred job.chunk)) []) l u Done) (let e : a.steps.left - s.steps ≡ rest = omega (arith, few) in e) (sym is)
