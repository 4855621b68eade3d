-- Whole: an instance is never cut short, and one that deviates has no follow run.
use Rattle.std.proofs.Common.{◌≡◌, refl, sym, ap, ap₂, ◌∙◌, subst, ℕ, ◌<◌, ◌≤◌, ◌+◌, ◌-◌, leb, ℤ, Bool, true, false, List, [], ◌∷◌, length, Option, Some, None, arith}
use Rattle.std.specs.Prelude.{◌≢◌, ◌^◌, ◌&&◌, if◌then◌else◌, nat_le, Result, Ok, Err}
use Rattle.std.proofs.lemmas.Bool.Decides.{nat_tests}
use Rattle.nest_lang.specs.declared.observe.Seen.{Seen}
use Rattle.nest_lang.specs.declared.observe.Seen.TheVariants as see
use Rattle.nest_lang.specs.declared.tree.Head as tree
use Rattle.nest_lang.specs.declared.tree.Loop.{Loop}
use Rattle.nest_lang.specs.declared.tree.Stmt.{Stmt}
use Rattle.nest_lang.specs.Blocks.{block_ref}
use Rattle.nest_lang.specs.Blocks as blocks
use Rattle.nest_lang.specs.Expressions.{Frame}
use Rattle.nest_lang.specs.Heads.{Yield, head_of, head_step}
use Rattle.nest_lang.specs.Places.{block_size}
use Rattle.nest_lang.specs.Statements.{announced}
use Rattle.nest_lang.proofs.SizeLaws.{steps-within}
use Rattle.nest_lang.specs.declared.state.Outer.{Outer}
use Rattle.nest_lang.specs.Lookups.{line_of}
use Rattle.nest_lang.specs.Stores.{Store, effect_on}
use Rattle.nest_lang.specs.Traces.{Occurrence, Halt, Trapped, Stopped, Over, Entry, Trace, Limited, finish_of, traced, Cut, cut, seen_of, seen_in}
use Rattle.orders.specs.Chains.{State}
use Rattle.orders.specs.Runs.{Outcome}
use Rattle.follow.specs.declared.how.How.{How}
use Rattle.follow.specs.declared.how.How.TheVariants as how
use Rattle.follow.specs.Forecasts.{agrees, all_agree, same_all, Forecast}
use Rattle.follow.specs.Reaches.{plus, reach_by, reach, Reached}
use Rattle.domain.specs.declared.chunk.Chunk.{Chunk}
use Rattle.domain.specs.Tables.{Table}
use Rattle.domain.specs.Instances.{Instance, block_of, Predicted}
use Rattle.domain.specs.Steps.{next}
use Rattle.follow.specs.Plans.{item, Item, Work, Runs, Evaluates, work_trace, item_trace}
use Rattle.follow.specs.FollowRuns.{state_of, ended_with, item_step, follow_one}
use Rattle.follow.specs.ChunkRuns.{chunk_run}
use Rattle.follow.specs.Deviations.{Deviation, Differs, Halts, Limit, IsDeviation, FollowsPrediction}
use Rattle.follow.specs.Hows.{how_refused, how_by, how_halted, how_of}
use Rattle.follow.proofs.Undeviated.{is_done}
use Rattle.follow.proofs.BudgetLaws.{enough, went, went-reach}
use Rattle.follow.proofs.DeviatingLaws.{tests-follow, not-both}
use Rattle.follow_chunk.specs.Predicted.{occurrence_of, instance_of, scalars_at, forecast_of}
use Rattle.follow_chunk.specs.Items.{item_at, scalars_after}
use Rattle.follow_chunk.specs.Tasks.{TaskState, IsTask}
use Rattle.follow_chunk.specs.Nests.{IsNest, IsInTurns}
use Rattle.follow_chunk.specs.Followed.{store_at, IsRun, Follows, Deviates}
use Rattle.follow_chunk.proofs.PointLaws.{instance-occurrence}
use Rattle.follow_chunk.proofs.PredictingLaws.{length-scalars}
use Rattle.follow_chunk.proofs.LaunchedInstanceLaws as standing
use Rattle.follow_chunk.proofs.NestInstanceLaws as nests
use Rattle.follow_chunk.proofs.PlacingLaws.{nest-of, in-turns}
use Rattle.follow_chunk.proofs.RunningLaws.{count-here, count-next}

module _ (p : Forecast) where
  some-plus : (o : Option Reached) (q : Reached) → plus 1 o ≡ Some q → (r : Reached) × (o ≡ Some r) × (q.steps ≡ 1 + r.steps)
  some-plus None q e = absurd (cc)
  some-plus (Some r) q e = (r, refl, sym (ap (steps-of q) e))
    where
      steps-of : Reached → Option Reached → ℕ
      steps-of d None = d.steps
      steps-of d (Some z) = z.steps

  steps-are : (es : List Entry) (halt : Option Halt) (s : Store) (q : Reached) → reach_by p es halt s ≡ Some q → q.steps ≡ length es
  steps-are [] None s q e = sym (ap (λ (z : Reached). z.steps) (let f : record { store = s; steps = 0 } ≡ q = cc in f))
  steps-are [] (Some h) s q e = absurd (cc)
  steps-are (x ∷ xs) halt s q e = by (all_agree p x.before && all_agree p x.seen) e (λ r f. steps-are xs halt (effect_on s x.effect) r f)
    where
      by : (b : Bool) → (if b then plus 1 (reach_by p xs halt (effect_on s x.effect)) else None) ≡ Some q → ((r : Reached) → reach_by p xs halt (effect_on s x.effect) ≡ Some r → r.steps ≡ length xs) → q.steps ≡ length (x ∷ xs)
      by true f go = let (r, is, more) = some-plus (reach_by p xs halt (effect_on s x.effect)) q f in let g = go r is in omega arith
      by false f go = absurd (cc)

  went-parts : (b : Bool) (c : Cut) (r : State) → went b c ≡ Some r → (b ≡ true) × (is_done c.ending ≡ true) × (c.store.scalars ≡ r.scalars)
  went-parts b c r e = by b (is_done c.ending) refl e
    where
      scalars-of : Option State → List ℤ
      scalars-of None = []
      scalars-of (Some z) = z.scalars

      by : (a d : Bool) → is_done c.ending ≡ d → (if a && d then Some (record { memory = c.store.memory; scalars = c.store.scalars; steps = c.left }) else None) ≡ Some r → (a ≡ true) × (is_done c.ending ≡ true) × (c.store.scalars ≡ r.scalars)
      by true true is f = (refl, is, ap scalars-of f)
      by true false is f = absurd (cc)
      by false d is f = absurd (cc)

  -- where the steps suffice, an end with the expected scalars is a run that follows
  reaches-follow : (next : Occurrence) (t : Trace) (s : Store) (left : ℕ) (q : Reached) → length (p.scalars next) ≡ length s.scalars → length t.entries ≤ left → reach p t s ≡ Some q → same_all q.store.scalars (p.scalars next) ≡ true
      → FollowsPrediction p (chunk_run next t s left)
  unfolding reach seen_in
  reaches-follow next t s left q sizes few e same =
      let steps = steps-are t.entries t.halt s q e in
      let test : leb q.steps left ≡ true = grind (arith, nat_tests) in
      let there = went-reach p t.entries t.halt s left 0 ∙ ap (enough left) e ∙ ap (λ (b : Bool). if b then Some (record { memory = q.store.memory; scalars = q.store.scalars; steps = left - q.steps }) else None) test in
      let parts = went-parts (all_agree p (seen_of t.entries left)) (cut t s left 0) _ there in
      tests-follow p next t s left sizes (ap₂ (λ (a b : Bool). a && b) parts.0 (ap₂ (λ (a b : Bool). a && b) parts.1 (ap (λ (us : List ℤ). same_all us (p.scalars next)) parts.2 ∙ same)))

  -- an instance that deviates has no follow run
  pub not-one : (next : Occurrence) (t : Trace) (s : Store) (left : ℕ) (d : Deviation) → length (p.scalars next) ≡ length s.scalars → length t.entries ≤ left → IsDeviation p (chunk_run next t s left) d → ended_with (p.scalars next) (state_of (reach p t s)) ≡ None
  not-one next t s left d sizes few deviates = by (reach p t s) refl
    where
      test : (q : Reached) (b : Bool) → reach p t s ≡ Some q → same_all q.store.scalars (p.scalars next) ≡ b → ended_with (p.scalars next) (state_of (Some q)) ≡ None
      test q true e f = absurd (not-both p (chunk_run next t s left) d deviates (reaches-follow next t s left q sizes few e f))
      test q false e f = ap (λ (b : Bool). if b then Some (record { memory = q.store.memory; steps = q.steps }) else None) f

      by : (o : Option Reached) → reach p t s ≡ o → ended_with (p.scalars next) (state_of (reach p t s)) ≡ None
      by None e = ap (λ (z : Option Reached). ended_with (p.scalars next) (state_of z)) e
      by (Some q) e = ap (λ (z : Option Reached). ended_with (p.scalars next) (state_of z)) e ∙ test q (same_all q.store.scalars (p.scalars next)) e refl

  -- and is not cut short
  refused-other : (access : ℕ) (z : ℤ) (line : Option ℤ) → how_refused access z line ≢ how.Limit
  refused-other access z None e = cc
  refused-other access z (Some l) e = cc

  turning-other : (b : Bool) (c d : Bool) → (if b then how.Ended else how.Condition c d) ≢ how.Limit
  turning-other true c d e = cc
  turning-other false c d e = cc

  seen-other : (at : Occurrence) (what : Seen) (v : ℤ) → agrees p (record { at = at; what = what; value = v }) ≡ false → how_by p at what v ≢ how.Limit
  seen-other at see.Start v apart e = cc
  seen-other at (see.Scalar number) v apart e = cc
  seen-other at (see.Address access) v apart e = refused-other access v (line_of (p.interval at access)) e
  seen-other at see.Lower v apart e = cc
  seen-other at see.Trip v apart e = cc
  seen-other at see.Condition v apart e = turning-other _ _ _ e

  halted-other : (h : Halt) → how_halted h ≢ how.Limit
  halted-other (Trapped trap) e = cc
  halted-other (Stopped access z line) e = refused-other access z line e
  halted-other Over e = cc

  done-other : (h : Option Halt) → finish_of h ≡ Limited → ⊥
  done-other None e = cc
  done-other (Some h) e = cc

  pub not-limit : (next : Occurrence) (t : Trace) (s : Store) (left : ℕ) (d : Deviation) → length t.entries ≤ left → IsDeviation p (chunk_run next t s left) d → how_of p d ≢ how.Limit
  unfolding cut
  not-limit next t s left (Differs seen) few is e = seen-other seen.at seen.what seen.value is.differs e
  not-limit next t s left (Halts halt) few is e = halted-other halt e
  not-limit next t s left Limit few is e =
      let test : nat_le (length t.entries) left ≡ true = grind (arith, nat_tests) in
      done-other t.halt (sym (ap (λ (b : Bool). if b then finish_of t.halt else Limited) test) ∙ is.1)

-- ---- instances of a task

-- a head is one step
head-one : (f : Frame) (h : tree.Head) (s : Store) → length (work_trace f (Evaluates h) s).entries ≤ 1
head-one f h s = by (head_of f h s).value
  where
    by : (v : Result Yield Halt) → length (traced (head_step (announced f s) (head_of f h s).seen v (λ y. [])) s).entries ≤ 1
    by (Ok y) = omega arith
    by (Err halt) = omega arith

module _ (D : ℕ) (job : TaskState) (words : ℤ) (task : IsTask D job words) (x : Instance) (p : Predicted job.pred job.chunk x) where
  abbrev nest : IsNest D job.scalars job.loops job.pred
  nest = nest-of D job words task

  abbrev turns : IsInTurns job.pred x
  turns = in-turns D job words task x p

  abbrev q : Forecast
  q = forecast_of job.pred

  -- what it runs, in how many steps at most
  works : (w : Work) × (item_at job.pred job.loops job.outer x ≡ item (block_of job.pred x).part (block_of job.pred x).level (nests.A D job.scalars job.loops job.pred job.outer nest x turns) w) × ((f : Frame) (s : Store) → length (work_trace f w s).entries ≤ 2 ^ 20)
  works = by (blocks.statements_of job.loops (block_ref (block_of job.pred x).part (block_of job.pred x).level)) refl
    where
      by : (ss : Option (List Stmt)) → blocks.statements_of job.loops (block_ref (block_of job.pred x).part (block_of job.pred x).level) ≡ ss
          → (w : Work) × (item_at job.pred job.loops job.outer x ≡ item (block_of job.pred x).part (block_of job.pred x).level (nests.A D job.scalars job.loops job.pred job.outer nest x turns) w) × ((f : Frame) (s : Store) → length (work_trace f w s).entries ≤ 2 ^ 20)
      by None e = (
        Evaluates (nests.loop-here D job.scalars job.loops job.pred job.outer nest x turns).0.head,
        nests.item-head D job.scalars job.loops job.pred job.outer nest x turns (nests.none-head D job.scalars job.loops job.pred job.outer nest x turns e),
        λ f s. let one = head-one f (nests.loop-here D job.scalars job.loops job.pred job.outer nest x turns).0.head s in omega arith,
      )
      by (Some ss) e =
          let (s, rest, are, is) = nests.item-statements D job.scalars job.loops job.pred job.outer nest x turns ss e in (
            Runs s rest,
            is,
            λ f u. let few = steps-within f (s ∷ rest) u in
                let size = subst (λ (us : List Stmt). block_size us < 2 ^ 20) are (nests.size-here D job.scalars job.loops job.pred job.outer nest x turns ss e) in omega arith,
          )

  pub item-at : (item_at job.pred job.loops job.outer x).at ≡ occurrence_of job.pred x
  item-at = ap (λ (i : Item). i.at) works.1 ∙ nests.occurrence-here D job.scalars job.loops job.pred job.outer nest x turns

  pub few-entries : (s : Store) → length (item_trace q (item_at job.pred job.loops job.outer x) s).entries ≤ 2 ^ 20
  few-entries s = subst (λ (i : Item). length (item_trace q i s).entries ≤ 2 ^ 20) (sym works.1) (works.2 _ s)

  pub few-steps : (s : Store) → length (item_trace q (item_at job.pred job.loops job.outer x) s).entries ≤ 2 ^ 32
  few-steps s = let few = few-entries s in omega arith

  -- the follow run of one instance, in the terms of its run
  one-is : (m : List ℤ) → follow_one q (scalars_after job.pred) (item_at job.pred job.loops job.outer x) m
      ≡ ended_with (q.scalars (occurrence_of job.pred (next job.pred x))) (state_of (reach q (item_trace q (item_at job.pred job.loops job.outer x) (store_at job.pred x m)) (store_at job.pred x m)))
  one-is m =
      let io = ap (instance_of job.pred) item-at ∙ instance-occurrence D job.pred task.shape x p.is in
      let after : scalars_after job.pred (item_at job.pred job.loops job.outer x) ≡ q.scalars (occurrence_of job.pred (next job.pred x)) = ap (λ (y : Instance). scalars_at job.pred (next job.pred y)) io ∙ sym (ap (scalars_at job.pred) (instance-occurrence D job.pred task.shape (next job.pred x) (standing.next-instance D job words task x p))) in
      let begins : q.scalars (item_at job.pred job.loops job.outer x).at ≡ scalars_at job.pred x = ap (scalars_at job.pred) io in
      ap₂ (λ (us vs : List ℤ). ended_with us (item_step q (item_at job.pred job.loops job.outer x) vs m)) after begins

  sizes-here : length (q.scalars (occurrence_of job.pred (next job.pred x))) ≡ length (scalars_at job.pred x)
  sizes-here =
      ap (λ (y : Instance). length (scalars_at job.pred y)) (instance-occurrence D job.pred task.shape (next job.pred x) (standing.next-instance D job words task x p))
      ∙ length-scalars job.pred (next job.pred x) ∙ count-next D job words task x p ∙ sym (length-scalars job.pred x ∙ count-here D job words task x p)

  ended-steps : (us : List ℤ) (r : Option Reached) (z : Outcome) → ended_with us (state_of r) ≡ Some z → (w : Reached) × (r ≡ Some w) × (z.steps ≡ w.steps)
  ended-steps us None z e = absurd (cc)
  ended-steps us (Some w) z e = (w, refl, by (same_all w.store.scalars us) e)
    where
      by : (b : Bool) → (if b then Some (record { memory = w.store.memory; steps = w.steps }) else None) ≡ Some z → z.steps ≡ w.steps
      by true f = sym (ap (λ (y : Outcome). y.steps) (let g : record { memory = w.store.memory; steps = w.steps } ≡ z = cc in g))
      by false f = absurd (cc)

  -- and takes few steps
  pub run-few : (m after : List ℤ) (steps : ℕ) → IsRun job x m (Ok steps) after → steps ≤ 2 ^ 20
  unfolding reach
  run-few m after steps run =
      let (w, is, same) = ended-steps (q.scalars (occurrence_of job.pred (next job.pred x))) (reach q (item_trace q (item_at job.pred job.loops job.outer x) (store_at job.pred x m)) (store_at job.pred x m)) (record { memory = after; steps = steps }) run.1 in
      let are = steps-are q (item_trace q (item_at job.pred job.loops job.outer x) (store_at job.pred x m)).entries (item_trace q (item_at job.pred job.loops job.outer x) (store_at job.pred x m)).halt (store_at job.pred x m) w is in
      let few = few-entries (store_at job.pred x m) in
      omega arith

  pub follows-few : (m after : List ℤ) (steps : ℕ) → Follows job x steps m after → steps ≤ 2 ^ 32
  follows-few m after steps f = let few = run-few m after steps f.run in omega arith

  pub follows-by : (m after : List ℤ) (steps : ℕ) → IsRun job x m (Ok steps) after → Follows job x steps m after
  follows-by m after steps run = record { run = run; one = one-is m ∙ run.1 }

  pub deviates-by : (m after : List ℤ) (h : How) → IsRun job x m (Err h) after → Deviates job x h m
  deviates-by m after h run = record {
    run = run;
    whole = λ e. not-limit q (occurrence_of job.pred (next job.pred x)) (item_trace q (item_at job.pred job.loops job.outer x) (store_at job.pred x m)) (store_at job.pred x m) (2 ^ 32) run.0 (few-steps (store_at job.pred x m)) run.1 (sym run.2 ∙ e);
    none = one-is m ∙ not-one q (occurrence_of job.pred (next job.pred x)) (item_trace q (item_at job.pred job.loops job.outer x) (store_at job.pred x m)) (store_at job.pred x m) (2 ^ 32) run.0 sizes-here (few-steps (store_at job.pred x m)) run.1;
  }
