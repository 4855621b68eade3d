-- Running: an instance that was followed at its site is a run of it.
use Rattle.std.proofs.Common.{◌≡◌, refl, sym, ap, ap₂, ◌∙◌, subst, ℕ, zero, suc, ◌<◌, ◌≤◌, ◌-◌, ℤ, pos, FitsSigned, w64, Bool, List, [], ◌∷◌, Option, Some, None, length, take, get_or, nat_le, length-take-le, arith}
use Rattle.std.specs.Prelude.{◌^◌, ◌||◌, Result, slice_get, slice_index_or, option_map, unwrap_or, int_lt}
use Rattle.std.specs.Option.{option_and_then}
use Rattle.affine.specs.Forms.{Affine, value_at}
use Rattle.nest_lang.specs.declared.tree.Expr.{Expr}
use Rattle.nest_lang.specs.declared.tree.Head as tree
use Rattle.nest_lang.specs.declared.tree.Head.TheVariants as head
use Rattle.nest_lang.specs.declared.tree.Loop.{Loop}
use Rattle.nest_lang.specs.declared.tree.Stmt.{Stmt}
use Rattle.nest_lang.specs.declared.tree.Part.{Part}
use Rattle.nest_lang.specs.declared.tree.Part.TheVariants.{Head}
use Rattle.nest_lang.specs.declared.state.Outer.{Outer}
use Rattle.nest_lang.specs.Accesses.{accesses_of}
use Rattle.nest_lang.specs.Blocks.{block_ref}
use Rattle.nest_lang.specs.Blocks as blocks
use Rattle.nest_lang.specs.Lookups.{Expectation, plain}
use Rattle.nest_lang.specs.Stores.{store_of}
use Rattle.nest_lang.specs.Traces.{Occurrence, Trace}
use Rattle.nest_lang.specs.Expressions.{Frame}
use Rattle.nest_lang.specs.Statements.{instance_trace}
use Rattle.nest_lang.specs.Loops.{frame_of}
use Rattle.block_exec.specs.declared.site.Site.{Site}
use Rattle.block_exec.specs.Sites.{frame_at}
use Rattle.domain.specs.declared.chunk.Chunk.{Chunk}
use Rattle.domain.specs.declared.prediction.What.TheVariants.{Lower, Trip}
use Rattle.domain.specs.Tables.{Table, Level, no_level, depth, level_at, counters, cut, trip, head_level_by, loop_of}
use Rattle.domain.specs.Instances.{Instance, instance, block_of, counter, Predicted, IsSuccessor}
use Rattle.domain.specs.Expected.{form_of, expected_of}
use Rattle.domain.specs.Steps.{next}
use Rattle.domain.proofs.PointLaws.{trip-some, trip-none, trip-cut}
use Rattle.domain.proofs.RankLaws.{Stands}
use Rattle.follow.specs.declared.how.How.{How}
use Rattle.follow.specs.declared.how.Turning.{Turning}
use Rattle.follow.specs.declared.how.Turning.TheVariants.{Bounds, Holds}
use Rattle.follow.specs.Forecasts.{Forecast, expectation_at, last_of, around_last}
use Rattle.follow.specs.Intervals.{Intervals}
use Rattle.follow.specs.Plans.{item, occurrence, Item, Work, Runs, Evaluates, frame_with, work_trace, item_trace}
use Rattle.follow.specs.Followed.{Foretold, IsFollowed, occurrence_at}
use Rattle.follow.specs.Turnings.{IsTurning}
use Rattle.follow_chunk.specs.Predicted.{padded_to, occurrence_of, instance_of, value_or_zero, scalars_at, interval_at, lower_at, forecast_of}
use Rattle.follow_chunk.specs.Items.{item_at}
use Rattle.follow_chunk.specs.Tasks.{TaskState, IsTask}
use Rattle.follow_chunk.specs.Nests.{IsNest, IsInTurns}
use Rattle.follow_chunk.specs.Followed.{store_at, IsRun}
use Rattle.follow_chunk.proofs.PointLaws.{padded-take-of, instance-occurrence, successor-is}
use Rattle.follow_chunk.proofs.LaunchedLaws.{scalars-fit, scalars-none}
use Rattle.follow_chunk.proofs.PredictingLaws.{length-scalars}
use Rattle.follow_chunk.proofs.LaunchedInstanceLaws as standing
use Rattle.follow_chunk.proofs.NestInstanceLaws as nests
use Rattle.follow_chunk.proofs.PlacingLaws.{nest-of, in-turns}

trip-get : (levels : List Level) (k : ℕ) (at : List ℤ) → unwrap_or (option_map (λ (form : Affine). value_at form at) (option_and_then (λ (l : Level). l.trip) (slice_get levels k))) (pos 0) ≡ value_or_zero (slice_index_or levels k no_level).trip at
trip-get [] k at = refl
trip-get (m ∷ ms) zero at = by m.trip
  where
    by : (f : Option Affine) → unwrap_or (option_map (λ (form : Affine). value_at form at) f) (pos 0) ≡ value_or_zero f at
    by None = refl
    by (Some form) = refl
trip-get (m ∷ ms) (suc k) at = trip-get ms k at

-- the predicted trip of a loop, by the form of its head
pub trip-value : (t : Table) (k rank : ℕ) (at : List ℤ) → Stands t Head (suc k) rank → unwrap_or (expected_of t (instance rank (cut k at)) Trip) (pos 0) ≡ trip t k at
unfolding expected_of form_of
trip-value t k rank at s =
    ap₂ (λ (q : Part) (n : ℕ). unwrap_or (option_map (λ (form : Affine). value_at form (cut k at)) (option_and_then (λ (l : Level). l.trip) (head_level_by q (loop_of t n)))) (pos 0)) s.part-is s.level-is
    ∙ trip-get t.levels k (cut k at) ∙ by (level_at t k).trip refl
  where
    by : (f : Option Affine) → (level_at t k).trip ≡ f → value_or_zero f (cut k at) ≡ trip t k at
    by None e = sym (trip-none t k at e)
    by (Some form) e = sym (trip-some t k form at e)

get-take : (n : ℕ) (xs : List ℤ) (k : ℕ) → k < n → get_or (take n xs) k (pos 0) ≡ get_or xs k (pos 0)
get-take zero xs k l = absurd (omega arith)
get-take (suc n) [] k l = refl
get-take (suc n) (x ∷ xs) zero l = refl
get-take (suc n) (x ∷ xs) (suc k) l = get-take n xs k (omega arith)

take-take-less : (n m : ℕ) (xs : List ℤ) → n ≤ m → take n (take m xs) ≡ take n xs
take-take-less zero zero xs l = refl
take-take-less zero (suc m) [] l = refl
take-take-less zero (suc m) (x ∷ xs) l = refl
take-take-less (suc n) zero xs l = absurd (omega arith)
take-take-less (suc n) (suc m) [] l = refl
take-take-less (suc n) (suc m) (x ∷ xs) l = ap (λ (zs : List ℤ). x ∷ zs) (take-take-less n m xs (omega arith))

nothing : (xs : List ℤ) → length xs ≡ 0 → xs ≡ []
nothing [] e = refl
nothing (x ∷ xs) e = absurd (omega arith)

module _ (D : ℕ) (job : TaskState) (words : ℤ) (task : IsTask D job words) (x : Instance) (p : Predicted job.pred job.chunk x) where
  abbrev nest : IsNest D job.scalars job.loops job.pred
  nest = nest-of D job words task

  abbrev turns : IsInTurns job.pred x
  turns = in-turns D job words task x p

  abbrev q : Forecast
  q = forecast_of job.pred

  io : instance_of job.pred (occurrence_of job.pred x) ≡ x
  io = instance-occurrence D job.pred task.shape x p.is

  next-io : instance_of job.pred (occurrence_of job.pred (next job.pred x)) ≡ next job.pred x
  next-io = instance-occurrence D job.pred task.shape (next job.pred x) (standing.next-instance D job words task x p)

  forms-of : (rank : ℕ) → rank < length job.pred.blocks → length (block_of job.pred (instance rank [])).scalars ≡ job.scalars
  forms-of rank l = (standing.block-of-rank D job words task rank l).forms

  pub count-here : length (block_of job.pred x).scalars ≡ job.scalars
  count-here = forms-of x.block p.is.block

  pub count-next : length (block_of job.pred (next job.pred x)).scalars ≡ job.scalars
  count-next = forms-of (next job.pred x).block (standing.next-instance D job words task x p).block

  -- without scalars an instance begins with none
  pub none-here : job.scalars ≡ 0 → [] ≡ scalars_at job.pred x
  none-here e = sym (nothing (scalars_at job.pred x) (length-scalars job.pred x ∙ count-here ∙ e))

  -- and every instance with those of the successor
  pub none-behind : job.scalars ≡ 0 → scalars_at job.pred x ≡ scalars_at job.pred (next job.pred x)
  none-behind e =
      sym (none-here e) ∙ sym (nothing (scalars_at job.pred (next job.pred x)) (length-scalars job.pred (next job.pred x) ∙ count-next ∙ e))

  foretold : (intervals : Intervals) → ((access : ℕ) → interval_at job.pred x access ≡ intervals access) → Foretold q (occurrence_of job.pred x) (occurrence_of job.pred (next job.pred x)) (scalars_at job.pred x) intervals (scalars_at job.pred (next job.pred x))
  foretold intervals each = record {
    begins = ap (scalars_at job.pred) io;
    addresses = λ access. ap (λ (y : Instance). interval_at job.pred y access) io ∙ each access;
    closes = ap (scalars_at job.pred) next-io;
    sizes = length-scalars job.pred (next job.pred x) ∙ count-next ∙ sym (length-scalars job.pred x ∙ count-here);
  }

  module _ (site : Site) (frames : (e : Expectation) → frame_at site e ≡ frame_of e (block_of job.pred x).part (block_of job.pred x).level (nests.A D job.scalars job.loops job.pred job.outer nest x turns)) (intervals : Intervals) (each : (access : ℕ) → interval_at job.pred x access ≡ intervals access) (m after : List ℤ) (result : Result ℕ How) where
    abbrev here : Occurrence
    here = occurrence (block_of job.pred x).part (block_of job.pred x).level (nests.A D job.scalars job.loops job.pred job.outer nest x turns)

    at-site : occurrence_at site ≡ here
    at-site = ap (λ (f : Frame). f.at) (frames plain)

    pub site-is : occurrence_at site ≡ occurrence_of job.pred x
    site-is = at-site ∙ nests.occurrence-here D job.scalars job.loops job.pred job.outer nest x turns

    pub told : Foretold q (occurrence_at site) (occurrence_of job.pred (next job.pred x)) (scalars_at job.pred x) intervals (scalars_at job.pred (next job.pred x))
    told = subst (λ (i : Occurrence). Foretold q i (occurrence_of job.pred (next job.pred x)) (scalars_at job.pred x) intervals (scalars_at job.pred (next job.pred x))) (sym site-is) (foretold intervals each)

    pub frame-is : frame_at site (expectation_at q (occurrence_at site)) ≡ frame_with here (nests.A D job.scalars job.loops job.pred job.outer nest x turns).values (expectation_at q here)
    frame-is = frames (expectation_at q (occurrence_at site)) ∙ ap (λ (i : Occurrence). frame_with here (nests.A D job.scalars job.loops job.pred job.outer nest x turns).values (expectation_at q i)) at-site

    pub run-work : (w : Work) → item_at job.pred job.loops job.outer x ≡ item (block_of job.pred x).part (block_of job.pred x).level (nests.A D job.scalars job.loops job.pred job.outer nest x turns) w
        → ((r : Forecast) (nx : Occurrence) → Foretold r (occurrence_at site) nx (scalars_at job.pred x) intervals (scalars_at job.pred (next job.pred x))
        → IsFollowed r nx (work_trace (frame_at site (expectation_at r (occurrence_at site))) w (store_at job.pred x m)) (store_at job.pred x m) (2 ^ 32) result after)
        → IsRun job x m result after
    run-work w is followed =
        subst (λ (tr : Trace). IsFollowed q (occurrence_of job.pred (next job.pred x)) tr (store_at job.pred x m) (2 ^ 32) result after)
        (ap (λ (f : Frame). work_trace f w (store_at job.pred x m)) frame-is ∙ sym (ap (λ (i : Item). item_trace q i (store_at job.pred x m)) is))
        (followed q (occurrence_of job.pred (next job.pred x)) told)

    pub run-block : (sc aft : List ℤ) (ss : List Stmt) → sc ≡ scalars_at job.pred x → aft ≡ scalars_at job.pred (next job.pred x) → blocks.statements_of job.loops (block_ref (block_of job.pred x).part (block_of job.pred x).level) ≡ Some ss
        → ((r : Forecast) (nx : Occurrence) → Foretold r (occurrence_at site) nx sc intervals aft
        → IsFollowed r nx (instance_trace (frame_at site (expectation_at r (occurrence_at site))) ss (store_of m sc [])) (store_of m sc []) (2 ^ 32) result after)
        → IsRun job x m result after
    run-block sc aft ss sc_is aft_is ss_is followed = by (nests.item-statements D job.scalars job.loops job.pred job.outer nest x turns ss ss_is)
      where
        with-all : (r : Forecast) (nx : Occurrence) → Foretold r (occurrence_at site) nx (scalars_at job.pred x) intervals (scalars_at job.pred (next job.pred x))
            → IsFollowed r nx (instance_trace (frame_at site (expectation_at r (occurrence_at site))) ss (store_at job.pred x m)) (store_at job.pred x m) (2 ^ 32) result after
        with-all r nx =
            subst (λ (us : List ℤ). Foretold r (occurrence_at site) nx us intervals (scalars_at job.pred (next job.pred x)) → IsFollowed r nx (instance_trace (frame_at site (expectation_at r (occurrence_at site))) ss (store_of m us [])) (store_of m us []) (2 ^ 32) result after) sc_is
            (subst (λ (us : List ℤ). Foretold r (occurrence_at site) nx sc intervals us → IsFollowed r nx (instance_trace (frame_at site (expectation_at r (occurrence_at site))) ss (store_of m sc [])) (store_of m sc []) (2 ^ 32) result after) aft_is (followed r nx))

        by : (s : Stmt) × (rest : List Stmt) × (ss ≡ s ∷ rest) × (item_at job.pred job.loops job.outer x ≡ item (block_of job.pred x).part (block_of job.pred x).level (nests.A D job.scalars job.loops job.pred job.outer nest x turns) (Runs s rest)) → IsRun job x m result after
        by (s, rest, ss_are, is) =
            run-work (Runs s rest) is
            (λ r nx told. subst (λ (us : List Stmt). IsFollowed r nx (instance_trace (frame_at site (expectation_at r (occurrence_at site))) us (store_at job.pred x m)) (store_at job.pred x m) (2 ^ 32) result after) ss_are (with-all r nx told))

    pub run-head : (sc aft : List ℤ) (h : tree.Head) (tu : Turning) → sc ≡ scalars_at job.pred x → aft ≡ scalars_at job.pred (next job.pred x) → blocks.head_at job.loops (block_of job.pred x).level ≡ Some h → (block_of job.pred x).part ≡ Head → IsTurning q (occurrence_of job.pred x) h tu
        → ((r : Forecast) (nx : Occurrence) → Foretold r (occurrence_at site) nx sc intervals aft → IsTurning r (occurrence_at site) h tu
        → IsFollowed r nx (work_trace (frame_at site (expectation_at r (occurrence_at site))) (Evaluates h) (store_of m sc [])) (store_of m sc []) (2 ^ 32) result after)
        → IsRun job x m result after
    run-head sc aft h tu sc_is aft_is head-is part-is turning followed =
        subst (λ (tr : Trace). IsFollowed q (occurrence_of job.pred (next job.pred x)) tr (store_at job.pred x m) (2 ^ 32) result after)
        (ap (λ (f : Frame). work_trace f (Evaluates h) (store_at job.pred x m)) frame-is ∙ sym (ap (λ (i : Item). item_trace q i (store_at job.pred x m)) item-is))
        (subst (λ (us : List ℤ). IsFollowed q (occurrence_of job.pred (next job.pred x)) (work_trace (frame_at site (expectation_at q (occurrence_at site))) (Evaluates h) (store_of m us [])) (store_of m us []) (2 ^ 32) result after) sc_is
        (followed q (occurrence_of job.pred (next job.pred x))
        (subst (λ (us : List ℤ). Foretold q (occurrence_at site) (occurrence_of job.pred (next job.pred x)) us intervals aft) (sym sc_is) (subst (λ (us : List ℤ). Foretold q (occurrence_at site) (occurrence_of job.pred (next job.pred x)) (scalars_at job.pred x) intervals us) (sym aft_is) told))
        (subst (λ (i : Occurrence). IsTurning q i h tu) (sym site-is) turning)))
      where
        item-is : item_at job.pred job.loops job.outer x ≡ item (block_of job.pred x).part (block_of job.pred x).level (nests.A D job.scalars job.loops job.pred job.outer nest x turns) (Evaluates h)
        item-is =
            nests.item-head D job.scalars job.loops job.pred job.outer nest x turns part-is
            ∙ ap (λ (z : tree.Head). item (block_of job.pred x).part (block_of job.pred x).level (nests.A D job.scalars job.loops job.pred job.outer nest x turns) (Evaluates z)) (nests.head-same D job.scalars job.loops job.pred job.outer nest x turns h head-is)

  -- ---- heads

  abbrev n : ℕ
  n = counters job.pred (block_of job.pred x)

  stands-here : (block_of job.pred x).part ≡ Head → Stands job.pred Head (suc ((block_of job.pred x).level - 1)) x.block
  stands-here e = record { inside = p.is.block; part-is = e; level-is = let s = ((task.shape).blocks x.block p.is.block).from in omega (arith, s) }

  pub trip-here : (block_of job.pred x).part ≡ Head → unwrap_or (expected_of job.pred (instance x.block (cut ((block_of job.pred x).level - 1) x.at)) Trip) (pos 0) ≡ trip job.pred ((block_of job.pred x).level - 1) x.at
  trip-here e = trip-value job.pred ((block_of job.pred x).level - 1) x.block x.at (stands-here e)

  trip-padded : (j m : ℕ) → j ≤ m → trip job.pred j (padded_to (depth job.pred) (take m x.at)) ≡ trip job.pred j x.at
  trip-padded j m l = ap (trip job.pred j) (padded-take-of (depth job.pred) m x.at p.is.size) ∙ trip-cut job.pred j m x.at l

  count-head : (h : tree.Head) → blocks.head_at job.loops (block_of job.pred x).level ≡ Some h → (block_of job.pred x).part ≡ Head → blocks.counters_by Head h (block_of job.pred x).level ≡ n
  count-head h is e = nests.counts-by D job.scalars job.loops job.pred job.outer nest x turns h is e

  pub bounds-here : (lower upper : Expr) (stride : ℤ) → blocks.head_at job.loops (block_of job.pred x).level ≡ Some (head.For lower upper stride) → (block_of job.pred x).part ≡ Head
      → IsTurning q (occurrence_of job.pred x) (head.For lower upper stride) (Bounds (unwrap_or (expected_of job.pred x Lower) (pos 0)) (trip job.pred ((block_of job.pred x).level - 1) x.at))
  unfolding occurrence_of lower_at
  bounds-here lower upper stride is e =
      ap₂ Bounds (sym (ap (λ (y : Instance). unwrap_or (expected_of job.pred y Lower) (pos 0)) io))
      (sym (trip-padded ((block_of job.pred x).level - 1) n (let c = count-head (head.For lower upper stride) is e in omega arith)))

  pub holds-here : (condition : Expr) → blocks.head_at job.loops (block_of job.pred x).level ≡ Some (head.While condition) → (block_of job.pred x).part ≡ Head
      → IsTurning q (occurrence_of job.pred x) (head.While condition) (Holds (nat_le (block_of job.pred x).level 1 || int_lt (counter x.at ((block_of job.pred x).level - 1)) (trip job.pred ((block_of job.pred x).level - 1) x.at)))
  unfolding occurrence_of
  holds-here condition is e =
      let c = count-head (head.While condition) is e in
      let some = ((task.shape).blocks x.block p.is.block).from in
      let long : length (take n x.at) ≡ n = length-take-le n x.at (let s = p.is.size in let d = (task.shape).deep in let m = nests.deep-here D job.scalars job.loops job.pred job.outer nest x turns in omega arith) in
      let last : last_of (take n x.at) ≡ counter x.at ((block_of job.pred x).level - 1) = (let f : length (take n x.at) - 1 ≡ (block_of job.pred x).level - 1 = omega arith in ap (λ (i : ℕ). get_or (take n x.at) i (pos 0)) f) ∙ get-take n x.at ((block_of job.pred x).level - 1) (omega arith) in
      let rest : around_last (take n x.at) ≡ take ((block_of job.pred x).level - 1) x.at = (let f : length (take n x.at) - 1 ≡ (block_of job.pred x).level - 1 = omega arith in ap (λ (i : ℕ). take i (take n x.at)) f) ∙ take-take-less ((block_of job.pred x).level - 1) n x.at (omega arith) in
      let around = ap (λ (cs : List ℤ). trip job.pred ((block_of job.pred x).level - 1) (padded_to (depth job.pred) cs)) rest ∙ trip-padded ((block_of job.pred x).level - 1) ((block_of job.pred x).level - 1) (omega arith) in
      ap (λ (b : Bool). Holds (nat_le (block_of job.pred x).level 1 || b)) (sym (ap₂ int_lt last around))

  -- ---- what calls ask

  pub few-scalars : job.scalars ≤ 16
  few-scalars = let c = count-here in let f = ((task.shape).blocks x.block p.is.block).scalars in omega arith

  pub few-accesses : length (accesses_of job.loops (block_ref (block_of job.pred x).part (block_of job.pred x).level)) ≤ 64
  few-accesses = let c = nests.accesses-here D job.scalars job.loops job.pred job.outer nest x turns in let f = ((task.shape).blocks x.block p.is.block).accesses in omega arith

  pub fits-here : (k : ℕ) → FitsSigned w64 (get_or (scalars_at job.pred x) k (pos 0))
  unfolding scalars_at
  fits-here k = scalars-fit (block_of job.pred x).scalars 0 x.at (scalars-none D job words task x p) k

  pub next-is : (y : Instance) → ((c : Chunk) → Predicted job.pred c x → IsSuccessor job.pred c x y) → y ≡ next job.pred x
  next-is y s = successor-is D job.pred task.shape job.chunk x y p (s job.chunk p)
