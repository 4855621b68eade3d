-- Placing: where an instance of a launched chunk runs.
use Rattle.std.proofs.Common.{◌≡◌, refl, sym, ap, ap₂, ◌∙◌, subst, ℕ, zero, suc, ◌<◌, ◌≤◌, ◌-◌, ◌+◌, max, ℤ, pos, ◌+ℤ◌, ◌≤ℤ◌, ◌<ℤ◌, FitsSigned, w64, Bool, true, false, List, [], ◌∷◌, Option, Some, None, length, map, take, nat_le, length-take-le, ⊎_elim, arith}
use Rattle.std.specs.Prelude.{slice_get, slice_index_or, option_map, unwrap_or, unsigned_abs, if◌then◌else◌}
use Rattle.std.proofs.lemmas.Int.{ints}
use Rattle.std.proofs.lemmas.Bool.Decides.{nat_tests}
use Rattle.std.specs.List.{AllByRecursion}
use Rattle.std.proofs.lemmas.Option.{slice_get-map}
use Rattle.std.proofs.lemmas.List.{take_more}
use Rattle.std.specs.Option.{option_and_then}
use Rattle.std.proofs.lemmas.Bool.{cases_lt}
use Rattle.affine.specs.Forms.{Affine, value_at}
use Rattle.nest_lang.specs.declared.tree.Expr.{Expr}
use Rattle.nest_lang.specs.declared.tree.Head as tree
use Rattle.nest_lang.specs.declared.tree.Head.TheVariants as head
use Rattle.nest_lang.specs.declared.tree.Loop.{Loop}
use Rattle.nest_lang.specs.declared.tree.Part.{Part}
use Rattle.nest_lang.specs.declared.tree.Part.TheVariants.{Head, Pre, Post}
use Rattle.nest_lang.specs.declared.state.Outer.{Outer}
use Rattle.nest_lang.specs.Values.{turn_value}
use Rattle.nest_lang.specs.Turns.{IsPosition, IsPositionIn, number_left}
use Rattle.nest_lang.specs.Loops.{Around, inward, outside}
use Rattle.nest_lang.specs.Blocks.{block_ref, head_at}
use Rattle.domain.specs.declared.chunk.Chunk.{Chunk}
use Rattle.domain.specs.declared.prediction.What.TheVariants.{Lower}
use Rattle.domain.specs.declared.table.LoopKind.{LoopKind}
use Rattle.domain.specs.Tables.{Table, Level, no_level, depth, level_at, is_while, repeats, rank_of, counters, counters_by, turning, turning_by, cut, head_level_by, loop_of, IsTable}
use Rattle.domain.specs.Instances.{Instance, instance, block_of, counter, IsInstance, Predicted}
use Rattle.domain.specs.Expected.{form_of, expected_of}
use Rattle.domain.specs.Shapes.{kind_of, IsTableOf}
use Rattle.domain.proofs.CounterLaws.{launched_counters}
use Rattle.domain.proofs.RankLaws.{Stands, stands, has-rank}
use Rattle.follow.specs.ChunkRuns.{HasTurns, HasTurnsIn}
use Rattle.follow.specs.Forecasts.{Forecast}
use Rattle.follow.specs.Instances.{value_in, into}
use Rattle.follow.specs.Instances as plan
use Rattle.follow_chunk.specs.Predicted.{value_or_zero, instance_of, forecast_of}
use Rattle.follow_chunk.specs.Predicted as predicted
use Rattle.follow_chunk.specs.Items.{value_by, name_value, inside_of, around_of}
use Rattle.follow_chunk.specs.Tasks.{TaskState, IsTask}
use Rattle.follow_chunk.specs.Nests.{IsNest, IsInTurns}
use Rattle.follow_chunk.proofs.PointLaws.{padded-take-of}
use Rattle.follow_chunk.proofs.RankLaws.{depth-same}
use Rattle.follow_chunk.proofs.AroundLaws.{inside-none, inside-more, inside-counters}
use Rattle.follow_chunk.proofs.LaunchedLaws.{name-fits}

-- the level of a table with this loop
level-some : (levels : List Level) (k : ℕ) (l : Level) → slice_get levels k ≡ Some l → slice_index_or levels k no_level ≡ l
level-some [] k l e = absurd (cc)
level-some (m ∷ ms) zero l e = cc
level-some (m ∷ ms) (suc k) l e = level-some ms k l e

some-is : {X : Type 0} (a b : X) → Some a ≡ Some b → a ≡ b
some-is a b e = cc

head-loop : (o : Option Loop) (h : tree.Head) → option_map (λ (l : Loop). l.head) o ≡ Some h → (l : Loop) × (o ≡ Some l) × (l.head ≡ h)
head-loop None h e = absurd (cc)
head-loop (Some l) h e = (l, refl, cc)

kinds : (levels : List Level) (loops : List Loop) (k : ℕ) (l : Loop) → map (λ (l : Level). l.kind) levels ≡ map (λ (l : Loop). kind_of l.head) loops → slice_get loops k ≡ Some l → (slice_index_or levels k no_level).kind ≡ kind_of l.head
kinds levels loops k l e is =
    let f : option_map (λ (l : Level). l.kind) (slice_get levels k) ≡ Some (kind_of l.head) =
    sym (slice_get-map (λ (l : Level). l.kind) levels k) ∙ ap (λ (ks : List LoopKind). slice_get ks k) e ∙ slice_get-map (λ (l : Loop). kind_of l.head) loops k ∙ ap (option_map (λ (l : Loop). kind_of l.head)) is in
    at (slice_get levels k) refl f
  where
    at : (o : Option Level) → slice_get levels k ≡ o → option_map (λ (l : Level). l.kind) o ≡ Some (kind_of l.head) → (slice_index_or levels k no_level).kind ≡ kind_of l.head
    at None g h = absurd (cc)
    at (Some m) g h = ap (λ (n : Level). n.kind) (level-some levels k m g) ∙ some-is m.kind (kind_of l.head) h

lower-get : (levels : List Level) (k : ℕ) (at : List ℤ) → unwrap_or (option_map (λ (form : Affine). value_at form at) (option_and_then (λ (l : Level). l.lower) (slice_get levels k))) (pos 0) ≡ value_or_zero (slice_index_or levels k no_level).lower at
lower-get [] k at = refl
lower-get (m ∷ ms) zero at = by m.lower
  where
    by : (f : Option Affine) → unwrap_or (option_map (λ (form : Affine). value_at form at) f) (pos 0) ≡ value_or_zero f at
    by None = refl
    by (Some form) = refl
lower-get (m ∷ ms) (suc k) at = lower-get ms k at

-- the expected lower bound of the head of a loop
lower-value : (t : Table) (k rank : ℕ) (at : List ℤ) → Stands t Head (suc k) rank → unwrap_or (expected_of t (instance rank at) Lower) (pos 0) ≡ value_or_zero (level_at t k).lower at
unfolding expected_of form_of
lower-value t k rank at s =
    ap₂ (λ (q : Part) (n : ℕ). unwrap_or (option_map (λ (form : Affine). value_at form at) (option_and_then (λ (l : Level). l.lower) (head_level_by q (loop_of t n)))) (pos 0)) s.part-is s.level-is
    ∙ lower-get t.levels k at

-- a `for` with a counter is in a turn
turning-for : (part : Part) (level k : ℕ) (w : Bool) → k < counters_by part w level → 1 ≤ level → (k ≡ level - 1 → w ≡ false) → k < turning_by part level
turning-for Head level k false l some e = omega arith
turning-for Head level k true l some e = ⊎_elim (λ m. omega arith) (λ m. absurd (let f = e (omega arith) in cc)) (cases_lt k (max 1 (level - 1)))
turning-for Pre level k w l some e = l
turning-for Post level k w l some e = l

counters-most : (part : Part) (w : Bool) (level : ℕ) → counters_by part w level ≤ level
counters-most Head true level = omega arith
counters-most Head false level = omega arith
counters-most Pre w level = omega arith
counters-most Post w level = omega arith

no-head : (loops : List Loop) (k : ℕ) → k < length loops → head_at loops (suc k) ≡ None → ⊥
no-head [] k l e = omega arith
no-head (l ∷ ls) zero h e = cc
no-head (l ∷ ls) (suc k) h e = no-head ls k (omega arith) e

pub fronts-up : (k : ℕ) (xs : List ℤ) → ((j : ℕ) → pos 0 ≤ℤ counter xs j) → AllByRecursion (λ z. pos 0 ≤ℤ z) (take k xs)
fronts-up zero [] h = tt
fronts-up (suc k) [] h = tt
fronts-up zero (x ∷ xs) h = tt
fronts-up (suc k) (x ∷ xs) h = (h 0, fronts-up k xs (λ j. h (suc j)))

-- a value depends on the turn numbers around its loop alone
values-same : (p : Forecast) (o : Outer) (h : tree.Head) (level : ℕ) (a : Around) (turns : List ℤ) (t : ℕ) → a.counters ≡ turns → value_in p o h level a t ≡ value_in p o h level (record { counters = turns; values = [] }) t
values-same p o (head.For lower upper stride) level a turns t e = ap (λ (cs : List ℤ). turn_value (plan.lower_at p o level cs) stride t) e
values-same p o (head.While condition) level a turns t e = refl

-- the loops of a table are those of its nest
pub loop-kind-of : (scalars : ℕ) (loops : List Loop) (t : Table) → IsTableOf scalars loops t → (k : ℕ) (h : tree.Head) → head_at loops (suc k) ≡ Some h → (level_at t k).kind ≡ kind_of h
loop-kind-of scalars loops t of k h e = let (l, is, head-is) = head-loop (slice_get loops k) h e in kinds t.levels loops k l of.levels is ∙ ap kind_of head-is

-- an instance has no more turn numbers than there are loops
pub counters-within : (D : ℕ) (t : Table) → IsTable D t → (x : Instance) → IsInstance t x → counters t (block_of t x) ≤ D
counters-within D t shape x is =
    let to = (shape.blocks x.block is.block).to in
    let some = (shape.blocks x.block is.block).from in
    let most = counters-most (block_of t x).part (repeats t ((block_of t x).level - 1)) (block_of t x).level in omega arith

module _ (D : ℕ) (job : TaskState) (words : ℤ) (task : IsTask D job words) where
  pub nest-of : IsNest D job.scalars job.loops job.pred
  nest-of = record { keeps = task.keeps; shape = task.shape; table = task.table }

  -- ---- heads of inner loops

  pub head-stands : (k : ℕ) → 1 ≤ k → k < D → (rank : ℕ) × (rank_of job.pred Head (suc k) ≡ Some rank)
  head-stands k some l = has-rank job.pred Head (suc k) ((task.shape).heads (suc k) (omega arith) (omega arith))

  -- ---- lower bounds and values of names

  lower-inner : (at : List ℤ) (k rank : ℕ) → length at ≡ depth job.pred → 1 ≤ k → rank_of job.pred Head (k + 1) ≡ Some rank
      → plan.lower_at (forecast_of job.pred) job.outer (k + 1) (take k at) ≡ unwrap_or (expected_of job.pred (instance rank (cut k at)) Lower) (pos 0)
  unfolding predicted.lower_at instance_of
  lower-inner at k rank size some e =
      let test : nat_le (k + 1) 1 ≡ false = grind (arith, nat_tests) in
      ap (λ (b : Bool). if b then job.outer.lower else (forecast_of job.pred).lower (record { block = block_ref Head (k + 1); counters = take k at })) test
      ∙ ap₂ (λ (r : Option ℕ) (point : List ℤ). unwrap_or (expected_of job.pred (instance (unwrap_or r (length job.pred.blocks)) point) Lower) (pos 0)) e (padded-take-of (depth job.pred) k at size)

  -- the same by the form of the loop
  pub lower-level : (at : List ℤ) (k : ℕ) → length at ≡ depth job.pred → 1 ≤ k → k < D → plan.lower_at (forecast_of job.pred) job.outer (k + 1) (take k at) ≡ value_or_zero (level_at job.pred k).lower (cut k at)
  lower-level at k size some inside =
      let (rank, e) = head-stands k some inside in
      let next : suc k ≡ k + 1 = omega arith in
      lower-inner at k rank size some (ap (rank_of job.pred Head) (sym next) ∙ e) ∙ lower-value job.pred k rank (cut k at) (stands job.pred Head (suc k) rank e)

  pub loop-kind : (k : ℕ) (h : tree.Head) → head_at job.loops (suc k) ≡ Some h → (level_at job.pred k).kind ≡ kind_of h
  loop-kind = loop-kind-of job.scalars job.loops job.pred task.table

  from-head : (h : tree.Head) → IsPosition h job.outer → pos 0 ≤ℤ job.chunk.first
  from-head (head.For lower upper stride) (n, m, is, left, rest) = let e = task.first in omega (arith, ints)
  from-head (head.While condition) (n, is, rest) = let e = task.first in omega (arith, ints)

  from-up : (ls : List Loop) → IsPositionIn ls job.outer → pos 0 ≤ℤ job.chunk.first
  from-up [] h = absurd h
  from-up (l ∷ ls) h = from-head l.head h

  module _ (x : Instance) (p : Predicted job.pred job.chunk x) where
    pub up : (k : ℕ) → pos 0 ≤ℤ counter x.at k
    up k = (launched_counters D job.pred words job.chunk (task.launched).0 task.shape (from-up job.loops task.position) task.some (task.launched).1 x p k).0

    -- it is in some turn of each loop around it
    pub in-turns : IsInTurns job.pred x
    in-turns = record { is = p.is; turns = up }

    pub below : (k : ℕ) → counter x.at k <ℤ (job.chunk.first +ℤ pos 65536)
    below k = (launched_counters D job.pred words job.chunk (task.launched).0 task.shape (from-up job.loops task.position) task.some (task.launched).1 x p k).1

    pub counter-fits : (k : ℕ) → FitsSigned w64 (counter x.at k)
    counter-fits k =
        let soon = task.soon in
        let most = (launched_counters D job.pred words job.chunk (task.launched).0 task.shape (from-up job.loops task.position) task.some (task.launched).1 x p k).1 in
        let least = up k in
        omega (arith, ints)

    -- the outermost `for`
    outer-fits : (lower upper : Expr) (stride : ℤ) → head_at job.loops 1 ≡ Some (head.For lower upper stride) → FitsSigned w64 (turn_value job.outer.lower stride (unsigned_abs (counter x.at 0)))
    outer-fits lower upper stride is = by job.loops is task.position task.turns
      where
        by : (ls : List Loop) → head_at ls 1 ≡ Some (head.For lower upper stride) → IsPositionIn ls job.outer → HasTurnsIn ls job.outer (unsigned_abs job.chunk.turns) → FitsSigned w64 (turn_value job.outer.lower stride (unsigned_abs (counter x.at 0)))
        by [] e h turns = absurd h
        by (l ∷ ls) e h turns = at (subst (λ (z : tree.Head). IsPosition z job.outer) (some-is l.head (head.For lower upper stride) e) h) (subst (λ (z : tree.Head). HasTurns z job.outer (unsigned_abs job.chunk.turns)) (some-is l.head (head.For lower upper stride) e) turns)
          where
            at : IsPosition (head.For lower upper stride) job.outer → unsigned_abs job.chunk.turns ≤ number_left job.outer.left → FitsSigned w64 (turn_value job.outer.lower stride (unsigned_abs (counter x.at 0)))
            at (n, m, next_is, left_is, fits) turns =
                let left : unsigned_abs job.chunk.turns ≤ m = subst (λ (z : Option ℕ). unsigned_abs job.chunk.turns ≤ number_left z) left_is turns in
                let first = task.first in
                let some = task.some in
                let from = p.turn.from in
                let below = p.turn.below in
                let here : n + (unsigned_abs (counter x.at 0) - n) ≡ unsigned_abs (counter x.at 0) = omega (arith, ints) in
                subst (λ (i : ℕ). FitsSigned w64 (turn_value job.outer.lower stride i)) here (fits (unsigned_abs (counter x.at 0) - n) (omega (arith, ints)))

    -- an inner one: its lower bound too
    inner-fits : (k : ℕ) (lower upper : Expr) (stride : ℤ) → 1 ≤ k → k < counters job.pred (block_of job.pred x) → k < D → head_at job.loops (suc k) ≡ Some (head.For lower upper stride)
        → FitsSigned w64 (plan.lower_at (forecast_of job.pred) job.outer (k + 1) (take k x.at)) × FitsSigned w64 (turn_value (plan.lower_at (forecast_of job.pred) job.outer (k + 1) (take k x.at)) stride (unsigned_abs (counter x.at k)))
    inner-fits k lower upper stride some inside deep is =
        let (rank, e) = head-stands k some deep in
        let there = stands job.pred Head (suc k) rank e in
        let kind = loop-kind k (head.For lower upper stride) is in
        let turning_is : k < turning (block_of job.pred x) = turning-for (block_of job.pred x).part (block_of job.pred x).level k (repeats job.pred ((block_of job.pred x).level - 1)) inside ((task.shape).blocks x.block p.is.block).from
        (λ f. ap (λ (n : ℕ). is_while (level_at job.pred n).kind) (sym f) ∙ ap is_while kind) in
        let below = (p.turn.inner k some turning_is).1 in
        let least = up k in
        let fit = name-fits D job words task x k rank stride (unsigned_abs (counter x.at k)) p some turning_is there kind (omega (arith, ints)) in
        let low = lower-level x.at k p.is.size some deep in
        (subst (FitsSigned w64) (sym low) fit.0, subst (λ (z : ℤ). FitsSigned w64 (turn_value z stride (unsigned_abs (counter x.at k)))) (sym low) fit.1)

    pub lower-fits : (k : ℕ) (lower upper : Expr) (stride : ℤ) → k < counters job.pred (block_of job.pred x) → k < D → head_at job.loops (k + 1) ≡ Some (head.For lower upper stride) → 1 ≤ k → FitsSigned w64 (plan.lower_at (forecast_of job.pred) job.outer (k + 1) (take k x.at))
    lower-fits k lower upper stride inside deep is some = let next : k + 1 ≡ suc k = omega arith in (inner-fits k lower upper stride some inside deep (sym (ap (head_at job.loops) next) ∙ is)).0

    pub value-fits : (k : ℕ) (lower upper : Expr) (stride : ℤ) → k < counters job.pred (block_of job.pred x) → k < D → head_at job.loops (k + 1) ≡ Some (head.For lower upper stride)
        → FitsSigned w64 (turn_value (plan.lower_at (forecast_of job.pred) job.outer (k + 1) (take k x.at)) stride (unsigned_abs (counter x.at k)))
    value-fits zero lower upper stride inside deep is = outer-fits lower upper stride is
    value-fits (suc k) lower upper stride inside deep is = let next : suc k + 1 ≡ suc (suc k) = omega arith in (inner-fits (suc k) lower upper stride (omega arith) inside deep (sym (ap (head_at job.loops) next) ∙ is)).1

    pub counters-deep : counters job.pred (block_of job.pred x) ≤ D
    counters-deep = counters-within D job.pred task.shape x p.is

    pub head-there : (k : ℕ) → k < D → head_at job.loops (k + 1) ≡ None → ⊥
    head-there k l e =
        let next : k + 1 ≡ suc k = omega arith in
        let size = depth-same job.scalars job.loops job.pred task.table in
        let deep = (task.shape).deep in
        no-head job.loops k (omega arith) (sym (ap (head_at job.loops) next) ∙ e)

    pub name-for : (k : ℕ) (lower upper : Expr) (stride : ℤ) → head_at job.loops (k + 1) ≡ Some (head.For lower upper stride)
        → name_value job.pred job.loops job.outer x.at k ≡ turn_value (plan.lower_at (forecast_of job.pred) job.outer (k + 1) (take k x.at)) stride (unsigned_abs (counter x.at k))
    unfolding name_value
    name-for k lower upper stride is = ap (λ (h : Option tree.Head). value_by (forecast_of job.pred) job.outer h (k + 1) (take k x.at) (counter x.at k)) is

    pub name-while : (k : ℕ) (condition : Expr) → head_at job.loops (k + 1) ≡ Some (head.While condition) → name_value job.pred job.loops job.outer x.at k ≡ counter x.at k
    unfolding name_value
    name-while k condition is = ap (λ (h : Option tree.Head). value_by (forecast_of job.pred) job.outer h (k + 1) (take k x.at) (counter x.at k)) is ∙ same (counter x.at k) (up k)
      where
        same : (z : ℤ) → pos 0 ≤ℤ z → pos (unsigned_abs z) ≡ z
        same z h = omega (arith, ints)

    -- the turn numbers of the loops around it are its own
    pub around-counters : (k : ℕ) → k ≤ D → (around_of job.pred job.loops job.outer (take k x.at)).counters ≡ take k x.at
    unfolding around_of
    around-counters k l = inside-counters (forecast_of job.pred) job.outer 1 job.loops outside (take k x.at) (let d = depth-same job.scalars job.loops job.pred task.table in let e = (task.shape).deep in omega (arith, front)) (fronts-up k x.at up)
      where
        front : length (take k x.at) ≡ k
        front = length-take-le k x.at (let s = p.is.size in let d = (task.shape).deep in omega arith)

    -- the next loop inwards
    pub around-next : (k : ℕ) → k < D → (h : Option tree.Head) → head_at job.loops (k + 1) ≡ h
        → around_of job.pred job.loops job.outer (take (k + 1) x.at) ≡ inward (around_of job.pred job.loops job.outer (take k x.at)) (unsigned_abs (counter x.at k)) (name_value job.pred job.loops job.outer x.at k)
    unfolding around_of name_value
    around-next k l None is = absurd (head-there k l is)
    around-next k l (Some h) is = next
      where
        size : length x.at ≡ D
        size = p.is.size ∙ (task.shape).deep

        more : k + 1 ≡ suc k
        more = omega arith

        found : (m : Loop) × (slice_get job.loops k ≡ Some m) × (m.head ≡ h)
        found = head-loop (slice_get job.loops k) h (sym (ap (head_at job.loops) more) ∙ is)

        front : length (take k x.at) ≡ k
        front = length-take-le k x.at (omega (arith, size))

        counters-is : (inside_of (forecast_of job.pred) job.outer 1 job.loops outside (take k x.at)).counters ≡ take k x.at
        counters-is = inside-counters (forecast_of job.pred) job.outer 1 job.loops outside (take k x.at) (let d = depth-same job.scalars job.loops job.pred task.table in let e = (task.shape).deep in omega (arith, front)) (fronts-up k x.at up)

        value-is : value_in (forecast_of job.pred) job.outer h (1 + k) (inside_of (forecast_of job.pred) job.outer 1 job.loops outside (take k x.at)) (unsigned_abs (counter x.at k)) ≡ name_value job.pred job.loops job.outer x.at k
        value-is =
            values-same (forecast_of job.pred) job.outer h (1 + k) (inside_of (forecast_of job.pred) job.outer 1 job.loops outside (take k x.at)) (take k x.at) (unsigned_abs (counter x.at k)) counters-is
            ∙ (let swap : 1 + k ≡ k + 1 = omega arith in ap (λ (n : ℕ). value_in (forecast_of job.pred) job.outer h n (record { counters = take k x.at; values = [] }) (unsigned_abs (counter x.at k))) swap)
            ∙ sym (ap (λ (z : Option tree.Head). value_by (forecast_of job.pred) job.outer z (k + 1) (take k x.at) (counter x.at k)) is)

        next : around_of job.pred job.loops job.outer (take (k + 1) x.at) ≡ inward (around_of job.pred job.loops job.outer (take k x.at)) (unsigned_abs (counter x.at k)) (name_value job.pred job.loops job.outer x.at k)
        next =
            ap (inside_of (forecast_of job.pred) job.outer 1 job.loops outside) (take_more x.at k (pos 0) (omega (arith, size)))
            ∙ inside-more (forecast_of job.pred) job.outer 1 job.loops outside (take k x.at) (counter x.at k) found.0 (ap (slice_get job.loops) front ∙ found.1)
            ∙ ap₂ (λ (z : tree.Head) (n : ℕ). into (forecast_of job.pred) job.outer z n (inside_of (forecast_of job.pred) job.outer 1 job.loops outside (take k x.at)) (counter x.at k)) found.2 (ap (λ (n : ℕ). 1 + n) front)
            ∙ ap (inward (inside_of (forecast_of job.pred) job.outer 1 job.loops outside (take k x.at)) (unsigned_abs (counter x.at k))) value-is

pub around-none : (t : Table) (loops : List Loop) (o : Outer) → around_of t loops o [] ≡ outside
unfolding around_of
around-none t loops o = inside-none (forecast_of t) o 1 loops outside
