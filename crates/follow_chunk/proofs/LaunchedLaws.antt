-- Launched: what a launch makes sure of, where an instance is run.
use Rattle.std.proofs.Common.{◌≡◌, refl, sym, ap, ap₂, ◌∙◌, subst, ℕ, zero, suc, ◌*◌, ◌<◌, ◌≤◌, ◌-◌, ◌+◌, ℤ, pos, negsuc, ◌+ℤ◌, ◌-ℤ◌, ◌*ℤ◌, ◌≤ℤ◌, ◌<ℤ◌, FitsSigned, w64, Bool, true, false, List, [], ◌∷◌, Option, Some, None, map, get_or, nat_lt, inr, arith}
use Rattle.std.specs.Prelude.{if◌then◌else◌}
use Rattle.std.proofs.lemmas.Int.{ints}
use Rattle.std.proofs.lemmas.Bool.Decides.{nat_tests}
use Rattle.std.proofs.Math.IntN.{pos-*ℤ-pos, negsuc-*ℤ-pos}
use Rattle.std.proofs.Math.Nat.{mul-le-mul_left}
use Rattle.affine.specs.Forms.{Affine, value_at}
use Rattle.nest_lang.specs.declared.tree.Part.{Part}
use Rattle.nest_lang.specs.declared.tree.Part.TheVariants.{Head}
use Rattle.nest_lang.specs.declared.tree.Loop.{Loop}
use Rattle.nest_lang.specs.declared.state.Outer.{Outer}
use Rattle.nest_lang.specs.Values.{is_i64, same, turn_value}
use Rattle.domain.specs.declared.chunk.Chunk.{Chunk}
use Rattle.domain.specs.declared.held.HeldWhy.{HeldWhy}
use Rattle.domain.specs.declared.held.HeldWhy.TheVariants.{Lower, Last, Scalar}
use Rattle.domain.specs.declared.table.LoopKind.{LoopKind}
use Rattle.domain.specs.declared.table.LoopKind.TheVariants.{For}
use Rattle.domain.specs.Tables.{Table, level_at, turning, cut, trip}
use Rattle.domain.specs.Instances.{Instance, instance, block_of, counter, Predicted}
use Rattle.domain.specs.Launches.{first_of, scalar_failure, scalars_failure, stores_failure, trip_failure, lower_failure, last_failure, loop_failure, head_by, data_failure}
use Rattle.domain.proofs.LaunchedLaws.{launched-data}
use Rattle.domain.proofs.PointLaws.{length-cut, cut-before, cut-after, trip-cut, trip-none}
use Rattle.domain.proofs.RankLaws.{Stands}
use Rattle.domain.proofs.LeadLaws.{entered}
use Rattle.follow.proofs.HeadYieldLaws.{same-exact}
use Rattle.follow_chunk.specs.Predicted.{value_or_zero}
use Rattle.follow_chunk.specs.Tasks.{TaskState, IsTask}

second-none : (a b : Option HeldWhy) → first_of a b ≡ None → b ≡ None
second-none None b e = e
second-none (Some w) b e = absurd (cc)

first-none : (a b : Option HeldWhy) → first_of a b ≡ None → a ≡ None
first-none None b e = refl
first-none (Some w) b e = absurd (cc)

is_i64-fits : (z : ℤ) → is_i64 z ≡ true → FitsSigned w64 z
is_i64-fits (pos n) h = let l : n < 9223372036854775808 = grind (arith, nat_tests) in omega (arith, ints)
is_i64-fits (negsuc n) h = let l : n < 9223372036854775808 = grind (arith, nat_tests) in omega (arith, ints)

-- a test that would be a failure
passed : (z : ℤ) (why : HeldWhy) → (if is_i64 z then None else Some why) ≡ None → FitsSigned w64 z
passed z why e = at (is_i64 z) refl
  where
    at : (b : Bool) → is_i64 z ≡ b → FitsSigned w64 z
    at true f = is_i64-fits z f
    at false f = absurd (let g : Some why ≡ None = sym (ap (λ (b : Bool). if b then None else Some why) f) ∙ e in cc)

-- ---- scalars

scalar-fits : (f : Option Affine) (number : ℕ) (at : List ℤ) → scalar_failure number f at ≡ None → FitsSigned w64 (value_or_zero f at)
scalar-fits None number at e = omega (arith, ints)
scalar-fits (Some form) number at e = passed (value_at form at) (Scalar number (value_at form at)) e

pub scalars-fit : (fs : List (Option Affine)) (n : ℕ) (at : List ℤ) → scalars_failure n fs at ≡ None → (k : ℕ) → FitsSigned w64 (get_or (map (λ f. value_or_zero f at) fs) k (pos 0))
scalars-fit [] n at e k = omega (arith, ints)
scalars-fit (f ∷ fs) n at e zero = scalar-fits f n at (first-none (scalar_failure n f at) (scalars_failure (n + 1) fs at) e)
scalars-fit (f ∷ fs) n at e (suc k) = scalars-fit fs (n + 1) at (second-none (scalar_failure n f at) (scalars_failure (n + 1) fs at) e) k

-- ---- values of names

pub between-fits : (start growth : ℤ) (i k : ℕ) → i ≤ k → FitsSigned w64 start → FitsSigned w64 (start +ℤ growth *ℤ pos k) → FitsSigned w64 (start +ℤ growth *ℤ pos i)
between-fits start (pos g) i k h f l =
    let m : g * i ≤ g * k = mul-le-mul_left g h in
    let last : FitsSigned w64 (start +ℤ pos (g * k)) = subst (λ (z : ℤ). FitsSigned w64 (start +ℤ z)) (pos-*ℤ-pos g k) l in
    subst (λ (z : ℤ). FitsSigned w64 (start +ℤ z)) (sym (pos-*ℤ-pos g i)) (omega (arith, ints))
between-fits start (negsuc g) i k h f l =
    let m : suc g * i ≤ suc g * k = mul-le-mul_left (suc g) h in
    let last = subst (λ (z : ℤ). FitsSigned w64 (start +ℤ z)) (negsuc-*ℤ-pos g k) l in
    subst (λ (z : ℤ). FitsSigned w64 (start +ℤ z)) (sym (negsuc-*ℤ-pos g i)) (omega (arith, ints))

not-same : (m : ℕ) (b : Bool) → same (pos (suc m)) (pos 0) ≡ b → b ≡ false
not-same m true e = absurd (let f = same-exact (pos (suc m)) (pos 0) e in omega (arith, ints))
not-same m false e = refl

checked : (m : ℕ) (b : Bool) (why : Option HeldWhy) → same (pos (suc m)) (pos 0) ≡ b → (if same (pos (suc m)) (pos 0) then None else why) ≡ None → why ≡ None
checked m b why e h = sym (ap (λ (c : Bool). if c then None else why) (e ∙ not-same m b e)) ∙ h

-- the values of a `for` whose checks pass
value-fits : (form : Affine) (stride z : ℤ) (at : List ℤ) (i : ℕ) → lower_failure (Some form) at ≡ None → last_failure (Some form) stride z at ≡ None → pos i <ℤ z → FitsSigned w64 (turn_value (value_at form at) stride i)
value-fits form stride (negsuc m) at i low last l = absurd (omega (arith, ints))
value-fits form stride (pos zero) at i low last l = absurd (omega (arith, ints))
value-fits form stride (pos (suc m)) at i low last l =
    let less : pos (suc m) -ℤ pos 1 ≡ pos m = omega (arith, ints) in
    let final : FitsSigned w64 (value_at form at +ℤ stride *ℤ (pos (suc m) -ℤ pos 1)) =
    passed (value_at form at +ℤ stride *ℤ (pos (suc m) -ℤ pos 1)) (Last (value_at form at +ℤ stride *ℤ (pos (suc m) -ℤ pos 1))) (checked m (same (pos (suc m)) (pos 0)) _ refl last) in
    between-fits (value_at form at) stride i m (omega (arith, ints)) (passed (value_at form at) (Lower (value_at form at)) low)
    (subst (λ (y : ℤ). FitsSigned w64 (value_at form at +ℤ stride *ℤ y)) less final)

pub loop-fits : (lower : Option Affine) (kind : LoopKind) (stride z turn : ℤ) (at : List ℤ) (i : ℕ) → kind ≡ For stride → loop_failure kind lower z turn at ≡ None → (lower ≡ None → z ≡ pos 0) → pos i <ℤ z
    → FitsSigned w64 (value_or_zero lower at) × FitsSigned w64 (turn_value (value_or_zero lower at) stride i)
loop-fits None kind stride z turn at i is e none l = absurd (let f = none refl in omega (arith, ints))
loop-fits (Some form) kind stride z turn at i is e none l =
    let f : loop_failure (For stride) (Some form) z turn at ≡ None = sym (ap (λ (k : LoopKind). loop_failure k (Some form) z turn at) is) ∙ e in
    let low = first-none (lower_failure (Some form) at) (first_of (trip_failure z) (last_failure (Some form) stride z at)) f in
    let rest = second-none (lower_failure (Some form) at) (first_of (trip_failure z) (last_failure (Some form) stride z at)) f in
    let last = second-none (trip_failure z) (last_failure (Some form) stride z at) rest in
    (passed (value_at form at) (Lower (value_at form at)) low, value-fits form stride z at i low last l)

module _ (D : ℕ) (job : TaskState) (words : ℤ) (task : IsTask D job words) where
  data-none : (x : Instance) → Predicted job.pred job.chunk x → data_failure job.pred words x ≡ None
  data-none x p = launched-data job.pred words job.chunk (task.launched).0 x (task.launched).1 p

  heads-none : (x : Instance) → Predicted job.pred job.chunk x → head_by (block_of job.pred x).part (block_of job.pred x).level job.pred x.at ≡ None
  heads-none x p =
      second-none (stores_failure words 1 (block_of job.pred x).accesses x.at) (head_by (block_of job.pred x).part (block_of job.pred x).level job.pred x.at)
      (second-none (scalars_failure 0 (block_of job.pred x).scalars x.at) (first_of (stores_failure words 1 (block_of job.pred x).accesses x.at) (head_by (block_of job.pred x).part (block_of job.pred x).level job.pred x.at)) (data-none x p))

  pub scalars-none : (x : Instance) → Predicted job.pred job.chunk x → scalars_failure 0 (block_of job.pred x).scalars x.at ≡ None
  scalars-none x p = first-none (scalars_failure 0 (block_of job.pred x).scalars x.at) (first_of (stores_failure words 1 (block_of job.pred x).accesses x.at) (head_by (block_of job.pred x).part (block_of job.pred x).level job.pred x.at)) (data-none x p)

  -- the head of a loop around an instance that is in a turn of it
  pub head-predicted : (x : Instance) (k rank : ℕ) → Predicted job.pred job.chunk x → 1 ≤ k → k < turning (block_of job.pred x) → Stands job.pred Head (suc k) rank → Predicted job.pred job.chunk (instance rank (cut k x.at))
  head-predicted x k rank p some inside s =
      entered D job.pred task.shape job.chunk k rank (cut k x.at) some (length-cut k x.at ∙ p.is.size ∙ (task.shape).deep)
      (record {
        from = subst (λ (v : ℤ). job.chunk.first ≤ℤ v) (sym (cut-before k x.at 0 some)) p.turn.from;
        below = subst (λ (v : ℤ). v <ℤ (job.chunk.first +ℤ job.chunk.turns)) (sym (cut-before k x.at 0 some)) p.turn.below;
        inner = λ j l m. let b = p.turn.inner j l (omega arith) in (
          subst (λ (v : ℤ). pos 0 ≤ℤ v) (sym (cut-before k x.at j m)) b.0,
          subst (λ (v : ℤ). v <ℤ trip job.pred j (cut k x.at)) (sym (cut-before k x.at j m)) (subst (λ (v : ℤ). counter x.at j <ℤ v) (sym (trip-cut job.pred j k x.at (omega arith))) b.1),
        );
      })
      (λ j l. cut-after k x.at j l) (inr s)

  -- the lower bound and the value of a `for` around an instance
  pub name-fits : (x : Instance) (k rank : ℕ) (stride : ℤ) (i : ℕ) → Predicted job.pred job.chunk x → 1 ≤ k → k < turning (block_of job.pred x) → Stands job.pred Head (suc k) rank → (level_at job.pred k).kind ≡ For stride → pos i <ℤ trip job.pred k x.at
      → FitsSigned w64 (value_or_zero (level_at job.pred k).lower (cut k x.at)) × FitsSigned w64 (turn_value (value_or_zero (level_at job.pred k).lower (cut k x.at)) stride i)
  name-fits x k rank stride i p some inside s is l =
      let h = heads-none (instance rank (cut k x.at)) (head-predicted x k rank p some inside s) in
      let head : head_by Head (suc k) job.pred (cut k x.at) ≡ None = sym (ap₂ (λ (q : Part) (n : ℕ). head_by q n job.pred (cut k x.at)) s.part-is s.level-is) ∙ h in
      let test : nat_lt 1 (suc k) ≡ true = grind (arith, nat_tests) in
      let around : suc k - 1 ≡ k = omega arith in
      let loop : loop_failure (level_at job.pred k).kind (level_at job.pred k).lower (trip job.pred k (cut k x.at)) (counter (cut k x.at) k) (cut k x.at) ≡ None =
      sym (ap (λ (n : ℕ). loop_failure (level_at job.pred n).kind (level_at job.pred n).lower (trip job.pred n (cut k x.at)) (counter (cut k x.at) n) (cut k x.at)) around)
      ∙ sym (ap (λ (b : Bool). if b then loop_failure (level_at job.pred (suc k - 1)).kind (level_at job.pred (suc k - 1)).lower (trip job.pred (suc k - 1) (cut k x.at)) (counter (cut k x.at) (suc k - 1)) (cut k x.at) else None) test) ∙ head in
      loop-fits (level_at job.pred k).lower (level_at job.pred k).kind stride (trip job.pred k (cut k x.at)) (counter (cut k x.at) k) (cut k x.at) i is loop
      (λ none. trip-none job.pred k (cut k x.at) (task.lowers k stride is none))
      (subst (λ (v : ℤ). pos i <ℤ v) (sym (trip-cut job.pred k k x.at (omega arith))) l)
