-- The walk of a launch: the instances before the one that is looked at, and that they pass.
use Rattle.std.proofs.Common.{◌≡◌, refl, sym, ap, ap₂, subst, ◌∙◌, ℕ, ◌<◌, ◌≤◌, ◌+◌, ◌-◌, ◌^◌, ℤ, pos, ◌+ℤ◌, ◌≤ℤ◌, ◌<ℤ◌, unsigned_abs, Bool, true, false, Some, None, List, [], ◌∷◌, ◌++◌, length, ◌⊎◌, inl, inr, ⊎_elim, nat_lt, nat_le, length-append, arith}
use Rattle.std.specs.Prelude.{Contains, ◌||◌, if◌then◌else◌}
use Rattle.std.specs.List.{AllByRecursion}
use Rattle.std.proofs.lemmas.Cmp.{lists_total, int_cmp_total}
use Rattle.std.proofs.lemmas.Int.{ints}
use Rattle.std.proofs.lemmas.Bool.{cases_lt}
use Rattle.std.proofs.lemmas.List.Sums.{sum_by_push}
use Rattle.std.proofs.lemmas.Bool.Decides.{nat_tests}
use Rattle.plain_lemmas.proofs.MembershipLaws.{has-cases, has-left, has-right, contains-from-has, has-from-contains}
use Rattle.plain_lemmas.specs.Lists.{Has}
use Rattle.std.proofs.lemmas.List.{get_or_default}
use Rattle.affine.specs.Forms.{AllWithinSize}
use Rattle.domain.specs.declared.chunk.Chunk.{Chunk}
use Rattle.domain.specs.declared.held.HeldWhy.{HeldWhy}
use Rattle.domain.specs.declared.held.HeldWhy.TheVariants.{Many}
use Rattle.domain.specs.Tables.{Table, IsTable}
use Rattle.domain.specs.Instances.{Instance, block_of, counter, Predicted, Precedes, Ordered, original_key, opening_at, IsSuccessor}
use Rattle.domain.specs.Steps.{next}
use Rattle.domain.specs.Launches.{widths, block_width, is_many, data_failure, failure, Passes, IsBefore, IsLaunched, IsHeld}
use Rattle.domain.proofs.NearLaws.{Follows, next-follows}
use Rattle.domain.proofs.OriginalLaws.{successor-law, precedes-three, not-back, not-itself, opening-first, opening-is, opening-turn, opening-rest, opening-last, opening-predicted}

-- ---- lists that grow by one

ordered-push : {X : Type 0} (R : X → X → Type 0) (xs : List X) (y : X) → Ordered R xs → ((x : X) → Has xs x → R x y) → Ordered R (xs ++ y ∷ [])
ordered-push R [] y o h = (tt, tt)
ordered-push {X} R (x ∷ xs) y o h = (one xs o.0, ordered-push R xs y o.1 (λ z k. h z (inr k)))
  where
    last : R x y
    last = h x (inl refl)

    one : (zs : List X) → AllByRecursion (R x) zs → AllByRecursion (R x) (zs ++ y ∷ [])
    one [] all = (last, tt)
    one (z ∷ zs) all = (all.0, one zs all.1)

-- where an element of a list with one more stands
splits : (xs us vs : List Instance) (y x : Instance) → xs ++ y ∷ [] ≡ us ++ x ∷ vs → ((ws : List Instance) × (xs ≡ us ++ x ∷ ws)) ⊎ ((xs ≡ us) × (y ≡ x))
splits [] [] vs y x e = inr (refl, (let f : y ≡ x = cc in f))
splits [] (u ∷ []) vs y x e = absurd (cc)
splits [] (u ∷ w ∷ us) vs y x e = absurd (cc)
splits (z ∷ xs) [] vs y x e = inl (xs, (let f : z ≡ x = cc in ap (λ (q : Instance). q ∷ xs) f))
splits (z ∷ xs) (u ∷ us) vs y x e =
    let first : z ≡ u = cc in
    let rest : xs ++ y ∷ [] ≡ us ++ x ∷ vs = cc in
    ⊎_elim (λ h. inl (h.0, ap₂ (λ (q : Instance) (qs : List Instance). q ∷ qs) first h.1)) (λ h. inr (ap₂ (λ (q : Instance) (qs : List Instance). q ∷ qs) first h.0, h.1)) (splits xs us vs y x rest)

passes-push : (t : Table) (words : ℤ) (xs : List Instance) (y : Instance) → Passes t words xs → failure t words xs y ≡ None → Passes t words (xs ++ y ∷ [])
passes-push t words xs y h f us x vs e =
    ⊎_elim (λ k. h us x k.0 k.1) (λ k. ap₂ (failure t words) (sym k.0) (sym k.1) ∙ f) (splits xs us vs y x e)

-- ---- the checks at one instance

many-false : (t : Table) (xs : List Instance) (x : Instance) → length xs < 65536 → widths t xs + block_width (block_of t x) ≤ 2097152 → is_many t xs x ≡ false
many-false t xs x h k =
    let a : nat_le 65536 (length xs) ≡ false = grind (arith, nat_tests) in
    let b : nat_lt 2097152 (widths t xs + block_width (block_of t x)) ≡ false = grind (arith, nat_tests) in
    ap₂ (λ (p q : Bool). p || q) a b

pub passes-here : (t : Table) (words : ℤ) (xs : List Instance) (x : Instance) → length xs < 65536 → widths t xs + block_width (block_of t x) ≤ 2097152 → failure t words xs x ≡ data_failure t words x
unfolding failure
passes-here t words xs x h k = ap (λ (b : Bool). if b then Some Many else data_failure t words x) (many-false t xs x h k)

pub many-instances : (t : Table) (words : ℤ) (xs : List Instance) (x : Instance) → 65536 ≤ length xs → failure t words xs x ≡ Some Many
unfolding failure
many-instances t words xs x h =
    let a : nat_le 65536 (length xs) ≡ true = grind (arith, nat_tests) in
    ap (λ (b : Bool). if b || nat_lt 2097152 (widths t xs + block_width (block_of t x)) then Some Many else data_failure t words x) a

or-true : (b : Bool) → b || true ≡ true
or-true true = refl
or-true false = refl

pub many-widths : (t : Table) (words : ℤ) (xs : List Instance) (x : Instance) → 2097152 < widths t xs + block_width (block_of t x) → failure t words xs x ≡ Some Many
unfolding failure
many-widths t words xs x h =
    let a : nat_lt 2097152 (widths t xs + block_width (block_of t x)) ≡ true = grind (arith, nat_tests) in
    ap (λ (b : Bool). if nat_le 65536 (length xs) || b then Some Many else data_failure t words x) a
    ∙ ap (λ (b : Bool). if b then Some Many else data_failure t words x) (or-true (nat_le 65536 (length xs)))

-- ---- the walk

pub record Walk (D : ℕ) (t : Table) (words : ℤ) (chunk : Chunk) (x : Instance) (instances width : ℕ) : Type 0 where
  pub before : List Instance
  pub count : length before ≡ instances
  pub sum : widths t before ≡ width
  pub those : IsBefore t chunk x before
  pub passes : Passes t words before
  pub at : Predicted t chunk x ⊎ (x ≡ opening_at t (chunk.first +ℤ chunk.turns))
  pub size : length x.at ≡ D
  pub up : (k : ℕ) → pos 0 ≤ℤ counter x.at k
  pub most : (k : ℕ) → counter x.at k ≤ℤ (chunk.first +ℤ pos instances)

module _ (D : ℕ) (t : Table) (is : IsTable D t) (chunk : Chunk) (words : ℤ) where
  pub walk-begins : pos 0 ≤ℤ chunk.first → pos 1 ≤ℤ chunk.turns → Walk D t words chunk (opening_at t chunk.first) 0 0
  walk-begins low some = record {
    before = [];
    count = refl;
    sum = refl;
    those = record { ordered = tt; has = λ z. (λ h. absurd (none-in z h), λ h. absurd (back z h.0 h.1)) };
    passes = λ us x vs e. absurd (empty us x vs e);
    at = inl (opening-predicted D t is chunk chunk.first (omega (arith, ints)) (omega (arith, ints)));
    size = (opening-is D t is chunk chunk.first).0.size ∙ is.deep;
    up = λ k. ⊎_elim (λ l. let e = opening-rest D t is chunk chunk.first k (omega arith) in omega (arith, ints)) (λ l. let f : 0 ≡ k = omega arith in let e = opening-turn D t is chunk chunk.first in subst (λ (n : ℕ). pos 0 ≤ℤ counter (opening_at t chunk.first).at n) f (omega (arith, ints))) (cases_lt 0 k);
    most = λ k. ⊎_elim (λ l. let e = opening-rest D t is chunk chunk.first k (omega arith) in omega (arith, ints)) (λ l. let f : 0 ≡ k = omega arith in let e = opening-turn D t is chunk chunk.first in subst (λ (n : ℕ). counter (opening_at t chunk.first).at n ≤ℤ (chunk.first +ℤ pos 0)) f (omega (arith, ints))) (cases_lt 0 k);
  }
    where
      none-in : (z : Instance) → Contains [] z → ⊥
      none-in z h = has-from-contains [] z h

      empty : (us : List Instance) (x : Instance) (vs : List Instance) → [] ≡ us ++ x ∷ vs → ⊥
      empty [] x vs e = cc
      empty (u ∷ us) x vs e = cc

      back : (z : Instance) → Predicted t chunk z → Precedes t z (opening_at t chunk.first) → ⊥
      back z p h = ⊎_elim (λ e. not-itself (original_key t z) (subst (λ (y : Instance). Precedes t z y) (sym e) h)) (λ k. not-back (original_key t z) (original_key t (opening_at t chunk.first)) h k) (opening-first D t is chunk z p)

  trans : (x y z : Instance) → Precedes t x y → Precedes t y z → Precedes t x z
  trans x y z h k = (lists_total int_cmp_total).trans (original_key t x) (original_key t y) (original_key t z) h k

  pub walk-goes : (x y : Instance) (instances width : ℕ) (w : Walk D t words chunk x instances width) → y ≡ next t x → Predicted t chunk x → failure t words w.before x ≡ None → Walk D t words chunk y (instances + 1) (width + block_width (block_of t x))
  walk-goes x y instances width w e p f = subst (λ (z : Instance). Walk D t words chunk z (instances + 1) (width + block_width (block_of t x))) (sym e) (record {
    before = w.before ++ x ∷ [];
    count = let a = length-append w.before (x ∷ []) in let b = w.count in omega arith;
    sum = sum_by_push (λ z. block_width (block_of t z)) w.before x ∙ ap (λ n. n + block_width (block_of t x)) w.sum;
    those = record { ordered = ordered-push (Precedes t) w.before x w.those.ordered (λ z h. ((w.those.has z).0 (contains-from-has w.before z h)).1); has = λ z. (there z, back z) };
    passes = passes-push t words w.before x w.passes f;
    at = law.is;
    size = follows.size ∙ w.size;
    up = follows.up w.up;
    most = λ k. let a = follows.most w.up k in let b = w.most k in omega (arith, ints);
  })
    where
      law : IsSuccessor t chunk x (next t x)
      law = successor-law D t is chunk x p

      follows : Follows x.at (next t x).at
      follows = next-follows t x

      there : (z : Instance) → Contains (w.before ++ x ∷ []) z → Predicted t chunk z × Precedes t z (next t x)
      there z h = ⊎_elim
          (λ k. let both = (w.those.has z).0 (contains-from-has w.before z k) in (both.0, trans z x (next t x) both.1 law.after))
          (λ k. at-last k) (has-cases w.before (x ∷ []) z (has-from-contains (w.before ++ x ∷ []) z h))
        where
          at-last : Has (x ∷ []) z → Predicted t chunk z × Precedes t z (next t x)
          at-last (inl same) = (subst (Predicted t chunk) (sym same) p, subst (λ (q : Instance). Precedes t q (next t x)) (sym same) law.after)
          at-last (inr k) = absurd k

      back : (z : Instance) → Predicted t chunk z × Precedes t z (next t x) → Contains (w.before ++ x ∷ []) z
      back z (q, l) =
          contains-from-has (w.before ++ x ∷ []) z
          (⊎_elim (λ k. has-left w.before (x ∷ []) z (has-from-contains w.before z ((w.those.has z).1 (q, k))))
          (λ k. ⊎_elim (λ same. has-right w.before (x ∷ []) z (inl same))
          (λ m. absurd (⊎_elim (λ same. not-itself (original_key t z) (subst (λ (v : Instance). Precedes t z v) (sym same) l)) (λ o. not-back (original_key t z) (original_key t (next t x)) l o) (law.next z q m))) k)
          (precedes-three D t is chunk z x q.is p.is))

  -- where the turn is past the chunk, the walk has gone over the whole list
  pub walk-ends : (x : Instance) (instances width : ℕ) → Walk D t words chunk x instances width → (chunk.first +ℤ chunk.turns) ≤ℤ counter x.at 0 → IsLaunched t words chunk instances
  walk-ends x instances width w past = record {
    list = w.before;
    original = record { ordered = w.those.ordered; has = λ z. (λ h. ((w.those.has z).0 h).0, λ p. (w.those.has z).1 (p, precedes z p)) };
    count = w.count;
    passes = w.passes;
  }
    where
      end : x ≡ opening_at t (chunk.first +ℤ chunk.turns)
      end = ⊎_elim (λ p. absurd (let b = p.turn.below in omega (arith, ints))) (λ e. e) w.at

      precedes : (z : Instance) → Predicted t chunk z → Precedes t z x
      precedes z p =
          subst (λ (v : Instance). Precedes t z v) (sym end) (opening-last D t is chunk z p)

  pub walk-in : (x : Instance) (instances width : ℕ) → Walk D t words chunk x instances width → counter x.at 0 <ℤ (chunk.first +ℤ chunk.turns) → Predicted t chunk x
  walk-in x instances width w h = ⊎_elim (λ p. p) (λ e. absurd (let f = ap (λ (v : Instance). counter v.at 0) e ∙ opening-turn D t is chunk (chunk.first +ℤ chunk.turns) in omega (arith, ints))) w.at

  pub walk-held : (x : Instance) (why : HeldWhy) (instances width : ℕ) (w : Walk D t words chunk x instances width) → Predicted t chunk x → failure t words w.before x ≡ Some why → IsHeld t words chunk x why
  walk-held x why instances width w p f = record { predicted = p; before = w.before; those = w.those; passes = w.passes; fails = f }

  -- the counters of a walk are near
  pub walk-near : (x : Instance) (instances width : ℕ) → Walk D t words chunk x instances width → chunk.first ≤ℤ pos (2 ^ 32) → instances ≤ 65536 → AllWithinSize (2 ^ 33) x.at
  walk-near x instances width w to few k d l = subst (λ (z : ℤ). unsigned_abs z ≤ 2 ^ 33) (get_or_default x.at k (pos 0) d l) (near (counter x.at k) (w.up k) (w.most k))
    where
      near : (z : ℤ) → pos 0 ≤ℤ z → z ≤ℤ (chunk.first +ℤ pos instances) → unsigned_abs z ≤ 2 ^ 33
      near z low high = let a = to in let b = few in omega (arith, ints)

  pub walk-turns : (x : Instance) (instances width : ℕ) → Walk D t words chunk x instances width → chunk.first ≤ℤ pos (2 ^ 32) → instances ≤ 65536 → (k : ℕ) → counter x.at k <ℤ pos (2 ^ 63 - 1)
  walk-turns x instances width w to few k = let h = w.most k in omega (arith, ints)
