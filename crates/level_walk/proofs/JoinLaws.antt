-- Runs that are joined point by point, in the order of the points.
use Rattle.std.proofs.Common.{◌≡◌, ℕ, ◌+◌, ◌<◌, ◌≤◌, ℤ, pos, ◌+ℤ◌, ◌-ℤ◌, ◌≤ℤ◌, ◌<ℤ◌, Bool, true, false, List, [], ◌∷◌, ◌++◌, map, length, take, drop, get_or, length-append, inl, inr, ⊎_elim, refl, sym, ap, ap₂, ◌∙◌, subst, Ordering, Less, Equal, Greater, int_cmp, arith}
use Rattle.std.specs.Prelude.{◌⊎◌, if◌then◌else◌, None}
use Rattle.std.specs.Cmp.{int_ranks}
use Rattle.std.specs.Cmp.Lexicographic.{slice_cmp}
use Rattle.std.specs.Ordering.{MatchOrdering, ordering_then}
use Rattle.std.proofs.lemmas.Int.{ints}
use Rattle.std.proofs.lemmas.List.{drop_more, take_all, take_more, take-append-drop, append-nil}
use Rattle.std.proofs.lemmas.Cmp.{int_cmp_total, lists_total, tied_itself}
use Rattle.plain_lemmas.proofs.OrderLaws.{cases-int_cmp, slice_cmp-append-same, slice_cmp-exact}
use Rattle.arrayvec.specs.ArrayVec.{ArrayVec}
use Rattle.orders.specs.Orders.{Ordered}
use Rattle.plain_lemmas.specs.Lists.{Has}
use Rattle.orders.proofs.ListLaws.{ordered-across, ordered-without, ordered-append}
use Rattle.level_walk.specs.Lattices.{in_box}
use Rattle.level_walk.specs.Listed.{left_after}
use Rattle.level_walk.specs.Listings.{IsListing, listed_in}
use Rattle.level_walk.specs.Orders.{Precedes}
use Rattle.level_walk.specs.Stretches.{AreRunsOf, IsRunOf, LiesAmong, RunComes, point_at}
use Rattle.level_walk.specs.declared.runs.Run.{Run}
use Rattle.level_walk.proofs.ListLaws.{from-listed, long-listed, never-itself}
use Rattle.level_walk.proofs.LeastOfListLaws.{left-from, left-to}
use Rattle.plain_lemmas.proofs.MembershipLaws.{has-cases, has-left, has-right}
use Rattle.level_walk.proofs.RunLaws.{runs-meet, runs-same, same-last}

-- ---- order

first-step : (a b : ℤ) (o : Ordering) → ordering_then (int_cmp a b) o ≡ Less → (a <ℤ b) ⊎ ((a ≡ b) × (o ≡ Less))
first-step a b o h = at (int_cmp a b) (int_ranks a b) h
  where
    at : (r : Ordering) → MatchOrdering r (a <ℤ b) (a ≡ b) (b <ℤ a) → ordering_then r o ≡ Less → (a <ℤ b) ⊎ ((a ≡ b) × (o ≡ Less))
    at Less k e = inl k
    at Equal k e = inr (k, e)
    at Greater k e = absurd (let w : Greater ≡ Less = e in cc)

last-less : (front : List ℤ) (a b : ℤ) → Precedes (front ++ a ∷ []) (front ++ b ∷ []) → a <ℤ b
last-less front a b h = ⊎_elim (λ l. l) (λ k. absurd (let w : Equal ≡ Less = k.1 in cc)) (first-step a b Equal (sym (slice_cmp-append-same front (a ∷ []) (b ∷ [])) ∙ h))

-- a point between two with one front has that front
between : (f g : List ℤ) (a b c : ℤ) → length g ≡ length f → Precedes (f ++ a ∷ []) (g ++ b ∷ []) → Precedes (g ++ b ∷ []) (f ++ c ∷ []) → g ≡ f
between [] [] a b c size h k = refl
between [] (y ∷ g) a b c size h k = absurd (omega arith)
between (x ∷ f) [] a b c size h k = absurd (omega arith)
between (x ∷ f) (y ∷ g) a b c size h k = at (first-step x y (slice_cmp int_cmp (f ++ a ∷ []) (g ++ b ∷ [])) h) (first-step y x (slice_cmp int_cmp (g ++ b ∷ []) (f ++ c ∷ [])) k) (λ l m. between f g a b c (omega arith) l m)
  where
    at : (x <ℤ y) ⊎ ((x ≡ y) × Precedes (f ++ a ∷ []) (g ++ b ∷ [])) → (y <ℤ x) ⊎ ((y ≡ x) × Precedes (g ++ b ∷ []) (f ++ c ∷ [])) → (Precedes (f ++ a ∷ []) (g ++ b ∷ []) → Precedes (g ++ b ∷ []) (f ++ c ∷ []) → g ≡ f) → y ∷ g ≡ x ∷ f
    at (inl l) (inl m) more = absurd (omega (arith, ints, l, m))
    at (inl l) (inr m) more = absurd (let e = m.0 in omega (arith, ints, l, e))
    at (inr l) (inl m) more = absurd (let e = l.0 in omega (arith, ints, m, e))
    at (inr l) (inr m) more = ap₂ (λ z zs. z ∷ zs) m.0 (more l.1 m.1)

same-or-not : (xs ys : List ℤ) → (xs ≡ ys) ⊎ (xs ≡ ys → ⊥)
same-or-not xs ys = at (slice_cmp int_cmp xs ys) refl
  where
    itself : slice_cmp int_cmp ys ys ≡ Equal
    itself = tied_itself (lists_total int_cmp_total) ys

    at : (o : Ordering) → slice_cmp int_cmp xs ys ≡ o → (xs ≡ ys) ⊎ (xs ≡ ys → ⊥)
    at Less f = inr (λ e. let w : Less ≡ Equal = sym f ∙ ap (λ (zs : List ℤ). slice_cmp int_cmp zs ys) e ∙ itself in cc)
    at Equal f = inl (slice_cmp-exact xs ys f)
    at Greater f = inr (λ e. let w : Greater ≡ Equal = sym f ∙ ap (λ (zs : List ℤ). slice_cmp int_cmp zs ys) e ∙ itself in cc)

-- the run up to another last value
abbrev pub lengthened : Run → ℤ → Run
lengthened r high = record { front = r.front; low = r.low; high = high }

-- ---- one point more, which comes after all before it

module _ (xs : List (List ℤ)) (rs : List Run) (p : Run) (joined : AreRunsOf xs rs) (one : p.low ≡ p.high) (after : (z : List ℤ) → Has xs z → Precedes z (point_at p p.low)) (long : (z : List ℤ) → Has xs z → length z ≡ length p.front.items + 1) where
  abbrev point : List ℤ
  point = point_at p p.low

  abbrev more : List (List ℤ)
  more = xs ++ point ∷ []

  old : (z : List ℤ) → Has xs z → Has more z
  old z h = has-left xs (point ∷ []) z h

  new : Has more point
  new = has-right xs (point ∷ []) point (inl refl)

  parts : (z : List ℤ) → Has more z → Has xs z ⊎ (z ≡ point)
  parts z h = ⊎_elim (λ k. inl k) (λ k. inr (only k)) (has-cases xs (point ∷ []) z h)
    where
      only : Has (point ∷ []) z → z ≡ point
      only (inl e) = e
      only (inr k) = absurd k

  below : (front : List ℤ) (value : ℤ) → front ≡ p.front.items → Has xs (front ++ value ∷ []) → value <ℤ p.low
  below front value e h = let k = subst (λ (fs : List ℤ). Has xs (fs ++ value ∷ [])) e h in last-less p.front.items value p.low (after (p.front.items ++ value ∷ []) k)

  run-of : (r : Run) → Has rs r → IsRunOf xs r
  run-of r h = (joined.has r).0 h

  -- a run that doesn't end right before the point stays one
  kept : (r : Run) → IsRunOf xs r → (r.front.items ≡ p.front.items → r.high +ℤ pos 1 ≡ p.low → ⊥) → IsRunOf more r
  kept r is apart = record {
    some = is.some;
    all = λ v l h. old (point_at r v) (is.all v l h);
    begins = λ h. ⊎_elim (λ k. is.begins k)
        (λ e.
        let s = same-last r.front.items p.front.items (r.low -ℤ pos 1) p.low e in
        let f = s.1 in
        let l = below r.front.items r.low s.0 (is.all r.low (omega (arith, ints)) is.some) in
        omega (arith, ints, l, f))
        (parts (point_at r (r.low -ℤ pos 1)) h);
    ends = λ h. ⊎_elim (λ k. is.ends k) (λ e. let s = same-last r.front.items p.front.items (r.high +ℤ pos 1) p.low e in apart s.0 s.1) (parts (point_at r (r.high +ℤ pos 1)) h);
  }

  -- a run without the point was one
  was : (r : Run) → IsRunOf more r → (r.front.items ≡ p.front.items → r.low ≤ℤ p.low → p.low ≤ℤ r.high → ⊥) → IsRunOf xs r
  was r is apart = record {
    some = is.some;
    all = λ v l h. ⊎_elim (λ k. k)
        (λ e.
        let s = same-last r.front.items p.front.items v p.low e in
        let f = s.1 in
        absurd (apart s.0 (omega (arith, ints, f, l)) (omega (arith, ints, f, h))))
        (parts (point_at r v) (is.all v l h));
    begins = λ h. is.begins (old (point_at r (r.low -ℤ pos 1)) h);
    ends = λ h. is.ends (old (point_at r (r.high +ℤ pos 1)) h);
  }

  -- the point lies in a run or it doesn't
  lies : (r : Run) → ((r.front.items ≡ p.front.items) × (r.low ≤ℤ p.low) × (p.low ≤ℤ r.high)) ⊎ (r.front.items ≡ p.front.items → r.low ≤ℤ p.low → p.low ≤ℤ r.high → ⊥)
  lies r = ⊎_elim (λ e. cases-int_cmp p.low r.low
      (λ l. inr (λ f g h. omega (arith, ints, l, g)))
      (λ l. up e (omega (arith, ints, l)))
      (λ l. up e (omega (arith, ints, l))))
      (λ n. inr (λ f g h. n f))
      (same-or-not r.front.items p.front.items)
    where
      up : r.front.items ≡ p.front.items → r.low ≤ℤ p.low → ((r.front.items ≡ p.front.items) × (r.low ≤ℤ p.low) × (p.low ≤ℤ r.high)) ⊎ (r.front.items ≡ p.front.items → r.low ≤ℤ p.low → p.low ≤ℤ r.high → ⊥)
      up e g = cases-int_cmp r.high p.low (λ l. inr (λ f g h. omega (arith, ints, l, h))) (λ l. inl (e, g, omega (arith, ints, l))) (λ l. inl (e, g, omega (arith, ints, l)))

  -- ---- the point begins a run

  pub joined-new : (Has xs (point_at p (p.low -ℤ pos 1)) → ⊥) → AreRunsOf (xs ++ point_at p p.low ∷ []) (rs ++ p ∷ [])
  joined-new gap = record {
    ordered = ordered-append RunComes rs (p ∷ []) joined.ordered (tt, tt) across;
    has = λ r. (
      λ h. ⊎_elim (λ k. kept r (run-of r k) (λ f e. gap (subst (λ (z : List ℤ). Has xs z) (ends r f e) ((run-of r k).all r.high (run-of r k).some (omega (arith, ints)))))) (λ k. only r k) (has-cases rs (p ∷ []) r h),
      λ is. ⊎_elim
          (λ m. has-right rs (p ∷ []) r (inl (runs-meet more r p p.low is single m.0 m.1 m.2 (omega (arith, ints)) (omega (arith, ints, one)))))
          (λ n. has-left rs (p ∷ []) r ((joined.has r).1 (was r is n)))
          (lies r),
    );
    covers = λ z h. ⊎_elim (λ k. among z (joined.covers z k))
        (λ e. record { run = p; there = has-right rs (p ∷ []) p (inl refl); value = p.low; from = omega (arith, ints); to = omega (arith, ints, one); is = e })
        (parts z h);
  }
    where
      single : IsRunOf more p
      single = record {
        some = omega (arith, ints, one);
        all = λ v l h. subst (λ (z : ℤ). Has more (p.front.items ++ z ∷ [])) (omega (arith, ints, l, h, one)) new;
        begins = λ h. ⊎_elim gap (λ e. let f = (same-last p.front.items p.front.items (p.low -ℤ pos 1) p.low e).1 in omega (arith, ints, f)) (parts (point_at p (p.low -ℤ pos 1)) h);
        ends = λ h. ⊎_elim (λ k. let l = below p.front.items (p.high +ℤ pos 1) refl k in omega (arith, ints, l, one))
            (λ e. let f = (same-last p.front.items p.front.items (p.high +ℤ pos 1) p.low e).1 in omega (arith, ints, f, one)) (parts (point_at p (p.high +ℤ pos 1)) h);
      }

      across : (r q : Run) → Has rs r → Has (p ∷ []) q → RunComes r q
      across r q h (inl e) = subst (RunComes r) (sym e) (after (point_at r r.low) ((run-of r h).all r.low (omega (arith, ints)) (run-of r h).some))
      across r q h (inr k) = absurd k

      only : (r : Run) → Has (p ∷ []) r → IsRunOf more r
      only r (inl e) = subst (IsRunOf more) (sym e) single
      only r (inr k) = absurd k

      ends : (r : Run) → r.front.items ≡ p.front.items → r.high +ℤ pos 1 ≡ p.low → point_at r r.high ≡ point_at p (p.low -ℤ pos 1)
      ends r f e = ap (λ (fs : List ℤ). fs ++ r.high ∷ []) f ∙ ap (λ (z : ℤ). p.front.items ++ z ∷ []) (let g : r.high ≡ p.low -ℤ pos 1 = omega (arith, ints, e) in g)

      among : (z : List ℤ) → LiesAmong rs z → LiesAmong (rs ++ p ∷ []) z
      among z l = record { run = l.run; there = has-left rs (p ∷ []) l.run l.there; value = l.value; from = l.from; to = l.to; is = l.is }

  -- where there is no run yet, or the last one doesn't end right before the point, the point before isn't listed
  gap-none : rs ≡ [] → Has xs (point_at p (p.low -ℤ pos 1)) → ⊥
  gap-none e h = subst (λ (l : List Run). Has l (joined.covers (point_at p (p.low -ℤ pos 1)) h).run) e (joined.covers (point_at p (p.low -ℤ pos 1)) h).there

  gap-last : (us : List Run) (l : Run) → rs ≡ us ++ l ∷ [] → (l.front.items ≡ p.front.items → l.high +ℤ pos 1 ≡ p.low → ⊥) → Has xs (point_at p (p.low -ℤ pos 1)) → ⊥
  gap-last us l split apart h = ⊎_elim before (λ k. only k) (has-cases us (l ∷ []) q (subst (λ (list : List Run). Has list q) split lying.there))
    where
      lying : LiesAmong rs (point_at p (p.low -ℤ pos 1))
      lying = joined.covers (point_at p (p.low -ℤ pos 1)) h

      q : Run
      q = lying.run

      same : (p.front.items ≡ q.front.items) × (p.low -ℤ pos 1 ≡ lying.value)
      same = same-last p.front.items q.front.items (p.low -ℤ pos 1) lying.value lying.is

      isq : IsRunOf xs q
      isq = run-of q lying.there

      isl : IsRunOf xs l
      isl = run-of l (subst (λ (list : List Run). Has list l) (sym split) (has-right us (l ∷ []) l (inl refl)))

      top : q.high ≡ p.low -ℤ pos 1
      top = cases-int_cmp q.high (p.low -ℤ pos 1)
          (λ k. let e = same.1 in let t = lying.to in absurd (omega (arith, ints, k, e, t)))
          (λ e. e)
          (λ k. let e = same.1 in let f = lying.from in
          let b = below q.front.items p.low (sym same.0) (isq.all p.low (omega (arith, ints, f, e)) (omega (arith, ints, k))) in absurd (omega (arith, ints, b)))

      only : Has (l ∷ []) q → ⊥
      only (inl e) = apart (ap (λ (r : Run). r.front.items) (sym e) ∙ sym same.0) (let t = top in let f : l.high ≡ q.high = ap (λ (r : Run). r.high) (sym e) in omega (arith, ints, t, f))
      only (inr k) = k

      before : Has us q → ⊥
      before k =
          let comes : RunComes q l = ordered-across RunComes us (l ∷ []) q l (subst (Ordered RunComes) split joined.ordered) k (inl refl) in
          let here = isl.all l.low (omega (arith, ints)) isl.some in
          let next = after (point_at l l.low) here in
          let size : length l.front.items ≡ length p.front.items = (let a = long (point_at l l.low) here in let b = length-append l.front.items (l.low ∷ []) in omega (arith, a, b)) in
          let front = between p.front.items l.front.items q.low l.low p.low size (subst (λ (fs : List ℤ). Precedes (fs ++ q.low ∷ []) (point_at l l.low)) (sym same.0) comes) next in
          let low = last-less l.front.items q.low l.low (subst (λ (fs : List ℤ). Precedes (fs ++ q.low ∷ []) (point_at l l.low)) (sym same.0 ∙ sym front) comes) in
          let up = below l.front.items l.low front here in
          let t = top in
          let is : q ≡ l = runs-meet xs q l l.low isq isl (sym same.0 ∙ sym front) (omega (arith, ints, low)) (omega (arith, ints, up, t)) (omega (arith, ints)) isl.some in
          never-itself (point_at l l.low) (subst (λ (r : Run). RunComes r l) is comes)

  -- ---- the point goes on with the last run

  pub joined-on : (us : List Run) (l : Run) → rs ≡ us ++ l ∷ [] → l.front.items ≡ p.front.items → l.high +ℤ pos 1 ≡ p.low → AreRunsOf (xs ++ point_at p p.low ∷ []) (us ++ lengthened l p.high ∷ [])
  joined-on us l split front next = record {
    ordered = ordered-append RunComes us ((lengthened l p.high) ∷ []) (subst (Ordered RunComes) (append-nil us) (ordered-without RunComes us [] l ordered)) (tt, tt) across;
    has = λ r. (
      λ h. ⊎_elim (λ k. kept r (run-of r (in-rs r k)) (λ f e. absurd (apart r k f e))) (λ k. only r k) (has-cases us ((lengthened l p.high) ∷ []) r h),
      λ is. ⊎_elim
          (λ k. has-right us ((lengthened l p.high) ∷ []) r (inl (runs-meet more r (lengthened l p.high) p.low is longer (k.0 ∙ sym front) k.1 k.2 (let s = isl.some in omega (arith, ints, s, next)) (omega (arith, ints, one)))))
          (λ n. has-left us ((lengthened l p.high) ∷ []) r (other r is (subst (λ (list : List Run). Has list r) split ((joined.has r).1 (was r is n)))))
          (lies r),
    );
    covers = λ z h. ⊎_elim (λ k. among z (joined.covers z k))
        (λ e. record { run = (lengthened l p.high); there = has-right us ((lengthened l p.high) ∷ []) (lengthened l p.high) (inl refl); value = p.low; from = (let s = isl.some in omega (arith, ints, s, next)); to = omega (arith, ints, one); is = e ∙ ap (λ (fs : List ℤ). fs ++ p.low ∷ []) (sym front) })
        (parts z h);
  }
    where
      ordered : Ordered RunComes (us ++ l ∷ [])
      ordered = subst (Ordered RunComes) split joined.ordered

      in-rs : (r : Run) → Has us r → Has rs r
      in-rs r h = subst (λ (list : List Run). Has list r) (sym split) (has-left us (l ∷ []) r h)

      l-in : Has rs l
      l-in = subst (λ (list : List Run). Has list l) (sym split) (has-right us (l ∷ []) l (inl refl))

      isl : IsRunOf xs l
      isl = run-of l l-in

      comes : (r : Run) → Has us r → RunComes r l
      comes r h = ordered-across RunComes us (l ∷ []) r l ordered h (inl refl)

      longer : IsRunOf more (lengthened l p.high)
      longer = record {
        some = let s = isl.some in omega (arith, ints, s, next, one);
        all = λ v a b. cases-int_cmp v p.low
            (λ k. old (point_at (lengthened l p.high) v) (isl.all v a (omega (arith, ints, k, next))))
            (λ e. subst (λ (z : ℤ). Has more (l.front.items ++ z ∷ [])) (sym e) (subst (λ (fs : List ℤ). Has more (fs ++ p.low ∷ [])) (sym front) new))
            (λ k. absurd (omega (arith, ints, k, b, one)));
        begins = λ h. ⊎_elim (λ k. isl.begins k) (λ e. let f = (same-last l.front.items p.front.items (l.low -ℤ pos 1) p.low e).1 in let s = isl.some in omega (arith, ints, f, next, s)) (parts (point_at (lengthened l p.high) ((lengthened l p.high).low -ℤ pos 1)) h);
        ends = λ h. ⊎_elim (λ k. let b = below l.front.items (p.high +ℤ pos 1) front k in omega (arith, ints, b, one))
            (λ e. let f = (same-last l.front.items p.front.items (p.high +ℤ pos 1) p.low e).1 in omega (arith, ints, f, one)) (parts (point_at (lengthened l p.high) ((lengthened l p.high).high +ℤ pos 1)) h);
      }

      across : (r q : Run) → Has us r → Has ((lengthened l p.high) ∷ []) q → RunComes r q
      across r q h (inl e) = subst (RunComes r) (sym e) (comes r h)
      across r q h (inr k) = absurd k

      apart : (r : Run) → Has us r → r.front.items ≡ p.front.items → r.high +ℤ pos 1 ≡ p.low → ⊥
      apart r h f e =
          let isr = run-of r (in-rs r h) in
          let high : r.high ≡ l.high = omega (arith, ints, e, next) in
          let s = isr.some in
          let t = isl.some in
          let is : r ≡ l = runs-meet xs r l r.high isr isl (f ∙ sym front) s (omega (arith, ints)) (omega (arith, ints, t, high)) (omega (arith, ints, high)) in
          never-itself (point_at l l.low) (subst (λ (q : Run). RunComes q l) is (comes r h))

      only : (r : Run) → Has ((lengthened l p.high) ∷ []) r → IsRunOf more r
      only r (inl e) = subst (IsRunOf more) (sym e) longer
      only r (inr k) = absurd k

      -- the last run as it was has the point behind it now
      other : (r : Run) → IsRunOf more r → Has (us ++ l ∷ []) r → Has us r
      other r is h = ⊎_elim (λ k. k) (λ k. absurd (at k)) (has-cases us (l ∷ []) r h)
        where
          at : Has (l ∷ []) r → ⊥
          at (inl e) = is.ends (subst (λ (z : List ℤ). Has more z) (sym (ap (λ (q : Run). point_at q (q.high +ℤ pos 1)) e ∙ ap (λ (fs : List ℤ). fs ++ (l.high +ℤ pos 1) ∷ []) front ∙ ap (λ (z : ℤ). p.front.items ++ z ∷ []) next)) new)
          at (inr k) = k

      among : (z : List ℤ) → LiesAmong rs z → LiesAmong (us ++ (lengthened l p.high) ∷ []) z
      among z a = ⊎_elim
          (λ k. record { run = a.run; there = has-left us ((lengthened l p.high) ∷ []) a.run k; value = a.value; from = a.from; to = a.to; is = a.is })
          (λ k. last k)
          (has-cases us (l ∷ []) a.run (subst (λ (list : List Run). Has list a.run) split a.there))
        where
          last : Has (l ∷ []) a.run → LiesAmong (us ++ (lengthened l p.high) ∷ []) z
          last (inl e) =
              let low : l.low ≤ℤ a.value = subst (λ (r : Run). r.low ≤ℤ a.value) e a.from in
              let high : a.value ≤ℤ l.high = subst (λ (r : Run). a.value ≤ℤ r.high) e a.to in
              record { run = (lengthened l p.high); there = has-right us ((lengthened l p.high) ∷ []) (lengthened l p.high) (inl refl); value = a.value; from = low; to = omega (arith, ints, high, next, one); is = a.is ∙ ap (λ (r : Run). point_at r a.value) e }
          last (inr k) = absurd k

  pub joined-first : rs ≡ [] → AreRunsOf (xs ++ point_at p p.low ∷ []) (rs ++ p ∷ [])
  joined-first e = joined-new (gap-none e)

  pub joined-apart : (us : List Run) (l : Run) → rs ≡ us ++ l ∷ [] → (l.front.items ≡ p.front.items → l.high +ℤ pos 1 ≡ p.low → ⊥) → AreRunsOf (xs ++ point_at p p.low ∷ []) (rs ++ p ∷ [])
  joined-apart us l split apart = joined-new (gap-last us l split apart)

-- ---- the loop over the listed points

pub joined-none : AreRunsOf [] []
joined-none = record { ordered = tt; has = λ r. (λ h. absurd h, λ is. absurd (is.all r.low (omega (arith, ints)) is.some)); covers = λ z h. absurd h }

listed-append : (lows highs : List ℤ) (ps qs : List (ArrayVec ℤ)) → listed_in lows highs (ps ++ qs) ≡ listed_in lows highs ps ++ listed_in lows highs qs
listed-append lows highs [] qs = refl
listed-append lows highs (p ∷ ps) qs = at (in_box lows highs p.items) (listed-append lows highs ps qs)
  where
    at : (b : Bool) → listed_in lows highs (ps ++ qs) ≡ listed_in lows highs ps ++ listed_in lows highs qs
        → (if b then p.items ∷ listed_in lows highs (ps ++ qs) else listed_in lows highs (ps ++ qs)) ≡ (if b then p.items ∷ listed_in lows highs ps else listed_in lows highs ps) ++ listed_in lows highs qs
    at true e = ap (λ l. p.items ∷ l) e
    at false e = e

map-append : {X Y : Type 0} (f : X → Y) (xs ys : List X) → map f (xs ++ ys) ≡ map f xs ++ map f ys
map-append f [] ys = refl
map-append f (x ∷ xs) ys = ap (λ l. f x ∷ l) (map-append f xs ys)

module _ (n : ℕ) (lows highs : List ℤ) (ps : List (ArrayVec ℤ)) (is : IsListing n ps) where
  pub one-more : (i : ℕ) (p : ArrayVec ℤ) (b : Bool) → i < length ps → p ≡ get_or ps i p → in_box lows highs p.items ≡ b
      → listed_in lows highs (take (i + 1) ps) ≡ (if b then listed_in lows highs (take i ps) ++ p.items ∷ [] else listed_in lows highs (take i ps))
  one-more i p b inside at box = ap (listed_in lows highs) (take_more ps i p inside ∙ ap (λ (q : ArrayVec ℤ). take i ps ++ q ∷ []) (sym at)) ∙ listed-append lows highs (take i ps) (p ∷ []) ∙ by b box
    where
      by : (b : Bool) → in_box lows highs p.items ≡ b → listed_in lows highs (take i ps) ++ (if in_box lows highs p.items then p.items ∷ [] else []) ≡ (if b then listed_in lows highs (take i ps) ++ p.items ∷ [] else listed_in lows highs (take i ps))
      by true e = rw e refl
      by false e = rw e (append-nil (listed_in lows highs (take i ps)))

  -- the points before one come before it
  pub before-point : (i : ℕ) (p : ArrayVec ℤ) (z : List ℤ) → i < length ps → p ≡ get_or ps i p → Has (listed_in lows highs (take i ps)) z → Precedes z p.items
  before-point i p z inside at h =
      ordered-across Precedes (map (λ (q : ArrayVec ℤ). q.items) (take i ps)) (map (λ (q : ArrayVec ℤ). q.items) (drop i ps)) z p.items
      (subst (Ordered Precedes) (ap (map (λ (q : ArrayVec ℤ). q.items)) (sym (take-append-drop i ps)) ∙ map-append (λ (q : ArrayVec ℤ). q.items) (take i ps) (drop i ps)) is.ordered)
      (from-listed lows highs (take i ps) z h)
      (subst (λ (qs : List (ArrayVec ℤ)). Has (map (λ (q : ArrayVec ℤ). q.items) qs) p.items) (sym (drop_more ps i p inside)) (inl (ap (λ (q : ArrayVec ℤ). q.items) at)))

  pub long-point : (i : ℕ) (p : ArrayVec ℤ) → i < length ps → p ≡ get_or ps i p → length p.items ≡ n
  long-point i p inside at =
      long-listed n ps p.items is.long (subst (λ (qs : List (ArrayVec ℤ)). Has (map (λ (q : ArrayVec ℤ). q.items) qs) p.items) (take-append-drop i ps)
      (subst (λ (qs : List (List ℤ)). Has qs p.items) (sym (map-append (λ (q : ArrayVec ℤ). q.items) (take i ps) (drop i ps)))
      (has-right (map (λ (q : ArrayVec ℤ). q.items) (take i ps)) (map (λ (q : ArrayVec ℤ). q.items) (drop i ps)) p.items
      (subst (λ (qs : List (ArrayVec ℤ)). Has (map (λ (q : ArrayVec ℤ). q.items) qs) p.items) (sym (drop_more ps i p inside)) (inl (ap (λ (q : ArrayVec ℤ). q.items) at))))))

  pub long-before : (i : ℕ) (z : List ℤ) → Has (listed_in lows highs (take i ps)) z → length z ≡ n
  long-before i z h =
      long-listed n ps z is.long (subst (λ (qs : List (ArrayVec ℤ)). Has (map (λ (q : ArrayVec ℤ). q.items) qs) z) (take-append-drop i ps)
      (subst (λ (qs : List (List ℤ)). Has qs z) (sym (map-append (λ (q : ArrayVec ℤ). q.items) (take i ps) (drop i ps)))
      (has-left (map (λ (q : ArrayVec ℤ). q.items) (take i ps)) (map (λ (q : ArrayVec ℤ). q.items) (drop i ps)) z (from-listed lows highs (take i ps) z h))))

  pub joined-end : (i : ℕ) (runs : List Run) → length ps ≤ i → AreRunsOf (listed_in lows highs (take i ps)) runs → AreRunsOf (left_after None (listed_in lows highs ps)) runs
  joined-end i runs end joined =
      let all = subst (λ (qs : List (ArrayVec ℤ)). AreRunsOf (listed_in lows highs qs) runs) (take_all i ps end) joined in
      runs-same (listed_in lows highs ps) (left_after None (listed_in lows highs ps)) runs (λ z. (λ h. left-to None (listed_in lows highs ps) z h refl, λ h. (left-from None (listed_in lows highs ps) z h).0)) all
