-- The runs of a list of points, and those of a space: one for each front.
use Rattle.std.proofs.Common.{◌≡◌, ℕ, zero, suc, ◌+◌, ◌-◌, ◌<◌, ℤ, pos, negsuc, ◌+ℤ◌, ◌-ℤ◌, ◌≤ℤ◌, ◌<ℤ◌, false, List, [], ◌∷◌, ◌++◌, map, length, get_or, length-append, append_assoc, inl, inr, ⊎_elim, refl, sym, ap, ◌∙◌, subst, arith}
use Rattle.std.specs.Prelude.{◌↔◌}
use Rattle.std.specs.List.{AllByRecursion}
use Rattle.std.proofs.Math.ListN.{set}
use Rattle.std.proofs.lemmas.Int.{ints}
use Rattle.plain_lemmas.proofs.OrderLaws.{cases-int_cmp, slice_cmp-append-less}
use Rattle.orders.specs.Orders.{Ordered}
use Rattle.plain_lemmas.specs.Lists.{Has}
use Rattle.level_walk.specs.Orders.{Precedes}
use Rattle.level_walk.specs.Spaces.{IsPoint, IsWithin, Space, points, span}
use Rattle.level_walk.specs.Places.{left}
use Rattle.level_walk.specs.Fronts.{fronts, run}
use Rattle.level_walk.specs.Stretches.{AreRunsOf, IsRunOf, RunComes, point_at}
use Rattle.level_walk.specs.declared.runs.Run.{Run}
use Rattle.level_walk.proofs.FrontLaws.{some-to}
use Rattle.level_walk.proofs.MoveLaws.{later-start, place_of}
use Rattle.level_walk.proofs.PointLaws.{lists-points, points-from, points-to, spread-from, spread-to}
use Rattle.plain_lemmas.proofs.MembershipLaws.{all-from, all-has, has-cases, has-left, has-right}
use Rattle.level_walk.proofs.SpreadLaws.{span-inside, span-is}
use Rattle.std.proofs.lemmas.List.{append-nil}

-- ---- lists

pub has-map : {X Y : Type 0} (f : X → Y) (xs : List X) (x : X) → Has xs x → Has (map f xs) (f x)
has-map f [] x h = absurd h
has-map f (y ∷ ys) x (inl e) = inl (ap f e)
has-map f (y ∷ ys) x (inr h) = inr (has-map f ys x h)

pub map-has : {X Y : Type 0} (f : X → Y) (xs : List X) (z : Y) → Has (map f xs) z → (x : X) × Has xs x × (z ≡ f x)
map-has f [] z h = absurd h
map-has f (y ∷ ys) z (inl e) = (y, inl refl, e)
map-has f (y ∷ ys) z (inr h) = let (x, k, e) = map-has f ys z h in (x, inr k, e)

ordered-unmap : {X Y : Type 0} (f : X → Y) (R : X → X → Type 0) (S : Y → Y → Type 0) (xs : List X) → ((a b : X) → Has xs a → Has xs b → S (f a) (f b) → R a b) → Ordered S (map f xs) → Ordered R xs
ordered-unmap f R S [] h o = tt
ordered-unmap f R S (x ∷ xs) h o = (
  all-from (R x) xs (λ y k. h x y (inl refl) (inr k) (all-has (S (f x)) (map f xs) (f y) o.0 (has-map f xs y k))),
  ordered-unmap f R S xs (λ a b k l. h a b (inr k) (inr l)) o.1,
)

map-push : {X Y : Type 0} (f : X → Y) (xs : List X) (x : X) → map f (xs ++ x ∷ []) ≡ map f xs ++ f x ∷ []
map-push f [] x = refl
map-push f (y ∷ ys) x = ap (λ l. f y ∷ l) (map-push f ys x)

pub same-last : (us vs : List ℤ) (a b : ℤ) → us ++ a ∷ [] ≡ vs ++ b ∷ [] → (us ≡ vs) × (a ≡ b)
same-last [] [] a b e = (refl, cc)
same-last [] (v ∷ []) a b e = absurd (let w : a ∷ [] ≡ v ∷ b ∷ [] = e in cc)
same-last [] (v ∷ w ∷ vs) a b e = absurd (let f : a ∷ [] ≡ v ∷ w ∷ (vs ++ b ∷ []) = e in cc)
same-last (u ∷ []) [] a b e = absurd (let w : u ∷ a ∷ [] ≡ b ∷ [] = e in cc)
same-last (u ∷ w ∷ us) [] a b e = absurd (let f : u ∷ w ∷ (us ++ a ∷ []) ≡ b ∷ [] = e in cc)
same-last (u ∷ us) (v ∷ vs) a b e =
    let t : us ++ a ∷ [] ≡ vs ++ b ∷ [] = cc in
    let (f, g) = same-last us vs a b t in
    let h : u ≡ v = cc in
    (cc, g)

-- ---- the last of a list

pub record IsSplit {X : Type 0} (xs : List X) (k : ℕ) (x : X) : Type 0 where
  pub front : List X
  pub is : xs ≡ front ++ x ∷ []
  pub changed : (y : X) → set xs k y ≡ front ++ y ∷ []

pub split_last : {X : Type 0} (xs : List X) (k : ℕ) (d : X) → length xs ≡ suc k → IsSplit xs k (get_or xs k d)
split_last [] k d some = absurd (omega arith)
split_last (x ∷ []) zero d some = record { front = []; is = refl; changed = λ y. refl }
split_last (x ∷ z ∷ xs) zero d some = absurd (omega arith)
split_last (x ∷ []) (suc k) d some = absurd (omega arith)
split_last {X} (x ∷ z ∷ xs) (suc k) d some = from (split_last (z ∷ xs) k d (omega arith))
  where
    from : IsSplit (z ∷ xs) k (get_or (z ∷ xs) k d) → IsSplit (x ∷ z ∷ xs) (suc k) (get_or (x ∷ z ∷ xs) (suc k) d)
    from more = record { front = x ∷ more.front; is = ap (λ l. x ∷ l) more.is; changed = λ y. ap (λ l. x ∷ l) (more.changed y) }

-- ---- runs of one list

same-run : (r q : Run) → r.front.items ≡ q.front.items → r.low ≡ q.low → r.high ≡ q.high → r ≡ q
same-run r q f e g = ap (λ (fs : List ℤ). record { front = record { items = fs }; low = r.low; high = r.high }) f
    ∙ ap (λ (z : ℤ). record { front = q.front; low = z; high = r.high }) e ∙ ap (λ (z : ℤ). record { front = q.front; low = q.low; high = z }) g

-- where two of them have a point in common they are one
pub runs-meet : (list : List (List ℤ)) (r q : Run) (value : ℤ) → IsRunOf list r → IsRunOf list q → r.front.items ≡ q.front.items → r.low ≤ℤ value → value ≤ℤ r.high → q.low ≤ℤ value → value ≤ℤ q.high → r ≡ q
runs-meet list r q value a b front rl rh ql qh = one (lows r q a b front rl rh ql qh) (highs r q a b front rl rh ql qh)
  where
    -- neither begins behind the other
    before : (r q : Run) → IsRunOf list r → IsRunOf list q → r.front.items ≡ q.front.items → r.low ≤ℤ value → value ≤ℤ r.high → q.low ≤ℤ value → value ≤ℤ q.high → q.low <ℤ r.low → ⊥
    before r q a b f rl rh ql qh l = a.begins (subst (λ (fs : List ℤ). Has list (fs ++ (r.low -ℤ pos 1) ∷ [])) (sym f) (b.all (r.low -ℤ pos 1) (omega (arith, ints)) (omega (arith, ints))))

    behind : (r q : Run) → IsRunOf list r → IsRunOf list q → r.front.items ≡ q.front.items → r.low ≤ℤ value → value ≤ℤ r.high → q.low ≤ℤ value → value ≤ℤ q.high → r.high <ℤ q.high → ⊥
    behind r q a b f rl rh ql qh l = a.ends (subst (λ (fs : List ℤ). Has list (fs ++ (r.high +ℤ pos 1) ∷ [])) (sym f) (b.all (r.high +ℤ pos 1) (omega (arith, ints)) (omega (arith, ints))))

    lows : (r q : Run) → IsRunOf list r → IsRunOf list q → r.front.items ≡ q.front.items → r.low ≤ℤ value → value ≤ℤ r.high → q.low ≤ℤ value → value ≤ℤ q.high → r.low ≡ q.low
    lows r q a b f rl rh ql qh = cases-int_cmp r.low q.low (λ l. absurd (before q r b a (sym f) ql qh rl rh l)) (λ e. e) (λ l. absurd (before r q a b f rl rh ql qh l))

    highs : (r q : Run) → IsRunOf list r → IsRunOf list q → r.front.items ≡ q.front.items → r.low ≤ℤ value → value ≤ℤ r.high → q.low ≤ℤ value → value ≤ℤ q.high → r.high ≡ q.high
    highs r q a b f rl rh ql qh = cases-int_cmp r.high q.high (λ l. absurd (behind r q a b f rl rh ql qh l)) (λ e. e) (λ l. absurd (behind q r b a (sym f) ql qh rl rh l))

    one : r.low ≡ q.low → r.high ≡ q.high → r ≡ q
    one e f = same-run r q front e f

-- the runs of a list are those of each list with the same points
pub runs-same : (xs ys : List (List ℤ)) (runs : List Run) → ((z : List ℤ) → Has xs z ↔ Has ys z) → AreRunsOf xs runs → AreRunsOf ys runs
runs-same xs ys runs same are = record {
  ordered = are.ordered;
  has = λ r. (λ h. moved xs ys same r ((are.has r).0 h), λ h. (are.has r).1 (moved ys xs (λ z. ((same z).1, (same z).0)) r h));
  covers = λ z h. are.covers z ((same z).1 h);
}
  where
    moved : (xs ys : List (List ℤ)) → ((z : List ℤ) → Has xs z ↔ Has ys z) → (r : Run) → IsRunOf xs r → IsRunOf ys r
    moved xs ys same r is = record {
      some = is.some;
      all = λ v l h. (same (point_at r v)).0 (is.all v l h);
      begins = λ h. is.begins ((same (point_at r (r.low -ℤ pos 1))).1 h);
      ends = λ h. is.ends ((same (point_at r (r.high +ℤ pos 1))).1 h);
    }

-- ---- a space, front by front

-- the points with the front of a run are those of the run
pub record IsFrontRun (s : Space) (r : Run) : Type 0 where
  pub is : points s 1 r.front.items ≡ run r.front.items r.low r.high
  pub some : r.low ≤ℤ r.high
  pub long : length r.front.items + 1 ≡ s.levels

-- a run for each front so far, and the other fronts are left
pub record IsScannedTo (s : Space) (runs : List Run) (rest : List (List ℤ)) : Type 0 where
  pub fronts : map (λ (r : Run). r.front.items) runs ++ rest ≡ points (fronts s) (s.levels - 1) []
  pub each : AllByRecursion (IsFrontRun s) runs

pub scan-start : (s : Space) → 0 < s.levels → IsScannedTo s [] (left (fronts s) (place_of [] [] false))
unfolding left
scan-start s some =
    let whole : (s.levels - 1) - 0 ≡ s.levels - 1 = omega arith in
    record {
      fronts = ap (λ l. points (fronts s) ((s.levels - 1) - 0) [] ++ l) (later-start (fronts s) (s.levels - 1)) ∙ append-nil (points (fronts s) ((s.levels - 1) - 0) []) ∙ ap (λ n. points (fronts s) n []) whole;
      each = tt;
    }

pub scan-more : (s : Space) (runs : List Run) (r : Run) (old new : List (List ℤ)) → IsScannedTo s runs old → old ≡ r.front.items ∷ new → IsFrontRun s r → IsScannedTo s (runs ++ r ∷ []) new
scan-more s runs r old new is e one = record {
  fronts = ap (λ l. l ++ new) (map-push (λ (r : Run). r.front.items) runs r) ∙ append_assoc (map (λ (r : Run). r.front.items) runs) (r.front.items ∷ []) new ∙ ap (λ l. map (λ (r : Run). r.front.items) runs ++ l) (sym e) ∙ is.fronts;
  each = all-from (IsFrontRun s) (runs ++ r ∷ []) (λ q h. ⊎_elim (λ k. all-has (IsFrontRun s) runs q is.each k) (λ k. only q k) (has-cases runs (r ∷ []) q h));
}
  where
    only : (q : Run) → Has (r ∷ []) q → IsFrontRun s q
    only q (inl f) = subst (IsFrontRun s) (sym f) one
    only q (inr h) = absurd h

module _ (s : Space) (some : 0 < s.levels) (runs : List Run) (is : IsScannedTo s runs []) where
  count : suc (s.levels - 1) ≡ s.levels
  count = omega arith

  abbrev list : List (List ℤ)
  list = points s s.levels []

  front-of : (r : Run) → Has runs r → IsPoint (fronts s) r.front.items
  front-of r h =
      let there = has-map (λ (r : Run). r.front.items) runs r h in
      ((lists-points (fronts s)).same r.front.items).0 (subst (λ l. Has l r.front.items) (sym (append-nil (map (λ (r : Run). r.front.items) runs)) ∙ is.fronts) there)

  -- the last values of a front that was scanned
  values : (r : Run) → Has runs r → (value : ℤ) → Has list (point_at r value) ↔ ((r.low ≤ℤ value) × (value ≤ℤ r.high))
  values r h value = (
    λ k.
        let point = ((lists-points s).same (point_at r value)).0 k in
        let within : IsWithin s.least s.greatest value = all-has (IsWithin s.least s.greatest) (point_at r value) value point.within (has-right r.front.items (value ∷ []) value (inl refl)) in
        let here = points-to s 1 r.front.items (value ∷ []) refl (within, tt) point.accepted in
        let (i, below, there) = spread-from (span r.low r.high) r.low (λ v. (r.front.items ++ v ∷ []) ∷ []) (point_at r value) (subst (λ l. Has l (point_at r value)) one.is here) in
        let e = at i there in
        let top = span-inside r.low r.high i below in
        (omega (arith, ints, e), omega (arith, ints, e, top)),
    λ k.
        let (i, e) = offset r.low value k.0 in
        let size = span-is r.low r.high (let l = one.some in omega (arith, ints, l)) in
        let high = k.1 in
        let inside : i < span r.low r.high = omega (arith, ints, size, e, high) in
        let there = spread-to (span r.low r.high) r.low (λ v. (r.front.items ++ v ∷ []) ∷ []) (point_at r value) i inside (inl (ap (λ (v : ℤ). r.front.items ++ v ∷ []) (sym e))) in
        let from = points-from s 1 r.front.items (point_at r value) (subst (λ l. Has l (point_at r value)) (sym one.is) there) in
        ((lists-points s).same (point_at r value)).1 (record {
          long = length-append r.front.items (value ∷ []) ∙ one.long;
          within = subst (AllByRecursion (IsWithin s.least s.greatest)) (sym from.is) (all-from (IsWithin s.least s.greatest) (r.front.items ++ from.rest) (λ v h. ⊎_elim
              (λ k. all-has (IsWithin s.least s.greatest) r.front.items v (front-of r h').within k)
              (λ k. all-has (IsWithin s.least s.greatest) from.rest v from.within k)
              (has-cases r.front.items from.rest v h)));
          accepted = from.accepted;
        }),
  )
    where
      h' : Has runs r
      h' = h

      one : IsFrontRun s r
      one = all-has (IsFrontRun s) runs r is.each h

      at : (i : ℕ) → Has ((r.front.items ++ (r.low +ℤ pos i) ∷ []) ∷ []) (point_at r value) → value ≡ r.low +ℤ pos i
      at i (inl e) = (same-last r.front.items r.front.items value (r.low +ℤ pos i) e).1
      at i (inr k) = absurd k

      offset : (low value : ℤ) → low ≤ℤ value → (i : ℕ) × (low +ℤ pos i ≡ value)
      offset low value h = by (value -ℤ low) refl
        where
          by : (z : ℤ) → value -ℤ low ≡ z → (i : ℕ) × (low +ℤ pos i ≡ value)
          by (pos i) e = (i, omega (arith, ints, e))
          by (negsuc i) e = absurd (omega (arith, ints, e, h))

  -- each point has a front that was scanned
  scanned : (front : List ℤ) (value : ℤ) → Has list (front ++ value ∷ []) → (r : Run) × Has runs r × (front ≡ r.front.items)
  scanned front value k =
      let point = ((lists-points s).same (front ++ value ∷ [])).0 k in
      let long = point.long in
      let size = length-append front (value ∷ []) in
      let within : IsWithin s.least s.greatest value = all-has (IsWithin s.least s.greatest) (front ++ value ∷ []) value point.within (has-right front (value ∷ []) value (inl refl)) in
      let here = points-to s 1 front (value ∷ []) refl (within, tt) point.accepted in
      let there = ((lists-points (fronts s)).same front).1 (record {
        long = omega (arith, long, size, some);
        within = all-from (IsWithin s.least s.greatest) front (λ v h. all-has (IsWithin s.least s.greatest) (front ++ value ∷ []) v point.within (has-left front (value ∷ []) v h));
        accepted = some-to (points s 1 front) (front ++ value ∷ []) here;
      }) in
      map-has (λ (r : Run). r.front.items) runs front (subst (λ l. Has l front) (sym is.fronts ∙ append-nil (map (λ (r : Run). r.front.items) runs)) there)

  is-run : (r : Run) → Has runs r → IsRunOf list r
  is-run r h = record {
    some = (all-has (IsFrontRun s) runs r is.each h).some;
    all = λ v l k. (values r h v).1 (l, k);
    begins = λ k. let l = ((values r h (r.low -ℤ pos 1)).0 k).0 in omega (arith, ints, l);
    ends = λ k. let l = ((values r h (r.high +ℤ pos 1)).0 k).1 in omega (arith, ints, l);
  }

  pub scan-end : AreRunsOf (points s s.levels []) runs
  scan-end = record {
    ordered = ordered-unmap (λ (r : Run). r.front.items) RunComes Precedes runs
        (λ a b h k l.
        let m = (all-has (IsFrontRun s) runs a is.each h).long in
        let n = (all-has (IsFrontRun s) runs b is.each k).long in
        slice_cmp-append-less a.front.items b.front.items (a.low ∷ []) (b.low ∷ []) (omega (arith, m, n)) l)
        (subst (Ordered Precedes) (sym is.fronts ∙ append-nil (map (λ (r : Run). r.front.items) runs)) (lists-points (fronts s)).ordered);
    has = λ r. (
      is-run r,
      λ k.
          let (q, h, e) = scanned r.front.items r.low (k.all r.low (omega (arith, ints)) k.some) in
          let here = (values q h r.low).0 (subst (λ (fs : List ℤ). Has list (fs ++ r.low ∷ [])) e (k.all r.low (omega (arith, ints)) k.some)) in
          subst (Has runs) (sym (runs-meet list r q r.low k (is-run q h) e (omega (arith, ints)) k.some here.0 here.1)) h,
    );
    covers = λ z h.
        let long = (((lists-points s).same z).0 h).long in
        let split = split_last z (s.levels - 1) (pos 0) (omega (arith, long, some)) in
        let here = subst (Has list) split.is h in
        let (q, there, e) = scanned split.front (get_or z (s.levels - 1) (pos 0)) here in
        let range = (values q there (get_or z (s.levels - 1) (pos 0))).0 (subst (λ (fs : List ℤ). Has list (fs ++ get_or z (s.levels - 1) (pos 0) ∷ [])) e here) in
        record { run = q; there = there; value = get_or z (s.levels - 1) (pos 0); from = range.0; to = range.1; is = split.is ∙ ap (λ (fs : List ℤ). fs ++ get_or z (s.levels - 1) (pos 0) ∷ []) e };
  }
