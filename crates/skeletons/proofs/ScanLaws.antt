-- The rows of a block, place by place.
use Rattle.std.proofs.Common.{◌≡◌, refl, sym, ap, subst, ℕ, ◌<◌, ◌+◌, ◌^◌, ℤ, pos, ◌+ℤ◌, ◌-ℤ◌, ◌≤ℤ◌, ◌<ℤ◌, neg_ℤ, Bool, true, false, List, [], ◌∷◌, ◌++◌, length, nat_lt, nat_eq, ◌⊎◌, inl, inr, ⊎_elim, arith}
use Rattle.std.specs.Prelude.{◌↔◌, if◌then◌else◌, ◌||◌}
use Rattle.std.specs.List.{All, Contains}
use Rattle.std.proofs.lemmas.Int.{ints}
use Rattle.std.proofs.lemmas.Bool.{cases_lt}
use Rattle.plain_lemmas.proofs.MembershipLaws.{All-from, All-has, has-cases, has-left, has-right, contains-from-has, has-from-contains}
use Rattle.plain_lemmas.specs.Lists.{Has}
use Rattle.affine.specs.Forms.{value_at}
use Rattle.affine.specs.Inverses.{across}
use Rattle.affine.specs.Rows.{Meets, coefficient, variables}
use Rattle.affine.specs.declared.row.Row.{Row}
use Rattle.fourier_motzkin.specs.Ranges.{IsAlone}
use Rattle.fourier_motzkin.specs.RowSets.{IsWithin}
use Rattle.domain.specs.declared.chunk.Chunk.{Chunk}
use Rattle.domain.specs.Tables.{Table, Block, counters, depth, trip, turning}
use Rattle.domain.specs.Instances.{counter}
use Rattle.skeletons.specs.Places.{flat, greatest, greatest_side, is_turns, least, least_side, trip_less}
use Rattle.skeletons.specs.Scans.{IsBoxed, IsRowsTo, LiesAt}
use Rattle.skeletons.proofs.SideLaws.{flat-value, trip-value}

-- ---- the sides have the values of the ends

pub least-value : (t : Table) (chunk : Chunk) (b : Block) (k : ℕ) (p : List ℤ) → value_at (least_side t chunk b k) p ≡ least t chunk b p k
least-value t chunk b k p = by (nat_eq k 0) (is_turns t b k)
  where
    by : (z w : Bool) → value_at (if z then flat (depth t) chunk.first else (if w then trip_less t k (pos 0) else flat (depth t) (pos 0))) p ≡ (if z then chunk.first else (if w then trip t k p else pos 0))
    by true w = flat-value (depth t) chunk.first p
    by false true = let e = trip-value t k (pos 0) p in omega (arith, ints, e)
    by false false = flat-value (depth t) (pos 0) p

pub greatest-value : (t : Table) (chunk : Chunk) (b : Block) (k : ℕ) (p : List ℤ) → value_at (greatest_side t chunk b k) p ≡ greatest t chunk b p k
greatest-value t chunk b k p = by (nat_eq k 0) (nat_lt k (turning b)) (nat_lt k (counters t b)) (is_turns t b k)
  where
    by : (z u v w : Bool)
        → value_at (if z then flat (depth t) ((chunk.first +ℤ chunk.turns) -ℤ pos 1) else (if u then trip_less t k (pos 1) else (if v || w then trip_less t k (pos 0) else flat (depth t) (pos 0)))) p
        ≡ (if z then (chunk.first +ℤ chunk.turns) -ℤ pos 1 else (if u then trip t k p -ℤ pos 1 else (if v then trip t k p else (if w then trip t k p else pos 0))))
    by true u v w = flat-value (depth t) ((chunk.first +ℤ chunk.turns) -ℤ pos 1) p
    by false true v w = trip-value t k (pos 1) p
    by false false true w = let e = trip-value t k (pos 0) p in omega (arith, ints, e)
    by false false false true = let e = trip-value t k (pos 0) p in omega (arith, ints, e)
    by false false false false = flat-value (depth t) (pos 0) p

-- ---- four rows more

abbrev pub four : {X : Type 0} → List X → X → X → X → X → List X
four xs a b c d = (((xs ++ a ∷ []) ++ b ∷ []) ++ c ∷ []) ++ d ∷ []

four-cases : {X : Type 0} (xs : List X) (a b c d x : X) → Has (four xs a b c d) x → Has xs x ⊎ ((x ≡ a) ⊎ ((x ≡ b) ⊎ ((x ≡ c) ⊎ (x ≡ d))))
four-cases xs a b c d x h =
    ⊎_elim
    (λ h3. ⊎_elim (λ h2. ⊎_elim (λ h1. ⊎_elim (λ h0. inl h0) (λ e. inr (inl (only e))) (has-cases xs (a ∷ []) x h1)) (λ e. inr (inr (inl (only e)))) (has-cases (xs ++ a ∷ []) (b ∷ []) x h2)) (λ e. inr (inr (inr (inl (only e))))) (has-cases ((xs ++ a ∷ []) ++ b ∷ []) (c ∷ []) x h3))
    (λ e. inr (inr (inr (inr (only e)))))
    (has-cases (((xs ++ a ∷ []) ++ b ∷ []) ++ c ∷ []) (d ∷ []) x h)
  where
    only : {y : _} → Has (y ∷ []) x → x ≡ y
    only (inl e) = e
    only (inr h) = absurd h

module _ {X : Type 0} (xs : List X) (a b c d : X) where
  four-left : (x : X) → Has xs x → Has (four xs a b c d) x
  four-left x h = has-left (((xs ++ a ∷ []) ++ b ∷ []) ++ c ∷ []) (d ∷ []) x (has-left ((xs ++ a ∷ []) ++ b ∷ []) (c ∷ []) x (has-left (xs ++ a ∷ []) (b ∷ []) x (has-left xs (a ∷ []) x h)))

  four-a : Has (four xs a b c d) a
  four-a = has-left (((xs ++ a ∷ []) ++ b ∷ []) ++ c ∷ []) (d ∷ []) a (has-left ((xs ++ a ∷ []) ++ b ∷ []) (c ∷ []) a (has-left (xs ++ a ∷ []) (b ∷ []) a (has-right xs (a ∷ []) a (inl refl))))

  four-b : Has (four xs a b c d) b
  four-b = has-left (((xs ++ a ∷ []) ++ b ∷ []) ++ c ∷ []) (d ∷ []) b (has-left ((xs ++ a ∷ []) ++ b ∷ []) (c ∷ []) b (has-right (xs ++ a ∷ []) (b ∷ []) b (inl refl)))

  four-c : Has (four xs a b c d) c
  four-c = has-left (((xs ++ a ∷ []) ++ b ∷ []) ++ c ∷ []) (d ∷ []) c (has-right ((xs ++ a ∷ []) ++ b ∷ []) (c ∷ []) c (inl refl))

  four-d : Has (four xs a b c d) d
  four-d = has-right (((xs ++ a ∷ []) ++ b ∷ []) ++ c ∷ []) (d ∷ []) d (inl refl)

  four-all : (P : X → Type 0) → All P xs → P a → P b → P c → P d → All P (four xs a b c d)
  four-all P all pa pb pc pd =
      All-from P (four xs a b c d) (λ x h. ⊎_elim (λ k. All-has P xs x all k)
      (⊎_elim (λ e. subst P (sym e) pa) (⊎_elim (λ e. subst P (sym e) pb) (⊎_elim (λ e. subst P (sym e) pc) (λ e. subst P (sym e) pd)))) (four-cases xs a b c d x h))

-- what is known of the four rows of a place
pub record IsPlaceRows (n : ℕ) (t : Table) (chunk : Chunk) (block : Block) (columns : List (List ℤ)) (k : ℕ) (a b c d : Row) : Type 0 where
  pub over-a : variables a ≡ n
  pub over-b : variables b ≡ n
  pub over-c : variables c ≡ n
  pub over-d : variables d ≡ n
  pub within-a : IsWithin (2 ^ 100) a
  pub within-b : IsWithin (2 ^ 100) b
  pub within-c : IsWithin (2 ^ 100) c
  pub within-d : IsWithin (2 ^ 100) d
  pub meets-a : (z : List ℤ) → length z ≡ n → Meets z a ↔ (least t chunk block (across n columns z) k ≤ℤ counter (across n columns z) k)
  pub meets-b : (z : List ℤ) → length z ≡ n → Meets z b ↔ (counter (across n columns z) k ≤ℤ greatest t chunk block (across n columns z) k)
  pub meets-c : (z : List ℤ) → length z ≡ n → Meets z c ↔ (neg_ℤ (pos (2 ^ 59)) ≤ℤ counter z k)
  pub meets-d : (z : List ℤ) → length z ≡ n → Meets z d ↔ (counter z k ≤ℤ pos (2 ^ 59))
  pub alone-c : IsAlone k c
  pub alone-d : IsAlone k d
  pub side-c : pos 0 <ℤ coefficient c k
  pub side-d : coefficient d k <ℤ pos 0

below-suc : (k m : ℕ) → k < m + 1 → (k < m) ⊎ (k ≡ m)
below-suc k m h = ⊎_elim (λ l. inl l) (λ l. inr (omega arith)) (cases_lt k m)

pub place-rows : (n : ℕ) (t : Table) (chunk : Chunk) (block : Block) (columns : List (List ℤ)) (k : ℕ) (rows news : List Row) (a b c d : Row)
    → depth t ≡ n → IsRowsTo n t chunk block columns k rows → IsPlaceRows n t chunk block columns k a b c d → news ≡ four rows a b c d → IsRowsTo n t chunk block columns (k + 1) news
place-rows n t chunk block columns k rows news a b c d deep old is e = subst (IsRowsTo n t chunk block columns (k + 1)) (sym e) all
  where
    has : (row : Row) → Has rows row → Contains (four rows a b c d) row
    has row h = contains-from-has (four rows a b c d) row (four-left rows a b c d row h)

    boxed : (j : ℕ) → (j < k) ⊎ (j ≡ k) → IsBoxed j (four rows a b c d)
    boxed j (inl l) =
        let o = old.boxed j l in
        record {
          lower = o.lower;
          upper = o.upper;
          has_lower = has o.lower (has-from-contains rows o.lower o.has_lower);
          has_upper = has o.upper (has-from-contains rows o.upper o.has_upper);
          alone_lower = o.alone_lower;
          alone_upper = o.alone_upper;
          side_lower = o.side_lower;
          side_upper = o.side_upper;
        }
    boxed j (inr f) = subst (λ (i : ℕ). IsBoxed i (four rows a b c d)) (sym f) (record {
      lower = c;
      upper = d;
      has_lower = contains-from-has (four rows a b c d) c (four-c rows a b c d);
      has_upper = contains-from-has (four rows a b c d) d (four-d rows a b c d);
      alone_lower = is.alone-c;
      alone_upper = is.alone-d;
      side_lower = is.side-c;
      side_upper = is.side-d;
    })

    same : (z : List ℤ) → across n columns z ≡ across (depth t) columns z
    same z = ap (λ (m : ℕ). across m columns z) (sym deep)

    here : (z : List ℤ) → length z ≡ n → All (Meets z) (four rows a b c d) → LiesAt t chunk block columns z k
    here z long met = record {
      near = record {
        low = (is.meets-c z long).0 (All-has (Meets z) (four rows a b c d) c met (four-c rows a b c d));
        high = (is.meets-d z long).0 (All-has (Meets z) (four rows a b c d) d met (four-d rows a b c d));
      };
      from = subst (λ (p : List ℤ). least t chunk block p k ≤ℤ counter p k) (same z) ((is.meets-a z long).0 (All-has (Meets z) (four rows a b c d) a met (four-a rows a b c d)));
      to = subst (λ (p : List ℤ). counter p k ≤ℤ greatest t chunk block p k) (same z) ((is.meets-b z long).0 (All-has (Meets z) (four rows a b c d) b met (four-b rows a b c d)));
    }

    all : IsRowsTo n t chunk block columns (k + 1) (four rows a b c d)
    all = record {
      over = four-all rows a b c d (λ (row : Row). variables row ≡ n) old.over is.over-a is.over-b is.over-c is.over-d;
      within = four-all rows a b c d (IsWithin (2 ^ 100)) old.within is.within-a is.within-b is.within-c is.within-d;
      meets = λ z long. (
        λ met j l. ⊎_elim (λ m. (old.meets z long).0 (All-from (Meets z) rows (λ row h. All-has (Meets z) (four rows a b c d) row met (four-left rows a b c d row h))) j m)
            (λ f. subst (LiesAt t chunk block columns z) (sym f) (here z long met)) (below-suc j k l),
        λ lies.
            let at = lies k (omega arith) in
            four-all rows a b c d (Meets z) ((old.meets z long).1 (λ j l. lies j (omega arith)))
            ((is.meets-a z long).1 (subst (λ (p : List ℤ). least t chunk block p k ≤ℤ counter p k) (sym (same z)) at.from))
            ((is.meets-b z long).1 (subst (λ (p : List ℤ). counter p k ≤ℤ greatest t chunk block p k) (sym (same z)) at.to))
            ((is.meets-c z long).1 at.near.low)
            ((is.meets-d z long).1 at.near.high),
      );
      boxed = λ j l. boxed j (below-suc j k l);
    }
