-- What the verdict Maybe says of the levels: rows of one variable alone stand to the level of that variable, and the
-- last level says all that the rows say.
use Rattle.std.proofs.Common.{◌≡◌, ℕ, zero, suc, ◌+◌, ◌<◌, ◌≤◌, ℤ, pos, ◌+ℤ◌, ◌*ℤ◌, ◌≤ℤ◌, ◌<ℤ◌, int_lt, Bool, true, false, not, ◌&&◌, List, [], ◌∷◌, ◌++◌, map, filter, length, take, get_or, refl, sym, ap, ◌∙◌, subst, inl, inr, ⊎_elim, Equal, arith}
use Rattle.std.specs.Prelude.{◌⊎◌, unsigned_abs}
use Rattle.std.specs.Int.{int_div_euclid, ◌∣◌}
use Rattle.std.specs.Ordering.{int_eq}
use Rattle.std.specs.List.{All, flat_map, list_all}
use Rattle.std.proofs.Math.Seq.{get_or-append_seam}
use Rattle.std.proofs.lemmas.Bool.{and_parts}
use Rattle.std.proofs.lemmas.Bool.Decides.{Decides-int_eq}
use Rattle.std.proofs.lemmas.Int.{ints}
use Rattle.std.proofs.lemmas.List.{get_or_append_left, take_all, take_more}
use Rattle.plain_lemmas.proofs.IntegerLaws.{*ℤ-≤ℤ, one-*ℤ}
use Rattle.affine.specs.declared.row.Row.{Row}
use Rattle.affine.specs.Divisors.{common_divisor}
use Rattle.affine.specs.Rows.{Meets, coefficient, normal, row_over}
use Rattle.affine.proofs.DivisorLaws.{IsGreatestDivisor-common_divisor}
use Rattle.affine.proofs.FloorLaws.{mul-floor}
use Rattle.affine.proofs.NormalLaws.{coefficient-normal-zero}
use Rattle.fourier_motzkin.specs.Elimination.{bounds_above, bounds_below, crossed, eliminated, is_without, judged, projected}
use Rattle.fourier_motzkin.specs.Laws.{AllowedPointsMeet, BoundedLevelsClose}
use Rattle.fourier_motzkin.specs.Ranges.{IsAlone}
use Rattle.fourier_motzkin.specs.RowSets.{is_constant, says_nothing, tidied}
use Rattle.fourier_motzkin.specs.Verdicts.{bounds_of, levels, next, ruling, standing, verdict_of}
use Rattle.fourier_motzkin.specs.declared.elimination.Eliminated.{Eliminated}
use Rattle.fourier_motzkin.specs.declared.elimination.Eliminated.TheVariants as set
use Rattle.fourier_motzkin.specs.declared.verdicts.Ruling.TheVariants.{Empty, Maybe, Wide}
use Rattle.plain_lemmas.proofs.MembershipLaws.{All-has, has-filter, has-from-contains, has-left}
use Rattle.plain_lemmas.specs.Lists.{Has}
use Rattle.fourier_motzkin.proofs.LevelLaws.{below-or-last}
use Rattle.fourier_motzkin.proofs.PointLaws.{has-told, judged-cases, met-tidied}
use Rattle.fourier_motzkin.proofs.EliminationRunLaws.{length-levels}
use Rattle.fourier_motzkin.proofs.SetLaws.{least-tidied, tied-coefficients}

-- the normal form over its divisor

pub normal-scale : (row : Row) (k : ℕ) → (d : ℕ) × (coefficient row k ≡ pos (suc d) *ℤ coefficient (normal row) k)
unfolding normal
normal-scale row k = at (common_divisor row.coef.items) (IsGreatestDivisor-common_divisor row.coef.items).0
  where
    divides : (n : ℕ) (xs : List ℤ) (i : ℕ) → All (λ x. suc n ∣ unsigned_abs x) xs → get_or xs i (pos 0) ≡ pos (suc n) *ℤ get_or (map (λ x. int_div_euclid x (pos (suc n))) xs) i (pos 0)
    divides n [] i all = nothing n
      where
        nothing : (n : ℕ) → pos 0 ≡ pos (suc n) *ℤ pos 0
        nothing n = omega (arith, ints)
    divides n (x ∷ xs) zero all = sym (mul-floor x n (all zero (pos 0) (omega arith)))
    divides n (x ∷ xs) (suc i) all = divides n xs i (λ j d h. all (suc j) d (omega arith))

    at : (g : ℕ) → All (λ x. g ∣ unsigned_abs x) row.coef.items → (d : ℕ) × (coefficient row k ≡ pos (suc d) *ℤ coefficient (row_over g row) k)
    at zero all = (0, sym (one-*ℤ (coefficient row k)))
    at (suc n) all = (n, divides n row.coef.items k all)

-- a sign that a number keeps under a positive factor, and that 0 doesn't have
pub record IsSign (S : ℤ → Type 0) : Type 0 where
  pub kept : (d : ℕ) (q : ℤ) → S (pos (suc d) *ℤ q) → S q
  pub not_zero : S (pos 0) → ⊥

above : IsSign (λ z. pos 0 <ℤ z)
above = record { kept = λ d q h. positive d q h (λ below. *ℤ-≤ℤ (pos (suc d)) q (pos 0) (omega (arith, ints)) below); not_zero = λ h. omega (arith, ints, h) }
  where
    positive : (d : ℕ) (q : ℤ) → pos 0 <ℤ (pos (suc d) *ℤ q) → (q ≤ℤ pos 0 → (pos (suc d) *ℤ q) ≤ℤ (pos (suc d) *ℤ pos 0)) → pos 0 <ℤ q
    positive d q h wrong = ⊎_elim (λ is. is) (λ below. absurd (let no-more = wrong below in let none : pos (suc d) *ℤ pos 0 ≡ pos 0 = omega (arith, ints) in omega (arith, ints, no-more, none, h))) (apart q)
      where
        apart : (q : ℤ) → (pos 0 <ℤ q) ⊎ (q ≤ℤ pos 0)
        apart (pos zero) = inr (omega (arith, ints))
        apart (pos (suc n)) = inl (omega (arith, ints))
        apart (Rattle.std.proofs.Common.negsuc n) = inr (omega (arith, ints))

below_zero : IsSign (λ z. z <ℤ pos 0)
below_zero = record { kept = λ d q h. negative d q h (λ over. *ℤ-≤ℤ (pos (suc d)) (pos 0) q (omega (arith, ints)) over); not_zero = λ h. omega (arith, ints, h) }
  where
    negative : (d : ℕ) (q : ℤ) → (pos (suc d) *ℤ q) <ℤ pos 0 → (pos 0 ≤ℤ q → (pos (suc d) *ℤ pos 0) ≤ℤ (pos (suc d) *ℤ q)) → q <ℤ pos 0
    negative d q h wrong = ⊎_elim (λ is. is) (λ over. absurd (let no-less = wrong over in let none : pos (suc d) *ℤ pos 0 ≡ pos 0 = omega (arith, ints) in omega (arith, ints, no-less, none, h))) (apart q)
      where
        apart : (q : ℤ) → (q <ℤ pos 0) ⊎ (pos 0 ≤ℤ q)
        apart (pos n) = inr (omega (arith, ints))
        apart (Rattle.std.proofs.Common.negsuc n) = inl (omega (arith, ints))

module _ (S : ℤ → Type 0) (sign : IsSign S) (k : ℕ) where
  pub record Holds (rows : List Row) : Type 0 where
    pub row : Row
    pub has : Has rows row
    pub alone : IsAlone k row
    pub side : S (coefficient row k)

  zero-at : (xs : List ℤ) (i : ℕ) → list_all (λ x. int_eq x (pos 0)) xs ≡ true → get_or xs i (pos 0) ≡ pos 0
  zero-at [] i all = refl
  zero-at (x ∷ xs) zero all = (Decides-int_eq x (pos 0)).0 (and_parts (int_eq x (pos 0)) (list_all (λ x. int_eq x (pos 0)) xs) all).0
  zero-at (x ∷ xs) (suc i) all = zero-at xs i (and_parts (int_eq x (pos 0)) (list_all (λ x. int_eq x (pos 0)) xs) all).1

  tells : (row : Row) → S (coefficient row k) → says_nothing row ≡ false
  tells row side = at (is_constant row) (not (int_lt row.cst (pos 0))) refl
    where
      at : (a b : Bool) → is_constant row ≡ a → (a && b) ≡ false
      at true b e = absurd (sign.not_zero (subst S (zero-at row.coef.items k e) side))
      at false b e = refl

  tidied-holds : (rows : List Row) → Holds rows → Holds (tidied rows)
  tidied-holds rows holds =
      let scale = normal-scale holds.row k in
      let side : S (coefficient (normal holds.row) k) = sign.kept scale.0 (coefficient (normal holds.row) k) (subst S scale.1 holds.side) in
      let (least, has, tie, below) = (least-tidied rows).covers (normal holds.row) (has-told rows holds.row holds.has (tells (normal holds.row) side)) in
      let same = tied-coefficients (normal holds.row) least tie in
      record {
        row = least;
        has = has;
        alone = λ other apart. ap (λ (c : _). get_or c.items other (pos 0)) (sym same) ∙ coefficient-normal-zero holds.row other (holds.alone other apart);
        side = subst (λ (c : _). S (get_or c.items k (pos 0))) same side;
      }

  projected-holds : (variable : ℕ) (rows : List Row) → (variable ≡ k → ⊥) → Holds rows → Holds (projected variable rows)
  unfolding projected
  projected-holds variable rows apart holds = record {
    row = holds.row;
    has = has-left (filter (is_without variable) rows) (flat_map (λ P. map (crossed variable P) (filter (bounds_above variable) rows)) (filter (bounds_below variable) rows)) holds.row
        (has-filter (is_without variable) rows holds.row holds.has ((Decides-int_eq (coefficient holds.row variable) (pos 0)).1 (holds.alone variable apart)));
    alone = holds.alone;
    side = holds.side;
  }

  Keeps : Eliminated → Type 0
  Keeps set.False = Unit {0}
  Keeps set.Wide = Unit {0}
  Keeps (set.Rows rows) = Holds rows

  judged-keeps : (rows : List Row) → Holds rows → Keeps (judged rows)
  unfolding Keeps
  judged-keeps rows holds = judged-cases Keeps rows (λ some. tt) tt (λ narrow few. holds)

  next-keeps : (m : ℕ) (said : Eliminated) → (m ≡ k → ⊥) → Keeps said → Keeps (next m said)
  unfolding Keeps eliminated
  next-keeps m set.False apart keeps = tt
  next-keeps m set.Wide apart keeps = tt
  next-keeps m (set.Rows rows) apart keeps = judged-keeps (tidied (projected m rows)) (tidied-holds (projected m rows) (projected-holds m rows apart keeps))

  ruling-false : (m : ℕ) → ruling m set.False ≡ Empty
  ruling-false zero = refl
  ruling-false (suc m) = ruling-false m

  ruling-wide : (m : ℕ) → ruling m set.Wide ≡ Wide
  ruling-wide zero = refl
  ruling-wide (suc m) = ruling-wide m

  standing-holds : (m : ℕ) (said : Eliminated) → ruling m said ≡ Maybe → Keeps said → Holds (standing said)
  unfolding Keeps
  standing-holds m set.False is keeps = absurd (let e = ruling-false m in cc)
  standing-holds m set.Wide is keeps = absurd (let e = ruling-wide m in cc)
  standing-holds m (set.Rows rows) is keeps = keeps

  -- down to level k, which the rows reach
  level-holds : (m : ℕ) (said : Eliminated) → k < m → ruling m said ≡ Maybe → Keeps said → Holds (get_or (levels m said) k [])
  level-holds zero said inside is keeps = absurd (omega arith)
  level-holds (suc m) said inside is keeps = ⊎_elim
      (λ less. subst Holds (sym (get_or_append_left (levels m (next m said)) (standing said ∷ []) [] k (let long = length-levels m (next m said) in omega (arith, long))))
      (level-holds m (next m said) less is (next-keeps m said (λ e. omega arith) keeps)))
      (λ last. subst (λ (i : ℕ). Holds (get_or (levels m (next m said) ++ standing said ∷ []) i [])) (length-levels m (next m said) ∙ sym last)
      (subst Holds (sym (get_or-append_seam (levels m (next m said)) (standing said) [] [])) (standing-holds (suc m) said is keeps)))
      (below-or-last k m inside)

  pub rows-hold : (n : ℕ) (rows : List Row) → verdict_of n rows ≡ Maybe → k < n → Holds rows → Holds (get_or (bounds_of n rows).levels k [])
  unfolding bounds_of verdict_of
  rows-hold n rows is inside holds = level-holds n (judged (tidied rows)) inside is (judged-keeps (tidied rows) (tidied-holds rows holds))

pub bounded_levels_close : BoundedLevelsClose
bounded_levels_close n rows k lower upper is inside has-lower alone-lower side-lower has-upper alone-upper side-upper open_ =
    let first = rows-hold (λ z. pos 0 <ℤ z) above k n rows is inside (record { row = lower; has = has-from-contains rows lower has-lower; alone = alone-lower; side = side-lower }) in
    let second = rows-hold (λ z. z <ℤ pos 0) below_zero k n rows is inside (record { row = upper; has = has-from-contains rows upper has-upper; alone = alone-upper; side = side-upper }) in
    ⊎_elim
    (λ none. let at = All-has (λ row. coefficient row k ≤ℤ pos 0) (get_or (bounds_of n rows).levels k []) first.row none first.has in let side = first.side in omega (arith, ints, at, side))
    (λ none. let at = All-has (λ row. pos 0 ≤ℤ coefficient row k) (get_or (bounds_of n rows).levels k []) second.row none second.has in let side = second.side in omega (arith, ints, at, side))
    open_

-- ---- the last level

-- the rows of the last level say all that the rows say
last-level : (m : ℕ) (rows : List Row) (point : List ℤ) → verdict_of (suc m) rows ≡ Maybe → All (Meets point) (get_or (bounds_of (suc m) rows).levels m []) → All (Meets point) rows
unfolding bounds_of verdict_of
last-level m rows point is =
    let said = judged (tidied rows) in
    let at : get_or (levels m (next m said) ++ standing said ∷ []) m [] ≡ standing said =
    subst (λ i. get_or (levels m (next m said) ++ standing said ∷ []) i [] ≡ standing said) (length-levels m (next m said)) (get_or-append_seam (levels m (next m said)) (standing said) [] []) in
    subst (λ (l : List Row). All (Meets point) l → All (Meets point) rows) (sym at)
    (judged-cases (λ s. ruling (suc m) s ≡ Maybe → All (Meets point) (standing s) → All (Meets point) rows) (tidied rows)
    (λ some e met. absurd (never-false (suc m) e))
    (λ e met. absurd (never-wide (suc m) e))
    (λ narrow few e met. met-tidied rows point met)
    is)
  where
    never-false : (m : ℕ) → ruling m set.False ≡ Maybe → ⊥
    never-false zero e = cc
    never-false (suc m) e = never-false m e

    never-wide : (m : ℕ) → ruling m set.Wide ≡ Maybe → ⊥
    never-wide zero e = cc
    never-wide (suc m) e = never-wide m e

pub allowed_points_meet : AllowedPointsMeet
allowed_points_meet zero rows point is some long allowed = absurd (omega arith)
allowed_points_meet (suc m) rows point is some long allowed =
    let whole : take m point ++ get_or point m (pos 0) ∷ [] ≡ point = sym (take_more point m (pos 0) (omega (arith, long))) ∙ take_all (m + 1) point (omega (arith, long)) in
    last-level m rows point is (subst (λ (p : List ℤ). All (Meets p) (get_or (bounds_of (suc m) rows).levels m [])) whole (allowed m (omega arith)))
