-- The levels: what their rows reach, and that the points of the system lie in them.
use Rattle.std.proofs.Common.{◌≡◌, ℕ, zero, suc, ◌+◌, ◌<◌, ◌≤◌, ℤ, pos, neg_ℤ, ◌+ℤ◌, ◌*ℤ◌, ◌≤ℤ◌, List, [], ◌∷◌, ◌++◌, length, take, get_or, refl, sym, ap, ◌∙◌, subst, inl, inr, ⊎_elim, arith}
use Rattle.std.specs.Prelude.{◌⊎◌}
use Rattle.std.specs.List.{All}
use Rattle.std.proofs.lemmas.Bool.Decides.{Decides-int_eq}
use Rattle.std.proofs.Math.IntN.{*ℤ_comm}
use Rattle.std.proofs.lemmas.Int.{ints}
use Rattle.std.proofs.lemmas.List.{get_or_append_left, get_or_past, take_more}
use Rattle.std.proofs.lemmas.List.Elements.{All-nil}
use Rattle.std.proofs.Math.Seq.{get_or-append_seam}
use Rattle.plain_lemmas.proofs.IntegerLaws.{*ℤ-neg_ℤ}
use Rattle.affine.specs.declared.row.Row.{Row}
use Rattle.affine.specs.Sums.{dot, weighted}
use Rattle.affine.specs.Rows.{Meets, coefficient, variables}
use Rattle.affine.proofs.NormalLaws.{coefficient-normal-zero}
use Rattle.affine.proofs.SumLaws.{dot-nil}
use Rattle.fourier_motzkin.specs.RowSets.{tidied}
use Rattle.fourier_motzkin.specs.Elimination.{AllOver, MeetsSaid, eliminated, judged, projected}
use Rattle.fourier_motzkin.specs.declared.elimination.Eliminated.{Eliminated}
use Rattle.fourier_motzkin.specs.declared.elimination.Eliminated.TheVariants as set
use Rattle.fourier_motzkin.specs.Laws.{LevelsReach, PointsLieInRanges}
use Rattle.fourier_motzkin.specs.Verdicts.{bounds_of, levels, next, standing}
use Rattle.plain_lemmas.proofs.MembershipLaws.{All-from, All-has}
use Rattle.fourier_motzkin.proofs.PointLaws.{OverSaid, judged-cases, judged-met, judged-over, next-met, next-over, projected-from, tidied-met, tidied-over, told-from}
use Rattle.fourier_motzkin.proofs.EliminationRunLaws.{length-levels}
use Rattle.fourier_motzkin.proofs.SetLaws.{least-tidied}

-- a coefficient that is 0 stays so, and that of the variable becomes 0

IsZeroAt : ℕ → List Row → Type 0
IsZeroAt j rows = All (λ row. coefficient row j ≡ pos 0) rows

weighted-zero : (q : ℤ) (xs : List ℤ) (p : ℤ) (ys : List ℤ) (j : ℕ) → q *ℤ get_or xs j (pos 0) +ℤ p *ℤ get_or ys j (pos 0) ≡ pos 0 → get_or (weighted q xs p ys) j (pos 0) ≡ pos 0
weighted-zero q [] p ys j h = refl
weighted-zero q (x ∷ xs) p [] j h = refl
weighted-zero q (x ∷ xs) p (y ∷ ys) zero h = h
weighted-zero q (x ∷ xs) p (y ∷ ys) (suc j) h = weighted-zero q xs p ys j h

both-zero : (q x p y : ℤ) → x ≡ pos 0 → y ≡ pos 0 → q *ℤ x +ℤ p *ℤ y ≡ pos 0
both-zero q x p y e f = rw (e, f) (omega (arith, ints))

cancels : (a b : ℤ) → neg_ℤ b *ℤ a +ℤ a *ℤ b ≡ pos 0
cancels a b =
    let turned = *ℤ_comm (neg_ℤ b) a in
    let minus = *ℤ-neg_ℤ a b in
    omega (arith, ints, turned, minus)

tidied-zero : (j : ℕ) (rows : List Row) → IsZeroAt j rows → IsZeroAt j (tidied rows)
unfolding IsZeroAt
tidied-zero j rows zeros = All-from (λ row. coefficient row j ≡ pos 0) (tidied rows) (λ row h.
    let (given, k, is) = told-from rows row ((least-tidied rows).from row h) in
    ap (λ r. coefficient r j) is ∙ coefficient-normal-zero given j (All-has (λ row. coefficient row j ≡ pos 0) rows given zeros k))

projected-zero : (j variable : ℕ) (rows : List Row) → IsZeroAt j rows → IsZeroAt j (projected variable rows)
unfolding IsZeroAt
projected-zero j variable rows zeros = All-from (λ row. coefficient row j ≡ pos 0) (projected variable rows) (projected-from variable rows (λ row. coefficient row j ≡ pos 0)
    (λ row h is. All-has (λ row. coefficient row j ≡ pos 0) rows row zeros h)
    (λ below above h k p q. weighted-zero (neg_ℤ (coefficient above variable)) below.coef.items (coefficient below variable) above.coef.items j
    (both-zero (neg_ℤ (coefficient above variable)) (coefficient below j) (coefficient below variable) (coefficient above j)
    (All-has (λ row. coefficient row j ≡ pos 0) rows below zeros h) (All-has (λ row. coefficient row j ≡ pos 0) rows above zeros k))))

projected-gone : (variable : ℕ) (rows : List Row) → IsZeroAt variable (projected variable rows)
unfolding IsZeroAt
projected-gone variable rows = All-from (λ row. coefficient row variable ≡ pos 0) (projected variable rows) (projected-from variable rows (λ row. coefficient row variable ≡ pos 0)
    (λ row h is. (Decides-int_eq (coefficient row variable) (pos 0)).0 is)
    (λ below above h k p q. weighted-zero (neg_ℤ (coefficient above variable)) below.coef.items (coefficient below variable) above.coef.items variable
    (cancels (coefficient below variable) (coefficient above variable))))

standing-judged : (j : ℕ) (rows : List Row) → IsZeroAt j rows → IsZeroAt j (standing (judged rows))
unfolding IsZeroAt
standing-judged j rows zeros = judged-cases (λ said. All (λ row. coefficient row j ≡ pos 0) (standing said)) rows
    (λ some. All-nil (λ row. coefficient row j ≡ pos 0)) (All-nil (λ row. coefficient row j ≡ pos 0)) (λ narrow few. zeros)

standing-eliminated : (j variable : ℕ) (rows : List Row) → IsZeroAt j (projected variable rows) → IsZeroAt j (standing (eliminated variable rows))
unfolding eliminated
standing-eliminated j variable rows zeros = standing-judged j (tidied (projected variable rows)) (tidied-zero j (projected variable rows) zeros)

-- the rows that stand have variables below m alone
ReachesBelow : ℕ → Eliminated → Type 0
ReachesBelow m said = (j : ℕ) → m ≤ j → IsZeroAt j (standing said)

next-zero : (m j : ℕ) (said : Eliminated) → ReachesBelow (suc m) said → m ≤ j → IsZeroAt j (standing (next m said))
unfolding ReachesBelow IsZeroAt
next-zero m j set.False reach above = All-nil (λ row. coefficient row j ≡ pos 0)
next-zero m j set.Wide reach above = All-nil (λ row. coefficient row j ≡ pos 0)
next-zero m j (set.Rows rows) reach above = standing-eliminated j m rows (⊎_elim
    (λ e. subst (λ v. IsZeroAt v (projected m rows)) e (projected-gone m rows))
    (λ more. projected-zero j m rows (reach j more))
    (apart m j above))
  where
    apart : (m j : ℕ) → m ≤ j → (m ≡ j) ⊎ (suc m ≤ j)
    apart zero zero h = inl refl
    apart zero (suc j) h = inr (omega arith)
    apart (suc m) zero h = absurd (omega arith)
    apart (suc m) (suc j) h = ⊎_elim (λ e. inl (ap suc e)) (λ k. inr (omega arith)) (apart m j (omega arith))

start-reaches : (n : ℕ) (rows : List Row) → AllOver n rows → ReachesBelow n (judged (tidied rows))
unfolding ReachesBelow IsZeroAt
start-reaches n rows over j above = standing-judged j (tidied rows) (All-from (λ row. coefficient row j ≡ pos 0) (tidied rows) (λ row h.
    get_or_past row.coef.items j (pos 0) (let long = All-has (λ row. variables row ≡ n) (tidied rows) row (tidied-over n rows over) h in omega (arith, long))))

-- what holds of the rows that stand before each elimination holds of its level

pub below-or-last : (k m : ℕ) → k < suc m → (k < m) ⊎ (k ≡ m)
below-or-last zero zero h = inr refl
below-or-last zero (suc m) h = inl (omega arith)
below-or-last (suc k) zero h = absurd (omega arith)
below-or-last (suc k) (suc m) h = ⊎_elim (λ less. inl (omega arith)) (λ e. inr (ap suc e)) (below-or-last k m (omega arith))

level_at : (P : ℕ → List Row → Type 0) (Q : ℕ → Eliminated → Type 0) → ((m : ℕ) (said : Eliminated) → Q (suc m) said → Q m (next m said)) → ((m : ℕ) (said : Eliminated) → Q (suc m) said → P m (standing said))
    → (m : ℕ) (said : Eliminated) → Q m said → (k : ℕ) → k < m → P k (get_or (levels m said) k [])
level_at P Q step holds zero said start k below = absurd (omega arith)
level_at P Q step holds (suc m) said start k below = ⊎_elim
    (λ less. subst (P k) (sym (get_or_append_left (levels m (next m said)) (standing said ∷ []) [] k (let long = length-levels m (next m said) in omega (arith, long))))
    (level_at P Q step holds m (next m said) (step m said start) k less))
    (λ last. subst (λ i. P i (get_or (levels m (next m said) ++ standing said ∷ []) i [])) (length-levels m (next m said) ∙ sym last)
    (subst (P (length (levels m (next m said)))) (sym (get_or-append_seam (levels m (next m said)) (standing said) [] []))
    (subst (λ i. P i (standing said)) (sym (length-levels m (next m said))) (holds m said start))))
    (below-or-last k m below)

reaches-next : (m : ℕ) (said : Eliminated) → ReachesBelow (suc m) said → ReachesBelow m (next m said)
unfolding ReachesBelow
reaches-next m said reach j above = next-zero m j said reach above

reaches-level : (m : ℕ) (said : Eliminated) → ReachesBelow (suc m) said → (j : ℕ) → m < j → IsZeroAt j (standing said)
unfolding ReachesBelow
reaches-level m said reach j above = reach j (omega arith)

level-reaches : (n : ℕ) (rows : List Row) → AllOver n rows → (k : ℕ) → k < n → (j : ℕ) → k < j → IsZeroAt j (get_or (levels n (judged (tidied rows))) k [])
level-reaches n rows over = level_at (λ m rows. (j : ℕ) → m < j → IsZeroAt j rows) ReachesBelow reaches-next reaches-level n (judged (tidied rows)) (start-reaches n rows over)

standing-met : (said : Eliminated) (point : List ℤ) → MeetsSaid point said → All (Meets point) (standing said)
standing-met set.False point met = absurd met
standing-met set.Wide point met = All-nil (Meets point)
standing-met (set.Rows rows) point met = met

level-met : (n : ℕ) (rows : List Row) (point : List ℤ) → AllOver n rows → All (Meets point) rows → (k : ℕ) → k < n → All (Meets point) (get_or (levels n (judged (tidied rows))) k [])
level-met n rows point over met k below =
    level_at (λ m rows. All (Meets point) rows) (λ m said. OverSaid n said × MeetsSaid point said)
    (λ m said h. (next-over n m said h.0, next-met n m said point h.0 h.1))
    (λ m said h. standing-met said point h.1)
    n (judged (tidied rows)) (judged-over n (tidied rows) (tidied-over n rows over), judged-met (tidied rows) point (tidied-met rows point met)) k below

-- a row whose further coefficients are 0 at the front of a point

dot-front : (xs point : List ℤ) (k : ℕ) → ((j : ℕ) → k ≤ j → get_or xs j (pos 0) ≡ pos 0) → dot xs (take k point) ≡ dot xs point
dot-front [] point k zeros = refl
dot-front (x ∷ xs) [] zero zeros = refl
dot-front (x ∷ xs) [] (suc k) zeros = refl
dot-front (x ∷ xs) (y ∷ point) zero zeros =
    let first : x ≡ pos 0 = zeros zero (omega arith) in
    let rest = dot-front xs point zero (λ j h. zeros (suc j) (omega arith)) in
    rw first (nothing y (dot xs (take zero point)) (dot xs point) rest (dot-nil xs))
  where
    nothing : (y a b : ℤ) → a ≡ b → a ≡ pos 0 → pos 0 ≡ pos 0 *ℤ y +ℤ b
    nothing y a b e f = omega (arith, ints, e, f)
dot-front (x ∷ xs) (y ∷ point) (suc k) zeros = ap (λ s. x *ℤ y +ℤ s) (dot-front xs point k (λ j h. zeros (suc j) (omega arith)))

front-meets : (row : Row) (point : List ℤ) (k : ℕ) → ((j : ℕ) → k < j → coefficient row j ≡ pos 0) → k < length point → Meets point row → Meets (take k point ++ get_or point k (pos 0) ∷ []) row
front-meets row point k zeros below met =
    let front : dot row.coef.items (take (k + 1) point) ≡ dot row.coef.items point = dot-front row.coef.items point (k + 1) (λ j h. zeros j (omega arith)) in
    let is : take (k + 1) point ≡ take k point ++ get_or point k (pos 0) ∷ [] = take_more point k (pos 0) below in
    subst (λ p. Meets p row) is (subst (λ s. pos 0 ≤ℤ (s +ℤ row.cst)) (sym front) met)

pub levels_reach : LevelsReach
unfolding bounds_of IsZeroAt
levels_reach n rows k j over below above = level-reaches n rows over k below j above

pub points_lie_in_ranges : PointsLieInRanges
unfolding bounds_of IsZeroAt
points_lie_in_ranges n rows point k over met long below =
    All-from (Meets (take k point ++ get_or point k (pos 0) ∷ [])) (get_or (levels n (judged (tidied rows))) k []) (λ row h.
    front-meets row point k
    (λ j above. All-has (λ row. coefficient row j ≡ pos 0) (get_or (levels n (judged (tidied rows))) k []) row (level-reaches n rows over k below j above) h)
    (omega (arith, long))
    (All-has (Meets point) (get_or (levels n (judged (tidied rows))) k []) row (level-met n rows point over met k below) h))
