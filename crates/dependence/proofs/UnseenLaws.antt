-- No point meets a system of a block inside a loop of which no head was seen.
use Rattle.std.proofs.Common.{◌≡◌, refl, sym, ap, ◌∙◌, subst, ℕ, zero, suc, ◌<◌, ◌≤◌, ◌+◌, ◌-◌, ◌⊎◌, inl, inr, ℤ, pos, negsuc, ◌+ℤ◌, ◌≤ℤ◌, lt-ltb, None, List, [], ◌∷◌, ◌++◌, take, drop, replicate, length, length-take-le, length-drop, arith}
use Rattle.std.specs.List.{All, range_with_len}
use Rattle.std.proofs.Math.IntN.{*ℤ-zero}
use Rattle.std.proofs.lemmas.List.{length-replicate}
use Rattle.std.proofs.lemmas.Int.{ints}
use Rattle.affine.specs.Sums.{dot}
use Rattle.affine.specs.Forms.{Affine, value_at}
use Rattle.affine.specs.Rows.{Meets}
use Rattle.plain_lemmas.proofs.MembershipLaws.{All-has, has-left, has-right, has-map, has-flat_map, has-from-contains}
use Rattle.plain_lemmas.specs.Lists.{Has}
use Rattle.nest_lang.specs.declared.tree.AccessRef.{AccessRef}
use Rattle.domain.specs.Tables.{Table, Block, IsTable, cut, depth, zero_form, trip_form, block_at, level_at, counters, turning}
use Rattle.dependence.specs.Comparisons.{Joint, point, Term, Number, AtX, AtY, value, AtMost, Holds, at_most, row_for}
use Rattle.dependence.specs.Systems.{System, comparisons, counter_form, equal_places, first_counter, greatest, inner_counter, inner_counters, meeting, referred, rising_place, system, systems}
use Rattle.dependence.specs.Laws.{UnseenLoopUnmet}
use Rattle.dependence.proofs.SumLaws.{value-shifted, value-zero_form}
use Rattle.dependence.proofs.RangeLaws.{has-range}
use Rattle.dependence.proofs.RowLaws.{holds-from-meets, variables-row_for}
use Rattle.dependence.proofs.VerdictLaws.{system-is}
use Rattle.dependence.proofs.PairLaws.{names}
use Rattle.dependence.proofs.ComparisonLaws.{counts-at}

-- ---- a point of n numbers in place of another

dot-zeros-behind : (cs : List ℤ) (n : ℕ) → dot cs (replicate n (pos 0)) ≡ pos 0
dot-zeros-behind [] n = refl
dot-zeros-behind (c ∷ cs) zero = refl
dot-zeros-behind (c ∷ cs) (suc n) = rw (*ℤ-zero c, dot-zeros-behind cs n) refl

-- the first n numbers, with zeros for what is missing
of-size : ℕ → List ℤ → List ℤ
of-size zero ps = []
of-size (suc n) [] = replicate (suc n) (pos 0)
of-size (suc n) (p ∷ ps) = p ∷ of-size n ps

length-of-size : (n : ℕ) (ps : List ℤ) → length (of-size n ps) ≡ n
unfolding of-size
length-of-size zero ps = refl
length-of-size (suc n) [] = length-replicate (suc n) (pos 0)
length-of-size (suc n) (p ∷ ps) = ap suc (length-of-size n ps)

dot-of-size : (n : ℕ) (cs ps : List ℤ) → length cs ≡ n → dot cs (of-size n ps) ≡ dot cs ps
unfolding of-size
dot-of-size zero [] ps l = refl
dot-of-size zero (c ∷ cs) ps l = absurd (omega arith)
dot-of-size (suc n) [] ps l = absurd (omega arith)
dot-of-size (suc n) (c ∷ cs) [] l = dot-zeros-behind (c ∷ cs) (suc n)
dot-of-size (suc n) (c ∷ cs) (p ∷ ps) l = rw (dot-of-size n cs ps (omega arith)) refl

parted : (n : ℕ) (ps : List ℤ) → take n ps ++ drop n ps ≡ ps
parted zero ps = refl
parted (suc n) [] = refl
parted (suc n) (p ∷ ps) = ap (λ (rest : List ℤ). p ∷ rest) (parted n ps)

-- a point, as the first turn, nx counters and ny counters
joint-by : ℕ → List ℤ → Joint
joint-by nx [] = record { turn = pos 0; x = []; y = [] }
joint-by nx (f ∷ ps) = record { turn = f; x = take nx ps; y = drop nx ps }

record IsJoint (nx ny : ℕ) (ps : List ℤ) (j : Joint) : Type 0 where
  pub same : point j ≡ ps
  pub x : length j.x ≡ nx
  pub y : length j.y ≡ ny

joint-is : (nx ny : ℕ) (ps : List ℤ) → length ps ≡ 1 + (nx + ny) → IsJoint nx ny ps (joint-by nx ps)
unfolding joint-by
joint-is nx ny [] l = absurd (omega arith)
joint-is nx ny (f ∷ ps) l = record {
  same = ap (λ (rest : List ℤ). f ∷ rest) (parted nx ps);
  x = length-take-le nx ps (omega arith);
  y = length-drop nx ps ∙ omega arith;
}

-- where a point meets a row, the comparison holds of that point's numbers
holds-of-point : (nx ny : ℕ) (c : AtMost) (ps : List ℤ) → Meets ps (row_for nx ny c) → Holds (joint-by nx (of-size (1 + (nx + ny)) ps)) c
holds-of-point nx ny c ps met =
    let qs = of-size (1 + (nx + ny)) ps in
    let j = joint-is nx ny qs (length-of-size (1 + (nx + ny)) ps) in
    let same : dot (row_for nx ny c).coef.items qs ≡ dot (row_for nx ny c).coef.items ps = dot-of-size (1 + (nx + ny)) (row_for nx ny c).coef.items ps (variables-row_for nx ny c) in
    holds-from-meets nx ny (joint-by nx qs) c j.x j.y
    (subst (λ (p : List ℤ). Meets p (row_for nx ny c)) (sym j.same) (subst (λ (z : ℤ). pos 0 ≤ℤ (z +ℤ (row_for nx ny c).cst)) (sym same) met))

-- ---- the greatest value of a counter of an unseen loop

cut-zeros : (k n : ℕ) → cut k (replicate n (pos 0)) ≡ replicate n (pos 0)
cut-zeros k zero = refl
cut-zeros zero (suc n) = ap (λ (xs : List ℤ). pos 0 ∷ xs) (cut-zeros zero n)
cut-zeros (suc k) (suc n) = ap (λ (xs : List ℤ). pos 0 ∷ xs) (cut-zeros k n)

trip-none : (t : Table) (k : ℕ) → (level_at t k).trip ≡ None → trip_form t k ≡ zero_form (depth t)
trip-none t k e = rw (e, cut-zeros k (depth t)) refl

value-greatest : (t : Table) (b : Block) (k : ℕ) (at : List ℤ) → (level_at t k).trip ≡ None → k < turning b → value_at (greatest t b k) at ≡ negsuc 0
value-greatest t b k at e l =
    rw (lt-ltb k (turning b) l) (value-shifted (negsuc 0) (trip_form t k) at ∙ ap (λ (form : Affine). value_at form at +ℤ negsuc 0) (trip-none t k e) ∙ ap (λ (z : ℤ). z +ℤ negsuc 0) (value-zero_form (depth t) at))

-- ---- its rows in a system

inner-has : (t : Table) (b : Block) (side : Affine → Term) (k : ℕ) → 1 ≤ k → k < counters t b → (c : AtMost) → Has (inner_counter t b side k) c → Has (inner_counters t b side) c
inner-has t b side k from l c h = has-flat_map (inner_counter t b side) (range_with_len 1 (counters t b - 1)) k c (has-range 1 (counters t b - 1) k from (omega arith)) h

-- what stands behind the first counters of a system
behind-first : Table → AccessRef → AccessRef → ℕ → List AtMost
behind-first t a b case =
    inner_counters t (block_at t a.block) AtX
    ++ (inner_counters t (block_at t b.block) AtY
    ++ (meeting (depth t) (referred t a) (referred t b) ++ (equal_places t (block_at t a.block) (block_at t b.block) (case - 1) ++ rising_place t (block_at t a.block) (block_at t b.block) (case - 1))))

has-behind : (t : Table) (L : ℤ) (a b : AccessRef) (case : ℕ) (c : AtMost) → Has (behind-first t a b case) c → Has (comparisons t L a b case) c
unfolding comparisons behind-first
has-behind t L a b case c h =
    let rest = behind-first t a b case in
    inr (has-right (first_counter t L AtX) (first_counter t L AtY ++ rest) c (has-right (first_counter t L AtY) rest c h))

has-first : (t : Table) (L : ℤ) (a b : AccessRef) (case : ℕ) (c : AtMost) → Has (inner_counters t (block_at t a.block) AtX) c → Has (comparisons t L a b case) c
unfolding behind-first
has-first t L a b case c h = let A = block_at t a.block in let B = block_at t b.block in has-behind t L a b case c (has-left (inner_counters t A AtX) (inner_counters t B AtY ++ (meeting (depth t) (referred t a) (referred t b) ++ (equal_places t A B (case - 1) ++ rising_place t A B (case - 1)))) c h)

has-second : (t : Table) (L : ℤ) (a b : AccessRef) (case : ℕ) (c : AtMost) → Has (inner_counters t (block_at t b.block) AtY) c → Has (comparisons t L a b case) c
unfolding behind-first
has-second t L a b case c h =
    let A = block_at t a.block in
    let B = block_at t b.block in
    let last = meeting (depth t) (referred t a) (referred t b) ++ (equal_places t A B (case - 1) ++ rising_place t A B (case - 1)) in
    has-behind t L a b case c (has-right (inner_counters t A AtX) (inner_counters t B AtY ++ last) c (has-left (inner_counters t B AtY) last c h))

module _ (t : Table) (L : ℤ) (a b : AccessRef) (case : ℕ) (ps : List ℤ) (met : All (Meets ps) (system t L a b case).rows) where
  holds-at : (c : AtMost) → Has (comparisons t L a b case) c → Holds (joint-by (counters t (block_at t a.block)) (of-size (1 + (counters t (block_at t a.block) + counters t (block_at t b.block))) ps)) c
  holds-at c h =
      let nx = counters t (block_at t a.block) in
      let ny = counters t (block_at t b.block) in
      holds-of-point nx ny c ps (All-has (Meets ps) (system t L a b case).rows (row_for nx ny c) met (has-map (row_for nx ny) (comparisons t L a b case) c h))

  -- a counter from 0 to -1
  unmet : (rank : ℕ) (side : Affine → Term) (at : List ℤ) (k : ℕ) → ((c : AtMost) → Has (inner_counters t (block_at t rank) side) c → Has (comparisons t L a b case) c)
      → ((form : Affine) → value (joint-by (counters t (block_at t a.block)) (of-size (1 + (counters t (block_at t a.block) + counters t (block_at t b.block))) ps)) (side form) ≡ value_at form at)
      → 1 ≤ k → k < counters t (block_at t rank) → (level_at t k).trip ≡ None → k < turning (block_at t rank) → ⊥
  unmet rank side at k has is from l none turns =
      let block = block_at t rank in
      let counter = counter_form (depth t) k in
      let low = holds-at (at_most (Number (pos 0)) (side counter)) (has _ (inner-has t block side k from l _ (inl refl))) in
      let high = holds-at (at_most (side counter) (side (greatest t block k))) (has _ (inner-has t block side k from l _ (inr (inl refl)))) in
      let top = is (greatest t block k) ∙ value-greatest t block k at none turns in
      omega (arith, ints, low, high, top)

unmet-of : (D : ℕ) (t : Table) (L : ℤ) (a b : AccessRef) (c k : ℕ) (ps : List ℤ) → IsTable D t → a.block < length t.blocks → b.block < length t.blocks → 1 ≤ k → (level_at t k).trip ≡ None
    → (k < turning (block_at t a.block)) ⊎ (k < turning (block_at t b.block)) → All (Meets ps) (system t L a b c).rows → ⊥
unmet-of D t L a b c k ps is first second from none (inl inside) met =
    let n = counts-at D t a.block is first in
    unmet t L a b c ps met a.block AtX (joint-by (counters t (block_at t a.block)) (of-size (1 + (counters t (block_at t a.block) + counters t (block_at t b.block))) ps)).x k (has-first t L a b c) (λ form. refl) from (omega (arith, n.least)) none inside
unmet-of D t L a b c k ps is first second from none (inr inside) met =
    let n = counts-at D t b.block is second in
    unmet t L a b c ps met b.block AtY (joint-by (counters t (block_at t a.block)) (of-size (1 + (counters t (block_at t a.block) + counters t (block_at t b.block))) ps)).y k (has-second t L a b c) (λ form. refl) from (omega (arith, n.least)) none inside

pub unseen_loop_unmet : UnseenLoopUnmet
unseen_loop_unmet D t L sys k is of from none inside ps met =
    let h = has-from-contains (systems t L) sys of in
    let i = system-is t L sys h in
    let n = names t L sys h in
    unmet-of D t L i.first i.second i.case k ps is (subst (λ (s : System). s.first.block < length t.blocks) i.same n.first.block) (subst (λ (s : System). s.second.block < length t.blocks) i.same n.second.block) from none
    (subst (λ (s : System). (k < turning (block_at t s.first.block)) ⊎ (k < turning (block_at t s.second.block))) i.same inside)
    (subst (λ (s : System). All (Meets ps) s.rows) i.same met)
