-- A line through trips that stay within reach stays within reach.
use Rattle.std.proofs.Common.{◌≡◌, refl, sym, ap, subst, ◌∙◌, ℕ, zero, suc, ◌+◌, ◌*◌, ◌^◌, ◌<◌, ◌≤◌, ◌⊎◌, inl, inr, ℤ, pos, ◌+ℤ◌, ◌-ℤ◌, ◌*ℤ◌, unsigned_abs, List, [], ◌∷◌, length, map, get_or, slice_get, Option, Some, None, arith}
use Rattle.std.specs.List.{All}
use Rattle.std.proofs.Math.Nat.{mul-le-mul}
use Rattle.std.proofs.lemmas.Int.{ints}
use Rattle.std.proofs.lemmas.List.Elements.{All-contains, All-from_get_or}
use Rattle.plain_lemmas.proofs.IntegerLaws.{unsigned_abs-add, unsigned_abs-mul-le}
use Rattle.affine.specs.Forms.{Affine}
use Rattle.affine.specs.Sums.{dot}
use Rattle.line_fit.specs.Samples.{Sample, sample_at, IsCoefficient}
use Rattle.line_fit.specs.Lines.{IsLine}
use Rattle.domain.specs.declared.prediction.What.{What}
use Rattle.domain.specs.declared.prediction.What.TheVariants.{Trip}
use Rattle.domain.specs.declared.table.LoopKind.{LoopKind}
use Rattle.domain.specs.Tables.{Level, Reaches, block_at, level_at, no_level, stride_size}
use Rattle.domain.specs.Shapes.{kind_of}
use Rattle.nest_lang.specs.declared.tree.Loop.{Loop}
use Rattle.nest_lang.specs.declared.tree.Part.TheVariants.{Head}
use Rattle.nest_lang.specs.Blocks.{block_ref}
use Rattle.nest_lang.proofs.RankLaws.{ranks-are-numbers, present_blocks-have-ranks}
use Rattle.std.specs.Prelude.{option_and_then}
use Rattle.profile.specs.Data.{data_of, samples_at, tube_about, tube_in}
use Rattle.profile.specs.Fits.{HasFit, HasFitAt}
use Rattle.profile.specs.Reach.{FormsStayWithinReach, IsWithinReach}
use Rattle.profile.proofs.OneFitLaws.{deep, has-trip, inner-head, own}

module _ (stride : ℕ) where
  -- the stride times a difference
  difference : (a b : ℤ) → stride * unsigned_abs a ≤ 2 ^ 65 → stride * unsigned_abs b ≤ 2 ^ 65 → stride * unsigned_abs (a -ℤ b) ≤ 2 ^ 66
  difference a b h k =
      let less : unsigned_abs (a -ℤ b) ≤ unsigned_abs a + unsigned_abs b = omega (arith, ints) in
      let whole : stride * unsigned_abs (a -ℤ b) ≤ stride * (unsigned_abs a + unsigned_abs b) = mul-le-mul (omega arith) less in
      let parts : stride * (unsigned_abs a + unsigned_abs b) ≡ stride * unsigned_abs a + stride * unsigned_abs b = grind arith in
      omega arith

  coefficient : (samples : List Sample) (k : ℕ) (c : ℤ) → All (IsWithinReach stride) samples → IsCoefficient k samples c → stride * unsigned_abs c ≤ 2 ^ 66
  coefficient samples k c all (inl none) = subst (λ (z : ℤ). stride * unsigned_abs z ≤ 2 ^ 66) (sym none.1) (let e : stride * 0 ≡ 0 = grind arith in omega arith)
  coefficient samples k c all (inr rise) =
      let within = rise.step.step.within in
      let earlier = rise.step.step.earlier in
      subst (λ (z : ℤ). stride * unsigned_abs z ≤ 2 ^ 66) (sym rise.difference)
      (difference (sample_at samples rise.to).value (sample_at samples rise.from).value (all rise.to _ within).trip (all rise.from _ (omega arith)).trip)

  product : (m n a b : ℕ) → stride * a ≤ m → b ≤ n → stride * (a * b) ≤ m * n
  product m n a b h k =
      let whole : (stride * a) * b ≤ m * n = mul-le-mul h k in
      let turned : stride * (a * b) ≡ (stride * a) * b = grind arith in
      omega arith

  -- the stride times a sum of products
  sum : (m n : ℕ) (coef at : List ℤ) → ((k : ℕ) → k < length coef → stride * unsigned_abs (get_or coef k (pos 0)) ≤ m) → ((k : ℕ) → k < length at → unsigned_abs (get_or at k (pos 0)) ≤ n) → stride * unsigned_abs (dot coef at) ≤ length coef * (m * n)
  sum m n [] at a b = let e : stride * 0 ≡ 0 = grind arith in omega arith
  sum m n (c ∷ coef) [] a b = let e : stride * 0 ≡ 0 = grind arith in omega arith
  sum m n (c ∷ coef) (x ∷ at) a b =
      let more = sum m n coef at (λ k h. a (suc k) (omega arith)) (λ k h. b (suc k) (omega arith)) in
      let size : unsigned_abs (c *ℤ x) ≤ unsigned_abs c * unsigned_abs x = unsigned_abs-mul-le c x (unsigned_abs c) (unsigned_abs x) (omega arith) (omega arith) in
      let one = product m n (unsigned_abs c) (unsigned_abs x) (a 0 (omega arith)) (b 0 (omega arith)) in
      let less : unsigned_abs (c *ℤ x +ℤ dot coef at) ≤ unsigned_abs c * unsigned_abs x + unsigned_abs (dot coef at) = (let u = unsigned_abs-add (c *ℤ x) (dot coef at) in omega arith) in
      let whole : stride * unsigned_abs (c *ℤ x +ℤ dot coef at) ≤ stride * (unsigned_abs c * unsigned_abs x + unsigned_abs (dot coef at)) = mul-le-mul (omega arith) less in
      let parts : stride * (unsigned_abs c * unsigned_abs x + unsigned_abs (dot coef at)) ≡ stride * (unsigned_abs c * unsigned_abs x) + stride * unsigned_abs (dot coef at) = grind arith in
      let count : suc (length coef) * (m * n) ≡ m * n + length coef * (m * n) = grind arith in
      omega arith

  constant : (v d c : ℤ) → d +ℤ c ≡ v → stride * unsigned_abs v ≤ 2 ^ 65 → stride * unsigned_abs d ≤ 2 ^ 102 → stride * unsigned_abs c ≤ 2 ^ 104
  constant v d c e h k =
      let less : unsigned_abs c ≤ unsigned_abs v + unsigned_abs d = omega (arith, ints) in
      let whole : stride * unsigned_abs c ≤ stride * (unsigned_abs v + unsigned_abs d) = mul-le-mul (omega arith) less in
      let parts : stride * (unsigned_abs v + unsigned_abs d) ≡ stride * unsigned_abs v + stride * unsigned_abs d = grind arith in
      omega arith

  six : (n : ℕ) → n ≤ 6 → n * (2 ^ 66 * 2 ^ 33) ≤ 2 ^ 102
  six n h = omega arith

  pub reach : (D : ℕ) (samples : List Sample) (form : Affine) → D ≤ 6 → 0 < length samples → IsLine D samples form → All (IsWithinReach stride) samples → Reaches stride (Some form)
  reach D samples form few some line all =
      let count = line.coefficients.counters in
      let each = λ (k : ℕ) (h : k < length form.coef). coefficient samples k (get_or form.coef k (pos 0)) all (line.coefficients.each k (omega (arith, count, h))) in
      let total = sum (2 ^ 66) (2 ^ 33) form.coef (sample_at samples 0).at each (λ k h. (within 0 some).counters k (pos 0) h) in
      let bound = six (length form.coef) (omega (arith, count, few)) in (
        All-from_get_or (λ c. stride * unsigned_abs c ≤ 2 ^ 66) form.coef (pos 0) each,
        constant (sample_at samples 0).value (dot form.coef (sample_at samples 0).at) form.cst line.meets (within 0 some).trip (omega (arith, total, bound)),
        omega (arith, count, few),
      )
    where
      within : (k : ℕ) → k < length samples → IsWithinReach stride (sample_at samples k)
      within k h = all k _ h

-- ---- the forms of a fit

trip-reaches : (stride D : ℕ) (samples : List Sample) (trip : Option Affine) → D ≤ 6 → HasFit D 0 samples (tube_about trip (pos 0) (pos 0)) → All (IsWithinReach stride) samples → Reaches stride trip
trip-reaches stride D samples None few h all = tt
trip-reaches stride D samples (Some form) few h all = reach stride D samples form few h.0 h.1.line all

pub kind-at : (levels : List Level) (ls : List Loop) (k : ℕ) (l : Loop) → map (λ (x : Level). x.kind) levels ≡ map (λ (m : Loop). kind_of m.head) ls → slice_get ls k ≡ Some l → (get_or levels k no_level).kind ≡ kind_of l.head
kind-at levels [] k l e at = absurd (cc)
kind-at [] (m ∷ ls) k l e at = absurd (cc)
kind-at (x ∷ levels) (m ∷ ls) zero l e at = let same : m ≡ l = cc in let kind : x.kind ≡ kind_of m.head = cc in kind ∙ ap (λ (z : Loop). kind_of z.head) same
kind-at (x ∷ levels) (m ∷ ls) (suc k) l e at = kind-at levels ls k l (cc) at

pub past-none : (levels : List Level) (k : ℕ) → length levels ≤ k → get_or levels k no_level ≡ no_level
past-none [] k h = refl
past-none (x ∷ levels) zero h = absurd (omega (arith, h))
past-none (x ∷ levels) (suc k) h = past-none levels k (omega (arith, h))

pub nth : (xs : List Loop) (k : ℕ) → k < length xs → (l : Loop) × (slice_get xs k ≡ Some l)
nth [] k h = absurd (omega (arith, h))
nth (x ∷ xs) zero h = (x, refl)
nth (x ∷ xs) (suc k) h = nth xs k (omega (arith, h))

pub in-or-past : (k n : ℕ) → (k < n) ⊎ (n ≤ k)
in-or-past k n = grind arith

abbrev ReachesAt : Level → Type 0
ReachesAt x = Reaches (stride_size x.kind) x.trip

pub forms-stay-within-reach : FormsStayWithinReach
forms-stay-within-reach D scalars loops observations t few within fit zero = subst (λ (o : Option Affine). Reaches (stride_size (level_at t 0).kind) o) (sym fit.outermost.1) tt
forms-stay-within-reach D scalars loops observations t few within fit (suc j) = elim (in-or-past (suc j) (length loops)) [
  | inr past ↦
      let size = deep D scalars loops observations t t fit fit t fit in
      subst ReachesAt (sym (past-none t.levels (suc j) (omega (arith, past, size)))) tt
  | inl less ↦
      let loop = nth loops (suc j) less in
      let r = (present_blocks-have-ranks loops (block_ref Head (suc (suc j)))).0 (loop.0, loop.1, inner-head loop.0.head (suc (suc j)) (omega arith)) in
      let at = (ranks-are-numbers loops (block_ref Head (suc (suc j))) r.0).0 r.1 in
      let has = All-contains (λ (w : What). HasFitAt D observations (block_ref Head (suc (suc j))) w (tube_in t (block_at t r.0) w)) (data_of scalars loops (block_ref Head (suc (suc j)))) Trip
      (fit.fits r.0 (block_ref Head (suc (suc j))) at) (has-trip D scalars loops observations t t fit fit j less r.0 at) in
      let mine = subst (λ (o : Option Level). HasFitAt D observations (block_ref Head (suc (suc j))) Trip (tube_about (option_and_then (λ (l : Level). l.trip) o) (pos 0) (pos 0))) (own D scalars loops observations t t fit fit j less r.0 at t fit) has in
      let kind = kind-at t.levels loops (suc j) loop.0 fit.shape.levels loop.1 in
      subst (λ (z : LoopKind). Reaches (stride_size z) (level_at t (suc j)).trip) (sym kind)
      (trip-reaches (stride_size (kind_of loop.0.head)) D (samples_at D observations (block_ref Head (suc (suc j))) Trip) (level_at t (suc j)).trip few mine (within (suc (suc j)) loop.0 loop.1))
]
