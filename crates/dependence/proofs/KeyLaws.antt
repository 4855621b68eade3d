-- The key of a schedule for two instances beside each other: where each row goes on, the key is greater.
use Rattle.std.proofs.Common.{take, get_or, ◌≡◌, suc, ℕ, ◌<◌, ◌/◌, ◌≤◌, ℤ, pos, negsuc, ◌+ℤ◌, ◌≤ℤ◌, ◌<ℤ◌, Bool, true, false, List, [], ◌∷◌, ◌++◌, map, length, refl, sym, ap, ap₂, ◌∙◌, arith, inl, inr, ⊎_elim, ◌⊎◌, Ordering, Less, Equal, Greater, int_cmp}
use Rattle.std.specs.Prelude.{if◌then◌else◌}
use Rattle.std.specs.List.{AllByRecursion}
use Rattle.std.specs.Cmp.{int_cmp_is, int_ranks}
use Rattle.std.specs.Ordering.{MatchOrdering}
use Rattle.std.specs.Cmp.Lexicographic.{slice_cmp}
use Rattle.std.specs.Ordering.{ordering_then}
use Rattle.std.specs.Int.{int_div_euclid}
use Rattle.std.proofs.lemmas.Cmp.{tied_itself, int_cmp_total}
use Rattle.std.proofs.lemmas.Int.{ints}
use Rattle.std.proofs.lemmas.Nat.{le-div}
use Rattle.std.proofs.Math.Nat.{div-mul-le_self}
use Rattle.plain_lemmas.proofs.OrderLaws.{ordering_then-less, ordering_then-same}

-- one row of the band: its value at two instances, the tile's number there, and whether it adds to the wave
pub record BandRow : Type 0 where
  pub first : ℤ
  pub second : ℤ
  pub first-tile : ℤ
  pub second-tile : ℤ
  pub wave : Bool

-- the row doesn't fall from the first to the second, and a parallel row doesn't rise either
pub record GoesOn (r : BandRow) : Type 0 where
  pub rises : r.first ≤ℤ r.second
  pub tiles : r.first-tile ≤ℤ r.second-tile
  pub one : r.first ≡ r.second → r.first-tile ≡ r.second-tile
  pub parallel : r.wave ≡ false → r.first ≡ r.second

abbrev pub waves : (BandRow → ℤ) → List BandRow → ℤ
waves f [] = pos 0
waves f (r ∷ rs) = (if r.wave then f r else pos 0) +ℤ waves f rs

-- phase, tile, place and rank
abbrev pub key-of : List ℤ → ℤ → List ℤ → List ℤ → ℤ → List ℤ
key-of leading wave tiles band rank = leading ++ (wave ∷ (tiles ++ (leading ++ (band ++ rank ∷ []))))

abbrev pub first_key : List ℤ → List BandRow → ℤ → List ℤ
first_key leading rs rank = key-of leading (waves (λ r. r.first-tile) rs) (map (λ r. r.first-tile) rs) (map (λ r. r.first) rs) rank

abbrev pub second_key : List ℤ → List BandRow → ℤ → List ℤ
second_key leading rs rank = key-of leading (waves (λ r. r.second-tile) rs) (map (λ r. r.second-tile) rs) (map (λ r. r.second) rs) rank

-- where the leading rows rise, so does the key
abbrev pub LeadingLaw : Type 0
LeadingLaw = (a b : List ℤ) (rs : List BandRow) (m n : ℤ) → length a ≡ length b → slice_cmp int_cmp a b ≡ Less → slice_cmp int_cmp (first_key a rs m) (second_key b rs n) ≡ Less

-- where the leading rows are equal and each row of the band goes on, the key rises
abbrev pub BandLaw : Type 0
BandLaw =
    (leading : List ℤ) (rs : List BandRow) (m n : ℤ) → AllByRecursion GoesOn rs → (map (λ r. r.first) rs ≡ map (λ r. r.second) rs → m <ℤ n)
    → slice_cmp int_cmp (first_key leading rs m) (second_key leading rs n) ≡ Less

-- and where the wave is the same too, the tile is
abbrev pub OneTileLaw : Type 0
OneTileLaw =
    (rs : List BandRow) → AllByRecursion GoesOn rs → waves (λ r. r.first-tile) rs ≡ waves (λ r. r.second-tile) rs → map (λ r. r.first-tile) rs ≡ map (λ r. r.second-tile) rs

-- where the rows before k are equal, row k doesn't fall
abbrev pub NeverFalls : List ℤ → List ℤ → Type 0
NeverFalls a b = (k : ℕ) → k < length a → take k a ≡ take k b → get_or a k (pos 0) ≤ℤ get_or b k (pos 0)

abbrev pub LeadingCases : Type 0
LeadingCases = (a b : List ℤ) → length a ≡ length b → NeverFalls a b → (slice_cmp int_cmp a b ≡ Less) ⊎ (a ≡ b)

less : (a b : ℤ) → a <ℤ b → int_cmp a b ≡ Less
less a b h = sym (int_cmp_is a b Less h)

cmp-cases : (a b : ℤ) → a ≤ℤ b → (a ≡ b) ⊎ (a <ℤ b)
cmp-cases a b h = at (int_cmp a b) (int_ranks a b)
  where
    at : (o : Ordering) → MatchOrdering o (a <ℤ b) (a ≡ b) (b <ℤ a) → (a ≡ b) ⊎ (a <ℤ b)
    at Less k = inr k
    at Equal k = inl k
    at Greater k = absurd (omega (arith, ints))

same-front : (p xs ys : List ℤ) → slice_cmp int_cmp (p ++ xs) (p ++ ys) ≡ slice_cmp int_cmp xs ys
same-front [] xs ys = refl
same-front (x ∷ p) xs ys = rw (tied_itself int_cmp_total x) (same-front p xs ys)

less-front : (p q us vs : List ℤ) → length p ≡ length q → slice_cmp int_cmp p q ≡ Less → slice_cmp int_cmp (p ++ us) (q ++ vs) ≡ Less
less-front [] [] us vs size h = cc
less-front [] (y ∷ q) us vs size h = absurd (omega arith)
less-front (x ∷ p) [] us vs size h = absurd (omega arith)
less-front (x ∷ p) (y ∷ q) us vs size h = at (int_cmp x y) h (λ k. less-front p q us vs (omega arith) k)
  where
    at : (o : Ordering) → ordering_then o (slice_cmp int_cmp p q) ≡ Less → (slice_cmp int_cmp p q ≡ Less → slice_cmp int_cmp (p ++ us) (q ++ vs) ≡ Less) → ordering_then o (slice_cmp int_cmp (p ++ us) (q ++ vs)) ≡ Less
    at Less k more = refl
    at Equal k more = more k
    at Greater k more = cc

pub leading-law : LeadingLaw
leading-law a b rs m n size h = less-front a b _ _ size h

waves-rise : (rs : List BandRow) → AllByRecursion GoesOn rs → waves (λ r. r.first-tile) rs ≤ℤ waves (λ r. r.second-tile) rs
waves-rise [] all = omega (arith, ints)
waves-rise (r ∷ rs) all = at r.wave (waves-rise rs all.1) all.0.tiles
  where
    at : (b : Bool) → waves (λ r. r.first-tile) rs ≤ℤ waves (λ r. r.second-tile) rs → r.first-tile ≤ℤ r.second-tile
        → ((if b then r.first-tile else pos 0) +ℤ waves (λ r. r.first-tile) rs) ≤ℤ ((if b then r.second-tile else pos 0) +ℤ waves (λ r. r.second-tile) rs)
    at true more h = omega (arith, ints)
    at false more h = omega (arith, ints)

pub one-tile-law : OneTileLaw
one-tile-law [] all same = refl
one-tile-law (r ∷ rs) all same =
    let both = at r.wave refl same (waves-rise rs all.1) in
    ap₂ (λ (z : ℤ) (zs : List ℤ). z ∷ zs) both.0 (one-tile-law rs all.1 both.1)
  where
    at : (b : Bool) → r.wave ≡ b → ((if b then r.first-tile else pos 0) +ℤ waves (λ r. r.first-tile) rs) ≡ ((if b then r.second-tile else pos 0) +ℤ waves (λ r. r.second-tile) rs)
        → waves (λ r. r.first-tile) rs ≤ℤ waves (λ r. r.second-tile) rs → (r.first-tile ≡ r.second-tile) × (waves (λ r. r.first-tile) rs ≡ waves (λ r. r.second-tile) rs)
    at true e h more = (omega (arith, ints, all.0.tiles), omega (arith, ints, all.0.tiles))
    at false e h more = (all.0.one (all.0.parallel e), omega (arith, ints))

-- the number of the tile rises with the value
pub floor-rises : (a b : ℤ) (size : ℕ) → 0 < size → a ≤ℤ b → int_div_euclid a (pos size) ≤ℤ int_div_euclid b (pos size)
floor-rises (pos a) (pos b) size l h = let up : a / size ≤ b / size = le-div (a / size) b size l (omega (arith, ints, div-mul-le_self a size)) in omega (arith, ints, up)
floor-rises (pos a) (negsuc b) size l h = absurd (omega (arith, ints))
floor-rises (negsuc a) (pos b) size l h = omega (arith, ints)
floor-rises (negsuc a) (negsuc b) size l h = let up : b / size ≤ a / size = le-div (b / size) a size l (omega (arith, ints, div-mul-le_self b size)) in omega (arith, ints, up)

-- the places rise or are the same
places-rise : (rs : List BandRow) (tail : List ℤ) (tail' : List ℤ) → AllByRecursion GoesOn rs → (map (λ r. r.first) rs ≡ map (λ r. r.second) rs → slice_cmp int_cmp tail tail' ≡ Less)
    → slice_cmp int_cmp (map (λ r. r.first) rs ++ tail) (map (λ r. r.second) rs ++ tail') ≡ Less
places-rise [] tail tail' all more = more refl
places-rise (r ∷ rs) tail tail' all more =
    ⊎_elim
    (λ e. ordering_then-same r.first r.second _ e ∙ places-rise rs tail tail' all.1 (λ k. more (ap₂ (λ (z : ℤ) (zs : List ℤ). z ∷ zs) e k)))
    (λ l. ordering_then-less r.first r.second _ l)
    (cmp-cases r.first r.second all.0.rises)

pub band-law : BandLaw
band-law leading rs m n all rank =
    let tiles-first = map (λ (r : BandRow). r.first-tile) rs in
    let tiles_second = map (λ (r : BandRow). r.second-tile) rs in
    let places_first = map (λ (r : BandRow). r.first) rs ++ m ∷ [] in
    let places_second = map (λ (r : BandRow). r.second) rs ++ n ∷ [] in
    same-front leading _ _
    ∙ ⊎_elim
    (λ e. ordering_then-same _ _ _ e
    ∙ ap (λ (ts : List ℤ). slice_cmp int_cmp (ts ++ (leading ++ places_first)) (tiles_second ++ (leading ++ places_second))) (one-tile-law rs all e)
    ∙ same-front tiles_second _ _ ∙ same-front leading _ _
    ∙ places-rise rs (m ∷ []) (n ∷ []) all (λ k. ordering_then-less m n _ (rank k)))
    (λ l. ordering_then-less _ _ _ l)
    (cmp-cases (waves (λ r. r.first-tile) rs) (waves (λ r. r.second-tile) rs) (waves-rise rs all))

-- rows that never fall rise somewhere, or are equal
pub leading-cases : LeadingCases
leading-cases [] [] size h = inr refl
leading-cases [] (y ∷ ys) size h = absurd (omega arith)
leading-cases (x ∷ xs) [] size h = absurd (omega arith)
leading-cases (x ∷ xs) (y ∷ ys) size h =
    ⊎_elim
    (λ e. ⊎_elim (λ l. inl (ordering_then-same x y _ e ∙ l)) (λ same. inr (ap₂ (λ (z : ℤ) (zs : List ℤ). z ∷ zs) e same))
    (leading-cases xs ys (omega arith) (λ k l same. h (suc k) (omega arith) (ap₂ (λ (z : ℤ) (zs : List ℤ). z ∷ zs) e same))))
    (λ l. inl (ordering_then-less x y _ l))
    (cmp-cases x y (h 0 (omega arith) refl))
