-- The box of a cell has the places of its points.
use Rattle.std.proofs.Common.{◌≡◌, refl, sym, ap, ◌∙◌, subst, ℕ, zero, suc, ◌<◌, ◌≤◌, ◌+◌, ◌^◌, ℤ, pos, ◌+ℤ◌, ◌-ℤ◌, ◌*ℤ◌, ◌≤ℤ◌, ◌<ℤ◌, neg_ℤ, int_lt, Bool, true, false, not, ◌&&◌, List, [], ◌∷◌, map, length, nat_lt, drop, replicate, set, ◌≢◌, ◌⊎◌, inl, inr, arith}
use Rattle.std.specs.Prelude.{◌↔◌, if◌then◌else◌}
use Rattle.std.specs.Int.{int_div_euclid}
use Rattle.std.specs.List.{AllByRecursion, range_with_len}
use Rattle.std.proofs.lemmas.Int.{ints}
use Rattle.std.proofs.lemmas.Bool.{cases_lt}
use Rattle.std.proofs.lemmas.List.{drop_all, get_or-set_other, get_or-set_same, length-replicate}
use Rattle.std.proofs.lemmas.Bool.Decides.{nat_tests}
use Rattle.std.proofs.Math.ListN.{length-map}
use Rattle.plain_lemmas.proofs.IntegerLaws.{*ℤ-+ℤ}
use Rattle.affine.proofs.PlaceLaws.{quotient_is_interval}
use Rattle.domain.specs.Instances.{counter}
use Rattle.level_walk.specs.Lattices.{HIGHEST, LOWEST, in_box}
use Rattle.level_walk.specs.Spaces.{IsWithin}
use Rattle.level_walk.specs.Walks.{IsBox}
use Rattle.transform.specs.Schedules.{Line, Schedule, IsSchedule, along, line_at, place, tile_along, wave, wave_of, wide_lead, wide_tile}
use Rattle.transform.proofs.LineLaws.{get_or-place, wave_of-drop, wide-lead-is, wide-tile-is}
use Rattle.skeletons.specs.Boxes.{AgreesAt, IsBoxOf, IsRangeOf}
use Rattle.skeletons.specs.Cells.{Cell, cell_of}
use Rattle.skeletons.specs.Scans.{IsNear}
use Rattle.skeletons.proofs.BlockLaws.{get_or-map-range, length-map-range}

-- ---- ranges

nothing-between : (z : ℤ) → pos 1 ≤ℤ z → z ≤ℤ pos 0 → ⊥
nothing-between z h k = omega (arith, ints, h, k)

pub no-range : (P : ℤ → Type 0) → ((z : ℤ) → IsNear z → P z → ⊥) → IsRangeOf P (pos 1) (pos 0)
no-range P none = record {
  low_within = record { least = omega (arith, ints); greatest = omega (arith, ints) };
  high_within = record { least = omega (arith, ints); greatest = omega (arith, ints) };
  exact = λ z near. (λ h. absurd (nothing-between z h.0 h.1), λ h. absurd (none z near h));
}

pub one-range : (lead tile : ℤ) → tile ≡ pos 0 → neg_ℤ (pos (2 ^ 59)) ≤ℤ lead → lead ≤ℤ pos (2 ^ 59) → IsRangeOf (λ z. (lead ≡ z) × (tile ≡ pos 0)) lead lead
one-range lead tile none low high = record {
  low_within = record { least = omega (arith, ints, low); greatest = omega (arith, ints, high) };
  high_within = record { least = omega (arith, ints, low); greatest = omega (arith, ints, high) };
  exact = λ z near. (λ h. let a = h.0 in let b = h.1 in (omega (arith, ints, a, b), none), λ h. let e = h.0 in (omega (arith, ints, e), omega (arith, ints, e)));
}

times-one : (d : ℤ) → d *ℤ pos 1 ≡ d
times-one d = omega (arith, ints)

interval : (z d q first last : ℤ) → pos 0 <ℤ d → first ≡ d *ℤ q → last ≡ (d *ℤ q +ℤ d) -ℤ pos 1 → ((first ≤ℤ z) × (z ≤ℤ last)) ↔ (int_div_euclid z d ≡ q)
interval z d q first last some e f =
    let law = quotient_is_interval z d q some in
    let m : d *ℤ (q +ℤ pos 1) ≡ d *ℤ q +ℤ d = next d q in
    (λ h. let a = h.0 in let b = h.1 in law.1 (omega (arith, ints, a, e), omega (arith, ints, b, f, m)), λ h. let k = law.0 h in let a = k.0 in let b = k.1 in (omega (arith, ints, a, e), omega (arith, ints, b, f, m)))
  where
    next : (d q : ℤ) → d *ℤ (q +ℤ pos 1) ≡ d *ℤ q +ℤ d
    next d q = *ℤ-+ℤ d q (pos 1) ∙ ap (λ (x : ℤ). d *ℤ q +ℤ x) (times-one d)

pub part-range : (lead tile first last : ℤ) (size : ℕ) → 0 < size → size ≤ 65536 → lead ≡ pos 0 → first ≡ pos size *ℤ tile → last ≡ (pos size *ℤ tile +ℤ pos size) -ℤ pos 1 → first ≤ℤ pos (2 ^ 59) → neg_ℤ (pos (2 ^ 59)) ≤ℤ last
    → IsRangeOf (λ z. (lead ≡ pos 0) × (tile ≡ int_div_euclid z (pos size))) first last
part-range lead tile first last size some limit none e f low high = record {
  low_within = record { least = omega (arith, ints, e, f, high); greatest = omega (arith, ints, low) };
  high_within = record { least = omega (arith, ints, high); greatest = omega (arith, ints, e, f, low) };
  exact = λ z near.
      let i = interval z (pos size) tile first last (omega (arith, ints)) e f in
      (λ h. (none, sym (i.0 h)), λ h. i.1 (sym h.1));
}

pub far-range : (lead tile first last : ℤ) (size : ℕ) → 0 < size → first ≡ pos size *ℤ tile → last ≡ (pos size *ℤ tile +ℤ pos size) -ℤ pos 1
    → (lead ≡ pos 0 → first ≤ℤ pos (2 ^ 59) → neg_ℤ (pos (2 ^ 59)) ≤ℤ last → ⊥) → IsRangeOf (λ z. (lead ≡ pos 0) × (tile ≡ int_div_euclid z (pos size))) (pos 1) (pos 0)
far-range lead tile first last size some e f none = no-range (λ z. (lead ≡ pos 0) × (tile ≡ int_div_euclid z (pos size))) (λ z near h.
    let i = (interval z (pos size) tile first last (omega (arith, ints)) e f).1 (sym h.1) in
    let a = i.0 in let b = i.1 in let low = near.low in let high = near.high in
    none h.0 (omega (arith, ints, a, high)) (omega (arith, ints, b, low)))

-- ---- boxes, row by row

not-less : (x y : ℤ) → not (int_lt x y) ≡ true → y ≤ℤ x
not-less x y h = grind (arith, ints)

is-not-less : (x y : ℤ) → y ≤ℤ x → not (int_lt x y) ≡ true
is-not-less x y h = grind (arith, ints)

both : (a b c : Bool) → a ≡ true → b ≡ true → c ≡ true → ((a && b) && c) ≡ true
both a b c e f g = rw (e, f, g) refl

parts : (a b c : Bool) → ((a && b) && c) ≡ true → (a ≡ true) × (b ≡ true) × (c ≡ true)
parts true true true h = (refl, refl, refl)
parts true true false h = absurd (let w : false ≡ true = h in cc)
parts true false c h = absurd (let w : false ≡ true = h in cc)
parts false b c h = absurd (let w : false ≡ true = h in cc)

pub in_box-from : (lows highs xs : List ℤ) → length lows ≡ length xs → length highs ≡ length xs → ((k : ℕ) → k < length xs → (counter lows k ≤ℤ counter xs k) × (counter xs k ≤ℤ counter highs k)) → in_box lows highs xs ≡ true
in_box-from lows highs [] l h at = refl
in_box-from [] highs (x ∷ xs) l h at = absurd (omega arith)
in_box-from (low ∷ lows) [] (x ∷ xs) l h at = absurd (omega arith)
in_box-from (low ∷ lows) (high ∷ highs) (x ∷ xs) l h at =
    let here = at 0 (omega arith) in
    both (not (int_lt x low)) (not (int_lt high x)) (in_box lows highs xs) (is-not-less x low here.0) (is-not-less high x here.1)
    (in_box-from lows highs xs (omega arith) (omega arith) (λ k i. at (suc k) (omega arith)))

pub in_box-at : (lows highs xs : List ℤ) → in_box lows highs xs ≡ true → (k : ℕ) → k < length xs → (counter lows k ≤ℤ counter xs k) × (counter xs k ≤ℤ counter highs k)
in_box-at lows highs [] h k i = absurd (omega arith)
in_box-at [] highs (x ∷ xs) h k i = absurd (let w : false ≡ true = h in cc)
in_box-at (low ∷ lows) [] (x ∷ xs) h k i = absurd (let w : false ≡ true = h in cc)
in_box-at (low ∷ lows) (high ∷ highs) (x ∷ xs) h zero i = let p = parts (not (int_lt x low)) (not (int_lt high x)) (in_box lows highs xs) h in (not-less x low p.0, not-less high x p.1)
in_box-at (low ∷ lows) (high ∷ highs) (x ∷ xs) h (suc k) i = in_box-at lows highs xs (parts (not (int_lt x low)) (not (int_lt high x)) (in_box lows highs xs) h).2 k (omega arith)

-- ---- the numbers of a cell

no-line : Line
no-line = record { row = []; size = 0; parallel = false }

lead-number : Schedule → List ℤ → ℕ → ℤ
lead-number s p k = if nat_lt k s.seq then counter (place s p) k else pos 0

tile_number : Schedule → List ℤ → ℕ → ℤ
tile_number s p k = if nat_lt k s.seq then pos 0 else int_div_euclid (counter (place s p) k) (pos (line_at s k).size)

pick-true : {X : Type 0} (b : Bool) (u v : X) → b ≡ true → (if b then u else v) ≡ u
pick-true b u v e = rw e refl

pick-false : {X : Type 0} (b : Bool) (u v : X) → b ≡ false → (if b then u else v) ≡ v
pick-false b u v e = rw e refl

below : (k n : ℕ) → k < n → nat_lt k n ≡ true
below k n h = grind (arith, nat_tests)

above : (k n : ℕ) → n ≤ k → nat_lt k n ≡ false
above k n h = grind (arith, nat_tests)

-- ---- the cell of a point, row by row

module _ (n : ℕ) (s : Schedule) (is : IsSchedule n s) where
  lead-is : (p numbers : List ℤ) → length numbers ≡ n → ((k : ℕ) → k < n → counter numbers k ≡ (if nat_lt k s.seq then counter (place s p) k else pos 0)) → numbers ≡ wide_lead s p
  lead-is p numbers long at =
      let l = is.leads in let m = is.long in
      wide-lead-is s p numbers (omega (arith, l, m)) (long ∙ sym m)
      (λ k h. at k (omega (arith, h, l)) ∙ pick-true (nat_lt k s.seq) _ _ (below k s.seq h) ∙ get_or-place s p k (omega (arith, h, l, m)))
      (λ k h i. at k (omega (arith, i, m)) ∙ pick-false (nat_lt k s.seq) _ _ (above k s.seq h))

  tile-is : (p numbers : List ℤ) → length numbers ≡ n → ((k : ℕ) → k < n → counter numbers k ≡ (if nat_lt k s.seq then pos 0 else int_div_euclid (counter (place s p) k) (pos (line_at s k).size))) → numbers ≡ wide_tile s p
  tile-is p numbers long at =
      let l = is.leads in let m = is.long in
      wide-tile-is s p numbers (omega (arith, l, m)) (long ∙ sym m)
      (λ k h. at k (omega (arith, h, l)) ∙ pick-true (nat_lt k s.seq) _ _ (below k s.seq h))
      (λ k h i. at k (omega (arith, i, m)) ∙ pick-false (nat_lt k s.seq) _ _ (above k s.seq h) ∙ ap (λ (z : ℤ). int_div_euclid z (pos (line_at s k).size)) (get_or-place s p k i))

  pub lead-at : (p : List ℤ) (k : ℕ) → k < n → counter (wide_lead s p) k ≡ (if nat_lt k s.seq then counter (place s p) k else pos 0)
  lead-at p k h =
      let f : ℕ → ℤ = λ k. if nat_lt k s.seq then counter (place s p) k else pos 0 in
      ap (λ (xs : List ℤ). counter xs k) (sym (lead-is p (map f (range_with_len 0 n)) (length-map-range f n 0) (λ j i. get_or-map-range f n 0 j i ∙ (let e : 0 + j ≡ j = omega arith in ap f e))))
      ∙ get_or-map-range f n 0 k h ∙ (let e : 0 + k ≡ k = omega arith in ap f e)

  pub tile-at : (p : List ℤ) (k : ℕ) → k < n → counter (wide_tile s p) k ≡ (if nat_lt k s.seq then pos 0 else int_div_euclid (counter (place s p) k) (pos (line_at s k).size))
  tile-at p k h =
      let f : ℕ → ℤ = λ k. if nat_lt k s.seq then pos 0 else int_div_euclid (counter (place s p) k) (pos (line_at s k).size) in
      ap (λ (xs : List ℤ). counter xs k) (sym (tile-is p (map f (range_with_len 0 n)) (length-map-range f n 0) (λ j i. get_or-map-range f n 0 j i ∙ (let e : 0 + j ≡ j = omega arith in ap f e))))
      ∙ get_or-map-range f n 0 k h ∙ (let e : 0 + k ≡ k = omega arith in ap f e)

  pub length-place : (p : List ℤ) → length (place s p) ≡ n
  length-place p = length-map s.lines (along p) ∙ is.long

  -- a box whose ranges are those of the rows
  pub rows-box : (cell : Cell) (lows highs : List ℤ) (w : ℤ) → IsBox n lows highs → length cell.lead ≡ n → length cell.tile ≡ n → ((k : ℕ) → k < n → IsRangeOf (AgreesAt s cell k) (counter lows k) (counter highs k))
      → ((p : List ℤ) → wide_tile s p ≡ cell.tile → w ≡ wave s p) → w ≡ cell.wave → IsBoxOf n s cell lows highs
  rows-box cell lows highs w box lead tile ranges waves e = record {
    is = box;
    exact = λ p near. (
      λ h.
          let at : (k : ℕ) → k < n → AgreesAt s cell k (counter (place s p) k) = λ k i. ((ranges k i).exact (counter (place s p) k) (near k i)).0 (in_box-at lows highs (place s p) h k (let l = length-place p in omega (arith, i, l))) in
          let same = tile-is p cell.tile tile (λ k i. (at k i).1) in
          cells p (lead-is p cell.lead lead (λ k i. (at k i).0)) (sym (waves p (sym same)) ∙ e) same,
      λ f.
          in_box-from lows highs (place s p) (box.long_lows ∙ sym (length-place p)) (box.long_highs ∙ sym (length-place p)) (λ k i.
          let j : k < n = (let l = length-place p in omega (arith, i, l)) in
          ((ranges k j).exact (counter (place s p) k) (near k j)).1
          (ap (λ (c : Cell). counter c.lead k) (sym f) ∙ lead-at p k j, ap (λ (c : Cell). counter c.tile k) (sym f) ∙ tile-at p k j)),
    );
  }
    where
      cells : (p : List ℤ) → cell.lead ≡ wide_lead s p → wave s p ≡ cell.wave → cell.tile ≡ wide_tile s p → cell_of s p ≡ cell
      cells p a b c = rw (a, sym b, c) refl

  -- the empty box of a cell that has another wave
  pub other-box : (cell : Cell) (lows highs : List ℤ) (w : ℤ) → 0 < n → IsBox n lows highs → counter lows 0 ≡ pos 1 → counter highs 0 ≡ pos 0
      → ((p : List ℤ) → wide_tile s p ≡ cell.tile → w ≡ wave s p) → (w ≡ cell.wave → ⊥) → IsBoxOf n s cell lows highs
  other-box cell lows highs w some box low high waves other = record {
    is = box;
    exact = λ p near. (
      λ h. absurd (let b = in_box-at lows highs (place s p) h 0 (let l = length-place p in omega (arith, some, l)) in let x = b.0 in let y = b.1 in
          nothing-between (counter (place s p) 0) (omega (arith, ints, x, low)) (omega (arith, ints, y, high))),
      λ f. absurd (other (waves p (ap (λ (c : Cell). c.tile) f) ∙ ap (λ (c : Cell). c.wave) f)),
    );
  }

  -- the wave, row by row
  pub wave-more : (p tile : List ℤ) (k : ℕ) (w share : ℤ) → wide_tile s p ≡ tile → s.seq ≤ k → k < n → share ≡ (if (line_at s k).parallel then pos 0 else counter tile k)
      → w +ℤ wave_of p (drop k s.lines) ≡ wave s p → (w +ℤ share) +ℤ wave_of p (drop (k + 1) s.lines) ≡ wave s p
  wave-more p tile k w share e from inside f h =
      let m = is.long in
      let next : suc k ≡ k + 1 = omega arith in
      let number : counter tile k ≡ tile_along p (line_at s k) = ap (λ (xs : List ℤ). counter xs k) (sym e) ∙ tile-at p k inside ∙ pick-false (nat_lt k s.seq) _ _ (above k s.seq from)
      ∙ ap (λ (z : ℤ). int_div_euclid z (pos (line_at s k).size)) (get_or-place s p k (omega (arith, inside, m))) in
      let d = wave_of-drop p s.lines k (omega (arith, inside, m)) in
      let g = f ∙ ap (λ (z : ℤ). if (line_at s k).parallel then pos 0 else z) number in
      let i = ap (λ (j : ℕ). wave_of p (drop j s.lines)) next in
      sums w share (if (line_at s k).parallel then pos 0 else tile_along p (line_at s k)) (wave_of p (drop k s.lines)) (wave_of p (drop (suc k) s.lines)) (wave_of p (drop (k + 1) s.lines)) (wave s p) g d i h
    where
      sums : (w share x a b c total : ℤ) → share ≡ x → a ≡ x +ℤ b → b ≡ c → w +ℤ a ≡ total → (w +ℤ share) +ℤ c ≡ total
      sums w share x a b c total e f g h = omega (arith, ints, e, f, g, h)

-- ---- boxes that are written row by row

pub within-all : (low high : ℤ) (xs : List ℤ) → ((k : ℕ) → k < length xs → IsWithin low high (counter xs k)) → AllByRecursion (IsWithin low high) xs
within-all low high [] h = tt
within-all low high (x ∷ xs) h = (h 0 (omega arith), within-all low high xs (λ k i. h (suc k) (omega arith)))

module _ (n : ℕ) (s : Schedule) (is : IsSchedule n s) where
  pub wave-done : (p : List ℤ) (k : ℕ) (w : ℤ) → n ≤ k → w +ℤ wave_of p (drop k s.lines) ≡ wave s p → w ≡ wave s p
  wave-done p k w past h =
      let m = is.long in
      let e = ap (wave_of p) (drop_all k s.lines (omega (arith, m, past))) in
      omega (arith, ints, e, h)

-- ---- the range of a row

pub lead-range : (s : Schedule) (cell : Cell) (k : ℕ) (lead tile low high : ℤ) → k < s.seq → counter cell.lead k ≡ lead → counter cell.tile k ≡ tile → IsRangeOf (λ z. (lead ≡ z) × (tile ≡ pos 0)) low high → IsRangeOf (AgreesAt s cell k) low high
lead-range s cell k lead tile low high h e f r = record {
  low_within = r.low_within;
  high_within = r.high_within;
  exact = λ z near. (
    λ b. let a = (r.exact z near).0 b in (e ∙ a.0 ∙ sym (pick-true (nat_lt k s.seq) _ _ (below k s.seq h)), f ∙ a.1 ∙ sym (pick-true (nat_lt k s.seq) _ _ (below k s.seq h))),
    λ a. (r.exact z near).1 (sym e ∙ a.0 ∙ pick-true (nat_lt k s.seq) _ _ (below k s.seq h), sym f ∙ a.1 ∙ pick-true (nat_lt k s.seq) _ _ (below k s.seq h)),
  );
}

pub band-range : (s : Schedule) (cell : Cell) (k : ℕ) (lead tile low high : ℤ) (size : ℕ) → s.seq ≤ k → counter cell.lead k ≡ lead → counter cell.tile k ≡ tile → size ≡ (line_at s k).size
    → IsRangeOf (λ z. (lead ≡ pos 0) × (tile ≡ int_div_euclid z (pos size))) low high → IsRangeOf (AgreesAt s cell k) low high
band-range s cell k lead tile low high size h e f g r = record {
  low_within = r.low_within;
  high_within = r.high_within;
  exact = λ z near.
      let same = ap (λ (n : ℕ). int_div_euclid z (pos n)) g in (
        λ b. let a = (r.exact z near).0 b in (e ∙ a.0 ∙ sym (pick-false (nat_lt k s.seq) _ _ (above k s.seq h)), f ∙ a.1 ∙ same ∙ sym (pick-false (nat_lt k s.seq) _ _ (above k s.seq h))),
        λ a. (r.exact z near).1 (sym e ∙ a.0 ∙ pick-false (nat_lt k s.seq) _ _ (above k s.seq h), sym f ∙ a.1 ∙ pick-false (nat_lt k s.seq) _ _ (above k s.seq h) ∙ sym same),
      );
}

-- ---- boxes that are written row by row

pub ranges-more : (P : ℕ → ℤ → ℤ → Type 0) (lows highs : List ℤ) (row : ℕ) (low high : ℤ) → row < length lows → row < length highs → ((k : ℕ) → k < row → P k (counter lows k) (counter highs k)) → P row low high
    → (k : ℕ) → k < row + 1 → P k (counter (set lows row low) k) (counter (set highs row high) k)
ranges-more P lows highs row low high l h before here k below = by (cases_lt k row)
  where
    by : (k < row) ⊎ (row ≤ k) → P k (counter (set lows row low) k) (counter (set highs row high) k)
    by (inl m) =
        let ne : k ≢ row = λ e. omega arith in
        subst (λ (z : ℤ). P k z (counter (set highs row high) k)) (sym (get_or-set_other lows row k low (pos 0) ne)) (subst (λ (z : ℤ). P k (counter lows k) z) (sym (get_or-set_other highs row k high (pos 0) ne)) (before k m))
    by (inr m) =
        let e : row ≡ k = omega arith in
        subst (λ (j : ℕ). P j (counter (set lows row low) j) (counter (set highs row high) j)) e
        (subst (λ (z : ℤ). P row z (counter (set highs row high) row)) (sym (get_or-set_same lows row low (pos 0) l)) (subst (λ (z : ℤ). P row low z) (sym (get_or-set_same highs row high (pos 0) h)) here))

within-same : (low high x : ℤ) (n : ℕ) → IsWithin low high x → AllByRecursion (IsWithin low high) (replicate n x)
within-same low high x zero h = tt
within-same low high x (suc n) h = (h, within-same low high x n h)

pub no-box : (n : ℕ) → IsBox n (replicate n (pos 1)) (replicate n (pos 0))
no-box n = record {
  long_lows = length-replicate n (pos 1);
  long_highs = length-replicate n (pos 0);
  within_lows = within-same LOWEST HIGHEST (pos 1) n (record { least = omega (arith, ints); greatest = omega (arith, ints) });
  within_highs = within-same LOWEST HIGHEST (pos 0) n (record { least = omega (arith, ints); greatest = omega (arith, ints) });
}

pub range-box : (n : ℕ) (s : Schedule) (cell : Cell) (lows highs : List ℤ) → length lows ≡ n → length highs ≡ n → ((k : ℕ) → k < n → IsRangeOf (AgreesAt s cell k) (counter lows k) (counter highs k)) → IsBox n lows highs
range-box n s cell lows highs l h ranges = record {
  long_lows = l;
  long_highs = h;
  within_lows = within-all LOWEST HIGHEST lows (λ k i. (ranges k (omega (arith, i, l))).low_within);
  within_highs = within-all LOWEST HIGHEST highs (λ k i. (ranges k (omega (arith, i, h))).high_within);
}
