-- The lines of a schedule by its rows, sizes and marks.
use Rattle.std.proofs.Common.{◌≡◌, refl, sym, ap, ap₂, ◌∙◌, subst, ℕ, zero, suc, ◌<◌, ◌≤◌, ◌+◌, ◌-◌, ◌⊎◌, inl, inr, ℤ, pos, ◌+ℤ◌, Bool, false, cond, List, [], ◌∷◌, length, get_or, set, map, take, drop, replicate, drop-cons, add-one, length-append, length-drop, length-take, arith}
use Rattle.std.specs.Int.{int_div_euclid}
use Rattle.std.specs.List.{All}
use Rattle.std.proofs.lemmas.List.Elements.{All-cons, All-head, All-nil, All-tail}
use Rattle.std.proofs.lemmas.Bool.{cases_eq, cases_lt}
use Rattle.std.proofs.lemmas.List.{ext_get_or, get_or-append_right, get_or-drop, get_or-map, get_or-replicate, get_or-set_other, get_or-set_same, get_or-take, get_or_append_left, length-map, length-replicate}
use Rattle.affine.specs.Inverses.{IsInverse, IsSquare}
use Rattle.affine.specs.Matrices.{HasSmallEntries, IsOneToOne, IsOnto, product}
use Rattle.affine.specs.Sums.{dot}
use Rattle.affine.proofs.InverseLaws.{inverted}
use Rattle.transform.specs.Schedules.{IsSchedule, Line, Schedule, along, matrix, place, tile_along, wave_of, wide_lead, wide_tile}
use Rattle.transform.specs.Scripts.{lines_of, schedule_from}

abbrev pub no-line : Line
no-line = record { row = []; size = 0; parallel = false }

pub length-lines_of : (rows : List (List ℤ)) (sizes : List ℕ) (marks : List Bool) → length sizes ≡ length rows → length marks ≡ length rows → length (lines_of rows sizes marks) ≡ length rows
length-lines_of [] sizes marks h k = refl
length-lines_of (row ∷ rows) [] marks h k = absurd (omega arith)
length-lines_of (row ∷ rows) (size ∷ sizes) [] h k = absurd (omega arith)
length-lines_of (row ∷ rows) (size ∷ sizes) (mark ∷ marks) h k = ap suc (length-lines_of rows sizes marks (omega arith) (omega arith))

-- the rows of the lines are the rows
pub map-lines_of : (rows : List (List ℤ)) (sizes : List ℕ) (marks : List Bool) → length sizes ≡ length rows → length marks ≡ length rows → map (λ (l : Line). l.row) (lines_of rows sizes marks) ≡ rows
map-lines_of [] sizes marks h k = refl
map-lines_of (row ∷ rows) [] marks h k = absurd (omega arith)
map-lines_of (row ∷ rows) (size ∷ sizes) [] h k = absurd (omega arith)
map-lines_of (row ∷ rows) (size ∷ sizes) (mark ∷ marks) h k = ap (λ rest. row ∷ rest) (map-lines_of rows sizes marks (omega arith) (omega arith))

pub get_or-lines_of : (rows : List (List ℤ)) (sizes : List ℕ) (marks : List Bool) (i : ℕ) → length sizes ≡ length rows → length marks ≡ length rows → i < length rows
    → get_or (lines_of rows sizes marks) i no-line ≡ record { row = get_or rows i []; size = get_or sizes i 0; parallel = get_or marks i false }
get_or-lines_of [] sizes marks i h k inside = absurd (omega arith)
get_or-lines_of (row ∷ rows) [] marks i h k inside = absurd (omega arith)
get_or-lines_of (row ∷ rows) (size ∷ sizes) [] i h k inside = absurd (omega arith)
get_or-lines_of (row ∷ rows) (size ∷ sizes) (mark ∷ marks) zero h k inside = refl
get_or-lines_of (row ∷ rows) (size ∷ sizes) (mark ∷ marks) (suc i) h k inside = get_or-lines_of rows sizes marks i (omega arith) (omega arith) (omega arith)

-- what holds of every size holds of the size of every line
pub All-lines_of : (P : ℕ → Type 0) (rows : List (List ℤ)) (sizes : List ℕ) (marks : List Bool) → All P sizes → All (λ (l : Line). P l.size) (lines_of rows sizes marks)
All-lines_of P [] sizes marks h = All-nil (λ (l : Line). P l.size)
All-lines_of P (row ∷ rows) [] marks h = All-nil (λ (l : Line). P l.size)
All-lines_of P (row ∷ rows) (size ∷ sizes) [] h = All-nil (λ (l : Line). P l.size)
All-lines_of P (row ∷ rows) (size ∷ sizes) (mark ∷ marks) h =
    All-cons (λ (l : Line). P l.size) _ _ (All-head P size sizes h) (All-lines_of P rows sizes marks (All-tail P size sizes h))

-- the place is the product with the rows
pub map-along-lines_of : (p : List ℤ) (rows : List (List ℤ)) (sizes : List ℕ) (marks : List Bool) → length sizes ≡ length rows → length marks ≡ length rows → map (along p) (lines_of rows sizes marks) ≡ product rows p
map-along-lines_of p [] sizes marks h k = refl
map-along-lines_of p (row ∷ rows) [] marks h k = absurd (omega arith)
map-along-lines_of p (row ∷ rows) (size ∷ sizes) [] h k = absurd (omega arith)
map-along-lines_of p (row ∷ rows) (size ∷ sizes) (mark ∷ marks) h k = ap (λ rest. dot row p ∷ rest) (map-along-lines_of p rows sizes marks (omega arith) (omega arith))

pub get_or-place : (s : Schedule) (p : List ℤ) (k : ℕ) → k < length s.lines → get_or (place s p) k (pos 0) ≡ along p (get_or s.lines k no-line)
get_or-place s p k h = get_or-map (along p) s.lines k no-line (pos 0) h

pub place-product : (s : Schedule) (p : List ℤ) → place s p ≡ product (matrix s) p
place-product s p = by s.lines
  where
    by : (lines : List Line) → map (along p) lines ≡ product (map (λ (l : Line). l.row) lines) p
    by [] = refl
    by (line ∷ lines) = ap (λ rest. along p line ∷ rest) (by lines)

-- ---- lists with zeros on one side

-- a list with zeros before a place, and from there the values of a function of the lines
pub wide-tile-is : (s : Schedule) (p numbers : List ℤ) → s.seq ≤ length s.lines → length numbers ≡ length s.lines
    → ((k : ℕ) → k < s.seq → get_or numbers k (pos 0) ≡ pos 0)
    → ((k : ℕ) → s.seq ≤ k → k < length s.lines → get_or numbers k (pos 0) ≡ tile_along p (get_or s.lines k no-line))
    → numbers ≡ wide_tile s p
wide-tile-is s p numbers leads long zeros values =
    let front = length-replicate s.seq (pos 0) in
    let after = length-map (drop s.seq s.lines) (tile_along p) in
    let rest = length-drop s.seq s.lines in
    let whole = length-append (replicate s.seq (pos 0)) (map (tile_along p) (drop s.seq s.lines)) in
    ext_get_or (pos 0) numbers (wide_tile s p) (omega (arith, front, after, rest, whole, long, leads)) (λ k h. by k (omega (arith, h, long)) (cases_lt k s.seq))
  where
    by : (k : ℕ) → k < length s.lines → (k < s.seq) ⊎ (s.seq ≤ k) → get_or numbers k (pos 0) ≡ get_or (wide_tile s p) k (pos 0)
    by k h (inl below) =
        let front = length-replicate s.seq (pos 0) in
        zeros k below ∙ sym (get_or_append_left (replicate s.seq (pos 0)) (map (tile_along p) (drop s.seq s.lines)) (pos 0) k (omega (arith, front, below)) ∙ get_or-replicate s.seq k (pos 0) (pos 0) below)
    by k h (inr above) =
        let rest = length-drop s.seq s.lines in
        let at : s.seq + (k - s.seq) ≡ k = omega (arith, above) in
        values k above h
        ∙ sym (get_or-append_right (replicate s.seq (pos 0)) (map (tile_along p) (drop s.seq s.lines)) s.seq k (pos 0) (length-replicate s.seq (pos 0)) above
        ∙ get_or-map (tile_along p) (drop s.seq s.lines) (k - s.seq) no-line (pos 0) (omega (arith, rest, h, above))
        ∙ ap (tile_along p) (get_or-drop s.seq s.lines (k - s.seq) no-line ∙ ap (λ i. get_or s.lines i no-line) at))

-- a list with the values of a function of the lines before a place, and zeros from there
pub wide-lead-is : (s : Schedule) (p numbers : List ℤ) → s.seq ≤ length s.lines → length numbers ≡ length s.lines
    → ((k : ℕ) → k < s.seq → get_or numbers k (pos 0) ≡ along p (get_or s.lines k no-line))
    → ((k : ℕ) → s.seq ≤ k → k < length s.lines → get_or numbers k (pos 0) ≡ pos 0)
    → numbers ≡ wide_lead s p
wide-lead-is s p numbers leads long values zeros =
    let front = length-map (take s.seq s.lines) (along p) in
    let taken = length-take s.seq s.lines in
    let after = length-replicate (length s.lines - s.seq) (pos 0) in
    let whole = length-append (map (along p) (take s.seq s.lines)) (replicate (length s.lines - s.seq) (pos 0)) in
    ext_get_or (pos 0) numbers (wide_lead s p) (omega (arith, front, taken, after, whole, long, leads)) (λ k h. by k (omega (arith, h, long)) (cases_lt k s.seq))
  where
    by : (k : ℕ) → k < length s.lines → (k < s.seq) ⊎ (s.seq ≤ k) → get_or numbers k (pos 0) ≡ get_or (wide_lead s p) k (pos 0)
    by k h (inl below) =
        let front = length-map (take s.seq s.lines) (along p) in
        let taken = length-take s.seq s.lines in
        values k below
        ∙ sym (get_or_append_left (map (along p) (take s.seq s.lines)) (replicate (length s.lines - s.seq) (pos 0)) (pos 0) k (omega (arith, front, taken, below, leads))
        ∙ get_or-map (along p) (take s.seq s.lines) k no-line (pos 0) (omega (arith, taken, below, leads))
        ∙ ap (along p) (get_or-take s.seq s.lines k no-line below))
    by k h (inr above) =
        let front = length-map (take s.seq s.lines) (along p) in
        let taken = length-take s.seq s.lines in
        zeros k above h
        ∙ sym (get_or-append_right (map (along p) (take s.seq s.lines)) (replicate (length s.lines - s.seq) (pos 0)) s.seq k (pos 0) (omega (arith, front, taken, leads)) above
        ∙ get_or-replicate (length s.lines - s.seq) (k - s.seq) (pos 0) (pos 0) (omega (arith, h, above)))

-- ---- the wave, row by row

pub wave_of-drop : (p : List ℤ) (lines : List Line) (k : ℕ) → k < length lines
    → wave_of p (drop k lines) ≡ cond (get_or lines k no-line).parallel (pos 0) (tile_along p (get_or lines k no-line)) +ℤ wave_of p (drop (suc k) lines)
wave_of-drop p lines k h = ap (wave_of p) (drop-cons lines k no-line h)

-- ---- the parts of a line

-- the tile number of a row, by its number in the place and its size
pub tile_along-lines_of : (p : List ℤ) (rows : List (List ℤ)) (seq : ℕ) (sizes : List ℕ) (marks : List Bool) (k : ℕ) → length sizes ≡ length rows → length marks ≡ length rows → k < length rows
    → int_div_euclid (get_or (place (schedule_from (record { rows = rows; seq = seq; sizes = sizes; parallel = marks })) p) k (pos 0)) (pos (get_or sizes k 0)) ≡ tile_along p (get_or (lines_of rows sizes marks) k no-line)
tile_along-lines_of p rows seq sizes marks k h l inside =
    let many = length-lines_of rows sizes marks h l in
    ap₂ (λ (z : ℤ) (n : ℕ). int_div_euclid z (pos n)) (get_or-map (along p) (lines_of rows sizes marks) k no-line (pos 0) (omega (arith, many, inside)))
    (sym (ap (λ (line : Line). line.size) (get_or-lines_of rows sizes marks k h l inside)))

pub parallel-lines_of : (rows : List (List ℤ)) (sizes : List ℕ) (marks : List Bool) (k : ℕ) → length sizes ≡ length rows → length marks ≡ length rows → k < length rows
    → get_or marks k false ≡ (get_or (lines_of rows sizes marks) k no-line).parallel
parallel-lines_of rows sizes marks k h l inside = sym (ap (λ (line : Line). line.parallel) (get_or-lines_of rows sizes marks k h l inside))

-- the wave goes on by what a row of the band adds
pub wave-more : (p : List ℤ) (rows : List (List ℤ)) (seq : ℕ) (sizes : List ℕ) (marks : List Bool) (k : ℕ) (numbers : List ℤ) (share : ℤ) → length sizes ≡ length rows → length marks ≡ length rows → k < length rows
    → numbers ≡ place (schedule_from (record { rows = rows; seq = seq; sizes = sizes; parallel = marks })) p
    → share ≡ cond (get_or marks k false) (pos 0) (int_div_euclid (get_or numbers k (pos 0)) (pos (get_or sizes k 0)))
    → wave_of p (drop k (lines_of rows sizes marks)) ≡ share +ℤ wave_of p (drop (k + 1) (lines_of rows sizes marks))
wave-more p rows seq sizes marks k numbers share h l inside e is =
    let many = length-lines_of rows sizes marks h l in
    let next : suc k ≡ k + 1 = sym (add-one k) in
    wave_of-drop p (lines_of rows sizes marks) k (omega (arith, many, inside))
    ∙ ap₂ (λ (x y : ℤ). x +ℤ y)
    (sym (is ∙ ap₂ (λ (b : Bool) (z : ℤ). cond b (pos 0) z) (parallel-lines_of rows sizes marks k h l inside)
    (ap (λ ns. int_div_euclid (get_or ns k (pos 0)) (pos (get_or sizes k 0))) e ∙ tile_along-lines_of p rows seq sizes marks k h l inside)))
    (ap (λ i. wave_of p (drop i (lines_of rows sizes marks))) next)

-- ---- a list that is written place by place

pub set-more : (xs : List ℤ) (i : ℕ) (v : ℤ) (first : ℕ) (f : ℕ → ℤ) → i < length xs → v ≡ f i → ((k : ℕ) → first ≤ k → k < i → get_or xs k (pos 0) ≡ f k)
    → (k : ℕ) → first ≤ k → k < i + 1 → get_or (set xs i v) k (pos 0) ≡ f k
set-more xs i v first f inside is before k from below = by (cases_eq k i)
  where
    by : (k ≡ i) ⊎ (k ≡ i → ⊥) → get_or (set xs i v) k (pos 0) ≡ f k
    by (inl e) = subst (λ j. get_or (set xs i v) j (pos 0) ≡ f j) (sym e) (get_or-set_same xs i v (pos 0) inside ∙ is)
    by (inr apart) = get_or-set_other xs i k v (pos 0) apart ∙ before k from (omega (arith, below, apart))

pub set-kept : (xs : List ℤ) (i : ℕ) (v x : ℤ) (k : ℕ) → (k ≡ i → ⊥) → get_or xs k (pos 0) ≡ x → get_or (set xs i v) k (pos 0) ≡ x
set-kept xs i v x k apart is = get_or-set_other xs i k v (pos 0) apart ∙ is

-- ---- what is made is a schedule

pub IsSchedule-made : (n : ℕ) (rows columns : List (List ℤ)) (seq : ℕ) (sizes : List ℕ) (marks : List Bool) → IsInverse n rows columns → HasSmallEntries rows → seq ≤ n
    → All (λ (size : ℕ). 0 < size) sizes → All (λ (size : ℕ). size ≤ 65536) sizes → length sizes ≡ n → length marks ≡ n
    → IsSchedule n (schedule_from (record { rows = rows; seq = seq; sizes = sizes; parallel = marks }))
IsSchedule-made n rows columns seq sizes marks inverse small leads some limit h k =
    let many = inverse.rows_square.many in
    let same = map-lines_of rows sizes marks (h ∙ sym many) (k ∙ sym many) in
    record {
      long = length-lines_of rows sizes marks (h ∙ sym many) (k ∙ sym many) ∙ many;
      leads = leads;
      sizes = All-lines_of (λ (size : ℕ). 0 < size) rows sizes marks some;
      limit = All-lines_of (λ (size : ℕ). size ≤ 65536) rows sizes marks limit;
      square = subst (IsSquare n) (sym same) inverse.rows_square;
      small = subst HasSmallEntries (sym same) small;
      one = subst (IsOneToOne n) (sym same) (inverted.one n rows columns inverse);
      onto = subst (IsOnto n) (sym same) (inverted.onto n rows columns inverse);
    }
