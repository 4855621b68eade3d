-- Tidied sets of rows: what they hold, and that there is one.
use Rattle.std.proofs.Common.{◌≡◌, ℤ, Bool, true, false, cond, not, ◌&&◌, List, [], ◌∷◌, ◌++◌, filter, refl, sym, ap, ap₂, ◌∙◌, subst, inl, inr, ⊎_elim, ◌⊎◌, Ordering, Less, Equal, Greater, int_cmp, is_eq, arith, ◌≤ℤ◌, int_lt, append_assoc, append-nil}
use Rattle.std.specs.Prelude.{if◌then◌else◌}
use Rattle.std.specs.Ordering.{ordering_reverse, match_ordering}
use Rattle.std.specs.Cmp.{IsTotalOrder}
use Rattle.std.specs.Cmp.Lexicographic.{slice_cmp}
use Rattle.std.proofs.lemmas.Cmp.{tied_itself, tied_back, lists_total, int_cmp_total, on_total}
use Rattle.std.proofs.lemmas.Int.{ints}
use Rattle.affine.specs.declared.row.Row.{Row}
use Rattle.affine.specs.Rows.{normal}
use Rattle.fourier_motzkin.specs.RowSets.{compare, says_nothing, is_least_of, placed, rising, told, tidied, Rises, kept, with_row, with_rows}
use Rattle.plain_lemmas.proofs.OrderLaws.{slice_cmp-exact}
use Rattle.plain_lemmas.proofs.MembershipLaws.{all-has, all-from, has-left, has-right, has-cases, has-filter, filter-has, list_all-has, list_all-from}
use Rattle.plain_lemmas.specs.Lists.{Has}

-- the order of rows by their coefficients

pub compare-total : IsTotalOrder compare
compare-total = on_total (λ (row : Row). row.coef.items) (lists_total int_cmp_total)

-- rows that tie have the same coefficients
pub tied-coefficients : (r s : Row) → compare r s ≡ Equal → r.coef ≡ s.coef
tied-coefficients r s e = ap (λ xs. record { items = xs }) (slice_cmp-exact r.coef.items s.coef.items e)

pub tied-rows : (r s : Row) → compare r s ≡ Equal → r.cst ≡ s.cst → r ≡ s
tied-rows r s e f = ap₂ (λ (c : _) (z : ℤ). record { coef = c; cst = z }) (tied-coefficients r s e) f

pub same-coefficients : (r s : Row) → r.coef ≡ s.coef → compare r s ≡ Equal
same-coefficients r s e = ap (λ c. slice_cmp int_cmp r.coef.items c.items) (sym e) ∙ tied_itself compare-total r

-- lists that rise

below-none : (r s : Row) → compare r s ≡ Less → compare s r ≡ Less → ⊥
below-none r s h k = let e = tied_itself compare-total r in let l = compare-total.trans r s r h k in cc

-- of two rows in a list that rises with the same coefficients there is one
pub tied-once : (set : List Row) (r s : Row) → Rises set → Has set r → Has set s → compare r s ≡ Equal → r ≡ s
tied-once [] r s up h k e = absurd h
tied-once (x ∷ xs) r s up (inl a) (inl b) e = a ∙ sym b
tied-once (x ∷ xs) r s up (inl a) (inr k) e = absurd (let l = all-has (λ y. compare x y ≡ Less) xs s up.0 k in let f : compare x s ≡ Equal = subst (λ z. compare z s ≡ Equal) a e in cc)
tied-once (x ∷ xs) r s up (inr h) (inl b) e = absurd (let l = all-has (λ y. compare x y ≡ Less) xs r up.0 h in let f : compare x r ≡ Equal = tied_back compare-total r x (subst (λ z. compare r z ≡ Equal) b e) in cc)
tied-once (x ∷ xs) r s up (inr h) (inr k) e = tied-once xs r s up.1 h k e

-- two lists that rise and have the same rows are one
pub rising-unique : (xs ys : List Row) → Rises xs → Rises ys → ((r : Row) → Has xs r → Has ys r) → ((r : Row) → Has ys r → Has xs r) → xs ≡ ys
rising-unique [] [] up down there back = refl
rising-unique [] (y ∷ ys) up down there back = absurd (back y (inl refl))
rising-unique (x ∷ xs) [] up down there back = absurd (there x (inl refl))
rising-unique (x ∷ xs) (y ∷ ys) up down there back =
    let heads = at-heads (there x (inl refl)) (back y (inl refl)) in
    ap₂ (λ z zs. z ∷ zs) heads (rising-unique xs ys up.1 down.1
    (λ r h. tail-there heads r h (there r (inr h)))
    (λ r h. tail-back heads r h (back r (inr h))))
  where
    at-heads : Has (y ∷ ys) x → Has (x ∷ xs) y → x ≡ y
    at-heads (inl e) k = e
    at-heads (inr h) (inl e) = sym e
    at-heads (inr h) (inr k) = absurd (below-none x y (all-has (λ z. compare x z ≡ Less) xs y up.0 k) (all-has (λ z. compare y z ≡ Less) ys x down.0 h))

    tail-there : x ≡ y → (r : Row) → Has xs r → Has (y ∷ ys) r → Has ys r
    tail-there heads r h (inr k) = k
    tail-there heads r h (inl e) = absurd (let l = all-has (λ z. compare x z ≡ Less) xs r up.0 h in let f = tied_itself compare-total x in let g : r ≡ x = e ∙ sym heads in let m : compare x x ≡ Less = subst (λ z. compare x z ≡ Less) g l in cc)

    tail-back : x ≡ y → (r : Row) → Has ys r → Has (x ∷ xs) r → Has xs r
    tail-back heads r h (inr k) = k
    tail-back heads r h (inl e) = absurd (let l = all-has (λ z. compare y z ≡ Less) ys r down.0 h in let f = tied_itself compare-total y in let g : r ≡ y = e ∙ heads in let m : compare y y ≡ Less = subst (λ z. compare y z ≡ Less) g l in cc)

-- the list that rises

placed-has : (r : Row) (set : List Row) (s : Row) → Has (placed r set) s → (s ≡ r) ⊎ Has set s
placed-has r [] s h = h
placed-has r (x ∷ xs) s h = at (compare r x) h (λ k. placed-has r xs s k)
  where
    at : (o : Ordering) → Has (match_ordering o (r ∷ x ∷ xs) (x ∷ xs) (x ∷ placed r xs)) s → (Has (placed r xs) s → (s ≡ r) ⊎ Has xs s) → (s ≡ r) ⊎ Has (x ∷ xs) s
    at Less h more = h
    at Equal h more = inr h
    at Greater (inl e) more = inr (inl e)
    at Greater (inr k) more = ⊎_elim (λ e. inl e) (λ m. inr (inr m)) (more k)

-- the row placed, or one with the same coefficients, stands there
has-placed : (r : Row) (set : List Row) → (s : Row) × Has (placed r set) s × (compare r s ≡ Equal)
has-placed r [] = (r, inl refl, tied_itself compare-total r)
has-placed r (x ∷ xs) = at (compare r x) refl (has-placed r xs)
  where
    at : (o : Ordering) → compare r x ≡ o → (s : Row) × Has (placed r xs) s × (compare r s ≡ Equal) → (s : Row) × Has (match_ordering o (r ∷ x ∷ xs) (x ∷ xs) (x ∷ placed r xs)) s × (compare r s ≡ Equal)
    at Less e more = (r, inl refl, tied_itself compare-total r)
    at Equal e more = (x, inl refl, e)
    at Greater e (s, h, f) = (s, inr h, f)

has-placed-others : (r : Row) (set : List Row) (s : Row) → Has set s → Has (placed r set) s
has-placed-others r [] s h = absurd h
has-placed-others r (x ∷ xs) s h = at (compare r x) h (λ k. has-placed-others r xs s k)
  where
    at : (o : Ordering) → Has (x ∷ xs) s → (Has xs s → Has (placed r xs) s) → Has (match_ordering o (r ∷ x ∷ xs) (x ∷ xs) (x ∷ placed r xs)) s
    at Less h more = inr h
    at Equal h more = h
    at Greater (inl e) more = inl e
    at Greater (inr k) more = inr (more k)

-- what is above the head is above it with the row that is placed behind it
after-greater : (r x : Row) → compare r x ≡ Greater → compare x r ≡ Less
after-greater r x e = compare-total.antisymm x r ∙ ap ordering_reverse e

placed-rises : (r : Row) (set : List Row) → Rises set → Rises (placed r set)
placed-rises r [] up = (tt, tt)
placed-rises r (x ∷ xs) up = at (compare r x) refl (placed-rises r xs up.1)
  where
    at : (o : Ordering) → compare r x ≡ o → Rises (placed r xs) → Rises (match_ordering o (r ∷ x ∷ xs) (x ∷ xs) (x ∷ placed r xs))
    at Less e more = ((e, all-from (λ y. compare r y ≡ Less) xs (λ y k. compare-total.trans r x y e (all-has (λ z. compare x z ≡ Less) xs y up.0 k))), up)
    at Equal e more = up
    at Greater e more = (all-from (λ y. compare x y ≡ Less) (placed r xs) (λ y k. ⊎_elim (λ f. subst (λ z. compare x z ≡ Less) (sym f) (after-greater r x e)) (λ m. all-has (λ z. compare x z ≡ Less) xs y up.0 m) (placed-has r xs y k)), more)

pub rising-rises : (rows : List Row) → Rises (rising rows)
rising-rises [] = tt
rising-rises (r ∷ rs) = placed-rises r (rising rs) (rising-rises rs)

pub rising-has : (rows : List Row) (s : Row) → Has (rising rows) s → Has rows s
rising-has [] s h = h
rising-has (r ∷ rs) s h = ⊎_elim (λ e. inl e) (λ k. inr (rising-has rs s k)) (placed-has r (rising rs) s h)

pub has-rising : (rows : List Row) (r : Row) → Has rows r → (s : Row) × Has (rising rows) s × (compare r s ≡ Equal)
has-rising [] r h = absurd h
has-rising (x ∷ xs) r (inl e) = subst (λ z. (s : Row) × Has (placed x (rising xs)) s × (compare z s ≡ Equal)) (sym e) (has-placed x (rising xs))
has-rising (x ∷ xs) r (inr h) = let (s, k, f) = has-rising xs r h in (s, has-placed-others x (rising xs) s k, f)

-- the rows of a list with the least constants

pub record LeastIn (rows : List Row) (row : Row) : Type 0 where
  pub has : Has rows row
  pub least : (other : Row) → Has rows other → compare row other ≡ Equal → row.cst ≤ℤ other.cst

test-told : (o : Ordering) (b : Bool) → o ≡ Equal → not (is_eq o && b) ≡ true → b ≡ false
test-told o true e h = let f : not (is_eq Equal && true) ≡ true = subst (λ p. not (is_eq p && true) ≡ true) e h in cc
test-told o false e h = refl

test-from : (o : Ordering) (b : Bool) → (o ≡ Equal → b ≡ false) → not (is_eq o && b) ≡ true
test-from Less b h = refl
test-from Equal b h = rw (h refl) refl
test-from Greater b h = refl

not-below : (x y : ℤ) → int_lt y x ≡ false → x ≤ℤ y
not-below x y h = grind (arith, ints)

below-false : (x y : ℤ) → x ≤ℤ y → int_lt y x ≡ false
below-false x y h = grind (arith, ints)

below-both : (x y : ℤ) → int_lt x y ≡ true → x ≤ℤ y
below-both x y h = grind (arith, ints)

least-told : (rows : List Row) (r : Row) → is_least_of rows r ≡ true → (s : Row) → Has rows s → compare r s ≡ Equal → r.cst ≤ℤ s.cst
least-told rows r h s k e = not-below r.cst s.cst (test-told (compare r s) (int_lt s.cst r.cst) e (list_all-has (λ other. not (is_eq (compare r other) && int_lt other.cst r.cst)) rows h s k))

least-from : (rows : List Row) (r : Row) → ((s : Row) → Has rows s → compare r s ≡ Equal → r.cst ≤ℤ s.cst) → is_least_of rows r ≡ true
least-from rows r h = list_all-from (λ other. not (is_eq (compare r other) && int_lt other.cst r.cst)) rows (λ s k. test-from (compare r s) (int_lt s.cst r.cst) (λ e. below-false r.cst s.cst (h s k e)))

pub tidied-rises : (rows : List Row) → Rises (tidied rows)
unfolding tidied
tidied-rises rows = rising-rises (filter (is_least_of (told rows)) (told rows))

pub tidied-has : (rows : List Row) (r : Row) → Has (tidied rows) r → LeastIn (told rows) r
unfolding tidied
tidied-has rows r h =
    let (has, is) = filter-has (is_least_of (told rows)) (told rows) r (rising-has (filter (is_least_of (told rows)) (told rows)) r h) in
    record { has = has; least = least-told (told rows) r is }

pub has-tidied : (rows : List Row) (r : Row) → LeastIn (told rows) r → Has (tidied rows) r
unfolding tidied
has-tidied rows r h =
    let passing = filter (is_least_of (told rows)) (told rows) in
    let (s, k, e) = has-rising passing r (has-filter (is_least_of (told rows)) (told rows) r h.has (least-from (told rows) r h.least)) in
    let (has, is) = filter-has (is_least_of (told rows)) (told rows) s (rising-has passing s k) in
    let one = h.least s has e in
    let two = least-told (told rows) s is r h.has (tied_back compare-total r s e) in
    let cst : s.cst ≡ r.cst = omega (arith, ints) in
    subst (λ z. Has (rising passing) z) (tied-rows s r (tied_back compare-total r s e) cst) k

-- a list that rises has the least rows of another where it has rows of that one alone and, for each row of it, one
-- with the same coefficients and no greater constant
pub record IsLeast (rows set : List Row) : Type 0 where
  pub rises : Rises set
  pub from : (row : Row) → Has set row → Has rows row
  pub covers : (row : Row) → Has rows row → (least : Row) × Has set least × (compare row least ≡ Equal) × (least.cst ≤ℤ row.cst)

pub least-has : (rows set : List Row) → IsLeast rows set → (r : Row) → Has set r → LeastIn rows r
least-has rows set is r h = record {
  has = is.from r h;
  least = λ s k e.
      let (u, m, f, below) = is.covers s k in
      let same : r ≡ u = tied-once set r u is.rises h m (compare-total.congr r s u e ∙ f) in
      subst (λ z. z.cst ≤ℤ s.cst) (sym same) below;
}

pub has-least : (rows set : List Row) → IsLeast rows set → (r : Row) → LeastIn rows r → Has set r
has-least rows set is r h =
    let (u, m, f, below) = is.covers r h.has in
    let above = h.least u (is.from u m) f in
    let cst : u.cst ≡ r.cst = omega (arith, ints) in
    subst (λ z. Has set z) (tied-rows u r (tied_back compare-total r u f) cst) m

pub least-unique : (rows set : List Row) → IsLeast rows set → (other : List Row) → Rises other → ((r : Row) → Has other r → LeastIn rows r) → ((r : Row) → LeastIn rows r → Has other r) → set ≡ other
least-unique rows set is other up there back =
    rising-unique set other is.rises up (λ r h. back r (least-has rows set is r h)) (λ r h. has-least rows set is r (there r h))

-- the set with one row more

kept-has : (r : Row) (set : List Row) (s : Row) → Has (kept r set) s → (s ≡ r) ⊎ Has set s
kept-has r [] s h = h
kept-has r (x ∷ xs) s h = at (compare r x) (int_lt r.cst x.cst) h (λ k. kept-has r xs s k)
  where
    at : (o : Ordering) (b : Bool) → Has (match_ordering o (r ∷ x ∷ xs) ((if b then r else x) ∷ xs) (x ∷ kept r xs)) s → (Has (kept r xs) s → (s ≡ r) ⊎ Has xs s) → (s ≡ r) ⊎ Has (x ∷ xs) s
    at Less b h more = h
    at Equal true (inl e) more = inl e
    at Equal true (inr k) more = inr (inr k)
    at Equal false h more = inr h
    at Greater b (inl e) more = inr (inl e)
    at Greater b (inr k) more = ⊎_elim (λ e. inl e) (λ m. inr (inr m)) (more k)

-- a row of the set with the same coefficients as another and no greater constant
abbrev Covers : List Row → Row → Type 0
Covers set row = (least : Row) × Has set least × (compare row least ≡ Equal) × (least.cst ≤ℤ row.cst)

covers-itself : (set : List Row) (r : Row) → Has set r → Covers set r
covers-itself set r h = (r, h, tied_itself compare-total r, omega (arith, ints))

covers-behind : (x : Row) (set : List Row) (s : Row) → Covers set s → Covers (x ∷ set) s
covers-behind x set s (u, h, e, below) = (u, inr h, e, below)

kept-covers : (r : Row) (set : List Row) → Covers (kept r set) r
kept-covers r [] = covers-itself (r ∷ []) r (inl refl)
kept-covers r (x ∷ xs) = at (compare r x) refl (int_lt r.cst x.cst) refl (kept-covers r xs)
  where
    at : (o : Ordering) → compare r x ≡ o → (b : Bool) → int_lt r.cst x.cst ≡ b → Covers (kept r xs) r → Covers (match_ordering o (r ∷ x ∷ xs) ((if b then r else x) ∷ xs) (x ∷ kept r xs)) r
    at Less e b f more = covers-itself (r ∷ x ∷ xs) r (inl refl)
    at Equal e true f more = covers-itself (r ∷ xs) r (inl refl)
    at Equal e false f more = (x, inl refl, e, not-below x.cst r.cst f)
    at Greater e b f more = covers-behind x (kept r xs) r more

kept-covers-others : (r : Row) (set : List Row) (s : Row) → Has set s → Covers (kept r set) s
kept-covers-others r [] s h = absurd h
kept-covers-others r (x ∷ xs) s h = at (compare r x) refl (int_lt r.cst x.cst) refl h (λ k. kept-covers-others r xs s k)
  where
    at : (o : Ordering) → compare r x ≡ o → (b : Bool) → int_lt r.cst x.cst ≡ b → Has (x ∷ xs) s → (Has xs s → Covers (kept r xs) s) → Covers (match_ordering o (r ∷ x ∷ xs) ((if b then r else x) ∷ xs) (x ∷ kept r xs)) s
    at Less e b f k more = covers-itself (r ∷ x ∷ xs) s (inr k)
    at Equal e true f (inl same) more = (r, inl refl, subst (λ z. compare z r ≡ Equal) (sym same) (tied_back compare-total r x e), subst (λ z. r.cst ≤ℤ z.cst) (sym same) (below-both r.cst x.cst f))
    at Equal e true f (inr k) more = covers-itself (r ∷ xs) s (inr k)
    at Equal e false f k more = covers-itself (x ∷ xs) s k
    at Greater e b f (inl same) more = covers-itself (x ∷ kept r xs) s (inl same)
    at Greater e b f (inr k) more = covers-behind x (kept r xs) s (more k)

kept-rises : (r : Row) (set : List Row) → Rises set → Rises (kept r set)
kept-rises r [] up = (tt, tt)
kept-rises r (x ∷ xs) up = at (compare r x) refl (int_lt r.cst x.cst) (kept-rises r xs up.1)
  where
    at : (o : Ordering) → compare r x ≡ o → (b : Bool) → Rises (kept r xs) → Rises (match_ordering o (r ∷ x ∷ xs) ((if b then r else x) ∷ xs) (x ∷ kept r xs))
    at Less e b more = ((e, all-from (λ y. compare r y ≡ Less) xs (λ y k. compare-total.trans r x y e (all-has (λ z. compare x z ≡ Less) xs y up.0 k))), up)
    at Equal e true more = (all-from (λ y. compare r y ≡ Less) xs (λ y k. compare-total.congr r x y e ∙ all-has (λ z. compare x z ≡ Less) xs y up.0 k), up.1)
    at Equal e false more = up
    at Greater e b more = (all-from (λ y. compare x y ≡ Less) (kept r xs) (λ y k. ⊎_elim (λ f. subst (λ z. compare x z ≡ Less) (sym f) (after-greater r x e)) (λ m. all-has (λ z. compare x z ≡ Less) xs y up.0 m) (kept-has r xs y k)), more)

covers-trans : (set : List Row) (s u : Row) → compare s u ≡ Equal → u.cst ≤ℤ s.cst → Covers set u → Covers set s
covers-trans set s u e below (v, h, f, under) = (v, h, compare-total.congr s u v e ∙ f, omega (arith, ints))

least-kept : (rows set : List Row) (r : Row) → IsLeast rows set → IsLeast (rows ++ r ∷ []) (kept r set)
least-kept rows set r is = record {
  rises = kept-rises r set is.rises;
  from = λ s h. ⊎_elim (λ e. has-right rows (r ∷ []) s (inl e)) (λ k. has-left rows (r ∷ []) s (is.from s k)) (kept-has r set s h);
  covers = λ s h. ⊎_elim
      (λ k. let (u, m, e, below) = is.covers s k in covers-trans (kept r set) s u e below (kept-covers-others r set u m))
      (λ k. ⊎_elim (λ e. subst (λ z. Covers (kept r set) z) (sym e) (kept-covers r set)) (λ none. absurd none) k)
      (has-cases rows (r ∷ []) s h);
}

pub least-with-rows : (rows set given : List Row) → IsLeast rows set → IsLeast (rows ++ told given) (with_rows set given)
unfolding with_row
least-with-rows rows set [] is = rw append-nil is
least-with-rows rows set (r ∷ rs) is = at (says_nothing (normal r)) is (λ xs us k. least-with-rows xs us rs k)
  where
    at : (b : Bool) → IsLeast rows set → ((xs us : List Row) → IsLeast xs us → IsLeast (xs ++ told rs) (with_rows us rs)) → IsLeast (rows ++ cond (not b) (normal r ∷ told rs) (told rs)) (with_rows (if b then set else kept (normal r) set) rs)
    at true is more = more rows set is
    at false is more = rw (← append_assoc rows (normal r ∷ []) (told rs)) (more (rows ++ normal r ∷ []) (kept (normal r) set) (least-kept rows set (normal r) is))

least-nil : IsLeast [] []
least-nil = record { rises = tt; from = λ r h. h; covers = λ r h. absurd h }

pub least-gathered : (rows : List Row) → IsLeast (told rows) (with_rows [] rows)
least-gathered rows = least-with-rows [] [] rows least-nil

-- one row after another makes the tidied set
pub with_rows-is : (rows : List Row) → with_rows [] rows ≡ tidied rows
with_rows-is rows = least-unique (told rows) (with_rows [] rows) (least-gathered rows) (tidied rows) (tidied-rises rows) (tidied-has rows) (has-tidied rows)

pub least-tidied : (rows : List Row) → IsLeast (told rows) (tidied rows)
least-tidied rows = subst (λ set. IsLeast (told rows) set) (with_rows-is rows) (least-gathered rows)

pub with_row-nothing : (row n : Row) (set : List Row) (b : Bool) → n ≡ normal row → b ≡ says_nothing n → b ≡ true → with_row row set ≡ set
unfolding with_row
with_row-nothing row n set b e f t = rw (← e, ← f, t) refl

pub with_row-tells : (row n : Row) (set : List Row) (b : Bool) → n ≡ normal row → b ≡ says_nothing n → b ≡ false → with_row row set ≡ kept n set
unfolding with_row
with_row-tells row n set b e f t = rw (← e, ← f, t) refl
