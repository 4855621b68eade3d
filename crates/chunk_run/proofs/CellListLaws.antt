-- Cell lists: each cell has one list, and the lists of cells together.
use Rattle.std.proofs.Common.{◌≡◌, refl, sym, ap, ap₂, ◌∙◌, subst, ℕ, zero, suc, inl, inr, ℤ, pos, Bool, List, [], ◌∷◌, ◌++◌, append-nil, length, drop, get_or, arith, Ordering, Less, Equal, int_cmp}
use Rattle.std.specs.Cmp.{IsTotalOrder}
use Rattle.std.specs.Cmp.Lexicographic.{slice_cmp}
use Rattle.std.proofs.lemmas.Cmp.{lists_total, int_cmp_total}
use Rattle.std.proofs.lemmas.Grind.{flat_map-append}
use Rattle.std.proofs.lemmas.List.{length-map}
use Rattle.plain_lemmas.proofs.OrderLaws.{slice_cmp-exact}
use Rattle.orders.specs.Orders.{Ordered, sorted}
use Rattle.plain_lemmas.specs.Lists.{Has}
use Rattle.orders.specs.Tiles.{flat}
use Rattle.plain_lemmas.proofs.MembershipLaws.{all-has, all-from, has-from-contains, contains-from-has}
use Rattle.orders.proofs.SortLaws.{ordering-unique, never-itself, never-both, sorted-is-ordering, has-flat}
use Rattle.domain.specs.Tables.{IsTable}
use Rattle.domain.specs.Instances.{Instance, Predicted, Precedes, IsOriginal, original_key, padded, Ordered as InOrder}
use Rattle.transform.specs.Schedules.{IsSchedule, along, place}
use Rattle.transform.proofs.LineLaws.{place-product}
use Rattle.dependence.proofs.SystemLaws.{length-padded}
use Rattle.skeletons.specs.Cells.{Cell, Extent, Comes, IsListOf, AreListsOf, cell_of, place_key}
use Rattle.skeletons.specs.Frames.{chosen, is_cell}
use Rattle.skeletons.proofs.ListLaws.{chosen-has, has-chosen, chosen-ordered, same-cell, cell-same}

-- ---- there is one list of a cell

list-unique : (e : Extent) (cell : Cell) (xs ys : List Instance) → IsListOf e cell xs → IsListOf e cell ys → xs ≡ ys
list-unique e cell xs ys f g =
    ordering-unique (Comes e) (never-both (slice_cmp int_cmp) (lists_total int_cmp_total) (place_key e)) xs ys f.ordered g.ordered (record {
      there = λ x h. (g.has x).1 ((f.has x).0 h);
      back = λ x h. (f.has x).1 ((g.has x).0 h);
    })

pub lists-unique : (e : Extent) (cells : List Cell) (us vs : List (List Instance)) → AreListsOf e cells us → AreListsOf e cells vs → us ≡ vs
lists-unique e [] [] [] f g = refl
lists-unique e [] [] (v ∷ vs) f g = absurd g
lists-unique e [] (u ∷ us) vs f g = absurd f
lists-unique e (c ∷ cells) [] vs f g = absurd f
lists-unique e (c ∷ cells) (u ∷ us) [] f g = absurd g
lists-unique e (c ∷ cells) (u ∷ us) (v ∷ vs) f g = ap₂ (λ z zs. z ∷ zs) (list-unique e c u v f.0 g.0) (lists-unique e cells us vs f.1 g.1)

-- ---- lists of some cells

pub lists-none : (e : Extent) (lists : List (List Instance)) → AreListsOf e [] lists → lists ≡ []
lists-none e [] h = refl
lists-none e (xs ∷ lists) h = absurd h

pub lists-split : (e : Extent) (cells more : List Cell) (lists : List (List Instance)) → AreListsOf e (cells ++ more) lists
    → (us : List (List Instance)) × (vs : List (List Instance)) × (lists ≡ us ++ vs) × AreListsOf e cells us × AreListsOf e more vs
lists-split e [] more lists h = ([], lists, refl, tt, h)
lists-split e (c ∷ cells) more [] h = absurd h
lists-split e (c ∷ cells) more (xs ∷ lists) h = let (us, vs, is, f, g) = lists-split e cells more lists h.1 in (xs ∷ us, vs, ap (λ l. xs ∷ l) is, (h.0, f), g)

pub flat-++ : (us vs : List (List Instance)) → flat (us ++ vs) ≡ flat us ++ flat vs
flat-++ us vs = flat_map-append (λ (xs : List Instance). xs) us vs

pub flat-one : (us : List (List Instance)) (xs : List Instance) → flat (us ++ xs ∷ []) ≡ flat us ++ xs
flat-one us xs = flat-++ us (xs ∷ []) ∙ ap (λ (zs : List Instance). flat us ++ zs) (append-nil xs)

-- the list of a cell, and the cell of a list
pub cell-list : (e : Extent) (cells : List Cell) (lists : List (List Instance)) (cell : Cell) → AreListsOf e cells lists → Has cells cell → (xs : List Instance) × Has lists xs × IsListOf e cell xs
cell-list e [] lists cell f h = absurd h
cell-list e (c ∷ cells) [] cell f h = absurd f
cell-list e (c ∷ cells) (xs ∷ lists) cell f (inl i) = (xs, inl refl, subst (λ (d : Cell). IsListOf e d xs) (sym i) f.0)
cell-list e (c ∷ cells) (xs ∷ lists) cell f (inr k) = let (ys, there, is) = cell-list e cells lists cell f.1 k in (ys, inr there, is)

pub list-cell : (e : Extent) (cells : List Cell) (lists : List (List Instance)) (xs : List Instance) → AreListsOf e cells lists → Has lists xs → (cell : Cell) × Has cells cell × IsListOf e cell xs
list-cell e [] [] xs f h = absurd h
list-cell e [] (ys ∷ lists) xs f h = absurd f
list-cell e (c ∷ cells) [] xs f h = absurd h
list-cell e (c ∷ cells) (ys ∷ lists) xs f (inl i) = (c, inl refl, subst (IsListOf e c) (sym i) f.0)
list-cell e (c ∷ cells) (ys ∷ lists) xs f (inr k) = let (cell, there, is) = list-cell e cells lists xs f.1 k in (cell, inr there, is)

-- what the lists have is predicted
pub flat-predicted : (e : Extent) (cells : List Cell) (lists : List (List Instance)) (x : Instance) → AreListsOf e cells lists → Has (flat lists) x → Predicted e.table e.chunk x
flat-predicted e cells lists x f h =
    let (xs, there, at) = has-flat lists x h in
    let (cell, found, is) = list-cell e cells lists xs f there in
    ((is.has x).0 at).predicted

pub list-predicted : (e : Extent) (cells : List Cell) (lists : List (List Instance)) (tile : ℕ) (x : Instance) → AreListsOf e cells lists → Has (get_or lists tile []) x → Predicted e.table e.chunk x
list-predicted e [] [] tile x f h = absurd h
list-predicted e [] (ys ∷ lists) tile x f h = absurd f
list-predicted e (c ∷ cells) [] tile x f h = absurd f
list-predicted e (c ∷ cells) (ys ∷ lists) zero x f h = ((f.0.has x).0 h).predicted
list-predicted e (c ∷ cells) (ys ∷ lists) (suc tile) x f h = list-predicted e cells lists tile x f.1 h

-- ---- each cell has a list: what lies in it, sorted

pub in-order : {X : Type 0} (R : X → X → Type 0) (xs : List X) → InOrder R xs → Ordered R xs
in-order R [] h = tt
in-order R (x ∷ xs) h = (h.0, in-order R xs h.1)

-- what holds of the pairs of a list
pub ordered-into : {X : Type 0} (R S : X → X → Type 0) (xs : List X) → ((x y : X) → Has xs x → Has xs y → R x y → S x y) → Ordered R xs → Ordered S xs
ordered-into R S [] into h = tt
ordered-into R S (x ∷ xs) into h = (all-from (S x) xs (λ y k. into x y (inl refl) (inr k) (all-has (R x) xs y h.0 k)), ordered-into R S xs (λ u v k l. into u v (inr k) (inr l)) h.1)

-- two lists with a number behind each
pub push-same : (us vs : List ℤ) (m n : ℤ) → length us ≡ length vs → us ++ m ∷ [] ≡ vs ++ n ∷ [] → (us ≡ vs) × (m ≡ n)
push-same [] [] m n l e = (refl, ap (λ (zs : List ℤ). get_or zs 0 (pos 0)) e)
push-same [] (v ∷ vs) m n l e = absurd (omega arith)
push-same (u ∷ us) [] m n l e = absurd (omega arith)
push-same (u ∷ us) (v ∷ vs) m n l e =
    let more = push-same us vs m n (omega arith) (ap (λ (zs : List ℤ). drop 1 zs) e) in
    (ap₂ (λ (z : ℤ) (zs : List ℤ). z ∷ zs) (ap (λ (zs : List ℤ). get_or zs 0 (pos 0)) e) more.0, more.1)

module _ (D : ℕ) (e : Extent) (shape : IsTable D e.table) (sched : IsSchedule D e.schedule) (xs : List Instance) (original : IsOriginal e.table e.chunk xs) where
  abbrev cmp : Instance → Instance → Ordering
  cmp x y = slice_cmp int_cmp (place_key e x) (place_key e y)

  total : IsTotalOrder cmp
  total = record {
    antisymm = λ x y. (lists_total int_cmp_total).antisymm (place_key e x) (place_key e y);
    trans = λ x y z. (lists_total int_cmp_total).trans (place_key e x) (place_key e y) (place_key e z);
    congr = λ x y z. (lists_total int_cmp_total).congr (place_key e x) (place_key e y) (place_key e z);
  }

  long : (x : Instance) → length (padded e.table x) ≡ D
  long x = length-padded e.table x ∙ shape.deep

  place-long : (x y : Instance) → length (place e.schedule (padded e.table x)) ≡ length (place e.schedule (padded e.table y))
  place-long x y = length-places (padded e.table x) ∙ sym (length-places (padded e.table y))
    where
      length-places : (p : List ℤ) → length (place e.schedule p) ≡ length e.schedule.lines
      length-places p = length-map e.schedule.lines (along p)

  -- no two of the original list have one key
  apart : Ordered (λ x y. cmp x y ≡ Equal → ⊥) xs
  apart = ordered-into (Precedes e.table) (λ x y. cmp x y ≡ Equal → ⊥) xs differ (in-order (Precedes e.table) xs original.ordered)
    where
      differ : (x y : Instance) → Has xs x → Has xs y → Precedes e.table x y → cmp x y ≡ Equal → ⊥
      differ x y h k before equal =
          let parts = push-same (place e.schedule (padded e.table x)) (place e.schedule (padded e.table y)) (pos x.block) (pos y.block) (place-long x y) (slice_cmp-exact (place_key e x) (place_key e y) equal) in
          let points = sched.one (padded e.table x) (padded e.table y) (long x) (long y) (sym (place-product e.schedule (padded e.table x)) ∙ parts.0 ∙ place-product e.schedule (padded e.table y)) in
          let key : original_key e.table x ≡ original_key e.table y = ap₂ (λ (p : List ℤ) (b : ℤ). p ++ b ∷ []) points parts.1 in
          never-itself (slice_cmp int_cmp) (lists_total int_cmp_total) (λ (k : List ℤ). k) (original_key e.table x) (subst (λ (k : List ℤ). slice_cmp int_cmp (original_key e.table x) k ≡ Less) (sym key) before)

  abbrev inside : Cell → Instance → Bool
  inside cell x = is_cell cell (cell_of e.schedule (padded e.table x))

  list-is : (cell : Cell) → IsListOf e cell (chosen (inside cell) (sorted cmp xs))
  list-is cell =
      let ys = sorted cmp xs in
      let is = sorted-is-ordering cmp total xs apart in
      record {
        ordered = chosen-ordered (inside cell) (Comes e) ys is.ordered;
        has = λ x. (
          λ h. let a = chosen-has (inside cell) ys x h in record {
            predicted = (original.has x).0 (contains-from-has xs x (is.same.back x a.0));
            inside = sym (same-cell cell (cell_of e.schedule (padded e.table x)) a.1);
          },
          λ l. has-chosen (inside cell) ys x (is.same.there x (has-from-contains xs x ((original.has x).1 l.predicted))) (cell-same cell (cell_of e.schedule (padded e.table x)) (sym l.inside)),
        );
      }

  pub lists-exist : (cells : List Cell) → (lists : List (List Instance)) × AreListsOf e cells lists
  lists-exist [] = ([], tt)
  lists-exist (cell ∷ cells) = let (lists, are) = lists-exist cells in (chosen (inside cell) (sorted cmp xs) ∷ lists, (list-is cell, are))
