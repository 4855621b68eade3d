-- Cells that are gathered in order stand in phases whose keys rise.
use Rattle.std.proofs.Common.{◌≡◌, refl, sym, ap, ap₂, ◌∙◌, subst, ℕ, ◌-◌, ℤ, Bool, true, false, Option, Some, List, [], ◌∷◌, ◌++◌, length, get_or, set, ◌⊎◌, inl, inr, ⊎_elim, arith, Ordering, Less, Equal, Greater, int_cmp, int_eq, append_assoc, length-append}
use Rattle.std.specs.Prelude.{◌&&◌, if◌then◌else◌, slice_get}
use Rattle.std.specs.Ordering.{ordering_then}
use Rattle.std.specs.Cmp.Lexicographic.{pointwise, slice_cmp}
use Rattle.std.proofs.lemmas.Bool.{and_parts}
use Rattle.std.proofs.lemmas.Bool.Decides.{Decides-int_eq}
use Rattle.std.proofs.lemmas.Grind.{flat_map-append}
use Rattle.std.proofs.lemmas.List.{append-nil}
use Rattle.std.proofs.lemmas.Slice.Eq.{slice_eq-Decides}
use Rattle.core_steps.specs.declared.plan.Tile.{Tile}
use Rattle.orders.specs.Orders.{Ordered}
use Rattle.plain_lemmas.specs.Lists.{Has}
use Rattle.orders.proofs.ListLaws.{ordered-across, ordered-append}
use Rattle.plain_lemmas.proofs.MembershipLaws.{all-from, all-has, has-left, has-right, has-cases}
use Rattle.plain_lemmas.proofs.OrderLaws.{slice_cmp-append-less, slice_cmp-append-same, slice_cmp-exact}
use Rattle.domain.proofs.OriginalLaws.{not-back}
use Rattle.skeletons.specs.Cells.{Cell, CellComes, Extent}
use Rattle.tiles.specs.Groups.{added, alone, begins_with_key, ends_with_key, first_has_key, grown, has_key_of, last_has_key}
use Rattle.tiles.specs.Plans.{AreTilesOf, IsOnePhase, IsTileOf, KeyLess, Phase, PhaseComes, cells_of, phase_key}

-- ---- phase keys

last-apart : (xs ys : List ℤ) (a b : ℤ) → length xs ≡ length ys → xs ++ a ∷ [] ≡ ys ++ b ∷ [] → (xs ≡ ys) × (a ≡ b)
last-apart [] [] a b size e = (refl, cc)
last-apart [] (y ∷ ys) a b size e = absurd (omega arith)
last-apart (x ∷ xs) [] a b size e = absurd (omega arith)
last-apart (x ∷ xs) (y ∷ ys) a b size e =
    let first : x ≡ y = cc in
    let rest : xs ++ a ∷ [] ≡ ys ++ b ∷ [] = cc in
    let both = last-apart xs ys a b (omega arith) rest in
    (ap₂ (λ (z : ℤ) (zs : List ℤ). z ∷ zs) first both.0, both.1)

pub key-apart : (c d : Cell) → length c.lead ≡ length d.lead → phase_key c ≡ phase_key d → (c.lead ≡ d.lead) × (c.wave ≡ d.wave)
key-apart c d size e = last-apart c.lead d.lead c.wave d.wave size e

same-key : (c d : Cell) → has_key_of c d ≡ true → phase_key c ≡ phase_key d
same-key c d h =
    let parts = and_parts (pointwise int_eq c.lead d.lead) (int_eq c.wave d.wave) h in
    ap₂ (λ (l : List ℤ) (w : ℤ). l ++ w ∷ [])
    ((slice_eq-Decides Decides-int_eq c.lead d.lead (pointwise int_eq c.lead d.lead) refl).0 parts.0)
    ((Decides-int_eq c.wave d.wave).0 parts.1)

other-key : (c d : Cell) → length c.lead ≡ length d.lead → has_key_of c d ≡ false → phase_key c ≡ phase_key d → ⊥
other-key c d size h e =
    let parts = key-apart c d size e in
    let lead : pointwise int_eq c.lead d.lead ≡ true = (slice_eq-Decides Decides-int_eq c.lead d.lead (pointwise int_eq c.lead d.lead) refl).1 parts.0 in
    let wave : int_eq c.wave d.wave ≡ true = (Decides-int_eq c.wave d.wave).1 parts.1 in
    let w : true ≡ false = sym (ap₂ (λ (a b : Bool). a && b) lead wave) ∙ h in cc

-- of two cells the earlier one has the same key or a lesser one
cell-key : (c d : Cell) → length c.lead ≡ length d.lead → CellComes c d → (phase_key c ≡ phase_key d) ⊎ KeyLess (phase_key c) (phase_key d)
cell-key c d size h = by (slice_cmp int_cmp c.lead d.lead) refl h
  where
    waves : (o : Ordering) → int_cmp c.wave d.wave ≡ o → c.lead ≡ d.lead → ordering_then o (slice_cmp int_cmp c.tile d.tile) ≡ Less → (phase_key c ≡ phase_key d) ⊎ KeyLess (phase_key c) (phase_key d)
    waves Less e same l = inr (ap (λ (f : List ℤ). slice_cmp int_cmp (f ++ c.wave ∷ []) (d.lead ++ d.wave ∷ [])) same ∙ slice_cmp-append-same d.lead (c.wave ∷ []) (d.wave ∷ []) ∙ ap (λ (o : Ordering). ordering_then o Equal) e)
    waves Equal e same l = inl (ap₂ (λ (f g : List ℤ). f ++ g) same (slice_cmp-exact (c.wave ∷ []) (d.wave ∷ []) (ap (λ (o : Ordering). ordering_then o Equal) e)))
    waves Greater e same l = absurd (cc)

    by : (o : Ordering) → slice_cmp int_cmp c.lead d.lead ≡ o → ordering_then o (ordering_then (int_cmp c.wave d.wave) (slice_cmp int_cmp c.tile d.tile)) ≡ Less → (phase_key c ≡ phase_key d) ⊎ KeyLess (phase_key c) (phase_key d)
    by Less e l = inr (slice_cmp-append-less c.lead d.lead (c.wave ∷ []) (d.wave ∷ []) size e)
    by Equal e l = waves (int_cmp c.wave d.wave) refl (slice_cmp-exact c.lead d.lead e) l
    by Greater e l = absurd (cc)

-- ---- the last phase

pub record HasLast (phases : List Phase) : Type 0 where
  pub front : List Phase
  pub last : Phase
  pub is : phases ≡ front ++ last ∷ []

last-of : (p : Phase) (ps : List Phase) → HasLast (p ∷ ps)
last-of p [] = record { front = []; last = p; is = refl }
last-of p (q ∷ ps) = let h = last-of q ps in record { front = p ∷ h.front; last = h.last; is = ap (λ (l : List Phase). p ∷ l) h.is }

end-is : (front : List Phase) (last : Phase) → length (front ++ last ∷ []) - 1 ≡ length front
end-is front last = let l = length-append front (last ∷ []) in omega (arith, l)

get-end : (front : List Phase) (last : Phase) → slice_get (front ++ last ∷ []) (length front) ≡ Some last
get-end [] last = refl
get-end (p ∷ front) last = get-end front last

or-end : (front : List Phase) (last d : Phase) → get_or (front ++ last ∷ []) (length front) d ≡ last
or-end [] last d = refl
or-end (p ∷ front) last d = or-end front last d

set-end : (front : List Phase) (last new : Phase) → set (front ++ last ∷ []) (length front) new ≡ front ++ new ∷ []
set-end [] last new = refl
set-end (p ∷ front) last new = ap (λ (l : List Phase). p ∷ l) (set-end front last new)

-- ---- one cell more

pub record IsJoined (phases : List Phase) (cell : Cell) (tile : Tile) (new : List Phase) : Type 0 where
  pub front : List Phase
  pub last : Phase
  pub old : phases ≡ front ++ last ∷ []
  pub key : begins_with_key last cell ≡ true
  pub is : new ≡ front ++ grown last cell tile ∷ []

pub record IsBegun (phases : List Phase) (cell : Cell) (tile : Tile) (new : List Phase) : Type 0 where
  pub other : ends_with_key phases cell ≡ false
  pub is : new ≡ phases ++ alone cell tile ∷ []

added-is : (phases : List Phase) (cell : Cell) (tile : Tile) → IsJoined phases cell tile (added phases cell tile) ⊎ IsBegun phases cell tile (added phases cell tile)
added-is phases cell tile = by (ends_with_key phases cell) refl
  where
    joined : (phases : List Phase) → ends_with_key phases cell ≡ true → IsJoined phases cell tile (set phases (length phases - 1) (grown (get_or phases (length phases - 1) (alone cell tile)) cell tile))
    joined [] e = absurd (let w : false ≡ true = e in cc)
    joined (p ∷ ps) e =
        let h = last-of p ps in
        subst (λ (l : List Phase). IsJoined l cell tile (set l (length l - 1) (grown (get_or l (length l - 1) (alone cell tile)) cell tile))) (sym h.is)
        (at h.front h.last (sym (ap (λ (l : List Phase). ends_with_key l cell) h.is) ∙ e))
      where
        at : (front : List Phase) (last : Phase) → ends_with_key (front ++ last ∷ []) cell ≡ true
            → IsJoined (front ++ last ∷ []) cell tile (set (front ++ last ∷ []) (length (front ++ last ∷ []) - 1) (grown (get_or (front ++ last ∷ []) (length (front ++ last ∷ []) - 1) (alone cell tile)) cell tile))
        at front last f =
            let end = end-is front last in
            record {
              front = front;
              last = last;
              old = refl;
              key = sym (ap (λ (o : Option Phase). last_has_key o cell) (ap (slice_get (front ++ last ∷ [])) end ∙ get-end front last)) ∙ f;
              is =
                  ap (λ (k : ℕ). set (front ++ last ∷ []) k (grown (get_or (front ++ last ∷ []) k (alone cell tile)) cell tile)) end
                  ∙ ap (λ (q : Phase). set (front ++ last ∷ []) (length front) (grown q cell tile)) (or-end front last (alone cell tile))
                  ∙ set-end front last (grown last cell tile);
            }

    by : (b : Bool) → ends_with_key phases cell ≡ b
        → IsJoined phases cell tile (if b then set phases (length phases - 1) (grown (get_or phases (length phases - 1) (alone cell tile)) cell tile) else phases ++ alone cell tile ∷ [])
        ⊎ IsBegun phases cell tile (if b then set phases (length phases - 1) (grown (get_or phases (length phases - 1) (alone cell tile)) cell tile) else phases ++ alone cell tile ∷ [])
    by true e = inl (joined phases e)
    by false e = inr (record { other = e; is = refl })

-- ---- phases of cells in order

pub record AreGathered (e : Extent) (words : ℕ) (cells : List Cell) (phases : List Phase) : Type 0 where
  pub cells-are : cells_of phases ≡ cells
  pub one : (p : Phase) → Has phases p → IsOnePhase p
  pub tiles : (p : Phase) → Has phases p → AreTilesOf e words p.cells p.plan.tiles
  pub rise : Ordered PhaseComes phases

pub gathered-none : (e : Extent) (words : ℕ) → AreGathered e words [] []
gathered-none e words = record { cells-are = refl; one = λ p h. absurd h; tiles = λ p h. absurd h; rise = tt }

tiles-more : (e : Extent) (words : ℕ) (cells : List Cell) (tiles : List Tile) (cell : Cell) (tile : Tile) → AreTilesOf e words cells tiles → IsTileOf e words cell tile → AreTilesOf e words (cells ++ cell ∷ []) (tiles ++ tile ∷ [])
tiles-more e words [] [] cell tile all one = (one, tt)
tiles-more e words [] (t ∷ tiles) cell tile all one = absurd all
tiles-more e words (c ∷ cells) [] cell tile all one = absurd all
tiles-more e words (c ∷ cells) (t ∷ tiles) cell tile all one = (all.0, tiles-more e words cells tiles cell tile all.1 one)

has-cells : (phases : List Phase) (p : Phase) (c : Cell) → Has phases p → Has p.cells c → Has (cells_of phases) c
has-cells [] p c h k = absurd h
has-cells (q ∷ phases) p c (inl e) k = has-left q.cells (cells_of phases) c (subst (λ (r : Phase). Has r.cells c) e k)
has-cells (q ∷ phases) p c (inr h) k = has-right q.cells (cells_of phases) c (has-cells phases p c h k)

-- the first cell of a phase
pub record HasFirst (p : Phase) : Type 0 where
  pub cell : Cell
  pub has : Has p.cells cell
  pub key : (d : Cell) → begins_with_key p d ≡ has_key_of cell d

first-of : (p : Phase) → IsOnePhase p → HasFirst p
first-of p one = by p.cells refl
  where
    by : (cells : List Cell) → p.cells ≡ cells → HasFirst p
    by [] f = absurd (let s = one.some in let z = ap length f in omega (arith, s, z))
    by (c ∷ cells) f = record { cell = c; has = subst (λ (l : List Cell). Has l c) (sym f) (inl refl); key = λ d. ap (λ (l : List Cell). first_has_key l d) f }

module _ (e : Extent) (words n : ℕ) (cells : List Cell) (phases : List Phase) (cell : Cell) (tile : Tile) (are : AreGathered e words cells phases) (fits : IsTileOf e words cell tile)
    (size : (c : Cell) → Has cells c → length c.lead ≡ n) (long : length cell.lead ≡ n) (before : (c : Cell) → Has cells c → CellComes c cell) where
  in-cells : (p : Phase) (c : Cell) → Has phases p → Has p.cells c → Has cells c
  in-cells p c h k = subst (λ (l : List Cell). Has l c) are.cells-are (has-cells phases p c h k)

  key-before : (c : Cell) → Has cells c → (phase_key c ≡ phase_key cell) ⊎ KeyLess (phase_key c) (phase_key cell)
  key-before c h = cell-key c cell (size c h ∙ sym long) (before c h)

  joined-gathered : (new : List Phase) → IsJoined phases cell tile new → AreGathered e words (cells ++ cell ∷ []) new
  joined-gathered new j = subst (AreGathered e words (cells ++ cell ∷ [])) (sym j.is) (record {
    cells-are = flat_map-append (λ (p : Phase). p.cells) j.front (grown j.last cell tile ∷ [])
        ∙ ap (λ (l : List Cell). cells_of j.front ++ l) (append-nil (j.last.cells ++ cell ∷ []))
        ∙ sym (append_assoc (cells_of j.front) j.last.cells (cell ∷ []))
        ∙ ap (λ (l : List Cell). l ++ cell ∷ []) old-cells;
    one = λ p h. ⊎_elim (λ k. are.one p (in-front p k)) (λ k. ⊎_elim (λ same. subst IsOnePhase (sym same) grown-one) (λ z. absurd z) k) (has-cases j.front (grown j.last cell tile ∷ []) p h);
    tiles = λ p h. ⊎_elim (λ k. are.tiles p (in-front p k))
        (λ k. ⊎_elim (λ same. subst (λ (q : Phase). AreTilesOf e words q.cells q.plan.tiles) (sym same) (tiles-more e words j.last.cells j.last.plan.tiles cell tile (are.tiles j.last last-there) fits)) (λ z. absurd z) k)
        (has-cases j.front (grown j.last cell tile ∷ []) p h);
    rise = ordered-append PhaseComes j.front (grown j.last cell tile ∷ []) (front-rise j.front old-rise) (tt, tt)
        (λ p q h k c d there here. ⊎_elim (λ same. rises p h c there d (subst (λ (r : Phase). Has r.cells d) same here)) (λ z. absurd z) k);
  })
    where
      old-cells : cells_of j.front ++ j.last.cells ≡ cells
      old-cells = ap (λ (l : List Cell). cells_of j.front ++ l) (sym (append-nil j.last.cells)) ∙ sym (flat_map-append (λ (p : Phase). p.cells) j.front (j.last ∷ [])) ∙ ap cells_of (sym j.old) ∙ are.cells-are

      in-front : (p : Phase) → Has j.front p → Has phases p
      in-front p h = subst (λ (l : List Phase). Has l p) (sym j.old) (has-left j.front (j.last ∷ []) p h)

      last-there : Has phases j.last
      last-there = subst (λ (l : List Phase). Has l j.last) (sym j.old) (has-right j.front (j.last ∷ []) j.last (inl refl))

      old-rise : Ordered PhaseComes (j.front ++ j.last ∷ [])
      old-rise = subst (Ordered PhaseComes) j.old are.rise

      front-rise : (front : List Phase) → Ordered PhaseComes (front ++ j.last ∷ []) → Ordered PhaseComes front
      front-rise [] o = tt
      front-rise (p ∷ front) o = (all-from (PhaseComes p) front (λ q h. all-has (PhaseComes p) (front ++ j.last ∷ []) q o.0 (has-left front (j.last ∷ []) q h)), front-rise front o.1)

      first : HasFirst j.last
      first = first-of j.last (are.one j.last last-there)

      last-key : phase_key first.cell ≡ phase_key cell
      last-key = same-key first.cell cell (sym (first.key cell) ∙ j.key)

      key-of : (d : Cell) → Has (grown j.last cell tile).cells d → phase_key d ≡ phase_key cell
      key-of d h = ⊎_elim (λ k. (are.one j.last last-there).one d first.cell k first.has ∙ last-key) (λ k. ⊎_elim (λ same. ap phase_key same) (λ z. absurd z) k) (has-cases j.last.cells (cell ∷ []) d h)

      grown-one : IsOnePhase (grown j.last cell tile)
      grown-one = record {
        some = (let l = length-append j.last.cells (cell ∷ []) in omega (arith, l));
        one = λ c d h k. key-of c h ∙ sym (key-of d k);
      }

      rises : (p : Phase) → Has j.front p → (c : Cell) → Has p.cells c → (d : Cell) → Has (grown j.last cell tile).cells d → KeyLess (phase_key c) (phase_key d)
      rises p h c there d here = subst (KeyLess (phase_key c)) (last-key ∙ sym (key-of d here)) (ordered-across PhaseComes j.front (j.last ∷ []) p j.last old-rise h (inl refl) c first.cell there first.has)

  begun-gathered : (new : List Phase) → IsBegun phases cell tile new → AreGathered e words (cells ++ cell ∷ []) new
  begun-gathered new b = subst (AreGathered e words (cells ++ cell ∷ [])) (sym b.is) (record {
    cells-are = flat_map-append (λ (p : Phase). p.cells) phases (alone cell tile ∷ []) ∙ ap (λ (l : List Cell). l ++ cell ∷ []) are.cells-are;
    one = λ p h. ⊎_elim (are.one p) (λ k. ⊎_elim (λ same. subst IsOnePhase (sym same) alone-one) (λ z. absurd z) k) (has-cases phases (alone cell tile ∷ []) p h);
    tiles = λ p h. ⊎_elim (are.tiles p) (λ k. ⊎_elim (λ same. subst (λ (q : Phase). AreTilesOf e words q.cells q.plan.tiles) (sym same) (fits, tt)) (λ z. absurd z) k) (has-cases phases (alone cell tile ∷ []) p h);
    rise = ordered-append PhaseComes phases (alone cell tile ∷ []) are.rise (tt, tt)
        (λ p q h k c d there here. ⊎_elim (λ same. by-alone p h c there d (subst (λ (r : Phase). Has r.cells d) same here)) (λ z. absurd z) k);
  })
    where
      only : (c : Cell) → Has (cell ∷ []) c → c ≡ cell
      only c h = ⊎_elim (λ e. e) (λ z. absurd z) h

      alone-one : IsOnePhase (alone cell tile)
      alone-one = record { some = omega arith; one = λ c d h k. ap phase_key (only c h ∙ sym (only d k)) }

      -- no phase has a cell of this key: it would be the last one
      rises : (p : Phase) → Has phases p → (c : Cell) → Has p.cells c → KeyLess (phase_key c) (phase_key cell)
      rises p h c there = ⊎_elim (λ same. absurd (never phases refl p h c there same)) (λ less. less) (key-before c (in-cells p c h there))
        where
          never : (ps : List Phase) → phases ≡ ps → (p : Phase) → Has phases p → (c : Cell) → Has p.cells c → phase_key c ≡ phase_key cell → ⊥
          never [] f p h c there same = absurd (subst (λ (l : List Phase). Has l p) f h)
          never (q ∷ ps) f p h c there same = ⊎_elim
              (λ k. ⊎_elim (λ less. not-back (phase_key f-cell) (phase_key cell) less (subst (λ (key : List ℤ). KeyLess key (phase_key f-cell)) same (across k))) (λ e. e) (in-last k))
              (λ k. ⊎_elim (λ e. other (sym ((are.one last last-there).one c f-cell (subst (λ (r : Phase). Has r.cells c) e there) first.has) ∙ same)) (λ z. absurd z) k)
              (has-cases front (last ∷ []) p (subst (λ (l : List Phase). Has l p) old h))
            where
              h-last : HasLast (q ∷ ps)
              h-last = last-of q ps

              front : List Phase
              front = h-last.front

              last : Phase
              last = h-last.last

              old : phases ≡ front ++ last ∷ []
              old = f ∙ h-last.is

              last-there : Has phases last
              last-there = subst (λ (l : List Phase). Has l last) (sym old) (has-right front (last ∷ []) last (inl refl))

              first : HasFirst last
              first = first-of last (are.one last last-there)

              f-cell : Cell
              f-cell = first.cell

              other : phase_key f-cell ≡ phase_key cell → ⊥
              other = other-key f-cell cell (size f-cell (in-cells last f-cell last-there first.has) ∙ sym long)
                  (sym (first.key cell)
                  ∙ sym (ap (λ (o : Option Phase). last_has_key o cell) (ap (slice_get (front ++ last ∷ [])) (end-is front last) ∙ get-end front last))
                  ∙ ap (λ (l : List Phase). ends_with_key l cell) (sym old)
                  ∙ b.other)

              across : Has front p → KeyLess (phase_key c) (phase_key f-cell)
              across k = ordered-across PhaseComes front (last ∷ []) p last (subst (Ordered PhaseComes) old are.rise) k (inl refl) c f-cell there first.has

              in-last : Has front p → KeyLess (phase_key f-cell) (phase_key cell) ⊎ ⊥
              in-last k = ⊎_elim (λ e. inr (other e)) (λ less. inl less) (key-before f-cell (in-cells last f-cell last-there first.has))

      by-alone : (p : Phase) → Has phases p → (c : Cell) → Has p.cells c → (d : Cell) → Has (cell ∷ []) d → KeyLess (phase_key c) (phase_key d)
      by-alone p h c there d here = subst (λ (z : Cell). KeyLess (phase_key c) (phase_key z)) (sym (only d here)) (rises p h c there)

  pub gathered-more : AreGathered e words (cells ++ cell ∷ []) (added phases cell tile)
  gathered-more = ⊎_elim (joined-gathered (added phases cell tile)) (begun-gathered (added phases cell tile)) (added-is phases cell tile)
