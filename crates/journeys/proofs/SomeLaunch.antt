-- A launch has an end: a chunk is held, or launched; and a launched one has its numbers.
use Rattle.std.proofs.Common.{◌≡◌, refl, ap, ◌∙◌, sym, subst, ℕ, zero, suc, ◌≤◌, ◌+◌, ℤ, pos, ◌+ℤ◌, ◌≤ℤ◌, List, [], ◌∷◌, length, Option, Some, None, ◌⊎◌, inl, inr, Ordering, Less, Equal, Greater, int_cmp, is_eq, arith}
use Rattle.std.specs.Ordering.{ordering_reverse, ordering_then}
use Rattle.std.specs.Cmp.{IsTotalOrder}
use Rattle.std.specs.Cmp.Lexicographic.{slice_cmp}
use Rattle.std.proofs.lemmas.Cmp.{lists_total, int_cmp_total, on_total, then_total, tied_itself}
use Rattle.std.proofs.lemmas.Int.{ints}
use Rattle.std.proofs.lemmas.Option.{none-some}
use Rattle.plain_lemmas.proofs.OrderLaws.{cases-int_cmp, slice_cmp-exact}
use Rattle.orders.specs.Orders.{Differ, Ordered}
use Rattle.plain_lemmas.specs.Lists.{Has}
use Rattle.orders.proofs.ListLaws.{ordered-weaker}
use Rattle.plain_lemmas.proofs.MembershipLaws.{all-from, all-has, contains-from-has, has-from-contains}
use Rattle.domain.specs.declared.chunk.Chunk.{Chunk}
use Rattle.domain.specs.declared.held.HeldWhy.{HeldWhy}
use Rattle.domain.specs.declared.held.HeldWhy.TheVariants.{Many}
use Rattle.domain.specs.Tables.{Table, IsTable}
use Rattle.domain.specs.Instances.{Instance, Predicted, block_of, counter, opening_at, padded}
use Rattle.domain.specs.Launches.{IsHeld, IsLaunched, block_width, failure}
use Rattle.domain.specs.Steps.{next}
use Rattle.domain.proofs.LaunchLaws.{Walk, many-instances, walk-begins, walk-ends, walk-goes, walk-held, walk-in}
use Rattle.transform.specs.Schedules.{phase}
use Rattle.skeletons.specs.Cells.{AreCellsOf, Cell, Extent, cell_of}
use Rattle.skeletons.proofs.CellListLaws.{cell-exact}
use Rattle.chunk_run.specs.ChunkEnds.{ArePhaseKeysOf, HasNumbers}
use Rattle.journeys.specs.Laws.{LaunchHasEnd, LaunchHasNumbers}

-- ---- a launch

module _ (D : ℕ) (t : Table) (is : IsTable D t) (chunk : Chunk) (words : ℤ) (low : pos 0 ≤ℤ chunk.first) (some : pos 1 ≤ℤ chunk.turns) where
  abbrev pub HasEnd : Type 0
  HasEnd = ((instances : ℕ) × IsLaunched t words chunk instances) ⊎ ((x : Instance) × (why : HeldWhy) × IsHeld t words chunk x why)

  -- a step of the walk of a launch
  walk-step : (x : Instance) (instances width : ℕ) (w : Walk D t words chunk x instances width) → (Predicted t chunk x → failure t words w.before x ≡ None → HasEnd) → HasEnd
  walk-step x instances width w goes = cases-int_cmp (counter x.at 0) (chunk.first +ℤ chunk.turns) (λ h. inside (walk-in D t is chunk words x instances width w h)) (λ e. past (omega (arith, ints, e))) (λ h. past (omega (arith, ints, h)))
    where
      past : (chunk.first +ℤ chunk.turns) ≤ℤ counter x.at 0 → HasEnd
      past h = inl (instances, walk-ends D t is chunk words x instances width w h)

      by : Predicted t chunk x → (o : Option HeldWhy) → failure t words w.before x ≡ o → HasEnd
      by p (Some why) fails = inr (x, why, walk-held D t is chunk words x why instances width w p fails)
      by p None passes = goes p passes

      inside : Predicted t chunk x → HasEnd
      inside p = by p (failure t words w.before x) refl

  -- it comes to its end within 65,537 instances
  walked : (fuel : ℕ) (x : Instance) (instances width : ℕ) → Walk D t words chunk x instances width → 65536 ≤ instances + fuel → HasEnd
  walked zero x instances width w enough = walk-step x instances width w (λ p passes. let count = w.count in absurd (none-some Many (sym passes ∙ many-instances t words w.before x (omega (arith, enough, count)))))
  walked (suc n) x instances width w enough = walk-step x instances width w (λ p passes. walked n (next t x) (instances + 1) (width + block_width (block_of t x)) (walk-goes D t is chunk words x (next t x) instances width w refl p passes) (omega (arith, enough)))

  pub launch-ends : HasEnd
  launch-ends = walked 65536 (opening_at t chunk.first) 0 0 (walk-begins D t is chunk words low some) (omega arith)

-- ---- what a list maps to, in order and each once

module _ {X : Type 0} (cmp : X → X → Ordering) (total : IsTotalOrder cmp) (exact : (x y : X) → cmp x y ≡ Equal → x ≡ y) where
  abbrev pub Below : X → X → Type 0
  Below x y = cmp x y ≡ Less

  record Inserted (x : X) (ys : List X) : Type 0 where
    list : List X
    ordered : Ordered Below list
    there : (z : X) → Has list z → (z ≡ x) ⊎ Has ys z
    back : (z : X) → (z ≡ x) ⊎ Has ys z → Has list z

  inserted : (x : X) (ys : List X) → Ordered Below ys → Inserted x ys
  inserted x [] ord = record { list = x ∷ []; ordered = (tt, tt); there = λ z h. h; back = λ z h. h }
  inserted x (y ∷ ys) ord = by (cmp x y) refl (inserted x ys ord.1)
    where
      by : (r : Ordering) → cmp x y ≡ r → Inserted x ys → Inserted x (y ∷ ys)
      by Less e rest = record {
        list = x ∷ y ∷ ys;
        ordered = ((e, all-from (Below x) ys (λ z h. total.trans x y z e (all-has (Below y) ys z ord.0 h))), ord);
        there = λ z h. h;
        back = λ z h. h;
      }
      by Equal e rest = record { list = y ∷ ys; ordered = ord; there = λ z h. inr h; back = λ z h. again z h }
        where
          again : (z : X) → (z ≡ x) ⊎ Has (y ∷ ys) z → Has (y ∷ ys) z
          again z (inl same) = inl (same ∙ exact x y e)
          again z (inr h) = h
      by Greater e rest =
          let above : cmp y x ≡ Less = total.antisymm y x ∙ ap ordering_reverse e in
          record {
            list = y ∷ rest.list;
            ordered = (all-from (Below y) rest.list (λ z h. follows z above (rest.there z h)), rest.ordered);
            there = λ z h. there rest.list z (rest.there z) h;
            back = λ z h. back rest.list z (rest.back z) h;
          }
        where
          follows : (z : X) → cmp y x ≡ Less → (z ≡ x) ⊎ Has ys z → Below y z
          follows z above (inl same) = subst (Below y) (sym same) above
          follows z above (inr h) = all-has (Below y) ys z ord.0 h

          there : (zs : List X) (z : X) → (Has zs z → (z ≡ x) ⊎ Has ys z) → Has (y ∷ zs) z → (z ≡ x) ⊎ Has (y ∷ ys) z
          there zs z goes (inl same) = inr (inl same)
          there zs z goes (inr h) = elim (goes h) [
            | inl same ↦ inl same
            | inr k ↦ inr (inr k)
          ]

          back : (zs : List X) (z : X) → ((z ≡ x) ⊎ Has ys z → Has zs z) → (z ≡ x) ⊎ Has (y ∷ ys) z → Has (y ∷ zs) z
          back zs z goes (inl same) = inr (goes (inl same))
          back zs z goes (inr (inl same)) = inl same
          back zs z goes (inr (inr h)) = inr (goes (inr h))

  module _ {I : Type 0} (f : I → X) where
    pub record Images (xs : List I) : Type 0 where
      pub list : List X
      pub ordered : Ordered Below list
      pub there : (z : X) → Has list z → (i : I) × Has xs i × (f i ≡ z)
      pub back : (i : I) → Has xs i → Has list (f i)

    pub images : (xs : List I) → Images xs
    images [] = record { list = []; ordered = tt; there = λ z h. absurd h; back = λ i h. absurd h }
    images (x ∷ xs) =
        let rest = images xs in
        let all = inserted (f x) rest.list rest.ordered in
        record {
          list = all.list;
          ordered = all.ordered;
          there = λ z h. there rest.list z (rest.there z) (all.there z h);
          back = λ i h. all.back (f i) (back rest.list i (rest.back i) h);
        }
      where
        there : (zs : List X) (z : X) → (Has zs z → (i : I) × Has xs i × (f i ≡ z)) → (z ≡ f x) ⊎ Has zs z → (i : I) × Has (x ∷ xs) i × (f i ≡ z)
        there zs z goes (inl same) = (x, inl refl, sym same)
        there zs z goes (inr h) = let at = goes h in (at.0, inr at.1, at.2)

        back : (zs : List X) (i : I) → (Has xs i → Has zs (f i)) → Has (x ∷ xs) i → (f i ≡ f x) ⊎ Has zs (f i)
        back zs i goes (inl same) = inl (ap f same)
        back zs i goes (inr h) = inr (goes h)

-- ---- numbers

abbrev cells-cmp : Cell → Cell → Ordering
cells-cmp c d = ordering_then (slice_cmp int_cmp c.lead d.lead) (ordering_then (int_cmp c.wave d.wave) (slice_cmp int_cmp c.tile d.tile))

cells-total : IsTotalOrder cells-cmp
cells-total = then_total (on_total (λ (c : Cell). c.lead) (lists_total int_cmp_total)) (then_total (on_total (λ (c : Cell). c.wave) int_cmp_total) (on_total (λ (c : Cell). c.tile) (lists_total int_cmp_total)))

cells-exact : (c d : Cell) → cells-cmp c d ≡ Equal → c ≡ d
cells-exact c d e = cell-exact c d (ap is_eq e)

module _ (e : Extent) (words : ℤ) (instances : ℕ) (launched : IsLaunched e.table words e.chunk instances) where
  pub record SomeNumbers : Type 0 where
    pub phases : ℕ
    pub tiles : ℕ
    pub numbers : HasNumbers e words instances phases tiles

  abbrev key-of : Instance → List ℤ
  key-of x = phase e.schedule (padded e.table x)

  abbrev cell_at : Instance → Cell
  cell_at x = cell_of e.schedule (padded e.table x)

  abbrev Keys : Type 0
  Keys = Images (slice_cmp int_cmp) (lists_total int_cmp_total) slice_cmp-exact key-of launched.list

  abbrev Cells : Type 0
  Cells = Images cells-cmp cells-total cells-exact cell_at launched.list

  is-predicted : (x : Instance) → Has launched.list x → Predicted e.table e.chunk x
  is-predicted x h = (launched.original.has x).0 (contains-from-has launched.list x h)

  is-listed : (x : Instance) → Predicted e.table e.chunk x → Has launched.list x
  is-listed x p = has-from-contains launched.list x ((launched.original.has x).1 p)

  are-keys : (keys : Keys) → ArePhaseKeysOf e keys.list
  are-keys keys = record {
    once = ordered-weaker (λ (a b : List ℤ). slice_cmp int_cmp a b ≡ Less) Differ apart keys.list keys.ordered;
    has = λ key. (
      λ h. let at = keys.there key h in (at.0, is-predicted at.0 at.1, at.2),
      λ k. subst (Has keys.list) k.2 (keys.back k.0 (is-listed k.0 k.1)),
    );
  }
    where
      apart : (a b : List ℤ) → slice_cmp int_cmp a b ≡ Less → a ≡ b → ⊥
      apart a b less same = let e : Less ≡ Equal = sym less ∙ subst (λ (z : List ℤ). slice_cmp int_cmp a z ≡ Equal) same (tied_itself (lists_total int_cmp_total) a) in cc

  are-cells : (cells : Cells) → AreCellsOf e cells.list
  are-cells cells = record {
    ordered = cells.ordered;
    has = λ cell. (
      λ h. let at = cells.there cell h in (at.0, record { predicted = is-predicted at.0 at.1; inside = at.2 }),
      λ k. subst (Has cells.list) k.1.inside (cells.back k.0 (is-listed k.0 k.1.predicted)),
    );
  }

  pub some-numbers : SomeNumbers
  some-numbers = by (images (slice_cmp int_cmp) (lists_total int_cmp_total) slice_cmp-exact key-of launched.list) (images cells-cmp cells-total cells-exact cell_at launched.list)
    where
      by : Keys → Cells → SomeNumbers
      by keys cells = record {
        phases = length keys.list;
        tiles = length cells.list;
        numbers = record {
          launched = launched;
          keys = keys.list;
          are_keys = are-keys keys;
          count_keys = refl;
          cells = cells.list;
          are_cells = are-cells cells;
          count_cells = refl;
        };
      }

pub launch-has-end : LaunchHasEnd
launch-has-end D t chunk words is low some = launch-ends D t is chunk words low some

pub launch-has-numbers : LaunchHasNumbers
launch-has-numbers e words instances launched = let some = some-numbers e words instances launched in (some.phases, some.tiles, some.numbers)
