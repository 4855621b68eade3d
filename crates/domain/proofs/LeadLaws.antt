-- Where a step leads: to the next predicted instance, or past the chunk.
use Rattle.std.proofs.Common.{◌≡◌, refl, sym, ap, subst, ◌∙◌, ℕ, zero, suc, ◌<◌, ◌≤◌, ◌+◌, ◌-◌, ℤ, pos, ◌+ℤ◌, ◌≤ℤ◌, ◌<ℤ◌, true, false, List, [], ◌∷◌, length, replicate, ◌⊎◌, inl, inr, ⊎_elim, arith, get_or-set_same, get_or-set_other, length-set}
use Rattle.std.proofs.lemmas.Int.{ints}
use Rattle.std.proofs.lemmas.Bool.{cases_lt}
use Rattle.nest_lang.specs.declared.tree.Part.{Part}
use Rattle.nest_lang.specs.declared.tree.Part.TheVariants.{Head, Pre}
use Rattle.domain.specs.declared.chunk.Chunk.{Chunk}
use Rattle.domain.specs.Tables.{Table, block_at, repeats, cut, trip, counters, turning, is_post, IsTable}
use Rattle.domain.specs.Instances.{Instance, instance, block_of, counter, place, IsInstance, InTurn, Predicted, opening_at}
use Rattle.domain.specs.Steps.{turned}
use Rattle.domain.proofs.PointLaws.{length-cut, cut-before, cut-after}
use Rattle.domain.proofs.PlaceLaws.{place-counter, place-zero}
use Rattle.domain.proofs.SpotLaws.{Spot, Agree, Before}
use Rattle.domain.proofs.RankLaws.{Stands, stands, has-rank, Kind, AtHead, AtPre, AtPost, kind, text_at, text-stands, ranks-rise, rank-after, outermost-repeats}
use Rattle.domain.proofs.WithinLaws.{counters-of, turning-of, head-least, trip-same}
use Rattle.domain.proofs.GapLaws.{post, end, At, end-counter, next-gap}

-- ---- the point of the next turn

pub length-turned : (k : ℕ) (at : List ℤ) → length (turned k at) ≡ length at
length-turned k at = length-set (cut k at) k (counter at k +ℤ pos 1) ∙ length-cut k at

pub turned-before : (k : ℕ) (at : List ℤ) (j : ℕ) → j < k → counter (turned k at) j ≡ counter at j
turned-before k at j l = other (λ e. omega arith) ∙ cut-before k at j l
  where
    other : (j ≡ k → ⊥) → counter (turned k at) j ≡ counter (cut k at) j
    other ne = rw get_or-set_other refl

pub turned-here : (k : ℕ) (at : List ℤ) → k < length at → counter (turned k at) k ≡ counter at k +ℤ pos 1
turned-here k at l = here (let e = length-cut k at in omega arith)
  where
    here : k < length (cut k at) → counter (turned k at) k ≡ counter at k +ℤ pos 1
    here m = rw get_or-set_same refl

pub turned-after : (k : ℕ) (at : List ℤ) (j : ℕ) → k < j → counter (turned k at) j ≡ pos 0
turned-after k at j l = other (λ e. omega arith) ∙ cut-after k at j (omega arith)
  where
    other : (j ≡ k → ⊥) → counter (turned k at) j ≡ counter (cut k at) j
    other ne = rw get_or-set_other refl

pub cut-zeros : (xs : List ℤ) → cut 0 xs ≡ replicate (length xs) (pos 0)
cut-zeros [] = refl
cut-zeros (x ∷ xs) = ap (λ (zs : List ℤ). pos 0 ∷ zs) (cut-zeros xs)

module _ (D : ℕ) (t : Table) (is : IsTable D t) where
  -- the block after a head, and after a block before an inner loop
  pub head-next : (level rank : ℕ) → 1 ≤ level → level ≤ D → Stands t Head level rank → (rank + 1 < length t.blocks) × (Stands t Pre level (rank + 1) ⊎ Stands t Head (suc level) (rank + 1))
  head-next level rank from to s = ⊎_elim inner (λ l. innermost (omega arith)) (cases_lt level D)
    where
      found : (j : ℕ) → j < length t.blocks → text_at D t is rank < text_at D t is j → text_at D t is j ≤ level + level + 2 → (rank + 1 < length t.blocks) × (Stands t Pre level (rank + 1) ⊎ Stands t Head (suc level) (rank + 1))
      found j l h m =
          let next = rank-after D t is rank j s.inside l h in
          let e = text-stands D t is Head level rank s in
          let low = next.1 in
          let high = next.2 in
          (next.0, by low high e (kind D t is (rank + 1) next.0))
        where
          by : text_at D t is rank < text_at D t is (rank + 1) → text_at D t is (rank + 1) ≤ text_at D t is j → text_at D t is rank ≡ level + level → Kind D t is (rank + 1) → Stands t Pre level (rank + 1) ⊎ Stands t Head (suc level) (rank + 1)
          by low high e (AtHead other from2 to2 here text) = let f : other ≡ suc level = omega arith in inr (subst (λ (n : ℕ). Stands t Head n (rank + 1)) f here)
          by low high e (AtPre other from2 to2 here text) = let f : other ≡ level = omega arith in inl (subst (λ (n : ℕ). Stands t Pre n (rank + 1)) f here)
          by low high e (AtPost other from2 to2 here text) = absurd (omega arith)

      inner : level < D → (rank + 1 < length t.blocks) × (Stands t Pre level (rank + 1) ⊎ Stands t Head (suc level) (rank + 1))
      inner l =
          let (j, e) = has-rank t Head (suc level) (is.heads (suc level) (omega arith) (omega arith)) in
          let there = stands t Head (suc level) j e in
          let a = text-stands D t is Head level rank s in
          let b = text-stands D t is Head (suc level) j there in
          found j there.inside (omega arith) (omega arith)

      innermost : level ≡ D → (rank + 1 < length t.blocks) × (Stands t Pre level (rank + 1) ⊎ Stands t Head (suc level) (rank + 1))
      innermost f =
          let (j, e) = has-rank t Pre D is.body in
          let there = stands t Pre D j e in
          let a = text-stands D t is Head level rank s in
          let b = text-stands D t is Pre D j there in
          found j there.inside (omega arith) (omega arith)

  pub pre-next : (level rank : ℕ) → 1 ≤ level → level < D → Stands t Pre level rank → (rank + 1 < length t.blocks) × Stands t Head (suc level) (rank + 1)
  pre-next level rank from to s =
      let (j, e) = has-rank t Head (suc level) (is.heads (suc level) (omega arith) (omega arith)) in
      let there = stands t Head (suc level) j e in
      let a = text-stands D t is Pre level rank s in
      let b = text-stands D t is Head (suc level) j there in
      let next = rank-after D t is rank j s.inside there.inside (omega arith) in
      (next.0, by j next.1 next.2 a b (kind D t is (rank + 1) next.0))
    where
      by : (j : ℕ) → text_at D t is rank < text_at D t is (rank + 1) → text_at D t is (rank + 1) ≤ text_at D t is j → text_at D t is rank ≡ level + level + 1 → text_at D t is j ≡ suc level + suc level → Kind D t is (rank + 1) → Stands t Head (suc level) (rank + 1)
      by j low high a b (AtHead other from2 to2 here text) = let f : other ≡ suc level = omega arith in subst (λ (n : ℕ). Stands t Head n (rank + 1)) f here
      by j low high a b (AtPre other from2 to2 here text) = absurd (omega arith)
      by j low high a b (AtPost other from2 to2 here text) = absurd (omega arith)

  -- the first block of the nest
  pub data First : Type 0 where
    FirstHead : (here : Stands t Head 1 0) (while : repeats t 0 ≡ true) → First
    FirstPre : (here : Stands t Pre 1 0) → First
    FirstInner : (here : Stands t Head 2 0) (deep : 2 ≤ D) → First

  pub first : First
  first = by (kind D t is 0 (has some-block.0 some-block.1))
    where
      some-block : (rank : ℕ) × Stands t Pre D rank
      some-block = let (j, e) = has-rank t Pre D is.body in (j, stands t Pre D j e)

      has : (rank : ℕ) → Stands t Pre D rank → 0 < length t.blocks
      has rank s = let l = s.inside in omega arith

      -- nothing stands before the first block
      none : (part : Part) (level rank : ℕ) → Stands t part level rank → text_at D t is rank < text_at D t is 0 → ⊥
      none part level rank s h = let l = ranks-rise D t is rank 0 s.inside h in omega arith

      no-head : 2 ≤ D → 4 < text_at D t is 0 → ⊥
      no-head deep h =
          let (j, e) = has-rank t Head 2 (is.heads 2 (omega arith) deep) in
          let s = stands t Head 2 j e in
          let f = text-stands D t is Head 2 j s in
          none Head 2 j s (omega arith)

      no-body : D + D + 1 < text_at D t is 0 → ⊥
      no-body h = let f = text-stands D t is Pre D some-block.0 some-block.1 in none Pre D some-block.0 some-block.1 (omega arith)

      at-head : (level : ℕ) → 1 ≤ level → level ≤ D → Stands t Head level 0 → text_at D t is 0 ≡ level + level → (level < 2) ⊎ (2 ≤ level) → (2 < level) ⊎ (level ≤ 2) → First
      at-head level from to here text (inl l) m = let e : level ≡ 1 = omega arith in let s = subst (λ (n : ℕ). Stands t Head n 0) e here in FirstHead s (outermost-repeats D t is 0 s)
      at-head level from to here text (inr l) (inl m) = absurd (no-head (omega arith) (omega arith))
      at-head level from to here text (inr l) (inr m) = let e : level ≡ 2 = omega arith in FirstInner (subst (λ (n : ℕ). Stands t Head n 0) e here) (omega arith)

      by : Kind D t is 0 → First
      by (AtHead level from to here text) = at-head level from to here text (cases_lt level 2) (cases_lt 2 level)
      by (AtPre level from to here text) = ⊎_elim (λ l. let e : level ≡ 1 = omega arith in FirstPre (subst (λ (n : ℕ). Stands t Pre n 0) e here)) (λ l. absurd (no-head (omega arith) (omega arith))) (cases_lt level 2)
      by (AtPost level from to here text) = absurd (no-body (omega arith))

  -- ---- what begins a turn

  pub plain-place : (y : Instance) → IsInstance t y → is_post (block_of t y).part ≡ false → (j : ℕ) → place t (block_of t y) y.at j ≡ counter y.at j
  plain-place y i plain j = ⊎_elim (λ l. place-counter t (block_of t y) y.at j l) (λ l. place-zero t (block_of t y) y.at j plain l ∙ sym (i.rest j l)) (cases_lt j (counters t (block_of t y)))

  pub enters : (n rank : ℕ) (at : List ℤ) → length at ≡ D → ((j : ℕ) → n ≤ j → counter at j ≡ pos 0) → Stands t Pre n rank ⊎ Stands t Head (suc n) rank → IsInstance t (instance rank at) × (is_post (block_at t rank).part ≡ false)
  enters n rank at size zeros (inl s) = (record { block = s.inside; size = size ∙ sym is.deep; rest = λ k l. let c = counters-of t Pre n rank s in zeros k (omega arith) }, ap is_post s.part-is)
  enters n rank at size zeros (inr s) =
      (record { block = s.inside; size = size ∙ sym is.deep; rest = λ k l. let c = counters-of t Head (suc n) rank s in let least = head-least (repeats t (suc n - 1)) (suc n) in zeros k (omega arith) }, ap is_post s.part-is)

  module _ (chunk : Chunk) where
    pub entered : (n rank : ℕ) (at : List ℤ) → 1 ≤ n → length at ≡ D → InTurn t chunk n at → ((j : ℕ) → n ≤ j → counter at j ≡ pos 0) → Stands t Pre n rank ⊎ Stands t Head (suc n) rank → Predicted t chunk (instance rank at)
    entered n rank at some size turn zeros (inl s) =
        let o = turning-of t Pre n rank s in
        let c = counters-of t Pre n rank s in
        record {
          is = (enters n rank at size zeros (inl s)).0;
          turn = subst (λ (m : ℕ). InTurn t chunk m at) (sym o) turn;
          test = λ l. absurd (omega arith);
        }
    entered n rank at some size turn zeros (inr s) =
        let o : turning (block_at t rank) ≡ n = let f = turning-of t Head (suc n) rank s in omega arith in
        record {
          is = (enters n rank at size zeros (inr s)).0;
          turn = subst (λ (m : ℕ). InTurn t chunk m at) (sym o) turn;
          test = λ l. inl (subst (λ (m : ℕ). counter at m ≡ pos 0) (sym o) (zeros n (omega arith)));
        }

    -- the turn after a turn is one
    pub turned-turn : (k : ℕ) (at : List ℤ) → length at ≡ D → k < D → InTurn t chunk (suc k) at → (k ≡ 0 → (counter at 0 +ℤ pos 1) <ℤ (chunk.first +ℤ chunk.turns)) → (1 ≤ k → (counter at k +ℤ pos 1) <ℤ trip t k at) → InTurn t chunk (suc k) (turned k at)
    turned-turn zero at size deep turn more inner =
        let e = turned-here 0 at (omega arith) in
        let low = turn.from in
        let high = more refl in
        record { from = subst (λ (v : ℤ). chunk.first ≤ℤ v) (sym e) (omega (arith, ints)); below = subst (λ (v : ℤ). v <ℤ (chunk.first +ℤ chunk.turns)) (sym e) high; inner = λ j l m. absurd (omega arith) }
    turned-turn (suc k) at size deep turn more inner =
        let e = turned-before (suc k) at 0 (omega arith) in
        record { from = subst (λ (v : ℤ). chunk.first ≤ℤ v) (sym e) turn.from; below = subst (λ (v : ℤ). v <ℤ (chunk.first +ℤ chunk.turns)) (sym e) turn.below; inner = λ j l m. ⊎_elim (λ o. earlier j l o) (λ o. here j (omega arith)) (cases_lt j (suc k)) }
      where
        same : (j : ℕ) → j ≤ suc k → trip t j (turned (suc k) at) ≡ trip t j at
        same j l = trip-same t j (turned (suc k) at) at (length-turned (suc k) at) (λ i m. turned-before (suc k) at i (omega arith))

        earlier : (j : ℕ) → 1 ≤ j → j < suc k → (pos 0 ≤ℤ counter (turned (suc k) at) j) × (counter (turned (suc k) at) j <ℤ trip t j (turned (suc k) at))
        earlier j l o =
            let b = turn.inner j l (omega arith) in
            let e = turned-before (suc k) at j o in
            (subst (λ (v : ℤ). pos 0 ≤ℤ v) (sym e) b.0, subst (λ (v : ℤ). counter (turned (suc k) at) j <ℤ v) (sym (same j (omega arith))) (subst (λ (v : ℤ). v <ℤ trip t j at) (sym e) b.1))

        here : (j : ℕ) → j ≡ suc k → (pos 0 ≤ℤ counter (turned (suc k) at) j) × (counter (turned (suc k) at) j <ℤ trip t j (turned (suc k) at))
        here j f =
            let b = (turn.inner (suc k) (omega arith) (omega arith)).0 in
            let e : counter (turned (suc k) at) (suc k) ≡ counter at (suc k) +ℤ pos 1 = turned-here (suc k) at (omega arith) in
            subst (λ (i : ℕ). (pos 0 ≤ℤ counter (turned (suc k) at) i) × (counter (turned (suc k) at) i <ℤ trip t i (turned (suc k) at))) (sym f)
            (subst (λ (v : ℤ). pos 0 ≤ℤ v) (sym e) (omega (arith, ints)), subst (λ (v : ℤ). counter (turned (suc k) at) (suc k) <ℤ v) (sym (same (suc k) (omega arith))) (subst (λ (v : ℤ). v <ℤ trip t (suc k) at) (sym e) (inner (omega arith))))

    -- ---- where a step leads

    pub record Leads (a : Spot) (y : Instance) : Type 0 where
      pub after : Before D a (At D t is chunk y)
      pub gap : (z : Instance) → Predicted t chunk z → Before D a (At D t is chunk z) → Before D (At D t is chunk z) (At D t is chunk y) → ⊥
      pub inside : y.block < length t.blocks
      pub good : Predicted t chunk y ⊎ (y ≡ opening_at t (chunk.first +ℤ chunk.turns))

    -- the next turn of the loop inside k counters, from the end of a turn
    module _ (k : ℕ) (at : List ℤ) (deep : k < D) (size : length at ≡ D) (turn : InTurn t chunk (suc k) at) where
      pub turn-leads : (rank : ℕ) → rank < length t.blocks → ((j : ℕ) → place t (block_at t rank) (turned k at) j ≡ counter (turned k at) j)
          → ((z : Instance) → Predicted t chunk z → ((j : ℕ) → j < k → place t (block_of t z) z.at j ≡ counter at j) → place t (block_of t z) z.at k ≡ counter at k +ℤ pos 1 → text_at D t is z.block < text_at D t is rank → ⊥)
          → Predicted t chunk (instance rank (turned k at)) ⊎ (instance rank (turned k at) ≡ opening_at t (chunk.first +ℤ chunk.turns))
          → Leads (end D t is chunk (suc k) at) (instance rank (turned k at))
      turn-leads rank inside plain none good = record {
        after = inl (record { index = k; inside = deep; same = same; less = rise });
        gap = next-gap D t is chunk k at deep size turn (At D t is chunk y) same here rest none;
        inside = inside;
        good = good;
      }
        where
          y : Instance
          y = instance rank (turned k at)

          same : Agree k (place t (post (suc k)) at) (place t (block_at t rank) (turned k at))
          same j l = end-counter D t is chunk (suc k) at j (omega arith) ∙ sym (plain j ∙ turned-before k at j l)

          here : place t (block_at t rank) (turned k at) k ≡ counter at k +ℤ pos 1
          here = plain k ∙ turned-here k at (omega arith)

          rest : (j : ℕ) → k < j → place t (block_at t rank) (turned k at) j ≡ pos 0
          rest j l = plain j ∙ turned-after k at j l

          rise : place t (post (suc k)) at k <ℤ place t (block_at t rank) (turned k at) k
          rise = let e = end-counter D t is chunk (suc k) at k (omega arith) in let f = here in omega (arith, ints)
