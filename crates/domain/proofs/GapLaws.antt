-- No predicted instance stands between an instance and the next one.
use Rattle.std.proofs.Common.{◌≡◌, refl, sym, ap, subst, ◌∙◌, ℕ, suc, ◌<◌, ◌≤◌, ◌+◌, ◌-◌, ℤ, pos, ◌+ℤ◌, ◌≤ℤ◌, ◌<ℤ◌, true, false, List, [], length, ◌⊎◌, ⊎_elim, arith}
use Rattle.std.proofs.lemmas.Int.{ints}
use Rattle.std.proofs.lemmas.Bool.{cases_lt}
use Rattle.plain_lemmas.proofs.OrderLaws.{cases_≤ℤ}
use Rattle.nest_lang.specs.declared.tree.Part.TheVariants.{Post}
use Rattle.domain.specs.declared.chunk.Chunk.{Chunk}
use Rattle.domain.specs.Tables.{Table, Block, repeats, trip, IsTable}
use Rattle.domain.specs.Instances.{Instance, block_of, counter, turns_of, place, InTurn, Predicted}
use Rattle.domain.proofs.PlaceLaws.{place-counter, place-turns, place-rest}
use Rattle.domain.proofs.SpotLaws.{Spot, Agree, Before, upto, by-text, between, agree-more, agree-zeros}
use Rattle.domain.proofs.RankLaws.{text_at, text-stands}
use Rattle.domain.proofs.WithinLaws.{spot, Begins, Within, Outer, Last, Inner, Test, within, places-up, turns-least, turns-trip}

abbrev pub post : ℕ → Block
post n = record { part = Post; level = n; scalars = []; accesses = [] }

module _ (D : ℕ) (t : Table) (is : IsTable D t) (chunk : Chunk) where
  -- where the block after the loop inside n counters stands, present or not: the end of their turn
  abbrev pub end : ℕ → List ℤ → Spot
  end n at = record { place = place t (post n) at; text = D + D + D + 3 - n }

  abbrev pub At : Instance → Spot
  At z = spot D t is chunk z

  pub end-counter : (n : ℕ) (at : List ℤ) (j : ℕ) → j < n → place t (post n) at j ≡ counter at j
  end-counter n at j l = place-counter t (post n) at j l

  pub end-turns : (n : ℕ) (at : List ℤ) → place t (post n) at n ≡ turns_of (trip t n at)
  end-turns n at = place-turns t (post n) at n refl refl

  pub end-rest : (n : ℕ) (at : List ℤ) (j : ℕ) → n < j → place t (post n) at j ≡ pos 0
  end-rest n at j l = place-rest t (post n) at j l

  -- the same point as the end of a turn
  pub agree-end : (n : ℕ) (at : List ℤ) (p : ℕ → ℤ) → Agree n (place t (post n) at) p → (n < D → p n ≡ turns_of (trip t n at)) → ((j : ℕ) → n < j → j < D → p j ≡ pos 0) → Agree D (place t (post n) at) p
  agree-end n at p same here rest i l =
      ⊎_elim (λ m. same i m)
      (λ m. ⊎_elim (λ o. end-rest n at i o ∙ sym (rest i o l))
      (λ o. let e : i ≡ n = omega arith in ap (place t (post n) at) e ∙ end-turns n at ∙ sym (here (omega arith)) ∙ sym (ap p e))
      (cases_lt n i))
      (cases_lt i n)

  begins-end : (n : ℕ) (at : List ℤ) (z : Instance) → Agree n (place t (post n) at) (place t (block_of t z) z.at) → Begins D t is chunk n at z
  begins-end n at z same j l = sym (same j l) ∙ end-counter n at j l

  -- nothing of a turn stands after its end
  module _ (n : ℕ) (at : List ℤ) (some : 1 ≤ n) (deep : n ≤ D) (size : length at ≡ D) (turn : InTurn t chunk n at) where
    pub top : (z : Instance) → Predicted t chunk z → Agree n (place t (post n) at) (place t (block_of t z) z.at) → Before D (end n at) (At z) → ⊥
    top z p same after = by (within D t is chunk n at some size turn z p (begins-end n at z same))
      where
        whole : (n < D → place t (block_of t z) z.at n ≡ turns_of (trip t n at)) → ((j : ℕ) → n < j → place t (block_of t z) z.at j ≡ pos 0) → D + D + D + 3 - n < text_at D t is z.block
        whole here rest = by-text D (end n at) (At z) (agree-end n at (place t (block_of t z) z.at) same here (λ j l m. rest j l)) after

        least : n < D → turns_of (trip t n at) ≤ℤ place t (block_of t z) z.at n
        least l = subst (λ (v : ℤ). v ≤ℤ place t (block_of t z) z.at n) (end-turns n at) (upto D n (end n at) (At z) l same after)

        by : Within D t is chunk n at z → ⊥
        by (Outer zeros text) =
            let up = turns-least (trip t n at) in
            let past = whole (λ l. let low = least l in let e = zeros n (omega arith) in omega (arith, ints)) (λ j l. zeros j (omega arith)) in
            ⊎_elim (λ m. let m' = m in omega arith) (λ m. let e = m.0 in let f = m.2 in omega arith) text
        by (Last here inside turns zeros) =
            let past = whole (λ l. turns) zeros in
            let e = text-stands D t is Post n z.block here in
            omega arith
        by (Inner inside from below text) =
            let low = least inside in
            let e = turns-trip (trip t n at) (omega (arith, ints)) in
            omega (arith, ints)
        by (Test inside while text tested zeros) =
            let low = least inside in
            let up = turns-least (trip t n at) in
            let here : place t (block_of t z) z.at n ≡ turns_of (trip t n at) = ⊎_elim (λ e. let f = e in omega (arith, ints)) (λ h. let a = h.0 in let b = h.1 in let e = turns-trip (trip t n at) (omega (arith, ints)) in omega (arith, ints)) tested in
            let past = whole (λ l. here) zeros in
            omega arith

  -- nothing stands between the end of a turn and the next turn of its loop
  module _ (k : ℕ) (at : List ℤ) (deep : k < D) (size : length at ≡ D) (turn : InTurn t chunk (suc k) at) (y : Spot)
      (same : Agree k (place t (post (suc k)) at) y.place) (next : y.place k ≡ counter at k +ℤ pos 1) (zeros : (j : ℕ) → k < j → y.place j ≡ pos 0) where
    around : 1 ≤ k → InTurn t chunk k at
    around some = record { from = turn.from; below = turn.below; inner = λ j l m. turn.inner j l (omega arith) }

    pub next-gap :
        ((z : Instance) → Predicted t chunk z → Begins D t is chunk k at z → place t (block_of t z) z.at k ≡ counter at k +ℤ pos 1 → text_at D t is z.block < y.text → ⊥)
        → (z : Instance) → Predicted t chunk z → Before D (end (suc k) at) (At z) → Before D (At z) y → ⊥
    next-gap none z p after before = ⊎_elim stays turns (cases_≤ℤ (counter at k) (place t (block_of t z) z.at k) first)
      where
        begun : Agree k (place t (post (suc k)) at) (place t (block_of t z) z.at)
        begun = between D k (end (suc k) at) (At z) y (omega arith) same after before

        first : counter at k ≤ℤ place t (block_of t z) z.at k
        first = subst (λ (v : ℤ). v ≤ℤ place t (block_of t z) z.at k) (end-counter (suc k) at k (omega arith)) (upto D k (end (suc k) at) (At z) deep begun after)

        back : Agree k (place t (block_of t z) z.at) y.place
        back i l = sym (begun i l) ∙ same i l

        second : place t (block_of t z) z.at k ≤ℤ (counter at k +ℤ pos 1)
        second = subst (λ (v : ℤ). place t (block_of t z) z.at k ≤ℤ v) next (upto D k (At z) y deep back before)

        stays : counter at k ≡ place t (block_of t z) z.at k → ⊥
        stays e = top (suc k) at (omega arith) (omega arith) size turn z p (agree-more k (place t (post (suc k)) at) (place t (block_of t z) z.at) begun (end-counter (suc k) at k (omega arith) ∙ e)) after

        turns : counter at k <ℤ place t (block_of t z) z.at k → ⊥
        turns l = none z p (λ j m. sym (begun j m) ∙ end-counter (suc k) at j (omega arith)) (here ∙ next) text
          where
            here : place t (block_of t z) z.at k ≡ y.place k
            here = let s = second in let e = next in omega (arith, ints)

            all : Agree (suc k + (D - suc k)) (place t (block_of t z) z.at) y.place
            all = agree-zeros D (suc k) (D - suc k) (At z) y (omega arith) (agree-more k (place t (block_of t z) z.at) y.place back here) (λ i m. places-up D t is chunk z p i (omega arith)) (λ i m. zeros i (omega arith)) before

            text : text_at D t is z.block < y.text
            text = by-text D (At z) y (λ i m. all i (omega arith)) before

  -- what begins the next turn of an inner loop
  module _ (k : ℕ) (at : List ℤ) (some : 1 ≤ k) (size : length at ≡ D) (turn : InTurn t chunk (suc k) at) (z : Instance) (p : Predicted t chunk z) (begins : Begins D t is chunk k at z) (here : place t (block_of t z) z.at k ≡ counter at k +ℤ pos 1) where
    up : pos 0 ≤ℤ counter at k
    up = (turn.inner k some (omega arith)).0

    stood : Within D t is chunk k at z
    stood = within D t is chunk k at some size (record { from = turn.from; below = turn.below; inner = λ j l m. turn.inner j l (omega arith) }) z p begins

    -- stands at the head of the loop or after it, and at a head that repeats before no other block
    pub turn-none : (text_at D t is z.block < k + k + 2) ⊎ ((text_at D t is z.block ≤ k + k + 2) × (repeats t k ≡ false)) → ⊥
    turn-none h = by stood
      where
        by : Within D t is chunk k at z → ⊥
        by (Outer zeros text) = let e = zeros k (omega arith) in let u = up in let f = here in omega (arith, ints)
        by (Last stands inside turns zeros) = let e = text-stands D t is Post k z.block stands in ⊎_elim (λ m. let l = m in omega arith) (λ m. let l = m.0 in omega arith) h
        by (Inner inside from below text) = ⊎_elim (λ m. let l = m in omega arith) (λ m. let l = m.0 in omega arith) h
        by (Test inside while text tested zeros) = ⊎_elim (λ m. let l = m in omega arith) (λ m. let f : true ≡ false = sym while ∙ m.1 in cc) h

    -- after the last turn of a `for` nothing stands before what is behind the loop
    pub leave-none : repeats t k ≡ false → trip t k at ≤ℤ (counter at k +ℤ pos 1) → text_at D t is z.block < D + D + D + 3 - k → ⊥
    leave-none for last text = by stood
      where
        by : Within D t is chunk k at z → ⊥
        by (Outer zeros text_is) = let e = zeros k (omega arith) in let u = up in let f = here in omega (arith, ints)
        by (Last stands inside turns zeros) = let e = text-stands D t is Post k z.block stands in omega arith
        by (Inner inside from below text_is) = let f = here in omega (arith, ints)
        by (Test inside while text_is tested zeros) = let f : true ≡ false = sym while ∙ for in cc
