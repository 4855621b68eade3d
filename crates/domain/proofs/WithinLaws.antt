-- Where a predicted instance stands that begins with the counters of a turn.
use Rattle.std.proofs.Common.{◌≡◌, refl, sym, ap, ap₂, subst, ◌∙◌, ℕ, zero, suc, ◌<◌, ◌≤◌, ◌+◌, ◌-◌, ℤ, pos, ◌≤ℤ◌, ◌<ℤ◌, Bool, true, false, List, [], ◌∷◌, length, get_or, ◌⊎◌, inl, inr, ⊎_elim, arith}
use Rattle.std.specs.Prelude.{int_lt, if◌then◌else◌}
use Rattle.std.proofs.lemmas.Int.{ints}
use Rattle.std.proofs.lemmas.Bool.{cases_lt}
use Rattle.plain_lemmas.proofs.IntegerLaws.{int_lt-true, int_lt-false}
use Rattle.nest_lang.specs.declared.tree.Part.{Part}
use Rattle.nest_lang.specs.declared.tree.Part.TheVariants.{Head, Pre, Post}
use Rattle.domain.specs.declared.chunk.Chunk.{Chunk}
use Rattle.domain.specs.Tables.{Table, Block, block_at, repeats, cut, trip, counters, counters_by, turning, turning_by, is_post, IsTable}
use Rattle.domain.specs.Instances.{Instance, block_of, counter, turns_of, place, InTurn, Tested, Predicted}
use Rattle.domain.proofs.PointLaws.{trip-cut}
use Rattle.domain.proofs.PlaceLaws.{place-counter, place-turns, place-rest, place-zero}
use Rattle.domain.proofs.SpotLaws.{Spot}
use Rattle.domain.proofs.RankLaws.{Stands, Kind, AtHead, AtPre, AtPost, kind, text_at}

-- ---- numbers of turns

turns-by : (z : ℤ) (b : Bool) → int_lt z (pos 0) ≡ b → turns_of z ≡ (if b then pos 0 else z)
turns-by z b e = ap (λ (x : Bool). if x then pos 0 else z) e

pub turns-least : (z : ℤ) → pos 0 ≤ℤ turns_of z
turns-least z = at (int_lt z (pos 0)) refl
  where
    at : (b : Bool) → int_lt z (pos 0) ≡ b → pos 0 ≤ℤ turns_of z
    at true e = subst (λ (y : ℤ). pos 0 ≤ℤ y) (sym (turns-by z true e)) (omega (arith, ints))
    at false e = subst (λ (y : ℤ). pos 0 ≤ℤ y) (sym (turns-by z false e)) (int_lt-false z (pos 0) e)

pub turns-trip : (z : ℤ) → pos 0 ≤ℤ z → turns_of z ≡ z
turns-trip z h = at (int_lt z (pos 0)) refl
  where
    at : (b : Bool) → int_lt z (pos 0) ≡ b → turns_of z ≡ z
    at true e = let l = int_lt-true z (pos 0) e in absurd (omega (arith, ints))
    at false e = turns-by z false e

pub turns-none : (z : ℤ) → z ≤ℤ pos 0 → turns_of z ≡ pos 0
turns-none z h = at (int_lt z (pos 0)) refl
  where
    at : (b : Bool) → int_lt z (pos 0) ≡ b → turns_of z ≡ pos 0
    at true e = turns-by z true e
    at false e = let l = int_lt-false z (pos 0) e in turns-by z false e ∙ omega (arith, ints)

-- ---- trips at points that begin alike

cut-agree : (n : ℕ) (xs ys : List ℤ) → length xs ≡ length ys → ((j : ℕ) → j < n → get_or xs j (pos 0) ≡ get_or ys j (pos 0)) → cut n xs ≡ cut n ys
cut-agree n [] [] size h = refl
cut-agree n [] (y ∷ ys) size h = absurd (omega arith)
cut-agree n (x ∷ xs) [] size h = absurd (omega arith)
cut-agree zero (x ∷ xs) (y ∷ ys) size h = ap (λ (zs : List ℤ). pos 0 ∷ zs) (cut-agree zero xs ys (omega arith) (λ j l. absurd (omega arith)))
cut-agree (suc n) (x ∷ xs) (y ∷ ys) size h = ap₂ (λ (z : ℤ) (zs : List ℤ). z ∷ zs) (h 0 (omega arith)) (cut-agree n xs ys (omega arith) (λ j l. h (suc j) (omega arith)))

pub trip-same : (t : Table) (n : ℕ) (xs ys : List ℤ) → length xs ≡ length ys → ((j : ℕ) → j < n → counter xs j ≡ counter ys j) → trip t n xs ≡ trip t n ys
trip-same t n xs ys size h = sym (trip-cut t n n xs (omega arith)) ∙ ap (trip t n) (cut-agree n xs ys size h) ∙ trip-cut t n n ys (omega arith)

-- ---- counters and turns of a block

pub counters-of : (t : Table) (part : Part) (level rank : ℕ) → Stands t part level rank → counters t (block_at t rank) ≡ counters_by part (repeats t (level - 1)) level
counters-of t part level rank s =
    ap (λ (p : Part). counters_by p (repeats t ((block_at t rank).level - 1)) (block_at t rank).level) s.part-is ∙ ap (λ (n : ℕ). counters_by part (repeats t (n - 1)) n) s.level-is

pub turning-of : (t : Table) (part : Part) (level rank : ℕ) → Stands t part level rank → turning (block_at t rank) ≡ turning_by part level
turning-of t part level rank s = ap (λ (p : Part). turning_by p (block_at t rank).level) s.part-is ∙ ap (turning_by part) s.level-is

pub head-most : (w : Bool) (level : ℕ) → counters_by Head w level ≤ level
head-most true level = omega arith
head-most false level = omega arith

pub head-least : (w : Bool) (level : ℕ) → level ≤ counters_by Head w level + 1
head-least true level = omega arith
head-least false level = omega arith

plain-part : (t : Table) (part : Part) (level rank : ℕ) → Stands t part level rank → is_post part ≡ false → is_post (block_at t rank).part ≡ false
plain-part t part level rank s e = ap is_post s.part-is ∙ e

module _ (D : ℕ) (t : Table) (is : IsTable D t) (chunk : Chunk) where
  abbrev pub spot : Instance → Spot
  spot z = record { place = place t (block_of t z) z.at; text = text_at D t is z.block }

  -- the instance's point begins with k counters
  abbrev pub Begins : ℕ → List ℤ → Instance → Type 0
  Begins k at z = (j : ℕ) → j < k → place t (block_of t z) z.at j ≡ counter at j

  pub data Within (k : ℕ) (at : List ℤ) (z : Instance) : Type 0 where
    Outer : (zeros : (j : ℕ) → k ≤ j → place t (block_of t z) z.at j ≡ pos 0) (text : (text_at D t is z.block ≤ k + k + 1) ⊎ ((text_at D t is z.block ≡ k + k + 2) × (repeats t k ≡ false) × (k < D))) → Within k at z
    Last : (here : Stands t Post k z.block) (deep : k < D) (turns : place t (block_of t z) z.at k ≡ turns_of (trip t k at)) (zeros : (j : ℕ) → k < j → place t (block_of t z) z.at j ≡ pos 0) → Within k at z
    Inner : (deep : k < D) (from : pos 0 ≤ℤ place t (block_of t z) z.at k) (below : place t (block_of t z) z.at k <ℤ trip t k at) (text : k + k + 2 < text_at D t is z.block) → Within k at z
    Test : (deep : k < D) (while : repeats t k ≡ true) (text : text_at D t is z.block ≡ k + k + 2) (tested : Tested (place t (block_of t z) z.at k) (trip t k at)) (zeros : (j : ℕ) → k < j → place t (block_of t z) z.at j ≡ pos 0) → Within k at z

  module _ (k : ℕ) (at : List ℤ) (some : 1 ≤ k) (size : length at ≡ D) (turn : InTurn t chunk k at) (z : Instance) (p : Predicted t chunk z) (begins : Begins k at z) where
    b : Block
    b = block_of t z

    same-size : length z.at ≡ length at
    same-size = p.is.size ∙ is.deep ∙ sym size

    -- where the instance has n counters, n of them at most k, the trip inside these is the one at this turn
    same-trip : (n : ℕ) → n ≤ k → n ≤ counters t (block_of t z) → trip t n z.at ≡ trip t n at
    same-trip n l m = trip-same t n z.at at same-size (λ j o. sym (place-counter t (block_of t z) z.at j (omega arith)) ∙ begins j (omega arith))

    plain-zeros : is_post (block_of t z).part ≡ false → (n : ℕ) → counters t (block_of t z) ≤ n → (j : ℕ) → n ≤ j → place t (block_of t z) z.at j ≡ pos 0
    plain-zeros e n l j m = place-zero t (block_of t z) z.at j e (omega arith)

    inner : k < D → k < turning (block_of t z) → k < counters t (block_of t z) → k + k + 2 < text_at D t is z.block → Within k at z
    inner deep l m text =
        let bounds = p.turn.inner k some l in
        let here = place-counter t (block_of t z) z.at k m in
        let same = same-trip k (omega arith) (omega arith) in
        Inner deep (subst (λ (v : ℤ). pos 0 ≤ℤ v) (sym here) bounds.0) (subst (λ (v : ℤ). v <ℤ trip t k at) (sym here) (subst (λ (v : ℤ). counter z.at k <ℤ v) same bounds.1)) text

    at-head : (level : ℕ) → 1 ≤ level → level ≤ D → Stands t Head level z.block → text_at D t is z.block ≡ level + level → (level ≤ k) ⊎ (k < level) → (level ≤ suc k) ⊎ (suc k < level) → Within k at z
    at-head level from to s text (inl l) m =
        let n = counters-of t Head level z.block s in
        let most = head-most (repeats t (level - 1)) level in
        Outer (plain-zeros (plain-part t Head level z.block s refl) k (omega arith)) (inl (omega arith))
    at-head level from to s text (inr l) (inr m) =
        let n = counters-of t Head level z.block s in
        let least = head-least (repeats t (level - 1)) level in
        let o = turning-of t Head level z.block s in
        inner (omega arith) (omega arith) (omega arith) (omega arith)
    at-head level from to s text (inr l) (inl m) = by (repeats t k) refl
      where
        level-is : level ≡ suc k
        level-is = omega arith

        around : level - 1 ≡ k
        around = omega arith

        counts : (w : Bool) → repeats t k ≡ w → counters t (block_of t z) ≡ counters_by Head w level
        counts w e = counters-of t Head level z.block s ∙ ap (λ (v : Bool). counters_by Head v level) (ap (repeats t) around ∙ e)

        by : (w : Bool) → repeats t k ≡ w → Within k at z
        by false e =
            let n : counters t (block_of t z) ≡ level - 1 = counts false e in
            Outer (plain-zeros (plain-part t Head level z.block s refl) k (omega arith)) (inr (omega arith, e, omega arith))
        by true e =
            let n : counters t (block_of t z) ≡ level = counts true e in
            let turns : turning (block_of t z) ≡ k = let o = turning-of t Head level z.block s in omega arith in
            let here = place-counter t (block_of t z) z.at k (omega arith) in
            let same = same-trip k (omega arith) (omega arith) in
            let tested = p.test (omega arith) in
            let moved : Tested (counter z.at k) (trip t k z.at) = subst (λ (m : ℕ). Tested (counter z.at m) (trip t m z.at)) turns tested in
            Test (omega arith) e (omega arith)
            (subst (λ (v : ℤ). Tested v (trip t k at)) (sym here) (subst (λ (v : ℤ). Tested (counter z.at k) v) same moved))
            (plain-zeros (plain-part t Head level z.block s refl) (suc k) (omega arith))

    at-pre : (level : ℕ) → 1 ≤ level → level ≤ D → Stands t Pre level z.block → text_at D t is z.block ≡ level + level + 1 → (level ≤ k) ⊎ (k < level) → Within k at z
    at-pre level from to s text (inl l) =
        let n = counters-of t Pre level z.block s in
        Outer (plain-zeros (plain-part t Pre level z.block s refl) k (omega arith)) (inl (omega arith))
    at-pre level from to s text (inr l) =
        let n = counters-of t Pre level z.block s in
        let o = turning-of t Pre level z.block s in
        inner (omega arith) (omega arith) (omega arith) (omega arith)

    at-post : (level : ℕ) → 1 ≤ level → level < D → Stands t Post level z.block → text_at D t is z.block ≡ D + D + D + 3 - level → (level < k) ⊎ (k ≤ level) → (level ≤ k) ⊎ (k < level) → Within k at z
    at-post level from to s text (inl l) m =
        let n = counters-of t Post level z.block s in
        let shown = begins level l in
        let here = place-turns t (block_of t z) z.at level s.part-is (sym n) in
        let same = same-trip level (omega arith) (omega arith) in
        let bounds = turn.inner level from l in
        let low = bounds.0 in
        let high = bounds.1 in
        let whole = turns-trip (trip t level at) (omega (arith, ints)) in
        let e : turns_of (trip t level z.at) ≡ turns_of (trip t level at) = ap turns_of same in
        absurd (omega (arith, ints))
    at-post level from to s text (inr l) (inl m) =
        let n = counters-of t Post level z.block s in
        let level-is : level ≡ k = omega arith in
        let same = same-trip k (omega arith) (omega arith) in
        Last (subst (λ (v : ℕ). Stands t Post v z.block) level-is s) (omega arith) (place-turns t (block_of t z) z.at k s.part-is (omega arith) ∙ ap turns_of same) (λ j o. place-rest t (block_of t z) z.at j (omega arith))
    at-post level from to s text (inr l) (inr m) =
        let n = counters-of t Post level z.block s in
        let o = turning-of t Post level z.block s in
        inner (omega arith) (omega arith) (omega arith) (omega arith)

    pub within : Within k at z
    within = by (kind D t is z.block p.is.block)
      where
        by : Kind D t is z.block → Within k at z
        by (AtHead level from to here text) = at-head level from to here text (flip (cases_lt k level)) (flip (cases_lt (suc k) level))
          where
            flip : {P Q : Type 0} → P ⊎ Q → Q ⊎ P
            flip (inl h) = inr h
            flip (inr h) = inl h
        by (AtPre level from to here text) = at-pre level from to here text (flip (cases_lt k level))
          where
            flip : {P Q : Type 0} → P ⊎ Q → Q ⊎ P
            flip (inl h) = inr h
            flip (inr h) = inl h
        by (AtPost level from to here text) = at-post level from to here text (cases_lt level k) (flip (cases_lt k level))
          where
            flip : {P Q : Type 0} → P ⊎ Q → Q ⊎ P
            flip (inl h) = inr h
            flip (inr h) = inl h

  -- behind the first place no number of a predicted instance's point is negative
  pub places-up : (z : Instance) → Predicted t chunk z → (j : ℕ) → 1 ≤ j → pos 0 ≤ℤ place t (block_of t z) z.at j
  places-up z p j some = ⊎_elim inside (λ l. ⊎_elim past (λ m. here (omega arith)) (cases_lt (counters t (block_of t z)) j)) (cases_lt j (counters t (block_of t z)))
    where
      counts : Kind D t is z.block → counters t (block_of t z) ≤ turning (block_of t z) + 1
      counts (AtHead level from to s text) = let n = counters-of t Head level z.block s in let o = turning-of t Head level z.block s in let most = head-most (repeats t (level - 1)) level in omega arith
      counts (AtPre level from to s text) = let n = counters-of t Pre level z.block s in let o = turning-of t Pre level z.block s in omega arith
      counts (AtPost level from to s text) = let n = counters-of t Post level z.block s in let o = turning-of t Post level z.block s in omega arith

      tested-up : (a b : ℤ) → Tested a b → pos 0 ≤ℤ a
      tested-up a b (inl e) = omega (arith, ints)
      tested-up a b (inr h) = h.0

      inside : j < counters t (block_of t z) → pos 0 ≤ℤ place t (block_of t z) z.at j
      inside l =
          subst (λ (v : ℤ). pos 0 ≤ℤ v) (sym (place-counter t (block_of t z) z.at j l))
          (⊎_elim (λ m. (p.turn.inner j some m).0)
          (λ m. let most = counts (kind D t is z.block p.is.block) in
          let e : turning (block_of t z) ≡ j = omega arith in
          subst (λ (n : ℕ). pos 0 ≤ℤ counter z.at n) e (tested-up _ _ (p.test (omega arith))))
          (cases_lt j (turning (block_of t z))))

      past : counters t (block_of t z) < j → pos 0 ≤ℤ place t (block_of t z) z.at j
      past l = subst (λ (v : ℤ). pos 0 ≤ℤ v) (sym (place-rest t (block_of t z) z.at j l)) (omega (arith, ints))

      here : j ≡ counters t (block_of t z) → pos 0 ≤ℤ place t (block_of t z) z.at j
      here e = by (block_of t z).part refl
        where
          by : (q : Part) → (block_of t z).part ≡ q → pos 0 ≤ℤ place t (block_of t z) z.at j
          by Post f = subst (λ (v : ℤ). pos 0 ≤ℤ v) (sym (place-turns t (block_of t z) z.at j f e)) (turns-least (trip t j z.at))
          by Head f = subst (λ (v : ℤ). pos 0 ≤ℤ v) (sym (place-zero t (block_of t z) z.at j (ap is_post f) (omega arith))) (omega (arith, ints))
          by Pre f = subst (λ (v : ℤ). pos 0 ≤ℤ v) (sym (place-zero t (block_of t z) z.at j (ap is_post f) (omega arith))) (omega (arith, ints))
