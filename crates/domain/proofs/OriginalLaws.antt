-- Original order, as the order of spots.
use Rattle.std.proofs.Common.{◌≡◌, refl, sym, ap, ap₂, subst, ◌∙◌, ℕ, zero, suc, ◌<◌, ◌≤◌, ℤ, pos, ◌+ℤ◌, ◌≤ℤ◌, ◌<ℤ◌, List, [], ◌∷◌, length, get_or, replicate, set, ◌⊎◌, inl, inr, ⊎_elim, Less, Equal, Greater, int_cmp, Bool, false, ◌-◌, arith, get_or-set_same, get_or-set_other, length-set}
use Rattle.std.specs.Ordering.{ordering_reverse}
use Rattle.std.specs.Cmp.Lexicographic.{slice_cmp}
use Rattle.std.proofs.lemmas.Cmp.{lists_total, int_cmp_total, tied_itself}
use Rattle.std.proofs.lemmas.Int.{ints}
use Rattle.std.proofs.lemmas.Bool.{cases_lt}
use Rattle.plain_lemmas.proofs.OrderLaws.{ordering_then-less}
use Rattle.nest_lang.specs.declared.tree.Part.TheVariants.{Head, Post}
use Rattle.domain.specs.declared.chunk.Chunk.{Chunk}
use Rattle.domain.specs.Tables.{Table, depth, block_at, repeats, counters, counters_by, turning, is_post, IsTable}
use Rattle.domain.specs.Instances.{InTurn, Instance, instance, block_of, counter, place, padded, IsInstance, Predicted, original_key, Precedes, opening_at, IsSuccessor}
use Rattle.domain.specs.Steps.{next}
use Rattle.domain.proofs.PlaceLaws.{place-counter}
use Rattle.domain.proofs.SpotLaws.{Spot, Agree, Rises, Before, three, less-rises, less-agree, upto, agree-zeros, by-text}
use Rattle.domain.proofs.RankLaws.{Kind, AtHead, AtPre, AtPost, kind, text_at, ranks-rise, same-rank}
use Rattle.domain.proofs.WithinLaws.{counters-of, turning-of, places-up}
use Rattle.domain.proofs.GapLaws.{At}
use Rattle.domain.proofs.LeadLaws.{Leads, First, FirstHead, FirstPre, FirstInner, first, plain-place, enters, entered}
use Rattle.domain.proofs.WalkLaws.{next-leads}

one-less : (m n : ℕ) → m < n → slice_cmp int_cmp (pos m ∷ []) (pos n ∷ []) ≡ Less
one-less m n h = ordering_then-less (pos m) (pos n) Equal (let l : pos m <ℤ pos n = omega (arith, ints) in l)

-- no key is less than one that is less than it
pub not-back : (xs ys : List ℤ) → slice_cmp int_cmp xs ys ≡ Less → slice_cmp int_cmp ys xs ≡ Less → ⊥
not-back xs ys h k =
    let e : Less ≡ Greater = sym h ∙ (lists_total int_cmp_total).antisymm xs ys ∙ ap ordering_reverse k in cc

pub not-itself : (xs : List ℤ) → slice_cmp int_cmp xs xs ≡ Less → ⊥
not-itself xs h = let e : Less ≡ Equal = sym h ∙ tied_itself (lists_total int_cmp_total) xs in cc

-- points of one length with the same numbers are the same
same-list : (xs ys : List ℤ) → length xs ≡ length ys → ((j : ℕ) → j < length xs → get_or xs j (pos 0) ≡ get_or ys j (pos 0)) → xs ≡ ys
same-list [] [] size h = refl
same-list [] (y ∷ ys) size h = absurd (omega arith)
same-list (x ∷ xs) [] size h = absurd (omega arith)
same-list (x ∷ xs) (y ∷ ys) size h = ap₂ (λ (z : ℤ) (zs : List ℤ). z ∷ zs) (h 0 (omega arith)) (same-list xs ys (omega arith) (λ j l. h (suc j) (omega arith)))

module _ (D : ℕ) (t : Table) (is : IsTable D t) (chunk : Chunk) where
  abbrev S : Instance → Spot
  S z = At D t is chunk z

  pub before-precedes : (x y : Instance) → x.block < length t.blocks → Before D (S x) (S y) → Precedes t x y
  unfolding padded
  before-precedes x y inside (inl r) =
      less-rises (depth t) (place t (block_of t x) x.at) (place t (block_of t y) y.at) (pos x.block ∷ []) (pos y.block ∷ []) (subst (λ (n : ℕ). Rises n (place t (block_of t x) x.at) (place t (block_of t y) y.at)) (sym is.deep) r)
  before-precedes x y inside (inr h) =
      less-agree (depth t) (place t (block_of t x) x.at) (place t (block_of t y) y.at) (pos x.block ∷ []) (pos y.block ∷ []) (subst (λ (n : ℕ). Agree n (place t (block_of t x) x.at) (place t (block_of t y) y.at)) (sym is.deep) h.0)
      ∙ one-less x.block y.block (ranks-rise D t is x.block y.block inside h.1)

  -- an instance is known by its point and its block
  pub same-instance : (x y : Instance) → IsInstance t x → IsInstance t y → Agree D (place t (block_of t x) x.at) (place t (block_of t y) y.at) → text_at D t is x.block ≡ text_at D t is y.block → x ≡ y
  same-instance x y i j same text = ap₂ instance block at-is
    where
      block : x.block ≡ y.block
      block = same-rank D t is x.block y.block i.block j.block text

      counts : counters t (block_of t x) ≡ counters t (block_of t y)
      counts = ap (λ (n : ℕ). counters t (block_at t n)) block

      at-is : x.at ≡ y.at
      at-is = same-list x.at y.at (i.size ∙ sym j.size) (λ k l. number k l (cases_lt k (counters t (block_of t x))))
        where
          number : (k : ℕ) → k < length x.at → (k < counters t (block_of t x)) ⊎ (counters t (block_of t x) ≤ k) → counter x.at k ≡ counter y.at k
          number k l (inl m) =
              let c = counts in let size = i.size in let deep = is.deep in
              sym (place-counter t (block_of t x) x.at k m) ∙ same k (omega arith) ∙ place-counter t (block_of t y) y.at k (omega arith)
          number k l (inr m) = let c = counts in i.rest k m ∙ sym (j.rest k (omega arith))

  -- one of two instances precedes the other, or they are one
  pub precedes-three : (x y : Instance) → IsInstance t x → IsInstance t y → Precedes t x y ⊎ ((x ≡ y) ⊎ Precedes t y x)
  precedes-three x y i j =
      ⊎_elim (λ h. inl (before-precedes x y i.block h))
      (λ h. inr (⊎_elim (λ e. inl (same-instance x y i j e.0 e.1)) (λ k. inr (before-precedes y x j.block k)) h))
      (three D (S x) (S y))

  pub precedes-before : (x y : Instance) → IsInstance t x → IsInstance t y → Precedes t x y → Before D (S x) (S y)
  precedes-before x y i j h =
      ⊎_elim (λ k. k)
      (λ k. ⊎_elim
      (λ e. let same = same-instance x y i j e.0 e.1 in absurd (not-itself (original_key t x) (subst (λ (z : Instance). Precedes t x z) (sym same) h)))
      (λ l. absurd (not-back (original_key t x) (original_key t y) h (before-precedes y x j.block l))) k)
      (three D (S x) (S y))

  -- ---- the first block at a turn, with inner counters 0

  long : (n : ℕ) → length (replicate n (pos 0)) ≡ n
  long zero = refl
  long (suc n) = ap suc (long n)

  zeros-at : (n j : ℕ) → get_or (replicate n (pos 0)) j (pos 0) ≡ pos 0
  zeros-at zero j = refl
  zeros-at (suc n) zero = refl
  zeros-at (suc n) (suc j) = zeros-at n j

  module _ (turn : ℤ) where
    at0 : List ℤ
    at0 = set (replicate (depth t) (pos 0)) 0 turn

    opening-size : length (set (replicate (depth t) (pos 0)) 0 turn) ≡ depth t
    opening-size = length-set (replicate (depth t) (pos 0)) 0 turn ∙ long (depth t)

    pub opening-turn : counter (set (replicate (depth t) (pos 0)) 0 turn) 0 ≡ turn
    opening-turn = here (replicate (depth t) (pos 0)) (let e = long (depth t) in let deep = is.deep in let some = is.some in omega arith)
      where
        here : (xs : List ℤ) → 0 < length xs → counter (set xs 0 turn) 0 ≡ turn
        here xs l = rw get_or-set_same refl

    pub opening-rest : (j : ℕ) → 1 ≤ j → counter (set (replicate (depth t) (pos 0)) 0 turn) j ≡ pos 0
    opening-rest j l = other (λ e. omega arith) ∙ zeros-at (depth t) j
      where
        other : (j ≡ 0 → ⊥) → counter (set (replicate (depth t) (pos 0)) 0 turn) j ≡ counter (replicate (depth t) (pos 0)) j
        other ne = rw get_or-set_other refl

    pub opening-is : IsInstance t (opening_at t turn) × (is_post (block_at t 0).part ≡ false)
    opening-is = by (first D t is)
      where
        by : First D t is → IsInstance t (opening_at t turn) × (is_post (block_at t 0).part ≡ false)
        by (FirstHead here while) =
            let c : counters t (block_at t 0) ≡ 1 = counters-of t Head 1 0 here ∙ ap (λ (w : Bool). counters_by Head w 1) (let z : 1 - 1 ≡ 0 = omega arith in ap (repeats t) z ∙ while) in
            (record { block = here.inside; size = opening-size; rest = λ j l. opening-rest j (omega arith) }, ap is_post here.part-is)
        by (FirstPre here) = enters D t is 1 0 (set (replicate (depth t) (pos 0)) 0 turn) (opening-size ∙ is.deep) opening-rest (inl here)
        by (FirstInner here more) = enters D t is 1 0 (set (replicate (depth t) (pos 0)) 0 turn) (opening-size ∙ is.deep) opening-rest (inr here)

    pub opening-place : (j : ℕ) → place t (block_at t 0) (set (replicate (depth t) (pos 0)) 0 turn) j ≡ counter (set (replicate (depth t) (pos 0)) 0 turn) j
    opening-place j = plain-place D t is (opening_at t turn) opening-is.0 opening-is.1 j

    pub opening-predicted : chunk.first ≤ℤ turn → turn <ℤ (chunk.first +ℤ chunk.turns) → Predicted t chunk (opening_at t turn)
    opening-predicted from below = by (first D t is)
      where
        turns : InTurn t chunk 1 (set (replicate (depth t) (pos 0)) 0 turn)
        turns = record { from = subst (λ (v : ℤ). chunk.first ≤ℤ v) (sym opening-turn) from; below = subst (λ (v : ℤ). v <ℤ (chunk.first +ℤ chunk.turns)) (sym opening-turn) below; inner = λ j l m. absurd (omega arith) }

        by : First D t is → Predicted t chunk (opening_at t turn)
        by (FirstHead here while) =
            let c : counters t (block_at t 0) ≡ 1 = counters-of t Head 1 0 here ∙ ap (λ (w : Bool). counters_by Head w 1) (let z : 1 - 1 ≡ 0 = omega arith in ap (repeats t) z ∙ while) in
            let o : turning (block_at t 0) ≡ 1 = let f = turning-of t Head 1 0 here in omega arith in
            record { is = opening-is.0; turn = subst (λ (m : ℕ). InTurn t chunk m (set (replicate (depth t) (pos 0)) 0 turn)) (sym o) turns; test = λ l. absurd (omega arith) }
        by (FirstPre here) = entered D t is chunk 1 0 (set (replicate (depth t) (pos 0)) 0 turn) (omega arith) (opening-size ∙ is.deep) turns opening-rest (inl here)
        by (FirstInner here more) = entered D t is chunk 1 0 (set (replicate (depth t) (pos 0)) 0 turn) (omega arith) (opening-size ∙ is.deep) turns opening-rest (inr here)

  -- a predicted instance's point begins with its turn
  pub first-place : (z : Instance) → Predicted t chunk z → place t (block_of t z) z.at 0 ≡ counter z.at 0
  first-place z p = by (kind D t is z.block p.is.block)
    where
      by : Kind D t is z.block → place t (block_of t z) z.at 0 ≡ counter z.at 0
      by (AtHead level from to here text) = plain-place D t is z p.is (ap is_post here.part-is) 0
      by (AtPre level from to here text) = plain-place D t is z p.is (ap is_post here.part-is) 0
      by (AtPost level from to here text) = let c = counters-of t Post level z.block here in place-counter t (block_of t z) z.at 0 (omega arith)

  -- nothing precedes the first block at the chunk's first turn
  pub opening-first : (z : Instance) → Predicted t chunk z → (z ≡ opening_at t chunk.first) ⊎ Precedes t (opening_at t chunk.first) z
  opening-first z p =
      ⊎_elim (λ h. inr (before-precedes (opening_at t chunk.first) z (opening-is chunk.first).0.block h))
      (λ h. ⊎_elim (λ e. inl (sym (same-instance (opening_at t chunk.first) z (opening-is chunk.first).0 p.is e.0 e.1))) (λ l. absurd (back l)) h)
      (three D (S (opening_at t chunk.first)) (S z))
    where
      back : Before D (S z) (S (opening_at t chunk.first)) → ⊥
      back h =
          let some : 0 < D = is.some in
          let start = upto D 0 (S z) (S (opening_at t chunk.first)) some (λ i l. absurd (omega arith)) h in
          let e = opening-place chunk.first 0 ∙ opening-turn chunk.first in
          let f = first-place z p in
          let low = p.turn.from in
          let here : place t (block_of t z) z.at 0 ≡ place t (block_at t 0) (set (replicate (depth t) (pos 0)) 0 chunk.first) 0 = omega (arith, ints) in
          let all = agree-zeros D 1 (D - 1) (S z) (S (opening_at t chunk.first)) (omega arith) (λ i l. let g : 0 ≡ i = omega arith in subst (λ (n : ℕ). place t (block_of t z) z.at n ≡ place t (block_at t 0) (set (replicate (depth t) (pos 0)) 0 chunk.first) n) g here)
          (λ i l. places-up D t is chunk z p i l) (λ i l. opening-place chunk.first i ∙ opening-rest chunk.first i l) h in
          let text = by-text D (S z) (S (opening_at t chunk.first)) (λ i l. all i (omega arith)) h in
          let r = ranks-rise D t is z.block 0 p.is.block text in
          omega arith

  -- each predicted instance precedes the first block at the turn after the chunk
  pub opening-last : (z : Instance) → Predicted t chunk z → Precedes t z (opening_at t (chunk.first +ℤ chunk.turns))
  opening-last z p =
      let e = opening-place (chunk.first +ℤ chunk.turns) 0 ∙ opening-turn (chunk.first +ℤ chunk.turns) in
      let f = first-place z p in
      let below = p.turn.below in
      let some = is.some in
      before-precedes z (opening_at t (chunk.first +ℤ chunk.turns)) p.is.block (inl (record { index = 0; inside = omega arith; same = λ i l. absurd (omega arith); less = omega (arith, ints) }))

  -- ---- the step leads to the successor

  pub successor-law : (x : Instance) → Predicted t chunk x → IsSuccessor t chunk x (next t x)
  successor-law x p = record {
    after = before-precedes x (next t x) p.is.block lead.after;
    next = λ z q h. by z q (precedes-before x z p.is q.is h) (three D (S (next t x)) (S z));
    is = lead.good;
  }
    where
      lead : Leads D t is chunk (S x) (next t x)
      lead = next-leads D t is chunk x p

      same : (z : Instance) → Predicted t chunk z → Predicted t chunk (next t x) ⊎ (next t x ≡ opening_at t (chunk.first +ℤ chunk.turns)) → Agree D (place t (block_of t (next t x)) (next t x).at) (place t (block_of t z) z.at) → text_at D t is (next t x).block ≡ text_at D t is z.block → z ≡ next t x
      same z q (inl good) e f = sym (same-instance (next t x) z good.is q.is e f)
      same z q (inr past) e f =
          let g : place t (block_of t (next t x)) (next t x).at 0 ≡ chunk.first +ℤ chunk.turns = ap (λ (y : Instance). place t (block_of t y) y.at 0) past ∙ opening-place (chunk.first +ℤ chunk.turns) 0 ∙ opening-turn (chunk.first +ℤ chunk.turns) in
          let h = e 0 is.some in
          let i = first-place z q in
          let below = q.turn.below in
          absurd (omega (arith, ints))

      by : (z : Instance) → Predicted t chunk z → Before D (S x) (S z) → Before D (S (next t x)) (S z) ⊎ ((Agree D (S (next t x)).place (S z).place × ((S (next t x)).text ≡ (S z).text)) ⊎ Before D (S z) (S (next t x))) → (z ≡ next t x) ⊎ Precedes t (next t x) z
      by z q b (inl h) = inr (before-precedes (next t x) z lead.inside h)
      by z q b (inr (inl e)) = inl (same z q lead.good e.0 e.1)
      by z q b (inr (inr h)) = absurd (lead.gap z q b h)

pub successor-of : (D : ℕ) (t : Table) (x y : Instance) → IsTable D t → y ≡ next t x → (chunk : Chunk) → Predicted t chunk x → IsSuccessor t chunk x y
successor-of D t x y is e chunk p = subst (IsSuccessor t chunk x) (sym e) (successor-law D t is chunk x p)
