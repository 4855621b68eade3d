-- The planned instances stand in original order.
use Rattle.std.proofs.Common.{◌≡◌, refl, ap, ◌∙◌, sym, subst, ℕ, ℤ, pos, ◌<ℤ◌, suc, ◌+◌, ◌-◌, ◌<◌, ◌≤◌, ◌⊎◌, inl, inr, Bool, true, List, [], ◌∷◌, ◌++◌, length, length-append, map, arith, Ordering, Less, Equal, Greater, int_cmp}
use Rattle.std.specs.Prelude.{if◌then◌else◌}
use Rattle.std.proofs.lemmas.Int.{ints}
use Rattle.std.specs.List.{AllByRecursion}
use Rattle.std.specs.Cmp.{int_cmp_is, int_ranks}
use Rattle.std.specs.Cmp.Lexicographic.{slice_cmp}
use Rattle.std.specs.Ordering.{ordering_then, MatchOrdering}
use Rattle.nest_lang.specs.declared.tree.Stmt.{Stmt}
use Rattle.nest_lang.specs.declared.tree.Head.{Head}
use Rattle.nest_lang.specs.declared.tree.Head.TheVariants.{For, While}
use Rattle.nest_lang.specs.declared.tree.Loop.{Loop}
use Rattle.nest_lang.specs.declared.tree.Part.{Part}
use Rattle.nest_lang.specs.declared.tree.Part.TheVariants as part
use Rattle.nest_lang.specs.declared.tree.BlockRef.{BlockRef}
use Rattle.nest_lang.specs.declared.state.Outer.{Outer}
use Rattle.domain.specs.Tables.{text_place_by}
use Rattle.nest_lang.specs.Blocks.{same_block, present_blocks, outermost, opening, closing, block_if_any, block_ref}
use Rattle.nest_lang.specs.Values.{turn_value}
use Rattle.nest_lang.specs.Loops.{Around, inward, outside}
use Rattle.nest_lang.proofs.RankLaws.{same_block-self, Each, Rise, same_block-above, present-rises}
use Rattle.orders.specs.Orders.{Ordered, Precedes}
use Rattle.plain_lemmas.specs.Lists.{Has}
use Rattle.plain_lemmas.proofs.MembershipLaws.{all-has, has-left, has-right}
use Rattle.follow.specs.Forecasts.{Forecast}
use Rattle.follow.specs.Plans.{turns_in, plan_block, plan_turn, plan_loop, plan_loops, plan_outer, planned, Item}
use Rattle.follow.specs.OriginalOrder.{zeros, turns_and_zeros, padded_by, key, rank_in, ranked_key, PlannedInOriginalOrder}
use Rattle.follow.proofs.PlannedOrderLaws.{all-append, all-map, planned-in_order, length-zeros, length-turns_and_zeros, length-pos}
use Rattle.follow.proofs.FindingLaws.{all-turns, all-whiles, all-tested}

each-all : (P : BlockRef → Type 0) (xs : List BlockRef) → Each P xs → AllByRecursion P xs
each-all P [] all = tt
each-all P (x ∷ xs) all = (all.0, each-all P xs all.1)

rise-ordered : (R : BlockRef → BlockRef → Type 0) (xs : List BlockRef) → Rise R xs → Ordered R xs
rise-ordered R [] rise = tt
rise-ordered R (x ∷ xs) rise = (each-all (R x) xs rise.0, rise-ordered R xs rise.1)

module _ (D : ℕ) where
  abbrev place : BlockRef → ℕ
  place b = text_place_by D b.part b.level

  abbrev Above : BlockRef → BlockRef → Type 0
  Above a b = place a < place b

  rank-next : (x b : BlockRef) (xs : List BlockRef) → Above x b → rank_in (x ∷ xs) b ≡ suc (rank_in xs b)
  rank-next x b xs h = ap (λ (z : Bool). if z then 0 else suc (rank_in xs b)) (same_block-above D x b h)

  rank-rises : (xs : List BlockRef) (a b : BlockRef) → Ordered Above xs → Has xs a → Has xs b → Above a b → rank_in xs a < rank_in xs b
  rank-rises [] a b ordered ha hb h = absurd ha
  rank-rises (x ∷ xs) a b ordered (inl ea) (inl eb) h = absurd (let e : place a ≡ place b = ap place (ea ∙ sym eb) in omega (arith, h, e))
  rank-rises (x ∷ xs) a b ordered (inl ea) (inr hb) h =
      let first : rank_in (x ∷ xs) a ≡ 0 = ap (λ (z : Bool). if z then 0 else suc (rank_in xs a)) (subst (λ (z : BlockRef). same_block z a ≡ true) ea (same_block-self a)) in
      let second = rank-next x b xs (all-has (Above x) xs b ordered.0 hb) in
      omega (arith, first, second)
  rank-rises (x ∷ xs) a b ordered (inr ha) (inl eb) h = absurd (let e : place b ≡ place x = ap place eb in let g = all-has (Above x) xs a ordered.0 ha in omega (arith, h, e, g))
  rank-rises (x ∷ xs) a b ordered (inr ha) (inr hb) h =
      let first = rank-next x a xs (all-has (Above x) xs a ordered.0 ha) in
      let second = rank-next x b xs (all-has (Above x) xs b ordered.0 hb) in
      let rest = rank-rises xs a b ordered.1 ha hb h in
      omega (arith, first, second, rest)

  -- the present blocks stand in the order of their places
  present-ordered : (l : Loop) (ls : List Loop) → suc (length ls) ≡ D → Ordered Above (present_blocks (l ∷ ls))
  present-ordered l ls deep = rise-ordered Above (present_blocks (l ∷ ls)) (present-rises D l ls deep)

-- the blocks of planned instances are present, and their turn numbers are no more than the loops
length-one : (cs : List ℤ) (t : ℤ) → length (cs ++ t ∷ []) ≡ suc (length cs)
length-one [] t = refl
length-one (c ∷ cs) t = ap suc (length-one cs t)

module _ (p : Forecast) (D : ℕ) where
  record Present (xs ys : List BlockRef) (x : Item) : Type 0 where
    has : Has xs x.at.block ⊎ Has ys x.at.block
    few : length x.at.counters ≤ D

  block-present : (xs ys : List BlockRef) (by : Part) (level : ℕ) (a : Around) (block : List Stmt) → length a.counters ≤ D
      → ((b : BlockRef) → Has (block_if_any by level block) b → Has xs b ⊎ Has ys b) → AllByRecursion (Present xs ys) (plan_block by level a block)
  block-present xs ys by level a [] few go = tt
  block-present xs ys by level a (s ∷ ss) few go = (record { has = go (block_ref by level) (inl refl); few = few }, tt)

  either : (A B A' B' : Type 0) → (A → A') → (B → B') → A ⊎ B → A' ⊎ B'
  either A B A' B' f g (inl a) = inl (f a)
  either A B A' B' f g (inr b) = inr (g b)

  turn-present : (xs ys us vs : List BlockRef) (level : ℕ) (l : Loop) (inner : Around → List Item) (a : Around) → length a.counters ≤ D
      → ((b : BlockRef) → Has (block_if_any part.Pre level l.pre) b → Has us b) → ((b : BlockRef) → Has (block_if_any part.Post level l.post) b → Has vs b)
      → ((b : BlockRef) → Has xs b → Has us b) → ((b : BlockRef) → Has ys b → Has vs b)
      → AllByRecursion (Present xs ys) (inner a) → AllByRecursion (Present us vs) (plan_turn level l inner a)
  turn-present xs ys us vs level l inner a few pre post into_us into_vs within =
      all-append (Present us vs) (plan_block part.Pre level a l.pre) (inner a ++ plan_block part.Post level a l.post)
      (block-present us vs part.Pre level a l.pre few (λ b h. inl (pre b h)))
      (all-append (Present us vs) (inner a) (plan_block part.Post level a l.post)
      (all-map (Present xs ys) (Present us vs) (inner a) (λ x h. record { has = either (Has xs x.at.block) (Has ys x.at.block) (Has us x.at.block) (Has vs x.at.block) (into_us x.at.block) (into_vs x.at.block) h.has; few = h.few }) within)
      (block-present us vs part.Post level a l.post few (λ b h. inr (post b h))))

  loop-present : (h : Head) (us vs : List BlockRef) (level : ℕ) (plan : Around → List Item) (a : Around) → Has us (block_ref part.Head level) → length a.counters + 1 ≤ D
      → ((b : Around) → length b.counters ≡ length a.counters + 1 → AllByRecursion (Present us vs) (plan b)) → AllByRecursion (Present us vs) (plan_loop h p level h plan a)
  loop-present (For lower upper stride) us vs level plan a head few each = (
    record { has = inl head; few = omega (arith, few) },
    all-turns (Present us vs) _ 0 _
        (λ t. each (inward a t (turn_value (p.lower (record { block = record { part = part.Head; level = level }; counters = a.counters })) stride t)) (let e = length-one a.counters (pos t) in omega (arith, e))),
  )
  loop-present (While condition) us vs level plan a head few each =
      all-whiles (Present us vs) _ 0 _ _ (λ t. record { has = inl head; few = let e = length-one a.counters (pos t) in omega (arith, e, few) })
      (λ t. each (inward a t (pos t)) (let e = length-one a.counters (pos t) in omega (arith, e)))

  loops-present : (ls : List Loop) (level : ℕ) (a : Around) → length a.counters + length ls ≤ D → AllByRecursion (Present (opening level ls) (closing level ls)) (plan_loops p level ls a)
  loops-present [] level a few = tt
  loops-present (l ∷ ls) level a few =
      let us : List BlockRef = opening level (l ∷ ls) in
      let vs : List BlockRef = closing level (l ∷ ls) in
      loop-present l.head us vs level (plan_turn level l (plan_loops p (level + 1) ls)) a (inl refl) (omega (arith, few))
      (λ b e. turn-present (opening (level + 1) ls) (closing (level + 1) ls) us vs level l (plan_loops p (level + 1) ls) b (omega (arith, e, few))
      (λ z h. inr (has-left (block_if_any part.Pre level l.pre) (opening (level + 1) ls) z h)) (λ z h. has-right (closing (level + 1) ls) (block_if_any part.Post level l.post) z h)
      (λ z h. inr (has-right (block_if_any part.Pre level l.pre) (opening (level + 1) ls) z h)) (λ z h. has-left (closing (level + 1) ls) (block_if_any part.Post level l.post) z h)
      (loops-present ls (level + 1) b (omega (arith, e, few))))

  outer-present : (h : Head) (us vs : List BlockRef) (plan : Around → List Item) (o : Outer) (c : ℕ) → 1 ≤ D → ((b : BlockRef) → Has (outermost h) b → Has us b)
      → ((b : Around) → length b.counters ≡ 1 → AllByRecursion (Present us vs) (plan b)) → AllByRecursion (Present us vs) (plan_outer h h plan o c)
  outer-present (For lower upper stride) us vs plan o c few head each = all-turns (Present us vs) c _ _ (λ t. each (inward outside t (turn_value o.lower stride t)) refl)
  outer-present (While condition) us vs plan o c few head each =
      all-tested (Present us vs) c _ _ _ (λ t. record { has = inl (head (block_ref part.Head 1) (inl refl)); few = few }) (λ t. each (inward outside t (pos t)) refl)

  length-padded : (by : Part) (level : ℕ) (cs : List ℤ) → length cs ≤ D → length (padded_by p D by level cs) ≡ D
  length-padded part.Head level cs few = let e = length-append cs (map pos (zeros (D - length cs))) in let f = length-pos (zeros (D - length cs)) in let g = length-zeros (D - length cs) in omega (arith, e, f, g, few)
  length-padded part.Pre level cs few = let e = length-append cs (map pos (zeros (D - length cs))) in let f = length-pos (zeros (D - length cs)) in let g = length-zeros (D - length cs) in omega (arith, e, f, g, few)
  length-padded part.Post level cs few =
      let n : ℕ = turns_in (p.trip (record { part = part.Head; level = level + 1 }) cs) in
      let e = length-append cs (map pos (turns_and_zeros (D - length cs) n)) in let f = length-pos (turns_and_zeros (D - length cs) n) in let g = length-turns_and_zeros (D - length cs) n in omega (arith, e, f, g, few)

-- another last number
less-numbers : (m n : ℕ) → slice_cmp int_cmp (pos m ∷ []) (pos n ∷ []) ≡ Less → m < n
less-numbers m n h = at (int_cmp (pos m) (pos n)) (int_ranks (pos m) (pos n)) h
  where
    at : (o : Ordering) → MatchOrdering o (pos m <ℤ pos n) (pos m ≡ pos n) (pos n <ℤ pos m) → ordering_then o Equal ≡ Less → m < n
    at Less k e = omega (arith, ints)
    at Equal k e = absurd (cc)
    at Greater k e = absurd (cc)

numbers-less : (m n : ℕ) → m < n → slice_cmp int_cmp (pos m ∷ []) (pos n ∷ []) ≡ Less
numbers-less m n h = ap (λ (o : Ordering). ordering_then o Equal) (sym (int_cmp_is (pos m) (pos n) Less (let less : pos m <ℤ pos n = omega (arith, ints) in less)))

last-less : (us vs : List ℤ) (m n m' n' : ℕ) → length us ≡ length vs → slice_cmp int_cmp (us ++ pos m ∷ []) (vs ++ pos n ∷ []) ≡ Less → (m < n → m' < n') → slice_cmp int_cmp (us ++ pos m' ∷ []) (vs ++ pos n' ∷ []) ≡ Less
last-less [] [] m n m' n' size h go = numbers-less m' n' (go (less-numbers m n h))
last-less [] (v ∷ vs) m n m' n' size h go = absurd (omega (arith, size))
last-less (u ∷ us) [] m n m' n' size h go = absurd (omega (arith, size))
last-less (u ∷ us) (v ∷ vs) m n m' n' size h go = at (int_cmp u v) h (λ k. last-less us vs m n m' n' (omega (arith, size)) k go)
  where
    at : (o : Ordering) → ordering_then o (slice_cmp int_cmp (us ++ pos m ∷ []) (vs ++ pos n ∷ [])) ≡ Less
        → (slice_cmp int_cmp (us ++ pos m ∷ []) (vs ++ pos n ∷ []) ≡ Less → slice_cmp int_cmp (us ++ pos m' ∷ []) (vs ++ pos n' ∷ []) ≡ Less)
        → ordering_then o (slice_cmp int_cmp (us ++ pos m' ∷ []) (vs ++ pos n' ∷ [])) ≡ Less
    at Less k next = refl
    at Equal k next = next k
    at Greater k next = absurd (cc)

module _ (p : Forecast) (l : Loop) (ls : List Loop) where
  abbrev Good : Item → Type 0
  Good x = Has (present_blocks (l ∷ ls)) x.at.block × (length x.at.counters ≤ suc (length ls))

  all-good : (o : Outer) (c : ℕ) → AllByRecursion Good (planned p (l ∷ ls) o c)
  unfolding planned present_blocks
  all-good o c =
      let us : List BlockRef = outermost l.head ++ block_if_any part.Pre 1 l.pre ++ opening 2 ls in
      let vs : List BlockRef = closing 1 (l ∷ ls) in
      let D : ℕ = suc (length ls) in
      all-map (Present p D us vs) Good (plan_outer l.head l.head (plan_turn 1 l (plan_loops p 2 ls)) o c) (λ x h. (joined us vs x.at.block h.has, h.few))
      (outer-present p D l.head us vs (plan_turn 1 l (plan_loops p 2 ls)) o c (omega arith) (λ b h. has-left (outermost l.head ++ block_if_any part.Pre 1 l.pre) (opening 2 ls) b (has-left (outermost l.head) (block_if_any part.Pre 1 l.pre) b h))
      (λ b e. turn-present p D (opening 2 ls) (closing 2 ls) us vs 1 l (plan_loops p 2 ls) b (omega (arith, e))
      (λ z h. has-left (outermost l.head ++ block_if_any part.Pre 1 l.pre) (opening 2 ls) z (has-right (outermost l.head) (block_if_any part.Pre 1 l.pre) z h)) (λ z h. has-right (closing 2 ls) (block_if_any part.Post 1 l.post) z h)
      (λ z h. has-right (outermost l.head ++ block_if_any part.Pre 1 l.pre) (opening 2 ls) z h) (λ z h. has-left (closing 2 ls) (block_if_any part.Post 1 l.post) z h)
      (loops-present p D ls 2 b (omega (arith, e)))))
    where
      joined : (us vs : List BlockRef) (b : BlockRef) → Has us b ⊎ Has vs b → Has (us ++ vs) b
      joined us vs b (inl h) = has-left us vs b h
      joined us vs b (inr h) = has-right us vs b h

  ranked-order : (xs : List Item) → AllByRecursion Good xs → Ordered (Precedes (slice_cmp int_cmp) (key p (suc (length ls)))) xs → Ordered (Precedes (slice_cmp int_cmp) (ranked_key p (l ∷ ls))) xs
  ranked-order [] all h = tt
  ranked-order (x ∷ xs) all h = (each xs all.1 h.0, ranked-order xs all.1 h.1)
    where
      D : ℕ
      D = suc (length ls)

      one : (y : Item) → Good y → slice_cmp int_cmp (key p D x) (key p D y) ≡ Less → slice_cmp int_cmp (ranked_key p (l ∷ ls) x) (ranked_key p (l ∷ ls) y) ≡ Less
      one y good less =
          last-less (padded_by p D x.at.block.part x.at.block.level x.at.counters) (padded_by p D y.at.block.part y.at.block.level y.at.counters)
          (place D x.at.block) (place D y.at.block) (rank_in (present_blocks (l ∷ ls)) x.at.block) (rank_in (present_blocks (l ∷ ls)) y.at.block)
          (length-padded p D x.at.block.part x.at.block.level x.at.counters all.0.1 ∙ sym (length-padded p D y.at.block.part y.at.block.level y.at.counters good.1))
          less (rank-rises D (present_blocks (l ∷ ls)) x.at.block y.at.block (present-ordered D l ls refl) all.0.0 good.0)

      each : (ys : List Item) → AllByRecursion Good ys → AllByRecursion (Precedes (slice_cmp int_cmp) (key p D) x) ys → AllByRecursion (Precedes (slice_cmp int_cmp) (ranked_key p (l ∷ ls)) x) ys
      each [] good h = tt
      each (y ∷ ys) good h = (one y good.0 h.0, each ys good.1 h.1)

pub original-order : PlannedInOriginalOrder
unfolding planned
original-order p [] o c = tt
original-order p (l ∷ ls) o c = ranked-order p l ls (planned p (l ∷ ls) o c) (all-good p l ls o c) (planned-in_order p (l ∷ ls) o c)
