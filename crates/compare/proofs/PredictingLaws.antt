-- The planned instances are the predicted ones, in original order, and what follows each is its successor.
use Rattle.std.proofs.Common.{◌≡◌, refl, sym, ap, ap₂, subst, ◌∙◌, ℕ, ◌≤◌, ◌+◌, ◌-◌, ℤ, pos, negsuc, ◌+ℤ◌, ◌≤ℤ◌, ◌<ℤ◌, unsigned_abs, Bool, true, false, List, [], ◌∷◌, length, get_or, map, take, Option, Some, ◌⊎◌, inl, inr, ⊎_elim, Less, int_cmp, arith}
use Rattle.std.specs.Prelude.{unwrap_or, if◌then◌else◌}
use Rattle.std.specs.List.{AllByRecursion}
use Rattle.std.specs.Cmp.Lexicographic.{slice_cmp}
use Rattle.std.proofs.lemmas.Cmp.{lists_total, int_cmp_total}
use Rattle.std.proofs.lemmas.Int.{ints}
use Rattle.plain_lemmas.proofs.MembershipLaws.{contains-from-has, has-from-contains, all-has}
use Rattle.plain_lemmas.specs.Lists.{Has}
use Rattle.nest_lang.specs.declared.tree.BlockRef.{BlockRef}
use Rattle.nest_lang.specs.declared.tree.Loop.{Loop}
use Rattle.nest_lang.specs.declared.tree.Part.{Part}
use Rattle.nest_lang.specs.declared.tree.Part.TheVariants as part
use Rattle.nest_lang.specs.declared.state.Outer.{Outer}
use Rattle.nest_lang.specs.Traces.{Occurrence}
use Rattle.nest_lang.specs.Blocks.{block_ref}
use Rattle.domain.specs.declared.chunk.Chunk.{Chunk}
use Rattle.domain.specs.Tables.{Table, block_at, counters, counters_by, repeats, trip, IsTable}
use Rattle.domain.specs.Shapes.{IsTableOf}
use Rattle.domain.specs.Instances.{Instance, instance, counter, Predicted, Precedes, Ordered, original_key, opening_at, IsOriginal, IsSuccessor}
use Rattle.domain.specs.Steps.{next}
use Rattle.domain.proofs.OrderLaws.{one_list}
use Rattle.domain.proofs.OriginalLaws.{not-back, not-itself, opening-turn, opening-last, opening-first, opening-predicted, successor-law}
use Rattle.domain.proofs.RankLaws.{Stands}
use Rattle.domain.proofs.WithinLaws.{counters-of, head-most}
use Rattle.orders.specs.Orders as orders
use Rattle.nest_lang.specs.Turns.{turns_later}
use Rattle.follow.specs.Forecasts.{same_all}
use Rattle.follow.specs.Plans.{planned, Item}
use Rattle.follow.specs.OriginalOrder.{key}
use Rattle.follow.specs.Successors.{next_scalars, first_scalars, closing_scalars, successor_scalars}
use Rattle.follow.specs.Instances.{item_of}
use Rattle.follow.proofs.PlannedOrderLaws.{all-map, planned-in_order}
use Rattle.follow.proofs.TurnInstanceLaws.{planned-some}
use Rattle.follow.proofs.ChainingLaws.{same_all-exact}
use Rattle.follow.proofs.ClosingLaws.{same_all-self}
use Rattle.follow.proofs.FindingLaws.{planned-by-instance}
use Rattle.follow_chunk.specs.Predicted.{padded_to as point, occurrence_of, instance_of, scalars_at, forecast_of}
use Rattle.follow_chunk.specs.Items.{idle, item_at, items_at, scalars_after}
use Rattle.compare.specs.Chunks.{IsNextChunk}
use Rattle.compare.specs.PredictedLaws.{planned_in}
use Rattle.compare.proofs.PointLaws.{point-get, point-take}
use Rattle.compare.proofs.TableBlockLaws.{rank-here}
use Rattle.compare.proofs.WalkingLaws.{IsItem, Walks, planned-walk}
use Rattle.compare.proofs.PlannedTurnLaws.{Sooner, planned-sooner}

module _ (D n : ℕ) (t : Table) (loops : List Loop) (is : IsTable D t) (of : IsTableOf n loops t) where
  abbrev At : Instance → Item → Type 0
  At x i = IsItem D n t loops is of x i

  abbrev Goes : Instance → List Item → Instance → Type 0
  Goes x items y = Walks D n t loops is of x items y

  trips : (level : ℕ) (cs : List ℤ) → 2 ≤ level → (forecast_of t).trip (record { part = part.Head; level = level }) cs ≡ trip t (level - 1) (point D cs)
  trips level cs h = ap (λ (d : ℕ). trip t (level - 1) (point d cs)) is.deep

  pub walk : (o : Outer) (c : ℕ) → Goes (opening_at t (pos (unsigned_abs o.next))) (planned (forecast_of t) loops o c) (opening_at t (pos (unsigned_abs o.next + c)))
  walk o c = planned-walk D n t loops is of (forecast_of t) trips o c

  -- ---- an instance and its occurrence

  counters-within : (by : Part) (level rank : ℕ) → Stands t by level rank → counters t (block_at t rank) ≤ D
  counters-within by level rank s = at by (counters-of t by level rank s)
    where
      to : level ≤ D
      to = let a = (is.blocks rank s.inside).to in let b = s.level-is in omega arith

      at : (q : Part) → counters t (block_at t rank) ≡ counters_by q (repeats t (level - 1)) level → counters t (block_at t rank) ≤ D
      at part.Head e = let m = head-most (repeats t (level - 1)) level in let l = to in omega arith
      at part.Pre e = let l = to in omega arith
      at part.Post e = let l = to in omega arith

  -- the instance is that of the occurrence
  pub is-instance : (x : Instance) (i : Item) → At x i → instance_of t i.at ≡ x
  unfolding instance_of
  is-instance x i a =
      ap₂ instance
      (ap (λ (o : Option ℕ). unwrap_or o (length t.blocks)) (rank-here D n t loops is of i.at.block.part i.at.block.level x.block a.stands))
      (ap (λ (d : ℕ). point d i.at.counters) is.deep ∙ sym a.at)

  pub is-occurrence : (x : Instance) (i : Item) → At x i → occurrence_of t x ≡ i.at
  unfolding occurrence_of
  is-occurrence x i a =
      ap₂ (λ (b : BlockRef) (cs : List ℤ). let o : Occurrence = record { block = b; counters = cs } in o) (ap₂ block_ref a.stands.part-is a.stands.level-is)
      (ap₂ (λ (k : ℕ) (cs : List ℤ). take k cs) (sym a.size) a.at ∙ point-take D i.at.counters (let m = counters-within i.at.block.part i.at.block.level x.block a.stands in let e = a.size in omega arith))

  -- the items are those of their instances
  pub items-by : (items : List Item) (x y : Instance) → Goes x items y → AllByRecursion (λ i. At (instance_of t i.at) i) items
  items-by [] x y w = tt
  items-by (i ∷ items) x y w = (subst (λ (z : Instance). At z i) (sym (is-instance x i w.0)) w.0, items-by items (next t x) y w.1)

  module _ (o : Outer) where
    abbrev Own : Item → Type 0
    Own i = item_of (forecast_of t) o loops i.at ≡ Some i

    item-own : (i : Item) → At (instance_of t i.at) i → Own i → item_at t loops o (instance_of t i.at) ≡ i
    unfolding item_at
    item-own i a own =
        ap (λ (at : Occurrence). unwrap_or (item_of (forecast_of t) o loops at) (idle at)) (is-occurrence (instance_of t i.at) i a) ∙ ap (λ (q : Option Item). unwrap_or q (idle i.at)) own

    items-own : (items : List Item) → AllByRecursion (λ i. At (instance_of t i.at) i) items → AllByRecursion Own items → items_at t loops o (map (λ (i : Item). instance_of t i.at) items) ≡ items
    items-own [] a own = refl
    items-own (i ∷ items) a own = ap₂ (λ (j : Item) (js : List Item). j ∷ js) (item-own i a.0 own.0) (items-own items a.1 own.1)

    pub items-planned : (c : ℕ) → items_at t loops o (map (λ (i : Item). instance_of t i.at) (planned (forecast_of t) loops o c)) ≡ planned (forecast_of t) loops o c
    items-planned c =
        items-own (planned (forecast_of t) loops o c) (items-by (planned (forecast_of t) loops o c) (opening_at t (pos (unsigned_abs o.next))) (opening_at t (pos (unsigned_abs o.next + c))) (walk o c))
        (planned-by-instance (forecast_of t) loops o c)

  -- ---- original order

  module _ (chunk : Chunk) where
    abbrev Last : Instance
    Last = opening_at t (chunk.first +ℤ chunk.turns)

    abbrev From : Instance → Instance → Type 0
    From x z = (z ≡ x) ⊎ Precedes t x z

    abbrev Instances : List Item → List Instance
    Instances items = map (λ (i : Item). instance_of t i.at) items

    trans : (x y z : Instance) → Precedes t x y → Precedes t y z → Precedes t x z
    trans x y z h k = (lists_total int_cmp_total).trans (original_key t x) (original_key t y) (original_key t z) h k

    -- a walk over items that are before the turn after the chunk
    record Goods (x : Instance) (items : List Item) : Type 0 where
      ordered : Ordered (Precedes t) (Instances items)
      predicted : AllByRecursion (Predicted t chunk) (Instances items)
      from : AllByRecursion (From x) (Instances items)
      all : (z : Instance) → Predicted t chunk z → From x z → Has (Instances items) z

    -- its first instance is predicted
    not-last : (x : Instance) (i : Item) (m : ℕ) → pos m ≡ chunk.first +ℤ chunk.turns → At x i → get_or i.at.counters 0 (pos 0) <ℤ pos m → Predicted t chunk x ⊎ (x ≡ Last) → Predicted t chunk x
    not-last x i m end a before (inl p) = p
    not-last x i m end a before (inr e) =
        let here : counter x.at 0 ≡ get_or i.at.counters 0 (pos 0) =
        ap (λ (xs : List ℤ). get_or xs 0 (pos 0)) a.at ∙ point-get D i.at.counters 0 (let k = counters-within i.at.block.part i.at.block.level x.block a.stands in let s = a.size in omega arith) in
        let there : counter x.at 0 ≡ chunk.first +ℤ chunk.turns = ap (λ (z : Instance). counter z.at 0) e ∙ opening-turn D t is chunk (chunk.first +ℤ chunk.turns) in
        absurd (omega (arith, ints))

    goods : (m : ℕ) → pos m ≡ chunk.first +ℤ chunk.turns → (items : List Item) (x : Instance) → Goes x items Last → AllByRecursion (Sooner (forecast_of t) m) items → Predicted t chunk x ⊎ (x ≡ Last) → Goods x items
    goods m end [] x w sooner good = record { ordered = tt; predicted = tt; from = tt; all = none }
      where
        none : (z : Instance) → Predicted t chunk z → From x z → Has [] z
        none z p (inl e) = absurd (not-itself (original_key t z) (subst (λ (v : Instance). Precedes t z v) (sym (e ∙ w)) (opening-last D t is chunk z p)))
        none z p (inr h) = absurd (not-back (original_key t x) (original_key t z) h (subst (λ (v : Instance). Precedes t z v) (sym w) (opening-last D t is chunk z p)))
    goods m end (i ∷ items) x w sooner good =
        let p : Predicted t chunk x = not-last x i m end w.0 sooner.0 good in
        let s = successor-law D t is chunk x p in
        let rest = goods m end items (next t x) w.1 sooner.1 s.is in
        let e : instance_of t i.at ≡ x = is-instance x i w.0 in
        let later : AllByRecursion (Precedes t x) (Instances items) = all-map (From (next t x)) (Precedes t x) (Instances items) (λ z h. ⊎_elim (λ f. subst (λ (v : Instance). Precedes t x v) (sym f) s.after) (λ k. trans x (next t x) z s.after k) h) rest.from in
        record {
          ordered = (subst (λ (v : Instance). AllByRecursion (Precedes t v) (Instances items)) (sym e) later, rest.ordered);
          predicted = (subst (Predicted t chunk) (sym e) p, rest.predicted);
          from = (inl e, all-map (Precedes t x) (From x) (Instances items) (λ z h. inr h) later);
          all = λ z q h. ⊎_elim (λ f. inl (f ∙ sym e)) (λ k. ⊎_elim (λ f. inr (rest.all z q (inl f))) (λ f. inr (rest.all z q (inr f))) (s.next z q k)) h;
        }

  module _ (o : Outer) (chunk : Chunk) (next_chunk : IsNextChunk n loops t o chunk) where
    start : pos (unsigned_abs o.next) ≡ chunk.first
    start = at o.next next_chunk.first
      where
        at : (z : ℤ) → chunk.first ≡ z → pos (unsigned_abs z) ≡ chunk.first
        at (pos m) e = sym e
        at (negsuc m) e = absurd (let f = next_chunk.from in omega (arith, ints))

    end : pos (unsigned_abs o.next + unsigned_abs chunk.turns) ≡ chunk.first +ℤ chunk.turns
    end = at chunk.turns next_chunk.some
      where
        at : (z : ℤ) → pos 1 ≤ℤ z → pos (unsigned_abs o.next + unsigned_abs z) ≡ chunk.first +ℤ z
        at (pos m) h = let e = start in omega (arith, ints)
        at (negsuc m) h = absurd (omega (arith, ints))

    abbrev Plan : List Item
    Plan = planned_in t loops o chunk

    pub chunk-walk : Goes (opening_at t chunk.first) (planned_in t loops o chunk) (opening_at t (chunk.first +ℤ chunk.turns))
    chunk-walk =
        subst (λ (z : ℤ). Goes (opening_at t z) Plan (opening_at t (chunk.first +ℤ chunk.turns))) start
        (subst (λ (z : ℤ). Goes (opening_at t (pos (unsigned_abs o.next))) Plan (opening_at t z)) end (walk o (unsigned_abs chunk.turns)))

    pub opens : Predicted t chunk (opening_at t chunk.first)
    opens = let h = next_chunk.some in opening-predicted D t is chunk chunk.first (omega (arith, ints)) (omega (arith, ints))

    plan-goods : Goods chunk (opening_at t chunk.first) (planned_in t loops o chunk)
    plan-goods =
        goods chunk (unsigned_abs o.next + unsigned_abs chunk.turns) end Plan (opening_at t chunk.first) chunk-walk (planned-sooner (forecast_of t) loops o (unsigned_abs chunk.turns)) (inl opens)

    pub original : IsOriginal t chunk (map (λ (i : Item). instance_of t i.at) (planned_in t loops o chunk))
    original = record {
      ordered = plan-goods.ordered;
      has = λ x. (
        λ h. all-has (Predicted t chunk) (Instances chunk Plan) x plan-goods.predicted (has-from-contains (Instances chunk Plan) x h),
        λ p. contains-from-has (Instances chunk Plan) x (plan-goods.all x p (opening-first D t is chunk x p)),
      );
    }

    pub predicted-items : (xs : List Instance) → IsOriginal t chunk xs → planned_in t loops o chunk ≡ items_at t loops o xs
    predicted-items xs h =
        sym (items-planned o (unsigned_abs chunk.turns)) ∙ ap (items_at t loops o) (one_list D t chunk (Instances chunk Plan) xs is original h)

    -- ---- predicted instances with their items

    record Found (items : List Item) (x : Instance) : Type 0 where
      found : Item
      here : instance_of t found.at ≡ x
      at : At x found
      own : Own o found

    find : (items : List Item) (x : Instance) → AllByRecursion (λ i. At (instance_of t i.at) i) items → AllByRecursion (Own o) items → Has (map (λ (i : Item). instance_of t i.at) items) x → Found items x
    find [] x a own h = absurd h
    find (i ∷ items) x a own (inl e) = record { found = i; here = sym e; at = subst (λ (z : Instance). At z i) (sym e) a.0; own = own.0 }
    find (i ∷ items) x a own (inr h) = let f = find items x a.1 own.1 h in record { found = f.found; here = f.here; at = f.at; own = f.own }

    found-in : (x : Instance) → Predicted t chunk x → Found Plan x
    found-in x p =
        find Plan x (items-by Plan (opening_at t chunk.first) (opening_at t (chunk.first +ℤ chunk.turns)) chunk-walk) (planned-by-instance (forecast_of t) loops o (unsigned_abs chunk.turns))
        (plan-goods.all x p (opening-first D t is chunk x p))

    found-item : (x : Instance) (f : Found Plan x) → item_at t loops o x ≡ f.found
    found-item x f =
        ap (item_at t loops o) (sym f.here) ∙ item-own o f.found (subst (λ (z : Instance). At z f.found) (sym f.here) f.at) f.own

    pub occurs : (x : Instance) → Predicted t chunk x → (instance_of t (occurrence_of t x) ≡ x) × ((item_at t loops o x).at ≡ occurrence_of t x)
    occurs x p =
        let f = found-in x p in
        let e = is-occurrence x f.found f.at in
        (ap (instance_of t) e ∙ f.here, ap (λ (i : Item). i.at) (found-item x f) ∙ sym e)

    -- ---- successors

    -- there is one successor
    pub successor-one : (x y : Instance) → Predicted t chunk x → IsSuccessor t chunk x y → y ≡ next t x
    successor-one x y p s = by s.is r.is
      where
        r : IsSuccessor t chunk x (next t x)
        r = successor-law D t is chunk x p

        by : Predicted t chunk y ⊎ (y ≡ Last chunk) → Predicted t chunk (next t x) ⊎ (next t x ≡ Last chunk) → y ≡ next t x
        by (inl a) (inl b) = ⊎_elim (λ e. e) (λ h. ⊎_elim (λ e. sym e) (λ k. absurd (not-back (original_key t y) (original_key t (next t x)) k h)) (s.next (next t x) b r.after)) (r.next y a s.after)
        by (inl a) (inr e) =
            ⊎_elim (λ f. f) (λ h. absurd (not-back (original_key t (next t x)) (original_key t y) h (subst (λ (z : Instance). Precedes t y z) (sym e) (opening-last D t is chunk y a)))) (r.next y a s.after)
        by (inr e) (inl b) =
            ⊎_elim (λ f. sym f) (λ h. absurd (not-back (original_key t y) (original_key t (next t x)) h (subst (λ (z : Instance). Precedes t (next t x) z) (sym e) (opening-last D t is chunk (next t x) b)))) (s.next (next t x) b r.after)
        by (inr e) (inr f) = e ∙ sym f

    -- the turn after the chunk
    later : pos (unsigned_abs (turns_later o (unsigned_abs chunk.turns)).next) ≡ chunk.first +ℤ chunk.turns
    later = at (o.next +ℤ pos (unsigned_abs chunk.turns)) whole
      where
        whole : o.next +ℤ pos (unsigned_abs chunk.turns) ≡ pos (unsigned_abs o.next + unsigned_abs chunk.turns)
        whole = let e = start in let f = next_chunk.first in omega (arith, ints)

        at : (z : ℤ) → z ≡ pos (unsigned_abs o.next + unsigned_abs chunk.turns) → pos (unsigned_abs z) ≡ chunk.first +ℤ chunk.turns
        at (pos m) e = e ∙ end
        at (negsuc m) e = absurd (omega (arith, ints))

    pub next-opens : (i : Item) (items : List Item) → planned (forecast_of t) loops (turns_later o (unsigned_abs chunk.turns)) 1 ≡ i ∷ items
        → (instance_of t i.at ≡ opening_at t (chunk.first +ℤ chunk.turns)) × (i.at ≡ occurrence_of t (opening_at t (chunk.first +ℤ chunk.turns)))
    next-opens i items e =
        let w = subst (λ (js : List Item). Goes (opening_at t (pos (unsigned_abs (turns_later o (unsigned_abs chunk.turns)).next))) js (opening_at t (pos (unsigned_abs (turns_later o (unsigned_abs chunk.turns)).next + 1)))) e
        (walk (turns_later o (unsigned_abs chunk.turns)) 1) in
        let a : At (opening_at t (chunk.first +ℤ chunk.turns)) i = subst (λ (z : ℤ). At (opening_at t z) i) later w.0 in
        (is-instance (opening_at t (chunk.first +ℤ chunk.turns)) i a, sym (is-occurrence (opening_at t (chunk.first +ℤ chunk.turns)) i a))

    -- the instance behind the chunk is that of its occurrence
    pub behind-occurs : instance_of t (occurrence_of t (opening_at t (chunk.first +ℤ chunk.turns))) ≡ opening_at t (chunk.first +ℤ chunk.turns)
    behind-occurs =
        let (i, items, e) = planned-some (forecast_of t) loops (turns_later o (unsigned_abs chunk.turns)) 1 next_chunk.keeps (omega arith) in
        let b = next-opens i items e in
        ap (instance_of t) (sym b.1) ∙ b.0

    abbrev k : Item → List ℤ
    k = key (forecast_of t) (length loops)

    abbrev Distinct : Item → Item → Type 0
    Distinct x y = same_all (k x) (k y) ≡ false

    all-both : (P Q R : Item → Type 0) (xs : List Item) → ((x : Item) → P x → Q x → R x) → AllByRecursion P xs → AllByRecursion Q xs → AllByRecursion R xs
    all-both P Q R [] go h l = tt
    all-both P Q R (x ∷ xs) go h l = (go x h.0 l.0, all-both P Q R xs go h.1 l.1)

    distinct : (xs : List Item) → orders.Ordered (orders.Precedes (slice_cmp int_cmp) k) xs → orders.Ordered Distinct xs
    distinct [] h = tt
    distinct (x ∷ xs) h = (all-map (orders.Precedes (slice_cmp int_cmp) k x) (Distinct x) xs (λ y e. differ (k x) (k y) e) h.0, distinct xs h.1)
      where
        differ : (us vs : List ℤ) → slice_cmp int_cmp us vs ≡ Less → same_all us vs ≡ false
        differ us vs e = at (same_all us vs) refl
          where
            at : (b : Bool) → same_all us vs ≡ b → same_all us vs ≡ false
            at false f = f
            at true f = absurd (not-itself us (subst (λ (zs : List ℤ). slice_cmp int_cmp us zs ≡ Less) (sym (same_all-exact us vs f)) e))

    if-true : (b : Bool) (us vs : List ℤ) → b ≡ true → (if b then us else vs) ≡ us
    if-true b us vs e = rw e refl

    if-false : (b : Bool) (us vs : List ℤ) → b ≡ false → (if b then us else vs) ≡ vs
    if-false b us vs e = rw e refl

    -- what is expected after each instance of a walk
    after-each : (closing : List ℤ) → closing ≡ scalars_at t (Last chunk) → (items : List Item) (x : Instance) → Goes x items (Last chunk) → orders.Ordered Distinct items
        → AllByRecursion (λ i. next_scalars (forecast_of t) k items closing i ≡ scalars_after t i) items
    after-each closing c [] x w d = tt
    after-each closing c (i ∷ []) x w d = (c ∙ ap (scalars_at t) (sym w.1 ∙ ap (next t) (sym (is-instance x i w.0))), tt)
    after-each closing c (i ∷ j ∷ items) x w d =
        let e : instance_of t j.at ≡ next t (instance_of t i.at) = is-instance (next t x) j w.1.0 ∙ ap (next t) (sym (is-instance x i w.0)) in (
          if-true (same_all (k i) (k i)) (scalars_at t (instance_of t j.at)) (next_scalars (forecast_of t) k (j ∷ items) closing i) (same_all-self (k i)) ∙ ap (scalars_at t) e,
          all-both (Distinct i) (λ q. next_scalars (forecast_of t) k (j ∷ items) closing q ≡ scalars_after t q) (λ q. next_scalars (forecast_of t) k (i ∷ j ∷ items) closing q ≡ scalars_after t q) (j ∷ items)
              (λ q f g. if-false (same_all (k i) (k q)) (scalars_at t (instance_of t j.at)) (next_scalars (forecast_of t) k (j ∷ items) closing q) f ∙ g) d.0
              (after-each closing c (j ∷ items) (next t x) w.1 d.1),
        )

    closes : closing_scalars (forecast_of t) loops o (unsigned_abs chunk.turns) ≡ scalars_at t (Last chunk)
    closes =
        let (i, items, e) = planned-some (forecast_of t) loops (turns_later o (unsigned_abs chunk.turns)) 1 next_chunk.keeps (omega arith) in
        ap (first_scalars (forecast_of t)) e ∙ ap (scalars_at t) (next-opens i items e).0

    pub afters : AllByRecursion (λ i. successor_scalars (forecast_of t) loops o (unsigned_abs chunk.turns) i ≡ scalars_after t i) (planned_in t loops o chunk)
    afters =
        after-each (closing_scalars (forecast_of t) loops o (unsigned_abs chunk.turns)) closes Plan (opening_at t chunk.first) chunk-walk (distinct Plan (planned-in_order (forecast_of t) loops o (unsigned_abs chunk.turns)))

    after-found : (P : Item → Type 0) (items : List Item) (x : Instance) → AllByRecursion P items → AllByRecursion (λ i. At (instance_of t i.at) i) items → AllByRecursion (Own o) items → Has (map (λ (i : Item). instance_of t i.at) items) x → P (item_at t loops o x)
    after-found P [] x all a own h = absurd h
    after-found P (i ∷ items) x all a own (inl e) = subst P (sym (item-own o i a.0 own.0) ∙ ap (item_at t loops o) (sym e)) all.0
    after-found P (i ∷ items) x all a own (inr h) = after-found P items x all.1 a.1 own.1 h

    pub successor-scalars : (x y : Instance) → Predicted t chunk x → IsSuccessor t chunk x y → successor_scalars (forecast_of t) loops o (unsigned_abs chunk.turns) (item_at t loops o x) ≡ scalars_at t y
    successor-scalars x y p s =
        let e = occurs x p in
        after-found (λ i. successor_scalars (forecast_of t) loops o (unsigned_abs chunk.turns) i ≡ scalars_after t i) Plan x afters
        (items-by Plan (opening_at t chunk.first) (opening_at t (chunk.first +ℤ chunk.turns)) chunk-walk) (planned-by-instance (forecast_of t) loops o (unsigned_abs chunk.turns))
        (plan-goods.all x p (opening-first D t is chunk x p))
        ∙ ap (λ (z : Instance). scalars_at t (next t z)) (ap (instance_of t) e.1 ∙ e.0)
        ∙ ap (scalars_at t) (sym (successor-one x y p s))
