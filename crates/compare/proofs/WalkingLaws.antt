-- The planned instances are a walk of steps: each is the one after the one before it.
use Rattle.std.proofs.Common.{◌≡◌, refl, sym, ap, ap₂, subst, ◌∙◌, ℕ, zero, suc, ◌<◌, ◌≤◌, ◌+◌, ◌-◌, ℤ, pos, negsuc, ◌+ℤ◌, unsigned_abs, Bool, true, false, not, nat_lt, List, [], ◌∷◌, ◌++◌, length, set, slice_get, replicate, Option, Some, None, ◌⊎◌, inl, inr, arith}
use Rattle.std.proofs.lemmas.List.{length-map}
use Rattle.std.specs.Prelude.{int_lt, unwrap_or, ◌&&◌, if◌then◌else◌, ◌≢◌}
use Rattle.std.proofs.lemmas.Int.{ints}
use Rattle.std.proofs.lemmas.Bool.Decides.{nat_tests}
use Rattle.nest_lang.specs.declared.tree.Stmt.{Stmt}
use Rattle.nest_lang.specs.declared.tree.Head.{Head}
use Rattle.nest_lang.specs.declared.tree.Head.TheVariants.{For, While}
use Rattle.nest_lang.specs.declared.tree.Loop.{Loop}
use Rattle.nest_lang.specs.declared.tree.Part.{Part}
use Rattle.nest_lang.specs.declared.tree.Part.TheVariants as part
use Rattle.nest_lang.specs.declared.state.Outer.{Outer}
use Rattle.nest_lang.specs.Values.{turn_value}
use Rattle.nest_lang.specs.Loops.{Around, inward, outside}
use Rattle.nest_lang.specs.Blocks.{loop_at}
use Rattle.nest_lang.specs.BlockLaws.{IsPresentPart, IsPresentHead}
use Rattle.follow.specs.Forecasts.{Forecast}
use Rattle.follow.specs.Plans.{item, turns_in, plan_block, plan_turn, plan_turns, plan_whiles, plan_loop, plan_loops, plan_tested, plan_outer, planned, Item, Evaluates}
use Rattle.domain.specs.Tables.{Table, block_at, repeats, trip, cut, depth, counters, counters_by, is_while, Level, IsTable}
use Rattle.domain.specs.Tables as tables
use Rattle.domain.specs.Shapes.{IsTableOf, kind_of}
use Rattle.domain.specs.Instances.{Instance, instance, counter, opening_at}
use Rattle.domain.specs.Steps.{turned, left_by, head_rank, next_turn, after_loop, ends_loop, next, next_by}
use Rattle.domain.proofs.PointLaws.{trip-cut}
use Rattle.domain.proofs.RankLaws.{Stands, stands, text_at, text-stands, ranks-rise}
use Rattle.domain.proofs.WithinLaws.{counters-of}
use Rattle.domain.proofs.StepLaws.{next_turn-outermost, turn-repeats, turn-more, turn-last, next-of, next-head, next-pre, next-post}
use Rattle.domain.proofs.LeadLaws.{head-next, pre-next, First, FirstHead, FirstPre, FirstInner, first}
use Rattle.follow_chunk.specs.Predicted.{padded_to as point}
use Rattle.compare.proofs.PointLaws.{point-get, point-zero, point-none, point-set, cut-point, cut-last, last-at, length-more, point-turned, after_loop-cut}
use Rattle.compare.proofs.TableBlockLaws.{part-stands, part-here, repeats-is, rank-here}

-- what comes before the turns that are expected, and not after
pub turn-comes : (z : ℤ) (i : ℕ) → i < turns_in z → int_lt (pos i) z ≡ true
turn-comes (pos n) i h = let e : nat_lt i n ≡ true = grind (arith, nat_tests) in e
turn-comes (negsuc n) i h = absurd (omega (arith, h))

pub no-turn : (z : ℤ) (i : ℕ) → turns_in z ≤ i → int_lt (pos i) z ≡ false
no-turn (pos n) i h = let e : nat_lt i n ≡ false = grind (arith, nat_tests) in e
no-turn (negsuc n) i h = refl

module _ (D n : ℕ) (t : Table) (loops : List Loop) (is : IsTable D t) (of : IsTableOf n loops t) where
  -- an instance of the table is a planned one: it has its block, and its turn numbers with zeros after them
  pub record IsItem (x : Instance) (i : Item) : Type 0 where
    pub stands : Stands t i.at.block.part i.at.block.level x.block
    pub at : x.at ≡ point D i.at.counters
    pub size : length i.at.counters ≡ counters t (block_at t x.block)

  -- the steps from an instance go over these, one after another, to another instance
  abbrev pub Walks : Instance → List Item → Instance → Type 0
  Walks x [] y = x ≡ y
  Walks x (i ∷ is) y = IsItem x i × Walks (next t x) is y

  walks-append : (x : Instance) (is : List Item) (y : Instance) (js : List Item) (z : Instance) → Walks x is y → Walks y js z → Walks x (is ++ js) z
  walks-append x [] y js z h k = subst (λ (w : Instance). Walks w js z) (sym h) k
  walks-append x (i ∷ is) y js z h k = (h.0, walks-append (next t x) is y js z h.1 k)

  walks-from : (x y : Instance) (is : List Item) (z : Instance) → x ≡ y → Walks y is z → Walks x is z
  walks-from x y is z e h = subst (λ (w : Instance). Walks w is z) (sym e) h

  walks-to : (x : Instance) (is : List Item) (y z : Instance) → y ≡ z → Walks x is y → Walks x is z
  walks-to x is y z e h = subst (λ (w : Instance). Walks x is w) e h

  -- ---- steps, by the block

  step : (x : Instance) (part : Part) (level : ℕ) → Stands t part level x.block → next t x ≡ next_by t (block_at t x.block).part level x.block x.at
  step x part level s = next-of t x x (block_at t x.block) (block_at t x.block) refl refl refl ∙ ap (λ (l : ℕ). next_by t (block_at t x.block).part l x.block x.at) s.level-is

  step-head : (x : Instance) (level : ℕ) (ends : Bool) → Stands t part.Head level x.block → ends_loop t level x.at ≡ ends → next t x ≡ (if ends then after_loop t (level - 1) x.at else instance (x.block + 1) x.at)
  step-head x level ends s e = step x part.Head level s ∙ next-head t level x.block x.at ends (block_at t x.block).part s.part-is e

  step-pre : (x : Instance) (level : ℕ) (more : Bool) → Stands t part.Pre level x.block → nat_lt level (depth t) ≡ more → next t x ≡ (if more then instance (x.block + 1) x.at else next_turn t (level - 1) x.at)
  step-pre x level more s e = step x part.Pre level s ∙ next-pre t level x.block x.at more (block_at t x.block).part s.part-is e

  step-post : (x : Instance) (level : ℕ) → Stands t part.Post level x.block → next t x ≡ next_turn t (level - 1) x.at
  step-post x level s = step x part.Post level s ∙ next-post t level x.block x.at (block_at t x.block).part s.part-is

  -- ---- where a turn begins

  -- an instance stands where a turn begins: at the block before the next loop, and without one at the head of that loop
  record Starts (level : ℕ) (cs : List ℤ) (x : Instance) : Type 0 where
    at : x.at ≡ point D cs
    front : Stands t part.Pre level x.block ⊎ (Stands t part.Head (suc level) x.block × ((r : ℕ) → Stands t part.Pre level r → ⊥))

  starts-behind : (level : ℕ) (cs : List ℤ) (h : ℕ) (xs : List ℤ) → 1 ≤ level → level ≤ D → Stands t part.Head level h → xs ≡ point D cs → Starts level cs (instance (h + 1) xs)
  starts-behind level cs h xs from to s e = record { at = e; front = by (head-next D t is level h from to s).1 }
    where
      -- nothing stands between a head and what follows it
      between : Stands t part.Head (suc level) (h + 1) → (r : ℕ) → Stands t part.Pre level r → ⊥
      between k r there =
          let a = text-stands D t is part.Head level h s in
          let b = text-stands D t is part.Head (suc level) (h + 1) k in
          let c = text-stands D t is part.Pre level r there in
          let low = ranks-rise D t is h r s.inside (omega arith) in
          let high = ranks-rise D t is r (h + 1) there.inside (omega arith) in
          omega arith

      by : Stands t part.Pre level (h + 1) ⊎ Stands t part.Head (suc level) (h + 1) → Stands t part.Pre level (h + 1) ⊎ (Stands t part.Head (suc level) (h + 1) × ((r : ℕ) → Stands t part.Pre level r → ⊥))
      by (inl k) = inl k
      by (inr k) = inr (k, between k)

  -- ---- one turn

  module _ (level : ℕ) (l : Loop) (here : loop_at loops level ≡ Some l) (from : 1 ≤ level) (plan : Around → List Item) (a : Around) (size : length a.counters ≡ level) where
    P : List ℤ
    P = point D a.counters

    whole : cut level (point D a.counters) ≡ point D a.counters
    whole = ap (λ (k : ℕ). cut k (point D a.counters)) (sym size) ∙ cut-point D a.counters

    pre-walks : (ss : List Stmt) → l.pre ≡ ss → (x : Instance) → level < D → Starts level a.counters x
        → (y : Instance) × Walks x (plan_block part.Pre level a ss) y × (y.at ≡ point D a.counters) × Stands t part.Head (suc level) y.block
    pre-walks [] e x deep s = by s.front
      where
        by : Stands t part.Pre level x.block ⊎ (Stands t part.Head (suc level) x.block × ((r : ℕ) → Stands t part.Pre level r → ⊥))
            → (y : Instance) × Walks x [] y × (y.at ≡ point D a.counters) × Stands t part.Head (suc level) y.block
        by (inl k) = absurd (part-here D n t loops is of part.Pre level x.block l here k e)
        by (inr k) = (x, refl, s.at, k.0)
    pre-walks (q ∷ qs) e x deep s = by s.front
      where
        some : l.pre ≢ []
        some f = let g : q ∷ qs ≡ [] = sym e ∙ f in cc

        by : Stands t part.Pre level x.block ⊎ (Stands t part.Head (suc level) x.block × ((r : ℕ) → Stands t part.Pre level r → ⊥))
            → (y : Instance) × Walks x (plan_block part.Pre level a (q ∷ qs)) y × (y.at ≡ point D a.counters) × Stands t part.Head (suc level) y.block
        by (inl k) =
            let more : nat_lt level (depth t) ≡ true = let d = is.deep in grind (arith, nat_tests) in (
              instance (x.block + 1) x.at,
              (record { stands = k; at = s.at; size = size ∙ sym (counters-of t part.Pre level x.block k) }, step-pre x level true k more),
              s.at,
              (pre-next D t is level x.block from deep k).1,
            )
        by (inr k) = let r = part-stands D n t loops is of part.Pre level l here some in absurd (k.1 r.0 r.1)

    -- the block behind the inner loops, from where these lead
    post-walks : (ss : List Stmt) → l.post ≡ ss → Walks (after_loop t level (point D a.counters)) (plan_block part.Post level a ss) (next_turn t (level - 1) (point D a.counters))
    post-walks [] e = by (tables.rank_of t part.Post level) refl
      where
        by : (o : Option ℕ) → tables.rank_of t part.Post level ≡ o → left_by (tables.rank_of t part.Post level) (cut level (point D a.counters)) (next_turn t (level - 1) (point D a.counters)) ≡ next_turn t (level - 1) (point D a.counters)
        by None f = ap (λ (o : Option ℕ). left_by o (cut level (point D a.counters)) (next_turn t (level - 1) (point D a.counters))) f
        by (Some r) f = absurd (part-here D n t loops is of part.Post level r l here (stands t part.Post level r f) e)
    post-walks (q ∷ qs) e =
        let some : l.post ≢ [] = λ f. let g : q ∷ qs ≡ [] = sym e ∙ f in cc in
        let (r, k) = part-stands D n t loops is of part.Post level l here some in
        let found : after_loop t level (point D a.counters) ≡ instance r (point D a.counters) =
        ap (λ (o : Option ℕ). left_by o (cut level (point D a.counters)) (next_turn t (level - 1) (point D a.counters))) (rank-here D n t loops is of part.Post level r k) ∙ ap (instance r) whole in
        walks-from (after_loop t level (point D a.counters)) (instance r (point D a.counters)) (plan_block part.Post level a (q ∷ qs)) (next_turn t (level - 1) (point D a.counters)) found
        (record { stands = k; at = refl; size = size ∙ sym (counters-of t part.Post level r k) }, step-post (instance r (point D a.counters)) level k)

    turn-walks : (x : Instance) → (level < D) ⊎ ((level ≡ D) × (plan a ≡ [])) → Starts level a.counters x
        → (level < D → (y : Instance) → y.at ≡ point D a.counters → Stands t part.Head (suc level) y.block → Walks y (plan a) (after_loop t level (point D a.counters)))
        → Walks x (plan_turn level l plan a) (next_turn t (level - 1) (point D a.counters))
    turn-walks x (inl deep) s inner =
        let (y, pre, at, k) = pre-walks l.pre refl x deep s in
        walks-append x (plan_block part.Pre level a l.pre) y (plan a ++ plan_block part.Post level a l.post) (next_turn t (level - 1) (point D a.counters)) pre
        (walks-append y (plan a) (after_loop t level (point D a.counters)) (plan_block part.Post level a l.post) (next_turn t (level - 1) (point D a.counters)) (inner deep y at k) (post-walks l.post refl))
    turn-walks x (inr last) s inner = by s.front
      where
        no-post : (ss : List Stmt) → l.post ≡ ss → plan_block part.Post level a ss ≡ []
        no-post [] e = refl
        no-post (q ∷ qs) e =
            let some : l.post ≢ [] = λ f. let g : q ∷ qs ≡ [] = sym e ∙ f in cc in
            let (r, k) = part-stands D n t loops is of part.Post level l here some in
            let outer = (is.blocks r k.inside).outer k.part-is in
            let f = k.level-is in
            let g = last.0 in
            absurd (omega arith)

        alone : Stands t part.Pre level x.block → (ss : List Stmt) → l.pre ≡ ss → Walks x (plan_block part.Pre level a ss) (next_turn t (level - 1) (point D a.counters))
        alone k [] e = absurd (part-here D n t loops is of part.Pre level x.block l here k e)
        alone k (q ∷ qs) e =
            let none : nat_lt level (depth t) ≡ false = let d = is.deep in let g = last.0 in grind (arith, nat_tests) in
            (record { stands = k; at = s.at; size = size ∙ sym (counters-of t part.Pre level x.block k) }, step-pre x level false k none ∙ ap (next_turn t (level - 1)) s.at)

        by : Stands t part.Pre level x.block ⊎ (Stands t part.Head (suc level) x.block × ((r : ℕ) → Stands t part.Pre level r → ⊥)) → Walks x (plan_turn level l plan a) (next_turn t (level - 1) (point D a.counters))
        by (inl k) =
            walks-append x (plan_block part.Pre level a l.pre) (next_turn t (level - 1) (point D a.counters)) (plan a ++ plan_block part.Post level a l.post) (next_turn t (level - 1) (point D a.counters))
            (alone k l.pre refl) (subst (λ (is : List Item). Walks (next_turn t (level - 1) (point D a.counters)) is (next_turn t (level - 1) (point D a.counters))) (sym (ap₂ (λ (us vs : List Item). us ++ vs) last.1 (no-post l.post refl))) refl)
        by (inr k) =
            let low = (is.blocks x.block k.0.inside).to in
            let f = k.0.level-is in
            let g = last.0 in
            absurd (omega arith)

  -- ---- loops

  module _ (p : Forecast) (trips : (level : ℕ) (cs : List ℤ) → 2 ≤ level → p.trip (record { part = part.Head; level = level }) cs ≡ trip t (level - 1) (point D cs)) where
    module _ (level : ℕ) (l : Loop) (here : loop_at loops level ≡ Some l) (from : 2 ≤ level) (to : level ≤ D) (plan : Around → List Item) (a : Around) (size : length a.counters + 1 ≡ level)
        (each : (b : Around) (x : Instance) → length b.counters ≡ level → Starts level b.counters x → Walks x (plan b) (next_turn t (level - 1) (point D b.counters)))
        (h : ℕ) (head : Stands t part.Head level h) where
      abbrev T : ℤ
      T = p.trip (record { part = part.Head; level = level }) a.counters

      abbrev Q : ℕ → List ℤ
      Q i = point D (a.counters ++ pos i ∷ [])

      abbrev end : Instance
      end = after_loop t (level - 1) (point D a.counters)

      around : level - 1 ≡ length a.counters
      around = omega (arith, size)

      cut-around : (i : ℕ) → cut (level - 1) (Q i) ≡ point D a.counters
      cut-around i = ap (λ (m : ℕ). cut m (point D (a.counters ++ pos i ∷ []))) around ∙ cut-last D a.counters (pos i)

      trip-at : (i : ℕ) → trip t (level - 1) (Q i) ≡ T
      trip-at i = sym (trip-cut t (level - 1) (level - 1) (point D (a.counters ++ pos i ∷ [])) (omega arith)) ∙ ap (trip t (level - 1)) (cut-around i) ∙ sym (trips level a.counters from)

      counter-at : (i : ℕ) → counter (Q i) (level - 1) ≡ pos i
      counter-at i =
          let long = length-more a.counters (pos i) in
          ap (λ (m : ℕ). counter (point D (a.counters ++ pos i ∷ [])) m) around ∙ point-get D (a.counters ++ pos i ∷ []) (length a.counters) (omega (arith, size, to)) ∙ last-at a.counters (pos i)

      one-more : (i : ℕ) → pos i +ℤ pos 1 ≡ pos (i + 1)
      one-more i = omega (arith, ints)

      turned-at : (i : ℕ) → Q (i + 1) ≡ turned (level - 1) (Q i)
      turned-at i =
          sym (ap (λ (m : ℕ). turned m (point D (a.counters ++ pos i ∷ []))) around ∙ point-turned D a.counters (pos i) (omega (arith, size, to)) ∙ ap (λ (z : ℤ). point D (a.counters ++ z ∷ [])) (one-more i))

      leaves : (i : ℕ) → after_loop t (level - 1) (Q i) ≡ end
      leaves i = sym (after_loop-cut t (level - 1) (point D (a.counters ++ pos i ∷ [])) (omega (arith, from))) ∙ ap (after_loop t (level - 1)) (cut-around i)

      head-is : h ≡ head_rank t (level - 1 + 1)
      head-is =
          let e : level ≡ level - 1 + 1 = omega (arith, from) in
          sym (ap (λ (o : Option ℕ). unwrap_or o 0) (rank-here D n t loops is of part.Head level h head)) ∙ ap (λ (m : ℕ). unwrap_or (tables.rank_of t part.Head m) 0) e

      goes-on : (i : ℕ) (b : Bool) → int_lt (pos i) T ≡ b → ends_loop t level (Q i) ≡ not b
      goes-on i b e =
          let deep : nat_lt 1 level ≡ true = let f = from in grind (arith, nat_tests) in
          ap₂ (λ (x y : Bool). x && not y) deep (ap₂ int_lt (counter-at i) (trip-at i) ∙ e)

      turns-on : (i : ℕ) (b : Bool) → int_lt (pos (i + 1)) T ≡ b → int_lt (counter (Q i) (level - 1) +ℤ pos 1) (trip t (level - 1) (Q i)) ≡ b
      turns-on i b e = ap₂ int_lt (ap (λ (z : ℤ). z +ℤ pos 1) (counter-at i) ∙ one-more i) (trip-at i) ∙ e

      begins : (i : ℕ) (xs : List ℤ) → xs ≡ Q i → Starts level (a.counters ++ pos i ∷ []) (instance (h + 1) xs)
      begins i xs e = starts-behind level (a.counters ++ pos i ∷ []) h xs (omega (arith, from)) to head e

      in-turn : (i : ℕ) (v : ℤ) (x : Instance) → Starts level (a.counters ++ pos i ∷ []) x → Walks x (plan (inward a i v)) (next_turn t (level - 1) (Q i))
      in-turn i v x s = each (inward a i v) x (length-more a.counters (pos i) ∙ size) s

      some : 1 ≤ level - 1
      some = omega (arith, from)

      turns-walk : repeats t (level - 1) ≡ false → (m i : ℕ) (x : Instance) (value : ℕ → ℤ) → i + suc m ≡ turns_in T → Starts level (a.counters ++ pos i ∷ []) x
          → Walks x (plan_turns (suc m) i (λ j. plan (inward a j (value j)))) end
      turns-walk w zero i x value sum s =
          walks-append x (plan (inward a i (value i))) (next_turn t (level - 1) (Q i)) [] end (in-turn i (value i) x s)
          (sym (turn-last t (level - 1) (Q i) some w (turns-on i false (no-turn T (i + 1) (omega (arith, sum))))) ∙ leaves i)
      turns-walk w (suc m) i x value sum s =
          walks-append x (plan (inward a i (value i))) (next_turn t (level - 1) (Q i)) (plan_turns (suc m) (i + 1) (λ j. plan (inward a j (value j)))) end (in-turn i (value i) x s)
          (walks-from (next_turn t (level - 1) (Q i)) (instance (h + 1) (Q (i + 1))) (plan_turns (suc m) (i + 1) (λ j. plan (inward a j (value j)))) end
          (sym (turn-more t (level - 1) (Q i) some h (Q (i + 1)) w (turns-on i true (turn-comes T (i + 1) (omega (arith, sum)))) head-is (turned-at i)))
          (turns-walk w m (i + 1) (instance (h + 1) (Q (i + 1))) value (omega (arith, sum)) (begins (i + 1) (Q (i + 1)) refl)))

      step-at : (i : ℕ) (b : Bool) → int_lt (pos i) T ≡ b → next t (instance h (Q i)) ≡ (if not b then after_loop t (level - 1) (Q i) else instance (h + 1) (Q i))
      step-at i b e = step-head (instance h (Q i)) level (not b) head (goes-on i b e)

      for-walk : repeats t (level - 1) ≡ false → (m : ℕ) (value : ℕ → ℤ) → m ≡ turns_in T → Walks (next t (instance h (Q 0))) (plan_turns m 0 (λ j. plan (inward a j (value j)))) end
      for-walk w zero value e = step-at 0 false (no-turn T 0 (omega (arith, e))) ∙ leaves 0
      for-walk w (suc m) value e =
          walks-from (next t (instance h (Q 0))) (instance (h + 1) (Q 0)) (plan_turns (suc m) 0 (λ j. plan (inward a j (value j)))) end (step-at 0 true (turn-comes T 0 (omega (arith, e))))
          (turns-walk w m 0 (instance (h + 1) (Q 0)) value (omega (arith, e)) (begins 0 (Q 0) refl))

      counters-head : (w : Bool) → repeats t (level - 1) ≡ w → counters t (block_at t h) ≡ counters_by part.Head w level
      counters-head w e = counters-of t part.Head level h head ∙ ap (λ (b : Bool). counters_by part.Head b level) e

      test-item : repeats t (level - 1) ≡ true → (i : ℕ) (hd : Head) → IsItem (instance h (Q i)) (item part.Head level (inward a i (pos i)) (Evaluates hd))
      test-item w i hd = record { stands = head; at = refl; size = length-more a.counters (pos i) ∙ size ∙ sym (counters-head true w) }

      whiles-walk : repeats t (level - 1) ≡ true → (m i : ℕ) (hd : Head) → i + m ≡ turns_in T
          → Walks (instance h (Q i)) (plan_whiles m i (λ j. item part.Head level (inward a j (pos j)) (Evaluates hd)) (λ j. plan (inward a j (pos j)))) end
      whiles-walk w zero i hd sum = (test-item w i hd, step-at i false (no-turn T i (omega (arith, sum))) ∙ leaves i)
      whiles-walk w (suc m) i hd sum =
          let more : List Item = plan_whiles m (i + 1) (λ j. item part.Head level (inward a j (pos j)) (Evaluates hd)) (λ j. plan (inward a j (pos j))) in (
            test-item w i hd,
            walks-from (next t (instance h (Q i))) (instance (h + 1) (Q i)) (plan (inward a i (pos i)) ++ more) end (step-at i true (turn-comes T i (omega (arith, sum))))
                (walks-append (instance (h + 1) (Q i)) (plan (inward a i (pos i))) (next_turn t (level - 1) (Q i)) more end (in-turn i (pos i) (instance (h + 1) (Q i)) (begins i (Q i) refl))
                (walks-from (next_turn t (level - 1) (Q i)) (instance h (Q (i + 1))) more end (sym (turn-repeats t (level - 1) (Q i) some h (Q (i + 1)) w head-is (turned-at i)))
                (whiles-walk w m (i + 1) hd (omega (arith, sum))))),
          )

      kind : (hd : Head) → l.head ≡ hd → repeats t (level - 1) ≡ is_while (kind_of hd)
      kind hd e =
          let f : level ≡ suc (level - 1) = omega (arith, from) in
          repeats-is D n t loops is of (level - 1) l (subst (λ (m : ℕ). loop_at loops m ≡ Some l) f here) ∙ ap (λ (z : Head). is_while (kind_of z)) e

      loop-walk : (hd : Head) → l.head ≡ hd → Walks (instance h (point D a.counters)) (plan_loop hd p level hd plan a) end
      loop-walk (For lower upper stride) e =
          let w = kind (For lower upper stride) e in
          let value : ℕ → ℤ = λ j. turn_value (p.lower (record { block = record { part = part.Head; level = level }; counters = a.counters })) stride j in (
            record { stands = head; at = refl; size = omega (arith, size, counters-head false w) },
            walks-from (next t (instance h (point D a.counters))) (next t (instance h (Q 0))) (plan_turns (turns_in T) 0 (λ j. plan (inward a j (value j)))) end (ap (λ (xs : List ℤ). next t (instance h xs)) (sym (point-zero D a.counters)))
                (for-walk w (turns_in T) value refl),
          )
      loop-walk (While condition) e =
          walks-from (instance h (point D a.counters)) (instance h (Q 0)) (plan_whiles (turns_in T) 0 (λ j. item part.Head level (inward a j (pos j)) (Evaluates (While condition))) (λ j. plan (inward a j (pos j)))) end
          (ap (instance h) (sym (point-zero D a.counters))) (whiles-walk (kind (While condition) e) (turns_in T) 0 (While condition) (omega arith))

    -- the loops of a nest from a level on
    abbrev At : ℕ → List Loop → Type 0
    At level ls = (k : ℕ) → loop_at loops (level + k) ≡ slice_get ls k

    at-first : (level : ℕ) (l : Loop) (ls : List Loop) → At level (l ∷ ls) → loop_at loops level ≡ Some l
    at-first level l ls at = let e : level + 0 ≡ level = omega arith in ap (loop_at loops) (sym e) ∙ at 0

    at-rest : (level : ℕ) (l : Loop) (ls : List Loop) → At level (l ∷ ls) → At (level + 1) ls
    at-rest level l ls at k = let e : level + 1 + k ≡ level + suc k = omega arith in ap (loop_at loops) e ∙ at (suc k)

    deeper : (level : ℕ) (ls : List Loop) (b : Around) → level + length ls ≡ D → (level < D) ⊎ ((level ≡ D) × (plan_loops p (level + 1) ls b ≡ []))
    deeper level [] b e = inr (omega (arith, e), refl)
    deeper level (m ∷ ms) b e = inl (omega (arith, e))

    abbrev Inner : ℕ → List Loop → Type 0
    Inner level ls = (a : Around) (y : Instance) → length a.counters + 1 ≡ level → level ≤ D → y.at ≡ point D a.counters → Stands t part.Head level y.block → Walks y (plan_loops p level ls a) (after_loop t (level - 1) (point D a.counters))

    one-turn : (level : ℕ) (l : Loop) (ls : List Loop) → 1 ≤ level → level + length ls ≡ D → loop_at loops level ≡ Some l → Inner (level + 1) ls
        → (b : Around) (x : Instance) → length b.counters ≡ level → Starts level b.counters x → Walks x (plan_turn level l (plan_loops p (level + 1) ls) b) (next_turn t (level - 1) (point D b.counters))
    one-turn level l ls from deep here inner b x size s =
        turn-walks level l here from (plan_loops p (level + 1) ls) b size x (deeper level ls b deep) s
        (λ less y at k.
        let e : level + 1 - 1 ≡ level = omega arith in
        let f : suc level ≡ level + 1 = omega arith in
        walks-to y (plan_loops p (level + 1) ls b) (after_loop t (level + 1 - 1) (point D b.counters)) (after_loop t level (point D b.counters)) (ap (λ (m : ℕ). after_loop t m (point D b.counters)) e)
        (inner b y (omega (arith, size)) (omega arith) at (subst (λ (m : ℕ). Stands t part.Head m y.block) f k)))

    loops-walk : (ls : List Loop) (level : ℕ) → 2 ≤ level → level + length ls ≡ D + 1 → At level ls → Inner level ls
    loops-walk [] level from deep at a y size to is_at k = absurd (omega (arith, deep, to))
    loops-walk (l ∷ ls) level from deep at a y size to is_at k =
        walks-from y (instance y.block (point D a.counters)) (plan_loops p level (l ∷ ls) a) (after_loop t (level - 1) (point D a.counters)) (ap (instance y.block) is_at)
        (loop-walk level l (at-first level l ls at) from to (plan_turn level l (plan_loops p (level + 1) ls)) a size
        (one-turn level l ls (omega (arith, from)) (omega (arith, deep)) (at-first level l ls at) (loops-walk ls (level + 1) (omega (arith, from)) (omega (arith, deep)) (at-rest level l ls at)))
        y.block k l.head refl)

    -- ---- the outermost loop

    opening-point : (z : ℤ) → opening_at t z ≡ instance 0 (point D (z ∷ []))
    opening-point z =
        let e : replicate (depth t) (pos 0) ≡ point D [] = ap (λ (m : ℕ). replicate m (pos 0)) is.deep ∙ sym (point-none D) in
        ap (λ (xs : List ℤ). instance 0 (set xs 0 z)) e ∙ ap (instance 0) (point-set D [] z)

    module _ (l : Loop) (ls : List Loop) (nest : loops ≡ l ∷ ls) (deep : 1 + length ls ≡ D) where
      at-one : At 1 (l ∷ ls)
      at-one k = let e : 1 + k ≡ suc k = omega arith in ap (loop_at loops) e ∙ ap (λ (xs : List Loop). slice_get xs k) nest

      here-one : loop_at loops 1 ≡ Some l
      here-one = at-first 1 l ls at-one

      abbrev turn : Around → List Item
      turn = plan_turn 1 l (plan_loops p 2 ls)

      inner-walk : Inner 2 ls
      inner-walk = loops-walk ls 2 (omega arith) (omega (arith, deep)) (at-rest 1 l ls at-one)

      -- a turn leads to where the next one opens
      turn-opens : (i : ℕ) (v : ℤ) (x : Instance) → Starts 1 (pos i ∷ []) x → Walks x (turn (inward outside i v)) (opening_at t (pos (i + 1)))
      turn-opens i v x s =
          let e : pos i +ℤ pos 1 ≡ pos (i + 1) = omega (arith, ints) in
          walks-to x (turn (inward outside i v)) (next_turn t 0 (point D (pos i ∷ []))) (opening_at t (pos (i + 1)))
          (next_turn-outermost t 0 (point D (pos i ∷ [])) refl ∙ ap (instance 0) (point-turned D [] (pos i) (omega (arith, deep)) ∙ ap (λ (z : ℤ). point D (z ∷ [])) e) ∙ sym (opening-point (pos (i + 1))))
          (one-turn 1 l ls (omega arith) deep here-one inner-walk (inward outside i v) x refl s)

      opens : repeats t 0 ≡ false → (i : ℕ) → Starts 1 (pos i ∷ []) (instance 0 (point D (pos i ∷ [])))
      opens w i = record { at = refl; front = by (first D t is) }
        where
          none : Stands t part.Head 2 0 → (r : ℕ) → Stands t part.Pre 1 r → ⊥
          none k r there =
              let a = text-stands D t is part.Head 2 0 k in
              let b = text-stands D t is part.Pre 1 r there in
              let low = ranks-rise D t is r 0 there.inside (omega arith) in
              omega arith

          by : First D t is → Stands t part.Pre 1 0 ⊎ (Stands t part.Head (suc 1) 0 × ((r : ℕ) → Stands t part.Pre 1 r → ⊥))
          by (FirstHead k while) = absurd (let e : true ≡ false = sym while ∙ w in cc)
          by (FirstPre k) = inl k
          by (FirstInner k more) = inr (k, none k)

      -- the head of an outermost `while` is the first block
      head-first : (r : ℕ) → Stands t part.Head 1 r → Stands t part.Head 1 0
      head-first r head = by (first D t is)
        where
          before : text_at D t is r < text_at D t is 0 → ⊥
          before less = let low = ranks-rise D t is r 0 head.inside less in omega arith

          by : First D t is → Stands t part.Head 1 0
          by (FirstHead k while) = k
          by (FirstPre k) = absurd (before (let a = text-stands D t is part.Pre 1 0 k in let b = text-stands D t is part.Head 1 r head in omega arith))
          by (FirstInner k more) = absurd (before (let a = text-stands D t is part.Head 2 0 k in let b = text-stands D t is part.Head 1 r head in omega arith))

      for-turns : repeats t 0 ≡ false → (c i : ℕ) (value : ℕ → ℤ) → Walks (opening_at t (pos i)) (plan_turns c i (λ j. turn (inward outside j (value j)))) (opening_at t (pos (i + c)))
      for-turns w zero i value = let e : i ≡ i + 0 = omega arith in ap (λ (m : ℕ). opening_at t (pos m)) e
      for-turns w (suc c) i value =
          let e : i + 1 + c ≡ i + suc c = omega arith in
          walks-from (opening_at t (pos i)) (instance 0 (point D (pos i ∷ []))) (plan_turns (suc c) i (λ j. turn (inward outside j (value j)))) (opening_at t (pos (i + suc c))) (opening-point (pos i))
          (walks-append (instance 0 (point D (pos i ∷ []))) (turn (inward outside i (value i))) (opening_at t (pos (i + 1))) (plan_turns c (i + 1) (λ j. turn (inward outside j (value j)))) (opening_at t (pos (i + suc c)))
          (turn-opens i (value i) (instance 0 (point D (pos i ∷ []))) (opens w i))
          (walks-to (opening_at t (pos (i + 1))) (plan_turns c (i + 1) (λ j. turn (inward outside j (value j)))) (opening_at t (pos (i + 1 + c))) (opening_at t (pos (i + suc c))) (ap (λ (m : ℕ). opening_at t (pos m)) e)
          (for-turns w c (i + 1) value)))

      test-walk : repeats t 0 ≡ true → Stands t part.Head 1 0 → (i : ℕ) (hd : Head) → IsItem (instance 0 (point D (pos i ∷ []))) (item part.Head 1 (inward outside i (pos i)) (Evaluates hd)) × (next t (instance 0 (point D (pos i ∷ []))) ≡ instance 1 (point D (pos i ∷ [])))
      test-walk w head i hd = (
        record { stands = head; at = refl; size = sym (counters-of t part.Head 1 0 head ∙ ap (λ (b : Bool). counters_by part.Head b 1) w) },
        step-head (instance 0 (point D (pos i ∷ []))) 1 false head refl,
      )

      tested-turns : repeats t 0 ≡ true → Stands t part.Head 1 0 → (c i : ℕ) (hd : Head)
          → Walks (opening_at t (pos i)) (plan_tested c i (λ j. item part.Head 1 (inward outside j (pos j)) (Evaluates hd)) (λ j. turn (inward outside j (pos j)))) (opening_at t (pos (i + c)))
      tested-turns w head zero i hd = let e : i ≡ i + 0 = omega arith in ap (λ (m : ℕ). opening_at t (pos m)) e
      tested-turns w head (suc c) i hd =
          let e : i + 1 + c ≡ i + suc c = omega arith in
          let more : List Item = plan_tested c (i + 1) (λ j. item part.Head 1 (inward outside j (pos j)) (Evaluates hd)) (λ j. turn (inward outside j (pos j))) in
          let one = test-walk w head i hd in
          let front : Starts 1 (pos i ∷ []) (instance 1 (point D (pos i ∷ []))) = starts-behind 1 (pos i ∷ []) 0 (point D (pos i ∷ [])) (omega arith) (omega (arith, deep)) head refl in
          walks-from (opening_at t (pos i)) (instance 0 (point D (pos i ∷ []))) (item part.Head 1 (inward outside i (pos i)) (Evaluates hd) ∷ (turn (inward outside i (pos i)) ++ more)) (opening_at t (pos (i + suc c))) (opening-point (pos i)) (
            one.0,
            walks-from (next t (instance 0 (point D (pos i ∷ [])))) (instance 1 (point D (pos i ∷ []))) (turn (inward outside i (pos i)) ++ more) (opening_at t (pos (i + suc c))) one.1
                (walks-append (instance 1 (point D (pos i ∷ []))) (turn (inward outside i (pos i))) (opening_at t (pos (i + 1))) more (opening_at t (pos (i + suc c)))
                (turn-opens i (pos i) (instance 1 (point D (pos i ∷ []))) front)
                (walks-to (opening_at t (pos (i + 1))) more (opening_at t (pos (i + 1 + c))) (opening_at t (pos (i + suc c))) (ap (λ (m : ℕ). opening_at t (pos m)) e) (tested-turns w head c (i + 1) hd))),
          )

      outer-kind : (hd : Head) → l.head ≡ hd → repeats t 0 ≡ is_while (kind_of hd)
      outer-kind hd e = repeats-is D n t loops is of 0 l (ap (λ (xs : List Loop). slice_get xs 0) nest) ∙ ap (λ (z : Head). is_while (kind_of z)) e

      outer-walk : (hd : Head) → l.head ≡ hd → (o : Outer) (c : ℕ) → Walks (opening_at t (pos (unsigned_abs o.next))) (plan_outer hd hd turn o c) (opening_at t (pos (unsigned_abs o.next + c)))
      outer-walk (For lower upper stride) e o c = for-turns (outer-kind (For lower upper stride) e) c (unsigned_abs o.next) (λ j. turn_value o.lower stride j)
      outer-walk (While condition) e o c =
          let some : IsPresentPart part.Head 1 l = subst (λ (z : Head). IsPresentHead z 1) (sym e) (omega arith) in
          let (r, head) = part-stands D n t loops is of part.Head 1 l here-one some in
          tested-turns (outer-kind (While condition) e) (head-first r head) c (unsigned_abs o.next) (While condition)

    -- the planned instances of some turns are a walk, from where the first turn opens to where the turn after them opens
    pub planned-walk : (o : Outer) (c : ℕ) → Walks (opening_at t (pos (unsigned_abs o.next))) (planned p loops o c) (opening_at t (pos (unsigned_abs o.next + c)))
    unfolding planned
    planned-walk o c = by loops refl
      where
        deep : length loops ≡ D
        deep = sym (sym is.deep ∙ sym (length-map t.levels (λ (v : Level). v.kind)) ∙ ap length of.levels ∙ length-map loops (λ (v : Loop). kind_of v.head))

        by : (ls : List Loop) → loops ≡ ls → Walks (opening_at t (pos (unsigned_abs o.next))) (planned p ls o c) (opening_at t (pos (unsigned_abs o.next + c)))
        by [] e = absurd (let some = is.some in let f = ap length e in omega (arith, deep))
        by (l ∷ ls) e = outer-walk l ls e (let f = ap length e in omega (arith, deep)) l.head refl o c
