-- The planned instances stand in order.
use Rattle.std.proofs.Common.{◌≡◌, refl, ap, ◌∙◌, sym, subst, ℕ, ℤ, pos, ◌<ℤ◌, unsigned_abs, zero, suc, ◌+◌, ◌-◌, ◌<◌, ◌≤◌, ◌⊎◌, inl, inr, List, [], ◌∷◌, ◌++◌, length, map, append_assoc, arith, Ordering, Less, int_cmp}
use Rattle.std.proofs.lemmas.Int.{ints}
use Rattle.std.specs.List.{AllByRecursion}
use Rattle.std.specs.Cmp.{int_cmp_is}
use Rattle.std.specs.Cmp.Lexicographic.{slice_cmp}
use Rattle.std.specs.Ordering.{ordering_then}
use Rattle.std.proofs.lemmas.Cmp.{tied_itself, int_cmp_total}
use Rattle.nest_lang.specs.declared.tree.Stmt.{Stmt}
use Rattle.nest_lang.specs.declared.tree.Head.{Head}
use Rattle.nest_lang.specs.declared.tree.Head.TheVariants.{For, While}
use Rattle.nest_lang.specs.declared.tree.Loop.{Loop}
use Rattle.nest_lang.specs.declared.tree.Part.{Part}
use Rattle.nest_lang.specs.declared.tree.Part.TheVariants as part
use Rattle.nest_lang.specs.declared.state.Outer.{Outer}
use Rattle.nest_lang.specs.Values.{turn_value}
use Rattle.nest_lang.specs.Loops.{Around, inward, outside}
use Rattle.orders.specs.Orders.{Ordered, Precedes}
use Rattle.follow.specs.Forecasts.{Forecast}
use Rattle.follow.specs.Plans.{item, turns_in, plan_block, plan_turn, plan_turns, plan_whiles, plan_loop, plan_loops, plan_tested, plan_outer, planned, Item, Work, Evaluates}
use Rattle.follow.specs.OriginalOrder.{zeros, turns_and_zeros, key, PlannedInOrder}

-- lists
module _ {X : Type 0} where
  pub all-append : (P : X → Type 0) (xs ys : List X) → AllByRecursion P xs → AllByRecursion P ys → AllByRecursion P (xs ++ ys)
  all-append P [] ys h i = i
  all-append P (x ∷ xs) ys h i = (h.0, all-append P xs ys h.1 i)

  pub all-map : (P Q : X → Type 0) (xs : List X) → ((x : X) → P x → Q x) → AllByRecursion P xs → AllByRecursion Q xs
  all-map P Q [] go h = tt
  all-map P Q (x ∷ xs) go h = (go x h.0, all-map P Q xs go h.1)

  ordered-append : (R : X → X → Type 0) (P Q : X → Type 0) (xs ys : List X) → AllByRecursion P xs → AllByRecursion Q ys → ((x y : X) → P x → Q y → R x y) → Ordered R xs → Ordered R ys → Ordered R (xs ++ ys)
  ordered-append R P Q [] ys h i go a b = b
  ordered-append R P Q (x ∷ xs) ys h i go a b = (all-append (R x) xs ys a.0 (all-map Q (R x) ys (λ y q. go x y h.0 q) i), ordered-append R P Q xs ys h.1 i go a.1 b)

-- the order of lists of numbers
abbrev Under : List ℕ → List ℕ → Type 0
Under [] ys = ⊥
Under (x ∷ xs) [] = ⊥
Under (x ∷ xs) (y ∷ ys) = (x < y) ⊎ ((x ≡ y) × Under xs ys)

under-front : (cs xs ys : List ℕ) → Under xs ys → Under (cs ++ xs) (cs ++ ys)
under-front [] xs ys h = h
under-front (c ∷ cs) xs ys h = inr (refl, under-front cs xs ys h)

zeros-under : (d : ℕ) (r : List ℕ) (m n : ℕ) → length r ≡ d → m < n → Under (zeros d ++ m ∷ []) (r ++ n ∷ [])
zeros-under zero [] m n size h = inl h
zeros-under zero (x ∷ r) m n size h = absurd (omega (arith, size))
zeros-under (suc d) [] m n size h = absurd (omega (arith, size))
zeros-under (suc d) (zero ∷ r) m n size h = inr (refl, zeros-under d r m n (omega (arith, size)) h)
zeros-under (suc d) (suc k ∷ r) m n size h = inl (omega arith)

pub length-zeros : (d : ℕ) → length (zeros d) ≡ d
length-zeros zero = refl
length-zeros (suc d) = ap suc (length-zeros d)

pub length-turns_and_zeros : (d n : ℕ) → length (turns_and_zeros d n) ≡ d
length-turns_and_zeros zero n = refl
length-turns_and_zeros (suc d) n = ap suc (length-zeros d)

abbrev UpTo : ℕ → ℕ → List ℕ → Type 0
UpTo n turn rest = (turn < n) ⊎ ((turn ≡ n) × (rest ≡ zeros (length rest)))

upto-under : (d turn n : ℕ) (rest : List ℕ) (m k : ℕ) → UpTo n turn rest → suc (length rest) ≡ d → m < k → Under (turn ∷ (rest ++ m ∷ [])) (turns_and_zeros d n ++ k ∷ [])
upto-under zero turn n rest m k h size less = absurd (omega (arith, size))
upto-under (suc d) turn n rest m k (inl h) size less = inl h
upto-under (suc d) turn n rest m k (inr h) size less =
    let even : length rest ≡ d = omega (arith, size) in
    inr (h.0, subst (λ (zs : List ℕ). Under (zs ++ m ∷ []) (zeros d ++ k ∷ [])) (sym (h.1 ∙ ap zeros even)) (zeros-under d (zeros d) m k (length-zeros d) less))

upto-zero : (n d : ℕ) → UpTo n 0 (zeros d)
upto-zero zero d = inr (refl, sym (ap zeros (length-zeros d)))
upto-zero (suc n) d = inl (omega arith)

under-less : (xs ys : List ℕ) → Under xs ys → slice_cmp int_cmp (map pos xs) (map pos ys) ≡ Less
under-less [] ys h = absurd h
under-less (x ∷ xs) [] h = absurd h
under-less (x ∷ xs) (y ∷ ys) (inl h) = step-less (pos x) (pos y) (slice_cmp int_cmp (map pos xs) (map pos ys)) (omega (arith, ints))
  where
    step-less : (a b : ℤ) (o : Ordering) → a <ℤ b → ordering_then (int_cmp a b) o ≡ Less
    step-less a b o l = ap (λ (r : Ordering). ordering_then r o) (sym (int_cmp_is a b Less l))
under-less (x ∷ xs) (y ∷ ys) (inr h) = step-same (pos x) (pos y) (slice_cmp int_cmp (map pos xs) (map pos ys)) (ap pos h.0) ∙ under-less xs ys h.1
  where
    step-same : (a b : ℤ) (o : Ordering) → a ≡ b → ordering_then (int_cmp a b) o ≡ o
    step-same a b o e = ap (λ (z : ℤ). ordering_then (int_cmp a z) o) (sym e) ∙ ap (λ (r : Ordering). ordering_then r o) (tied_itself int_cmp_total a)

-- keys
map-append : (us ws : List ℕ) → map pos us ++ map pos ws ≡ map pos (us ++ ws)
map-append [] ws = refl
map-append (u ∷ us) ws = ap (λ (zs : List ℤ). pos u ∷ zs) (map-append us ws)

key-map : (us ws : List ℕ) (m : ℕ) → (map pos us ++ map pos ws) ++ pos m ∷ [] ≡ map pos (us ++ (ws ++ m ∷ []))
key-map us ws m = append_assoc (map pos us) (map pos ws) (pos m ∷ []) ∙ ap (λ (zs : List ℤ). map pos us ++ zs) (map-append ws (m ∷ [])) ∙ map-append us (ws ++ m ∷ [])

pub length-pos : (us : List ℕ) → length (map pos us) ≡ length us
length-pos [] = refl
length-pos (u ∷ us) = ap suc (length-pos us)

key-of : (D : ℕ) (tail : ℕ → List ℕ) (xs : List ℤ) (cs : List ℕ) (d m : ℕ) → xs ≡ map pos cs → length cs + d ≡ D
    → (xs ++ map pos (tail (D - length xs))) ++ pos m ∷ [] ≡ map pos (cs ++ (tail d ++ m ∷ []))
key-of D tail xs cs d m e size =
    let left : D - length (map pos cs) ≡ d = let is = length-pos cs in omega (arith, is, size) in
    ap (λ (zs : List ℤ). (zs ++ map pos (tail (D - length zs))) ++ pos m ∷ []) e
    ∙ ap (λ (n : ℕ). (map pos cs ++ map pos (tail n)) ++ pos m ∷ []) left
    ∙ key-map cs (tail d) m

module _ (p : Forecast) (D : ℕ) where
  abbrev last-place : ℕ → ℕ
  last-place level = D + D + D + 3 - level

  abbrev Keyed : Item → List ℕ → Type 0
  Keyed x ks = key p D x ≡ map pos ks

  record Earlier (x y : Item) : Type 0 where
    first : List ℕ
    second : List ℕ
    first_is : Keyed x first
    second-is : Keyed y second
    under : Under first second

  -- an instance in turns that begin with these numbers
  record Sits (cs : List ℕ) (d low high : ℕ) (x : Item) : Type 0 where
    rest : List ℕ
    place : ℕ
    is : Keyed x (cs ++ (rest ++ place ∷ []))
    size : length rest ≡ d
    above : low ≤ place
    within : place ≤ high

  -- an instance of a loop of n turns, in turn t or later
  record Placed (cs : List ℕ) (d t n low high : ℕ) (x : Item) : Type 0 where
    turn : ℕ
    rest : List ℕ
    place : ℕ
    is : Keyed x (cs ++ (turn ∷ (rest ++ place ∷ [])))
    size : suc (length rest) ≡ d
    from : t ≤ turn
    upto : UpTo n turn rest
    above : low ≤ place
    within : place ≤ high

  abbrev Spread : List Item → (Item → Type 0) → Type 0
  Spread xs P = Ordered Earlier xs × AllByRecursion P xs

  block-spread : (P : Item → Type 0) (by : Part) (level : ℕ) (a : Around) (block : List Stmt) → ((w : Work) → P (item by level a w)) → Spread (plan_block by level a block) P
  block-spread P by level a [] each = (tt, tt)
  block-spread P by level a (x ∷ xs) each = ((tt, tt), (each _, tt))

  turn-spread : (level : ℕ) (l : Loop) (inner : Around → List Item) (a : Around) (cs : List ℕ) (d : ℕ) → a.counters ≡ map pos cs → length cs ≡ level → level + d ≡ D
      → Spread (inner a) (Placed cs d 0 (turns_in (p.trip (record { part = part.Head; level = level + 1 }) a.counters)) (level + 1 + (level + 1)) (last-place (level + 1)))
      → Spread (plan_turn level l inner a) (Sits cs d (level + level + 1) (last-place level))
  turn-spread level l inner a cs d counters size deep within =
      let n : ℕ = turns_in (p.trip (record { part = part.Head; level = level + 1 }) a.counters) in
      let IsPre : Item → Type 0 = λ x. Keyed x (cs ++ (zeros d ++ (level + level + 1) ∷ [])) in
      let IsPost : Item → Type 0 = λ x. Keyed x (cs ++ (turns_and_zeros d n ++ last-place level ∷ [])) in
      let Inside : Item → Type 0 = Placed cs d 0 n (level + 1 + (level + 1)) (last-place (level + 1)) in
      let Behind : Item → Type 0 = Sits cs d (level + level + 2) (last-place level) in
      let pre : List Item = plan_block part.Pre level a l.pre in
      let post : List Item = plan_block part.Post level a l.post in
      let pres : Spread pre IsPre = block-spread IsPre part.Pre level a l.pre (λ w. key-of D zeros a.counters cs d (level + level + 1) counters (omega (arith, size, deep))) in
      let posts : Spread post IsPost = block-spread IsPost part.Post level a l.post (λ w. key-of D (λ m. turns_and_zeros m n) a.counters cs d (last-place level) counters (omega (arith, size, deep))) in
      let inside_behind : AllByRecursion Behind (inner a) =
      all-map Inside Behind (inner a) (λ x h. record { rest = h.turn ∷ h.rest; place = h.place; is = h.is; size = h.size; above = omega (arith, h.above); within = omega (arith, h.within, deep) }) within.1 in
      let post_behind : AllByRecursion Behind post =
      all-map IsPost Behind post (λ x h. record { rest = turns_and_zeros d n; place = last-place level; is = h; size = length-turns_and_zeros d n; above = omega (arith, deep); within = omega arith }) posts.1 in
      let pre_sits : AllByRecursion (Sits cs d (level + level + 1) (last-place level)) pre =
      all-map IsPre (Sits cs d (level + level + 1) (last-place level)) pre (λ x h. record { rest = zeros d; place = level + level + 1; is = h; size = length-zeros d; above = omega arith; within = omega (arith, deep) }) pres.1 in
      let behind_sits : AllByRecursion (Sits cs d (level + level + 1) (last-place level)) (inner a ++ post) =
      all-map Behind (Sits cs d (level + level + 1) (last-place level)) (inner a ++ post) (λ x h. record { rest = h.rest; place = h.place; is = h.is; size = h.size; above = omega (arith, h.above); within = h.within })
      (all-append Behind (inner a) post inside_behind post_behind) in
      let second : Ordered Earlier (inner a ++ post) =
      ordered-append Earlier Inside IsPost (inner a) post within.1 posts.1
      (λ x y h i. record {
        first = cs ++ (h.turn ∷ (h.rest ++ h.place ∷ []));
        second = cs ++ (turns_and_zeros d n ++ last-place level ∷ []);
        first_is = h.is;
        second-is = i;
        under = under-front cs (h.turn ∷ (h.rest ++ h.place ∷ [])) (turns_and_zeros d n ++ last-place level ∷ []) (upto-under d h.turn n h.rest h.place (last-place level) h.upto h.size (omega (arith, h.within, deep)));
      }) within.0 posts.0 in
      let whole : Ordered Earlier (pre ++ (inner a ++ post)) =
      ordered-append Earlier IsPre Behind pre (inner a ++ post) pres.1 (all-append Behind (inner a) post inside_behind post_behind)
      (λ x y h i. record {
        first = cs ++ (zeros d ++ (level + level + 1) ∷ []);
        second = cs ++ (i.rest ++ i.place ∷ []);
        first_is = h;
        second-is = i.is;
        under = under-front cs (zeros d ++ (level + level + 1) ∷ []) (i.rest ++ i.place ∷ []) (zeros-under d i.rest (level + level + 1) i.place i.size (omega (arith, i.above)));
      }) pres.0 second in
      (whole, all-append (Sits cs d (level + level + 1) (last-place level)) pre (inner a ++ post) pre_sits behind_sits)

  -- turns of a loop
  module _ (cs : List ℕ) (d low high : ℕ) (plan : ℕ → List Item) (each : (i : ℕ) → Spread (plan i) (Sits (cs ++ i ∷ []) d low high)) where
    in-turn : (t : ℕ) (x : Item) (s : Sits (cs ++ t ∷ []) d low high x) → Keyed x (cs ++ (t ∷ (s.rest ++ s.place ∷ [])))
    in-turn t x s = s.is ∙ ap (map pos) (append_assoc cs (t ∷ []) (s.rest ++ s.place ∷ []))

    sits-placed : (t n lower : ℕ) (x : Item) → t < n → lower ≤ low → Sits (cs ++ t ∷ []) d low high x → Placed cs (suc d) t n lower high x
    sits-placed t n lower x h i s = record { turn = t; rest = s.rest; place = s.place; is = in-turn t x s; size = ap suc s.size; from = omega arith; upto = inl h; above = omega (arith, i, s.above); within = s.within }

    placed-sooner : (t n lower : ℕ) (x : Item) → Placed cs (suc d) (t + 1) n lower high x → Placed cs (suc d) t n lower high x
    placed-sooner t n lower x s = record { turn = s.turn; rest = s.rest; place = s.place; is = s.is; size = s.size; from = omega (arith, s.from); upto = s.upto; above = s.above; within = s.within }

    later : (t n lower : ℕ) (x y : Item) → Sits (cs ++ t ∷ []) d low high x → Placed cs (suc d) (t + 1) n lower high y → Earlier x y
    later t n lower x y s q = record {
      first = cs ++ (t ∷ (s.rest ++ s.place ∷ []));
      second = cs ++ (q.turn ∷ (q.rest ++ q.place ∷ []));
      first_is = in-turn t x s;
      second-is = q.is;
      under = under-front cs (t ∷ (s.rest ++ s.place ∷ [])) (q.turn ∷ (q.rest ++ q.place ∷ [])) (inl (omega (arith, q.from)));
    }

    turns-spread : (m t n : ℕ) → t + m ≡ n → Spread (plan_turns m t plan) (Placed cs (suc d) t n low high)
    turns-spread zero t n sum = (tt, tt)
    turns-spread (suc m) t n sum =
        let more = turns-spread m (t + 1) n (omega (arith, sum)) in (
          ordered-append Earlier (Sits (cs ++ t ∷ []) d low high) (Placed cs (suc d) (t + 1) n low high) (plan t) (plan_turns m (t + 1) plan) (each t).1 more.1 (later t n low) (each t).0 more.0,
          all-append (Placed cs (suc d) t n low high) (plan t) (plan_turns m (t + 1) plan)
              (all-map (Sits (cs ++ t ∷ []) d low high) (Placed cs (suc d) t n low high) (plan t) (λ x s. sits-placed t n low x (omega (arith, sum)) (omega arith) s) (each t).1)
              (all-map (Placed cs (suc d) (t + 1) n low high) (Placed cs (suc d) t n low high) (plan_turns m (t + 1) plan) (placed-sooner t n low) more.1),
        )

    -- with a head before each of them
    module _ (test : ℕ → Item) (place : ℕ) (test_is : (i : ℕ) → Keyed (test i) (cs ++ (i ∷ (zeros d ++ place ∷ [])))) (lower : place < low) (upper : place ≤ high) where
      test-placed : (t n : ℕ) → UpTo n t (zeros d) → Placed cs (suc d) t n place high (test t)
      test-placed t n h = record { turn = t; rest = zeros d; place = place; is = test_is t; size = ap suc (length-zeros d); from = omega arith; upto = h; above = omega arith; within = upper }

      test-first : (t n : ℕ) (more : List Item) → AllByRecursion (Placed cs (suc d) (t + 1) n place high) more → AllByRecursion (Earlier (test t)) (plan t ++ more)
      test-first t n more h =
          all-append (Earlier (test t)) (plan t) more
          (all-map (Sits (cs ++ t ∷ []) d low high) (Earlier (test t)) (plan t)
          (λ x s. record {
            first = cs ++ (t ∷ (zeros d ++ place ∷ []));
            second = cs ++ (t ∷ (s.rest ++ s.place ∷ []));
            first_is = test_is t;
            second-is = in-turn t x s;
            under = under-front cs (t ∷ (zeros d ++ place ∷ [])) (t ∷ (s.rest ++ s.place ∷ [])) (inr (refl, zeros-under d s.rest place s.place s.size (omega (arith, lower, s.above))));
          }) (each t).1)
          (all-map (Placed cs (suc d) (t + 1) n place high) (Earlier (test t)) more
          (λ x q. record {
            first = cs ++ (t ∷ (zeros d ++ place ∷ []));
            second = cs ++ (q.turn ∷ (q.rest ++ q.place ∷ []));
            first_is = test_is t;
            second-is = q.is;
            under = under-front cs (t ∷ (zeros d ++ place ∷ [])) (q.turn ∷ (q.rest ++ q.place ∷ [])) (inl (omega (arith, q.from)));
          }) h)

      one-turn : (t n : ℕ) (more : List Item) → t < n → Spread more (Placed cs (suc d) (t + 1) n place high) → Spread (test t ∷ (plan t ++ more)) (Placed cs (suc d) t n place high)
      one-turn t n more h s = (
        (test-first t n more s.1, ordered-append Earlier (Sits (cs ++ t ∷ []) d low high) (Placed cs (suc d) (t + 1) n place high) (plan t) more (each t).1 s.1 (later t n place) (each t).0 s.0),
        (
          test-placed t n (inl h),
          all-append (Placed cs (suc d) t n place high) (plan t) more
              (all-map (Sits (cs ++ t ∷ []) d low high) (Placed cs (suc d) t n place high) (plan t) (λ x q. sits-placed t n place x h (omega (arith, lower)) q) (each t).1)
              (all-map (Placed cs (suc d) (t + 1) n place high) (Placed cs (suc d) t n place high) more (placed-sooner t n place) s.1),
        ),
      )

      whiles-spread : (m t n : ℕ) → t + m ≡ n → Spread (plan_whiles m t test plan) (Placed cs (suc d) t n place high)
      whiles-spread zero t n sum = ((tt, tt), (test-placed t n (inr (omega (arith, sum), sym (ap zeros (length-zeros d)))), tt))
      whiles-spread (suc m) t n sum = one-turn t n (plan_whiles m (t + 1) test plan) (omega (arith, sum)) (whiles-spread m (t + 1) n (omega (arith, sum)))

      tested-spread : (m t n : ℕ) → t + m ≡ n → Spread (plan_tested m t test plan) (Placed cs (suc d) t n place high)
      tested-spread zero t n sum = (tt, tt)
      tested-spread (suc m) t n sum = one-turn t n (plan_tested m (t + 1) test plan) (omega (arith, sum)) (tested-spread m (t + 1) n (omega (arith, sum)))

  inward-is : (a : Around) (cs : List ℕ) (t : ℕ) → a.counters ≡ map pos cs → a.counters ++ pos t ∷ [] ≡ map pos (cs ++ t ∷ [])
  inward-is a cs t e = ap (λ (zs : List ℤ). zs ++ pos t ∷ []) e ∙ map-append cs (t ∷ [])

  length-more : (cs : List ℕ) (t : ℕ) → length (cs ++ t ∷ []) ≡ suc (length cs)
  length-more [] t = refl
  length-more (c ∷ cs) t = ap suc (length-more cs t)

  test-key : (level d t : ℕ) (a : Around) (cs : List ℕ) (head : Head) (value : ℤ) → a.counters ≡ map pos cs → length cs + 1 ≡ level → level + d ≡ D
      → Keyed (item part.Head level (inward a t value) (Evaluates head)) (cs ++ (t ∷ (zeros d ++ (level + level) ∷ [])))
  test-key level d t a cs head value counters size deep =
      key-of D zeros (a.counters ++ pos t ∷ []) (cs ++ t ∷ []) d (level + level) (inward-is a cs t counters) (let e = length-more cs t in omega (arith, e, size, deep))
      ∙ ap (map pos) (append_assoc cs (t ∷ []) (zeros d ++ (level + level) ∷ []))

  loop-spread : (h : Head) (level : ℕ) (plan : Around → List Item) (a : Around) (cs : List ℕ) (d : ℕ) → a.counters ≡ map pos cs → length cs + 1 ≡ level → level + d ≡ D
      → ((b : Around) (bs : List ℕ) → b.counters ≡ map pos bs → length bs ≡ level → Spread (plan b) (Sits bs d (level + level + 1) (last-place level)))
      → Spread (plan_loop h p level h plan a) (Placed cs (suc d) 0 (turns_in (p.trip (record { part = part.Head; level = level }) a.counters)) (level + level) (last-place level))
  loop-spread (For lower upper stride) level plan a cs d counters size deep each =
      let n : ℕ = turns_in (p.trip (record { part = part.Head; level = level }) a.counters) in
      let value : ℕ → ℤ = λ t. turn_value (p.lower (record { block = record { part = part.Head; level = level }; counters = a.counters })) stride t in
      let one : Item = item part.Head level a (Evaluates (For lower upper stride)) in
      let rest = turns-spread cs d (level + level + 1) (last-place level) (λ t. plan (inward a t (value t)))
      (λ t. each (inward a t (value t)) (cs ++ t ∷ []) (inward-is a cs t counters) (let e = length-more cs t in omega (arith, e, size))) n 0 n (omega arith) in
      let one_is : Keyed one (cs ++ (zeros (suc d) ++ (level + level) ∷ [])) = key-of D zeros a.counters cs (suc d) (level + level) counters (omega (arith, size, deep)) in
      let heads : AllByRecursion (Earlier one) (plan_turns n 0 (λ t. plan (inward a t (value t)))) =
      all-map (Placed cs (suc d) 0 n (level + level + 1) (last-place level)) (Earlier one) (plan_turns n 0 (λ t. plan (inward a t (value t))))
      (λ x q. record {
        first = cs ++ (zeros (suc d) ++ (level + level) ∷ []);
        second = cs ++ (q.turn ∷ (q.rest ++ q.place ∷ []));
        first_is = one_is;
        second-is = q.is;
        under = under-front cs (zeros (suc d) ++ (level + level) ∷ []) (q.turn ∷ (q.rest ++ q.place ∷ [])) (zeros-under (suc d) (q.turn ∷ q.rest) (level + level) q.place q.size (omega (arith, q.above)));
      }) rest.1 in
      let low : AllByRecursion (Placed cs (suc d) 0 n (level + level) (last-place level)) (plan_turns n 0 (λ t. plan (inward a t (value t)))) =
      all-map (Placed cs (suc d) 0 n (level + level + 1) (last-place level)) (Placed cs (suc d) 0 n (level + level) (last-place level)) (plan_turns n 0 (λ t. plan (inward a t (value t))))
      (λ x q. record { turn = q.turn; rest = q.rest; place = q.place; is = q.is; size = q.size; from = q.from; upto = q.upto; above = omega (arith, q.above); within = q.within }) rest.1 in
      ((heads, rest.0), (record { turn = 0; rest = zeros d; place = level + level; is = one_is; size = ap suc (length-zeros d); from = omega arith; upto = upto-zero n d; above = omega arith; within = omega (arith, deep) }, low))
  loop-spread (While condition) level plan a cs d counters size deep each =
      let n : ℕ = turns_in (p.trip (record { part = part.Head; level = level }) a.counters) in
      whiles-spread cs d (level + level + 1) (last-place level) (λ t. plan (inward a t (pos t)))
      (λ t. each (inward a t (pos t)) (cs ++ t ∷ []) (inward-is a cs t counters) (let e = length-more cs t in omega (arith, e, size)))
      (λ t. item part.Head level (inward a t (pos t)) (Evaluates (While condition))) (level + level)
      (λ t. test-key level d t a cs (While condition) (pos t) counters size deep) (omega arith) (omega (arith, deep)) n 0 n (omega arith)

  loops-spread : (ls : List Loop) (level : ℕ) (a : Around) (cs : List ℕ) → a.counters ≡ map pos cs → length cs + 1 ≡ level → level + length ls ≡ D + 1
      → Spread (plan_loops p level ls a) (Placed cs (length ls) 0 (turns_in (p.trip (record { part = part.Head; level = level }) a.counters)) (level + level) (last-place level))
  loops-spread [] level a cs counters size deep = (tt, tt)
  loops-spread (l ∷ ls) level a cs counters size deep =
      loop-spread l.head level (plan_turn level l (plan_loops p (level + 1) ls)) a cs (length ls) counters size (omega (arith, deep))
      (λ b bs is long. turn-spread level l (plan_loops p (level + 1) ls) b bs (length ls) is long (omega (arith, deep)) (loops-spread ls (level + 1) b bs is (omega (arith, long)) (omega (arith, deep))))

  outer-spread : (h : Head) (plan : Around → List Item) (o : Outer) (c d : ℕ) → 1 + d ≡ D
      → ((b : Around) (bs : List ℕ) → b.counters ≡ map pos bs → length bs ≡ 1 → Spread (plan b) (Sits bs d 3 (last-place 1))) → Ordered Earlier (plan_outer h h plan o c)
  outer-spread (For lower upper stride) plan o c d deep each =
      (turns-spread [] d 3 (last-place 1) (λ t. plan (inward outside t (turn_value o.lower stride t))) (λ t. each (inward outside t (turn_value o.lower stride t)) (t ∷ []) refl refl) c (unsigned_abs o.next) (unsigned_abs o.next + c) refl).0
  outer-spread (While condition) plan o c d deep each =
      (tested-spread [] d 3 (last-place 1) (λ t. plan (inward outside t (pos t))) (λ t. each (inward outside t (pos t)) (t ∷ []) refl refl)
      (λ t. item part.Head 1 (inward outside t (pos t)) (Evaluates (While condition))) 2 (λ t. test-key 1 d t outside [] (While condition) (pos t) refl refl deep) (omega arith) (omega (arith, deep))
      c (unsigned_abs o.next) (unsigned_abs o.next + c) refl).0

  precedes : (xs : List Item) → Ordered Earlier xs → Ordered (Precedes (slice_cmp int_cmp) (key p D)) xs
  precedes [] h = tt
  precedes (x ∷ xs) h = (all-map (Earlier x) (Precedes (slice_cmp int_cmp) (key p D) x) xs (λ y e. one y e) h.0, precedes xs h.1)
    where
      one : (y : Item) → Earlier x y → slice_cmp int_cmp (key p D x) (key p D y) ≡ Less
      one y e = ap (λ (ks : List ℤ). slice_cmp int_cmp ks (key p D y)) e.first_is ∙ ap (λ (ks : List ℤ). slice_cmp int_cmp (map pos e.first) ks) e.second-is ∙ under-less e.first e.second e.under

pub planned-in_order : PlannedInOrder
unfolding planned
planned-in_order p [] o c = tt
planned-in_order p (l ∷ ls) o c =
    let D : ℕ = suc (length ls) in
    precedes p D (plan_outer l.head l.head (plan_turn 1 l (plan_loops p 2 ls)) o c)
    (outer-spread p D l.head (plan_turn 1 l (plan_loops p 2 ls)) o c (length ls) (omega arith)
    (λ b bs is long. turn-spread p D 1 l (plan_loops p 2 ls) b bs (length ls) is long (omega arith) (loops-spread p D ls 2 b bs is (omega (arith, long)) (omega arith))))
