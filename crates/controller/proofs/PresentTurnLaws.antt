-- What turns show is of present blocks.
use Rattle.std.proofs.Common.{◌≡◌, ◌≢◌, refl, ap, sym, subst, ◌∙◌, ℕ, zero, suc, ◌+◌, ◌≤◌, ℤ, pos, Bool, true, false, List, [], ◌∷◌, ◌++◌, map, Option, Some, None, Result, Ok, Err, arith}
use Rattle.std.specs.Prelude.{if◌then◌else◌, slice_get}
use Rattle.std.specs.List.{AllByRecursion}
use Rattle.nest_lang.specs.declared.tree.Expr.{Expr, map-Expr, roll-Expr}
use Rattle.nest_lang.specs.declared.tree.Expr.TheOpen.{Expr-F}
use Rattle.nest_lang.specs.declared.tree.Expr.TheFolds.{ind-Expr}
use Rattle.nest_lang.specs.declared.tree.Stmt.{Stmt, map-Stmt, roll-Stmt}
use Rattle.nest_lang.specs.declared.tree.Stmt.TheOpen.{Stmt-F}
use Rattle.nest_lang.specs.declared.tree.Stmt.TheFolds.{ind-Stmt}
use Rattle.nest_lang.specs.declared.tree.Head.{Head}
use Rattle.nest_lang.specs.declared.tree.Head.TheVariants.{For, While}
use Rattle.nest_lang.specs.declared.tree.Loop.{Loop}
use Rattle.nest_lang.specs.declared.tree.Part.{Part}
use Rattle.nest_lang.specs.declared.tree.Part.TheVariants as part
use Rattle.nest_lang.specs.declared.observe.Seen.TheVariants.{Address}
use Rattle.nest_lang.specs.declared.observe.Stop.{Stop}
use Rattle.nest_lang.specs.declared.state.Outer.{Outer}
use Rattle.nest_lang.specs.Blocks.{rank_of, loop_at}
use Rattle.nest_lang.specs.BlockLaws.{IsPresentHead, IsPresentPart}
use Rattle.nest_lang.specs.Values.{same, turn_value}
use Rattle.nest_lang.specs.Stores.{Store, Effect, Nothing, Local, Scalar}
use Rattle.nest_lang.specs.Lookups.{Expectation, look_load, look_store}
use Rattle.nest_lang.specs.Traces.{Occurrence, Observation, Entry, Halt, Trace, joined, and_then, after_all, in_turn, Transition, step_of, traced, seen_of, seen_in}
use Rattle.nest_lang.specs.Expressions.{Frame, Told, then_tell, or_stopped, expression_level, told_by, told, shown}
use Rattle.nest_lang.specs.Statements.{with_value, stored, statement_level, statement_trace, block_trace, started, announced, scalars_from, shown_before, instance_trace}
use Rattle.nest_lang.specs.Heads.{Yield, Bounds, Tested, Headed, then_head, head_of, head_step, headed}
use Rattle.nest_lang.specs.Loops.{Around, inward, outside, frame_of, turn_trace, turns_from, turns_of, turn_if, whiles_from, loop_by, loops_trace}
use Rattle.nest_lang.specs.Turns.{number_left, counted_turns, turn_or_over, tested_turns, turns_by, turns_trace, over}
use Rattle.nest_lang.proofs.StepLaws.{told-rolled, statement-rolled}
use Rattle.nest_lang.proofs.RankLaws.{present_blocks-have-ranks}
use Rattle.follow.proofs.PlannedOrderLaws.{all-append}

-- an occurrence of a present block
abbrev pub IsPresent : List Loop → Occurrence → Type 0
IsPresent loops i = (rank : ℕ) × (rank_of loops i.block ≡ Some rank)

-- loops from a level on are those of the nest there
abbrev AreFrom : List Loop → ℕ → List Loop → Type 0
AreFrom loops level ls = (j : ℕ) → loop_at loops (level + j) ≡ slice_get ls j

are-inner : (loops : List Loop) (level : ℕ) (l : Loop) (ls : List Loop) → AreFrom loops level (l ∷ ls) → AreFrom loops (level + 1) ls
are-inner loops level l ls are j = let e : level + 1 + j ≡ level + suc j = omega arith in ap (loop_at loops) e ∙ are (suc j)

module _ (loops : List Loop) where
  abbrev IsSound : Observation → Type 0
  IsSound o = IsPresent loops o.at

  abbrev Each : List Observation → Type 0
  Each os = AllByRecursion IsSound os

  abbrev Tells : Entry → Type 0
  Tells e = Each e.before × Each e.seen

  abbrev Shows : Trace → Type 0
  Shows t = AllByRecursion Tells t.entries

  -- ---- traces one after another

  joined-shows : (halt : Option Halt) (es : List Entry) (more : Trace) → AllByRecursion Tells es → Shows more → Shows (joined halt es more)
  joined-shows (Some halt) es more h g = h
  joined-shows None es more h g = all-append Tells es more.entries h g

  and_then-shows : (s : Store) (t : Trace) (go : Store → Trace) → Shows t → ((u : Store) → Shows (go u)) → Shows (and_then s t go)
  and_then-shows s t go h each = joined-shows t.halt t.entries (go (after_all s t.entries)) h (each (after_all s t.entries))

  record Steps (st : Transition) : Type 0 where
    before : Each st.entry.before
    seen : Each st.entry.seen
    rest : (u : Store) → Shows (in_turn st.rest u)

  traced-shows : (st : Transition) (s : Store) → Steps st → Shows (traced st s)
  traced-shows st s h = joined-shows st.halt (st.entry ∷ []) (in_turn st.rest _) ((h.before, h.seen), tt) (h.rest _)

  only-shows : (f : Store → Trace) → ((s : Store) → Shows (f s)) → (s : Store) → Shows (in_turn (f ∷ []) s)
  only-shows f each s = and_then-shows s (f s) (in_turn []) (each s) (λ u. tt)

  two-shows : (f g : Store → Trace) → ((s : Store) → Shows (f s)) → ((s : Store) → Shows (g s)) → (s : Store) → Shows (in_turn (f ∷ g ∷ []) s)
  two-shows f g each more s = and_then-shows s (f s) (in_turn (g ∷ [])) (each s) (only-shows g more)

  -- ---- an instance of a present block

  module _ (f : Frame) (is : IsPresent loops f.at) where
    then_tell-each : (seen : List Observation) (v : Result ℤ Halt) (go : ℤ → Told) → Each seen → ((z : ℤ) → Each (go z).seen) → Each (then_tell seen v go).seen
    then_tell-each seen (Ok z) go h each = all-append IsSound seen (go z).seen h (each z)
    then_tell-each seen (Err halt) go h each = h

    module _ (scalars locals : List ℤ) (find : ℕ → ℤ → Result ℤ Stop) where
      Told-each : Expr → Type 0
      Told-each e = Each (told_by f scalars locals find e).seen

      level-each : (y : Expr-F ((e : Expr) × Told-each e)) → Each (expression_level f scalars locals find (map-Expr _ _ (told_by f scalars locals find) (map-Expr _ _ (λ e. e.0) y))).seen
      unfolding Told-each
      level-each (Expr-F.Number n) = tt
      level-each (Expr-F.Var place) = tt
      level-each (Expr-F.Load access a) = then_tell-each _ _ _ a.1 (λ z. (is, tt))
      level-each (Expr-F.Neg a) = then_tell-each _ _ _ a.1 (λ z. tt)
      level-each (Expr-F.Two op a b) = then_tell-each _ _ _ a.1 (λ z. then_tell-each _ _ _ b.1 (λ v. tt))

      tells : (e : Expr) → Told-each e
      unfolding Told-each
      tells = ind-Expr Told-each (λ y z same. subst (λ w. Told-each (roll-Expr w)) same
          (subst (λ (p : Told). Each p.seen) (sym (told-rolled f scalars locals find (map-Expr _ _ (λ e. e.0) z))) (level-each z)))

    told-each : (s : Store) (e : Expr) → Each (told f s e).seen
    unfolding Told-each
    told-each s e = tells s.scalars s.locals (look_load f.expects s.memory) e

    with_value-steps : (seen : List Observation) (v : Result ℤ Halt) (go : ℤ → Transition) → Each seen → ((z : ℤ) → Steps (go z)) → Steps (with_value seen v go)
    with_value-steps seen (Ok z) go h each = each z
    with_value-steps seen (Err halt) go h each = record { before = tt; seen = h; rest = λ u. tt }

    stored-steps : (seen : List Observation) (address v : ℤ) (r : Result ℤ Halt) → Each seen → Steps (stored seen address v r)
    stored-steps seen address v (Ok old) h = record { before = tt; seen = h; rest = λ u. tt }
    stored-steps seen address v (Err halt) h = record { before = tt; seen = h; rest = λ u. tt }

    Runs : Stmt → Type 0
    Runs x = (s : Store) → Shows (statement_trace f x s)

    all-show : (xs : List ((x : Stmt) × Runs x)) (s : Store) → Shows (in_turn (map (statement_trace f) (map (λ e. e.0) xs)) s)
    unfolding Runs
    all-show [] s = tt
    all-show (x ∷ xs) s = and_then-shows s (statement_trace f x.0 s) (in_turn (map (statement_trace f) (map (λ e. e.0) xs))) (x.1 s) (all-show xs)

    if-steps : (seen : List Observation) (v : Result ℤ Halt) (first second : List (Store → Trace)) → Each seen → ((u : Store) → Shows (in_turn first u)) → ((u : Store) → Shows (in_turn second u))
        → Steps (with_value seen v (λ z. step_of [] seen Nothing None (if same z (pos 0) then second else first)))
    if-steps seen v first second h one two = with_value-steps seen v _ h (λ z. record { before = tt; seen = h; rest = λ u. chosen (same z (pos 0)) u })
      where
        chosen : (b : Bool) (u : Store) → Shows (in_turn (if b then second else first) u)
        chosen true u = two u
        chosen false u = one u

    -- a step that nothing follows
    last-step : (seen : List Observation) (effect : Effect) → Each seen → Steps (step_of [] seen effect None [])
    last-step seen effect h = record { before = tt; seen = h; rest = λ u. tt }

    store-steps : (access : ℕ) (a e : Expr) (s : Store) → Steps (statement_level f (Stmt-F.Store access a e) s)
    store-steps access a e s =
        let both = all-append IsSound (told f s a).seen (told f s e).seen (told-each s a) (told-each s e) in
        with_value-steps (told f s a).seen (told f s a).value
        (λ z. with_value ((told f s a).seen ++ (told f s e).seen) (told f s e).value (λ v. stored ((told f s a).seen ++ (told f s e).seen ++ shown f (Address access) z ∷ []) z v (or_stopped access (look_store f.expects s.memory access z))))
        (told-each s a)
        (λ z. with_value-steps ((told f s a).seen ++ (told f s e).seen) (told f s e).value
        (λ v. stored ((told f s a).seen ++ (told f s e).seen ++ shown f (Address access) z ∷ []) z v (or_stopped access (look_store f.expects s.memory access z))) both
        (λ v. stored-steps ((told f s a).seen ++ (told f s e).seen ++ shown f (Address access) z ∷ []) z v (or_stopped access (look_store f.expects s.memory access z))
        (all-append IsSound ((told f s a).seen ++ (told f s e).seen) (shown f (Address access) z ∷ []) both (is, tt))))

    level-steps : (y : Stmt-F ((x : Stmt) × Runs x)) (s : Store) → Steps (statement_level f (map-Stmt _ _ (statement_trace f) (map-Stmt _ _ (λ e. e.0) y)) s)
    unfolding Runs
    level-steps (Stmt-F.Let number e) s =
        with_value-steps (told f s e).seen (told f s e).value (λ v. step_of [] (told f s e).seen (Local number v) None []) (told-each s e) (λ z. last-step (told f s e).seen (Local number z) (told-each s e))
    level-steps (Stmt-F.Set number e) s =
        with_value-steps (told f s e).seen (told f s e).value (λ v. step_of [] (told f s e).seen (Scalar number v) None []) (told-each s e) (λ z. last-step (told f s e).seen (Scalar number z) (told-each s e))
    level-steps (Stmt-F.Store access a e) s = store-steps access a e s
    level-steps (Stmt-F.If e first second) s =
        if-steps (told f s e).seen (told f s e).value (map (statement_trace f) (map (λ e. e.0) first)) (map (statement_trace f) (map (λ e. e.0) second)) (told-each s e) (all-show first) (all-show second)

    statements-show : (x : Stmt) → Runs x
    unfolding Runs
    statements-show = ind-Stmt Runs (λ y z same. subst (λ w. Runs (roll-Stmt w)) same
        (λ s. subst (λ (p : Store → Trace). Shows (p s)) (sym (statement-rolled f (map-Stmt _ _ (λ e. e.0) z))) (traced-shows _ s (level-steps z s))))

    announced-each : (s : Store) → Each (announced f s)
    unfolding announced
    announced-each s = (is, each 0 s.scalars)
      where
        each : (number : ℕ) (vs : List ℤ) → Each (scalars_from f number vs)
        each number [] = tt
        each number (v ∷ vs) = (is, each (suc number) vs)

    before-shows : (os : List Observation) (es : List Entry) → Each os → AllByRecursion Tells es → AllByRecursion Tells (shown_before os es)
    before-shows os [] h k = tt
    before-shows os (e ∷ es) h k = ((all-append IsSound os e.before h k.0.0, k.0.1), k.1)

    instance-shows : (block : List Stmt) (s : Store) → Shows (instance_trace f block s)
    unfolding instance_trace block_trace Runs
    instance-shows block s = before-shows (announced f s) (block_trace f block (started s)).entries (announced-each s) (each block (started s))
      where
        each : (block : List Stmt) (s : Store) → Shows (in_turn (map (statement_trace f) block) s)
        each [] s = tt
        each (x ∷ xs) s = and_then-shows s (statement_trace f x s) (in_turn (map (statement_trace f) xs)) (statements-show x s) (each xs)

    -- ---- heads

    then_head-each : (seen : List Observation) (v : Result ℤ Halt) (go : ℤ → Headed) → Each seen → ((z : ℤ) → Each (go z).seen) → Each (then_head seen v go).seen
    then_head-each seen (Ok z) go h each = all-append IsSound seen (go z).seen h (each z)
    then_head-each seen (Err halt) go h each = h

    head-each : (head : Head) (s : Store) → Each (head_of f head s).seen
    unfolding head_of
    head-each (For lower upper stride) s = then_head-each _ _ _ (told-each s lower) (λ from. then_head-each _ _ _ (told-each s upper) (λ to. (is, (is, tt))))
    head-each (While condition) s = then_head-each _ _ _ (told-each s condition) (λ v. (is, tt))

    head_step-shows : (before seen : List Observation) (r : Result Yield Halt) (go : Yield → List (Store → Trace)) (s : Store) → Each before → Each seen → ((y : Yield) (u : Store) → Shows (in_turn (go y) u)) → Shows (traced (head_step before seen r go) s)
    head_step-shows before seen (Ok y) go s h k each = traced-shows (step_of before seen Nothing None (go y)) s (record { before = h; seen = k; rest = each y })
    head_step-shows before seen (Err halt) go s h k each = traced-shows (step_of before seen Nothing (Some halt) []) s (record { before = h; seen = k; rest = λ u. tt })

    headed-shows : (head : Head) (go : Yield → List (Store → Trace)) (s : Store) → ((y : Yield) (u : Store) → Shows (in_turn (go y) u)) → Shows (traced (headed f head go s) s)
    headed-shows head go s each = head_step-shows _ _ _ go s (announced-each s) (head-each head s) each

  -- ---- loops

  turns_from-shows : (n t : ℕ) (turn : ℕ → Store → Trace) → ((i : ℕ) (s : Store) → Shows (turn i s)) → (s : Store) → Shows (turns_from n t turn s)
  turns_from-shows zero t turn each s = tt
  turns_from-shows (suc n) t turn each s = and_then-shows s (turn t s) (turns_from n (t + 1) turn) (each t s) (turns_from-shows n (t + 1) turn each)

  turns_of-shows : (turn : ℤ → ℕ → Store → Trace) → ((from : ℤ) (i : ℕ) (s : Store) → Shows (turn from i s)) → (y : Yield) (s : Store) → Shows (in_turn (turns_of turn y) s)
  turns_of-shows turn each (Bounds lower trip) s = only-shows (turns_from trip 0 (turn lower)) (turns_from-shows trip 0 (turn lower) (each lower)) s
  turns_of-shows turn each (Tested holds) s = tt

  turn_if-shows : (turn more : Store → Trace) → ((s : Store) → Shows (turn s)) → ((s : Store) → Shows (more s)) → (y : Yield) (s : Store) → Shows (in_turn (turn_if turn more y) s)
  turn_if-shows turn more each rest (Bounds lower trip) s = tt
  turn_if-shows turn more each rest (Tested true) s = two-shows turn more each rest s
  turn_if-shows turn more each rest (Tested false) s = tt

  whiles_from-shows : (n t : ℕ) (frame : ℕ → Frame) (head : Head) (turn : ℕ → Store → Trace) → ((i : ℕ) → IsPresent loops (frame i).at) → ((i : ℕ) (s : Store) → Shows (turn i s)) → (s : Store) → Shows (whiles_from n t frame head turn s)
  whiles_from-shows zero t frame head turn is each s = tt
  whiles_from-shows (suc n) t frame head turn is each s = headed-shows (frame t) (is t) head _ s (turn_if-shows (turn t) _ (each t) (whiles_from-shows n (t + 1) frame head turn is each))

  loop_by-shows : (h : Head) (x : Expectation) (k level : ℕ) (head : Head) (turn : Around → Store → Trace) → ((a : Around) → IsPresent loops (frame_of x part.Head level a).at) → ((a : Around) (s : Store) → Shows (turn a s)) → (a : Around) (s : Store) → Shows (loop_by h x k level head turn a s)
  loop_by-shows (For lower upper stride) x k level head turn is each a s = headed-shows (frame_of x part.Head level a) (is a) head _ s (turns_of-shows _ (λ from i u. each (inward a i (turn_value from stride i)) u))
  loop_by-shows (While condition) x k level head turn is each a s = whiles_from-shows k 0 _ head _ (λ i. is (inward a i (pos i))) (λ i u. each (inward a i (pos i)) u) s

  -- ---- the blocks of a nest

  part-present : (p : Part) (level : ℕ) (l : Loop) (counters : List ℤ) → loop_at loops level ≡ Some l → IsPresentPart p level l → IsPresent loops (record { block = record { part = p; level = level }; counters = counters })
  part-present p level l counters at is = (present_blocks-have-ranks loops (record { part = p; level = level })).0 (l, at, is)

  -- a block without statements shows nothing
  block-shows : (x : Expectation) (p : Part) (level : ℕ) (a : Around) (block : List Stmt) → (block ≢ [] → IsPresent loops (frame_of x p level a).at) → (s : Store) → Shows (instance_trace (frame_of x p level a) block s)
  unfolding instance_trace block_trace
  block-shows x p level a [] is s = tt
  block-shows x p level a (b ∷ bs) is s = instance-shows (frame_of x p level a) (is (λ e. cc)) (b ∷ bs) s

  turn_trace-shows : (x : Expectation) (level : ℕ) (l : Loop) (inner : Around → Store → Trace) → loop_at loops level ≡ Some l → ((a : Around) (s : Store) → Shows (inner a s)) → (a : Around) (s : Store) → Shows (turn_trace x level l inner a s)
  unfolding turn_trace
  turn_trace-shows x level l inner at each a s =
      and_then-shows s (instance_trace (frame_of x part.Pre level a) l.pre s) (in_turn (inner a ∷ instance_trace (frame_of x part.Post level a) l.post ∷ [])) (block-shows x part.Pre level a l.pre (part-present part.Pre level l a.counters at) s)
      (two-shows (inner a) (instance_trace (frame_of x part.Post level a) l.post) (each a) (block-shows x part.Post level a l.post (part-present part.Post level l a.counters at)))

  inner-head : (h : Head) (level : ℕ) → 2 ≤ level → IsPresentHead h level
  inner-head (For lower upper stride) level inner = inner
  inner-head (While condition) level inner = omega (arith, inner)

  here : (level : ℕ) (l : Loop) (ls : List Loop) → AreFrom loops level (l ∷ ls) → loop_at loops level ≡ Some l
  here level l ls are = let e : level ≡ level + 0 = omega arith in ap (loop_at loops) e ∙ are 0

  loops_trace-shows : (x : Expectation) (k level : ℕ) (ls : List Loop) → 2 ≤ level → AreFrom loops level ls → (a : Around) (s : Store) → Shows (loops_trace x k level ls a s)
  loops_trace-shows x k level [] inner are a s = tt
  loops_trace-shows x k level (l ∷ ls) inner are a s =
      loop_by-shows l.head x k level l.head _ (λ b. part-present part.Head level l b.counters (here level l ls are) (inner-head l.head level inner))
      (turn_trace-shows x level l _ (here level l ls are) (loops_trace-shows x k (level + 1) ls (omega (arith, inner)) (are-inner loops level l ls are))) a s

  -- ---- turns

  counted-shows : (c n t : ℕ) (turn : ℕ → Store → Trace) → ((i : ℕ) (s : Store) → Shows (turn i s)) → (s : Store) → Shows (counted_turns c n t turn s)
  counted-shows zero n t turn each s = tt
  counted-shows (suc c) zero t turn each s = tt
  counted-shows (suc c) (suc n) t turn each s = and_then-shows s (turn t s) (counted_turns c n (t + 1) turn) (each t s) (counted-shows c n (t + 1) turn each)

  turn_or_over-shows : (turn more : Store → Trace) → ((s : Store) → Shows (turn s)) → ((s : Store) → Shows (more s)) → (y : Yield) (s : Store) → Shows (in_turn (turn_or_over turn more y) s)
  turn_or_over-shows turn more each rest (Bounds lower trip) s = only-shows (λ u. over) (λ u. tt) s
  turn_or_over-shows turn more each rest (Tested true) s = two-shows turn more each rest s
  turn_or_over-shows turn more each rest (Tested false) s = only-shows (λ u. over) (λ u. tt) s

  tested-shows : (c t : ℕ) (frame : ℕ → Frame) (head : Head) (turn : ℕ → Store → Trace) → ((i : ℕ) → IsPresent loops (frame i).at) → ((i : ℕ) (s : Store) → Shows (turn i s)) → (s : Store) → Shows (tested_turns c t frame head turn s)
  tested-shows zero t frame head turn is each s = tt
  tested-shows (suc c) t frame head turn is each s = headed-shows (frame t) (is t) head _ s (turn_or_over-shows (turn t) (tested_turns c (t + 1) frame head turn) (each t) (tested-shows c (t + 1) frame head turn is each))

  turns_by-shows : (h : Head) (x : Expectation) (head : Head) (turn : Around → Store → Trace) → ((condition : Expr) (a : Around) → h ≡ While condition → IsPresent loops (frame_of x part.Head 1 a).at)
      → ((a : Around) (s : Store) → Shows (turn a s)) → (o : Outer) (c : ℕ) (s : Store) → Shows (turns_by h x head turn o c s)
  turns_by-shows (For lower upper stride) x head turn is each o c s = counted-shows c (number_left o.left) _ _ (λ i u. each (inward outside i (turn_value o.lower stride i)) u) s
  turns_by-shows (While condition) x head turn is each o c s = tested-shows c _ _ head _ (λ i. is condition (inward outside i (pos i)) refl) (λ i u. each (inward outside i (pos i)) u) s

  seen-each : (es : List Entry) (n : ℕ) → AllByRecursion Tells es → Each (seen_of es n)
  seen-each [] n h = tt
  seen-each (e ∷ es) zero h = h.0.0
  seen-each (e ∷ es) (suc n) h = all-append IsSound (e.before ++ e.seen) (seen_of es n) (all-append IsSound e.before e.seen h.0.0 h.0.1) (seen-each es n h.1)

numbers-from : (l : Loop) (ls : List Loop) → AreFrom (l ∷ ls) 1 (l ∷ ls)
numbers-from l ls j = let e : 1 + j ≡ suc j = omega arith in ap (loop_at (l ∷ ls)) e

turns-show : (x : Expectation) (k : ℕ) (loops : List Loop) (o : Outer) (c : ℕ) (s : Store) → Shows loops (turns_trace x k loops o c s)
unfolding turns_trace
turns-show x k [] o c s = tt
turns-show x k (l ∷ ls) o c s =
    let loops = l ∷ ls in
    let first = numbers-from l ls in
    turns_by-shows loops l.head x l.head _
    (λ condition a is. part-present loops part.Head 1 l a.counters refl (subst (λ (h : Head). IsPresentHead h 1) (sym is) (omega arith)))
    (turn_trace-shows loops x 1 l _ refl (loops_trace-shows loops x k 2 ls (omega arith) (are-inner loops 1 l ls first))) o c s

-- each thing that turns show is of a present block
pub turns-show-present : (x : Expectation) (k : ℕ) (loops : List Loop) (o : Outer) (c : ℕ) (s : Store) (left : ℕ) → AllByRecursion (λ shown. IsPresent loops shown.at) (seen_in (turns_trace x k loops o c s) left)
unfolding seen_in
turns-show-present x k loops o c s left = seen-each loops (turns_trace x k loops o c s).entries left (turns-show x k loops o c s)
