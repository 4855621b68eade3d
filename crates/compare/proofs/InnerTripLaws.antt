-- Turns show the trips of inner loops alone.
use Rattle.std.proofs.Common.{◌≡◌, sym, subst, ℕ, ℤ, pos, zero, suc, ◌+◌, ◌≤◌, Bool, true, false, List, [], ◌∷◌, ◌++◌, map, Option, Some, None, Result, Ok, Err, arith}
use Rattle.std.specs.Prelude.{if◌then◌else◌}
use Rattle.std.specs.List.{AllByRecursion}
use Rattle.nest_lang.specs.declared.tree.Expr.{Expr, map-Expr, roll-Expr}
use Rattle.nest_lang.specs.declared.tree.Expr.TheOpen.{Expr-F}
use Rattle.nest_lang.specs.declared.tree.Expr.TheFolds.{fold-roll-Expr, ind-Expr}
use Rattle.nest_lang.specs.declared.tree.Stmt.{Stmt, map-Stmt, roll-Stmt}
use Rattle.nest_lang.specs.declared.tree.Stmt.TheOpen.{Stmt-F}
use Rattle.nest_lang.specs.declared.tree.Stmt.TheFolds.{fold-roll-Stmt, ind-Stmt}
use Rattle.nest_lang.specs.declared.tree.Head.{Head}
use Rattle.nest_lang.specs.declared.tree.Head.TheVariants.{For, While}
use Rattle.nest_lang.specs.declared.tree.Loop.{Loop}
use Rattle.nest_lang.specs.declared.tree.Part.TheVariants as part
use Rattle.nest_lang.specs.declared.observe.Seen.TheVariants.{Address}
use Rattle.nest_lang.specs.declared.observe.Stop.{Stop}
use Rattle.nest_lang.specs.declared.state.Outer.{Outer}
use Rattle.nest_lang.specs.Values.{same, turn_value}
use Rattle.nest_lang.specs.Stores.{Store, Effect, Nothing, Local, Scalar}
use Rattle.nest_lang.specs.Lookups.{Expectation, look_load, look_store}
use Rattle.nest_lang.specs.Traces.{Observation, Entry, Halt, Trace, joined, and_then, after_all, in_turn, Transition, step_of, traced, seen_of, seen_in}
use Rattle.nest_lang.specs.Expressions.{Frame, Told, then_tell, or_stopped, expression_level, told_by, told, shown}
use Rattle.nest_lang.specs.Statements.{with_value, stored, statement_level, statement_trace, block_trace, started, announced, scalars_from, shown_before, instance_trace}
use Rattle.nest_lang.specs.Heads.{Yield, Bounds, Tested, Headed, then_head, head_of, head_step, headed}
use Rattle.nest_lang.specs.Loops.{Around, inward, outside, frame_of, turn_trace, turns_from, turns_of, turn_if, whiles_from, loop_by, loops_trace}
use Rattle.nest_lang.specs.Turns.{number_left, counted_turns, turn_or_over, tested_turns, turns_by, turns_trace, over}
use Rattle.follow.proofs.PlannedOrderLaws.{all-append}
use Rattle.compare.specs.Comparisons.{IsOfTurns}

abbrev Each : List Observation → Type 0
Each os = AllByRecursion IsOfTurns os

abbrev Tells : Entry → Type 0
Tells e = Each e.before × Each e.seen

abbrev Shows : Trace → Type 0
Shows t = AllByRecursion Tells t.entries

-- ---- traces one after another

joined-shows : (halt : Option Halt) (es : List Entry) (more : Trace) → AllByRecursion Tells es → Shows more → Shows (joined halt es more)
joined-shows (Some halt) es more h g = h
joined-shows None es more h g = all-append Tells es more.entries h g

and_then-shows : (s : Store) (t : Trace) (go : Store → Trace) → Shows t → ((u : Store) → Shows (go u)) → Shows (and_then s t go)
and_then-shows s t go h each = joined-shows t.halt t.entries (go (after_all s t.entries)) h (each (after_all s t.entries))

record Steps (st : Transition) : Type 0 where
  before : Each st.entry.before
  seen : Each st.entry.seen
  rest : (u : Store) → Shows (in_turn st.rest u)

traced-shows : (st : Transition) (s : Store) → Steps st → Shows (traced st s)
traced-shows st s h = joined-shows st.halt (st.entry ∷ []) (in_turn st.rest _) ((h.before, h.seen), tt) (h.rest _)

only-shows : (f : Store → Trace) → ((s : Store) → Shows (f s)) → (s : Store) → Shows (in_turn (f ∷ []) s)
only-shows f each s = and_then-shows s (f s) (in_turn []) (each s) (λ u. tt)

two-shows : (f g : Store → Trace) → ((s : Store) → Shows (f s)) → ((s : Store) → Shows (g s)) → (s : Store) → Shows (in_turn (f ∷ g ∷ []) s)
two-shows f g each more s = and_then-shows s (f s) (in_turn (g ∷ [])) (each s) (only-shows g more)

-- ---- expressions

then_tell-each : (seen : List Observation) (v : Result ℤ Halt) (go : ℤ → Told) → Each seen → ((z : ℤ) → Each (go z).seen) → Each (then_tell seen v go).seen
then_tell-each seen (Ok z) go h each = all-append IsOfTurns seen (go z).seen h (each z)
then_tell-each seen (Err halt) go h each = h

module _ (f : Frame) (scalars locals : List ℤ) (find : ℕ → ℤ → Result ℤ Stop) where
  Told-each : Expr → Type 0
  Told-each e = Each (told_by f scalars locals find e).seen

  told-rolled : (y : Expr-F Expr) → told_by f scalars locals find (roll-Expr y) ≡ expression_level f scalars locals find (map-Expr _ _ (told_by f scalars locals find) y)
  unfolding told_by
  told-rolled y = fold-roll-Expr Told (expression_level f scalars locals find) y

  level-each : (y : Expr-F ((e : Expr) × Told-each e)) → Each (expression_level f scalars locals find (map-Expr _ _ (told_by f scalars locals find) (map-Expr _ _ (λ e. e.0) y))).seen
  unfolding Told-each
  level-each (Expr-F.Number n) = tt
  level-each (Expr-F.Var place) = tt
  level-each (Expr-F.Load access a) = then_tell-each _ _ _ a.1 (λ z. ((λ e. absurd (cc)), tt))
  level-each (Expr-F.Neg a) = then_tell-each _ _ _ a.1 (λ z. tt)
  level-each (Expr-F.Two op a b) = then_tell-each _ _ _ a.1 (λ z. then_tell-each _ _ _ b.1 (λ v. tt))

  tells : (e : Expr) → Told-each e
  unfolding Told-each
  tells = ind-Expr Told-each (λ y z is. subst (λ w. Told-each (roll-Expr w)) is
      (subst (λ (p : Told). Each p.seen) (sym (told-rolled (map-Expr _ _ (λ e. e.0) z))) (level-each z)))

told-each : (f : Frame) (s : Store) (e : Expr) → Each (told f s e).seen
unfolding Told-each
told-each f s e = tells f s.scalars s.locals (look_load f.expects s.memory) e

-- ---- statements

with_value-steps : (seen : List Observation) (v : Result ℤ Halt) (go : ℤ → Transition) → Each seen → ((z : ℤ) → Steps (go z)) → Steps (with_value seen v go)
with_value-steps seen (Ok z) go h each = each z
with_value-steps seen (Err halt) go h each = record { before = tt; seen = h; rest = λ u. tt }

stored-steps : (seen : List Observation) (address v : ℤ) (r : Result ℤ Halt) → Each seen → Steps (stored seen address v r)
stored-steps seen address v (Ok old) h = record { before = tt; seen = h; rest = λ u. tt }
stored-steps seen address v (Err halt) h = record { before = tt; seen = h; rest = λ u. tt }

module _ (f : Frame) where
  Runs : Stmt → Type 0
  Runs x = (s : Store) → Shows (statement_trace f x s)

  statement-rolled : (y : Stmt-F Stmt) → statement_trace f (roll-Stmt y) ≡ (λ s. traced (statement_level f (map-Stmt _ _ (statement_trace f) y) s) s)
  unfolding statement_trace
  statement-rolled y = fold-roll-Stmt (Store → Trace) (λ z s. traced (statement_level f z s) s) y

  all-show : (xs : List ((x : Stmt) × Runs x)) (s : Store) → Shows (in_turn (map (statement_trace f) (map (λ e. e.0) xs)) s)
  unfolding Runs
  all-show [] s = tt
  all-show (x ∷ xs) s = and_then-shows s (statement_trace f x.0 s) (in_turn (map (statement_trace f) (map (λ e. e.0) xs))) (x.1 s) (all-show xs)

  if-steps : (seen : List Observation) (v : Result ℤ Halt) (first second : List (Store → Trace)) → Each seen → ((u : Store) → Shows (in_turn first u)) → ((u : Store) → Shows (in_turn second u))
      → Steps (with_value seen v (λ z. step_of [] seen Nothing None (if same z (pos 0) then second else first)))
  if-steps seen v first second h one two = with_value-steps seen v _ h (λ z. record { before = tt; seen = h; rest = λ u. chosen (same z (pos 0)) u })
    where
      chosen : (b : Bool) (u : Store) → Shows (in_turn (if b then second else first) u)
      chosen true u = two u
      chosen false u = one u

  -- a step that nothing follows
  last-step : (seen : List Observation) (effect : Effect) → Each seen → Steps (step_of [] seen effect None [])
  last-step seen effect h = record { before = tt; seen = h; rest = λ u. tt }

  level-steps : (y : Stmt-F ((x : Stmt) × Runs x)) (s : Store) → Steps (statement_level f (map-Stmt _ _ (statement_trace f) (map-Stmt _ _ (λ e. e.0) y)) s)
  unfolding Runs
  level-steps (Stmt-F.Let number e) s =
      with_value-steps (told f s e).seen (told f s e).value (λ v. step_of [] (told f s e).seen (Local number v) None []) (told-each f s e) (λ z. last-step (told f s e).seen (Local number z) (told-each f s e))
  level-steps (Stmt-F.Set number e) s =
      with_value-steps (told f s e).seen (told f s e).value (λ v. step_of [] (told f s e).seen (Scalar number v) None []) (told-each f s e) (λ z. last-step (told f s e).seen (Scalar number z) (told-each f s e))
  level-steps (Stmt-F.Store access a e) s =
      let both = all-append IsOfTurns (told f s a).seen (told f s e).seen (told-each f s a) (told-each f s e) in
      with_value-steps (told f s a).seen (told f s a).value
      (λ z. with_value ((told f s a).seen ++ (told f s e).seen) (told f s e).value (λ v. stored ((told f s a).seen ++ (told f s e).seen ++ shown f (Address access) z ∷ []) z v (or_stopped access (look_store f.expects s.memory access z))))
      (told-each f s a)
      (λ z. with_value-steps ((told f s a).seen ++ (told f s e).seen) (told f s e).value
      (λ v. stored ((told f s a).seen ++ (told f s e).seen ++ shown f (Address access) z ∷ []) z v (or_stopped access (look_store f.expects s.memory access z))) both
      (λ v. stored-steps ((told f s a).seen ++ (told f s e).seen ++ shown f (Address access) z ∷ []) z v (or_stopped access (look_store f.expects s.memory access z))
      (all-append IsOfTurns ((told f s a).seen ++ (told f s e).seen) (shown f (Address access) z ∷ []) both ((λ i. absurd (cc)), tt))))
  level-steps (Stmt-F.If e first second) s =
      if-steps (told f s e).seen (told f s e).value (map (statement_trace f) (map (λ e. e.0) first)) (map (statement_trace f) (map (λ e. e.0) second)) (told-each f s e) (all-show first) (all-show second)

  statements-show : (x : Stmt) → Runs x
  unfolding Runs
  statements-show = ind-Stmt Runs (λ y z is. subst (λ w. Runs (roll-Stmt w)) is
      (λ s. subst (λ (p : Store → Trace). Shows (p s)) (sym (statement-rolled (map-Stmt _ _ (λ e. e.0) z))) (traced-shows _ s (level-steps z s))))

  announced-each : (s : Store) → Each (announced f s)
  unfolding announced
  announced-each s = ((λ e. absurd (cc)), each 0 s.scalars)
    where
      each : (number : ℕ) (vs : List ℤ) → Each (scalars_from f number vs)
      each number [] = tt
      each number (v ∷ vs) = ((λ e. absurd (cc)), each (suc number) vs)

  before-shows : (os : List Observation) (es : List Entry) → Each os → AllByRecursion Tells es → AllByRecursion Tells (shown_before os es)
  before-shows os [] h k = tt
  before-shows os (e ∷ es) h k = ((all-append IsOfTurns os e.before h k.0.0, k.0.1), k.1)

  instance-shows : (block : List Stmt) (s : Store) → Shows (instance_trace f block s)
  unfolding instance_trace block_trace Runs
  instance-shows block s = before-shows (announced f s) (block_trace f block (started s)).entries (announced-each s) (each block (started s))
    where
      each : (block : List Stmt) (s : Store) → Shows (in_turn (map (statement_trace f) block) s)
      each [] s = tt
      each (x ∷ xs) s = and_then-shows s (statement_trace f x s) (in_turn (map (statement_trace f) xs)) (statements-show x s) (each xs)

  -- ---- heads

  then_head-each : (seen : List Observation) (v : Result ℤ Halt) (go : ℤ → Headed) → Each seen → ((z : ℤ) → Each (go z).seen) → Each (then_head seen v go).seen
  then_head-each seen (Ok z) go h each = all-append IsOfTurns seen (go z).seen h (each z)
  then_head-each seen (Err halt) go h each = h

  -- the head of an inner loop, or of a `while`
  abbrev IsInner : Head → Type 0
  IsInner (For lower upper stride) = 2 ≤ f.at.block.level
  IsInner (While condition) = Unit {0}

  head-each : (head : Head) (s : Store) → IsInner head → Each (head_of f head s).seen
  unfolding head_of
  head-each (For lower upper stride) s inner = then_head-each _ _ _ (told-each f s lower) (λ from. then_head-each _ _ _ (told-each f s upper) (λ to. ((λ e. absurd (cc)), ((λ e. inner), tt))))
  head-each (While condition) s inner = then_head-each _ _ _ (told-each f s condition) (λ v. ((λ e. absurd (cc)), tt))

  head_step-shows : (before seen : List Observation) (r : Result Yield Halt) (go : Yield → List (Store → Trace)) (s : Store) → Each before → Each seen → ((y : Yield) (u : Store) → Shows (in_turn (go y) u)) → Shows (traced (head_step before seen r go) s)
  head_step-shows before seen (Ok y) go s h k each = traced-shows (step_of before seen Nothing None (go y)) s (record { before = h; seen = k; rest = each y })
  head_step-shows before seen (Err halt) go s h k each = traced-shows (step_of before seen Nothing (Some halt) []) s (record { before = h; seen = k; rest = λ u. tt })

  headed-shows : (head : Head) (go : Yield → List (Store → Trace)) (s : Store) → IsInner head → ((y : Yield) (u : Store) → Shows (in_turn (go y) u)) → Shows (traced (headed f head go s) s)
  headed-shows head go s inner each = head_step-shows _ _ _ go s (announced-each s) (head-each head s inner) each

-- ---- loops

turns_from-shows : (n t : ℕ) (turn : ℕ → Store → Trace) → ((i : ℕ) (s : Store) → Shows (turn i s)) → (s : Store) → Shows (turns_from n t turn s)
turns_from-shows zero t turn each s = tt
turns_from-shows (suc n) t turn each s = and_then-shows s (turn t s) (turns_from n (t + 1) turn) (each t s) (turns_from-shows n (t + 1) turn each)

turns_of-shows : (turn : ℤ → ℕ → Store → Trace) → ((from : ℤ) (i : ℕ) (s : Store) → Shows (turn from i s)) → (y : Yield) (s : Store) → Shows (in_turn (turns_of turn y) s)
turns_of-shows turn each (Bounds lower trip) s = only-shows (turns_from trip 0 (turn lower)) (turns_from-shows trip 0 (turn lower) (each lower)) s
turns_of-shows turn each (Tested holds) s = tt

turn_if-shows : (turn more : Store → Trace) → ((s : Store) → Shows (turn s)) → ((s : Store) → Shows (more s)) → (y : Yield) (s : Store) → Shows (in_turn (turn_if turn more y) s)
turn_if-shows turn more each rest (Bounds lower trip) s = tt
turn_if-shows turn more each rest (Tested true) s = two-shows turn more each rest s
turn_if-shows turn more each rest (Tested false) s = tt

whiles_from-shows : (n t : ℕ) (frame : ℕ → Frame) (head : Head) (turn : ℕ → Store → Trace) → ((i : ℕ) → IsInner (frame i) head) → ((i : ℕ) (s : Store) → Shows (turn i s)) → (s : Store) → Shows (whiles_from n t frame head turn s)
whiles_from-shows zero t frame head turn inner each s = tt
whiles_from-shows (suc n) t frame head turn inner each s = headed-shows (frame t) head _ s (inner t) (turn_if-shows (turn t) _ (each t) (whiles_from-shows n (t + 1) frame head turn inner each))

loop_by-shows : (h : Head) (x : Expectation) (k level : ℕ) (turn : Around → Store → Trace) → 2 ≤ level → ((a : Around) (s : Store) → Shows (turn a s)) → (a : Around) (s : Store) → Shows (loop_by h x k level h turn a s)
loop_by-shows (For lower upper stride) x k level turn inner each a s = headed-shows (frame_of x part.Head level a) (For lower upper stride) _ s inner (turns_of-shows _ (λ from i u. each (inward a i (turn_value from stride i)) u))
loop_by-shows (While condition) x k level turn inner each a s = whiles_from-shows k 0 _ (While condition) _ (λ i. tt) (λ i u. each (inward a i (pos i)) u) s

turn_trace-shows : (x : Expectation) (level : ℕ) (l : Loop) (inner : Around → Store → Trace) → ((a : Around) (s : Store) → Shows (inner a s)) → (a : Around) (s : Store) → Shows (turn_trace x level l inner a s)
unfolding turn_trace
turn_trace-shows x level l inner each a s =
    and_then-shows s (instance_trace (frame_of x part.Pre level a) l.pre s) (in_turn (inner a ∷ instance_trace (frame_of x part.Post level a) l.post ∷ [])) (instance-shows (frame_of x part.Pre level a) l.pre s)
    (two-shows (inner a) (instance_trace (frame_of x part.Post level a) l.post) (each a) (instance-shows (frame_of x part.Post level a) l.post))

loops_trace-shows : (x : Expectation) (k level : ℕ) (ls : List Loop) → 2 ≤ level → (a : Around) (s : Store) → Shows (loops_trace x k level ls a s)
loops_trace-shows x k level [] inner a s = tt
loops_trace-shows x k level (l ∷ ls) inner a s = loop_by-shows l.head x k level _ inner (turn_trace-shows x level l _ (loops_trace-shows x k (level + 1) ls (omega (arith, inner)))) a s

-- ---- turns

counted-shows : (c n t : ℕ) (turn : ℕ → Store → Trace) → ((i : ℕ) (s : Store) → Shows (turn i s)) → (s : Store) → Shows (counted_turns c n t turn s)
counted-shows zero n t turn each s = tt
counted-shows (suc c) zero t turn each s = tt
counted-shows (suc c) (suc n) t turn each s = and_then-shows s (turn t s) (counted_turns c n (t + 1) turn) (each t s) (counted-shows c n (t + 1) turn each)

turn_or_over-shows : (turn more : Store → Trace) → ((s : Store) → Shows (turn s)) → ((s : Store) → Shows (more s)) → (y : Yield) (s : Store) → Shows (in_turn (turn_or_over turn more y) s)
turn_or_over-shows turn more each rest (Bounds lower trip) s = only-shows (λ u. over) (λ u. tt) s
turn_or_over-shows turn more each rest (Tested true) s = two-shows turn more each rest s
turn_or_over-shows turn more each rest (Tested false) s = only-shows (λ u. over) (λ u. tt) s

tested-shows : (c t : ℕ) (frame : ℕ → Frame) (head : Head) (turn : ℕ → Store → Trace) → ((i : ℕ) → IsInner (frame i) head) → ((i : ℕ) (s : Store) → Shows (turn i s)) → (s : Store) → Shows (tested_turns c t frame head turn s)
tested-shows zero t frame head turn inner each s = tt
tested-shows (suc c) t frame head turn inner each s = headed-shows (frame t) head _ s (inner t) (turn_or_over-shows (turn t) (tested_turns c (t + 1) frame head turn) (each t) (tested-shows c (t + 1) frame head turn inner each))

turns_by-shows : (h : Head) (x : Expectation) (turn : Around → Store → Trace) → ((a : Around) (s : Store) → Shows (turn a s)) → (o : Outer) (c : ℕ) (s : Store) → Shows (turns_by h x h turn o c s)
turns_by-shows (For lower upper stride) x turn each o c s = counted-shows c (number_left o.left) _ _ (λ i u. each (inward outside i (turn_value o.lower stride i)) u) s
turns_by-shows (While condition) x turn each o c s = tested-shows c _ _ (While condition) _ (λ i. tt) (λ i u. each (inward outside i (pos i)) u) s

turns-show : (x : Expectation) (k : ℕ) (loops : List Loop) (o : Outer) (c : ℕ) (s : Store) → Shows (turns_trace x k loops o c s)
unfolding turns_trace
turns-show x k [] o c s = tt
turns-show x k (l ∷ ls) o c s = turns_by-shows l.head x _ (turn_trace-shows x 1 l _ (loops_trace-shows x k 2 ls (omega arith))) o c s

seen-each : (es : List Entry) (n : ℕ) → AllByRecursion Tells es → Each (seen_of es n)
seen-each [] n h = tt
seen-each (e ∷ es) zero h = h.0.0
seen-each (e ∷ es) (suc n) h = all-append IsOfTurns (e.before ++ e.seen) (seen_of es n) (all-append IsOfTurns e.before e.seen h.0.0 h.0.1) (seen-each es n h.1)

pub turns-tell : (x : Expectation) (k : ℕ) (loops : List Loop) (o : Outer) (c : ℕ) (s : Store) (left : ℕ) → AllByRecursion IsOfTurns (seen_in (turns_trace x k loops o c s) left)
unfolding seen_in
turns-tell x k loops o c s left = seen-each (turns_trace x k loops o c s).entries left (turns-show x k loops o c s)
