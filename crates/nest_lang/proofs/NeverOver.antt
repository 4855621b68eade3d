-- Expressions, blocks and loops never halt since there is no further turn of the outermost loop.
use Rattle.std.proofs.Common.{sym, subst, ℕ, ℤ, pos, zero, suc, ◌+◌, Bool, true, false, List, [], ◌∷◌, map, Option, Some, None, Result, Ok, Err}
use Rattle.std.specs.Prelude.{if◌then◌else◌}
use Rattle.nest_lang.specs.declared.tree.Expr.{Expr, map-Expr, roll-Expr}
use Rattle.nest_lang.specs.declared.tree.Expr.TheOpen.{Expr-F}
use Rattle.nest_lang.specs.declared.tree.Expr.TheFolds.{ind-Expr}
use Rattle.nest_lang.specs.declared.tree.Stmt.{Stmt, map-Stmt, roll-Stmt}
use Rattle.nest_lang.specs.declared.tree.Stmt.TheOpen.{Stmt-F}
use Rattle.nest_lang.specs.declared.tree.Stmt.TheFolds.{ind-Stmt}
use Rattle.nest_lang.specs.declared.tree.Head.{Head}
use Rattle.nest_lang.specs.declared.tree.Head.TheVariants.{For, While}
use Rattle.nest_lang.specs.declared.tree.Loop.{Loop}
use Rattle.nest_lang.specs.declared.tree.Trap.{Trap}
use Rattle.nest_lang.specs.declared.tree.Part.TheVariants as part
use Rattle.nest_lang.specs.declared.observe.Stop.{Stop}
use Rattle.nest_lang.specs.declared.observe.Stop.TheVariants.{Outside, Unexpected}
use Rattle.nest_lang.specs.Values.{same, turn_value, apply_of, negate_of}
use Rattle.nest_lang.specs.Stores.{Store, Nothing}
use Rattle.nest_lang.specs.Lookups.{Expectation, look_load, look_store}
use Rattle.nest_lang.specs.Traces.{Observation, Entry, Halt, Trapped, Stopped, Over, Trace, joined, and_then, after_all, in_turn, Transition, step_of, traced}
use Rattle.nest_lang.specs.Expressions.{Frame, Told, then_tell, or_trapped, or_stopped, expression_level, told_by, told}
use Rattle.nest_lang.specs.Statements.{with_value, stored, statement_level, statement_trace, block_trace, started, instance_trace}
use Rattle.nest_lang.specs.Heads.{Yield, Bounds, Tested, Headed, then_head, head_of, head_step, headed}
use Rattle.nest_lang.specs.Loops.{Around, inward, frame_of, turn_trace, turns_from, turns_of, turn_if, whiles_from, loop_by, loops_trace}
use Rattle.nest_lang.proofs.StepLaws.{told-rolled, statement-rolled}

-- a halt, or none, for another reason
abbrev pub IsOther : Halt → Type 0
IsOther (Trapped trap) = Unit {0}
IsOther (Stopped access seen expected) = Unit {0}
IsOther Over = ⊥

abbrev pub GoesOn : Option Halt → Type 0
GoesOn None = Unit {0}
GoesOn (Some halt) = IsOther halt

abbrev pub FailsElse : {A : Type 0} → Result A Halt → Type 0
FailsElse (Ok v) = Unit {0}
FailsElse (Err halt) = IsOther halt

trapped-else : (r : Result ℤ Trap) → FailsElse (or_trapped r)
trapped-else (Ok v) = tt
trapped-else (Err trap) = tt

stopped-else : (access : ℕ) (r : Result ℤ Stop) → FailsElse (or_stopped access r)
stopped-else access (Ok v) = tt
stopped-else access (Err (Outside address)) = tt
stopped-else access (Err (Unexpected address expected)) = tt

then_tell-else : (seen : List Observation) (v : Result ℤ Halt) (go : ℤ → Told) → FailsElse v → ((z : ℤ) → FailsElse (go z).value) → FailsElse (then_tell seen v go).value
then_tell-else seen (Ok z) go h each = each z
then_tell-else seen (Err halt) go h each = h

then_head-else : (seen : List Observation) (v : Result ℤ Halt) (go : ℤ → Headed) → FailsElse v → ((z : ℤ) → FailsElse (go z).value) → FailsElse (then_head seen v go).value
then_head-else seen (Ok z) go h each = each z
then_head-else seen (Err halt) go h each = h

-- expressions
module _ (f : Frame) (scalars locals : List ℤ) (find : ℕ → ℤ → Result ℤ Stop) where
  Tells : Expr → Type 0
  Tells e = FailsElse (told_by f scalars locals find e).value

  level-else : (y : Expr-F ((e : Expr) × Tells e)) → FailsElse (expression_level f scalars locals find (map-Expr _ _ (told_by f scalars locals find) (map-Expr _ _ (λ e. e.0) y))).value
  unfolding Tells
  level-else (Expr-F.Number n) = tt
  level-else (Expr-F.Var place) = tt
  level-else (Expr-F.Load access a) = then_tell-else _ _ _ a.1 (λ z. stopped-else access (find access z))
  level-else (Expr-F.Neg a) = then_tell-else _ _ _ a.1 (λ z. trapped-else (negate_of z))
  level-else (Expr-F.Two op a b) = then_tell-else _ _ _ a.1 (λ z. then_tell-else _ _ _ b.1 (λ v. trapped-else (apply_of op z v)))

  tells : (e : Expr) → Tells e
  unfolding Tells
  tells = ind-Expr Tells (λ y z is. subst (λ w. Tells (roll-Expr w)) is
      (subst (λ (p : Told). FailsElse p.value) (sym (told-rolled f scalars locals find (map-Expr _ _ (λ e. e.0) z))) (level-else z)))

told-else : (f : Frame) (s : Store) (e : Expr) → FailsElse (told f s e).value
unfolding Tells
told-else f s e = tells f s.scalars s.locals (look_load f.expects s.memory) e

-- traces one after another
joined-goes : (halt : Option Halt) (es : List Entry) (more : Trace) → GoesOn halt → GoesOn more.halt → GoesOn (joined halt es more).halt
joined-goes (Some halt) es more h g = h
joined-goes None es more h g = g

pub and_then-goes : (s : Store) (t : Trace) (go : Store → Trace) → GoesOn t.halt → ((u : Store) → GoesOn (go u).halt) → GoesOn (and_then s t go).halt
and_then-goes s t go h each = joined-goes t.halt t.entries (go (after_all s t.entries)) h (each (after_all s t.entries))

only-goes : (f : Store → Trace) → ((s : Store) → GoesOn (f s).halt) → (s : Store) → GoesOn (in_turn (f ∷ []) s).halt
only-goes f each s = and_then-goes s (f s) (in_turn []) (each s) (λ u. tt)

two-goes : (f g : Store → Trace) → ((s : Store) → GoesOn (f s).halt) → ((s : Store) → GoesOn (g s).halt) → (s : Store) → GoesOn (in_turn (f ∷ g ∷ []) s).halt
two-goes f g each more s = and_then-goes s (f s) (in_turn (g ∷ [])) (each s) (only-goes g more)

-- statements
with_value-goes : (seen : List Observation) (v : Result ℤ Halt) (go : ℤ → Transition) (s : Store) → FailsElse v → ((z : ℤ) → GoesOn (traced (go z) s).halt) → GoesOn (traced (with_value seen v go) s).halt
with_value-goes seen (Ok z) go s h each = each z
with_value-goes seen (Err halt) go s h each = h

stored-goes : (seen : List Observation) (address v : ℤ) (r : Result ℤ Halt) (s : Store) → FailsElse r → GoesOn (traced (stored seen address v r) s).halt
stored-goes seen address v (Ok old) s h = tt
stored-goes seen address v (Err halt) s h = h

module _ (f : Frame) where
  Runs : Stmt → Type 0
  Runs x = (s : Store) → GoesOn (statement_trace f x s).halt

  all-go : (xs : List ((x : Stmt) × Runs x)) (s : Store) → GoesOn (in_turn (map (statement_trace f) (map (λ e. e.0) xs)) s).halt
  unfolding Runs
  all-go [] s = tt
  all-go (x ∷ xs) s = and_then-goes s (statement_trace f x.0 s) (in_turn (map (statement_trace f) (map (λ e. e.0) xs))) (x.1 s) (all-go xs)

  if-goes : (seen : List Observation) (v : Result ℤ Halt) (first second : List (Store → Trace)) (s : Store) → FailsElse v → ((u : Store) → GoesOn (in_turn first u).halt) → ((u : Store) → GoesOn (in_turn second u).halt)
      → GoesOn (traced (with_value seen v (λ z. step_of [] seen Nothing None (if same z (pos 0) then second else first))) s).halt
  if-goes seen (Err halt) first second s h one two = h
  if-goes seen (Ok z) first second s h one two = chosen (same z (pos 0))
    where
      chosen : (b : Bool) → GoesOn (in_turn (if b then second else first) s).halt
      chosen true = two s
      chosen false = one s

  level-goes : (y : Stmt-F ((x : Stmt) × Runs x)) (s : Store) → GoesOn (traced (statement_level f (map-Stmt _ _ (statement_trace f) (map-Stmt _ _ (λ e. e.0) y)) s) s).halt
  unfolding Runs
  level-goes (Stmt-F.Let number e) s = with_value-goes _ _ _ s (told-else f s e) (λ z. tt)
  level-goes (Stmt-F.Set number e) s = with_value-goes _ _ _ s (told-else f s e) (λ z. tt)
  level-goes (Stmt-F.Store access a e) s =
      with_value-goes _ _ _ s (told-else f s a) (λ z. with_value-goes _ _ _ s (told-else f s e) (λ v. stored-goes _ z v _ s (stopped-else access (look_store f.expects s.memory access z))))
  level-goes (Stmt-F.If e first second) s =
      if-goes _ _ (map (statement_trace f) (map (λ e. e.0) first)) (map (statement_trace f) (map (λ e. e.0) second)) s (told-else f s e) (all-go first) (all-go second)

  statements-go : (x : Stmt) → Runs x
  unfolding Runs
  statements-go = ind-Stmt Runs (λ y z is. subst (λ w. Runs (roll-Stmt w)) is
      (λ s. subst (λ (p : Store → Trace). GoesOn (p s).halt) (sym (statement-rolled f (map-Stmt _ _ (λ e. e.0) z))) (level-goes z s)))

  pub instance-goes : (block : List Stmt) (s : Store) → GoesOn (instance_trace f block s).halt
  unfolding instance_trace block_trace Runs
  instance-goes block s = each block (started s)
    where
      each : (block : List Stmt) (s : Store) → GoesOn (in_turn (map (statement_trace f) block) s).halt
      each [] s = tt
      each (x ∷ xs) s = and_then-goes s (statement_trace f x s) (in_turn (map (statement_trace f) xs)) (statements-go x s) (each xs)

  pub head-else : (head : Head) (s : Store) → FailsElse (head_of f head s).value
  unfolding head_of
  head-else (For lower upper stride) s = then_head-else _ _ _ (told-else f s lower) (λ from. then_head-else _ _ _ (told-else f s upper) (λ to. tt))
  head-else (While condition) s = then_head-else _ _ _ (told-else f s condition) (λ v. tt)

  head_step-goes : (before seen : List Observation) (r : Result Yield Halt) (go : Yield → List (Store → Trace)) (s : Store) → FailsElse r → ((y : Yield) (u : Store) → GoesOn (in_turn (go y) u).halt) → GoesOn (traced (head_step before seen r go) s).halt
  head_step-goes before seen (Ok y) go s h each = each y s
  head_step-goes before seen (Err halt) go s h each = h

  headed-goes : (head : Head) (go : Yield → List (Store → Trace)) (s : Store) → ((y : Yield) (u : Store) → GoesOn (in_turn (go y) u).halt) → GoesOn (traced (headed f head go s) s).halt
  headed-goes head go s each = head_step-goes _ _ _ go s (head-else head s) each

-- loops
turns_from-goes : (n t : ℕ) (turn : ℕ → Store → Trace) → ((i : ℕ) (s : Store) → GoesOn (turn i s).halt) → (s : Store) → GoesOn (turns_from n t turn s).halt
turns_from-goes zero t turn each s = tt
turns_from-goes (suc n) t turn each s = and_then-goes s (turn t s) (turns_from n (t + 1) turn) (each t s) (turns_from-goes n (t + 1) turn each)

turns_of-goes : (turn : ℤ → ℕ → Store → Trace) → ((from : ℤ) (i : ℕ) (s : Store) → GoesOn (turn from i s).halt) → (y : Yield) (s : Store) → GoesOn (in_turn (turns_of turn y) s).halt
turns_of-goes turn each (Bounds lower trip) s = only-goes (turns_from trip 0 (turn lower)) (turns_from-goes trip 0 (turn lower) (each lower)) s
turns_of-goes turn each (Tested holds) s = tt

turn_if-goes : (turn more : Store → Trace) → ((s : Store) → GoesOn (turn s).halt) → ((s : Store) → GoesOn (more s).halt) → (y : Yield) (s : Store) → GoesOn (in_turn (turn_if turn more y) s).halt
turn_if-goes turn more each rest (Bounds lower trip) s = tt
turn_if-goes turn more each rest (Tested true) s = two-goes turn more each rest s
turn_if-goes turn more each rest (Tested false) s = tt

whiles_from-goes : (n t : ℕ) (frame : ℕ → Frame) (head : Head) (turn : ℕ → Store → Trace) → ((i : ℕ) (s : Store) → GoesOn (turn i s).halt) → (s : Store) → GoesOn (whiles_from n t frame head turn s).halt
whiles_from-goes zero t frame head turn each s = tt
whiles_from-goes (suc n) t frame head turn each s = headed-goes (frame t) head _ s (turn_if-goes (turn t) _ (each t) (whiles_from-goes n (t + 1) frame head turn each))

loop_by-goes : (h : Head) (x : Expectation) (k level : ℕ) (head : Head) (turn : Around → Store → Trace) → ((a : Around) (s : Store) → GoesOn (turn a s).halt) → (a : Around) (s : Store) → GoesOn (loop_by h x k level head turn a s).halt
loop_by-goes (For lower upper stride) x k level head turn each a s = headed-goes _ head _ s (turns_of-goes _ (λ from i u. each (inward a i (turn_value from stride i)) u))
loop_by-goes (While condition) x k level head turn each a s = whiles_from-goes k 0 _ head _ (λ i u. each (inward a i (pos i)) u) s

pub turn_trace-goes : (x : Expectation) (level : ℕ) (l : Loop) (inner : Around → Store → Trace) → ((a : Around) (s : Store) → GoesOn (inner a s).halt) → (a : Around) (s : Store) → GoesOn (turn_trace x level l inner a s).halt
unfolding turn_trace
turn_trace-goes x level l inner each a s =
    and_then-goes s (instance_trace (frame_of x part.Pre level a) l.pre s) (in_turn (inner a ∷ instance_trace (frame_of x part.Post level a) l.post ∷ [])) (instance-goes (frame_of x part.Pre level a) l.pre s)
    (two-goes (inner a) (instance_trace (frame_of x part.Post level a) l.post) (each a) (instance-goes (frame_of x part.Post level a) l.post))

pub loops_trace-goes : (x : Expectation) (k level : ℕ) (ls : List Loop) (a : Around) (s : Store) → GoesOn (loops_trace x k level ls a s).halt
loops_trace-goes x k level [] a s = tt
loops_trace-goes x k level (l ∷ ls) a s = loop_by-goes l.head x k level l.head _ (turn_trace-goes x level l _ (loops_trace-goes x k (level + 1) ls)) a s
