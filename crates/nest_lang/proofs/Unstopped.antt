-- Turns whose addresses are verified, beside those that verify nothing.
use Rattle.std.proofs.Common.{◌≡◌, refl, ap, ◌∙◌, sym, subst, ℕ, ℤ, pos, zero, suc, ◌+◌, ◌⊎◌, inl, inr, Bool, true, false, not, List, [], ◌∷◌, ◌++◌, map, Option, Some, None, Result, Ok, Err}
use Rattle.std.specs.Prelude.{if◌then◌else◌, ◌&&◌}
use Rattle.nest_lang.specs.declared.tree.Expr.{Expr, map-Expr, roll-Expr}
use Rattle.nest_lang.specs.declared.tree.Expr.TheOpen.{Expr-F}
use Rattle.nest_lang.specs.declared.tree.Expr.TheFolds.{ind-Expr}
use Rattle.nest_lang.specs.declared.tree.Stmt.{Stmt, map-Stmt, roll-Stmt}
use Rattle.nest_lang.specs.declared.tree.Stmt.TheOpen.{Stmt-F}
use Rattle.nest_lang.specs.declared.tree.Stmt.TheFolds.{ind-Stmt}
use Rattle.nest_lang.specs.declared.tree.Head.{Head}
use Rattle.nest_lang.specs.declared.tree.Head.TheVariants.{For, While}
use Rattle.nest_lang.specs.declared.tree.Loop.{Loop}
use Rattle.nest_lang.specs.declared.tree.Part.{Part}
use Rattle.nest_lang.specs.declared.tree.Part.TheVariants as part
use Rattle.nest_lang.specs.declared.observe.Stop.TheVariants.{Unexpected}
use Rattle.nest_lang.specs.declared.observe.Seen.TheVariants.{Address}
use Rattle.nest_lang.specs.declared.state.Outer.{Outer}
use Rattle.nest_lang.specs.Values.{same, turn_value}
use Rattle.nest_lang.specs.Stores.{Store, word_at, Nothing, Local, Scalar}
use Rattle.nest_lang.specs.Lookups.{Interval, Expectation, plain, lies_in, line_of, look, look_load, look_store, word_or_outside}
use Rattle.nest_lang.specs.Traces.{Occurrence, Observation, Entry, Halt, Stopped, Trace, in_turn, Transition, step_of, traced}
use Rattle.nest_lang.specs.Expressions.{Frame, shown, Told, telling, then_tell, or_stopped, expression_level, told_by, told}
use Rattle.nest_lang.specs.Statements.{with_value, stored, statement_level, statement_trace, block_trace, started, announced, shown_before, instance_trace}
use Rattle.nest_lang.specs.Heads.{Yield, Bounds, Tested, Headed, heading, then_head, head_of, head_step, headed}
use Rattle.nest_lang.specs.Loops.{Around, inward, outside, frame_of, turn_trace, turns_from, turns_of, turn_if, whiles_from, loop_by, loops_trace}
use Rattle.nest_lang.specs.Turns.{counted_turns, turn_or_over, tested_turns, turns_by, turns_trace}
use Rattle.nest_lang.specs.TurnLaws.{UnstoppedTurnsArePlain}
use Rattle.nest_lang.proofs.StopsShort.{UpTo, UpToOn, up-joined, up-and_then, up-ends, up-only, up-two, up-stops, up-same}
use Rattle.nest_lang.proofs.StepLaws.{told-rolled, statement-rolled, with_value-before, stored-before, value-step, store-step, value-step-before, store-step-before, head_step-before}

-- a result that stops
abbrev Stops : {A : Type 0} → Result A Halt → Type 0
Stops r = (access : ℕ) × (seen : ℤ) × (expected : Option ℤ) × (r ≡ Err (Stopped access seen expected))

-- what a verified look-up answers: the same as one that verifies nothing, unless it stops
look-up : (verifies : Bool) (expected : Option Interval) (memory : List ℤ) (access : ℕ) (z : ℤ)
    → (or_stopped access (look verifies expected memory z) ≡ or_stopped access (look false None memory z)) ⊎ Stops (or_stopped access (look verifies expected memory z))
unfolding look
look-up verifies expected memory access z = at (verifies && not (lies_in expected z))
  where
    at : (b : Bool) → (or_stopped access (if b then Err (Unexpected z (line_of expected)) else word_or_outside z (word_at memory z)) ≡ or_stopped access (word_or_outside z (word_at memory z)))
        ⊎ Stops (or_stopped access (if b then Err (Unexpected z (line_of expected)) else word_or_outside z (word_at memory z)))
    at true = inr (access, z, line_of expected, refl)
    at false = inl refl

abbrev ToldUpTo : Told → Told → Type 0
ToldUpTo p q = (p ≡ q) ⊎ Stops p.value

telling-up : (os : List Observation) (r r' : Result ℤ Halt) → (r ≡ r') ⊎ Stops r → ToldUpTo (telling os r) (telling os r')
telling-up os r r' (inl e) = inl (ap (λ (v : Result ℤ Halt). telling os v) e)
telling-up os r r' (inr stop) = inr stop

then_tell-up : (p q : Told) (go go' : ℤ → Told) → ToldUpTo p q → ((z : ℤ) → ToldUpTo (go z) (go' z)) → ToldUpTo (then_tell p.seen p.value go) (then_tell q.seen q.value go')
then_tell-up p q go go' (inl e) each = subst (λ (r : Told). ToldUpTo (then_tell p.seen p.value go) (then_tell r.seen r.value go')) e (at p.seen p.value)
  where
    more : (seen : List Observation) (z : ℤ) → ToldUpTo (go z) (go' z) → ToldUpTo (telling (seen ++ (go z).seen) (go z).value) (telling (seen ++ (go' z).seen) (go' z).value)
    more seen z (inl e) = inl (ap (λ (r : Told). telling (seen ++ r.seen) r.value) e)
    more seen z (inr stop) = inr stop

    at : (seen : List Observation) (v : Result ℤ Halt) → ToldUpTo (then_tell seen v go) (then_tell seen v go')
    at seen (Err halt) = inl refl
    at seen (Ok z) = more seen z (each z)
then_tell-up p q go go' (inr stop) each = inr (stop.0, stop.1, stop.2, ap (λ (v : Result ℤ Halt). (then_tell p.seen v go).value) stop.3)

abbrev HeadedUpTo : Headed → Headed → Type 0
HeadedUpTo p q = (p ≡ q) ⊎ Stops p.value

then_head-up : (p q : Told) (go go' : ℤ → Headed) → ToldUpTo p q → ((z : ℤ) → HeadedUpTo (go z) (go' z)) → HeadedUpTo (then_head p.seen p.value go) (then_head q.seen q.value go')
then_head-up p q go go' (inl e) each = subst (λ (r : Told). HeadedUpTo (then_head p.seen p.value go) (then_head r.seen r.value go')) e (at p.seen p.value)
  where
    more : (seen : List Observation) (z : ℤ) → HeadedUpTo (go z) (go' z) → HeadedUpTo (heading (seen ++ (go z).seen) (go z).value) (heading (seen ++ (go' z).seen) (go' z).value)
    more seen z (inl e) = inl (ap (λ (r : Headed). heading (seen ++ r.seen) r.value) e)
    more seen z (inr stop) = inr stop

    at : (seen : List Observation) (v : Result ℤ Halt) → HeadedUpTo (then_head seen v go) (then_head seen v go')
    at seen (Err halt) = inl refl
    at seen (Ok z) = more seen z (each z)
then_head-up p q go go' (inr stop) each = inr (stop.0, stop.1, stop.2, ap (λ (v : Result ℤ Halt). (then_head p.seen v go).value) stop.3)

-- a step that follows from a value
with_value-stops : (seen : List Observation) (v : Result ℤ Halt) (go : ℤ → Transition) (b : Transition) (s : Store) → Stops v → b.entry.before ≡ [] → UpTo (traced (with_value seen v go) s) (traced b s)
with_value-stops seen v go b s stop none =
    up-stops (with_value seen v go) b s stop.0 stop.1 stop.2 (ap (λ (r : Result ℤ Halt). (with_value seen r go).halt) stop.3)
    (ap (λ (r : Result ℤ Halt). (with_value seen r go).entry.before) stop.3 ∙ sym none)

with_value-same : (seen : List Observation) (v : Result ℤ Halt) (go go' : ℤ → Transition) (s : Store) → ((z : ℤ) → UpTo (traced (go z) s) (traced (go' z) s)) → UpTo (traced (with_value seen v go) s) (traced (with_value seen v go') s)
with_value-same seen (Ok z) go go' s each = each z
with_value-same seen (Err halt) go go' s each = inl refl

stored-up : (seen : List Observation) (z v : ℤ) (r r' : Result ℤ Halt) (s : Store) → (r ≡ r') ⊎ Stops r → UpTo (traced (stored seen z v r) s) (traced (stored seen z v r') s)
stored-up seen z v r r' s (inl e) = inl (ap (λ (k : Result ℤ Halt). traced (stored seen z v k) s) e)
stored-up seen z v r r' s (inr stop) =
    up-stops (stored seen z v r) (stored seen z v r') s stop.0 stop.1 stop.2 (ap (λ (k : Result ℤ Halt). (stored seen z v k).halt) stop.3)
    (stored-before seen z v r ∙ sym (stored-before seen z v r'))

-- an instance, where its addresses are verified and where not
module _ (at : Occurrence) (values : List ℤ) (x : Expectation) where
  f : Frame
  f = record { at = at; values = values; expects = x }

  g : Frame
  g = record { at = at; values = values; expects = plain }

  module _ (scalars locals memory : List ℤ) where
    Tells : Expr → Type 0
    Tells e = ToldUpTo (told_by f scalars locals (look_load x memory) e) (told_by g scalars locals (look_load plain memory) e)

    level-up : (y : Expr-F ((e : Expr) × Tells e))
        → ToldUpTo (expression_level f scalars locals (look_load x memory) (map-Expr _ _ (told_by f scalars locals (look_load x memory)) (map-Expr _ _ (λ e. e.0) y)))
        (expression_level g scalars locals (look_load plain memory) (map-Expr _ _ (told_by g scalars locals (look_load plain memory)) (map-Expr _ _ (λ e. e.0) y)))
    unfolding Tells f g
    level-up (Expr-F.Number n) = inl refl
    level-up (Expr-F.Var place) = inl refl
    level-up (Expr-F.Load access a) = then_tell-up _ _ _ _ a.1 (λ z. telling-up (shown f (Address access) z ∷ []) _ _ (look-up x.verifies (x.loads access) memory access z))
    level-up (Expr-F.Neg a) = then_tell-up _ _ _ _ a.1 (λ z. inl refl)
    level-up (Expr-F.Two op a b) = then_tell-up _ _ _ _ a.1 (λ z. then_tell-up _ _ _ _ b.1 (λ v. inl refl))

    tells : (e : Expr) → Tells e
    unfolding Tells
    tells = ind-Expr Tells (λ y z is. subst (λ w. Tells (roll-Expr w)) is
        (subst (λ (p : Told). ToldUpTo p (told_by g scalars locals (look_load plain memory) (roll-Expr (map-Expr _ _ (λ e. e.0) z)))) (sym (told-rolled f scalars locals (look_load x memory) (map-Expr _ _ (λ e. e.0) z)))
        (subst (λ (q : Told). ToldUpTo (expression_level f scalars locals (look_load x memory) (map-Expr _ _ (told_by f scalars locals (look_load x memory)) (map-Expr _ _ (λ e. e.0) z))) q) (sym (told-rolled g scalars locals (look_load plain memory) (map-Expr _ _ (λ e. e.0) z))) (level-up z))))

  told-up : (s : Store) (e : Expr) → ToldUpTo (told f s e) (told g s e)
  unfolding Tells f g
  told-up s e = tells s.scalars s.locals s.memory e

  Runs : Stmt → Type 0
  Runs st = UpToOn (statement_trace f st) (statement_trace g st)

  statements-up : (xs : List ((st : Stmt) × Runs st)) → UpToOn (in_turn (map (statement_trace f) (map (λ e. e.0) xs))) (in_turn (map (statement_trace g) (map (λ e. e.0) xs)))
  unfolding Runs
  statements-up [] s = inl refl
  statements-up (st ∷ xs) s = up-and_then s _ _ _ _ (st.1 s) (statements-up xs)

  chosen-up : (b : Bool) (p q p' q' : List (Store → Trace)) → UpToOn (in_turn p) (in_turn p') → UpToOn (in_turn q) (in_turn q') → UpToOn (in_turn (if b then p else q)) (in_turn (if b then p' else q'))
  chosen-up true p q p' q' first second = first
  chosen-up false p q p' q' first second = second

  set-up : (go : ℤ → List Observation → Transition) (p q : Told) (s : Store) → ((z : ℤ) (os : List Observation) → (go z os).entry.before ≡ []) → ToldUpTo p q
      → UpTo (traced (with_value p.seen p.value (λ v. go v p.seen)) s) (traced (with_value q.seen q.value (λ v. go v q.seen)) s)
  set-up go p q s none (inl e) = inl (ap (λ (r : Told). traced (with_value r.seen r.value (λ v. go v r.seen)) s) e)
  set-up go p q s none (inr stop) = with_value-stops p.seen p.value (λ v. go v p.seen) (with_value q.seen q.value (λ v. go v q.seen)) s stop (with_value-before q.seen q.value (λ v. go v q.seen) (λ z. none z q.seen))

  if-up : (first second first' second' : List (Store → Trace)) (p q : Told) (s : Store) → UpToOn (in_turn first) (in_turn first') → UpToOn (in_turn second) (in_turn second') → ToldUpTo p q
      → UpTo (traced (with_value p.seen p.value (λ v. step_of [] p.seen Nothing None (if same v (pos 0) then second else first))) s)
      (traced (with_value q.seen q.value (λ v. step_of [] q.seen Nothing None (if same v (pos 0) then second' else first'))) s)
  if-up first second first' second' p q s on on' (inl e) =
      subst (λ (r : Told). UpTo (traced (with_value p.seen p.value (λ v. step_of [] p.seen Nothing None (if same v (pos 0) then second else first))) s)
      (traced (with_value r.seen r.value (λ v. step_of [] r.seen Nothing None (if same v (pos 0) then second' else first'))) s)) e
      (with_value-same p.seen p.value (λ v. step_of [] p.seen Nothing None (if same v (pos 0) then second else first)) (λ v. step_of [] p.seen Nothing None (if same v (pos 0) then second' else first')) s
      (λ z. up-joined None ((step_of [] p.seen Nothing None []).entry ∷ []) (in_turn (if same z (pos 0) then second else first) s) (in_turn (if same z (pos 0) then second' else first') s) (chosen-up (same z (pos 0)) second first second' first' on' on s)))
  if-up first second first' second' p q s on on' (inr stop) =
      with_value-stops p.seen p.value (λ v. step_of [] p.seen Nothing None (if same v (pos 0) then second else first))
      (with_value q.seen q.value (λ v. step_of [] q.seen Nothing None (if same v (pos 0) then second' else first'))) s stop
      (with_value-before q.seen q.value (λ v. step_of [] q.seen Nothing None (if same v (pos 0) then second' else first')) (λ z. refl))

  value-up : (access : ℕ) (a e e' : Told) (found found' : ℤ → Result ℤ Halt) (s : Store) (z : ℤ) → ToldUpTo e e' → (found z ≡ found' z) ⊎ Stops (found z)
      → UpTo (traced (value-step f access a e found z) s) (traced (value-step f access a e' found' z) s)
  value-up access a e e' found found' s z (inr stop) fu =
      with_value-stops (a.seen ++ e.seen) e.value (λ v. stored (a.seen ++ e.seen ++ shown f (Address access) z ∷ []) z v (found z)) (value-step f access a e' found' z) s stop (value-step-before f access a e' found' z)
  value-up access a e e' found found' s z (inl se) fu =
      subst (λ (r : Told). UpTo (traced (value-step f access a e found z) s) (traced (value-step f access a r found' z) s)) se
      (with_value-same (a.seen ++ e.seen) e.value (λ v. stored (a.seen ++ e.seen ++ shown f (Address access) z ∷ []) z v (found z)) (λ v. stored (a.seen ++ e.seen ++ shown f (Address access) z ∷ []) z v (found' z)) s
      (λ v. stored-up (a.seen ++ e.seen ++ shown f (Address access) z ∷ []) z v (found z) (found' z) s fu))

  store-up : (access : ℕ) (a a' e e' : Told) (found found' : ℤ → Result ℤ Halt) (s : Store) → ToldUpTo a a' → ToldUpTo e e' → ((z : ℤ) → (found z ≡ found' z) ⊎ Stops (found z))
      → UpTo (traced (store-step f access a e found) s) (traced (store-step f access a' e' found') s)
  store-up access a a' e e' found found' s (inr stop) eu fu = with_value-stops a.seen a.value (value-step f access a e found) (store-step f access a' e' found') s stop (store-step-before f access a' e' found')
  store-up access a a' e e' found found' s (inl sa) eu fu =
      subst (λ (r : Told). UpTo (traced (store-step f access a e found) s) (traced (store-step f access r e' found') s)) sa
      (with_value-same a.seen a.value (value-step f access a e found) (value-step f access a e' found') s (λ z. value-up access a e e' found found' s z eu (fu z)))

  statement_level-up : (y : Stmt-F ((st : Stmt) × Runs st)) → UpToOn (λ s. traced (statement_level f (map-Stmt _ _ (statement_trace f) (map-Stmt _ _ (λ e. e.0) y)) s) s) (λ s. traced (statement_level g (map-Stmt _ _ (statement_trace g) (map-Stmt _ _ (λ e. e.0) y)) s) s)
  unfolding Runs f g
  statement_level-up (Stmt-F.Let number e) s = set-up (λ v os. step_of [] os (Local number v) None []) _ _ s (λ z os. refl) (told-up s e)
  statement_level-up (Stmt-F.Set number e) s = set-up (λ v os. step_of [] os (Scalar number v) None []) _ _ s (λ z os. refl) (told-up s e)
  statement_level-up (Stmt-F.Store access a e) s =
      store-up access _ _ _ _ (λ z. or_stopped access (look_store x s.memory access z)) (λ z. or_stopped access (look_store plain s.memory access z)) s (told-up s a) (told-up s e) (λ z. look-up x.verifies (x.stores access) s.memory access z)
  statement_level-up (Stmt-F.If e first second) s = if-up _ _ _ _ _ _ s (statements-up first) (statements-up second) (told-up s e)

  every-statement-up : (st : Stmt) → Runs st
  unfolding Runs
  every-statement-up = ind-Stmt Runs (λ y z is. subst (λ w. Runs (roll-Stmt w)) is
      (subst (λ (p : Store → Trace). UpToOn p (statement_trace g (roll-Stmt (map-Stmt _ _ (λ e. e.0) z)))) (sym (statement-rolled f (map-Stmt _ _ (λ e. e.0) z)))
      (subst (λ (q : Store → Trace). UpToOn (λ s. traced (statement_level f (map-Stmt _ _ (statement_trace f) (map-Stmt _ _ (λ e. e.0) z)) s) s) q) (sym (statement-rolled g (map-Stmt _ _ (λ e. e.0) z))) (statement_level-up z))))

  block-up : (block : List Stmt) → UpToOn (block_trace f block) (block_trace g block)
  unfolding Runs block_trace
  block-up [] s = inl refl
  block-up (st ∷ block) s = up-and_then s _ _ _ _ (every-statement-up st s) (block-up block)

  shown_before-front : (os : List Observation) (es : List Entry) (e : Entry) (more : List Entry) → (first : List Entry) × (last : Entry) × (shown_before os (es ++ e ∷ more) ≡ first ++ last ∷ more)
  shown_before-front os [] e more = ([], record e { before = os ++ e.before }, refl)
  shown_before-front os (d ∷ es) e more = (record d { before = os ++ d.before } ∷ es, e, refl)

  instance-up : (block : List Stmt) → UpToOn (instance_trace f block) (instance_trace g block)
  unfolding instance_trace announced f g
  instance-up block s = at-first (block_trace f block (started s)) (block_trace g block (started s)) (block-up block (started s))
    where
      at-first : (t u : Trace) → UpTo t u → UpTo (record t { entries = shown_before (announced f s) t.entries }) (record u { entries = shown_before (announced g s) u.entries })
      at-first t u (inl e) = inl (ap (λ (w : Trace). record w { entries = shown_before (announced f s) w.entries }) e)
      at-first t u (inr p) = stops p.shared p.stopped p.goes
        where
          stops : (shared : List Entry) → t ≡ record { entries = shared ++ p.last ∷ []; halt = Some (Stopped p.access p.seen p.expected) } → u.entries ≡ shared ++ p.other ∷ p.more
              → UpTo (record t { entries = shown_before (announced f s) t.entries }) (record u { entries = shown_before (announced g s) u.entries })
          stops [] ended goes =
              inr (record {
                shared = [];
                last = record p.last { before = announced f s ++ p.last.before };
                other = record p.other { before = announced f s ++ p.other.before };
                more = p.more;
                access = p.access;
                seen = p.seen;
                expected = p.expected;
                stopped = ap (λ (w : Trace). record w { entries = shown_before (announced f s) w.entries }) ended;
                goes = ap (λ (entries : List Entry). shown_before (announced f s) entries) goes;
                due = ap (λ (os : List Observation). announced f s ++ os) p.due;
              })
          stops (d ∷ es) ended goes =
              inr (record {
                shared = record d { before = announced f s ++ d.before } ∷ es;
                last = p.last;
                other = p.other;
                more = p.more;
                access = p.access;
                seen = p.seen;
                expected = p.expected;
                stopped = ap (λ (w : Trace). record w { entries = shown_before (announced f s) w.entries }) ended;
                goes = ap (λ (entries : List Entry). shown_before (announced f s) entries) goes;
                due = p.due;
              })

  head-up : (head : Head) (s : Store) → HeadedUpTo (head_of f head s) (head_of g head s)
  unfolding head_of f g
  head-up (For lower upper stride) s =
      then_head-up _ _ _ _ (told-up s lower) (λ from. then_head-up _ _ _ _ (told-up s upper) (λ to. inl refl))
  head-up (While condition) s = then_head-up _ _ _ _ (told-up s condition) (λ v. inl refl)

  headed-up : (head : Head) (go go' : Yield → List (Store → Trace)) (s : Store) → ((y : Yield) → UpToOn (in_turn (go y)) (in_turn (go' y))) → UpTo (traced (headed f head go s) s) (traced (headed g head go' s) s)
  unfolding announced f g
  headed-up head go go' s each = by (head_of f head s) (head_of g head s) (head-up head s)
    where
      same-head : (seen : List Observation) (v : Result Yield Halt) → UpTo (traced (head_step (announced f s) seen v go) s) (traced (head_step (announced g s) seen v go') s)
      same-head seen (Err halt) = inl refl
      same-head seen (Ok y) = up-joined None (record { before = announced f s; seen = seen; effect = Nothing } ∷ []) (in_turn (go y) s) (in_turn (go' y) s) (each y s)

      by : (p q : Headed) → HeadedUpTo p q → UpTo (traced (head_step (announced f s) p.seen p.value go) s) (traced (head_step (announced g s) q.seen q.value go') s)
      by p q (inl e) = subst (λ (r : Headed). UpTo (traced (head_step (announced f s) p.seen p.value go) s) (traced (head_step (announced g s) r.seen r.value go') s)) e (same-head p.seen p.value)
      by p q (inr stop) =
          up-stops (head_step (announced f s) p.seen p.value go) (head_step (announced g s) q.seen q.value go') s stop.0 stop.1 stop.2
          (ap (λ (v : Result Yield Halt). (head_step (announced f s) p.seen v go).halt) stop.3)
          (head_step-before (announced f s) p.seen p.value go ∙ sym (head_step-before (announced g s) q.seen q.value go'))

-- loops
turns_from-up : (n t : ℕ) (turn turn' : ℕ → Store → Trace) → ((i : ℕ) → UpToOn (turn i) (turn' i)) → UpToOn (turns_from n t turn) (turns_from n t turn')
turns_from-up zero t turn turn' each s = inl refl
turns_from-up (suc n) t turn turn' each s = up-and_then s _ _ _ _ (each t s) (turns_from-up n (t + 1) turn turn' each)

module _ (x : Expectation) where
  frame-up : (p : Part) (level : ℕ) (a : Around) (block : List Stmt) → UpToOn (instance_trace (frame_of x p level a) block) (instance_trace (frame_of plain p level a) block)
  unfolding f g
  frame-up p level a block = instance-up (record { block = record { part = p; level = level }; counters = a.counters }) a.values x block

  loop-head-up : (level : ℕ) (a : Around) (head : Head) (go go' : Yield → List (Store → Trace)) (s : Store) → ((y : Yield) → UpToOn (in_turn (go y)) (in_turn (go' y)))
      → UpTo (traced (headed (frame_of x part.Head level a) head go s) s) (traced (headed (frame_of plain part.Head level a) head go' s) s)
  unfolding f g
  loop-head-up level a head go go' s each = headed-up (record { block = record { part = part.Head; level = level }; counters = a.counters }) a.values x head go go' s each

  turns_of-up : (turn turn' : ℤ → ℕ → Store → Trace) → ((from : ℤ) (t : ℕ) → UpToOn (turn from t) (turn' from t)) → (y : Yield) → UpToOn (in_turn (turns_of turn y)) (in_turn (turns_of turn' y))
  turns_of-up turn turn' each (Bounds lower trip) = up-only _ _ (turns_from-up trip 0 (turn lower) (turn' lower) (each lower))
  turns_of-up turn turn' each (Tested holds) = up-ends

  turn_if-up : (turn turn' more more' : Store → Trace) → UpToOn turn turn' → UpToOn more more' → (y : Yield) → UpToOn (in_turn (turn_if turn more y)) (in_turn (turn_if turn' more' y))
  turn_if-up turn turn' more more' on on' (Bounds lower trip) = up-ends
  turn_if-up turn turn' more more' on on' (Tested true) = up-two turn turn' more more' on on'
  turn_if-up turn turn' more more' on on' (Tested false) = up-ends

  whiles_from-up : (n t level : ℕ) (around : ℕ → Around) (head : Head) (turn turn' : ℕ → Store → Trace) → ((i : ℕ) → UpToOn (turn i) (turn' i))
      → UpToOn (whiles_from n t (λ i. frame_of x part.Head level (around i)) head turn) (whiles_from n t (λ i. frame_of plain part.Head level (around i)) head turn')
  whiles_from-up zero t level around head turn turn' each s = inl refl
  whiles_from-up (suc n) t level around head turn turn' each s =
      loop-head-up level (around t) head _ _ s (turn_if-up (turn t) (turn' t) _ _ (each t) (whiles_from-up n (t + 1) level around head turn turn' each))

  loop_by-up : (h : Head) (k level : ℕ) (head : Head) (turn turn' : Around → Store → Trace) → ((a : Around) → UpToOn (turn a) (turn' a)) → (a : Around) → UpToOn (loop_by h x k level head turn a) (loop_by h plain k level head turn' a)
  loop_by-up (For lower upper stride) k level head turn turn' each a s = loop-head-up level a head _ _ s (turns_of-up _ _ (λ from t. each (inward a t (turn_value from stride t))))
  loop_by-up (While condition) k level head turn turn' each a s = whiles_from-up k 0 level (λ t. inward a t (pos t)) head _ _ (λ t. each (inward a t (pos t))) s

  turn_trace-up : (level : ℕ) (l : Loop) (inner inner' : Around → Store → Trace) → ((a : Around) → UpToOn (inner a) (inner' a)) → (a : Around) → UpToOn (turn_trace x level l inner a) (turn_trace plain level l inner' a)
  unfolding turn_trace
  turn_trace-up level l inner inner' each a s =
      up-and_then s _ _ _ _ (frame-up part.Pre level a l.pre s) (up-two _ _ _ _ (each a) (frame-up part.Post level a l.post))

  loops_trace-up : (k level : ℕ) (ls : List Loop) (a : Around) → UpToOn (loops_trace x k level ls a) (loops_trace plain k level ls a)
  loops_trace-up k level [] a s = inl refl
  loops_trace-up k level (l ∷ ls) a s = loop_by-up l.head k level l.head _ _ (turn_trace-up level l _ _ (loops_trace-up k (level + 1) ls)) a s

  -- some turns of the outermost loop
  counted_turns-up : (c n t : ℕ) (turn turn' : ℕ → Store → Trace) → ((i : ℕ) → UpToOn (turn i) (turn' i)) → UpToOn (counted_turns c n t turn) (counted_turns c n t turn')
  counted_turns-up zero n t turn turn' each s = inl refl
  counted_turns-up (suc c) zero t turn turn' each s = inl refl
  counted_turns-up (suc c) (suc n) t turn turn' each s = up-and_then s _ _ _ _ (each t s) (counted_turns-up c n (t + 1) turn turn' each)

  turn_or_over-up : (turn turn' more more' : Store → Trace) → UpToOn turn turn' → UpToOn more more' → (y : Yield) → UpToOn (in_turn (turn_or_over turn more y)) (in_turn (turn_or_over turn' more' y))
  turn_or_over-up turn turn' more more' on on' (Bounds lower trip) s = inl refl
  turn_or_over-up turn turn' more more' on on' (Tested true) s = up-two turn turn' more more' on on' s
  turn_or_over-up turn turn' more more' on on' (Tested false) s = inl refl

  tested_turns-up : (c t : ℕ) (around : ℕ → Around) (head : Head) (turn turn' : ℕ → Store → Trace) → ((i : ℕ) → UpToOn (turn i) (turn' i))
      → UpToOn (tested_turns c t (λ i. frame_of x part.Head 1 (around i)) head turn) (tested_turns c t (λ i. frame_of plain part.Head 1 (around i)) head turn')
  tested_turns-up zero t around head turn turn' each s = inl refl
  tested_turns-up (suc c) t around head turn turn' each s =
      loop-head-up 1 (around t) head _ _ s (turn_or_over-up (turn t) (turn' t) _ _ (each t) (tested_turns-up c (t + 1) around head turn turn' each))

  turns_by-up : (h head : Head) (turn turn' : Around → Store → Trace) (o : Outer) (c : ℕ) → ((a : Around) → UpToOn (turn a) (turn' a)) → UpToOn (turns_by h x head turn o c) (turns_by h plain head turn' o c)
  turns_by-up (For lower upper stride) head turn turn' o c each s = counted_turns-up c _ _ _ _ (λ t. each (inward outside t (turn_value o.lower stride t))) s
  turns_by-up (While condition) head turn turn' o c each s = tested_turns-up c _ (λ t. inward outside t (pos t)) head _ _ (λ t. each (inward outside t (pos t))) s

  turns_trace-up : (k : ℕ) (ls : List Loop) (o : Outer) (c : ℕ) → UpToOn (turns_trace x k ls o c) (turns_trace plain k ls o c)
  unfolding turns_trace
  turns_trace-up k [] o c s = inl refl
  turns_trace-up k (l ∷ ls) o c s = turns_by-up l.head l.head _ _ o c (turn_trace-up 1 l _ _ (loops_trace-up k 2 ls)) s

pub unstopped-turns-plain : UnstoppedTurnsArePlain
unstopped-turns-plain x k loops o c s left used other = up-same (turns_trace x k loops o c s) (turns_trace plain k loops o c s) s left used (turns_trace-up x k loops o c s) other
