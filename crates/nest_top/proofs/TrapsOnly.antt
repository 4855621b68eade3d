-- A plain run ends, traps or is limited: nothing else halts it.
use Rattle.std.proofs.Common.{◌≡◌, refl, sym, subst, ℕ, zero, suc, ◌+◌, ℤ, pos, Bool, true, false, List, [], ◌∷◌, map, length, Option, Some, None, Result, Ok, Err}
use Rattle.std.specs.Prelude.{nat_le, if◌then◌else◌}
use Rattle.nest_lang.specs.declared.tree.Trap.{Trap}
use Rattle.nest_lang.specs.declared.tree.Part.TheVariants as part
use Rattle.nest_lang.specs.declared.tree.Expr.{Expr, map-Expr, roll-Expr}
use Rattle.nest_lang.specs.declared.tree.Expr.TheOpen.{Expr-F}
use Rattle.nest_lang.specs.declared.tree.Expr.TheFolds.{fold-roll-Expr, ind-Expr}
use Rattle.nest_lang.specs.declared.tree.Stmt.{Stmt, map-Stmt, roll-Stmt}
use Rattle.nest_lang.specs.declared.tree.Stmt.TheOpen.{Stmt-F}
use Rattle.nest_lang.specs.declared.tree.Stmt.TheFolds.{fold-roll-Stmt, ind-Stmt}
use Rattle.nest_lang.specs.declared.tree.Head.{Head}
use Rattle.nest_lang.specs.declared.tree.Head.TheVariants.{For, While}
use Rattle.nest_lang.specs.declared.tree.Loop.{Loop}
use Rattle.nest_lang.specs.declared.tree.Nest.{Nest}
use Rattle.nest_lang.specs.declared.budget.Ending.{Ending}
use Rattle.nest_lang.specs.declared.budget.Ending.TheVariants as ending
use Rattle.nest_lang.specs.Values.{turn_value}
use Rattle.nest_lang.specs.Stores.{Store, word_at}
use Rattle.nest_lang.specs.Lookups.{plain, look, look_load, word_or_outside}
use Rattle.nest_lang.specs.Traces.{Occurrence, Observation, Halt, Trapped, Stopped, Over, Trace, Transition, Entry, joined, in_turn, traced, Limited, finish_of, cut}
use Rattle.nest_lang.specs.Expressions.{Frame, Told, told, told_by, then_tell, or_trapped, or_stopped, expression_level}
use Rattle.nest_lang.specs.Statements.{with_value, stored, statement_level, statement_trace, block_trace, instance_trace, started}
use Rattle.nest_lang.specs.Heads.{Yield, Bounds, Tested, Headed, then_head, head_of, head_step, headed}
use Rattle.nest_lang.specs.Loops.{Around, inward, frame_of, turn_trace, turns_from, turns_of, turn_if, whiles_from, loop_by, loops_trace, outside}
use Rattle.nest_lang.specs.Runs.{nest_trace, nests_trace, plain_run, finish_of_ending}

-- no halt, or a trap
abbrev OnlyTraps : Option Halt → Type 0
OnlyTraps None = Unit {0}
OnlyTraps (Some (Trapped trap)) = Unit {0}
OnlyTraps (Some (Stopped access seen expected)) = ⊥
OnlyTraps (Some Over) = ⊥

abbrev FailsByTraps : {A : Type 0} → Result A Halt → Type 0
FailsByTraps (Ok x) = Unit {0}
FailsByTraps (Err halt) = OnlyTraps (Some halt)

-- what runs from a store halts by traps alone
abbrev Fine : (Store → Trace) → Type 0
Fine run = (s : Store) → OnlyTraps (run s).halt

abbrev AllFine : List (Store → Trace) → Type 0
AllFine [] = Unit {0}
AllFine (f ∷ fs) = Fine f × AllFine fs

-- a transition that halts by traps alone, and so does what follows it
abbrev FineStep : Transition → Type 0
FineStep st = OnlyTraps st.halt × AllFine st.rest

joined-fine : (h : Option Halt) (es : List Entry) (more : Trace) → OnlyTraps h → OnlyTraps more.halt → OnlyTraps (joined h es more).halt
joined-fine None es more a b = b
joined-fine (Some halt) es more a b = a

in_turn-fine : (fs : List (Store → Trace)) → AllFine fs → Fine (in_turn fs)
in_turn-fine [] a s = tt
in_turn-fine (f ∷ fs) a s = joined-fine (f s).halt (f s).entries _ (a.0 s) (in_turn-fine fs a.1 _)

traced-fine : (st : Transition) (s : Store) → FineStep st → OnlyTraps (traced st s).halt
traced-fine st s a = joined-fine st.halt (st.entry ∷ []) _ a.0 (in_turn-fine st.rest a.1 _)

-- values

then_tell-fine : (seen : List Observation) (v : Result ℤ Halt) (go : ℤ → Told) → FailsByTraps v → ((z : ℤ) → FailsByTraps (go z).value) → FailsByTraps (then_tell seen v go).value
then_tell-fine seen (Ok z) go a b = b z
then_tell-fine seen (Err halt) go a b = a

trapped-fine : (r : Result ℤ Trap) → FailsByTraps (or_trapped r)
trapped-fine (Ok v) = tt
trapped-fine (Err t) = tt

outside-fine : (access : ℕ) (address : ℤ) (o : Option ℤ) → FailsByTraps (or_stopped access (word_or_outside address o))
outside-fine access address None = tt
outside-fine access address (Some w) = tt

look-fine : (memory : List ℤ) (access : ℕ) (address : ℤ) → FailsByTraps (or_stopped access (look false None memory address))
unfolding look
look-fine memory access address = outside-fine access address (word_at memory address)

module _ (at : Occurrence) (values : List ℤ) where
  abbrev f : Frame
  f = record { at = at; values = values; expects = plain }

  module _ (scalars locals memory : List ℤ) where
    Told-fine : Expr → Type 0
    Told-fine e = FailsByTraps (told_by f scalars locals (look_load plain memory) e).value

    rolled : (y : Expr-F Expr) → told_by f scalars locals (look_load plain memory) (roll-Expr y) ≡ expression_level f scalars locals (look_load plain memory) (map-Expr _ _ (told_by f scalars locals (look_load plain memory)) y)
    unfolding told_by
    rolled y = fold-roll-Expr Told (expression_level f scalars locals (look_load plain memory)) y

    level-fine : (y : Expr-F ((e : Expr) × Told-fine e)) → FailsByTraps (expression_level f scalars locals (look_load plain memory) (map-Expr _ _ (told_by f scalars locals (look_load plain memory)) (map-Expr _ _ (λ e. e.0) y))).value
    unfolding Told-fine
    level-fine (Expr-F.Number n) = tt
    level-fine (Expr-F.Var place) = tt
    level-fine (Expr-F.Load access a) = then_tell-fine _ _ _ a.1 (λ z. look-fine memory access z)
    level-fine (Expr-F.Neg a) = then_tell-fine _ _ _ a.1 (λ z. trapped-fine _)
    level-fine (Expr-F.Two op a b) = then_tell-fine _ _ _ a.1 (λ z. then_tell-fine _ _ _ b.1 (λ v. trapped-fine _))

    tells-fine : (e : Expr) → Told-fine e
    unfolding Told-fine
    tells-fine = ind-Expr Told-fine (λ y z is. subst (λ w. Told-fine (roll-Expr w)) is
        (subst (λ (p : Told). FailsByTraps p.value) (sym (rolled (map-Expr _ _ (λ e. e.0) z))) (level-fine z)))

  told-fine : (s : Store) (e : Expr) → FailsByTraps (told f s e).value
  unfolding Told-fine
  told-fine s e = tells-fine s.scalars s.locals s.memory e

  -- statements

  with_value-fine : (seen : List Observation) (v : Result ℤ Halt) (go : ℤ → Transition) → FailsByTraps v → ((z : ℤ) → FineStep (go z)) → FineStep (with_value seen v go)
  with_value-fine seen (Ok z) go a b = b z
  with_value-fine seen (Err halt) go a b = (a, tt)

  stored-fine : (seen : List Observation) (address v : ℤ) (r : Result ℤ Halt) → FailsByTraps r → FineStep (stored seen address v r)
  stored-fine seen address v (Ok old) a = (tt, tt)
  stored-fine seen address v (Err halt) a = (a, tt)

  Parts-fine : Stmt-F (Store → Trace) → Type 0
  Parts-fine (Stmt-F.If e first second) = AllFine first × AllFine second
  Parts-fine _ = Unit {0}

  if-fine : (b : Bool) (xs ys : List (Store → Trace)) → AllFine xs → AllFine ys → AllFine (if b then xs else ys)
  if-fine true xs ys h k = h
  if-fine false xs ys h k = k

  statement_level-fine : (x : Stmt-F (Store → Trace)) (s : Store) → Parts-fine x → FineStep (statement_level f x s)
  unfolding Parts-fine
  statement_level-fine (Stmt-F.Let number e) s parts = with_value-fine _ (told f s e).value _ (told-fine s e) (λ z. (tt, tt))
  statement_level-fine (Stmt-F.Set number e) s parts = with_value-fine _ (told f s e).value _ (told-fine s e) (λ z. (tt, tt))
  statement_level-fine (Stmt-F.Store access a e) s parts = with_value-fine _ (told f s a).value _ (told-fine s a) (λ z. with_value-fine _ (told f s e).value _ (told-fine s e) (λ v. stored-fine _ z v _ (look-fine s.memory access z)))
  statement_level-fine (Stmt-F.If e first second) s parts = with_value-fine _ (told f s e).value _ (told-fine s e) (λ z. (tt, if-fine _ second first parts.1 parts.0))

  Runs-fine : Stmt → Type 0
  Runs-fine st = Fine (statement_trace f st)

  all-mapped : (xs : List ((st : Stmt) × Runs-fine st)) → AllFine (map (statement_trace f) (map (λ e. e.0) xs))
  unfolding Runs-fine
  all-mapped [] = tt
  all-mapped (x ∷ xs) = (x.1, all-mapped xs)

  layer-fine : (y : Stmt-F ((st : Stmt) × Runs-fine st)) → Parts-fine (map-Stmt _ _ (statement_trace f) (map-Stmt _ _ (λ e. e.0) y))
  unfolding Parts-fine
  layer-fine (Stmt-F.Let number e) = tt
  layer-fine (Stmt-F.Set number e) = tt
  layer-fine (Stmt-F.Store access a e) = tt
  layer-fine (Stmt-F.If e first second) = (all-mapped first, all-mapped second)

  rolled-statement : (x : Stmt-F Stmt) → statement_trace f (roll-Stmt x) ≡ (λ s. traced (statement_level f (map-Stmt _ _ (statement_trace f) x) s) s)
  unfolding statement_trace
  rolled-statement x = fold-roll-Stmt (Store → Trace) (λ z s. traced (statement_level f z s) s) x

  statement-fine : (st : Stmt) → Runs-fine st
  unfolding Runs-fine
  statement-fine = ind-Stmt Runs-fine (λ x y is. subst (λ z. Runs-fine (roll-Stmt z)) is
      (subst Fine (sym (rolled-statement (map-Stmt _ _ (λ e. e.0) y))) (λ s. traced-fine (statement_level f (map-Stmt _ _ (statement_trace f) (map-Stmt _ _ (λ e. e.0) y)) s) s (statement_level-fine _ s (layer-fine y)))))

  block-fine : (xs : List Stmt) → AllFine (map (statement_trace f) xs)
  unfolding Runs-fine
  block-fine [] = tt
  block-fine (x ∷ xs) = (statement-fine x, block-fine xs)

  instance-fine : (xs : List Stmt) → Fine (instance_trace f xs)
  unfolding instance_trace block_trace
  instance-fine xs s = in_turn-fine (map (statement_trace f) xs) (block-fine xs) (started s)

  -- heads

  then_head-fine : (seen : List Observation) (v : Result ℤ Halt) (go : ℤ → Headed) → FailsByTraps v → ((z : ℤ) → FailsByTraps (go z).value) → FailsByTraps (then_head seen v go).value
  then_head-fine seen (Ok z) go a b = b z
  then_head-fine seen (Err halt) go a b = a

  head_of-fine : (h : Head) (s : Store) → FailsByTraps (head_of f h s).value
  unfolding head_of
  head_of-fine (For lower upper stride) s = then_head-fine _ (told f s lower).value _ (told-fine s lower) (λ z. then_head-fine _ (told f s upper).value _ (told-fine s upper) (λ v. tt))
  head_of-fine (While condition) s = then_head-fine _ (told f s condition).value _ (told-fine s condition) (λ z. tt)

  head_step-fine : (before seen : List Observation) (r : Result Yield Halt) (go : Yield → List (Store → Trace)) → FailsByTraps r → ((y : Yield) → AllFine (go y)) → FineStep (head_step before seen r go)
  head_step-fine before seen (Ok y) go a b = (tt, b y)
  head_step-fine before seen (Err halt) go a b = (a, tt)

  headed-fine : (h : Head) (go : Yield → List (Store → Trace)) → ((y : Yield) → AllFine (go y)) → Fine (λ s. traced (headed f h go s) s)
  headed-fine h go b s = traced-fine (headed f h go s) s (head_step-fine _ _ (head_of f h s).value go (head_of-fine h s) b)

-- loops

turns_from-fine : (n t : ℕ) (turn : ℕ → Store → Trace) → ((t : ℕ) → Fine (turn t)) → Fine (turns_from n t turn)
turns_from-fine zero t turn h s = tt
turns_from-fine (suc n) t turn h s = joined-fine (turn t s).halt (turn t s).entries _ (h t s) (turns_from-fine n (t + 1) turn h _)

turns_of-fine : (turn : ℤ → ℕ → Store → Trace) → ((z : ℤ) (t : ℕ) → Fine (turn z t)) → (y : Yield) → AllFine (turns_of turn y)
turns_of-fine turn h (Bounds lower trip) = (turns_from-fine trip 0 (turn lower) (h lower), tt)
turns_of-fine turn h (Tested holds) = tt

turn_if-fine : (turn more : Store → Trace) → Fine turn → Fine more → (y : Yield) → AllFine (turn_if turn more y)
turn_if-fine turn more h k (Bounds lower trip) = tt
turn_if-fine turn more h k (Tested true) = (h, (k, tt))
turn_if-fine turn more h k (Tested false) = tt

whiles_from-fine : (n t : ℕ) (at : ℕ → Occurrence) (values : ℕ → List ℤ) (h : Head) (turn : ℕ → Store → Trace) → ((t : ℕ) → Fine (turn t)) → Fine (whiles_from n t (λ t. record { at = at t; values = values t; expects = plain }) h turn)
whiles_from-fine zero t at values h turn k s = tt
whiles_from-fine (suc n) t at values h turn k s = headed-fine (at t) (values t) h (turn_if (turn t) (whiles_from n (t + 1) (λ t. record { at = at t; values = values t; expects = plain }) h turn))
    (turn_if-fine (turn t) _ (k t) (whiles_from-fine n (t + 1) at values h turn k)) s

loop_by-fine : (shape head : Head) (k level : ℕ) (turn : Around → Store → Trace) → ((a : Around) → Fine (turn a)) → (a : Around) → Fine (loop_by shape plain k level head turn a)
loop_by-fine (For lower upper stride) head k level turn h a s = headed-fine _ _ head _ (turns_of-fine _ (λ from t. h (inward a t (turn_value from stride t)))) s
loop_by-fine (While condition) head k level turn h a s = whiles_from-fine k 0 _ _ head _ (λ t. h (inward a t (pos t))) s

turn-fine : (level : ℕ) (l : Loop) (inner : Around → Store → Trace) → ((a : Around) → Fine (inner a)) → (a : Around) → Fine (turn_trace plain level l inner a)
unfolding turn_trace
turn-fine level l inner h a = in_turn-fine (instance_trace (frame_of plain part.Pre level a) l.pre ∷ inner a ∷ instance_trace (frame_of plain part.Post level a) l.post ∷ []) (instance-fine _ _ l.pre, (h a, (instance-fine _ _ l.post, tt)))

loops-fine : (k level : ℕ) (ls : List Loop) (a : Around) → Fine (loops_trace plain k level ls a)
loops-fine k level [] a s = tt
loops-fine k level (l ∷ ls) a s = loop_by-fine l.head l.head k level (turn_trace plain level l (loops_trace plain k (level + 1) ls)) (turn-fine level l (loops_trace plain k (level + 1) ls) (loops-fine k (level + 1) ls)) a s

nests-fine : (k : ℕ) (nests : List Nest) → AllFine (map (λ nest. nest_trace k nest.loops) nests)
unfolding nest_trace
nests-fine k [] = tt
nests-fine k (n ∷ ns) = (loops-fine k 1 n.loops outside, nests-fine k ns)

finish : (h : Option Halt) → OnlyTraps h → (e : Ending) × (finish_of_ending e ≡ finish_of h)
finish None a = (ending.Ended, refl)
finish (Some (Trapped trap)) a = (ending.Trapped trap, refl)
finish (Some (Stopped access seen expected)) a = absurd a
finish (Some Over) a = absurd a

-- a plain run finishes as some ending says
pub plain_run-finishes : (nests : List Nest) (s : Store) (n : ℕ) → (e : Ending) × (finish_of_ending e ≡ (plain_run nests s n).ending)
unfolding plain_run nests_trace cut
plain_run-finishes nests s n = elim (nat_le (length (in_turn (map (λ nest. nest_trace (n + 1) nest.loops) nests) s).entries) n) as (λ b. (e : Ending) × (finish_of_ending e ≡ (if b then finish_of (in_turn (map (λ nest. nest_trace (n + 1) nest.loops) nests) s).halt else Limited))) [
  | true ↦ finish _ (in_turn-fine (map (λ nest. nest_trace (n + 1) nest.loops) nests) (nests-fine (n + 1) nests) s)
  | false ↦ (ending.Limited, refl)
]
