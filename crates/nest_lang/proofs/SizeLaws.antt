-- The steps of an instance of a block, and the statements of the block.
use Rattle.std.proofs.Common.{◌≡◌, refl, sym, subst, ℕ, ℤ, pos, ◌+◌, ◌≤◌, Bool, true, false, List, [], ◌∷◌, map, length, length-append, Option, Some, None, Result, Ok, Err, arith}
use Rattle.std.specs.List.{sum, sum_by}
use Rattle.std.proofs.lemmas.List.Sums.{sum_by-cons}
use Rattle.std.specs.Prelude.{if◌then◌else◌}
use Rattle.nest_lang.specs.declared.tree.Stmt.{Stmt, map-Stmt, roll-Stmt}
use Rattle.nest_lang.specs.declared.tree.Stmt.TheOpen.{Stmt-F}
use Rattle.nest_lang.specs.declared.tree.Stmt.TheFolds.{fold-roll-Stmt, ind-Stmt}
use Rattle.nest_lang.specs.Values.{same}
use Rattle.nest_lang.specs.Stores.{Store, Nothing}
use Rattle.nest_lang.specs.Traces.{Observation, Entry, Halt, Trace, joined, and_then, in_turn, after_all, Transition, step_of, traced}
use Rattle.nest_lang.specs.Expressions.{Frame, told}
use Rattle.nest_lang.specs.Statements.{with_value, stored, statement_level, statement_trace, block_trace, started, announced, shown_before, instance_trace}
use Rattle.nest_lang.specs.Places.{size_level, statement_size, block_size}
use Rattle.nest_lang.specs.BlockLaws.{StepsWithinStatements}
use Rattle.nest_lang.proofs.StepLaws.{statement-rolled}

-- a trace of at most n steps
abbrev pub HasSteps : ℕ → Trace → Type 0
HasSteps n t = length t.entries ≤ n

joined-steps : (m n : ℕ) (halt : Option Halt) (es : List Entry) (more : Trace) → length es ≤ m → HasSteps n more → HasSteps (m + n) (joined halt es more)
joined-steps m n (Some halt) es more h g = omega (arith, h)
joined-steps m n None es more h g = omega (arith, h, g, length-append es more.entries)

and_then-steps : (m n : ℕ) (s : Store) (t : Trace) (go : Store → Trace) → HasSteps m t → ((u : Store) → HasSteps n (go u)) → HasSteps (m + n) (and_then s t go)
and_then-steps m n s t go h each = joined-steps m n t.halt t.entries (go (after_all s t.entries)) h (each (after_all s t.entries))

-- one step that nothing follows
one-step : (seen : List Observation) (v : Result ℤ Halt) (go : ℤ → Transition) (s : Store) → ((z : ℤ) → HasSteps 1 (traced (go z) s)) → HasSteps 1 (traced (with_value seen v go) s)
one-step seen (Ok z) go s each = each z
one-step seen (Err halt) go s each = omega arith

stored-step : (seen : List Observation) (address v : ℤ) (r : Result ℤ Halt) (s : Store) → HasSteps 1 (traced (stored seen address v r) s)
stored-step seen address v (Ok old) s = omega arith
stored-step seen address v (Err halt) s = omega arith

if-steps : (m n : ℕ) (seen : List Observation) (v : Result ℤ Halt) (first second : List (Store → Trace)) (s : Store) → ((u : Store) → HasSteps m (in_turn first u)) → ((u : Store) → HasSteps n (in_turn second u))
    → HasSteps (1 + m + n) (traced (with_value seen v (λ z. step_of [] seen Nothing None (if same z (pos 0) then second else first))) s)
if-steps m n seen (Err halt) first second s one two = omega arith
if-steps m n seen (Ok z) first second s one two = by (same z (pos 0))
  where
    by : (b : Bool) → HasSteps (1 + m + n) (traced (step_of [] seen Nothing None (if b then second else first)) s)
    by true = omega (arith, two s)
    by false = omega (arith, one s)

module _ (f : Frame) where
  Fits : Stmt → Type 0
  Fits x = (s : Store) → HasSteps (statement_size x) (statement_trace f x s)

  size-rolled : (y : Stmt-F Stmt) → statement_size (roll-Stmt y) ≡ size_level (map-Stmt _ _ statement_size y)
  unfolding statement_size
  size-rolled y = fold-roll-Stmt ℕ size_level y

  all-fit : (xs : List ((x : Stmt) × Fits x)) (s : Store) → HasSteps (sum (map statement_size (map (λ e. e.0) xs))) (in_turn (map (statement_trace f) (map (λ e. e.0) xs)) s)
  unfolding Fits
  all-fit [] s = omega arith
  all-fit (x ∷ xs) s =
      subst (λ (n : ℕ). HasSteps n (in_turn (map (statement_trace f) (map (λ e. e.0) (x ∷ xs))) s)) (sym (sum_by-cons (λ (n : ℕ). n) (statement_size x.0) (map statement_size (map (λ e. e.0) xs))))
      (and_then-steps (statement_size x.0) (sum (map statement_size (map (λ e. e.0) xs))) s (statement_trace f x.0 s) (in_turn (map (statement_trace f) (map (λ e. e.0) xs))) (x.1 s) (all-fit xs))

  level-fits : (y : Stmt-F ((x : Stmt) × Fits x)) (s : Store)
      → HasSteps (size_level (map-Stmt _ _ statement_size (map-Stmt _ _ (λ e. e.0) y))) (traced (statement_level f (map-Stmt _ _ (statement_trace f) (map-Stmt _ _ (λ e. e.0) y)) s) s)
  unfolding Fits
  level-fits (Stmt-F.Let number e) s = one-step _ (told f s e).value _ s (λ z. omega arith)
  level-fits (Stmt-F.Set number e) s = one-step _ (told f s e).value _ s (λ z. omega arith)
  level-fits (Stmt-F.Store access a e) s = one-step _ (told f s a).value _ s (λ z. one-step _ (told f s e).value _ s (λ v. stored-step _ z v _ s))
  level-fits (Stmt-F.If e first second) s =
      if-steps (sum (map statement_size (map (λ e. e.0) first))) (sum (map statement_size (map (λ e. e.0) second))) _ (told f s e).value
      (map (statement_trace f) (map (λ e. e.0) first)) (map (statement_trace f) (map (λ e. e.0) second)) s (all-fit first) (all-fit second)

  statements-fit : (x : Stmt) → Fits x
  unfolding Fits
  statements-fit = ind-Stmt Fits (λ y z is. subst (λ w. Fits (roll-Stmt w)) is
      (λ s. subst (λ (n : ℕ). HasSteps n (statement_trace f (roll-Stmt (map-Stmt _ _ (λ e. e.0) z)) s)) (sym (size-rolled (map-Stmt _ _ (λ e. e.0) z)))
      (subst (λ (p : Store → Trace). HasSteps (size_level (map-Stmt _ _ statement_size (map-Stmt _ _ (λ e. e.0) z))) (p s)) (sym (statement-rolled f (map-Stmt _ _ (λ e. e.0) z))) (level-fits z s))))

  block-fits : (block : List Stmt) (s : Store) → HasSteps (block_size block) (block_trace f block s)
  unfolding block_trace block_size Fits
  block-fits [] s = omega arith
  block-fits (x ∷ xs) s =
      subst (λ (n : ℕ). HasSteps n (in_turn (map (statement_trace f) (x ∷ xs)) s)) (sym (sum_by-cons statement_size x xs))
      (and_then-steps (statement_size x) (sum_by statement_size xs) s (statement_trace f x s) (in_turn (map (statement_trace f) xs)) (statements-fit x s) (block-fits xs))

length-shown_before : (os : List Observation) (es : List Entry) → length (shown_before os es) ≡ length es
length-shown_before os [] = refl
length-shown_before os (e ∷ es) = refl

pub steps-within : StepsWithinStatements
unfolding instance_trace
steps-within f block s = omega (arith, length-shown_before (announced f s) (block_trace f block (started s)).entries, block-fits f block (started s))
