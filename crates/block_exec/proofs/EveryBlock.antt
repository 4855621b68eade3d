-- Any property of what runs from a store that each step keeps holds of every block.
use Rattle.std.proofs.Common.{◌++◌, ℕ, ℤ, pos, Bool, true, false, List, [], ◌∷◌, map, sym, subst, Option, Some, None, Result, Ok, Err}
use Rattle.std.specs.Prelude.{if◌then◌else◌}
use Rattle.std.specs.List.{AllByRecursion}
use Rattle.nest_lang.specs.declared.tree.Stmt.{Stmt, map-Stmt, roll-Stmt}
use Rattle.nest_lang.specs.declared.tree.Stmt.TheOpen.{Stmt-F}
use Rattle.nest_lang.specs.declared.tree.Stmt.TheFolds.{ind-Stmt}
use Rattle.nest_lang.specs.Stores.{Store}
use Rattle.nest_lang.specs.Traces.{Observation, Halt, Trace, Transition, traced}
use Rattle.nest_lang.specs.Expressions.{Frame, told}
use Rattle.nest_lang.specs.Statements.{with_value, stored, statement_level, statement_trace}
use Rattle.nest_lang.proofs.StepLaws.{statement-rolled}

module _ (f : Frame) (P : (Store → Trace) → Type 0) where
  Parts : Stmt-F (Store → Trace) → Type 0
  Parts (Stmt-F.If e first second) = AllByRecursion P first × AllByRecursion P second
  Parts _ = Unit {0}

  with-rest : (seen : List Observation) (v : Result ℤ Halt) (go : ℤ → Transition) → ((z : ℤ) → AllByRecursion P (go z).rest) → AllByRecursion P (with_value seen v go).rest
  with-rest seen (Ok z) go more = more z
  with-rest seen (Err halt) go more = tt

  stored-rest : (seen : List Observation) (z v : ℤ) (r : Result ℤ Halt) → AllByRecursion P (stored seen z v r).rest
  stored-rest seen z v (Ok old) = tt
  stored-rest seen z v (Err halt) = tt

  if-rest : (b : Bool) (xs ys : List (Store → Trace)) → AllByRecursion P xs → AllByRecursion P ys → AllByRecursion P (if b then xs else ys)
  if-rest true xs ys h k = h
  if-rest false xs ys h k = k

  level-rest : (x : Stmt-F (Store → Trace)) (s : Store) → Parts x → AllByRecursion P (statement_level f x s).rest
  unfolding Parts
  level-rest (Stmt-F.Let number e) s parts = with-rest _ (told f s e).value _ (λ z. tt)
  level-rest (Stmt-F.Set number e) s parts = with-rest _ (told f s e).value _ (λ z. tt)
  level-rest (Stmt-F.Store access a e) s parts = with-rest _ (told f s a).value _ (λ z. with-rest _ (told f s e).value _ (λ v. stored-rest _ z v _))
  level-rest (Stmt-F.If e first second) s parts = with-rest _ (told f s e).value _ (λ z. if-rest _ second first parts.1 parts.0)

  all-mapped : (xs : List ((st : Stmt) × P (statement_trace f st))) → AllByRecursion P (map (statement_trace f) (map (λ e. e.0) xs))
  all-mapped [] = tt
  all-mapped (x ∷ xs) = (x.1, all-mapped xs)

  layer-parts : (y : Stmt-F ((st : Stmt) × P (statement_trace f st))) → Parts (map-Stmt _ _ (statement_trace f) (map-Stmt _ _ (λ e. e.0) y))
  unfolding Parts
  layer-parts (Stmt-F.Let number e) = tt
  layer-parts (Stmt-F.Set number e) = tt
  layer-parts (Stmt-F.Store access a e) = tt
  layer-parts (Stmt-F.If e first second) = (all-mapped first, all-mapped second)

  module _ (each : (x : Stmt-F (Store → Trace)) → ((s : Store) → AllByRecursion P (statement_level f x s).rest) → P (λ s. traced (statement_level f x s) s)) where
    every-statement : (st : Stmt) → P (statement_trace f st)
    every-statement = ind-Stmt (λ st. P (statement_trace f st)) (λ x y is. subst (λ z. P (statement_trace f (roll-Stmt z))) is (subst P (sym (statement-rolled f (map-Stmt _ _ (λ e. e.0) y))) (each _ (λ s. level-rest _ s (layer-parts y)))))

    pub every-block : (xs : List Stmt) → AllByRecursion P (map (statement_trace f) xs)
    every-block [] = tt
    every-block (x ∷ xs) = (every-statement x, every-block xs)
