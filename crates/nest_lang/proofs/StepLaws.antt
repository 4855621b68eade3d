-- What expressions tell and statements do, one level at a time, and what a step shows before it is due and when taken.
use Rattle.std.proofs.Common.{◌≡◌, refl, ℕ, ℤ, List, [], ◌∷◌, ◌++◌, Result, Ok, Err}
use Rattle.nest_lang.specs.declared.tree.Expr.{Expr, map-Expr, roll-Expr}
use Rattle.nest_lang.specs.declared.tree.Expr.TheOpen.{Expr-F}
use Rattle.nest_lang.specs.declared.tree.Expr.TheFolds.{fold-roll-Expr}
use Rattle.nest_lang.specs.declared.tree.Stmt.{Stmt, map-Stmt, roll-Stmt}
use Rattle.nest_lang.specs.declared.tree.Stmt.TheOpen.{Stmt-F}
use Rattle.nest_lang.specs.declared.tree.Stmt.TheFolds.{fold-roll-Stmt}
use Rattle.nest_lang.specs.declared.observe.Stop.{Stop}
use Rattle.nest_lang.specs.declared.observe.Seen.TheVariants.{Address}
use Rattle.nest_lang.specs.Stores.{Store}
use Rattle.nest_lang.specs.Traces.{Observation, Halt, Trace, Transition, traced}
use Rattle.nest_lang.specs.Expressions.{Frame, shown, Told, expression_level, told_by}
use Rattle.nest_lang.specs.Statements.{with_value, stored, statement_level, statement_trace}
use Rattle.nest_lang.specs.Heads.{Yield, head_step}

pub told-rolled : (h : Frame) (scalars locals : List ℤ) (find : ℕ → ℤ → Result ℤ Stop) (y : Expr-F Expr) → told_by h scalars locals find (roll-Expr y) ≡ expression_level h scalars locals find (map-Expr _ _ (told_by h scalars locals find) y)
unfolding told_by
told-rolled h scalars locals find y = fold-roll-Expr Told (expression_level h scalars locals find) y

pub statement-rolled : (h : Frame) (y : Stmt-F Stmt) → statement_trace h (roll-Stmt y) ≡ (λ s. traced (statement_level h (map-Stmt _ _ (statement_trace h) y) s) s)
unfolding statement_trace
statement-rolled h y = fold-roll-Stmt (Store → Trace) (λ z s. traced (statement_level h z s) s) y

pub with_value-before : (seen : List Observation) (v : Result ℤ Halt) (go : ℤ → Transition) → ((z : ℤ) → (go z).entry.before ≡ []) → (with_value seen v go).entry.before ≡ []
with_value-before seen (Ok z) go each = each z
with_value-before seen (Err halt) go each = refl

pub stored-before : (seen : List Observation) (z v : ℤ) (r : Result ℤ Halt) → (stored seen z v r).entry.before ≡ []
stored-before seen z v (Ok old) = refl
stored-before seen z v (Err halt) = refl

pub stored-seen : (seen : List Observation) (z v : ℤ) (r : Result ℤ Halt) → (stored seen z v r).entry.seen ≡ seen
stored-seen seen z v (Ok old) = refl
stored-seen seen z v (Err halt) = refl

-- the step of a store whose address was told, by what its value tells and what is found there
abbrev pub value-step : Frame → ℕ → Told → Told → (ℤ → Result ℤ Halt) → ℤ → Transition
value-step f access a e found address = with_value (a.seen ++ e.seen) e.value (λ v. stored (a.seen ++ e.seen ++ shown f (Address access) address ∷ []) address v (found address))

-- the step of a store
abbrev pub store-step : Frame → ℕ → Told → Told → (ℤ → Result ℤ Halt) → Transition
store-step f access a e found = with_value a.seen a.value (value-step f access a e found)

pub value-step-before : (f : Frame) (access : ℕ) (a e : Told) (found : ℤ → Result ℤ Halt) (z : ℤ) → (value-step f access a e found z).entry.before ≡ []
value-step-before f access a e found z =
    let seen : List Observation = a.seen ++ e.seen ++ shown f (Address access) z ∷ [] in
    with_value-before (a.seen ++ e.seen) e.value (λ v. stored seen z v (found z)) (λ v. stored-before seen z v (found z))

pub store-step-before : (f : Frame) (access : ℕ) (a e : Told) (found : ℤ → Result ℤ Halt) → (store-step f access a e found).entry.before ≡ []
store-step-before f access a e found = with_value-before a.seen a.value (value-step f access a e found) (value-step-before f access a e found)

pub head_step-before : (before seen : List Observation) (r : Result Yield Halt) (go : Yield → List (Store → Trace)) → (head_step before seen r go).entry.before ≡ before
head_step-before before seen (Ok yield) go = refl
head_step-before before seen (Err halt) go = refl

pub head_step-seen : (before seen : List Observation) (r : Result Yield Halt) (go : Yield → List (Store → Trace)) → (head_step before seen r go).entry.seen ≡ seen
head_step-seen before seen (Ok yield) go = refl
head_step-seen before seen (Err halt) go = refl
