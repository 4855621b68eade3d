-- The accesses of each expression, statement and block, one level at a time.
use Rattle.std.proofs.Common.{append-nil, append_assoc, length-append, ◌≡◌, refl, ap, ◌∙◌, sym, ℕ, ℤ, ◌<◌, ◌≤◌, ◌+◌, length, drop, get_or, List, [], ◌∷◌, ◌++◌, map, Option, Some, None, rules, arith}
use Rattle.std.specs.List.{flat_map}
use Rattle.std.proofs.lemmas.List.Folds.{flat_map-map}
use Rattle.std.proofs.lemmas.List.Concat.{flat_map-append}
use Rattle.std.proofs.lemmas.List.{drop_all, drop_more}
use Rattle.nest_lang.specs.declared.tree.Access.{Access}
use Rattle.nest_lang.specs.declared.tree.Expr.{Expr}
use Rattle.nest_lang.specs.declared.tree.Expr as expr
use Rattle.nest_lang.specs.declared.tree.Expr.TheVariants.{Number, Var, Load, Neg, Two}
use Rattle.nest_lang.specs.declared.tree.Op.{Op}
use Rattle.nest_lang.specs.declared.tree.Place.{Place}
use Rattle.nest_lang.specs.declared.tree.Stmt.{Stmt}
use Rattle.nest_lang.specs.declared.tree.Stmt as stmt
use Rattle.nest_lang.specs.declared.tree.Stmt.TheVariants as statement
use Rattle.nest_lang.specs.declared.tree.BlockRef.{BlockRef}
use Rattle.nest_lang.specs.declared.tree.Loop.{Loop}
use Rattle.nest_lang.specs.declared.tree.Part.{Part}
use Rattle.nest_lang.specs.declared.tree.Part.TheVariants as part
use Rattle.nest_lang.specs.Accesses.{load, store, expression_accesses, statement_accesses, block_accesses, part_accesses, accesses_by, accesses_of}
use Rattle.nest_lang.specs.Blocks.{loop_at}
use Rattle.nest_lang.specs.Rules.{LoopKeeps, NestKeeps}

pub expression_accesses-number : (n : ℤ) → expression_accesses (Number n) ≡ []
unfolding expression_accesses
expression_accesses-number n = search (rules, expr.the_lemmas)

pub expression_accesses-var : (p : Place) → expression_accesses (Var p) ≡ []
unfolding expression_accesses
expression_accesses-var p = search (rules, expr.the_lemmas)

pub expression_accesses-load : (number : ℕ) (a : Expr) → expression_accesses (Load number a) ≡ expression_accesses a ++ load number ∷ []
unfolding expression_accesses
expression_accesses-load number a = search (rules, expr.the_lemmas)

pub expression_accesses-neg : (a : Expr) → expression_accesses (Neg a) ≡ expression_accesses a
unfolding expression_accesses
expression_accesses-neg a = search (rules, expr.the_lemmas)

pub expression_accesses-two : (op : Op) (a b : Expr) → expression_accesses (Two op a b) ≡ expression_accesses a ++ expression_accesses b
unfolding expression_accesses
expression_accesses-two op a b = search (rules, expr.the_lemmas)

pub statement_accesses-let : (number : ℕ) (e : Expr) → statement_accesses (statement.Let number e) ≡ expression_accesses e
unfolding statement_accesses
statement_accesses-let number e = search (rules, stmt.the_lemmas)

pub statement_accesses-set : (number : ℕ) (e : Expr) → statement_accesses (statement.Set number e) ≡ expression_accesses e
unfolding statement_accesses
statement_accesses-set number e = search (rules, stmt.the_lemmas)

pub statement_accesses-store : (number : ℕ) (a e : Expr) → statement_accesses (statement.Store number a e) ≡ expression_accesses a ++ expression_accesses e ++ store number ∷ []
unfolding statement_accesses
statement_accesses-store number a e = search (rules, stmt.the_lemmas)

all_in-map : (xs : List Stmt) → flat_map (λ (a : List Access). a) (map statement_accesses xs) ≡ flat_map statement_accesses xs
all_in-map xs = flat_map-map (λ (a : List Access). a) statement_accesses xs

pub statement_accesses-if : (e : Expr) (first second : List Stmt) → statement_accesses (statement.If e first second) ≡ expression_accesses e ++ block_accesses first ++ block_accesses second
unfolding statement_accesses block_accesses
statement_accesses-if e first second = search (rules, stmt.the_lemmas, all_in-map)

pub block_accesses-nil : block_accesses [] ≡ []
unfolding block_accesses
block_accesses-nil = refl

pub block_accesses-cons : (x : Stmt) (xs : List Stmt) → block_accesses (x ∷ xs) ≡ statement_accesses x ++ block_accesses xs
unfolding block_accesses
block_accesses-cons x xs = refl

-- the statements from a place on, where there is none, and where there is one
pub block_accesses-end : (xs : List Stmt) (i : ℕ) → length xs ≤ i → block_accesses (drop i xs) ≡ []
unfolding block_accesses
block_accesses-end xs i h = rw (drop_all i xs h) refl

pub block_accesses-at : (xs : List Stmt) (i : ℕ) (x : Stmt) → i < length xs → x ≡ get_or xs i x → block_accesses (drop i xs) ≡ statement_accesses x ++ block_accesses (drop (i + 1) xs)
unfolding block_accesses
block_accesses-at xs i x h e = rw (drop_more xs i x h, sym e) refl

pub ruleset expression_levels = (append-nil, append_assoc, length-append, expression_accesses-number, expression_accesses-var, expression_accesses-load, expression_accesses-neg, expression_accesses-two)

pub ruleset statement_levels = (expression_levels, block_accesses-nil, block_accesses-cons, statement_accesses-let, statement_accesses-set, statement_accesses-store, statement_accesses-if)

pub block_accesses-push : (xs : List Stmt) (x : Stmt) → block_accesses (xs ++ x ∷ []) ≡ block_accesses xs ++ statement_accesses x
unfolding block_accesses
block_accesses-push xs x = flat_map-append statement_accesses xs (x ∷ []) ∙ ap (λ (ys : List Access). flat_map statement_accesses xs ++ ys) (append-nil (statement_accesses x))

-- a block of a nest that keeps the rules has at most 64 accesses
part_accesses-within : {scalars level : ℕ} (p : Part) (l : Loop) → LoopKeeps scalars level l → length (part_accesses p l) ≤ 64
part_accesses-within part.Head l k = k.head.accesses.1
part_accesses-within part.Pre l k = k.pre.accesses.1
part_accesses-within part.Post l k = k.post.accesses.1

found-within : {scalars level : ℕ} (p : Part) (found : Option Loop) → ((l : Loop) → found ≡ Some l → LoopKeeps scalars level l) → length (accesses_by p found) ≤ 64
found-within p None k = omega arith
found-within p (Some l) k = part_accesses-within p l (k l refl)

pub accesses_of-within : {scalars : ℕ} {loops : List Loop} → NestKeeps scalars loops → (block : BlockRef) → length (accesses_of loops block) ≤ 64
accesses_of-within {loops = loops} k block = found-within block.part (loop_at loops block.level) (k.each block.level)
