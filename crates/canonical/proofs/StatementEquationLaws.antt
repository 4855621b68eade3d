-- Statements, one equation for each of them.
use Rattle.std.proofs.Common.{◌≡◌, ℕ, ◌+◌, List, [], ◌∷◌, ◌++◌, ◌*◌, ◌<◌, ◌==◌, true, refl, sym, ap, ◌∙◌, arith, rules, append-nil, append_assoc, map, length, take, get_or, replicate}
use Rattle.std.proofs.lemmas.List.Folds.{flat_map-map}
use Rattle.canonical.proofs.PieceLaws.{flat_map-last, text-nil, text-append, text-line, text-more}
use Rattle.std.specs.List.{flat_map}
use Rattle.nest_lang.specs.declared.tree.Expr.{Expr}
use Rattle.nest_lang.specs.declared.tree.Stmt.{Stmt, the_lemmas}
use Rattle.nest_lang.specs.declared.tree.Stmt.TheVariants.{Let, Set, Store, If}
use Rattle.canonical.specs.Pieces.{Piece, text_of, line}
use Rattle.canonical.specs.Labels.{Labels}
use Rattle.canonical.specs.Statements.{let_line, set_line, store_line, if_line, else_line, close_line, statement_of, statement_lines, otherwise}

pub statement-let : (l : Labels) (k : ℕ) (e : Expr) (depth : ℕ) → statement_of l (Let k e) depth ≡ line depth (let_line l k e)
unfolding statement_of
statement-let l k e depth = search (rules, the_lemmas)

pub statement-set : (l : Labels) (k : ℕ) (e : Expr) (depth : ℕ) → statement_of l (Set k e) depth ≡ line depth (set_line l k e)
unfolding statement_of
statement-set l k e depth = search (rules, the_lemmas)

pub statement-store : (l : Labels) (k : ℕ) (a e : Expr) (depth : ℕ) → statement_of l (Store k a e) depth ≡ line depth (store_line l a e)
unfolding statement_of
statement-store l k a e depth = search (rules, the_lemmas)

pub statement-if : (l : Labels) (e : Expr) (xs ys : List Stmt) (depth : ℕ) → statement_of l (If e xs ys) depth ≡ line depth (if_line l e) ++ statement_lines l xs (depth + 1) ++ otherwise l ys depth ++ line depth close_line
unfolding statement_of statement_lines otherwise
statement-if l e xs ys depth = search (rules, the_lemmas)

pub otherwise-none : (l : Labels) (depth : ℕ) → text_of (otherwise l [] depth) ≡ []
unfolding otherwise
otherwise-none l depth = text-nil

-- a branch that has no statement
pub otherwise-empty : (l : Labels) (ys : List Stmt) (depth : ℕ) → (length ys == 0) ≡ true → text_of (otherwise l ys depth) ≡ []
otherwise-empty l [] depth h = otherwise-none l depth
otherwise-empty l (y ∷ ys) depth h = absurd (grind arith)

pub otherwise-some : (l : Labels) (y : Stmt) (ys : List Stmt) (depth : ℕ) → otherwise l (y ∷ ys) depth ≡ line depth else_line ++ statement_lines l (y ∷ ys) (depth + 1)
unfolding otherwise statement_lines
otherwise-some l y ys depth = refl

-- the text of a branch that has a statement
pub text-otherwise : (l : Labels) (ys : List Stmt) (depth : ℕ) → 0 < length ys → text_of (otherwise l ys depth) ≡ text_of (line depth else_line) ++ text_of (statement_lines l ys (depth + 1))
text-otherwise l [] depth h = absurd (omega arith)
text-otherwise l (y ∷ ys) depth h = ap text_of (otherwise-some l y ys depth) ∙ text-append (line depth else_line) (statement_lines l (y ∷ ys) (depth + 1))

-- the text of an `if`
pub text-if : (l : Labels) (e : Expr) (xs ys : List Stmt) (depth : ℕ) → text_of (statement_of l (If e xs ys) depth) ≡ (replicate (2 * depth) 32 ++ (text_of (if_line l e) ++ 10 ∷ [])) ++ (text_of (statement_lines l xs (depth + 1)) ++ (text_of (otherwise l ys depth) ++ text_of (line depth close_line)))
text-if l e xs ys depth = ap text_of (statement-if l e xs ys depth) ∙ simp (text-append, text-line, append_assoc)

each-is : (l : Labels) (sts : List Stmt) (depth : ℕ) → statement_lines l sts depth ≡ flat_map (λ st. statement_of l st depth) sts
unfolding statement_lines
each-is l sts depth = flat_map-map (λ x. x depth) (statement_of l) sts

-- behind what was written stands one statement more
pub text-next : (l : Labels) (depth : ℕ) (sts : List Stmt) (i : ℕ) (st : Stmt) (old page new : List ℕ) → i < length sts → st ≡ get_or sts i st → page ≡ old ++ text_of (statement_lines l (take i sts) depth) → new ≡ page ++ text_of (statement_of l st depth) → new ≡ old ++ text_of (statement_lines l (take (i + 1) sts) depth)
text-next l depth sts i st old page new h item so next =
    let f : Stmt → List Piece = λ x. statement_of l x depth in
    text-more f sts i st old page new h item (so ∙ ap (λ (ps : List Piece). old ++ text_of ps) (each-is l (take i sts) depth)) next ∙ sym (ap (λ (ps : List Piece). old ++ text_of ps) (each-is l (take (i + 1) sts) depth))

-- the lines of statements with one more behind them
pub lines-last : (l : Labels) (sts : List Stmt) (st : Stmt) (depth : ℕ) → statement_lines l (sts ++ st ∷ []) depth ≡ statement_lines l sts depth ++ statement_of l st depth
lines-last l sts st depth = each-is l (sts ++ st ∷ []) depth ∙ flat_map-last (λ x. statement_of l x depth) sts st ∙ ap (λ (ps : List Piece). ps ++ statement_of l st depth) (sym (each-is l sts depth))

pub statements-none : (l : Labels) (depth : ℕ) → text_of (statement_lines l [] depth) ≡ []
unfolding statement_lines
statements-none l depth = text-nil

pub ruleset stated = (text-line, append-nil, append_assoc, statements-none, statement-let, statement-set, statement-store, statement-let, statement-set, statement-store, text-if, otherwise-none, text-otherwise)
