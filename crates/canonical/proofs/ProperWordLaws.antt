-- The words of canonical pieces are written as tokens are: expressions and statements.
use Rattle.std.proofs.Common.{◌≡◌, ℕ, ◌+◌, List, [], ◌∷◌, ◌++◌, length, sym, true, false, cond, subst}
use Rattle.nest_lang.specs.declared.tree.Op.{Op}
use Rattle.nest_lang.specs.declared.tree.Place.TheVariants as place
use Rattle.nest_lang.specs.declared.tree.Expr.{Expr}
use Rattle.nest_lang.specs.declared.tree.Expr.TheVariants.{Two}
use Rattle.nest_lang.specs.declared.tree.Stmt.{Stmt}
use Rattle.nest_lang.specs.declared.tree.Stmt.TheVariants.{Let, Set, Store, If}
use Rattle.nest_tokens.specs.declared.token.Name.{Name}
use Rattle.nest_tokens.specs.declared.token.Mark.{Mark}
use Rattle.nest_tokens.specs.declared.token.Mark.TheVariants as mark
use Rattle.nest_tokens.specs.declared.token.Token.{Token}
use Rattle.nest_tokens.specs.declared.token.Token.TheVariants as token
use Rattle.nest_tokens.specs.declared.token.Spot.{Spot}
use Rattle.nest_tokens.specs.Ahead.{first, rest}
use Rattle.nest_grammar.specs.Sights.{Sight, here, stands, skip, spend, opens, numbered, afresh, bound, in_block}
use Rattle.nest_grammar.specs.Names.{Names}
use Rattle.nest_grammar.specs.Grammar.{Precedence, Is, number as is_number, variable, minus, parens, load, factor, product, summand, addition, side, comparison, IsExpression, IsStmt, let_, set, store, when, either, IsBraced, braced, IsList, none as list_none, more, IsBlock, block}
use Rattle.canonical.specs.declared.group.Group.{Group}
use Rattle.canonical.specs.declared.group.Group.TheVariants.{Unary, Whole}
use Rattle.canonical.specs.Groups.{fits, left_of, right_of, mark_of}
use Rattle.canonical.specs.Pieces.{Piece, Word, Space, Indent, Newline, plain, spaced, line}
use Rattle.canonical.specs.Labels.{Labels, label, with_lets}
use Rattle.canonical.specs.Expressions.{Printed, as_group, printed, expression_of}
use Rattle.canonical.specs.Statements.{let_line, set_line, store_line, if_line, else_line, close_line, statement_of, statement_lines, otherwise}
use Rattle.canonical.specs.Layout.{IsWritten, AllWritten}
use Rattle.canonical.proofs.PrintingLaws.{printed-number, printed-var, printed-load, printed-neg, printed-two}
use Rattle.canonical.proofs.StatementEquationLaws.{statement-let, statement-set, statement-store, statement-if, lines-last}
use Rattle.canonical.proofs.ExpressionAgainLaws.{Agrees}
use Rattle.canonical.proofs.StatementsAgainLaws.{Extends, extends-self, extends-through, extends-by, lets-kept, statement-grows, braced-grows, local-label, list-again}
use Rattle.canonical.proofs.LayoutWrittenLaws.{Writable, AllWritable}

-- the words of these pieces are written as tokens are
pub record Proper (ps : List Piece) : Type 0 where
  pub written : AllWritten ps

pub proper-none : Proper []
proper-none = record { written = tt }

all-append : (ps qs : List Piece) → AllWritten ps → AllWritten qs → AllWritten (ps ++ qs)
all-append [] qs h k = k
all-append (Word t ∷ ps) qs h k = (h.0, all-append ps qs h.1 k)
all-append (Space ∷ ps) qs h k = all-append ps qs h k
all-append (Indent n ∷ ps) qs h k = all-append ps qs h k
all-append (Newline ∷ ps) qs h k = all-append ps qs h k

infixr 5 ◌then◌
pub ◌then◌ : {ps qs : List Piece} → Proper ps → Proper qs → Proper (ps ++ qs)
◌then◌ {ps} {qs} f g = record { written = all-append ps qs f.written g.written }

infixr 5 ◌cons◌
pub ◌cons◌ : {p : Piece} {qs : List Piece} → Proper (p ∷ []) → Proper qs → Proper (p ∷ qs)
◌cons◌ {p} {qs} f g = record { written = all-append (p ∷ []) qs f.written g.written }

pub space : Proper (Space ∷ [])
space = record { written = tt }

pub newline : Proper (Newline ∷ [])
newline = record { written = tt }

pub indent : (n : ℕ) → Proper (Indent n ∷ [])
indent n = record { written = tt }

pub marked : (m : Mark) → Proper (plain m ∷ [])
marked m = record { written = (tt, tt) }

pub worded : (t : Token) → IsWritten t → Proper (Word t ∷ [])
worded t h = record { written = (h, tt) }

pub apart : (m : Mark) → Proper (spaced m)
apart m = space cons marked m cons space

pub lined : (depth : ℕ) (ps : List Piece) → Proper ps → Proper (line depth ps)
unfolding line
lined depth ps h = indent depth cons (h then newline)

-- the tokens that are left are those of a text
pub record Good (s : Sight) : Type 0 where
  pub tokens : AllWritable s.left

good-rest : (l : List Spot) → AllWritable l → AllWritable (rest l)
good-rest [] h = tt
good-rest (x ∷ xs) h = h.1

pub good-skip : (s : Sight) → Good s → Good (skip s)
unfolding skip
good-skip s h = record { tokens = good-rest s.left h.tokens }

pub good-spend : (s : Sight) → Good s → Good (spend s)
unfolding skip
good-spend s h = record { tokens = good-rest s.left h.tokens }

pub good-opens : (s : Sight) → Good s → Good (opens s)
good-opens s h = record { tokens = h.tokens }

pub good-numbered : (s : Sight) → Good s → Good (numbered s)
good-numbered s h = record { tokens = h.tokens }

pub good-afresh : (s : Sight) → Good s → Good (afresh s)
good-afresh s h = record { tokens = h.tokens }

pub good-bound : (n : Name) (s : Sight) → Good s → Good (bound n s)
good-bound n s h = record { tokens = h.tokens }

pub good-block : (s : Sight) → Good s → Good (in_block s)
good-block s h = record { tokens = h.tokens }

-- the token here is one of a text
pub stands-writable : (s : Sight) (t : Token) → Good s → stands s ≡ t → (t ≡ token.End → ⊥) → Writable t
unfolding here
stands-writable s t h e real = elim s.left as (λ l. AllWritable l → (first s.size l).token ≡ t → Writable t) [
  | [] ↦ λ g k. absurd (real (sym k))
  | x ∷ xs ↦ λ g k. subst Writable k g.0
] h.tokens e

pub name-written : (s : Sight) (n : Name) → Good s → stands s ≡ token.Name n → IsWritten (token.Name n)
name-written s n h e = stands-writable s (token.Name n) h e (λ k. cc)

pub number-written : (s : Sight) (n : ℕ) → Good s → stands s ≡ token.Number n → IsWritten (token.Number n)
number-written s n h e = stands-writable s (token.Number n) h e (λ k. cc)

-- Expressions

grouped : (wanted : Group) (x : Printed) → Proper x.pieces → Proper (as_group wanted x)
unfolding as_group
grouped wanted x h = elim (fits x.group wanted) as (λ b. Proper (cond b x.pieces (plain mark.Open ∷ x.pieces ++ plain mark.Close ∷ []))) [ true ↦ h | false ↦ marked mark.Open cons (h then marked mark.Close) ]

joined : (l : Labels) (o : Op) (a b : Expr) → Proper (printed l a).pieces → Proper (printed l b).pieces → Proper (printed l (Two o a b)).pieces
joined l o a b h k = subst (λ (x : Printed). Proper x.pieces) (sym (printed-two l o a b)) ((grouped (left_of o) (printed l a) h then apart (mark_of o)) then grouped (right_of o) (printed l b) k)

pub printed-proper : (l : Labels) (names : Names) → Agrees names l → {p : Precedence} {d : ℕ} {s : Sight} {e : Expr} {t : Sight} → Is names p d s e t → Good s → Proper (printed l e).pieces × Good t
printed-proper l names agree (is_number {d} {n} {s} h r) g = (subst (λ (x : Printed). Proper x.pieces) (sym (printed-number l n)) (worded (token.Number n) (number-written s n g h)), good-spend s g)
printed-proper l names agree (variable {d} {n} {p} {s} h f r) g = (subst (λ (x : Printed). Proper x.pieces) (sym (printed-var l p)) (worded (token.Name (label l p)) (subst (λ (m : Name). IsWritten (token.Name m)) (sym (agree n p f)) (name-written s n g h))), good-spend s g)
printed-proper l names agree (minus {d} {e} {s} {t} h r i) g = let w = printed-proper l names agree i (good-spend s g) in (subst (λ (x : Printed). Proper x.pieces) (sym (printed-neg l e)) (marked mark.Minus cons grouped Unary (printed l e) w.0), w.1)
printed-proper l names agree (parens {d} {e} {s} {t} h r i k o) g = let w = printed-proper l names agree i (good-spend s g) in (w.0, good-spend t w.1)
printed-proper l names agree (load {d} {e} {s} {t} h a r i k o) g = let w = printed-proper l names agree i (good-spend (opens s) (good-opens s g)) in (subst (λ (x : Printed). Proper x.pieces) (sym (printed-load l (t.accesses + 1) e)) (marked mark.OpenBracket cons (grouped Whole (printed l e) w.0 then marked mark.CloseBracket)), good-numbered (spend t) (good-spend t w.1))
printed-proper l names agree (factor i) g = printed-proper l names agree i g
printed-proper l names agree (product {d} {o} {a} {b} {s} {t} {u} i k r j) g = let w = printed-proper l names agree i g in let x = printed-proper l names agree j (good-spend t w.1) in (joined l o a b w.0 x.0, x.1)
printed-proper l names agree (summand i) g = printed-proper l names agree i g
printed-proper l names agree (addition {d} {o} {a} {b} {s} {t} {u} i k r j) g = let w = printed-proper l names agree i g in let x = printed-proper l names agree j (good-spend t w.1) in (joined l o a b w.0 x.0, x.1)
printed-proper l names agree (side i) g = printed-proper l names agree i g
printed-proper l names agree (comparison {d} {o} {a} {b} {s} {t} {u} i k r j) g = let w = printed-proper l names agree i g in let x = printed-proper l names agree j (good-spend t w.1) in (joined l o a b w.0 x.0, x.1)

pub expression-proper : (l : Labels) (names : Names) → Agrees names l → (s : Sight) (e : Expr) (t : Sight) → IsExpression names s e t → Good s → Proper (expression_of l e) × Good t
unfolding expression_of
expression-proper l names agree s e t i g = let w = printed-proper l names agree i (good-afresh s g) in (grouped Whole (printed l e) w.0, w.1)

-- Statements

let-proper : (l : Labels) (k : ℕ) (n : Name) (e : Expr) → label l (place.Local k) ≡ n → IsWritten (token.Name n) → Proper (expression_of l e) → (depth : ℕ) → Proper (statement_of l (Let k e) depth)
unfolding let_line
let-proper l k n e h w x depth = subst Proper (sym (statement-let l k e depth)) (lined depth (let_line l k e) (marked mark.Let cons space cons worded (token.Name (label l (place.Local k))) (subst (λ (m : Name). IsWritten (token.Name m)) (sym h) w) cons (apart mark.Assign then x)))

set-proper : (l : Labels) (k : ℕ) (n : Name) (e : Expr) → label l (place.Scalar k) ≡ n → IsWritten (token.Name n) → Proper (expression_of l e) → (depth : ℕ) → Proper (statement_of l (Set k e) depth)
unfolding set_line
set-proper l k n e h w x depth = subst Proper (sym (statement-set l k e depth)) (lined depth (set_line l k e) (worded (token.Name (label l (place.Scalar k))) (subst (λ (m : Name). IsWritten (token.Name m)) (sym h) w) cons (apart mark.Assign then x)))

store-proper : (l : Labels) (k : ℕ) (a e : Expr) → Proper (expression_of l a) → Proper (expression_of l e) → (depth : ℕ) → Proper (statement_of l (Store k a e) depth)
unfolding store_line
store-proper l k a e x y depth = subst Proper (sym (statement-store l k a e depth)) (lined depth (store_line l a e) (marked mark.OpenBracket cons ((x then (marked mark.CloseBracket cons apart mark.Assign)) then y)))

pub close-proper : Proper close_line
close-proper = marked mark.CloseBrace

else-proper : (l : Labels) (ys : List Stmt) → ((depth : ℕ) → Proper (statement_lines l ys depth)) → (depth : ℕ) → Proper (otherwise l ys depth)
unfolding otherwise statement_lines
else-proper l [] h depth = proper-none
else-proper l (y ∷ ys) h depth = lined depth else_line (marked mark.CloseBrace cons (apart mark.Else then marked mark.OpenBrace)) then h (depth + 1)

if-proper : (l : Labels) (e : Expr) (xs ys : List Stmt) → Proper (expression_of l e) → ((depth : ℕ) → Proper (statement_lines l xs depth)) → ((depth : ℕ) → Proper (statement_lines l ys depth)) → (depth : ℕ) → Proper (statement_of l (If e xs ys) depth)
unfolding if_line
if-proper l e xs ys x h k depth = subst Proper (sym (statement-if l e xs ys depth)) (((lined depth (if_line l e) (marked mark.If cons space cons (x then (space cons marked mark.OpenBrace))) then h (depth + 1)) then else-proper l ys k depth) then lined depth close_line close-proper)

pub nothing-proper : (l : Labels) (depth : ℕ) → Proper (statement_lines l [] depth)
unfolding statement_lines
nothing-proper l depth = proper-none

mutual
  unfolding skip

  pub statement-proper : (l : Labels) {d : ℕ} {names : Names} {s : Sight} {st : Stmt} {ns : Names} {t : Sight} → IsStmt d names s st ns t → Agrees names l → Extends t.lets l.lets → Good s → ((depth : ℕ) → Proper (statement_of l st depth)) × Good t
  statement-proper l (let_ {d} {names} {n} {e} {s} {t} {u} h r k f q g i) agree ext good =
      let j : IsExpression names (skip (bound n (skip (skip s)))) e u = subst (λ (x : Sight). IsExpression names (skip x) e u) q i in
      let grown : Extends (s.lets ++ n ∷ []) l.lets = extends-through (s.lets ++ n ∷ []) u.lets l.lets (extends-by (s.lets ++ n ∷ []) u.lets (lets-kept names j)) ext in
      let lab : label l (place.Local (length s.lets)) ≡ n = local-label l s.lets n grown in
      let x = expression-proper l names agree (skip (bound n (skip (skip s)))) e u j (good-skip (bound n (skip (skip s))) (good-bound n (skip (skip s)) (good-skip (skip s) (good-skip s good)))) in
      (let-proper l (length s.lets) n e lab (name-written (skip s) n (good-skip s good) k) x.0, x.1)
  statement-proper l (set {d} {k} {names} {n} {e} {s} {t} h f g i) agree ext good =
      let x = expression-proper l names agree (skip (skip s)) e t i (good-skip (skip s) (good-skip s good)) in
      (set-proper l k n e (agree n (place.Scalar k) f) (name-written s n good h) x.0, x.1)
  statement-proper l (store {d} {names} {a} {e} {s} {t} {u} h r i g k j) agree ext good =
      let x = expression-proper l names agree (skip (opens s)) a t i (good-skip (opens s) (good-opens s good)) in
      let y = expression-proper l names agree (skip (skip t)) e u j (good-skip (skip t) (good-skip t x.1)) in
      (store-proper l (u.accesses + 1) a e x.0 y.0, good-numbered u y.1)
  statement-proper l (when {d} {names} {e} {xs} {s} {t} {u} h i b) agree ext good =
      let x = expression-proper l names agree (skip s) e t i (good-skip s good) in
      let y = braced-proper l b agree ext x.1 in
      (if-proper l e xs [] x.0 y.0 (nothing-proper l), y.1)
  statement-proper l (either {d} {names} {e} {xs} {ys} {s} {t} {u} {v} h i b k c) agree ext good =
      let x = expression-proper l names agree (skip s) e t i (good-skip s good) in
      let y = braced-proper l b agree (extends-through u.lets v.lets l.lets (braced-grows c) ext) x.1 in
      let z = braced-proper l c agree ext (good-skip u y.1) in
      (if-proper l e xs ys x.0 y.0 z.0, z.1)

  pub braced-proper : (l : Labels) {d : ℕ} {names : Names} {s : Sight} {xs : List Stmt} {t : Sight} → IsBraced d names s xs t → Agrees names l → Extends t.lets l.lets → Good s → ((depth : ℕ) → Proper (statement_lines l xs depth)) × Good t
  braced-proper l (braced {d} {names} {ns} {xs} {s} {t} h i k) agree ext good = let x = list-proper l i agree ext (good-skip s good) in (x.0, good-skip t x.1)

  pub list-proper : (l : Labels) {d : ℕ} {names : Names} {s : Sight} {xs : List Stmt} {ns : Names} {t : Sight} → IsList d names s xs ns t → Agrees names l → Extends t.lets l.lets → Good s → ((depth : ℕ) → Proper (statement_lines l xs depth)) × Good t
  list-proper l list_none agree ext good = (nothing-proper l, good)
  list-proper l (more {d} {names} {ms} {ns} {xs} {st} {s} {t} {u} i j) agree ext good =
      let grown : Extends t.lets l.lets = extends-through t.lets u.lets l.lets (statement-grows j) ext in
      let x = list-proper l i agree grown good in
      let y = statement-proper l j (list-again l i agree grown).0 ext x.1 in
      (λ depth. subst Proper (sym (lines-last l xs st depth)) (x.0 depth then y.0 depth), y.1)

pub block-proper : (l : Labels) (names : Names) (s : Sight) (xs : List Stmt) (lets : List Name) (t : Sight) → IsBlock names s xs lets t → Agrees names (with_lets l lets) → Good s → ((depth : ℕ) → Proper (statement_lines (with_lets l lets) xs depth)) × Good t
block-proper l names s xs _ t (block {ns} i) agree good = list-proper (with_lets l t.lets) i agree (extends-self t.lets) (good-block s good)
