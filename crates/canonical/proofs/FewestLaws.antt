-- No text that reads as a file has fewer tokens than the words of its canonical pieces.
use Rattle.std.proofs.Common.{◌≡◌, ◌≢◌, ℕ, suc, ◌+◌, ◌≤◌, pos, List, [], ◌∷◌, ◌++◌, length, refl, sym, ◌∙◌, ap, arith, Option, Some, None, true, false, subst}
use Rattle.nest_lang.specs.declared.tree.Op.{Op}
use Rattle.nest_lang.specs.declared.tree.Expr.{Expr}
use Rattle.nest_lang.specs.declared.tree.Expr.TheVariants.{Number, Var, Load, Neg, Two}
use Rattle.nest_tokens.specs.declared.token.Mark.{Mark}
use Rattle.nest_tokens.specs.declared.token.Mark.TheVariants as mark
use Rattle.nest_tokens.specs.declared.token.Token.{Token}
use Rattle.nest_tokens.specs.declared.token.Token.TheVariants as token
use Rattle.nest_tokens.specs.declared.token.Spot.{Spot}
use Rattle.nest_tokens.specs.Ahead.{first, rest}
use Rattle.nest_grammar.specs.Sights.{Sight, here, stands, skip}
use Rattle.nest_grammar.specs.Names.{Names}
use Rattle.nest_grammar.specs.Expressions.{product_of, addition_of, comparison_of}
use Rattle.nest_grammar.specs.Grammar.{Precedence, Is, number, variable, minus, parens, load, factor, product, summand, addition, side, comparison, IsExpression}
use Rattle.canonical.specs.declared.group.Group.{Group}
use Rattle.canonical.specs.declared.group.Group.TheVariants.{Unary, Term, Sum, Whole}
use Rattle.canonical.specs.Groups.{fits, made_by, left_of, right_of, mark_of}
use Rattle.canonical.specs.Pieces.{Piece, Word, Space, Indent, Newline, plain, spaced, line}
use Rattle.canonical.specs.Layout.{words}
use Rattle.canonical.specs.Labels.{Labels}
use Rattle.canonical.specs.Expressions.{Printed, as_group, both, printed, expression_of}
use Rattle.canonical.proofs.PrintingLaws.{printed-number, printed-var, printed-load, printed-neg, printed-two, as-fit, as-held}
use Rattle.canonical.proofs.ExpressionAgainLaws.{group_of, product-table, addition-table, comparison-table, IsIn, fits-through, fits-self}

-- how many words pieces have
abbrev pub count : List Piece → ℕ
count ps = length (words ps)

pub count-append : (xs ys : List Piece) → count (xs ++ ys) ≡ count xs + count ys
count-append [] ys = omega arith
count-append (Word t ∷ xs) ys = let e = count-append xs ys in omega (arith, e)
count-append (Space ∷ xs) ys = count-append xs ys
count-append (Indent n ∷ xs) ys = count-append xs ys
count-append (Newline ∷ xs) ys = count-append xs ys

pub count-line : (depth : ℕ) (ps : List Piece) → count (line depth ps) ≡ count ps
unfolding line
count-line depth ps = let e = count-append ps (Newline ∷ []) in omega (arith, e)

-- a token that isn't the end is one spot of those that are left
pub used : (size : ℕ) (l : List Spot) (t : Token) → (first size l).token ≡ t → t ≢ token.End → length l ≡ suc (length (rest l))
used size [] t h k = absurd (k (sym h))
used size (x ∷ xs) t h k = refl

pub used-mark : (s : Sight) (m : Mark) → stands s ≡ token.Plain m → length s.left ≡ suc (length (rest s.left))
unfolding here
used-mark s m h = used s.size s.left (token.Plain m) h (λ e. absurd (cc))

pub used-name : (s : Sight) {n : _} → stands s ≡ token.Name n → length s.left ≡ suc (length (rest s.left))
unfolding here
used-name s {n} h = used s.size s.left (token.Name n) h (λ e. absurd (cc))

pub used-number : (s : Sight) (n : ℕ) → stands s ≡ token.Number n → length s.left ≡ suc (length (rest s.left))
unfolding here
used-number s n h = used s.size s.left (token.Number n) h (λ e. absurd (cc))

-- the words of an expression, where a group is wanted and without parentheses round it
abbrev cost : Labels → Group → Expr → ℕ
cost l g e = count (as_group g (printed l e))

abbrev bare : Labels → Expr → ℕ
bare l e = count (printed l e).pieces

cost-fit : (l : Labels) (g : Group) (e : Expr) → fits (printed l e).group g ≡ true → cost l g e ≡ bare l e
cost-fit l g e h = ap count (as-fit g (printed l e) h)

cost-held : (l : Labels) (g : Group) (e : Expr) → fits (printed l e).group g ≡ false → cost l g e ≡ bare l e + 2
cost-held l g e h = ap count (as-held g (printed l e) h) ∙ (let c = count-append (printed l e).pieces (plain mark.Close ∷ []) in omega (arith, c))

bare-least : (l : Labels) (g : Group) (e : Expr) → bare l e ≤ cost l g e
bare-least l g e = elim (fits (printed l e).group g) as (λ b. fits (printed l e).group g ≡ b → bare l e ≤ cost l g e)
    [ true ↦ λ h. (let c = cost-fit l g e h in omega (arith, c)) | false ↦ λ h. (let c = cost-held l g e h in omega (arith, c)) ] refl

cost-most : (l : Labels) (g : Group) (e : Expr) → cost l g e ≤ bare l e + 2
cost-most l g e = elim (fits (printed l e).group g) as (λ b. fits (printed l e).group g ≡ b → cost l g e ≤ bare l e + 2)
    [ true ↦ λ h. (let c = cost-fit l g e h in omega (arith, c)) | false ↦ λ h. (let c = cost-held l g e h in omega (arith, c)) ] refl

-- where more fits, no more words are needed
cost-wider : (l : Labels) (g w : Group) (e : Expr) → fits g w ≡ true → cost l w e ≤ cost l g e
cost-wider l g w e k = elim (fits (printed l e).group g) as (λ b. fits (printed l e).group g ≡ b → cost l w e ≤ cost l g e) [
  | true ↦ λ h. (let c = cost-fit l w e (fits-through (printed l e).group g w h k) in let d = cost-fit l g e h in omega (arith, c, d))
  | false ↦ λ h. (let c = cost-held l g e h in let d = cost-most l w e in omega (arith, c, d))
] refl

cost-of : (l : Labels) (g : Group) (e : Expr) (x : Printed) → printed l e ≡ x → fits x.group g ≡ true → cost l g e ≡ count x.pieces
cost-of l g e x q h = cost-fit l g e (ap (λ (y : Printed). fits y.group g) q ∙ h) ∙ ap (λ (y : Printed). count y.pieces) q

cost-load : (l : Labels) (k : ℕ) (e : Expr) → cost l Unary (Load k e) ≡ cost l Whole e + 2
unfolding fits
cost-load l k e = cost-of l Unary (Load k e) (record { group = Unary; pieces = plain mark.OpenBracket ∷ as_group Whole (printed l e) ++ plain mark.CloseBracket ∷ [] }) (printed-load l k e) refl ∙ (let c = count-append (as_group Whole (printed l e)) (plain mark.CloseBracket ∷ []) in omega (arith, c))

cost-two : (l : Labels) (o : Op) (a b : Expr) → cost l (made_by o) (Two o a b) ≡ cost l (left_of o) a + (1 + cost l (right_of o) b)
cost-two l o a b =
    cost-of l (made_by o) (Two o a b) (both o (printed l a) (printed l b)) (printed-two l o a b) (fits-self (made_by o))
    ∙ (let c = count-append (as_group (left_of o) (printed l a) ++ spaced (mark_of o)) (as_group (right_of o) (printed l b)) in let d = count-append (as_group (left_of o) (printed l a)) (spaced (mark_of o)) in omega (arith, c, d))

two-fewest : (l : Labels) (o : Op) (made lft rgt : Group) (operator : Token → Option Op) (a b : Expr) (m n k : ℕ) → IsIn o made lft rgt operator → cost l lft a + suc m ≤ n → cost l rgt b + k ≤ m → cost l made (Two o a b) + k ≤ n
two-fewest l o made lft rgt operator a b m n k h f g =
    let c = cost-two l o a b in
    let x : cost l (left_of o) a + suc m ≤ n = subst (λ (y : Group). cost l y a + suc m ≤ n) (sym h.1) f in
    let y : cost l (right_of o) b + k ≤ m = subst (λ (y : Group). cost l y b + k ≤ m) (sym h.2) g in
    let z : cost l (made_by o) (Two o a b) + k ≤ n = omega (arith, c, x, y) in
    subst (λ (y : Group). cost l y (Two o a b) + k ≤ n) h.0 z

not-end : (x : Token) (o : Op) (operator : Token → Option Op) → operator token.End ≡ None → operator x ≡ Some o → x ≢ token.End
not-end x o operator h k e = let q : operator token.End ≡ Some o = subst (λ (t : Token). operator t ≡ Some o) e k in absurd (cc)

used-operator : (s : Sight) (o : Op) (operator : Token → Option Op) → operator token.End ≡ None → operator (stands s) ≡ Some o → length s.left ≡ suc (length (rest s.left))
unfolding here
used-operator s o operator h k = used s.size s.left (stands s) refl (not-end (stands s) o operator h k)

fewest : (l : Labels) (names : Names) {p : Precedence} {d : ℕ} {s : Sight} {e : Expr} {t : Sight} → Is names p d s e t → cost l (group_of p) e + length t.left ≤ length s.left
unfolding skip fits product_of addition_of comparison_of
fewest l names (number {d} {n} {s} h r) = let c = cost-of l Unary (Number (pos n)) _ (printed-number l n) refl in let u = used-number s n h in omega (arith, c, u)
fewest l names (variable {d} {n} {p} {s} h f r) = let c = cost-of l Unary (Var p) _ (printed-var l p) refl in let u = used-name s h in omega (arith, c, u)
fewest l names (minus {d} {e} {s} {t} h r i) = let c = cost-of l Unary (Neg e) _ (printed-neg l e) refl in let u = used-mark s mark.Minus h in let y = fewest l names i in omega (arith, c, u, y)
fewest l names (parens {d} {e} {s} {t} h r i k o) = let u = used-mark s mark.Open h in let v = used-mark t mark.Close k in let y = fewest l names i in let c = cost-most l Unary e in let b = bare-least l Whole e in omega (arith, u, v, y, c, b)
fewest l names (load {d} {e} {s} {t} h a r i k o) = let u = used-mark s mark.OpenBracket h in let v = used-mark t mark.CloseBracket k in let y = fewest l names i in let c = cost-load l (t.accesses + 1) e in omega (arith, u, v, y, c)
fewest l names (factor {d} {e} {s} {t} i) = let y = fewest l names i in let c = cost-wider l Unary Term e refl in omega (arith, y, c)
fewest l names (product {d} {o} {a} {b} {s} {t} {u} i k r j) =
    let x = fewest l names i in let y = fewest l names j in let v = used-operator t o product_of refl k in
    two-fewest l o Term Term Unary product_of a b (length (rest t.left)) (length s.left) (length u.left) (product-table (stands t) o k) (omega (arith, x, v)) y
fewest l names (summand {d} {e} {s} {t} i) = let y = fewest l names i in let c = cost-wider l Term Sum e refl in omega (arith, y, c)
fewest l names (addition {d} {o} {a} {b} {s} {t} {u} i k r j) =
    let x = fewest l names i in let y = fewest l names j in let v = used-operator t o addition_of refl k in
    two-fewest l o Sum Sum Term addition_of a b (length (rest t.left)) (length s.left) (length u.left) (addition-table (stands t) o k) (omega (arith, x, v)) y
fewest l names (side {d} {e} {s} {t} i) = let y = fewest l names i in let c = cost-wider l Sum Whole e refl in omega (arith, y, c)
fewest l names (comparison {d} {o} {a} {b} {s} {t} {u} i k r j) =
    let x = fewest l names i in let y = fewest l names j in let v = used-operator t o comparison_of refl k in
    two-fewest l o Whole Sum Sum comparison_of a b (length (rest t.left)) (length s.left) (length u.left) (comparison-table (stands t) o k) (omega (arith, x, v)) y

pub fewest-expression : (l : Labels) (names : Names) (s : Sight) (e : Expr) (t : Sight) → IsExpression names s e t → count (expression_of l e) + length t.left ≤ length s.left
unfolding expression_of
fewest-expression l names s e t i = fewest l names i
