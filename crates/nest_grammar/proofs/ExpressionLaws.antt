-- Expressions: their readings and the grammar say the same.
use Rattle.std.proofs.Common.{◌≡◌, ℕ, zero, suc, pos, refl, ◌∙◌, ap, Option, Some, None, Ok}
use Rattle.nest_lang.specs.declared.tree.Place.{Place}
use Rattle.nest_lang.specs.declared.tree.Op.{Op}
use Rattle.nest_lang.specs.declared.tree.Expr.{Expr}
use Rattle.nest_lang.specs.declared.tree.Expr.TheVariants.{Number, Var, Load, Neg, Two}
use Rattle.nest_tokens.specs.declared.token.Name.{Name}
use Rattle.nest_tokens.specs.declared.token.Token.{Token}
use Rattle.nest_tokens.specs.declared.token.Token.TheVariants as token
use Rattle.nest_tokens.specs.declared.token.Mark.{Mark}
use Rattle.nest_tokens.specs.declared.token.Mark.TheVariants as mark
use Rattle.nest_grammar.specs.declared.fault.TextKind.TheVariants as kind
use Rattle.nest_grammar.specs.Limits.{most_open}
use Rattle.nest_grammar.specs.Sights.{Sight, stands, Sees, skip, spend, afresh, opens}
use Rattle.nest_grammar.specs.Readings.{Reading, after, ◌>>=◌, gives, refused, many}
use Rattle.nest_grammar.specs.Names.{Names, place_of}
use Rattle.nest_grammar.specs.Expressions.{start_of, product_of, addition_of, comparison_of, taken, closed, access_number, if_visible, operand, operated, parts, compared, compared_at, unary, term, sum, expr, expression}
use Rattle.nest_grammar.specs.Grammar.{Room, SeesName, Precedence, Unary, Term, Sum, Whole, Is, number, variable, minus, parens, load, factor, product, summand, addition, side, comparison, IsExpression}
use Rattle.nest_grammar.proofs.PartAfterPartLaws.{many-stop}
use Rattle.nest_grammar.proofs.ChainLaws.{parts-term, parts-sum}
use Rattle.nest_grammar.proofs.ReadingLaws.{taken-room, closed-sees, access-room, given, taken-then, closed-then, access-then}
use Rattle.nest_grammar.proofs.PartLaws.{many-sound, many-reads}
use Rattle.nest_grammar.proofs.PartAfterPartLaws.{bind-ok}

-- Completeness: what the grammar says is read. The parts of a term or a sum may go on behind it.

abbrev pub Claim : Names → Precedence → ℕ → Sight → Expr → Sight → Type 0
Claim names Unary d s e t = unary names d s ≡ Ok (e, t)
Claim names Term d s e t = term names d s ≡ many product_of (operated (unary names d)) e t
Claim names Sum d s e t = product_of (stands t) ≡ None → sum names d s ≡ many addition_of (operated (term names d)) e t
Claim names Whole d s e t = product_of (stands t) ≡ None → addition_of (stands t) ≡ None → comparison_of (stands t) ≡ None → expr names d s ≡ Ok (e, t)

-- an operand, whatever stands deeper
unary-by : (names : Names) (d : ℕ) (s : Sight) → (u : Reading Expr) × (e : Reading Expr) × (unary names d s ≡ operand names u e (start_of (stands s)) s)
unfolding unary
unary-by names zero s = (refused kind.Deep, refused kind.Deep, refl)
unary-by names (suc d) s = (taken >>= λ _. unary names d, taken >>= λ _. compared (parts addition_of (parts product_of (unary names d))), refl)

unary-is : (names : Names) (d : ℕ) (s : Sight) → unary names (suc d) s ≡ operand names (taken >>= λ _. unary names d) (taken >>= λ _. expr names d) (start_of (stands s)) s
unfolding unary expr sum term
unary-is names d s = refl

term-is : (names : Names) (d : ℕ) (s : Sight) → term names d s ≡ after (unary names d s) (many product_of (operated (unary names d)))
unfolding term
term-is names d s = refl

sum-is : (names : Names) (d : ℕ) (s : Sight) → sum names d s ≡ after (term names d s) (many addition_of (operated (term names d)))
unfolding sum
sum-is names d s = refl

expr-is : (names : Names) (d : ℕ) (s : Sight) → expr names d s ≡ after (sum names d s) (λ a t. compared_at (sum names d) a (comparison_of (stands t)) t)
unfolding expr
expr-is names d s = refl

term-ends : (names : Names) (d : ℕ) (s : Sight) (e : Expr) (t : Sight) → product_of (stands t) ≡ None → Claim names Term d s e t → term names d s ≡ Ok (e, t)
term-ends names d s e t h claim = claim ∙ many-stop product_of (operated (unary names d)) e t h

sum-ends : (names : Names) (d : ℕ) (s : Sight) (e : Expr) (t : Sight) → product_of (stands t) ≡ None → addition_of (stands t) ≡ None → Claim names Sum d s e t → sum names d s ≡ Ok (e, t)
sum-ends names d s e t h k claim = claim h ∙ many-stop addition_of (operated (term names d)) e t k

-- an operator and what stands behind it
operated-is : (part : Reading Expr) (o : Op) (a b : Expr) (t u : Sight) → Room t → part (spend t) ≡ Ok (b, u) → operated part o a t ≡ Ok (Two o a b, u)
operated-is part o a b t u r h = let e = taken-room t r in rw (e, h)

expr-ends : (names : Names) (d : ℕ) (s : Sight) (a : Expr) (t : Sight) → comparison_of (stands t) ≡ None → sum names d s ≡ Ok (a, t) → expr names d s ≡ Ok (a, t)
expr-ends names d s a t h k = rw (expr-is, k, h)

expr-both : (names : Names) (d : ℕ) (s : Sight) (a b : Expr) (t u : Sight) (o : Op) → comparison_of (stands t) ≡ Some o → sum names d s ≡ Ok (a, t) → operated (sum names d) o a t ≡ Ok (Two o a b, u) → expr names d s ≡ Ok (Two o a b, u)
expr-both names d s a b t u o h k l = rw (expr-is, k, h, l)

-- no operator begins with this sign
at : {A : Type 0} (f : Token → A) (m : Mark) (t : Sight) → Sees m t → f (stands t) ≡ f (token.Plain m)
at f m t h = ap f h

-- an operator of one kind is none of the others
addition-no-product : (t : Token) (o : Op) → addition_of t ≡ Some o → product_of t ≡ None
unfolding addition_of product_of
addition-no-product (token.Plain mark.Plus) o h = refl
addition-no-product (token.Plain mark.Minus) o h = refl
addition-no-product _ o h = absurd (cc)

comparison-no-product : (t : Token) (o : Op) → comparison_of t ≡ Some o → product_of t ≡ None
unfolding comparison_of product_of
comparison-no-product (token.Plain mark.Equal) o h = refl
comparison-no-product (token.Plain mark.NotEqual) o h = refl
comparison-no-product (token.Plain mark.Less) o h = refl
comparison-no-product (token.Plain mark.AtMost) o h = refl
comparison-no-product (token.Plain mark.Greater) o h = refl
comparison-no-product (token.Plain mark.AtLeast) o h = refl
comparison-no-product _ o h = absurd (cc)

comparison-no-addition : (t : Token) (o : Op) → comparison_of t ≡ Some o → addition_of t ≡ None
unfolding comparison_of addition_of
comparison-no-addition (token.Plain mark.Equal) o h = refl
comparison-no-addition (token.Plain mark.NotEqual) o h = refl
comparison-no-addition (token.Plain mark.Less) o h = refl
comparison-no-addition (token.Plain mark.AtMost) o h = refl
comparison-no-addition (token.Plain mark.Greater) o h = refl
comparison-no-addition (token.Plain mark.AtLeast) o h = refl
comparison-no-addition _ o h = absurd (cc)

complete : (names : Names) → {p : Precedence} {d : ℕ} {s : Sight} {e : Expr} {t : Sight} → Is names p d s e t → Claim names p d s e t
unfolding start_of product_of addition_of comparison_of skip
complete names (number {d} {n} {s} h r) = let f = unary-by names d s in let q = taken-room s r in f.2 ∙ (rw (h, q) refl)
complete names (variable {d} {n} {p} {s} h k r) = let f = unary-by names d s in let q = taken-room s r in f.2 ∙ (rw (h, k, q) refl)
complete names (minus {d} {e} {s} {t} h r i) =
    let q = taken-room s r in
    let v : unary names d (spend s) ≡ Ok (e, t) = complete names i in
    rw (unary-is, h, q, v)
complete names (parens {d} {e} {s} {t} h r i k l) =
    let q = taken-room s r in
    let v : expr names d (spend s) ≡ Ok (e, t) = complete names i (at product_of mark.Close t k) (at addition_of mark.Close t k) (at comparison_of mark.Close t k) in
    let w = closed-sees mark.Close t k l in
    rw (unary-is, h, q, v, w)
complete names (load {d} {e} {s} {t} h a r i k l) =
    let b = access-room s a in
    let q = taken-room (opens s) r in
    let v : expr names d (spend (opens s)) ≡ Ok (e, t) = complete names i (at product_of mark.CloseBracket t k) (at addition_of mark.CloseBracket t k) (at comparison_of mark.CloseBracket t k) in
    let w = closed-sees mark.CloseBracket t k l in
    rw (unary-is, h, b, q, v, w)
complete names (factor {d} {e} {s} {t} i) = let v : unary names d s ≡ Ok (e, t) = complete names i in rw (term-is, v)
complete names (product {d} {o} {a} {b} {s} {t} {u} i k r j) =
    let v : unary names d (spend t) ≡ Ok (b, u) = complete names j in
    complete names i ∙ many-reads product_of (operated (unary names d)) a (Two o a b) t u o (parts-term names d) k (operated-is (unary names d) o a b t u r v)
complete names (summand {d} {e} {s} {t} i) = λ h. (let v : term names d s ≡ Ok (e, t) = term-ends names d s e t h (complete names i) in rw (sum-is, v))
complete names (addition {d} {o} {a} {b} {s} {t} {u} i k r j) = λ h. (
    let v : term names d (spend t) ≡ Ok (b, u) = term-ends names d (spend t) b u h (complete names j) in
    complete names i (addition-no-product (stands t) o k) ∙ many-reads addition_of (operated (term names d)) a (Two o a b) t u o (parts-sum names d) k (operated-is (term names d) o a b t u r v))
complete names (side {d} {e} {s} {t} i) = λ h k l. expr-ends names d s e t l (sum-ends names d s e t h k (complete names i))
complete names (comparison {d} {o} {a} {b} {s} {t} {u} i k r j) = λ h m l. (
    let v : sum names d (spend t) ≡ Ok (b, u) = sum-ends names d (spend t) b u h m (complete names j) in
    expr-both names d s a b t u o k (sum-ends names d s a t (comparison-no-product (stands t) o k) (comparison-no-addition (stands t) o k) (complete names i)) (operated-is (sum names d) o a b t u r v))

-- behind this token no expression goes on
abbrev pub Ends : Token → Type 0
Ends t = (product_of t ≡ None) × (addition_of t ≡ None) × (comparison_of t ≡ None)

pub expression-complete : (names : Names) (s : Sight) (e : Expr) (t : Sight) → IsExpression names s e t → Ends (stands t) → expression names s ≡ Ok (e, t)
unfolding expression
expression-complete names s e t i h = complete names i h.0 h.1 h.2

-- Soundness: what is read the grammar says.

-- the readings of what stands one deeper
abbrev Deeper : Names → Precedence → ℕ → Reading Expr → Type 0
Deeper names p d r = (s : Sight) (x : Expr × Sight) → r s ≡ Ok x → (k : ℕ) × (d ≡ suc k) × Room s × Is names p k (spend s) x.0 x.1

abbrev Sound : Names → Precedence → ℕ → Reading Expr → Type 0
Sound names p d r = (s : Sight) (x : Expr × Sight) → r s ≡ Ok x → Is names p d s x.0 x.1

done : {names : Names} {p : Precedence} {d : ℕ} {s t : Sight} {a : Expr} (x : Expr × Sight) → gives a t ≡ Ok x → Is names p d s a t → Is names p d s x.0 x.1
done {names} {p} {d} {s} {t} {a} x h i = let e = given a t x h in rw e i

one-up : {names : Names} {p : Precedence} {d k : ℕ} {s t : Sight} {a : Expr} → d ≡ suc k → Is names p (suc k) s a t → Is names p d s a t
one-up e i = rw e i

visible-sound : (names : Names) (d : ℕ) (s : Sight) (n : Name) (x : Expr × Sight) → SeesName n s → (o : Option Place) → place_of names n ≡ o → if_visible o s ≡ Ok x → Is names Unary d s x.0 x.1
unfolding refused
visible-sound names d s n x k (Some p) e h = let f = taken-then (λ _. gives (Var p)) s x h in done x f.1 (variable k e f.0)
visible-sound names d s n x k None e h = absurd (cc)

operand-sound : (names : Names) (d : ℕ) (u e : Reading Expr) → Deeper names Unary d u → Deeper names Whole d e → (s : Sight) (x : Expr × Sight) (t : Token) → stands s ≡ t → operand names u e (start_of t) s ≡ Ok x → Is names Unary d s x.0 x.1
unfolding start_of refused skip
operand-sound names d u e hu he s x (token.Number n) k h = let f = taken-then (λ _. gives (Number (pos n))) s x h in done x f.1 (number k f.0)
operand-sound names d u e hu he s x (token.Name n) k h = visible-sound names d s n x k (place_of names n) refl h
operand-sound names d u e hu he s x (token.Plain mark.Minus) k h =
    let f = bind-ok (u s) (λ a. gives (Neg a)) x h in
    let i = hu s f.0 f.1 in
    done x f.2 (one-up i.1 (minus k i.2 i.3))
operand-sound names d u e hu he s x (token.Plain mark.Open) k h =
    let f = bind-ok (e s) (λ a. closed mark.Close >>= λ _. gives a) x h in
    let g = closed-then mark.Close (λ _. gives f.0.0) f.0.1 x f.2 in
    let i = he s f.0 f.1 in
    done x g.2 (one-up i.1 (parens k i.2 i.3 g.0 g.1))
operand-sound names d u e hu he s x (token.Plain mark.OpenBracket) k h =
    let r = access-then (λ _. e >>= λ a. closed mark.CloseBracket >>= λ _. access_number >>= λ k. gives (Load k a)) s x h in
    let f = bind-ok (e (opens s)) (λ a. closed mark.CloseBracket >>= λ _. access_number >>= λ k. gives (Load k a)) x r.1 in
    let g = closed-then mark.CloseBracket (λ _. access_number >>= λ k. gives (Load k f.0.0)) f.0.1 x f.2 in
    let i = he (opens s) f.0 f.1 in
    done x g.2 (one-up i.1 (load k r.0 i.2 i.3 g.0 g.1))
operand-sound names d u e hu he s x _ k h = absurd (cc)

-- an operator and what stands behind it
operated-sound : (part : Reading Expr) (o : Op) (a : Expr) (t : Sight) (x : Expr × Sight) → operated part o a t ≡ Ok x → Room t × ((y : Expr × Sight) × (part (spend t) ≡ Ok y) × (x ≡ (Two o a y.0, y.1)))
operated-sound part o a t x h =
    let f = taken-then (λ _. part >>= λ b. gives (Two o a b)) t x h in
    let g = bind-ok (part (spend t)) (λ b. gives (Two o a b)) x f.1 in
    (f.0, (g.0, g.1, given (Two o a g.0.0) g.0.1 x g.2))

two : {names : Names} {p : Precedence} {d : ℕ} {s t : Sight} {a : Expr} (x : Expr × Sight) → x ≡ (a, t) → Is names p d s a t → Is names p d s x.0 x.1
two x e i = rw e i

term-sound : (names : Names) (d : ℕ) (unary : Reading Expr) → Sound names Unary d unary → Sound names Term d (parts product_of unary)
term-sound names d unary hu s x h =
    let f = bind-ok (unary s) (many product_of (operated unary)) x h in
    many-sound (Is names Term d s) product_of (operated unary) (λ a t o y i e k. (let g = operated-sound unary o a t y k in two y g.1.2 (product i e g.0 (hu (spend t) g.1.0 g.1.1)))) f.0.0 f.0.1 x (factor (hu s f.0 f.1)) f.2

sum-sound : (names : Names) (d : ℕ) (term : Reading Expr) → Sound names Term d term → Sound names Sum d (parts addition_of term)
sum-sound names d term hu s x h =
    let f = bind-ok (term s) (many addition_of (operated term)) x h in
    many-sound (Is names Sum d s) addition_of (operated term) (λ a t o y i e k. (let g = operated-sound term o a t y k in two y g.1.2 (addition i e g.0 (hu (spend t) g.1.0 g.1.1)))) f.0.0 f.0.1 x (summand (hu s f.0 f.1)) f.2

whole-sound : (names : Names) (d : ℕ) (sum : Reading Expr) → Sound names Sum d sum → Sound names Whole d (compared sum)
whole-sound names d sum hu s x h =
    let f = bind-ok (sum s) (λ a t. compared_at sum a (comparison_of (stands t)) t) x h in
    let i : Is names Sum d s f.0.0 f.0.1 = hu s f.0 f.1 in
    elim (comparison_of (stands f.0.1)) as (λ o. comparison_of (stands f.0.1) ≡ o → compared_at sum f.0.0 o f.0.1 ≡ Ok x → Is names Whole d s x.0 x.1) [
      | None ↦ λ e k. done x k (side i)
      | Some o ↦ λ e k. (let g = operated-sound sum o f.0.0 f.0.1 x k in two x g.1.2 (comparison i e g.0 (hu (spend f.0.1) g.1.0 g.1.1)))
    ] refl f.2

none-deeper : (names : Names) (p : Precedence) → Deeper names p 0 (refused kind.Deep)
unfolding refused
none-deeper names p s x h = absurd (cc)

deeper : (names : Names) (p : Precedence) (d : ℕ) (r : Reading Expr) → Sound names p d r → Deeper names p (suc d) (taken >>= λ _. r)
deeper names p d r h s x e = let f = taken-then (λ _. r) s x e in (d, refl, f.0, h (spend s) x f.1)

unary-sound : (names : Names) (d : ℕ) → Sound names Unary d (unary names d)
unfolding unary
unary-sound names zero s x h = operand-sound names zero (refused kind.Deep) (refused kind.Deep) (none-deeper names Unary) (none-deeper names Whole) s x (stands s) refl h
unary-sound names (suc d) s x h =
    let u : Sound names Unary d (unary names d) = unary-sound names d in
    let w : Sound names Whole d (compared (parts addition_of (parts product_of (unary names d)))) = whole-sound names d _ (sum-sound names d _ (term-sound names d _ u)) in
    operand-sound names (suc d) (taken >>= λ _. unary names d) (taken >>= λ _. compared (parts addition_of (parts product_of (unary names d)))) (deeper names Unary d _ u) (deeper names Whole d _ w) s x (stands s) refl h

pub expression-sound : (names : Names) (s : Sight) (x : Expr × Sight) → expression names s ≡ Ok x → IsExpression names s x.0 x.1
unfolding expression expr sum term
expression-sound names s x h = whole-sound names most_open _ (sum-sound names most_open _ (term-sound names most_open _ (unary-sound names most_open))) (afresh s) x h
