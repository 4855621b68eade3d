-- Viable: each production's reading reads what the grammar writes so, and what stands before a fault begins
-- that.
use Rattle.std.proofs.Common.{◌≡◌, ℕ, zero, suc, ◌+◌, [], ◌∷◌, refl, ◌∙◌, Option, Some, None, Ok, Bool, true, false, ℤ, pos, if◌then◌else◌}
use Rattle.nest_lang.specs.declared.tree.Place.{Place}
use Rattle.nest_lang.specs.declared.tree.Place.TheVariants as place
use Rattle.nest_lang.specs.declared.tree.Op.{Op}
use Rattle.nest_lang.specs.declared.tree.Expr.{Expr}
use Rattle.nest_lang.specs.declared.tree.Expr.TheVariants.{Number as NumberExpr, Var, Load, Neg, Two}
use Rattle.nest_tokens.specs.declared.token.Name.{Name as TokenName}
use Rattle.nest_tokens.specs.declared.token.Mark.{Mark}
use Rattle.nest_tokens.specs.declared.token.Mark.TheVariants as mark
use Rattle.nest_tokens.specs.declared.token.Token.{Token}
use Rattle.nest_tokens.specs.declared.token.Token.TheVariants as token
use Rattle.nest_tokens.specs.Tokens.{is_mark}
use Rattle.nest_tokens.specs.Lexing.{name_of}
use Rattle.nest_tokens.proofs.MarkLaws.{is_mark-true}
use Rattle.nest_grammar.specs.declared.fault.TextKind.{TextKind}
use Rattle.nest_grammar.specs.declared.fault.TextKind.TheVariants as kind
use Rattle.nest_grammar.specs.Limits.{most_open}
use Rattle.nest_grammar.specs.Sights.{Sight, stands, Sees, here, skip, afresh, opens, numbered}
use Rattle.nest_grammar.specs.Readings.{Reading, ◌>>=◌, gives, refused, skipped, number_at, number_where, with_sign, minus, signed_where}
use Rattle.nest_grammar.specs.Names.{Names, place_of, unless_known, fresh_at, fresh, if_scalar, target}
use Rattle.nest_grammar.specs.Expressions.{start_of, product_of, addition_of, comparison_of, taken, if_visible, operand, operated, parts, compared_at, compared, unary, term, sum, expr, expression}
use Rattle.nest_grammar.specs.Phrases.{Loop, Body, Expr as AnExpr, Sum, Term, Unary, Signed, Form, Sign, Number, Name, Many, The, ◌·◌, ◌∣◌, maybe, rule, Allows, nothing, sign, number, name, both, one, other, the}
use Rattle.nest_grammar.specs.Kinds.{comes_at, is_solid}
use Rattle.nest_grammar.proofs.SentenceLaws.{Word, Starts, word-then, starts-then, word-many, word-maybe, word-sign, word-number, starts-sign, starts-number, regroup, At, Of, at-as, of-then, at-nothing, of-gives, at-last, Real, at-skipped, at-refused, of-wrong, by-token, by-test, at-obeys, at-access, at-taken, of-closed, of-many}

-- Words of the productions

pub word-unary : Word (The Unary)
word-unary = (token.Number 0 ∷ [], the (other (one number)))

pub word-term : Word (The Term)
word-term = let w = word-then word-unary word-many in (w.0, the w.1)

pub word-sum : Word (The Sum)
word-sum = let w = word-then word-term word-many in (w.0, the w.1)

pub word-expr : Word (The AnExpr)
word-expr = let w = word-then word-sum word-maybe in (w.0, the w.1)

pub word-signed : Word (The Signed)
word-signed = (token.Number 0 ∷ [], the (both (other nothing) number))

pub word-body : Word (The Body)
word-body = let w = word-then word-sign (word-then word-many (word-then word-maybe word-sign)) in (w.0, the w.1)

pub word-loop : Word (The Loop)
word-loop = let w = word-then word-sign (word-then word-expr word-body) in (w.0, the (other w.1))

-- Numbers

pub plain-real : (m : Mark) → Real (token.Plain m)
plain-real m k = cc

of-number_at : (rule : ℕ → Bool) (what : TextKind) → ((n : ℕ) → comes_at what (token.Number n) ≡ true) → (s : Sight) (t : Token) → stands s ≡ t → At Number (number_at rule what t) s
of-number_at rule what c s (token.Number n) h = at-obeys _ (rule n) what (token.Number n) h (λ k. cc) starts-number (c n) (at-last (at-skipped (token.Number n) h (λ k. cc) number) (λ _. of-gives n))
of-number_at rule what c s _ h = of-wrong word-number s

pub of-number_where : (rule : ℕ → Bool) (what : TextKind) → ((n : ℕ) → comes_at what (token.Number n) ≡ true) → Of Number (number_where rule what)
unfolding number_where
of-number_where rule what c s = by-token (number_at rule what) (of-number_at rule what c s)

of-minus : Of (maybe (Sign mark.Minus)) minus
unfolding minus
of-minus s = by-token (λ t s. if is_mark mark.Minus t then Ok (true, skip s) else Ok (false, s)) (λ t h. by-test (is_mark mark.Minus t) (skipped >>= λ _. gives true) (gives false)
    (λ q. at-as (λ ts v. one v) (at-last (at-skipped (token.Plain mark.Minus) (h ∙ is_mark-true mark.Minus t q) (λ k. cc) sign) (λ _. of-gives true)))
    (λ q. at-as (λ ts v. other v) (of-gives false s)))

pub of-signed_where : (rule : ℤ → Bool) (what : TextKind) → ((n : ℕ) → comes_at what (token.Number n) ≡ true) → Of (The Signed) (signed_where rule what)
unfolding signed_where
of-signed_where rule what c s = at-as (λ ts v. the v) (of-then (of-minus s) word-number (λ negative t. at-last (of-number_where (λ n. rule (with_sign negative n)) what c t) (λ n. of-gives (with_sign negative n))))

-- Names

of-unless_known : (n : TokenName) (o : Option Place) (s : Sight) → stands s ≡ token.Name n → At Name (unless_known n o) s
of-unless_known n None s h = at-last (at-skipped (token.Name n) h (λ k. cc) name) (λ _. of-gives n)
of-unless_known n (Some p) s h = at-refused kind.Known (token.Name n) h (λ k. cc) ([], name) refl

pub word-name : Word Name
word-name = (token.Name (name_of []) ∷ [], name)

of-fresh_at : (names : Names) (s : Sight) (t : Token) → stands s ≡ t → At Name (fresh_at names t) s
of-fresh_at names s (token.Name n) h = of-unless_known n (place_of names n) s h
of-fresh_at names s _ h = of-wrong word-name s

pub of-fresh : (names : Names) → Of Name (fresh names)
unfolding fresh
of-fresh names s = by-token (fresh_at names) (of-fresh_at names s)

at-if_scalar : (n : TokenName) (o : Option Place) (s : Sight) → stands s ≡ token.Name n → At Name (if_scalar o) s
at-if_scalar n (Some (place.Scalar k)) s h = at-last (at-skipped (token.Name n) h (λ k. cc) name) (λ _. of-gives k)
at-if_scalar n (Some _) s h = at-refused kind.Fixed (token.Name n) h (λ k. cc) ([], name) refl
at-if_scalar n None s h = at-refused kind.Unknown (token.Name n) h (λ k. cc) ([], name) refl

pub at-target : (names : Names) (n : TokenName) (s : Sight) → stands s ≡ token.Name n → At Name (target names n) s
unfolding target
at-target names n s h = at-if_scalar n (place_of names n) s h

-- Expressions

starts-brackets : (m c : Mark) → Starts (Sign m · The AnExpr · Sign c) (token.Plain m)
starts-brackets m c = starts-then starts-sign (word-then word-expr word-sign)

at-if_visible : (n : TokenName) (o : Option Place) (s : Sight) → stands s ≡ token.Name n → At Name (if_visible o) s
at-if_visible n (Some p) s h = at-last (at-taken (token.Name n) h (λ k. cc) name refl) (λ _. of-gives (Var p))
at-if_visible n None s h = at-refused kind.Unknown (token.Name n) h (λ k. cc) ([], name) refl

at-operand : (names : Names) (u e : Reading Expr) → ((s : Sight) → Sees mark.Minus s → At (Sign mark.Minus · The Unary) u s) → ((m : Mark) (s : Sight) → Sees m s → At (Sign m · The AnExpr) e s) → (s : Sight) (t : Token) → stands s ≡ t → At (The Unary) (operand names u e (start_of t)) s
unfolding start_of here
at-operand names u e hu he s (token.Number n) h = at-as (λ ts v. the (other (one v))) (at-last (at-taken (token.Number n) h (λ k. cc) number refl) (λ _. of-gives (NumberExpr (pos n))))
at-operand names u e hu he s (token.Name n) h = at-as (λ ts v. the (other (other (one v)))) (at-if_visible n (place_of names n) s h)
at-operand names u e hu he s (token.Plain mark.Minus) h = at-as (λ ts v. the (one v)) (at-last (hu s h) (λ a. of-gives (Neg a)))
at-operand names u e hu he s (token.Plain mark.Open) h = at-as (λ ts v. the (other (other (other (other (regroup ts v)))))) (of-then (he mark.Open s h) word-sign (λ a t. at-last (of-closed mark.Close t) (λ _. of-gives a)))
at-operand names u e hu he s (token.Plain mark.OpenBracket) h = at-as (λ ts v. the (other (other (other (one v))))) (at-access _ (token.Plain mark.OpenBracket) h (λ k. cc) (starts-brackets mark.OpenBracket mark.CloseBracket) refl
    (at-as (λ ts v. regroup ts v) (of-then (he mark.OpenBracket (opens s) h) word-sign (λ a t. at-last (of-closed mark.CloseBracket t) (λ _ w. record { is = at-nothing (Load (w.accesses + 1) a, numbered w) w refl refl })))))
at-operand names u e hu he s _ h = of-wrong word-unary s

at-operated : {e o : Form} (part : Reading Expr) → Of e part → Word e → (p : Op) (a : Expr) (s : Sight) (t : Token) → stands s ≡ t → Real t → Allows o (t ∷ []) → is_solid t ≡ true → At (o · e) (operated part p a) s
at-operated part h w p a s t k real v c = of-then (at-taken t k real v c) w (λ _ u. at-last (h u) (λ b. of-gives (Two p a b)))

of-parts : {e o : Form} (operator : Token → Option Op) (part : Reading Expr) → Of e part → Word e → ((t : Token) (p : Op) → operator t ≡ Some p → Real t × Allows o (t ∷ []) × (is_solid t ≡ true)) → Of (e · Many (o · e)) (parts operator part)
of-parts operator part h w k s = of-then (h s) word-many (λ a. of-many operator (operated part) (λ p a t q. (let v = k (stands t) p q in at-operated part h w p a t (stands t) refl v.0 v.1 v.2)) a)

products : (t : Token) (p : Op) → product_of t ≡ Some p → Real t × Allows (Sign mark.Times ∣ Sign mark.Divide ∣ Sign mark.Remainder) (t ∷ []) × (is_solid t ≡ true)
unfolding product_of
products (token.Plain mark.Times) p h = (λ k. cc, one sign, refl)
products (token.Plain mark.Divide) p h = (λ k. cc, other (one sign), refl)
products (token.Plain mark.Remainder) p h = (λ k. cc, other (other sign), refl)
products _ p h = absurd (cc)

additions : (t : Token) (p : Op) → addition_of t ≡ Some p → Real t × Allows (Sign mark.Plus ∣ Sign mark.Minus) (t ∷ []) × (is_solid t ≡ true)
unfolding addition_of
additions (token.Plain mark.Plus) p h = (λ k. cc, one sign, refl)
additions (token.Plain mark.Minus) p h = (λ k. cc, other sign, refl)
additions _ p h = absurd (cc)

comparisons : (t : Token) (p : Op) → comparison_of t ≡ Some p → Real t × Allows (Sign mark.Equal ∣ Sign mark.NotEqual ∣ Sign mark.Less ∣ Sign mark.AtMost ∣ Sign mark.Greater ∣ Sign mark.AtLeast) (t ∷ []) × (is_solid t ≡ true)
unfolding comparison_of
comparisons (token.Plain mark.Equal) p h = (λ k. cc, one sign, refl)
comparisons (token.Plain mark.NotEqual) p h = (λ k. cc, other (one sign), refl)
comparisons (token.Plain mark.Less) p h = (λ k. cc, other (other (one sign)), refl)
comparisons (token.Plain mark.AtMost) p h = (λ k. cc, other (other (other (one sign))), refl)
comparisons (token.Plain mark.Greater) p h = (λ k. cc, other (other (other (other (one sign)))), refl)
comparisons (token.Plain mark.AtLeast) p h = (λ k. cc, other (other (other (other (other sign)))), refl)
comparisons _ p h = absurd (cc)

of-products : (u : Reading Expr) → Of (The Unary) u → Of (The Term) (parts product_of u)
of-products u h s = at-as (λ ts v. the v) (of-parts product_of u h word-unary products s)

of-additions : (u : Reading Expr) → Of (The Term) u → Of (The Sum) (parts addition_of u)
of-additions u h s = at-as (λ ts v. the v) (of-parts addition_of u h word-term additions s)

of-compared_at : (u : Reading Expr) → Of (The Sum) u → (a : Expr) (s : Sight) (t : Token) → stands s ≡ t → (o : Option Op) → comparison_of t ≡ o → At (maybe ((Sign mark.Equal ∣ Sign mark.NotEqual ∣ Sign mark.Less ∣ Sign mark.AtMost ∣ Sign mark.Greater ∣ Sign mark.AtLeast) · The Sum)) (compared_at u a o) s
of-compared_at u h a s t k None q = at-as (λ ts v. other v) (of-gives a s)
of-compared_at u h a s t k (Some p) q = let v = comparisons t p q in at-as (λ ts v. one v) (at-operated u h word-sum p a s t k v.0 v.1 v.2)

of-compared : (u : Reading Expr) → Of (The Sum) u → Of (The AnExpr) (compared u)
of-compared u h s = at-as (λ ts v. the v) (of-then (h s) word-maybe (λ a t. by-token (λ x. compared_at u a (comparison_of x)) (λ x k. of-compared_at u h a t x k (comparison_of x) refl)))

of-unary : (names : Names) (d : ℕ) → Of (The Unary) (unary names d)
unfolding unary
of-unary names zero s = by-token (λ t. operand names (refused kind.Deep) (refused kind.Deep) (start_of t)) (at-operand names (refused kind.Deep) (refused kind.Deep)
    (λ s h. at-refused kind.Deep (token.Plain mark.Minus) h (λ k. cc) (starts-then starts-sign word-unary) refl)
    (λ m s h. at-refused kind.Deep (token.Plain m) h (plain-real m) (starts-then starts-sign word-expr) refl) s)
of-unary names (suc d) s =
    let h : Of (The Unary) (unary names d) = of-unary names d in
    by-token (λ t. operand names (taken >>= λ _. unary names d) (taken >>= λ _. compared (parts addition_of (parts product_of (unary names d)))) (start_of t)) (at-operand names (taken >>= λ _. unary names d) (taken >>= λ _. compared (parts addition_of (parts product_of (unary names d))))
    (λ s k. of-then (at-taken (token.Plain mark.Minus) k (λ q. cc) sign refl) word-unary (λ _. h))
    (λ m s k. of-then (at-taken (token.Plain m) k (plain-real m) sign refl) word-expr (λ _. of-compared _ (of-additions _ (of-products _ h)))) s)

of-expr : (names : Names) (d : ℕ) → Of (The AnExpr) (expr names d)
unfolding expr sum term
of-expr names d = of-compared (parts addition_of (parts product_of (unary names d))) (of-additions (parts product_of (unary names d)) (of-products (unary names d) (of-unary names d)))

pub of-expression : (names : Names) → Of (The AnExpr) (expression names)
unfolding expression
of-expression names s = record { is = (of-expr names most_open (afresh s)).is }
