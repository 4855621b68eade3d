-- What was read of an expression is read again from its canonical pieces.
use Rattle.std.proofs.Common.{◌≡◌, ℕ, pos, suc, ◌+◌, ◌<◌, ◌≤◌, List, [], ◌∷◌, ◌++◌, refl, sym, ◌∙◌, ap, arith, Option, Some, true, false, subst}
use Rattle.nest_lang.specs.declared.tree.Place.{Place}
use Rattle.nest_lang.specs.declared.tree.Op.{Op}
use Rattle.nest_lang.specs.declared.tree.Op.TheVariants as op
use Rattle.nest_lang.specs.declared.tree.Expr.{Expr}
use Rattle.nest_lang.specs.declared.tree.Expr.TheVariants.{Number, Var, Load, Neg, Two}
use Rattle.nest_tokens.specs.declared.token.Name.{Name}
use Rattle.nest_tokens.specs.declared.token.Mark.TheVariants as mark
use Rattle.nest_tokens.specs.declared.token.Token.{Token}
use Rattle.nest_tokens.specs.declared.token.Token.TheVariants as token
use Rattle.nest_tokens.specs.declared.token.Spot.{Spot}
use Rattle.nest_grammar.specs.Limits.{most_tokens, most_accesses, most_open}
use Rattle.nest_tokens.specs.Ahead.{first, rest}
use Rattle.nest_grammar.specs.Sights.{Sight, here, stands, skip, spend, opens, numbered, afresh, Sees}
use Rattle.nest_grammar.specs.Names.{Names, place_of}
use Rattle.nest_grammar.specs.Expressions.{product_of, addition_of, comparison_of}
use Rattle.nest_grammar.specs.Grammar.{Precedence, Unary as AsUnary, Term as AsTerm, Sum as AsSum, Whole as AsWhole, Is, number, variable, minus, parens, load, factor, product, summand, addition, side, comparison, Room, AccessRoom, IsExpression}
use Rattle.canonical.specs.declared.group.Group.{Group}
use Rattle.canonical.specs.declared.group.Group.TheVariants.{Unary, Term, Sum, Whole}
use Rattle.canonical.specs.Groups.{fits, made_by, left_of, right_of, mark_of}
use Rattle.canonical.specs.Pieces.{Piece, plain, name, number as number_piece, spaced}
use Rattle.canonical.specs.Labels.{Labels, label}
use Rattle.canonical.specs.Expressions.{Printed, as_group, both, printed, expression_of}
use Rattle.canonical.proofs.PrintingLaws.{printed-number, printed-var, printed-load, printed-neg, printed-two, as-fit, as-held}
use Rattle.canonical.proofs.TokenWalkLaws.{Walks, walks-append, Counts, counts}

-- the part of the grammar that a group is
abbrev pub part-of : Group → Precedence
part-of Unary = AsUnary
part-of Term = AsTerm
part-of Sum = AsSum
part-of Whole = AsWhole

-- each visible name is the label of its place
abbrev pub Agrees : Names → Labels → Type 0
Agrees names l = (n : Name) (p : Place) → place_of names n ≡ Some p → label l p ≡ n

-- from s on an expression is read up to these spots, with these counters then and at most so many tokens
abbrev pub Arrives : Names → Precedence → ℕ → Sight → Expr → List Spot → Counts → ℕ → Type 0
Arrives names p d s e m b v = (t : Sight) × Is names p d s e t × (t.size ≡ s.size) × (t.left ≡ m) × (counts t ≡ b) × (t.spent ≤ v)

-- The pieces without parentheses round them are read, where d more may be open, the counters from a to b.
abbrev pub Bare : Labels → Names → ℕ → Expr → Counts → Counts → ℕ → ℕ → Type 0
Bare l names d e a b u v = (s : Sight) (m : List Spot) → counts s ≡ a → s.spent ≤ u → Walks (printed l e).pieces s.size s.left m → Arrives names (part-of (printed l e).group) d s e m b v

-- They are read where this group is wanted. Where they need parentheses, the text had some.
pub data Again (l : Labels) (names : Names) (g : Group) (e : Expr) (a b : Counts) (u v : ℕ) : ℕ → Type 0 where
  bare : {d : ℕ} → fits (printed l e).group g ≡ true → Bare l names d e a b u v → Again l names g e a b u v d
  held : {d n : ℕ} → fits (printed l e).group g ≡ false → u < most_tokens → Bare l names d e a b (u + 1) n → n < most_tokens → n + 1 ≤ v → Again l names g e a b u v (suc d)

-- one more may be open
pub deeper : (names : Names) {p : Precedence} {d : ℕ} {s : Sight} {e : Expr} {t : Sight} → Is names p d s e t → Is names p (suc d) s e t
deeper names (number h r) = number h r
deeper names (variable h k r) = variable h k r
deeper names (minus h r i) = minus h r (deeper names i)
deeper names (parens h r i k q) = parens h r (deeper names i) k q
deeper names (load h a r i k q) = load h a r (deeper names i) k q
deeper names (factor i) = factor (deeper names i)
deeper names (product i k r j) = product (deeper names i) k r (deeper names j)
deeper names (summand i) = summand (deeper names i)
deeper names (addition i k r j) = addition (deeper names i) k r (deeper names j)
deeper names (side i) = side (deeper names i)
deeper names (comparison i k r j) = comparison (deeper names i) k r (deeper names j)

-- a group that fits is the part that is wanted
pub fit : (names : Names) (d : ℕ) (s : Sight) (e : Expr) (t : Sight) (g w : Group) → fits g w ≡ true → Is names (part-of g) d s e t → Is names (part-of w) d s e t
unfolding fits
fit names d s e t Unary Unary h i = i
fit names d s e t Unary Term h i = factor i
fit names d s e t Unary Sum h i = summand (factor i)
fit names d s e t Unary Whole h i = side (summand (factor i))
fit names d s e t Term Unary h i = absurd (cc)
fit names d s e t Term Term h i = i
fit names d s e t Term Sum h i = summand i
fit names d s e t Term Whole h i = side (summand i)
fit names d s e t Sum Unary h i = absurd (cc)
fit names d s e t Sum Term h i = absurd (cc)
fit names d s e t Sum Sum h i = i
fit names d s e t Sum Whole h i = side i
fit names d s e t Whole Unary h i = absurd (cc)
fit names d s e t Whole Term h i = absurd (cc)
fit names d s e t Whole Sum h i = absurd (cc)
fit names d s e t Whole Whole h i = i

fits-whole : (g : Group) → fits g Whole ≡ true
unfolding fits
fits-whole Unary = refl
fits-whole Term = refl
fits-whole Sum = refl
fits-whole Whole = refl

pub fits-through : (g w x : Group) → fits g w ≡ true → fits w x ≡ true → fits g x ≡ true
unfolding fits
fits-through Unary w x h k = refl
fits-through Term Unary x h k = absurd (cc)
fits-through Term Term x h k = k
fits-through Term Sum Unary h k = absurd (cc)
fits-through Term Sum Term h k = absurd (cc)
fits-through Term Sum Sum h k = refl
fits-through Term Sum Whole h k = refl
fits-through Term Whole Unary h k = absurd (cc)
fits-through Term Whole Term h k = absurd (cc)
fits-through Term Whole Sum h k = absurd (cc)
fits-through Term Whole Whole h k = refl
fits-through Sum Unary x h k = absurd (cc)
fits-through Sum Term x h k = absurd (cc)
fits-through Sum Sum x h k = k
fits-through Sum Whole Unary h k = absurd (cc)
fits-through Sum Whole Term h k = absurd (cc)
fits-through Sum Whole Sum h k = absurd (cc)
fits-through Sum Whole Whole h k = refl
fits-through Whole Unary x h k = absurd (cc)
fits-through Whole Term x h k = absurd (cc)
fits-through Whole Sum x h k = absurd (cc)
fits-through Whole Whole x h k = k

pub fits-self : (g : Group) → fits g g ≡ true
unfolding fits
fits-self Unary = refl
fits-self Term = refl
fits-self Sum = refl
fits-self Whole = refl

bare-looser : (l : Labels) (names : Names) (d : ℕ) (e : Expr) (a b : Counts) (u v u2 v2 : ℕ) → u ≤ u2 → v2 ≤ v → Bare l names d e a b u2 v2 → Bare l names (suc d) e a b u v
bare-looser l names d e a b u v u2 v2 h k x s m c r w =
    let y = x s m c (omega arith) w in
    (y.0, deeper names y.1, y.2, y.3, y.4, omega (arith, y.5))

-- the pieces where a group is wanted are read as it
pub again-read : (l : Labels) (names : Names) (g : Group) (e : Expr) (a b : Counts) (u v d : ℕ) → Again l names g e a b u v d → (s : Sight) (m : List Spot) → counts s ≡ a → s.spent ≤ u → Walks (as_group g (printed l e)) s.size s.left m → Arrives names (part-of g) d s e m b v
unfolding skip here fits
again-read l names g e a b u v _ (bare {d} f x) s m c r w =
    let y = x s m c r (subst (λ (ps : List Piece). Walks ps s.size s.left m) (as-fit g (printed l e) f) w) in
    (y.0, fit names d s e y.0 (printed l e).group g f y.1, y.2, y.3, y.4, y.5)
again-read l names g e a b u v _ (held {d} {n} f k x o h) s m c r w =
    let w2 : Walks (plain mark.Open ∷ (printed l e).pieces ++ plain mark.Close ∷ []) s.size s.left m = subst (λ (ps : List Piece). Walks ps s.size s.left m) (as-held g (printed l e) f) w in
    let q = walks-append (printed l e).pieces (plain mark.Close ∷ []) s.size (rest s.left) m w2.1 in
    let y = x (spend s) q.0 c (omega arith) q.1 in
    let t = y.0 in
    let z : (first t.size t.left).token ≡ token.Plain mark.Close = rw (y.2, y.3) q.2.0 in
    let i : Is names AsUnary (suc d) s e (spend t) = parens w2.0 (omega arith) (fit names d (spend s) e t (printed l e).group Whole (fits-whole (printed l e).group) y.1) z (omega (arith, y.5)) in
    (spend t, fit names (suc d) s e (spend t) Unary g refl i, y.2, ap rest y.3 ∙ sym q.2.1, y.4, omega (arith, y.5))

again-of : (l : Labels) (names : Names) (g : Group) (e : Expr) (a b : Counts) (u v d : ℕ) (x : Printed) → printed l e ≡ x → fits x.group g ≡ true → ((s : Sight) (m : List Spot) → counts s ≡ a → s.spent ≤ u → Walks x.pieces s.size s.left m → Arrives names (part-of x.group) d s e m b v) → Again l names g e a b u v d
again-of l names g e a b u v d x q f y = bare (rw q f) (subst (λ (z : Printed). (s : Sight) (m : List Spot) → counts s ≡ a → s.spent ≤ u → Walks z.pieces s.size s.left m → Arrives names (part-of z.group) d s e m b v) (sym q) y)

weaker : (l : Labels) (names : Names) (g w : Group) (e : Expr) (a b : Counts) (u v d : ℕ) → fits g w ≡ true → Again l names g e a b u v d → Again l names w e a b u v d
weaker l names g w e a b u v _ h (bare {d} f x) = bare (fits-through (printed l e).group g w f h) x
weaker l names g w e a b u v _ h (held {d} {n} f k x o i) =
    elim (fits (printed l e).group w) as (λ c. fits (printed l e).group w ≡ c → Again l names w e a b u v (suc d))
    [ true ↦ λ q. bare q (bare-looser l names d e a b u v (u + 1) n (omega arith) (omega arith) x) | false ↦ λ q. held q k x o i ] refl

whole-bare : (l : Labels) (names : Names) (e : Expr) (a b : Counts) (u v d : ℕ) → Again l names Whole e a b u v d → Bare l names d e a b u v
whole-bare l names e a b u v _ (bare {d} f x) = x
whole-bare l names e a b u v _ (held {d} f k x o i) = absurd (let q : fits (printed l e).group Whole ≡ true = fits-whole (printed l e).group in cc)

-- round an expression that is read between u + 1 and v tokens stand parentheses
parens-again : (l : Labels) (names : Names) (e : Expr) (a b : Counts) (u v d : ℕ) → u < most_tokens → v < most_tokens → Again l names Whole e a b (u + 1) v d → Again l names Unary e a b u (v + 1) (suc d)
parens-again l names e a b u v d r o x =
    elim (fits (printed l e).group Unary) as (λ c. fits (printed l e).group Unary ≡ c → Again l names Unary e a b u (v + 1) (suc d)) [
      | true ↦ λ q. bare q (bare-looser l names d e a b u (v + 1) (u + 1) v (omega arith) (omega arith) (whole-bare l names e a b (u + 1) v d x))
      | false ↦ λ q. held q r (whole-bare l names e a b (u + 1) v d x) o (omega arith)
    ] refl

two-again : (l : Labels) (names : Names) (o : Op) (x y : Expr) (a b c : Counts) (u v z d : ℕ)
    → v < most_tokens
    → ((s t k : Sight) → Is names (part-of (left_of o)) d s x t → Sees (mark_of o) t → Room t → Is names (part-of (right_of o)) d (spend t) y k → Is names (part-of (made_by o)) d s (Two o x y) k)
    → Again l names (left_of o) x a b u v d → Again l names (right_of o) y b c (v + 1) z d → Again l names (made_by o) (Two o x y) a c u z d
unfolding skip here
two-again l names o x y a b c u v z d r join f g =
    again-of l names (made_by o) (Two o x y) a c u z d (both o (printed l x) (printed l y)) (printed-two l o x y) (fits-self (made_by o)) (λ s m k n w.
    let w1 = walks-append (as_group (left_of o) (printed l x) ++ spaced (mark_of o)) (as_group (right_of o) (printed l y)) s.size s.left m w in
    let w2 = walks-append (as_group (left_of o) (printed l x)) (spaced (mark_of o)) s.size s.left w1.0 w1.1 in
    let i = again-read l names (left_of o) x a b u v d f s w2.0 k n w2.1 in
    let t = i.0 in
    let at : (first t.size t.left).token ≡ token.Plain (mark_of o) = rw (i.2, i.3) w2.2.0 in
    let lft : rest t.left ≡ w1.0 = ap rest i.3 ∙ sym w2.2.1 in
    let w3 : Walks (as_group (right_of o) (printed l y)) t.size (rest t.left) m = rw (lft, i.2) w1.2 in
    let j = again-read l names (right_of o) y b c (v + 1) z d g (spend t) m i.4 (omega (arith, i.5)) w3 in
    (j.0, join s t j.0 i.1 at (omega (arith, i.5)) j.1, j.2 ∙ i.2, j.3, j.4, j.5))

-- what the table of operators says of one
abbrev pub IsIn : Op → Group → Group → Group → (Token → Option Op) → Type 0
IsIn o made lft rgt operator = (made_by o ≡ made) × (left_of o ≡ lft) × (right_of o ≡ rgt) × (operator (token.Plain (mark_of o)) ≡ Some o)

pub product-table : (x : Token) (o : Op) → product_of x ≡ Some o → IsIn o Term Term Unary product_of
unfolding product_of
product-table (token.Plain mark.Times) o h = let q : op.Mul ≡ o = cc in subst (λ (k : Op). IsIn k Term Term Unary product_of) q (refl, refl, refl, refl)
product-table (token.Plain mark.Divide) o h = let q : op.Div ≡ o = cc in subst (λ (k : Op). IsIn k Term Term Unary product_of) q (refl, refl, refl, refl)
product-table (token.Plain mark.Remainder) o h = let q : op.Rem ≡ o = cc in subst (λ (k : Op). IsIn k Term Term Unary product_of) q (refl, refl, refl, refl)
product-table _ o h = absurd (cc)

pub addition-table : (x : Token) (o : Op) → addition_of x ≡ Some o → IsIn o Sum Sum Term addition_of
unfolding addition_of
addition-table (token.Plain mark.Plus) o h = let q : op.Add ≡ o = cc in subst (λ (k : Op). IsIn k Sum Sum Term addition_of) q (refl, refl, refl, refl)
addition-table (token.Plain mark.Minus) o h = let q : op.Sub ≡ o = cc in subst (λ (k : Op). IsIn k Sum Sum Term addition_of) q (refl, refl, refl, refl)
addition-table _ o h = absurd (cc)

pub comparison-table : (x : Token) (o : Op) → comparison_of x ≡ Some o → IsIn o Whole Sum Sum comparison_of
unfolding comparison_of
comparison-table (token.Plain mark.Equal) o h = let q : op.Eq ≡ o = cc in subst (λ (k : Op). IsIn k Whole Sum Sum comparison_of) q (refl, refl, refl, refl)
comparison-table (token.Plain mark.NotEqual) o h = let q : op.Ne ≡ o = cc in subst (λ (k : Op). IsIn k Whole Sum Sum comparison_of) q (refl, refl, refl, refl)
comparison-table (token.Plain mark.Less) o h = let q : op.Lt ≡ o = cc in subst (λ (k : Op). IsIn k Whole Sum Sum comparison_of) q (refl, refl, refl, refl)
comparison-table (token.Plain mark.AtMost) o h = let q : op.Le ≡ o = cc in subst (λ (k : Op). IsIn k Whole Sum Sum comparison_of) q (refl, refl, refl, refl)
comparison-table (token.Plain mark.Greater) o h = let q : op.Gt ≡ o = cc in subst (λ (k : Op). IsIn k Whole Sum Sum comparison_of) q (refl, refl, refl, refl)
comparison-table (token.Plain mark.AtLeast) o h = let q : op.Ge ≡ o = cc in subst (λ (k : Op). IsIn k Whole Sum Sum comparison_of) q (refl, refl, refl, refl)
comparison-table _ o h = absurd (cc)

-- an operator of a table joins what stands on its sides
tabled : (l : Labels) (names : Names) (o : Op) (made lft rgt : Group) (operator : Token → Option Op) (x y : Expr) (a b c : Counts) (u v z d : ℕ)
    → IsIn o made lft rgt operator → v < most_tokens
    → ((s t k : Sight) → Is names (part-of lft) d s x t → operator (stands t) ≡ Some o → Room t → Is names (part-of rgt) d (spend t) y k → Is names (part-of made) d s (Two o x y) k)
    → Again l names lft x a b u v d → Again l names rgt y b c (v + 1) z d → Again l names made (Two o x y) a c u z d
tabled l names o made lft rgt operator x y a b c u v z d h r join f g =
    subst (λ (k : Group). Again l names k (Two o x y) a c u z d) h.0
    (two-again l names o x y a b c u v z d r (λ s t k i at q j.
    subst (λ (n : Group). Is names (part-of n) d s (Two o x y) k) (sym h.0)
    (join s t k (subst (λ (n : Group). Is names (part-of n) d s x t) h.1 i) (ap operator at ∙ h.3) q (subst (λ (n : Group). Is names (part-of n) d (spend t) y k) h.2 j)))
    (subst (λ (k : Group). Again l names k x a b u v d) (sym h.1) f)
    (subst (λ (k : Group). Again l names k y b c (v + 1) z d) (sym h.2) g))

abbrev pub group_of : Precedence → Group
group_of AsUnary = Unary
group_of AsTerm = Term
group_of AsSum = Sum
group_of AsWhole = Whole

abbrev pub one_opened : Counts → Counts
one_opened c = record { version = c.version; opened = c.opened + 1; accesses = c.accesses; lets = c.lets }

abbrev pub one_access : Counts → Counts
one_access c = record { version = c.version; opened = c.opened; accesses = c.accesses + 1; lets = c.lets }

load-again : (l : Labels) (names : Names) (d : ℕ) (e : Expr) (s t : Sight) → AccessRoom s → Room s → Room t → Again l names Whole e (counts (spend (opens s))) (counts t) (s.spent + 1) t.spent d → (s2 : Sight) (m : List Spot) → counts s2 ≡ counts s → s2.spent ≤ s.spent → Walks (plain mark.OpenBracket ∷ as_group Whole (printed l e) ++ plain mark.CloseBracket ∷ []) s2.size s2.left m → Arrives names AsUnary (suc d) s2 (Load (t.accesses + 1) e) m (counts (numbered (spend t))) (t.spent + 1)
unfolding skip here
load-again l names d e s t room r o x s2 m c k w =
    let q = walks-append (as_group Whole (printed l e)) (plain mark.CloseBracket ∷ []) s2.size (rest s2.left) m w.1 in
    let y = again-read l names Whole e (counts (spend (opens s))) (counts t) (s.spent + 1) t.spent d x (spend (opens s2)) q.0 (ap one_opened c) (omega arith) q.1 in
    let t2 = y.0 in
    let z : (first t2.size t2.left).token ≡ token.Plain mark.CloseBracket = rw (y.2, y.3) q.2.0 in
    let i : Is names AsUnary (suc d) s2 (Load (t2.accesses + 1) e) (numbered (spend t2)) = load w.0 (subst (λ (n : Counts). n.opened < most_accesses n.version) (sym c) room) (omega arith) y.1 z (omega (arith, y.5)) in
    let n : t2.accesses ≡ t.accesses = ap (λ (n : Counts). n.accesses) y.4 in
    (numbered (spend t2), subst (λ (n : ℕ). Is names AsUnary (suc d) s2 (Load (n + 1) e) (numbered (spend t2))) n i, y.2, ap rest y.3 ∙ sym q.2.1, ap one_access y.4, omega (arith, y.5))

pub again : (l : Labels) (names : Names) → Agrees names l → {p : Precedence} {d : ℕ} {s : Sight} {e : Expr} {t : Sight} → Is names p d s e t → Again l names (group_of p) e (counts s) (counts t) s.spent t.spent d
unfolding skip here fits
again l names agree (number {d} {n} {s} h r) = again-of l names Unary (Number (pos n)) (counts s) (counts (spend s)) s.spent (s.spent + 1) d (record { group = Unary; pieces = number_piece n ∷ [] }) (printed-number l n) refl (λ s2 m c k w. (spend s2, number w.0 (omega arith), refl, sym w.1, c, omega arith))
again l names agree (variable {d} {n} {p} {s} h f r) = again-of l names Unary (Var p) (counts s) (counts (spend s)) s.spent (s.spent + 1) d (record { group = Unary; pieces = name (label l p) ∷ [] }) (printed-var l p) refl (λ s2 m c k w.
    (spend s2, variable (w.0 ∙ ap token.Name (agree n p f)) f (omega arith), refl, sym w.1, c, omega arith))
again l names agree (minus {d} {e} {s} {t} h r i) = again-of l names Unary (Neg e) (counts s) (counts t) s.spent t.spent (suc d) (record { group = Unary; pieces = plain mark.Minus ∷ as_group Unary (printed l e) }) (printed-neg l e) refl (λ s2 m c k w.
    let y = again-read l names Unary e (counts s) (counts t) (s.spent + 1) t.spent d (again l names agree i) (spend s2) m c (omega arith) w.1 in
    (y.0, minus w.0 (omega arith) y.1, y.2, y.3, y.4, y.5))
again l names agree (parens {d} {e} {s} {t} h r i k o) = parens-again l names e (counts s) (counts t) s.spent t.spent d r o (again l names agree i)
again l names agree (load {d} {e} {s} {t} h a r i k o) = again-of l names Unary (Load (t.accesses + 1) e) (counts s) (counts (numbered (spend t))) s.spent (t.spent + 1) (suc d) (record { group = Unary; pieces = plain mark.OpenBracket ∷ as_group Whole (printed l e) ++ plain mark.CloseBracket ∷ [] }) (printed-load l (t.accesses + 1) e) refl (load-again l names d e s t a r o (again l names agree i))
again l names agree (factor {d} {e} {s} {t} i) = weaker l names Unary Term e (counts s) (counts t) s.spent t.spent d refl (again l names agree i)
again l names agree (product {d} {o} {a} {b} {s} {t} {u} i k r j) = tabled l names o Term Term Unary product_of a b (counts s) (counts t) (counts u) s.spent t.spent u.spent d (product-table (stands t) o k) r (λ _ _ _ x m q y. product x m q y) (again l names agree i) (again l names agree j)
again l names agree (summand {d} {e} {s} {t} i) = weaker l names Term Sum e (counts s) (counts t) s.spent t.spent d refl (again l names agree i)
again l names agree (addition {d} {o} {a} {b} {s} {t} {u} i k r j) = tabled l names o Sum Sum Term addition_of a b (counts s) (counts t) (counts u) s.spent t.spent u.spent d (addition-table (stands t) o k) r (λ _ _ _ x m q y. addition x m q y) (again l names agree i) (again l names agree j)
again l names agree (side {d} {e} {s} {t} i) = weaker l names Sum Whole e (counts s) (counts t) s.spent t.spent d refl (again l names agree i)
again l names agree (comparison {d} {o} {a} {b} {s} {t} {u} i k r j) = tabled l names o Whole Sum Sum comparison_of a b (counts s) (counts t) (counts u) s.spent t.spent u.spent d (comparison-table (stands t) o k) r (λ _ _ _ x m q y. comparison x m q y) (again l names agree i) (again l names agree j)

-- what was read of a whole expression is read again
pub expression-again : (l : Labels) (names : Names) → Agrees names l → (s : Sight) (e : Expr) (t : Sight) → IsExpression names s e t → (s2 : Sight) (m : List Spot) → counts s2 ≡ counts s → Walks (expression_of l e) s2.size s2.left m → (t2 : Sight) × IsExpression names s2 e t2 × (t2.size ≡ s2.size) × (t2.left ≡ m) × (counts t2 ≡ counts t)
unfolding expression_of
expression-again l names agree s e t i s2 m c w =
    let y = again-read l names Whole e (counts s) (counts t) 0 t.spent most_open (again l names agree i) (afresh s2) m c (omega arith) w in
    (y.0, y.1, y.2, y.3, y.4)
