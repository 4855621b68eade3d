-- What was read of statements is read again from their canonical lines.
use Rattle.std.proofs.Common.{◌≡◌, ℕ, suc, ◌+◌, ◌<◌, List, [], ◌∷◌, ◌++◌, length, refl, sym, ◌∙◌, ap, Some, None, true, false, cond, subst, append_assoc, append-nil, ◌⊎◌, inl, inr}
use Rattle.std.specs.Prelude.{slice_get}
use Rattle.std.specs.Str.{bytes_eq}
use Rattle.std.proofs.lemmas.Slice.Eq.{bytes_eq-Decides}
use Rattle.nest_lang.specs.declared.tree.Place.{Place}
use Rattle.nest_lang.specs.declared.tree.Place.TheVariants as place
use Rattle.nest_lang.specs.declared.tree.Expr.{Expr}
use Rattle.nest_lang.specs.declared.tree.Stmt.{Stmt}
use Rattle.nest_lang.specs.declared.tree.Stmt.TheVariants.{Let, Set, Store, If}
use Rattle.nest_tokens.specs.declared.token.Name.{Name}
use Rattle.nest_tokens.specs.declared.token.Mark.TheVariants as mark
use Rattle.nest_tokens.specs.declared.token.Token.TheVariants as token
use Rattle.nest_tokens.specs.declared.token.Spot.{Spot}
use Rattle.nest_grammar.specs.declared.file.Declared.{Declared}
use Rattle.nest_grammar.specs.Limits.{most_lets, most_accesses}
use Rattle.nest_tokens.specs.Ahead.{first, rest}
use Rattle.nest_grammar.specs.Sights.{Sight, here, skip, opens, numbered, bound, Sees}
use Rattle.nest_grammar.specs.Names.{Names, declared, place_of}
use Rattle.nest_grammar.specs.Grammar.{Precedence, Is, number, variable, minus, parens, load, factor, product, summand, addition, side, comparison, AccessRoom, IsExpression, IsStmt, let_, set, store, when, either, IsBraced, braced, IsList, none, more}
use Rattle.canonical.specs.Pieces.{Piece, Space, Newline, plain, spaced, line}
use Rattle.canonical.specs.Labels.{Labels, label, name_or_none}
use Rattle.canonical.specs.Expressions.{expression_of}
use Rattle.canonical.specs.Statements.{let_line, set_line, store_line, if_line, else_line, close_line, statement_of, statement_lines, otherwise}
use Rattle.canonical.proofs.StatementEquationLaws.{statement-let, statement-set, statement-store, statement-if, otherwise-some, lines-last}
use Rattle.canonical.proofs.TokenWalkLaws.{Walks, walks-append, Counts, counts}
use Rattle.canonical.proofs.ExpressionAgainLaws.{Agrees, expression-again, one_opened, one_access}

-- one list begins with the other
abbrev pub Extends : List Name → List Name → Type 0
Extends xs ys = (k : List Name) × (ys ≡ xs ++ k)

pub extends-self : (xs : List Name) → Extends xs xs
extends-self xs = ([], sym (append-nil xs))

pub extends-through : (xs ys zs : List Name) → Extends xs ys → Extends ys zs → Extends xs zs
extends-through xs ys zs h k = (h.0 ++ k.0, k.1 ∙ ap (λ (l : List Name). l ++ k.0) h.1 ∙ append_assoc xs h.0 k.0)

-- an expression declares nothing
pub lets-kept : (names : Names) {p : Precedence} {d : ℕ} {s : Sight} {e : Expr} {t : Sight} → Is names p d s e t → t.lets ≡ s.lets
unfolding skip
lets-kept names (number h r) = refl
lets-kept names (variable h k r) = refl
lets-kept names (minus h r i) = lets-kept names i
lets-kept names (parens h r i k q) = lets-kept names i
lets-kept names (load h a r i k q) = lets-kept names i
lets-kept names (factor i) = lets-kept names i
lets-kept names (product i k r j) = lets-kept names j ∙ lets-kept names i
lets-kept names (summand i) = lets-kept names i
lets-kept names (addition i k r j) = lets-kept names j ∙ lets-kept names i
lets-kept names (side i) = lets-kept names i
lets-kept names (comparison i k r j) = lets-kept names j ∙ lets-kept names i

pub extends-by : (xs ys : List Name) → ys ≡ xs → Extends xs ys
extends-by xs ys h = ([], h ∙ sym (append-nil xs))

mutual
  unfolding skip

  pub statement-grows : {d : ℕ} {names : Names} {s : Sight} {st : Stmt} {ns : Names} {t : Sight} → IsStmt d names s st ns t → Extends s.lets t.lets
  statement-grows (let_ {d} {names} {n} {e} {s} {t} {u} h r k f q g i) = (n ∷ [], lets-kept names i ∙ ap (λ (x : Sight). x.lets) q)
  statement-grows (set {d} {k} {names} {n} {e} {s} {t} h f g i) = extends-by s.lets t.lets (lets-kept names i)
  statement-grows (store {d} {names} {a} {e} {s} {t} {u} h r i g k j) = extends-by s.lets u.lets (lets-kept names j ∙ lets-kept names i)
  statement-grows (when {d} {names} {e} {xs} {s} {t} {u} h i b) = extends-through s.lets t.lets u.lets (extends-by s.lets t.lets (lets-kept names i)) (braced-grows b)
  statement-grows (either {d} {names} {e} {xs} {ys} {s} {t} {u} {v} h i b k c) = extends-through s.lets u.lets v.lets (extends-through s.lets t.lets u.lets (extends-by s.lets t.lets (lets-kept names i)) (braced-grows b)) (braced-grows c)

  pub braced-grows : {d : ℕ} {names : Names} {s : Sight} {xs : List Stmt} {t : Sight} → IsBraced d names s xs t → Extends s.lets t.lets
  braced-grows (braced h i k) = list-grows i

  pub list-grows : {d : ℕ} {names : Names} {s : Sight} {xs : List Stmt} {ns : Names} {t : Sight} → IsList d names s xs ns t → Extends s.lets t.lets
  list-grows (none {d} {names} {s}) = extends-self s.lets
  list-grows (more {d} {names} {ms} {ns} {xs} {st} {s} {t} {u} i j) = extends-through s.lets t.lets u.lets (list-grows i) (statement-grows j)

slice-last : (xs k : List Name) (n : Name) → slice_get ((xs ++ n ∷ []) ++ k) (length xs) ≡ Some n
slice-last [] k n = refl
slice-last (x ∷ xs) k n = slice-last xs k n

pub local-label : (l : Labels) (xs : List Name) (n : Name) → Extends (xs ++ n ∷ []) l.lets → label l (place.Local (length xs)) ≡ n
unfolding label
local-label l xs n h = rw h.1 (ap name_or_none (slice-last xs h.0 n))

-- what stands for a name behind one more declaration
place-more : (names : Names) (x : Declared) (n : Name) (p : Place) → place_of (names ++ x ∷ []) n ≡ Some p → (place_of names n ≡ Some p) ⊎ ((x.name ≡ n) × (x.place ≡ p))
unfolding place_of
place-more [] x n p h =
    elim (bytes_eq x.name.bytes n.bytes) as (λ b. bytes_eq x.name.bytes n.bytes ≡ b → cond b (Some x.place) None ≡ Some p → (place_of [] n ≡ Some p) ⊎ ((x.name ≡ n) × (x.place ≡ p))) [
      | true ↦ λ e k. (let q : x.place ≡ p = cc in inr (ap (λ (l : List ℕ). record { bytes = l }) ((bytes_eq-Decides x.name.bytes n.bytes).0 e), q))
      | false ↦ λ e k. absurd (cc)
    ] refl h
place-more (y ∷ names) x n p h =
    elim (bytes_eq y.name.bytes n.bytes) as (λ b. bytes_eq y.name.bytes n.bytes ≡ b → cond b (Some y.place) (place_of (names ++ x ∷ []) n) ≡ Some p → (cond b (Some y.place) (place_of names n) ≡ Some p) ⊎ ((x.name ≡ n) × (x.place ≡ p))) [
      | true ↦ λ e k. inl k
      | false ↦ λ e k. place-more names x n p k
    ] refl h

pub agrees-more : (names : Names) (x : Declared) (l : Labels) → Agrees names l → label l x.place ≡ x.name → Agrees (names ++ x ∷ []) l
agrees-more names x l agree h n p k = elim (place-more names x n p k) [
  | inl q ↦ agree n p q
  | inr q ↦ ap (label l) (sym q.1) ∙ h ∙ q.0
]

abbrev one-local : Name → Counts → Counts
one-local n c = record { version = c.version; opened = c.opened; accesses = c.accesses; lets = c.lets ++ n ∷ [] }

-- a statement is read up to these spots, with these counters then
abbrev pub StatementArrives : ℕ → Names → Sight → Stmt → Names → List Spot → Counts → Type 0
StatementArrives d names s st ns m c = (t : Sight) × IsStmt d names s st ns t × (t.size ≡ s.size) × (t.left ≡ m) × (counts t ≡ c)

abbrev pub ListArrives : ℕ → Names → Sight → List Stmt → Names → List Spot → Counts → Type 0
ListArrives d names s xs ns m c = (t : Sight) × IsList d names s xs ns t × (t.size ≡ s.size) × (t.left ≡ m) × (counts t ≡ c)

let-again : (l : Labels) (d : ℕ) (names : Names) (n : Name) (e : Expr) (s u : Sight) → Agrees names l → label l (place.Local (length s.lets)) ≡ n → length s.lets < most_lets → place_of names n ≡ None → IsExpression names (skip (bound n (skip (skip s)))) e u → (depth : ℕ) (s2 : Sight) (m : List Spot) → counts s2 ≡ counts s → Walks (line depth (let_line l (length s.lets) e)) s2.size s2.left m → StatementArrives d names s2 (Let (length s.lets) e) (names ++ declared n (place.Local (length s.lets)) ∷ []) m (counts u)
unfolding skip here line let_line
let-again l d names n e s u agree lab r f i depth s2 m c w =
    let t2 : Sight = bound n (skip (skip s2)) in
    let q = walks-append (expression_of l e) (Newline ∷ []) s2.size (rest (rest (rest s2.left))) m w.1.1.1 in
    let y = expression-again l names agree (skip (bound n (skip (skip s)))) e u i (skip t2) q.0 (ap (one-local n) c) q.1 in
    let k : s2.lets ≡ s.lets = ap (λ (x : Counts). x.lets) c in
    let j : IsStmt d names s2 (Let (length s2.lets) e) (names ++ declared n (place.Local (length s2.lets)) ∷ []) y.0 = let_ w.0 (rw k r) (w.1.0 ∙ ap token.Name lab) f refl w.1.1.0 y.1 in
    (y.0, subst (λ (xs : List Name). IsStmt d names s2 (Let (length xs) e) (names ++ declared n (place.Local (length xs)) ∷ []) y.0) k j, y.2, y.3 ∙ sym q.2, y.4)

set-again : (l : Labels) (d k : ℕ) (names : Names) (n : Name) (e : Expr) (s t : Sight) → Agrees names l → place_of names n ≡ Some (place.Scalar k) → IsExpression names (skip (skip s)) e t → (depth : ℕ) (s2 : Sight) (m : List Spot) → counts s2 ≡ counts s → Walks (line depth (set_line l k e)) s2.size s2.left m → StatementArrives d names s2 (Set k e) names m (counts t)
unfolding skip here line set_line
set-again l d k names n e s t agree f i depth s2 m c w =
    let q = walks-append (expression_of l e) (Newline ∷ []) s2.size (rest (rest s2.left)) m w.1.1 in
    let y = expression-again l names agree (skip (skip s)) e t i (skip (skip s2)) q.0 c q.1 in
    (y.0, set (w.0 ∙ ap token.Name (agree n (place.Scalar k) f)) f w.1.0 y.1, y.2, y.3 ∙ sym q.2, y.4)

store-again : (l : Labels) (d : ℕ) (names : Names) (a e : Expr) (s t u : Sight) → Agrees names l → AccessRoom s → IsExpression names (skip (opens s)) a t → IsExpression names (skip (skip t)) e u → (depth : ℕ) (s2 : Sight) (m : List Spot) → counts s2 ≡ counts s → Walks (line depth (store_line l a e)) s2.size s2.left m → StatementArrives d names s2 (Store (u.accesses + 1) a e) names m (counts (numbered u))
unfolding skip here line store_line
store-again l d names a e s t u agree r i j depth s2 m c w =
    let q = walks-append ((expression_of l a ++ plain mark.CloseBracket ∷ spaced mark.Assign) ++ expression_of l e) (Newline ∷ []) s2.size (rest s2.left) m w.1 in
    let q1 = walks-append (expression_of l a ++ plain mark.CloseBracket ∷ spaced mark.Assign) (expression_of l e) s2.size (rest s2.left) q.0 q.1 in
    let q2 = walks-append (expression_of l a) (plain mark.CloseBracket ∷ spaced mark.Assign) s2.size (rest s2.left) q1.0 q1.1 in
    let y = expression-again l names agree (skip (opens s)) a t i (skip (opens s2)) q2.0 (ap one_opened c) q2.1 in
    let t2 = y.0 in
    let z : (first t2.size t2.left).token ≡ token.Plain mark.CloseBracket = rw (y.2, y.3) q2.2.0 in
    let z2 : (first t2.size (rest t2.left)).token ≡ token.Plain mark.Assign = rw (y.2, y.3) q2.2.1.0 in
    let lft : rest (rest t2.left) ≡ q1.0 = ap (λ x. rest (rest x)) y.3 ∙ sym q2.2.1.1 in
    let w3 : Walks (expression_of l e) t2.size (rest (rest t2.left)) q.0 = rw (lft, y.2) q1.2 in
    let x = expression-again l names agree (skip (skip t)) e u j (skip (skip t2)) q.0 y.4 w3 in
    let n : x.0.accesses ≡ u.accesses = ap (λ (k : Counts). k.accesses) x.4 in
    let o : IsStmt d names s2 (Store (x.0.accesses + 1) a e) names (numbered x.0) = store w.0 (subst (λ (k : Counts). k.opened < most_accesses k.version) (sym c) r) y.1 z z2 x.1 in
    (numbered x.0, subst (λ (k : ℕ). IsStmt d names s2 (Store (k + 1) a e) names (numbered x.0)) n o, x.2 ∙ y.2, x.3 ∙ sym q.2, ap one_access x.4)

abbrev pub StatementClaim : Labels → ℕ → Names → Stmt → Names → Counts → Counts → Type 0
StatementClaim l d names st ns a b = (depth : ℕ) (s2 : Sight) (m : List Spot) → counts s2 ≡ a → Walks (statement_of l st depth) s2.size s2.left m → StatementArrives d names s2 st ns m b

abbrev pub ListClaim : Labels → ℕ → Names → List Stmt → Names → Counts → Counts → Type 0
ListClaim l d names xs ns a b = (depth : ℕ) (s2 : Sight) (m : List Spot) → counts s2 ≡ a → Walks (statement_lines l xs depth) s2.size s2.left m → ListArrives d names s2 xs ns m b

-- statements between braces
abbrev pub InnerClaim : Labels → ℕ → Names → List Stmt → Counts → Counts → Type 0
InnerClaim l d names xs a b = (ns : Names) × ListClaim l d names xs ns a b

-- what an `if` line and the statements behind it give
record Opened (l : Labels) (d : ℕ) (names : Names) (e : Expr) (xs : List Stmt) (s2 : Sight) (m : List Spot) (b : Counts) : Type 0 where
  t : Sight
  ns : Names
  u : Sight
  begins : Sees mark.If s2
  is : IsExpression names (skip s2) e t
  opens-at : Sees mark.OpenBrace t
  list : IsList d names (skip t) xs ns u
  size : u.size ≡ s2.size
  left : u.left ≡ m
  counted : counts u ≡ b

opened-again : (l : Labels) (d : ℕ) (names : Names) (e : Expr) (xs : List Stmt) (s t : Sight) (b : Counts) → Agrees names l → IsExpression names (skip s) e t → InnerClaim l d names xs (counts t) b → (depth : ℕ) (s2 : Sight) (m : List Spot) → counts s2 ≡ counts s → Walks (line depth (if_line l e) ++ statement_lines l xs (depth + 1)) s2.size s2.left m → Opened l d names e xs s2 m b
unfolding skip here line if_line
opened-again l d names e xs s t b agree i inner depth s2 m c w =
    let q3 = walks-append (line depth (if_line l e)) (statement_lines l xs (depth + 1)) s2.size s2.left m w in
    let q4 = walks-append (expression_of l e ++ Space ∷ plain mark.OpenBrace ∷ []) (Newline ∷ []) s2.size (rest s2.left) q3.0 q3.1.1 in
    let q5 = walks-append (expression_of l e) (Space ∷ plain mark.OpenBrace ∷ []) s2.size (rest s2.left) q4.0 q4.1 in
    let y = expression-again l names agree (skip s) e t i (skip s2) q5.0 c q5.1 in
    let t2 = y.0 in
    let lft : rest t2.left ≡ q3.0 = ap rest y.3 ∙ (sym q5.2.1 ∙ sym q4.2) in
    let w3 : Walks (statement_lines l xs (depth + 1)) t2.size (rest t2.left) m = rw (lft, y.2) q3.2 in
    let z : (first t2.size t2.left).token ≡ token.Plain mark.OpenBrace = rw (y.2, y.3) q5.2.0 in
    let x = inner.1 (depth + 1) (skip t2) m y.4 w3 in
    record {
      t = t2;
      ns = inner.0;
      u = x.0;
      begins = q3.1.0;
      is = y.1;
      opens-at = z;
      list = x.1;
      size = x.2 ∙ y.2;
      left = x.3;
      counted = x.4;
    }

when-again : (l : Labels) (d : ℕ) (names : Names) (e : Expr) (xs : List Stmt) (s t : Sight) (b : Counts) → Agrees names l → IsExpression names (skip s) e t → InnerClaim l d names xs (counts t) b → StatementClaim l (suc d) names (If e xs []) names (counts s) b
unfolding skip here line otherwise
when-again l d names e xs s t b agree i inner depth s2 m c w =
    let w0 = subst (λ (ps : List Piece). Walks ps s2.size s2.left m) (statement-if l e xs [] depth) w in
    let q1 = walks-append ((line depth (if_line l e) ++ statement_lines l xs (depth + 1)) ++ otherwise l [] depth) (line depth close_line) s2.size s2.left m w0 in
    let q2 = walks-append (line depth (if_line l e) ++ statement_lines l xs (depth + 1)) (otherwise l [] depth) s2.size s2.left q1.0 q1.1 in
    let o = opened-again l d names e xs s t b agree i inner depth s2 q2.0 c q2.1 in
    let k : o.u.left ≡ q1.0 = o.left ∙ sym q2.2 in
    let z : (first o.u.size o.u.left).token ≡ token.Plain mark.CloseBrace = rw (k, o.size) q1.2.0 in
    (skip o.u, when o.begins o.is (braced o.opens-at o.list z), o.size, ap rest k ∙ sym q1.2.1, o.counted)

either-again : (l : Labels) (d : ℕ) (names : Names) (e : Expr) (xs : List Stmt) (y : Stmt) (ys : List Stmt) (s t : Sight) (a b : Counts) → Agrees names l → IsExpression names (skip s) e t → InnerClaim l d names xs (counts t) a → InnerClaim l d names (y ∷ ys) a b → StatementClaim l (suc d) names (If e xs (y ∷ ys)) names (counts s) b
unfolding skip here line
either-again l d names e xs y ys s t a b agree i inner inner2 depth s2 m c w =
    let w0 = subst (λ (ps : List Piece). Walks ps s2.size s2.left m) (statement-if l e xs (y ∷ ys) depth) w in
    let q1 = walks-append ((line depth (if_line l e) ++ statement_lines l xs (depth + 1)) ++ otherwise l (y ∷ ys) depth) (line depth close_line) s2.size s2.left m w0 in
    let q2 = walks-append (line depth (if_line l e) ++ statement_lines l xs (depth + 1)) (otherwise l (y ∷ ys) depth) s2.size s2.left q1.0 q1.1 in
    let o = opened-again l d names e xs s t a agree i inner depth s2 q2.0 c q2.1 in
    let w5 = subst (λ (ps : List Piece). Walks ps s2.size q2.0 q1.0) (otherwise-some l y ys depth) q2.2 in
    let q6 = walks-append (line depth else_line) (statement_lines l (y ∷ ys) (depth + 1)) s2.size q2.0 q1.0 w5 in
    let z1 : (first o.u.size o.u.left).token ≡ token.Plain mark.CloseBrace = rw (o.size, o.left) q6.1.0 in
    let z2 : (first o.u.size (rest o.u.left)).token ≡ token.Plain mark.Else = rw (o.size, o.left) q6.1.1.0 in
    let z3 : (first o.u.size (rest (rest o.u.left))).token ≡ token.Plain mark.OpenBrace = rw (o.size, o.left) q6.1.1.1.0 in
    let lft : rest (rest (rest o.u.left)) ≡ q6.0 = ap (λ x. rest (rest (rest x))) o.left ∙ sym q6.1.1.1.1 in
    let w6 : Walks (statement_lines l (y ∷ ys) (depth + 1)) o.u.size (rest (rest (rest o.u.left))) q1.0 = rw (lft, o.size) q6.2 in
    let x = inner2.1 (depth + 1) (skip (skip (skip o.u))) q1.0 o.counted w6 in
    let z4 : (first x.0.size x.0.left).token ≡ token.Plain mark.CloseBrace = rw (x.3, x.2, o.size) q1.2.0 in
    (skip x.0, either o.begins o.is (braced o.opens-at o.list z1) z2 (braced z3 x.1 z4), x.2 ∙ o.size, ap rest x.3 ∙ sym q1.2.1, x.4)

snoc-some : (xs : List Stmt) (st : Stmt) → xs ++ st ∷ [] ≡ [] → ⊥
snoc-some [] st h = absurd (cc)
snoc-some (x ∷ xs) st h = absurd (cc)

list-nothing : {d : ℕ} {names : Names} {s : Sight} {xs : List Stmt} {ns : Names} {t : Sight} → IsList d names s xs ns t → xs ≡ [] → counts t ≡ counts s
list-nothing (none {d} {names} {s}) h = refl
list-nothing (more {d} {names} {ms} {ns} {xs} {st} {s} {t} {u} i j) h = absurd (snoc-some xs st h)

braced-nothing : {d : ℕ} {names : Names} {s : Sight} {xs : List Stmt} {t : Sight} → IsBraced d names s xs t → xs ≡ [] → counts t ≡ counts s
unfolding skip
braced-nothing (braced h i k) e = list-nothing i e

-- whether the second branch has a statement or not
if-again : (l : Labels) (d : ℕ) (names : Names) (e : Expr) (xs ys : List Stmt) (s t u v : Sight) → Agrees names l → IsExpression names (skip s) e t → InnerClaim l d names xs (counts t) (counts u) → IsBraced d names (skip u) ys v → InnerClaim l d names ys (counts u) (counts v) → StatementClaim l (suc d) names (If e xs ys) names (counts s) (counts v)
unfolding skip
if-again l d names e xs [] s t u v agree i inner b inner2 =
    let h : counts v ≡ counts u = braced-nothing b refl in
    subst (λ (k : Counts). StatementClaim l (suc d) names (If e xs []) names (counts s) k) (sym h) (when-again l d names e xs s t (counts u) agree i inner)
if-again l d names e xs (y ∷ ys) s t u v agree i inner b inner2 = either-again l d names e xs y ys s t (counts u) (counts v) agree i inner inner2

list-one-more : (l : Labels) (d : ℕ) (names ms ns : Names) (xs : List Stmt) (st : Stmt) (a b c : Counts) → ListClaim l d names xs ms a b → StatementClaim l d ms st ns b c → ListClaim l d names (xs ++ st ∷ []) ns a c
list-one-more l d names ms ns xs st a b c f g depth s2 m k w =
    let w0 = subst (λ (ps : List Piece). Walks ps s2.size s2.left m) (lines-last l xs st depth) w in
    let q = walks-append (statement_lines l xs depth) (statement_of l st depth) s2.size s2.left m w0 in
    let y = f depth s2 q.0 k q.1 in
    let t = y.0 in
    let w1 : Walks (statement_of l st depth) t.size t.left m = rw (y.3, y.2) q.2 in
    let x = g depth t m y.4 w1 in
    (x.0, more y.1 x.1, x.2 ∙ y.2, x.3, x.4)

mutual
  unfolding skip statement_lines

  pub statement-again : (l : Labels) {d : ℕ} {names : Names} {s : Sight} {st : Stmt} {ns : Names} {t : Sight} → IsStmt d names s st ns t → Agrees names l → Extends t.lets l.lets → Agrees ns l × StatementClaim l d names st ns (counts s) (counts t)
  statement-again l (let_ {d} {names} {n} {e} {s} {t} {u} h r k f q g i) agree ext =
      let j : IsExpression names (skip (bound n (skip (skip s)))) e u = subst (λ (x : Sight). IsExpression names (skip x) e u) q i in
      let grown : Extends (s.lets ++ n ∷ []) l.lets = extends-through (s.lets ++ n ∷ []) u.lets l.lets (extends-by (s.lets ++ n ∷ []) u.lets (lets-kept names j)) ext in
      let lab : label l (place.Local (length s.lets)) ≡ n = local-label l s.lets n grown in (
        agrees-more names (declared n (place.Local (length s.lets))) l agree lab,
        λ depth s2 m c w. let-again l d names n e s u agree lab r f j depth s2 m c (subst (λ (ps : List Piece). Walks ps s2.size s2.left m) (statement-let l (length s.lets) e depth) w),
      )
  statement-again l (set {d} {k} {names} {n} {e} {s} {t} h f g i) agree ext =
      (agree, λ depth s2 m c w. set-again l d k names n e s t agree f i depth s2 m c (subst (λ (ps : List Piece). Walks ps s2.size s2.left m) (statement-set l k e depth) w))
  statement-again l (store {d} {names} {a} {e} {s} {t} {u} h r i g k j) agree ext =
      (agree, λ depth s2 m c w. store-again l d names a e s t u agree r i j depth s2 m c (subst (λ (ps : List Piece). Walks ps s2.size s2.left m) (statement-store l (u.accesses + 1) a e depth) w))
  statement-again l (when {d} {names} {e} {xs} {s} {t} {u} h i b) agree ext = (agree, when-again l d names e xs s t (counts u) agree i (braced-again l b agree ext))
  statement-again l (either {d} {names} {e} {xs} {ys} {s} {t} {u} {v} h i b k c) agree ext =
      (agree, if-again l d names e xs ys s t u v agree i (braced-again l b agree (extends-through u.lets v.lets l.lets (braced-grows c) ext)) c (braced-again l c agree ext))

  pub braced-again : (l : Labels) {d : ℕ} {names : Names} {s : Sight} {xs : List Stmt} {t : Sight} → IsBraced d names s xs t → Agrees names l → Extends t.lets l.lets → InnerClaim l d names xs (counts s) (counts t)
  braced-again l (braced {d} {names} {ns} {xs} {s} {t} h i k) agree ext = (ns, (list-again l i agree ext).1)

  pub list-again : (l : Labels) {d : ℕ} {names : Names} {s : Sight} {xs : List Stmt} {ns : Names} {t : Sight} → IsList d names s xs ns t → Agrees names l → Extends t.lets l.lets → Agrees ns l × ListClaim l d names xs ns (counts s) (counts t)
  list-again l (none {d} {names} {s}) agree ext = (agree, λ depth s2 m c w. (s2, none, refl, sym w, c))
  list-again l (more {d} {names} {ms} {ns} {xs} {st} {s} {t} {u} i j) agree ext =
      let f = list-again l i agree (extends-through t.lets u.lets l.lets (statement-grows j) ext) in
      let g = statement-again l j f.0 ext in
      (g.0, list-one-more l d names ms ns xs st (counts s) (counts t) (counts u) f.1 g.1)
