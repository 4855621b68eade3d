-- Accesses: of a block as many are numbered as were begun, but for those that are still open.
use Rattle.std.proofs.Common.{◌≡◌, ℕ, zero, suc, ◌+◌, ◌≤◌, List, [], ◌∷◌, ◌++◌, length, refl, arith, Option, Some, None, Ok, Bool, true, false, cond, nat_lt, if◌then◌else◌}
use Rattle.nest_lang.specs.declared.tree.Place.{Place}
use Rattle.nest_lang.specs.declared.tree.Place.TheVariants as place
use Rattle.nest_lang.specs.declared.tree.Op.{Op}
use Rattle.nest_lang.specs.declared.tree.Expr.{Expr}
use Rattle.nest_lang.specs.declared.tree.Expr.TheVariants.{Load}
use Rattle.nest_lang.specs.declared.tree.Stmt.{Stmt}
use Rattle.nest_lang.specs.declared.tree.Stmt.TheVariants.{Let, Set, Store}
use Rattle.nest_tokens.specs.declared.token.Name.{Name}
use Rattle.nest_tokens.specs.declared.token.Mark.{Mark}
use Rattle.nest_tokens.specs.declared.token.Mark.TheVariants as mark
use Rattle.nest_tokens.specs.declared.token.Token.{Token}
use Rattle.nest_tokens.specs.declared.token.Token.TheVariants as token
use Rattle.nest_tokens.specs.Tokens.{is_mark}
use Rattle.nest_grammar.specs.declared.fault.TextKind.{TextKind}
use Rattle.nest_grammar.specs.declared.fault.TextKind.TheVariants as kind
use Rattle.nest_grammar.specs.declared.opening.Start.{Start}
use Rattle.nest_grammar.specs.declared.opening.Start.TheVariants as start
use Rattle.nest_grammar.specs.declared.opening.Opening.{Opening}
use Rattle.nest_grammar.specs.declared.opening.Opening.TheVariants as opening
use Rattle.nest_grammar.specs.Limits.{most_tokens, most_open, most_accesses, most_lets}
use Rattle.nest_grammar.specs.Sights.{Sight, stands, skip, spend, afresh, opens, numbered, bound}
use Rattle.nest_grammar.specs.Readings.{Reading, ◌>>=◌, gives, refused, wrong, skipped, need, obeys, fewer, more_at, more, many}
use Rattle.nest_grammar.specs.Names.{Names, declared, place_of, unless_known, fresh_at, fresh, if_scalar, target}
use Rattle.nest_grammar.specs.Expressions.{start_of, product_of, addition_of, comparison_of, taken, closed, access, access_number, if_visible, operand, operated, parts, compared_at, compared, unary, term, sum, expr, expression}
use Rattle.nest_grammar.specs.Statements.{opening_of, local_room, local_number, braced, else_at, else_of, branches, statement, another, listed, statements}
use Rattle.nest_grammar.proofs.PartAfterPartLaws.{bind-ok}

-- where i at least were open before the reading, j at least are open behind it
abbrev pub Open : ℕ → ℕ → {A : Type 0} → Reading A → Type 0
Open i j {A} r = (s : Sight) (x : A × Sight) → r s ≡ Ok x → s.accesses + i ≤ s.opened → x.1.accesses + j ≤ x.1.opened

-- A reading keeps the accesses: as many are open behind it as before.
abbrev pub Keeps : {A : Type 0} → Reading A → Type 0
Keeps r = (i : ℕ) → Open i i r

open-then : {A B : Type 0} (i j k : ℕ) {r : Reading A} {f : A → Reading B} → Open i j r → ((a : A) → Open j k (f a)) → Open i k (r >>= f)
open-then i j k {r} {f} h hf s y e le = let x = bind-ok (r s) f y e in hf x.0.0 x.0.1 y x.2 (h s x.0 x.1 le)

-- one reading behind another
keeps : {A B : Type 0} {r : Reading A} {f : A → Reading B} → Keeps r → ((a : A) → Keeps (f a)) → Keeps (r >>= f)
keeps h hf i = open-then i i i (h i) (λ a. hf a i)

-- only other things are counted
keeps-counts : {A : Type 0} (a : A) (g : Sight → Sight) → ((s : Sight) → (g s).accesses ≡ s.accesses) → ((s : Sight) → (g s).opened ≡ s.opened) → Keeps (λ s. Ok (a, g s))
keeps-counts a g p q i s x e le = let k : x ≡ (a, g s) = cc in rw (k, p s, q s) le

pub keeps-gives : {A : Type 0} (a : A) → Keeps (gives a)
keeps-gives a i s x e le = let k : x ≡ (a, s) = cc in rw k le

pub keeps-refused : {A : Type 0} (what : TextKind) → Keeps (refused {A = A} what)
unfolding refused
keeps-refused what i s x e le = absurd (cc)

pub keeps-wrong : {A : Type 0} → Keeps (wrong {A = A})
unfolding refused
keeps-wrong i s x e le = absurd (cc)

pub keeps-skipped : Keeps skipped
unfolding skip
keeps-skipped = keeps-counts tt skip (λ s. refl) (λ s. refl)

-- by anything that the sight shows
keeps-by : {A S : Type 0} (f : Sight → S) (go : S → Reading A) → ((x : S) → Keeps (go x)) → Keeps (λ s. go (f s) s)
keeps-by f go h i s = h (f s) i s

keeps-if : {A : Type 0} (b : Bool) (p q : Reading A) → Keeps p → Keeps q → Keeps (λ s. if b then p s else q s)
keeps-if true p q hp hq = hp
keeps-if false p q hp hq = hq

keeps-more : {A B : Type 0} (n : ℕ) (begins : Token → Option B) (part : B → A → Reading A) → ((b : B) (a : A) → Keeps (part b a)) → (a : A) → Keeps (more n begins part a)
unfolding more
keeps-more zero begins part h a = keeps-gives a
keeps-more (suc n) begins part h a = keeps-by (λ s. begins (stands s)) (more_at part (more n begins part) a) (λ o. elim o as (λ o. Keeps (more_at part (more n begins part) a o)) [
  | None ↦ keeps-gives a
  | Some b ↦ keeps (h b a) (λ c. keeps-more n begins part h c)
])

-- part after part
pub keeps-many : {A B : Type 0} (begins : Token → Option B) (part : B → A → Reading A) → ((b : B) (a : A) → Keeps (part b a)) → (a : A) → Keeps (many begins part a)
unfolding many
keeps-many begins part h a = keeps-by (λ s. length s.left) (λ n. more n begins part a) (λ n. keeps-more n begins part h a)

pub keeps-need : (m : Mark) → Keeps (need m)
unfolding need
keeps-need m = keeps-by stands (λ t s. if is_mark m t then Ok (tt, skip s) else wrong s) (λ t. keeps-if (is_mark m t) skipped wrong keeps-skipped keeps-wrong)

pub keeps-obeys : (rule : Bool) (what : TextKind) → Keeps (obeys rule what)
unfolding obeys
keeps-obeys rule what = keeps-if rule (gives tt) (refused what) (keeps-gives tt) (keeps-refused what)

-- Names

keeps-unless_known : (n : Name) (o : Option Place) → Keeps (unless_known n o)
keeps-unless_known n None = keeps keeps-skipped (λ _. keeps-gives n)
keeps-unless_known n (Some p) = keeps-refused kind.Known

keeps-fresh_at : (names : Names) (t : Token) → Keeps (fresh_at names t)
keeps-fresh_at names (token.Name n) = keeps-unless_known n (place_of names n)
keeps-fresh_at names _ = keeps-wrong

pub keeps-fresh : (names : Names) → Keeps (fresh names)
unfolding fresh
keeps-fresh names = keeps-by stands (fresh_at names) (keeps-fresh_at names)

keeps-if_scalar : (o : Option Place) → Keeps (if_scalar o)
keeps-if_scalar (Some (place.Scalar k)) = keeps keeps-skipped (λ _. keeps-gives k)
keeps-if_scalar (Some _) = keeps-refused kind.Fixed
keeps-if_scalar None = keeps-refused kind.Unknown

pub keeps-target : (names : Names) (n : Name) → Keeps (target names n)
unfolding target
keeps-target names n = keeps-if_scalar (place_of names n)

-- Expressions

pub keeps-taken : Keeps taken
unfolding taken skip
keeps-taken = keeps-by (λ s. nat_lt s.spent most_tokens) (λ b s. if b then Ok (tt, spend s) else refused kind.Deep s) (λ b. keeps-if b (λ s. Ok (tt, spend s)) (refused kind.Deep) (keeps-counts tt spend (λ s. refl) (λ s. refl)) (keeps-refused kind.Deep))

pub keeps-closed : (m : Mark) → Keeps (closed m)
unfolding closed
keeps-closed m = keeps-by stands (λ t s. if is_mark m t then taken s else wrong s) (λ t. keeps-if (is_mark m t) taken wrong keeps-taken keeps-wrong)

-- one more is open
pub open-access : (i : ℕ) → Open i (suc i) access
unfolding access refused
open-access i s x e le = elim (nat_lt s.opened (most_accesses s.version)) as (λ b. cond b (Ok (tt, opens s)) (refused kind.Many s) ≡ Ok x → x.1.accesses + suc i ≤ x.1.opened) [
  | true ↦ λ k. (let q : x ≡ (tt, opens s) = cc in rw q (omega arith))
  | false ↦ λ k. absurd (cc)
] e

-- one less is open
pub open-access_number : (i : ℕ) → Open (suc i) i access_number
open-access_number i s x e le = let q : x ≡ (s.accesses + 1, numbered s) = cc in rw q (omega arith)

keeps-if_visible : (o : Option Place) → Keeps (if_visible o)
keeps-if_visible (Some p) = keeps keeps-taken (λ _. keeps-gives _)
keeps-if_visible None = keeps-refused kind.Unknown

keeps-operand : (names : Names) (u e : Reading Expr) → Keeps u → Keeps e → (st : Start) → Keeps (operand names u e st)
keeps-operand names u e hu he (start.Number n) i = keeps keeps-taken (λ _. keeps-gives _) i
keeps-operand names u e hu he (start.Name n) i = keeps-if_visible (place_of names n) i
keeps-operand names u e hu he start.Minus i = keeps hu (λ a. keeps-gives _) i
keeps-operand names u e hu he start.Open i = keeps he (λ a. keeps (keeps-closed mark.Close) (λ _. keeps-gives a)) i
keeps-operand names u e hu he start.Bracket i = open-then i (suc i) i (open-access i) (λ _. open-then (suc i) (suc i) i (he (suc i)) (λ a. open-then (suc i) (suc i) i (keeps-closed mark.CloseBracket (suc i)) (λ _. open-then (suc i) i i (open-access_number i) (λ k. keeps-gives (Load k a) i))))
keeps-operand names u e hu he start.Other i = keeps-wrong i

keeps-operated : (part : Reading Expr) → Keeps part → (o : Op) (a : Expr) → Keeps (operated part o a)
keeps-operated part h o a = keeps keeps-taken (λ _. keeps h (λ b. keeps-gives _))

keeps-parts : (operator : Token → Option Op) (part : Reading Expr) → Keeps part → Keeps (parts operator part)
keeps-parts operator part h = keeps h (keeps-many operator (operated part) (keeps-operated part h))

keeps-compared_at : (part : Reading Expr) → Keeps part → (a : Expr) (o : Option Op) → Keeps (compared_at part a o)
keeps-compared_at part h a None = keeps-gives a
keeps-compared_at part h a (Some o) = keeps-operated part h o a

keeps-compared : (part : Reading Expr) → Keeps part → Keeps (compared part)
keeps-compared part h = keeps h (λ a. keeps-by stands (λ t. compared_at part a (comparison_of t)) (λ t. keeps-compared_at part h a (comparison_of t)))

pub keeps-unary : (names : Names) (d : ℕ) → Keeps (unary names d)
unfolding unary
keeps-unary names zero = keeps-by stands (λ t. operand names (refused kind.Deep) (refused kind.Deep) (start_of t)) (λ t. keeps-operand names (refused kind.Deep) (refused kind.Deep) (keeps-refused kind.Deep) (keeps-refused kind.Deep) (start_of t))
keeps-unary names (suc d) =
    let u : Keeps (unary names d) = keeps-unary names d in
    let e : Keeps (compared (parts addition_of (parts product_of (unary names d)))) = keeps-compared _ (keeps-parts addition_of (parts product_of (unary names d)) (keeps-parts product_of (unary names d) u)) in
    keeps-by stands (λ t. operand names (taken >>= λ _. unary names d) (taken >>= λ _. compared (parts addition_of (parts product_of (unary names d)))) (start_of t))
    (λ t. keeps-operand names (taken >>= λ _. unary names d) (taken >>= λ _. compared (parts addition_of (parts product_of (unary names d)))) (keeps keeps-taken (λ _. u)) (keeps keeps-taken (λ _. e)) (start_of t))

pub keeps-term : (names : Names) (d : ℕ) → Keeps (term names d)
unfolding term
keeps-term names d = keeps-parts product_of (unary names d) (keeps-unary names d)

pub keeps-sum : (names : Names) (d : ℕ) → Keeps (sum names d)
unfolding sum
keeps-sum names d = keeps-parts addition_of (term names d) (keeps-term names d)

pub keeps-expr : (names : Names) (d : ℕ) → Keeps (expr names d)
unfolding expr
keeps-expr names d = keeps-compared (sum names d) (keeps-sum names d)

pub keeps-expression : (names : Names) → Keeps (expression names)
unfolding expression
keeps-expression names i s = keeps-expr names most_open i (afresh s)

-- Statements

keeps-local_room : Keeps local_room
keeps-local_room = keeps-by (λ s. length s.lets) (λ c. fewer c most_lets) (λ c. keeps-obeys (nat_lt c most_lets) kind.Many)

keeps-local_number : (n : Name) → Keeps (local_number n)
keeps-local_number n = keeps-by (λ s. length s.lets) (λ c s. Ok (c, bound n s)) (λ c. keeps-counts c (bound n) (λ s. refl) (λ s. refl))

keeps-braced : (list : Reading (List Stmt)) → Keeps list → Keeps (braced list)
keeps-braced list h = keeps (keeps-need mark.OpenBrace) (λ _. keeps h (λ xs. keeps (keeps-need mark.CloseBrace) (λ _. keeps-gives xs)))

keeps-else_at : (list : Reading (List Stmt)) → Keeps list → (b : Bool) → Keeps (else_at list b)
keeps-else_at list h true = keeps keeps-skipped (λ _. keeps-braced list h)
keeps-else_at list h false = keeps-gives []

keeps-else_of : (list : Reading (List Stmt)) → Keeps list → Keeps (else_of list)
keeps-else_of list h = keeps-by stands (λ t. else_at list (is_mark mark.Else t)) (λ t. keeps-else_at list h (is_mark mark.Else t))

pub keeps-branches : (names : Names) (list : Reading (List Stmt)) → Keeps list → Keeps (branches names list)
keeps-branches names list h = keeps (keeps-expression names) (λ e. keeps (keeps-braced list h) (λ xs. keeps (keeps-else_of list h) (λ ys. keeps-gives _)))

pub keeps-statement : (branch : Reading Stmt) → Keeps branch → (names : Names) (o : Opening) → Keeps (statement branch names o)
keeps-statement branch h names opening.Let i = keeps keeps-local_room (λ _. keeps keeps-skipped (λ _. keeps (keeps-fresh names) (λ n. keeps (keeps-local_number n) (λ k. keeps (keeps-need mark.Assign) (λ _. keeps (keeps-expression names) (λ e. keeps-gives (Let k e, names ++ declared n (place.Local k) ∷ []))))))) i
keeps-statement branch h names (opening.Name n) i = keeps (keeps-target names n) (λ k. keeps (keeps-need mark.Assign) (λ _. keeps (keeps-expression names) (λ e. keeps-gives (Set k e, names)))) i
keeps-statement branch h names opening.Store i = open-then i (suc i) i (open-access i) (λ _. open-then (suc i) (suc i) i (keeps-skipped (suc i)) (λ _. open-then (suc i) (suc i) i (keeps-expression names (suc i)) (λ a. open-then (suc i) (suc i) i (keeps-need mark.CloseBracket (suc i)) (λ _. open-then (suc i) (suc i) i (keeps-need mark.Assign (suc i)) (λ _. open-then (suc i) (suc i) i (keeps-expression names (suc i)) (λ e. open-then (suc i) i i (open-access_number i) (λ k. keeps-gives (Store k a e, names) i)))))))
keeps-statement branch h names opening.If i = keeps h (λ st. keeps-gives (st, names)) i

pub keeps-another : (branch : Names → Reading Stmt) → ((ns : Names) → Keeps (branch ns)) → (o : Opening) (x : List Stmt × Names) → Keeps (another branch o x)
keeps-another branch h o x = keeps (keeps-statement (branch x.1) (h x.1) x.1 o) (λ y. keeps-gives _)

pub keeps-listed : (branch : Names → Reading Stmt) → ((ns : Names) → Keeps (branch ns)) → (names : Names) → Keeps (listed branch names)
keeps-listed branch h names = keeps (keeps-many opening_of (another branch) (keeps-another branch h) ([], names)) (λ x. keeps-gives _)

pub keeps-statements : (d : ℕ) (names : Names) → Keeps (statements d names)
unfolding statements
keeps-statements zero names = keeps-listed (λ ns. refused kind.Deep) (λ ns. keeps-refused kind.Deep) names
keeps-statements (suc d) names = keeps-listed (λ ns. skipped >>= λ _. branches ns (statements d ns)) (λ ns. keeps keeps-skipped (λ _. keeps-branches ns (statements d ns) (keeps-statements d ns))) names
