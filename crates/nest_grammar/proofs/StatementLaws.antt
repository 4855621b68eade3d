-- Statements: their readings and the grammar say the same.
use Rattle.std.proofs.Common.{◌≡◌, ℕ, zero, suc, ◌+◌, ◌<◌, List, [], ◌∷◌, ◌++◌, length, refl, sym, ◌∙◌, ap, Some, None, Ok, true, false}
use Rattle.nest_lang.specs.declared.tree.Place.TheVariants as place
use Rattle.nest_lang.specs.declared.tree.Expr.{Expr}
use Rattle.nest_lang.specs.declared.tree.Stmt.{Stmt}
use Rattle.nest_lang.specs.declared.tree.Stmt.TheVariants.{Let, Set, Store, If}
use Rattle.nest_tokens.specs.declared.token.Name.{Name}
use Rattle.nest_tokens.specs.declared.token.Token.{Token}
use Rattle.nest_tokens.specs.declared.token.Token.TheVariants as token
use Rattle.nest_tokens.specs.declared.token.Mark.{Mark}
use Rattle.nest_tokens.specs.declared.token.Mark.TheVariants as mark
use Rattle.nest_tokens.specs.Tokens.{is_mark, spelling}
use Rattle.nest_tokens.proofs.MarkLaws.{is_mark-true}
use Rattle.nest_grammar.specs.declared.opening.Opening.{Opening}
use Rattle.nest_grammar.specs.declared.opening.Opening.TheVariants as opening
use Rattle.nest_grammar.specs.declared.fault.TextKind.TheVariants as kind
use Rattle.nest_grammar.specs.Limits.{most_lets, most_ifs}
use Rattle.nest_grammar.specs.Sights.{Sight, here, stands, Sees, skip, opens, numbered, bound, in_block}
use Rattle.nest_grammar.specs.Readings.{Reading, after, ◌>>=◌, gives, refused, skipped, need, many}
use Rattle.nest_grammar.specs.Names.{Names, declared, place_of}
use Rattle.nest_grammar.specs.Expressions.{product_of, addition_of, comparison_of, expression}
use Rattle.nest_grammar.specs.Statements.{opening_of, braced, else_at, branches, statement, another, listed, statements, with_lets, block}
use Rattle.nest_grammar.specs.Grammar.{AccessRoom, SeesName, IsExpression, IsStmt, IsBraced, IsList, IsBlock}
use Rattle.nest_grammar.specs.Grammar as grammar
use Rattle.nest_grammar.proofs.PartAfterPartLaws.{Parts, many-stop}
use Rattle.nest_grammar.proofs.ProductionLaws.{IsPart, part-refused, part-skipped, starts, local-branches, local-statements, parts-another}
use Rattle.nest_grammar.proofs.ReadingLaws.{sees-is, need-sees, fewer-room, access-room, fresh-sees, target-is, given, need-then, fewer-then, access-then, fresh-then, target-then}
use Rattle.nest_grammar.proofs.PartLaws.{many-sound, many-reads}
use Rattle.nest_grammar.proofs.ExpressionLaws.{Ends, expression-complete, expression-sound}
use Rattle.nest_grammar.proofs.PartAfterPartLaws.{bind-ok}

-- how a condition is read, where d more may stand within one another
abbrev pub branch : ℕ → Names → Reading Stmt
branch zero ns = refused kind.Deep
branch (suc d) ns = skipped >>= λ _. branches ns (statements d ns)

part-branch : (d : ℕ) (ns : Names) → IsPart (branch d ns)
part-branch zero ns = part-refused kind.Deep
part-branch (suc d) ns = starts part-skipped (λ _. local-branches ns (statements d ns) (local-statements d ns))

parts-statement : (d : ℕ) → Parts opening_of (another (branch d))
parts-statement d = parts-another (branch d) (part-branch d)

statements-is : (d : ℕ) (names : Names) (s : Sight) → statements d names s ≡ listed (branch d) names s
unfolding statements
statements-is zero names s = refl
statements-is (suc d) names s = refl

-- Completeness.

-- behind this token no statement goes on
abbrev pub Follows : Token → Type 0
Follows t = Ends t × (is_mark mark.Else t ≡ false)

plain-follows : (m : Mark) (t : Sight) → Sees m t → Follows (token.Plain m) → Follows (stands t)
plain-follows m t h f = rw h f

pub opens-follow : (t : Sight) → Sees mark.OpenBrace t → Ends (stands t)
unfolding product_of addition_of comparison_of
opens-follow t h = rw h (refl, refl, refl)

pub close-follows : (t : Sight) → Sees mark.CloseBrace t → Follows (stands t)
unfolding product_of addition_of comparison_of is_mark spelling
close-follows t h = plain-follows mark.CloseBrace t h ((refl, refl, refl), refl)

bracket-ends : (t : Sight) → Sees mark.CloseBracket t → Ends (stands t)
unfolding product_of addition_of comparison_of
bracket-ends t h = rw h (refl, refl, refl)

pub close-begins : (t : Sight) → Sees mark.CloseBrace t → opening_of (stands t) ≡ None
unfolding opening_of
close-begins t h = rw h

-- a statement begins behind others
opening-follows : (t : Token) (o : Opening) → opening_of t ≡ Some o → Follows t
unfolding opening_of product_of addition_of comparison_of is_mark spelling
opening-follows (token.Name n) o h = ((refl, refl, refl), refl)
opening-follows (token.Plain mark.Let) o h = ((refl, refl, refl), refl)
opening-follows (token.Plain mark.OpenBracket) o h = ((refl, refl, refl), refl)
opening-follows (token.Plain mark.If) o h = ((refl, refl, refl), refl)
opening-follows _ o h = absurd (cc)

let-read : (d : ℕ) (names : Names) (n : Name) (e : Expr) (s t u : Sight) → length s.lets < most_lets → SeesName n (skip s) → place_of names n ≡ None → t ≡ bound n (skip (skip s)) → Sees mark.Assign t → expression names (skip t) ≡ Ok (e, u) → statement (branch d names) names opening.Let s ≡ Ok ((Let (length s.lets) e, names ++ declared n (place.Local (length s.lets)) ∷ []), u)
unfolding skip
let-read d names n e s t u l h k q a r =
    let x1 = fewer-room (length s.lets) most_lets s l in
    let x2 = fresh-sees names n (skip s) h k in
    let x3 : need mark.Assign (bound n (skip (skip s))) ≡ Ok (tt, skip t) = ap (need mark.Assign) (sym q) ∙ need-sees mark.Assign t a in
    rw (x1, x2, x3, r)

set-read : (d : ℕ) (names : Names) (n : Name) (k : ℕ) (e : Expr) (s t : Sight) → place_of names n ≡ Some (place.Scalar k) → Sees mark.Assign (skip s) → expression names (skip (skip s)) ≡ Ok (e, t) → statement (branch d names) names (opening.Name n) s ≡ Ok ((Set k e, names), t)
set-read d names n k e s t h a r =
    let x1 = target-is names n k s h in
    let x2 = need-sees mark.Assign (skip s) a in
    rw (x1, x2, r)

store-read : (d : ℕ) (names : Names) (a e : Expr) (s t u : Sight) → AccessRoom s → expression names (skip (opens s)) ≡ Ok (a, t) → Sees mark.CloseBracket t → Sees mark.Assign (skip t) → expression names (skip (skip t)) ≡ Ok (e, u) → statement (branch d names) names opening.Store s ≡ Ok ((Store (u.accesses + 1) a e, names), numbered u)
store-read d names a e s t u l r c h q =
    let x1 = access-room s l in
    let x2 = need-sees mark.CloseBracket t c in
    let x3 = need-sees mark.Assign (skip t) h in
    rw (x1, r, x2, x3, q)

when-read : (d : ℕ) (names : Names) (e : Expr) (xs : List Stmt) (s t u : Sight) → expression names (skip s) ≡ Ok (e, t) → braced (statements d names) t ≡ Ok (xs, u) → is_mark mark.Else (stands u) ≡ false → statement (branch (suc d) names) names opening.If s ≡ Ok ((If e xs [], names), u)
when-read d names e xs s t u h k l = rw (h, k, l)

either-read : (d : ℕ) (names : Names) (e : Expr) (xs ys : List Stmt) (s t u v : Sight) → expression names (skip s) ≡ Ok (e, t) → braced (statements d names) t ≡ Ok (xs, u) → Sees mark.Else u → braced (statements d names) (skip u) ≡ Ok (ys, v) → statement (branch (suc d) names) names opening.If s ≡ Ok ((If e xs ys, names), v)
either-read d names e xs ys s t u v h k l j = let q = sees-is mark.Else u l in rw (h, k, q, j)

braced-read : (d : ℕ) (names ns : Names) (xs : List Stmt) (s t : Sight) → Sees mark.OpenBrace s → many opening_of (another (branch d)) ([], names) (skip s) ≡ many opening_of (another (branch d)) (xs, ns) t → Sees mark.CloseBrace t → braced (statements d names) s ≡ Ok (xs, skip t)
braced-read d names ns xs s t h k c =
    let x1 = need-sees mark.OpenBrace s h in
    let x2 : many opening_of (another (branch d)) ([], names) (skip s) ≡ Ok ((xs, ns), t) = k ∙ many-stop opening_of (another (branch d)) (xs, ns) t (close-begins t c) in
    let x3 = need-sees mark.CloseBrace t c in
    rw (x1, statements-is, x2, x3)

another-read : (d : ℕ) (o : Opening) (xs : List Stmt) (ms ns : Names) (st : Stmt) (s t : Sight) → statement (branch d ms) ms o s ≡ Ok ((st, ns), t) → another (branch d) o (xs, ms) s ≡ Ok ((xs ++ st ∷ [], ns), t)
another-read d o xs ms ns st s t h = rw h

braced-front : {d : ℕ} {names : Names} {s t : Sight} {xs : List Stmt} → IsBraced d names s xs t → Sees mark.OpenBrace s
braced-front (grammar.braced h l c) = h

-- it begins as this one, and is read
abbrev Read : ℕ → Names → Sight → Stmt → Names → Sight → Type 0
Read d names s st ns t = (o : Opening) × (opening_of (stands s) ≡ Some o) × (statement (branch d names) names o s ≡ Ok ((st, ns), t))

mutual
  unfolding opening_of here

  statement-complete : {d : ℕ} {names ns : Names} {s t : Sight} {st : Stmt} → IsStmt d names s st ns t → Follows (stands t) → Read d names s st ns t
  statement-complete (grammar.let_ {d} {names} {n} {e} {s} {t} {u} h l k f q a i) m =
      (opening.Let, ap opening_of h, let-read d names n e s t u l k f q a (expression-complete names (skip t) e u i m.0))
  statement-complete (grammar.set {d} {k} {names} {n} {e} {s} {t} h f a i) m =
      (opening.Name n, ap opening_of h, set-read d names n k e s t f a (expression-complete names (skip (skip s)) e t i m.0))
  statement-complete (grammar.store {d} {names} {a} {e} {s} {t} {u} h l i c k j) m =
      (opening.Store, ap opening_of h, store-read d names a e s t u l (expression-complete names (skip (opens s)) a t i (bracket-ends t c)) c k (expression-complete names (skip (skip t)) e u j m.0))
  statement-complete (grammar.when {d} {names} {e} {xs} {s} {t} {u} h i b) m =
      (opening.If, ap opening_of h, when-read d names e xs s t u (expression-complete names (skip s) e t i (opens-follow t (braced-front b))) (braced-complete b) m.1)
  statement-complete (grammar.either {d} {names} {e} {xs} {ys} {s} {t} {u} {v} h i b k c) m =
      (opening.If, ap opening_of h, either-read d names e xs ys s t u v (expression-complete names (skip s) e t i (opens-follow t (braced-front b))) (braced-complete b) k (braced-complete c))

  braced-complete : {d : ℕ} {names : Names} {s t : Sight} {xs : List Stmt} → IsBraced d names s xs t → braced (statements d names) s ≡ Ok (xs, t)
  braced-complete (grammar.braced {d} {names} {ns} {xs} {s} {t} h l c) = braced-read d names ns xs s t h (list-complete l (close-follows t c)) c

  list-complete : {d : ℕ} {names ns : Names} {s t : Sight} {xs : List Stmt} → IsList d names s xs ns t → Follows (stands t) → many opening_of (another (branch d)) ([], names) s ≡ many opening_of (another (branch d)) (xs, ns) t
  list-complete (grammar.none) m = refl
  list-complete (grammar.more {d} {names} {ms} {ns} {xs} {st} {s} {t} {u} l i) m =
      let f = statement-complete i m in
      list-complete l (opening-follows (stands t) f.0 f.1) ∙ many-reads opening_of (another (branch d)) (xs, ms) (xs ++ st ∷ [], ns) t u f.0 (parts-statement d) f.1 (another-read d f.0 xs ms ns st t u f.2)

pub block-complete : (names : Names) (s : Sight) (xs : List Stmt) (lets : List Name) (t : Sight) → IsBlock names s xs lets t → Follows (stands t) → opening_of (stands t) ≡ None → block names s ≡ Ok ((xs, lets), t)
unfolding block
block-complete names s _ _ _ (grammar.block {ns} {xs} {t = t} l) m b =
    let x : many opening_of (another (branch most_ifs)) ([], names) (in_block s) ≡ Ok ((xs, ns), t) = list-complete l m ∙ many-stop opening_of (another (branch most_ifs)) (xs, ns) t b in
    rw (statements-is, x)

-- Soundness.

done : {d : ℕ} {names ns : Names} {s t : Sight} {st : Stmt} (x : (Stmt × Names) × Sight) → gives {A = Stmt × Names} (st, ns) t ≡ Ok x → IsStmt d names s st ns t → IsStmt d names s x.0.0 x.0.1 x.1
done {d} {names} {ns} {s} {t} {st} x h i = let e = given {A = Stmt × Names} (st, ns) t x h in rw e i

-- the statement that begins so
let-token : (t : Token) → opening_of t ≡ Some opening.Let → t ≡ token.Plain mark.Let
unfolding opening_of
let-token (token.Plain mark.Let) h = refl
let-token _ h = absurd (cc)

name-token : (t : Token) (n : Name) → opening_of t ≡ Some (opening.Name n) → t ≡ token.Name n
unfolding opening_of
name-token (token.Name m) n h = cc
name-token (token.Plain mark.Let) n h = absurd (cc)
name-token _ n h = absurd (cc)

store-token : (t : Token) → opening_of t ≡ Some opening.Store → t ≡ token.Plain mark.OpenBracket
unfolding opening_of
store-token (token.Plain mark.OpenBracket) h = refl
store-token _ h = absurd (cc)

if-token : (t : Token) → opening_of t ≡ Some opening.If → t ≡ token.Plain mark.If
unfolding opening_of
if-token (token.Plain mark.If) h = refl
if-token _ h = absurd (cc)

-- what reads conditions reads them as the grammar says
abbrev BranchSound : ℕ → (Names → Reading Stmt) → Type 0
BranchSound d b = (ns : Names) (s : Sight) (x : Stmt × Sight) → Sees mark.If s → b ns s ≡ Ok x → IsStmt d ns s x.0 ns x.1

statement-sound : (d : ℕ) (b : Names → Reading Stmt) → BranchSound d b → (names : Names) (o : Opening) (s : Sight) (x : (Stmt × Names) × Sight) → opening_of (stands s) ≡ Some o → statement (b names) names o s ≡ Ok x → IsStmt d names s x.0.0 x.0.1 x.1
unfolding skip
statement-sound d b hb names opening.Let s x k h =
    let f1 = fewer-then (length s.lets) most_lets _ s x h in
    let f2 = fresh-then names _ (skip s) x f1.1 in
    let f3 = need-then mark.Assign _ (bound f2.0 (skip (skip s))) x f2.3 in
    let f4 = bind-ok (expression names (skip (bound f2.0 (skip (skip s))))) _ x f3.1 in
    done x f4.2 (grammar.let_ (let-token (stands s) k) f1.0 f2.1 f2.2 refl f3.0 (expression-sound names (skip (bound f2.0 (skip (skip s)))) f4.0 f4.1))
statement-sound d b hb names (opening.Name n) s x k h =
    let f1 = target-then names n _ s x h in
    let f2 = need-then mark.Assign _ (skip s) x f1.2 in
    let f3 = bind-ok (expression names (skip (skip s))) _ x f2.1 in
    done x f3.2 (grammar.set (name-token (stands s) n k) f1.1 f2.0 (expression-sound names (skip (skip s)) f3.0 f3.1))
statement-sound d b hb names opening.Store s x k h =
    let f1 = access-then _ s x h in
    let f2 = bind-ok (expression names (skip (opens s))) _ x f1.1 in
    let f3 = need-then mark.CloseBracket _ f2.0.1 x f2.2 in
    let f4 = need-then mark.Assign _ (skip f2.0.1) x f3.1 in
    let f5 = bind-ok (expression names (skip (skip f2.0.1))) _ x f4.1 in
    done x f5.2 (grammar.store (store-token (stands s) k) f1.0 (expression-sound names (skip (opens s)) f2.0 f2.1) f3.0 f4.0 (expression-sound names (skip (skip f2.0.1)) f5.0 f5.1))
statement-sound d b hb names opening.If s x k h =
    let f = bind-ok (b names s) _ x h in
    done x f.2 (hb names s f.0 (if-token (stands s) k) f.1)

-- a list of statements, and the names that are visible behind it
abbrev Listed : ℕ → Names → Sight → List Stmt × Sight → Type 0
Listed d names s x = (ns : Names) × IsList d names s x.0 ns x.1

another-sound : (d : ℕ) (b : Names → Reading Stmt) → BranchSound d b → (names : Names) (s : Sight) (a : List Stmt × Names) (t : Sight) (o : Opening) (x : (List Stmt × Names) × Sight) → IsList d names s a.0 a.1 t → opening_of (stands t) ≡ Some o → another b o a t ≡ Ok x → IsList d names s x.0.0 x.0.1 x.1
another-sound d b hb names s a t o x i k h =
    let f = bind-ok (statement (b a.1) a.1 o t) _ x h in
    let e = given {A = List Stmt × Names} (a.0 ++ f.0.0.0 ∷ [], f.0.0.1) f.0.1 x f.2 in
    rw e (grammar.more i (statement-sound d b hb a.1 o t f.0 k f.1))

listed-sound : (d : ℕ) (b : Names → Reading Stmt) → BranchSound d b → (names : Names) (s : Sight) (x : List Stmt × Sight) → listed b names s ≡ Ok x → Listed d names s x
listed-sound d b hb names s x h =
    let f = bind-ok (many opening_of (another b) ([], names) s) _ x h in
    let i : IsList d names s f.0.0.0 f.0.0.1 f.0.1 = many-sound (λ (a : List Stmt × Names) t. IsList d names s a.0 a.1 t) opening_of (another b) (another-sound d b hb names s) ([], names) s f.0 grammar.none f.1 in
    let e = given f.0.0.0 f.0.1 x f.2 in
    rw e (f.0.0.1, i)

-- "{" list "}"
braced-sound : (d : ℕ) (list : Reading (List Stmt)) (names : Names) → ((s : Sight) (x : List Stmt × Sight) → list s ≡ Ok x → Listed d names s x) → (s : Sight) (x : List Stmt × Sight) → braced list s ≡ Ok x → IsBraced d names s x.0 x.1
braced-sound d list names hl s x h =
    let f1 = need-then mark.OpenBrace _ s x h in
    let f2 = bind-ok (list (skip s)) _ x f1.1 in
    let f3 = need-then mark.CloseBrace _ f2.0.1 x f2.2 in
    let l = hl (skip s) f2.0 f2.1 in
    let e = given f2.0.0 (skip f2.0.1) x f3.1 in
    rw e (grammar.braced f1.0 l.1 f3.0)

branches-sound : (d : ℕ) (list : Reading (List Stmt)) (names : Names) → ((s : Sight) (x : List Stmt × Sight) → list s ≡ Ok x → Listed d names s x) → (s : Sight) (x : Stmt × Sight) → Sees mark.If s → branches names list (skip s) ≡ Ok x → IsStmt (suc d) names s x.0 names x.1
branches-sound d list names hl s x k h =
    let f1 = bind-ok (expression names (skip s)) _ x h in
    let f2 = bind-ok (braced list f1.0.1) _ x f1.2 in
    let i = expression-sound names (skip s) f1.0 f1.1 in
    let j = braced-sound d list names hl f1.0.1 f2.0 f2.1 in
    elim (is_mark mark.Else (stands f2.0.1)) as (λ c. is_mark mark.Else (stands f2.0.1) ≡ c → after (else_at list c f2.0.1) (λ ys. gives (If f1.0.0 f2.0.0 ys)) ≡ Ok x → IsStmt (suc d) names s x.0 names x.1) [
      | false ↦ λ e q. (let z = given (If f1.0.0 f2.0.0 []) f2.0.1 x q in rw z (grammar.when k i j))
      | true ↦ λ e q. (
          let f3 = bind-ok (braced list (skip f2.0.1)) _ x q in
          let z = given (If f1.0.0 f2.0.0 f3.0.0) f3.0.1 x f3.2 in
          rw z (grammar.either k i j (is_mark-true mark.Else (stands f2.0.1) e) (braced-sound d list names hl (skip f2.0.1) f3.0 f3.1)))
    ] refl f2.2

no-branch : BranchSound 0 (λ ns. refused kind.Deep)
unfolding refused
no-branch ns s x k h = absurd (cc)

statements-sound : (d : ℕ) (names : Names) (s : Sight) (x : List Stmt × Sight) → statements d names s ≡ Ok x → Listed d names s x
unfolding statements
statements-sound zero names s x h = listed-sound zero (λ ns. refused kind.Deep) no-branch names s x h
statements-sound (suc d) names s x h =
    let hl : (ns : Names) (s : Sight) (x : List Stmt × Sight) → statements d ns s ≡ Ok x → Listed d ns s x = statements-sound d in
    listed-sound (suc d) (λ ns. skipped >>= λ _. branches ns (statements d ns)) (λ ns s x k h. branches-sound d (statements d ns) ns (hl ns) s x k h) names s x h

pub block-sound : (names : Names) (s : Sight) (x : (List Stmt × List Name) × Sight) → block names s ≡ Ok x → IsBlock names s x.0.0 x.0.1 x.1
unfolding block
block-sound names s x h =
    let f = bind-ok (statements most_ifs names (in_block s)) with_lets x h in
    let l = statements-sound most_ifs names (in_block s) f.0 f.1 in
    let e = given {A = List Stmt × List Name} (f.0.0, f.0.1.lets) f.0.1 x f.2 in
    rw e (grammar.block l.1)
