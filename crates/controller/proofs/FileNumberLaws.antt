-- The numbers of a file that a text reads as are i64s.
use Rattle.std.proofs.Common.{◌≡◌, subst, sym, ℕ, ◌+◌, ℤ, pos, List, [], ◌∷◌, ◌++◌, length, map, Option, rules, arith}
use Rattle.std.specs.List.{All}
use Rattle.std.proofs.lemmas.List.Elements.{All-append, All-cons, All-nil, All-push}
use Rattle.nest_tokens.specs.declared.token.Name.{Name}
use Rattle.nest_tokens.proofs.DividingLaws.{tokens-divide}
use Rattle.nest_lang.specs.declared.tree.Expr.{Expr}
use Rattle.nest_lang.specs.declared.tree.Expr as expr
use Rattle.nest_lang.specs.declared.tree.Expr.TheVariants.{Number, Var, Load, Neg, Two}
use Rattle.nest_lang.specs.declared.tree.Head.{Head}
use Rattle.nest_lang.specs.declared.tree.Loop.{Loop}
use Rattle.nest_lang.specs.declared.tree.Op.{Op}
use Rattle.nest_lang.specs.declared.tree.Place.{Place}
use Rattle.nest_lang.specs.declared.tree.Stmt.{Stmt}
use Rattle.nest_lang.specs.declared.tree.Stmt as stmt
use Rattle.nest_lang.specs.declared.tree.Stmt.TheVariants.{Let, Set, Store, If}
use Rattle.nest_grammar.specs.declared.file.File.{File}
use Rattle.nest_grammar.specs.declared.file.LoopNames.{LoopNames}
use Rattle.nest_grammar.specs.declared.file.NestUnit.{NestUnit}
use Rattle.nest_grammar.specs.declared.file.Scalar.{Scalar}
use Rattle.nest_grammar.specs.declared.version.Version.{Version}
use Rattle.nest_grammar.specs.Files.{first_store}
use Rattle.nest_grammar.specs.Sights.{Sight, in_block, opens, skip}
use Rattle.nest_grammar.specs.Names.{Names}
use Rattle.nest_grammar.specs.Scripts.{Script}
use Rattle.nest_grammar.specs.Grammar as grammar
use Rattle.nest_grammar.specs.Grammar.{Is, Precedence, IsBlock, IsBraced, IsCandidates, IsCommand, IsCommands, IsExpression, IsHeading, IsItem, IsItems, IsList, IsLoops, IsRows, IsScalars, IsScript, IsSigned, IsStmt, IsStride, IsUnit, IsUnits, IsValues, IsVersion, Reads, SeesNumber}
use Rattle.nest_grammar.proofs.ContentLaws.{reading-reads}
use Rattle.nest_text.specs.Files.{IsOfText}
use Rattle.profile.specs.Reach.{HasI64s, IsOfI64s, all_in, block_numbers, expression_numbers, head_numbers, statement_numbers}
use Rattle.controller.proofs.TextNumberLaws.{FitSight, I64, divided-fit, fit-skip, items-fit, number-fits, positive-fits, signed-fits, version-passes, words-fit}

-- ---- expressions

abbrev Fine : List ℤ → Type 0
Fine numbers = All I64 numbers

number-numbers : (n : ℤ) → expression_numbers (Number n) ≡ n ∷ []
unfolding expression_numbers
number-numbers n = search (rules, expr.the_lemmas)

var-numbers : (p : Place) → expression_numbers (Var p) ≡ []
unfolding expression_numbers
var-numbers p = search (rules, expr.the_lemmas)

load-numbers : (k : ℕ) (e : Expr) → expression_numbers (Load k e) ≡ expression_numbers e
unfolding expression_numbers
load-numbers k e = search (rules, expr.the_lemmas)

neg-numbers : (e : Expr) → expression_numbers (Neg e) ≡ expression_numbers e
unfolding expression_numbers
neg-numbers e = search (rules, expr.the_lemmas)

two-numbers : (o : Op) (a b : Expr) → expression_numbers (Two o a b) ≡ expression_numbers a ++ expression_numbers b
unfolding expression_numbers
two-numbers o a b = search (rules, expr.the_lemmas)

both-fine : (o : Op) (a b : Expr) → Fine (expression_numbers a) → Fine (expression_numbers b) → Fine (expression_numbers (Two o a b))
both-fine o a b p q = subst Fine (sym (two-numbers o a b)) (All-append I64 (expression_numbers a) (expression_numbers b) p q)

is-fits : {names : Names} {part : Precedence} {d : ℕ} {s : Sight} {e : Expr} {t : Sight} → Is names part d s e t → FitSight s → Fine (expression_numbers e) × FitSight t
is-fits (grammar.number {n = n} {s = s} h r) p = (subst Fine (sym (number-numbers (pos n))) (All-cons I64 (pos n) [] (positive-fits n (number-fits n s p h)) (All-nil I64)), fit-skip s p)
is-fits (grammar.variable {p = place} {s = s} h q r) p = (subst Fine (sym (var-numbers place)) (All-nil I64), fit-skip s p)
is-fits (grammar.minus {e = e} {s = s} h r i) p = let x = is-fits i (fit-skip s p) in (subst Fine (sym (neg-numbers e)) x.0, x.1)
is-fits (grammar.parens {s = s} {t = t} h r i k q) p = let x = is-fits i (fit-skip s p) in (x.0, fit-skip t x.1)
is-fits (grammar.load {e = e} {s = s} {t = t} h a r i k q) p = let x = is-fits i (fit-skip (opens s) p) in (subst Fine (sym (load-numbers (t.accesses + 1) e)) x.0, fit-skip t x.1)
is-fits (grammar.factor i) p = is-fits i p
is-fits (grammar.product {o = o} {a = a} {b = b} {t = t} i q r j) p = let x = is-fits i p in let y = is-fits j (fit-skip t x.1) in (both-fine o a b x.0 y.0, y.1)
is-fits (grammar.summand i) p = is-fits i p
is-fits (grammar.addition {o = o} {a = a} {b = b} {t = t} i q r j) p = let x = is-fits i p in let y = is-fits j (fit-skip t x.1) in (both-fine o a b x.0 y.0, y.1)
is-fits (grammar.side i) p = is-fits i p
is-fits (grammar.comparison {o = o} {a = a} {b = b} {t = t} i q r j) p = let x = is-fits i p in let y = is-fits j (fit-skip t x.1) in (both-fine o a b x.0 y.0, y.1)

expression-fits : {names : Names} (s : Sight) {e : Expr} {t : Sight} → IsExpression names s e t → FitSight s → Fine (expression_numbers e) × FitSight t
expression-fits s i p = is-fits i p

-- ---- statements

let-numbers : (k : ℕ) (e : Expr) → statement_numbers (Let k e) ≡ expression_numbers e
unfolding statement_numbers
let-numbers k e = search (rules, stmt.the_lemmas)

set-numbers : (k : ℕ) (e : Expr) → statement_numbers (Set k e) ≡ expression_numbers e
unfolding statement_numbers
set-numbers k e = search (rules, stmt.the_lemmas)

store-numbers : (access : ℕ) (a e : Expr) → statement_numbers (Store access a e) ≡ expression_numbers a ++ expression_numbers e
unfolding statement_numbers
store-numbers access a e = search (rules, stmt.the_lemmas)

if-numbers : (e : Expr) (xs ys : List Stmt) → statement_numbers (If e xs ys) ≡ (expression_numbers e ++ all_in (map statement_numbers xs)) ++ all_in (map statement_numbers ys)
unfolding statement_numbers
if-numbers e xs ys = search (rules, stmt.the_lemmas)

-- all statements of a list have i64s
abbrev Statements : List Stmt → Type 0
Statements xs = All (λ x. Fine (statement_numbers x)) xs

all-in : (xs : List Stmt) → Statements xs → Fine (all_in (map statement_numbers xs))
all-in [] p = All-nil I64
all-in (x ∷ xs) p = All-append I64 (statement_numbers x) (all_in (map statement_numbers xs)) (head x xs p) (all-in xs (tail x xs p))
  where
    head : (x : Stmt) (xs : List Stmt) → Statements (x ∷ xs) → Fine (statement_numbers x)
    head x xs p = Rattle.std.proofs.lemmas.List.Elements.All-head (λ y. Fine (statement_numbers y)) x xs p

    tail : (x : Stmt) (xs : List Stmt) → Statements (x ∷ xs) → Statements xs
    tail x xs p = Rattle.std.proofs.lemmas.List.Elements.All-tail (λ y. Fine (statement_numbers y)) x xs p

block-fine : (xs : List Stmt) → Statements xs → Fine (block_numbers xs)
unfolding block_numbers
block-fine [] p = All-nil I64
block-fine (x ∷ xs) p = All-append I64 (statement_numbers x) (block_numbers xs) (Rattle.std.proofs.lemmas.List.Elements.All-head (λ y. Fine (statement_numbers y)) x xs p) (block-fine xs (Rattle.std.proofs.lemmas.List.Elements.All-tail (λ y. Fine (statement_numbers y)) x xs p))

if-fine : (e : Expr) (xs ys : List Stmt) → Fine (expression_numbers e) → Statements xs → Statements ys → Fine (statement_numbers (If e xs ys))
if-fine e xs ys p q r =
    subst Fine (sym (if-numbers e xs ys))
    (All-append I64 (expression_numbers e ++ all_in (map statement_numbers xs)) (all_in (map statement_numbers ys)) (All-append I64 (expression_numbers e) (all_in (map statement_numbers xs)) p (all-in xs q)) (all-in ys r))

mutual
  statement-fits : {d : ℕ} {names : Names} {s : Sight} {x : Stmt} {ns : Names} {t : Sight} → IsStmt d names s x ns t → FitSight s → Fine (statement_numbers x) × FitSight t
  statement-fits (grammar.let_ {e = e} {s = s} {t = t} h l n q b a i) p =
      let there : FitSight t = subst FitSight (sym b) (fit-skip (skip s) (fit-skip s p)) in
      let x = expression-fits (skip t) i (fit-skip t there) in
      (subst Fine (sym (let-numbers (length s.lets) e)) x.0, x.1)
  statement-fits (grammar.set {k = k} {e = e} {s = s} n q a i) p =
      let x = expression-fits (skip (skip s)) i (fit-skip (skip s) (fit-skip s p)) in
      (subst Fine (sym (set-numbers k e)) x.0, x.1)
  statement-fits (grammar.store {a = a} {e = e} {s = s} {t = t} {u = u} h r i c q j) p =
      let x = expression-fits (skip (opens s)) i (fit-skip (opens s) p) in
      let y = expression-fits (skip (skip t)) j (fit-skip (skip t) (fit-skip t x.1)) in
      (subst Fine (sym (store-numbers (u.accesses + 1) a e)) (All-append I64 (expression_numbers a) (expression_numbers e) x.0 y.0), y.1)
  statement-fits (grammar.when {e = e} {xs = xs} {s = s} h i b) p =
      let x = expression-fits (skip s) i (fit-skip s p) in
      let y = braced-fits b x.1 in
      (if-fine e xs [] x.0 y.0 (All-nil _), y.1)
  statement-fits (grammar.either {e = e} {xs = xs} {ys = ys} {s = s} {u = u} h i b k c) p =
      let x = expression-fits (skip s) i (fit-skip s p) in
      let y = braced-fits b x.1 in
      let z = braced-fits c (fit-skip u y.1) in
      (if-fine e xs ys x.0 y.0 z.0, z.1)

  braced-fits : {d : ℕ} {names : Names} {s : Sight} {xs : List Stmt} {t : Sight} → IsBraced d names s xs t → FitSight s → Statements xs × FitSight t
  braced-fits (grammar.braced {s = s} {t = t} h i c) p = let x = list-fits i (fit-skip s p) in (x.0, fit-skip t x.1)

  list-fits : {d : ℕ} {names : Names} {s : Sight} {xs : List Stmt} {ns : Names} {t : Sight} → IsList d names s xs ns t → FitSight s → Statements xs × FitSight t
  list-fits grammar.none p = (All-nil _, p)
  list-fits (grammar.more {xs = xs} {st = st} i j) p =
      let x = list-fits i p in
      let y = statement-fits j x.1 in
      (All-push (λ z. Fine (statement_numbers z)) xs st x.0 y.0, y.1)

-- ---- loops

block-fits : {names : Names} {s : Sight} {xs : List Stmt} {lets : List Name} {t : Sight} → IsBlock names s xs lets t → FitSight s → Fine (block_numbers xs) × FitSight t
block-fits (grammar.block {xs = xs} i) p = let x = list-fits i p in (block-fine xs x.0, x.1)

stride-fits : {s : Sight} {k : ℤ} {t : Sight} → IsStride s k t → FitSight s → I64 k × FitSight t
stride-fits grammar.unwritten p = (positive-fits 1 (omega arith), p)
stride-fits (grammar.written {s = s} h i n) p = signed-fits i (fit-skip s p)

heading-fits : {names : Names} {s : Sight} {h : Head} {n : Option Name} {t : Sight} → IsHeading names s h n t → FitSight s → Fine (head_numbers h) × FitSight t
heading-fits (grammar.counting {lower = lower} {upper = upper} {k = k} {s = s} {t = t} f n q a i b j r) p =
    let x = expression-fits (in_block (skip (skip (skip s)))) i (fit-skip (skip (skip s)) (fit-skip (skip s) (fit-skip s p))) in
    let y = expression-fits (skip t) j (fit-skip t x.1) in
    let z = stride-fits r y.1 in
    (All-append I64 (expression_numbers lower ++ expression_numbers upper) (k ∷ []) (All-append I64 (expression_numbers lower) (expression_numbers upper) x.0 y.0) (All-cons I64 k [] z.0 (All-nil I64)), z.1)
heading-fits (grammar.asking {s = s} h i) p = expression-fits (in_block (skip s)) i (fit-skip s p)

loops-fit : {d level : ℕ} {names : Names} {s : Sight} {ls : List Loop} {ns : List LoopNames} {t : Sight} → IsLoops d level names s ls ns t → FitSight s → All HasI64s ls × FitSight t
loops-fit (grammar.innermost {h = h} {pre = pre} {t = t} {u = u} i o b some c) p =
    let x = heading-fits i p in
    let y = block-fits b (fit-skip t x.1) in
    (All-cons HasI64s (record { head = h; pre = pre; post = [] }) [] (record { head = x.0; pre = y.0; post = block-fine [] (All-nil _) }) (All-nil HasI64s), fit-skip u y.1)
loops-fit (grammar.outer {h = h} {pre = pre} {post = post} {ls = ls} {t = t} {w = w} i o b l q c) p =
    let x = heading-fits i p in
    let y = block-fits b (fit-skip t x.1) in
    let z = loops-fit l y.1 in
    let k = block-fits q z.1 in
    (All-cons HasI64s (record { head = h; pre = pre; post = post }) ls (record { head = x.0; pre = y.0; post = k.0 }) z.0, fit-skip w k.1)

-- ---- candidates, which are passed over

rows-pass : {depth : ℕ} {s : Sight} {ns : List ℕ} {t : Sight} → IsRows depth s ns t → FitSight s → FitSight t
rows-pass (grammar.one {s = s} h r) p = fit-skip s p
rows-pass (grammar.more {t = t} i l h r) p = fit-skip t (rows-pass i p)

command-passes : {depth : ℕ} {cs : Script} {s : Sight} {c : Rattle.nest_lang.specs.declared.command.Command.Command} {t : Sight} → IsCommand depth cs s c t → FitSight s → FitSight t
command-passes (grammar.seq {s = s} w m n l) p = fit-skip (skip s) (fit-skip s p)
command-passes (grammar.swap {s = s} {t = t} w a r q b k n) p = fit-skip t (subst FitSight (sym q) (fit-skip (skip s) (fit-skip s p)))
command-passes (grammar.skew {s = s} {t = t} w m a r q b k n i f) p = (signed-fits i (fit-skip t (subst FitSight (sym q) (fit-skip (skip s) (fit-skip s p))))).1
command-passes (grammar.tile {s = s} {t = t} w a r q n z) p = fit-skip t (subst FitSight (sym q) (fit-skip (skip s) (fit-skip s p)))
command-passes (grammar.par {s = s} w r) p = rows-pass r (fit-skip s p)
command-passes (grammar.wave {s = s} w r) p = rows-pass r (fit-skip s p)

commands-pass : {depth : ℕ} {s : Sight} {cs : Script} {t : Sight} → IsCommands depth s cs t → FitSight s → FitSight t
commands-pass (grammar.one c) p = command-passes c p
commands-pass (grammar.more {t = t} i m l c) p = command-passes c (fit-skip t (commands-pass i p))

script-passes : {depth : ℕ} {s : Sight} {cs : Script} {t : Sight} → IsScript depth s cs t → FitSight s → FitSight t
script-passes (grammar.empty {s = s} o c) p = fit-skip (skip s) (fit-skip s p)
script-passes (grammar.script {s = s} {t = t} o i c) p = fit-skip t (commands-pass i (fit-skip s p))

candidates-pass : {depth : ℕ} {s : Sight} {scripts : List Script} {t : Sight} → IsCandidates depth s scripts t → FitSight s → FitSight t
candidates-pass grammar.none p = p
candidates-pass (grammar.more {t = t} i m l c) p = script-passes c (fit-skip t (candidates-pass i p))

-- ---- files

abbrev UnitFine : NestUnit → Type 0
UnitFine u = All HasI64s u.nest.loops

unit-fits : {version : Version} {names : Names} {s : Sight} {u : NestUnit} {t : Sight} → IsUnit version names s u t → FitSight s → UnitFine u × FitSight t
unit-fits (grammar.unit l c) p = let x = loops-fit l p in (x.0, candidates-pass c x.1)

units-fit : {names : Names} {version : Version} {s : Sight} {us : List NestUnit} {t : Sight} → IsUnits names version s us t → FitSight s → All UnitFine us × FitSight t
units-fit (grammar.one {n = n} i) p = let x = unit-fits i p in (All-cons UnitFine n [] x.0 (All-nil UnitFine), x.1)
units-fit (grammar.more {ns = ns} {n = n} i l j) p =
    let x = units-fit i p in
    let y = unit-fits j x.1 in
    (All-push UnitFine ns n x.0 y.0, y.1)

abbrev ScalarFits : Scalar → Type 0
ScalarFits c = I64 c.value

scalars-fit : {s : Sight} {cs : List Scalar} {t : Sight} → IsScalars s cs t → FitSight s → All ScalarFits cs × FitSight t
scalars-fit grammar.none p = (All-nil ScalarFits, p)
scalars-fit (grammar.more {cs = cs} {n = n} {v = v} {t = t} i h l k f a j) p =
    let x = scalars-fit i p in
    let y = signed-fits j (fit-skip (skip (skip t)) (fit-skip (skip t) (fit-skip t x.1))) in
    (All-push ScalarFits cs (record { name = n; value = v }) x.0 y.0, y.1)

values-of : (cs : List Scalar) → All ScalarFits cs → All I64 (map (λ c. c.value) cs)
values-of [] p = All-nil I64
values-of (c ∷ cs) p =
    All-cons I64 c.value (map (λ d. d.value) cs) (Rattle.std.proofs.lemmas.List.Elements.All-head ScalarFits c cs p) (values-of cs (Rattle.std.proofs.lemmas.List.Elements.All-tail ScalarFits c cs p))

reads-fit : (text : List ℕ) (file : File) → Reads text file → All UnitFine file.units × All I64 (map (λ c. c.value) file.scalars)
reads-fit text _ (grammar.file {scalars = scalars} {t = t} l iv ic m n b ii iu e) =
    let x = scalars-fit ic (version-passes iv (divided-fit (tokens-divide text))) in
    let y = units-fit iu (items-fit ii (fit-skip (skip t) (fit-skip t x.1))).1 in
    (y.0, values-of scalars x.0)

-- the numbers of the nests of a file that a text reads as are i64s
pub units-of-i64s : (file : File) → IsOfText file → All UnitFine file.units
units-of-i64s file of = (reads-fit of.0 file (reading-reads of.0 file of.1)).0

-- and so is its first store
pub store-of-i64s : (file : File) → IsOfText file → IsOfI64s (first_store file)
store-of-i64s file of = record { memory = words-fit file of; scalars = (reads-fit of.0 file (reading-reads of.0 file of.1)).1; locals = All-nil I64 }
