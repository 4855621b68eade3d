-- Productions: each of them depends on no token behind the one where it stops, and each part of a loop
-- takes a token.
use Rattle.std.proofs.Common.{◌≡◌, ℕ, zero, suc, ◌+◌, ◌<◌, ◌≤◌, List, [], ◌∷◌, ◌++◌, length, refl, sym, ◌∙◌, ap, arith, Option, Some, None, Ok, Bool, true, false, cond, nat_lt, if◌then◌else◌, ℤ, pos}
use Rattle.std.specs.Prelude.{nat_le, ◌==◌, not}
use Rattle.nest_lang.specs.declared.tree.Place.{Place}
use Rattle.nest_lang.specs.declared.tree.Place.TheVariants as place
use Rattle.nest_lang.specs.declared.tree.Op.{Op}
use Rattle.nest_lang.specs.declared.tree.Expr.{Expr}
use Rattle.nest_lang.specs.declared.tree.Expr.TheVariants.{Number, Var, Load, Neg, Two}
use Rattle.nest_lang.specs.declared.tree.Stmt.{Stmt}
use Rattle.nest_lang.specs.declared.tree.Stmt.TheVariants.{Let, Set, Store, If}
use Rattle.nest_lang.specs.declared.tree.Head.TheVariants as head
use Rattle.nest_lang.specs.declared.tree.Loop.{Loop}
use Rattle.nest_tokens.specs.declared.token.Name.{Name}
use Rattle.nest_tokens.specs.declared.token.Mark.{Mark}
use Rattle.nest_tokens.specs.declared.token.Mark.TheVariants as mark
use Rattle.nest_tokens.specs.declared.token.Token.{Token}
use Rattle.nest_tokens.specs.declared.token.Token.TheVariants as token
use Rattle.nest_tokens.specs.declared.token.Spot.{Spot}
use Rattle.nest_tokens.specs.Tokens.{is_mark}
use Rattle.nest_grammar.specs.declared.fault.TextKind.{TextKind}
use Rattle.nest_grammar.specs.declared.fault.TextKind.TheVariants as kind
use Rattle.nest_grammar.specs.declared.version.Version.{Version}
use Rattle.nest_grammar.specs.declared.version.Version.TheVariants.{One, Two as SecondVersion}
use Rattle.nest_grammar.specs.declared.file.Scalar.{Scalar}
use Rattle.nest_grammar.specs.declared.file.Item.{Item}
use Rattle.nest_grammar.specs.declared.file.Item.TheVariants.{Data, Ramp}
use Rattle.nest_grammar.specs.declared.file.NestUnit.{NestUnit}
use Rattle.nest_grammar.specs.declared.opening.Start.{Start}
use Rattle.nest_grammar.specs.declared.opening.Start.TheVariants as start
use Rattle.nest_grammar.specs.declared.opening.Opening.{Opening}
use Rattle.nest_grammar.specs.declared.opening.Opening.TheVariants as opening
use Rattle.nest_grammar.specs.declared.opening.LoopKeyword.{LoopKeyword}
use Rattle.nest_grammar.specs.declared.opening.LoopKeyword.TheVariants as loop
use Rattle.nest_grammar.specs.declared.opening.ItemKeyword.{ItemKeyword}
use Rattle.nest_grammar.specs.declared.opening.ItemKeyword.TheVariants as word
use Rattle.nest_grammar.specs.declared.script.CommandWord.{CommandWord}
use Rattle.nest_grammar.specs.declared.script.CommandWord.TheVariants as verb
use Rattle.nest_grammar.specs.Limits.{most_tokens, most_open, most_accesses, most_lets, most_ifs, most_words, most_scalars, most_nests, most_depth, most_candidates, most_commands, most_rows}
use Rattle.nest_tokens.specs.Ahead.{first, rest}
use Rattle.nest_grammar.specs.Sights.{Sight, stands, here, skip, spend, afresh, opens, numbered, bound, in_block, of_version}
use Rattle.nest_grammar.specs.Readings.{Reading, ◌>>=◌, gives, refused, wrong, skipped, need, obeys, fewer, number_at, number_where, number, with_sign, minus, signed_where, signed, at_mark, many, end_at, end, always}
use Rattle.nest_grammar.specs.Names.{Names, declared, place_of, unless_known, fresh_at, fresh, if_scalar, target, names_of}
use Rattle.nest_grammar.specs.Expressions.{start_of, product_of, addition_of, comparison_of, taken, closed, access, access_number, if_visible, operand, operated, parts, compared_at, compared, unary, term, sum, expr, expression}
use Rattle.nest_grammar.specs.Statements.{opening_of, local_room, local_number, braced, else_at, else_of, branches, statement, another, listed, statements, with_lets, block_begins, block}
use Rattle.nest_grammar.specs.Loops.{loop_keyword, Loops, not_zero, stride_at, stride, heading, inside, rest_at, rest_of, has_any, body_end, around, loop_of, loop_at, loops}
use Rattle.nest_grammar.specs.Scripts.{Script, command_word, may_follow, ruled, row, is_factor, is_size, row_begins, next_row, rows, operands, command_at, command, next_command, script_at, script, candidate, candidates}
use Rattle.nest_grammar.specs.Contents.{set_version, version_at, version, scalar, scalars, memory, item_keyword, value_begins, data_value, next_value, data_values, ramp_fits, item_of, item, items, outermost, unit, next_unit, other_units, units, contents}
use Rattle.nest_grammar.proofs.PartAfterPartLaws.{Takes, Parts, bind-ok}
use Rattle.nest_grammar.proofs.LocalLaws.{elsewhere, Local, no-longer-local, behind, local-gives, local-counts, local-refused, local-skipped, local-by, local-of, local-if, local-wrong, local-many}

-- A part of a loop: it depends on nothing behind the token where it stops, and takes one at least.
pub record IsPart {A : Type 0} (r : Reading A) : Type 0 where
  pub local : Local r
  pub takes : Takes r

-- it stays at the token where it begins
abbrev pub Still : {A : Type 0} → Reading A → Type 0
Still {A} r = (s : Sight) (x : A × Sight) → r s ≡ Ok x → (x.1.left ≡ s.left) × (x.1.size ≡ s.size)

still-here : (s t : Sight) → t.left ≡ s.left → t.size ≡ s.size → stands t ≡ stands s
unfolding here
still-here s t a b = ap (λ (l : List Spot). (first t.size l).token) a ∙ ap (λ (n : ℕ). (first n s.left).token) b

-- the first of two takes a token
pub starts : {A B : Type 0} {r : Reading A} {f : A → Reading B} → IsPart r → ((a : A) → Local (f a)) → IsPart (r >>= f)
starts {A} {B} {r} {f} p h = record {
  local = behind p.local h;
  takes = λ s y real e. (
      let x = bind-ok (r s) f y e in
      let a : length x.0.1.left < length s.left = p.takes s x.0 real x.1 in
      let b : length y.1.left ≤ length x.0.1.left = no-longer-local (h x.0.0) x.0.1 y x.2 in omega arith);
}

-- the second of two takes a token
pub waits : {A B : Type 0} {r : Reading A} {f : A → Reading B} → Local r → Still r → ((a : A) → IsPart (f a)) → IsPart (r >>= f)
waits {A} {B} {r} {f} l q h = record {
  local = behind l (λ a. (h a).local);
  takes = λ s y real e. (
      let x = bind-ok (r s) f y e in
      let v = q s x.0 x.1 in
      let t : stands x.0.1 ≡ stands s = still-here s x.0.1 v.0 v.1 in
      let b : length y.1.left < length x.0.1.left = (h x.0.0).takes x.0.1 y (λ k. real (sym t ∙ k)) x.2 in
      let a : length x.0.1.left ≡ length s.left = ap (λ (z : List Spot). length z) v.0 in omega arith);
}

pub part-skipped : IsPart skipped
unfolding skip here
part-skipped = record {
  local = local-skipped;
  takes = λ s x real e. (let k : x ≡ (tt, skip s) = cc in rw k (elim s.left as (λ l. ((first s.size l).token ≡ token.End → ⊥) → length (rest l) < length l) [ [] ↦ λ q. absurd (q refl) | y ∷ ys ↦ λ q. omega arith ] real));
}

pub part-refused : {A : Type 0} (what : TextKind) → IsPart (refused {A = A} what)
unfolding refused
part-refused what = record { local = local-refused what; takes = λ s x real e. absurd (cc) }

pub part-by : {A : Type 0} (f : Token → Reading A) → ((t : Token) → IsPart (f t)) → IsPart (λ s. f (stands s) s)
part-by f h = record { local = local-by f (λ t. (h t).local); takes = λ s. (h (stands s)).takes s }

pub part-of : {A S : Type 0} (f : Sight → S) (go : S → Reading A) → ((s : Sight) (n : ℕ) (k : List Spot) → f (elsewhere s n k) ≡ f s) → ((x : S) → IsPart (go x)) → IsPart (λ s. go (f s) s)
part-of f go same h = record { local = local-of f go same (λ x. (h x).local); takes = λ s. (h (f s)).takes s }

pub part-if : {A : Type 0} (b : Bool) (p q : Reading A) → IsPart p → IsPart q → IsPart (λ s. if b then p s else q s)
part-if true p q hp hq = hp
part-if false p q hp hq = hq

pub part-wrong : {A : Type 0} → IsPart (wrong {A = A})
part-wrong {A} = record { local = local-wrong; takes = λ s x real e. (part-refused _).takes s x real e }

-- Readings

pub local-obeys : (rule : Bool) (what : TextKind) → Local (obeys rule what)
unfolding obeys
local-obeys rule what = local-if rule (gives tt) (refused what) (local-gives tt) (local-refused what)

pub still-obeys : (rule : Bool) (what : TextKind) → Still (obeys rule what)
unfolding obeys refused
still-obeys true what s x e = let k : x ≡ (tt, s) = cc in rw k (refl, refl)
still-obeys false what s x e = absurd (cc)

pub local-fewer : (used most : ℕ) → Local (fewer used most)
local-fewer used most = local-obeys (nat_lt used most) kind.Many

pub part-need : (m : Mark) → IsPart (need m)
unfolding need
part-need m = part-by (λ t s. if is_mark m t then Ok (tt, skip s) else wrong s) (λ t. part-if (is_mark m t) skipped wrong part-skipped part-wrong)

pub local-need : (m : Mark) → Local (need m)
local-need m = (part-need m).local

part-number_at : (rule : ℕ → Bool) (what : TextKind) (t : Token) → IsPart (number_at rule what t)
part-number_at rule what (token.Number n) = waits (local-obeys (rule n) what) (still-obeys (rule n) what) (λ _. starts part-skipped (λ _. local-gives n))
part-number_at rule what _ = part-wrong

pub part-number_where : (rule : ℕ → Bool) (what : TextKind) → IsPart (number_where rule what)
unfolding number_where
part-number_where rule what = part-by (number_at rule what) (part-number_at rule what)

pub local-number_where : (rule : ℕ → Bool) (what : TextKind) → Local (number_where rule what)
local-number_where rule what = (part-number_where rule what).local

pub local-number : Local number
local-number = local-number_where (λ n. true) kind.Range

pub local-minus : Local minus
unfolding minus
local-minus = local-by (λ t s. if is_mark mark.Minus t then Ok (true, skip s) else Ok (false, s)) (λ t. local-if (is_mark mark.Minus t) (skipped >>= λ _. gives true) (gives false) (behind local-skipped (λ _. local-gives true)) (local-gives false))

pub local-signed_where : (rule : ℤ → Bool) (what : TextKind) → Local (signed_where rule what)
unfolding signed_where
local-signed_where rule what = behind local-minus (λ negative. behind (local-number_where (λ n. rule (with_sign negative n)) what) (λ n. local-gives (with_sign negative n)))

pub local-signed : Local signed
local-signed = local-signed_where (λ v. true) kind.Range

local-end_at : (t : Token) → Local (end_at t)
local-end_at token.End = local-gives tt
local-end_at _ = local-wrong

pub local-end : Local end
unfolding end
local-end = local-by end_at local-end_at

-- Names

local-unless_known : (n : Name) (o : Option Place) → Local (unless_known n o)
local-unless_known n None = behind local-skipped (λ _. local-gives n)
local-unless_known n (Some p) = local-refused kind.Known

local-fresh_at : (names : Names) (t : Token) → Local (fresh_at names t)
local-fresh_at names (token.Name n) = local-unless_known n (place_of names n)
local-fresh_at names _ = local-wrong

pub local-fresh : (names : Names) → Local (fresh names)
unfolding fresh
local-fresh names = local-by (fresh_at names) (local-fresh_at names)

part-if_scalar : (o : Option Place) → IsPart (if_scalar o)
part-if_scalar (Some (place.Scalar k)) = starts part-skipped (λ _. local-gives k)
part-if_scalar (Some _) = part-refused kind.Fixed
part-if_scalar None = part-refused kind.Unknown

pub part-target : (names : Names) (n : Name) → IsPart (target names n)
unfolding target
part-target names n = part-if_scalar (place_of names n)

-- Expressions

counted : (g : Sight → Sight) → Reading (Unit {0})
counted g s = Ok (tt, g s)

pub part-taken : IsPart taken
unfolding taken counted skip
part-taken = part-of (λ s. nat_lt s.spent most_tokens) (λ b s. if b then Ok (tt, spend s) else refused kind.Deep s) (λ s n k. refl)
    (λ b. part-if b (skipped >>= λ _. counted (λ s. record s { spent = s.spent + 1 })) (refused kind.Deep) (starts part-skipped (λ _. local-counts tt (λ s. record s { spent = s.spent + 1 }) (λ s. refl) (λ s. refl) (λ s n k. refl))) (part-refused kind.Deep))

pub local-closed : (m : Mark) → Local (closed m)
unfolding closed
local-closed m = local-by (λ t s. if is_mark m t then taken s else wrong s) (λ t. local-if (is_mark m t) taken wrong part-taken.local local-wrong)

pub local-access : Local access
unfolding access
local-access = local-of (λ s. nat_lt s.opened (most_accesses s.version)) (λ b s. if b then Ok (tt, opens s) else refused kind.Many s) (λ s n k. refl)
    (λ b. local-if b (λ s. Ok (tt, opens s)) (refused kind.Many) (local-counts tt opens (λ s. refl) (λ s. refl) (λ s n k. refl)) (local-refused kind.Many))

pub still-access : Still access
unfolding access refused
still-access s x e = elim (nat_lt s.opened (most_accesses s.version)) as (λ b. cond b (Ok (tt, opens s)) (refused kind.Many s) ≡ Ok x → (x.1.left ≡ s.left) × (x.1.size ≡ s.size)) [
  | true ↦ λ k. (let q : x ≡ (tt, opens s) = cc in rw q (refl, refl))
  | false ↦ λ k. absurd (cc)
] e

pub local-access_number : Local access_number
local-access_number = local-of (λ s. s.accesses) (λ c s. Ok (c + 1, numbered s)) (λ s n k. refl) (λ c. local-counts (c + 1) numbered (λ s. refl) (λ s. refl) (λ s n k. refl))

local-if_visible : (o : Option Place) → Local (if_visible o)
local-if_visible (Some p) = behind part-taken.local (λ _. local-gives (Var p))
local-if_visible None = local-refused kind.Unknown

local-operand : (names : Names) (u e : Reading Expr) → Local u → Local e → (st : Start) → Local (operand names u e st)
local-operand names u e hu he (start.Number n) = behind part-taken.local (λ _. local-gives (Number (pos n)))
local-operand names u e hu he (start.Name n) = local-if_visible (place_of names n)
local-operand names u e hu he start.Minus = behind hu (λ a. local-gives (Neg a))
local-operand names u e hu he start.Open = behind he (λ a. behind (local-closed mark.Close) (λ _. local-gives a))
local-operand names u e hu he start.Bracket = behind local-access (λ _. behind he (λ a. behind (local-closed mark.CloseBracket) (λ _. behind local-access_number (λ k. local-gives (Load k a)))))
local-operand names u e hu he start.Other = local-wrong

pub part-operated : (part : Reading Expr) → Local part → (o : Op) (a : Expr) → IsPart (operated part o a)
part-operated part h o a = starts part-taken (λ _. behind h (λ b. local-gives (Two o a b)))

pub parts-operated : (operator : Token → Option Op) (part : Reading Expr) → operator token.End ≡ None → Local part → Parts operator (operated part)
parts-operated operator part none h = record { none = none; takes = λ o a. (part-operated part h o a).takes }

pub local-parts : (operator : Token → Option Op) (part : Reading Expr) → operator token.End ≡ None → Local part → Local (parts operator part)
local-parts operator part none h = behind h (local-many operator (operated part) (parts-operated operator part none h) (λ o a. (part-operated part h o a).local))

local-compared_at : (part : Reading Expr) → Local part → (a : Expr) (o : Option Op) → Local (compared_at part a o)
local-compared_at part h a None = local-gives a
local-compared_at part h a (Some o) = (part-operated part h o a).local

pub local-compared : (part : Reading Expr) → Local part → Local (compared part)
local-compared part h = behind h (λ a. local-by (λ t. compared_at part a (comparison_of t)) (λ t. local-compared_at part h a (comparison_of t)))

pub local-unary : (names : Names) (d : ℕ) → Local (unary names d)
unfolding unary product_of addition_of
local-unary names zero = local-by (λ t. operand names (refused kind.Deep) (refused kind.Deep) (start_of t)) (λ t. local-operand names (refused kind.Deep) (refused kind.Deep) (local-refused kind.Deep) (local-refused kind.Deep) (start_of t))
local-unary names (suc d) =
    let u : Local (unary names d) = local-unary names d in
    let e : Local (compared (parts addition_of (parts product_of (unary names d)))) = local-compared _ (local-parts addition_of (parts product_of (unary names d)) refl (local-parts product_of (unary names d) refl u)) in
    local-by (λ t. operand names (taken >>= λ _. unary names d) (taken >>= λ _. compared (parts addition_of (parts product_of (unary names d)))) (start_of t))
    (λ t. local-operand names (taken >>= λ _. unary names d) (taken >>= λ _. compared (parts addition_of (parts product_of (unary names d)))) (behind part-taken.local (λ _. u)) (behind part-taken.local (λ _. e)) (start_of t))

pub local-term : (names : Names) (d : ℕ) → Local (term names d)
unfolding term product_of
local-term names d = local-parts product_of (unary names d) refl (local-unary names d)

pub local-sum : (names : Names) (d : ℕ) → Local (sum names d)
unfolding sum addition_of
local-sum names d = local-parts addition_of (term names d) refl (local-term names d)

pub local-expr : (names : Names) (d : ℕ) → Local (expr names d)
unfolding expr
local-expr names d = local-compared (sum names d) (local-sum names d)

pub local-expression : (names : Names) → Local (expression names)
unfolding expression counted
local-expression names = behind {r = counted afresh} (local-counts tt afresh (λ s. refl) (λ s. refl) (λ s n k. refl)) (λ _. local-expr names most_open)

-- Statements

pub local-local_room : Local local_room
local-local_room = local-of (λ s. length s.lets) (λ c. fewer c most_lets) (λ s n k. refl) (λ c. local-fewer c most_lets)

pub still-local_room : Still local_room
still-local_room s x e = still-obeys (nat_lt (length s.lets) most_lets) kind.Many s x e

pub local-local_number : (n : Name) → Local (local_number n)
local-local_number n = local-of (λ s. length s.lets) (λ c s. Ok (c, bound n s)) (λ s m k. refl) (λ c. local-counts c (bound n) (λ s. refl) (λ s. refl) (λ s m k. refl))

pub local-braced : (list : Reading (List Stmt)) → Local list → Local (braced list)
local-braced list h = behind (local-need mark.OpenBrace) (λ _. behind h (λ xs. behind (local-need mark.CloseBrace) (λ _. local-gives xs)))

local-else_at : (list : Reading (List Stmt)) → Local list → (b : Bool) → Local (else_at list b)
local-else_at list h true = behind local-skipped (λ _. local-braced list h)
local-else_at list h false = local-gives []

pub local-else_of : (list : Reading (List Stmt)) → Local list → Local (else_of list)
local-else_of list h = local-by (λ t. else_at list (is_mark mark.Else t)) (λ t. local-else_at list h (is_mark mark.Else t))

pub local-branches : (names : Names) (list : Reading (List Stmt)) → Local list → Local (branches names list)
local-branches names list h = behind (local-expression names) (λ e. behind (local-braced list h) (λ xs. behind (local-else_of list h) (λ ys. local-gives (If e xs ys))))

pub part-statement : (branch : Reading Stmt) → IsPart branch → (names : Names) (o : Opening) → IsPart (statement branch names o)
part-statement branch h names opening.Let = waits local-local_room still-local_room (λ _. starts part-skipped (λ _. behind (local-fresh names) (λ n. behind (local-local_number n) (λ k. behind (local-need mark.Assign) (λ _. behind (local-expression names) (λ e. local-gives (Let k e, names ++ declared n (place.Local k) ∷ [])))))))
part-statement branch h names (opening.Name n) = starts (part-target names n) (λ k. behind (local-need mark.Assign) (λ _. behind (local-expression names) (λ e. local-gives (Set k e, names))))
part-statement branch h names opening.Store = waits local-access still-access (λ _. starts part-skipped (λ _. behind (local-expression names) (λ a. behind (local-need mark.CloseBracket) (λ _. behind (local-need mark.Assign) (λ _. behind (local-expression names) (λ e. behind local-access_number (λ k. local-gives (Store k a e, names))))))))
part-statement branch h names opening.If = starts h (λ st. local-gives (st, names))

pub part-another : (branch : Names → Reading Stmt) → ((ns : Names) → IsPart (branch ns)) → (o : Opening) (x : List Stmt × Names) → IsPart (another branch o x)
part-another branch h o x = starts (part-statement (branch x.1) (h x.1) x.1 o) (λ y. local-gives (x.0 ++ y.0 ∷ [], y.1))

pub parts-another : (branch : Names → Reading Stmt) → ((ns : Names) → IsPart (branch ns)) → Parts opening_of (another branch)
unfolding opening_of
parts-another branch h = record { none = refl; takes = λ o x. (part-another branch h o x).takes }

pub local-listed : (branch : Names → Reading Stmt) → ((ns : Names) → IsPart (branch ns)) → (names : Names) → Local (listed branch names)
local-listed branch h names = behind (local-many opening_of (another branch) (parts-another branch h) (λ o x. (part-another branch h o x).local) ([], names)) (λ x. local-gives x.0)

pub local-statements : (d : ℕ) (names : Names) → Local (statements d names)
unfolding statements
local-statements zero names = local-listed (λ ns. refused kind.Deep) (λ ns. part-refused kind.Deep) names
local-statements (suc d) names = local-listed (λ ns. skipped >>= λ _. branches ns (statements d ns)) (λ ns. starts part-skipped (λ _. local-branches ns (statements d ns) (local-statements d ns))) names

local-with_lets : (xs : List Stmt) → Local (with_lets xs)
local-with_lets xs = local-of (λ s. s.lets) (λ ls s. Ok ((xs, ls), s)) (λ s n k. refl) (λ ls. local-gives (xs, ls))

pub local-block_begins : Local block_begins
local-block_begins = local-counts tt in_block (λ s. refl) (λ s. refl) (λ s n k. refl)

pub local-block : (names : Names) → Local (block names)
unfolding block
local-block names = behind local-block_begins (λ _. behind (local-statements most_ifs names) local-with_lets)

-- Loops

local-stride_at : (b : Bool) → Local (stride_at b)
local-stride_at true = behind local-skipped (λ _. local-signed_where not_zero kind.Range)
local-stride_at false = local-gives (pos 1)

pub local-stride : Local stride
local-stride = local-by (λ t. stride_at (is_mark mark.Step t)) (λ t. local-stride_at (is_mark mark.Step t))

pub part-heading : (names : Names) (w : LoopKeyword) → IsPart (heading names w)
part-heading names loop.For = starts part-skipped (λ _. behind (local-fresh names) (λ n. behind (local-need mark.Assign) (λ _. behind local-block_begins (λ _. behind (local-expression names) (λ lower. behind (local-need mark.Below) (λ _. behind (local-expression names) (λ upper. behind local-stride (λ k. local-gives (head.For lower upper k, Some n)))))))))
part-heading names loop.While = starts part-skipped (λ _. behind local-block_begins (λ _. behind (local-expression names) (λ e. local-gives (head.While e, None))))

local-rest_at : (go : Reading Loops) → Local go → (names : Names) (o : Option LoopKeyword) → Local (rest_at go names o)
local-rest_at go h names (Some w) = behind h (λ ls. behind (local-block names) (λ post. local-gives (ls, post)))
local-rest_at go h names None = local-gives (([], []), ([], []))

pub local-rest_of : (go : Reading Loops) → Local go → (names : Names) → Local (rest_of go names)
local-rest_of go h names = local-by (λ t. rest_at go names (loop_keyword t)) (λ t. local-rest_at go h names (loop_keyword t))

pub local-body_end : (pre : List Stmt) (ls : List Loop) → Local (body_end pre ls)
unfolding body_end
local-body_end pre ls = local-by (λ t s. if is_mark mark.CloseBrace t then (obeys (has_any pre ls) kind.Empty >>= λ _. skipped) s else wrong s) (λ t. local-if (is_mark mark.CloseBrace t) (obeys (has_any pre ls) kind.Empty >>= λ _. skipped) wrong (behind (local-obeys (has_any pre ls) kind.Empty) (λ _. local-skipped)) local-wrong)

pub part-loop_of : (inner : Names → Reading Loops) → ((ns : Names) → Local (inner ns)) → (level : ℕ) (names : Names) (w : LoopKeyword) → IsPart (loop_of inner level names w)
part-loop_of inner hi level names w = starts (part-heading names w) (λ h. behind (local-need mark.OpenBrace) (λ _. behind (local-block (inside names level h.1)) (λ pre. behind (local-rest_of (inner (inside names level h.1)) (hi (inside names level h.1)) (inside names level h.1)) (λ x. behind (local-body_end pre.0 x.0.0) (λ _. local-gives (around h pre x))))))

part-loop_at : (go : LoopKeyword → Reading Loops) → ((w : LoopKeyword) → IsPart (go w)) → (o : Option LoopKeyword) → IsPart (loop_at go o)
part-loop_at go h (Some w) = h w
part-loop_at go h None = part-wrong

pub part-loops : (d level : ℕ) (names : Names) → IsPart (loops d level names)
unfolding loops
part-loops zero level names = part-by (λ t. loop_at (λ w. refused kind.Deep) (loop_keyword t)) (λ t. part-loop_at (λ w. refused kind.Deep) (λ w. part-refused kind.Deep) (loop_keyword t))
part-loops (suc d) level names =
    let h : (ns : Names) → IsPart (loops d (suc level) ns) = part-loops d (suc level) in
    part-by (λ t. loop_at (loop_of (loops d (suc level)) level names) (loop_keyword t)) (λ t. part-loop_at (loop_of (loops d (suc level)) level names) (part-loop_of (loops d (suc level)) (λ ns. (h ns).local) level names) (loop_keyword t))

-- Scripts

pub part-row : (depth : ℕ) → IsPart (row depth)
part-row depth = part-number_where _ kind.Script

pub local-ruled : (rule : ℕ → Bool) → Local (ruled rule)
local-ruled rule = local-number_where rule kind.Script

pub part-next_row : (depth : ℕ) (u : Unit {0}) (ns : List ℕ) → IsPart (next_row depth ns)
part-next_row depth u ns = waits (local-obeys (nat_lt (length ns) most_rows) kind.Script) (still-obeys (nat_lt (length ns) most_rows) kind.Script) (λ _. starts (part-row depth) (λ n. local-gives (ns ++ n ∷ [])))

pub parts-next_row : (depth : ℕ) → Parts row_begins (always (next_row depth))
unfolding row_begins
parts-next_row depth = record { none = refl; takes = λ u ns. (part-next_row depth u ns).takes }

pub local-rows : (depth : ℕ) → Local (rows depth)
unfolding rows
local-rows depth = behind (part-row depth).local (λ n. local-many row_begins (always (next_row depth)) (parts-next_row depth) (λ u ns. (part-next_row depth u ns).local) (n ∷ []))

pub local-operands : (depth : ℕ) (w : CommandWord) → Local (operands depth w)
unfolding operands
local-operands depth verb.Seq = behind (local-ruled _) (λ n. local-gives _)
local-operands depth verb.Swap = behind (local-ruled _) (λ a. behind (local-ruled _) (λ b. local-gives _))
local-operands depth verb.Skew = behind (local-ruled _) (λ a. behind (local-ruled _) (λ b. behind (local-signed_where is_factor kind.Script) (λ m. local-gives _)))
local-operands depth verb.Tile = behind (local-ruled _) (λ a. behind (local-ruled is_size) (λ n. local-gives _))
local-operands depth verb.Par = behind (local-rows depth) (λ ns. local-gives _)
local-operands depth verb.Wave = behind (local-rows depth) (λ ns. local-gives _)

local-command_at : (depth : ℕ) (cs : Script) (o : Option CommandWord) → Local (command_at depth cs o)
local-command_at depth cs (Some w) = behind (local-fewer (length cs) most_commands) (λ _. behind (local-obeys (may_follow w cs) kind.Script) (λ _. behind local-skipped (λ _. local-operands depth w)))
local-command_at depth cs None = local-wrong

pub local-command : (depth : ℕ) (cs : Script) → Local (command depth cs)
unfolding command
local-command depth cs = behind (local-by (λ t. command_at depth cs (command_word t)) (λ t. local-command_at depth cs (command_word t))) (λ c. local-gives (cs ++ c ∷ []))

pub part-next_command : (depth : ℕ) (u : Unit {0}) (cs : Script) → IsPart (next_command depth cs)
part-next_command depth u cs = starts part-skipped (λ _. local-command depth cs)

pub parts-at_mark : {A : Type 0} (m : Mark) (part : Unit {0} → A → Reading A) → ((u : Unit {0}) (a : A) → IsPart (part u a)) → Parts (at_mark m) part
unfolding is_mark
parts-at_mark m part h = record { none = refl; takes = λ u a. (h u a).takes }

pub local-at_mark : {A : Type 0} (m : Mark) (part : Unit {0} → A → Reading A) → ((u : Unit {0}) (a : A) → IsPart (part u a)) → (a : A) → Local (many (at_mark m) part a)
local-at_mark m part h = local-many (at_mark m) part (parts-at_mark m part h) (λ u a. (h u a).local)

local-script_at : (depth : ℕ) (b : Bool) → Local (script_at depth b)
local-script_at depth true = behind local-skipped (λ _. local-gives [])
local-script_at depth false = behind (behind (local-command depth []) (local-at_mark mark.Semicolon (always (next_command depth)) (part-next_command depth))) (λ cs. behind (local-need mark.CloseBrace) (λ _. local-gives cs))

pub local-script : (depth : ℕ) → Local (script depth)
unfolding script
local-script depth = behind (local-need mark.OpenBrace) (λ _. local-by (λ t. script_at depth (is_mark mark.CloseBrace t)) (λ t. local-script_at depth (is_mark mark.CloseBrace t)))

pub part-candidate : (depth : ℕ) (u : Unit {0}) (scripts : List Script) → IsPart (candidate depth scripts)
part-candidate depth u scripts = waits (local-fewer (length scripts) most_candidates) (still-obeys _ kind.Many) (λ _. starts part-skipped (λ _. behind (local-script depth) (λ cs. local-gives (scripts ++ cs ∷ []))))

pub local-candidates : (depth : ℕ) → Local (candidates depth)
unfolding candidates
local-candidates depth = local-at_mark mark.Candidate (always (candidate depth)) (part-candidate depth) []

-- Contents

local-set_version : (v : Version) → Local (set_version v)
local-set_version v = behind {r = skipped} {f = λ _ s. Ok (v, of_version v s)} local-skipped (λ _. local-counts v (of_version v) (λ s. refl) (λ s. refl) (λ s n k. refl))

local-choice : {A : Type 0} (b : Bool) (p q : Reading A) → Local p → Local q → Local (if b then p else q)
local-choice true p q hp hq = hp
local-choice false p q hp hq = hq

local-version_at : (t : Token) → Local (version_at t)
local-version_at (token.Number n) = local-choice (n == 1) (set_version One) (if n == 2 then set_version SecondVersion else refused kind.Version) (local-set_version One) (local-choice (n == 2) (set_version SecondVersion) (refused kind.Version) (local-set_version SecondVersion) (local-refused kind.Version))
local-version_at _ = local-wrong

pub local-version : Local version
unfolding version
local-version = behind (local-need mark.Nest) (λ _. local-by version_at local-version_at)

pub part-scalar : (u : Unit {0}) (cs : List Scalar) → IsPart (scalar cs)
part-scalar u cs = waits (local-fewer (length cs) most_scalars) (still-obeys _ kind.Many) (λ _. starts part-skipped (λ _. behind (local-fresh (names_of cs)) (λ n. behind (local-need mark.Assign) (λ _. behind local-signed (λ v. local-gives (cs ++ record { name = n; value = v } ∷ []))))))

pub local-scalars : Local scalars
unfolding scalars
local-scalars = local-at_mark mark.Scalar (always scalar) part-scalar []

pub local-memory : Local memory
unfolding memory
local-memory = behind (local-need mark.Memory) (λ _. local-number_where (λ n. nat_le n most_words) kind.Range)

pub local-data_value : (words address : ℕ) → Local (data_value words address)
unfolding data_value
local-data_value words address = local-by (λ t s. if value_begins t then (obeys (nat_lt address words) kind.Range >>= λ _. signed) s else wrong s) (λ t. local-if (value_begins t) (obeys (nat_lt address words) kind.Range >>= λ _. signed) wrong (behind (local-obeys (nat_lt address words) kind.Range) (λ _. local-signed)) local-wrong)

pub part-next_value : (words address : ℕ) (u : Unit {0}) (vs : List ℤ) → IsPart (next_value words address vs)
part-next_value words address u vs = starts part-skipped (λ _. behind (local-data_value words (address + length vs)) (λ v. local-gives (vs ++ v ∷ [])))

pub local-data_values : (words address : ℕ) → Local (data_values words address)
unfolding data_values
local-data_values words address = behind (local-data_value words address) (λ v. local-at_mark mark.Comma (always (next_value words address)) (part-next_value words address) (v ∷ []))

pub local-item_of : (words : ℕ) (w : ItemKeyword) → Local (item_of words w)
unfolding item_of
local-item_of words word.Data = behind local-number (λ first. behind (local-need mark.Colon) (λ _. behind (local-data_values words first) (λ vs. local-gives (Data first vs))))
local-item_of words word.Ramp = behind local-number (λ first. behind local-number (λ count. behind (local-number_where (λ n. not (n == 0)) kind.Range) (λ stride. behind local-signed (λ start. behind (local-signed_where (ramp_fits words first count stride start) kind.Range) (λ growth. local-gives (Ramp first count stride start growth))))))

pub part-item : (words : ℕ) (w : ItemKeyword) (is : List Item) → IsPart (item words w is)
part-item words w is = starts part-skipped (λ _. behind (local-item_of words w) (λ i. local-gives (is ++ i ∷ [])))

pub parts-item : (words : ℕ) → Parts item_keyword (item words)
unfolding item_keyword
parts-item words = record { none = refl; takes = λ w is. (part-item words w is).takes }

pub local-items : (words : ℕ) → Local (items words)
unfolding items
local-items words = local-many item_keyword (item words) (parts-item words) (λ w is. (part-item words w is).local) []

pub part-outermost : (names : Names) → IsPart (outermost names)
part-outermost names = part-of (λ s. s.version) (λ v. loops (most_depth v) 0 names) (λ s n k. refl) (λ v. part-loops (most_depth v) 0 names)

pub part-unit : (names : Names) → IsPart (unit names)
unfolding unit
part-unit names = starts (part-outermost names) (λ ls. behind (local-candidates (length ls.0)) (λ scripts. local-gives (record { nest = record { loops = ls.0 }; names = ls.1; scripts = scripts })))

pub part-next_unit : (names : Names) (w : LoopKeyword) (us : List NestUnit) → IsPart (next_unit names w us)
part-next_unit names w us = waits (local-fewer (length us) most_nests) (still-obeys _ kind.Many) (λ _. starts (part-unit names) (λ u. local-gives (us ++ u ∷ [])))

pub parts-next_unit : (names : Names) → Parts loop_keyword (next_unit names)
unfolding loop_keyword
parts-next_unit names = record { none = refl; takes = λ w us. (part-next_unit names w us).takes }

local-other_units : (v : Version) (names : Names) (us : List NestUnit) → Local (other_units v names us)
local-other_units One names us = local-gives us
local-other_units SecondVersion names us = local-many loop_keyword (next_unit names) (parts-next_unit names) (λ w us. (part-next_unit names w us).local) us

pub local-units : (v : Version) (names : Names) → Local (units v names)
unfolding units
local-units v names = behind (part-unit names).local (λ u. local-other_units v names (u ∷ []))

-- a whole file
pub local-contents : Local contents
unfolding contents
local-contents = behind local-version (λ v. behind local-scalars (λ cs. behind local-memory (λ words. behind (local-items words) (λ is. behind (local-units v (names_of cs)) (λ us. behind local-end (λ _. local-gives (record { version = v; scalars = cs; words = words; items = is; units = us })))))))
