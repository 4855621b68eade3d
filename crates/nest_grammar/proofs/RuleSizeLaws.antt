-- Rules: a block has no more statements than a text has tokens, and those are no more than its bytes.
use Rattle.std.proofs.Common.{◌≡◌, ap, sym, ℕ, zero, suc, ◌+◌, ◌≤◌, ℤ, List, [], ◌∷◌, length, drop, arith, Option, false}
use Rattle.nest_lang.specs.declared.tree.Expr.{Expr}
use Rattle.nest_lang.specs.declared.tree.Stmt.{Stmt}
use Rattle.nest_lang.specs.declared.tree.Head.{Head}
use Rattle.nest_lang.specs.declared.tree.Loop.{Loop}
use Rattle.nest_lang.specs.Places.{statement_size, block_size}
use Rattle.nest_lang.proofs.PlaceLaws.{statement_size-let, statement_size-set, statement_size-store, statement_size-if, block_size-nil, block_size-push}
use Rattle.nest_tokens.specs.declared.token.Name.{Name}
use Rattle.nest_tokens.specs.declared.token.Token.{Token}
use Rattle.nest_tokens.specs.declared.token.Token.TheVariants as token
use Rattle.nest_tokens.specs.declared.token.Spot.{Spot}
use Rattle.nest_tokens.specs.Ahead.{first, rest}
use Rattle.nest_tokens.specs.Lexing.{lexed, spots_at, spots, tokens_from, tokens, gap}
use Rattle.nest_lang.specs.declared.command.Command.{Command}
use Rattle.nest_grammar.specs.declared.version.Version.{Version}
use Rattle.nest_grammar.specs.declared.file.Scalar.{Scalar}
use Rattle.nest_grammar.specs.declared.file.Item.{Item}
use Rattle.nest_grammar.specs.declared.file.LoopNames.{LoopNames}
use Rattle.nest_grammar.specs.declared.file.NestUnit.{NestUnit}
use Rattle.nest_grammar.specs.Scripts.{Script}
use Rattle.nest_grammar.specs.Sights.{Sight, here, stands, skip, beyond, afresh, opens}
use Rattle.nest_grammar.specs.Names.{Names}
use Rattle.nest_grammar.specs.Grammar.{Precedence, Is, IsExpression, IsStmt, IsBraced, IsList, IsBlock, IsStride, unwritten, written, IsSigned, unsigned, negative, IsHeading, counting, asking, IsLoops, IsRows, IsCommand, IsCommands, IsScript, IsCandidates, IsUnit, IsUnits, IsScalars, IsValues, IsItem, IsItems, IsVersion}
use Rattle.nest_grammar.specs.Grammar as grammar

-- how many tokens are left
abbrev pub Left : Sight → ℕ
Left s = length s.left

rest-left : (xs : List Spot) → length (rest xs) ≤ length xs
rest-left [] = omega arith
rest-left (x ∷ xs) = omega arith

-- past a token no more are left, and past one that stands there, one less
pub skip-left : (s : Sight) → Left (skip s) ≤ Left s
unfolding skip
skip-left s = rest-left s.left

pub sees-left : (s : Sight) (t : Token) → stands s ≡ t → (t ≡ token.End → ⊥) → suc (Left (skip s)) ≤ Left s
unfolding skip here
sees-left s t e real = elim s.left as (λ l. (first s.size l).token ≡ t → suc (length (rest l)) ≤ length l) [
  | [] ↦ λ k. absurd (real (sym k))
  | x ∷ xs ↦ λ k. omega arith
] e

expression-left : {names : Names} {p : Precedence} {d : ℕ} {s : Sight} {e : Expr} {t : Sight} → Is names p d s e t → Left t ≤ Left s
unfolding skip
expression-left (grammar.number {s = s} h r) = rest-left s.left
expression-left (grammar.variable {s = s} h f r) = rest-left s.left
expression-left (grammar.minus {s = s} h r i) = let one = rest-left s.left in let more = expression-left i in omega (arith, one, more)
expression-left (grammar.parens {s = s} {t = t} h r i k o) = let one = rest-left s.left in let last = rest-left t.left in let more = expression-left i in omega (arith, one, last, more)
expression-left (grammar.load {s = s} {t = t} h a r i k o) = let one = rest-left s.left in let last = rest-left t.left in let more = expression-left i in omega (arith, one, last, more)
expression-left (grammar.factor i) = expression-left i
expression-left (grammar.product {t = t} i k r j) = let one = expression-left i in let mid = rest-left t.left in let more = expression-left j in omega (arith, one, mid, more)
expression-left (grammar.summand i) = expression-left i
expression-left (grammar.addition {t = t} i k r j) = let one = expression-left i in let mid = rest-left t.left in let more = expression-left j in omega (arith, one, mid, more)
expression-left (grammar.side i) = expression-left i
expression-left (grammar.comparison {t = t} i k r j) = let one = expression-left i in let mid = rest-left t.left in let more = expression-left j in omega (arith, one, mid, more)

-- an address begins behind its bracket
store-address : (s t : Sight) → Left t ≤ Left (afresh (skip (opens s))) → Left t ≤ Left (skip s)
unfolding skip
store-address s t h = h

-- each statement has a token of its own
mutual
  statement-left : {d : ℕ} {names ns : Names} {s t : Sight} {st : Stmt} → IsStmt d names s st ns t → statement_size st + Left t ≤ Left s
  statement-left (grammar.let_ {n = n} {e = e} {s = s} {t = t} {u = u} h l k f q a i) =
      let one = sees-left s _ h (λ x. cc) in
      let two = skip-left (skip s) in
      let to : Left t ≡ Left (skip (skip s)) = ap (λ (x : Sight). Left x) q in
      let sign = skip-left t in
      let more : Left u ≤ Left (skip t) = expression-left i in
      let size = statement_size-let (length s.lets) e in
      omega (arith, one, two, to, sign, more, size)
  statement-left (grammar.set {k = k} {e = e} {s = s} {t = t} h f a i) =
      let one = sees-left s _ h (λ x. cc) in
      let two = skip-left (skip s) in
      let more : Left t ≤ Left (skip (skip s)) = expression-left i in
      let size = statement_size-set k e in
      omega (arith, one, two, more, size)
  statement-left (grammar.store {a = a} {e = e} {s = s} {t = t} {u = u} h l i c k j) =
      let one = sees-left s _ h (λ x. cc) in
      let address : Left t ≤ Left (skip s) = store-address s t (expression-left i) in
      let two = skip-left t in
      let three = skip-left (skip t) in
      let more : Left u ≤ Left (skip (skip t)) = expression-left j in
      let size = statement_size-store (u.accesses + 1) a e in
      omega (arith, one, address, two, three, more, size)
  statement-left (grammar.when {e = e} {xs = xs} {s = s} {t = t} {u = u} h i b) =
      let one = sees-left s _ h (λ x. cc) in
      let condition : Left t ≤ Left (skip s) = expression-left i in
      let branch = braced-left b in
      let size = statement_size-if e xs [] in
      let none = block_size-nil in
      omega (arith, one, condition, branch, size, none)
  statement-left (grammar.either {e = e} {xs = xs} {ys = ys} {s = s} {t = t} {u = u} {v = v} h i b k c) =
      let one = sees-left s _ h (λ x. cc) in
      let condition : Left t ≤ Left (skip s) = expression-left i in
      let branch = braced-left b in
      let sign = skip-left u in
      let other = braced-left c in
      let size = statement_size-if e xs ys in
      omega (arith, one, condition, branch, sign, other, size)

  braced-left : {d : ℕ} {names : Names} {s t : Sight} {xs : List Stmt} → IsBraced d names s xs t → block_size xs + Left t ≤ Left s
  braced-left (grammar.braced {s = s} {t = t} h l c) =
      let one = skip-left s in
      let last = skip-left t in
      let more = list-left l in
      omega (arith, one, last, more)

  list-left : {d : ℕ} {names ns : Names} {s t : Sight} {xs : List Stmt} → IsList d names s xs ns t → block_size xs + Left t ≤ Left s
  list-left grammar.none = omega (arith, block_size-nil)
  list-left (grammar.more {xs = xs} {st = st} l i) =
      let front = list-left l in
      let last = statement-left i in
      let size = block_size-push xs st in
      omega (arith, front, last, size)

pub block-left : {names : Names} {s t : Sight} {xs : List Stmt} {lets : List Name} → IsBlock names s xs lets t → block_size xs + Left t ≤ Left s
block-left (grammar.block l) = list-left l

-- past so many tokens
pub beyond-left : (n : ℕ) (s : Sight) → Left (beyond n s) ≤ Left s
beyond-left zero s = omega arith
beyond-left (suc n) s = let one = skip-left (beyond n s) in let more = beyond-left n s in omega (arith, one, more)

pub signed-left : {s : Sight} {v : ℤ} {t : Sight} → IsSigned s v t → Left t ≤ Left s
signed-left (unsigned {s = s} h) = skip-left s
signed-left (negative {s = s} h k) = beyond-left 2 s

stride-left : {s : Sight} {k : ℤ} {t : Sight} → IsStride s k t → Left t ≤ Left s
stride-left unwritten = omega arith
stride-left (written {s = s} h i n) = let one = skip-left s in let more = signed-left i in omega (arith, one, more)

pub heading-left : {names : Names} {s : Sight} {h : Head} {n : Option Name} {t : Sight} → IsHeading names s h n t → Left t ≤ Left s
heading-left (counting {s = s} {t = t} {u = u} a b f c i d j e) =
    let one = beyond-left 3 s in
    let lower : Left t ≤ Left (beyond 3 s) = expression-left i in
    let two = skip-left t in
    let upper : Left u ≤ Left (skip t) = expression-left j in
    let more = stride-left e in
    omega (arith, one, lower, two, upper, more)
heading-left (asking {s = s} {t = t} a i) =
    let one = skip-left s in
    let more : Left t ≤ Left (skip s) = expression-left i in
    omega (arith, one, more)

pub loops-left : {d level : ℕ} {names : Names} {s : Sight} {ls : List Loop} {ns : List LoopNames} {t : Sight} → IsLoops d level names s ls ns t → Left t ≤ Left s
loops-left (grammar.innermost {s = s} {t = t} {u = u} i o b p c) =
    let one = heading-left i in
    let two = skip-left t in
    let body = block-left b in
    let last = skip-left u in
    omega (arith, one, two, body, last)
loops-left (grammar.outer {s = s} {t = t} {u = u} {v = v} {w = w} i o b l q c) =
    let one = heading-left i in
    let two = skip-left t in
    let before = block-left b in
    let inner = loops-left l in
    let behind = block-left q in
    let last = skip-left w in
    omega (arith, one, two, before, inner, behind, last)

rows-left : {depth : ℕ} {s : Sight} {ns : List ℕ} {t : Sight} → IsRows depth s ns t → Left t ≤ Left s
rows-left (grammar.one {s = s} h k) = skip-left s
rows-left (grammar.more {t = t} i l h k) = let one = skip-left t in let more = rows-left i in omega (arith, one, more)

command-left : {depth : ℕ} {cs : Script} {s : Sight} {c : Command} {t : Sight} → IsCommand depth cs s c t → Left t ≤ Left s
command-left (grammar.seq {s = s} h f k l) = beyond-left 2 s
command-left (grammar.swap {s = s} {t = t} h a b q c d n) =
    let one = beyond-left 2 s in let to : Left t ≡ Left (beyond 2 s) = ap Left q in let last = skip-left t in omega (arith, one, to, last)
command-left (grammar.skew {s = s} {t = t} {u = u} h f a b q c d n i k) =
    let one = beyond-left 2 s in let to : Left t ≡ Left (beyond 2 s) = ap Left q in let two = skip-left t in let last = signed-left i in omega (arith, one, to, two, last)
command-left (grammar.tile {s = s} {t = t} h a b q c d) =
    let one = beyond-left 2 s in let to : Left t ≡ Left (beyond 2 s) = ap Left q in let last = skip-left t in omega (arith, one, to, last)
command-left (grammar.par {s = s} h i) = let one = skip-left s in let more = rows-left i in omega (arith, one, more)
command-left (grammar.wave {s = s} h i) = let one = skip-left s in let more = rows-left i in omega (arith, one, more)

commands-left : {depth : ℕ} {s : Sight} {cs : Script} {t : Sight} → IsCommands depth s cs t → Left t ≤ Left s
commands-left (grammar.one i) = command-left i
commands-left (grammar.more {t = t} i h l j) = let front = commands-left i in let one = skip-left t in let last = command-left j in omega (arith, front, one, last)

script-left : {depth : ℕ} {s : Sight} {cs : Script} {t : Sight} → IsScript depth s cs t → Left t ≤ Left s
script-left (grammar.empty {s = s} h k) = beyond-left 2 s
script-left (grammar.script {s = s} {t = t} h i k) = let one = skip-left s in let more = commands-left i in let last = skip-left t in omega (arith, one, more, last)

candidates-left : {depth : ℕ} {s : Sight} {scripts : List Script} {t : Sight} → IsCandidates depth s scripts t → Left t ≤ Left s
candidates-left grammar.none = omega arith
candidates-left (grammar.more {t = t} i h l j) = let front = candidates-left i in let one = skip-left t in let last = script-left j in omega (arith, front, one, last)

pub unit-left : {v : Version} {names : Names} {s : Sight} {u : NestUnit} {t : Sight} → IsUnit v names s u t → Left t ≤ Left s
unit-left (grammar.unit i j) = let loops = loops-left i in let more = candidates-left j in omega (arith, loops, more)

pub units-left : {names : Names} {v : Version} {s : Sight} {us : List NestUnit} {t : Sight} → IsUnits names v s us t → Left t ≤ Left s
units-left (grammar.one i) = unit-left i
units-left (grammar.more i l j) = let front = units-left i in let last = unit-left j in omega (arith, front, last)

pub scalars-left : {s : Sight} {cs : List Scalar} {t : Sight} → IsScalars s cs t → Left t ≤ Left s
scalars-left grammar.none = omega arith
scalars-left (grammar.more {t = t} i h l k f a j) = let front = scalars-left i in let three = beyond-left 3 t in let last = signed-left j in omega (arith, front, three, last)

values-left : {words from : ℕ} {s : Sight} {vs : List ℤ} {t : Sight} → IsValues words from s vs t → Left t ≤ Left s
values-left (grammar.one l i) = signed-left i
values-left (grammar.more {t = t} i h l j) = let front = values-left i in let one = skip-left t in let last = signed-left j in omega (arith, front, one, last)

item-left : {words : ℕ} {s : Sight} {i : Item} {t : Sight} → IsItem words s i t → Left t ≤ Left s
item-left (grammar.data_ {s = s} {t = t} h n q c v) =
    let one = beyond-left 2 s in let to : Left t ≡ Left (beyond 2 s) = ap Left q in let two = skip-left t in let more = values-left v in omega (arith, one, to, two, more)
item-left (grammar.ramp {s = s} {t = t} {u = u} h f q c r k n i j m) =
    let one = beyond-left 2 s in
    let to : Left t ≡ Left (beyond 2 s) = ap Left q in
    let two = skip-left t in
    let at : Left u ≡ Left (skip t) = ap Left r in
    let three = skip-left u in
    let more = signed-left i in
    let last = signed-left j in
    omega (arith, one, to, two, at, three, more, last)

pub items-left : {words : ℕ} {s : Sight} {is : List Item} {t : Sight} → IsItems words s is t → Left t ≤ Left s
items-left grammar.none = omega arith
items-left (grammar.more i j) = let front = items-left i in let last = item-left j in omega (arith, front, last)

-- the version has a token
pub version-left : {s : Sight} {v : Version} {t : Sight} → IsVersion s v t → suc (Left t) ≤ Left s
version-left (grammar.one {s} h k) = let one = sees-left s _ h (λ x. cc) in let two = skip-left (skip s) in omega (arith, one, two)
version-left (grammar.two {s} h k) = let one = sees-left s _ h (λ x. cc) in let two = skip-left (skip s) in omega (arith, one, two)

-- a text has no more tokens than bytes
spots-few : (n size : ℕ) (bs : List ℕ) → length (spots n size bs) ≤ n
unfolding spots
spots-few zero size bs = omega arith
spots-few (suc n) size bs = at (gap false bs) (spots-few n size)
  where
    at : (l : List ℕ) → ((cs : List ℕ) → length (spots n size cs) ≤ n) → length (spots_at (spots n size) size l) ≤ suc n
    at [] each = omega arith
    at (c ∷ cs) each = let more = each (drop (lexed (c ∷ cs)).len (c ∷ cs)) in omega (arith, more)

pub tokens-few : (text : List ℕ) → length (tokens text) ≤ length text
unfolding tokens_from
tokens-few text = spots-few (length text) (length text) text
