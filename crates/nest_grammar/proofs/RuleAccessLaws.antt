-- Rules: the accesses of each block are numbered from 1 on in the order of evaluation, and are at most 64.
use Rattle.std.proofs.Common.{◌≡◌, refl, ap, ◌∙◌, sym, subst, ℕ, zero, suc, ◌+◌, ◌<◌, ◌≤◌, pos, List, [], ◌∷◌, ◌++◌, length, length-append, map, arith, Option}
use Rattle.std.specs.List.{range_with_len}
use Rattle.std.proofs.lemmas.List.{map-append}
use Rattle.nest_lang.specs.declared.tree.Access.{Access}
use Rattle.nest_lang.specs.declared.tree.Expr.{Expr}
use Rattle.nest_lang.specs.declared.tree.Stmt.{Stmt}
use Rattle.nest_lang.specs.declared.tree.Head.{Head}
use Rattle.nest_lang.specs.Accesses.{load, store, expression_accesses, statement_accesses, block_accesses, head_accesses}
use Rattle.nest_lang.specs.Rules.{AreNumbered}
use Rattle.nest_lang.proofs.AccessLaws.{expression_accesses-number, expression_accesses-var, expression_accesses-load, expression_accesses-neg, expression_accesses-two, statement_accesses-let, statement_accesses-set, statement_accesses-store, statement_accesses-if, block_accesses-nil, block_accesses-push}
use Rattle.nest_tokens.specs.declared.token.Name.{Name}
use Rattle.nest_grammar.specs.declared.version.Version.{Version}
use Rattle.nest_grammar.specs.declared.version.Version.TheVariants.{One, Two as Several}
use Rattle.nest_grammar.specs.Limits.{most_accesses}
use Rattle.nest_grammar.specs.Sights.{Sight, skip}
use Rattle.nest_grammar.specs.Names.{Names}
use Rattle.nest_grammar.specs.Grammar.{Precedence, Is, IsExpression, IsStmt, IsBraced, IsList, IsBlock, IsStride, unwritten, written, IsSigned, unsigned, negative, IsHeading, counting, asking}
use Rattle.nest_grammar.specs.Grammar as grammar

-- Of a block so many accesses were numbered and so many begun, and behind a part of it so many more of both:
-- those that the part has.
pub record Counts (done begun done' begun' : ℕ) (accesses : List Access) : Type 0 where
  pub numbers : map (λ (a : Access). a.number) accesses ≡ range_with_len (done + 1) (length accesses)
  pub numbered : done' ≡ done + length accesses
  pub opened : begun' ≡ begun + length accesses
  pub few : begun ≤ 64 → begun' ≤ 64

range_with_len-append : (a m n : ℕ) → range_with_len a (m + n) ≡ range_with_len a m ++ range_with_len (a + m) n
range_with_len-append a zero n =
    let e : 0 + n ≡ n = omega arith in
    let f : a + 0 ≡ a = omega arith in
    rw (e, f) refl
range_with_len-append a (suc m) n =
    let e : suc m + n ≡ suc (m + n) = omega arith in
    let f : a + suc m ≡ a + 1 + m = omega arith in
    rw (e, f) (ap (λ (xs : List ℕ). a ∷ xs) (range_with_len-append (a + 1) m n))

counts-none : (done begun : ℕ) (xs : List Access) → xs ≡ [] → Counts done begun done begun xs
counts-none done begun xs e =
    subst (λ (ys : List Access). Counts done begun done begun ys) (sym e) (record { numbers = refl; numbered = omega arith; opened = omega arith; few = λ l. l })

counts-same : {done begun done' begun' : ℕ} (xs ys : List Access) → xs ≡ ys → Counts done begun done' begun' ys → Counts done begun done' begun' xs
counts-same {done} {begun} {done'} {begun'} xs ys e c = subst (λ (zs : List Access). Counts done begun done' begun' zs) (sym e) c

numbers-append : (done : ℕ) (xs ys : List Access) → map (λ (a : Access). a.number) xs ≡ range_with_len (done + 1) (length xs) → map (λ (a : Access). a.number) ys ≡ range_with_len (done + length xs + 1) (length ys)
    → map (λ (a : Access). a.number) (xs ++ ys) ≡ range_with_len (done + 1) (length (xs ++ ys))
numbers-append done xs ys a b =
    let e : done + length xs + 1 ≡ done + 1 + length xs = omega arith in
    map-append (λ (z : Access). z.number) xs ys
    ∙ ap (λ (ns : List ℕ). ns ++ map (λ (z : Access). z.number) ys) a
    ∙ ap (λ (ns : List ℕ). range_with_len (done + 1) (length xs) ++ ns) (b ∙ ap (λ (n : ℕ). range_with_len n (length ys)) e)
    ∙ sym (range_with_len-append (done + 1) (length xs) (length ys))
    ∙ ap (range_with_len (done + 1)) (sym (length-append xs ys))

counts-append : {done begun done' begun' done2 begun2 : ℕ} (xs ys : List Access) → Counts done begun done' begun' xs → Counts done' begun' done2 begun2 ys → Counts done begun done2 begun2 (xs ++ ys)
counts-append {done} xs ys c d =
    let long = length-append xs ys in
    record {
      numbers = numbers-append done xs ys c.numbers (d.numbers ∙ ap (λ (n : ℕ). range_with_len (n + 1) (length ys)) c.numbered);
      numbered = omega (arith, c.numbered, d.numbered, long);
      opened = omega (arith, c.opened, d.opened, long);
      few = λ l. d.few (c.few l);
    }

accesses-least : (v : Version) → most_accesses v ≤ 64
accesses-least One = omega arith
accesses-least Several = omega arith

-- an access that is begun before and numbered behind others
counts-push : (v : Version) {done begun done' begun' : ℕ} (xs : List Access) (x : Access) → x.number ≡ done' + 1 → begun < most_accesses v → Counts done (begun + 1) done' begun' xs → Counts done begun (done' + 1) begun' (xs ++ x ∷ [])
counts-push v {done} {begun} {done'} {begun'} xs x is room c =
    let long = length-append xs (x ∷ []) in
    let most = accesses-least v in
    let number : map (λ (a : Access). a.number) (x ∷ []) ≡ range_with_len (done + length xs + 1) (length (x ∷ [])) = ap (λ (n : ℕ). n ∷ []) (is ∙ ap (λ (n : ℕ). n + 1) c.numbered) in
    record {
      numbers = numbers-append done xs (x ∷ []) c.numbers number;
      numbered = omega (arith, c.numbered, long);
      opened = omega (arith, c.opened, long);
      few = λ l. c.few (omega (arith, room, most));
    }

-- expressions
expression-counts : {names : Names} {p : Precedence} {d : ℕ} {s : Sight} {e : Expr} {t : Sight} → Is names p d s e t → Counts s.accesses s.opened t.accesses t.opened (expression_accesses e)
unfolding skip
expression-counts (grammar.number {d} {n} {s} h r) = counts-none s.accesses s.opened _ (expression_accesses-number (pos n))
expression-counts (grammar.variable {d} {n} {p} {s} h f r) = counts-none s.accesses s.opened _ (expression_accesses-var p)
expression-counts (grammar.minus {d} {e} h r i) = counts-same _ (expression_accesses e) (expression_accesses-neg e) (expression-counts i)
expression-counts (grammar.parens h r i k o) = expression-counts i
expression-counts (grammar.load {d} {e} {s} {t} h a r i k o) =
    counts-same _ (expression_accesses e ++ load (t.accesses + 1) ∷ []) (expression_accesses-load (t.accesses + 1) e) (counts-push s.version (expression_accesses e) (load (t.accesses + 1)) refl a (expression-counts i))
expression-counts (grammar.factor i) = expression-counts i
expression-counts (grammar.product {d} {o} {a} {b} i k r j) =
    counts-same _ (expression_accesses a ++ expression_accesses b) (expression_accesses-two o a b) (counts-append (expression_accesses a) (expression_accesses b) (expression-counts i) (expression-counts j))
expression-counts (grammar.summand i) = expression-counts i
expression-counts (grammar.addition {d} {o} {a} {b} i k r j) =
    counts-same _ (expression_accesses a ++ expression_accesses b) (expression_accesses-two o a b) (counts-append (expression_accesses a) (expression_accesses b) (expression-counts i) (expression-counts j))
expression-counts (grammar.side i) = expression-counts i
expression-counts (grammar.comparison {d} {o} {a} {b} i k r j) =
    counts-same _ (expression_accesses a ++ expression_accesses b) (expression_accesses-two o a b) (counts-append (expression_accesses a) (expression_accesses b) (expression-counts i) (expression-counts j))

-- where a sight is said by an equation
counts-from : (s s' t : Sight) (xs : List Access) → s.accesses ≡ s'.accesses → s.opened ≡ s'.opened → Counts s.accesses s.opened t.accesses t.opened xs → Counts s'.accesses s'.opened t.accesses t.opened xs
counts-from s s' t xs a b c = subst (λ (n : ℕ). Counts n s'.opened t.accesses t.opened xs) a (subst (λ (n : ℕ). Counts s.accesses n t.accesses t.opened xs) b c)

-- statements
mutual
  unfolding skip

  statement-counts : {d : ℕ} {names ns : Names} {s t : Sight} {st : Stmt} → IsStmt d names s st ns t → Counts s.accesses s.opened t.accesses t.opened (statement_accesses st)
  statement-counts (grammar.let_ {d} {names} {n} {e} {s} {t} {u} h l k f q a i) =
      counts-same _ (expression_accesses e) (statement_accesses-let (length s.lets) e)
      (counts-from t s u (expression_accesses e) (ap (λ (x : Sight). x.accesses) q) (ap (λ (x : Sight). x.opened) q) (expression-counts i))
  statement-counts (grammar.set {d} {k} {names} {n} {e} h f a i) = counts-same _ (expression_accesses e) (statement_accesses-set k e) (expression-counts i)
  statement-counts (grammar.store {d} {names} {a} {e} {s} {t} {u} h l i c k j) =
      counts-same _ (expression_accesses a ++ expression_accesses e ++ store (u.accesses + 1) ∷ []) (statement_accesses-store (u.accesses + 1) a e)
      (counts-push s.version (expression_accesses a ++ expression_accesses e) (store (u.accesses + 1)) refl l (counts-append (expression_accesses a) (expression_accesses e) (expression-counts i) (expression-counts j)))
  statement-counts (grammar.when {d} {names} {e} {xs} {s} {t} {u} h i b) =
      counts-same _ (expression_accesses e ++ block_accesses xs ++ block_accesses []) (statement_accesses-if e xs [])
      (counts-append (expression_accesses e ++ block_accesses xs) (block_accesses []) (counts-append (expression_accesses e) (block_accesses xs) (expression-counts i) (braced-counts b)) (counts-none u.accesses u.opened _ block_accesses-nil))
  statement-counts (grammar.either {d} {names} {e} {xs} {ys} h i b k c) =
      counts-same _ (expression_accesses e ++ block_accesses xs ++ block_accesses ys) (statement_accesses-if e xs ys)
      (counts-append (expression_accesses e ++ block_accesses xs) (block_accesses ys) (counts-append (expression_accesses e) (block_accesses xs) (expression-counts i) (braced-counts b)) (braced-counts c))

  braced-counts : {d : ℕ} {names : Names} {s t : Sight} {xs : List Stmt} → IsBraced d names s xs t → Counts s.accesses s.opened t.accesses t.opened (block_accesses xs)
  braced-counts (grammar.braced h l c) = list-counts l

  list-counts : {d : ℕ} {names ns : Names} {s t : Sight} {xs : List Stmt} → IsList d names s xs ns t → Counts s.accesses s.opened t.accesses t.opened (block_accesses xs)
  list-counts (grammar.none {s = s}) = counts-none s.accesses s.opened _ block_accesses-nil
  list-counts (grammar.more {xs = xs} {st = st} l i) =
      counts-same _ (block_accesses xs ++ statement_accesses st) (block_accesses-push xs st) (counts-append (block_accesses xs) (statement_accesses st) (list-counts l) (statement-counts i))

-- of a block that begins
counts-numbered : {done begun : ℕ} {xs : List Access} → Counts 0 0 done begun xs → AreNumbered xs
counts-numbered {done} {begun} {xs} c = let few = c.few (omega arith) in (c.numbers, omega (arith, c.opened, few))

pub block-numbered : {names : Names} {s t : Sight} {xs : List Stmt} {lets : List Name} → IsBlock names s xs lets t → AreNumbered (block_accesses xs)
block-numbered (grammar.block l) = counts-numbered (list-counts l)

pub heading-numbered : {names : Names} {s t : Sight} {h : Head} {n : Option Name} → IsHeading names s h n t → AreNumbered (head_accesses h)
unfolding skip
heading-numbered (counting {lower = lower} {upper = upper} a b f c i d j e) = counts-numbered (counts-append (expression_accesses lower) (expression_accesses upper) (expression-counts i) (expression-counts j))
heading-numbered (asking a i) = counts-numbered (expression-counts i)

pub none-numbered : AreNumbered (block_accesses [])
none-numbered = counts-numbered (counts-none 0 0 _ block_accesses-nil)
