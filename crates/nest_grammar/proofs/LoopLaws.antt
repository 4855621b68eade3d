-- Loops: their readings and the grammar say the same.
use Rattle.std.proofs.Common.{◌≡◌, ℕ, zero, suc, ℤ, pos, negsuc, List, [], ◌∷◌, refl, ap, subst, Option, Some, None, Ok, Bool, true, false, cond, nat_le}
use Rattle.std.proofs.Math.Dec.{leb-suc-zero}
use Rattle.std.specs.Prelude.{◌≢◌}
use Rattle.nest_lang.specs.declared.tree.Stmt.{Stmt}
use Rattle.nest_lang.specs.declared.tree.Head.{Head}
use Rattle.nest_lang.specs.declared.tree.Head.TheVariants as head
use Rattle.nest_lang.specs.declared.tree.Loop.{Loop}
use Rattle.nest_tokens.specs.declared.token.Name.{Name}
use Rattle.nest_tokens.specs.declared.token.Token.{Token}
use Rattle.nest_tokens.specs.declared.token.Token.TheVariants as token
use Rattle.nest_tokens.specs.declared.token.Mark.TheVariants as mark
use Rattle.nest_tokens.specs.Tokens.{is_mark, spelling}
use Rattle.nest_tokens.proofs.MarkLaws.{is_mark-true}
use Rattle.nest_grammar.specs.declared.file.LoopNames.{LoopNames}
use Rattle.nest_grammar.specs.declared.opening.LoopKeyword.{LoopKeyword}
use Rattle.nest_grammar.specs.declared.opening.LoopKeyword.TheVariants as word
use Rattle.nest_grammar.specs.declared.fault.TextKind.TheVariants as kind
use Rattle.nest_grammar.specs.Sights.{Sight, stands, Sees, skip, in_block}
use Rattle.nest_grammar.specs.Readings.{Reading, after, ◌>>=◌, gives, refused, wrong, skipped, obeys}
use Rattle.nest_grammar.specs.Names.{Names}
use Rattle.nest_grammar.specs.Expressions.{product_of, addition_of, comparison_of, expression}
use Rattle.nest_grammar.specs.Statements.{opening_of, block}
use Rattle.nest_grammar.specs.Loops.{loop_keyword, Loops, not_zero, stride_at, stride, heading, inside, Rest, rest_at, rest_of, has_any, body_end, around, loop_of, loop_at, loops}
use Rattle.nest_grammar.specs.Grammar.{IsStride, unwritten, written, IsHeading, counting, asking, IsLoops, innermost, outer}
use Rattle.nest_grammar.proofs.ReadingLaws.{sees-is, need-sees, obeys-true, fresh-sees, signed-is, given, need-then, fresh-then, signed-ok}
use Rattle.nest_grammar.proofs.ExpressionLaws.{Ends, expression-complete, expression-sound}
use Rattle.nest_grammar.proofs.StatementLaws.{Follows, opens-follow, close-follows, close-begins, block-complete, block-sound}
use Rattle.nest_grammar.proofs.PartAfterPartLaws.{bind-ok}

-- Completeness.

pub not_zero-is : (v : ℤ) → v ≢ pos 0 → not_zero v ≡ true
not_zero-is (pos zero) h = absurd (h refl)
not_zero-is (pos (suc n)) h = let e : nat_le (suc n) 0 ≡ false = leb-suc-zero n in rw e
not_zero-is (negsuc n) h = refl

stride-complete : (s : Sight) (k : ℤ) (t : Sight) → IsStride s k t → Sees mark.OpenBrace t → stride s ≡ Ok (k, t)
unfolding is_mark spelling
stride-complete s _ _ unwritten h = rw h
stride-complete s k t (written h i n) o = let e = sees-is mark.Step s h in let q = signed-is not_zero kind.Range (skip s) k t i (not_zero-is k n) in rw (e, q)

step-ends : (t : Sight) → Sees mark.Step t → Ends (stands t)
unfolding product_of addition_of comparison_of
step-ends t h = rw h (refl, refl, refl)

below-ends : (t : Sight) → Sees mark.Below t → Ends (stands t)
unfolding product_of addition_of comparison_of
below-ends t h = rw h (refl, refl, refl)

stride-front : {s : Sight} {k : ℤ} {t : Sight} → IsStride s k t → Sees mark.OpenBrace t → Ends (stands s)
stride-front (unwritten {s}) h = opens-follow s h
stride-front (written {k} {s} {t} h i n) o = step-ends s h

-- a head that begins with this word
abbrev Headed : Names → Sight → Head → Option Name → Sight → Type 0
Headed names s h n t = (w : LoopKeyword) × (loop_keyword (stands s) ≡ Some w) × (heading names w s ≡ Ok ((h, n), t))

heading-complete : (names : Names) (s : Sight) (h : Head) (n : Option Name) (t : Sight) → IsHeading names s h n t → Sees mark.OpenBrace t → Headed names s h n t
unfolding loop_keyword
heading-complete names s _ _ v (counting {n} {lower} {upper} {k} {t = t} {u} a b f c i d j e) o =
    let x1 = fresh-sees names n (skip s) b f in
    let x2 = need-sees mark.Assign (skip (skip s)) c in
    let x3 = expression-complete names (in_block (skip (skip (skip s)))) lower t i (below-ends t d) in
    let x4 = need-sees mark.Below t d in
    let x5 = expression-complete names (skip t) upper u j (stride-front e o) in
    let x6 = stride-complete u k v e o in
    (word.For, ap loop_keyword a, (rw (x1, x2, x3, x4, x5, x6) refl))
heading-complete names s _ _ t (asking {e} a i) o =
    let x = expression-complete names (in_block (skip s)) e t i (opens-follow t o) in
    (word.While, ap loop_keyword a, (rw x refl))

heading-front : {names : Names} {s : Sight} {h : Head} {n : Option Name} {t : Sight} → IsHeading names s h n t → (w : LoopKeyword) × (loop_keyword (stands s) ≡ Some w)
unfolding loop_keyword
heading-front (counting a b f c i d j e) = (word.For, ap loop_keyword a)
heading-front (asking a i) = (word.While, ap loop_keyword a)

pub loops-front : {d level : ℕ} {names : Names} {s t : Sight} {ls : List Loop} {ns : List LoopNames} → IsLoops d level names s ls ns t → (w : LoopKeyword) × (loop_keyword (stands s) ≡ Some w)
loops-front (innermost h o b p c) = heading-front h
loops-front (outer h o b l p c) = heading-front h

loops-some : {d level : ℕ} {names : Names} {s t : Sight} {ls : List Loop} {ns : List LoopNames} → IsLoops d level names s ls ns t → (pre : List Stmt) → has_any pre ls ≡ true
loops-some (innermost h o b p c) [] = refl
loops-some (innermost h o b p c) (x ∷ xs) = refl
loops-some (outer h o b l p c) [] = refl
loops-some (outer h o b l p c) (x ∷ xs) = refl

-- behind a loop's word nothing before it goes on
word-follows : (t : Token) (w : LoopKeyword) → loop_keyword t ≡ Some w → Follows t × (opening_of t ≡ None)
unfolding loop_keyword product_of addition_of comparison_of is_mark spelling opening_of
word-follows (token.Plain mark.For) w h = (((refl, refl, refl), refl), refl)
word-follows (token.Plain mark.While) w h = (((refl, refl, refl), refl), refl)
word-follows _ w h = absurd (cc)

rest-none : (inner : Reading Loops) (names : Names) (s : Sight) → Sees mark.CloseBrace s → rest_of inner names s ≡ Ok ((([], []), ([], [])), s)
unfolding loop_keyword
rest-none inner names s h = rw h

rest-some : (inner : Reading Loops) (names : Names) (s t u : Sight) (w : LoopKeyword) (ls : Loops) (post : List Stmt × List Name) → loop_keyword (stands s) ≡ Some w → inner s ≡ Ok (ls, t) → block names t ≡ Ok (post, u) → rest_of inner names s ≡ Ok ((ls, post), u)
rest-some inner names s t u w ls post h k l = rw (h, k, l)

body_end-is : (pre : List Stmt) (ls : List Loop) (s : Sight) → Sees mark.CloseBrace s → has_any pre ls ≡ true → body_end pre ls s ≡ Ok (tt, skip s)
unfolding body_end
body_end-is pre ls s h k = let e = sees-is mark.CloseBrace s h in let q = obeys-true (has_any pre ls) kind.Empty s k in rw (e, q)

any-some : (pre : List Stmt) → pre ≢ [] → has_any pre [] ≡ true
any-some [] h = absurd (h refl)
any-some (x ∷ xs) h = refl

loops-is : (d level : ℕ) (names : Names) (s : Sight) → loops (suc d) level names s ≡ loop_at (loop_of (loops d (suc level)) level names) (loop_keyword (stands s)) s
unfolding loops
loops-is d level names s = refl

loop-read : (d level : ℕ) (names : Names) (s t u v : Sight) (h : Head) (n : Option Name) (pre : List Stmt) (lets : List Name) (x : Rest) → Headed names s h n t → Sees mark.OpenBrace t → block (inside names level n) (skip t) ≡ Ok ((pre, lets), u) → rest_of (loops d (suc level) (inside names level n)) (inside names level n) u ≡ Ok (x, v) → Sees mark.CloseBrace v → has_any pre x.0.0 ≡ true → loops (suc d) level names s ≡ Ok (around (h, n) (pre, lets) x, skip v)
loop-read d level names s t u v h n pre lets x f o b r c k =
    let x1 = f.1 in
    let x2 = f.2 in
    let x3 = need-sees mark.OpenBrace t o in
    let x4 = body_end-is pre x.0.0 v c k in
    rw (loops-is, x1, x2, x3, b, r, x4)

pub loops-complete : {d level : ℕ} {names : Names} {s t : Sight} {ls : List Loop} {ns : List LoopNames} → IsLoops d level names s ls ns t → loops d level names s ≡ Ok ((ls, ns), t)
loops-complete (innermost {d} {level} {names} {h} {n} {pre} {lets} {s} {t} {u} i o b p c) =
    loop-read d level names s t u u h n pre lets (([], []), ([], [])) (heading-complete names s h n t i o) o (block-complete (inside names level n) (skip t) pre lets u b (close-follows u c) (close-begins u c)) (rest-none (loops d (suc level) (inside names level n)) (inside names level n) u c) c (any-some pre p)
loops-complete (outer {d} {level} {names} {h} {n} {pre} {post} {lets} {post_lets} {ls} {ns} {s} {t} {u} {v} {w} i o b l q c) =
    let f = loops-front l in
    let g = word-follows (stands u) f.0 f.1 in
    let r = loops-complete l in
    loop-read d level names s t u w h n pre lets ((ls, ns), (post, post_lets)) (heading-complete names s h n t i o) o (block-complete (inside names level n) (skip t) pre lets u b g.0 g.1)
    (rest-some (loops d (suc level) (inside names level n)) (inside names level n) u v w f.0 (ls, ns) (post, post_lets) f.1 r (block-complete (inside names level n) v post post_lets w q (close-follows w c) (close-begins w c)))
    c (loops-some l pre)

-- Soundness.

not_zero-then : (v : ℤ) → not_zero v ≡ true → v ≢ pos 0
not_zero-then (pos zero) h = absurd (cc)
not_zero-then (pos (suc n)) h = λ e. cc
not_zero-then (negsuc n) h = λ e. cc

stride-sound : (s : Sight) (x : ℤ × Sight) → stride s ≡ Ok x → IsStride s x.0 x.1
stride-sound s x h = elim (is_mark mark.Step (stands s)) as (λ b. is_mark mark.Step (stands s) ≡ b → stride_at b s ≡ Ok x → IsStride s x.0 x.1) [
  | false ↦ λ e k. (let q = given (pos 1) s x k in rw q unwritten)
  | true ↦ λ e k. (let f = signed-ok not_zero kind.Range (skip s) x k in written (is_mark-true mark.Step (stands s) e) f.0 (not_zero-then x.0 f.1))
] refl h

for-token : (t : Token) → loop_keyword t ≡ Some word.For → t ≡ token.Plain mark.For
unfolding loop_keyword
for-token (token.Plain mark.For) h = refl
for-token _ h = absurd (cc)

while-token : (t : Token) → loop_keyword t ≡ Some word.While → t ≡ token.Plain mark.While
unfolding loop_keyword
while-token (token.Plain mark.While) h = refl
while-token _ h = absurd (cc)

heading-sound : (names : Names) (w : LoopKeyword) (s : Sight) (x : (Head × Option Name) × Sight) → loop_keyword (stands s) ≡ Some w → heading names w s ≡ Ok x → IsHeading names s x.0.0 x.0.1 x.1
heading-sound names word.For s x k h =
    let f1 = fresh-then names _ (skip s) x h in
    let f2 = need-then mark.Assign _ (skip (skip s)) x f1.3 in
    let f3 = bind-ok (expression names (in_block (skip (skip (skip s))))) _ x f2.1 in
    let f4 = need-then mark.Below _ f3.0.1 x f3.2 in
    let f5 = bind-ok (expression names (skip f3.0.1)) _ x f4.1 in
    let f6 = bind-ok (stride f5.0.1) _ x f5.2 in
    let q = given {A = Head × Option Name} (head.For f3.0.0 f5.0.0 f6.0.0, Some f1.0) f6.0.1 x f6.2 in
    rw q (counting (for-token (stands s) k) f1.1 f1.2 f2.0 (expression-sound names (in_block (skip (skip (skip s)))) f3.0 f3.1) f4.0 (expression-sound names (skip f3.0.1) f5.0 f5.1) (stride-sound f5.0.1 f6.0 f6.1))
heading-sound names word.While s x k h =
    let f = bind-ok (expression names (in_block (skip s))) _ x h in
    let q = given {A = Head × Option Name} (head.While f.0.0, None) f.0.1 x f.2 in
    rw q (asking (while-token (stands s) k) (expression-sound names (in_block (skip s)) f.0 f.1))

body_end-then : {B : Type 0} (pre : List Stmt) (ls : List Loop) (go : Unit {0} → Reading B) (s : Sight) (y : B × Sight) → after (body_end pre ls s) go ≡ Ok y → Sees mark.CloseBrace s × (has_any pre ls ≡ true) × (go tt (skip s) ≡ Ok y)
unfolding body_end refused obeys
body_end-then {B} pre ls go s y h = by (is_mark mark.CloseBrace (stands s)) refl (has_any pre ls) refl h
  where
    by : (b : Bool) → is_mark mark.CloseBrace (stands s) ≡ b → (c : Bool) → has_any pre ls ≡ c → after (cond b (after (cond c (Ok (tt {0}, s)) (refused kind.Empty s)) (λ _. skipped)) (wrong s)) go ≡ Ok y → Sees mark.CloseBrace s × (has_any pre ls ≡ true) × (go tt (skip s) ≡ Ok y)
    by true e true k h = (is_mark-true mark.CloseBrace (stands s) e, k, h)
    by true e false k h = absurd (cc)
    by false e c k h = absurd (cc)

some-any : (pre : List Stmt) → has_any pre [] ≡ true → pre ≢ []
some-any [] h = absurd (cc)
some-any (x ∷ xs) h = λ e. cc

abbrev LoopsSound : ℕ → ℕ → (Names → Reading Loops) → Type 0
LoopsSound d level r = (names : Names) (s : Sight) (x : Loops × Sight) → r names s ≡ Ok x → IsLoops d level names s x.0.0 x.0.1 x.1

loop-sound : (d level : ℕ) (inner : Names → Reading Loops) → LoopsSound d (suc level) inner → (names : Names) (w : LoopKeyword) (s : Sight) (x : Loops × Sight) → loop_keyword (stands s) ≡ Some w → loop_of inner level names w s ≡ Ok x → IsLoops (suc d) level names s x.0.0 x.0.1 x.1
loop-sound d level inner hi names w s x k h =
    let f1 = bind-ok (heading names w s) _ x h in
    let ns : Names = inside names level f1.0.0.1 in
    let f2 = need-then mark.OpenBrace _ f1.0.1 x f1.2 in
    let f3 = bind-ok (block ns (skip f1.0.1)) _ x f2.1 in
    let i = heading-sound names w s f1.0 k f1.1 in
    let b = block-sound ns (skip f1.0.1) f3.0 f3.1 in
    elim (loop_keyword (stands f3.0.1)) as (λ o. after (rest_at (inner ns) ns o f3.0.1) (λ r. body_end f3.0.0.0 r.0.0 >>= λ _. gives (around f1.0.0 f3.0.0 r)) ≡ Ok x → IsLoops (suc d) level names s x.0.0 x.0.1 x.1) [
      | None ↦ λ q. (
          let g = body_end-then f3.0.0.0 [] _ f3.0.1 x q in
          let e = given {A = Loops} (around f1.0.0 f3.0.0 (([], []), ([], []))) (skip f3.0.1) x g.2 in
          rw e (innermost i f2.0 b (some-any f3.0.0.0 g.1) g.0))
      | Some v ↦ λ q. (
          let go : Rest → Reading Loops = λ r. body_end f3.0.0.0 r.0.0 >>= λ _. gives {A = Loops} (around f1.0.0 f3.0.0 r) in
          let g = bind-ok (after (inner ns f3.0.1) (λ ls. block ns >>= λ post. gives {A = Rest} (ls, post))) go x q in
          let g1 = bind-ok (inner ns f3.0.1) (λ ls. block ns >>= λ post. gives {A = Rest} (ls, post)) g.0 g.1 in
          let g2 = bind-ok (block ns g1.0.1) (λ post. gives {A = Rest} (g1.0.0, post)) g.0 g1.2 in
          let e = given {A = Rest} (g1.0.0, g2.0.0) g2.0.1 g.0 g2.2 in
          let k : go (g1.0.0, g2.0.0) g2.0.1 ≡ Ok x = subst (λ (y : Rest × Sight). go y.0 y.1 ≡ Ok x) e g.2 in
          let g3 = body_end-then f3.0.0.0 g1.0.0.0 (λ _. gives {A = Loops} (around f1.0.0 f3.0.0 (g1.0.0, g2.0.0))) g2.0.1 x k in
          let z = given {A = Loops} (around f1.0.0 f3.0.0 (g1.0.0, g2.0.0)) (skip g2.0.1) x g3.2 in
          rw z (outer i f2.0 b (hi ns f3.0.1 g1.0 g1.1) (block-sound ns g1.0.1 g2.0 g2.1) g3.0))
    ] f3.2

at-sound : (d level : ℕ) (names : Names) (go : LoopKeyword → Reading Loops) (s : Sight) (x : Loops × Sight) → ((w : LoopKeyword) → loop_keyword (stands s) ≡ Some w → go w s ≡ Ok x → IsLoops d level names s x.0.0 x.0.1 x.1) → (o : Option LoopKeyword) → loop_keyword (stands s) ≡ o → loop_at go o s ≡ Ok x → IsLoops d level names s x.0.0 x.0.1 x.1
unfolding refused
at-sound d level names go s x hg (Some w) e h = hg w e h
at-sound d level names go s x hg None e h = absurd (cc)

pub loops-sound : (d level : ℕ) → LoopsSound d level (loops d level)
unfolding loops refused
loops-sound zero level names s x h = at-sound zero level names (λ w. refused kind.Deep) s x (λ w e k. absurd (cc)) (loop_keyword (stands s)) refl h
loops-sound (suc d) level names s x h =
    let hi : LoopsSound d (suc level) (loops d (suc level)) = loops-sound d (suc level) in
    at-sound (suc d) level names (loop_of (loops d (suc level)) level names) s x (λ w e k. loop-sound d level (loops d (suc level)) hi names w s x e k) (loop_keyword (stands s)) refl h
