-- Bodies: the same of statements, blocks and loops.
use Rattle.std.proofs.Common.{◌≡◌, ℕ, zero, suc, ◌+◌, List, [], ◌∷◌, ◌++◌, length, refl, ◌∙◌, Option, Some, None, Bool, true, false, subst, nat_lt, pos, if◌then◌else◌}
use Rattle.nest_lang.specs.declared.tree.Place.TheVariants as place
use Rattle.nest_lang.specs.declared.tree.Expr.{Expr}
use Rattle.nest_lang.specs.declared.tree.Stmt.{Stmt as Statement}
use Rattle.nest_lang.specs.declared.tree.Stmt.TheVariants.{Let, Set, Store, If}
use Rattle.nest_lang.specs.declared.tree.Head.{Head}
use Rattle.nest_lang.specs.declared.tree.Head.TheVariants as head
use Rattle.nest_lang.specs.declared.tree.Loop.{Loop as NestLoop}
use Rattle.nest_tokens.specs.declared.token.Name.{Name as TokenName}
use Rattle.nest_tokens.specs.declared.token.Mark.TheVariants as mark
use Rattle.nest_tokens.specs.declared.token.Token.{Token}
use Rattle.nest_tokens.specs.declared.token.Token.TheVariants as token
use Rattle.nest_tokens.specs.Tokens.{is_mark}
use Rattle.nest_tokens.proofs.MarkLaws.{is_mark-true}
use Rattle.nest_grammar.specs.declared.fault.TextKind.TheVariants as kind
use Rattle.nest_grammar.specs.declared.opening.Opening.{Opening}
use Rattle.nest_grammar.specs.declared.opening.Opening.TheVariants as opening
use Rattle.nest_grammar.specs.declared.opening.LoopKeyword.{LoopKeyword}
use Rattle.nest_grammar.specs.declared.opening.LoopKeyword.TheVariants as loop
use Rattle.nest_grammar.specs.Limits.{most_lets, most_ifs}
use Rattle.nest_grammar.specs.Sights.{Sight, stands, Sees, here, numbered, bound, in_block}
use Rattle.nest_grammar.specs.Readings.{Reading, after, ◌>>=◌, gives, refused, wrong, skipped, need, obeys}
use Rattle.nest_grammar.specs.Names.{Names, declared, fresh}
use Rattle.nest_grammar.specs.Expressions.{access_number, expression}
use Rattle.nest_grammar.specs.Statements.{opening_of, local_number, braced, else_at, else_of, branches, statement, another, listed, statements, with_lets, block_begins, block}
use Rattle.nest_grammar.specs.Loops.{loop_keyword, Loops, not_zero, stride_at, stride, heading, inside, rest_at, rest_of, has_any, body_end, around, loop_of, loop_at, loops}
use Rattle.nest_grammar.specs.Phrases.{Loop, Body, Stmt, Expr as AnExpr, Signed, Form, Nothing, Sign, Name, Many, The, ◌·◌, maybe, Allows, sign, both, one, other, the}
use Rattle.nest_grammar.proofs.SentenceLaws.{Word, Starts, word-then, starts-then, starts-as, word-many, word-maybe, word-sign, starts-sign, regroup, At, Of, at-as, of-then, at-nothing, of-gives, at-last, Real, at-skipped, at-refused, of-wrong, by-token, by-test, at-obeys, at-access, of-need, of-many}
use Rattle.nest_grammar.specs.Kinds.{is_counted, is_solid}
use Rattle.nest_grammar.proofs.ViableLaws.{word-expr, word-body, word-loop, word-name, word-signed, of-signed_where, of-fresh, at-target, of-expression}

-- Forms

pub both-left : {e f g : Form} → ((ts : List Token) → Allows e ts → Allows f ts) → (ts : List Token) → Allows (e · g) ts → Allows (f · g) ts
both-left up ts (both {xs = xs} u v) = both (up xs u) v

pub both-right : {e f g : Form} → ((ts : List Token) → Allows f ts → Allows g ts) → (ts : List Token) → Allows (e · f) ts → Allows (e · g) ts
both-right up ts (both {ys = ys} u v) = both u (up ys v)

pub regroup3 : {a b c d : Form} (ts : List Token) → Allows ((a · b · c) · d) ts → Allows (a · b · c · d) ts
regroup3 ts h = both-right regroup ts (regroup ts h)

regroup4 : {a b c d e : Form} (ts : List Token) → Allows ((a · b · c · d) · e) ts → Allows (a · b · c · d · e) ts
regroup4 ts h = both-right regroup3 ts (regroup ts h)

regroup5 : {a b c d e f : Form} (ts : List Token) → Allows ((a · b · c · d · e) · f) ts → Allows (a · b · c · d · e · f) ts
regroup5 ts h = both-right regroup4 ts (regroup ts h)

regroup6 : {a b c d e f g : Form} (ts : List Token) → Allows ((a · b · c · d · e · f) · g) ts → Allows (a · b · c · d · e · f · g) ts
regroup6 ts h = both-right regroup5 ts (regroup ts h)

regroup7 : {a b c d e f g h : Form} (ts : List Token) → Allows ((a · b · c · d · e · f · g) · h) ts → Allows (a · b · c · d · e · f · g · h) ts
regroup7 ts h = both-right regroup6 ts (regroup ts h)

-- Statements

abbrev Assigned : Form
Assigned = Sign mark.Assign · The AnExpr

word-assigned : Word Assigned
word-assigned = word-then word-sign word-expr

abbrev Statements : Form
Statements = Many (The Stmt)

abbrev Braced : Form
Braced = Sign mark.OpenBrace · Statements · Sign mark.CloseBrace

word-braced : Word Braced
word-braced = word-then word-sign (word-then word-many word-sign)

abbrev Branches : Form
Branches = The AnExpr · Sign mark.OpenBrace · Statements · Sign mark.CloseBrace · maybe (Sign mark.Else · Braced)

word-branches : Word Branches
word-branches = word-then word-expr (word-then word-sign (word-then word-many (word-then word-sign word-maybe)))

of-braced : (list : Reading (List Statement)) → Of Statements list → Of Braced (braced list)
of-braced list h s = of-then (of-need mark.OpenBrace s) (word-then word-many word-sign) (λ _ t. of-then (h t) word-sign (λ xs u. at-last (of-need mark.CloseBrace u) (λ _. of-gives xs)))

at-else_at : (list : Reading (List Statement)) → Of Statements list → (s : Sight) (b : Bool) → (b ≡ true → Sees mark.Else s) → At (maybe (Sign mark.Else · Braced)) (else_at list b) s
at-else_at list h s true k = at-as (λ ts v. one v) (of-then (at-skipped (token.Plain mark.Else) (k refl) (λ q. cc) sign) word-braced (λ _. of-braced list h))
at-else_at list h s false k = at-as (λ ts v. other v) (of-gives [] s)

of-else_of : (list : Reading (List Statement)) → Of Statements list → Of (maybe (Sign mark.Else · Braced)) (else_of list)
of-else_of list h s = by-token (λ t. else_at list (is_mark mark.Else t)) (λ t k. at-else_at list h s (is_mark mark.Else t) (λ q. k ∙ is_mark-true mark.Else t q))

of-branches : (names : Names) (list : Reading (List Statement)) → Of Statements list → Of Branches (branches names list)
of-branches names list h s = at-as (λ ts v. both-right regroup3 ts v) (of-then (of-expression names s) (word-then word-braced word-maybe) (λ e t. of-then (of-braced list h t) word-maybe (λ xs u. at-last (of-else_of list h u) (λ ys. of-gives (If e xs ys)))))

of-numbered : (names : Names) (a e : Expr) → Of Nothing (access_number >>= λ k. gives {A = Statement × Names} (Store k a e, names))
of-numbered names a e s = record { is = at-nothing {A = Statement × Names} ((Store (s.accesses + 1) a e, names), numbered s) s refl refl }

-- what a statement is, by its first token
at-statement : (branch : Reading Statement) → ((s : Sight) → Sees mark.If s → At (Sign mark.If · Branches) branch s) → (names : Names) (s : Sight) (t : Token) → stands s ≡ t → (o : Opening) → opening_of t ≡ Some o → At (The Stmt) (statement branch names o) s
unfolding opening_of here
at-statement branch hb names s (token.Name n) h (opening.Name m) k =
    let q : n ≡ m = cc in
    at-as (λ ts v. the (other (one v))) (of-then (at-target names m s (subst (λ (x : TokenName). stands s ≡ token.Name x) q h)) word-assigned (λ p t. of-then (of-need mark.Assign t) word-expr (λ _ u. at-last (of-expression names u) (λ e. of-gives (Set p e, names)))))
at-statement branch hb names s (token.Plain mark.Let) h opening.Let k = at-as (λ ts v. the (one v)) (record {
  is = (at-obeys {e = Sign mark.Let · Name · Assigned} (λ _. skipped >>= λ _. fresh names >>= λ n. local_number n >>= λ p. need mark.Assign >>= λ _. expression names >>= λ e. gives (Let p e, names ++ declared n (place.Local p) ∷ [])) (nat_lt (length s.lets) most_lets) kind.Many (token.Plain mark.Let) h (λ q. cc) (starts-then starts-sign (word-then word-name word-assigned)) refl
      (of-then (at-skipped (token.Plain mark.Let) h (λ q. cc) sign) (word-then word-name word-assigned) (λ _ t. of-then (of-fresh names t) word-assigned (λ n u. record { is = (of-then {g = The AnExpr} {f = λ _. expression names >>= λ e. gives (Let (length u.lets) e, names ++ declared n (place.Local (length u.lets)) ∷ [])} (of-need mark.Assign (bound n u)) word-expr (λ _ v. at-last (of-expression names v) (λ e. of-gives (Let (length u.lets) e, names ++ declared n (place.Local (length u.lets)) ∷ [])))).is })))).is;
})
at-statement branch hb names s (token.Plain mark.OpenBracket) h opening.Store k = at-as (λ ts v. the (other (other (one v)))) (at-access _ (token.Plain mark.OpenBracket) h (λ q. cc) (starts-then starts-sign (word-then word-expr (word-then word-sign word-assigned))) refl
    (of-then (at-skipped (token.Plain mark.OpenBracket) h (λ q. cc) sign) (word-then word-expr (word-then word-sign word-assigned)) (λ _ t. of-then (of-expression names t) (word-then word-sign word-assigned) (λ a u. of-then (of-need mark.CloseBracket u) word-assigned (λ _ v. of-then (of-need mark.Assign v) word-expr (λ _ w. at-last (of-expression names w) (λ e. of-numbered names a e)))))))
at-statement branch hb names s (token.Plain mark.If) h opening.If k = at-as (λ ts v. the (other (other (other v)))) (at-last (hb s h) (λ st. of-gives (st, names)))
at-statement branch hb names s _ h o k = absurd (cc)

of-listed : (branch : Names → Reading Statement) → ((ns : Names) (s : Sight) → Sees mark.If s → At (Sign mark.If · Branches) (branch ns) s) → (names : Names) → Of Statements (listed branch names)
of-listed branch hb names s = at-last (of-many opening_of (another branch) (λ o x t k. at-last (at-statement (branch x.1) (hb x.1) x.1 t (stands t) refl o k) (λ y. of-gives (x.0 ++ y.0 ∷ [], y.1))) ([], names) s) (λ x. of-gives x.0)

of-statements : (d : ℕ) (names : Names) → Of Statements (statements d names)
unfolding statements
of-statements zero names s = of-listed (λ ns. refused kind.Deep) (λ ns s h. at-refused kind.Deep (token.Plain mark.If) h (λ q. cc) (starts-then starts-sign word-branches) refl) names s
of-statements (suc d) names s = of-listed (λ ns. skipped >>= λ _. branches ns (statements d ns)) (λ ns s h. of-then (at-skipped (token.Plain mark.If) h (λ q. cc) sign) word-branches (λ _. of-branches ns (statements d ns) (of-statements d ns))) names s

pub of-block : (names : Names) → Of Statements (block names)
unfolding block
of-block names s = record { is = (at-last {f = with_lets} (of-statements most_ifs names (in_block s)) (λ xs u. record { is = at-nothing {A = List Statement × List TokenName} ((xs, u.lets), u) u refl refl })).is }

-- Loops

abbrev Headed : Form
Headed = Sign mark.For · Name · Sign mark.Assign · The AnExpr · Sign mark.Below · The AnExpr · maybe (Sign mark.Step · The Signed)

abbrev Asked : Form
Asked = Sign mark.While · The AnExpr

abbrev Bounds : Form
Bounds = The AnExpr · Sign mark.Below · The AnExpr · maybe (Sign mark.Step · The Signed)

word-bounds : Word Bounds
word-bounds = word-then word-expr (word-then word-sign (word-then word-expr word-maybe))

word-named : Word (Name · Sign mark.Assign · Bounds)
word-named = word-then word-name (word-then word-sign word-bounds)

at-stride_at : (s : Sight) (b : Bool) → (b ≡ true → Sees mark.Step s) → At (maybe (Sign mark.Step · The Signed)) (stride_at b) s
at-stride_at s true k = at-as (λ ts v. one v) (of-then (at-skipped (token.Plain mark.Step) (k refl) (λ q. cc) sign) word-signed (λ _. of-signed_where not_zero kind.Range (λ n. refl)))
at-stride_at s false k = at-as (λ ts v. other v) (of-gives (pos 1) s)

of-stride : Of (maybe (Sign mark.Step · The Signed)) stride
of-stride s = by-token (λ t. stride_at (is_mark mark.Step t)) (λ t k. at-stride_at s (is_mark mark.Step t) (λ q. k ∙ is_mark-true mark.Step t q))

of-bounds : (names : Names) (n : TokenName) (s : Sight) → At {A = Head × Option TokenName} Bounds (λ s. after (block_begins s) (λ _. expression names >>= λ lower. need mark.Below >>= λ _. expression names >>= λ upper. stride >>= λ k. gives (head.For lower upper k, Some n))) s
of-bounds names n s = record { is = (of-then {B = Head × Option TokenName} {g = Sign mark.Below · The AnExpr · maybe (Sign mark.Step · The Signed)} {f = λ lower. need mark.Below >>= λ _. expression names >>= λ upper. stride >>= λ k. gives (head.For lower upper k, Some n)} (of-expression names (in_block s)) (word-then word-sign (word-then word-expr word-maybe)) (λ lower t. of-then (of-need mark.Below t) (word-then word-expr word-maybe) (λ _ u. of-then (of-expression names u) word-maybe (λ upper v. at-last (of-stride v) (λ k. of-gives (head.For lower upper k, Some n)))))).is }

at-for : (names : Names) (s : Sight) → Sees mark.For s → At Headed (heading names loop.For) s
at-for names s h = of-then (at-skipped (token.Plain mark.For) h (λ q. cc) sign) word-named (λ _ t. of-then (of-fresh names t) (word-then word-sign word-bounds) (λ n u. of-then (of-need mark.Assign u) word-bounds (λ _ v. of-bounds names n v)))

at-while : (names : Names) (s : Sight) → Sees mark.While s → At Asked (heading names loop.While) s
at-while names s h = of-then (at-skipped (token.Plain mark.While) h (λ q. cc) sign) word-expr (λ _ t. record { is = (at-last {B = Head × Option TokenName} {f = λ e. gives (head.While e, None)} (of-expression names (in_block t)) (λ e. of-gives (head.While e, None))).is })

at-rest : (go : Reading Loops) → Of (The Loop) go → (names : Names) (s : Sight) (o : Option LoopKeyword) → At (maybe (The Loop · Statements)) (rest_at go names o) s
at-rest go h names s (Some w) = at-as (λ ts v. one v) (of-then (h s) word-many (λ ls t. at-last (of-block names t) (λ post. of-gives (ls, post))))
at-rest go h names s None = at-as (λ ts v. other v) (of-gives (([], []), ([], [])) s)

of-rest_of : (go : Reading Loops) → Of (The Loop) go → (names : Names) → Of (maybe (The Loop · Statements)) (rest_of go names)
of-rest_of go h names s = by-token (λ t. rest_at go names (loop_keyword t)) (λ t k. at-rest go h names s (loop_keyword t))

of-body_end : (pre : List Statement) (ls : List NestLoop) → Of (Sign mark.CloseBrace) (body_end pre ls)
unfolding body_end
of-body_end pre ls s = by-token (λ t s. if is_mark mark.CloseBrace t then (obeys (has_any pre ls) kind.Empty >>= λ _. skipped) s else wrong s) (λ t k. by-test (is_mark mark.CloseBrace t) (obeys (has_any pre ls) kind.Empty >>= λ _. skipped) wrong
    (λ q. (let e : stands s ≡ token.Plain mark.CloseBrace = k ∙ is_mark-true mark.CloseBrace t q in at-obeys (λ _. skipped) (has_any pre ls) kind.Empty (token.Plain mark.CloseBrace) e (λ j. cc) starts-sign refl (at-skipped (token.Plain mark.CloseBrace) e (λ j. cc) sign)))
    (λ q. of-wrong word-sign s))

of-body : (inner : Names → Reading Loops) → ((ns : Names) → Of (The Loop) (inner ns)) → (level : ℕ) (names : Names) (h : Head × Option TokenName) → Of (The Body) (need mark.OpenBrace >>= λ _. block (inside names level h.1) >>= λ pre. rest_of (inner (inside names level h.1)) (inside names level h.1) >>= λ x. body_end pre.0 x.0.0 >>= λ _. gives (around h pre x))
of-body inner hi level names h s = at-as (λ ts v. the v) (of-then (of-need mark.OpenBrace s) (word-then word-many (word-then word-maybe word-sign)) (λ _ t. of-then (of-block (inside names level h.1) t) (word-then word-maybe word-sign) (λ pre u. of-then (of-rest_of (inner (inside names level h.1)) (hi (inside names level h.1)) (inside names level h.1) u) word-sign (λ x v. at-last (of-body_end pre.0 x.0.0 v) (λ _. of-gives (around h pre x))))))

at-loop_of : (inner : Names → Reading Loops) → ((ns : Names) → Of (The Loop) (inner ns)) → (level : ℕ) (names : Names) (s : Sight) (t : Token) → stands s ≡ t → (w : LoopKeyword) → loop_keyword t ≡ Some w → At (The Loop) (loop_of inner level names w) s
unfolding loop_keyword
at-loop_of inner hi level names s (token.Plain mark.For) h loop.For k = at-as (λ ts v. the (one (regroup7 ts v))) (of-then (at-for names s h) word-body (of-body inner hi level names))
at-loop_of inner hi level names s (token.Plain mark.While) h loop.While k = at-as (λ ts v. the (other (regroup ts v))) (of-then (at-while names s h) word-body (of-body inner hi level names))
at-loop_of inner hi level names s _ h w k = absurd (cc)

pub starts-loop : (t : Token) (w : LoopKeyword) → loop_keyword t ≡ Some w → Real t × Starts (The Loop) t
unfolding loop_keyword
starts-loop (token.Plain mark.For) w k = (λ q. cc, starts-as (λ ts v. the (one (regroup7 ts v))) (starts-then (starts-then starts-sign word-named) word-body))
starts-loop (token.Plain mark.While) w k = (λ q. cc, starts-as (λ ts v. the (other (regroup ts v))) (starts-then (starts-then starts-sign word-expr) word-body))
starts-loop _ w k = absurd (cc)

loop-solid : (t : Token) (w : LoopKeyword) → loop_keyword t ≡ Some w → is_solid t ≡ true
unfolding loop_keyword
loop-solid (token.Plain m) w k = refl
loop-solid _ w k = absurd (cc)

pub loop-counted : (t : Token) (w : LoopKeyword) → loop_keyword t ≡ Some w → is_counted t ≡ true
unfolding loop_keyword
loop-counted (token.Plain mark.For) w k = refl
loop-counted (token.Plain mark.While) w k = refl
loop-counted _ w k = absurd (cc)

at-loop_at : (go : LoopKeyword → Reading Loops) (s : Sight) (t : Token) → stands s ≡ t → ((w : LoopKeyword) → loop_keyword t ≡ Some w → At (The Loop) (go w) s) → (o : Option LoopKeyword) → loop_keyword t ≡ o → At (The Loop) (loop_at go o) s
at-loop_at go s t h hg (Some w) k = hg w k
at-loop_at go s t h hg None k = of-wrong word-loop s

pub of-loops : (d level : ℕ) (names : Names) → Of (The Loop) (loops d level names)
unfolding loops
of-loops zero level names s = by-token (λ t. loop_at (λ w. refused kind.Deep) (loop_keyword t)) (λ t h. at-loop_at (λ w. refused kind.Deep) s t h (λ w k. (let v = starts-loop t w k in at-refused kind.Deep t h v.0 v.1 (loop-solid t w k))) (loop_keyword t) refl)
of-loops (suc d) level names s =
    let hi : (ns : Names) → Of (The Loop) (loops d (suc level) ns) = of-loops d (suc level) in
    by-token (λ t. loop_at (loop_of (loops d (suc level)) level names) (loop_keyword t)) (λ t h. at-loop_at (loop_of (loops d (suc level)) level names) s t h (λ w k. at-loop_of (loops d (suc level)) hi level names s t h w k) (loop_keyword t) refl)
