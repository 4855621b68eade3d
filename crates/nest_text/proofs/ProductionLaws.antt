-- Steps: productions in the words of the reader.
use Rattle.std.proofs.Common.{◌≡◌, ℕ, zero, suc, ◌+◌, ◌^◌, ◌<◌, ◌≤◌, ℤ, List, ◌++◌, length, drop, replicate, ◌-◌, refl, sym, ◌∙◌, ap, subst, arith, Option, Some, None, Result, Ok, Err, Bool, true, false, nat_le, not, ◌==◌, if◌then◌else◌}
use Rattle.std.proofs.lemmas.List.{drop-replicate}
use Rattle.nest_lang.specs.declared.tree.Place.{Place}
use Rattle.nest_lang.specs.declared.tree.Expr.{Expr}
use Rattle.nest_lang.specs.declared.tree.Expr.TheVariants.{Neg, Load}
use Rattle.nest_tokens.specs.declared.token.Name.{Name}
use Rattle.nest_tokens.specs.declared.token.Token.{Token}
use Rattle.nest_tokens.specs.declared.token.Token.TheVariants as token
use Rattle.nest_tokens.specs.declared.token.Mark.TheVariants as mark
use Rattle.nest_tokens.specs.Lexing.{FitsI64}
use Rattle.nest_grammar.specs.declared.fault.TextFault.{TextFault}
use Rattle.nest_grammar.specs.declared.fault.TextKind.{TextKind}
use Rattle.nest_grammar.specs.declared.fault.TextKind.TheVariants as kind
use Rattle.nest_grammar.specs.declared.opening.Start.{Start}
use Rattle.nest_grammar.specs.declared.opening.Start.TheVariants as start
use Rattle.nest_grammar.specs.Sights.{Sight, here, stands, skip, of_version}
use Rattle.nest_grammar.specs.Readings.{Reading, need, after, ◌>>=◌, gives, refused, wrong, skipped, unexpected, obeys, number_at, number_where, number, minus, with_sign, signed, signed_where}
use Rattle.nest_grammar.specs.declared.version.Version.{Version}
use Rattle.nest_grammar.specs.declared.version.Version.TheVariants.{One, Two}
use Rattle.nest_grammar.specs.Contents.{set_version, version_at, ramp_fits, item_of}
use Rattle.nest_grammar.specs.declared.file.Item.{Item}
use Rattle.nest_grammar.specs.declared.file.Item.TheVariants.{Ramp}
use Rattle.nest_grammar.specs.declared.opening.ItemKeyword.TheVariants as item
use Rattle.nest_grammar.specs.Loops.{not_zero}
use Rattle.nest_grammar.specs.Scripts.{is_factor}
use Rattle.nest_grammar.specs.Names.{Names, place_of, unless_known, fresh_at, fresh}
use Rattle.nest_grammar.specs.Expressions.{start_of, operand, closed, access, access_number, entered, taken, unary, expr, term, sum, expression}
use Rattle.nest_grammar.proofs.PartAfterPartLaws.{after-same, bind-ok}
use Rattle.nest_grammar.proofs.AccessLaws.{Keeps, keeps-gives, keeps-refused, keeps-skipped, keeps-need, keeps-taken, keeps-closed, keeps-expr, keeps-expression}
use Rattle.nest_grammar.specs.Statements.{listed, statements, branches}
use Rattle.nest_text.specs.declared.refusal.ReadRefusal.{ReadRefusal}
use Rattle.nest_text.specs.declared.refusal.ReadRefusal.TheVariants.{Text, NoMemory}
use Rattle.nest_text.specs.Answers.{Gives, passed, number_of}
use Rattle.nest_text.specs.Parts.{within, choice, version_if, version_of}

-- Numbers

abbrev pub number_by : (ℕ → Bool) → TextKind → Option ℕ → Reading ℕ
number_by rule what None = wrong
number_by rule what (Some n) = passed (rule n) what >>= λ _. gives n

number_at-is : (rule : ℕ → Bool) (what : TextKind) (t : Token) (s : Sight) → number_at rule what t s ≡ number_by rule what (number_of t) s
unfolding number_of obeys refused skip
number_at-is rule what (token.Number n) s = elim (rule n) as (λ b. (obeys b what >>= λ _. skipped >>= λ _. gives n) s ≡ (passed b what >>= λ _. gives n) s) [ true ↦ refl | false ↦ refl ]
number_at-is rule what _ s = refl

pub number-is : (rule : ℕ → Bool) (what : TextKind) (s : Sight) → number_where rule what s ≡ number_by rule what (number_of (stands s)) s
unfolding number_where
number-is rule what s = number_at-is rule what (stands s) s

-- a number that stands here
pub number-taken : (rule : ℕ → Bool) (what : TextKind) (s t : Sight) (n : ℕ) → number_of (stands s) ≡ Some n → passed (rule n) what s ≡ Ok (tt, t) → number_where rule what s ≡ Ok (n, t)
number-taken rule what s t n h k = number-is rule what s ∙ (rw (h, k) refl)

pub number-broken : (rule : ℕ → Bool) (what : TextKind) (s : Sight) (n : ℕ) (f : TextFault) → number_of (stands s) ≡ Some n → passed (rule n) what s ≡ Err f → number_where rule what s ≡ Err f
number-broken rule what s n f h k = number-is rule what s ∙ (rw (h, k) refl)

pub number-none : (rule : ℕ → Bool) (what : TextKind) (s : Sight) (f : TextFault) → number_of (stands s) ≡ None → f ≡ record { at = (here s).at; what = unexpected (stands s) } → number_where rule what s ≡ Err f
unfolding refused
number-none rule what s f h k = number-is rule what s ∙ (rw (h, k) refl)

-- a number, whichever
pub number-any : (s : Sight) (n : ℕ) → number_of (stands s) ≡ Some n → number s ≡ Ok (n, skip s)
unfolding obeys
number-any s n h = number-is (λ i. true) kind.Range s ∙ (rw h refl)

-- the same in the words of the reader, where the rule is what was tested
pub number-takes : (rule : ℕ → Bool) (what : TextKind) (s t : Sight) (n : ℕ) (b : Bool) → number_of (stands s) ≡ Some n → passed b what s ≡ Ok (tt, t) → rule n ≡ b → number_where rule what s ≡ Ok (n, t)
number-takes rule what s t n b h k q = number-taken rule what s t n h (ap (λ (x : Bool). passed x what s) q ∙ k)

pub number-refuses : (rule : ℕ → Bool) (what : TextKind) (s : Sight) (n : ℕ) (b : Bool) (f : TextFault) → number_of (stands s) ≡ Some n → passed b what s ≡ Err f → rule n ≡ b → number_where rule what s ≡ Err f
number-refuses rule what s n b f h k q = number-broken rule what s n f h (ap (λ (x : Bool). passed x what s) q ∙ k)

pub ruleset numbers = (number-takes, number-refuses, number-none)

pub ruleset any_number = (number-any, number-none)

-- the same where a `-` may stand before it
pub signed-taken : (rule : ℤ → Bool) (what : TextKind) (s t u : Sight) (b : Bool) (n : ℕ) → minus s ≡ Ok (b, t) → number_of (stands t) ≡ Some n → passed (rule (with_sign b n)) what t ≡ Ok (tt, u) → signed_where rule what s ≡ Ok (with_sign b n, u)
unfolding signed_where
signed-taken rule what s t u b n m h k = rw (m, number-taken (λ i. rule (with_sign b i)) what t u n h k) refl

pub signed-broken : (rule : ℤ → Bool) (what : TextKind) (s t : Sight) (b : Bool) (n : ℕ) (f : TextFault) → minus s ≡ Ok (b, t) → number_of (stands t) ≡ Some n → passed (rule (with_sign b n)) what t ≡ Err f → signed_where rule what s ≡ Err f
unfolding signed_where
signed-broken rule what s t b n f m h k = rw (m, number-broken (λ i. rule (with_sign b i)) what t n f h k) refl

pub signed-none : (rule : ℤ → Bool) (what : TextKind) (s t : Sight) (b : Bool) (f : TextFault) → minus s ≡ Ok (b, t) → number_of (stands t) ≡ None → f ≡ record { at = (here t).at; what = unexpected (stands t) } → signed_where rule what s ≡ Err f
unfolding signed_where
signed-none rule what s t b f m h k = rw (m, number-none (λ i. rule (with_sign b i)) what t f h k) refl

-- a number from -8 to 8
is_factor-is : (b : Bool) (n : ℕ) → is_factor (with_sign b n) ≡ nat_le n 8
is_factor-is true zero = refl
is_factor-is true (suc n) = refl
is_factor-is false n = refl

pub factor-takes : (s t u : Sight) (b : Bool) (n : ℕ) → minus s ≡ Ok (b, t) → number_of (stands t) ≡ Some n → passed (nat_le n 8) kind.Script t ≡ Ok (tt, u) → signed_where is_factor kind.Script s ≡ Ok (with_sign b n, u)
factor-takes s t u b n m h p = signed-taken is_factor kind.Script s t u b n m h (ap (λ (x : Bool). passed x kind.Script t) (is_factor-is b n) ∙ p)

pub factor-refuses : (s t : Sight) (b : Bool) (n : ℕ) (f : TextFault) → minus s ≡ Ok (b, t) → number_of (stands t) ≡ Some n → passed (nat_le n 8) kind.Script t ≡ Err f → signed_where is_factor kind.Script s ≡ Err f
factor-refuses s t b n f m h p = signed-broken is_factor kind.Script s t b n f m h (ap (λ (x : Bool). passed x kind.Script t) (is_factor-is b n) ∙ p)

pub ruleset factors = (factor-takes, factor-refuses, signed-none)

-- a step that is not 0
not_zero-is : (b : Bool) (n : ℕ) → not_zero (with_sign b n) ≡ not (n == 0)
not_zero-is true zero = refl
not_zero-is true (suc n) = let e : (suc n == 0) ≡ false = grind arith in rw e refl
not_zero-is false zero = refl
not_zero-is false (suc n) = let e : nat_le (suc n) 0 ≡ false = grind arith in let k : (suc n == 0) ≡ false = grind arith in rw (e, k) refl

pub step-takes : (s t u : Sight) (b : Bool) (n : ℕ) → minus s ≡ Ok (b, t) → number_of (stands t) ≡ Some n → passed (not (n == 0)) kind.Range t ≡ Ok (tt, u) → signed_where not_zero kind.Range s ≡ Ok (with_sign b n, u)
step-takes s t u b n m h p = signed-taken not_zero kind.Range s t u b n m h (ap (λ (x : Bool). passed x kind.Range t) (not_zero-is b n) ∙ p)

pub step-refuses : (s t : Sight) (b : Bool) (n : ℕ) (f : TextFault) → minus s ≡ Ok (b, t) → number_of (stands t) ≡ Some n → passed (not (n == 0)) kind.Range t ≡ Err f → signed_where not_zero kind.Range s ≡ Err f
step-refuses s t b n f m h p = signed-broken not_zero kind.Range s t b n f m h (ap (λ (x : Bool). passed x kind.Range t) (not_zero-is b n) ∙ p)

pub ruleset steps = (step-takes, step-refuses, signed-none)

signed-takes : (rule : ℤ → Bool) (what : TextKind) (s t u : Sight) (b : Bool) (n : ℕ) (v : ℤ) (r : Bool) → minus s ≡ Ok (b, t) → number_of (stands t) ≡ Some n → v ≡ with_sign b n → passed r what t ≡ Ok (tt, u) → rule v ≡ r → signed_where rule what s ≡ Ok (v, u)
signed-takes rule what s t u b n v r m h k p q = signed-taken rule what s t u b n m h (ap (λ (x : ℤ). passed (rule x) what t) (sym k) ∙ ap (λ (x : Bool). passed x what t) q ∙ p) ∙ ap (λ (x : ℤ). Ok (x, u)) (sym k)

signed-refuses : (rule : ℤ → Bool) (what : TextKind) (s t : Sight) (b : Bool) (n : ℕ) (v : ℤ) (r : Bool) (f : TextFault) → minus s ≡ Ok (b, t) → number_of (stands t) ≡ Some n → v ≡ with_sign b n → passed r what t ≡ Err f → rule v ≡ r → signed_where rule what s ≡ Err f
signed-refuses rule what s t b n v r f m h k p q = signed-broken rule what s t b n f m h (ap (λ (x : ℤ). passed (rule x) what t) (sym k) ∙ ap (λ (x : Bool). passed x what t) q ∙ p)

-- the growth of a ramp that fits
pub growth-takes : (words first count stride : ℕ) (start v : ℤ) (s t u : Sight) (b r : Bool) (n : ℕ) → minus s ≡ Ok (b, t) → number_of (stands t) ≡ Some n → v ≡ with_sign b n → r ≡ ramp_fits words first count stride start v → passed r kind.Range t ≡ Ok (tt, u) → signed_where (ramp_fits words first count stride start) kind.Range s ≡ Ok (v, u)
growth-takes words first count stride start v s t u b r n m h k q p = signed-takes (ramp_fits words first count stride start) kind.Range s t u b n v r m h k p (sym q)

pub growth-refuses : (words first count stride : ℕ) (start v : ℤ) (s t : Sight) (b r : Bool) (n : ℕ) (f : TextFault) → minus s ≡ Ok (b, t) → number_of (stands t) ≡ Some n → v ≡ with_sign b n → r ≡ ramp_fits words first count stride start v → passed r kind.Range t ≡ Err f → signed_where (ramp_fits words first count stride start) kind.Range s ≡ Err f
growth-refuses words first count stride start v s t b r n f m h k q p = signed-refuses (ramp_fits words first count stride start) kind.Range s t b n v r f m h k p (sym q)

-- a stride that is not 0
pub stride-takes : (s t : Sight) (n : ℕ) → number_of (stands s) ≡ Some n → passed (not (n == 0)) kind.Range s ≡ Ok (tt, t) → number_where (λ i. not (i == 0)) kind.Range s ≡ Ok (n, t)
stride-takes s t n h k = number-taken (λ i. not (i == 0)) kind.Range s t n h k

pub stride-refuses : (s : Sight) (n : ℕ) (f : TextFault) → number_of (stands s) ≡ Some n → passed (not (n == 0)) kind.Range s ≡ Err f → number_where (λ i. not (i == 0)) kind.Range s ≡ Err f
stride-refuses s n f h k = number-broken (λ i. not (i == 0)) kind.Range s n f h k

pub ruleset growths = (growth-takes, growth-refuses, signed-none)

-- a ramp, part by part
pub ramp-reads : (words first count stride : ℕ) (start growth : ℤ) (s t u v w x : Sight) → number s ≡ Ok (first, t) → number t ≡ Ok (count, u) → number_of (stands u) ≡ Some stride → passed (not (stride == 0)) kind.Range u ≡ Ok (tt, v) → signed v ≡ Ok (start, w) → signed_where (ramp_fits words first count stride start) kind.Range w ≡ Ok (growth, x) → item_of words item.Ramp s ≡ Ok (Ramp first count stride start growth, x)
unfolding item_of
ramp-reads words first count stride start growth s t u v w x a b h p d e = rw (a, b, stride-takes u v stride h p, d, e) refl

pub ramp-refuses : (words first count stride : ℕ) (start : ℤ) (s t u v w : Sight) (f : TextFault) → number s ≡ Ok (first, t) → number t ≡ Ok (count, u) → number_of (stands u) ≡ Some stride → passed (not (stride == 0)) kind.Range u ≡ Ok (tt, v) → signed v ≡ Ok (start, w) → signed_where (ramp_fits words first count stride start) kind.Range w ≡ Err f → item_of words item.Ramp s ≡ Err f
unfolding item_of
ramp-refuses words first count stride start s t u v w f a b h p d e = rw (a, b, stride-takes u v stride h p, d, e) refl

-- the same, where numbers were copied
pub ramp-copies : (words first count stride : ℕ) (start growth b g : ℤ) (s t u v w x : Sight) → b ≡ start → g ≡ growth → number s ≡ Ok (first, t) → number t ≡ Ok (count, u) → number_of (stands u) ≡ Some stride → passed (not (stride == 0)) kind.Range u ≡ Ok (tt, v) → signed v ≡ Ok (start, w) → signed_where (ramp_fits words first count stride b) kind.Range w ≡ Ok (growth, x) → item_of words item.Ramp s ≡ Ok (Ramp first count stride b g, x)
ramp-copies words first count stride start growth b g s t u v w x p q c d e f h k =
    ramp-reads words first count stride b g s t u v w x c d e f (h ∙ ap (λ (z : ℤ). Ok (z, w)) (sym p)) (k ∙ ap (λ (z : ℤ). Ok (z, x)) (sym q))

pub ramp-errs : (words first count stride : ℕ) (start b : ℤ) (s t u v w x : Sight) (e : ReadRefusal) → b ≡ start → number s ≡ Ok (first, t) → number t ≡ Ok (count, u) → number_of (stands u) ≡ Some stride → passed (not (stride == 0)) kind.Range u ≡ Ok (tt, v) → signed v ≡ Ok (start, w) → Gives {A = ℤ} (Err e) x (signed_where (ramp_fits words first count stride b) kind.Range w) → Gives {A = Item} (Err e) x (item_of words item.Ramp s)
ramp-errs words first count stride start b s t u v w x NoMemory p c d i f h k = tt
ramp-errs words first count stride start b s t u v w x (Text e) p c d i f h k = ramp-refuses words first count stride b s t u v w e c d i f (h ∙ ap (λ (z : ℤ). Ok (z, w)) (sym p)) k

pub ruleset ramps = (stride-takes, stride-refuses, number-none)

-- Expressions

operand-same : (names : Names) (u v e f : Reading Expr) → ((s : Sight) → u s ≡ v s) → ((s : Sight) → e s ≡ f s) → (o : Start) (s : Sight) → operand names u e o s ≡ operand names v f o s
operand-same names u v e f hu he (start.Number n) s = refl
operand-same names u v e f hu he (start.Name n) s = refl
operand-same names u v e f hu he start.Minus s = ap (λ (r : Result (Expr × Sight) TextFault). after r (λ a. gives (Neg a))) (hu s)
operand-same names u v e f hu he start.Open s = ap (λ (r : Result (Expr × Sight) TextFault). after r (λ a. closed mark.Close >>= λ _. gives a)) (he s)
operand-same names u v e f hu he start.Bracket s = after-same (access s) (λ _. e >>= λ a. closed mark.CloseBracket >>= λ _. access_number >>= λ k. gives (Load k a)) (λ _. f >>= λ a. closed mark.CloseBracket >>= λ _. access_number >>= λ k. gives (Load k a)) (λ x q. ap (λ (r : Result (Expr × Sight) TextFault). after r (λ a. closed mark.CloseBracket >>= λ _. access_number >>= λ k. gives (Load k a))) (he x.1))
operand-same names u v e f hu he start.Other s = refl

entered-zero : (go : ℕ → Reading Expr) (s : Sight) → refused {A = Expr} kind.Deep s ≡ (entered zero >>= go) s
unfolding entered refused
entered-zero go s = refl

entered-suc : (d : ℕ) (go : ℕ → Reading Expr) (s : Sight) → (taken >>= λ _. go d) s ≡ (entered (suc d) >>= go) s
unfolding entered
entered-suc d go s = elim (taken s) as (λ r. after r (λ _. go d) ≡ after (after r (λ _. gives d)) go) [ Ok x ↦ refl | Err f ↦ refl ]

-- an operand, with what stands deeper behind `entered`
pub unary-is : (names : Names) (d : ℕ) (s : Sight) → unary names d s ≡ operand names (entered d >>= unary names) (entered d >>= expr names) (start_of (stands s)) s
unfolding unary expr term sum
unary-is names zero s = operand-same names (refused kind.Deep) (entered zero >>= unary names) (refused kind.Deep) (entered zero >>= expr names) (entered-zero (unary names)) (entered-zero (expr names)) (start_of (stands s)) s
unary-is names (suc d) s = operand-same names (taken >>= λ _. unary names d) (entered (suc d) >>= unary names) (taken >>= λ _. expr names d) (entered (suc d) >>= expr names) (entered-suc d (unary names)) (entered-suc d (expr names)) (start_of (stands s)) s

pub ruleset units = (unary-is)

-- an operand's number is one of the text
pub start-fits : (t : Token) (n : ℕ) → start_of t ≡ start.Number n → FitsI64 t → n < 2 ^ 63
unfolding start_of
start-fits (token.Number m) n e h = let q : m ≡ n = cc in subst (λ (k : ℕ). k < 2 ^ 63) q h
start-fits (token.Plain mark.Minus) n e h = absurd (cc)
start-fits (token.Plain mark.Open) n e h = absurd (cc)
start-fits (token.Plain mark.OpenBracket) n e h = absurd (cc)
start-fits _ n e h = absurd (cc)

-- Statements

within-ok : (d : ℕ) (names : Names) (s : Sight) → choice d names s ≡ (within d >>= λ k. branches names (statements k names)) s
unfolding choice within refused
within-ok zero names s = refl
within-ok (suc d) names s = refl

pub choice-is : (d : ℕ) (names : Names) (s : Sight) → choice d names s ≡ (within d >>= λ k. branches names (statements k names)) s
choice-is d names s = within-ok d names s

pub ruleset choices = (choice-is)

pub statements-are : (d : ℕ) (names : Names) → statements d names ≡ listed (choice d) names
unfolding statements choice
statements-are zero names = refl
statements-are (suc d) names = refl

unless-lets : (n m : Name) (o : Option Place) (s t : Sight) → unless_known n o s ≡ Ok (m, t) → t.lets ≡ s.lets
unfolding skip refused
unless-lets n m None s t h = let q : (m, t) ≡ (n, skip s) = cc in ap (λ (x : Name × Sight). x.1.lets) q
unless-lets n m (Some p) s t h = absurd (cc)

fresh_at-lets : (names : Names) (k : Token) (m : Name) (s t : Sight) → fresh_at names k s ≡ Ok (m, t) → t.lets ≡ s.lets
unfolding refused
fresh_at-lets names (token.Name n) m s t h = unless-lets n m (place_of names n) s t h
fresh_at-lets names _ m s t h = absurd (cc)

pub fresh-lets : (names : Names) (m : Name) (s t : Sight) → fresh names s ≡ Ok (m, t) → t.lets ≡ s.lets
unfolding fresh
fresh-lets names m s t h = fresh_at-lets names (stands s) m s t h

pub ruleset lets = (fresh-lets)

-- Accesses

keeps-entered : (d : ℕ) → Keeps (entered d)
unfolding entered
keeps-entered zero i s x h l = keeps-refused kind.Deep i s x h l
keeps-entered (suc d) i s x h l = let f = bind-ok (taken s) (λ _. gives d) x h in keeps-gives d i f.0.1 x f.2 (keeps-taken i s f.0 f.1 l)

-- a load is begun before it is numbered
pub load-room : (names : Names) (d k : ℕ) (e : Expr) (t u v w : Sight) → t.accesses < t.opened → entered d t ≡ Ok (k, u) → expr names k u ≡ Ok (e, v) → closed mark.CloseBracket v ≡ Ok (tt, w) → w.accesses < w.opened
load-room names d k e t u v w h b c f =
    let i : t.accesses + 1 ≤ t.opened = omega arith in
    let j : u.accesses + 1 ≤ u.opened = keeps-entered d 1 t (k, u) b i in
    let m : v.accesses + 1 ≤ v.opened = keeps-expr names k 1 u (e, v) c j in
    let n : w.accesses + 1 ≤ w.opened = keeps-closed mark.CloseBracket 1 v (tt, w) f m in
    omega arith

pub ruleset load_room = (load-room)

-- a store is begun before it is numbered
pub store-room : (names ns : Names) (a e : Expr) (t u v w x y : Sight) → t.accesses < t.opened → u ≡ skip t → expression names u ≡ Ok (a, v) → need mark.CloseBracket v ≡ Ok (tt, w) → need mark.Assign w ≡ Ok (tt, x) → expression ns x ≡ Ok (e, y) → y.accesses < y.opened
unfolding skip
store-room names ns a e t u v w x y h q c f g k =
    let i : t.accesses + 1 ≤ t.opened = omega arith in
    let j : u.accesses + 1 ≤ u.opened = keeps-skipped 1 t (tt, u) (ap (λ (z : Sight). Ok (tt, z)) (sym q)) i in
    let m : v.accesses + 1 ≤ v.opened = keeps-expression names 1 u (a, v) c j in
    let n : w.accesses + 1 ≤ w.opened = keeps-need mark.CloseBracket 1 v (tt, w) f m in
    let o : x.accesses + 1 ≤ x.opened = keeps-need mark.Assign 1 w (tt, x) g n in
    let p : y.accesses + 1 ≤ y.opened = keeps-expression ns 1 x (e, y) k o in
    omega arith

pub ruleset store_room = (store-room)

-- Versions

version-by : Option ℕ → Reading Version
version-by None = wrong
version-by (Some n) = if n == 1 then set_version One else (if n == 2 then set_version Two else refused kind.Version)

version_at-is : (t : Token) (s : Sight) → version_at t s ≡ version-by (number_of t) s
unfolding number_of version-by
version_at-is (token.Number n) s = refl
version_at-is _ s = refl

said : Option Version → Reading Version
said (Some v) = set_version v
said None = refused kind.Version

version-by-is : (a b : Bool) (s : Sight) → (if a then set_version One else (if b then set_version Two else refused kind.Version)) s ≡ said (version_if a b) s
unfolding said
version-by-is true b s = refl
version-by-is false true s = refl
version-by-is false false s = refl

version-said : (s : Sight) (n : ℕ) → number_of (stands s) ≡ Some n → version_at (stands s) s ≡ said (version_of n) s
unfolding version-by version_of
version-said s n h = version_at-is (stands s) s ∙ (rw h (version-by-is (n == 1) (n == 2) s))

pub version-known : (s : Sight) (n : ℕ) (v : Version) → number_of (stands s) ≡ Some n → version_of n ≡ Some v → version_at (stands s) s ≡ Ok (v, of_version v (skip s))
unfolding said
version-known s n v h k = version-said s n h ∙ (rw k refl)

pub version-unknown : (s : Sight) (n : ℕ) → number_of (stands s) ≡ Some n → version_of n ≡ None → version_at (stands s) s ≡ Err (record { at = (here s).at; what = kind.Version })
unfolding said refused
version-unknown s n h k = version-said s n h ∙ (rw k refl)

pub version-none : (s : Sight) (f : TextFault) → number_of (stands s) ≡ None → f ≡ record { at = (here s).at; what = unexpected (stands s) } → version_at (stands s) s ≡ Err f
unfolding version-by refused
version-none s f h k = version_at-is (stands s) s ∙ (rw (h, k) refl)

pub ruleset versions = (version-known, version-unknown, version-none)

-- Words of commands

-- a word with zeros behind it
pub padded-is : (s new z : List ℕ) → z ≡ s → new ≡ z → new ++ drop (length z) (replicate 32 0) ≡ s ++ replicate (32 - length s) 0
padded-is s new z q n = rw (n, q, drop-replicate {X = ℕ} (length s) 32 0)
