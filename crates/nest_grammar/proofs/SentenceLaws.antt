-- Sentences: how a reading at a sight stands to a form of the grammar, and how this goes on from one reading
-- to the next.
use Rattle.std.proofs.Common.{◌≡◌, ℕ, zero, suc, List, [], ◌∷◌, ◌++◌, length, refl, sym, ◌∙◌, ap, Option, Some, None, Result, Ok, Err, Bool, true, false, cond, subst, append_assoc, append-nil, nat_lt, if◌then◌else◌}
use Rattle.nest_tokens.specs.declared.token.Mark.{Mark}
use Rattle.nest_tokens.specs.declared.token.Token.{Token}
use Rattle.nest_tokens.specs.declared.token.Token.TheVariants as token
use Rattle.nest_tokens.specs.declared.token.BadToken.TheVariants as bad
use Rattle.nest_tokens.specs.declared.token.Spot.{Spot}
use Rattle.nest_tokens.specs.Tokens.{is_mark}
use Rattle.nest_tokens.proofs.MarkLaws.{is_mark-true}
use Rattle.nest_grammar.specs.declared.fault.TextFault.{TextFault}
use Rattle.nest_grammar.specs.declared.fault.TextKind.{TextKind}
use Rattle.nest_grammar.specs.declared.fault.TextKind.TheVariants as kind
use Rattle.nest_grammar.specs.Limits.{most_tokens, most_accesses}
use Rattle.nest_tokens.specs.Ahead.{first, rest}
use Rattle.nest_grammar.specs.Sights.{Sight, stands, here, skip, spend, opens}
use Rattle.nest_grammar.specs.Readings.{Reading, after, ◌>>=◌, gives, refused, wrong, unexpected, skipped, need, obeys, more_at, more, many}
use Rattle.nest_grammar.specs.Expressions.{taken, closed, access}
use Rattle.nest_grammar.specs.Kinds.{comes_at, is_counted, is_solid}
use Rattle.nest_grammar.specs.Phrases.{Form, Nothing, Sign, Number, Many, ◌·◌, ◌∣◌, maybe, Allows, nothing, sign, number, both, one, other, none, more as again, shown, at_allowed}

-- Words

-- some tokens that are written so
abbrev pub Word : Form → Type 0
Word e = (ts : List Token) × Allows e ts

-- some tokens that are written so, and begin with this one
abbrev pub Starts : Form → Token → Type 0
Starts e t = (ts : List Token) × Allows e (t ∷ ts)

pub word-then : {e g : Form} → Word e → Word g → Word (e · g)
word-then v w = (v.0 ++ w.0, both v.1 w.1)

pub starts-then : {e g : Form} {t : Token} → Starts e t → Word g → Starts (e · g) t
starts-then v w = (v.0 ++ w.0, both v.1 w.1)

pub word-starts : {e : Form} {t : Token} → Starts e t → Word e
word-starts {e} {t} v = (t ∷ v.0, v.1)

pub starts-as : {e g : Form} {t : Token} → ((ts : List Token) → Allows e ts → Allows g ts) → Starts e t → Starts g t
starts-as {e} {g} {t} up v = (v.0, up (t ∷ v.0) v.1)

pub word-many : {e : Form} → Word (Many e)
word-many = ([], none)

pub word-maybe : {e : Form} → Word (maybe e)
word-maybe = ([], other nothing)

pub word-sign : {m : Mark} → Word (Sign m)
word-sign {m} = (token.Plain m ∷ [], sign)

pub word-number : Word Number
word-number = (token.Number 0 ∷ [], number)

pub starts-sign : {m : Mark} → Starts (Sign m) (token.Plain m)
starts-sign = ([], sign)

pub starts-number : {n : ℕ} → Starts Number (token.Number n)
starts-number = ([], number)

-- Forms

pub nothing-then : {e : Form} (ts : List Token) → Allows (Nothing · e) ts → Allows e ts
nothing-then ts (both nothing w) = w

pub then-nothing : {e : Form} (ts : List Token) → Allows (e · Nothing) ts → Allows e ts
then-nothing {e} _ (both {xs = xs} v nothing) = subst (λ (l : List Token). Allows e l) (sym (append-nil xs)) v

pub regroup : {e g h : Form} (ts : List Token) → Allows ((e · g) · h) ts → Allows (e · g · h) ts
regroup {e} {g} {h} _ (both {ys = zs} (both {xs = xs} {ys = ys} u v) w) = subst (λ (l : List Token). Allows (e · g · h) l) (sym (append_assoc xs ys zs)) (both u (both v w))

pub one-then : {e g h : Form} (ts : List Token) → Allows ((e ∣ g) · h) ts → Allows ((e · h) ∣ (g · h)) ts
one-then _ (both (one u) w) = one (both u w)
one-then _ (both (other u) w) = other (both u w)

-- A reading against a form

-- the token here begins something that is written so
pub record AllowedAt (e : Form) (before behind : List Spot) : Type 0 where
  pub spot : Spot
  pub rest : List Spot
  pub fill : List Token
  pub is : behind ≡ spot ∷ rest
  pub allows : Allows e (shown before ++ spot.token ∷ fill)

-- a thing that is written so was read
pub record Passed {A : Type 0} (e : Form) (x : A × Sight) (size : ℕ) (l : List Spot) : Type 0 where
  pub before : List Spot
  pub left : l ≡ before ++ x.1.left
  pub ends : x.1.size ≡ size
  pub allows : Allows e (shown before)

-- what stands before the fault begins something that is written so
pub record Stopped (e : Form) (f : TextFault) (size : ℕ) (l : List Spot) : Type 0 where
  pub before : List Spot
  pub behind : List Spot
  pub left : l ≡ before ++ behind
  pub at : f.at ≡ (first size behind).at
  pub fill : List Token
  pub begins : Allows e (shown before ++ fill)
  pub allowed : at_allowed f.what ≡ true → AllowedAt e before behind
  pub comes : comes_at f.what (first size behind).token ≡ true

abbrev pub Judged : {A : Type 0} → Form → Result (A × Sight) TextFault → ℕ → List Spot → Type 0
Judged e (Ok x) size l = Passed e x size l
Judged e (Err f) size l = Stopped e f size l

pub record At {A : Type 0} (e : Form) (r : Reading A) (s : Sight) : Type 0 where
  pub is : Judged e (r s) s.size s.left

-- A reading reads what is written so.
abbrev pub Of : {A : Type 0} → Form → Reading A → Type 0
Of e r = (s : Sight) → At e r s

shown-append : (xs ys : List Spot) → shown (xs ++ ys) ≡ shown xs ++ shown ys
shown-append [] ys = refl
shown-append (x ∷ xs) ys = ap (λ (l : List Token). x.token ∷ l) (shown-append xs ys)

judged-as : {A : Type 0} {e g : Form} → ((ts : List Token) → Allows e ts → Allows g ts) → (y : Result (A × Sight) TextFault) (size : ℕ) (l : List Spot) → Judged e y size l → Judged g y size l
judged-as up (Ok x) size l h = record { before = h.before; left = h.left; ends = h.ends; allows = up (shown h.before) h.allows }
judged-as up (Err f) size l h = record { before = h.before; behind = h.behind; left = h.left; at = h.at; fill = h.fill; begins = up (shown h.before ++ h.fill) h.begins; allowed = λ q. (let a = h.allowed q in record { spot = a.spot; rest = a.rest; fill = a.fill; is = a.is; allows = up (shown h.before ++ a.spot.token ∷ a.fill) a.allows }); comes = h.comes }

-- by another form that allows as much
pub at-as : {A : Type 0} {e g : Form} {r : Reading A} {s : Sight} → ((ts : List Token) → Allows e ts → Allows g ts) → At e r s → At g r s
at-as {A} {e} {g} {r} {s} up h = record { is = judged-as up (r s) s.size s.left h.is }

joined : {B : Type 0} (e g : Form) (w l : List Spot) (size : ℕ) (t : Sight) → l ≡ w ++ t.left → t.size ≡ size → Allows e (shown w) → (y : Result (B × Sight) TextFault) → Judged g y t.size t.left → Judged (e · g) y size l
joined e g w l size t p z u (Ok x) h = record {
  before = w ++ h.before;
  left = p ∙ ap (λ (k : List Spot). w ++ k) h.left ∙ sym (append_assoc w h.before x.1.left);
  ends = h.ends ∙ z;
  allows = subst (λ (k : List Token). Allows (e · g) k) (sym (shown-append w h.before)) (both u h.allows);
}
joined e g w l size t p z u (Err f) h = record {
  before = w ++ h.before;
  behind = h.behind;
  left = p ∙ ap (λ (k : List Spot). w ++ k) h.left ∙ sym (append_assoc w h.before h.behind);
  at = h.at ∙ ap (λ (n : ℕ). (first n h.behind).at) z;
  fill = h.fill;
  begins = subst (λ (k : List Token). Allows (e · g) (k ++ h.fill)) (sym (shown-append w h.before)) (subst (λ (k : List Token). Allows (e · g) k) (sym (append_assoc (shown w) (shown h.before) h.fill)) (both u h.begins));
  allowed = λ q. (let a = h.allowed q in record {
    spot = a.spot;
    rest = a.rest;
    fill = a.fill;
    is = a.is;
    allows = subst (λ (k : List Token). Allows (e · g) (k ++ a.spot.token ∷ a.fill)) (sym (shown-append w h.before)) (subst (λ (k : List Token). Allows (e · g) k) (sym (append_assoc (shown w) (shown h.before) (a.spot.token ∷ a.fill))) (both u a.allows));
  });
  comes = subst (λ (n : ℕ). comes_at f.what (first n h.behind).token ≡ true) z h.comes;
}

then-at : {A B : Type 0} (e g : Form) (r : Reading A) (f : A → Reading B) (s : Sight) → Word g → (y : Result (A × Sight) TextFault) → r s ≡ y → Judged e y s.size s.left → ((x : A × Sight) → r s ≡ Ok x → At g (f x.0) x.1) → Judged (e · g) (after y f) s.size s.left
then-at e g r f s v (Ok x) q h hf = joined e g h.before s.left s.size x.1 h.left h.ends h.allows (f x.0 x.1) (hf x q).is
then-at e g r f s v (Err k) q h hf = record {
  before = h.before;
  behind = h.behind;
  left = h.left;
  at = h.at;
  fill = h.fill ++ v.0;
  begins = subst (λ (l : List Token). Allows (e · g) l) (append_assoc (shown h.before) h.fill v.0) (both h.begins v.1);
  allowed = λ i. (let a = h.allowed i in record {
    spot = a.spot;
    rest = a.rest;
    fill = a.fill ++ v.0;
    is = a.is;
    allows = subst (λ (l : List Token). Allows (e · g) l) (append_assoc (shown h.before) (a.spot.token ∷ a.fill) v.0) (both a.allows v.1);
  });
  comes = h.comes;
}

-- one reading behind another
pub at-then : {A B : Type 0} {e g : Form} {r : Reading A} (f : A → Reading B) {s : Sight} → At e r s → Word g → ((x : A × Sight) → r s ≡ Ok x → At g (f x.0) x.1) → At (e · g) (r >>= f) s
at-then {A} {B} {e} {g} {r} f {s} h v hf = record { is = then-at e g r f s v (r s) refl h.is hf }

pub of-then : {A B : Type 0} {e g : Form} {r : Reading A} {f : A → Reading B} {s : Sight} → At e r s → Word g → ((a : A) → Of g (f a)) → At (e · g) (r >>= f) s
of-then {f = f} h v hf = at-then f h v (λ x q. hf x.0 x.1)

-- nothing is read
pub at-nothing : {A : Type 0} (x : A × Sight) (s : Sight) → x.1.left ≡ s.left → x.1.size ≡ s.size → Passed Nothing x s.size s.left
at-nothing x s l z = record { before = []; left = sym l; ends = z; allows = nothing }

pub of-gives : {A : Type 0} (a : A) → Of Nothing (gives a)
of-gives a s = record { is = at-nothing (a, s) s refl refl }

-- the last reading gives only what was read
pub at-last : {A B : Type 0} {e : Form} {r : Reading A} {f : A → Reading B} {s : Sight} → At e r s → ((a : A) → Of Nothing (f a)) → At e (r >>= f) s
at-last h hf = at-as then-nothing (of-then h ([], nothing) hf)

-- The token here

abbrev pub Real : Token → Type 0
Real t = t ≡ token.End → ⊥

spot-here : (s : Sight) (t : Token) → stands s ≡ t → Real t → (y : Spot) × (s.left ≡ y ∷ (skip s).left) × (y.token ≡ t)
unfolding here skip
spot-here s t e real = elim s.left as (λ l. (first s.size l).token ≡ t → (y : Spot) × (l ≡ y ∷ rest l) × (y.token ≡ t)) [ [] ↦ λ k. absurd (real (sym k)) | y ∷ ys ↦ λ k. (y, refl, k) ] e

pub passed-one : {A : Type 0} (a : A) (e : Form) (s u : Sight) (t : Token) → u.left ≡ (skip s).left → u.size ≡ s.size → stands s ≡ t → Real t → Allows e (t ∷ []) → Passed e (a, u) s.size s.left
passed-one a e s u t l z h real v = let y = spot-here s t h real in record {
  before = y.0 ∷ [];
  left = y.1 ∙ ap (λ (k : List Spot). y.0 ∷ k) (sym l);
  ends = z;
  allows = subst (λ (k : Token). Allows e (k ∷ [])) (sym y.2) v;
}

-- past a token
pub at-skipped : {e : Form} {s : Sight} (t : Token) → stands s ≡ t → Real t → Allows e (t ∷ []) → At e skipped s
unfolding skip
at-skipped {e} {s} t h real v = record { is = passed-one tt e s (skip s) t refl refl h real v }

-- a token that the grammar allows, and that breaks a rule
pub at-refused : {A : Type 0} {e : Form} {s : Sight} (what : TextKind) (t : Token) → stands s ≡ t → Real t → Starts e t → comes_at what t ≡ true → At e (refused {A = A} what) s
unfolding refused here
at-refused {A} {e} {s} what t h real v c = let y = spot-here s t h real in record {
  is = record {
    before = [];
    behind = s.left;
    left = refl;
    at = refl;
    fill = t ∷ v.0;
    begins = v.1;
    allowed = λ q. record { spot = y.0; rest = (skip s).left; fill = v.0; is = y.1; allows = subst (λ (k : Token). Allows e (k ∷ v.0)) (sym y.2) v.1 };
    comes = subst (λ (k : Token). comes_at what k ≡ true) (sym h) c;
  };
}

no-rule : (t : Token) → at_allowed (unexpected t) ≡ true → ⊥
no-rule (token.Bad bad.Byte) h = cc
no-rule (token.Bad bad.Number) h = cc
no-rule (token.Bad bad.Name) h = cc
no-rule _ h = cc

wrong-comes : (t : Token) → comes_at (unexpected t) t ≡ true
wrong-comes (token.Bad bad.Byte) = refl
wrong-comes (token.Bad bad.Number) = refl
wrong-comes (token.Bad bad.Name) = refl
wrong-comes (token.Name n) = refl
wrong-comes (token.Number n) = refl
wrong-comes (token.Plain m) = refl
wrong-comes token.End = refl

-- a token that the grammar does not allow
pub of-wrong : {A : Type 0} {e : Form} → Word e → Of e (wrong {A = A})
unfolding refused here
of-wrong {A} {e} v s = record {
  is = record {
    before = [];
    behind = s.left;
    left = refl;
    at = refl;
    fill = v.0;
    begins = v.1;
    allowed = λ q. absurd (no-rule (stands s) q);
    comes = wrong-comes (stands s);
  };
}

-- a token that is judged by a rule of its own
pub at-judged : {A : Type 0} {e : Form} {s : Sight} (what : TextKind) → at_allowed what ≡ false → Word e → comes_at what (stands s) ≡ true → At e (refused {A = A} what) s
unfolding refused here
at-judged {A} {e} {s} what w v c = record {
  is = record {
    before = [];
    behind = s.left;
    left = refl;
    at = refl;
    fill = v.0;
    begins = v.1;
    allowed = λ q. absurd (let k : at_allowed what ≡ true = q in cc);
    comes = c;
  };
}

-- by the token that stands here
pub by-token : {A : Type 0} {e : Form} {s : Sight} (f : Token → Reading A) → ((t : Token) → stands s ≡ t → At e (f t) s) → At e (λ s. f (stands s) s) s
by-token {A} {e} {s} f h = record { is = (h (stands s) refl).is }

-- by a test
pub by-test : {A : Type 0} {e : Form} {s : Sight} (b : Bool) (p q : Reading A) → (b ≡ true → At e p s) → (b ≡ false → At e q s) → At e (λ s. if b then p s else q s) s
by-test true p q hp hq = record { is = (hp refl).is }
by-test false p q hp hq = record { is = (hq refl).is }

-- a rule of the token here
pub at-obeys : {A : Type 0} {e : Form} (f : Unit {0} → Reading A) {s : Sight} (b : Bool) (what : TextKind) (t : Token) → stands s ≡ t → Real t → Starts e t → comes_at what t ≡ true → At e (f tt) s → At e (obeys b what >>= f) s
unfolding obeys refused
at-obeys f true what t h real v c n = record { is = n.is }
at-obeys {A} {e} f {s} false what t h real v c n = record { is = (at-refused {A = A} what t h real v c).is }

pub at-access : {A : Type 0} {e : Form} (f : Unit {0} → Reading A) {s : Sight} (t : Token) → stands s ≡ t → Real t → Starts e t → is_counted t ≡ true → At e (f tt) (opens s) → At e (access >>= f) s
unfolding access refused
at-access {A} {e} f {s} t h real v c n = record { is = elim (nat_lt s.opened (most_accesses s.version)) as (λ b. Judged e (after (cond b (Ok (tt, opens s)) (refused kind.Many s)) f) s.size s.left) [ true ↦ n.is | false ↦ (at-refused {A = A} kind.Many t h real v c).is ] }

pub at-taken : {e : Form} {s : Sight} (t : Token) → stands s ≡ t → Real t → Allows e (t ∷ []) → is_solid t ≡ true → At e taken s
unfolding taken refused skip
at-taken {e} {s} t h real v c = record { is = elim (nat_lt s.spent most_tokens) as (λ b. Judged {A = Unit {0}} e (cond b (Ok (tt, spend s)) (refused kind.Deep s)) s.size s.left) [ true ↦ passed-one tt e s (spend s) t refl refl h real v | false ↦ (at-refused {A = Unit {0}} kind.Deep t h real ([], v) c).is ] }

pub of-need : (m : Mark) → Of (Sign m) (need m)
unfolding need
of-need m s = by-token (λ t s. if is_mark m t then Ok (tt, skip s) else wrong s) (λ t h. by-test (is_mark m t) skipped wrong
    (λ q. let e : t ≡ token.Plain m = is_mark-true m t q in at-skipped (token.Plain m) (h ∙ e) (λ k. cc) sign)
    (λ q. of-wrong word-sign s))

pub of-closed : (m : Mark) → Of (Sign m) (closed m)
unfolding closed
of-closed m s = by-token (λ t s. if is_mark m t then taken s else wrong s) (λ t h. by-test (is_mark m t) taken wrong
    (λ q. let e : t ≡ token.Plain m = is_mark-true m t q in at-taken (token.Plain m) (h ∙ e) (λ k. cc) sign refl)
    (λ q. of-wrong word-sign s))

-- part after part

again-then : {e : Form} (ts : List Token) → Allows (e · Many e) ts → Allows (Many e) ts
again-then ts (both u w) = again u w

of-more : {A B : Type 0} {e : Form} (n : ℕ) (begins : Token → Option B) (part : B → A → Reading A) → ((b : B) (a : A) (s : Sight) → begins (stands s) ≡ Some b → At e (part b a) s) → (a : A) → Of (Many e) (more n begins part a)
unfolding more
of-more zero begins part h a s = record { is = record { before = []; left = refl; ends = refl; allows = none } }
of-more {A} {B} {e} (suc n) begins part h a s = record {
  is = (elim (begins (stands s)) as (λ o. begins (stands s) ≡ o → At (Many e) (more_at part (more n begins part) a o) s) [
    | None ↦ λ k. record { is = record { before = []; left = refl; ends = refl; allows = none } }
    | Some b ↦ λ k. at-as again-then (of-then (h b a s k) word-many (λ c. of-more n begins part h c))
  ] refl).is;
}

pub of-many : {A B : Type 0} {e : Form} (begins : Token → Option B) (part : B → A → Reading A) → ((b : B) (a : A) (s : Sight) → begins (stands s) ≡ Some b → At e (part b a) s) → (a : A) → Of (Many e) (many begins part a)
unfolding many
of-many begins part h a s = record { is = (of-more (length s.left) begins part h a s).is }
