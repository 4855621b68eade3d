-- Steps: what each small reading gives where the grammar goes on, and what stood there where it gave that.
use Rattle.std.proofs.Common.{◌≡◌, ℕ, ◌<◌, ℤ, pos, refl, ◌∙◌, ap, subst, Option, Some, None, Result, Ok, Bool, true, false, cond, nat_lt}
use Rattle.std.proofs.lemmas.Bool.{lt-ltb, ltb-true}
use Rattle.nest_lang.specs.declared.tree.Place.{Place}
use Rattle.nest_lang.specs.declared.tree.Place.TheVariants as place
use Rattle.nest_tokens.specs.declared.token.Name.{Name}
use Rattle.nest_tokens.specs.declared.token.Token.{Token}
use Rattle.nest_tokens.specs.declared.token.Token.TheVariants as token
use Rattle.nest_tokens.specs.declared.token.Mark.{Mark}
use Rattle.nest_tokens.specs.declared.token.Mark.TheVariants as mark
use Rattle.nest_tokens.specs.Tokens.{is_mark}
use Rattle.nest_tokens.proofs.MarkLaws.{is_mark-self, is_mark-true}
use Rattle.nest_grammar.specs.declared.fault.TextFault.{TextFault}
use Rattle.nest_grammar.specs.declared.fault.TextKind.{TextKind}
use Rattle.nest_grammar.specs.declared.fault.TextKind.TheVariants as kind
use Rattle.nest_grammar.specs.Limits.{most_tokens, most_accesses}
use Rattle.nest_grammar.specs.Sights.{Sight, stands, Sees, skip, spend, opens}
use Rattle.nest_grammar.specs.Readings.{Reading, after, ◌>>=◌, gives, refused, wrong, skipped, need, obeys, fewer, number_where, number_at, minus, signed_where, with_sign, end, end_at}
use Rattle.nest_grammar.specs.Names.{Names, place_of, fresh, fresh_at, unless_known, target, if_scalar}
use Rattle.nest_grammar.specs.Expressions.{taken, closed, access}
use Rattle.nest_grammar.specs.Grammar.{Room, AccessRoom, SeesNumber, SeesName, IsSigned, unsigned, negative}
use Rattle.nest_grammar.proofs.PartAfterPartLaws.{bind-ok}

-- What each gives.

pub sees-is : (m : Mark) (s : Sight) → Sees m s → is_mark m (stands s) ≡ true
sees-is m s h = ap (is_mark m) h ∙ is_mark-self m

pub need-sees : (m : Mark) (s : Sight) → Sees m s → need m s ≡ Ok (tt, skip s)
unfolding need
need-sees m s h = let e = sees-is m s h in rw e

pub obeys-true : (b : Bool) (what : TextKind) (s : Sight) → b ≡ true → obeys b what s ≡ Ok (tt, s)
unfolding obeys
obeys-true b what s h = rw h

pub fewer-room : (used most : ℕ) (s : Sight) → used < most → fewer used most s ≡ Ok (tt, s)
fewer-room used most s h = obeys-true (nat_lt used most) kind.Many s (lt-ltb used most h)

pub taken-room : (s : Sight) → Room s → taken s ≡ Ok (tt, spend s)
unfolding taken
taken-room s h = let e : nat_lt s.spent most_tokens ≡ true = lt-ltb s.spent most_tokens h in rw e

pub closed-sees : (m : Mark) (s : Sight) → Sees m s → Room s → closed m s ≡ Ok (tt, spend s)
unfolding closed
closed-sees m s h r = let e = sees-is m s h in let q = taken-room s r in rw (e, q)

pub access-room : (s : Sight) → AccessRoom s → access s ≡ Ok (tt, opens s)
unfolding access
access-room s h = let e : nat_lt s.opened (most_accesses s.version) ≡ true = lt-ltb s.opened (most_accesses s.version) h in rw e

pub number-sees : (rule : ℕ → Bool) (what : TextKind) (n : ℕ) (s : Sight) → SeesNumber n s → rule n ≡ true → number_where rule what s ≡ Ok (n, skip s)
unfolding number_where obeys
number-sees rule what n s h r = rw (h, r)

pub fresh-sees : (names : Names) (n : Name) (s : Sight) → SeesName n s → place_of names n ≡ None → fresh names s ≡ Ok (n, skip s)
unfolding fresh
fresh-sees names n s h k = rw (h, k)

pub target-is : (names : Names) (n : Name) (k : ℕ) (s : Sight) → place_of names n ≡ Some (place.Scalar k) → target names n s ≡ Ok (k, skip s)
unfolding target
target-is names n k s h = rw h

pub minus-sees : (s : Sight) → Sees mark.Minus s → minus s ≡ Ok (true, skip s)
unfolding minus
minus-sees s h = let e = sees-is mark.Minus s h in rw e

pub minus-number : (n : ℕ) (s : Sight) → SeesNumber n s → minus s ≡ Ok (false, s)
unfolding minus is_mark
minus-number n s h = rw h

pub signed-is : (rule : ℤ → Bool) (what : TextKind) (s : Sight) (v : ℤ) (t : Sight) → IsSigned s v t → rule v ≡ true → signed_where rule what s ≡ Ok (v, t)
unfolding signed_where
signed-is rule what s _ _ (unsigned {n} h) r =
    let e = minus-number n s h in let q = number-sees (λ k. rule (with_sign false k)) what n s h r in rw (e, q)
signed-is rule what s _ _ (negative {n} h k) r =
    let e = minus-sees s h in let q = number-sees (λ k. rule (with_sign true k)) what n (skip s) k r in rw (e, q)

pub end-is : (s : Sight) → stands s ≡ token.End → end s ≡ Ok (tt, s)
unfolding end
end-is s h = rw h

-- What stood there.

pub given : {A : Type 0} (a : A) (s : Sight) (x : A × Sight) → gives a s ≡ Ok x → x ≡ (a, s)
given a s x h = cc

pub need-then : {B : Type 0} (m : Mark) (go : Unit {0} → Reading B) (s : Sight) (y : B × Sight) → after (need m s) go ≡ Ok y → Sees m s × (go tt (skip s) ≡ Ok y)
unfolding need refused
need-then {B} m go s y h = elim (is_mark m (stands s)) as (λ b. is_mark m (stands s) ≡ b → after (cond b (Ok (tt, skip s)) (wrong s)) go ≡ Ok y → Sees m s × (go tt (skip s) ≡ Ok y))
    [ true ↦ λ e k. (is_mark-true m (stands s) e, k) | false ↦ λ e k. absurd (cc) ] refl h

pub obeys-then : {B : Type 0} (b : Bool) (what : TextKind) (go : Unit {0} → Reading B) (s : Sight) (y : B × Sight) → after (obeys b what s) go ≡ Ok y → (b ≡ true) × (go tt s ≡ Ok y)
unfolding obeys refused
obeys-then true what go s y h = (refl, h)
obeys-then false what go s y h = absurd (cc)

pub fewer-then : {B : Type 0} (used most : ℕ) (go : Unit {0} → Reading B) (s : Sight) (y : B × Sight) → after (fewer used most s) go ≡ Ok y → (used < most) × (go tt s ≡ Ok y)
fewer-then used most go s y h = let f = obeys-then (nat_lt used most) kind.Many go s y h in (ltb-true used most f.0, f.1)

pub taken-then : {B : Type 0} (go : Unit {0} → Reading B) (s : Sight) (y : B × Sight) → after (taken s) go ≡ Ok y → Room s × (go tt (spend s) ≡ Ok y)
unfolding taken refused
taken-then {B} go s y h = elim (nat_lt s.spent most_tokens) as (λ b. nat_lt s.spent most_tokens ≡ b → after (cond b (Ok (tt, spend s)) (refused kind.Deep s)) go ≡ Ok y → Room s × (go tt (spend s) ≡ Ok y))
    [ true ↦ λ e k. (ltb-true s.spent most_tokens e, k) | false ↦ λ e k. absurd (cc) ] refl h

pub closed-then : {B : Type 0} (m : Mark) (go : Unit {0} → Reading B) (s : Sight) (y : B × Sight) → after (closed m s) go ≡ Ok y → Sees m s × Room s × (go tt (spend s) ≡ Ok y)
unfolding closed refused
closed-then {B} m go s y h = elim (is_mark m (stands s)) as (λ b. is_mark m (stands s) ≡ b → after (cond b (taken s) (wrong s)) go ≡ Ok y → Sees m s × Room s × (go tt (spend s) ≡ Ok y))
    [ true ↦ λ e k. (let f = taken-then go s y k in (is_mark-true m (stands s) e, f.0, f.1)) | false ↦ λ e k. absurd (cc) ] refl h

pub access-then : {B : Type 0} (go : Unit {0} → Reading B) (s : Sight) (y : B × Sight) → after (access s) go ≡ Ok y → AccessRoom s × (go tt (opens s) ≡ Ok y)
unfolding access refused
access-then {B} go s y h = elim (nat_lt s.opened (most_accesses s.version)) as (λ b. nat_lt s.opened (most_accesses s.version) ≡ b → after (cond b (Ok (tt, opens s)) (refused kind.Many s)) go ≡ Ok y → AccessRoom s × (go tt (opens s) ≡ Ok y))
    [ true ↦ λ e k. (ltb-true s.opened (most_accesses s.version) e, k) | false ↦ λ e k. absurd (cc) ] refl h

pub number-then : {B : Type 0} (rule : ℕ → Bool) (what : TextKind) (go : ℕ → Reading B) (s : Sight) (y : B × Sight) → after (number_where rule what s) go ≡ Ok y → (n : ℕ) × SeesNumber n s × (rule n ≡ true) × (go n (skip s) ≡ Ok y)
unfolding number_where refused obeys
number-then {B} rule what go s y h = by (stands s) refl h
  where
    kept : (n : ℕ) (b : Bool) → SeesNumber n s → rule n ≡ b → after (after (cond b (Ok (tt {0}, s)) (refused what s)) (λ _. skipped >>= λ _. gives n)) go ≡ Ok y → (n : ℕ) × SeesNumber n s × (rule n ≡ true) × (go n (skip s) ≡ Ok y)
    kept n true e r k = (n, e, r, k)
    kept n false e r k = absurd (cc)

    by : (t : Token) → stands s ≡ t → after (number_at rule what t s) go ≡ Ok y → (n : ℕ) × SeesNumber n s × (rule n ≡ true) × (go n (skip s) ≡ Ok y)
    by (token.Number n) e k = kept n (rule n) e refl k
    by _ e k = absurd (cc)

pub fresh-then : {B : Type 0} (names : Names) (go : Name → Reading B) (s : Sight) (y : B × Sight) → after (fresh names s) go ≡ Ok y → (n : Name) × SeesName n s × (place_of names n ≡ None) × (go n (skip s) ≡ Ok y)
unfolding fresh refused
fresh-then {B} names go s y h = by (stands s) refl h
  where
    new : (n : Name) (o : Option Place) → SeesName n s → place_of names n ≡ o → after (unless_known n o s) go ≡ Ok y → (n : Name) × SeesName n s × (place_of names n ≡ None) × (go n (skip s) ≡ Ok y)
    new n None e r k = (n, e, r, k)
    new n (Some p) e r k = absurd (cc)

    by : (t : Token) → stands s ≡ t → after (fresh_at names t s) go ≡ Ok y → (n : Name) × SeesName n s × (place_of names n ≡ None) × (go n (skip s) ≡ Ok y)
    by (token.Name n) e k = new n (place_of names n) e refl k
    by _ e k = absurd (cc)

pub target-then : {B : Type 0} (names : Names) (n : Name) (go : ℕ → Reading B) (s : Sight) (y : B × Sight) → after (target names n s) go ≡ Ok y → (k : ℕ) × (place_of names n ≡ Some (place.Scalar k)) × (go k (skip s) ≡ Ok y)
unfolding target refused
target-then {B} names n go s y h = by (place_of names n) refl h
  where
    by : (o : Option Place) → place_of names n ≡ o → after (if_scalar o s) go ≡ Ok y → (k : ℕ) × (place_of names n ≡ Some (place.Scalar k)) × (go k (skip s) ≡ Ok y)
    by (Some (place.Scalar k)) e r = (k, e, r)
    by (Some _) e r = absurd (cc)
    by None e r = absurd (cc)

pub signed-then : {B : Type 0} (rule : ℤ → Bool) (what : TextKind) (go : ℤ → Reading B) (s : Sight) (y : B × Sight) → after (signed_where rule what s) go ≡ Ok y → (v : ℤ) × (t : Sight) × IsSigned s v t × (rule v ≡ true) × (go v t ≡ Ok y)
unfolding signed_where minus
signed-then {B} rule what go s y h = elim (is_mark mark.Minus (stands s)) as (λ b. is_mark mark.Minus (stands s) ≡ b → after (after (cond b (Ok (true, skip s)) (Ok (false, s))) (λ negative. number_where (λ n. rule (with_sign negative n)) what >>= λ n. gives (with_sign negative n))) go ≡ Ok y → (v : ℤ) × (t : Sight) × IsSigned s v t × (rule v ≡ true) × (go v t ≡ Ok y)) [
  | true ↦ λ e k. (
      let f = bind-ok (after (number_where (λ n. rule (with_sign true n)) what (skip s)) (λ n. gives (with_sign true n))) go y k in
      let g = number-then (λ n. rule (with_sign true n)) what (λ n. gives (with_sign true n)) (skip s) f.0 f.1 in
      let q = given (with_sign true g.0) (skip (skip s)) f.0 g.3 in
      (with_sign true g.0, skip (skip s), negative (is_mark-true mark.Minus (stands s) e) g.1, g.2, subst (λ (x : ℤ × Sight). go x.0 x.1 ≡ Ok y) q f.2))
  | false ↦ λ e k. (
      let f = bind-ok (after (number_where (λ n. rule (with_sign false n)) what s) (λ n. gives (with_sign false n))) go y k in
      let g = number-then (λ n. rule (with_sign false n)) what (λ n. gives (with_sign false n)) s f.0 f.1 in
      let q = given (with_sign false g.0) (skip s) f.0 g.3 in
      (pos g.0, skip s, unsigned g.1, g.2, subst (λ (x : ℤ × Sight). go x.0 x.1 ≡ Ok y) q f.2))
] refl h

pub end-then : {B : Type 0} (go : Unit {0} → Reading B) (s : Sight) (y : B × Sight) → after (end s) go ≡ Ok y → (stands s ≡ token.End) × (go tt s ≡ Ok y)
unfolding end refused
end-then {B} go s y h = by (stands s) refl h
  where
    by : (t : Token) → stands s ≡ t → after (end_at t s) go ≡ Ok y → (stands s ≡ token.End) × (go tt s ≡ Ok y)
    by token.End e k = (e, k)
    by _ e k = absurd (cc)

-- The same, where nothing is read behind it.

last : {A : Type 0} (r : Result (A × Sight) TextFault) (x : A × Sight) → r ≡ Ok x → after r (λ a. gives a) ≡ Ok x
last r x h = rw h refl

pub number-ok : (rule : ℕ → Bool) (what : TextKind) (s : Sight) (x : ℕ × Sight) → number_where rule what s ≡ Ok x → SeesNumber x.0 s × (rule x.0 ≡ true) × (x.1 ≡ skip s)
number-ok rule what s x h =
    let f = number-then rule what (λ n. gives n) s x (last (number_where rule what s) x h) in
    let q = given f.0 (skip s) x f.3 in
    rw q (f.1, f.2, refl)

pub signed-ok : (rule : ℤ → Bool) (what : TextKind) (s : Sight) (x : ℤ × Sight) → signed_where rule what s ≡ Ok x → IsSigned s x.0 x.1 × (rule x.0 ≡ true)
signed-ok rule what s x h =
    let f = signed-then rule what (λ v. gives v) s x (last (signed_where rule what s) x h) in
    let q = given f.0 f.1 x f.4 in
    rw q (f.2, f.3)
