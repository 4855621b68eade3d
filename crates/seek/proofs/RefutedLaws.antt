-- Refusals that hold of a schedule.
use Rattle.std.proofs.Common.{◌≡◌, refl, sym, ap, ap₂, ◌∙◌, subst, ℕ, ◌+◌, ◌-◌, ◌<◌, ◌≤◌, ℤ, Bool, true, false, nat_le, nat_lt, Some, option_map, inl, inr, List, [], ◌∷◌, map, length, get_or, arith}
use Rattle.std.specs.Prelude.{◌≢◌, ◌↔◌, IfOk, Result, Ok, Err, if◌then◌else◌, slice_get}
use Rattle.std.specs.List.{find, flat_map, range_with_len}
use Rattle.std.proofs.lemmas.Bool.Decides.{nat_tests}
use Rattle.std.proofs.lemmas.Option.{slice_get-map, slice_get-get_or, slice_get_within}
use Rattle.std.proofs.lemmas.List.FromFn.{get_or-range_with_len, length-range_with_len}
use Rattle.plain_lemmas.proofs.MembershipLaws.{All-has, flat_map-has, has-flat_map, map-has, has-map}
use Rattle.plain_lemmas.specs.Lists.{Has}
use Rattle.fourier_motzkin.specs.declared.verdicts.Ruling.{Ruling}
use Rattle.fourier_motzkin.specs.declared.verdicts.Ruling.TheVariants.{Empty}
use Rattle.nest_lang.specs.declared.tree.AccessRef.{AccessRef}
use Rattle.domain.specs.Tables.{Table, depth}
use Rattle.transform.specs.Schedules.{Schedule}
use Rattle.dependence.specs.declared.violations.Side.{Side}
use Rattle.dependence.specs.declared.violations.Side.TheVariants.{Below, Above}
use Rattle.dependence.specs.Sides.{is_above, side_of}
use Rattle.dependence.specs.Systems.{System, IsRef, system, systems, systems_of, refs, pairs, cases, referred}
use Rattle.dependence.specs.Legality.{Trial, Violated, above, judgement, trial, trials, trials_of, violations, violations_of}
use Rattle.dependence.proofs.PairLaws.{in-range, refs-all}
use Rattle.dependence.proofs.RangeLaws.{has-range}
use Rattle.dependence.proofs.SystemLaws.{has-ref}
use Rattle.legality.specs.declared.refusals.Refusal.{Refusal}
use Rattle.legality.specs.Judgements.{climbs, refused, refuses, told}
use Rattle.legality.proofs.NameLaws.{refusals_name}
use Rattle.seek.specs.Confirmations.{CanBe, IsPlaced, IsRefusing, Refutes, violated_by}
use Rattle.seek.specs.Laws.{RefutedIsIllegal}

pub refuted_is_illegal : RefutedIsIllegal
refuted_is_illegal t L s r h legal =
    h.refuses (sym (ap (λ (q : Refusal). q.verdict) h.told) ∙ All-has (λ (v : Trial). judgement t s v ≡ Empty) (trials t s L) h.trial legal h.is)

-- ---- what refuses first refutes

found-has : {X Y : Type 0} (p : X → Bool) (f : X → Y) (xs : List X) (y : Y) → option_map f (find p xs) ≡ Some y → (x : X) × Has xs x × (f x ≡ y)
found-has p f [] y e = cc
found-has {X} {Y} p f (x ∷ xs) y e = by (p x) (λ later. let (z, h, same) = found-has p f xs y later in (z, inr h, same)) e
  where
    by : (w : Bool) → (option_map f (find p xs) ≡ Some y → (z : X) × Has (x ∷ xs) z × (f z ≡ y)) → option_map f (if w then Some x else find p xs) ≡ Some y → (z : X) × Has (x ∷ xs) z × (f z ≡ y)
    by true later e = (x, inl refl, cc)
    by false later e = later e

pub refused-refutes : (t : Table) (L : ℤ) (s : Schedule) (r : Refusal) → refused t L s ≡ Some r → Refutes t L s r
refused-refutes t L s r e =
    let (v, h, same) = found-has (refuses t s) (told t s) (trials t s L) r e in
    record { trial = v; is = h; told = same; refuses = (refusals_name t L s r e).verdict }

-- ---- the trial that a refusal names

abbrev pub named_trial : Table → ℤ → Refusal → Trial
named_trial t L r = trial (system t L r.first r.second r.case) (record { row = r.row; above = is_above r.side })

-- what refutes is placed, names a pair, and has the verdict on its trial
pub record IsNamed (n : ℕ) (t : Table) (L : ℤ) (s : Schedule) (r : Refusal) : Type 0 where
  pub placed : IsPlaced n t s r
  pub pair : pairs (referred t r.first) (referred t r.second) ≡ true
  pub verdict : judgement t s (named_trial t L r) ≡ r.verdict

built : (n : ℕ) (t : Table) (L : ℤ) (s : Schedule) (a b : AccessRef) (c row : ℕ) (u : Violated) → IsRef t a → IsRef t b → pairs (referred t a) (referred t b) ≡ true → 1 ≤ c → c ≤ n → 1 ≤ row → row ≤ n → Has (violations_of s row) u
    → IsNamed n t L s (told t s (trial (system t L a b c) u))
built n t L s a b c row u p q both from to first last (inl e) =
    subst (λ (v : Violated). IsNamed n t L s (told t s (trial (system t L a b c) v))) (sym e)
    (record { placed = record { first = p; second = q; case_from = from; case_to = to; row_from = first; row_to = last; side = tt }; pair = both; verdict = refl })
built n t L s a b c row u p q both from to first last (inr h) = by (climbs s row) refl h
  where
    by : (w : Bool) → climbs s row ≡ w → Has (if w then above row ∷ [] else []) u → IsNamed n t L s (told t s (trial (system t L a b c) u))
    by true is (inl e) =
        subst (λ (v : Violated). IsNamed n t L s (told t s (trial (system t L a b c) v))) (sym e)
        (record { placed = record { first = p; second = q; case_from = from; case_to = to; row_from = first; row_to = last; side = is }; pair = both; verdict = refl })
    by true is (inr h) = absurd h
    by false is h = absurd h

named-trial : (n : ℕ) (t : Table) (L : ℤ) (s : Schedule) (v : Trial) → depth t ≡ n → Has (trials t s L) v → IsNamed n t L s (told t s v)
unfolding trials systems
named-trial n t L s v deep h =
    let (sys, in-s, k) = flat_map-has (trials_of t s) (systems t L) v h in
    let (a, in-a, m) = flat_map-has (λ a. flat_map (systems_of t L a) (refs t)) (refs t) sys in-s in
    let (b, in-b, p) = flat_map-has (systems_of t L a) (refs t) sys m in
    by-pair sys a b (All-has (IsRef t) (refs t) a (refs-all t) in-a) (All-has (IsRef t) (refs t) b (refs-all t) in-b) k (pairs (referred t a) (referred t b)) refl p
  where
    by-case : (a b : AccessRef) (c : ℕ) → IsRef t a → IsRef t b → pairs (referred t a) (referred t b) ≡ true → 1 ≤ c → (w : Bool) → nat_le c (depth t) ≡ w
        → Has (if w then map (trial (system t L a b c)) (violations t s) else []) v → IsNamed n t L s (told t s v)
    by-case a b c p q both from true is k =
        let (u, in-u, e) = map-has (trial (system t L a b c)) (violations t s) v k in
        let (row, in-row, m) = flat_map-has (violations_of s) (range_with_len 1 (depth t)) u in-u in
        let (first, last) = in-range 1 (depth t) row in-row in
        let to : c ≤ depth t = grind (arith, nat_tests) in
        subst (λ (x : Trial). IsNamed n t L s (told t s x)) (sym e) (built n t L s a b c row u p q both from (omega (arith, deep, to)) first (omega (arith, deep, last)) m)
    by-case a b c p q both from false is k = absurd k

    by-pair : (sys : System) (a b : AccessRef) → IsRef t a → IsRef t b → Has (trials_of t s sys) v → (w : Bool) → pairs (referred t a) (referred t b) ≡ w → Has (if w then map (system t L a b) (cases t a b) else []) sys → IsNamed n t L s (told t s v)
    by-pair sys a b p q k true is m =
        let (c, in-c, e) = map-has (system t L a b) (cases t a b) sys m in
        let (from, to) = in-range 1 _ c in-c in
        by-case a b c p q is from (nat_le c (depth t)) refl (subst (λ (x : System). Has (trials_of t s x) v) e k)
    by-pair sys a b p q k false is m = absurd m

pub named : (n : ℕ) (t : Table) (L : ℤ) (s : Schedule) (r : Refusal) → depth t ≡ n → Refutes t L s r → IsNamed n t L s r
named n t L s r deep h = subst (IsNamed n t L s) h.told (named-trial n t L s h.trial deep h.is)

same-side : (side : Side) → side_of (is_above side) ≡ side
same-side Below = refl
same-side Above = refl

violation-there : (s : Schedule) (row : ℕ) (side : Side) → CanBe s row side → Has (violations_of s row) (record { row = row; above = is_above side })
violation-there s row Below h = inl refl
violation-there s row Above h = inr (rw h (inl refl))

pub refutes : (n : ℕ) (t : Table) (L : ℤ) (s : Schedule) (r : Refusal) → depth t ≡ n → r.verdict ≢ Empty → IsNamed n t L s r → Refutes t L s r
unfolding trials systems
refutes n t L s r deep other h =
    let p = h.placed in
    let v = named_trial t L r in
    let least : nat_le r.case (depth t) ≡ true = grind (arith, nat_tests, deep, p.case_to) in
    let in-case : Has (cases t r.first r.second) r.case = has-range 1 _ r.case p.case_from (omega (arith, deep, p.case_to)) in
    let in-pair : Has (systems_of t L r.first r.second) v.system = rw h.pair (has-map (system t L r.first r.second) (cases t r.first r.second) r.case in-case) in
    let in-second : Has (flat_map (systems_of t L r.first) (refs t)) v.system = has-flat_map (systems_of t L r.first) (refs t) r.second v.system (has-ref t r.second.block r.second.access p.second.block p.second.from p.second.to) in-pair in
    let in-first : Has (systems t L) v.system = has-flat_map (λ a. flat_map (systems_of t L a) (refs t)) (refs t) r.first v.system (has-ref t r.first.block r.first.access p.first.block p.first.from p.first.to) in-second in
    let in-row : Has (violations t s) v.violated = has-flat_map (violations_of s) (range_with_len 1 (depth t)) r.row v.violated (has-range 1 (depth t) r.row p.row_from (omega (arith, deep, p.row_to))) (violation-there s r.row r.side p.side) in
    let in-trials : Has (trials_of t s v.system) v = rw least (has-map (trial v.system) (violations t s) v.violated in-row) in
    record {
      trial = v;
      is = has-flat_map (trials_of t s) (systems t L) v.system v in-first in-trials;
      told = ap₂ (λ (z : Side) (q : Ruling). record { first = r.first; second = r.second; case = r.case; row = r.row; side = z; verdict = q }) (same-side r.side) h.verdict;
      refuses = other;
    }

-- ---- the systems of a pair

back : (k : ℕ) → 1 ≤ k → 1 + (k - 1) ≡ k
back k from = omega arith

system-there : (n : ℕ) (t : Table) (L : ℤ) (a b : AccessRef) (case : ℕ) → depth t ≡ n → 1 ≤ case → case ≤ n → pairs (referred t a) (referred t b) ≡ true → slice_get (systems_of t L a b) (case - 1) ≡ Some (system t L a b case)
system-there n t L a b case deep from to e =
    let all = cases t a b in
    let long : case - 1 < length all = omega (arith, length-range_with_len 1 (depth t + (if nat_lt a.block b.block then 1 else 0)), deep) in
    let short : case - 1 < depth t + (if nat_lt a.block b.block then 1 else 0) = omega (arith, deep) in
    let there : slice_get all (case - 1) ≡ Some case = slice_get-get_or all (case - 1) 0 long ∙ ap Some (get_or-range_with_len 1 _ (case - 1) 0 short ∙ back case from) in
    rw e (slice_get-map (system t L a b) all (case - 1) ∙ ap (option_map (system t L a b)) there)

-- ---- what `confirm` looks at

pub no-place : (n : ℕ) (t : Table) (L : ℤ) (s : Schedule) (r : Refusal) (b : Bool) → depth t ≡ n → b ≡ false → (IsPlaced n t s r → b ≡ true) → (false ≡ true) ↔ Refutes t L s r
no-place n t L s r b deep other placed = (λ e. cc, λ h. let is-true : b ≡ true = placed (named n t L s r deep h).placed in cc)

below-test : (a b : ℕ) → a < b → nat_lt a b ≡ true
below-test a b l = grind (arith, nat_tests)

pub no-system : (n : ℕ) (t : Table) (L : ℤ) (s : Schedule) (r : Refusal) (found : List System) (case : ℕ) → depth t ≡ n → found ≡ systems_of t L r.first r.second → case ≡ r.case → false ≡ nat_lt (case - 1) (length found)
    → (false ≡ true) ↔ Refutes t L s r
no-system n t L s r found case deep is same past = (λ e. cc, λ h. by h)
  where
    by : Refutes t L s r → false ≡ true
    by h =
        let is-named = named n t L s r deep h in
        let there = system-there n t L r.first r.second r.case deep is-named.placed.case_from is-named.placed.case_to is-named.pair in
        let inside : r.case - 1 < length (systems_of t L r.first r.second) = slice_get_within _ (r.case - 1) (system t L r.first r.second r.case) there in
        past ∙ ap₂ (λ (k : ℕ) (xs : List System). nat_lt (k - 1) (length xs)) same is ∙ below-test _ _ inside

got-same : (t : Table) (L : ℤ) (n : ℕ) (a b : AccessRef) (case : ℕ) (sys : System) → depth t ≡ n → 1 ≤ case → case ≤ n → case - 1 < length (systems_of t L a b) → sys ≡ get_or (systems_of t L a b) (case - 1) sys
    → (pairs (referred t a) (referred t b) ≡ true) × (sys ≡ system t L a b case)
got-same t L n a b case sys deep from to inside here = by (pairs (referred t a) (referred t b)) refl inside
  where
    by : (w : Bool) → pairs (referred t a) (referred t b) ≡ w → case - 1 < length (if w then map (system t L a b) (cases t a b) else []) → (pairs (referred t a) (referred t b) ≡ true) × (sys ≡ system t L a b case)
    by true is short =
        let read : Some (get_or (systems_of t L a b) (case - 1) sys) ≡ Some (system t L a b case) = sym (slice_get-get_or (systems_of t L a b) (case - 1) sys inside) ∙ system-there n t L a b case deep from to is in
        let same : get_or (systems_of t L a b) (case - 1) sys ≡ system t L a b case = cc in
        (is, here ∙ same)
    by false is short = absurd (omega arith)

pub confirmed : (n : ℕ) (t : Table) (L : ℤ) (s : Schedule) (r : Refusal) (found : List System) (sys : System) (case : ℕ) (b : Bool) → depth t ≡ n → IsPlaced n t s r → found ≡ systems_of t L r.first r.second → case ≡ r.case → case - 1 < length found → sys ≡ get_or found (case - 1) sys
    → (b ≡ true) ↔ IsRefusing r.verdict (judgement t s (trial sys (violated_by r))) → (b ≡ true) ↔ Refutes t L s r
confirmed n t L s r found sys case b deep placed is same inside here iff =
    let l : r.case - 1 < length (systems_of t L r.first r.second) = subst (λ (xs : List System). r.case - 1 < length xs) is (subst (λ (k : ℕ). k - 1 < length found) same inside) in
    let at : sys ≡ get_or (systems_of t L r.first r.second) (r.case - 1) sys = subst (λ (xs : List System). sys ≡ get_or xs (r.case - 1) sys) is (subst (λ (k : ℕ). sys ≡ get_or found (k - 1) sys) same here) in
    let (pair, it) = got-same t L n r.first r.second r.case sys deep placed.case_from placed.case_to l at in
    let moved = ap (λ (x : System). judgement t s (trial x (violated_by r))) it in (
      λ e. let holds = iff.0 e in refutes n t L s r deep holds.other (record { placed = placed; pair = pair; verdict = sym moved ∙ holds.same }),
      λ h. iff.1 (record { same = moved ∙ (named n t L s r deep h).verdict; other = h.refuses }),
    )

pub if-confirmed : {E : Type 0} {P Q : Bool → Type 0} (o : Result Bool E) → ((b : Bool) → P b → Q b) → IfOk o P → IfOk o Q
if-confirmed (Ok b) f p = f b p
if-confirmed (Err e) f p = p
