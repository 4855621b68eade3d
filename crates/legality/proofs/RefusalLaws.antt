-- The first trial that refuses.
use Rattle.std.proofs.Common.{◌≡◌, refl, sym, ap, ap₂, ◌∙◌, ℕ, ◌<◌, ◌≤◌, ℤ, Bool, true, false, nat_le, Option, Some, None, option_map, inl, inr, List, [], ◌∷◌, ◌++◌, map, arith}
use Rattle.std.specs.Prelude.{◌↔◌, if◌then◌else◌, not}
use Rattle.std.specs.List.{find, flat_map, range_with_len}
use Rattle.std.proofs.lemmas.List.{map-append}
use Rattle.std.proofs.lemmas.Bool.Decides.{nat_tests}
use Rattle.plain_lemmas.proofs.MembershipLaws.{All-has, All-from}
use Rattle.plain_lemmas.specs.Lists.{Has}
use Rattle.fourier_motzkin.specs.declared.verdicts.Ruling.{Ruling}
use Rattle.fourier_motzkin.specs.declared.verdicts.Ruling.TheVariants.{Empty, Maybe, Wide}
use Rattle.affine.specs.declared.row.Row.{Row}
use Rattle.fourier_motzkin.specs.Verdicts.{verdict_of}
use Rattle.domain.specs.Tables.{Table, depth}
use Rattle.transform.specs.Schedules.{Schedule}
use Rattle.dependence.specs.declared.violations.Side.{Side}
use Rattle.dependence.specs.declared.violations.Side.TheVariants.{Below, Above}
use Rattle.dependence.specs.Sides.{is_above, side_of}
use Rattle.dependence.specs.Systems.{System, refs, systems, systems_of}
use Rattle.dependence.specs.Legality.{Legal, joint_variables, violation, Trial, above, below, is_empty, judgement, trial, trials, trials_of, violations_of}
use Rattle.legality.specs.declared.refusals.Refusal.{Refusal}
use Rattle.legality.specs.declared.refusals.Judged.TheVariants as answer
use Rattle.legality.specs.Judgements.{climbs, first_refusal, judged, judged_by, refused, refuses, told}
use Rattle.std.proofs.lemmas.Grind.{flat_map-append}

-- ---- one trial

pub trial-none : (t : Table) (s : Schedule) (v : Trial) → judgement t s v ≡ Empty → None ≡ first_refusal t s (v ∷ [])
trial-none t s v e = rw e refl

same-side : (side : Side) → side_of (is_above side) ≡ side
same-side Below = refl
same-side Above = refl

some-by : (t : Table) (s : Schedule) (v : Trial) (r : Ruling) → judgement t s v ≡ r → (r ≡ Empty → ⊥) → first_refusal t s (v ∷ []) ≡ Some (told t s v)
some-by t s v Empty e other = absurd (other refl)
some-by t s v Maybe e other = ap (λ (q : Ruling). option_map (told t s) (if not (is_empty q) then Some v else None)) e
some-by t s v Wide e other = ap (λ (q : Ruling). option_map (told t s) (if not (is_empty q) then Some v else None)) e

pub trial-some : (t : Table) (s : Schedule) (sys : System) (row : ℕ) (side : Side) (r : Ruling) → judgement t s (trial sys (record { row = row; above = is_above side })) ≡ r → (r ≡ Empty → ⊥)
    → Some (record { first = sys.first; second = sys.second; case = sys.case; row = row; side = side; verdict = r }) ≡ first_refusal t s (trial sys (record { row = row; above = is_above side }) ∷ [])
trial-some t s sys row side r e other =
    let v = trial sys (record { row = row; above = is_above side }) in
    ap₂ (λ (z : Side) (q : Ruling). Some (record { first = sys.first; second = sys.second; case = sys.case; row = row; side = z; verdict = q })) (sym (same-side side)) (sym e)
    ∙ sym (some-by t s v r e other)

-- ---- the trials of a row

pub row-below : (t : Table) (s : Schedule) (sys : System) (row : ℕ) → climbs s row ≡ false → map (trial sys) (violations_of s row) ≡ trial sys (below row) ∷ []
row-below t s sys row e = rw e refl

pub row-both : (t : Table) (s : Schedule) (sys : System) (row : ℕ) → climbs s row ≡ true → map (trial sys) (violations_of s row) ≡ (trial sys (below row) ∷ []) ++ trial sys (above row) ∷ []
row-both t s sys row e = rw e refl

pub row-begins : (t : Table) (s : Schedule) (sys : System) (row : ℕ) → map (trial sys) (violations_of s row) ≡ (trial sys (below row) ∷ []) ++ map (trial sys) (if climbs s row then above row ∷ [] else [])
row-begins t s sys row = refl

-- ---- the trials of a system

abbrev pub row_trials : Schedule → System → ℕ → List Trial
row_trials s sys row = map (trial sys) (violations_of s row)

map-flat : {X Y Z : Type 0} (h : Y → Z) (f : X → List Y) (xs : List X) → map h (flat_map f xs) ≡ flat_map (λ x. map h (f x)) xs
map-flat h f [] = refl
map-flat {Z = Z} h f (x ∷ xs) = map-append h (f x) (flat_map f xs) ∙ ap (λ (zs : List Z). map h (f x) ++ zs) (map-flat h f xs)

pub trials_of-is : (D : ℕ) (t : Table) (s : Schedule) (sys : System) → depth t ≡ D → sys.case ≤ D → flat_map (row_trials s sys) (range_with_len 1 D) ≡ trials_of t s sys
trials_of-is D t s sys deep l =
    let e : nat_le sys.case (depth t) ≡ true = grind (arith, nat_tests) in
    rw e (sym (map-flat (trial sys) (violations_of s) (range_with_len 1 (depth t)) ∙ ap (λ n. flat_map (row_trials s sys) (range_with_len 1 n)) deep))

pub trials_of-none : (D : ℕ) (t : Table) (s : Schedule) (sys : System) → depth t ≡ D → D < sys.case → trials_of t s sys ≡ []
trials_of-none D t s sys deep l = let e : nat_le sys.case (depth t) ≡ false = grind (arith, nat_tests) in rw e refl

-- ---- all trials

pub flat_map-flat_map : {X Y Z : Type 0} (h : Y → List Z) (f : X → List Y) (xs : List X) → flat_map h (flat_map f xs) ≡ flat_map (λ x. flat_map h (f x)) xs
flat_map-flat_map h f [] = refl
flat_map-flat_map {Z = Z} h f (x ∷ xs) = flat_map-append h (f x) (flat_map f xs) ∙ ap (λ (zs : List Z). flat_map h (f x) ++ zs) (flat_map-flat_map h f xs)

-- ---- legal

none-by : (t : Table) (s : Schedule) (u v : Trial) (us : List Trial) (r : Ruling) → judgement t s u ≡ r → (first_refusal t s us ≡ None → Has us v → judgement t s v ≡ Empty)
    → option_map (told t s) (if not (is_empty r) then Some u else find (refuses t s) us) ≡ None → Has (u ∷ us) v → judgement t s v ≡ Empty
none-by t s u v us Empty j h n (inl same) = ap (judgement t s) same ∙ j
none-by t s u v us Empty j h n (inr k) = h n k
none-by t s u v us Maybe j h n k = cc
none-by t s u v us Wide j h n k = cc

none-has : (t : Table) (s : Schedule) (vs : List Trial) → first_refusal t s vs ≡ None → (v : Trial) → Has vs v → judgement t s v ≡ Empty
none-has t s [] e v h = absurd h
none-has t s (u ∷ us) e v h = none-by t s u v us (judgement t s u) refl (λ n k. none-has t s us n v k) e h

all-none : (t : Table) (s : Schedule) (vs : List Trial) → ((v : Trial) → Has vs v → judgement t s v ≡ Empty) → first_refusal t s vs ≡ None
all-none t s [] h = refl
all-none t s (u ∷ us) h = rw (h u (inl refl)) (all-none t s us (λ v k. h v (inr k)))

pub legal-none : (t : Table) (s : Schedule) (L : ℤ) → refused t L s ≡ None → Legal t s L
legal-none t s L e = All-from (λ (v : Trial). judgement t s v ≡ Empty) (trials t s L) (none-has t s (trials t s L) e)

pub none-legal : (t : Table) (s : Schedule) (L : ℤ) → Legal t s L → refused t L s ≡ None
none-legal t s L h = all-none t s (trials t s L) (λ v k. All-has (λ (u : Trial). judgement t s u ≡ Empty) (trials t s L) v h k)

pub judged-legal : (t : Table) (s : Schedule) (L : ℤ) → (judged t s L ≡ answer.Legal) ↔ Legal t s L
judged-legal t s L = (λ e. legal-none t s L (there (refused t L s) e), λ h. ap judged_by (none-legal t s L h))
  where
    there : (o : Option Refusal) → judged_by o ≡ answer.Legal → o ≡ None
    there None e = refl
    there (Some refusal) e = cc

pub refused-is : (t : Table) (s : Schedule) (L : ℤ) → first_refusal t s (flat_map (λ a. flat_map (trials_of t s) (flat_map (systems_of t L a) (refs t))) (refs t)) ≡ refused t L s
unfolding trials systems
refused-is t s L = ap (first_refusal t s) (sym (flat_map-flat_map (trials_of t s) (λ a. flat_map (systems_of t L a) (refs t)) (refs t)))

pub judgement-is : (t : Table) (s : Schedule) (sys : System) (row : ℕ) (above : Bool) (n : ℕ) (rows : List Row) (r : Ruling) → n ≡ joint_variables t sys → rows ≡ violation t s sys row above → r ≡ verdict_of n rows → r ≡ judgement t s (trial sys (record { row = row; above = above }))
unfolding judgement
judgement-is t s sys row above n rows r e f g = g ∙ ap₂ verdict_of e f
