-- What refusals and dependences name.
use Rattle.std.proofs.Common.{◌≡◌, refl, sym, ap, subst, ℕ, ◌≤◌, ℤ, Bool, true, false, nat_le, Option, Some, None, option_map, inl, inr, List, [], ◌∷◌, map, filter, arith}
use Rattle.std.specs.Prelude.{if◌then◌else◌, not, ◌≢◌}
use Rattle.std.specs.List.{find, filter_map, cons_option, range_with_len}
use Rattle.std.proofs.lemmas.Bool.Decides.{nat_tests}
use Rattle.plain_lemmas.proofs.MembershipLaws.{All-from, filter-has, flat_map-has, map-has}
use Rattle.plain_lemmas.specs.Lists.{Has}
use Rattle.fourier_motzkin.specs.declared.verdicts.Ruling.{Ruling}
use Rattle.fourier_motzkin.specs.declared.verdicts.Ruling.TheVariants.{Empty, Maybe, Wide}
use Rattle.domain.specs.Tables.{Table, depth}
use Rattle.transform.specs.Schedules.{Schedule}
use Rattle.dependence.specs.Systems.{System, systems}
use Rattle.dependence.specs.Legality.{Trial, Violated, above, is_empty, judgement, trial, trials, trials_of, violations, violations_of}
use Rattle.dependence.proofs.PairLaws.{Names, in-range, names}
use Rattle.legality.specs.declared.listing.Dependence.{Dependence}
use Rattle.legality.specs.Choices.{choice}
use Rattle.legality.specs.Dependences.{depends}
use Rattle.legality.specs.Judgements.{climbs, refused, refuses, told}
use Rattle.legality.specs.Laws.{IsRefusal, IsDependence, RefusalsName, ChoicesName, DependencesName}

not-empty : (r : Ruling) → not (is_empty r) ≡ true → r ≢ Empty
not-empty Empty e = cc
not-empty Maybe e = λ same. cc
not-empty Wide e = λ same. cc

-- ---- what is found in a list

pub record IsFound {X : Type 0} (p : X → Bool) (xs : List X) (x : X) : Type 0 where
  pub has : Has xs x
  pub passes : p x ≡ true

found-by : {X Y : Type 0} (p : X → Bool) (f : X → Y) (xs : List X) (y : Y) → option_map f (find p xs) ≡ Some y → (x : X) × IsFound p xs x × (y ≡ f x)
found-by p f [] y e = cc
found-by {X} {Y} p f (x ∷ xs) y e = by (p x) refl (λ later. let (z, h, same) = found-by p f xs y later in (z, record { has = inr h.has; passes = h.passes }, same)) e
  where
    by : (w : Bool) → p x ≡ w → (option_map f (find p xs) ≡ Some y → (z : X) × IsFound p (x ∷ xs) z × (y ≡ f z)) → option_map f (if w then Some x else find p xs) ≡ Some y → (z : X) × IsFound p (x ∷ xs) z × (y ≡ f z)
    by true is later e = (x, record { has = inl refl; passes = is }, cc)
    by false is later e = later e

-- what is kept of a list
kept-has : {X Y : Type 0} (f : X → Option Y) (xs : List X) (y : Y) → Has (filter_map f xs) y → (x : X) × (f x ≡ Some y)
kept-has f [] y h = absurd h
kept-has {X} {Y} f (x ∷ xs) y h = by (f x) refl (λ later. kept-has f xs y later) h
  where
    by : (o : Option Y) → f x ≡ o → (Has (filter_map f xs) y → (z : X) × (f z ≡ Some y)) → Has (cons_option o (filter_map f xs)) y → (z : X) × (f z ≡ Some y)
    by None is later h = later h
    by (Some z) is later (inl e) = (x, cc)
    by (Some z) is later (inr h) = later h

-- ---- refusals

row-of-violation : (s : Schedule) (row : ℕ) (u : Violated) → Has (violations_of s row) u → u.row ≡ row
row-of-violation s row u (inl e) = ap (λ (v : Violated). v.row) e
row-of-violation s row u (inr h) = by (climbs s row) h
  where
    by : (w : Bool) → Has (if w then above row ∷ [] else []) u → u.row ≡ row
    by true (inl e) = ap (λ (v : Violated). v.row) e
    by true (inr h) = absurd h
    by false h = absurd h

-- a trial is of a system, at a place, with a row
pub record IsTrial (t : Table) (v : Trial) : Type 0 where
  pub system : Names t v.system
  pub case : v.system.case ≤ depth t
  pub from : 1 ≤ v.violated.row
  pub to : v.violated.row ≤ depth t

trial-is : (t : Table) (s : Schedule) (L : ℤ) (v : Trial) → Has (trials t s L) v → IsTrial t v
unfolding trials
trial-is t s L v h =
    let (sys, in-s, k) = flat_map-has (trials_of t s) (systems t L) v h in
    by sys (names t L sys in-s) (nat_le sys.case (depth t)) refl k
  where
    with_row : (sys : System) → Names t sys → sys.case ≤ depth t → (u : Violated) → Has (violations t s) u → IsTrial t (trial sys u)
    with_row sys n l u in-u =
        let (row, in-row, k) = flat_map-has (violations_of s) (range_with_len 1 (depth t)) u in-u in
        let (from, to) = in-range 1 (depth t) row in-row in
        let same = row-of-violation s row u k in
        record { system = n; case = l; from = omega (arith, same, from); to = omega (arith, same, to) }

    by : (sys : System) → Names t sys → (w : Bool) → nat_le sys.case (depth t) ≡ w → Has (if w then map (trial sys) (violations t s) else []) v → IsTrial t v
    by sys n true is k =
        let (u, in-u, e) = map-has (trial sys) (violations t s) v k in
        let l : sys.case ≤ depth t = grind (arith, nat_tests) in
        subst (IsTrial t) (sym e) (with_row sys n l u in-u)
    by sys n false is k = absurd k

pub refusals_name : RefusalsName
refusals_name t L s r e =
    let (v, h, same) = found-by (refuses t s) (told t s) (trials t s L) r e in
    let is = trial-is t s L v h.has in
    subst (IsRefusal t) (sym same)
    (record {
      first = is.system.first;
      second = is.system.second;
      case_from = is.system.from;
      case_to = is.case;
      row_from = is.from;
      row_to = is.to;
      verdict = not-empty (judgement t s v) h.passes;
    })

pub choices_name : ChoicesName
choices_name t L ss =
    All-from (IsRefusal t) (choice t L ss).refusals
    (λ r h. let (s, e) = kept-has (refused t L) _ r h in refusals_name t L s r e)

-- ---- dependences

pub dependences_name : DependencesName
dependences_name t L = All-from (IsDependence t) _ each
  where
    each : (d : Dependence) → Has (filter (λ (x : Dependence). not (is_empty x.verdict)) (map (depends t) (systems t L))) d → IsDependence t d
    each d h =
        let (k, passes) = filter-has (λ (x : Dependence). not (is_empty x.verdict)) (map (depends t) (systems t L)) d h in
        let (sys, in-s, e) = map-has (depends t) (systems t L) d k in
        let n = names t L sys in-s in
        record {
          first = rw e n.first;
          second = rw e n.second;
          from = rw e n.from;
          to = rw e n.to;
          last = rw e n.last;
          verdict = not-empty d.verdict passes;
        }
