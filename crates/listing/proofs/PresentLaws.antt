-- What is listed of systems and of refused candidates names accesses of present blocks, and a verdict that isn't Empty.
use Rattle.std.proofs.Common.{◌≡◌, refl, sym, ap, subst, ◌∙◌, ℕ, ◌<◌, ℤ, Bool, true, false, nat_le, Option, Some, None, option_map, inl, inr, List, [], ◌∷◌, map, length, get_or}
use Rattle.std.specs.Prelude.{if◌then◌else◌, not, ◌≢◌}
use Rattle.std.specs.List.{Contains, find}
use Rattle.plain_lemmas.proofs.MembershipLaws.{contains-from-has, filter-has, flat_map-has, has-get_or, map-has}
use Rattle.plain_lemmas.specs.Lists.{Has}
use Rattle.fourier_motzkin.specs.declared.verdicts.Ruling.{Ruling}
use Rattle.fourier_motzkin.specs.declared.verdicts.Ruling.TheVariants.{Empty, Maybe, Wide}
use Rattle.nest_lang.specs.declared.tree.AccessRef.{AccessRef}
use Rattle.domain.specs.Tables.{Table, depth}
use Rattle.transform.specs.Schedules.{Schedule}
use Rattle.dependence.specs.Systems.{System, IsSystemOf, systems}
use Rattle.dependence.specs.Legality.{Trial, is_empty, judgement, trial, trials, trials_of, violations}
use Rattle.dependence.proofs.PairLaws.{first-block, second-block}
use Rattle.legality.specs.declared.listing.Dependence.{Dependence}
use Rattle.legality.specs.declared.refusals.Refusal.{Refusal}
use Rattle.legality.specs.declared.refusals.Judged.TheVariants as answer
use Rattle.legality.specs.Dependences.{depends, dependences}
use Rattle.legality.specs.Judgements.{judged, judged_by, refuses, told}

-- two accesses of blocks of a table, and a verdict that isn't Empty
pub record AreListed (t : Table) (a b : AccessRef) (verdict : Ruling) : Type 0 where
  pub first : a.block < length t.blocks
  pub second : b.block < length t.blocks
  pub refuses : verdict ≢ Empty

not-empty : (r : Ruling) → not (is_empty r) ≡ true → r ≢ Empty
not-empty Empty e = λ _. absurd (cc)
not-empty Maybe e = λ same. cc
not-empty Wide e = λ same. cc

pub dependence-listed : (t : Table) (L : ℤ) (d : Dependence) → Has (dependences t L) d → AreListed t d.first d.second d.verdict
dependence-listed t L d h =
    let f = filter-has (λ (e : Dependence). not (is_empty e.verdict)) (map (depends t) (systems t L)) d h in
    let m = map-has (depends t) (systems t L) d f.0 in
    let of : IsSystemOf t m.0 = (L, contains-from-has (systems t L) m.0 m.1) in
    record {
      first = subst (λ (e : Dependence). e.first.block < length t.blocks) (sym m.2) (first-block t m.0 of);
      second = subst (λ (e : Dependence). e.second.block < length t.blocks) (sym m.2) (second-block t m.0 of);
      refuses = not-empty d.verdict f.1;
    }

-- the default of a place past the last
abbrev pub no_dependence : Dependence
no_dependence = record { first = record { block = 0; access = 0 }; second = record { block = 0; access = 0 }; case = 0; verdict = Empty }

pub dependence-at : (t : Table) (L : ℤ) (items : List Dependence) (k : ℕ) → items ≡ dependences t L → k < length items → AreListed t (get_or items k no_dependence).first (get_or items k no_dependence).second (get_or items k no_dependence).verdict
dependence-at t L items k is l =
    dependence-listed t L (get_or items k no_dependence) (subst (λ (xs : List Dependence). Has xs (get_or items k no_dependence)) is (has-get_or items k no_dependence l))

-- the first element that passes
find-by : {X : Type 0} (p : X → Bool) (y : X) (ys : List X) (x : X) (w : Bool) → p y ≡ w → (find p ys ≡ Some x → Has ys x × (p x ≡ true)) → (if w then Some y else find p ys) ≡ Some x → Has (y ∷ ys) x × (p x ≡ true)
find-by p y ys x true w more e = let same : y ≡ x = cc in (inl (sym same), ap p (sym same) ∙ w)
find-by p y ys x false w more e = let rest = more e in (inr rest.0, rest.1)

find-has : {X : Type 0} (p : X → Bool) (xs : List X) (x : X) → find p xs ≡ Some x → Has xs x × (p x ≡ true)
find-has p [] x e = absurd (cc)
find-has p (y ∷ ys) x e = find-by p y ys x (p y) refl (find-has p ys x) e

trial-of : (t : Table) (s : Schedule) (L : ℤ) (v : Trial) → Has (trials t s L) v → IsSystemOf t v.system
unfolding trials
trial-of t s L v h =
    let k = flat_map-has (trials_of t s) (systems t L) v h in
    (L, subst (λ (sys : System). Contains (systems t L) sys) (by k.0 (nat_le k.0.case (depth t)) k.2) (contains-from-has (systems t L) k.0 k.1))
  where
    by : (sys : System) (w : Bool) → Has (if w then map (trial sys) (violations t s) else []) v → sys ≡ v.system
    by sys true k = let m = map-has (trial sys) (violations t s) v k in sym (ap (λ (z : Trial). z.system) m.2)
    by sys false k = absurd k

pub refusal-listed : (t : Table) (s : Schedule) (L : ℤ) (r : Refusal) → judged t s L ≡ answer.Refused r → AreListed t r.first r.second r.verdict
refusal-listed t s L r e = found (find (refuses t s) (trials t s L)) refl e
  where
    listed : (v : Trial) → find (refuses t s) (trials t s L) ≡ Some v → AreListed t (told t s v).first (told t s v).second (told t s v).verdict
    listed v f =
        let h = find-has (refuses t s) (trials t s L) v f in
        let of = trial-of t s L v h.0 in
        record { first = first-block t v.system of; second = second-block t v.system of; refuses = not-empty (judgement t s v) h.1 }

    found : (o : Option Trial) → find (refuses t s) (trials t s L) ≡ o → judged_by (option_map (told t s) o) ≡ answer.Refused r → AreListed t r.first r.second r.verdict
    found None f g = absurd (cc)
    found (Some v) f g = let same : told t s v ≡ r = cc in subst (λ (z : Refusal). AreListed t z.first z.second z.verdict) same (listed v f)
