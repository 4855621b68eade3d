-- The systems that may be met, listed one after another.
use Rattle.std.proofs.Common.{◌≡◌, refl, sym, ap, ◌∙◌, ℕ, ℤ, ◌+◌, ◌<◌, ◌≤◌, Bool, true, false, List, [], ◌∷◌, ◌++◌, length, get_or, take, append_assoc, append-nil}
use Rattle.std.specs.Prelude.{not, if◌then◌else◌}
use Rattle.std.specs.List.{flat_map}
use Rattle.std.proofs.lemmas.List.{take_more, take_all}
use Rattle.fourier_motzkin.specs.declared.verdicts.Ruling.{Ruling}
use Rattle.fourier_motzkin.specs.declared.verdicts.Ruling.TheVariants.{Empty, Maybe, Wide}
use Rattle.fourier_motzkin.specs.Elimination.{AllOver}
use Rattle.fourier_motzkin.specs.Verdicts.{verdict_of}
use Rattle.affine.specs.declared.row.Row.{Row}
use Rattle.affine.specs.Rows.{variables}
use Rattle.plain_lemmas.proofs.MembershipLaws.{All-from, All-has, has-left}
use Rattle.transform.specs.Schedules.{Schedule}
use Rattle.domain.specs.Tables.{Table}
use Rattle.nest_lang.specs.declared.tree.AccessRef.{AccessRef}
use Rattle.dependence.specs.Systems.{System, IsSystemOf, refs, systems, systems_of}
use Rattle.dependence.specs.Legality.{is_empty, joint_variables, violation}
use Rattle.dependence.proofs.ViolationLaws.{violation-over}
use Rattle.legality.specs.declared.listing.Dependence.{Dependence}
use Rattle.legality.specs.Dependences.{dependences, depends, met}
use Rattle.std.proofs.lemmas.Grind.{flat_map-append}

put-by : (w : Bool) (d : Dependence) (all front back : List Dependence) → all ≡ front ++ back → (if w then d ∷ all else all) ≡ (if w then d ∷ front else front) ++ back
put-by true d all front back e = ap (λ (rest : List Dependence). d ∷ rest) e
put-by false d all front back e = e

pub met-append : (t : Table) (xs ys : List System) → met t (xs ++ ys) ≡ met t xs ++ met t ys
met-append t [] ys = refl
met-append t (x ∷ xs) ys = put-by (not (is_empty (depends t x).verdict)) (depends t x) (met t (xs ++ ys)) (met t xs) (met t ys) (met-append t xs ys)

-- the systems of one more
pub more-met : {Z : Type 0} (t : Table) (g : Z → List System) (zs : List Z) (k : ℕ) (z d : Z) (old before after : List Dependence) → k < length zs → get_or zs k d ≡ z
    → before ≡ old ++ met t (flat_map g (take k zs)) → after ≡ before ++ met t (g z) → after ≡ old ++ met t (flat_map g (take (k + 1) zs))
more-met {Z} t g zs k z d old before after l e b a =
    let grown : flat_map g (take (k + 1) zs) ≡ flat_map g (take k zs) ++ g z = ap (flat_map g) (take_more zs k d l ∙ ap (λ (y : Z). take k zs ++ y ∷ []) e) ∙ flat_map-append g (take k zs) (z ∷ []) ∙ ap (λ (xs : List System). flat_map g (take k zs) ++ xs) (append-nil (g z)) in
    a ∙ ap (λ (ds : List Dependence). ds ++ met t (g z)) b ∙ append_assoc old (met t (flat_map g (take k zs))) (met t (g z))
    ∙ ap (λ (ds : List Dependence). old ++ ds) (sym (ap (met t) grown ∙ met-append t (flat_map g (take k zs)) (g z)))

-- one more system
pub one-met : (t : Table) (xs : List System) (k : ℕ) (x : System) (old before after : List Dependence) → k < length xs → get_or xs k x ≡ x
    → before ≡ old ++ met t (take k xs) → after ≡ before ++ met t (x ∷ []) → after ≡ old ++ met t (take (k + 1) xs)
one-met t xs k x old before after l e b a =
    let grown : take (k + 1) xs ≡ take k xs ++ x ∷ [] = take_more xs k x l ∙ ap (λ (y : System). take k xs ++ y ∷ []) e in
    a ∙ ap (λ (ds : List Dependence). ds ++ met t (x ∷ [])) b ∙ append_assoc old (met t (take k xs)) (met t (x ∷ []))
    ∙ ap (λ (ds : List Dependence). old ++ ds) (sym (ap (met t) grown ∙ met-append t (take k xs) (x ∷ [])))

pub met-none : (t : Table) (sys : System) → verdict_of (joint_variables t sys) sys.rows ≡ Empty → met t (sys ∷ []) ≡ []
met-none t sys e = rw e refl

pub met-some : (t : Table) (sys : System) (r : Ruling) → verdict_of (joint_variables t sys) sys.rows ≡ r → (r ≡ Empty → ⊥) → met t (sys ∷ []) ≡ record { first = sys.first; second = sys.second; case = sys.case; verdict = r } ∷ []
met-some t sys Empty e other = absurd (other refl)
met-some t sys Maybe e other = rw e refl
met-some t sys Wide e other = rw e refl

-- all systems
pub all-met : (t : Table) (L : ℤ) (items : List AccessRef) (found : List Dependence) (k : ℕ) → items ≡ refs t → length items ≤ k
    → found ≡ met t (flat_map (λ first. flat_map (systems_of t L first) items) (take k items)) → found ≡ dependences t L
unfolding systems
all-met t L items found k same done e =
    e
    ∙ ap (λ (xs : List AccessRef). met t (flat_map (λ first. flat_map (systems_of t L first) items) xs)) (take_all k items done)
    ∙ ap (λ (xs : List AccessRef). met t (flat_map (λ first. flat_map (systems_of t L first) xs) xs)) same

-- the rows of a system are over its variables, as those of a violation are
pub system-over : (t : Table) (sys : System) → IsSystemOf t sys → AllOver (joint_variables t sys) sys.rows
system-over t sys of =
    let s : Schedule = record { lines = []; seq = 0 } in
    All-from (λ (row : Row). variables row ≡ joint_variables t sys) sys.rows
    (λ row h. All-has (λ (other : Row). variables other ≡ joint_variables t sys) (violation t s sys 1 false) row (violation-over t s sys 1 false of) (has-left sys.rows _ row h))
