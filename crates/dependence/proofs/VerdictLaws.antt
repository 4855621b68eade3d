-- What is legal is met by no point.
use Rattle.std.proofs.Common.{◌≡◌, ap, sym, ◌∙◌, subst, ⊎_elim, ℕ, ◌+◌, ℤ, Bool, true, false, nat_le, List, [], map}
use Rattle.std.specs.Prelude.{if◌then◌else◌}
use Rattle.std.specs.List.{All, flat_map}
use Rattle.affine.specs.declared.row.Row.{Row}
use Rattle.affine.specs.Rows.{Meets, variables}
use Rattle.fourier_motzkin.specs.declared.verdicts.Ruling.TheVariants.{Empty}
use Rattle.plain_lemmas.proofs.MembershipLaws.{All-has, All-from, has-cases, map-has, flat_map-has}
use Rattle.plain_lemmas.specs.Lists.{Has}
use Rattle.fourier_motzkin.proofs.PointLaws.{verdict-unmet}
use Rattle.nest_lang.specs.declared.tree.AccessRef.{AccessRef}
use Rattle.domain.specs.Tables.{Table, depth, block_at, counters}
use Rattle.dependence.specs.Comparisons.{AtMost, row_for}
use Rattle.dependence.specs.Systems.{System, comparisons, system, systems, systems_of, refs, pairs, cases, rows_for, referred}
use Rattle.transform.specs.Schedules.{Schedule}
use Rattle.dependence.specs.Legality.{joint_variables, Trial, trial, trials, trials_of, violations, tried, judgement}
use Rattle.dependence.specs.Laws.{LegalIsUnmet}
use Rattle.dependence.proofs.RowLaws.{variables-row_for}

-- every system is that of two accesses and a case
pub record IsSystem (t : Table) (L : ℤ) (sys : System) : Type 0 where
  pub first : AccessRef
  pub second : AccessRef
  pub case : ℕ
  pub same : sys ≡ system t L first second case

pub system-is : (t : Table) (L : ℤ) (sys : System) → Has (systems t L) sys → IsSystem t L sys
unfolding systems
system-is t L sys h =
    let (a, in-a, k) = flat_map-has (λ a. flat_map (systems_of t L a) (refs t)) (refs t) sys h in
    let (b, in-b, m) = flat_map-has (systems_of t L a) (refs t) sys k in
    by a b (pairs (referred t a) (referred t b)) m
  where
    by : (a b : AccessRef) (w : Bool) → Has (if w then map (system t L a b) (cases t a b) else []) sys → IsSystem t L sys
    by a b true m = let (c, in-c, e) = map-has (system t L a b) (cases t a b) sys m in record { first = a; second = b; case = c; same = e }
    by a b false m = absurd m

system-of-trial : (t : Table) (s : Schedule) (L : ℤ) (v : Trial) → Has (trials t s L) v → IsSystem t L v.system
unfolding trials
system-of-trial t s L v h =
    let (sys, in-s, k) = flat_map-has (trials_of t s) (systems t L) v h in
    subst (IsSystem t L) (by sys (nat_le sys.case (depth t)) k) (system-is t L sys in-s)
  where
    by : (sys : System) (w : Bool) → Has (if w then map (trial sys) (violations t s) else []) v → sys ≡ v.system
    by sys true k = let (u, in-u, e) = map-has (trial sys) (violations t s) v k in sym (ap (λ (z : Trial). z.system) e)
    by sys false k = absurd k

over-for : (t : Table) (a b : AccessRef) (cs : List AtMost) (r : Row) → Has (rows_for t a b cs) r → variables r ≡ 1 + (counters t (block_at t a.block) + counters t (block_at t b.block))
over-for t a b cs r h =
    let (c, k, e) = map-has (row_for (counters t (block_at t a.block)) (counters t (block_at t b.block))) cs r h in
    ap variables e ∙ variables-row_for (counters t (block_at t a.block)) (counters t (block_at t b.block)) c

pub over-tried : (t : Table) (s : Schedule) (L : ℤ) (v : Trial) (i : IsSystem t L v.system) (r : Row) → Has (tried t s v) r → variables r ≡ joint_variables t v.system
over-tried t s L v i r h =
    ⊎_elim (λ k. front (subst (λ (sys : System). Has sys.rows r) i.same k)) (λ k. over-for t v.system.first v.system.second _ r k) (has-cases v.system.rows _ r h)
  where
    front : Has (system t L i.first i.second i.case).rows r → variables r ≡ joint_variables t v.system
    front k = subst (λ (sys : System). variables r ≡ joint_variables t sys) (sym i.same) (over-for t i.first i.second (comparisons t L i.first i.second i.case) r k)

pub legal_is_unmet : LegalIsUnmet
unfolding judgement
legal_is_unmet t s L legal = All-from (λ (v : Trial). (point : List ℤ) → All (Meets point) (tried t s v) → ⊥) (trials t s L) each
  where
    each : (v : Trial) → Has (trials t s L) v → (point : List ℤ) → All (Meets point) (tried t s v) → ⊥
    each v h point met =
        verdict-unmet (joint_variables t v.system) (tried t s v) point (All-from (λ (r : Row). variables r ≡ joint_variables t v.system) (tried t s v) (over-tried t s L v (system-of-trial t s L v h)))
        (All-has (λ (w : Trial). judgement t s w ≡ Empty) (trials t s L) v legal h) met
