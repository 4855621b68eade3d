-- What a certificate shows.
use Rattle.std.proofs.Common.{◌≡◌, ap, sym, subst, ℤ, Bool, true, false, nat_le, List, [], ◌∷◌, map, inl, inr}
use Rattle.std.specs.Prelude.{if◌then◌else◌}
use Rattle.std.specs.List.{All}
use Rattle.plain_lemmas.proofs.MembershipLaws.{All-from, flat_map-has, map-has}
use Rattle.plain_lemmas.specs.Lists.{Has}
use Rattle.affine.specs.declared.row.Row.{Row}
use Rattle.affine.specs.Rows.{Meets, variables}
use Rattle.domain.specs.Tables.{Table, depth}
use Rattle.transform.specs.Schedules.{Schedule}
use Rattle.dependence.specs.Systems.{System, systems}
use Rattle.dependence.specs.Legality.{Trial, joint_variables, trial, tried, trials, trials_of, violations}
use Rattle.dependence.proofs.VerdictLaws.{over-tried, system-is}
use Rattle.dependence.proofs.ScheduleLaws.{order_kept, tiles_apart}
use Rattle.refutation.proofs.PointLaws.{refuted-unmet}
use Rattle.certify.specs.declared.certificates.Claimed.{Claimed}
use Rattle.certify.specs.Certificates.{AreRefuted, Refutes}
use Rattle.certify.specs.Laws.{CertifiedIsUnmet, CertifiedOrderKept, CertifiedTilesApart}

-- each trial has its block
block-of : (t : Table) (s : Schedule) (vs : List Trial) (bs : List Claimed) → AreRefuted t s vs bs → (v : Trial) → Has vs v → (b : Claimed) × Refutes t s v b
block-of t s [] bs h v in-vs = absurd in-vs
block-of t s (u ∷ us) [] h v in-vs = absurd h
block-of t s (u ∷ us) (b ∷ bs) h v (inl e) = (b, subst (λ (w : Trial). Refutes t s w b) (sym e) h.0)
block-of t s (u ∷ us) (b ∷ bs) h v (inr k) = block-of t s us bs h.1 v k

-- the system of a trial is one of the table
system-of : (t : Table) (s : Schedule) (L : ℤ) (v : Trial) → Has (trials t s L) v → Has (systems t L) v.system
unfolding trials
system-of t s L v h = let (sys, in-s, k) = flat_map-has (trials_of t s) (systems t L) v h in subst (Has (systems t L)) (by sys (nat_le sys.case (depth t)) k) in-s
  where
    by : (sys : System) (w : Bool) → Has (if w then map (trial sys) (violations t s) else []) v → sys ≡ v.system
    by sys true k = let (u, in-u, e) = map-has (trial sys) (violations t s) v k in sym (ap (λ (z : Trial). z.system) e)
    by sys false k = absurd k

pub certified_is_unmet : CertifiedIsUnmet
certified_is_unmet t s c is = All-from (λ (v : Trial). (point : List ℤ) → All (Meets point) (tried t s v) → ⊥) (trials t s c.length) each
  where
    each : (v : Trial) → Has (trials t s c.length) v → (point : List ℤ) → All (Meets point) (tried t s v) → ⊥
    each v h point met =
        let (b, refutes) = block-of t s (trials t s c.length) c.blocks is v h in
        refuted-unmet (joint_variables t v.system) (tried t s v) b.proof point
        (All-from (λ (r : Row). variables r ≡ joint_variables t v.system) (tried t s v) (over-tried t s c.length v (system-is t c.length v.system (system-of t s c.length v h))))
        refutes.proof met

pub certified_order_kept : CertifiedOrderKept
certified_order_kept D t words s c chunk x y table sched is pair = order_kept D t c.length words s chunk x y table sched (certified_is_unmet t s c is) pair

pub certified_tiles_apart : CertifiedTilesApart
certified_tiles_apart D t words s c chunk x y table sched is = tiles_apart D t c.length words s chunk x y table sched (certified_is_unmet t s c is)
