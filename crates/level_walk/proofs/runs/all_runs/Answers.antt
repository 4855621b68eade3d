use Rattle.std.proofs.Common.{List, [], ℤ, refl, sym, subst, arith}
use Rattle.level_walk.specs.Places.{Place, Stands, left}
use Rattle.level_walk.specs.Fronts.{fronts}
use Rattle.level_walk.specs.declared.runs.Run.{Run}
use Rattle.level_walk.proofs.RunLaws.{IsScannedTo, scan-end, scan-start}
use Rattle.level_walk.proofs.runs.all_runs.Goals as goal

pub fronts-init : goal.fronts-init
fronts-init g c =
    let s = g.R.Ranged.space c.args.set.now in
    let start = sym c.new-cursor.ensures in
    let few = c.requires.few in
    record {
      stands = subst (Stands (fronts s)) start (record { few = omega (arith, few); long = refl; reach = omega arith; at = tt; last = tt });
      scanned = subst (λ (rs : List Run). IsScannedTo s rs (left (fronts s) c.new-cursor.result)) (sym c.new-runs.ensures.items)
          (subst (λ (p : Place). IsScannedTo s [] (left (fronts s) p)) start (scan-start s c.requires.some));
    }

pub returns : goal.returns
returns g c =
    let s = g.R.Ranged.space c.args.set.now in
    scan-end s c.requires.some c.fronts.runs.items (subst (λ (rest : List (List ℤ)). IsScannedTo s c.fronts.runs.items rest) (c.in_default.ensures.none refl).0 c.fronts.invariant.scanned)
