use Rattle.std.proofs.Common.{◌∙◌, ◌≤◌, ℤ, sym, ap, subst, length, List, map, arith}
use Rattle.plain_lemmas.specs.Lists.{Has}
use Rattle.arrayvec.specs.ArrayVec.{ArrayVec}
use Rattle.fourier_motzkin.specs.Verdicts.{bounds_of}
use Rattle.domain.specs.Tables.{Block}
use Rattle.domain.specs.Instances.{padded}
use Rattle.level_walk.specs.declared.scans.Scanning.{Scanning}
use Rattle.skeletons.specs.Cells.{Extent}
use Rattle.skeletons.specs.Scans.{IsRowsTo}
use Rattle.skeletons.proofs.BoxLaws.{length-place}
use Rattle.skeletons.proofs.SkeletonLaws.{rows-find, scanning, nothing-found}
use Rattle.skeletons.proofs.block.block_scan.Goals as goal

pub returns-in-Maybe-clause-is : goal.returns-in-Maybe-clause-is
returns-in-Maybe-clause-is g c =
    let s = c.args.scope.now in
    let block : Scanning = record { scan = c.in_ok-scan.scan; rows = c.in_ok-rows.rows } in
    scanning g.row.D s.pred.now s.chunk s.block.now s.columns.now block.scan block c.requires.some (let f = c.requires.few in omega (arith, f)) c.in_ok-rows.ensures
    (c.in_ok-scan.ensures ∙ ap (bounds_of g.row.D) c.as_slice.ensures.value) (sym c.verdict.ensures ∙ c.in-Maybe.is)

pub returns-in-Maybe-clause-finds : goal.returns-in-Maybe-clause-finds
returns-in-Maybe-clause-finds g c =
    let s = c.args.scope.now in
    let e : Extent = record { table = s.pred.now; schedule = c.args.schedule.now; chunk = s.chunk } in
    rows-find g.row.D e (let f = c.requires.few in omega (arith, f)) c.requires.table c.requires.schedule c.requires.launch s.columns.now c.requires.inverse c.args.rank c.in_ok-rows.rows.items c.requires.inside
    (subst (λ (b : Block). IsRowsTo g.row.D s.pred.now s.chunk b s.columns.now g.row.D c.in_ok-rows.rows.items) c.requires.block c.in_ok-rows.ensures)

pub returns-in-Empty-clause-finds : goal.returns-in-Empty-clause-finds
returns-in-Empty-clause-finds g c =
    let s = c.args.scope.now in
    let e : Extent = record { table = s.pred.now; schedule = c.args.schedule.now; chunk = s.chunk } in
    let few : g.row.D ≤ 6 = (let f = c.requires.few in omega (arith, f)) in
    λ z. (
      λ h. absurd (subst (λ (ps : List (ArrayVec ℤ)). Has (map (λ (p : ArrayVec ℤ). p.items) ps) z) c.new.ensures.items h),
      λ h. absurd (nothing-found g.row.D e c.args.rank c.in_ok-rows.rows.items c.in_ok-scan.scan c.in_ok-rows.ensures.over (c.in_ok-scan.ensures ∙ ap (bounds_of g.row.D) c.as_slice.ensures.value) (sym c.verdict.ensures ∙ c.in-Empty.is)
          (rows-find g.row.D e few c.requires.table c.requires.schedule c.requires.launch s.columns.now c.requires.inverse c.args.rank c.in_ok-rows.rows.items c.requires.inside
          (subst (λ (b : Block). IsRowsTo g.row.D s.pred.now s.chunk b s.columns.now g.row.D c.in_ok-rows.rows.items) c.requires.block c.in_ok-rows.ensures))
          (λ w p. ap length (sym p.there) ∙ length-place g.row.D c.args.schedule.now c.requires.schedule (padded s.pred.now p.at)) z h),
    )
