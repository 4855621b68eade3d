use Rattle.std.proofs.Common.{◌≡◌, ◌≤◌, ◌-◌, ◌∙◌, sym, ap, arith}
use Rattle.std.specs.List.{flat_map, range_with_len}
use Rattle.dependence.specs.Legality.{violations_of}
use Rattle.certify.proofs.RowLaws.{are-rows, row-below, row-both}
use Rattle.certify.proofs.violations.violations.Goals.{then-is_parallel_in_band+in_ok-push-2, else-is_parallel_in_band}
use Rattle.certify.proofs.violations.violations.Goals as goal

pub loop-row-preserved : goal.loop-row-preserved
loop-row-preserved g c =
    let auto = c.loop-row.auto.row in
    let from : 1 ≤ c.loop-row.row = omega (arith, auto) in
    elim c.if-is_parallel_in_band.branch [
      | then-is_parallel_in_band+in_ok-push-2 w ↦
          ap (λ v. v.items) w.found-is
          ∙ row-both c.args.schedule.now c.loop-row.row c.loop-row.found.items c.push.new.self.items w.push-then-is_parallel_in_band.new.self.items from c.loop-row.invariant c.in_ok-push.ensures.items
          w.in_ok-push-2.ensures.items (sym w.if-is_parallel_in_band.true ∙ c.is_parallel_in_band.ensures)
      | else-is_parallel_in_band w ↦
          ap (λ v. v.items) w.found-is
          ∙ row-below c.args.schedule.now c.loop-row.row c.loop-row.found.items c.push.new.self.items from c.loop-row.invariant c.in_ok-push.ensures.items (sym w.if-is_parallel_in_band.false ∙ c.is_parallel_in_band.ensures)
    ]

pub returns-clause-rows : goal.returns-clause-rows
returns-clause-rows g c =
    let auto = c.loop-row.auto.row in
    let done = c.loop-row-test.false in
    let e : c.loop-row.row - 1 ≡ g.row.D = omega (arith, auto, done) in
    are-rows g.row.D c.args.schedule.now c.loop-row.found.items (c.loop-row.invariant ∙ ap (λ n. flat_map (violations_of c.args.schedule.now) (range_with_len 1 n)) e)
