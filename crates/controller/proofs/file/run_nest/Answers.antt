use Rattle.std.proofs.Common.{◌∙◌, sym, arith}
use Rattle.listing.proofs.FileLaws.{loops_keep-count}
use Rattle.controller.proofs.file.run_nest.Goals as goal
use Rattle.controller.proofs.file.run_nest.Goals.{in-1, in-2, in-3, in-4, in-5, in-6, in_default}

pub unreachable-requires : goal.unreachable-requires
unreachable-requires g c =
    let few = loops_keep-count c.args.unit.now.nest.now.loops c.requires.unit.keeps.loops_keep in
    elim c.match-depth.branch [
      | in-1 w ↦ (let bad = sym c.in_default-2.is ∙ w.t-10-is in cc)
      | in-2 w ↦ (let bad = sym c.in_default-2.is ∙ w.t-10-is in cc)
      | in-3 w ↦ (let bad = sym c.in_default-2.is ∙ w.t-10-is in cc)
      | in-4 w ↦ (let bad = sym c.in_default-2.is ∙ w.t-10-is in cc)
      | in-5 w ↦ (let bad = sym c.in_default-2.is ∙ w.t-10-is in cc)
      | in-6 w ↦ (let bad = sym c.in_default-2.is ∙ w.t-10-is in cc)
      | in_default w ↦ (let depth = c.depth.ensures in omega (arith, few, depth))
    ]
