use Rattle.std.proofs.Common.{◌∙◌, rules}
use Rattle.chunk_run.proofs.CellListLaws.{lists-unique}
use Rattle.chunk_run.proofs.walks.PhaseWalksRefSliceCellMakeWalk.make.Goals as goal

pub new-requires : goal.new-requires
new-requires g c =
    let deep = c.self.invariant.deep in
    let few = c.self.invariant.few in
    search rules

pub returns-clause-lists : goal.returns-clause-lists
returns-clause-lists g c =
    lists-unique c.self.inside.skeleton.now c.self.inside.cells.now c.new.result.lists c.self.inside.first.lists c.new.ensures.lists c.self.invariant.are ∙ c.self.view_is
