use Rattle.std.proofs.Common.{◌≡◌, sym, ap, ◌∙◌, length, rules}
use Rattle.domain.specs.Instances.{opening_at}
use Rattle.follow_chunk.specs.Tasks.{task_of}
use Rattle.chunk_run.proofs.OpeningLaws.{count-opening, length-opening, few-opening, first-is}
use Rattle.chunk_run.proofs.scalars.begins.Goals as goal

pub scalars_at-expected-requires : goal.scalars_at-expected-requires
scalars_at-expected-requires g c =
    let self = c.args.task.now in
    let task = c.requires.task in
    let first : c.opening-first.result ≡ opening_at self.pred.now self.chunk.first = c.opening-first.ensures ∙ ap (opening_at self.pred.now) (first-is g.row.D (task_of self) task.0 task.1) in
    let few = few-opening g.row.D (task_of self) task.0 task.1 self.chunk.first c.opening-first.result first in
    let count = count-opening g.row.D (task_of self) task.0 task.1 self.chunk.first c.opening-first.result first in
    search rules

pub are_same-requires : goal.are_same-requires
are_same-requires g c =
    let self = c.args.task.now in
    let task = c.requires.task in
    let first : c.opening-first.result ≡ opening_at self.pred.now self.chunk.first = c.opening-first.ensures ∙ ap (opening_at self.pred.now) (first-is g.row.D (task_of self) task.0 task.1) in
    c.requires.count ∙ sym (ap length (c.as_slice.ensures.value ∙ c.scalars_at-expected.ensures)
    ∙ length-opening g.row.D (task_of self) task.0 task.1 self.chunk.first c.opening-first.result first)
