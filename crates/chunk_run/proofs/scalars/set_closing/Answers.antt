use Rattle.std.proofs.Common.{◌≡◌, sym, ap, ◌∙◌, subst, ℤ, pos, ◌+ℤ◌, FitsSigned, w64, List, length, get_or, rules}
use Rattle.domain.specs.Instances.{opening_at}
use Rattle.follow_chunk.specs.Predicted.{scalars_at}
use Rattle.follow_chunk.specs.Tasks.{task_of}
use Rattle.chunk_run.proofs.OpeningLaws.{count-opening, length-opening, few-opening, behind-is}
use Rattle.chunk_run.proofs.scalars.set_closing.Goals as goal

pub scalars_at-expected-requires : goal.scalars_at-expected-requires
scalars_at-expected-requires g c =
    let self = c.args.task.now in
    let task = c.requires.task in
    let behind : c.opening-behind.result ≡ opening_at self.pred.now (self.chunk.first +ℤ self.chunk.turns) = c.opening-behind.ensures ∙ ap (opening_at self.pred.now) (behind-is g.row.D (task_of self) task.0 task.1) in
    let few = few-opening g.row.D (task_of self) task.0 task.1 (self.chunk.first +ℤ self.chunk.turns) c.opening-behind.result behind in
    let count = count-opening g.row.D (task_of self) task.0 task.1 (self.chunk.first +ℤ self.chunk.turns) c.opening-behind.result behind in
    search rules

pub narrowed-closing-requires-clause-fits : goal.narrowed-closing-requires-clause-fits
narrowed-closing-requires-clause-fits g c k =
    let self = c.args.task.now in
    let task = c.requires.task in
    let behind : c.opening-behind.result ≡ opening_at self.pred.now (self.chunk.first +ℤ self.chunk.turns) = c.opening-behind.ensures ∙ ap (opening_at self.pred.now) (behind-is g.row.D (task_of self) task.0 task.1) in
    subst (λ (xs : List ℤ). FitsSigned w64 (get_or xs k (pos 0))) (sym (c.as_slice.ensures.value ∙ c.scalars_at-expected.ensures ∙ ap (scalars_at self.pred.now) behind)) (c.requires.fits k)

pub copy_from_slice-requires : goal.copy_from_slice-requires
copy_from_slice-requires g c =
    let self = c.args.task.now in
    let task = c.requires.task in
    let behind : c.opening-behind.result ≡ opening_at self.pred.now (self.chunk.first +ℤ self.chunk.turns) = c.opening-behind.ensures ∙ ap (opening_at self.pred.now) (behind-is g.row.D (task_of self) task.0 task.1) in
    c.requires.count ∙ sym (ap length (c.as_slice-2.ensures.value ∙ c.narrowed-closing.ensures ∙ c.as_slice.ensures.value ∙ c.scalars_at-expected.ensures) ∙ length-opening g.row.D (task_of self) task.0 task.1 (self.chunk.first +ℤ self.chunk.turns) c.opening-behind.result behind)

pub returns : goal.returns
returns g c =
    let self = c.args.task.now in
    let task = c.requires.task in
    let behind : c.opening-behind.result ≡ opening_at self.pred.now (self.chunk.first +ℤ self.chunk.turns) = c.opening-behind.ensures ∙ ap (opening_at self.pred.now) (behind-is g.row.D (task_of self) task.0 task.1) in
    c.copy_from_slice.ensures.after ∙ c.as_slice-2.ensures.value ∙ c.narrowed-closing.ensures ∙ c.as_slice.ensures.value ∙ c.scalars_at-expected.ensures ∙ ap (scalars_at self.pred.now) behind
