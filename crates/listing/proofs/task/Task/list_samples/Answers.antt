use Rattle.std.proofs.Common.{◌≡◌, sym, subst, ℕ, [], ◌∷◌, ◌++◌, rules}
use Rattle.std.proofs.lemmas.Result.{on_ok_weaker}
use Rattle.listing.specs.Lists.{table_lines}
use Rattle.listing.specs.Listings.{AreFittedLines, unfit_line}
use Rattle.listing.specs.Listings.AreFittedLines.{fitted, unfit}
use Rattle.listing.proofs.task.Task.list_samples.Goals as goal

pub returns-in-Ok : goal.returns-in-Ok
returns-in-Ok g c =
    let task = c.args.self.now in
    let lines = table_lines task.scalars task.unit.now.nest.loops task.options.chunk task.unit.now.scripts c.in-Ok.pred in
    on_ok_weaker c.list_prediction.result
    (λ so. (lines, subst (λ (n : ℕ). AreFittedLines n task.options task.scalars task.unit.now c.args.samples.now lines) (sym c.requires.depth) (fitted c.in-Ok.pred c.in-Ok.ensures), so))
    c.list_prediction.ensures

pub returns-in_ok-push-in-Err-Unfit : goal.returns-in_ok-push-in-Err-Unfit
returns-in_ok-push-in-Err-Unfit g c =
    let task = c.args.self.now in
    let u = c.in-Err-Unfit.unfit in
    let is = rw c.in-Err-Unfit.field-0-is at c.in-Err-Unfit.ensures in
    let added : c.push.new.self.items ≡ c.args.lines.now.items ++ unfit_line c.args.self.now.unit.now.nest.loops c.in-Err-Unfit.unfit ∷ [] = search rules in
    (unfit_line task.unit.now.nest.loops u ∷ [], subst (λ (n : ℕ). AreFittedLines n task.options task.scalars task.unit.now c.args.samples.now (unfit_line task.unit.now.nest.loops u ∷ [])) (sym c.requires.depth) (unfit u is), added)
