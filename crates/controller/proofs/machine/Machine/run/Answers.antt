use Rattle.std.proofs.Common.{◌≡◌, ◌++◌, length, drop, take, rules}
use Rattle.controller.proofs.PlacedLaws.{take-front}
use Rattle.controller.proofs.machine.Machine.run.Goals as goal

pub returns-clause-ran : goal.returns-clause-ran
returns-clause-ran g c =
    let value = c.as_mut_slice.ensures.value in
    let kept : c.self.inside.scalars.len ≡ length c.run_from.new.scalars = search rules in
    let same : take c.self.inside.scalars.len (c.run_from.new.scalars ++ drop (length c.run_from.new.scalars) c.self.inside.scalars.items) ≡ c.run_from.new.scalars =
    take-front c.self.inside.scalars.len c.run_from.new.scalars (drop (length c.run_from.new.scalars) c.self.inside.scalars.items) kept in (
      c.run_from.ensures.outer.0,
      rw (← c.self.view_is, ← c.course.view_is) (record {
        whole = rw value at c.run_from.ensures.outer.2;
        cut = λ k few. rw same (rw value at (c.run_from.ensures.ran k few).cut);
        outer = c.run_from.ensures.outer.1;
      }),
    )
