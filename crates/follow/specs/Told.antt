-- Told: the outcome of a call that says apart how a run differs.
use Rattle.std.specs.Prelude.{ℕ, Option, Some, None, Result, Ok, Err}
use Rattle.follow.specs.declared.how.How.{How}
use Rattle.follow.specs.declared.how.Differs.{Differs}

-- the steps, or how it differs
abbrev pub told : Result ℕ Differs → How → Result ℕ How
told (Ok steps) how = Ok steps
told (Err differs) how = Err how

-- how the first thing differs that does, if one does
abbrev pub first_said : Result (Unit {0}) Differs → How → Option How
first_said (Ok none) how = None
first_said (Err differs) how = Some how
