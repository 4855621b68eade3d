use Rattle.std.proofs.Common.{◌≡◌, map, take}
use Rattle.nest_text.proofs.file.first_scalars.Given as goal

abbrev pub invariant-loop-scalar : goal.invariant-loop-scalar
invariant-loop-scalar l = l.values.items ≡ map (λ c. c.value) (take l.scalar-index l.scalars)
