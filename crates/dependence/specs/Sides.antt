-- How a row of a schedule is violated: below or above.
use Rattle.std.specs.Prelude.{Bool, true, false}
use Rattle.dependence.specs.declared.violations.Side.{Side}
use Rattle.dependence.specs.declared.violations.Side.TheVariants.{Below, Above}

abbrev pub is_above : Side → Bool
is_above Below = false
is_above Above = true

abbrev pub side_of : Bool → Side
side_of true = Above
side_of false = Below
