-- What the fit of a datum answers where there is none.
use Rattle.std.specs.Prelude.{◌<◌, ℕ, List, length, ⊤}
use Rattle.line_fit.specs.declared.sample.NoFit.{NoFit}
use Rattle.line_fit.specs.declared.sample.NoFit.TheVariants.{Large, Missed, NoMemory}
use Rattle.line_fit.specs.Samples.{Sample}
use Rattle.line_fit.specs.Lines.{IsLarge, IsTooWide}

-- why samples over n counters have no fit with a tube at most so wide; want of memory may come at any time
abbrev pub IsUnfit : (n : ℕ) → ℕ → List Sample → NoFit n → Type 0
IsUnfit n widest samples (Large number) = (0 < length samples) × IsLarge n samples number
IsUnfit n widest samples (Missed miss) = (0 < length samples) × IsTooWide n widest samples miss
IsUnfit n widest samples NoMemory = ⊤

-- why samples over n counters have no line that can be kept
abbrev pub IsUnlined : (n : ℕ) → List Sample → NoFit n → Type 0
IsUnlined n samples (Large number) = IsLarge n samples number
IsUnlined n samples (Missed miss) = ⊥
IsUnlined n samples NoMemory = ⊤
