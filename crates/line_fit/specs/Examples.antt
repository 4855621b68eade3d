-- Fits that are worked by hand.
use Rattle.std.specs.Prelude.{◌≡◌, ℤ, pos, List, [], ◌∷◌, refl}
use Rattle.affine.specs.Forms.{Affine}
use Rattle.line_fit.specs.Samples.{Sample, one_less}
use Rattle.line_fit.specs.Lines.{residual, IsFit, IsTooWide}

-- a sample of one counter
abbrev pub at : ℤ → ℤ → Sample
at counter value = record { at = counter ∷ []; value = value }

-- the line through (0, 0) that rises by one
abbrev pub diagonal : Affine
diagonal = record { coef = pos 1 ∷ []; cst = pos 0 }

-- 0, 1, 4 and 9 at the first four turns
abbrev pub squares : List Sample
squares = at (pos 0) (pos 0) ∷ at (pos 1) (pos 1) ∷ at (pos 2) (pos 4) ∷ at (pos 3) (pos 9) ∷ []

-- (3, 6) is one less than (3, 7) in the inner counter
one_less-example : one_less 1 (pos 3 ∷ pos 7 ∷ []) ≡ pos 3 ∷ pos 6 ∷ []
one_less-example = refl

-- 9 lies 6 beyond the diagonal at 3
residual-example : residual diagonal (at (pos 3) (pos 9)) ≡ pos 6
residual-example = refl

-- the squares have the diagonal as their line, with the tube (0, 6); where no tube may be wider than 0, the line
-- misses them first at turn 2
pub record FitExamples : Type 0 where
  pub tube : IsFit 1 64 squares (record { line = diagonal; low = pos 0; high = pos 6 })
  pub missed : IsTooWide 1 0 squares (record { at = pos 2 ∷ []; line = pos 2; seen = pos 4 })
