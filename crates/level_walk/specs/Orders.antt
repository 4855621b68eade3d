-- Points in lexicographic order.
use Rattle.std.specs.Prelude.{◌≡◌, ℤ, List}
use Rattle.std.specs.Ordering.{int_cmp}
use Rattle.std.specs.declared.cmp.Ordering.TheVariants.{Less}
use Rattle.std.specs.Cmp.Lexicographic.{slice_cmp}

-- one point comes before another, the first place first
abbrev pub Precedes : List ℤ → List ℤ → Type 0
Precedes first second = slice_cmp int_cmp first second ≡ Less
