-- The memory that a seat reads, as signed words.
use Rattle.std.specs.Prelude.{◌≡◌, ℕ, ℤ, pos, negsuc, List, [], ◌∷◌, map, refl}
use Rattle.std.specs.Int.{w64, cast_signed}
use Rattle.core_steps.specs.declared.view.View.{View}
use Rattle.core_steps.specs.Views.{overlaid, lent_view, storing_view, first_view}

-- the signed words of these bits
abbrev pub signed : List ℕ → List ℤ
signed bits = map (cast_signed w64) bits

-- the memory that a seat reads: its own values, laid over its base
abbrev pub shown : View → List ℤ
shown v = signed (overlaid v.own v.base)

-- computed examples: the greatest bits are the word -1, and a worker that stored 9 at word 1 reads it there
pub the_greatest_bits : signed (18446744073709551615 ∷ 5 ∷ []) ≡ negsuc 0 ∷ pos 5 ∷ []
the_greatest_bits = refl

pub a_worker_reads_its_own : shown (storing_view (lent_view (first_view (5 ∷ 6 ∷ [])) 1) 1 9) ≡ pos 5 ∷ pos 9 ∷ []
a_worker_reads_its_own = refl
