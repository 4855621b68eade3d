-- The present blocks, from the parts of the list of loops.
use Rattle.std.proofs.Common.{◌≡◌, refl, List, [], ◌∷◌, ◌++◌, length, arith}
use Rattle.nest_lang.specs.declared.tree.Loop.{Loop}
use Rattle.nest_lang.specs.declared.tree.Part.TheVariants as part
use Rattle.nest_lang.specs.Blocks.{present_blocks, outermost, opening, closing, block_if_any}

pub present-cons : (l : Loop) (ls loops : List Loop) → loops ≡ l ∷ ls → outermost l.head ++ block_if_any part.Pre 1 l.pre ++ opening 2 ls ++ closing 1 loops ≡ present_blocks loops
unfolding present_blocks
present-cons l ls loops e = rw e refl

pub present-nil : (loops : List Loop) → length loops ≡ 0 → [] ≡ present_blocks loops
unfolding present_blocks
present-nil [] e = refl
present-nil (l ∷ ls) e = absurd (omega arith)

pub ruleset present = (present-cons, present-nil)
