-- Rules that every nest of a file keeps.
use Rattle.std.specs.Prelude.{◌≡◌, ℕ, ◌<◌, ◌≤◌, ◌-◌, ◌^◌, pos, nat_le, List, [], ◌∷◌, length, map, Some, Bool, true, false, not, ◌&&◌}
use Rattle.std.specs.List.{All, range_with_len}
use Rattle.nest_lang.specs.declared.tree.Access.{Access}
use Rattle.nest_lang.specs.declared.tree.Head.{Head}
use Rattle.nest_lang.specs.declared.tree.Head.TheVariants.{For, While}
use Rattle.nest_lang.specs.declared.tree.Loop.{Loop}
use Rattle.nest_lang.specs.declared.tree.Place.{Place}
use Rattle.nest_lang.specs.declared.tree.Place.TheVariants.{Scalar, Counter, Local}
use Rattle.nest_lang.specs.declared.tree.Stmt.{Stmt}
use Rattle.nest_lang.specs.Values.{same}
use Rattle.nest_lang.specs.Blocks.{loop_at}
use Rattle.nest_lang.specs.Accesses.{head_accesses, block_accesses}
use Rattle.nest_lang.specs.Places.{head_places, block_places, block_size}

-- the stride of a `for` is not 0
abbrev pub strides : Head → Bool
strides (For lower upper stride) = not (same stride (pos 0))
strides (While condition) = true

abbrev pub has_statements : List Stmt → Bool
has_statements [] = false
has_statements (s ∷ ss) = true

-- a loop and the loops inside of it: no stride is 0, and the innermost body has a statement, so that
-- every turn takes a step
abbrev pub loop_keeps : Loop → List Loop → Bool
loop_keeps l [] = strides l.head && has_statements l.pre
loop_keeps l (m ∷ ls) = strides l.head && loop_keeps m ls

-- one to six loops of which this holds
unfoldable pub loops_keep : List Loop → Bool
loops_keep [] = false
loops_keep (l ∷ ls) = nat_le (length ls) 5 && loop_keeps l ls

-- accesses are numbered from 1 on in the order of evaluation, and there are at most 64
abbrev pub AreNumbered : List Access → Type 0
AreNumbered accesses = (map (λ (a : Access). a.number) accesses ≡ range_with_len 1 (length accesses)) × (length accesses ≤ 64)

-- a place is one of so many scalars, the name of one of so many loops, or one of the 16 locals of a block
abbrev pub IsWithin : ℕ → ℕ → Place → Type 0
IsWithin scalars names (Scalar number) = number < scalars
IsWithin scalars names (Counter number) = number < names
IsWithin scalars names (Local number) = number < 16

-- a block of statements inside of so many loops keeps the rules
pub record BlockKeeps (scalars level : ℕ) (block : List Stmt) : Type 0 where
  pub accesses : AreNumbered (block_accesses block)
  pub places : All (IsWithin scalars level) (block_places block)
  pub size : block_size block < 2 ^ 20

-- a head keeps the rules; the names of the loops around it are visible in it, and its own isn't
pub record HeadKeeps (scalars level : ℕ) (head : Head) : Type 0 where
  pub accesses : AreNumbered (head_accesses head)
  pub places : All (IsWithin scalars (level - 1)) (head_places head)

-- the loop at a level keeps the rules where its blocks do
pub record LoopKeeps (scalars level : ℕ) (l : Loop) : Type 0 where
  pub head : HeadKeeps scalars level l.head
  pub pre : BlockKeeps scalars level l.pre
  pub post : BlockKeeps scalars level l.post

-- a nest of a file with so many scalars keeps the rules where its loops do, with each of their blocks; all statements of
-- the innermost loop stand before a loop that isn't there
pub record NestKeeps (scalars : ℕ) (loops : List Loop) : Type 0 where
  pub loops_keep : loops_keep loops ≡ true
  pub innermost : (l : Loop) → loop_at loops (length loops) ≡ Some l → l.post ≡ []
  pub each : (level : ℕ) (l : Loop) → loop_at loops level ≡ Some l → LoopKeeps scalars level l
