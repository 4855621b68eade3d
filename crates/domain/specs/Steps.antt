-- Steps: the instance after an instance, as the loops turn.
use Rattle.std.specs.Prelude.{ℕ, zero, suc, ◌-◌, ◌+◌, ℤ, pos, ◌+ℤ◌, ◌<ℤ◌, ◌^◌, nat_lt, int_lt, not, ◌&&◌, Bool, true, false, if◌then◌else◌, List, Option, Some, None, unwrap_or, slice_set}
use Rattle.nest_lang.specs.declared.tree.Part.{Part}
use Rattle.nest_lang.specs.declared.tree.Part.TheVariants.{Head, Pre, Post}
use Rattle.domain.specs.Tables.{Table, depth, repeats, rank_of, cut, trip}
use Rattle.domain.specs.Instances.{Instance, instance, counter, block_of}

-- the first counters in the next turn of the loop inside k of them
abbrev pub turned : ℕ → List ℤ → List ℤ
turned k at = slice_set (cut k at) k (counter at k +ℤ pos 1)

-- the block after a loop, where it is present
abbrev pub left_by : Option ℕ → List ℤ → Instance → Instance
left_by None at go = go
left_by (Some post) at go = instance post at

-- a further turn begins with the head of a `while`, and with what stands after the head of a `for`; without one the
-- loop is left
abbrev pub turn_by : Bool → Bool → ℕ → List ℤ → Instance → Instance
turn_by true more head at go = instance head at
turn_by false true head at go = instance (head + 1) at
turn_by false false head at go = go

abbrev pub head_rank : Table → ℕ → ℕ
head_rank t level = unwrap_or (rank_of t Head level) 0

-- the instance after the last block of a turn of the loop inside k counters
unfoldable pub next_turn : Table → ℕ → List ℤ → Instance
next_turn t zero at = instance 0 (turned 0 at)
next_turn t (suc k) at =
    turn_by (repeats t (suc k)) (int_lt (counter at (suc k) +ℤ pos 1) (trip t (suc k) at)) (head_rank t (suc k + 1)) (turned (suc k) at)
    (left_by (rank_of t Post (suc k)) (cut (suc k) at) (next_turn t k at))

-- the instance after the loop inside k counters
abbrev pub after_loop : Table → ℕ → List ℤ → Instance
after_loop t k at = left_by (rank_of t Post k) (cut k at) (next_turn t (k - 1) at)

-- the head of an inner loop sees no further turn
abbrev pub ends_loop : Table → ℕ → List ℤ → Bool
ends_loop t level at = nat_lt 1 level && not (int_lt (counter at (level - 1)) (trip t (level - 1) at))

abbrev pub next_by : Table → Part → ℕ → ℕ → List ℤ → Instance
next_by t Head level rank at = if ends_loop t level at then after_loop t (level - 1) at else instance (rank + 1) at
next_by t Pre level rank at = if nat_lt level (depth t) then instance (rank + 1) at else next_turn t (level - 1) at
next_by t Post level rank at = next_turn t (level - 1) at

-- the instance after an instance
unfoldable pub next : Table → Instance → Instance
next t x = next_by t (block_of t x).part (block_of t x).level x.block x.at

-- the number of each counter can rise
abbrev pub CanTurn : List ℤ → Type 0
CanTurn at = (k : ℕ) → counter at k <ℤ pos (2 ^ 63 - 1)
