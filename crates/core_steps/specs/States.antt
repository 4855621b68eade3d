-- A state of the machine: the shared words, main's view, and the views of the seats that main ever lent.
use Rattle.std.specs.Prelude.{◌≡◌, ℕ, ℤ, ◌+◌, ◌<◌, ◌==◌, true, if◌then◌else◌, List, [], ◌∷◌, ◌++◌, length, map, drop, replicate, slice_index}
use Rattle.std.specs.Int.{w64, cast_unsigned}
use Rattle.core_steps.specs.declared.view.View.{View}
use Rattle.core_steps.specs.Numbers.{has}
use Rattle.core_steps.specs.Views.{first_view, spent_view}

-- word 0 is the flag, then come 65,536 claims, and the memory begins here
abbrev pub claim_word : ℕ → ℕ
claim_word k = 1 + k

abbrev pub memory_word : ℕ → ℕ
memory_word a = 65537 + a

-- the greatest epoch that was raised
abbrev pub flag_of : List ℕ → ℕ
flag_of words = slice_index words 0

-- the last epoch in which tile k was claimed
abbrev pub claim_of : List ℕ → ℕ → ℕ
claim_of words k = slice_index words (claim_word k)

-- the bits of memory word a
abbrev pub word_of : List ℕ → ℕ → ℕ
word_of words a = slice_index words (memory_word a)

abbrev pub memory_of : List ℕ → List ℕ
memory_of words = drop 65537 words

pub record State : Type 0 where
  pub words : List ℕ
  pub main : View
  pub seats : List View

-- all views, main's first
abbrev pub views_of : State → List View
views_of s = s.main ∷ s.seats

-- the view of the worker w
abbrev pub view_of : ℕ → List View → View
view_of w [] = spent_view
view_of w (v ∷ vs) = if v.number == w then v else view_of w vs

-- the views, with u in the place of the worker w's
abbrev pub with_view : ℕ → View → List View → List View
with_view w u [] = []
with_view w u (v ∷ vs) = if v.number == w then u ∷ vs else v ∷ with_view w u vs

-- main lent a seat to the worker w, and has not taken it back
abbrev pub IsOut : ℕ → State → Type 0
IsOut w s = has w s.main.out ≡ true

-- the address is a memory word
abbrev pub IsWord : ℕ → State → Type 0
IsWord a s = memory_word a < length s.words

-- the state at the start: no flag, no claim, epoch 0, no plan, and these bits in the memory
abbrev pub first_state : List ℕ → State
first_state memory = record { words = replicate 65537 0 ++ memory; main = first_view memory; seats = [] }

-- the bits of signed words
abbrev pub bits_of : List ℤ → List ℕ
bits_of values = map (cast_unsigned w64) values

abbrev pub start_of : List ℤ → State
start_of values = first_state (bits_of values)
