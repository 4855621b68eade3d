-- Stores: what a nest reads and changes.
use Rattle.std.specs.Prelude.{ℕ, ℤ, pos, negsuc, List, slice_get, slice_set, Option, None}

-- the words of the memory, the scalars, and within a block its locals. Outside of a block there are none.
pub record Store : Type 0 where
  pub memory : List ℤ
  pub scalars : List ℤ
  pub locals : List ℤ

abbrev pub store_of : List ℤ → List ℤ → List ℤ → Store
store_of memory scalars locals = record { memory = memory; scalars = scalars; locals = locals }

-- the word at an address, where the address is one of the memory's
abbrev pub word_at : List ℤ → ℤ → Option ℤ
word_at memory (pos address) = slice_get memory address
word_at memory (negsuc below) = None

-- what one step changes: nothing, one local, one scalar or one word
pub data Effect : Type 0 where
  Nothing : Effect
  Local : (number : ℕ) (value : ℤ) → Effect
  Scalar : (number : ℕ) (value : ℤ) → Effect
  Word : (address : ℕ) (value : ℤ) → Effect

-- the store after that change
abbrev pub effect_on : Store → Effect → Store
effect_on s Nothing = s
effect_on s (Local number value) = record s { locals = slice_set s.locals number value }
effect_on s (Scalar number value) = record s { scalars = slice_set s.scalars number value }
effect_on s (Word address value) = record s { memory = slice_set s.memory address value }
