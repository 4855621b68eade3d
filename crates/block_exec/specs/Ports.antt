-- Ports: what a store answers and leaves.
use Rattle.std.specs.Prelude.{ℤ, List, slice_set, unsigned_abs, Result, Ok, Err}
use Rattle.nest_lang.specs.declared.observe.Stop.{Stop}

-- the answer of a store: that of its look-up, without the word that it replaces
abbrev pub without_word : Result ℤ Stop → Result (Unit {0}) Stop
without_word (Ok word) = Ok tt
without_word (Err stop) = Err stop

-- the memory after a store: with that word set, and as it was where the store was refused
abbrev pub memory_after : Result (Unit {0}) Stop → List ℤ → ℤ → ℤ → List ℤ
memory_after (Ok done) memory address value = slice_set memory (unsigned_abs address) value
memory_after (Err stop) memory address value = memory
