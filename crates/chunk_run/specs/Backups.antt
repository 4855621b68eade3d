-- Words that are kept, and what storing them back gives.
use Rattle.std.specs.Prelude.{◌≡◌, ℕ, ℤ, ◌<◌, false, List, [], length, map, pos, slice_index_or}
use Rattle.std.specs.List.{All, Contains}
use Rattle.core_steps.specs.declared.view.View.{View}
use Rattle.core_steps.specs.Numbers.{has}
use Rattle.chunk_run.specs.declared.keep.Kept.{Kept}

-- the word at an address
abbrev pub word_of : List ℤ → ℕ → ℤ
word_of memory a = slice_index_or memory a (pos 0)

-- the words that a memory has at these addresses
abbrev pub words_at : List ℤ → List ℕ → List Kept
words_at memory addresses = map (λ a. record { address = a; value = word_of memory a }) addresses

abbrev pub addresses_kept : List Kept → List ℕ
addresses_kept backup = map (λ word. word.address) backup

-- an address that stands twice has one value
abbrev pub HasOneValueEach : List Kept → Type 0
HasOneValueEach backup = (u v : Kept) → Contains backup u → Contains backup v → u.address ≡ v.address → u.value ≡ v.value

-- the new memory has each word of the backup, and every other word of the old one
pub record IsRestored (backup : List Kept) (old new : List ℤ) : Type 0 where
  pub length : Rattle.std.specs.Prelude.length new ≡ Rattle.std.specs.Prelude.length old
  pub kept : All (λ word. word_of new word.address ≡ word.value) backup
  pub others : (a : ℕ) → has a (addresses_kept backup) ≡ false → word_of new a ≡ word_of old a

-- two memories of one length have the same words at all other addresses
pub record DiffersOnlyAt (addresses : List ℕ) (one other : List ℤ) : Type 0 where
  pub length : Rattle.std.specs.Prelude.length one ≡ Rattle.std.specs.Prelude.length other
  pub others : (a : ℕ) → has a addresses ≡ false → word_of one a ≡ word_of other a

-- nothing of main's view changed but its base, and its latest store is of this epoch where there was one
pub record IsRestoredView (backup : List Kept) (v w : View) : Type 0 where
  pub rest : w ≡ record v { base = w.base; stored = w.stored }
  pub nothing : backup ≡ [] → w ≡ v
  pub stored : 0 < Rattle.std.specs.Prelude.length backup → w.stored ≡ v.epoch
