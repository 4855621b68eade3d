-- What contracts see of the shared words and their seats.
use Rattle.std.specs.Prelude.{◌≡◌, ℕ, ◌+◌, ◌-◌, ◌≤◌, List, [], ◌∷◌, length}
use Rattle.atomic_table.specs.Seated.{TableId}
use Rattle.atomic_table.specs.Table.{Me}
use Rattle.core_steps.specs.declared.view.View.{View}
use Rattle.core_steps.specs.Plans.{IsInside}
use Rattle.core_steps.specs.Invariant.{IsSound}

-- a seat: the table that it belongs to, and what it knows
pub record SeatState : Type 0 where
  pub table : TableId
  pub view : View

-- how many words of a table are memory words: all but the flag and 65,536 claims
abbrev pub memory_words : TableId → ℕ
memory_words table = table.words - 65537

-- the words and all views, main's first, are a state of the core that meets the core invariant
abbrev pub IsCoreState : List ℕ → List View → Type 0
IsCoreState words [] = ⊥
IsCoreState words (m ∷ ms) = IsSound (record { words = words; main = m; seats = ms })

-- what every seat keeps: its base has the table's memory words, and its plan is within them; it has no slot of the
-- table, and the epoch that it writes is its view's
pub record KeepsSeat (table : TableId) (me : Me (Unit {0}) View) (epoch : ℕ) : Type 0 where
  pub words : table.words ≡ 65537 + length me.0.base
  pub no_slot : me.1 ≡ []
  pub epoch_is : epoch ≡ me.0.epoch
  pub few : length me.0.plan.tiles ≤ 65536
  pub inside : IsInside (length me.0.base) me.0.plan
