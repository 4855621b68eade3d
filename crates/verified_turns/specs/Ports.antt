-- What a worker's port expects, what it may touch, and what it is made over.
use Rattle.std.specs.Prelude.{◌≡◌, ℕ, pos, ◌<◌, Bool, true, false, if◌then◌else◌, [], length, Option, Some, None}
use Rattle.nest_lang.specs.Lookups.{Expectation, lies_in}
use Rattle.nest_lang.specs.Lookups as lookups
use Rattle.domain.specs.Tables.{Block, Access, access_at}
use Rattle.core_steps.specs.declared.view.View.{View}
use Rattle.core_steps.specs.Views.{may_load, may_store}
use Rattle.shared_words.specs.Seats.{SeatState}
use Rattle.follow.specs.Intervals.{Intervals}

-- the interval of an access, where it is one and stores, or where it is one and loads
abbrev pub of_kind : Bool → Option Access → Option lookups.Interval → Option lookups.Interval
of_kind stores None interval = None
of_kind true (Some access) interval = if access.stores then interval else None
of_kind false (Some access) interval = if access.stores then None else interval

-- the accesses of a block are verified against these intervals, each as the load or the store that it is; nothing is
-- expected of a load under the number of a store, nor of a store under that of a load
abbrev pub own_expectation : Block → Intervals → Expectation
own_expectation b intervals = record {
  verifies = true;
  loads = λ number. of_kind false (access_at b number) (intervals number);
  stores = λ number. of_kind true (access_at b number) (intervals number);
}

-- a seat with this view may load each word that is expected of a load, and store to each that is expected of a store
pub record MayTouch (b : Block) (intervals : Intervals) (v : View) : Type 0 where
  pub loads : (number a : ℕ) → lies_in ((own_expectation b intervals).loads number) (pos a) ≡ true → a < length v.base → may_load v a ≡ true
  pub stores : (number a : ℕ) → lies_in ((own_expectation b intervals).stores number) (pos a) ≡ true → a < length v.base → may_store v a ≡ true

-- a seat apart from its own values: its table, and of its view the number, the epoch, the base, the plan, the tiles that
-- it holds and knows, and whether it failed or saw the flag
abbrev pub unwritten : SeatState → SeatState
unwritten s = record s { view = record s.view { own = [] } }
