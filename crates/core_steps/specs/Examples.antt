-- Computed examples, on a memory of the words 5 and 6 and a plan of one tile that reads word 0 and writes word 1.
use Rattle.std.specs.Prelude.{◌≡◌, true, false, [], ◌∷◌, Some, None, refl, pos}
use Rattle.core_steps.specs.declared.plan.Plan.{Plan}
use Rattle.core_steps.specs.declared.view.View.{View}
use Rattle.core_steps.specs.declared.step.Step.TheVariants.{Split, Store}
use Rattle.core_steps.specs.Plans.{writes, touches}
use Rattle.core_steps.specs.Views.{stored_at, overlaid, value_at, may_load, may_store, first_view, posted_view, lending_view, lent_view, claiming_view, storing_view, joined_view}
use Rattle.core_steps.specs.States.{view_of}
use Rattle.core_steps.specs.Laws.{latest}

abbrev pub one_tile : Plan
one_tile = record { tiles = record { reads = 0 ∷ []; writes = 1 ∷ [] } ∷ [] }

-- main begins a phase and lends a seat to worker 1
abbrev pub main : View
main = lending_view (posted_view (first_view (5 ∷ 6 ∷ [])) (5 ∷ 6 ∷ []) one_tile) 1

-- the worker claims the tile, whose claim was of no epoch, and stores 9 at word 1
abbrev pub worker : View
worker = storing_view (claiming_view (lent_view main 1) 0 0) 1 9

pub the_epoch_rises : main.epoch ≡ 1
the_epoch_rises = refl

pub the_tile_is_touched : touches one_tile 0 0 ≡ true
the_tile_is_touched = refl

pub a_read_is_no_write : writes one_tile 0 0 ≡ false
a_read_is_no_write = refl

pub nothing_is_held_before_the_claim : may_load (lent_view main 1) 0 ≡ false
nothing_is_held_before_the_claim = refl

pub the_tile_is_held : worker.held ≡ 0 ∷ []
the_tile_is_held = refl

-- the second claim of a tile, whose claim word is at the epoch then, is known and not held
pub a_taken_tile_is_known : (claiming_view (lent_view main 2) 0 1).known ≡ 0 ∷ []
a_taken_tile_is_known = refl

pub a_taken_tile_is_not_held : (claiming_view (lent_view main 2) 0 1).held ≡ []
a_taken_tile_is_not_held = refl

pub the_read_has_the_base : value_at worker 0 ≡ 5
the_read_has_the_base = refl

pub the_write_has_the_own_value : value_at worker 1 ≡ 9
the_write_has_the_own_value = refl

pub a_read_may_be_loaded : may_load worker 0 ≡ true
a_read_may_be_loaded = refl

pub a_read_may_not_be_stored : may_store worker 0 ≡ false
a_read_may_not_be_stored = refl

-- main takes the worker's view over: nobody is out, and the words are the base with what was stored
pub nobody_is_out : (joined_view main worker).out ≡ []
nobody_is_out = refl

pub main_holds_the_tile : (joined_view main worker).held ≡ 0 ∷ []
main_holds_the_tile = refl

pub the_words_after : overlaid (joined_view main worker).own (5 ∷ 6 ∷ []) ≡ 5 ∷ 9 ∷ []
the_words_after = refl

pub the_newest_store_counts : stored_at 1 ((1, 8) ∷ (1, 7) ∷ []) ≡ Some 8
the_newest_store_counts = refl

pub the_view_of_a_worker : (view_of 1 (lent_view main 2 ∷ worker ∷ [])).own ≡ (1, 9) ∷ []
the_view_of_a_worker = refl

-- the latest store of worker 1 at word 1: a new seat has stored nothing, and another worker's stores don't count
pub a_store_is_latest : latest 1 1 (Split 1 ∷ Store 1 1 (pos 9) ∷ Store 2 1 (pos 4) ∷ []) None ≡ Some 9
a_store_is_latest = refl

pub a_new_seat_stored_nothing : latest 1 1 (Store 1 1 (pos 9) ∷ Split 1 ∷ []) None ≡ None
a_new_seat_stored_nothing = refl
