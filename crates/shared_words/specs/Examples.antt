-- Computed examples: a table of two memory words, and what the seats of core_steps' example know.
use Rattle.std.specs.Prelude.{◌≡◌, [], ◌∷◌, refl, true, false}
use Rattle.atomic_table.specs.Seated.{TableId}
use Rattle.core_steps.specs.Views.{posted_view, settled_view, overlaid, joined_view, lent_view, seeing_view, value_at, knowing_view}
use Rattle.core_steps.specs.declared.view.View.{View}
use Rattle.core_steps.specs.Examples.{one_tile, main, worker}
use Rattle.shared_words.specs.Seats.{memory_words}

abbrev pub small_table : TableId
small_table = record { words = 65539; slots = 0; views_name = 0; atom = 0; block = 0; offset = 0; slot_names = [] }

pub two_memory_words : memory_words small_table ≡ 2
two_memory_words = refl

-- main joins the worker, which stored 9 at word 1, and settles: its base has the store
abbrev pub settled : View
settled = let m : View = joined_view main worker in settled_view m (overlaid m.own m.base)

pub the_base_has_the_store : settled.base ≡ 5 ∷ 9 ∷ []
the_base_has_the_store = refl

pub the_next_phase_is_the_second : (posted_view settled settled.base one_tile).epoch ≡ 2
the_next_phase_is_the_second = refl

-- a second worker, which lost the claim: it knows the tile, and still reads the base
abbrev pub loser : View
loser = knowing_view (lent_view main 2) 0

pub the_loser_reads_the_base : value_at loser 1 ≡ 6
the_loser_reads_the_base = refl

pub a_flag_of_an_older_epoch_is_not_seen : (seeing_view worker 0).seen ≡ false
a_flag_of_an_older_epoch_is_not_seen = refl

pub a_flag_of_this_epoch_is_seen : (seeing_view worker 1).seen ≡ true
a_flag_of_this_epoch_is_seen = refl
