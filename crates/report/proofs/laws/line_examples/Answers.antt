use Rattle.std.proofs.Common.{refl}
use Rattle.std.specs.Fmt.{digits}
use Rattle.report.specs.Words.{part_word, block_word, access_word, counters_word, instance_phrase, datum_phrase, unfit_phrase, held_phrase, how_phrase, trap_phrase, condition_word, verdict_word}
use Rattle.report.specs.Lines.{line_phrase, listing_phrase, tube_words}
use Rattle.report.proofs.laws.line_examples.Goals as goal

pub returns : goal.returns
unfolding digits part_word block_word access_word counters_word instance_phrase datum_phrase unfit_phrase held_phrase how_phrase trap_phrase condition_word verdict_word line_phrase listing_phrase tube_words
returns c = record {
  reports = record { profile = refl; unfit = refl; large = refl; trip_unfit = refl; illegal = refl; above_and_wide = refl; held = refl; commit = refl; rollback = refl; plain = refl; nest = refl };
  held = record { many = refl; store = refl; scalar = refl; lower = refl; last = refl };
  differing = record { address = refl; unseen = refl; lower = refl; trip = refl; condition = refl; ended = refl; overflow = refl; zero = refl; outside = refl; limit = refl };
  listings = record { as_in_a_report = refl; nothing = refl; form = refl; tube = refl; trip = refl; depends = refl; legal = refl };
}
