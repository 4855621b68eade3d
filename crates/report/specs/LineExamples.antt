-- Examples of lines, each written by hand: one of each kind of line, and one of each reason and each difference.
use Rattle.std.specs.Prelude.{◌≡◌, ◌^◌, ◌-◌, ℕ, ℤ, pos, negsuc, List, [], ◌∷◌, codes, true, false}
use Rattle.nest_lang.specs.declared.tree.BlockRef.{BlockRef}
use Rattle.nest_lang.specs.declared.tree.Part.{Part}
use Rattle.nest_lang.specs.declared.tree.Part.TheVariants.{Head, Pre, Post}
use Rattle.nest_lang.specs.declared.tree.Trap.TheVariants as trap
use Rattle.domain.specs.declared.prediction.What.TheVariants as what
use Rattle.domain.specs.declared.held.HeldWhy.TheVariants as held
use Rattle.follow.specs.declared.how.How.TheVariants as how
use Rattle.fourier_motzkin.specs.declared.verdicts.Ruling.TheVariants.{Maybe, Wide}
use Rattle.report.specs.declared.line.At.{At}
use Rattle.report.specs.declared.line.Spot.{Spot}
use Rattle.report.specs.declared.line.LineUnfit.TheVariants as reason
use Rattle.report.specs.declared.line.Line.TheVariants as said
use Rattle.report.specs.declared.line.ListingLine.TheVariants as listing
use Rattle.report.specs.Words.{held_phrase, how_phrase}
use Rattle.report.specs.Lines.{line_text, listing_text}

abbrev pub block : Part → ℕ → BlockRef
block part level = record { part = part; level = level }

abbrev pub instance : Part → ℕ → List ℤ → At
instance part level counters = record { block = block part level; counters = record { items = counters } }

abbrev pub access : Part → ℕ → ℕ → Spot
access part level number = record { block = block part level; access = number }

-- a file with one scalar, named s
abbrev pub names : List (List ℕ)
names = codes "s" ∷ []

-- lines of reports
pub record ReportLineExamples : Type 0 where
  pub profile : line_text names (said.Profile (pos 0) (pos 4)) ≡ codes "profile 0 turns 4\n"
  pub unfit : line_text names (said.Unfit (block Pre 1) (what.Address 1) (reason.Line (instance Pre 1 (pos 2 ∷ [])) (pos 2) (pos 16))) ≡ codes "unfit pre1 address 1 at (2) line 2 seen 16\n"
  pub large : line_text names (said.Unfit (block Pre 1) (what.Scalar 0) (reason.Large (pos 1099511627777))) ≡ codes "unfit pre1 scalar s large 1099511627777\n"
  pub trip_unfit : line_text names (said.Unfit (block Head 2) what.Trip (reason.Line (instance Head 2 (pos 2 ∷ pos 0 ∷ [])) (pos 2) (pos 4))) ≡ codes "unfit head2 trip at (2,0) line 2 seen 4\n"
  pub illegal : line_text names (said.Illegal 1 (access Pre 2 2) (access Pre 2 1) 1 2 false Maybe) ≡ codes "illegal 1 pair pre2.2 pre2.1 case 1 row 2 below maybe\n"
  pub above_and_wide : line_text names (said.Illegal 16 (access Post 1 64) (access Head 2 1) 6 1 true Wide) ≡ codes "illegal 16 pair post1.64 head2.1 case 6 row 1 above wide\n"
  pub held : line_text names (said.Held (pos 4) (pos 16) (instance Head 2 (pos 7 ∷ pos 0 ∷ [])) (held.Negative (negsuc 0))) ≡ codes "held 4 turns 16 at head2 (7,0) trip -1\n"
  pub commit : line_text names (said.Commit (pos 4) (pos 32) 1 65536 256 1280 65536) ≡ codes "commit 4 turns 32 candidate 1 instances 65536 phases 256 tiles 1280 steps 65536\n"
  pub rollback : line_text names (said.Rollback (pos 4) (pos 1) (instance Pre 1 (pos 5 ∷ [])) (how.Scalar 0 (pos (2 ^ 63)) (pos (2 ^ 63 - 1)))) ≡ codes "rollback 4 turns 1 at pre1 (5) scalar s expected 9223372036854775808 seen 9223372036854775807\n"
  pub plain : line_text names (said.Plain (pos 4) (pos 0)) ≡ codes "plain 4 turns 0\n"
  pub nest : line_text names (said.Nest 8) ≡ codes "nest 8\n"

-- why a chunk is held
pub record HeldExamples : Type 0 where
  pub many : held_phrase names held.Many ≡ codes "many"
  pub store : held_phrase names (held.Outside 1 (pos 60)) ≡ codes "store 1 address 60"
  pub scalar : held_phrase names (held.Scalar 0 (pos (2 ^ 63))) ≡ codes "scalar s 9223372036854775808"
  pub lower : held_phrase names (held.Lower (pos (2 ^ 63))) ≡ codes "lower 9223372036854775808"
  pub last : held_phrase names (held.Last (negsuc 8)) ≡ codes "last -9"

-- how a run differs
pub record HowExamples : Type 0 where
  pub address : how_phrase names (how.Address 2 (pos 41) (pos 90)) ≡ codes "address 2 expected 41 seen 90"
  pub unseen : how_phrase names (how.Unseen 2 (pos 1000)) ≡ codes "unseen 2 address 1000"
  pub lower : how_phrase names (how.Lower (pos 3) (negsuc 2)) ≡ codes "lower expected 3 seen -3"
  pub trip : how_phrase names (how.Trip (pos 5) 4) ≡ codes "trip expected 5 seen 4"
  pub condition : how_phrase names (how.Condition true false) ≡ codes "condition expected 1 seen 0"
  pub ended : how_phrase names how.Ended ≡ codes "ended"
  pub overflow : how_phrase names (how.Trap trap.Overflow) ≡ codes "trap overflow"
  pub zero : how_phrase names (how.Trap trap.ZeroDivisor) ≡ codes "trap zero"
  pub outside : how_phrase names (how.Trap (trap.Outside (pos 40))) ≡ codes "trap outside 40"
  pub limit : how_phrase names how.Limit ≡ codes "limit"

-- lines of dependence listings
pub record ListingLineExamples : Type 0 where
  pub as_in_a_report : listing_text names (listing.Report (said.Nest 1)) ≡ codes "nest 1\n"
  pub nothing : listing_text names listing.NothingToFit ≡ codes "nothing to fit\n"
  pub form : listing_text names (listing.Form (block Pre 2) (what.Address 2) (record { items = pos 20 ∷ pos 1 ∷ [] }) (pos 20) (pos 0) (pos 0)) ≡ codes "form pre2 address 2 20 1 20\n"
  pub tube : listing_text names (listing.Form (block Pre 1) (what.Address 1) (record { items = pos 13 ∷ [] }) (pos 100) (negsuc 7) (pos 0)) ≡ codes "form pre1 address 1 13 100 tube -8 0\n"
  pub trip : listing_text names (listing.Form (block Head 2) what.Trip (record { items = pos 0 ∷ pos 0 ∷ [] }) (pos 16) (pos 0) (pos 0)) ≡ codes "form head2 trip 0 0 16\n"
  pub depends : listing_text names (listing.Depends (access Pre 1 1) (access Post 1 2) 3 Maybe) ≡ codes "depends pre1.1 post1.2 case 3 maybe\n"
  pub legal : listing_text names (listing.Legal 2) ≡ codes "legal 2\n"

-- of lines and what stands in them
pub record LineExamples : Type 0 where
  pub reports : ReportLineExamples
  pub held : HeldExamples
  pub differing : HowExamples
  pub listings : ListingLineExamples
