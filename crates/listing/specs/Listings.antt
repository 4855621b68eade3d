-- Dependence listings: the lines of a file's nests, one after another.
use Rattle.std.specs.Prelude.{◌≡◌, ℕ, suc, ◌+◌, ℤ, pos, unsigned_abs, List, [], ◌∷◌, ◌++◌, length}
use Rattle.nest_lang.specs.declared.tree.Loop.{Loop}
use Rattle.nest_lang.specs.Stores.{Store}
use Rattle.nest_lang.specs.Traces.{Observation, Finish, Done, Halted, Limited, Cut, cut}
use Rattle.nest_lang.specs.Runs.{nest_trace}
use Rattle.nest_grammar.specs.declared.file.File.{File}
use Rattle.nest_grammar.specs.declared.file.NestUnit.{NestUnit}
use Rattle.nest_grammar.specs.declared.version.Version.{Version}
use Rattle.nest_grammar.specs.declared.version.Version.TheVariants.{One, Two}
use Rattle.nest_grammar.specs.Files.{first_store}
use Rattle.domain.specs.Tables.{Table}
use Rattle.profile.specs.declared.unfit.Unfit.{Unfit}
use Rattle.profile.specs.declared.unfit.UnfitWhy.{UnfitWhy}
use Rattle.profile.specs.declared.unfit.UnfitWhy.TheVariants as why
use Rattle.profile.specs.Fits.{IsFitOf, IsUnfitAt}
use Rattle.profile.specs.declared.first_turns.FirstProfile.{FirstProfile}
use Rattle.profile.specs.declared.first_turns.FirstProfile.TheVariants.{Missing, Short, Whole}
use Rattle.profile.specs.FirstProfiles.{IsFirstProfile}
use Rattle.report.specs.declared.journey.Options.{Options}
use Rattle.report.specs.declared.line.LineUnfit.{LineUnfit}
use Rattle.report.specs.declared.line.LineUnfit.TheVariants as reason
use Rattle.report.specs.declared.line.Line.TheVariants as said
use Rattle.report.specs.declared.line.ListingLine.{ListingLine}
use Rattle.report.specs.declared.line.ListingLine.TheVariants as listing
use Rattle.report.specs.Places.{block_of, at_of}
use Rattle.listing.specs.Lists.{table_lines}

-- the line of a first profile, of so many turns
abbrev pub profile_line : ℤ → ListingLine
profile_line turns = listing.Report (said.Profile (pos 0) turns)

-- the line of a datum that has no form
abbrev pub reason_of : {D : ℕ} → List Loop → UnfitWhy D → LineUnfit
reason_of loops (why.Line at line seen) = reason.Line (at_of loops at) line seen
reason_of loops (why.Large number) = reason.Large number

abbrev pub unfit_line : {D : ℕ} → List Loop → Unfit D → ListingLine
unfit_line loops unfit = listing.Report (said.Unfit (block_of loops unfit.block) unfit.what (reason_of loops unfit.why))

-- what the observations of a profile of a nest of D loops are fitted to: the first datum that has no form; or a table, with
-- its forms, the systems that may be met, and what is answered of each candidate
pub data AreFittedLines (D : ℕ) (options : Options) (scalars : ℕ) (unit : NestUnit) (observations : List Observation) : List ListingLine → Type 0 where
  unfit : (u : Unfit D) → IsUnfitAt D scalars unit.nest.loops observations u → AreFittedLines D options scalars unit observations (unfit_line unit.nest.loops u ∷ [])
  fitted : (t : Table) → IsFitOf D scalars unit.nest.loops observations t → AreFittedLines D options scalars unit observations (table_lines scalars unit.nest.loops options.chunk unit.scripts t)

-- the lines of a nest by its first profile: where there is none, that there is nothing to fit; else the line of the
-- profile, and then that there is nothing to fit where it did not go through, or what its observations are fitted to
abbrev pub AreProfileLines : Options → ℕ → NestUnit → FirstProfile → List ListingLine → Type 0
AreProfileLines options scalars unit Missing lines = lines ≡ listing.NothingToFit ∷ []
AreProfileLines options scalars unit (Short turns) lines = lines ≡ profile_line turns ∷ listing.NothingToFit ∷ []
AreProfileLines options scalars unit (Whole observations) lines =
    (rest : List ListingLine) × AreFittedLines (length unit.nest.loops) options scalars unit observations rest × (lines ≡ profile_line options.sample ∷ rest)

-- the lines of a nest from a store, with so many steps left
abbrev pub AreNestLines : Options → ℕ → NestUnit → Store → ℕ → List ListingLine → Type 0
AreNestLines options scalars unit s left lines =
    (profile : FirstProfile) × IsFirstProfile unit.nest.loops (unsigned_abs options.sample) s left profile × AreProfileLines options scalars unit profile lines

-- in version 2 the number of a nest, from 1, stands before its lines
abbrev pub heading : Version → ℕ → List ListingLine
heading One number = []
heading Two number = listing.Report (said.Nest number) ∷ []

-- the next nest's lines follow where the plain run of a nest is done
abbrev pub where_done : Finish → Type 0 → Type 0 → Type 0
where_done Done follows ends = follows
where_done (Halted halt) follows ends = ends
where_done Limited follows ends = ends

-- the plain run of a nest from a store, with so many steps left
abbrev pub run_of_nest : NestUnit → Store → ℕ → Cut
run_of_nest unit s left = cut (nest_trace (left + 1) unit.nest.loops s) s left 0

-- the lines of nests, the first of which has that number: each from the store and the steps that the plain run of those
-- before it left, up to the first whose run isn't done
abbrev pub AreNestsLines : Options → Version → ℕ → List NestUnit → ℕ → Store → ℕ → List ListingLine → Type 0
AreNestsLines options version scalars [] number s left lines = lines ≡ []
AreNestsLines options version scalars (unit ∷ units) number s left lines =
    (own : List ListingLine) × (rest : List ListingLine) × AreNestLines options scalars unit s left own
    × where_done (run_of_nest unit s left).ending (AreNestsLines options version scalars units (suc number) (run_of_nest unit s left).store (run_of_nest unit s left).left rest) (rest ≡ [])
    × (lines ≡ heading version number ++ (own ++ rest))

-- the dependence listing of a file with these options
abbrev pub IsListing : Options → File → List ListingLine → Type 0
IsListing options file lines = AreNestsLines options file.version (length file.scalars) file.units 1 (first_store file) options.steps lines
