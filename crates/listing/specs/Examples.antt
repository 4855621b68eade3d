-- Examples: lines of listings, written by hand and computed from the definitions.
use Rattle.std.specs.Prelude.{◌≡◌, pos, List, [], ◌∷◌, Some, None}
use Rattle.nest_lang.specs.declared.command.Command.{Command}
use Rattle.nest_lang.specs.declared.command.Command.TheVariants.{Seq, Tile}
use Rattle.nest_lang.specs.declared.tree.Part.TheVariants.{Head, Pre}
use Rattle.nest_lang.specs.Blocks.{block_ref}
use Rattle.nest_lang.specs.Stores.{Store}
use Rattle.nest_grammar.specs.declared.file.NestUnit.{NestUnit}
use Rattle.nest_grammar.specs.declared.version.Version.TheVariants.{One, Two}
use Rattle.line_fit.specs.Lines.{Tube}
use Rattle.domain.specs.declared.prediction.What.TheVariants.{Address, Trip}
use Rattle.transform.specs.Standards.{standard_scripts}
use Rattle.legality.specs.declared.refusals.Judged.TheVariants.{Legal}
use Rattle.profile.specs.declared.first_turns.FirstProfile.TheVariants.{Missing, Short}
use Rattle.report.specs.declared.journey.Options.{Options}
use Rattle.report.specs.declared.line.Line.TheVariants as said
use Rattle.report.specs.declared.line.ListingLine.TheVariants as listing
use Rattle.listing.specs.Lists.{candidates, form_if_any, judged_line}
use Rattle.listing.specs.Listings.{AreNestsLines, AreProfileLines, heading}

-- the address 20 i + j + 1, give or take 2
abbrev pub wide_line : Tube
wide_line = record { line = record { coef = pos 20 ∷ pos 1 ∷ []; cst = pos 1 }; low = pos 0; high = pos 2 }

-- a script of two commands
abbrev pub script : List Command
script = Seq 1 ∷ Tile 2 (pos 8) ∷ []

pub record ListingExamples : Type 0 where
  -- a datum that was never seen has no line, and one with a form has its numbers
  pub no_form : form_if_any (block_ref Head 2) Trip None ≡ []
  pub form : form_if_any (block_ref Pre 2) (Address 1) (Some wide_line) ≡ listing.Form (block_ref Pre 2) (Address 1) (record { items = pos 20 ∷ pos 1 ∷ [] }) (pos 1) (pos 0) (pos 2) ∷ []
  -- a legal candidate is named by its number
  pub legal : judged_line [] 2 Legal ≡ listing.Legal 2
  -- the candidates of a nest are its own, or the standard ones
  pub own : candidates 2 (script ∷ []) ≡ script ∷ []
  pub standard : candidates 2 [] ≡ standard_scripts 2
  -- in version 2 the number of a nest stands before its lines
  pub version_1 : heading One 3 ≡ []
  pub version_2 : heading Two 3 ≡ listing.Report (said.Nest 3) ∷ []
  -- there is nothing to fit where there is no profile, or it did not go through
  pub missing : (options : Options) (unit : NestUnit) → AreProfileLines options 0 unit Missing (listing.NothingToFit ∷ [])
  pub short : (options : Options) (unit : NestUnit) → AreProfileLines options 0 unit (Short (pos 2)) (listing.Report (said.Profile (pos 0) (pos 2)) ∷ listing.NothingToFit ∷ [])
  -- no nests have no lines
  pub no_nests : (options : Options) (s : Store) → AreNestsLines options Two 0 [] 1 s 5 []
