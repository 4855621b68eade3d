-- What holds of listings.
use Rattle.std.specs.Prelude.{◌≡◌, List}
use Rattle.nest_grammar.specs.declared.file.File.{File}
use Rattle.nest_text.specs.Files.{IsOfText}
use Rattle.report.specs.declared.journey.Options.{Options}
use Rattle.report.specs.declared.line.ListingLine.{ListingLine}
use Rattle.listing.specs.Listings.{IsListing}

-- a file that some text reads as, and options, have exactly one dependence listing
abbrev pub OneListing : Type 0
OneListing = (options : Options) (file : File) → IsOfText file →
    (lines : List ListingLine) × IsListing options file lines × ((other : List ListingLine) → IsListing options file other → other ≡ lines)
