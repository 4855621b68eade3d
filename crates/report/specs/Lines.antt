-- Lines: what each line of a report, and of a dependence listing, says.
use Rattle.std.specs.Prelude.{◌≢◌, ℕ, ◌<◌, ℤ, pos, List, [], ◌∷◌, ◌++◌, codes, decimal, map, ◌&&◌, if◌then◌else◌, Option, Some, None, IfSome}
use Rattle.std.specs.Fmt.{signed_decimal}
use Rattle.std.specs.Ordering.{int_eq}
use Rattle.domain.specs.declared.prediction.What.{What}
use Rattle.domain.specs.declared.prediction.What.TheVariants as what
use Rattle.domain.specs.declared.held.HeldWhy.{HeldWhy}
use Rattle.domain.specs.declared.held.HeldWhy.TheVariants as held
use Rattle.follow.specs.declared.how.How.{How}
use Rattle.follow.specs.declared.how.How.TheVariants as how
use Rattle.fourier_motzkin.specs.declared.verdicts.Ruling.{Ruling}
use Rattle.fourier_motzkin.specs.declared.verdicts.Ruling.TheVariants.{Empty}
use Rattle.report.specs.declared.line.Line.{Line}
use Rattle.report.specs.declared.line.Line.TheVariants as said
use Rattle.report.specs.declared.line.ListingLine.{ListingLine}
use Rattle.report.specs.declared.line.ListingLine.TheVariants as listing
use Rattle.report.specs.Outcomes as outcomes
use Rattle.report.specs.Words.{phrase, block_word, access_word, instance_phrase, datum_phrase, unfit_phrase, held_phrase, how_phrase, side_word, verdict_word}

-- the turns of the outermost loop of which a line speaks: the first of them, and how many
abbrev pub turns_phrase : ℤ → ℤ → List ℕ
turns_phrase first turns = phrase (signed_decimal first ∷ codes "turns" ∷ signed_decimal turns ∷ [])

-- the counts of a committed chunk
abbrev pub counts_phrase : ℕ → ℕ → ℕ → ℕ → List ℕ
counts_phrase instances phases tiles steps = phrase (codes "instances" ∷ decimal instances ∷ codes "phases" ∷ decimal phases ∷ codes "tiles" ∷ decimal tiles ∷ codes "steps" ∷ decimal steps ∷ [])

-- what a line of a committed chunk says
abbrev pub commit_phrase : ℤ → ℤ → ℕ → List ℕ → List ℕ
commit_phrase first turns candidate counts = phrase (codes "commit" ∷ turns_phrase first turns ∷ codes "candidate" ∷ decimal candidate ∷ counts ∷ [])

-- what a line of a report says, of a file whose scalars have these names
unfoldable pub line_phrase : List (List ℕ) → Line → List ℕ
line_phrase names (said.Profile first turns) = phrase (codes "profile" ∷ turns_phrase first turns ∷ [])
line_phrase names (said.Unfit block datum why) = phrase (codes "unfit" ∷ block_word block ∷ datum_phrase names datum ∷ unfit_phrase why ∷ [])
line_phrase names (said.Illegal candidate first second which row above verdict) =
    phrase (codes "illegal" ∷ decimal candidate ∷ codes "pair" ∷ access_word first ∷ access_word second ∷ codes "case" ∷ decimal which ∷ codes "row" ∷ decimal row ∷ side_word above ∷ verdict_word verdict ∷ [])
line_phrase names (said.Held first turns at why) = phrase (codes "held" ∷ turns_phrase first turns ∷ codes "at" ∷ instance_phrase at ∷ held_phrase names why ∷ [])
line_phrase names (said.Commit first turns candidate instances phases tiles steps) = commit_phrase first turns candidate (counts_phrase instances phases tiles steps)
line_phrase names (said.Rollback first turns at difference) = phrase (codes "rollback" ∷ turns_phrase first turns ∷ codes "at" ∷ instance_phrase at ∷ how_phrase names difference ∷ [])
line_phrase names (said.Plain first turns) = phrase (codes "plain" ∷ turns_phrase first turns ∷ [])
line_phrase names (said.Nest number) = phrase (codes "nest" ∷ decimal number ∷ [])

-- a line of a report ends with one newline
abbrev pub line_text : List (List ℕ) → Line → List ℕ
line_text names line = outcomes.line (line_phrase names line)

-- a tube stands in a line where it is not (0, 0)
unfoldable pub tube_words : ℤ → ℤ → List (List ℕ)
tube_words low high = if int_eq low (pos 0) && int_eq high (pos 0) then [] else codes "tube" ∷ signed_decimal low ∷ signed_decimal high ∷ []

-- what a line of a dependence listing says
unfoldable pub listing_phrase : List (List ℕ) → ListingLine → List ℕ
listing_phrase names (listing.Report line) = line_phrase names line
listing_phrase names listing.NothingToFit = codes "nothing to fit"
listing_phrase names (listing.Form block datum coefficients constant low high) =
    phrase (codes "form" ∷ block_word block ∷ datum_phrase names datum ∷ (map signed_decimal (coefficients.items ++ constant ∷ []) ++ tube_words low high))
listing_phrase names (listing.Depends first second which verdict) = phrase (codes "depends" ∷ access_word first ∷ access_word second ∷ codes "case" ∷ decimal which ∷ verdict_word verdict ∷ [])
listing_phrase names (listing.Legal candidate) = phrase (codes "legal" ∷ decimal candidate ∷ [])

abbrev pub listing_text : List (List ℕ) → ListingLine → List ℕ
listing_text names line = outcomes.line (listing_phrase names line)

-- the scalar that a datum, a reason or a difference names
abbrev pub scalar_of_what : What → Option ℕ
scalar_of_what (what.Scalar number) = Some number
scalar_of_what datum = None

abbrev pub scalar_of_why : HeldWhy → Option ℕ
scalar_of_why (held.Scalar number value) = Some number
scalar_of_why why = None

abbrev pub scalar_of_how : How → Option ℕ
scalar_of_how (how.Scalar number expected seen) = Some number
scalar_of_how difference = None

-- the scalar that a line names, if it names one
abbrev pub scalar_of_line : Line → Option ℕ
scalar_of_line (said.Unfit block datum why) = scalar_of_what datum
scalar_of_line (said.Held first turns at why) = scalar_of_why why
scalar_of_line (said.Rollback first turns at difference) = scalar_of_how difference
scalar_of_line line = None

-- the verdict that a line names, if it names one
abbrev pub verdict_of_line : Line → Option Ruling
verdict_of_line (said.Illegal candidate first second which row above verdict) = Some verdict
verdict_of_line line = None

-- a line can be written of a file with so many scalars: it names one of them, and no empty verdict
pub record CanStand (scalars : ℕ) (line : Line) : Type 0 where
  pub named : IfSome (scalar_of_line line) (λ number. number < scalars)
  pub refuses : IfSome (verdict_of_line line) (λ verdict. verdict ≢ Empty)

-- so can a line of a listing
abbrev pub CanBeListed : ℕ → ListingLine → Type 0
CanBeListed scalars (listing.Report line) = CanStand scalars line
CanBeListed scalars (listing.Form block datum coefficients constant low high) = IfSome (scalar_of_what datum) (λ number. number < scalars)
CanBeListed scalars (listing.Depends first second which verdict) = verdict ≢ Empty
CanBeListed scalars line = Unit {0}
