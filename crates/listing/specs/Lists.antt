-- Lists of lines: the forms of a table, what depends on what, and what is answered of each candidate.
use Rattle.std.specs.Prelude.{ℕ, ◌+◌, ℤ, List, [], ◌∷◌, ◌++◌, length, map, slice_index_or, Option, Some, None}
use Rattle.std.specs.List.{flat_map, range_with_len}
use Rattle.nest_lang.specs.declared.command.Command.{Command}
use Rattle.nest_lang.specs.declared.tree.BlockRef.{BlockRef}
use Rattle.nest_lang.specs.declared.tree.Loop.{Loop}
use Rattle.nest_lang.specs.Blocks.{present_blocks}
use Rattle.line_fit.specs.Lines.{Tube}
use Rattle.domain.specs.declared.prediction.What.{What}
use Rattle.domain.specs.Tables.{Table, block_at}
use Rattle.profile.specs.Data.{data_of, tube_in}
use Rattle.dependence.specs.Sides.{is_above}
use Rattle.transform.specs.Schedules.{Schedule}
use Rattle.transform.specs.Scripts.{schedule_of}
use Rattle.transform.specs.Standards.{standard_scripts}
use Rattle.legality.specs.declared.listing.Dependence.{Dependence}
use Rattle.legality.specs.declared.refusals.Judged.{Judged}
use Rattle.legality.specs.declared.refusals.Judged.TheVariants.{Legal, Refused}
use Rattle.legality.specs.declared.refusals.Refusal.{Refusal}
use Rattle.legality.specs.Dependences.{dependences}
use Rattle.legality.specs.Judgements.{judged}
use Rattle.report.specs.declared.line.Line.{Line}
use Rattle.report.specs.declared.line.Line.TheVariants as said
use Rattle.report.specs.declared.line.ListingLine.{ListingLine}
use Rattle.report.specs.declared.line.ListingLine.TheVariants as listing
use Rattle.report.specs.Places.{block_of, spot_of}

-- ---- forms

-- the line of a form, with the tube about it
abbrev pub form_line : BlockRef → What → Tube → ListingLine
form_line block what tube = listing.Form block what (record { items = tube.line.coef }) tube.line.cst tube.low tube.high

abbrev pub form_if_any : BlockRef → What → Option Tube → List ListingLine
form_if_any block what None = []
form_if_any block what (Some tube) = form_line block what tube ∷ []

-- the forms of some data of the block of a rank, in their order
abbrev pub forms_of : Table → ℕ → BlockRef → List What → List ListingLine
forms_of t rank block data_list = flat_map (λ what. form_if_any block what (tube_in t (block_at t rank) what)) data_list

-- the forms of a block, by its rank
abbrev pub block_forms : ℕ → List Loop → Table → ℕ → List ListingLine
block_forms scalars loops t rank = forms_of t rank (block_of loops rank) (data_of scalars loops (block_of loops rank))

-- the forms of a table: blocks in the order of the text
abbrev pub forms : ℕ → List Loop → Table → List ListingLine
forms scalars loops t = flat_map (block_forms scalars loops t) (range_with_len 0 (length (present_blocks loops)))

-- ---- what depends on what

-- the line of a system that may be met
abbrev pub depends_line : List Loop → Dependence → ListingLine
depends_line loops d = listing.Depends (spot_of loops d.first) (spot_of loops d.second) d.case d.verdict

-- ---- candidates

-- the line of a candidate that is refused
abbrev pub illegal_line : List Loop → ℕ → Refusal → Line
illegal_line loops number r = said.Illegal number (spot_of loops r.first) (spot_of loops r.second) r.case r.row (is_above r.side) r.verdict

-- the line of what is answered of the candidate of a number
abbrev pub judged_line : List Loop → ℕ → Judged → ListingLine
judged_line loops number Legal = listing.Legal number
judged_line loops number (Refused r) = listing.Report (illegal_line loops number r)

abbrev pub judged_if_any : List Loop → Table → ℤ → ℕ → Option Schedule → List ListingLine
judged_if_any loops t L number None = []
judged_if_any loops t L number (Some s) = judged_line loops number (judged t s L) ∷ []

-- what is answered of the script at a place; candidates are numbered from 1
abbrev pub judgement_at : List Loop → Table → ℤ → List (List Command) → ℕ → List ListingLine
judgement_at loops t L scripts place = judged_if_any loops t L (place + 1) (schedule_of (length loops) (slice_index_or scripts place []))

-- what is answered of each of some scripts, for chunks of at most L turns
abbrev pub judgements_of : List Loop → Table → ℤ → List (List Command) → List ListingLine
judgements_of loops t L scripts = flat_map (judgement_at loops t L scripts) (range_with_len 0 (length scripts))

-- the candidates of a nest: its own scripts, or the standard ones where it has none
abbrev pub candidates : ℕ → List (List Command) → List (List Command)
candidates depth [] = standard_scripts depth
candidates depth (script ∷ scripts) = script ∷ scripts

abbrev pub judgements : List Loop → Table → ℤ → List (List Command) → List ListingLine
judgements loops t L scripts = judgements_of loops t L (candidates (length loops) scripts)

-- ---- the whole

-- what a table gives: its forms, the systems that may be met, and what is answered of each candidate
abbrev pub table_lines : ℕ → List Loop → ℤ → List (List Command) → Table → List ListingLine
table_lines scalars loops L scripts t = forms scalars loops t ++ (map (depends_line loops) (dependences t L) ++ judgements loops t L scripts)
