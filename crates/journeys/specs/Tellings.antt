-- Tellings: the lines that tell what happened.
use Rattle.std.specs.Prelude.{◌-◌, ℕ, suc, pos, List, [], ◌∷◌}
use Rattle.nest_lang.specs.declared.tree.Loop.{Loop}
use Rattle.nest_grammar.specs.declared.version.Version.{Version}
use Rattle.nest_grammar.specs.declared.version.Version.TheVariants.{One, Two}
use Rattle.domain.specs.Instances.{Instance}
use Rattle.domain.specs.declared.held.HeldWhy.{HeldWhy}
use Rattle.dependence.specs.Sides.{is_above}
use Rattle.follow.specs.declared.how.How.{How}
use Rattle.profile.specs.declared.unfit.Unfit.{Unfit}
use Rattle.profile.specs.declared.unfit.UnfitWhy.{UnfitWhy}
use Rattle.profile.specs.declared.unfit.UnfitWhy.TheVariants as why
use Rattle.legality.specs.declared.refusals.Refusal.{Refusal}
use Rattle.report.specs.declared.line.Line.{Line}
use Rattle.report.specs.declared.line.Line.TheVariants as said
use Rattle.report.specs.declared.line.LineUnfit.{LineUnfit}
use Rattle.report.specs.declared.line.LineUnfit.TheVariants as reason
use Rattle.report.specs.Places.{block_of, at_of, spot_of}
use Rattle.journeys.specs.Settings.{Setting, Moment, chunk_turns}

-- these turns were profiled, or run in original order: the number of the first, and how many were done whole
abbrev pub profile_line : Moment → ℕ → Line
profile_line m turns = said.Profile m.outer.next (pos turns)

abbrev pub plain_line : Moment → ℕ → Line
plain_line m turns = said.Plain m.outer.next (pos turns)

-- a datum has no form
abbrev pub reason_of : {D : ℕ} → List Loop → UnfitWhy D → LineUnfit
reason_of loops (why.Line at line seen) = reason.Line (at_of loops at) line seen
reason_of loops (why.Large number) = reason.Large number

abbrev pub unfit_line : {D : ℕ} → List Loop → Unfit D → Line
unfit_line loops unfit = said.Unfit (block_of loops unfit.block) unfit.what (reason_of loops unfit.why)

-- the candidate of that number was refused
abbrev pub illegal_line : List Loop → ℕ → Refusal → Line
illegal_line loops number r = said.Illegal number (spot_of loops r.first) (spot_of loops r.second) r.case r.row (is_above r.side) r.verdict

-- the candidates from that number on were refused
abbrev pub illegal_lines : List Loop → ℕ → List Refusal → List Line
illegal_lines loops number [] = []
illegal_lines loops number (r ∷ rs) = illegal_line loops number r ∷ illegal_lines loops (suc number) rs

-- the next chunk was held at an instance
abbrev pub held_line : Setting → Moment → Instance → HeldWhy → Line
held_line g m at why = said.Held m.outer.next (pos (chunk_turns g m)) (at_of g.loops at) why

-- it was rolled back, since it deviates so at an instance
abbrev pub rollback_line : Setting → Moment → Instance → How → Line
rollback_line g m at how = said.Rollback m.outer.next (pos (chunk_turns g m)) (at_of g.loops at) how

-- it was committed by the candidate of that number, and led to another moment
abbrev pub commit_line : Setting → Moment → Moment → ℕ → ℕ → ℕ → ℕ → Line
commit_line g m after number instances phases tiles = said.Commit m.outer.next (pos (chunk_turns g m)) number instances phases tiles (m.left - after.left)

-- in version 2 the number of a nest, from 1, stands before its lines
abbrev pub heading : Version → ℕ → List Line
heading One number = []
heading Two number = said.Nest number ∷ []
