use Rattle.std.proofs.Common.{◌≡◌, length}
use Rattle.nest_tokens.specs.declared.token.Mark.TheVariants.{Candidate}
use Rattle.nest_grammar.specs.Readings.{at_mark, many, always}
use Rattle.nest_grammar.specs.Scripts.{candidate, candidates}
use Rattle.nest_text.proofs.reader.Reader.candidates.Given as goal

abbrev pub invariant-candidates : goal.invariant-candidates
invariant-candidates l = many (at_mark Candidate) (always (candidate l.depth)) l.candidates l.self ≡ candidates l.fn.depth l.fn.self

abbrev pub decreases-candidates : goal.decreases-candidates
decreases-candidates l = length l.self.left
