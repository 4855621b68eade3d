use Rattle.std.proofs.Common.{FitsSigned, codes, decimal, rules, to_z-of_z, w64}
use Rattle.std.proofs.lemmas.Result.{on_ok_weaker}
use Rattle.report.specs.Lines.{counts_phrase, turns_phrase}
use Rattle.report.proofs.PhraseLaws.{commit-text}
use Rattle.report.proofs.written.push_commit.Goals as goal

pub returns : goal.returns
returns c =
    let first : FitsSigned w64 c.args.first = search rules in
    let turns : FitsSigned w64 c.args.turns = search rules in
    let said = simp to_z-of_z at c.in_ok-push_turns.ensures in
    on_ok_weaker c.push_counts.result
    (λ so. commit-text (codes "commit") (turns_phrase c.args.first c.args.turns) (codes "candidate") (decimal c.args.candidate) (counts_phrase c.args.counts.instances c.args.counts.phases c.args.counts.tiles c.args.counts.steps) _ _ _ _ said c.in_ok-write.ensures.bytes so)
    c.push_counts.ensures
