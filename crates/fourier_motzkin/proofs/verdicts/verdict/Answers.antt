use Rattle.std.proofs.Common.{sym, ◌∙◌}
use Rattle.fourier_motzkin.proofs.PointLaws.{verdict-unmet}
use Rattle.fourier_motzkin.proofs.EliminationRunLaws.{verdict-bounds}
use Rattle.fourier_motzkin.proofs.verdicts.verdict.Goals as goal

pub returns-clause-value : goal.returns-clause-value
returns-clause-value c = verdict-bounds c.args.variables c.args.rows.now c.in_ok-bounds.field-0 c.verdict-2.result c.in_ok-bounds.ensures c.verdict-2.ensures

pub returns-clause-empty : goal.returns-clause-empty
returns-clause-empty c = λ e point met.
    verdict-unmet c.args.variables c.args.rows.now point c.requires.over (sym (returns-clause-value c) ∙ e) met
