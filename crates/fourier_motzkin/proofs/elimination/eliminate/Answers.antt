use Rattle.std.proofs.Common.{◌∙◌, sym, subst}
use Rattle.fourier_motzkin.proofs.EliminationLaws.{eliminated-is}
use Rattle.fourier_motzkin.specs.Elimination.{MeetsSaid}
use Rattle.fourier_motzkin.specs.declared.elimination.Eliminated.{Eliminated}
use Rattle.fourier_motzkin.proofs.PointLaws.{eliminated-met}
use Rattle.fourier_motzkin.proofs.elimination.eliminate.Goals as goal

pub returns-clause-value : goal.returns-clause-value
returns-clause-value c = c.judged.ensures ∙ eliminated-is c.args.variable c.args.rows.now c.add_without.new.next c.add_crossed.new.next c.in_ok-into_rows.field-0.items (rw c.new-next.ensures at c.in_ok-add_without.ensures) c.in_ok-add_crossed.ensures c.in_ok-into_rows.ensures

pub returns-clause-points : goal.returns-clause-points
returns-clause-points c = λ point met.
    subst (λ (said : Eliminated). MeetsSaid point said) (sym (returns-clause-value c)) (eliminated-met c.requires.over.0 c.args.variable c.args.rows.now point c.requires.over.2 met)
