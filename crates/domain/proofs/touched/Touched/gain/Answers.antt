use Rattle.std.proofs.Common.{sym, ap, ◌∙◌}
use Rattle.std.proofs.lemmas.Result.{on_ok_weaker}
use Rattle.domain.specs.Tables.{Access}
use Rattle.domain.proofs.TouchedLaws.{gains-same}
use Rattle.domain.proofs.touched.Touched.gain.Goals as goal

pub returns-then-access-clause-writes : goal.returns-then-access-clause-writes
returns-then-access-clause-writes g c =
    on_ok_weaker c.list.result (gains-same _ _ _ _ (λ a. (λ p. record { kind = sym (ap (λ (x : Access). x.stores) c.access.view_is) ∙ c.if-access.true; expected = p.0; word = p.1 }, λ w. (w.expected, w.word)))) c.list.ensures

pub returns-else-access-clause-reads : goal.returns-else-access-clause-reads
returns-else-access-clause-reads g c =
    on_ok_weaker c.list-else-access.result (gains-same _ _ _ _ (λ a. (λ p. record { kind = sym (ap (λ (x : Access). x.stores) c.access.view_is) ∙ c.if-access.false; expected = p.0; word = p.1 }, λ w. (w.expected, w.word)))) c.list-else-access.ensures
