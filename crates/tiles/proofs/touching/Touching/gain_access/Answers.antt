use Rattle.std.proofs.Common.{◌≡◌, sym, ap, ◌∙◌, subst, Bool, true, false, []}
use Rattle.std.specs.Prelude.{OnOk, if◌then◌else◌}
use Rattle.domain.specs.Footprints.{Gains}
use Rattle.domain.specs.Tables.{Access}
use Rattle.tiles.specs.Strips.{IsWordOf, access_strips}
use Rattle.tiles.proofs.touching.Touching.gain_access.Goals as goal

pub returns-in_ok-push_stripes-clause-writes : goal.returns-in_ok-push_stripes-clause-writes
returns-in_ok-push_stripes-clause-writes g c =
    let stores : c.args.access.now.stores ≡ true = sym (ap (λ (a : Access). a.stores) c.access.view_is) ∙ c.if-access.true in
    subst (λ (b : Bool). OnOk c.push_words.result (Gains (IsWordOf c.args.words (if b then access_strips c.args.run.now c.args.access.now else [])) c.args.self.now.writes.items c.push_words.new.list.items)) (sym stores) c.push_words.ensures

pub returns-else-access-clause-reads : goal.returns-else-access-clause-reads
returns-else-access-clause-reads g c =
    let stores : c.args.access.now.stores ≡ false = sym (ap (λ (a : Access). a.stores) c.access.view_is) ∙ c.if-access.false in
    subst (λ (b : Bool). OnOk c.push_words-else-access.result (Gains (IsWordOf c.args.words (if b then [] else access_strips c.args.run.now c.args.access.now)) c.args.self.now.reads.items c.push_words-else-access.new.list.items)) (sym stores) c.push_words-else-access.ensures
