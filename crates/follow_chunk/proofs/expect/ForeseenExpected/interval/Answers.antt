use Rattle.std.proofs.Common.{◌≡◌, sym, ◌∙◌, ap, ℤ, List, Some, None}
use Rattle.std.specs.Prelude.{option_map}
use Rattle.std.specs.Option.{option_copied}
use Rattle.affine.specs.Forms.{Affine, value_at}
use Rattle.domain.specs.Tables.{Block, access_at}
use Rattle.domain.specs.Instances.{Instance, block_of}
use Rattle.follow_chunk.specs.Predicted.{interval_about}
use Rattle.follow_chunk.proofs.PredictingLaws.{interval-none, interval-some}
use Rattle.follow_chunk.proofs.expect.ForeseenExpected.interval.Goals as goal

pub returns-in-Some : goal.returns-in-Some
returns-in-Some g c =
    let self = c.args.self.now in
    let t = self.pred.now in
    let x = self.inst.now in
    let a = c.in-Some.form.now in
    let same = ap (λ (y : Instance). y.at) c.inst.view_is in
    let found : Some a ≡ access_at (block_of t x) c.args.access = sym (ap option_copied c.in-Some.is) ∙ c.access.ensures ∙ ap (λ (b : Block). access_at b c.args.access) self.block in
    c.interval_of.ensures
    ∙ ap (λ (at : List ℤ). interval_about (option_map (λ (form : Affine). value_at form at) a.line) (Some (a.low, a.high))) same
    ∙ interval-some t x c.args.access a found

pub returns-in-None : goal.returns-in-None
returns-in-None g c =
    let self = c.args.self.now in
    let t = self.pred.now in
    let x = self.inst.now in
    let found : None ≡ access_at (block_of t x) c.args.access = sym (ap option_copied c.in-None.is) ∙ c.access.ensures ∙ ap (λ (b : Block). access_at b c.args.access) self.block in
    interval-none t x c.args.access found
