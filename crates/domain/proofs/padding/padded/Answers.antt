use Rattle.std.proofs.Common.{◌≡◌, ◌∙◌, sym, subst, ◌<◌, false, set, FitsSigned, arith, rules}
use Rattle.std.specs.Int.{w64}
use Rattle.std.proofs.lemmas.Int.{to_z-of_z}
use Rattle.nest_lang.specs.declared.tree.Part.TheVariants.{Post}
use Rattle.domain.specs.Tables.{Block, is_post, depth}
use Rattle.domain.specs.Instances.{Instance, instance, IsInstance, padded}
use Rattle.domain.proofs.PlaceLaws.{padded-post-at, padded-plain-at, not-post}
use Rattle.domain.proofs.padding.padded.Goals as goal

pub returns-in-Post : goal.returns-in-Post
returns-in-Post g c =
    let y : Instance = instance c.inst.inside.block c.inst.inside.at in
    let d : Block = record { part = c.block.inside.part; level = c.block.inside.level; scalars = c.block.inside.scalars.items; accesses = c.block.inside.accesses.items } in
    let is : IsInstance c.args.pred.now y = subst (IsInstance c.args.pred.now) (sym c.inst.view_is) c.requires.is in
    let r : FitsSigned w64 c.turns.result = search rules in
    let outer = subst (λ (b : Block). b.part ≡ Post → b.level < g.row.D) (sym c.block.view_is) c.block-block.ensures.is.outer in
    let inner : c.block.inside.level < g.row.D = outer c.in-Post.is in
    let deep : d.level < depth c.args.pred.now = let e = c.block-block.ensures.deep in omega arith in
    simp to_z-of_z (subst (λ (z : Instance). set y.at d.level c.turns.result ≡ padded c.args.pred.now z) c.inst.view_is
    (padded-post-at c.args.pred.now y d c.turns.result (c.block.view_is ∙ c.block-block.ensures.block) is c.in-Post.is deep c.turns.ensures))

pub returns-in_default : goal.returns-in_default
returns-in_default g c =
    let y : Instance = instance c.inst.inside.block c.inst.inside.at in
    let d : Block = record { part = c.block.inside.part; level = c.block.inside.level; scalars = c.block.inside.scalars.items; accesses = c.block.inside.accesses.items } in
    let is : IsInstance c.args.pred.now y = subst (IsInstance c.args.pred.now) (sym c.inst.view_is) c.requires.is in
    let plain : is_post d.part ≡ false = not-post c.block.inside.part c.in_default.not-Post in
    subst (λ (z : Instance). y.at ≡ padded c.args.pred.now z) c.inst.view_is (padded-plain-at c.args.pred.now y d (c.block.view_is ∙ c.block-block.ensures.block) is plain)
