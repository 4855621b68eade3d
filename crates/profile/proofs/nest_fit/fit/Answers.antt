use Rattle.std.proofs.Common.{sym, subst, ℕ, length, List, rules}
use Rattle.domain.specs.Tables.{Table, IsTable}
use Rattle.domain.proofs.ShapeLaws.{table_of_nest}
use Rattle.profile.specs.Fits.{IsFitOf}
use Rattle.profile.specs.Parts.{AreLevels, LoopBounds}
use Rattle.profile.proofs.WholeLaws.{made, strides-fit, reaches-fit}
use Rattle.profile.proofs.nest_fit.fit.Goals as goal

pub new-requires : goal.new-requires
new-requires g c =
    let few = c.requires.few in
    let loops = c.args.nest.now.loops in
    let o = c.args.samples.now in
    let blocks = c.in_ok-blocks.field-0.blocks.items in
    let bounds : List LoopBounds = c.in_ok-blocks.field-0.bounds.items in
    let levels = c.in_ok-levels.levels.items in
    let fits = c.in_ok-blocks.ensures in
    let are : AreLevels loops bounds (length loops) levels = subst (λ (bs : List LoopBounds). AreLevels loops bs (length loops) levels) c.as_slice.ensures.value c.in_ok-levels.ensures.levels in
    let t : Table = record { levels = levels; blocks = blocks } in
    let is = made g.row.D c.args.scalars loops o blocks bounds levels fits are in
    let table = table_of_nest c.args.scalars loops t c.requires.scalars c.requires.keeps is.shape (strides-fit levels c.in_ok-levels.ensures.reach) (reaches-fit levels c.in_ok-levels.ensures.reach) in
    (search rules, (search rules, (search rules, subst (λ (n : ℕ). IsTable n t) c.requires.depth table)))

pub returns : goal.returns
returns g c =
    let loops = c.args.nest.now.loops in
    let o = c.args.samples.now in
    let blocks = c.in_ok-blocks.field-0.blocks.items in
    let bounds : List LoopBounds = c.in_ok-blocks.field-0.bounds.items in
    let levels = c.in_ok-levels.levels.items in
    let are : AreLevels loops bounds (length loops) levels = subst (λ (bs : List LoopBounds). AreLevels loops bs (length loops) levels) c.as_slice.ensures.value c.in_ok-levels.ensures.levels in
    subst (λ (t : Table). IsFitOf g.row.D c.args.scalars loops o t) (sym c.new.ensures) (made g.row.D c.args.scalars loops o blocks bounds levels c.in_ok-blocks.ensures are)
