use Rattle.std.proofs.Common.{refl, ◌∙◌, ap, ◌++◌, List, FitsSigned, w64, rules, arith}
use Rattle.std.proofs.lemmas.Int.{to_z-of_z}
use Rattle.dependence.specs.Systems.{System, systems_of}
use Rattle.legality.specs.Dependences.{met}
use Rattle.legality.proofs.MetLaws.{more-met}
use Rattle.legality.proofs.listing.list_from.Goals as goal

pub loop-second-preserved : goal.loop-second-preserved
loop-second-preserved g c =
    let l : FitsSigned w64 c.args.length = search rules in
    let t = c.args.pred.now in
    simp to_z-of_z
    (more-met t (systems_of t c.args.length c.args.first) c.args.refs.now c.loop-second.second-index _ _ c.args.found.now.items c.loop-second.found.items c.list_met.new.found.items (omega (arith, c.loop-second-test.true)) refl
    (simp to_z-of_z at c.loop-second.invariant)
    (c.in_ok-list_met.ensures ∙ ap (λ (xs : List System). c.loop-second.found.items ++ met t xs) (c.deref.ensures.value ∙ (simp to_z-of_z at c.in_ok-systems.ensures.value))))
