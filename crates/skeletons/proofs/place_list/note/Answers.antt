use Rattle.std.proofs.Common.{◌≡◌, ap, arith}
use Rattle.domain.specs.Instances.{Instance}
use Rattle.skeletons.proofs.PlaceListLaws.{noted}
use Rattle.skeletons.proofs.place_list.note.Goals as goal

pub returns-in_ok-push : goal.returns-in_ok-push
returns-in_ok-push g c =
    let same = ap (λ (x : Instance). x.block) c.inst.view_is in
    let e : c.args.inst.now.block ≡ c.args.rank = omega (arith, same) in
    noted c.args.scope.now.pred.now c.args.schedule.now c.args.rank c.args.inst.now c.args.places.now.items c.push.new.self.items c.place_point.result c.in_ok-push.ensures.items e c.place_point.ensures
