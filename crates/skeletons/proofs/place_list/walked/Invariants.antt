use Rattle.std.proofs.Common.{List}
use Rattle.domain.specs.Instances.{Instance, IsOriginal}
use Rattle.skeletons.proofs.PlaceListLaws.{IsAt}
use Rattle.skeletons.proofs.place_list.walked.Given as goal

abbrev pub invariant-loop-seen : goal.invariant-loop-seen
invariant-loop-seen g l = (xs : List Instance) → IsOriginal l.scope.pred.now l.scope.chunk xs → IsAt l.scope.pred.now l.scope.chunk l.schedule l.rank xs l._seen l.inst l.places.items
