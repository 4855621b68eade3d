use Rattle.std.proofs.Common.{◌≡◌, ◌∙◌, ◌≤◌, ℕ, ℤ, pos, List, [], length, replicate, sym, ap, subst, arith, rules}
use Rattle.std.specs.Prelude.{slice_set}
use Rattle.plain_lemmas.proofs.IntegerLaws.{int_lt-true, int_lt-false}
use Rattle.arrayvec.specs.ArrayVec.{ArrayVec}
use Rattle.domain.specs.Instances.{Instance, Predicted, instance, opening_at}
use Rattle.skeletons.proofs.PlaceListLaws.{IsAt, at-end, at-next, at-over, at-predicted, at-start, few-instances, predicted-turns}
use Rattle.skeletons.proofs.place_list.walked.Goals as goal
use Rattle.skeletons.proofs.place_list.walked.Goals.{else-loop-seen-test, then-loop-seen-test+then-not-holds}

pub loop-seen-init : goal.loop-seen-init
loop-seen-init g c =
    let t = c.args.scope.now.pred.now in
    let chunk = c.args.scope.now.chunk in
    let opened : c.opening-inst.result ≡ opening_at t chunk.first = c.opening-inst.ensures ∙ ap (λ (n : ℕ). instance 0 (slice_set (replicate n (pos 0)) 0 chunk.first)) (sym c.requires.table.deep) in
    λ xs original. subst (λ (ps : List (ArrayVec ℤ)). IsAt t chunk c.args.schedule.now c.args.rank xs 0 c.opening-inst.result ps) (sym c.new-places.ensures.items)
    (subst (λ (x : Instance). IsAt t chunk c.args.schedule.now c.args.rank xs 0 x []) (sym opened) (at-start g.row.D t c.requires.table chunk c.requires.launch.some c.args.schedule.now c.args.rank xs original))

pub note-requires : goal.note-requires
note-requires g c =
    let t = c.args.scope.now.pred.now in
    let chunk = c.args.scope.now.chunk in
    let l = c.requires.launch.launched in
    let below = int_lt-true _ _ (sym c.holds.ensures ∙ c.if-not-holds.false) in
    let p : Predicted t chunk c.loop-seen.inst = at-predicted g.row.D t c.requires.table chunk c.requires.launch.some c.args.schedule.now c.args.rank l.list l.original c.loop-seen._seen c.loop-seen.inst c.loop-seen.places.items (c.loop-seen.invariant l.list l.original) below in
    search (rules, p)

pub successor-inst-requires : goal.successor-inst-requires
successor-inst-requires g c =
    let t = c.args.scope.now.pred.now in
    let chunk = c.args.scope.now.chunk in
    let l = c.requires.launch.launched in
    let below = int_lt-true _ _ (sym c.holds.ensures ∙ c.if-not-holds.false) in
    let p : Predicted t chunk c.loop-seen.inst = at-predicted g.row.D t c.requires.table chunk c.requires.launch.some c.args.schedule.now c.args.rank l.list l.original c.loop-seen._seen c.loop-seen.inst c.loop-seen.places.items (c.loop-seen.invariant l.list l.original) below in
    (search rules, (search rules, (c.requires.few, (p.is.block, predicted-turns g.row.D t c.requires.table chunk c.requires.launch c.loop-seen.inst p))))

pub loop-seen-preserved : goal.loop-seen-preserved
loop-seen-preserved g c =
    let t = c.args.scope.now.pred.now in
    let chunk = c.args.scope.now.chunk in
    let s = c.args.schedule.now in
    let rank = c.args.rank in
    let some = c.requires.launch.some in
    let below = int_lt-true _ _ (sym c.holds.ensures ∙ c.if-not-holds.false) in
    let x = c.loop-seen.inst in
    let points = c.loop-seen.places.items in
    λ xs original.
    let at = c.loop-seen.invariant xs original in
    at-next g.row.D t c.requires.table chunk some s rank xs original c.loop-seen._seen x c.successor-inst.result points c.note.new.places.items at below c.in_ok-note.ensures
    (c.successor-inst.ensures chunk (at-predicted g.row.D t c.requires.table chunk some s rank xs original c.loop-seen._seen x points at below))

pub returns : goal.returns
returns g c =
    let t = c.args.scope.now.pred.now in
    let chunk = c.args.scope.now.chunk in
    let s = c.args.schedule.now in
    let launch = c.requires.launch in
    let l = launch.launched in
    let at = c.loop-seen.invariant l.list l.original in
    let seen : length l.list ≤ c.loop-seen._seen = elim c.loop-seen-test.branch [
      | else-loop-seen-test w ↦ let few = few-instances t launch.words chunk launch.instances l in omega (arith, few, w.loop-seen-test.false)
      | then-loop-seen-test+then-not-holds w ↦ at-over g.row.D t c.requires.table chunk launch.some s c.args.rank l.list l.original c.loop-seen._seen c.loop-seen.inst c.loop-seen.places.items at
          (int_lt-false _ _ (sym w.holds.ensures ∙ w.if-not-holds.true))
    ] in
    at-end g.row.D t c.requires.table chunk launch.some s c.args.rank l.list l.original c.loop-seen._seen c.loop-seen.inst c.loop-seen.places.items seen at
