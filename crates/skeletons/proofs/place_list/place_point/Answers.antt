use Rattle.std.proofs.Common.{rules, ◌∙◌, ◌≤◌, ℕ, ℤ, List, length, sym, ap, subst, ⊎_elim, FitsSigned, arith}
use Rattle.std.specs.Int.{w64}
use Rattle.std.proofs.lemmas.Bool.{cases_lt}
use Rattle.std.proofs.lemmas.Int.{fits_signed_from_abs, ints}
use Rattle.domain.specs.Instances.{IsInstance, block_of, counter, padded}
use Rattle.domain.specs.Instances.{place as number}
use Rattle.domain.proofs.CounterLaws.{launched_places}
use Rattle.domain.proofs.PointLaws.{cut-same}
use Rattle.transform.specs.Schedules.{place}
use Rattle.skeletons.specs.Cells.{Extent}
use Rattle.skeletons.proofs.BoxLaws.{length-place}
use Rattle.skeletons.proofs.CellListLaws.{near-fits, past, zero-fits}
use Rattle.skeletons.proofs.ListLaws.{near-places-of}
use Rattle.skeletons.proofs.place_list.place_point.Goals as goal

pub padded-point-requires : goal.padded-point-requires
padded-point-requires g c =
    let t = c.args.scope.now.pred.now in
    let x = c.args.inst.now in
    let launch = c.requires.launch in
    let is : IsInstance t x = c.requires.predicted.is in
    let fits : (k : ℕ) → FitsSigned w64 (number t (block_of t x) x.at k) = λ k.
    let l = launched_places g.row.D t launch.words c.args.scope.now.chunk launch.instances c.requires.table launch.first launch.some launch.launched x c.requires.predicted k in
    let a = l.0 in let b = l.1 in let f = launch.far in
    fits_signed_from_abs w64 (number t (block_of t x) x.at k) (omega (arith, ints, a, b, f)) in
    search (rules, is, fits)

pub counters_of-place-requires : goal.counters_of-place-requires
counters_of-place-requires g c =
    let t = c.args.scope.now.pred.now in
    let s = c.args.schedule.now in
    let x = c.args.inst.now in
    let e : Extent = record { table = t; schedule = s; chunk = c.args.scope.now.chunk } in
    let few : g.row.D ≤ 6 = (let f = c.requires.few in omega (arith, f)) in
    let same = c.place_of.ensures.value ∙ ap (place s) c.padded-point.ensures in
    let long = length-place g.row.D s c.requires.schedule (padded t x) in
    let fits : (k : ℕ) → FitsSigned w64 (counter c.place_of.result k) = λ k. subst (λ (zs : List ℤ). FitsSigned w64 (counter zs k)) (sym same)
    (⊎_elim (λ l. near-fits (counter (place s (padded t x)) k) (near-places-of g.row.D e few c.requires.table c.requires.schedule c.requires.launch x c.requires.predicted k l))
    (λ l. subst (FitsSigned w64) (sym (past (place s (padded t x)) k (omega (arith, l, long)))) zero-fits) (cases_lt k g.row.D)) in
    search (rules, fits)

pub returns : goal.returns
returns g c =
    let t = c.args.scope.now.pred.now in
    let s = c.args.schedule.now in
    let x = c.args.inst.now in
    let same = c.place_of.ensures.value ∙ ap (place s) c.padded-point.ensures in
    let long = ap length same ∙ length-place g.row.D s c.requires.schedule (padded t x) in
    c.copied.ensures ∙ c.counters_of-place.ensures ∙ cut-same g.row.D c.place_of.result (λ k a b. absurd (omega (arith, long, a, b))) ∙ same
