use Rattle.std.proofs.Common.{◌≡◌, ◌∙◌, true, false, ℤ, List, [], ◌∷◌, ◌++◌, length, length-append, take, sym, ap, subst, arith}
use Rattle.level_walk.specs.Lattices.{in_box}
use Rattle.level_walk.specs.Listings.{listed_in}
use Rattle.level_walk.specs.Orders.{Precedes}
use Rattle.level_walk.specs.Stretches.{AreRunsOf, IsBehind, point_at}
use Rattle.level_walk.proofs.JoinLaws.{before-point, joined-end, long-before, long-point, one-more}
use Rattle.level_walk.proofs.stretches.listed_runs.Goals as goal
use Rattle.level_walk.proofs.stretches.listed_runs.Goals.{then-is_in_box+in_ok-join, else-is_in_box}

pub loop-point-preserved : goal.loop-point-preserved
loop-point-preserved c =
    let lows = c.args.lows.now in let highs = c.args.highs.now in let ps = c.args.points.now in let i = c.loop-point.point-index in let p = c.point-item.result in
    let n = c.args.variables in
    elim c.if-is_in_box.branch [
      | then-is_in_box+in_ok-join w ↦
          let box : in_box lows highs p.items ≡ true = ap (in_box lows highs) (sym c.as_slice.ensures.value) ∙ sym c.is_in_box.ensures ∙ w.if-is_in_box.true in
          let next = w.alone.result in
          let is : p.items ≡ point_at next next.low = sym w.as_slice-then-is_in_box.ensures.value ∙ w.alone.ensures.point in
          let behind : IsBehind (listed_in lows highs (take i ps)) next = record {
            one = w.alone.ensures.one;
            after = λ z h. subst (Precedes z) is (before-point n lows highs ps c.requires.listing i p z c.loop-point-test.true c.point-item.is h);
            long = λ z h.
                let a = long-before n lows highs ps c.requires.listing i z h in
                let b = long-point n lows highs ps c.requires.listing i p c.loop-point-test.true c.point-item.is in
                let e = ap length is in
                let f = length-append next.front.items (next.low ∷ []) in
                omega (arith, a, b, e, f);
          } in
          let more = w.in_ok-join.ensures (listed_in lows highs (take i ps)) c.loop-point.invariant behind in
          let list = one-more n lows highs ps c.requires.listing i p true c.loop-point-test.true c.point-item.is box in
          subst (λ l. AreRunsOf l c.if-is_in_box.runs.items) (sym list) (subst (λ l. AreRunsOf l c.if-is_in_box.runs.items) (ap (λ (z : List ℤ). listed_in lows highs (take i ps) ++ z ∷ []) (sym is)) (subst (λ rs. AreRunsOf (listed_in lows highs (take i ps) ++ point_at next next.low ∷ []) rs.items) (sym w.runs-is) more))
      | else-is_in_box w ↦
          let box : in_box lows highs p.items ≡ false = ap (in_box lows highs) (sym c.as_slice.ensures.value) ∙ sym c.is_in_box.ensures ∙ w.if-is_in_box.false in
          let list = one-more n lows highs ps c.requires.listing i p false c.loop-point-test.true c.point-item.is box in
          subst (λ l. AreRunsOf l c.if-is_in_box.runs.items) (sym list) (subst (λ rs. AreRunsOf (listed_in lows highs (take i ps)) rs.items) (sym w.runs-is) c.loop-point.invariant)
    ]

pub returns : goal.returns
returns c = joined-end c.args.variables c.args.lows.now c.args.highs.now c.args.points.now c.requires.listing c.loop-point.point-index c.loop-point.runs.items c.loop-point-test.false c.loop-point.invariant
