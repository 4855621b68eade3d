use Rattle.std.proofs.Common.{◌≡◌, ◌∙◌, ap, ap₂, sym, subst, ◌++◌, ◌+◌, suc, ℕ, List, length, arith}
use Rattle.std.specs.List.{All, range_with_len, flat_map}
use Rattle.nest_lang.specs.declared.tree.AccessRef.{AccessRef}
use Rattle.dependence.specs.Systems.{IsRef, refs_of}
use Rattle.dependence.proofs.AddedLaws.{flat-more}
use Rattle.dependence.proofs.PairLaws.{refs-all}
use Rattle.dependence.proofs.pairs.refs.Goals as goal

pub loop-rank-preserved : goal.loop-rank-preserved
loop-rank-preserved g c =
    let next : c.loop-rank.rank + 1 ≡ suc c.loop-rank.rank = omega arith in
    let here : 0 + c.loop-rank.rank ≡ c.loop-rank.rank = omega arith in
    c.in_ok-push_refs.ensures
    ∙ ap₂ (λ (xs : List AccessRef) (k : ℕ). xs ++ refs_of c.args.pred.now k) c.loop-rank.invariant (sym here)
    ∙ sym (ap (λ (n : ℕ). flat_map (refs_of c.args.pred.now) (range_with_len 0 n)) next ∙ flat-more (refs_of c.args.pred.now) 0 c.loop-rank.rank)

pub returns-clause-value : goal.returns-clause-value
returns-clause-value g c =
    let count = c.block_count-rank-end.ensures.value in
    let done : c.loop-rank.rank ≡ length c.args.pred.now.blocks = omega (arith, count, c.loop-rank-test.false, c.loop-rank.auto.rank-end) in
    c.loop-rank.invariant ∙ ap (λ (n : ℕ). flat_map (refs_of c.args.pred.now) (range_with_len 0 n)) done

pub returns-clause-are : goal.returns-clause-are
returns-clause-are g c = subst (All (IsRef c.args.pred.now)) (sym (returns-clause-value g c)) (refs-all c.args.pred.now)
