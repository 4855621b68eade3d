use Rattle.std.proofs.Common.{rules, ◌∙◌, sym, ℤ, pos, ◌+ℤ◌, ◌<ℤ◌, ap, ap₂, FitsSigned, w64, to_z, of_z, arith}
use Rattle.std.proofs.lemmas.Int.{ints, to_z-of_z}
use Rattle.std.proofs.lemmas.Float.{T_from_true}
use Rattle.std.specs.Int.Signed.{lt_z, lt_z_yes}
use Rattle.level_walk.specs.States.{state_left}
use Rattle.level_walk.proofs.StateLaws.{advanced-left}
use Rattle.level_walk.proofs.states.advance.Goals as goal

pub returns-then-state-2-clause-left : goal.returns-then-state-2-clause-left
returns-then-state-2-clause-left c =
    let state = c.args.state.now in
    let low : FitsSigned w64 state.low = search rules in
    let high : FitsSigned w64 state.high = search rules in
    let is_low = to_z-of_z w64 state.low low in
    let is_high = to_z-of_z w64 state.high high in
    let more : state.low <ℤ state.high = lt_z_yes (T_from_true _ (ap₂ lt_z (sym is_low) (sym is_high) ∙ c.if-state-2.true)) in
    let fits : FitsSigned w64 (state.low +ℤ pos 1) = omega (arith, ints, low, high, more) in
    let next = ap (λ (z : ℤ). to_z w64 (of_z w64 (z +ℤ pos 1))) is_low ∙ to_z-of_z w64 (state.low +ℤ pos 1) fits in
    λ _ s stands. ap (λ (l : ℤ). state_left s (record state { low = l })) next ∙ advanced-left s state c.if-state.true stands
