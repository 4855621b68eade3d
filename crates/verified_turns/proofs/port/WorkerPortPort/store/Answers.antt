use Rattle.std.proofs.Common.{◌≡◌, ◌∙◌, ap, sym, subst, ℕ, ◌<◌, ℤ, pos, ◌≤ℤ◌, true, true≢false, Option, None, set, unsigned_abs, length, w64, to_z, of_z}
use Rattle.std.specs.Int.{cast_unsigned}
use Rattle.std.proofs.lemmas.Int.{to_z-of_z}
use Rattle.nest_lang.specs.Lookups.{look}
use Rattle.nest_lang.specs.Lookups as lookups
use Rattle.block_exec.specs.Ports.{without_word}
use Rattle.core_steps.specs.declared.view.View.{View}
use Rattle.core_steps.specs.Views.{storing_view}
use Rattle.shared_words.specs.Memories.{shown}
use Rattle.follow.proofs.VerifyLaws.{refused_by, store-refused}
use Rattle.follow_chunk.specs.Predicted.{interval_at}
use Rattle.verified_turns.specs.Ports.{own_expectation, MayTouch}
use Rattle.verified_turns.proofs.SeatMemoryLaws.{found, outside, lies, shown-store}
use Rattle.verified_turns.proofs.port.WorkerPortPort.store.Goals as goal

pub returns-in-Some-clause-answer : goal.returns-in-Some-clause-answer
returns-in-Some-clause-answer g c =
    let p = c.args.self.now in
    let v = p.seat.now.view in
    let i : Option lookups.Interval = (own_expectation p.foreseen.now.forms.now (interval_at p.foreseen.now.pred.now p.foreseen.now.inst.now)).stores c.args.access in
    let z = to_z w64 (of_z w64 c.args.address) in
    let address : z ≡ c.args.address = to_z-of_z w64 c.args.address c.ranges.address in
    let asked : refused_by i z ≡ c.refused.result = ap (λ (j : Option lookups.Interval). refused_by j z) (sym c.of_store-interval.ensures) ∙ sym c.refused.ensures in
    store-refused i (shown v) z c.in-Some.expected (asked ∙ c.in-Some.is) ∙ ap (λ (a : ℤ). without_word (look true i (shown v) a)) address

pub returns-then-not-is_word-clause-answer : goal.returns-then-not-is_word-clause-answer
returns-then-not-is_word-clause-answer g c =
    let p = c.args.self.now in
    let v = p.seat.now.view in
    let i : Option lookups.Interval = (own_expectation p.foreseen.now.forms.now (interval_at p.foreseen.now.pred.now p.foreseen.now.inst.now)).stores c.args.access in
    let z = to_z w64 (of_z w64 c.args.address) in
    let address : z ≡ c.args.address = to_z-of_z w64 c.args.address c.ranges.address in
    let asked : refused_by i z ≡ c.refused.result = ap (λ (j : Option lookups.Interval). refused_by j z) (sym c.of_store-interval.ensures) ∙ sym c.refused.ensures in
    let none : None ≡ refused_by i z = sym (asked ∙ c.in_default.is) in
    let past = λ (h : (pos 0 ≤ℤ z) × (unsigned_abs z < length v.base)). true≢false (sym (c.is_word.ensures.1 (h.0, subst (λ (n : ℕ). unsigned_abs z < n) (sym (c.count.ensures ∙ p.counted)) h.1)) ∙ c.if-not-is_word.true) in
    sym (ap without_word (outside i v z none past)) ∙ ap (λ (a : ℤ). without_word (look true i (shown v) a)) address

pub store-requires-clause-tile : goal.store-requires-clause-tile
store-requires-clause-tile g c =
    let p = c.args.self.now in
    let v = p.seat.now.view in
    let i : Option lookups.Interval = (own_expectation p.foreseen.now.forms.now (interval_at p.foreseen.now.pred.now p.foreseen.now.inst.now)).stores c.args.access in
    let z = to_z w64 (of_z w64 c.args.address) in
    let address : z ≡ c.args.address = to_z-of_z w64 c.args.address c.ranges.address in
    let asked : refused_by i z ≡ c.refused.result = ap (λ (j : Option lookups.Interval). refused_by j z) (sym c.of_store-interval.ensures) ∙ sym c.refused.ensures in
    let none : None ≡ refused_by i z = sym (asked ∙ c.in_default.is) in
    let is = c.is_word.ensures.0 c.if-not-is_word.false in
    let below : unsigned_abs z < length v.base = subst (λ (n : ℕ). unsigned_abs z < n) (c.count.ensures ∙ p.counted) is.1 in
    p.may.stores c.args.access (unsigned_abs z) (lies i z none is.0) below

pub invariant_of-self : goal.invariant_of-self
invariant_of-self g c =
    let p = c.args.self.now in
    let v = p.seat.now.view in
    let i : Option lookups.Interval = (own_expectation p.foreseen.now.forms.now (interval_at p.foreseen.now.pred.now p.foreseen.now.inst.now)).stores c.args.access in
    let z = to_z w64 (of_z w64 c.args.address) in
    let address : z ≡ c.args.address = to_z-of_z w64 c.args.address c.ranges.address in
    let asked : refused_by i z ≡ c.refused.result = ap (λ (j : Option lookups.Interval). refused_by j z) (sym c.of_store-interval.ensures) ∙ sym c.refused.ensures in
    let none : None ≡ refused_by i z = sym (asked ∙ c.in_default.is) in
    let is = c.is_word.ensures.0 c.if-not-is_word.false in
    let below : unsigned_abs z < length v.base = subst (λ (n : ℕ). unsigned_abs z < n) (c.count.ensures ∙ p.counted) is.1 in
    record {
      few = p.few;
      table = c.store.ensures.table ∙ p.table;
      counted = p.counted ∙ ap (λ (w : View). length w.base) (sym c.store.ensures.view);
      may = subst (λ (w : View). MayTouch p.foreseen.now.forms.now (interval_at p.foreseen.now.pred.now p.foreseen.now.inst.now) w) (sym c.store.ensures.view) (record { loads = p.may.loads; stores = p.may.stores });
    }

pub returns-clause-answer : goal.returns-clause-answer
returns-clause-answer g c =
    let p = c.args.self.now in
    let v = p.seat.now.view in
    let i : Option lookups.Interval = (own_expectation p.foreseen.now.forms.now (interval_at p.foreseen.now.pred.now p.foreseen.now.inst.now)).stores c.args.access in
    let z = to_z w64 (of_z w64 c.args.address) in
    let address : z ≡ c.args.address = to_z-of_z w64 c.args.address c.ranges.address in
    let asked : refused_by i z ≡ c.refused.result = ap (λ (j : Option lookups.Interval). refused_by j z) (sym c.of_store-interval.ensures) ∙ sym c.refused.ensures in
    let none : None ≡ refused_by i z = sym (asked ∙ c.in_default.is) in
    let is = c.is_word.ensures.0 c.if-not-is_word.false in
    let below : unsigned_abs z < length v.base = subst (λ (n : ℕ). unsigned_abs z < n) (c.count.ensures ∙ p.counted) is.1 in
    sym (ap without_word (found i v z none is.0 below)) ∙ ap (λ (a : ℤ). without_word (look true i (shown v) a)) address

pub returns-clause-memory : goal.returns-clause-memory
returns-clause-memory g c =
    let p = c.args.self.now in
    let v = p.seat.now.view in
    let i : Option lookups.Interval = (own_expectation p.foreseen.now.forms.now (interval_at p.foreseen.now.pred.now p.foreseen.now.inst.now)).stores c.args.access in
    let z = to_z w64 (of_z w64 c.args.address) in
    let address : z ≡ c.args.address = to_z-of_z w64 c.args.address c.ranges.address in
    let asked : refused_by i z ≡ c.refused.result = ap (λ (j : Option lookups.Interval). refused_by j z) (sym c.of_store-interval.ensures) ∙ sym c.refused.ensures in
    ap shown c.store.ensures.view
    ∙ ap (λ (y : ℤ). shown (storing_view v (unsigned_abs z) (cast_unsigned w64 y))) (to_z-of_z w64 c.args.value c.ranges.value)
    ∙ shown-store v (unsigned_abs z) c.args.value c.ranges.value
    ∙ ap (λ (a : ℕ). set (shown v) a c.args.value) (ap unsigned_abs address)
