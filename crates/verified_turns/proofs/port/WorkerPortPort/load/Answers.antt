use Rattle.std.proofs.Common.{◌≡◌, ◌∙◌, ap, sym, subst, ℕ, ◌<◌, ℤ, pos, ◌≤ℤ◌, true, true≢false, Option, None, Ok, Result, unsigned_abs, length, w64, to_z, of_z}
use Rattle.std.proofs.lemmas.Int.{to_z-of_z}
use Rattle.nest_lang.specs.Lookups.{look}
use Rattle.nest_lang.specs.Lookups as lookups
use Rattle.nest_lang.specs.declared.observe.Stop.{Stop}
use Rattle.shared_words.specs.Memories.{shown}
use Rattle.follow.proofs.VerifyLaws.{refused_by, look-refused}
use Rattle.follow_chunk.specs.Predicted.{interval_at}
use Rattle.verified_turns.specs.Ports.{own_expectation}
use Rattle.verified_turns.proofs.SeatMemoryLaws.{found, outside, lies}
use Rattle.verified_turns.proofs.port.WorkerPortPort.load.Goals as goal

pub returns-in-Some-clause-answer : goal.returns-in-Some-clause-answer
returns-in-Some-clause-answer g c =
    let p = c.args.self.now in
    let v = p.seat.now.view in
    let i : Option lookups.Interval = (own_expectation p.foreseen.now.forms.now (interval_at p.foreseen.now.pred.now p.foreseen.now.inst.now)).loads c.args.access in
    let z = to_z w64 (of_z w64 c.args.address) in
    let address : z ≡ c.args.address = to_z-of_z w64 c.args.address c.ranges.address in
    let asked : refused_by i z ≡ c.refused.result = ap (λ (j : Option lookups.Interval). refused_by j z) (sym c.of_load-interval.ensures) ∙ sym c.refused.ensures in
    look-refused i (shown v) z c.in-Some.expected (asked ∙ c.in-Some.is) ∙ ap (λ (a : ℤ). look true i (shown v) a) address

pub returns-then-not-is_word-clause-answer : goal.returns-then-not-is_word-clause-answer
returns-then-not-is_word-clause-answer g c =
    let p = c.args.self.now in
    let v = p.seat.now.view in
    let i : Option lookups.Interval = (own_expectation p.foreseen.now.forms.now (interval_at p.foreseen.now.pred.now p.foreseen.now.inst.now)).loads c.args.access in
    let z = to_z w64 (of_z w64 c.args.address) in
    let address : z ≡ c.args.address = to_z-of_z w64 c.args.address c.ranges.address in
    let asked : refused_by i z ≡ c.refused.result = ap (λ (j : Option lookups.Interval). refused_by j z) (sym c.of_load-interval.ensures) ∙ sym c.refused.ensures in
    let none : None ≡ refused_by i z = sym (asked ∙ c.in_default.is) in
    let past = λ (h : (pos 0 ≤ℤ z) × (unsigned_abs z < length v.base)). true≢false (sym (c.is_word.ensures.1 (h.0, subst (λ (n : ℕ). unsigned_abs z < n) (sym (c.count.ensures ∙ p.counted)) h.1)) ∙ c.if-not-is_word.true) in
    sym (outside i v z none past) ∙ ap (λ (a : ℤ). look true i (shown v) a) address

pub load-requires-clause-tile : goal.load-requires-clause-tile
load-requires-clause-tile g c =
    let p = c.args.self.now in
    let v = p.seat.now.view in
    let i : Option lookups.Interval = (own_expectation p.foreseen.now.forms.now (interval_at p.foreseen.now.pred.now p.foreseen.now.inst.now)).loads c.args.access in
    let z = to_z w64 (of_z w64 c.args.address) in
    let address : z ≡ c.args.address = to_z-of_z w64 c.args.address c.ranges.address in
    let asked : refused_by i z ≡ c.refused.result = ap (λ (j : Option lookups.Interval). refused_by j z) (sym c.of_load-interval.ensures) ∙ sym c.refused.ensures in
    let none : None ≡ refused_by i z = sym (asked ∙ c.in_default.is) in
    let is = c.is_word.ensures.0 c.if-not-is_word.false in
    let below : unsigned_abs z < length v.base = subst (λ (n : ℕ). unsigned_abs z < n) (c.count.ensures ∙ p.counted) is.1 in
    p.may.loads c.args.access (unsigned_abs z) (lies i z none is.0) below

pub returns-clause-answer : goal.returns-clause-answer
returns-clause-answer g c =
    let p = c.args.self.now in
    let v = p.seat.now.view in
    let i : Option lookups.Interval = (own_expectation p.foreseen.now.forms.now (interval_at p.foreseen.now.pred.now p.foreseen.now.inst.now)).loads c.args.access in
    let z = to_z w64 (of_z w64 c.args.address) in
    let address : z ≡ c.args.address = to_z-of_z w64 c.args.address c.ranges.address in
    let asked : refused_by i z ≡ c.refused.result = ap (λ (j : Option lookups.Interval). refused_by j z) (sym c.of_load-interval.ensures) ∙ sym c.refused.ensures in
    let none : None ≡ refused_by i z = sym (asked ∙ c.in_default.is) in
    let is = c.is_word.ensures.0 c.if-not-is_word.false in
    let below : unsigned_abs z < length v.base = subst (λ (n : ℕ). unsigned_abs z < n) (c.count.ensures ∙ p.counted) is.1 in
    let ok : ℤ → Result ℤ Stop = λ a. Ok a in
    let round : to_z w64 (of_z w64 c.load.result) ≡ c.load.result = to_z-of_z w64 c.load.result (record { sfits = c.load.type_inv }) in
    ap ok (round ∙ c.load.ensures.value) ∙ sym (found i v z none is.0 below) ∙ ap (λ (a : ℤ). look true i (shown v) a) address
