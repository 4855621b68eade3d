-- A seat keeps its invariant where main begins and ends a phase.
use Rattle.std.proofs.Common.{◌≡◌, ℕ, ◌+◌, ◌≤◌, true≢false, List, [], length, refl, sym, ap, ◌∙◌, subst, arith}
use Rattle.atomic_table.specs.Seated.{TableId}
use Rattle.atomic_table.specs.Table.{Me}
use Rattle.core_steps.specs.declared.plan.Plan.{Plan}
use Rattle.core_steps.specs.declared.view.View.{View}
use Rattle.core_steps.specs.Plans.{IsInside}
use Rattle.core_steps.specs.Views.{first_view, posted_view, settled_view, overlaid}
use Rattle.core_steps.proofs.StoreListLaws.{length-overlaid}
use Rattle.shared_words.specs.Seats.{KeepsSeat}

pub keeps-posted : (t u : TableId) (me new : Me (Unit {0}) View) (epoch : ℕ) (plan : Plan) → KeepsSeat t me epoch → u ≡ t → new ≡ (posted_view me.0 me.0.base plan, me.1) → length plan.tiles ≤ 65536 → IsInside (length me.0.base) plan
    → KeepsSeat u new (epoch + 1)
keeps-posted t u me new epoch plan h same is few inside = subst (λ (p : Me (Unit {0}) View). KeepsSeat u p (epoch + 1)) (sym is)
    (record { words = ap (λ z. z.words) same ∙ h.words; no_slot = h.no_slot; epoch_is = ap (λ (n : ℕ). n + 1) h.epoch_is; few = few; inside = inside })

pub keeps-settled : (t u : TableId) (me new : Me (Unit {0}) View) (epoch : ℕ) → KeepsSeat t me epoch → u ≡ t → new ≡ (settled_view me.0 (overlaid me.0.own me.0.base), me.1) → KeepsSeat u new epoch
keeps-settled t u me new epoch h same is = let len = length-overlaid me.0.own me.0.base in let words : u.words ≡ t.words = ap (λ z. z.words) same in let was = h.words in
    subst (λ (p : Me (Unit {0}) View). KeepsSeat u p epoch) (sym is)
    (record { words = omega arith; no_slot = h.no_slot; epoch_is = h.epoch_is; few = omega arith; inside = λ k a t. absurd (true≢false (sym t)) })

pub keeps-first : (t u : TableId) (me : Me (Unit {0}) View) (base : List ℕ) → t.words ≡ 65537 + length base → u ≡ t → me ≡ (first_view base, []) → KeepsSeat u me 0
keeps-first t u me base wide same is = subst (λ (p : Me (Unit {0}) View). KeepsSeat u p 0) (sym is)
    (record { words = ap (λ z. z.words) same ∙ wide; no_slot = refl; epoch_is = refl; few = omega arith; inside = λ k a t. absurd (true≢false (sym t)) })
