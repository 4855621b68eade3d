-- What each step of a phase does to the view of a worker whose seat is out.
use Rattle.std.proofs.Common.{◌≡◌, ◌≢◌, ℕ, zero, suc, Bool, true, false, true≢false, eqb, cond, List, [], ◌∷◌, ◌++◌, ⊎_elim, refl, sym, ap, ◌∙◌, subst, eq-eqb, ne_eqb, arith}
use Rattle.std.specs.Int.{w64, cast_unsigned}
use mathlib.Core.Option.{some-injective, some-ne-none}
use mathlib.Core.Logic.{dite}
use native.Mathlib.Decide.{ℕ_discrete}
use Rattle.core_steps.specs.declared.step.Step.{Step}
use Rattle.core_steps.specs.declared.step.Step.TheVariants.{Post, Split, Load, Store, See, Raise, Claim, Join, Settle}
use Rattle.core_steps.specs.declared.view.View.{View}
use Rattle.core_steps.specs.Numbers.{has, without}
use Rattle.std.specs.Prelude.{if◌then◌else◌}
use Rattle.core_steps.specs.Views.{spent_view, lent_view, seeing_view, failed_view, claiming_view, storing_view, based_view, knowing_view, holding_view}
use Rattle.core_steps.specs.States.{State, view_of, with_view, flag_of, claim_of, memory_word, claim_word, IsOut}
use Rattle.core_steps.specs.Steps.{Lawful, state_after, seat_of, with_seat, with_word}
use Rattle.core_steps.specs.Invariant.{At, Each, IsSound}
use Rattle.core_steps.specs.Laws.{is_settle, is_join}
use Rattle.core_steps.proofs.NumberListLaws.{not_both, has-there, has-without}
use Rattle.core_steps.proofs.StateStepLaws.{out-found, seat-of-worker, with-seat-worker}

-- the view of a worker, in the list after a change

view-here : (w : ℕ) (x : View) (xs : List View) → x.number ≡ w → view_of w (x ∷ xs) ≡ x
view-here w x xs e = ap (λ (b : Bool). cond b x (view_of w xs)) (eq-eqb x.number w e)

view-behind : (w : ℕ) (x : View) (xs : List View) → x.number ≢ w → view_of w (x ∷ xs) ≡ view_of w xs
view-behind w x xs ne = ap (λ (b : Bool). cond b x (view_of w xs)) (ne_eqb x.number w ne)

with-here : (w : ℕ) (u x : View) (xs : List View) → x.number ≡ w → with_view w u (x ∷ xs) ≡ u ∷ xs
with-here w u x xs e = ap (λ (b : Bool). cond b (u ∷ xs) (x ∷ with_view w u xs)) (eq-eqb x.number w e)

with-behind : (w : ℕ) (u x : View) (xs : List View) → x.number ≢ w → with_view w u (x ∷ xs) ≡ x ∷ with_view w u xs
with-behind w u x xs ne = ap (λ (b : Bool). cond b (u ∷ xs) (x ∷ with_view w u xs)) (ne_eqb x.number w ne)

-- another worker's view stays
pub view-with-other : (w v : ℕ) (u : View) (views : List View) → v ≢ w → u.number ≢ w → view_of w (with_view v u views) ≡ view_of w views
view-with-other w v u [] ne other = refl
view-with-other w v u (x ∷ xs) ne other = dite (ℕ_discrete x.number v)
    (λ e. ap (λ (l : List View). view_of w l) (with-here v u x xs e) ∙ view-behind w u xs other ∙ sym (view-behind w x xs (λ z. ne (sym e ∙ z))))
    (λ n. ap (λ (l : List View). view_of w l) (with-behind v u x xs n) ∙ dite (ℕ_discrete x.number w)
    (λ e. view-here w x (with_view v u xs) e ∙ sym (view-here w x xs e))
    (λ d. view-behind w x (with_view v u xs) d ∙ view-with-other w v u xs ne other ∙ sym (view-behind w x xs d)))

-- the worker's own view is the new one
pub view-with-same : (w : ℕ) (u : View) (views : List View) (i : ℕ) (v : View) → At views i v → v.number ≡ w → u.number ≡ w → view_of w (with_view w u views) ≡ u
view-with-same w u [] i v at is new = absurd (some-ne-none v (sym at))
view-with-same w u (x ∷ xs) zero v at is new = let e : x.number ≡ w = ap (λ (z : View). z.number) (some-injective x v at) ∙ is in
    ap (λ (l : List View). view_of w l) (with-here w u x xs e) ∙ view-here w u xs new
view-with-same w u (x ∷ xs) (suc i) v at is new = dite (ℕ_discrete x.number w)
    (λ e. ap (λ (l : List View). view_of w l) (with-here w u x xs e) ∙ view-here w u xs new)
    (λ n. ap (λ (l : List View). view_of w l) (with-behind w u x xs n) ∙ view-behind w x (with_view w u xs) n ∙ view-with-same w u xs i v at is new)

-- a view that joins at the end hides none
pub view-snoc-old : (w : ℕ) (u : View) (views : List View) (i : ℕ) (v : View) → At views i v → v.number ≡ w → view_of w (views ++ u ∷ []) ≡ view_of w views
view-snoc-old w u [] i v at is = absurd (some-ne-none v (sym at))
view-snoc-old w u (x ∷ xs) zero v at is = let e : x.number ≡ w = ap (λ (z : View). z.number) (some-injective x v at) ∙ is in view-here w x (xs ++ u ∷ []) e ∙ sym (view-here w x xs e)
view-snoc-old w u (x ∷ xs) (suc i) v at is = dite (ℕ_discrete x.number w)
    (λ e. view-here w x (xs ++ u ∷ []) e ∙ sym (view-here w x xs e))
    (λ n. view-behind w x (xs ++ u ∷ []) n ∙ view-snoc-old w u xs i v at is ∙ sym (view-behind w x xs n))

pub view-snoc-new : (w : ℕ) (u : View) (views : List View) → Each (λ _ v. v.number ≢ w) views → u.number ≡ w → view_of w (views ++ u ∷ []) ≡ u
view-snoc-new w u [] none is = view-here w u [] is
view-snoc-new w u (x ∷ xs) none is = view-behind w x (xs ++ u ∷ []) (none 0 x refl) ∙ view-snoc-new w u xs (λ i v e. none (suc i) v e) is

-- what a step adds to the own values of the worker w
abbrev pub own_after : Step → ℕ → List (ℕ × ℕ) → List (ℕ × ℕ)
own_after (Store v b x) w own = if eqb v w then (b, cast_unsigned w64 x) ∷ own else own
own_after (Post _) w own = own
own_after (Split _) w own = own
own_after (Load _ _) w own = own
own_after (See _) w own = own
own_after (Raise _) w own = own
own_after (Claim _ _) w own = own
own_after (Join _) w own = own
own_after Settle w own = own

-- the worker's seat is out still, with these own values
pub record StaysOut (w : ℕ) (own : List (ℕ × ℕ)) (t : State) : Type 0 where
  pub out : IsOut w t
  pub own-is : (view_of w t.seats).own ≡ own

stays : (w : ℕ) (s : State) → IsOut w s → StaysOut w (view_of w s.seats).own s
stays w s out = record { out = out; own-is = refl }

-- a step of a worker on its own view, or on another's
worker-stays : (w v : ℕ) (u : View) (s t : State) (own : List (ℕ × ℕ)) → IsSound s → IsOut w s → IsOut v s → t.main ≡ s.main → t.seats ≡ s.seats → u.number ≡ v → (v ≡ w → u.own ≡ own) → (v ≢ w → (view_of w s.seats).own ≡ own) → StaysOut w own (with_seat v u t)
worker-stays w v u s t own h out out-v main seats number same other = let
    some_v = h.phase.numbers v out-v in let
    f = out-found w s h out in
    subst (λ (z : State). StaysOut w own z) (sym (with-seat-worker v u t some_v)) (record {
      out = subst (λ (m : View). has w m.out ≡ true) (sym main) out;
      own-is = ap (λ (l : List View). (view_of w (with_view v u l)).own) seats ∙ dite (ℕ_discrete v w)
          (λ e. ap (λ (n : ℕ). (view_of w (with_view n u s.seats)).own) e ∙ ap (λ (z : View). z.own) (view-with-same w u s.seats f.place (view_of w s.seats) f.at f.number (number ∙ e)) ∙ same e)
          (λ ne. ap (λ (z : View). z.own) (view-with-other w v u s.seats ne (λ z. ne (sym number ∙ z))) ∙ other ne);
    })

claiming-keeps : (v : View) (k claim : ℕ) → ((claiming_view v k claim).number ≡ v.number) × ((claiming_view v k claim).own ≡ v.own)
claiming-keeps v k claim = elim (eqb claim v.epoch) as (λ b. ((cond b (knowing_view v k) (holding_view v k)).number ≡ v.number) × ((cond b (knowing_view v k) (holding_view v k)).own ≡ v.own)) [ true ↦ (refl, refl) | false ↦ (refl, refl) ]

seat-number : (v : ℕ) (s : State) → IsSound s → IsOut v s → (seat_of v s).number ≡ v
seat-number v s h out = ap (λ (z : View). z.number) (seat-of-worker v s (h.phase.numbers v out)) ∙ (out-found v s h out).number

seat-own : (w v : ℕ) (s : State) → IsSound s → IsOut v s → v ≡ w → (seat_of v s).own ≡ (view_of w s.seats).own
seat-own w v s h out e = ap (λ (z : View). z.own) (seat-of-worker v s (h.phase.numbers v out)) ∙ ap (λ (n : ℕ). (view_of n s.seats).own) e

store-stays : (w v b x : ℕ) (s : State) → IsSound s → IsOut w s → IsOut v s
    → StaysOut w (cond (eqb v w) ((b, x) ∷ (view_of w s.seats).own) (view_of w s.seats).own) (with_seat v (cond (eqb v 0) (based_view (seat_of v s) b x) (storing_view (seat_of v s) b x)) (with_word (memory_word b) x s))
store-stays w v b x s h out out-v = let
    some_v = h.phase.numbers v out-v in let
    Made : Bool → Type 0 = λ t. StaysOut w (cond (eqb v w) ((b, x) ∷ (view_of w s.seats).own) (view_of w s.seats).own) (with_seat v (cond t (based_view (seat_of v s) b x) (storing_view (seat_of v s) b x)) (with_word (memory_word b) x s)) in
    subst Made (sym (ne_eqb v 0 (λ e. omega arith)))
    (worker-stays w v (storing_view (seat_of v s) b x) s (with_word (memory_word b) x s) (cond (eqb v w) ((b, x) ∷ (view_of w s.seats).own) (view_of w s.seats).own) h out out-v refl refl (seat-number v s h out-v)
    (λ e. ap (λ (l : List (ℕ × ℕ)). (b, x) ∷ l) (seat-own w v s h out-v e) ∙ sym (ap (λ (t : Bool). cond t ((b, x) ∷ (view_of w s.seats).own) (view_of w s.seats).own) (eq-eqb v w e)))
    (λ ne. sym (ap (λ (t : Bool). cond t ((b, x) ∷ (view_of w s.seats).own) (view_of w s.seats).own) (ne_eqb v w ne))))

-- a lawful step but a settle, and but the worker's own join, keeps its seat out
pub step-stays : (x : Step) (w : ℕ) (s : State) → IsSound s → s.main.posted ≡ true → Lawful x s → is_settle x ≡ false → is_join w x ≡ false → IsOut w s → StaysOut w (own_after x w (view_of w s.seats).own) (state_after x s)
step-stays (Post plan) w s h on p go stay out = absurd (not_both s.main.posted on p.0)
step-stays (Split v) w s h on p go stay out = let f = out-found w s h out in record {
  out = has-there w v s.main.out out;
  own-is = ap (λ (z : View). z.own) (view-snoc-old w (lent_view s.main v) s.seats f.place (view_of w s.seats) f.at f.number);
}
step-stays (Load i a) w s h on p go stay out = stays w s out
step-stays (Store v b x) w s h on p go stay out = ⊎_elim (λ q. absurd (not_both s.main.posted on q.1.0)) (λ q. store-stays w v b (cast_unsigned w64 x) s h out q.0) p
step-stays (See v) w s h on p go stay out = ⊎_elim
    (λ (q : v ≡ 0). subst (λ (n : ℕ). StaysOut w (view_of w s.seats).own (with_seat n (seeing_view (seat_of n s) (flag_of s.words)) s)) (sym q) (record { out = out; own-is = refl }))
    (λ (q : IsOut v s). worker-stays w v (seeing_view (seat_of v s) (flag_of s.words)) s s (view_of w s.seats).own h out q refl refl (seat-number v s h q) (seat-own w v s h q) (λ _. refl)) p
step-stays (Raise v) w s h on p go stay out = worker-stays w v (failed_view (seat_of v s)) s (with_word 0 (seat_of v s).epoch s) (view_of w s.seats).own h out p refl refl (seat-number v s h p) (seat-own w v s h p) (λ _. refl)
step-stays (Claim v k) w s h on p go stay out = let c = claiming-keeps (seat_of v s) k (claim_of s.words k) in
    worker-stays w v (claiming_view (seat_of v s) k (claim_of s.words k)) s (with_word (claim_word k) (seat_of v s).epoch s) (view_of w s.seats).own h out p.0 refl refl (c.0 ∙ seat-number v s h p.0) (λ e. c.1 ∙ seat-own w v s h p.0 e) (λ _. refl)
step-stays (Join v) w s h on p go stay out = let
    some-w = h.phase.numbers w out in let
    apart : w ≢ v = (λ e. not_both (eqb v w) (eq-eqb v w (sym e)) stay) in let
    number = (out-found v s h p).number in
    record {
      out = subst (λ (n : ℕ). has w (without n s.main.out) ≡ true) (sym number) (has-without w v s.main.out apart out);
      own-is = ap (λ (z : View). z.own) (view-with-other w v spent_view s.seats (λ e. apart (sym e)) (λ z. absurd (omega arith)));
    }
step-stays Settle w s h on p go stay out = absurd (true≢false go)
