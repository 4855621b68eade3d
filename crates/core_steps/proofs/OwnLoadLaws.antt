-- A worker's load, over the steps of a phase.
use Rattle.std.proofs.Common.{◌≡◌, ◌≢◌, ℕ, suc, ◌<◌, Bool, true, false, true≢false, ◌&&◌, eqb, cond, List, [], ◌∷◌, length, Option, Some, None, get_or, ⊎_elim, refl, sym, ap, ◌∙◌, subst, eq-eqb, ne_eqb, arith}
use Rattle.std.specs.Prelude.{ℤ, unwrap_or}
use Rattle.std.specs.List.{list_any}
use Rattle.std.specs.Int.{w64, cast_unsigned, cast_signed}
use Rattle.std.proofs.lemmas.Bool.{or_parts}
use mathlib.Core.Logic.{dite}
use native.Mathlib.Decide.{ℕ_discrete}
use Rattle.core_steps.specs.declared.plan.Plan.{Plan}
use Rattle.core_steps.specs.declared.step.Step.{Step}
use Rattle.core_steps.specs.declared.step.Step.TheVariants.{Post, Split, Load, Store, See, Raise, Claim, Join, Settle}
use Rattle.core_steps.specs.declared.view.View.{View}
use Rattle.core_steps.specs.Numbers.{has}
use Rattle.core_steps.specs.Plans.{touches}
use Rattle.core_steps.specs.Views.{stored_at, lent_view}
use Rattle.core_steps.specs.States.{State, views_of, view_of, word_of, memory_of, IsOut}
use Rattle.core_steps.specs.Steps.{Lawful, Runs, state_after, answer_of, with_seat}
use Rattle.core_steps.specs.Invariant.{At, IsSound}
use Rattle.core_steps.specs.Laws.{is_settle, is_join, IsInPhase, stored_after, latest}
use Rattle.core_steps.proofs.NumberListLaws.{not_both, has-cons, has-rest}
use Rattle.core_steps.proofs.StoreListLaws.{stored-same, stored-other}
use Rattle.core_steps.proofs.WordListLaws.{shows-memory}
use Rattle.core_steps.proofs.LoadKeeps.{load-value}
use Rattle.core_steps.proofs.StateStepLaws.{step-keeps, out-found, any-held, with-seat-worker}
use Rattle.core_steps.proofs.PhaseLaws.{phase-state, step-in-phase, reached-sound}
use Rattle.core_steps.proofs.OwnValueLaws.{step-stays, own_after, view-snoc-new}

abbrev pub is_split : ℕ → Step → Bool
is_split w (Split v) = eqb v w
is_split w (Post _) = false
is_split w (Load _ _) = false
is_split w (Store _ _ _) = false
is_split w (See _) = false
is_split w (Raise _) = false
is_split w (Claim _ _) = false
is_split w (Join _) = false
is_split w Settle = false

-- a worker's step leaves who is out
out-with-seat : (w v : ℕ) (u : View) (s t : State) → 0 < v → t.main ≡ s.main → IsOut w (with_seat v u t) → IsOut w s
out-with-seat w v u s t some_v same out = subst (λ (m : View). has w m.out ≡ true) (ap (λ (z : State). z.main) (with-seat-worker v u t some_v) ∙ same) out

-- a seat that is out after a step, and was not lent by it, was out before, and the step didn't take it back
out-before : (x : Step) (w : ℕ) (s : State) → IsSound s → s.main.posted ≡ true → Lawful x s → is_settle x ≡ false → is_split w x ≡ false → IsOut w (state_after x s) → IsOut w s × (is_join w x ≡ false)
out-before (Post plan) w s h on p go fresh out = absurd (not_both s.main.posted on p.0)
out-before (Split v) w s h on p go fresh out = ⊎_elim (λ e. absurd (not_both (eqb v w) (eq-eqb v w (sym e)) fresh)) (λ r. (r, refl)) (has-cons w v s.main.out out)
out-before (Load i a) w s h on p go fresh out = (out, refl)
out-before (Store v b x) w s h on p go fresh out = ⊎_elim (λ q. absurd (not_both s.main.posted on q.1.0)) (λ q. (out-with-seat w v _ s _ (h.phase.numbers v q.0) refl out, refl)) p
out-before (See v) w s h on p go fresh out = ⊎_elim
    (λ (q : v ≡ 0). (subst (λ (n : ℕ). IsOut w (state_after (See n) s)) q out, refl))
    (λ (q : IsOut v s). (out-with-seat w v _ s s (h.phase.numbers v q) refl out, refl)) p
out-before (Raise v) w s h on p go fresh out = (out-with-seat w v _ s _ (h.phase.numbers v p) refl out, refl)
out-before (Claim v k) w s h on p go fresh out = (out-with-seat w v _ s _ (h.phase.numbers v p.0) refl out, refl)
out-before (Join v) w s h on p go fresh out = let
    number = (out-found v s h p).number in
    let rest = has-rest w (view_of v s.seats).number s.main.out out in
    (rest.1, ne_eqb v w (λ e. rest.0 (sym (number ∙ e))))
out-before Settle w s h on p go fresh out = absurd (true≢false go)

-- what the step stored is found in the own values after it
stored-in-own : (x : Step) (w a : ℕ) (own : List (ℕ × ℕ)) (stored : Option ℕ) → stored_at a own ≡ stored → is_split w x ≡ false → stored_at a (own_after x w own) ≡ stored_after w a x stored
stored-in-own (Post plan) w a own stored is fresh = is
stored-in-own (Split v) w a own stored is fresh = is ∙ sym (ap (λ (b : Bool). cond b None stored) fresh)
stored-in-own (Load i b) w a own stored is fresh = is
stored-in-own (Store v b x) w a own stored is fresh = let bits : ℕ = cast_unsigned w64 x in dite (ℕ_discrete v w)
    (λ e. ap (λ (t : Bool). stored_at a (cond t ((b, bits) ∷ own) own)) (eq-eqb v w e) ∙ dite (ℕ_discrete b a)
    (λ here. stored-same a (b, bits) own here ∙ sym (ap (λ (t : Bool). cond (t && eqb b a) (Some bits) stored) (eq-eqb v w e) ∙ ap (λ (t : Bool). cond t (Some bits) stored) (eq-eqb b a here)))
    (λ other. stored-other a (b, bits) own other ∙ is ∙ sym (ap (λ (t : Bool). cond (t && eqb b a) (Some bits) stored) (eq-eqb v w e) ∙ ap (λ (t : Bool). cond t (Some bits) stored) (ne_eqb b a other))))
    (λ ne. ap (λ (t : Bool). stored_at a (cond t ((b, bits) ∷ own) own)) (ne_eqb v w ne) ∙ is ∙ sym (ap (λ (t : Bool). cond (t && eqb b a) (Some bits) stored) (ne_eqb v w ne)))
stored-in-own (See i) w a own stored is fresh = is
stored-in-own (Raise i) w a own stored is fresh = is
stored-in-own (Claim i k) w a own stored is fresh = is
stored-in-own (Join i) w a own stored is fresh = is
stored-in-own Settle w a own stored is fresh = is

-- a seat that was lent just now has stored nothing
lent-stores : (x : Step) (w a : ℕ) (s : State) (stored : Option ℕ) → IsSound s → Lawful x s → is_split w x ≡ true → stored_at a (view_of w (state_after x s).seats).own ≡ stored_after w a x stored
lent-stores (Split v) w a s stored h p t = dite (ℕ_discrete v w)
    (λ e. ap (λ (z : View). stored_at a z.own) (view-snoc-new w (lent_view s.main v) s.seats (λ i u at is. none i u at (is ∙ sym e)) e) ∙ sym (ap (λ (b : Bool). cond b None stored) t))
    (λ ne. absurd (not_both (eqb v w) t (ne_eqb v w ne))) where
      none : (i : ℕ) (u : View) → At s.seats i u → u.number ≢ v
      none i u at is = let of = h.phase.lent (suc i) u at (let some_v = p.1 in omega arith) in not_both (has v s.main.out) (subst (λ (n : ℕ). has n s.main.out ≡ true) is of.out) p.2
lent-stores (Post plan) w a s stored h p t = absurd (true≢false (sym t))
lent-stores (Load i b) w a s stored h p t = absurd (true≢false (sym t))
lent-stores (Store v b x) w a s stored h p t = absurd (true≢false (sym t))
lent-stores (See i) w a s stored h p t = absurd (true≢false (sym t))
lent-stores (Raise i) w a s stored h p t = absurd (true≢false (sym t))
lent-stores (Claim i k) w a s stored h p t = absurd (true≢false (sym t))
lent-stores (Join i) w a s stored h p t = absurd (true≢false (sym t))
lent-stores Settle w a s stored h p t = absurd (true≢false (sym t))

step-stores : (x : Step) (w a : ℕ) (s : State) (stored : Option ℕ) → IsSound s → s.main.posted ≡ true → Lawful x s → is_settle x ≡ false
    → (IsOut w s → stored_at a (view_of w s.seats).own ≡ stored) → IsOut w (state_after x s) → stored_at a (view_of w (state_after x s).seats).own ≡ stored_after w a x stored
step-stores x w a s stored h on p go before out = by-split (is_split w x) refl where
  by-split : (b : Bool) → is_split w x ≡ b → stored_at a (view_of w (state_after x s).seats).own ≡ stored_after w a x stored
  by-split true t = lent-stores x w a s stored h p t
  by-split false t = let
      was = out-before x w s h on p go t out in let
      after = step-stays x w s h on p go was.1 was.0 in
      ap (λ (l : List (ℕ × ℕ)). stored_at a l) after.own-is ∙ stored-in-own x w a (view_of w s.seats).own stored (before was.0) t

run-stores : (steps : List Step) (w a : ℕ) (s t : State) (stored : Option ℕ) → IsSound s → s.main.posted ≡ true → Runs steps s t → list_any is_settle steps ≡ false
    → (IsOut w s → stored_at a (view_of w s.seats).own ≡ stored) → IsOut w t → stored_at a (view_of w t.seats).own ≡ latest w a steps stored
run-stores [] w a s t stored h on run go before = subst (λ (z : State). IsOut w z → stored_at a (view_of w z.seats).own ≡ stored) run before
run-stores (x ∷ xs) w a s t stored h on run go before = let
    none = or_parts (is_settle x) (list_any is_settle xs) go in let
    step = step-in-phase x s h on run.0 none.0 in
    run-stores xs w a (state_after x s) t (stored_after w a x stored) (step-keeps x s h run.0) (step.posted ∙ on) run.1 none.1 (step-stores x w a s stored h on run.0 none.0 before)

worker-load : (words : List ℤ) (before : List Step) (plan : Plan) (steps : List Step) (s t : State) → IsInPhase words before plan steps s t
    → (w a : ℕ) → IsOut w t → list_any (λ k. touches (view_of w t.seats).plan k a) (view_of w t.seats).held ≡ true → word_of t.words a ≡ unwrap_or (latest w a steps None) (word_of s.words a)
worker-load words before plan steps s t p w a out may = let
    phase = phase-state words before plan steps s t p in let
    h = phase.sound in let
    f = out-found w t h out in let
    v : View = view_of w t.seats in let
    some-w = h.phase.numbers w out in let
    number = f.number in let
    of = h.phase.lent (suc f.place) v f.at (omega arith) in let
    tile = any-held (λ k. touches v.plan k a) v.held may in let
    value = load-value t.words t.main (views_of t) (suc f.place) tile.0 a v h f.at (omega arith) tile.1 tile.2 in let
    start = reached-sound words before s p.reached in let
    posted : IsSound (state_after (Post plan) s) = step-keeps (Post plan) s start p.posted in let
    none_out : ¬ IsOut w (state_after (Post plan) s) = (λ o. true≢false (sym o ∙ ap (λ (l : List ℕ). has w l) p.posted.1)) in let
    stored = run-stores steps w a (state_after (Post plan) s) t None posted refl p.within.run p.within.unsettled (λ o. absurd (none_out o)) out in let
    base : v.base ≡ memory_of s.words = of.base ∙ phase.base-is in let
    inside : a < length t.main.base = h.phase.inside tile.0 a (subst (λ (q : Plan). touches q tile.0 a ≡ true) of.plan tile.2) in let
    within : a < length (memory_of s.words) = subst (λ (b : List ℕ). a < length b) phase.base-is inside in let
    wide = start.phase.width in let
    shows = shows-memory s.words (omega arith) in let
    at-post : get_or v.base a 0 ≡ word_of s.words a = ap (λ (b : List ℕ). get_or b a 0) base ∙ sym (shows.values a within) in
    value ∙ ap (λ (o : Option ℕ). unwrap_or o (get_or v.base a 0)) stored ∙ ap (λ (n : ℕ). unwrap_or (latest w a steps None) n) at-post

pub load-own-or-post : (words : List ℤ) (before : List Step) (plan : Plan) (steps : List Step) (s t : State) → IsInPhase words before plan steps s t
    → (w a : ℕ) → Lawful (Load w a) t → answer_of (Load w a) t ≡ cast_signed w64 (unwrap_or (latest w a steps None) (word_of s.words a))
load-own-or-post words before plan steps s t p w a may = let
    phase = phase-state words before plan steps s t p in
    ⊎_elim (λ q. absurd (not_both t.main.posted phase.posted q.1.0)) (λ q. ap (λ (n : ℕ). cast_signed w64 n) (worker-load words before plan steps s t p w a q.0 q.1)) may
