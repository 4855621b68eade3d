-- What stays from a post to its settle.
use Rattle.std.proofs.Common.{◌≡◌, ℕ, zero, suc, ◌<◌, true, false, true≢false, List, [], ◌∷◌, length, Option, Some, None, get_or, ⊎_elim, refl, sym, ap, ◌∙◌, subst, arith}
use Rattle.std.specs.Prelude.{ℤ}
use Rattle.std.specs.List.{list_any}
use Rattle.std.proofs.lemmas.Bool.{or_parts}
use mathlib.Core.Option.{some-injective}
use lib.ListN.{get_elem?}
use Rattle.core_steps.specs.declared.plan.Plan.{Plan}
use Rattle.core_steps.specs.declared.step.Step.{Step}
use Rattle.core_steps.specs.declared.step.Step.TheVariants.{Post, Split, Load, Store, See, Raise, Claim, Join, Settle}
use Rattle.core_steps.specs.declared.view.View.{View}
use Rattle.core_steps.specs.Plans.{writes}
use Rattle.core_steps.specs.Views.{Holds, Knows, stored_at}
use Rattle.core_steps.specs.States.{State, start_of, bits_of, views_of, view_of, flag_of, word_of, memory_of, IsOut, IsWord}
use Rattle.core_steps.specs.Steps.{Lawful, Runs, state_after, with_seat}
use Rattle.core_steps.specs.Invariant.{At, Each, IsUntouched, IsSound}
use Rattle.core_steps.specs.Laws.{IsReached, is_settle, IsInPhase}
use Rattle.core_steps.proofs.NumberListLaws.{not_both, has-none}
use Rattle.core_steps.proofs.WordListLaws.{shows-memory}
use Rattle.core_steps.proofs.StateStepLaws.{step-keeps, run-keeps, out-found, with-seat-worker}
use Rattle.core_steps.proofs.StartLaws.{first-sound}
use Rattle.core_steps.proofs.QuietViewLaws.{all-spent}

pub reached-sound : (words : List ℤ) (steps : List Step) (s : State) → IsReached words steps s → IsSound s
reached-sound words steps s run = run-keeps steps (start_of words) s (first-sound (bits_of words)) run

-- main's part that a phase leaves as it is
pub record IsSamePhase (m n : View) : Type 0 where
  pub posted : n.posted ≡ m.posted
  pub epoch : n.epoch ≡ m.epoch
  pub base : n.base ≡ m.base
  pub plan : n.plan ≡ m.plan

same-phase : (m : View) → IsSamePhase m m
same-phase m = record { posted = refl; epoch = refl; base = refl; plan = refl }

-- a worker's step leaves main's view
main-with_seat : (w : ℕ) (u : View) (s : State) → 0 < w → (with_seat w u s).main ≡ s.main
main-with_seat w u s some-w = ap (λ (t : State). t.main) (with-seat-worker w u s some-w)

worker-leaves : (w : ℕ) (u : View) (s t : State) → 0 < w → t.main ≡ s.main → IsSamePhase s.main (with_seat w u t).main
worker-leaves w u s t some-w same = subst (λ (m : View). IsSamePhase s.main m) (sym (main-with_seat w u t some-w ∙ same)) (same-phase s.main)

-- a lawful step but a settle leaves the phase
pub step-in-phase : (x : Step) (s : State) → IsSound s → s.main.posted ≡ true → Lawful x s → is_settle x ≡ false → IsSamePhase s.main (state_after x s).main
step-in-phase (Post plan) s h on p go = absurd (not_both s.main.posted on p.0)
step-in-phase (Split w) s h on p go = record { posted = refl; epoch = refl; base = refl; plan = refl }
step-in-phase (Load i a) s h on p go = same-phase s.main
step-in-phase (Store i a x) s h on p go = ⊎_elim (λ q. absurd (not_both s.main.posted on q.1.0)) (λ q. worker-leaves i _ s _ (h.phase.numbers i q.0) refl) p
step-in-phase (See i) s h on p go = ⊎_elim (λ (q : i ≡ 0). subst (λ (j : ℕ). IsSamePhase s.main (state_after (See j) s).main) (sym q) (record { posted = refl; epoch = refl; base = refl; plan = refl })) (λ q. worker-leaves i _ s s (h.phase.numbers i q) refl) p
step-in-phase (Raise w) s h on p go = worker-leaves w _ s _ (h.phase.numbers w p) refl
step-in-phase (Claim w k) s h on p go = worker-leaves w _ s _ (h.phase.numbers w p.0) refl
step-in-phase (Join w) s h on p go = record { posted = refl; epoch = refl; base = refl; plan = refl }
step-in-phase Settle s h on p go = absurd (true≢false go)

joined-phases : (m n o : View) → IsSamePhase m n → IsSamePhase n o → IsSamePhase m o
joined-phases m n o p q = record { posted = q.posted ∙ p.posted; epoch = q.epoch ∙ p.epoch; base = q.base ∙ p.base; plan = q.plan ∙ p.plan }

pub run-in-phase : (steps : List Step) (s t : State) → IsSound s → s.main.posted ≡ true → Runs steps s t → list_any is_settle steps ≡ false → IsSamePhase s.main t.main
run-in-phase [] s t h on run go = subst (λ (u : State). IsSamePhase s.main u.main) run (same-phase s.main)
run-in-phase (x ∷ xs) s t h on run go = let
    none = or_parts (is_settle x) (list_any is_settle xs) go in let
    step = step-in-phase x s h on run.0 none.0 in
    joined-phases s.main (state_after x s).main t.main step (run-in-phase xs (state_after x s) t (step-keeps x s h run.0) (step.posted ∙ on) run.1 none.1)

-- the state in a phase is sound, and main's base shows the words at the post
pub record IsPhaseState (plan : Plan) (s t : State) : Type 0 where
  pub sound : IsSound t
  pub posted : t.main.posted ≡ true
  pub plan-is : t.main.plan ≡ plan
  pub base-is : t.main.base ≡ memory_of s.words

pub phase-state : (words : List ℤ) (before : List Step) (plan : Plan) (steps : List Step) (s t : State) → IsInPhase words before plan steps s t → IsPhaseState plan s t
phase-state words before plan steps s t p = let
    start = reached-sound words before s p.reached in let
    posted : IsSound (state_after (Post plan) s) = step-keeps (Post plan) s start p.posted in let
    same = run-in-phase steps (state_after (Post plan) s) t posted refl p.within.run p.within.unsettled in
    record { sound = run-keeps steps (state_after (Post plan) s) t posted p.within.run; posted = same.posted; plan-is = same.plan; base-is = same.base }

-- main's base has the word at the post
pub base-at-post : (words : List ℤ) (before : List Step) (s : State) (a : ℕ) → IsReached words before s → IsWord a s → (word_of s.words a ≡ get_or (memory_of s.words) a 0) × (a < length (memory_of s.words))
base-at-post words before s a reached word = let
    wide = (reached-sound words before s reached).phase.width in let
    shows = shows-memory s.words (omega arith) in let
    len = shows.width in let
    within : a < length (memory_of s.words) = omega arith in
    (shows.values a within, within)

untouched-word : (plan : Plan) (t : State) (a : ℕ) → IsSound t → t.main.plan ≡ plan → ((k : ℕ) → writes plan k a ≡ false) → IsUntouched (views_of t) a
untouched-word plan t a h same none j u at = by-option (stored_at a u.own) refl where
  by-option : (o : Option ℕ) → stored_at a u.own ≡ o → o ≡ None
  by-option None _ = refl
  by-option (Some x) is = let o = h.values.owned a x j u at is in absurd (not_both (writes plan o.0 a) (subst (λ (p : Plan). writes p o.0 a ≡ true) same o.2) (none o.0))

pub other-words-keep : (words : List ℤ) (before : List Step) (plan : Plan) (steps : List Step) (s t : State) → IsInPhase words before plan steps s t → (a : ℕ) → IsWord a s → ((k : ℕ) → writes plan k a ≡ false) → word_of t.words a ≡ word_of s.words a
other-words-keep words before plan steps s t p a word none = let
    phase = phase-state words before plan steps s t p in let
    post = base-at-post words before s a p.reached word in let
    within : a < length t.main.base = subst (λ (b : List ℕ). a < length b) (sym phase.base-is) post.1 in
    phase.sound.values.base a within (untouched-word plan t a phase.sound phase.plan-is none) ∙ ap (λ (b : List ℕ). get_or b a 0) phase.base-is ∙ sym post.0

-- a settle is lawful where no seat is out, so that main alone holds, knows and has failed
pub known-held : (s : State) → IsSound s → Lawful Settle s → (k : ℕ) → Each (λ _ v. Knows v k → Holds s.main k) (views_of s)
known-held s h p k j u at known = let
    c = h.tiles.known k j u at known in let
    some = h.tiles.held p.0 k c.0 c.1 in
    by_place some.0 some.1 some.2 some.3 where
      by_place : (i : ℕ) (v : View) → At (views_of s) i v → Holds v k → Holds s.main k
      by_place zero v e holds = subst (λ (z : View). Holds z k) (sym (some-injective s.main v e)) holds
      by_place (suc i) v e holds = absurd (has-none k v.held (ap (λ (z : View). z.held) (all-spent s.words s.main s.seats h.phase p.1 i v e)) holds)

pub main-failed : (s : State) → IsSound s → Lawful Settle s → flag_of s.words ≡ s.main.epoch → s.main.failed ≡ true
main-failed s h p raised = let some = h.phase.failure p.0 raised in by_place some.0 some.1 some.2 some.3 where
  by_place : (i : ℕ) (v : View) → At (views_of s) i v → v.failed ≡ true → s.main.failed ≡ true
  by_place zero v e failed = ap (λ (z : View). z.failed) (some-injective s.main v e) ∙ failed
  by_place (suc i) v e failed = absurd (true≢false (sym failed ∙ ap (λ (z : View). z.failed) (all-spent s.words s.main s.seats h.phase p.1 i v e)))

pub one-holder-of : (s : State) → IsSound s → (i j k : ℕ) → IsOut i s → IsOut j s → Holds (view_of i s.seats) k → Holds (view_of j s.seats) k → i ≡ j
one-holder-of s h i j k out-i out-j holds-i holds-j = let
    f = out-found i s h out-i in let
    g = out-found j s h out-j in let
    same : suc f.place ≡ suc g.place = h.tiles.one_holder k (suc f.place) (suc g.place) (view_of i s.seats) (view_of j s.seats) f.at g.at holds-i holds-j in let
    place : f.place ≡ g.place = omega (arith, same) in let
    view : view_of i s.seats ≡ view_of j s.seats = some-injective (view_of i s.seats) (view_of j s.seats) (sym f.at ∙ ap (λ (n : ℕ). get_elem? s.seats n) place ∙ g.at) in
    sym f.number ∙ ap (λ (v : View). v.number) view ∙ g.number
