-- Moments: a step of a chunk leaves each word that is no address of the stripes.
use Rattle.std.proofs.Common.{◌≡◌, ℕ, suc, ◌<◌, Bool, true, false, true≢false, eqb, cond, List, [], ◌∷◌, ⊎_elim, refl, sym, ap, ◌∙◌, subst, arith}
use Rattle.std.specs.Int.{w64, cast_unsigned}
use Rattle.std.specs.List.{AllByRecursion}
use Rattle.core_steps.specs.declared.plan.Plan.{Plan}
use Rattle.core_steps.specs.declared.step.Step.{Step}
use Rattle.core_steps.specs.declared.step.Step.TheVariants.{Post, Split, Load, Store, See, Raise, Claim, Join, Settle}
use Rattle.core_steps.specs.declared.view.View.{View}
use Rattle.core_steps.specs.Plans.{writes}
use Rattle.core_steps.specs.Views.{may_store}
use Rattle.core_steps.specs.States.{State, memory_word, claim_word, word_of, view_of, with_view, IsOut}
use Rattle.core_steps.specs.Steps.{Lawful, MayTouch, Runs, state_after, seat_of, with_seat, with_word}
use Rattle.core_steps.specs.Invariant.{IsSound}
use Rattle.core_steps.proofs.NumberListLaws.{not_both, has-none}
use Rattle.core_steps.proofs.WordListLaws.{word-set-flag, word-set-claim, word-set-other}
use Rattle.core_steps.proofs.StateStepLaws.{step-keeps, out-found, any-held, with-seat-worker}
use Rattle.core_steps.proofs.PhaseLaws.{reached-sound}
use Rattle.plain_lemmas.specs.Lists.{Has}
use Rattle.skeletons.specs.Cells.{Extent}
use Rattle.tiles.specs.Plans.{ChunkPlan, Phase, IsPhaseOf, IsPlanOf}
use Rattle.chunk_run.specs.Moments.{IsStriped, IsStepOf, OthersStay}
use Rattle.chunk_run.proofs.CommitOrRollbackLaws.{from-all}
use Rattle.chunk_run.proofs.PhasePlanLaws.{tile-written}

-- where a plan is posted, it is that of a phase
abbrev PostsPhase : ChunkPlan → View → Type 0
PostsPhase p m = m.posted ≡ true → (phase : Phase) × Has p.phases phase × (m.plan ≡ phase.plan)

-- a plan is posted where a worker is out
posted-out : (w : ℕ) (s : State) → IsSound s → IsOut w s → s.main.posted ≡ true
posted-out w s h out = by s.main.posted refl
  where
    by : (b : Bool) → s.main.posted ≡ b → s.main.posted ≡ true
    by true is = is
    by false is = absurd (has-none w s.main.out (h.phase.none_out is) out)

-- another view leaves the words
seat-words : (i : ℕ) (u : View) (s : State) → (with_seat i u s).words ≡ s.words
seat-words i u s = by (eqb i 0)
  where
    by : (b : Bool) → (cond b (record s { main = u }) (record s { seats = with_view i u s.seats })).words ≡ s.words
    by true = refl
    by false = refl

module _ (p : ChunkPlan) where
  -- another view of a worker leaves main's
  worker-posts : (w : ℕ) (u : View) (s t : State) → 0 < w → t.main ≡ s.main → PostsPhase p s.main → PostsPhase p (with_seat w u t).main
  worker-posts w u s t some same h = subst (PostsPhase p) (sym (ap (λ (z : State). z.main) (with-seat-worker w u t some) ∙ same)) h

  step-posts : (x : Step) (s : State) → IsSound s → PostsPhase p s.main → Lawful x s → IsStepOf p x → PostsPhase p (state_after x s).main
  step-posts (Post plan) s h g l c = λ on. c
  step-posts (Split w) s h g l c = g
  step-posts (Load i a) s h g l c = g
  step-posts (Store i a x) s h g l c = ⊎_elim
      (λ (q : (i ≡ 0) × MayTouch a s). subst (λ (j : ℕ). PostsPhase p (state_after (Store j a x) s).main) (sym q.0) g)
      (λ (q : IsOut i s × (may_store (view_of i s.seats) a ≡ true)). worker-posts i _ s _ (h.phase.numbers i q.0) refl g) l
  step-posts (See i) s h g l c = ⊎_elim
      (λ (q : i ≡ 0). subst (λ (j : ℕ). PostsPhase p (state_after (See j) s).main) (sym q) g)
      (λ (q : IsOut i s). worker-posts i _ s s (h.phase.numbers i q) refl g) l
  step-posts (Raise w) s h g l c = worker-posts w _ s _ (h.phase.numbers w l) refl g
  step-posts (Claim w k) s h g l c = worker-posts w _ s _ (h.phase.numbers w l.0) refl g
  step-posts (Join w) s h g l c = g
  step-posts Settle s h g l c = λ on. absurd (true≢false (sym on))

  module _ (e : Extent) (count : ℕ) (planned : IsPlanOf e count p) where
    write-striped : (phase : Phase) (tile a : ℕ) → Has p.phases phase → writes phase.plan tile a ≡ true → IsStriped p a
    write-striped phase tile a has is =
        let w = tile-written e count phase.cells phase.plan.tiles tile a (from-all (IsPhaseOf e count) p.phases phase planned.phases has).tiles is in
        (planned.stores a).1 (record { at = w.0; predicted = w.1; writes = w.2 })

    -- where a worker may store
    store-striped : (w a : ℕ) (s : State) → IsSound s → PostsPhase p s.main → IsOut w s → may_store (view_of w s.seats) a ≡ true → IsStriped p a
    store-striped w a s h g out may =
        let f = out-found w s h out in
        let some : 0 < w = h.phase.numbers w out in
        let number = f.number in
        let of = h.phase.lent (suc f.place) (view_of w s.seats) f.at (omega (arith, some, number)) in
        let tile = any-held (λ k. writes (view_of w s.seats).plan k a) (view_of w s.seats).held may in
        let phase = g (posted-out w s h out) in
        write-striped phase.0 tile.0 a phase.1 (subst (λ (q : Plan). writes q tile.0 a ≡ true) (of.plan ∙ phase.2) tile.2)

    module _ (a : ℕ) (away : IsStriped p a → ⊥) where
      step-leaves : (x : Step) (s : State) → IsSound s → PostsPhase p s.main → Lawful x s → IsStepOf p x → word_of (state_after x s).words a ≡ word_of s.words a
      step-leaves (Post plan) s h g l c = refl
      step-leaves (Split w) s h g l c = refl
      step-leaves (Load i b) s h g l c = refl
      step-leaves (Store i b x) s h g l c =
          ap (λ (ws : List ℕ). word_of ws a) (seat-words i _ (with_word (memory_word b) (cast_unsigned w64 x) s))
          ∙ word-set-other s.words b a (cast_unsigned w64 x) (λ same. away (subst (IsStriped p) (sym same) (⊎_elim
          (λ (q : (i ≡ 0) × MayTouch b s). c q.0)
          (λ (q : IsOut i s × (may_store (view_of i s.seats) b ≡ true)). store-striped i b s h g q.0 q.1) l)))
      step-leaves (See i) s h g l c = ap (λ (ws : List ℕ). word_of ws a) (seat-words i _ s)
      step-leaves (Raise w) s h g l c =
          ap (λ (ws : List ℕ). word_of ws a) (seat-words w _ (with_word 0 (seat_of w s).epoch s)) ∙ word-set-flag s.words a (seat_of w s).epoch
      step-leaves (Claim w k) s h g l c =
          let few = h.phase.few in
          let inside = l.1 in
          ap (λ (ws : List ℕ). word_of ws a) (seat-words w _ (with_word (claim_word k) (seat_of w s).epoch s)) ∙ word-set-claim s.words k a (seat_of w s).epoch (omega (arith, few, inside))
      step-leaves (Join w) s h g l c = refl
      step-leaves Settle s h g l c = refl

      steps-leave : (steps : List Step) (s t : State) → IsSound s → PostsPhase p s.main → Runs steps s t → AllByRecursion (IsStepOf p) steps → word_of t.words a ≡ word_of s.words a
      steps-leave [] s t h g run each = ap (λ (z : State). word_of z.words a) (sym run)
      steps-leave (x ∷ xs) s t h g run each =
          steps-leave xs (state_after x s) t (step-keeps x s h run.0) (step-posts x s h g run.0 each.0) run.1 each.1 ∙ step-leaves x s h g run.0 each.0

pub others-stay : OthersStay
others-stay e count p words before steps s t planned moment a away =
    steps-leave p e count planned a away steps s t (reached-sound words before s moment.reached) (λ on. absurd (not_both s.main.posted on moment.unposted)) moment.run moment.each
