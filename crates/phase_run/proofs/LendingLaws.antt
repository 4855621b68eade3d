-- What main knows after it lent one more seat, and what the seat is.
use Rattle.std.proofs.Common.{◌≡◌, ℕ, ◌+◌, ◌≤◌, pos, Bool, true, false, List, [], ◌∷◌, ◌++◌, length, refl, sym, ap, ◌∙◌, subst, inl, ⊎_elim, arith}
use Rattle.core_steps.specs.declared.view.View.{View}
use Rattle.core_steps.specs.declared.plan.Plan.{Plan}
use Rattle.core_steps.specs.Numbers.{has}
use Rattle.core_steps.specs.Views.{lent_view}
use Rattle.core_steps.proofs.NumberListLaws.{has-cons}
use Rattle.plain_lemmas.specs.Lists.{Has}
use Rattle.plain_lemmas.proofs.MembershipLaws.{has-left, has-right, has-cases}
use Rattle.follow_chunk.specs.Tasks.{TaskState, IsTask}
use Rattle.verified_turns.specs.Workers.{Status, StaysWithin, IsFresh}
use Rattle.phase_run.specs.Postings.{PostingState, IsPostable}
use Rattle.phase_run.specs.Seats.{IsOfPhase, AreOfPhase, IsPosted, OnlyTheirs}

-- no number past the last one is out
pub not-out : (out : List ℕ) (last : ℕ) → ((n : ℕ) → has n out ≡ true → n ≤ last) → has (last + 1) out ≡ false
not-out out last all = by (has (last + 1) out) refl
  where
    by : (b : Bool) → has (last + 1) out ≡ b → b ≡ false
    by false e = refl
    by true e = let le = all (last + 1) e in absurd (omega (arith, le))

pub still-below : (out : List ℕ) (last : ℕ) → ((n : ℕ) → has n out ≡ true → n ≤ last) → (n : ℕ) → has n ((last + 1) ∷ out) ≡ true → n ≤ last + 1
still-below out last all n h = ⊎_elim (λ e. omega (arith, e)) (λ there. let le = all n there in omega (arith, le)) (has-cons n (last + 1) out h)

-- a seat that main, as it posted the phase but for who is out, lent
module _ {D : ℕ} (k : TaskState) (p : PostingState) (first m v : View) (number : ℕ) (same : m ≡ record first { out = m.out }) (posted : IsPosted p first) (may : IsPostable D (length first.base) k p) (lent : v ≡ lent_view m number) where
  pub lent-base : v.base ≡ first.base
  lent-base = ap (λ (u : View). u.base) lent ∙ ap (λ (u : View). u.base) same

  pub lent-plan : v.plan ≡ p.plan
  lent-plan = ap (λ (u : View). u.plan) lent ∙ ap (λ (u : View). u.plan) same ∙ posted.plan

  pub fresh : IsFresh v
  fresh = record {
    posted = ap (λ (u : View). u.posted) lent ∙ ap (λ (u : View). u.posted) same ∙ posted.posted;
    held = ap (λ (u : View). u.held) lent;
    own = ap (λ (u : View). u.own) lent;
    failed = ap (λ (u : View). u.failed) lent;
    seen = ap (λ (u : View). u.seen) lent;
  }

  pub long : length p.lists ≡ length v.plan.tiles
  long = may.lists ∙ ap (λ (q : Plan). length q.tiles) (sym lent-plan)

  pub task : IsTask D k (pos (length v.base))
  task = subst (λ (b : List ℕ). IsTask D k (pos (length b))) (sym lent-base) may.task

  pub within : StaysWithin k (length v.base) v.plan p.lists
  within = subst (λ (q : Plan). StaysWithin k (length v.base) q p.lists) (sym lent-plan) (subst (λ (b : List ℕ). StaysWithin k (length b) p.plan p.lists) (sym lent-base) may.within)

-- one worker more
module _ {D : ℕ} (ws vs : List (Status D)) (w : Status D) (is : vs ≡ ws ++ w ∷ []) where
  pub one-more : (k : TaskState) (p : PostingState) (base : List ℕ) → AreOfPhase k p base ws → IsOfPhase k p base w → AreOfPhase k p base vs
  one-more k p base all this u h =
      ⊎_elim (λ before. all u before)
      (λ last. ⊎_elim (λ e. subst (IsOfPhase k p base) (sym e) this) (λ none. absurd none) last)
      (has-cases ws (w ∷ []) u (subst (λ (l : List (Status D)). Has l u) is h))

  pub theirs-more : (out : List ℕ) (n : ℕ) → w.view.number ≡ n → OnlyTheirs out ws → OnlyTheirs (n ∷ out) vs
  theirs-more out n number all k h =
      ⊎_elim (λ e. (w, subst (λ (l : List (Status D)). Has l w) (sym is) (has-right ws (w ∷ []) w (inl refl)), number ∙ sym e))
      (λ there. let (u, before, same) = all k there in (u, subst (λ (l : List (Status D)). Has l u) (sym is) (has-left ws (w ∷ []) u before), same))
      (has-cons k n out h)
