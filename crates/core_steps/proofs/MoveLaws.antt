-- What a step keeps that changes the view of one worker.
use Rattle.std.proofs.Common.{◌≡◌, ◌≢◌, ℕ, ◌<◌, ◌≤◌, true, List, length, Some, None, set, sym, ap, ◌∙◌, subst, arith}
use mathlib.Core.Logic.{dite}
use native.Mathlib.Decide.{ℕ_discrete}
use Rattle.core_steps.specs.declared.view.View.{View}
use Rattle.core_steps.specs.Numbers.{has, IsSingle}
use Rattle.core_steps.specs.Plans.{writes}
use Rattle.core_steps.specs.Views.{Holds, Knows, stored_at, spent_view}
use Rattle.core_steps.specs.States.{flag_of, claim_of, word_of}
use Rattle.core_steps.specs.Invariant.{At, Each, Somewhere, IsUntouched, IsLentBy, PhaseIsSound, TilesAreSound, ValuesAreSound}
use Rattle.core_steps.proofs.ViewListLaws.{each-set, each-kept, somewhere-set, one-set, set-here, set-else, at-same}

-- the seat is the same, of the same phase
pub record IsSameSeat (v w : View) : Type 0 where
  pub number : w.number ≡ v.number
  pub posted : w.posted ≡ v.posted
  pub epoch : w.epoch ≡ v.epoch
  pub base : w.base ≡ v.base
  pub plan : w.plan ≡ v.plan

-- where the flag, the claims, and who failed or has seen the flag stay sound
pub phase-moves : (words ws : List ℕ) (m : View) (views : List View) (i : ℕ) (v w : View) → PhaseIsSound words m views → At views i v → 0 < v.number → IsSameSeat v w
    → length ws ≡ length words → flag_of ws ≤ m.epoch → ((k : ℕ) → k < 65536 → claim_of ws k ≤ m.epoch)
    → Each (λ _ u. u.failed ≡ true → flag_of ws ≡ m.epoch) (set views i w)
    → (m.posted ≡ true → flag_of ws ≡ m.epoch → Somewhere (λ u. u.failed ≡ true) (set views i w))
    → Each (λ _ u. u.seen ≡ true → flag_of ws ≡ m.epoch) (set views i w)
    → PhaseIsSound ws m (set views i w)
phase-moves words ws m views i v w h at out same len flag claims failed failure seen = let
    of = h.lent i v at out in let
    number = same.number in
    record {
      main_number = h.main_number;
      width = len ∙ h.width;
      flag = flag;
      claims = claims;
      stored = h.stored;
      none_out = h.none_out;
      nothing = h.nothing;
      separate = h.separate;
      few = h.few;
      inside = h.inside;
      numbers = h.numbers;
      distinct = h.distinct;
      one_view = λ n is_out. somewhere-set (λ u. u.number ≡ n) views i v w at (λ e. same.number ∙ e) (h.one_view n is_out);
      only_view = λ n some_n. one-set (λ u. u.number ≡ n) views i v w at (λ e. sym same.number ∙ e) (h.only_view n some_n);
      lent = each-set (λ _ u. 0 < u.number → IsLentBy m u) views i w
          (λ _. record { posted = same.posted ∙ of.posted; epoch = same.epoch ∙ of.epoch; base = same.base ∙ of.base; plan = same.plan ∙ of.plan; out = ap (λ (n : ℕ). has n m.out) same.number ∙ of.out })
          (λ j u _ e. h.lent j u e);
      spent = each-set (λ j u. j ≢ 0 → u.number ≡ 0 → u ≡ spent_view) views i w (λ _ none. absurd (omega arith)) (λ j u _ e. h.spent j u e);
      failed = failed;
      failure = failure;
      seen = seen;
    }

-- the same where the flag stays, and the view has failed and has seen the flag only where it had before
pub phase-stays : (words ws : List ℕ) (m : View) (views : List View) (i : ℕ) (v w : View) → PhaseIsSound words m views → At views i v → 0 < v.number → IsSameSeat v w
    → length ws ≡ length words → flag_of ws ≡ flag_of words → ((k : ℕ) → k < 65536 → claim_of ws k ≤ m.epoch) → w.failed ≡ v.failed → w.seen ≡ v.seen
    → PhaseIsSound ws m (set views i w)
phase-stays words ws m views i v w h at out same len flag claims failed seen =
    phase-moves words ws m views i v w h at out same len (subst (λ (n : ℕ). n ≤ m.epoch) (sym flag) h.flag) claims
    (each-set (λ _ u. u.failed ≡ true → flag_of ws ≡ m.epoch) views i w (λ t. flag ∙ h.failed i v at (sym failed ∙ t)) (λ j u _ e t. flag ∙ h.failed j u e t))
    (λ posted is. somewhere-set (λ u. u.failed ≡ true) views i v w at (λ t. failed ∙ t) (h.failure posted (sym flag ∙ is)))
    (each-set (λ _ u. u.seen ≡ true → flag_of ws ≡ m.epoch) views i w (λ t. flag ∙ h.seen i v at (sym seen ∙ t)) (λ j u _ e t. flag ∙ h.seen j u e t))

-- where the claims, and what the view holds and knows stay
pub tiles-stay : (words ws : List ℕ) (m : View) (views : List View) (i : ℕ) (v w : View) → TilesAreSound words m views → length m.plan.tiles ≤ 65536 → At views i v
    → ((k : ℕ) → k < 65536 → claim_of ws k ≡ claim_of words k) → w.held ≡ v.held → w.known ≡ v.known
    → TilesAreSound ws m (set views i w)
tiles-stay words ws m views i v w h few at claims held known = let
    less : (k : ℕ) → Holds w k → Holds v k = λ k t. ap (λ (l : List ℕ). has k l) (sym held) ∙ t in let
    more : (k : ℕ) → Holds v k → Holds w k = λ k t. ap (λ (l : List ℕ). has k l) held ∙ t in
    record {
      one_holder = λ k. one-set (λ u. Holds u k) views i v w at (less k) (h.one_holder k);
      once = each-kept (λ _ u. IsSingle u.held) views i v w at (λ t. subst IsSingle (sym held) t) h.once;
      claimed = λ k. each-set (λ _ u. Holds u k → (k < length m.plan.tiles) × (claim_of ws k ≡ m.epoch)) views i w
          (λ t. let c = h.claimed k i v at (less k t) in (c.0, claims k (omega arith) ∙ c.1))
          (λ j u _ e t. let c = h.claimed k j u e t in (c.0, claims k (omega arith) ∙ c.1));
      held = λ posted k lt is. somewhere-set (λ u. Holds u k) views i v w at (more k) (h.held posted k lt (sym (claims k (omega arith)) ∙ is));
      known = λ k. each-set (λ _ u. Knows u k → (k < length m.plan.tiles) × (claim_of ws k ≡ m.epoch)) views i w
          (λ t. let c = h.known k i v at (ap (λ (l : List ℕ). has k l) (sym known) ∙ t) in (c.0, claims k (omega arith) ∙ c.1))
          (λ j u _ e t. let c = h.known k j u e t in (c.0, claims k (omega arith) ∙ c.1));
    }

-- an address that no view has stored at, where the view at i changed and stored nothing
pub untouched-before : (views : List View) (i : ℕ) (v w : View) (a : ℕ) → At views i v → (stored_at a w.own ≡ None → stored_at a v.own ≡ None) → IsUntouched (set views i w) a → IsUntouched views a
untouched-before views i v w a at back none j u e = dite (ℕ_discrete j i)
    (λ same. let is : v ≡ u = at-same views i v u at (subst (λ (n : ℕ). At views n u) same e) in subst (λ (z : View). stored_at a z.own ≡ None) is (back (none i w (set-here views i v w at))))
    (λ apart. none j u (set-else views i j w u apart e))

-- where the memory and the view's own values stay, and it holds no fewer tiles
pub values-stay : (words ws : List ℕ) (m : View) (views : List View) (i : ℕ) (v w : View) → ValuesAreSound words m views → At views i v
    → ((a : ℕ) → word_of ws a ≡ word_of words a) → w.own ≡ v.own → ((k : ℕ) → Holds v k → Holds w k)
    → ValuesAreSound ws m (set views i w)
values-stay words ws m views i v w h at memory own more = let
    was : (a : ℕ) → stored_at a w.own ≡ stored_at a v.own = λ a. ap (λ (l : List (ℕ × ℕ)). stored_at a l) own in
    record {
      owned = λ a x. each-set (λ _ u. stored_at a u.own ≡ Some x → (k : ℕ) × Holds u k × (writes m.plan k a ≡ true)) views i w
          (λ is. let o = h.owned a x i v at (sym (was a) ∙ is) in (o.0, more o.0 o.1, o.2)) (λ j u _ e. h.owned a x j u e);
      own = λ a x. each-set (λ _ u. stored_at a u.own ≡ Some x → word_of ws a ≡ x) views i w
          (λ is. memory a ∙ h.own a x i v at (sym (was a) ∙ is)) (λ j u _ e is. memory a ∙ h.own a x j u e is);
      base = λ a lt none. memory a ∙ h.base a lt (untouched-before views i v w a at (λ z. sym (was a) ∙ z) none);
    }
