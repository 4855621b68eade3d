-- Each lawful step keeps a sound state.
use Rattle.std.proofs.Common.{◌≡◌, ◌≢◌, ℕ, zero, suc, ◌<◌, Bool, true, false, true≢false, eqb, cond, List, [], ◌∷◌, length, set, ◌⊎◌, ⊎_elim, refl, sym, ap, ◌∙◌, subst, eq-eqb, ne_eqb, arith}
use Rattle.std.specs.List.{list_any}
use Rattle.std.specs.Prelude.{if◌then◌else◌}
use Rattle.std.specs.Int.{w64, cast_unsigned}
use Rattle.std.proofs.lemmas.Bool.{or_cases}
use mathlib.Core.Option.{some-injective, some-ne-none}
use mathlib.Core.Logic.{dite}
use native.Mathlib.Decide.{ℕ_discrete}
use Rattle.core_steps.specs.declared.step.Step.{Step}
use Rattle.core_steps.specs.declared.step.Step.TheVariants.{Post, Split, Load, Store, See, Raise, Claim, Join, Settle}
use Rattle.core_steps.specs.declared.view.View.{View}
use Rattle.core_steps.specs.Numbers.{has}
use Rattle.core_steps.specs.Plans.{writes}
use Rattle.core_steps.specs.Views.{spent_view, storing_view, based_view, seeing_view, failed_view, claiming_view, joined_view, may_store}
use Rattle.core_steps.specs.States.{State, memory_word, claim_word, flag_of, claim_of, memory_of, views_of, view_of, with_view, IsOut, IsWord}
use Rattle.core_steps.specs.Steps.{Lawful, MayTouch, MayStore, Runs, state_after, seat_of, with_seat, with_word}
use Rattle.core_steps.specs.Invariant.{At, Inv, IsSound}
use Rattle.core_steps.proofs.WordListLaws.{shows-memory}
use Rattle.core_steps.proofs.PostKeeps.{post-keeps}
use Rattle.core_steps.proofs.SplitKeeps.{split-keeps}
use Rattle.core_steps.proofs.StoreKeeps.{store-keeps, main-store-keeps}
use Rattle.core_steps.proofs.SeeKeeps.{see-keeps, main-see-keeps}
use Rattle.core_steps.proofs.RaiseKeeps.{raise-keeps}
use Rattle.core_steps.proofs.ClaimKeeps.{claim-keeps}
use Rattle.core_steps.proofs.JoinKeeps.{join-keeps}
use Rattle.core_steps.proofs.SettleKeeps.{settle-keeps}
use Rattle.core_steps.proofs.NumberListLaws.{has-here, has-there}

-- the view of a worker in the list, its place there, and what it means to put another in its place
pub record IsFound (w : ℕ) (views : List View) : Type 0 where
  pub place : ℕ
  pub at : At views place (view_of w views)
  pub number : (view_of w views).number ≡ w
  pub with_set : (u : View) → with_view w u views ≡ set views place u

found-here : (w : ℕ) (x : View) (xs : List View) → x.number ≡ w → IsFound w (x ∷ xs)
found-here w x xs e = let t = eq-eqb x.number w e in let
    same : view_of w (x ∷ xs) ≡ x = ap (λ (b : Bool). cond b x (view_of w xs)) t in
    record {
      place = 0;
      at = subst (λ (u : View). At (x ∷ xs) 0 u) (sym same) refl;
      number = ap (λ (u : View). u.number) same ∙ e;
      with_set = λ u. ap (λ (b : Bool). cond b (u ∷ xs) (x ∷ with_view w u xs)) t;
    }

found-behind : (w : ℕ) (x : View) (xs : List View) → x.number ≢ w → IsFound w xs → IsFound w (x ∷ xs)
found-behind w x xs ne rest = let t = ne_eqb x.number w ne in let
    same : view_of w (x ∷ xs) ≡ view_of w xs = ap (λ (b : Bool). cond b x (view_of w xs)) t in
    record {
      place = suc rest.place;
      at = subst (λ (u : View). At xs rest.place u) (sym same) rest.at;
      number = ap (λ (u : View). u.number) same ∙ rest.number;
      with_set = λ u. ap (λ (b : Bool). cond b (u ∷ xs) (x ∷ with_view w u xs)) t ∙ ap (λ (l : List View). x ∷ l) (rest.with_set u);
    }

-- a number that some view of the list has is found
pub found : (w : ℕ) (views : List View) (i : ℕ) (v : View) → At views i v → v.number ≡ w → IsFound w views
found w [] i v at is = absurd (some-ne-none v (sym at))
found w (x ∷ xs) zero v at is = found-here w x xs (ap (λ (u : View). u.number) (some-injective x v at) ∙ is)
found w (x ∷ xs) (suc i) v at is = dite (ℕ_discrete x.number w) (λ e. found-here w x xs e) (λ ne. found-behind w x xs ne (found w xs i v at is))

-- a worker whose seat is out has a view behind main's
pub out-found : (w : ℕ) (s : State) → IsSound s → IsOut w s → IsFound w s.seats
out-found w s h out = let some = h.phase.one_view w out in go some.0 some.1 some.2 some.3 where
  go : (i : ℕ) (v : View) → At (views_of s) i v → v.number ≡ w → IsFound w s.seats
  go zero v e is = let positive = h.phase.numbers w out in let none = h.phase.main_number in let same = ap (λ (u : View). u.number) (some-injective s.main v e) in absurd (omega arith)
  go (suc i) v e is = found w s.seats i v e is

-- what a test of the held tiles says
pub any-held : (P : ℕ → Bool) (ks : List ℕ) → list_any P ks ≡ true → (k : ℕ) × (has k ks ≡ true) × (P k ≡ true)
any-held P [] t = absurd (true≢false (sym t))
any-held P (k ∷ ks) t = ⊎_elim (λ here. (k, has-here k ks, here)) (λ r. let rest = any-held P ks r in (rest.0, has-there rest.0 k ks rest.1, rest.2)) (or_cases (P k) (list_any P ks) t)

pub seat-of-worker : (w : ℕ) (s : State) → 0 < w → seat_of w s ≡ view_of w s.seats
seat-of-worker w s some-w = ap (λ (b : Bool). cond b s.main (view_of w s.seats)) (ne_eqb w 0 (λ e. omega arith))

pub with-seat-worker : (w : ℕ) (u : View) (s : State) → 0 < w → with_seat w u s ≡ record s { seats = with_view w u s.seats }
with-seat-worker w u s some-w = ap (λ (b : Bool). cond b (record s { main = u }) (record s { seats = with_view w u s.seats })) (ne_eqb w 0 (λ e. omega arith))

-- a step of a worker changes its view alone, and perhaps a word
worker-step : (w : ℕ) (s : State) (words : List ℕ) (u : View) (f : IsFound w s.seats) → 0 < w → Inv words s.main (set (views_of s) (suc f.place) u) → IsSound (with_seat w u (record s { words = words }))
worker-step w s words u f some-w h = subst IsSound (sym (with-seat-worker w u (record s { words = words }) some-w))
    (subst (λ (l : List View). Inv words s.main (s.main ∷ l)) (sym (f.with_set u)) h)

store_by_main : (a x : ℕ) (s : State) → IsSound s → s.main.posted ≡ false → IsWord a s → IsSound (record { words = set s.words (memory_word a) x; main = based_view s.main a x; seats = s.seats })
store_by_main a x s h off word = let wide = h.phase.width in main-store-keeps s.words s.main s.seats a x h off (omega arith)

store_by_worker : (w a x : ℕ) (s : State) → IsSound s → IsOut w s → may_store (view_of w s.seats) a ≡ true → IsSound (with_seat w (storing_view (view_of w s.seats) a x) (with_word (memory_word a) x s))
store_by_worker w a x s h out may = let
    f = out-found w s h out in let
    v : View = view_of w s.seats in let
    some-w : 0 < w = h.phase.numbers w out in let
    number : v.number ≡ w = f.number in let
    tile = any-held (λ k. writes v.plan k a) v.held may in
    worker-step w s (set s.words (memory_word a) x) (storing_view v a x) f some-w
    (store-keeps s.words s.main (views_of s) (suc f.place) tile.0 a x v h f.at (omega arith) tile.1 tile.2)

store-step : (i a x : ℕ) (s : State) → IsSound s → MayStore i a s
    → IsSound (with_seat i (if eqb i 0 then based_view (seat_of i s) a x else storing_view (seat_of i s) a x) (with_word (memory_word a) x s))
store-step i a x s h p = ⊎_elim
    (λ (q : (i ≡ 0) × MayTouch a s). subst (λ (j : ℕ). IsSound (with_seat j (cond (eqb j 0) (based_view (seat_of j s) a x) (storing_view (seat_of j s) a x)) (with_word (memory_word a) x s))) (sym q.0) (store_by_main a x s h q.1.0 q.1.1))
    (λ (q : IsOut i s × (may_store (view_of i s.seats) a ≡ true)). let some_i : 0 < i = h.phase.numbers i q.0 in
    subst (λ (b : Bool). IsSound (with_seat i (cond b (based_view (seat_of i s) a x) (storing_view (seat_of i s) a x)) (with_word (memory_word a) x s))) (sym (ne_eqb i 0 (λ e. omega arith)))
    (subst (λ (v : View). IsSound (with_seat i (storing_view v a x) (with_word (memory_word a) x s))) (sym (seat-of-worker i s some_i)) (store_by_worker i a x s h q.0 q.1))) p

see-step : (i : ℕ) (s : State) → IsSound s → (i ≡ 0) ⊎ IsOut i s → IsSound (with_seat i (seeing_view (seat_of i s) (flag_of s.words)) s)
see-step i s h p = ⊎_elim
    (λ (q : i ≡ 0). subst (λ (j : ℕ). IsSound (with_seat j (seeing_view (seat_of j s) (flag_of s.words)) s)) (sym q) (main-see-keeps s.words s.main s.seats h))
    (λ (q : IsOut i s). let f = out-found i s h q in let some_i : 0 < i = h.phase.numbers i q in let v : View = view_of i s.seats in let number : v.number ≡ i = f.number in
    subst (λ (u : View). IsSound (with_seat i (seeing_view u (flag_of s.words)) s)) (sym (seat-of-worker i s some_i))
    (worker-step i s s.words (seeing_view v (flag_of s.words)) f some_i (see-keeps s.words s.main (views_of s) (suc f.place) v h f.at (omega arith)))) p

raise-step : (w : ℕ) (s : State) → IsSound s → IsOut w s → IsSound (with_seat w (failed_view (seat_of w s)) (with_word 0 (seat_of w s).epoch s))
raise-step w s h out = let f = out-found w s h out in let some-w : 0 < w = h.phase.numbers w out in let v : View = view_of w s.seats in let number : v.number ≡ w = f.number in
    subst (λ (u : View). IsSound (with_seat w (failed_view u) (with_word 0 u.epoch s))) (sym (seat-of-worker w s some-w))
    (worker-step w s (set s.words 0 v.epoch) (failed_view v) f some-w (raise-keeps s.words s.main (views_of s) (suc f.place) v h f.at (omega arith)))

claim-step : (w k : ℕ) (s : State) → IsSound s → IsOut w s → k < length s.main.plan.tiles → IsSound (with_seat w (claiming_view (seat_of w s) k (claim_of s.words k)) (with_word (claim_word k) (seat_of w s).epoch s))
claim-step w k s h out planned = let f = out-found w s h out in let some-w : 0 < w = h.phase.numbers w out in let v : View = view_of w s.seats in let number : v.number ≡ w = f.number in
    subst (λ (u : View). IsSound (with_seat w (claiming_view u k (claim_of s.words k)) (with_word (claim_word k) u.epoch s))) (sym (seat-of-worker w s some-w))
    (worker-step w s (set s.words (claim_word k) v.epoch) (claiming_view v k (claim_of s.words k)) f some-w (claim-keeps s.words s.main (views_of s) (suc f.place) k v h f.at (omega arith) planned))

join-step : (w : ℕ) (s : State) → IsSound s → IsOut w s → IsSound (record s { main = joined_view s.main (view_of w s.seats); seats = with_view w spent_view s.seats })
join-step w s h out = let f = out-found w s h out in let some-w : 0 < w = h.phase.numbers w out in let v : View = view_of w s.seats in let number : v.number ≡ w = f.number in
    subst (λ (l : List View). Inv s.words (joined_view s.main v) (joined_view s.main v ∷ l)) (sym (f.with_set spent_view)) (join-keeps s.words s.main s.seats f.place v h f.at (omega arith))

pub step-keeps : (x : Step) (s : State) → IsSound s → Lawful x s → IsSound (state_after x s)
step-keeps (Post plan) s h p = let wide = h.phase.width in post-keeps s.words s.main s.seats (memory_of s.words) plan h p.1 (shows-memory s.words (omega arith)) p.2.0 p.2.1 p.2.2
step-keeps (Split w) s h p = split-keeps s.words s.main s.seats w h p.0 p.1 p.2
step-keeps (Load i a) s h p = h
step-keeps (Store i a x) s h p = store-step i a (cast_unsigned w64 x) s h p
step-keeps (See i) s h p = see-step i s h p
step-keeps (Raise w) s h p = raise-step w s h p
step-keeps (Claim w k) s h p = claim-step w k s h p.0 p.1
step-keeps (Join w) s h p = join-step w s h p
step-keeps Settle s h p = let wide = h.phase.width in settle-keeps s.words s.main s.seats (memory_of s.words) h p.1 (shows-memory s.words (omega arith))

pub run-keeps : (steps : List Step) (s t : State) → IsSound s → Runs steps s t → IsSound t
run-keeps [] s t h p = subst IsSound p h
run-keeps (x ∷ xs) s t h p = run-keeps xs (state_after x s) t (step-keeps x s h p.0) p.1
