-- What main gathers as it takes seats back, and what a Settle then says of the phase.
use Rattle.std.proofs.Common.{◌≡◌, ℕ, suc, ℤ, ◌+◌, ◌<◌, true, false, true≢false, Some, List, [], ◌∷◌, ◌++◌, map, length, refl, sym, ap, ap₂, ◌∙◌, subst, arith, append-nil, append_assoc, ⊎_elim}
use Rattle.core_steps.specs.declared.plan.Plan.{Plan}
use Rattle.core_steps.specs.declared.view.View.{View}
use Rattle.core_steps.specs.Views.{overlaid, Holds, joined_view}
use Rattle.std.proofs.lemmas.Bool.{or_cases, or_parts}
use Rattle.plain_lemmas.proofs.MembershipLaws.{has-cases}
use Rattle.orders.proofs.ShareLaws.{range-has, has-range}
use Rattle.orders.proofs.SwapLaws.{not-true}
use Rattle.orders.specs.Runs.{Machine, Lawful, follow}
use Rattle.orders.specs.Orders.{Ordered, Differ, range}
use Rattle.plain_lemmas.specs.Lists.{Has}
use Rattle.orders.specs.Tiles.{flat}
use Rattle.shared_words.specs.Memories.{signed}
use Rattle.verified_turns.specs.Progress.{list_of, taken, planned, HasEnded, HasFailed, HasStopped}
use Rattle.verified_turns.specs.Laws.{Finished, AllFinished, held_of, all_steps, Joined, SomeFailed, Gathered, PhaseLaw}
use Rattle.verified_turns.proofs.WorkersTogetherLaws.{has-from, has-to, ordered-single, planned-is, each-closes, all-finished, some-failed}

module _ {X : Type 0} (s : Machine X) (closes : X → Type 0) where
  abbrev all-snoc : (plan : Plan) (ls : List (List X)) (base : List ℕ) (vs : List View) (v : View) → AllFinished s closes plan ls base vs → Finished s closes plan ls base v → AllFinished s closes plan ls base (vs ++ v ∷ [])
  all-snoc plan ls base [] v all f = (f, tt)
  all-snoc plan ls base (u ∷ us) v all f = (all.0, all-snoc plan ls base us v all.1 f)

  plus-comm : (n : ℕ) → 0 + n ≡ n + 0
  plus-comm n = omega arith

  steps-snoc : (plan : Plan) (ls : List (List X)) (base : List ℕ) (vs : List View) (v : View) (all : AllFinished s closes plan ls base vs) (f : Finished s closes plan ls base v)
      → all_steps s closes plan ls base vs all + f.steps ≡ all_steps s closes plan ls base (vs ++ v ∷ []) (all-snoc plan ls base vs v all f)
  steps-snoc plan ls base [] v all f = plus-comm f.steps
  steps-snoc plan ls base (u ∷ us) v all f = let more = steps-snoc plan ls base us v all.1 f in omega (arith, more)

  flat-snoc : {A : Type 0} (f : View → List A) (vs : List View) (v : View) → flat (map f vs) ++ f v ≡ flat (map f (vs ++ v ∷ []))
  flat-snoc f [] v = sym (append-nil (f v))
  flat-snoc f (u ∷ us) v = append_assoc (f u) (flat (map f us)) (f v) ∙ ap (λ l. f u ++ l) (flat-snoc f us v)

  -- main takes over one more
  pub joined-keeps : (m v : View) (ls : List (List X)) (count steps : ℕ) → Joined s closes ls m count steps → (f : Finished s closes m.plan ls m.base v) → Joined s closes ls (joined_view m v) (count + 1) (steps + f.steps)
  joined-keeps m v ls count steps h f = record {
    views = h.views ++ v ∷ [];
    all = all-snoc m.plan ls m.base h.views v h.all f;
    held = ap (λ (l : List ℕ). l ++ v.held) h.held ∙ flat-snoc (λ (u : View). u.held) h.views v;
    own = ap (λ (l : List (ℕ × ℕ)). l ++ v.own) h.own ∙ flat-snoc (λ (u : View). u.own) h.views v;
    sum = ap (λ (n : ℕ). n + f.steps) h.sum ∙ steps-snoc m.plan ls m.base h.views v h.all f;
    known = λ some k lt. Rattle.core_steps.proofs.NumberListLaws.has-right k m.known v.known (f.ended.tried k (subst (λ (p : Plan). k < length p.tiles) (sym f.same_plan) lt));
  }

  pub joined-start : (m : View) (ls : List (List X)) → m.held ≡ [] → m.own ≡ [] → Joined s closes ls m 0 0
  joined-start m ls held own = record { views = []; all = tt; held = held; own = own; sum = refl; known = λ some. absurd (omega (arith, some)) }

  pub gathered-start : (m : View) (ls : List (List X)) → m.held ≡ [] → m.own ≡ [] → m.failed ≡ false → Gathered s closes ls m 0 0
  gathered-start m ls held own unfailed = record {
    joined = λ _ _. joined-start m ls held own;
    broken = λ failed. absurd (true≢false (sym failed ∙ unfailed));
  }

  -- of a worker whose view has not failed nothing more is broken
  still-broken : (m v : View) (ls : List (List X)) (count steps : ℕ) → Gathered s closes ls m count steps → v.failed ≡ false → (joined_view m v).failed ≡ true → SomeFailed s m.plan ls m.base
  still-broken m v ls count steps h unfailed failed = ⊎_elim (λ mine. h.broken mine) (λ his. absurd (true≢false (sym his ∙ unfailed))) (or_cases m.failed v.failed failed)

  pub gathered-ended : (m v : View) (ls : List (List X)) (count steps n : ℕ) → Gathered s closes ls m count steps → v.base ≡ m.base → v.plan ≡ m.plan → HasEnded s closes ls v n → Gathered s closes ls (joined_view m v) (count + 1) (steps + n)
  gathered-ended m v ls count steps n h base plan ended = record {
    joined = λ unfailed unseen. joined-keeps m v ls count steps (h.joined (or_parts m.failed v.failed unfailed).0 (or_parts m.seen v.seen unseen).0)
        (record { steps = n; same_base = base; same_plan = plan; ended = ended });
    broken = λ failed. still-broken m v ls count steps h ended.unfailed failed;
  }

  -- the steps are of no account then
  pub gathered-failed : (m v : View) (ls : List (List X)) (count steps n : ℕ) (x : X) → v.base ≡ m.base → v.plan ≡ m.plan → HasFailed s ls v x n → Gathered s closes ls (joined_view m v) (count + 1) (steps + n)
  gathered-failed m v ls count steps n x base plan failed = record {
    joined = λ unfailed unseen. absurd (true≢false (sym failed.raised ∙ (or_parts m.failed v.failed unfailed).1));
    broken = λ _. record { view = v; at = x; steps = n; same_base = base; same_plan = plan; failed = failed };
  }

  pub gathered-stopped : (m v : View) (ls : List (List X)) (count steps n : ℕ) → Gathered s closes ls m count steps → HasStopped s closes ls v n → Gathered s closes ls (joined_view m v) (count + 1) (steps + n)
  gathered-stopped m v ls count steps n h stopped = record {
    joined = λ unfailed unseen. absurd (true≢false (sym stopped.seen ∙ (or_parts m.seen v.seen unseen).1));
    broken = λ failed. still-broken m v ls count steps h stopped.unfailed failed;
  }

-- the lists of all tiles in their order are all lists
lists-from : {X : Type 0} (all ls : List (List X)) (from : ℕ) → ((i : ℕ) → i < length ls → list_of all (from + i) ≡ list_of ls i) → map (list_of all) (range from (length ls)) ≡ ls
lists-from all [] from same = refl
lists-from all (l ∷ ls) from same =
    let here : from + 0 ≡ from = omega arith in
    ap₂ (λ x xs. x ∷ xs)
    (ap (list_of all) (sym here) ∙ same 0 (omega arith))
    (lists-from all ls (suc from) (λ i lt. let next : suc from + i ≡ from + suc i = omega arith in ap (list_of all) next ∙ same (suc i) (omega (arith, lt))))

pub taken-all : {X : Type 0} (ls : List (List X)) → taken ls (range 0 (length ls)) ≡ flat ls
taken-all ls = ap flat (lists-from ls ls 0 (λ i lt. let same : 0 + i ≡ i = omega arith in ap (list_of ls) same))

-- an instance of some tile stands in the list of a number
place_of : {X : Type 0} (ls : List (List X)) (x : X) → Has (flat ls) x → (k : ℕ) × (k < length ls) × Has (list_of ls k) x
place_of [] x h = absurd h
place_of (l ∷ ls) x h = ⊎_elim
    (λ here. (0, omega arith, here))
    (λ more. let (k, lt, there) = place_of ls x more in (suc k, omega (arith, lt), there))
    (has-cases l (flat ls) x h)

module _ {X : Type 0} (s : Machine X) (closes : X → Type 0) (lawful : Lawful s) where
  -- the plan's tiles in order are the lists in order
  in_order : (plan : Plan) (ls : List (List X)) (m : List ℤ) → length ls ≡ length plan.tiles → follow s (flat ls) m ≡ follow (planned s plan ls) (range 0 (length plan.tiles)) m
  in_order plan ls m long = ap (λ (xs : List X). follow s xs m) (sym (taken-all ls)) ∙ ap (λ (n : ℕ). follow s (taken ls (range 0 n)) m) long ∙ sym (planned-is s closes plan ls (range 0 (length plan.tiles)) m)

  pub phase_law : PhaseLaw s closes
  phase_law m n ls count steps true size long fits some h (flag, is, ends) after =
      in_order m.plan ls (signed m.base) long ∙ some-failed s closes lawful m.plan ls m.base size ends.separate fits (h.broken (ends.failed.1 (is.0 refl)))
  phase_law m n ls count steps false size long fits some h (flag, is, ends) after =
      let calm : flag ≡ m.epoch → ⊥ = λ e. true≢false (sym (is.1 e)) in
      let unfailed : m.failed ≡ false = not-true m.failed (λ e. calm (ends.failed.0 e)) in
      let unseen : m.seen ≡ false = not-true m.seen (λ e. calm (ends.seen e)) in
      let j = h.joined unfailed unseen in
      let held : (k : ℕ) → k < length m.plan.tiles → Holds m k = λ k lt. ends.known k (j.known some k lt) in
      let all_held : (k : ℕ) → k < length m.plan.tiles → Has (flat (held_of j.views)) k = λ k lt. subst (λ (l : List ℕ). Has l k) j.held (has-from k m.held (held k lt)) in
      record {
        held = held;
        together = record {
          run =
              in_order m.plan ls (signed m.base) long
              ∙ all-finished s closes lawful (length m.plan.tiles) m.plan ls m.base j.views size ends.separate fits j.all
              (subst (λ (l : List ℕ). Ordered Differ l) j.held (ordered-single m.held ends.single))
              (record {
                there = λ k r. let lt = (range-has 0 (length m.plan.tiles) k r).1 in all_held k (omega (arith, lt));
                back = λ k r. let lt = ends.planned k (has-to k m.held (subst (λ (l : List ℕ). Has l k) (sym j.held) r)) in has-range 0 (length m.plan.tiles) k (omega arith) (omega (arith, lt));
              })
              ∙ ap₂ (λ (b : List ℕ) (n : ℕ). Some (record { memory = signed b; steps = n })) (ap (λ (o : List (ℕ × ℕ)). overlaid o m.base) (sym j.own) ∙ sym after) (sym j.sum);
          each = λ x here. let (k, lt, there) = place_of ls x here in each-closes s closes m.plan ls m.base j.views j.all k x (all_held k (omega (arith, lt, long))) there;
        };
      }
