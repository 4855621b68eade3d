-- What each turn of a worker keeps of what is said of it.
use Rattle.std.proofs.Common.{◌≡◌, ℕ, ℤ, ◌+◌, ◌<◌, ◌≤◌, Bool, true, false, ◌||◌, length, subst, Some, None, List, [], ◌∷◌, ◌++◌, map, refl, sym, ap, ap₂, ◌∙◌, arith, append-nil, append_assoc, ◌⊎◌, ⊎_elim, inl, inr}
use Rattle.std.proofs.lemmas.List.{map-append, append_cancel_right}
use Rattle.std.proofs.lemmas.Grind.{flat_map-append}
use mathlib.Core.Logic.{dite}
use native.Mathlib.Decide.{ℕ_discrete}
use Rattle.core_steps.specs.declared.view.View.{View}
use Rattle.core_steps.specs.Views.{overlaid, holding_view, knowing_view, failed_view}
use Rattle.core_steps.proofs.NumberListLaws.{has-left, has-last}
use Rattle.orders.specs.Runs.{Outcome, Machine, follow}
use Rattle.orders.specs.Tiles.{flat}
use Rattle.core_steps.specs.Plans as plans
use Rattle.plain_lemmas.specs.Lists.{Has}
use Rattle.orders.proofs.LiftLaws.{follow-append, has_any}
use Rattle.plain_lemmas.proofs.MembershipLaws.{has-cases, has-right}
use Rattle.shared_words.specs.Memories.{signed, shown}
use Rattle.shared_words.specs.Calls.{HoldsSoundly}
use Rattle.core_steps.specs.States.{State}
use Rattle.verified_turns.specs.Progress.{list_of, taken, Fits, MayRun, Went, IsLeftOfLast, CameTo, Tried, IsTold, looked_view, IsGoing, HasEnded, HasFailed, HasStopped}

module _ {X : Type 0} (s : Machine X) (closes : X → Type 0) (tiles : List (List X)) where
  pub taken-append : (xs ys : List ℕ) → taken tiles (xs ++ ys) ≡ taken tiles xs ++ taken tiles ys
  taken-append xs ys = ap flat (map-append (list_of tiles) xs ys) ∙ flat_map-append (λ zs. zs) (map (list_of tiles) xs) (map (list_of tiles) ys)

  taken-one : (k : ℕ) → taken tiles (k ∷ []) ≡ list_of tiles k
  taken-one k = append-nil (list_of tiles k)

  pub one-more : (done : List X) (x : X) (m : List ℤ) (q r : Outcome) → follow s done m ≡ Some q → s.run x q.memory ≡ Some r
      → follow s (done ++ x ∷ []) m ≡ Some (record { memory = r.memory; steps = q.steps + r.steps })
  one-more done x m q r e f =
      let zero-more : q.steps + (r.steps + 0) ≡ q.steps + r.steps = omega arith in
      follow-append s done (x ∷ []) m ∙ rw (e, f, zero-more) refl

  pub went-start : (v : View) → v.held ≡ [] → v.own ≡ [] → Went s closes tiles v [] 0
  went-start v held own = record {
    done = [];
    split = ap (taken tiles) held;
    each = λ x h. absurd h;
    ran = ap (λ (o : List (ℕ × ℕ)). Some (record { memory = signed (overlaid o v.base); steps = 0 })) (sym own);
  }

  pub went-claim : (v : View) (k steps : ℕ) → Went s closes tiles v [] steps → Went s closes tiles (holding_view v k) (list_of tiles k) steps
  went-claim v k steps h = record {
    done = h.done;
    split = taken-append v.held (k ∷ []) ∙ ap₂ (λ (a b : List X). a ++ b) (h.split ∙ append-nil h.done) (taken-one k);
    each = h.each;
    ran = h.ran;
  }

  pub went-instance : (v w : View) (x : X) (rest : List X) (steps : ℕ) (r : Outcome) → Went s closes tiles v (x ∷ rest) steps → s.run x (shown v) ≡ Some r → closes x
      → w.held ≡ v.held → w.base ≡ v.base → shown w ≡ r.memory → Went s closes tiles w rest (steps + r.steps)
  went-instance v w x rest steps r h run good held base memory = record {
    done = h.done ++ x ∷ [];
    split = ap (taken tiles) held ∙ h.split ∙ sym (append_assoc h.done (x ∷ []) rest);
    each = λ y here. ⊎_elim (λ was. h.each y was) (λ is. ⊎_elim (λ e. subst closes (sym e) good) (λ no. absurd no) is) (has-cases h.done (x ∷ []) y here);
    ran = ap (λ (b : List ℕ). follow s (h.done ++ x ∷ []) (signed b)) base ∙ one-more h.done x (signed v.base) _ r h.ran run
        ∙ ap (λ (m : List ℤ). Some (record { memory = m; steps = steps + r.steps })) (sym memory);
  }

  -- what stands before the rest of the last tile: the tiles before it, and the beginning of its list
  taken-last : (held : List ℕ) (rest : List X) (l : IsLeftOfLast tiles held rest) → taken tiles held ≡ (taken tiles l.front ++ l.begun) ++ rest
  taken-last held rest l =
      ap (taken tiles) l.claimed ∙ taken-append l.front (l.tile ∷ []) ∙ ap (λ (xs : List X). taken tiles l.front ++ xs) (taken-one l.tile ∙ l.split)
      ∙ sym (append_assoc (taken tiles l.front) l.begun rest)

  pub done-is : (v : View) (rest : List X) (steps : ℕ) (h : Went s closes tiles v rest steps) (l : IsLeftOfLast tiles v.held rest) → h.done ≡ taken tiles l.front ++ l.begun
  done-is v rest steps h l = append_cancel_right h.done (taken tiles l.front ++ l.begun) rest (sym h.split ∙ taken-last v.held rest l)

  abbrev pub came_at : (v w : View) (x : X) (rest : List X) (steps : ℕ) → Went s closes tiles v (x ∷ rest) steps → IsLeftOfLast tiles v.held (x ∷ rest) → s.run x (shown v) ≡ None
      → w.held ≡ v.held → w.base ≡ v.base → CameTo s tiles w x steps
  came_at v w x rest steps h l run held base = record {
    rest = rest;
    last = record { front = l.front; tile = l.tile; begun = l.begun; claimed = held ∙ l.claimed; split = l.split };
    memory = shown v;
    ran = ap₂ (λ (xs : List X) (b : List ℕ). follow s xs (signed b)) (sym (done-is v (x ∷ rest) steps h l)) base ∙ h.ran;
    none = run;
  }

  -- a call that leaves tiles, base and own values leaves both
  pub went-same : (v w : View) (rest : List X) (steps : ℕ) → w.held ≡ v.held → w.base ≡ v.base → w.own ≡ v.own → Went s closes tiles v rest steps → Went s closes tiles w rest steps
  went-same v w rest steps held base own h = record {
    done = h.done;
    split = ap (taken tiles) held ∙ h.split;
    each = h.each;
    ran = ap (λ (b : List ℕ). follow s h.done (signed b)) base ∙ h.ran
        ∙ ap₂ (λ (o : List (ℕ × ℕ)) (b : List ℕ). Some (record { memory = signed (overlaid o b); steps = steps })) (sym own) (sym base);
  }

  -- at the end the view shows the run of all that it holds
  pub went-end : (v : View) (steps : ℕ) → Went s closes tiles v [] steps → follow s (taken tiles v.held) (signed v.base) ≡ Some (record { memory = shown v; steps = steps })
  went-end v steps h = ap (λ (xs : List X). follow s xs (signed v.base)) (h.split ∙ append-nil h.done) ∙ h.ran

  pub came-end : (v : View) (x : X) (steps : ℕ) → CameTo s tiles v x steps → follow s (taken tiles v.held) (signed v.base) ≡ None
  came-end v x steps h =
      ap (λ (xs : List X). follow s xs (signed v.base)) (taken-last v.held (x ∷ h.rest) h.last)
      ∙ follow-append s (taken tiles h.last.front ++ h.last.begun) (x ∷ h.rest) (signed v.base) ∙ rw (h.ran, h.none) refl

-- what is left to follow stands in a tile that is held, so the seat may touch what it touches
pub taken-held : {X : Type 0} (ls : List (List X)) (ks : List ℕ) (x : X) → Has (taken ls ks) x → (k : ℕ) × Has ks k × Has (list_of ls k) x
taken-held ls [] x h = absurd h
taken-held ls (k ∷ ks) x h = ⊎_elim (λ a. (k, inl refl, a)) (λ b. let (j, here, is) = taken-held ls ks x b in (j, inr here, is)) (has-cases (list_of ls k) (taken ls ks) x h)

pub may-run : {X : Type 0} (s : Machine X) (closes : X → Type 0) (ls : List (List X)) (v : View) (x : X) (rest : List X) (steps : ℕ) → Went s closes ls v (x ∷ rest) steps → Fits s v.plan ls → MayRun s x v
may-run s closes ls v x rest steps went fits =
    let (k, held, is) = taken-held ls v.held x (subst (λ (l : List _). Has l x) (sym went.split) (has-right went.done (x ∷ rest) x (inl refl))) in record {
      stores = λ a writes. has_any (λ k. plans.writes v.plan k a) v.held k held (fits.writes k a x is writes);
      loads = λ a touches. has_any (λ k. plans.touches v.plan k a) v.held k held (fits.all k a x is touches);
    }

-- what a call tells that finds its view sound
pub told-of : (s : State) (v : View) → HoldsSoundly s v → IsTold v
told-of s v h = record { single = h.single; planned = h.planned; owned = h.owned }

-- the kinds of turn

module _ {X : Type 0} (s : Machine X) (closes : X → Type 0) (lists : List (List X)) where
  pub going-start : (v : View) → v.held ≡ [] → v.own ≡ [] → v.failed ≡ false → v.seen ≡ false → IsGoing s closes lists v [] 0 0
  going-start v held own unfailed unseen = record {
    went = went-start s closes lists v held own;
    last = inl refl;
    tried = λ k lt. absurd (omega (arith, lt));
    unfailed = unfailed;
    unseen = unseen;
  }

  -- while something is left to follow it is in the tile that was claimed last
  pub in-last : (v : View) (x : X) (rest : List X) → ((x ∷ rest ≡ []) ⊎ IsLeftOfLast lists v.held (x ∷ rest)) → IsLeftOfLast lists v.held (x ∷ rest)
  in-last v x rest (inl none) = let more = ap length none in absurd (omega (arith, more))
  in-last v x rest (inr l) = l

  next-in-last : (v w : View) (x : X) (rest : List X) → w.held ≡ v.held → IsLeftOfLast lists v.held (x ∷ rest) → IsLeftOfLast lists w.held rest
  next-in-last v w x rest held l = record {
    front = l.front;
    tile = l.tile;
    begun = l.begun ++ x ∷ [];
    claimed = held ∙ l.claimed;
    split = l.split ∙ sym (append_assoc l.begun (x ∷ []) rest);
  }

  pub going-instance : (v w : View) (x : X) (rest : List X) (next steps : ℕ) (r : Outcome) → IsGoing s closes lists v (x ∷ rest) next steps → s.run x (shown v) ≡ Some r → closes x
      → w.held ≡ v.held → w.known ≡ v.known → w.base ≡ v.base → w.failed ≡ v.failed → w.seen ≡ v.seen → shown w ≡ r.memory → IsGoing s closes lists w rest next (steps + r.steps)
  going-instance v w x rest next steps r h run good held known base failed seen memory = record {
    went = went-instance s closes lists v w x rest steps r h.went run good held base memory;
    last = inr (next-in-last v w x rest held (in-last v x rest h.last));
    tried = λ k lt. subst (λ (l : List ℕ). Rattle.core_steps.specs.Numbers.has k l ≡ true) (sym known) (h.tried k lt);
    unfailed = failed ∙ h.unfailed;
    unseen = seen ∙ h.unseen;
  }

  one-more-tried : (v : View) (k : ℕ) → Tried v k → (j : ℕ) → j < k + 1 → Rattle.core_steps.specs.Numbers.has j (v.known ++ k ∷ []) ≡ true
  one-more-tried v k tried j lt = dite (ℕ_discrete j k)
      (λ e. subst (λ (i : ℕ). Rattle.core_steps.specs.Numbers.has i (v.known ++ k ∷ []) ≡ true) (sym e) (has-last k v.known))
      (λ ne. has-left j v.known (k ∷ []) (tried j (omega (arith, lt, ne))))

  pub going-won : (v : View) (k steps : ℕ) → IsGoing s closes lists v [] k steps → IsGoing s closes lists (holding_view v k) (list_of lists k) (k + 1) steps
  going-won v k steps h = record {
    went = went-claim s closes lists v k steps h.went;
    last = inr (record { front = v.held; tile = k; begun = []; claimed = refl; split = refl });
    tried = one-more-tried v k h.tried;
    unfailed = h.unfailed;
    unseen = h.unseen;
  }

  pub going-lost : (v : View) (k steps : ℕ) → IsGoing s closes lists v [] k steps → IsGoing s closes lists (knowing_view v k) [] (k + 1) steps
  going-lost v k steps h = record {
    went = went-same s closes lists v (knowing_view v k) [] steps refl refl refl h.went;
    last = inl refl;
    tried = one-more-tried v k h.tried;
    unfailed = h.unfailed;
    unseen = h.unseen;
  }

  unseen-still : (b : Bool) → b ≡ false → (b || false) ≡ false
  unseen-still b e = rw e refl

  seen-now : (b : Bool) → (b || true) ≡ true
  seen-now true = refl
  seen-now false = refl

  -- a look that did not find the flag at the epoch
  pub going-look : (v : View) (next steps : ℕ) → IsGoing s closes lists v [] next steps → IsGoing s closes lists (looked_view v false) [] next steps
  going-look v next steps h = record {
    went = went-same s closes lists v (looked_view v false) [] steps refl refl refl h.went;
    last = inl refl;
    tried = h.tried;
    unfailed = h.unfailed;
    unseen = unseen-still v.seen h.unseen;
  }

  told-look : (v : View) (b : Bool) → IsTold v → IsTold (looked_view v b)
  told-look v b h = record { single = h.single; planned = h.planned; owned = h.owned }

  pub ended-look : (v : View) (next steps : ℕ) → IsGoing s closes lists v [] next steps → length v.plan.tiles ≤ next → IsTold v → HasEnded s closes lists (looked_view v false) steps
  ended-look v next steps h all told = record {
    went = went-same s closes lists v (looked_view v false) [] steps refl refl refl h.went;
    tried = λ k lt. h.tried k (omega (arith, lt, all));
    unfailed = h.unfailed;
    unseen = unseen-still v.seen h.unseen;
    told = told-look v false told;
  }

  pub stopped-look : (v : View) (next steps : ℕ) → IsGoing s closes lists v [] next steps → IsTold v → HasStopped s closes lists (looked_view v true) steps
  stopped-look v next steps h told = record {
    went = went-same s closes lists v (looked_view v true) [] steps refl refl refl h.went;
    unfailed = h.unfailed;
    seen = seen-now v.seen;
    told = told-look v true told;
  }

  -- an instance that is None changes the view to w, and a Raise follows
  abbrev pub failed_raise : (v w : View) (x : X) (rest : List X) (next steps : ℕ) → IsGoing s closes lists v (x ∷ rest) next steps → s.run x (shown v) ≡ None
      → w.held ≡ v.held → w.base ≡ v.base → w.seen ≡ v.seen → IsTold w → HasFailed s lists (failed_view w) x steps
  failed_raise v w x rest next steps h run held base seen told = record {
    came = came_at s closes lists v (failed_view w) x rest steps h.went (in-last v x rest h.last) run held base;
    raised = refl;
    unseen = seen ∙ h.unseen;
    told = record { single = told.single; planned = told.planned; owned = told.owned };
  }
