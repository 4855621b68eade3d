-- What all workers of a phase did, together, is the run of the tiles one after another.
use Rattle.std.proofs.Common.{◌≡◌, ℕ, ℤ, pos, ◌+◌, ◌<◌, Bool, true, false, true≢false, Option, Some, None, List, [], ◌∷◌, ◌++◌, length, refl, sym, ap, ap₂, ◌∙◌, subst, arith, get_or, inl, inr, ⊎_elim, eqb, cond, unwrap_or, append-nil}
use Rattle.std.proofs.lemmas.List.{length-map, get_or_past}
use Rattle.std.proofs.Math.ListN.{get_or-map}
use Rattle.std.proofs.lemmas.Bool.{cases_lt}
use Rattle.std.specs.List.{list_any}
use Rattle.std.specs.Int.{cast_signed, w64}
use native.Mathlib.Decide.{ℕ_discrete}
use mathlib.Core.Logic.{dite}
use Rattle.core_steps.specs.declared.plan.Plan.{Plan}
use Rattle.core_steps.specs.declared.view.View.{View}
use Rattle.core_steps.specs.Numbers.{has, IsSingle}
use Rattle.core_steps.specs.Plans.{writes, touches, IsSeparate}
use Rattle.core_steps.specs.Views.{stored_at, overlaid}
use Rattle.core_steps.proofs.NumberListLaws.{has-cons, has-here, has-there}
use Rattle.core_steps.proofs.StoreListLaws.{length-overlaid, overlaid-at}
use Rattle.orders.specs.Runs.{Outcome, word, Machine, Lawful, Apart, follow}
use Rattle.orders.specs.Orders.{Ordered, Differ, SameElements, range}
use Rattle.plain_lemmas.specs.Lists.{Has}
use Rattle.orders.specs.Tiles.{lists, flat, steps_of, steps_from, AllRun, LaidOver}
use Rattle.orders.proofs.SwapLaws.{not-true, then-same, some-injective, long-follow}
use Rattle.orders.proofs.ListLaws.{ordered-across, ordered-right}
use Rattle.plain_lemmas.proofs.MembershipLaws.{all-from, has-cases, has-left, has-right}
use Rattle.orders.proofs.LiftLaws.{follow-append, follow-kept, follow-near, alike-weaker, or-from-second, any-has, has_any}
use Rattle.orders.proofs.ShareLaws.{shared_law, shared_none_law}
use Rattle.shared_words.specs.Memories.{signed, shown}
use Rattle.verified_turns.specs.Progress.{list_of, taken, planned, Fits}
use Rattle.verified_turns.specs.Laws.{Finished, AllFinished, held_of, own_of, all_steps, SomeFailed}
use Rattle.verified_turns.proofs.WorkerStepLaws.{went-end, came-end}

pub has-from : (k : ℕ) (ks : List ℕ) → has k ks ≡ true → Has ks k
has-from k [] h = true≢false (sym h)
has-from k (j ∷ ks) h = ⊎_elim (λ e. inl e) (λ r. inr (has-from k ks r)) (has-cons k j ks h)

abbrev is_none : {A : Type 0} → Option A → Bool
is_none None = true
is_none (Some x) = false

pub some-none : {A : Type 0} (x : A) → None ≡ Some x → ⊥
some-none x e = true≢false (ap is_none e)

pub has-to : (k : ℕ) (ks : List ℕ) → Has ks k → has k ks ≡ true
has-to k [] h = absurd h
has-to k (j ∷ ks) (inl e) = subst (λ (i : ℕ). has k (i ∷ ks) ≡ true) e (has-here k ks)
has-to k (j ∷ ks) (inr h) = has-there k j ks (has-to k ks h)

pub ordered-single : (ks : List ℕ) → IsSingle ks → Ordered Differ ks
ordered-single [] one = tt
ordered-single (k ∷ ks) one = (all-from (Differ k) ks (λ j h e. true≢false (sym (has-to k ks (subst (λ (i : ℕ). Has ks i) (sym e) h)) ∙ one.0)), ordered-single ks one.1)

zero-bits : cast_signed w64 0 ≡ pos 0
zero-bits = refl

-- stores that agree at an address show the same word there
pub same-word : (a : ℕ) (os ps : List (ℕ × ℕ)) (base : List ℕ) → stored_at a os ≡ stored_at a ps → word (signed (overlaid os base)) a ≡ word (signed (overlaid ps base)) a
same-word a os ps base e = at-word (overlaid os base) ∙ ap (cast_signed w64) bits ∙ sym (at-word (overlaid ps base))
  where
    at-word : (l : List ℕ) → word (signed l) a ≡ cast_signed w64 (get_or l a 0)
    at-word l = get_or-map (cast_signed w64) l a 0

    bits : get_or (overlaid os base) a 0 ≡ get_or (overlaid ps base) a 0
    bits = ⊎_elim
        (λ lt. overlaid-at a os base lt ∙ ap (λ o. unwrap_or o (get_or base a 0)) e ∙ sym (overlaid-at a ps base lt))
        (λ no. let lo = length-overlaid os base in let lp = length-overlaid ps base in get_or_past (overlaid os base) a 0 (omega (arith, no)) ∙ sym (get_or_past (overlaid ps base) a 0 (omega (arith, no))))
        (cases_lt a (length base))

pub stored-first : (a : ℕ) (os ps : List (ℕ × ℕ)) → stored_at a ps ≡ None → stored_at a (os ++ ps) ≡ stored_at a os
stored-first a [] ps none = none
stored-first a (o ∷ os) ps none = ap (λ z. cond (eqb o.0 a) (Some o.1) z) (stored-first a os ps none)

pub stored-second : (a : ℕ) (os ps : List (ℕ × ℕ)) → stored_at a os ≡ None → stored_at a (os ++ ps) ≡ stored_at a ps
stored-second a [] ps none = refl
stored-second a (o ∷ os) ps none = at (eqb o.0 a) none (stored-second a os ps)
  where
    at : (b : Bool) → cond b (Some o.1) (stored_at a os) ≡ None → (stored_at a os ≡ None → stored_at a (os ++ ps) ≡ stored_at a ps) → cond b (Some o.1) (stored_at a (os ++ ps)) ≡ stored_at a ps
    at true n more = absurd (some-none o.1 (sym n))
    at false n more = more n

module _ {X : Type 0} (s : Machine X) (closes : X → Type 0) (plan : Plan) (ls : List (List X)) where
  pub planned-is : (ks : List ℕ) (m : List ℤ) → follow (planned s plan ls) ks m ≡ follow s (taken ls ks) m
  planned-is [] m = refl
  planned-is (k ∷ ks) m = then-same (follow s (list_of ls k) m) _ _ (λ r e. planned-is ks r.memory) ∙ sym (follow-append s (list_of ls k) (taken ls ks) m)

  pub planned-apart : IsSeparate plan → (i j : ℕ) → (i ≡ j → ⊥) → Apart (planned s plan ls) i j
  planned-apart separate i j ne = record { first = λ a w. separate i j ne a w; second = λ a w. separate j i (λ e. ne (sym e)) a w }

  pub planned-lawful : Lawful s → Fits s plan ls → Lawful (planned s plan ls)
  planned-lawful lawful fits = record {
    long = λ k m r. long-follow s lawful (list_of ls k) m r;
    kept = λ k m r size e a none. follow-kept s lawful (list_of ls k) m r size e a
        (not-true _ (λ w. let (x, h, wx) = any-has (λ x. s.writes x a) (list_of ls k) w in true≢false (sym (fits.writes k a x h wx) ∙ none)));
    near = λ k m w lm lw same. alike-weaker (touches plan k) ((planned s plan ls).writes k) _ _ (λ a h. or-from-second _ _ h)
        (follow-near s lawful (touches plan k) (list_of ls k) m w lm lw (λ x h a t. fits.all k a x h t) same);
  }

  taken-has : (ks : List ℕ) (k : ℕ) (x : X) → Has ks k → Has (list_of ls k) x → Has (taken ls ks) x
  taken-has [] k x here h = absurd here
  taken-has (j ∷ ks) k x (inl e) h = has-left (list_of ls j) (taken ls ks) x (subst (λ (i : ℕ). Has (list_of ls i) x) e h)
  taken-has (j ∷ ks) k x (inr r) h = has-right (list_of ls j) (taken ls ks) x (taken-has ks k x r h)

  module _ (base : List ℕ) where
    -- one of them holds the tile, and followed its instances
    pub each-closes : (vs : List View) → AllFinished s closes plan ls base vs → (k : ℕ) (x : X) → Has (flat (held_of vs)) k → Has (list_of ls k) x → closes x
    each-closes [] all k x held h = absurd held
    each-closes (v ∷ vs) all k x held h = ⊎_elim
        (λ mine. let went = all.0.ended.went in went.each x (subst (λ (l : List X). Has l x) (went.split ∙ append-nil went.done) (taken-has v.held k x mine h)))
        (λ more. each-closes vs all.1 k x more h)
        (has-cases v.held (flat (held_of vs)) k held)

    -- a view that doesn't hold the tile has stored nothing at its writes
    own-none : (u : View) → Finished s closes plan ls base u → IsSeparate plan → (k a : ℕ) → writes plan k a ≡ true → (Has u.held k → ⊥) → stored_at a u.own ≡ None
    own-none u f separate k a w none = at (stored_at a u.own) refl
      where
        at : (o : Option ℕ) → stored_at a u.own ≡ o → stored_at a u.own ≡ None
        at None e = e
        at (Some x) e =
            let (j, holds, wrote) = f.ended.told.owned a x e in
            let wj : writes plan j a ≡ true = subst (λ (t : Plan). writes t j a ≡ true) f.same_plan wrote in
            dite (ℕ_discrete j k)
            (λ same. absurd (none (subst (λ (i : ℕ). Has u.held i) same (has-from j u.held holds))))
            (λ ne. absurd (true≢false (sym (or-from-second _ _ w) ∙ separate j k ne a wj)))

    none-of : (vs : List View) → AllFinished s closes plan ls base vs → IsSeparate plan → (k a : ℕ) → writes plan k a ≡ true → (Has (flat (held_of vs)) k → ⊥) → stored_at a (flat (own_of vs)) ≡ None
    none-of [] all separate k a w none = refl
    none-of (v ∷ vs) all separate k a w none =
        stored-second a v.own (flat (own_of vs)) (own-none v all.0 separate k a w (λ h. none (has-left v.held (flat (held_of vs)) k h)))
        ∙ none-of vs all.1 separate k a w (λ h. none (has-right v.held (flat (held_of vs)) k h))

    held-in : (vs : List View) (v : View) (k : ℕ) → Has vs v → Has v.held k → Has (flat (held_of vs)) k
    held-in [] v k here h = absurd here
    held-in (u ∷ us) v k (inl e) h = has-left u.held (flat (held_of us)) k (subst (λ (z : View). Has z.held k) e h)
    held-in (u ∷ us) v k (inr r) h = has-right u.held (flat (held_of us)) k (held-in us v k r h)

    -- at a write of a tile, main has what the tile's holder stored
    stored-holder : (vs : List View) → AllFinished s closes plan ls base vs → IsSeparate plan → Ordered Differ (flat (held_of vs)) → (v : View) → Has vs v → (k a : ℕ) → Has v.held k → writes plan k a ≡ true
        → stored_at a (flat (own_of vs)) ≡ stored_at a v.own
    stored-holder [] all separate once v here k a h w = absurd here
    stored-holder (u ∷ us) all separate once v (inl e) k a h w =
        let hu : Has u.held k = subst (λ (z : View). Has z.held k) e h in
        stored-first a u.own (flat (own_of us)) (none-of us all.1 separate k a w (λ r. ordered-across Differ u.held (flat (held_of us)) k k once hu r refl))
        ∙ ap (λ (z : View). stored_at a z.own) (sym e)
    stored-holder (u ∷ us) all separate once v (inr r) k a h w =
        stored-second a u.own (flat (own_of us)) (own-none u all.0 separate k a w (λ hu. ordered-across Differ u.held (flat (held_of us)) k k once hu (held-in us v k r h) refl))
        ∙ stored-holder us all.1 separate (ordered-right Differ u.held (flat (held_of us)) once) v r k a h w

    found : (vs : List View) (p : List ℕ) → AllFinished s closes plan ls base vs → Has (held_of vs) p → (v : View) × Has vs v × Finished s closes plan ls base v × (p ≡ v.held)
    found [] p all h = absurd h
    found (u ∷ us) p all (inl e) = (u, inl refl, all.0, e)
    found (u ∷ us) p all (inr h) = let (v, here, f, is) = found us p all.1 h in (v, inr here, f, is)

    ran-view : (v : View) → (f : Finished s closes plan ls base v) → follow (planned s plan ls) v.held (signed base) ≡ Some (record { memory = shown v; steps = f.steps })
    ran-view v f = planned-is v.held (signed base) ∙ ap (λ (b : List ℕ). follow s (taken ls v.held) (signed b)) (sym f.same_base) ∙ went-end s closes ls v f.steps f.ended.went

    all-run : (vs : List View) → AllFinished s closes plan ls base vs → AllRun (lists (planned s plan ls)) (signed base) (held_of vs)
    all-run vs all p h none =
        let (v, here, f, is) = found vs p all h in
        some-none _ (sym none ∙ ap (λ (q : List ℕ). follow (planned s plan ls) q (signed base)) is ∙ ran-view v f)

    steps_are : (vs : List View) (all : AllFinished s closes plan ls base vs) → steps_from (lists (planned s plan ls)) (signed base) (held_of vs) ≡ all_steps s closes plan ls base vs all
    steps_are [] all = refl
    steps_are (v ∷ vs) all = ap₂ (λ (n k : ℕ). n + k) (ap steps_of (ran-view v all.0)) (steps_are vs all.1)

    laid-over : (vs : List View) → AllFinished s closes plan ls base vs → IsSeparate plan → Ordered Differ (flat (held_of vs)) → LaidOver (lists (planned s plan ls)) (signed base) (held_of vs) (signed (overlaid (flat (own_of vs)) base))
    laid-over vs all separate once = record {
      long = length-map (overlaid (flat (own_of vs)) base) (cast_signed w64) ∙ length-overlaid (flat (own_of vs)) base ∙ sym (length-map base (cast_signed w64));
      own = λ p r h run a w.
          let (v, here, f, is) = found vs p all h in
          let (k, hk, wk) = any-has (λ (k : ℕ). (planned s plan ls).writes k a) p w in
          let memory : shown v ≡ r.memory = ap (λ (q : Outcome). q.memory) (some-injective _ _ (sym (ran-view v f) ∙ ap (λ (q : List ℕ). follow (planned s plan ls) q (signed base)) (sym is) ∙ run)) in
          same-word a (flat (own_of vs)) v.own base (stored-holder vs all separate once v here k a (subst (λ (q : List ℕ). Has q k) is hk) wk)
          ∙ ap (λ (b : List ℕ). word (signed (overlaid v.own b)) a) (sym f.same_base) ∙ ap (λ (m : List ℤ). word m a) memory;
      rest = λ a none. same-word a (flat (own_of vs)) [] base (nothing vs all a none);
    }
      where
        nothing : (vs : List View) → AllFinished s closes plan ls base vs → (a : ℕ) → ((p : List ℕ) → Has (held_of vs) p → list_any (λ (k : ℕ). (planned s plan ls).writes k a) p ≡ false) → stored_at a (flat (own_of vs)) ≡ None
        nothing [] all a none = refl
        nothing (v ∷ vs) all a none = stored-second a v.own (flat (own_of vs)) (mine (stored_at a v.own) refl) ∙ nothing vs all.1 a (λ p h. none p (inr h))
          where
            mine : (o : Option ℕ) → stored_at a v.own ≡ o → stored_at a v.own ≡ None
            mine None e = e
            mine (Some x) e =
                let (j, holds, wrote) = all.0.ended.told.owned a x e in
                let wj : writes plan j a ≡ true = subst (λ (t : Plan). writes t j a ≡ true) all.0.same_plan wrote in
                absurd (true≢false (sym (has_any (λ (k : ℕ). (planned s plan ls).writes k a) v.held j (has-from j v.held holds) wj) ∙ none v.held (inl refl)))

module _ {X : Type 0} (s : Machine X) (closes : X → Type 0) (lawful : Lawful s) where
  -- no failure: what main takes over is what the tiles leave, one after another
  pub all-finished : (n : ℕ) (plan : Plan) (ls : List (List X)) (base : List ℕ) (vs : List View) → length base ≡ s.size → IsSeparate plan → Fits s plan ls
      → (all : AllFinished s closes plan ls base vs) → Ordered Differ (flat (held_of vs)) → SameElements (range 0 n) (flat (held_of vs))
      → follow (planned s plan ls) (range 0 n) (signed base) ≡ Some (record { memory = signed (overlaid (flat (own_of vs)) base); steps = all_steps s closes plan ls base vs all })
  all-finished n plan ls base vs size separate fits all once same =
      shared_law (planned s plan ls) (planned-lawful s closes plan ls lawful fits) n (held_of vs) (signed base) (signed (overlaid (flat (own_of vs)) base))
      (length-map base (cast_signed w64) ∙ size) (λ i j _ _ ne. planned-apart s closes plan ls separate i j ne) once same
      (all-run s closes plan ls base vs all) (laid-over s closes plan ls base vs all separate once)
      ∙ ap (λ (k : ℕ). Some (record { memory = signed (overlaid (flat (own_of vs)) base); steps = k })) (steps_are s closes plan ls base vs all)

  -- a failure: the tiles are None, one after another
  pub some-failed : (plan : Plan) (ls : List (List X)) (base : List ℕ) → length base ≡ s.size → IsSeparate plan → Fits s plan ls
      → SomeFailed s plan ls base → follow (planned s plan ls) (range 0 (length plan.tiles)) (signed base) ≡ None
  some-failed plan ls base size separate fits some =
      let v = some.view in let told = some.failed.told in
      shared_none_law (planned s plan ls) (planned-lawful s closes plan ls lawful fits) (length plan.tiles) v.held (signed base)
      (length-map base (cast_signed w64) ∙ size) (λ i j _ _ ne. planned-apart s closes plan ls separate i j ne) (ordered-single v.held told.single)
      (λ k h. subst (λ (p : Plan). k < length p.tiles) some.same_plan (told.planned k (has-to k v.held h)))
      (planned-is s closes plan ls v.held (signed base) ∙ ap (λ (b : List ℕ). follow s (taken ls v.held) (signed b)) (sym some.same_base) ∙ came-end s closes ls v some.at some.steps some.failed.came)
