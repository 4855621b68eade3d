-- Runs of traces, one after another.
use Rattle.std.proofs.Common.{◌≡◌, refl, ap, ◌∙◌, sym, subst, ℕ, zero, suc, ◌<◌, ◌+◌, ◌-◌, ◌≤◌, min, true, false, List, [], ◌∷◌, ◌++◌, Option, Some, None, Result, Ok, Err, append-nil, arith}
use Rattle.nest_lang.specs.declared.tree.Head.{Head}
use Rattle.nest_lang.specs.Stores.{Store, Nothing}
use Rattle.nest_lang.specs.Traces.{Observation, Halt, Trace, ends, and_then, in_turn, Transition, step_of, traced, Finish, Done, Halted, Limited, Cut, cut, seen_in}
use Rattle.nest_lang.specs.Expressions.{Frame}
use Rattle.nest_lang.specs.Statements.{announced}
use Rattle.nest_lang.specs.Heads.{Yield, Tested, head_of, head_step, headed}
use Rattle.nest_lang.specs.Loops.{turns_from, turn_if, whiles_from}
use Rattle.nest_lang.proofs.CutLaws.{cut-and_then, cut-ends, cut-step, cut-due, resumed, resumed-not, seen-and_then, rest_seen, rest-seen-not, seen-step, seen-due, seen-ends}
use Rattle.block_exec.specs.Watches.{Chain}
use Rattle.block_exec.specs.Moments.{Moment, moment, Ran, Evaluated, where_left, shown_where_left}
use Rattle.block_exec.proofs.ChainLaws.{chain-append}
use Rattle.nest_lang.proofs.StepLaws.{head_step-before}

module _ {W : Type 0} (may : W → Observation → W → Type 0) where
  -- nothing is run
  pub ran-ends : (a : Moment W) → Ran may (λ s. ends) a a Done
  ran-ends a = record { cut = sym (cut-ends a.store a.left a.used); shown = subst (λ (os : List Observation). Chain may a.watch os a.watch) (sym (seen-ends a.left)) refl }

  -- one trace was done, and then another was run
  pub ran-then : (f g : Store → Trace) (a b c : Moment W) (e : Finish) → Ran may f a b Done → Ran may g b c e → Ran may (λ s. and_then s (f s) g) a c e
  ran-then f g a b c e first second =
      record {
        cut = second.cut ∙ ap (λ (z : Cut). resumed z g) first.cut ∙ sym (cut-and_then (f a.store) g a.store a.left a.used);
        shown =
            let rest : rest_seen (cut (f a.store) a.store a.left a.used) g ≡ seen_in (g b.store) b.left = ap (λ (z : Cut). rest_seen z g) (sym first.cut) in
            let all : seen_in (and_then a.store (f a.store) g) a.left ≡ seen_in (f a.store) a.left ++ seen_in (g b.store) b.left =
            seen-and_then (f a.store) g a.store a.left a.used ∙ ap (λ z. seen_in (f a.store) a.left ++ z) rest in
            subst (λ (os : List Observation). Chain may a.watch os c.watch) (sym all) (chain-append may a.watch b.watch c.watch _ _ first.shown second.shown);
      }

  -- one trace was not done, so nothing followed it
  pub ran-out : (f g : Store → Trace) (a b : Moment W) (e : Finish) → Ran may f a b e → (e ≡ Done → ⊥) → Ran may (λ s. and_then s (f s) g) a b e
  ran-out f g a b e first other =
      let here : (cut (f a.store) a.store a.left a.used).ending ≡ e = ap (λ (z : Cut). z.ending) (sym first.cut) in
      let not-done : (cut (f a.store) a.store a.left a.used).ending ≡ Done → ⊥ = λ h. other (sym here ∙ h) in
      record {
        cut = first.cut ∙ sym (resumed-not (cut (f a.store) a.store a.left a.used) g not-done) ∙ sym (cut-and_then (f a.store) g a.store a.left a.used);
        shown =
            let none = rest-seen-not (cut (f a.store) a.store a.left a.used).ending (cut (f a.store) a.store a.left a.used).store (cut (f a.store) a.store a.left a.used).left g not-done in
            let all : seen_in (and_then a.store (f a.store) g) a.left ≡ seen_in (f a.store) a.left =
            seen-and_then (f a.store) g a.store a.left a.used ∙ ap (λ z. seen_in (f a.store) a.left ++ z) none ∙ append-nil (seen_in (f a.store) a.left) in
            subst (λ (os : List Observation). Chain may a.watch os b.watch) (sym all) first.shown;
      }

  -- a trace alone
  pub ran-only : (f : Store → Trace) (a b : Moment W) (e : Finish) → Ran may f a b e → Ran may (in_turn (f ∷ [])) a b e
  ran-only f a b Done r = ran-then f (in_turn []) a b b Done r (ran-ends b)
  ran-only f a b (Halted halt) r = ran-out f (in_turn []) a b (Halted halt) r (λ h. cc)
  ran-only f a b Limited r = ran-out f (in_turn []) a b Limited r (λ h. cc)

  -- two traces that are the same from where they are run
  pub ran-same : (f g : Store → Trace) (a b : Moment W) (e : Finish) → f a.store ≡ g a.store → Ran may f a b e → Ran may g a b e
  ran-same f g a b e same r =
      record {
        cut = r.cut ∙ ap (λ z. cut z a.store a.left a.used) same;
        shown = subst (λ (z : Trace). Chain may a.watch (seen_in z a.left) b.watch) same r.shown;
      }

  step-yields : (before seen : List Observation) (r : Result Yield Halt) (go : Yield → List (Store → Trace)) (y : Yield) (s : Store) (left used left' used' : ℕ) (w w' : W) (c : Moment W) (e : Finish)
      → Some (Ok y) ≡ where_left left r → left' ≡ left - 1 → used' ≡ used + min 1 left → Chain may w (before ++ shown_where_left left seen) w'
      → Ran may (in_turn (go y)) (moment s left' used' w') c e → Ran may (λ t. traced (head_step before seen r go) s) (moment s left used w) c e
  step-yields before seen r go y s zero used left' used' w w' c e is fewer more shown rest = absurd (cc)
  step-yields before seen r go y s (suc n) used left' used' w w' c e is fewer more shown rest =
      let value : r ≡ Ok y = cc in
      let step : Transition = step_of before seen Nothing None (go y) in
      let P : Result Yield Halt → Type 0 = λ z. Ran may (λ t. traced (head_step before seen z go) s) (moment s (suc n) used w) c e in
      subst P (sym value)
      (record {
        cut = rest.cut ∙ sym (cut-step step s (suc n) used left' used' (omega arith) fewer more);
        shown = subst (λ (os : List Observation). Chain may w os c.watch) (sym (seen-step step s (suc n) left' (omega arith) fewer)) (chain-append may w w' c.watch (before ++ seen) _ shown rest.shown);
      })

  step-halts : (before seen : List Observation) (r : Result Yield Halt) (go : Yield → List (Store → Trace)) (h : Halt) (s : Store) (left used left' used' : ℕ) (w w' : W)
      → Some (Err h) ≡ where_left left r → left' ≡ left - 1 → used' ≡ used + min 1 left → Chain may w (before ++ shown_where_left left seen) w'
      → Ran may (λ t. traced (head_step before seen r go) s) (moment s left used w) (moment s left' used' w') (Halted h)
  step-halts before seen r go h s zero used left' used' w w' is fewer more shown = absurd (cc)
  step-halts before seen r go h s (suc n) used left' used' w w' is fewer more shown =
      let value : r ≡ Err h = cc in
      let step : Transition = step_of before seen Nothing (Some h) [] in
      let P : Result Yield Halt → Type 0 = λ z. Ran may (λ t. traced (head_step before seen z go) s) (moment s (suc n) used w) (moment s left' used' w') (Halted h) in
      subst P (sym value)
      (record {
        cut = sym (cut-step step s (suc n) used left' used' (omega arith) fewer more);
        shown = subst (λ (os : List Observation). Chain may w os w') (sym (seen-step step s (suc n) left' (omega arith) fewer ∙ append-nil (before ++ seen))) shown;
      })

  step-limited : (before seen : List Observation) (r : Result Yield Halt) (go : Yield → List (Store → Trace)) (s : Store) (left used left' used' : ℕ) (w w' : W)
      → None ≡ where_left left r → left' ≡ left - 1 → used' ≡ used + min 1 left → Chain may w (before ++ shown_where_left left seen) w'
      → Ran may (λ t. traced (head_step before seen r go) s) (moment s left used w) (moment s left' used' w') Limited
  step-limited before seen r go s (suc n) used left' used' w w' is fewer more shown = absurd (cc)
  step-limited before seen r go s zero used left' used' w w' is fewer more shown =
      let step : Transition = head_step before seen r go in
      let a : left' ≡ 0 = omega arith in
      let b : used' ≡ used = omega arith in
      record {
        cut = rw (a, b) (sym (cut-due step s 0 used refl));
        shown = subst (λ (os : List Observation). Chain may w os w') (append-nil before ∙ sym (seen-due step s 0 refl ∙ head_step-before before seen r go)) shown;
      }

  -- a head was evaluated, and what follows from what it yields was run
  pub ran-head-yields : (f : Frame) (head : Head) (go : Yield → List (Store → Trace)) (y : Yield) (a m c : Moment W) (e : Finish)
      → Evaluated may f head a m (Some (Ok y)) → Ran may (in_turn (go y)) m c e → Ran may (λ s. traced (headed f head go s) s) a c e
  ran-head-yields f head go y a m c e ev rest =
      let from : Ran may (in_turn (go y)) (moment a.store m.left m.used m.watch) c e = subst (λ (s : Store). Ran may (in_turn (go y)) (moment s m.left m.used m.watch) c e) ev.store rest in
      ran-same (λ s. traced (headed f head go a.store) a.store) (λ s. traced (headed f head go s) s) a c e refl
      (step-yields (announced f a.store) (head_of f head a.store).seen (head_of f head a.store).value go y a.store a.left a.used m.left m.used a.watch m.watch c e ev.value ev.left ev.used ev.shown from)

  -- a head halted
  pub ran-head-halts : (f : Frame) (head : Head) (go : Yield → List (Store → Trace)) (h : Halt) (a m : Moment W)
      → Evaluated may f head a m (Some (Err h))
      → Ran may (λ s. traced (headed f head go s) s) a m (Halted h)
  ran-head-halts f head go h a m ev =
      subst (λ (s : Store). Ran may (λ u. traced (headed f head go u) u) a (moment s m.left m.used m.watch) (Halted h)) (sym ev.store)
      (ran-same (λ s. traced (headed f head go a.store) a.store) (λ s. traced (headed f head go s) s) a _ _ refl
      (step-halts (announced f a.store) (head_of f head a.store).seen (head_of f head a.store).value go h a.store a.left a.used m.left m.used a.watch m.watch ev.value ev.left ev.used ev.shown))

  -- no step was left for a head
  pub ran-head-limited : (f : Frame) (head : Head) (go : Yield → List (Store → Trace)) (a m : Moment W)
      → Evaluated may f head a m None
      → Ran may (λ s. traced (headed f head go s) s) a m Limited
  ran-head-limited f head go a m ev =
      subst (λ (s : Store). Ran may (λ u. traced (headed f head go u) u) a (moment s m.left m.used m.watch) Limited) (sym ev.store)
      (ran-same (λ s. traced (headed f head go a.store) a.store) (λ s. traced (headed f head go s) s) a _ _ refl
      (step-limited (announced f a.store) (head_of f head a.store).seen (head_of f head a.store).value go a.store a.left a.used m.left m.used a.watch m.watch ev.value ev.left ev.used ev.shown))

  -- where a run of what is left of a loop leads, so does one of the loop
  abbrev pub Leads : (Store → Trace) → Moment W → (Moment W → Finish → Type 0) → Type 0
  Leads f a Whole = (c : Moment W) (e : Finish) → Ran may f a c e → Whole c e

  -- the turns of a counted loop
  pub turns-next : (turn : ℕ → Store → Trace) (trip t : ℕ) (a b : Moment W) (Whole : Moment W → Finish → Type 0) → t < trip → Ran may (turn t) a b Done
      → Leads (turns_from (trip - t) t turn) a Whole → Leads (turns_from (trip - (t + 1)) (t + 1) turn) b Whole
  turns-next turn trip t a b Whole more first leads c e rest =
      let n : trip - t ≡ suc (trip - (t + 1)) = omega arith in
      let P : ℕ → Type 0 = λ m. Ran may (turns_from m t turn) a c e in
      leads c e (subst P (sym n) (ran-then (turn t) (turns_from (trip - (t + 1)) (t + 1) turn) a b c e first rest))

  pub turns-out : (turn : ℕ → Store → Trace) (trip t : ℕ) (a b : Moment W) (e : Finish) (Whole : Moment W → Finish → Type 0) → t < trip → Ran may (turn t) a b e → (e ≡ Done → ⊥)
      → Leads (turns_from (trip - t) t turn) a Whole → Whole b e
  turns-out turn trip t a b e Whole more first other leads =
      let n : trip - t ≡ suc (trip - (t + 1)) = omega arith in
      let P : ℕ → Type 0 = λ m. Ran may (turns_from m t turn) a b e in
      leads b e (subst P (sym n) (ran-out (turn t) (turns_from (trip - (t + 1)) (t + 1) turn) a b e first other))

  pub turns-end : (turn : ℕ → Store → Trace) (trip t : ℕ) (a : Moment W) (Whole : Moment W → Finish → Type 0) → trip ≤ t → Leads (turns_from (trip - t) t turn) a Whole → Whole a Done
  turns-end turn trip t a Whole none leads =
      let n : trip - t ≡ 0 = omega arith in
      let P : ℕ → Type 0 = λ m. Ran may (turns_from m t turn) a a Done in
      leads a Done (subst P (sym n) (ran-ends a))

  -- the turns of a `while`
  while-step : (frame : ℕ → Frame) (head : Head) (turn : ℕ → Store → Trace) (k t : ℕ) (a c : Moment W) (e : Finish) (Whole : Moment W → Finish → Type 0) → t < k
      → Leads (whiles_from (k - t) t frame head turn) a Whole
      → Ran may (λ s. traced (headed (frame t) head (turn_if (turn t) (whiles_from (k - (t + 1)) (t + 1) frame head turn)) s) s) a c e → Whole c e
  while-step frame head turn k t a c e Whole more leads r =
      let n : k - t ≡ suc (k - (t + 1)) = omega arith in
      let P : ℕ → Type 0 = λ m. Ran may (whiles_from m t frame head turn) a c e in
      leads c e (subst P (sym n) r)

  pub while-next : (frame : ℕ → Frame) (head : Head) (turn : ℕ → Store → Trace) (k t : ℕ) (a m b : Moment W) (Whole : Moment W → Finish → Type 0) → t < k
      → Evaluated may (frame t) head a m (Some (Ok (Tested true)))
      → Ran may (turn t) m b Done
      → Leads (whiles_from (k - t) t frame head turn) a Whole → Leads (whiles_from (k - (t + 1)) (t + 1) frame head turn) b Whole
  while-next frame head turn k t a m b Whole more ev first leads c e rest =
      while-step frame head turn k t a c e Whole more leads
      (ran-head-yields (frame t) head _ (Tested true) a m c e ev
      (ran-then (turn t) (in_turn (whiles_from (k - (t + 1)) (t + 1) frame head turn ∷ [])) m b c e first
      (ran-only (whiles_from (k - (t + 1)) (t + 1) frame head turn) b c e rest)))

  pub while-out : (frame : ℕ → Frame) (head : Head) (turn : ℕ → Store → Trace) (k t : ℕ) (a m b : Moment W) (e : Finish) (Whole : Moment W → Finish → Type 0) → t < k
      → Evaluated may (frame t) head a m (Some (Ok (Tested true)))
      → Ran may (turn t) m b e → (e ≡ Done → ⊥)
      → Leads (whiles_from (k - t) t frame head turn) a Whole → Whole b e
  while-out frame head turn k t a m b e Whole more ev first other leads =
      while-step frame head turn k t a b e Whole more leads
      (ran-head-yields (frame t) head _ (Tested true) a m b e ev
      (ran-out (turn t) (in_turn (whiles_from (k - (t + 1)) (t + 1) frame head turn ∷ [])) m b e first other))

  pub while-end : (frame : ℕ → Frame) (head : Head) (turn : ℕ → Store → Trace) (k t : ℕ) (a m : Moment W) (Whole : Moment W → Finish → Type 0) → t < k
      → Evaluated may (frame t) head a m (Some (Ok (Tested false)))
      → Leads (whiles_from (k - t) t frame head turn) a Whole → Whole m Done
  while-end frame head turn k t a m Whole more ev leads =
      while-step frame head turn k t a m Done Whole more leads
      (ran-head-yields (frame t) head _ (Tested false) a m m Done ev (ran-ends m))

  pub while-halts : (frame : ℕ → Frame) (head : Head) (turn : ℕ → Store → Trace) (k t : ℕ) (a m : Moment W) (h : Halt) (Whole : Moment W → Finish → Type 0) → t < k
      → Evaluated may (frame t) head a m (Some (Err h))
      → Leads (whiles_from (k - t) t frame head turn) a Whole → Whole m (Halted h)
  while-halts frame head turn k t a m h Whole more ev leads =
      while-step frame head turn k t a _ _ Whole more leads (ran-head-halts (frame t) head _ h a m ev)

  pub while-limited : (frame : ℕ → Frame) (head : Head) (turn : ℕ → Store → Trace) (k t : ℕ) (a m : Moment W) (Whole : Moment W → Finish → Type 0) → t < k
      → Evaluated may (frame t) head a m None
      → Leads (whiles_from (k - t) t frame head turn) a Whole → Whole m Limited
  while-limited frame head turn k t a m Whole more ev leads =
      while-step frame head turn k t a _ _ Whole more leads (ran-head-limited (frame t) head _ a m ev)
