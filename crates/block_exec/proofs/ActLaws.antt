-- How acts go on.
use Rattle.std.proofs.Common.{◌≡◌, refl, ap, sym, ◌∙◌, ℕ, zero, suc, ◌<◌, ◌≤◌, ◌+◌, ◌-◌, min, ℤ, List, [], ◌∷◌, ◌++◌, length, drop, get_or, append-nil, Option, Some, None, Result, Ok, Err, arith}
use Rattle.std.proofs.lemmas.List.{drop_all, drop_more}
use Rattle.std.proofs.Math.Seq.{drop-nil}
use Rattle.nest_lang.specs.Lookups.{Expectation}
use Rattle.nest_lang.specs.Stores.{Store, Effect, Nothing, effect_on}
use Rattle.nest_lang.specs.Traces.{Observation, Halt, Trace, ends, and_then, in_turn, Transition, step_of, traced, Done, Halted, Limited, Cut, cut_of, cut, seen_in}
use Rattle.nest_lang.specs.Expressions.{Frame}
use Rattle.nest_lang.proofs.CutLaws.{cut-step, cut-due, cut-ends, goes_on, seen-step, seen-due, seen-ends, goes_seen}
use Rattle.nest_lang.proofs.TraceLaws.{and_then-ends}
use Rattle.block_exec.specs.Watches.{Chain}
use Rattle.block_exec.specs.Moments.{Moment, Ran}
use Rattle.block_exec.specs.declared.halt.Halt as code
use Rattle.block_exec.specs.declared.halt.Halted as mark
use Rattle.block_exec.specs.declared.halt.Cut as cutting
use Rattle.block_exec.specs.declared.halt.Cut.TheVariants as cutting_by
use Rattle.block_exec.specs.Halts.{halt_by, finish_of}
use Rattle.block_exec.proofs.ChainLaws.{chain-append, chain-one}
use Rattle.block_exec.specs.declared.code.Act.{Act}
use Rattle.block_exec.specs.declared.code.Act.TheVariants.{Step, Skip}
use Rattle.block_exec.specs.declared.code.End.{End}
use Rattle.block_exec.specs.declared.code.Instruction.{Instruction}
use Rattle.block_exec.specs.Codes.{Does, does, shown_by, done_by, done_level, act_level, gone_in, acts_trace}
use Rattle.block_exec.specs.Coded.{acts_from, cut_after, seen_after, Acted, IsDone}

pub ruleset finishes = (chain-one, append-nil)

pub drop-drop : (l : List Act) (k n : ℕ) → drop n (drop k l) ≡ drop (k + n) l
drop-drop [] k n = ap (drop n) (drop-nil k) ∙ drop-nil n ∙ sym (drop-nil (k + n))
drop-drop (x ∷ xs) zero n =
    let e : 0 + n ≡ n = omega arith in
    rw e refl
drop-drop (x ∷ xs) (suc k) n =
    let e : suc k + n ≡ suc (k + n) = omega arith in
    rw e (drop-drop xs k n)

done-before : (seen : List Observation) (r : Result Does Halt) (t : List ℤ) (go : ℕ → List ℤ → Store → Trace) → (done_level seen r t go).entry.before ≡ []
done-before seen (Ok d) t go = refl
done-before seen (Err halt) t go = refl

level-before : (f : Frame) (w : End) (seen : List Observation) (r : Result (List ℤ) Halt) (s : Store) (go : ℕ → List ℤ → Store → Trace) → (act_level f w seen r s go).entry.before ≡ []
level-before f w seen (Ok t) s go = done-before _ (done_by f w t s) t go
level-before f w seen (Err halt) s go = refl

pub in-turn-one : (g : Store → Trace) (s : Store) → in_turn (g ∷ []) s ≡ g s
in-turn-one g s = and_then-ends s (g s)

-- what the end of a step did
pub is-done : (r : Result Does Halt) (n : ℕ) (h : code.Halt) (s s' : Store) → IsDone r (Ok n) h s s' → (e : Effect) × ((r ≡ Ok (does e n)) × (s' ≡ effect_on s e))
is-done (Ok d) n h s s' is = (d.effect, (ap (λ k. Ok (does d.effect k)) (sym (is.0)), is.1))
is-done (Err halt) n h s s' is = absurd is

pub is-halted : (r : Result Does Halt) (m : mark.Halted) (h : code.Halt) (s s' : Store) → IsDone r (Err m) h s s' → (r ≡ Err (halt_by h)) × (s' ≡ s)
is-halted (Ok d) m h s s' is = absurd is
is-halted (Err halt) m h s s' is = (ap Err (is.0), is.1)

module _ (f : Frame) where
  pub skipped-past : (acts : List Act) (n : ℕ) (t : List ℤ) (s : Store) → acts_trace f acts n t s ≡ acts_trace f (drop n acts) 0 t s
  unfolding acts_trace
  skipped-past [] zero t s = refl
  skipped-past [] (suc n) t s = refl
  skipped-past (a ∷ acts) zero t s = refl
  skipped-past (a ∷ acts) (suc n) t s = skipped-past acts n t s

  from-act : (acts : List Act) (at : ℕ) (a z : Act) → at < length acts → a ≡ get_or acts at z → drop at acts ≡ a ∷ drop (at + 1) acts
  from-act acts at a z h e = drop_more acts at z h ∙ ap (λ y. y ∷ drop (at + 1) acts) (sym e)

  -- what follows a step of acts
  abbrev pub behind : List Act → ℕ → ℕ → List ℤ → Store → Trace
  behind acts at n t s = acts_trace f (drop (at + 1) acts) n t s

  pub behind-is : (acts : List Act) (at n : ℕ) (t : List ℤ) (s : Store) → behind acts at n t s ≡ acts_from f acts (at + 1 + n) t s
  behind-is acts at n t s = skipped-past (drop (at + 1) acts) n t s ∙ ap (λ d. acts_trace f d 0 t s) (drop-drop acts (at + 1) n)

  abbrev pub level_at : List Act → ℕ → List Instruction → End → List ℤ → Store → Transition
  level_at acts at parts w t s = act_level f w (gone_in f s parts t).seen (gone_in f s parts t).registers s (behind acts at)

  step-at : (acts : List Act) (at : ℕ) (parts : List Instruction) (w : End) (z : Act) (t : List ℤ) (s : Store) → at < length acts → Step parts w ≡ get_or acts at z → acts_from f acts at t s ≡ traced (level_at acts at parts w t s) s
  unfolding acts_trace
  step-at acts at parts w z t s h e = rw (from-act acts at (Step parts w) z h e) refl

  skip-at : (acts : List Act) (at n : ℕ) (z : Act) (t : List ℤ) (s : Store) → at < length acts → Skip n ≡ get_or acts at z → acts_from f acts at t s ≡ acts_from f acts (at + 1 + n) t s
  unfolding acts_trace
  skip-at acts at n z t s h e = rw (from-act acts at (Skip n) z h e) (behind-is acts at n t s)

  pub end-at : (acts : List Act) (at : ℕ) (t : List ℤ) (s : Store) → length acts ≤ at → acts_from f acts at t s ≡ ends
  unfolding acts_trace
  end-at acts at t s h = rw (drop_all at acts h) refl

  module _ {W : Type 0} (may : W → Observation → W → Type 0) (acts : List Act) (at : ℕ) (z : Act) (a b : Moment W) (h : code.Halt) (ta : List ℤ) (within : at < length acts) where
    pub acted-skips : (n : ℕ) → Skip n ≡ get_or acts at z → b ≡ a → Acted may f acts at ta ta a b (Ok (at + 1 + n)) h
    acted-skips n item same =
        let is = skip-at acts at n z ta a.store within item in
        rw same record {
          rest = ap (λ tr. cut tr a.store a.left a.used) (sym is);
          shown = λ w chain. rw is chain;
        }

    module _ (parts : List Instruction) (w : End) (item : Step parts w ≡ get_or acts at z) where
      pub acted-due : (0 < a.left → ⊥) → b.store ≡ a.store → b.left ≡ a.left - 1 → b.used ≡ a.used + min 1 a.left → b.watch ≡ a.watch → Acted may f acts at ta ta a b (Err cutting_by.Limited) h
      acted-due none store left used watch =
          let zero_left : a.left ≡ 0 = omega (arith, none) in
          let left_is : b.left ≡ a.left = omega (arith, zero_left, left) in
          let used_is : b.used ≡ a.used = omega (arith, zero_left, used) in
          let is = step-at acts at parts w z ta a.store within item in
          record {
            rest = rw (is, store, left_is, used_is) (sym (cut-due (level_at acts at parts w ta a.store) a.store a.left a.used zero_left));
            shown = λ v chain. rw (is, seen-due (level_at acts at parts w ta a.store) a.store a.left zero_left, level-before) (chain ∙ watch);
          }

      pub acted-halts : (os : List Observation) → level_at acts at parts w ta a.store ≡ step_of [] os Nothing (Some (halt_by h)) [] → b.store ≡ a.store → 0 < a.left → b.left ≡ a.left - 1 → b.used ≡ a.used + min 1 a.left → Chain may a.watch os b.watch → (tb : List ℤ) → Acted may f acts at ta tb a b (Err cutting_by.Halted) h
      acted-halts os level store some left used chain tb =
          let is = step-at acts at parts w z ta a.store within item ∙ ap (λ st. traced st a.store) level in
          let st = step_of [] os Nothing (Some (halt_by h)) [] in
          record {
            rest = rw (is, store) (sym (cut-step st a.store a.left a.used b.left b.used some left used));
            shown = λ v more. rw (is, seen-step st a.store a.left b.left some left, append-nil) (rw more chain);
          }

      pub acted-goes : (os : List Observation) (e : Effect) (n : ℕ) (tb : List ℤ) → level_at acts at parts w ta a.store ≡ step_of [] os e None (behind acts at n tb ∷ []) → b.store ≡ effect_on a.store e → 0 < a.left → b.left ≡ a.left - 1 → b.used ≡ a.used + min 1 a.left → Chain may a.watch os b.watch → Acted may f acts at ta tb a b (Ok (at + 1 + n)) h
      acted-goes os e n tb level store some left used chain =
          let is = step-at acts at parts w z ta a.store within item ∙ ap (λ st. traced st a.store) level in
          let st = step_of [] os e None (behind acts at n tb ∷ []) in
          let goes : in_turn (behind acts at n tb ∷ []) (effect_on a.store e) ≡ acts_from f acts (at + 1 + n) tb (effect_on a.store e) = in-turn-one (behind acts at n tb) (effect_on a.store e) ∙ behind-is acts at n tb (effect_on a.store e) in
          record {
            rest = rw (is, store) (ap (λ tr. cut tr (effect_on a.store e) b.left b.used) (sym goes) ∙ sym (cut-step st a.store a.left a.used b.left b.used some left used));
            shown = λ v more.
                let more_is : Chain may b.watch (seen_in (acts_from f acts (at + 1 + n) tb (effect_on a.store e)) b.left) v = rw store at more in
                rw (is, seen-step st a.store a.left b.left some left, goes) (chain-append may _ _ _ _ _ chain more_is);
          }

module _ {W : Type 0} (may : W → Observation → W → Type 0) (f : Frame) (acts : List Act) where
  pub acted-trans : (at next : ℕ) (ta tb tc : List ℤ) (a b c : Moment W) (end : Result ℕ cutting.Cut) (h k : code.Halt) → Acted may f acts at ta tb a b (Ok next) h → Acted may f acts next tb tc b c end k → Acted may f acts at ta tc a c end k
  acted-trans at next ta tb tc a b c end h k x y = record {
    rest = y.rest ∙ x.rest;
    shown = λ w chain. x.shown w (y.shown w chain);
  }

  -- all acts were run
  pub acted-end : (at : ℕ) (ta tb : List ℤ) (a b : Moment W) (h : code.Halt) → Acted may f acts 0 ta tb a b (Ok at) h → length acts ≤ at → Ran may (acts_trace f acts 0 ta) a b Done
  acted-end at ta tb a b h x past =
      let is = end-at f acts at tb b.store past in
      let ended : cut_of b.store b.left b.used Done ≡ cut (acts_from f acts at tb b.store) b.store b.left b.used = rw is (sym (cut-ends b.store b.left b.used)) in
      let nothing : seen_in (acts_from f acts at tb b.store) b.left ≡ [] = rw is (seen-ends b.left) in
      record {
        cut = ended ∙ x.rest;
        shown = x.shown b.watch (rw nothing refl);
      }

  -- or they were cut short
  pub acted-cut : (ta tb : List ℤ) (a b : Moment W) (e : cutting.Cut) (h : code.Halt) → Acted may f acts 0 ta tb a b (Err e) h → Ran may (acts_trace f acts 0 ta) a b (finish_of (Err e) h)
  acted-cut ta tb a b cutting_by.Halted h x = record {
    cut = x.rest;
    shown = x.shown b.watch refl;
  }
  acted-cut ta tb a b cutting_by.Limited h x = record {
    cut = x.rest;
    shown = x.shown b.watch refl;
  }
