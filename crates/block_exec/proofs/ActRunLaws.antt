-- How acts go on, in code's words.
use Rattle.std.proofs.Common.{◌≡◌, refl, ap, sym, ◌∙◌, ℕ, ◌<◌, ◌+◌, ◌-◌, min, ℤ, List, ◌++◌, length, get_or, Result, Ok, Err}
use Rattle.nest_lang.specs.declared.budget.Budget.{Budget}
use Rattle.nest_lang.specs.Lookups.{Expectation}
use Rattle.nest_lang.specs.Traces.{Observation}
use Rattle.block_exec.specs.Watches.{Chain}
use Rattle.block_exec.specs.Sites.{frame_at}
use Rattle.block_exec.specs.declared.site.Site.{Site}
use Rattle.block_exec.specs.declared.halt.Halted as mark
use Rattle.block_exec.specs.declared.halt.Cut.TheVariants as cutting_by
use Rattle.block_exec.specs.Halts.{halt_by}
use Rattle.block_exec.proofs.ChainLaws.{chain-append}
use Rattle.block_exec.specs.declared.code.Act.{Act}
use Rattle.block_exec.specs.declared.code.Act.TheVariants.{Step}
use Rattle.block_exec.specs.declared.code.End.{End}
use Rattle.block_exec.specs.declared.code.Instruction.{Instruction}
use Rattle.block_exec.specs.declared.context.Run.{Run}
use Rattle.block_exec.specs.Codes.{shown_by, done_by, done_level, act_level}
use Rattle.block_exec.specs.Runs.{Looked, within}
use Rattle.block_exec.specs.Coded.{Acted, IsDone, instructions_at}
use Rattle.block_exec.proofs.ActLaws.{acted-halts, acted-goes, is-done, is-halted, behind}

module _ {P W B : Type 0} (memory : P → List ℤ) (expects : P → Expectation) (basis : P → B) (may : W → Observation → W → Type 0) (site : Site) (acts : List Act) (at : ℕ) (z : Act) (parts : List Instruction) (w : End) where
  module _ (a m : Run P W) (ra rm : List ℤ) (st : Budget) (here : at < length acts) (item : Step parts w ≡ get_or acts at z) (some : 0 < a.steps.left) (left : st.left ≡ a.steps.left - 1) (used : st.used ≡ a.steps.used + min 1 a.steps.left) (looked : Looked memory expects basis (record a { steps = st }) m) (chain : Chain may a.watch.now (instructions_at memory expects site (record a { steps = st }) parts ra).seen m.watch.now) where
    left-then : m.steps.left ≡ a.steps.left - 1
    left-then = ap (λ r. r.steps.left) looked.rest ∙ left

    used-then : m.steps.used ≡ a.steps.used + min 1 a.steps.left
    used-then = ap (λ r. r.steps.used) looked.rest ∙ used

    store-then : (within memory m).store ≡ (within memory a).store
    store-then =
        let scalars = ap (λ r. r.scalars.now) looked.rest in
        let locals = ap (λ r. r.locals) looked.rest in
        rw (scalars, locals, looked.memory_same) refl

    -- an instruction halted
    pub act-stops : Err (halt_by m.halt) ≡ (instructions_at memory expects site (record a { steps = st }) parts ra).registers → Acted may (frame_at site (expects a.port.now)) acts at ra rm (within memory a) (within memory m) (Err cutting_by.Halted) m.halt
    act-stops err =
        let f = frame_at site (expects a.port.now) in
        let s = (within memory a).store in
        let os = (instructions_at memory expects site (record a { steps = st }) parts ra).seen in
        acted-halts f may acts at z (within memory a) (within memory m) m.halt ra here parts w item os (sym (ap (λ r. act_level f w os r s (behind f acts at)) err)) store-then some left-then used-then chain rm

    module _ (b : Run P W) (ok : Ok rm ≡ (instructions_at memory expects site (record a { steps = st }) parts ra).registers) (steps : b.steps ≡ m.steps) (end : Chain may m.watch.now (shown_by (frame_at site (expects m.port.now)) w rm) b.watch.now) where
      whole : Chain may a.watch.now ((instructions_at memory expects site (record a { steps = st }) parts ra).seen ++ shown_by (frame_at site (expects a.port.now)) w rm) b.watch.now
      whole =
          let there : Chain may m.watch.now (shown_by (frame_at site (expects a.port.now)) w rm) b.watch.now = rw looked.expects_same at end in
          chain-append may _ _ _ _ _ chain there

      pub act-goes : (n : ℕ) (h : _) → IsDone (done_by (frame_at site (expects m.port.now)) w rm (within memory m).store) (Ok n) h (within memory m).store (within memory b).store → Acted may (frame_at site (expects a.port.now)) acts at ra rm (within memory a) (within memory b) (Ok (at + 1 + n)) b.halt
      act-goes n h done =
          let f = frame_at site (expects a.port.now) in
          let s = (within memory a).store in
          let seen = (instructions_at memory expects site (record a { steps = st }) parts ra).seen in
          let os = seen ++ shown_by f w rm in
          let done_then : IsDone (done_by f w rm s) (Ok n) h s (within memory b).store = rw (looked.expects_same, store-then) at done in
          let is = is-done (done_by f w rm s) n h s (within memory b).store done_then in
          (
          acted-goes f may acts at z (within memory a) (within memory b) b.halt ra here parts w item os (is.0) n rm
          (sym (ap (λ r. act_level f w seen r s (behind f acts at)) ok) ∙ ap (λ r. done_level os r rm (behind f acts at)) (is.1.0))
          (is.1.1) some (ap (λ x. x.left) steps ∙ left-then) (ap (λ x. x.used) steps ∙ used-then) whole
          )

      pub act-refused : (mark : mark.Halted) → IsDone (done_by (frame_at site (expects m.port.now)) w rm (within memory m).store) (Err mark) b.halt (within memory m).store (within memory b).store → Acted may (frame_at site (expects a.port.now)) acts at ra rm (within memory a) (within memory b) (Err cutting_by.Halted) b.halt
      act-refused mark done =
          let f = frame_at site (expects a.port.now) in
          let s = (within memory a).store in
          let seen = (instructions_at memory expects site (record a { steps = st }) parts ra).seen in
          let os = seen ++ shown_by f w rm in
          let done_then : IsDone (done_by f w rm s) (Err mark) b.halt s (within memory b).store = rw (looked.expects_same, store-then) at done in
          let is = is-halted (done_by f w rm s) mark b.halt s (within memory b).store done_then in
          acted-halts f may acts at z (within memory a) (within memory b) b.halt ra here parts w item os
          (sym (ap (λ r. act_level f w seen r s (behind f acts at)) ok) ∙ ap (λ r. done_level os r rm (behind f acts at)) (is.0))
          (is.1) some (ap (λ x. x.left) steps ∙ left-then) (ap (λ x. x.used) steps ∙ used-then) whole rm
