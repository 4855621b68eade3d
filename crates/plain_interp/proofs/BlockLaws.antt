-- The steps of instances.
use Rattle.std.proofs.Common.{◌≡◌, refl, ap, ◌∙◌, sym, subst, ℕ, ◌<◌, ◌-◌, ◌≤◌, List, [], ◌∷◌, ◌++◌, length, Option, Some, None, Bool, true, false, if◌then◌else◌, nat_le, arith}
use Rattle.nest_lang.specs.declared.tree.Stmt.{Stmt}
use Rattle.nest_lang.specs.Stores.{Store}
use Rattle.nest_lang.specs.Traces.{Observation, Entry, Halt, Trace, Finish, Done, Halted, Limited, finish_of, Cut, cut_of, cut, seen_in}
use Rattle.nest_lang.specs.Expressions.{Frame}
use Rattle.nest_lang.specs.Statements.{instance_trace, block_trace, started, announced}
use Rattle.nest_lang.proofs.StatementLaws.{block-cons, statement-due}
use Rattle.nest_lang.proofs.CutLaws.{trace_of, cut-end, resumed}
use Rattle.block_exec.specs.Watches.{Chain}
use Rattle.block_exec.proofs.InstanceLaws.{cut-instance}
use Rattle.block_exec.specs.Moments.{Moment, Ran}

-- what a trace that was done took
done-steps : (t : Trace) (s s' : Store) (left used left' used' : ℕ) → 0 < length t.entries → cut_of s' left' used' Done ≡ cut t s left used → left' < left
unfolding cut
done-steps t s s' left used left' used' some run =
    let fewer : left' ≡ left - length t.entries = ap (λ (c : Cut). c.left) run in
    let ending : Done ≡ (cut t s left used).ending = ap (λ (c : Cut). c.ending) run in
    elim (nat_le (length t.entries) left) as (λ b. nat_le (length t.entries) left ≡ b → left' < left) [
      | true ↦ λ h. let room : length t.entries ≤ left = grind arith in omega arith
      | false ↦ λ h. absurd (limited h ending)
    ] refl
  where
    limited : nat_le (length t.entries) left ≡ false → Done ≡ (cut t s left used).ending → ⊥
    limited h q = let r : Done ≡ Limited = q ∙ ap (λ (b : Bool). if b then finish_of t.halt else Limited) h in cc

entries-some : (entries : List Entry) (halt : Option Halt) (s : Store) → cut (trace_of entries halt) s 0 0 ≡ cut_of s 0 0 Limited → 0 < length entries
entries-some [] None s due = absurd (let e : Done ≡ Limited = ap (λ (c : Cut). c.ending) (sym (cut-end None s 0 0) ∙ due) in cc)
entries-some [] (Some halt) s due = absurd (let e : Halted halt ≡ Limited = ap (λ (c : Cut). c.ending) (sym (cut-end (Some halt) s 0 0) ∙ due) in cc)
entries-some (e ∷ es) halt s due = omega arith

-- an instance has a step
instance-some : (f : Frame) (block : List Stmt) (s : Store) → 0 < length block → 0 < length (instance_trace f block s).entries
instance-some f [] s some = absurd (omega arith)
instance-some f (x ∷ xs) s some =
    entries-some (instance_trace f (x ∷ xs) s).entries (instance_trace f (x ∷ xs) s).halt (started s)
    (cut-instance f (x ∷ xs) s (started s) 0 0 ∙ block-cons f x xs (started s) 0 0 ∙ ap (λ (c : Cut). resumed c (block_trace f xs)) (statement-due f x (started s) 0 0 refl))

module _ {W : Type 0} (may : W → Observation → W → Type 0) where
  -- an instance that was done took a step
  pub instance-steps : (f : Frame) (block : List Stmt) (a b : Moment W) (e : Finish) → Ran may (instance_trace f block) a b e → 0 < length block → e ≡ Done → b.left < a.left
  instance-steps f block a b e r some done =
      done-steps (instance_trace f block a.store) a.store b.store a.left a.used b.left b.used (instance-some f block a.store some)
      (ap (λ (z : Finish). cut_of b.store b.left b.used z) (sym done) ∙ r.cut)
