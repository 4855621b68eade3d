-- Instances of blocks, as runs.
use Rattle.std.proofs.Common.{◌≡◌, refl, ap, sym, ◌∙◌, ℕ, ℤ, pos, List, [], ◌∷◌, length, replicate, arith}
use Rattle.nest_lang.specs.declared.tree.Stmt.{Stmt}
use Rattle.nest_lang.specs.Stores.{store_of}
use Rattle.nest_lang.specs.Lookups.{Expectation, plain}
use Rattle.nest_lang.specs.Traces.{Observation, Finish, Done, Cut, cut_of}
use Rattle.nest_lang.specs.Statements.{block_trace, instance_trace, announced}
use Rattle.block_exec.specs.Watches.{Chain}
use Rattle.block_exec.proofs.AnnounceLaws.{announced-scalars}
use Rattle.block_exec.proofs.ChainLaws.{chain-append}
use Rattle.block_exec.proofs.InstanceLaws.{cut-instance, cut-no-instance, seen-instance, seen-no-instance}
use Rattle.block_exec.proofs.StatementLaws.{without-locals}
use Rattle.block_exec.specs.Moments.{Ran}
use Rattle.block_exec.specs.declared.context.Run.{Run}
use Rattle.block_exec.specs.declared.site.Site.{Site}
use Rattle.block_exec.specs.Sites.{frame_at}
use Rattle.block_exec.specs.Runs.{OnlyShown, within, outside}

module _ {P W : Type 0} (memory : P → List ℤ) (expects : P → Expectation) (may : W → Observation → W → Type 0) (site : Site) where
  -- the scalars were shown, the locals set to 0, and the statements run
  pub ran-instance : (block : List Stmt) (old mid new : Run P W) (e : Finish) → (length block ≡ 0 → ⊥) → OnlyShown old mid
      → Chain may old.watch.now (announced (frame_at site plain) (store_of [] old.scalars.now [])) mid.watch.now
      → Ran may (block_trace (frame_at site (expects mid.port.now)) block) (within memory (record mid { locals = replicate 16 (pos 0) })) (within memory new) e
      → Ran may (instance_trace (frame_at site (expects old.port.now)) block) (outside memory old) (outside memory new) e
  ran-instance [] old mid new e some same shown ran = absurd (some refl)
  ran-instance (x ∷ xs) old mid new e some same shown ran =
      let port : mid.port.now ≡ old.port.now = ap (λ r. r.port.now) same in
      let scalars : mid.scalars.now ≡ old.scalars.now = ap (λ r. r.scalars.now) same in
      let steps : mid.steps ≡ old.steps = ap (λ r. r.steps) same in
      let run = rw (port, scalars, steps) at ran.cut in
      let seen = rw (port, scalars, steps) at ran.shown in
      record {
        cut = without-locals _ _ _ _ _ _ _ _ run ∙ sym (cut-instance _ (x ∷ xs) _ _ _ _);
        shown = rw (seen-instance, announced-scalars) (chain-append may _ _ _ _ _ shown seen);
      }

  pub ran-no-instance : (block : List Stmt) (old : Run P W) → length block ≡ 0 → Ran may (instance_trace (frame_at site (expects old.port.now)) block) (outside memory old) (outside memory old) Done
  ran-no-instance [] old none =
      record {
        cut = sym (cut-no-instance _ _ _ _ _);
        shown = rw seen-no-instance refl;
      }
  ran-no-instance (x ∷ xs) old none = absurd (omega (arith, none))
