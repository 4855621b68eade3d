-- A chunk's run, from moment to moment.
use Rattle.std.proofs.Common.{◌≡◌, refl, ap, ◌∙◌, sym, subst, ℕ, ℤ, List, Ok, unsigned_abs}
use Rattle.nest_lang.specs.declared.tree.Loop.{Loop}
use Rattle.nest_lang.specs.declared.state.Outer.{Outer}
use Rattle.nest_lang.specs.Stores.{store_of}
use Rattle.nest_lang.specs.Turns.{turns_later}
use Rattle.skeletons.specs.Cells.{Extent}
use Rattle.chunk_run.specs.declared.run.ChunkEnd.{ChunkEnd}
use Rattle.chunk_run.specs.declared.run.ChunkEnd.TheVariants.{Committed, RolledBack}
use Rattle.chunk_run.specs.ChunkEnds.{Between, IsCommitted, IsRolledBack, HasEnded}
use Rattle.journeys.specs.Settings.{Moment}
use Rattle.controller.specs.Machines.{between_at, HasRun}

abbrev moment-from : Outer → Between → List ℤ → Moment
moment-from o b locals = record { outer = o; store = store_of b.words b.scalars locals; left = b.steps.left; used = b.steps.used }

-- a moment is its position, the state between two turns, and the locals
moment-same : (m after : Moment) → after.outer ≡ m.outer → between_at after ≡ between_at m → after.store.locals ≡ m.store.locals → after ≡ m
moment-same m after outer state locals =
    ap (λ (o : Outer). moment-from o (between_at after) after.store.locals) outer
    ∙ ap (λ (b : Between). moment-from m.outer b after.store.locals) state
    ∙ ap (λ (ls : List ℤ). moment-from m.outer (between_at m) ls) locals

module _ (e : Extent) (loops : List Loop) (o : Outer) (m after : Moment) (old new : Between) (at : m.outer ≡ o) (before : between_at m ≡ old) (then : between_at after ≡ new) where
  committed-run : (instances phases tiles steps : ℕ) → IsCommitted e loops o old new instances phases tiles steps → IsCommitted e loops m.outer (between_at m) (between_at after) instances phases tiles steps
  committed-run instances phases tiles steps h =
      subst (λ (p : Outer). IsCommitted e loops p (between_at m) (between_at after) instances phases tiles steps) (sym at)
      (subst (λ (b : Between). IsCommitted e loops o b (between_at after) instances phases tiles steps) (sym before)
      (subst (λ (b : Between). IsCommitted e loops o old b instances phases tiles steps) (sym then) h))

  rolled-run : IsRolledBack e loops o old new → IsRolledBack e loops m.outer (between_at m) (between_at m)
  rolled-run h =
      let same : IsRolledBack e loops o old old = subst (λ (b : Between). IsRolledBack e loops o old b) h.same h in
      subst (λ (p : Outer). IsRolledBack e loops p (between_at m) (between_at m)) (sym at) (subst (λ (b : Between). IsRolledBack e loops o b b) (sym before) same)

  -- a chunk has ended from a moment, and the outermost loop stands where that leaves it
  pub has-run : (end : ChunkEnd) → HasEnded e loops o old new (Ok end) → after.store.locals ≡ m.store.locals
      → ((instances phases tiles steps : ℕ) → end ≡ Committed instances phases tiles steps → after.outer ≡ turns_later m.outer (unsigned_abs e.chunk.turns))
      → (end ≡ RolledBack → after.outer ≡ m.outer) → HasRun e loops m after (Ok end)
  has-run (Committed instances phases tiles steps) ended locals moves stays = (committed-run instances phases tiles steps ended, moves instances phases tiles steps refl)
  has-run RolledBack ended locals moves stays = (rolled-run ended, moment-same m after (stays refl) (then ∙ ended.same ∙ sym before) locals)

  -- where memory was wanting all is as before
  pub has-run-none : new ≡ old → after.store.locals ≡ m.store.locals → after.outer ≡ m.outer → after ≡ m
  has-run-none ended locals stays = moment-same m after stays (then ∙ ended ∙ sym before) locals
