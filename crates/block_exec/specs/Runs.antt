-- Runs: what a run is at, and what of it stays.
use Rattle.std.specs.Prelude.{◌≡◌, ◌+◌, ◌≤◌, ℤ, List, [], length, false}
use Rattle.nest_lang.specs.declared.tree.Expr.{Expr}
use Rattle.nest_lang.specs.Lookups.{Expectation, look_load}
use Rattle.nest_lang.specs.Stores.{store_of}
use Rattle.nest_lang.specs.Expressions.{Told, told_by}
use Rattle.block_exec.specs.Halts.{IsTrap}
use Rattle.block_exec.specs.Moments.{Moment, moment}
use Rattle.block_exec.specs.Sites.{frame_at}
use Rattle.block_exec.specs.declared.context.Run.{Run}
use Rattle.block_exec.specs.declared.site.Site.{Site}

-- the moment that a run is at, inside of a block and outside of blocks, where there are no locals
abbrev pub within : {P W : Type 0} → (P → List ℤ) → Run P W → Moment W
within memory r = moment (store_of (memory r.port.now) r.scalars.now r.locals) r.steps.left r.steps.used r.watch.now

abbrev pub outside : {P W : Type 0} → (P → List ℤ) → Run P W → Moment W
outside memory r = moment (store_of (memory r.port.now) r.scalars.now []) r.steps.left r.steps.used r.watch.now

-- what an expression tells there
abbrev pub told_at : {P W : Type 0} → (P → List ℤ) → (P → Expectation) → Site → Run P W → Expr → Told
told_at memory expects site r e = told_by (frame_at site (expects r.port.now)) r.scalars.now r.locals (look_load (expects r.port.now) (memory r.port.now)) e

-- something was shown, and all else is as it was
abbrev pub OnlyShown : {P W : Type 0} → Run P W → Run P W → Type 0
OnlyShown old new = new ≡ record old { watch = record old.watch { now = new.watch.now } }

-- the halt alone was touched
pub record OnlyHalted {P W : Type 0} (old new : Run P W) : Type 0 where
  pub rest : new ≡ record old { halt = new.halt }
  pub quiet : IsTrap old.halt → IsTrap new.halt

-- the port, the watch and the halt alone were touched, and the port means what it meant
pub record Looked {P W B : Type 0} (memory : P → List ℤ) (expects : P → Expectation) (basis : P → B) (old new : Run P W) : Type 0 where
  pub rest : new ≡ record old { port = record old.port { now = new.port.now }; watch = record old.watch { now = new.watch.now }; halt = new.halt }
  pub quiet : (expects old.port.now).verifies ≡ false → IsTrap old.halt → IsTrap new.halt
  pub memory_same : memory new.port.now ≡ memory old.port.now
  pub expects_same : expects new.port.now ≡ expects old.port.now
  pub basis_same : basis new.port.now ≡ basis old.port.now

-- the same where a word of the port's memory may have been set
pub record Stored {P W B : Type 0} (expects : P → Expectation) (basis : P → B) (old new : Run P W) : Type 0 where
  pub rest : new ≡ record old { port = record old.port { now = new.port.now }; watch = record old.watch { now = new.watch.now }; halt = new.halt }
  pub quiet : (expects old.port.now).verifies ≡ false → IsTrap old.halt → IsTrap new.halt
  pub expects_same : expects new.port.now ≡ expects old.port.now
  pub basis_same : basis new.port.now ≡ basis old.port.now

-- a run goes on over the same port, scalars and watch: no step is lost, and where its port doesn't verify
-- it doesn't stop
pub record Kept {P W B : Type 0} (expects : P → Expectation) (basis : P → B) (old new : Run P W) : Type 0 where
  pub expects_same : expects new.port.now ≡ expects old.port.now
  pub basis_same : basis new.port.now ≡ basis old.port.now
  pub scalars_same : new.scalars.ghost_name ≡ old.scalars.ghost_name
  pub port_same : new.port.ghost_name ≡ old.port.ghost_name
  pub watch_same : new.watch.ghost_name ≡ old.watch.ghost_name
  pub count : length new.scalars.now ≡ length old.scalars.now
  pub steps : new.steps.left + new.steps.used ≡ old.steps.left + old.steps.used
  pub fewer : new.steps.left ≤ old.steps.left
  pub quiet : (expects old.port.now).verifies ≡ false → IsTrap old.halt → IsTrap new.halt
