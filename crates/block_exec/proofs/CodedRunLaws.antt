-- Runs of code, as runs of what it is code of.
use Rattle.std.proofs.Common.{◌≡◌, refl, ap, sym, ◌∙◌, ℕ, ◌+◌, ◌<◌, ◌≤◌, ℤ, pos, List, length, slice_get, get_or, Option, Some, Result, Ok, Err, arith}
use Rattle.nest_lang.specs.declared.tree.Expr.{Expr}
use Rattle.nest_lang.specs.declared.tree.Stmt.{Stmt}
use Rattle.nest_lang.specs.declared.observe.Stop.{Stop}
use Rattle.nest_lang.specs.Traces.{Observation, Halt, Finish, cut, seen_in}
use Rattle.nest_lang.specs.Expressions.{Frame, Told, told_by}
use Rattle.nest_lang.specs.Statements.{block_trace}
use Rattle.block_exec.specs.Watches.{Chain}
use Rattle.block_exec.specs.Moments.{Moment, Ran}
use Rattle.block_exec.specs.declared.halt.Halt as code
use Rattle.block_exec.specs.declared.halt.Halted as mark
use Rattle.block_exec.specs.Halts.{halt_by, answer_of}
use Rattle.block_exec.specs.declared.code.Act.{Act}
use Rattle.block_exec.specs.declared.code.Input.{Input}
use Rattle.block_exec.specs.declared.code.Instruction.{Instruction}
use Rattle.block_exec.specs.declared.code.ValueCode.{ValueCode}
use Rattle.block_exec.specs.Codes.{held, acts_trace, instructions_gone}
use Rattle.block_exec.specs.Coded.{HoldInputs, Leaves, IsValueCode, AreActs}

-- the code of statements was run
pub ran-statements : {W : Type 0} (may : W → Observation → W → Type 0) (f : Frame) (inputs : List Input) (block : List Stmt) (acts : List Act) (rs : List ℤ) (a b : Moment W) (e : Finish) → AreActs inputs block acts → length rs ≡ 256 → HoldInputs f.values inputs rs
    → Ran may (acts_trace f acts 0 rs) a b e → Ran may (block_trace f block) a b e
ran-statements may f inputs block acts rs a b e code size hold ran =
    let is = code f rs a.store size hold in
    record {
      cut = ran.cut ∙ ap (λ t. cut t a.store a.left a.used) is;
      shown = rw is at ran.shown;
    }

value-at : (rs t : List ℤ) (o : ℕ) (r : Result (List ℤ) Halt) (v : Result ℤ Halt) → Leaves rs 0 o r v → Ok t ≡ r → Ok (held t o) ≡ v
value-at rs t o (Ok u) (Ok v) leaves e = grind arith
value-at rs t o (Ok u) (Err h) leaves e = absurd leaves
value-at rs t o (Err k) (Ok v) leaves e = absurd leaves
value-at rs t o (Err k) (Err h) leaves e = grind arith

halt-at : (rs : List ℤ) (o : ℕ) (k : Halt) (r : Result (List ℤ) Halt) (v : Result ℤ Halt) → Leaves rs 0 o r v → Err k ≡ r → Err k ≡ v
halt-at rs o k (Ok u) (Ok v) leaves e = grind arith
halt-at rs o k (Ok u) (Err h) leaves e = absurd leaves
halt-at rs o k (Err j) (Ok v) leaves e = absurd leaves
halt-at rs o k (Err j) (Err h) leaves e =
    let same : k ≡ j = grind arith in
    ap Err (same ∙ leaves)

module _ (f : Frame) (scalars locals : List ℤ) (find : ℕ → ℤ → Result ℤ Stop) (e : Expr) (c : ValueCode) (rs : List ℤ) (code : IsValueCode e c) (size : length rs ≡ 256) (hold : HoldInputs f.values c.inputs rs) where
  pub value-told : (t : List ℤ) → Ok t ≡ (instructions_gone f scalars locals find c.instructions rs).registers → Ok (held t c.register) ≡ (told_by f scalars locals find e).value
  value-told t is = value-at rs t c.register _ _ (code.is.runs f scalars locals find rs size hold).1 is

  pub halt-told : (k : Halt) → Err k ≡ (instructions_gone f scalars locals find c.instructions rs).registers → Err k ≡ (told_by f scalars locals find e).value
  halt-told k is = halt-at rs c.register k _ _ (code.is.runs f scalars locals find rs size hold).1 is

  pub seen-told : (instructions_gone f scalars locals find c.instructions rs).seen ≡ (told_by f scalars locals find e).seen
  seen-told = (code.is.runs f scalars locals find rs size hold).0
