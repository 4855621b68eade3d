-- Coded: which code is that of an expression and of a block, and how far the run of a code has come.
use Rattle.std.specs.Prelude.{◌≡◌, ◌<◌, ◌≤◌, ◌+◌, ◌++◌, ◌⊎◌, ℕ, suc, ℤ, pos, List, [], ◌∷◌, drop, length, slice_get, Option, Some, None, Result, Ok, Err}
use Rattle.nest_lang.specs.declared.tree.Expr.{Expr}
use Rattle.nest_lang.specs.declared.tree.Op.{Op}
use Rattle.nest_lang.specs.declared.tree.Stmt.{Stmt}
use Rattle.nest_lang.specs.declared.observe.Stop.{Stop}
use Rattle.nest_lang.specs.Values.{apply_of}
use Rattle.nest_lang.specs.Lookups.{Expectation, look_load}
use Rattle.nest_lang.specs.Stores.{Store, effect_on}
use Rattle.nest_lang.specs.Traces.{Observation, Halt, Trace, Halted, Limited, Cut, cut_of, cut, seen_in}
use Rattle.nest_lang.specs.Expressions.{Frame, Told, told_by, or_trapped}
use Rattle.nest_lang.specs.Statements.{block_trace}
use Rattle.block_exec.specs.Halts.{halt_by}
use Rattle.block_exec.specs.declared.halt.Halt as code
use Rattle.block_exec.specs.declared.halt.Halted as mark
use Rattle.block_exec.specs.declared.halt.Cut as cutting
use Rattle.block_exec.specs.declared.halt.Cut.TheVariants as cutting_by
use Rattle.block_exec.specs.Moments.{Moment}
use Rattle.block_exec.specs.Watches.{Chain}
use Rattle.block_exec.specs.Sites.{frame_at}
use Rattle.block_exec.specs.declared.site.Site.{Site}
use Rattle.block_exec.specs.declared.context.Run.{Run}
use Rattle.block_exec.specs.declared.code.Input.{Input}
use Rattle.block_exec.specs.declared.code.Instruction.{Instruction}
use Rattle.block_exec.specs.declared.code.Act.{Act}
use Rattle.block_exec.specs.declared.code.BlockCode.{BlockCode}
use Rattle.block_exec.specs.declared.code.ValueCode.{ValueCode}
use Rattle.block_exec.specs.Codes.{held, input_value, Gone, Does, gone, set_to, instruction_gone, instructions_gone, acts_trace}

-- the registers from 128 on hold the inputs, each its own
abbrev pub HoldInputs : List ℤ → List Input → List ℤ → Type 0
HoldInputs values inputs rs = (i : ℕ) (x : Input) → slice_get inputs i ≡ Some x → held rs (128 + i) ≡ input_value values x

-- inputs begin others
abbrev pub Begins : List Input → List Input → Type 0
Begins inputs all = (added : List Input) × (all ≡ inputs ++ added)

-- a register that instructions for values from d on leave as it is: one below d, or one of an input
abbrev pub IsSpared : ℕ → ℕ → Type 0
IsSpared d n = (n < d) ⊎ (128 ≤ n)

abbrev pub SparedSame : ℕ → List ℤ → List ℤ → Type 0
SparedSame d rs rs' = (n : ℕ) → IsSpared d n → held rs n ≡ held rs' n

-- from the registers `rs` come those where the value stands in its register and the spared ones are as they were, or there is the same halt
abbrev pub Leaves : List ℤ → ℕ → ℕ → Result (List ℤ) Halt → Result ℤ Halt → Type 0
Leaves rs d o (Ok t) (Ok v) = (held t o ≡ v) × SparedSame d rs t × (length t ≡ 256)
Leaves rs d o (Ok t) (Err h) = ⊥
Leaves rs d o (Err k) (Ok v) = ⊥
Leaves rs d o (Err k) (Err h) = k ≡ h

-- the instructions show what is told, and leave its value
abbrev pub RunsTo : Frame → List ℤ → List ℤ → (ℕ → ℤ → Result ℤ Stop) → List ℤ → ℕ → List Instruction → ℕ → Told → Type 0
RunsTo f scalars locals find rs d ps o t =
    ((instructions_gone f scalars locals find ps rs).seen ≡ t.seen) × Leaves rs d o (instructions_gone f scalars locals find ps rs).registers t.value

-- the instructions are code of an expression, with these inputs, whose value is then in register o: everywhere they show what it
-- tells, and leave its value; and o is spared by instructions for values from d + 1 on
pub record IsCode (inputs : List Input) (e : Expr) (d : ℕ) (ps : List Instruction) (o : ℕ) : Type 0 where
  pub runs : (f : Frame) (scalars locals : List ℤ) (find : ℕ → ℤ → Result ℤ Stop) (rs : List ℤ) → length rs ≡ 256 → HoldInputs f.values inputs rs
      → RunsTo f scalars locals find rs d ps o (told_by f scalars locals find e)
  pub stays : IsSpared (suc d) o

-- an instruction sets a register to the value of an operator
abbrev pub IsOperation : Op → ℕ → ℕ → ℕ → Instruction → Type 0
IsOperation op to a b p = (f : Frame) (scalars locals : List ℤ) (find : ℕ → ℤ → Result ℤ Stop) (rs : List ℤ)
    → instruction_gone f scalars locals find p rs ≡ gone [] (set_to rs to (or_trapped (apply_of op (held rs a) (held rs b))))

-- code of an expression
pub record IsValueCode (e : Expr) (c : ValueCode) : Type 0 where
  pub few : length c.inputs ≤ 128
  pub is : IsCode c.inputs e 0 c.instructions c.register

-- acts are code of statements, with these inputs: they do what these do, whatever is in the other registers
abbrev pub AreActs : List Input → List Stmt → List Act → Type 0
AreActs inputs block acts = (f : Frame) (rs : List ℤ) (s : Store) → length rs ≡ 256 → HoldInputs f.values inputs rs → acts_trace f acts 0 rs s ≡ block_trace f block s

-- acts are code of statements wherever they stand, and whatever inputs come behind: before code of others they are code of both
abbrev pub IsActs : List Input → List Stmt → List Act → Type 0
IsActs inputs block acts = (all : List Input) → Begins inputs all → (rest : List Stmt) (more : List Act) → AreActs all rest more → AreActs all (block ++ rest) (acts ++ more)

-- code of a block
pub record IsBlockCode (block : List Stmt) (c : BlockCode) : Type 0 where
  pub few : length c.inputs ≤ 128
  pub is : AreActs c.inputs block c.acts

-- what an instruction, and instructions, come to where a run is
abbrev pub instruction_at : {P W : Type 0} → (P → List ℤ) → (P → Expectation) → Site → Run P W → Instruction → List ℤ → Gone
instruction_at memory expects site r p rs = instruction_gone (frame_at site (expects r.port.now)) r.scalars.now r.locals (look_load (expects r.port.now) (memory r.port.now)) p rs

abbrev pub instructions_at : {P W : Type 0} → (P → List ℤ) → (P → Expectation) → Site → Run P W → List Instruction → List ℤ → Gone
instructions_at memory expects site r ps rs = instructions_gone (frame_at site (expects r.port.now)) r.scalars.now r.locals (look_load (expects r.port.now) (memory r.port.now)) ps rs

-- the registers, or the halt that the run keeps
abbrev pub registers_of : Result (Unit {0}) mark.Halted → List ℤ → code.Halt → Result (List ℤ) Halt
registers_of (Ok done) rs h = Ok rs
registers_of (Err halted) rs h = Err (halt_by h)

-- the end of a step was run: it changed what it does, or it halted and changed nothing
abbrev pub IsDone : Result Does Halt → Result ℕ mark.Halted → code.Halt → Store → Store → Type 0
IsDone (Ok d) (Ok skips) h s s' = (skips ≡ d.skips) × (s' ≡ effect_on s d.effect)
IsDone (Ok d) (Err halted) h s s' = ⊥
IsDone (Err halt) (Ok skips) h s s' = ⊥
IsDone (Err halt) (Err halted) h s s' = (halt ≡ halt_by h) × (s' ≡ s)

-- what is left of acts from a number on
abbrev pub acts_from : Frame → List Act → ℕ → List ℤ → Store → Trace
acts_from f acts at rs s = acts_trace f (drop at acts) 0 rs s

abbrev pub cut_after : Frame → List Act → Result ℕ cutting.Cut → code.Halt → List ℤ → Store → ℕ → ℕ → Cut
cut_after f acts (Ok next) h rs s left used = cut (acts_from f acts next rs s) s left used
cut_after f acts (Err cutting_by.Halted) h rs s left used = cut_of s left used (Halted (halt_by h))
cut_after f acts (Err cutting_by.Limited) h rs s left used = cut_of s left used Limited

abbrev pub seen_after : Frame → List Act → Result ℕ cutting.Cut → List ℤ → Store → ℕ → List Observation
seen_after f acts (Ok next) rs s left = seen_in (acts_from f acts next rs s) left
seen_after f acts (Err cut) rs s left = []

-- acts were run from a number to another, or to where they were cut short: what is left gives what the whole gave
pub record Acted {W : Type 0} (may : W → Observation → W → Type 0) (f : Frame) (acts : List Act) (at : ℕ) (ra rb : List ℤ) (a b : Moment W) (end : Result ℕ cutting.Cut) (h : code.Halt) : Type 0 where
  pub rest : cut_after f acts end h rb b.store b.left b.used ≡ cut (acts_from f acts at ra a.store) a.store a.left a.used
  pub shown : (w : W) → Chain may b.watch (seen_after f acts end rb b.store b.left) w → Chain may a.watch (seen_in (acts_from f acts at ra a.store) a.left) w
