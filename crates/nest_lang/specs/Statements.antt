-- Statements: the trace of a block.
use Rattle.std.specs.Prelude.{ℕ, suc, ℤ, pos, List, [], ◌∷◌, ◌++◌, map, replicate, unsigned_abs, Some, None, Result, Ok, Err, if◌then◌else◌}
use Rattle.nest_lang.specs.declared.tree.Stmt.{Stmt}
use Rattle.nest_lang.specs.declared.tree.Stmt.TheFolds.{fold-Stmt}
use Rattle.nest_lang.specs.declared.tree.Stmt.TheOpen.{Stmt-F}
use Rattle.nest_lang.specs.declared.observe.Seen.TheVariants.{Start, Address}
use Rattle.nest_lang.specs.declared.observe.Seen.TheVariants as see
use Rattle.nest_lang.specs.Values.{same}
use Rattle.nest_lang.specs.Stores.{Store, Nothing, Local, Scalar, Word}
use Rattle.nest_lang.specs.Lookups.{look_store}
use Rattle.nest_lang.specs.Traces.{Observation, Entry, Halt, Trace, in_turn, Transition, step_of, traced}
use Rattle.nest_lang.specs.Expressions.{Frame, shown, told, or_stopped}

-- goes on with a value, or halts with what was shown for it
abbrev pub with_value : List Observation → Result ℤ Halt → (ℤ → Transition) → Transition
with_value seen (Ok v) go = go v
with_value seen (Err halt) go = step_of [] seen Nothing (Some halt) []

-- a word is stored, unless its look-up halts
abbrev pub stored : List Observation → ℤ → ℤ → Result ℤ Halt → Transition
stored seen address v (Ok old) = step_of [] seen (Word (unsigned_abs address) v) None []
stored seen address v (Err halt) = step_of [] seen Nothing (Some halt) []

-- the transition of a statement, from the traces of the statements in it. A store evaluates its address, then
-- its value, and then stores.
abbrev pub statement_level : Frame → Stmt-F (Store → Trace) → Store → Transition
statement_level f (Stmt-F.Let number e) s =
    with_value (told f s e).seen (told f s e).value (λ v. step_of [] (told f s e).seen (Local number v) None [])
statement_level f (Stmt-F.Set number e) s =
    with_value (told f s e).seen (told f s e).value (λ v. step_of [] (told f s e).seen (Scalar number v) None [])
statement_level f (Stmt-F.Store access a e) s =
    with_value (told f s a).seen (told f s a).value (λ address.
    with_value ((told f s a).seen ++ (told f s e).seen) (told f s e).value (λ v.
    stored ((told f s a).seen ++ (told f s e).seen ++ shown f (Address access) address ∷ []) address v
    (or_stopped access (look_store f.expects s.memory access address))))
statement_level f (Stmt-F.If e first second) s =
    with_value (told f s e).seen (told f s e).value (λ v.
    step_of [] (told f s e).seen Nothing None (if same v (pos 0) then second else first))

unfoldable pub statement_trace : Frame → Stmt → Store → Trace
statement_trace f = fold-Stmt (Store → Trace) (λ x s. traced (statement_level f x s) s)

-- the trace of a block: its statements one after another
unfoldable pub block_trace : Frame → List Stmt → Store → Trace
block_trace f block = in_turn (map (statement_trace f) block)

-- a block begins with its locals at 0
abbrev pub started : Store → Store
started s = record s { locals = replicate 16 (pos 0) }

-- the scalars from a number on, shown in their order
abbrev pub scalars_from : Frame → ℕ → List ℤ → List Observation
scalars_from f number [] = []
scalars_from f number (v ∷ vs) = shown f (see.Scalar number) v ∷ scalars_from f (suc number) vs

-- what an instance shows before its first step: that it is due, and the scalars
unfoldable pub announced : Frame → Store → List Observation
announced f s = shown f Start (pos 0) ∷ scalars_from f 0 s.scalars

abbrev pub shown_before : List Observation → List Entry → List Entry
shown_before os [] = []
shown_before os (e ∷ es) = record e { before = os ++ e.before } ∷ es

-- the trace of an instance of a block that has statements. A block without statements has no instance.
unfoldable pub instance_trace : Frame → List Stmt → Store → Trace
instance_trace f block s = record (block_trace f block (started s)) { entries = shown_before (announced f s) (block_trace f block (started s)).entries }
