-- Instances of blocks and heads, as parts of the trace of a nest.
use Rattle.std.proofs.Common.{◌≡◌, refl, ap, sym, ◌∙◌, ℕ, zero, suc, ◌<◌, ◌+◌, ◌-◌, ◌≤◌, min, ℤ, List, [], ◌∷◌, ◌++◌, map, append_assoc, append-nil, Option, Some, None, Result, Ok, Err, arith, rules}
use Rattle.nest_lang.specs.declared.tree.Stmt.{Stmt}
use Rattle.nest_lang.specs.declared.tree.Head.{Head}
use Rattle.nest_lang.specs.Stores.{Store}
use Rattle.nest_lang.specs.Traces.{Observation, Entry, Halt, Trace, joined, in_turn, Transition, traced, Done, Halted, Limited, Cut, cut_of, cut, after_all, seen_of, seen_in}
use Rattle.nest_lang.specs.Expressions.{Frame}
use Rattle.nest_lang.specs.Statements.{statement_trace, block_trace, started, announced, shown_before, instance_trace}
use Rattle.nest_lang.specs.Heads.{Yield, head_of, head_step, headed}
use Rattle.nest_lang.proofs.CutLaws.{trace_of, cut-stop, cut-cons, cut-end, cut-step, cut-due, seen-step, seen-due}
use Rattle.nest_lang.proofs.StatementLaws.{statement-due}

-- what is shown before a step changes nothing
cut-shown_before : (os : List Observation) (es : List Entry) (halt : Option Halt) (s : Store) (left used : ℕ) → cut (trace_of (shown_before os es) halt) s left used ≡ cut (trace_of es halt) s left used
cut-shown_before os [] halt s left used = refl
cut-shown_before os (e ∷ es) halt s zero used = rw (cut-stop, cut-stop) refl
cut-shown_before os (e ∷ es) halt s (suc n) used = rw (cut-cons, cut-cons) refl

-- an instance is cut as its block is
pub cut-instance : (f : Frame) (block : List Stmt) (s t : Store) (left used : ℕ) → cut (instance_trace f block s) t left used ≡ cut (block_trace f block (started s)) t left used
unfolding instance_trace
cut-instance f block s t left used = cut-shown_before (announced f s) (block_trace f block (started s)).entries (block_trace f block (started s)).halt t left used

seen-shown_before : (os : List Observation) (e : Entry) (es : List Entry) (n : ℕ) → seen_of (shown_before os (e ∷ es)) n ≡ os ++ seen_of (e ∷ es) n
seen-shown_before os e es zero = refl
seen-shown_before os e es (suc n) =
    ap (λ z. z ++ seen_of es n) (append_assoc os e.before e.seen) ∙ append_assoc os (e.before ++ e.seen) (seen_of es n)

-- the trace has a first entry
abbrev pub Begins : Trace → Type 0
Begins t = (e : Entry) × (es : List Entry) × (t.entries ≡ e ∷ es)

begins-joined : (halt : Option Halt) (es : List Entry) (more : Trace) (e : Entry) (rest : List Entry) → es ≡ e ∷ rest → Begins (joined halt es more)
begins-joined (Some halt) es more e rest h = (e, rest, h)
begins-joined None es more e rest h = (e, rest ++ more.entries, ap (λ z. z ++ more.entries) h)

begins-limited : (es : List Entry) (halt : Option Halt) (s : Store) → cut (trace_of es halt) s 0 0 ≡ cut_of s 0 0 Limited → (e : Entry) × (rest : List Entry) × (es ≡ e ∷ rest)
begins-limited [] None s h =
    let ending : Done ≡ Limited = ap (λ c. c.ending) (sym (cut-end None s 0 0) ∙ h) in
    absurd (grind arith)
begins-limited [] (Some halt) s h =
    let ending : Halted halt ≡ Limited = ap (λ c. c.ending) (sym (cut-end (Some halt) s 0 0) ∙ h) in
    absurd (grind arith)
begins-limited (e ∷ es) halt s h = (e, es, refl)

begins-statement : (f : Frame) (x : Stmt) (s : Store) → Begins (statement_trace f x s)
begins-statement f x s = begins-limited (statement_trace f x s).entries (statement_trace f x s).halt s (statement-due f x s 0 0 refl)

begins-block : (f : Frame) (x : Stmt) (xs : List Stmt) (s : Store) → Begins (block_trace f (x ∷ xs) s)
unfolding block_trace
begins-block f x xs s =
    let first = begins-statement f x s in
    begins-joined (statement_trace f x s).halt (statement_trace f x s).entries (in_turn (map (statement_trace f) xs) (after_all s (statement_trace f x s).entries)) first.0 first.1 first.2

-- an instance of a block that has statements shows that it is due, and then what its block shows
pub seen-instance : (f : Frame) (x : Stmt) (xs : List Stmt) (s : Store) (left : ℕ) → seen_in (instance_trace f (x ∷ xs) s) left ≡ announced f s ++ seen_in (block_trace f (x ∷ xs) (started s)) left
unfolding instance_trace seen_in
seen-instance f x xs s left =
    let first = begins-block f x xs (started s) in
    rw (first.2) (seen-shown_before (announced f s) first.0 first.1 left)

-- a block without statements has no instance
pub cut-no-instance : (f : Frame) (s t : Store) (left used : ℕ) → cut (instance_trace f [] s) t left used ≡ cut_of t left used Done
unfolding instance_trace block_trace
cut-no-instance f s t left used = cut-end None t left used

pub seen-no-instance : (f : Frame) (s : Store) (left : ℕ) → seen_in (instance_trace f [] s) left ≡ []
unfolding instance_trace block_trace seen_in
seen-no-instance f s left = refl
