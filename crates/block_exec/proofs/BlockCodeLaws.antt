-- End the code of statements comes to.
use Rattle.std.proofs.Common.{◌≡◌, refl, ap, sym, ◌∙◌, ℕ, zero, suc, ◌<◌, ◌≤◌, ◌+◌, ℤ, pos, Bool, true, false, if◌then◌else◌, List, [], ◌∷◌, ◌++◌, map, length, take, drop, get_or, append-nil, append_assoc, length-append, unsigned_abs, Option, Some, None, Result, Ok, Err, arith}
use Rattle.std.proofs.Math.Seq.{drop-append_seam, take-suc}
use Rattle.nest_lang.specs.declared.tree.Expr.{Expr}
use Rattle.nest_lang.specs.declared.tree.Stmt.{Stmt}
use Rattle.nest_lang.specs.declared.tree.Stmt.TheVariants as stmt
use Rattle.nest_lang.specs.declared.observe.Seen.TheVariants.{Address}
use Rattle.nest_lang.specs.Values.{same}
use Rattle.nest_lang.specs.Lookups.{look_load, look_store}
use Rattle.nest_lang.specs.Stores.{Store, Effect, Nothing, Local, Scalar, Word, effect_on}
use Rattle.nest_lang.specs.Traces.{Observation, Entry, Halt, Trace, ends, joined, and_then, in_turn, Transition, step_of, traced, after_all}
use Rattle.nest_lang.specs.Expressions.{Frame, shown, Told, told, told_by, or_stopped}
use Rattle.nest_lang.specs.Statements.{with_value, stored, statement_trace, block_trace}
use Rattle.nest_lang.proofs.StatementLaws.{statement-let, statement-set, statement-store, statement-if}
use Rattle.nest_lang.proofs.TraceLaws.{and_then-and_then, and_then-same}
use Rattle.block_exec.specs.declared.code.Input.{Input}
use Rattle.block_exec.specs.declared.code.Instruction.{Instruction}
use Rattle.block_exec.specs.declared.code.Act.{Act}
use Rattle.block_exec.specs.declared.code.Act.TheVariants.{Step, Skip}
use Rattle.block_exec.specs.declared.code.End.{End}
use Rattle.block_exec.specs.declared.code.End.TheVariants as end
use Rattle.block_exec.specs.Codes.{held, then_go, word_does, shown_by, done_by, done_level, act_level, gone_in, acts_trace, instructions_gone}
use Rattle.block_exec.specs.Coded.{HoldInputs, Begins, IsSpared, SparedSame, Leaves, RunsTo, IsCode, AreActs, IsActs}
use Rattle.block_exec.proofs.ActLaws.{in-turn-one, skipped-past}
use Rattle.block_exec.proofs.ExpressionCodeLaws.{instructions-append, hold-on, begins-same, begins-trans, code-more}

-- a first entry, and then all that follows
one-then : (s : Store) (e : Entry) (x : Trace) (go : Store → Trace) → and_then s (joined None (e ∷ []) x) go ≡ joined None (e ∷ []) (and_then (effect_on s e.effect) x go)
one-then s e x go = at x.halt x.entries
  where
    at : (halt : Option Halt) (es : List Entry) → joined halt (e ∷ es) (go (after_all s (e ∷ es))) ≡ joined None (e ∷ []) (joined halt es (go (after_all (effect_on s e.effect) es)))
    at (Some halt) es = refl
    at None es = refl

-- a step of code and a step of a tree meet where what follows them does
meets : (s : Store) (os : List Observation) (e : Effect) (g : Store → Trace) (fs : List (Store → Trace)) (go : Store → Trace) → g (effect_on s e) ≡ and_then (effect_on s e) (in_turn fs (effect_on s e)) go → traced (step_of [] os e None (g ∷ [])) s ≡ and_then s (traced (step_of [] os e None fs) s) go
meets s os e g fs go same =
    let entry : Entry = record {
      before = [];
      seen = os;
      effect = e;
    } in
    ap (λ (t : Trace). joined None (entry ∷ []) t) (in-turn-one g (effect_on s e) ∙ same) ∙ sym (one-then s entry (in_turn fs (effect_on s e)) go)

-- and where both halt
halts : (s : Store) (os : List Observation) (h : Halt) (go : Store → Trace) → traced (step_of [] os Nothing (Some h) []) s ≡ and_then s (traced (step_of [] os Nothing (Some h) []) s) go
halts s os h go = refl

in-turn-append : (xs ys : List (Store → Trace)) (s : Store) → in_turn (xs ++ ys) s ≡ and_then s (in_turn xs s) (in_turn ys)
in-turn-append [] ys s = refl
in-turn-append (x ∷ xs) ys s = and_then-same s (x s) (in_turn (xs ++ ys)) (λ u. and_then u (in_turn xs u) (in_turn ys)) (in-turn-append xs ys) ∙ sym (and_then-and_then s (x s) (in_turn xs) (in_turn ys))

map-append : (f : Stmt → Store → Trace) (xs ys : List Stmt) → map f (xs ++ ys) ≡ map f xs ++ map f ys
map-append f [] ys = refl
map-append f (x ∷ xs) ys = ap (λ z. f x ∷ z) (map-append f xs ys)

module _ (f : Frame) where
  block-cons : (x : Stmt) (xs : List Stmt) (s : Store) → block_trace f (x ∷ xs) s ≡ and_then s (statement_trace f x s) (block_trace f xs)
  unfolding block_trace
  block-cons x xs s = refl

  block-append : (xs ys : List Stmt) (s : Store) → block_trace f (xs ++ ys) s ≡ and_then s (in_turn (map (statement_trace f) xs) s) (block_trace f ys)
  unfolding block_trace
  block-append xs ys s = ap (λ fs. in_turn fs s) (map-append (statement_trace f) xs ys) ∙ in-turn-append (map (statement_trace f) xs) (map (statement_trace f) ys) s

  step-is : (parts : List Instruction) (w : End) (more : List Act) (t : List ℤ) (s : Store) → acts_trace f (Step parts w ∷ more) 0 t s ≡ traced (act_level f w (gone_in f s parts t).seen (gone_in f s parts t).registers s (acts_trace f more)) s
  unfolding acts_trace
  step-is parts w more t s = refl

  skip-is : (n : ℕ) (more : List Act) (t : List ℤ) (s : Store) → acts_trace f (Skip n ∷ more) 0 t s ≡ acts_trace f more n t s
  unfolding acts_trace
  skip-is n more t s = refl

  -- a step with one expression, whose end is a change
  one-at : (s : Store) (rs : List ℤ) (w : End) (o : ℕ) (e : ℤ → Effect) (inputs : List Input) (rest : List Stmt) (more : List Act) → AreActs inputs rest more → HoldInputs f.values inputs rs
      → ((t : List ℤ) → done_by f w t s ≡ Ok (record { effect = e (held t o); skips = 0 })) → ((t : List ℤ) → shown_by f w t ≡ [])
      → (sg st : List Observation) (r : Result (List ℤ) Halt) (v : Result ℤ Halt) → sg ≡ st → Leaves rs 0 o r v
      → traced (act_level f w sg r s (acts_trace f more)) s ≡ and_then s (traced (with_value st v (λ y. step_of [] st (e y) None [])) s) (block_trace f rest)
  one-at s rs w o e inputs rest more code hold done shows sg st (Err k) (Err h) same leaves = rw (same, leaves) (halts s st h (block_trace f rest))
  one-at s rs w o e inputs rest more code hold done shows sg st (Err k) (Ok v) same leaves = absurd leaves
  one-at s rs w o e inputs rest more code hold done shows sg st (Ok t) (Err h) same leaves = absurd leaves
  one-at s rs w o e inputs rest more code hold done shows sg st (Ok t) (Ok v) same leaves =
      rw (done t, shows t, append-nil sg, same, leaves.0) (meets s st (e v) (acts_trace f more 0 t) [] (block_trace f rest) (code f t (effect_on s (e v)) leaves.2 (hold-on f.values rs t inputs 0 leaves.1 hold)))

pub acts-let : (inputs : List Input) (n : ℕ) (e : Expr) (ps : List Instruction) (o : ℕ) → IsCode inputs e 0 ps o → IsActs inputs (stmt.Let n e ∷ []) (Step ps (end.Let n o) ∷ [])
acts-let inputs n e ps o is all begins rest more code f rs s size hold =
    let runs = (code-more inputs all e 0 ps o begins is).runs f s.scalars s.locals (look_load f.expects s.memory) rs size hold in
    step-is f ps (end.Let n o) more rs s ∙ one-at f s rs (end.Let n o) o (Local n) all rest more code hold (λ t. refl) (λ t. refl) _ _ _ _ runs.0 runs.1 ∙ sym (block-cons f (stmt.Let n e) rest s ∙ ap (λ x. and_then s x (block_trace f rest)) (statement-let f n e s))

pub acts-set : (inputs : List Input) (n : ℕ) (e : Expr) (ps : List Instruction) (o : ℕ) → IsCode inputs e 0 ps o → IsActs inputs (stmt.Set n e ∷ []) (Step ps (end.Set n o) ∷ [])
acts-set inputs n e ps o is all begins rest more code f rs s size hold =
    let runs = (code-more inputs all e 0 ps o begins is).runs f s.scalars s.locals (look_load f.expects s.memory) rs size hold in
    step-is f ps (end.Set n o) more rs s ∙ one-at f s rs (end.Set n o) o (Scalar n) all rest more code hold (λ t. refl) (λ t. refl) _ _ _ _ runs.0 runs.1 ∙ sym (block-cons f (stmt.Set n e) rest s ∙ ap (λ x. and_then s x (block_trace f rest)) (statement-set f n e s))

module _ (f : Frame) (s : Store) (access : ℕ) (oa ob : ℕ) (inputs : List Input) (rest : List Stmt) (more : List Act) (code : AreActs inputs rest more) where
  store-end : (os : List Observation) (address v : ℤ) (t : List ℤ) (x : Result ℤ Halt) → length t ≡ 256 → HoldInputs f.values inputs t → traced (done_level os (word_does address v x) t (acts_trace f more)) s ≡ and_then s (traced (stored os address v x) s) (block_trace f rest)
  store-end os address v t (Err h) size hold = halts s os h (block_trace f rest)
  store-end os address v t (Ok old) size hold = meets s os (Word (unsigned_abs address) v) (acts_trace f more 0 t) [] (block_trace f rest) (code f t (effect_on s (Word (unsigned_abs address) v)) size hold)

  second-at : (t : List ℤ) (address : ℤ) → HoldInputs f.values inputs t → ((u : List ℤ) → SparedSame 1 t u → held u oa ≡ address) → (sa sb st : List Observation) (r : Result (List ℤ) Halt) (v : Result ℤ Halt) → sb ≡ st → Leaves t 1 ob r v
      → traced (act_level f (end.Store access oa ob) (sa ++ sb) r s (acts_trace f more)) s ≡ and_then s (traced (with_value (sa ++ st) v (λ y. stored ((sa ++ st) ++ shown f (Address access) address ∷ []) address y (or_stopped access (look_store f.expects s.memory access address)))) s) (block_trace f rest)
  second-at t address hold stays sa sb st (Err k) (Err h) is leaves = rw (is, leaves) (halts s (sa ++ st) h (block_trace f rest))
  second-at t address hold stays sa sb st (Err k) (Ok v) is leaves = absurd leaves
  second-at t address hold stays sa sb st (Ok u) (Err h) is leaves = absurd leaves
  second-at t address hold stays sa sb st (Ok u) (Ok v) is leaves =
      rw (is, stays u leaves.1, leaves.0) (store-end ((sa ++ st) ++ shown f (Address access) address ∷ []) address v u (or_stopped access (look_store f.expects s.memory access address)) leaves.2 (hold-on f.values t u inputs 1 leaves.1 hold))

  first-at : (rs : List ℤ) (qs : List Instruction) (b : Told) → HoldInputs f.values inputs rs → IsSpared 1 oa → ((t : List ℤ) → length t ≡ 256 → HoldInputs f.values inputs t → RunsTo f s.scalars s.locals (look_load f.expects s.memory) t 1 qs ob b)
      → (sa st : List Observation) (r : Result (List ℤ) Halt) (v : Result ℤ Halt) → sa ≡ st → Leaves rs 0 oa r v
      → traced (act_level f (end.Store access oa ob) (then_go sa r (instructions_gone f s.scalars s.locals (look_load f.expects s.memory) qs)).seen (then_go sa r (instructions_gone f s.scalars s.locals (look_load f.expects s.memory) qs)).registers s (acts_trace f more)) s
      ≡ and_then s (traced (with_value st v (λ address. with_value (st ++ b.seen) b.value (λ y. stored ((st ++ b.seen) ++ shown f (Address access) address ∷ []) address y (or_stopped access (look_store f.expects s.memory access address))))) s) (block_trace f rest)
  first-at rs qs b hold stays second sa st (Err k) (Err h) is leaves = rw (is, leaves) (halts s st h (block_trace f rest))
  first-at rs qs b hold stays second sa st (Err k) (Ok v) is leaves = absurd leaves
  first-at rs qs b hold stays second sa st (Ok t) (Err h) is leaves = absurd leaves
  first-at rs qs b hold stays second sa st (Ok t) (Ok v) is leaves =
      let kept = hold-on f.values rs t inputs 0 leaves.1 hold in
      let runs = second t leaves.2 kept in
      rw is (second-at t v kept (λ u agree. sym (agree oa stays) ∙ leaves.0) st _ b.seen _ b.value runs.0 runs.1)

pub acts-store : (inputs : List Input) (access : ℕ) (a e : Expr) (ps qs : List Instruction) (oa ob : ℕ) → IsCode inputs a 0 ps oa → IsCode inputs e 1 qs ob → IsActs inputs (stmt.Store access a e ∷ []) (Step (ps ++ qs) (end.Store access oa ob) ∷ [])
acts-store inputs access a e ps qs oa ob one two all begins rest more code f rs s size hold =
    let first = code-more inputs all a 0 ps oa begins one in
    let second = code-more inputs all e 1 qs ob begins two in
    let find = look_load f.expects s.memory in
    let runs = first.runs f s.scalars s.locals find rs size hold in
    let both = instructions-append f s.scalars s.locals find ps qs rs in
    step-is f (ps ++ qs) (end.Store access oa ob) more rs s
    ∙ ap (λ g. traced (act_level f (end.Store access oa ob) g.seen g.registers s (acts_trace f more)) s) both
    ∙ first-at f s access oa ob all rest more code rs qs (told f s e) hold first.stays (second.runs f s.scalars s.locals find) _ _ _ _ runs.0 runs.1
    ∙ sym (block-cons f (stmt.Store access a e) rest s ∙ ap (λ x. and_then s x (block_trace f rest)) (statement-store f access a e s))

pub acts-nil : (inputs : List Input) → IsActs inputs [] []
acts-nil inputs all begins rest more code = code

pub acts-more : (inputs all : List Input) (xs : List Stmt) (a : List Act) → Begins inputs all → IsActs inputs xs a → IsActs all xs a
acts-more inputs all xs a begins is last more = is last (begins-trans inputs all last begins more)

pub acts-append : (inputs : List Input) (xs ys : List Stmt) (a b : List Act) → IsActs inputs xs a → IsActs inputs ys b → IsActs inputs (xs ++ ys) (a ++ b)
acts-append inputs xs ys a b first second all begins rest more code = rw (append_assoc xs ys rest, append_assoc a b more) (first all begins (ys ++ rest) (b ++ more) (second all begins rest more code))

pub code-nil : (inputs : List Input) → AreActs inputs [] []
unfolding acts_trace block_trace
code-nil inputs f rs s size hold = refl

pub acts-whole : (inputs : List Input) (xs : List Stmt) (a : List Act) → IsActs inputs xs a → AreActs inputs xs a
acts-whole inputs xs a is =
    let whole : AreActs inputs (xs ++ []) (a ++ []) = is inputs (begins-same inputs) [] [] (code-nil inputs) in
    rw (append-nil xs, append-nil a) at whole

-- acts to skip before code are code too
skip-code : (inputs : List Input) (rest : List Stmt) (more : List Act) (b : List Act) → AreActs inputs rest more → AreActs inputs rest (Skip (length b) ∷ b ++ more)
skip-code inputs rest more b code f rs s size hold =
    skip-is f (length b) (b ++ more) rs s ∙ skipped-past f (b ++ more) (length b) rs s ∙ ap (λ d. acts_trace f d 0 rs s) (drop-append_seam b more) ∙ code f rs s size hold

module _ (f : Frame) where
  -- the end of a choice
  choice-at : (s : Store) (rs : List ℤ) (o n : ℕ) (inputs : List Input) (first second rest : List Stmt) (more : List Act) → HoldInputs f.values inputs rs → AreActs inputs (first ++ rest) more → ((t : List ℤ) (u : Store) → length t ≡ 256 → HoldInputs f.values inputs t → acts_trace f more n t u ≡ block_trace f (second ++ rest) u)
      → (sg st : List Observation) (r : Result (List ℤ) Halt) (v : Result ℤ Halt) → sg ≡ st → Leaves rs 0 o r v
      → traced (act_level f (end.Unless o n) sg r s (acts_trace f more)) s ≡ and_then s (traced (with_value st v (λ y. step_of [] st Nothing None (if same y (pos 0) then map (statement_trace f) second else map (statement_trace f) first))) s) (block_trace f rest)
  choice-at s rs o n inputs first second rest more hold code other sg st (Err k) (Err h) is leaves = rw (is, leaves) (halts s st h (block_trace f rest))
  choice-at s rs o n inputs first second rest more hold code other sg st (Err k) (Ok v) is leaves = absurd leaves
  choice-at s rs o n inputs first second rest more hold code other sg st (Ok t) (Err h) is leaves = absurd leaves
  choice-at s rs o n inputs first second rest more hold code other sg st (Ok t) (Ok v) is leaves =
      rw (append-nil sg, is, leaves.0) (by (same v (pos 0)))
    where
      kept : HoldInputs f.values inputs t
      kept = hold-on f.values rs t inputs 0 leaves.1 hold

      by : (zero : Bool) → traced (step_of [] st Nothing None (acts_trace f more (if zero then n else 0) t ∷ [])) s ≡ and_then s (traced (step_of [] st Nothing None (if zero then map (statement_trace f) second else map (statement_trace f) first)) s) (block_trace f rest)
      by true = meets s st Nothing (acts_trace f more n t) (map (statement_trace f) second) (block_trace f rest) (other t s leaves.2 kept ∙ block-append f second rest s)
      by false = meets s st Nothing (acts_trace f more 0 t) (map (statement_trace f) first) (block_trace f rest) (code f t s leaves.2 kept ∙ block-append f first rest s)

pub acts-if : (inputs : List Input) (e : Expr) (first second : List Stmt) (ps : List Instruction) (o : ℕ) (a b : List Act) → IsCode inputs e 0 ps o → IsActs inputs first a → IsActs inputs second b
    → IsActs inputs (stmt.If e first second ∷ []) (Step ps (end.Unless o (length a + 1)) ∷ a ++ Skip (length b) ∷ b)
acts-if inputs e first second ps o a b is one two all begins rest more code f rs s size hold =
    let tail = a ++ Skip (length b) ∷ b in
    let runs = (code-more inputs all e 0 ps o begins is).runs f s.scalars s.locals (look_load f.expects s.memory) rs size hold in
    let then_code : AreActs all (first ++ rest) (tail ++ more) = rw (append_assoc a (Skip (length b) ∷ b) more) (one all begins rest (Skip (length b) ∷ b ++ more) (skip-code all rest more b code)) in
    let shape : tail ++ more ≡ (a ++ Skip (length b) ∷ []) ++ (b ++ more) = append_assoc a (Skip (length b) ∷ b) more ∙ sym (append_assoc a (Skip (length b) ∷ []) (b ++ more)) in
    let count : length a + 1 ≡ length (a ++ Skip (length b) ∷ []) = sym (length-append a (Skip (length b) ∷ [])) in
    let else_code : (t : List ℤ) (u : Store) → length t ≡ 256 → HoldInputs f.values all t → acts_trace f (tail ++ more) (length a + 1) t u ≡ block_trace f (second ++ rest) u = λ t u size kept.
    skipped-past f (tail ++ more) (length a + 1) t u ∙ ap (λ d. acts_trace f d 0 t u) (ap (λ d. drop (length a + 1) d) shape ∙ ap (λ k. drop k ((a ++ Skip (length b) ∷ []) ++ (b ++ more))) count ∙ drop-append_seam (a ++ Skip (length b) ∷ []) (b ++ more)) ∙ two all begins rest more code f t u size kept in
    step-is f ps (end.Unless o (length a + 1)) (tail ++ more) rs s ∙ choice-at f s rs o (length a + 1) all first second rest (tail ++ more) hold then_code else_code _ _ _ _ runs.0 runs.1 ∙ sym (block-cons f (stmt.If e first second) rest s ∙ ap (λ x. and_then s x (block_trace f rest)) (statement-if f e first second s))

pub four-append : (xs a b : List Act) (x k : Act) → (((xs ++ x ∷ []) ++ a) ++ k ∷ []) ++ b ≡ xs ++ (x ∷ (a ++ k ∷ b))
four-append xs a b x k = append_assoc ((xs ++ x ∷ []) ++ a) (k ∷ []) b ∙ append_assoc (xs ++ x ∷ []) a (k ∷ b) ∙ append_assoc xs (x ∷ []) (a ++ k ∷ b)

-- the acts of one more statement come behind those of the first
pub acts-next : (inputs all : List Input) (xs : List Stmt) (i : ℕ) (x : Stmt) (a b : List Act) → i < length xs → x ≡ get_or xs i x → Begins inputs all → IsActs inputs (take i xs) a → IsActs all (x ∷ []) b → IsActs all (take (i + 1) xs) (a ++ b)
acts-next inputs all xs i x a b within item begins first second =
    let next : i + 1 ≡ suc i = omega arith in
    let is : take (suc i) xs ≡ take i xs ++ (x ∷ []) = take-suc xs i x within ∙ ap (λ z. take i xs ++ (z ∷ [])) (sym item) in
    rw (next, is) (acts-append all (take i xs) (x ∷ []) a b (acts-more inputs all (take i xs) a begins first) second)
