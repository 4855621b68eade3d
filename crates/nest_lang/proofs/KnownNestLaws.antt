-- Known nests. A fold over a tree does not compute, so beside each expression, statement and head stands
-- what it does, with the proof. The plain run of nests that are built of these computes.
use Rattle.std.proofs.Common.{◌≡◌, refl, ap, ◌∙◌, ℕ, zero, suc, ◌+◌, ℤ, pos, List, [], ◌∷◌, ◌++◌, None, Ok, map, not, if◌then◌else◌}
use Rattle.std.proofs.Math.Path.{ap₂, fun_ext}
use Rattle.nest_lang.specs.declared.tree.Expr.{Expr}
use Rattle.nest_lang.specs.declared.tree.Expr.TheVariants.{Number, Var, Load, Neg, Two}
use Rattle.nest_lang.specs.declared.tree.Op.{Op}
use Rattle.nest_lang.specs.declared.tree.Place.{Place}
use Rattle.nest_lang.specs.declared.tree.Stmt.{Stmt}
use Rattle.nest_lang.specs.declared.tree.Stmt.TheVariants as statement
use Rattle.nest_lang.specs.declared.tree.Head.{Head}
use Rattle.nest_lang.specs.declared.tree.Head.TheVariants.{For, While}
use Rattle.nest_lang.specs.declared.tree.Loop.{Loop}
use Rattle.nest_lang.specs.declared.tree.Nest.{Nest}
use Rattle.nest_lang.specs.declared.tree.Part.TheVariants as part
use Rattle.nest_lang.specs.declared.observe.Seen.TheVariants.{Lower, Trip, Condition, Address}
use Rattle.nest_lang.specs.Values.{apply_of, negate_of, same, trip_count, turn_value}
use Rattle.nest_lang.specs.Stores.{Store, Nothing, Local, Scalar}
use Rattle.nest_lang.specs.Lookups.{plain, look_load, look_store}
use Rattle.nest_lang.specs.Traces.{Trace, in_turn, step_of, traced, cut, ends}
use Rattle.nest_lang.specs.Expressions.{Frame, Told, told, telling, then_tell, place_value, or_trapped, or_stopped, shown}
use Rattle.nest_lang.specs.Statements.{with_value, stored, statement_trace, block_trace, announced, instance_trace, shown_before, started}
use Rattle.nest_lang.specs.Heads.{Yield, Bounds, Tested, Headed, heading, then_head, as_number, head_of, head_step}
use Rattle.nest_lang.specs.Loops.{Around, outside, inward, frame_of, turn_trace, turns_of, turn_if, whiles_from, loop_by, loops_trace}
use Rattle.nest_lang.specs.Runs.{Run, run_of, nest_trace, nests_trace, plain_run}
use Rattle.nest_lang.proofs.ExpressionLaws.{told_by-number, told_by-var, told_by-load, told_by-neg, told_by-two}
use Rattle.nest_lang.proofs.HeadLaws.{head-for, head-while}
use Rattle.nest_lang.proofs.StatementLaws.{statement-let, statement-set, statement-store, statement-if}

-- expressions
pub record KnownExpr : Type 0 where
  pub expr : Expr
  pub tells : Frame → Store → Told
  pub is : (f : Frame) (s : Store) → told f s expr ≡ tells f s

abbrev pub number : ℤ → KnownExpr
number n = record { expr = Number n; tells = λ f s. telling [] (Ok n); is = λ f s. told_by-number f s.scalars s.locals _ n }

abbrev pub var : Place → KnownExpr
var p = record { expr = Var p; tells = λ f s. telling [] (Ok (place_value f.values s.scalars s.locals p)); is = λ f s. told_by-var f s.scalars s.locals _ p }

abbrev pub load_by : ℕ → Frame → Store → Told → Told
load_by access f s a = then_tell a.seen a.value (λ address. telling (shown f (Address access) address ∷ []) (or_stopped access (look_load f.expects s.memory access address)))

abbrev pub load : ℕ → KnownExpr → KnownExpr
load access a = record { expr = Load access a.expr; tells = λ f s. load_by access f s (a.tells f s); is = λ f s. told_by-load f s.scalars s.locals _ access a.expr ∙ ap (load_by access f s) (a.is f s) }

abbrev pub neg_by : Told → Told
neg_by a = then_tell a.seen a.value (λ x. telling [] (or_trapped (negate_of x)))

abbrev pub neg : KnownExpr → KnownExpr
neg a = record { expr = Neg a.expr; tells = λ f s. neg_by (a.tells f s); is = λ f s. told_by-neg f s.scalars s.locals _ a.expr ∙ ap neg_by (a.is f s) }

abbrev pub two_by : Op → Told → Told → Told
two_by op a b = then_tell a.seen a.value (λ x. then_tell b.seen b.value (λ y. telling [] (or_trapped (apply_of op x y))))

abbrev pub two : Op → KnownExpr → KnownExpr → KnownExpr
two op a b = record { expr = Two op a.expr b.expr; tells = λ f s. two_by op (a.tells f s) (b.tells f s); is = λ f s. told_by-two f s.scalars s.locals _ op a.expr b.expr ∙ ap₂ (two_by op) (a.is f s) (b.is f s) }

-- statements
pub record KnownStmt : Type 0 where
  pub stmt : Stmt
  pub does : Frame → Store → Trace
  pub is : (f : Frame) (s : Store) → statement_trace f stmt s ≡ does f s

abbrev pub let_by : ℕ → Store → Told → Trace
let_by local s e = traced (with_value e.seen e.value (λ v. step_of [] e.seen (Local local v) None [])) s

abbrev pub lets : ℕ → KnownExpr → KnownStmt
lets local e = record { stmt = statement.Let local e.expr; does = λ f s. let_by local s (e.tells f s); is = λ f s. statement-let f local e.expr s ∙ ap (let_by local s) (e.is f s) }

abbrev pub set_by : ℕ → Store → Told → Trace
set_by scalar s e = traced (with_value e.seen e.value (λ v. step_of [] e.seen (Scalar scalar v) None [])) s

abbrev pub sets : ℕ → KnownExpr → KnownStmt
sets scalar e = record { stmt = statement.Set scalar e.expr; does = λ f s. set_by scalar s (e.tells f s); is = λ f s. statement-set f scalar e.expr s ∙ ap (set_by scalar s) (e.is f s) }

abbrev pub store_by : ℕ → Frame → Store → Told → Told → Trace
store_by access f s a e =
    traced (with_value a.seen a.value (λ address. with_value (a.seen ++ e.seen) e.value (λ v. stored (a.seen ++ e.seen ++ shown f (Address access) address ∷ []) address v (or_stopped access (look_store f.expects s.memory access address))))) s

abbrev pub stores : ℕ → KnownExpr → KnownExpr → KnownStmt
stores access a e = record { stmt = statement.Store access a.expr e.expr; does = λ f s. store_by access f s (a.tells f s) (e.tells f s); is = λ f s. statement-store f access a.expr e.expr s ∙ ap₂ (store_by access f s) (a.is f s) (e.is f s) }

abbrev pub stmts : List KnownStmt → List Stmt
stmts xs = map (λ x. x.stmt) xs

abbrev pub all_do : Frame → List KnownStmt → List (Store → Trace)
all_do f xs = map (λ x. x.does f) xs

statements-known : (f : Frame) (xs : List KnownStmt) → map (statement_trace f) (stmts xs) ≡ all_do f xs
statements-known f [] = refl
statements-known f (x ∷ xs) = ap₂ (λ t ts. t ∷ ts) (fun_ext (x.is f)) (statements-known f xs)

abbrev pub if_by : Store → Told → List (Store → Trace) → List (Store → Trace) → Trace
if_by s e first second = traced (with_value e.seen e.value (λ v. step_of [] e.seen Nothing None (if same v (pos 0) then second else first))) s

pub statement-if-known : (e : KnownExpr) (first second : List KnownStmt) (f : Frame) (s : Store) → statement_trace f (statement.If e.expr (stmts first) (stmts second)) s ≡ if_by s (e.tells f s) (all_do f first) (all_do f second)
statement-if-known e first second f s =
    statement-if f e.expr (stmts first) (stmts second) s
    ∙ ap (λ t. if_by s t (map (statement_trace f) (stmts first)) (map (statement_trace f) (stmts second))) (e.is f s)
    ∙ ap₂ (λ ts us. if_by s (e.tells f s) ts us) (statements-known f first) (statements-known f second)

abbrev pub chooses : KnownExpr → List KnownStmt → List KnownStmt → KnownStmt
chooses e first second = record { stmt = statement.If e.expr (stmts first) (stmts second); does = λ f s. if_by s (e.tells f s) (all_do f first) (all_do f second); is = statement-if-known e first second }

-- heads
pub record KnownHead : Type 0 where
  pub head : Head
  pub yields : Frame → Store → Headed
  pub is : (f : Frame) (s : Store) → head_of f head s ≡ yields f s

abbrev pub for_by : ℤ → Frame → Told → Told → Headed
for_by stride f a b =
    then_head a.seen a.value (λ from. then_head b.seen b.value (λ to. heading (shown f Lower from ∷ shown f Trip (pos (trip_count from to stride)) ∷ []) (Ok (Bounds from (trip_count from to stride)))))

abbrev pub fors : KnownExpr → KnownExpr → ℤ → KnownHead
fors lower upper stride = record { head = For lower.expr upper.expr stride; yields = λ f s. for_by stride f (lower.tells f s) (upper.tells f s); is = λ f s. head-for f lower.expr upper.expr stride s ∙ ap₂ (for_by stride f) (lower.is f s) (upper.is f s) }

abbrev pub while_by : Frame → Told → Headed
while_by f c = then_head c.seen c.value (λ v. heading (shown f Condition (as_number (not (same v (pos 0)))) ∷ []) (Ok (Tested (not (same v (pos 0))))))

abbrev pub whiles : KnownExpr → KnownHead
whiles condition = record { head = While condition.expr; yields = λ f s. while_by f (condition.tells f s); is = λ f s. head-while f condition.expr s ∙ ap (while_by f) (condition.is f s) }

-- loops inside one another
pub record KnownLoop : Type 0 where
  pub head : KnownHead
  pub pre : List KnownStmt
  pub post : List KnownStmt

abbrev pub loop_of : KnownLoop → Loop
loop_of l = record { head = l.head.head; pre = stmts l.pre; post = stmts l.post }

abbrev pub block_by : Frame → List (Store → Trace) → Store → Trace
block_by f does s = record (in_turn does (started s)) { entries = shown_before (announced f s) (in_turn does (started s)).entries }

abbrev pub part_by : Frame → List KnownStmt → Store → Trace
part_by f xs = block_by f (all_do f xs)

abbrev pub turn_by : ℕ → KnownLoop → (Around → Store → Trace) → Around → Store → Trace
turn_by level l inner a = in_turn (part_by (frame_of plain part.Pre level a) l.pre ∷ inner a ∷ part_by (frame_of plain part.Post level a) l.post ∷ [])

abbrev pub headed_by : (Frame → Store → Headed) → Frame → (Yield → List (Store → Trace)) → Store → Trace
headed_by yields f go s = traced (head_step (announced f s) (yields f s).seen (yields f s).value go) s

abbrev pub whiles_by : ℕ → ℕ → ℕ → Around → (Frame → Store → Headed) → (Around → Store → Trace) → Store → Trace
whiles_by zero t level a yields turn s = ends
whiles_by (suc n) t level a yields turn s =
    headed_by yields (frame_of plain part.Head level (inward a t (pos t))) (turn_if (turn (inward a t (pos t))) (whiles_by n (t + 1) level a yields turn)) s

abbrev pub loop_from : Head → ℕ → ℕ → (Frame → Store → Headed) → (Around → Store → Trace) → Around → Store → Trace
loop_from (For lower upper stride) k level yields turn a =
    headed_by yields (frame_of plain part.Head level a) (turns_of (λ from t. turn (inward a t (turn_value from stride t))))
loop_from (While condition) k level yields turn a = whiles_by k 0 level a yields turn

abbrev pub loops_by : ℕ → ℕ → List KnownLoop → Around → Store → Trace
loops_by k level [] a s = ends
loops_by k level (l ∷ ls) a s = loop_from l.head.head k level l.head.yields (turn_by level l (loops_by k (level + 1) ls)) a s

instance_trace-stmts : (f : Frame) (xs : List KnownStmt) → instance_trace f (stmts xs) ≡ part_by f xs
unfolding instance_trace block_trace
instance_trace-stmts f xs = ap (block_by f) (statements-known f xs)

turn_trace-known : (level : ℕ) (l : KnownLoop) (inner more : Around → Store → Trace) → inner ≡ more → turn_trace plain level (loop_of l) inner ≡ turn_by level l more
unfolding turn_trace
turn_trace-known level l inner more e =
    fun_ext (λ a.
    ap₂ (λ before after. in_turn (before ∷ inner a ∷ after ∷ [])) (instance_trace-stmts (frame_of plain part.Pre level a) l.pre) (instance_trace-stmts (frame_of plain part.Post level a) l.post)
    ∙ ap (λ inside. turn_by level l inside a) e)

whiles_from-by : (n t level : ℕ) (a : Around) (head : Head) (turn : Around → Store → Trace) → whiles_from n t (λ t. frame_of plain part.Head level (inward a t (pos t))) head (λ t. turn (inward a t (pos t))) ≡ whiles_by n t level a (λ f. head_of f head) turn
whiles_from-by zero t level a head turn = refl
whiles_from-by (suc n) t level a head turn =
    ap (λ more s. headed_by (λ f. head_of f head) (frame_of plain part.Head level (inward a t (pos t))) (turn_if (turn (inward a t (pos t))) more) s) (whiles_from-by n (t + 1) level a head turn)

loop_by-from : (by head : Head) (k level : ℕ) (turn : Around → Store → Trace) (a : Around) → loop_by by plain k level head turn a ≡ loop_from by k level (λ f. head_of f head) turn a
loop_by-from (For lower upper stride) head k level turn a = refl
loop_by-from (While condition) head k level turn a = whiles_from-by k 0 level a head turn

loops_trace-known : (k level : ℕ) (ls : List KnownLoop) → loops_trace plain k level (map loop_of ls) ≡ loops_by k level ls
loops_trace-known k level [] = refl
loops_trace-known k level (l ∷ ls) =
    fun_ext (λ a.
    loop_by-from l.head.head l.head.head k level _ a
    ∙ ap₂ (λ yields turn. loop_from l.head.head k level yields turn a) (fun_ext (λ f. fun_ext (l.head.is f))) (turn_trace-known level l _ _ (loops_trace-known k (level + 1) ls)))

-- nests, one after another
abbrev pub nests_of : List (List KnownLoop) → List Nest
nests_of nests = map (λ ls. record { loops = map loop_of ls }) nests

nest_trace-known : (k : ℕ) (ls : List KnownLoop) → nest_trace k (map loop_of ls) ≡ loops_by k 1 ls outside
unfolding nest_trace
nest_trace-known k ls = ap (λ loops. loops outside) (loops_trace-known k 1 ls)

traces-known : (k : ℕ) (nests : List (List KnownLoop)) → map (λ nest. nest_trace k nest.loops) (nests_of nests) ≡ map (λ ls. loops_by k 1 ls outside) nests
traces-known k [] = refl
traces-known k (ls ∷ nests) = ap₂ (λ t ts. t ∷ ts) (nest_trace-known k ls) (traces-known k nests)

-- the run of them, which computes
abbrev pub run-by : List (List KnownLoop) → Store → ℕ → Run
run-by nests s n = run_of (cut (in_turn (map (λ ls. loops_by (n + 1) 1 ls outside) nests) s) s n 0)

pub plain_run-known : (nests : List (List KnownLoop)) (s : Store) (n : ℕ) → plain_run (nests_of nests) s n ≡ run-by nests s n
unfolding plain_run nests_trace
plain_run-known nests s n = ap (λ ts. run_of (cut (in_turn ts s) s n 0)) (traces-known (n + 1) nests)
