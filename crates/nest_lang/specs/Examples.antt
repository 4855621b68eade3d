-- Examples of values, of plain runs and of blocks, each worked by hand and proved by computing it.
use Rattle.std.specs.Prelude.{◌≡◌, ℕ, ℤ, pos, negsuc, List, [], ◌∷◌, ◌++◌, Some, None, Ok, Err}
use Rattle.nest_lang.specs.declared.tree.Op.TheVariants.{Add, Sub, Div, Rem}
use Rattle.nest_lang.specs.declared.tree.Trap.TheVariants.{Overflow, ZeroDivisor, Outside}
use Rattle.nest_lang.specs.declared.tree.Place.TheVariants.{Scalar, Counter, Local}
use Rattle.nest_lang.specs.declared.tree.Expr.TheVariants.{Number, Var, Load, Neg, Two}
use Rattle.nest_lang.specs.declared.tree.Stmt.{Stmt}
use Rattle.nest_lang.specs.declared.tree.Stmt.TheVariants as statement
use Rattle.nest_lang.specs.declared.tree.Head.{Head}
use Rattle.nest_lang.specs.declared.tree.Head.TheVariants.{For, While}
use Rattle.nest_lang.specs.declared.tree.Loop.{Loop}
use Rattle.nest_lang.specs.declared.tree.Nest.{Nest}
use Rattle.nest_lang.specs.Values.{apply_of, negate_of, trip_count}
use Rattle.nest_lang.specs.Stores.{store_of}
use Rattle.nest_lang.specs.Traces.{Finish, Done, Halted, Limited, Trapped}
use Rattle.nest_lang.specs.Runs.{Run, plain_run}
use Rattle.nest_lang.specs.declared.tree.Part.TheVariants as part
use Rattle.nest_lang.specs.Blocks.{block_ref, present_blocks, rank_of, counters_of}
use Rattle.nest_lang.specs.Accesses.{load, store, block_accesses, head_accesses}
use Rattle.nest_lang.specs.Places.{block_places, block_size}
use Rattle.nest_lang.specs.Rules.{NestKeeps}

-- values
pub record ValueExamples : Type 0 where
  pub overflow : apply_of Add (pos 9223372036854775807) (pos 1) ≡ Err Overflow
  pub zero_divisor : apply_of Div (pos 7) (pos 0) ≡ Err ZeroDivisor
  pub toward_zero : apply_of Div (negsuc 6) (pos 2) ≡ Ok (negsuc 2)
  pub sign_of_dividend : apply_of Rem (negsuc 6) (pos 2) ≡ Ok (negsuc 0)
  pub least_by_minus_one : apply_of Rem (negsuc 9223372036854775807) (negsuc 0) ≡ Err Overflow
  pub least_negated : negate_of (negsuc 9223372036854775807) ≡ Err Overflow
  pub falling_trip : trip_count (pos 5) (pos 0) (negsuc 1) ≡ 3
  pub longest_trip : trip_count (negsuc 9223372036854775807) (pos 9223372036854775807) (pos 1) ≡ 18446744073709551615

-- a loop, and one nest of loops
abbrev pub loop_of : Head → List Stmt → List Stmt → Loop
loop_of head pre post = record { head = head; pre = pre; post = post }

abbrev pub nest_of : List Loop → List Nest
nest_of loops = record { loops = loops } ∷ []

abbrev pub run_gives : List ℤ → List ℤ → Finish → ℕ → Run
run_gives memory scalars ending steps = record { store = store_of memory scalars []; ending = ending; steps = steps }

-- for i = 5 below 0 step -2 { s = s + i }
abbrev pub falling : List Nest
falling = nest_of (loop_of (For (Number (pos 5)) (Number (pos 0)) (negsuc 1)) (statement.Set 0 (Two Add (Var (Scalar 0)) (Var (Counter 0))) ∷ []) [] ∷ [])

-- for i = 0 below 3 { [i] = 5 }
abbrev pub filling : List Nest
filling = nest_of (loop_of (For (Number (pos 0)) (Number (pos 3)) (pos 1)) (statement.Store 1 (Var (Counter 0)) (Number (pos 5)) ∷ []) [] ∷ [])

-- while p { p = [p] }
abbrev pub following : List Nest
following = nest_of (loop_of (While (Var (Scalar 0))) (statement.Set 0 (Load 1 (Var (Scalar 0))) ∷ []) [] ∷ [])

-- for i = 0 below 3 { let d = i - 1  if d { [i] = d } else { s = -i } }
abbrev pub choosing : List Nest
choosing = nest_of (loop_of (For (Number (pos 0)) (Number (pos 3)) (pos 1)) (statement.Let 0 (Two Sub (Var (Counter 0)) (Number (pos 1))) ∷ statement.If (Var (Local 0)) (statement.Store 1 (Var (Counter 0)) (Var (Local 0)) ∷ []) (statement.Set 0 (Neg (Var (Counter 0))) ∷ []) ∷ []) [] ∷ [])

-- for i = 0 below 2 { s = 0  for j = 0 below 3 { s = s + j }  [i] = s }
abbrev pub summing : List Nest
summing = nest_of (loop_of (For (Number (pos 0)) (Number (pos 2)) (pos 1)) (statement.Set 0 (Number (pos 0)) ∷ []) (statement.Store 1 (Var (Counter 0)) (Var (Scalar 0)) ∷ []) ∷ loop_of (For (Number (pos 0)) (Number (pos 3)) (pos 1)) (statement.Set 0 (Two Add (Var (Scalar 0)) (Var (Counter 1))) ∷ []) [] ∷ [])

-- plain runs: a falling `for`; a store outside of the memory; the same with too few steps; a list of three
-- nodes at the words 1, 3 and 2; a local and both branches of an `if`; a loop inside a loop; and two nests,
-- of which the second begins where the first ended
pub record RunExamples : Type 0 where
  pub falling_for : plain_run falling (store_of [] (pos 0 ∷ []) []) 100 ≡ run_gives [] (pos 9 ∷ []) Done 4
  pub store_outside : plain_run filling (store_of (pos 0 ∷ pos 0 ∷ []) [] []) 100 ≡ run_gives (pos 5 ∷ pos 5 ∷ []) [] (Halted (Trapped (Outside (pos 2)))) 4
  pub limited : plain_run filling (store_of (pos 0 ∷ pos 0 ∷ []) [] []) 2 ≡ run_gives (pos 5 ∷ pos 0 ∷ []) [] Limited 2
  pub linked_list : plain_run following (store_of (pos 0 ∷ pos 3 ∷ pos 0 ∷ pos 2 ∷ []) (pos 1 ∷ []) []) 100 ≡ run_gives (pos 0 ∷ pos 3 ∷ pos 0 ∷ pos 2 ∷ []) (pos 0 ∷ []) Done 7
  pub both_branches : plain_run choosing (store_of (pos 0 ∷ pos 0 ∷ pos 0 ∷ []) (pos 0 ∷ []) []) 100 ≡ run_gives (negsuc 0 ∷ pos 0 ∷ pos 1 ∷ []) (negsuc 0 ∷ []) Done 10
  pub inner_loop : plain_run summing (store_of (pos 0 ∷ pos 0 ∷ []) (pos 0 ∷ []) []) 100 ≡ run_gives (pos 3 ∷ pos 3 ∷ []) (pos 3 ∷ []) Done 13
  pub two_nests : plain_run (falling ++ filling) (store_of (pos 0 ∷ pos 0 ∷ []) (pos 0 ∷ []) []) 100 ≡ run_gives (pos 5 ∷ pos 5 ∷ []) (pos 9 ∷ []) (Halted (Trapped (Outside (pos 2)))) 8

-- [[5]] = [7] + [8]
abbrev pub adding : Stmt
adding = statement.Store 4 (Load 1 (Number (pos 5))) (Two Add (Load 2 (Number (pos 7))) (Load 3 (Number (pos 8))))

-- if [t] { [i] = 0 } else { s = [3] }
abbrev pub branching : Stmt
branching = statement.If (Load 1 (Var (Local 0))) (statement.Store 2 (Var (Counter 0)) (Number (pos 0)) ∷ []) (statement.Set 0 (Load 3 (Number (pos 3))) ∷ [])

-- while s { for i = [0] below -[1] { [i] = 5 }  s = 0 }
abbrev pub guarded : List Loop
guarded = loop_of (While (Var (Scalar 0))) [] (statement.Set 0 (Number (pos 0)) ∷ []) ∷ loop_of (For (Load 1 (Number (pos 0))) (Neg (Load 2 (Number (pos 1)))) (pos 1)) (statement.Store 1 (Var (Counter 1)) (Number (pos 5)) ∷ []) [] ∷ []

-- accesses stand in the order of evaluation: a store after the loads of its address and its value, the
-- branches of an `if` as in the text, and the lower bound before the upper
pub record AccessExamples : Type 0 where
  pub store_is_last : block_accesses (adding ∷ []) ≡ load 1 ∷ load 2 ∷ load 3 ∷ store 4 ∷ []
  pub both_branches : block_accesses (branching ∷ []) ≡ load 1 ∷ store 2 ∷ load 3 ∷ []
  pub both_bounds : head_accesses (For (Load 1 (Number (pos 0))) (Neg (Load 2 (Number (pos 1)))) (pos 1)) ≡ load 1 ∷ load 2 ∷ []
  pub places : block_places (branching ∷ []) ≡ Local 0 ∷ Counter 0 ∷ Scalar 0 ∷ []
  pub size : block_size (branching ∷ adding ∷ []) ≡ 4

-- the blocks of a `while` around a `for`, with their ranks and the number of their turn numbers
pub record BlockExamples : Type 0 where
  pub present : present_blocks guarded ≡ block_ref part.Head 1 ∷ block_ref part.Head 2 ∷ block_ref part.Pre 2 ∷ block_ref part.Post 1 ∷ []
  pub rank : rank_of guarded (block_ref part.Pre 2) ≡ Some 2
  pub no_rank : rank_of guarded (block_ref part.Pre 1) ≡ None
  pub while_head : counters_of guarded (block_ref part.Head 1) ≡ Some 1
  pub for_head : counters_of guarded (block_ref part.Head 2) ≡ Some 1
  pub body : counters_of guarded (block_ref part.Pre 2) ≡ Some 2
  pub keeps : NestKeeps 1 guarded
