-- The examples of runs: each nest with what it does, and then the runs.
use Rattle.std.proofs.Common.{pos, negsuc, List, [], ◌∷◌}
use Rattle.nest_lang.specs.declared.tree.Op.TheVariants.{Add, Sub}
use Rattle.nest_lang.specs.declared.tree.Place.TheVariants.{Scalar, Counter, Local}
use Rattle.nest_lang.specs.Values.{apply_of, negate_of, trip_count}
use Rattle.nest_lang.specs.Lookups.{look}
use Rattle.nest_lang.specs.Traces.{cut}
use Rattle.nest_lang.specs.Statements.{announced}
use Rattle.nest_lang.specs.Examples.{RunExamples}
use Rattle.nest_lang.proofs.KnownNestLaws.{number, var, load, neg, two, KnownStmt, lets, sets, stores, chooses, KnownHead, fors, whiles, KnownLoop, plain_run-known}

abbrev loop : KnownHead → List KnownStmt → List KnownStmt → KnownLoop
loop head pre post = record { head = head; pre = pre; post = post }

abbrev falling-known : List KnownLoop
falling-known = loop (fors (number (pos 5)) (number (pos 0)) (negsuc 1)) (sets 0 (two Add (var (Scalar 0)) (var (Counter 0))) ∷ []) [] ∷ []

abbrev filling-known : List KnownLoop
filling-known = loop (fors (number (pos 0)) (number (pos 3)) (pos 1)) (stores 1 (var (Counter 0)) (number (pos 5)) ∷ []) [] ∷ []

abbrev following-known : List KnownLoop
following-known = loop (whiles (var (Scalar 0))) (sets 0 (load 1 (var (Scalar 0))) ∷ []) [] ∷ []

abbrev choosing-known : List KnownLoop
choosing-known = loop (fors (number (pos 0)) (number (pos 3)) (pos 1)) (lets 0 (two Sub (var (Counter 0)) (number (pos 1))) ∷ chooses (var (Local 0)) (stores 1 (var (Counter 0)) (var (Local 0)) ∷ []) (sets 0 (neg (var (Counter 0))) ∷ []) ∷ []) [] ∷ []

abbrev summing-known : List KnownLoop
summing-known =
    loop (fors (number (pos 0)) (number (pos 2)) (pos 1)) (sets 0 (number (pos 0)) ∷ []) (stores 1 (var (Counter 0)) (var (Scalar 0)) ∷ [])
    ∷ loop (fors (number (pos 0)) (number (pos 3)) (pos 1)) (sets 0 (two Add (var (Scalar 0)) (var (Counter 1))) ∷ []) []
    ∷ []

pub runs-computed : RunExamples
unfolding cut announced trip_count apply_of negate_of look
runs-computed = record {
  falling_for = plain_run-known (falling-known ∷ []) _ 100;
  store_outside = plain_run-known (filling-known ∷ []) _ 100;
  limited = plain_run-known (filling-known ∷ []) _ 2;
  linked_list = plain_run-known (following-known ∷ []) _ 100;
  both_branches = plain_run-known (choosing-known ∷ []) _ 100;
  inner_loop = plain_run-known (summing-known ∷ []) _ 100;
  two_nests = plain_run-known (falling-known ∷ filling-known ∷ []) _ 100;
}
