-- What a nest that keeps the rules gives to run it and to list its blocks.
use Rattle.std.proofs.Common.{◌≡◌, ℕ, ◌≤◌, nat_le, length, List, [], ◌∷◌, true, arith}
use Rattle.std.proofs.lemmas.Bool.{and_parts}
use Rattle.std.proofs.lemmas.Bool.Decides.{nat_tests}
use Rattle.nest_lang.specs.declared.tree.Loop.{Loop}
use Rattle.nest_lang.specs.Rules.{loop_keeps, loops_keep, NestKeeps}

pub loops_keep_of : {scalars : ℕ} {loops : List Loop} → NestKeeps scalars loops → loops_keep loops ≡ true
loops_keep_of k = k.loops_keep

few : (loops : List Loop) → loops_keep loops ≡ true → length loops ≤ 6
unfolding loops_keep
few [] h = omega arith
few (l ∷ ls) h =
    let below : nat_le (length ls) 5 ≡ true = (and_parts (nat_le (length ls) 5) (loop_keeps l ls) h).0 in
    grind (arith, nat_tests)

pub few-loops-of : {scalars : ℕ} {loops : List Loop} → NestKeeps scalars loops → length loops ≤ 6
few-loops-of {loops = loops} k = few loops k.loops_keep
