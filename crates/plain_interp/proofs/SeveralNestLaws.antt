-- Nests one after another: what is left to run.
use Rattle.std.proofs.Common.{◌≡◌, refl, ap, ◌∙◌, sym, ℕ, ◌+◌, List, [], ◌∷◌, map}
use Rattle.nest_lang.specs.declared.tree.Nest.{Nest}
use Rattle.nest_lang.specs.Stores.{Store}
use Rattle.nest_lang.specs.Traces.{in_turn, Finish, Done, Cut, cut_of, cut}
use Rattle.nest_lang.specs.Runs.{run_of, plain_run, nests_trace, nest_trace}
use Rattle.nest_lang.proofs.CutLaws.{cut-ends, cut-turn, resumed, resumed-not}

-- the run of these nests from here on, where each `while` has at most k turns
unfoldable pub rest_of_run : ℕ → List Nest → Store → ℕ → ℕ → Cut
rest_of_run k nests s left used = cut (nests_trace k nests s) s left used

-- after a nest that ended the others are left
pub rest-of-run-next : (k : ℕ) (nest : Nest) (rest : List Nest) (s t : Store) (left used left' used' : ℕ)
    → cut_of t left' used' Done ≡ cut (nest_trace k nest.loops s) s left used
    → rest_of_run k rest t left' used' ≡ rest_of_run k (nest ∷ rest) s left used
unfolding rest_of_run nests_trace
rest-of-run-next k nest rest s t left used left' used' ran =
    ap (λ (c : Cut). resumed c (in_turn (map (λ n. nest_trace k n.loops) rest))) ran
    ∙ sym (cut-turn (nest_trace k nest.loops) (map (λ n. nest_trace k n.loops) rest) s left used)

-- a nest that doesn't end is the last
pub rest-of-run-out : (k : ℕ) (nest : Nest) (rest : List Nest) (s t : Store) (left used left' used' : ℕ) (e : Finish) → (e ≡ Done → ⊥)
    → cut_of t left' used' e ≡ cut (nest_trace k nest.loops s) s left used
    → cut_of t left' used' e ≡ rest_of_run k (nest ∷ rest) s left used
unfolding rest_of_run nests_trace
rest-of-run-out k nest rest s t left used left' used' e out ran =
    sym (resumed-not (cut_of t left' used' e) (in_turn (map (λ n. nest_trace k n.loops) rest)) out)
    ∙ ap (λ (c : Cut). resumed c (in_turn (map (λ n. nest_trace k n.loops) rest))) ran
    ∙ sym (cut-turn (nest_trace k nest.loops) (map (λ n. nest_trace k n.loops) rest) s left used)

-- where no nest is left the run is done
pub rest-of-run-end : (k : ℕ) (s : Store) (left used : ℕ) → cut_of s left used Done ≡ rest_of_run k [] s left used
unfolding rest_of_run nests_trace
rest-of-run-end k s left used = sym (cut-ends s left used)

-- the plain run is what is left before any step
pub plain_run-rest : (nests : List Nest) (s : Store) (n : ℕ) → run_of (rest_of_run (n + 1) nests s n 0) ≡ plain_run nests s n
unfolding rest_of_run plain_run
plain_run-rest nests s n = refl
