-- The state at the start is sound.
use Rattle.std.proofs.Common.{◌≡◌, ℕ, ◌+◌, ◌<◌, true≢false, List, [], ◌∷◌, ◌++◌, length, get_or, refl, sym, ap, ◌∙◌, arith, replicate, length-append, subst, ◌^◌, lit<}
use Rattle.std.proofs.lemmas.List.{length-replicate, get_or-replicate, get_or-append_right}
use Rattle.std.proofs.Math.ListN.{get_or-append}
use mathlib.Core.Option.{some-ne-none}
use Rattle.core_steps.specs.declared.view.View.{View}
use Rattle.core_steps.specs.Views.{first_view}
use Rattle.core_steps.specs.States.{State, memory_word, claim_word, first_state}
use Rattle.core_steps.specs.Invariant.{IsEmptyHanded, Inv, IsSound}
use Rattle.core_steps.proofs.WordListLaws.{ShowsMemory}
use Rattle.core_steps.proofs.QuietViewLaws.{AreSpent, quiet-phase, quiet-tiles, quiet-values}

hands : (memory : List ℕ) → IsEmptyHanded (first_view memory)
hands memory = record { held = refl; known = refl; own = refl; failed = refl }

none-spent : AreSpent []
none-spent j u e = absurd (some-ne-none u (sym e))

-- the number of words before the memory is a variable here, so that no list of 65,537 zeros is written out
start-keeps : (low : ℕ) (memory : List ℕ) → low ≡ 65537 → Inv (replicate low 0 ++ memory) (first_view memory) (first_view memory ∷ [])
start-keeps low memory is = let
    m : View = first_view memory in let
    zeros : List ℕ = replicate low 0 in let
    len : length zeros ≡ low = length-replicate {A = ℕ} low 0 in let
    all : length (zeros ++ memory) ≡ length zeros + length memory = length-append zeros memory in let
    zero-at : (j : ℕ) → j < low → get_or (zeros ++ memory) j 0 ≡ 0 = λ j lt. get_or-append zeros memory 0 j (omega arith) ∙ get_or-replicate low j 0 0 lt in let
    shows : ShowsMemory (zeros ++ memory) memory = record {
      width = omega arith;
      values = λ a lt. get_or-append_right zeros memory low (memory_word a) 0 len (omega arith) ∙ ap (λ (n : ℕ). get_or memory n 0) (omega arith);
    } in
    record {
      phase = quiet-phase (zeros ++ memory) m [] none-spent (hands memory) refl refl shows.width
          (let z = zero-at 0 (omega arith) in omega arith) (λ k lt. let z = zero-at (claim_word k) (omega arith) in omega arith) (omega arith)
          (λ j k ne a t. absurd (true≢false (sym t))) (omega arith) (λ k a t. absurd (true≢false (sym t))) (λ on. absurd (true≢false (sym on))) (λ t. absurd (true≢false (sym t)));
      tiles = quiet-tiles (zeros ++ memory) m [] none-spent (hands memory) (λ on. absurd (true≢false (sym on)));
      values = quiet-values (zeros ++ memory) m [] none-spent (hands memory) shows;
    }

pub first-sound : (memory : List ℕ) → IsSound (first_state memory)
first-sound memory = start-keeps 65537 memory refl
