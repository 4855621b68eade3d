-- A settle keeps the invariant: the phase is over, and the base shows the words.
use Rattle.std.proofs.Common.{◌≡◌, ℕ, true≢false, List, [], ◌∷◌, refl, sym, arith}
use Rattle.core_steps.specs.declared.view.View.{View}
use Rattle.core_steps.specs.Views.{settled_view, overlaid}
use Rattle.core_steps.specs.Invariant.{IsEmptyHanded, Inv}
use Rattle.core_steps.proofs.WordListLaws.{ShowsMemory}
use Rattle.core_steps.proofs.QuietViewLaws.{all-spent, quiet-phase, quiet-tiles, quiet-values, shows-values}

hands : (m : View) (base : List ℕ) → IsEmptyHanded (settled_view m base)
hands m base = record { held = refl; known = refl; own = refl; failed = refl }

pub settle-keeps : (words : List ℕ) (m : View) (ms : List View) (base : List ℕ) → Inv words m (m ∷ ms) → m.out ≡ [] → ShowsMemory words base → Inv words (settled_view m base) (settled_view m base ∷ ms)
settle-keeps words m ms base h empty shows = let
    spent = all-spent words m ms h.phase empty in
    record {
      phase = quiet-phase words (settled_view m base) ms spent (hands m base) h.phase.main_number empty shows.width h.phase.flag h.phase.claims h.phase.stored
          (λ j k ne a t. absurd (true≢false (sym t))) (omega arith) (λ k a t. absurd (true≢false (sym t))) (λ on. absurd (true≢false (sym on))) (λ t. absurd (true≢false (sym t)));
      tiles = quiet-tiles words (settled_view m base) ms spent (hands m base) (λ on. absurd (true≢false (sym on)));
      values = quiet-values words (settled_view m base) ms spent (hands m base) shows;
    }

-- the base made from the values that main took over
pub settle-keeps-taken : (words : List ℕ) (m : View) (ms : List View) → Inv words m (m ∷ ms) → m.out ≡ [] → Inv words (settled_view m (overlaid m.own m.base)) (settled_view m (overlaid m.own m.base) ∷ ms)
settle-keeps-taken words m ms h empty = settle-keeps words m ms (overlaid m.own m.base) h empty (shows-values words m ms h empty)
