-- A post keeps the invariant: main begins a phase, of the next epoch.
use Rattle.std.proofs.Common.{◌≡◌, ℕ, ◌≤◌, true≢false, List, [], ◌∷◌, length, refl, sym, arith}
use Rattle.core_steps.specs.declared.plan.Plan.{Plan}
use Rattle.core_steps.specs.declared.view.View.{View}
use Rattle.core_steps.specs.Plans.{IsSeparate, IsInside}
use Rattle.core_steps.specs.Views.{posted_view}
use Rattle.core_steps.specs.Invariant.{IsEmptyHanded, PhaseIsSound, TilesAreSound, ValuesAreSound, Inv}
use Rattle.core_steps.proofs.WordListLaws.{ShowsMemory}
use Rattle.core_steps.proofs.QuietViewLaws.{all-spent, quiet-phase, quiet-tiles, quiet-values}

hands : (m : View) (base : List ℕ) (plan : Plan) → IsEmptyHanded (posted_view m base plan)
hands m base plan = record { held = refl; known = refl; own = refl; failed = refl }

pub post-keeps-phase : (words : List ℕ) (m : View) (ms : List View) (base : List ℕ) (plan : Plan) → PhaseIsSound words m (m ∷ ms) → m.out ≡ [] → ShowsMemory words base
    → IsSeparate plan → length plan.tiles ≤ 65536 → IsInside (length base) plan → PhaseIsSound words (posted_view m base plan) (posted_view m base plan ∷ ms)
post-keeps-phase words m ms base plan h empty shows separate few inside = let
    flag = h.flag in let
    stored = h.stored in
    quiet-phase words (posted_view m base plan) ms (all-spent words m ms h empty) (hands m base plan) h.main_number empty shows.width
    (omega arith) (λ k lt. let c = h.claims k lt in omega arith) (omega arith) separate few inside (λ _ is. absurd (omega arith)) (λ t. absurd (true≢false (sym t)))

pub post-keeps-tiles : (words : List ℕ) (m : View) (ms : List View) (base : List ℕ) (plan : Plan) → PhaseIsSound words m (m ∷ ms) → m.out ≡ [] → length plan.tiles ≤ 65536
    → TilesAreSound words (posted_view m base plan) (posted_view m base plan ∷ ms)
post-keeps-tiles words m ms base plan h empty few =
    quiet-tiles words (posted_view m base plan) ms (all-spent words m ms h empty) (hands m base plan) (λ _ k lt is. let c = h.claims k (omega arith) in absurd (omega arith))

pub post-keeps-values : (words : List ℕ) (m : View) (ms : List View) (base : List ℕ) (plan : Plan) → PhaseIsSound words m (m ∷ ms) → m.out ≡ [] → ShowsMemory words base
    → ValuesAreSound words (posted_view m base plan) (posted_view m base plan ∷ ms)
post-keeps-values words m ms base plan h empty shows = quiet-values words (posted_view m base plan) ms (all-spent words m ms h empty) (hands m base plan) shows

pub post-keeps : (words : List ℕ) (m : View) (ms : List View) (base : List ℕ) (plan : Plan) → Inv words m (m ∷ ms) → m.out ≡ [] → ShowsMemory words base
    → IsSeparate plan → length plan.tiles ≤ 65536 → IsInside (length base) plan → Inv words (posted_view m base plan) (posted_view m base plan ∷ ms)
post-keeps words m ms base plan h empty shows separate few inside = record {
  phase = post-keeps-phase words m ms base plan h.phase empty shows separate few inside;
  tiles = post-keeps-tiles words m ms base plan h.phase empty few;
  values = post-keeps-values words m ms base plan h.phase empty shows;
}
