-- Heads: what their evaluation rests on.
use Rattle.std.proofs.Common.{◌≡◌, refl, sym, ap, subst, ◌∙◌, ap₂, ℕ, zero, suc, ◌<◌, ℤ, pos, List, [], ◌∷◌, Ok, not, replicate, append-nil, arith}
use Rattle.nest_lang.specs.declared.tree.Expr.{Expr}
use Rattle.nest_lang.specs.declared.tree.Head.TheVariants.{For, While}
use Rattle.nest_lang.specs.declared.observe.Seen.TheVariants.{Lower, Trip, Condition}
use Rattle.nest_lang.specs.Lookups.{Expectation, look_load}
use Rattle.nest_lang.specs.Values.{same, trip_count}
use Rattle.nest_lang.specs.Stores.{store_of}
use Rattle.nest_lang.specs.Expressions.{Frame, Told, shown}
use Rattle.nest_lang.specs.Heads.{Bounds, Tested, as_number, heading, then_head, head_of}
use Rattle.block_exec.proofs.AnnounceLaws.{announced-scalars}
use Rattle.block_exec.proofs.ChainLaws.{chain-append}
use Rattle.nest_lang.specs.Traces.{Observation}
use Rattle.block_exec.specs.Watches.{Chain}
use Rattle.block_exec.specs.declared.context.Run.{Run}
use Rattle.block_exec.specs.declared.site.Site.{Site}
use Rattle.block_exec.specs.Sites.{frame_at}
use Rattle.block_exec.specs.Moments.{shown_where_left}
use Rattle.block_exec.specs.Runs.{Looked, told_at, within}
use Rattle.block_exec.proofs.ExpressionLaws.{told-zeros, told-again}

-- what a head shows where a step is left for it, and where none is
pub shows-none : (n : ℕ) (os : List Observation) → (0 < n → ⊥) → shown_where_left n os ≡ []
shows-none zero os h = refl
shows-none (suc n) os h =
    let some : 0 < suc n = omega arith in
    absurd (h some)

pub shows-some : (n : ℕ) (os : List Observation) → 0 < n → shown_where_left n os ≡ os
shows-some zero os h = absurd (omega arith)
shows-some (suc n) os h = refl

-- locals that are all 0 are as none
pub head-zeros : (f : Frame) (lower upper : Expr) (stride : ℤ) (memory scalars : List ℤ) → head_of f (For lower upper stride) (store_of memory scalars (replicate 16 (pos 0))) ≡ head_of f (For lower upper stride) (store_of memory scalars [])
unfolding head_of
head-zeros f lower upper stride memory scalars =
    ap₂ (λ (a b : Told). then_head a.seen a.value (λ from. then_head b.seen b.value (λ to. heading (shown f Lower from ∷ shown f Trip (pos (trip_count from to stride)) ∷ []) (Ok (Bounds from (trip_count from to stride))))))
    (told-zeros f scalars (look_load f.expects memory) 16 lower) (told-zeros f scalars (look_load f.expects memory) 16 upper)

pub head-zeros-while : (f : Frame) (condition : Expr) (memory scalars : List ℤ) → head_of f (While condition) (store_of memory scalars (replicate 16 (pos 0))) ≡ head_of f (While condition) (store_of memory scalars [])
unfolding head_of
head-zeros-while f condition memory scalars =
    ap (λ (a : Told). then_head a.seen a.value (λ v. heading (shown f Condition (as_number (not (same v (pos 0)))) ∷ []) (Ok (Tested (not (same v (pos 0)))))))
    (told-zeros f scalars (look_load f.expects memory) 16 condition)

-- both bounds were evaluated, and then shown
pub bounds-shown : {P W B : Type 0} (memory : P → List ℤ) (expects : P → Expectation) (basis : P → B) (may : W → Observation → W → Type 0) (site : Site) (a b : Run P W) (v w : W) (lower upper : Expr) (stride x y : ℤ) (trip : ℕ)
    → Looked memory expects basis a b → Ok x ≡ (told_at memory expects site a lower).value → Chain may a.watch.now (told_at memory expects site a lower).seen b.watch.now
    → Ok y ≡ (told_at memory expects site b upper).value → Chain may b.watch.now (told_at memory expects site b upper).seen v → trip ≡ trip_count x y stride
    → Chain may v (shown (frame_at site (expects a.port.now)) Lower x ∷ shown (frame_at site (expects a.port.now)) Trip (pos trip) ∷ []) w
    → Chain may a.watch.now (head_of (frame_at site (expects a.port.now)) (For lower upper stride) (within memory a).store).seen w
unfolding head_of
bounds-shown memory expects basis may site a b v w lower upper stride x y trip looked is first is2 second count last =
    let again : told_at memory expects site b upper ≡ told_at memory expects site a upper = told-again memory expects basis site a b upper looked in
    let value : Ok y ≡ (told_at memory expects site a upper).value = is2 ∙ ap (λ t. t.value) again in
    let rest = subst (λ (t : Told). Chain may b.watch.now t.seen v) again second in
    let end = rw count at last in
    rw (sym is, sym value) (chain-append may _ _ _ _ _ first (chain-append may _ _ _ _ _ rest end))

pub ruleset heads = (head-zeros, head-zeros-while, announced-scalars, shows-none, shows-some, chain-append, append-nil)
