-- States, and the blocks that they stand for.
use Rattle.std.proofs.Common.{◌≡◌, ◌≤◌, ℤ, pos, ◌+ℤ◌, Bool, true, false, List, [], ◌∷◌, ◌++◌, length, take, drop, refl, sym, ap, ap₂, ◌∙◌, subst, arith}
use Rattle.std.specs.Prelude.{Option, Some, None, IfSome, MatchOption, if◌then◌else◌}
use Rattle.arrayvec.specs.ArrayVec.{ArrayVec}
use Rattle.affine.specs.declared.row.Row.{Row}
use Rattle.fourier_motzkin.specs.Verdicts.{Bounds}
use Rattle.level_walk.specs.declared.cells.InCell.{InCell}
use Rattle.level_walk.specs.Spaces.{Space}
use Rattle.level_walk.specs.Places.{Place}
use Rattle.level_walk.specs.Lattices.{in_cell}
use Rattle.level_walk.specs.Blocks.{BlockStands, block_left}
use Rattle.level_walk.specs.declared.runs.Run.{Run}
use Rattle.level_walk.proofs.BlockLaws.{bumped-at, head_at}
use Rattle.level_walk.specs.States.{StateStands, head_of, place_of, run_of, state_left}
use Rattle.level_walk.specs.declared.states.State.{State}

pub front-small : (s : Space) (o : Option Run) (place : Place) → s.levels ≤ 6 → BlockStands s o place → IfSome o (λ run. length run.front.items ≤ 6)
front-small s None place few stands = tt
front-small s (Some begun) place few stands = let h = stands.run.0 in omega (arith, few, h)

pub at-small : (s : Space) (o : Option Run) (place : Place) → s.levels ≤ 6 → BlockStands s o place → length place.at ≤ 6
at-small s o place few stands = let h = stands.stands.reach in omega (arith, few, h)

pub packed-stands : (s : Space) (state : State) (o : Option Run) (place : Place) → state.depth ≤ 6 → state.width ≤ 6 → s.levels ≤ 6 → place_of state ≡ place → run_of state ≡ o → BlockStands s o place → StateStands s state
packed-stands s state o place depth width few p r stands =
    record {
      depth = depth;
      width = width;
      few = few;
      block = subst (λ (q : Place). BlockStands s (run_of state) q) (sym p) (subst (λ (x : Option Run). BlockStands s x place) (sym r) stands);
    }

pub packed-left : (s : Space) (state : State) (o : Option Run) (place : Place) → place_of state ≡ place → run_of state ≡ o → state_left s state ≡ block_left s o place
packed-left s state o place p r = ap₂ (block_left s) r p

pub head-state : (s : Space) (state : State) (point : List ℤ) → state.begun ≡ true → point ≡ take state.width state.front ++ state.low ∷ [] → StateStands s state → state_left s state ≡ point ∷ drop 1 (state_left s state)
head-state s state point begun is stands =
    let run : Run = record { front = record { items = take state.width state.front }; low = state.low; high = state.high } in
    let some : run_of state ≡ Some run = ap (λ (b : Bool). if b then Some run else None) begun in
    head_at s (run_of state) run (place_of state) point stands.block some is

-- the space of a walk's set
abbrev pub space_at : InCell → Space
space_at set = in_cell (length set.scan.now.levels) set.rows.now set.lows.now set.highs.now

pub same-space : (old new : InCell) (scan : Bounds) (rows : List Row) (lows highs : List ℤ) → new ≡ old → (old.scan.now ≡ scan) × (old.rows.now ≡ rows) × (old.lows.now ≡ lows) × (old.highs.now ≡ highs)
    → space_at new ≡ in_cell (length scan.levels) rows lows highs
same-space old new scan rows lows highs e (a, b, d, f) = ap space_at e ∙ rw (a, b, d, f) refl

pub taken-stands : (s t : Space) (o : Option Run) (place : Place) → t ≡ s → BlockStands t o place → BlockStands s o place
taken-stands s t o place e stands = subst (λ (u : Space). BlockStands u o place) e stands

pub taken-left : (s t : Space) (o p : Option Run) (place from : Place) (old new : State) → t ≡ s
    → (u : Space) → u ≡ s → block_left t o place ≡ drop 1 (block_left u p from) → p ≡ run_of old → from ≡ place_of old → place_of new ≡ place → run_of new ≡ o → state_left s new ≡ drop 1 (state_left s old)
taken-left s t o p place from old new e u f left a b d g =
    packed-left s new o place d g ∙ ap (λ (x : Space). block_left x o place) (sym e) ∙ left ∙ ap (drop 1) (ap (λ (x : Space). block_left x p from) f ∙ ap₂ (block_left s) a b)

pub head-scanned : (s : Space) (state : State) → StateStands s state → MatchOption (head_of state) (state_left s state ≡ []) (λ point. state_left s state ≡ point.items ∷ drop 1 (state_left s state))
head-scanned s state stands = at state.begun refl
  where
    items : List ℤ
    items = take state.width state.front ++ state.low ∷ []

    at : (b : Bool) → state.begun ≡ b → MatchOption (if b then Some (record { items = items }) else None) (state_left s state ≡ []) (λ (point : ArrayVec ℤ). state_left s state ≡ point.items ∷ drop 1 (state_left s state))
    at true e = head-state s state items e refl stands
    at false e = ap (λ (b : Bool). block_left s (if b then Some (record { front = record { items = take state.width state.front }; low = state.low; high = state.high }) else None) (place_of state)) e

-- the run of a state, from this last value on
abbrev run_at : State → ℤ → Run
run_at state low = record { front = record { items = take state.width state.front }; low = low; high = state.high }

begun-run : (state : State) → state.begun ≡ true → run_of state ≡ Some (run_at state state.low)
begun-run state begun = ap (λ (b : Bool). if b then Some (run_at state state.low) else None) begun

-- the first point is taken off a run in which another one follows
pub advanced-left : (s : Space) (state : State) → state.begun ≡ true → StateStands s state → state_left s (record state { low = state.low +ℤ pos 1 }) ≡ drop 1 (state_left s state)
advanced-left s state begun stands =
    ap (λ (o : Option Run). block_left s o (place_of state)) (begun-run (record state { low = state.low +ℤ pos 1 }) begun)
    ∙ bumped-at s (run_of state) (run_at state state.low) (run_at state (state.low +ℤ pos 1)) (place_of state) stands.block (begun-run state begun) refl
