-- The walk of which nothing was entered.
use Rattle.std.proofs.Common.{◌≡◌, ℕ, zero, suc, ℤ, pos, true, List, [], ◌∷◌, ◌++◌, map, length, replicate, refl, sym, ap, ap₂, subst, arith}
use Rattle.std.specs.Prelude.{Option, None}
use Rattle.std.specs.List.{AllByRecursion}
use Rattle.std.proofs.lemmas.Int.{ints}
use Rattle.level_walk.specs.Spaces.{IsWithin}
use Rattle.level_walk.specs.Places.{Place, left}
use Rattle.level_walk.specs.Blocks.{BlockStands, block_left}
use Rattle.level_walk.specs.Lattices.{HIGHEST, LOWEST}
use Rattle.level_walk.specs.Merges.{AllOrdered, merged, sorted, tag, tagged}
use Rattle.level_walk.specs.declared.runs.Run.{Run}
use Rattle.level_walk.specs.States.{head_of, place_of, run_of}
use Rattle.level_walk.specs.Walks.{AllStand, IsBlock, IsBox, IsScanning, StandsIn, all_left, left_in, space_of}
use Rattle.level_walk.specs.declared.scans.BlockScan.{BlockScan}
use Rattle.level_walk.specs.declared.scans.Scanning.{Scanning}
use Rattle.level_walk.specs.declared.scans.BlockScan.TheVariants.{Scanned, Listed}
use Rattle.level_walk.specs.Listings.{after_head, listed_in}
use Rattle.arrayvec.specs.ArrayVec.{ArrayVec}
use Rattle.level_walk.specs.declared.states.State.{State}
use Rattle.level_walk.proofs.StateLaws.{packed-stands}

abbrev pub done-place : Place
done-place = record { at = []; last = []; done = true }

pub record IsEnded (state : State) : Type 0 where
  pub place : place_of state ≡ done-place
  pub run : run_of state ≡ None
  pub head : head_of state ≡ None
  pub depth : state.depth ≡ 0
  pub width : state.width ≡ 0

nothing-left : (lows highs : List ℤ) (b : BlockScan) (state : State) → IsEnded state → left_in lows highs b state ≡ []
nothing-left lows highs (Scanned b) state is = ap (λ (o : Option Run). block_left (space_of lows highs b) o (place_of state)) is.run
nothing-left lows highs (Listed b) state is = ap (λ (o : Option (ArrayVec ℤ)). after_head o (listed_in lows highs b.points.items)) is.head

block-done : (n : ℕ) (lows highs : List ℤ) (b : Scanning) → IsScanning n b → BlockStands (space_of lows highs b) None done-place
unfolding left
block-done n lows highs b is =
    let levels = is.levels in
    let some = is.some in
    let few = is.few in
    record {
      some = omega (arith, levels, some);
      few = omega (arith, levels, few);
      stands = record { few = omega (arith, levels, few); long = refl; reach = omega arith; at = tt; last = tt };
      run = refl;
    }

one-stands : (n : ℕ) (lows highs : List ℤ) (b : BlockScan) (s : State) → IsBlock n b → IsEnded s → StandsIn lows highs b s
one-stands n lows highs (Scanned b) s is end =
    let levels = is.levels in
    let few = is.few in
    let depth = end.depth in
    let width = end.width in
    packed-stands (space_of lows highs b) s None done-place (omega (arith, depth)) (omega (arith, width)) (omega (arith, levels, few)) end.place end.run (block-done n lows highs b is)
one-stands n lows highs (Listed b) s is end = let width = end.width in omega (arith, width)

pub ended-stands : (n : ℕ) (lows highs : List ℤ) (bs : List BlockScan) (ss : List State) → AllByRecursion (IsBlock n) bs → AllByRecursion IsEnded ss → AllStand lows highs bs ss
ended-stands n lows highs [] ss blocks all = tt
ended-stands n lows highs (b ∷ bs) [] blocks all = tt
ended-stands n lows highs (b ∷ bs) (s ∷ ss) blocks all = (one-stands n lows highs b s blocks.0 all.0, ended-stands n lows highs bs ss blocks.1 all.1)

pub ended-ordered : (lows highs : List ℤ) (bs : List BlockScan) (ss : List State) → AllByRecursion IsEnded ss → AllOrdered (all_left lows highs bs ss)
ended-ordered lows highs [] ss all = tt
ended-ordered lows highs (b ∷ bs) [] all = tt
ended-ordered lows highs (b ∷ bs) (s ∷ ss) all =
    subst (λ l. AllOrdered (l ∷ all_left lows highs bs ss)) (sym (nothing-left lows highs b s all.0)) (tt, ended-ordered lows highs bs ss all.1)

nothing-tagged : (lows highs : List ℤ) (r : ℕ) (bs : List BlockScan) (ss : List State) → AllByRecursion IsEnded ss → tagged r (all_left lows highs bs ss) ≡ []
nothing-tagged lows highs r [] ss all = refl
nothing-tagged lows highs r (b ∷ bs) [] all = refl
nothing-tagged lows highs r (b ∷ bs) (s ∷ ss) all =
    ap₂ (λ p q. map (tag r) p ++ q) (nothing-left lows highs b s all.0) (nothing-tagged lows highs (suc r) bs ss all.1)

pub nothing-merged : (lows highs : List ℤ) (bs : List BlockScan) (ss : List State) → AllByRecursion IsEnded ss → merged (all_left lows highs bs ss) ≡ []
unfolding merged
nothing-merged lows highs bs ss all = ap sorted (nothing-tagged lows highs 0 bs ss all)

zeros-long : (n : ℕ) → length (replicate n (pos 0)) ≡ n
zeros-long zero = refl
zeros-long (suc n) = ap suc (zeros-long n)

zero-within : IsWithin LOWEST HIGHEST (pos 0)
zero-within = record { least = omega (arith, ints); greatest = omega (arith, ints) }

zeros-within : (n : ℕ) → AllByRecursion (IsWithin LOWEST HIGHEST) (replicate n (pos 0))
zeros-within zero = tt
zeros-within (suc n) = (zero-within, zeros-within n)

pub zeros-box : (n : ℕ) → IsBox n (replicate n (pos 0)) (replicate n (pos 0))
zeros-box n = record { long_lows = zeros-long n; long_highs = zeros-long n; within_lows = zeros-within n; within_highs = zeros-within n }
