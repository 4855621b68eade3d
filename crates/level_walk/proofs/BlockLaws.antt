-- What is left of a block.
use Rattle.std.proofs.Common.{◌≡◌, suc, ◌+◌, ◌-◌, ◌<◌, ◌≤◌, ℤ, pos, ◌+ℤ◌, ◌≤ℤ◌, ◌<ℤ◌, false, List, [], ◌∷◌, ◌++◌, length, drop, refl, sym, ap, ap₂, ◌∙◌, subst, arith}
use Rattle.std.specs.Prelude.{Option, Some, None, IfSome, IsNone}
use Rattle.std.proofs.lemmas.Int.{ints}
use Rattle.level_walk.specs.Spaces.{Space, points}
use Rattle.level_walk.specs.Places.{Place, Stands, left}
use Rattle.level_walk.specs.Fronts.{fronts, of_fronts, run}
use Rattle.level_walk.specs.Blocks.{BlockStands, IsAtEnd, block_left}
use Rattle.level_walk.specs.declared.runs.Run.{Run}
use Rattle.level_walk.proofs.SpreadLaws.{spread-first, spread-over}
use Rattle.level_walk.proofs.MoveLaws.{later-start, place_of}
use Rattle.level_walk.proofs.FrontLaws.{fronts-points}
use Rattle.std.proofs.lemmas.List.{append-nil}

pub next-stands : (s : Space) (o : Option Run) (place : Place) → 0 < s.levels → s.levels ≤ 16 → Stands (fronts s) place
    → IfSome o (λ found. length found.front.items + 1 ≡ s.levels) → IfSome o (λ found. found.low ≤ℤ found.high) → (IsNone o → left (fronts s) place ≡ []) → BlockStands s o place
next-stands s None place some few stands front low none = record { some = some; few = few; stands = stands; run = none refl }
next-stands s (Some begun) place some few stands front low none = record { some = some; few = few; stands = stands; run = (omega (arith, front), low) }

pub next-left : (s : Space) (o : Option Run) (old new : Place) → IfSome o (λ found. left (fronts s) old ≡ found.front.items ∷ left (fronts s) new) → IfSome o (λ found. points s 1 found.front.items ≡ run found.front.items found.low found.high)
    → (IsNone o → left (fronts s) old ≡ []) → block_left s o new ≡ of_fronts s (left (fronts s) old)
next-left s None old new some is none = sym (ap (of_fronts s) (none refl))
next-left s (Some begun) old new some is none =
    ap (λ l. l ++ of_fronts s (left (fronts s) new)) (sym is) ∙ sym (ap (of_fronts s) some)

first-run : (s : Space) (front : List ℤ) (low high : ℤ) (rest : List (List ℤ)) → low ≤ℤ high → run front low high ++ rest ≡ (front ++ low ∷ []) ∷ (run front (low +ℤ pos 1) high ++ rest)
first-run s front low high rest h = ap (λ l. l ++ rest) (spread-first low high (λ value. (front ++ value ∷ []) ∷ []) h)

pub at-end : (s : Space) (o : Option Run) (place : Place) → BlockStands s o place → IsAtEnd o → drop 1 (block_left s o place) ≡ of_fronts s (left (fronts s) place)
at-end s None place stands end = sym (ap (of_fronts s) stands.run)
at-end s (Some begun) place stands end =
    let over : begun.high <ℤ (begun.low +ℤ pos 1) = omega (arith, ints, end) in
    let rest = of_fronts s (left (fronts s) place) in
    ap (drop 1) (first-run s begun.front.items begun.low begun.high rest stands.run.1)
    ∙ ap (λ l. l ++ rest) (spread-over (begun.low +ℤ pos 1) begun.high (λ value. (begun.front.items ++ value ∷ []) ∷ []) over)

pub start-left : (s : Space) → 0 < s.levels → of_fronts s (left (fronts s) (place_of [] [] false)) ≡ points s s.levels []
unfolding left
start-left s some =
    let count : suc (s.levels - 1) ≡ s.levels = omega arith in
    let whole : (s.levels - 1) - 0 ≡ s.levels - 1 = omega arith in
    ap (of_fronts s) (ap (λ l. points (fronts s) ((s.levels - 1) - 0) [] ++ l) (later-start (fronts s) (s.levels - 1)) ∙ append-nil (points (fronts s) ((s.levels - 1) - 0) []) ∙ ap (λ n. points (fronts s) n []) whole)
    ∙ sym (fronts-points s (s.levels - 1) []) ∙ ap (λ n. points s n []) count

pub head-is : (s : Space) (begun : Run) (place : Place) (point : List ℤ) → begun.low ≤ℤ begun.high → point ≡ begun.front.items ++ begun.low ∷ [] → block_left s (Some begun) place ≡ point ∷ drop 1 (block_left s (Some begun) place)
head-is s begun place point h e =
    let is = first-run s begun.front.items begun.low begun.high (of_fronts s (left (fronts s) place)) h in
    is ∙ ap₂ (λ p l. p ∷ l) (sym e) (sym (ap (drop 1) is))

pub bumped : (s : Space) (begun new : Run) (place : Place) → begun.low ≤ℤ begun.high → new ≡ record begun { low = begun.low +ℤ pos 1 } → block_left s (Some new) place ≡ drop 1 (block_left s (Some begun) place)
bumped s begun new place h e =
    let is = first-run s begun.front.items begun.low begun.high (of_fronts s (left (fronts s) place)) h in
    ap (λ (r : Run). block_left s (Some r) place) e ∙ sym (ap (drop 1) is)

stands-some : (s : Space) (o : Option Run) (begun : Run) (place : Place) → BlockStands s o place → o ≡ Some begun → begun.low ≤ℤ begun.high
stands-some s o begun place stands e = (subst (λ (p : Option Run). BlockStands s p place) e stands).run.1

pub head_at : (s : Space) (o : Option Run) (begun : Run) (place : Place) (point : List ℤ) → BlockStands s o place → o ≡ Some begun → point ≡ begun.front.items ++ begun.low ∷ [] → block_left s o place ≡ point ∷ drop 1 (block_left s o place)
head_at s o begun place point stands e is =
    subst (λ (p : Option Run). block_left s p place ≡ point ∷ drop 1 (block_left s p place)) (sym e) (head-is s begun place point (stands-some s o begun place stands e) is)

pub bumped-at : (s : Space) (o : Option Run) (begun new : Run) (place : Place) → BlockStands s o place → o ≡ Some begun → new ≡ record begun { low = begun.low +ℤ pos 1 } → block_left s (Some new) place ≡ drop 1 (block_left s o place)
bumped-at s o begun new place stands e is =
    subst (λ (p : Option Run). block_left s (Some new) place ≡ drop 1 (block_left s p place)) (sym e) (bumped s begun new place (stands-some s o begun place stands e) is)
