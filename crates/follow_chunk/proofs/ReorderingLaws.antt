-- Instances of a table in another order.
use Rattle.std.proofs.Common.{◌≡◌, refl, ◌∙◌, sym, subst, ℕ, ◌<◌, ℤ, List, [], ◌∷◌, length, get_or, inl, inr, arith}
use Rattle.std.specs.List.{AllByRecursion}
use Rattle.nest_lang.specs.declared.tree.Loop.{Loop}
use Rattle.nest_lang.specs.declared.state.Outer.{Outer}
use Rattle.orders.specs.Runs.{Machine, Lawful, follow}
use Rattle.orders.specs.Orders.{Before}
use Rattle.plain_lemmas.specs.Lists.{Has}
use Rattle.orders.specs.Tiles.{named}
use Rattle.plain_lemmas.proofs.MembershipLaws.{all-has}
use Rattle.orders.proofs.PermutationLaws.{permutation_law}
use Rattle.orders.proofs.ShareLaws.{named-lawful, follow-named, range-has, places_law}
use Rattle.orders.proofs.SwapLaws.{swap_law, apart-from-no-conflict}
use Rattle.domain.specs.Tables.{Table}
use Rattle.domain.specs.Instances.{Instance}
use Rattle.follow.specs.Footprints.{follow_machine}
use Rattle.follow.proofs.LawfulLaws.{follow-is-lawful}
use Rattle.follow.proofs.ReorderingLaws.{follow-machine}
use Rattle.follow_chunk.specs.Predicted.{forecast_of}
use Rattle.follow_chunk.specs.Items.{item_at, items_at, scalars_after}
use Rattle.follow_chunk.specs.Nests.{IsInTurns}
use Rattle.follow_chunk.specs.ReorderLaws.{run_of, SwapKeeps, PermutationKeeps, PlacesKeep, PredictedAreInTurns}
use Rattle.follow_chunk.proofs.ConflictLaws.{conflict-table}
use Rattle.follow_chunk.proofs.ListingLaws.{all-at}
use Rattle.follow_chunk.proofs.PlacingLaws.{nest-of, in-turns}

module _ (t : Table) (loops : List Loop) (o : Outer) (words : ℕ) where
  -- the instances as a machine: each with the footprint and the follow run of what it runs
  abbrev machine : Machine Instance
  machine = named (item_at t loops o) (follow_machine (forecast_of t) (scalars_after t) words)

  lawful : Lawful machine
  lawful = named-lawful (item_at t loops o) (follow_machine (forecast_of t) (scalars_after t) words) (follow-is-lawful (forecast_of t) (scalars_after t) words)

  run-machine : (xs : List Instance) (m : List ℤ) → run_of t loops o xs m ≡ follow machine xs m
  run-machine xs m =
      follow-machine (forecast_of t) (scalars_after t) words (items_at t loops o xs) m
      ∙ sym (follow-named (item_at t loops o) (follow_machine (forecast_of t) (scalars_after t) words) xs m)

equal-runs : (t : Table) (loops : List Loop) (o : Outer) (xs ys : List Instance) (m : List ℤ) → follow (machine t loops o (length m)) xs m ≡ follow (machine t loops o (length m)) ys m → run_of t loops o xs m ≡ run_of t loops o ys m
equal-runs t loops o xs ys m e = run-machine t loops o (length m) xs m ∙ e ∙ sym (run-machine t loops o (length m) ys m)

-- two elements of a list
before-both : {X : Type 0} (P : X → Type 0) (xs : List X) (x y : X) → AllByRecursion P xs → Before xs x y → P x × P y
before-both P [] x y all h = absurd h
before-both P (z ∷ zs) x y all (inl h) = (subst P (sym h.0) all.0, all-has P zs y all.1 h.1)
before-both P (z ∷ zs) x y all (inr h) = before-both P zs x y all.1 h

all-here : (n : ℕ) (places : List ℕ) → ((i : ℕ) → Has places i → i < n) → AllByRecursion (λ i. i < n) places
all-here n [] h = tt
all-here n (i ∷ is) h = (h i (inl refl), all-here n is (λ k g. h k (inr g)))

pub swap-keeps : SwapKeeps
swap-keeps D scalars loops t o xs ys x y m nest p q apart =
    equal-runs t loops o _ _ m
    (swap_law (machine t loops o (length m)) (lawful t loops o (length m)) xs ys x y m refl
    (apart-from-no-conflict _ x y (λ c. apart (conflict-table D scalars (length m) loops t o x y nest p q c))))

pub permutation-keeps : PermutationKeeps
permutation-keeps D scalars loops t o xs ys m nest all first second same keeps =
    equal-runs t loops o xs ys m
    (permutation_law (machine t loops o (length m)) (lawful t loops o (length m)) xs ys m refl first second same
    (λ x y c h. let both = before-both (IsInTurns t) xs x y all h in keeps x y (conflict-table D scalars (length m) loops t o x y nest both.0 both.1 c) h))

pub places-keep : PlacesKeep
places-keep D scalars loops t o xs d places m nest all once same keeps =
    equal-runs t loops o _ _ m
    (places_law (machine t loops o (length m)) (lawful t loops o (length m)) xs d places m refl once same
    (λ i j h less c. let both = before-both (λ (k : ℕ). k < length xs) places i j here h in keeps i j h less
    (conflict-table D scalars (length m) loops t o (get_or xs j d) (get_or xs i d) nest (all-at (IsInTurns t) xs j d all both.1) (all-at (IsInTurns t) xs i d all both.0) c)))
  where
    here : AllByRecursion (λ (k : ℕ). k < length xs) places
    here = all-here (length xs) places (λ i h. let l = (range-has 0 (length xs) i (same.back i h)).1 in omega (arith, l))

pub predicted-in-turns : PredictedAreInTurns
predicted-in-turns D k x task p = (nest-of D k task.0 task.1, in-turns D k task.0 task.1 x p)
