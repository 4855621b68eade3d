-- Listing: a list of instances that is followed one after another.
use Rattle.std.proofs.Common.{◌≡◌, refl, sym, ap, ◌∙◌, ℕ, zero, suc, ◌<◌, ◌+◌, ℤ, List, [], ◌∷◌, ◌++◌, length, take, drop, get_or, Option, Some, None, arith}
use Rattle.std.specs.List.{AllByRecursion}
use Rattle.std.proofs.lemmas.List.{take_more, map-append}
use Rattle.orders.specs.Runs.{Outcome, plus, and_then}
use Rattle.orders.proofs.SwapLaws.{then-then}
use Rattle.domain.specs.Instances.{Instance}
use Rattle.follow.specs.declared.how.How.{How}
use Rattle.follow.specs.Forecasts.{Forecast}
use Rattle.follow.specs.Plans.{Item}
use Rattle.follow.specs.FollowRuns.{follow_one, follow_run}
use Rattle.follow.proofs.LawfulLaws.{follow-is-lawful}
use Rattle.follow_chunk.specs.Predicted.{forecast_of}
use Rattle.follow_chunk.specs.Tasks.{TaskState}
use Rattle.follow_chunk.specs.Items.{item_at, items_at, scalars_after}
use Rattle.follow_chunk.specs.Followed.{Follows, Deviates, FirstDeviates}

module _ (p : Forecast) (after : Item → List ℤ) where
  plus-zero : (o : Option Outcome) → plus 0 o ≡ o
  plus-zero None = refl
  plus-zero (Some r) = let e : 0 + r.steps ≡ r.steps = omega arith in ap (λ (n : ℕ). Some (record { memory = r.memory; steps = n })) e

  pub run-append : (xs ys : List Item) (m : List ℤ) → follow_run p after (xs ++ ys) m ≡ and_then (follow_run p after xs m) (follow_run p after ys)
  run-append [] ys m = sym (plus-zero (follow_run p after ys m))
  run-append (x ∷ xs) ys m = by (λ w. run-append xs ys w) (follow_one p after x m) ∙ sym (then-then (follow_one p after x m) (follow_run p after xs) (follow_run p after ys))
    where
      by : ((w : List ℤ) → follow_run p after (xs ++ ys) w ≡ and_then (follow_run p after xs w) (follow_run p after ys)) → (o : Option Outcome) → and_then o (follow_run p after (xs ++ ys)) ≡ and_then o (λ w. and_then (follow_run p after xs w) (follow_run p after ys))
      by more None = refl
      by more (Some r) = ap (plus r.steps) (more r.memory)

pub all-at : {X : Type 0} (P : X → Type 0) (xs : List X) (k : ℕ) (d : X) → AllByRecursion P xs → k < length xs → P (get_or xs k d)
all-at P [] k d h l = absurd (omega arith)
all-at P (x ∷ xs) zero d h l = h.0
all-at P (x ∷ xs) (suc k) d h l = all-at P xs k d h.1 (omega arith)

pub split-at : {X : Type 0} (xs : List X) (k : ℕ) (d : X) → k < length xs → xs ≡ take k xs ++ get_or xs k d ∷ drop (suc k) xs
split-at [] k d l = absurd (omega arith)
split-at (x ∷ xs) zero d l = refl
split-at (x ∷ xs) (suc k) d l = ap (λ (zs : List _). x ∷ zs) (split-at xs k d (omega arith))

module _ (job : TaskState) (xs : List Instance) (k : ℕ) (x : Instance) (m w : List ℤ) (steps : ℕ) (inside : k < length xs) (is : x ≡ get_or xs k x)
    (so_far : follow_run (forecast_of job.pred) (scalars_after job.pred) (items_at job.pred job.loops job.outer (take k xs)) m ≡ Some (record { memory = w; steps = steps })) where
  abbrev run : List Item → List ℤ → Option Outcome
  run = follow_run (forecast_of job.pred) (scalars_after job.pred)

  abbrev one : List ℤ → Option Outcome
  one = follow_one (forecast_of job.pred) (scalars_after job.pred) (item_at job.pred job.loops job.outer x)

  goes-on : (rest : List Instance) → run (items_at job.pred job.loops job.outer (take k xs ++ x ∷ rest)) m ≡ plus steps (and_then (one w) (run (items_at job.pred job.loops job.outer rest)))
  goes-on rest =
      ap (λ (is : List Item). run is m) (map-append (item_at job.pred job.loops job.outer) (take k xs) (x ∷ rest))
      ∙ run-append (forecast_of job.pred) (scalars_after job.pred) (items_at job.pred job.loops job.outer (take k xs)) (items_at job.pred job.loops job.outer (x ∷ rest)) m
      ∙ ap (λ (r : Option Outcome). and_then r (run (items_at job.pred job.loops job.outer (x ∷ rest)))) so_far

  here : xs ≡ take k xs ++ x ∷ drop (suc k) xs
  here = split-at xs k x inside ∙ ap (λ (y : Instance). take k xs ++ y ∷ drop (suc k) xs) (sym is)

  pub next-follows : (after : List ℤ) (more : ℕ) → Follows job x more w after → run (items_at job.pred job.loops job.outer (take (k + 1) xs)) m ≡ Some (record { memory = after; steps = steps + more })
  next-follows after more f =
      ap (λ (ys : List Instance). run (items_at job.pred job.loops job.outer ys) m) (take_more xs k x inside ∙ ap (λ (y : Instance). take k xs ++ y ∷ []) (sym is))
      ∙ goes-on [] ∙ ap (λ (r : Option Outcome). plus steps (and_then r (run []))) f.one
      ∙ (let e : steps + (more + 0) ≡ steps + more = omega arith in ap (λ (n : ℕ). Some (record { memory = after; steps = n })) e)

  pub list-none : (h : How) → Deviates job x h w → run (items_at job.pred job.loops job.outer xs) m ≡ None
  list-none h d = ap (λ (ys : List Instance). run (items_at job.pred job.loops job.outer ys) m) here ∙ goes-on (drop (suc k) xs) ∙ ap (λ (r : Option Outcome). plus steps (and_then r (run (items_at job.pred job.loops job.outer (drop (suc k) xs))))) d.none

  pub list-first : (h : How) → Deviates job x h w → FirstDeviates job xs x h m
  list-first h d = record { before = take k xs; behind = drop (suc k) xs; are = here; memory = w; steps = steps; follows = so_far; deviates = d }

-- an instance that follows leaves as many words
pub long-after : (job : TaskState) (x : Instance) (steps : ℕ) (words after : List ℤ) → Follows job x steps words after → length after ≡ length words
long-after job x steps words after f = (follow-is-lawful (forecast_of job.pred) (scalars_after job.pred) (length words)).long (item_at job.pred job.loops job.outer x) words (record { memory = after; steps = steps }) refl f.one
