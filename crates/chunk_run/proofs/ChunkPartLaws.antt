-- Parting: parts of a chunk that are followed one after another.
use Rattle.std.proofs.Common.{◌≡◌, refl, sym, ap, ◌∙◌, subst, ℕ, ◌+◌, ⊎_elim, ℤ, List, [], ◌++◌, Option, Some, None, arith}
use Rattle.std.proofs.lemmas.List.{map-append}
use Rattle.nest_lang.specs.declared.tree.Loop.{Loop}
use Rattle.nest_lang.specs.declared.state.Outer.{Outer}
use Rattle.orders.specs.Runs.{Outcome, plus, and_then}
use Rattle.plain_lemmas.proofs.MembershipLaws.{has-cases}
use Rattle.orders.proofs.SwapLaws.{some-injective}
use Rattle.domain.specs.declared.chunk.Chunk.{Chunk}
use Rattle.domain.specs.Tables.{Table}
use Rattle.domain.specs.Instances.{Instance}
use Rattle.follow.specs.FollowRuns.{follow_run}
use Rattle.follow.specs.Plans.{Item}
use Rattle.follow_chunk.specs.Predicted.{forecast_of}
use Rattle.follow_chunk.specs.Items.{item_at, items_at, scalars_after}
use Rattle.follow_chunk.proofs.ListingLaws.{run-append}
use Rattle.chunk_run.specs.ScheduleLaw.{followed}
use Rattle.chunk_run.specs.Parts.{FollowsWithin, FailsWithin, ChangesChunk}

-- what two runs give, one after another
pub and-then-some : (q : Option Outcome) (go : List ℤ → Option Outcome) (r : Outcome) → and_then q go ≡ Some r → (a : Outcome) × (b : Outcome) × (q ≡ Some a) × (go a.memory ≡ Some b) × (r.steps ≡ a.steps + b.steps)
and-then-some None go r e = absurd (cc)
and-then-some (Some a) go r e = by (go a.memory) refl e
  where
    by : (z : Option Outcome) → go a.memory ≡ z → plus a.steps z ≡ Some r → (c : Outcome) × (b : Outcome) × (Some a ≡ Some c) × (go c.memory ≡ Some b) × (r.steps ≡ c.steps + b.steps)
    by None f g = absurd (cc)
    by (Some b) f g = (a, b, refl, f, sym (ap (λ (y : Outcome). y.steps) (some-injective _ _ g)))

module _ (t : Table) (loops : List Loop) (o : Outer) where
  pub followed-append : (xs ys : List Instance) (m : List ℤ) → followed t loops o (xs ++ ys) m ≡ and_then (followed t loops o xs m) (followed t loops o ys)
  followed-append xs ys m =
      ap (λ (is : List Item). follow_run (forecast_of t) (scalars_after t) is m) (map-append (item_at t loops o) xs ys)
      ∙ run-append (forecast_of t) (scalars_after t) (items_at t loops o xs) (items_at t loops o ys) m

  pub within-none : (m : List ℤ) (left : ℕ) → FollowsWithin t loops o [] m left m left
  within-none m left = record { steps = 0; run = refl; suffice = omega arith; closes = λ x h. absurd h }

  pub within-append : (xs ys : List Instance) (m w v : List ℤ) (left mid rest : ℕ) → FollowsWithin t loops o xs m left w mid → FollowsWithin t loops o ys w mid v rest → FollowsWithin t loops o (xs ++ ys) m left v rest
  within-append xs ys m w v left mid rest f g = record {
    steps = f.steps + g.steps;
    run = followed-append xs ys m ∙ ap (λ (r : Option Outcome). and_then r (followed t loops o ys)) f.run ∙ ap (plus f.steps) g.run;
    suffice = let a = f.suffice in let b = g.suffice in omega (arith, a, b);
    closes = λ x h. ⊎_elim (λ k. f.closes x k) (λ k. g.closes x k) (has-cases xs ys x h);
  }

  pub fails-first : (xs ys : List Instance) (m : List ℤ) (left : ℕ) → FailsWithin t loops o xs m left → FailsWithin t loops o (xs ++ ys) m left
  fails-first xs ys m left f r e =
      let (a, b, first, second, total) = and-then-some (followed t loops o xs m) (followed t loops o ys) r (sym (followed-append xs ys m) ∙ e) in
      let l = f a first in
      omega (arith, l, total)

  pub fails-second : (xs ys : List Instance) (m w : List ℤ) (left mid : ℕ) → FollowsWithin t loops o xs m left w mid → FailsWithin t loops o ys w mid → FailsWithin t loops o (xs ++ ys) m left
  fails-second xs ys m w left mid f g r e =
      let (a, b, first, second, total) = and-then-some (followed t loops o xs m) (followed t loops o ys) r (sym (followed-append xs ys m) ∙ e) in
      let same : a ≡ record { memory = w; steps = f.steps } = some-injective _ _ (sym first ∙ f.run) in
      let l = g b (ap (λ (z : Outcome). followed t loops o ys z.memory) (sym same) ∙ second) in
      let s = ap (λ (z : Outcome). z.steps) same in
      let suffice = f.suffice in
      omega (arith, l, s, total, suffice)

-- ---- what changes

module _ (t : Table) (chunk : Chunk) where
  pub changes-none : (m : List ℤ) → ChangesChunk t chunk m m
  changes-none m = record { long = refl; others = λ a none. refl }

  pub changes-same : (m w : List ℤ) → w ≡ m → ChangesChunk t chunk m w
  changes-same m w same = subst (λ (v : List ℤ). ChangesChunk t chunk m v) (sym same) (changes-none m)

  pub changes-then : (m w v : List ℤ) → ChangesChunk t chunk m w → ChangesChunk t chunk w v → ChangesChunk t chunk m v
  changes-then m w v f g = record { long = g.long ∙ f.long; others = λ a none. g.others a none ∙ f.others a none }
