-- The laws of chunks at predictions.
use Rattle.std.proofs.Common.{◌≡◌, refl, sym, ap, subst, ◌∙◌, ℕ, ◌<◌, ℤ, pos, negsuc, ◌+ℤ◌, ◌≤ℤ◌, unsigned_abs, List, [], ◌∷◌, length, Option, Some, None, arith}
use Rattle.std.proofs.lemmas.Int.{ints}
use Rattle.std.proofs.lemmas.List.{length-map}
use Rattle.std.specs.List.{AllByRecursion}
use Rattle.nest_lang.specs.declared.tree.Head.{Head}
use Rattle.nest_lang.specs.declared.tree.Head.TheVariants.{For, While}
use Rattle.nest_lang.specs.declared.tree.Loop.{Loop}
use Rattle.nest_lang.specs.declared.state.Outer.{Outer}
use Rattle.nest_lang.specs.Stores.{Store}
use Rattle.nest_lang.specs.Lookups.{plain}
use Rattle.nest_lang.specs.Traces.{Occurrence, Trace}
use Rattle.nest_lang.specs.Turns.{turns_trace, turns_later, IsPosition, IsPositionIn}
use Rattle.domain.specs.declared.chunk.Chunk.{Chunk}
use Rattle.domain.specs.Tables.{Table, IsTable}
use Rattle.domain.specs.Instances.{Instance, IsOriginal, opening_at, block_of}
use Rattle.orders.specs.Runs.{Outcome, and_then, plus as more}
use Rattle.follow.specs.Forecasts.{Forecast}
use Rattle.follow.specs.Plans.{planned, Item}
use Rattle.follow.specs.FollowRuns.{follow_one, follow_run, ended_with, item_step}
use Rattle.follow.specs.Successors.{successor_scalars}
use Rattle.follow.specs.ChunkRuns.{chunk_run}
use Rattle.follow.specs.Deviations.{FollowsPrediction}
use Rattle.follow.specs.ChainLaw.{IsChunk, Chains, Ends}
use Rattle.follow.proofs.TurnInstanceLaws.{planned-some}
use Rattle.follow.proofs.ChainLaws.{chain-law}
use Rattle.follow.proofs.PlannedOrderLaws.{all-map}
use Rattle.follow_chunk.specs.Predicted.{occurrence_of, instance_of, scalars_at, forecast_of}
use Rattle.follow_chunk.specs.Items.{items_at, scalars_after}
use Rattle.compare.specs.Chunks.{IsNextChunk}
use Rattle.compare.specs.PredictedLaws.{PlannedAreOriginal, PlannedArePredicted, PredictedOccur, SuccessorsArePlanned, NextTurnOpens, TasksAreChunks}
use Rattle.compare.specs.ChainLaw.{behind, Chained, ChainAtPredictions}
use Rattle.compare.proofs.TableBlockLaws.{block-of}
use Rattle.compare.proofs.WalkingLaws.{IsItem, Walks}
use Rattle.compare.proofs.PredictingLaws.{original, predicted-items, occurs, successor-scalars, next-opens, afters, chunk-walk, walk, is-instance, items-by}

pub planned-are-original : PlannedAreOriginal
planned-are-original D n loops t o chunk is c = original D n t loops is c.table o chunk c

pub planned-are-predicted : PlannedArePredicted
planned-are-predicted D n loops t o chunk is c = predicted-items D n t loops is c.table o chunk c

pub predicted-occur : PredictedOccur
predicted-occur D n loops t o chunk is c = occurs D n t loops is c.table o chunk c

pub successors-are-planned : SuccessorsArePlanned
successors-are-planned D n loops t o chunk is c = successor-scalars D n t loops is c.table o chunk c

pub next_turn-opens : NextTurnOpens
next_turn-opens D n loops t o chunk is c = next-opens D n t loops is c.table o chunk c

position-from : (loops : List Loop) (o : Outer) → IsPositionIn loops o → pos 0 ≤ℤ o.next
position-from [] o h = absurd h
position-from (l ∷ ls) o h = at l.head h
  where
    at : (hd : Head) → IsPosition hd o → pos 0 ≤ℤ o.next
    at (For lower upper stride) p = let e : o.next ≡ pos p.0 = p.2 in omega (arith, ints)
    at (While condition) p = let e : o.next ≡ pos p.0 = p.1 in omega (arith, ints)

pub tasks-are-chunks : TasksAreChunks
tasks-are-chunks D job words h = record {
  keeps = h.keeps.loops_keep;
  table = h.table;
  first = h.first;
  from = subst (λ (z : ℤ). pos 0 ≤ℤ z) (sym h.first) (position-from job.loops job.outer h.position);
  some = h.some;
  turns = h.turns;
}

-- a follow run depends on what is expected after its own instances alone
module _ (p : Forecast) (f g : Item → List ℤ) where
  then-all : (o : Option Outcome) (u v : List ℤ → Option Outcome) → ((m : List ℤ) → u m ≡ v m) → and_then o u ≡ and_then o v
  then-all None u v same = refl
  then-all (Some r) u v same = ap (more r.steps) (same r.memory)

  follow-same : (items : List Item) → AllByRecursion (λ i. f i ≡ g i) items → (m : List ℤ) → follow_run p f items m ≡ follow_run p g items m
  follow-same [] h m = refl
  follow-same (i ∷ items) h m =
      ap (λ (z : List ℤ). and_then (ended_with z (item_step p i (p.scalars i.at) m)) (follow_run p f items)) h.0
      ∙ then-all (follow_one p g i m) (follow_run p f items) (follow_run p g items) (follow-same items h.1)

module _ (D n : ℕ) (loops : List Loop) (t : Table) (is : IsTable D t) (o : Outer) (chunk : Chunk) (c : IsNextChunk n loops t o chunk) where
  abbrev p : Forecast
  p = forecast_of t

  abbrev turns : ℕ
  turns = unsigned_abs chunk.turns

  -- an instance begins with a value for each scalar
  begins-with : (x : Instance) (i : Item) → IsItem D n t loops is c.table x i → length (scalars_at t x) ≡ n
  unfolding scalars_at
  begins-with x i a = length-map (block_of t x).scalars _ ∙ (block-of D n t loops is c.table x.block a.stands.inside).2.forms

  sizes : (items : List Item) → AllByRecursion (λ i. IsItem D n t loops is c.table (instance_of t i.at) i) items → AllByRecursion (λ (i : Item). length (p.scalars i.at) ≡ n) items
  sizes items h = all-map (λ i. IsItem D n t loops is c.table (instance_of t i.at) i) (λ (i : Item). length (scalars_at t (instance_of t i.at)) ≡ n) items (λ i a. begins-with (instance_of t i.at) i a) h

  module _ (x y : Item) (xs ys : List Item) (e : planned (forecast_of t) loops o (unsigned_abs chunk.turns) ≡ x ∷ xs)
      (f : planned (forecast_of t) loops (turns_later o (unsigned_abs chunk.turns)) 1 ≡ y ∷ ys) where
    -- the chunk, as the chain law of every forecast has it
    is-chunk : (count : ℕ) → count ≡ n → IsChunk p loops o turns count x y
    is-chunk count same = record {
      turns = c.turns;
      begins = (xs, e);
      goes_on = (ys, f);
      sizes = subst (λ (m : ℕ). AllByRecursion (λ (i : Item). length (p.scalars i.at) ≡ m) (planned p loops o turns)) (sym same)
          (sizes (planned p loops o turns) (items-by D n t loops is c.table (planned p loops o turns) (opening_at t (pos (unsigned_abs o.next))) _ (walk D n t loops is c.table o turns)));
      size = (sizes (y ∷ ys) (subst (λ (items : List Item). AllByRecursion (λ i. IsItem D n t loops is c.table (instance_of t i.at) i) items) f
          (items-by D n t loops is c.table (planned p loops (turns_later o turns) 1) _ _ (walk D n t loops is c.table (turns_later o turns) 1)))).0 ∙ sym same;
    }

    first-is : instance_of t x.at ≡ opening_at t chunk.first
    first-is =
        let w = chunk-walk D n t loops is c.table o chunk c in
        is-instance D n t loops is c.table (opening_at t chunk.first) x (front (planned p loops o turns) e w)
      where
        front : (items : List Item) → items ≡ x ∷ xs → Walks D n t loops is c.table (opening_at t chunk.first) items (opening_at t (chunk.first +ℤ chunk.turns)) → IsItem D n t loops is c.table (opening_at t chunk.first) x
        front items q w = (subst (λ (js : List Item). Walks D n t loops is c.table (opening_at t chunk.first) js (opening_at t (chunk.first +ℤ chunk.turns))) q w).0

    behind-is : (instance_of t y.at ≡ behind t chunk) × (y.at ≡ occurrence_of t (behind t chunk))
    behind-is = next-opens D n t loops is c.table o chunk c y ys f

    module _ (predicted : List Instance) (original_list : IsOriginal t chunk predicted) (s : Store) (left : ℕ) where
      same-run : (m : List ℤ) → follow_run p (successor_scalars p loops o turns) (planned p loops o turns) m ≡ follow_run p (scalars_after t) (items_at t loops o predicted) m
      same-run m =
          follow-same p (successor_scalars p loops o turns) (scalars_after t) (planned p loops o turns) (afters D n t loops is c.table o chunk c) m
          ∙ ap (λ (items : List Item). follow_run p (scalars_after t) items m) (predicted-items D n t loops is c.table o chunk c predicted original_list)

      to-chained : (r : Outcome) → Chains p loops o turns s left x r → Chained t loops o chunk predicted s left r
      to-chained r h = record { begins = h.begins ∙ ap (scalars_at t) first-is; follows = sym (same-run s.memory) ∙ h.follows; suffice = h.suffice }

      from-chained : (r : Outcome) → Chained t loops o chunk predicted s left r → Chains p loops o turns s left x r
      from-chained r h = record { begins = h.begins ∙ sym (ap (scalars_at t) first-is); follows = same-run s.memory ∙ h.follows; suffice = h.suffice }

pub chain-at-predictions : ChainAtPredictions
chain-at-predictions D n loops t o chunk predicted k s left is c original_list size bare bound =
    let turns : ℕ = unsigned_abs chunk.turns in
    let some : 0 < turns = positive chunk.turns c.some in
    let (x, xs, e) = planned-some (forecast_of t) loops o turns c.keeps some in
    let (y, ys, f) = planned-some (forecast_of t) loops (turns_later o turns) 1 c.keeps (omega arith) in
    let law = chain-law (forecast_of t) k loops o turns s left x y (is-chunk D n loops t is o chunk c x y xs ys e f (length s.scalars) size) bound bare in
    let b = behind-is D n loops t is o chunk c x y xs ys e f in
    let trace : Trace = turns_trace plain k loops o turns s in (
      (
        λ h. let r = law.0.0 (subst (λ (at : Occurrence). FollowsPrediction (forecast_of t) (chunk_run at trace s left)) (sym b.1) h) in
            (r.0, to-chained D n loops t is o chunk c x y xs ys e f predicted original_list s left r.0 r.1),
        λ r. subst (λ (at : Occurrence). FollowsPrediction (forecast_of t) (chunk_run at trace s left)) b.1
            (law.0.1 (r.0, from-chained D n loops t is o chunk c x y xs ys e f predicted original_list s left r.0 r.1)),
      ),
      λ r h. subst (λ (z : Instance). Ends trace s left (scalars_at t z) r) b.0 (law.1 r (from-chained D n loops t is o chunk c x y xs ys e f predicted original_list s left r h)),
    )
  where
    positive : (z : ℤ) → pos 1 ≤ℤ z → 0 < unsigned_abs z
    positive (pos m) h = omega (arith, ints)
    positive (negsuc m) h = absurd (omega (arith, ints))
