-- What a launch makes sure of: no loop that turns has a negative trip.
use Rattle.std.proofs.Common.{◌≡◌, refl, sym, ap, ◌∙◌, subst, ℕ, suc, ◌<◌, ◌≤◌, ◌-◌, inl, ℤ, pos, ◌≤ℤ◌, Bool, true, List, length, ⊎_elim, arith}
use Rattle.std.proofs.lemmas.Bool.{cases_lt}
use Rattle.nest_lang.specs.declared.tree.Part.{Part}
use Rattle.nest_lang.specs.declared.tree.Part.TheVariants.{Head, Pre, Post}
use Rattle.domain.specs.declared.chunk.Chunk.{Chunk}
use Rattle.domain.specs.Tables.{Table, depth, block_at, cut, repeats, counters, counters_by, turning, turning_by, trip, IsTable}
use Rattle.domain.specs.Instances.{counter, InTurn, Predicted}
use Rattle.domain.specs.Launches.{IsLaunched}
use Rattle.domain.proofs.PointLaws.{length-cut, cut-before, cut-after, trip-cut}
use Rattle.domain.proofs.RankLaws.{Stands, stands, has-rank, is_some-stands}
use Rattle.domain.proofs.WithinLaws.{counters-of, turning-of, head-least}
use Rattle.domain.proofs.LaunchedLaws.{launched_trips}

-- ---- what a table gives

-- each block has a counter
pub counted : (D : ℕ) (t : Table) → IsTable D t → (rank : ℕ) → rank < length t.blocks → 1 ≤ counters t (block_at t rank)
counted D t is rank inside = at (block_at t rank).part refl
  where
    level : ℕ
    level = (block_at t rank).level

    from : 1 ≤ (block_at t rank).level
    from = (is.blocks rank inside).from

    outermost : (block_at t rank).part ≡ Head → (block_at t rank).level ≡ 1 → repeats t ((block_at t rank).level - 1) ≡ true
    outermost e one = ap (λ (n : ℕ). repeats t (n - 1)) one ∙ sym is.outermost ∙ is_some-stands t Head 1 rank (record { inside = inside; part-is = e; level-is = one })

    at : (p : Part) → (block_at t rank).part ≡ p → 1 ≤ counters_by p (repeats t ((block_at t rank).level - 1)) (block_at t rank).level
    at Pre e = from
    at Post e = from
    at Head e =
        ⊎_elim
        (λ more. let least = head-least (repeats t ((block_at t rank).level - 1)) (block_at t rank).level in omega arith)
        (λ most. subst (λ (w : Bool). 1 ≤ counters_by Head w (block_at t rank).level) (sym (outermost e (omega (arith, from)))) from)
        (cases_lt 1 (block_at t rank).level)

-- and its level is that of a loop
pub level-inside : (D : ℕ) (t : Table) → IsTable D t → (rank : ℕ) → rank < length t.blocks → (block_at t rank).level ≤ depth t
level-inside D t is rank inside = subst (λ (n : ℕ). (block_at t rank).level ≤ n) (sym is.deep) (is.blocks rank inside).to

-- ---- the trips of a launched chunk

-- no predicted trip is negative
pub record TripsHold (t : Table) (chunk : Chunk) : Type 0 where
  pub first : pos 0 ≤ℤ chunk.first
  pub trips : (n : ℕ) (at : List ℤ) → length at ≡ depth t → 1 ≤ n → n < depth t → InTurn t chunk n at → pos 0 ≤ℤ trip t n at

turn-cut : (t : Table) (chunk : Chunk) (n : ℕ) (at : List ℤ) → 1 ≤ n → InTurn t chunk n at → InTurn t chunk n (cut n at)
turn-cut t chunk n at some turn = record {
  from = rw (cut-before n at 0 some) turn.from;
  below = rw (cut-before n at 0 some) turn.below;
  inner = λ k from to. rw (cut-before n at k to, trip-cut t k n at (omega arith)) (turn.inner k from to);
}

head-turns : (n : ℕ) → 1 ≤ n → turning_by Head (suc n) ≡ n
head-turns n some = omega arith

-- the head of loop number n, from 0, at the counters around it
head-holds : (D : ℕ) (t : Table) (words : ℤ) (chunk : Chunk) (instances : ℕ) → IsTable D t → IsLaunched t words chunk instances → (n : ℕ) (at : List ℤ) → length at ≡ depth t → 1 ≤ n → InTurn t chunk n at
    → (rank : ℕ) → Stands t Head (suc n) rank → pos 0 ≤ℤ trip t n at
head-holds D t words chunk instances is launched n at long some turn rank s =
    subst (λ z. pos 0 ≤ℤ z) (ap (λ m. trip t m (cut n at)) back ∙ trip-cut t n n at (omega arith))
    (launched_trips D t words chunk instances is launched (record { block = rank; at = cut n at }) predicted s.part-is (omega (arith, s.level-is)) (subst (λ m. counter (cut n at) m ≡ pos 0) (sym back) (cut-after n at n (omega arith))))
  where
    back : (block_at t rank).level - 1 ≡ n
    back = omega (arith, s.level-is)

    turns : turning (block_at t rank) ≡ n
    turns = turning-of t Head (suc n) rank s ∙ head-turns n some

    enough : n ≤ counters t (block_at t rank)
    enough = let e = counters-of t Head (suc n) rank s in let least = head-least (repeats t (suc n - 1)) (suc n) in omega (arith, e, least)

    predicted : Predicted t chunk (record { block = rank; at = cut n at })
    predicted = record {
      is = record { block = s.inside; size = length-cut n at ∙ long; rest = λ k l. cut-after n at k (omega (arith, enough)) };
      turn = subst (λ m. InTurn t chunk m (cut n at)) (sym turns) (turn-cut t chunk n at some turn);
      test = λ l. inl (subst (λ m. counter (cut n at) m ≡ pos 0) (sym turns) (cut-after n at n (omega arith)));
    }

pub trips-hold : (D : ℕ) (t : Table) (words : ℤ) (chunk : Chunk) (instances : ℕ) → IsTable D t → pos 0 ≤ℤ chunk.first → IsLaunched t words chunk instances → TripsHold t chunk
trips-hold D t words chunk instances is first launched = record { first = first; trips = trips }
  where
    trips : (n : ℕ) (at : List ℤ) → length at ≡ depth t → 1 ≤ n → n < depth t → InTurn t chunk n at → pos 0 ≤ℤ trip t n at
    trips n at long some inside turn =
        let (rank, e) = has-rank t Head (suc n) (is.heads (suc n) (omega arith) (omega (arith, is.deep))) in
        head-holds D t words chunk instances is launched n at long some turn rank (stands t Head (suc n) rank e)
