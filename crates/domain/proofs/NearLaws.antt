-- Counters of the next instance: no counter rises by more than 1.
use Rattle.std.proofs.Common.{◌≡◌, refl, sym, ap, subst, ℕ, zero, suc, ◌<◌, ◌≤◌, ◌+◌, ◌-◌, ℤ, pos, ◌+ℤ◌, ◌≤ℤ◌, Bool, true, false, Option, Some, None, List, [], ◌∷◌, length, ◌⊎◌, inl, inr, ⊎_elim, arith}
use Rattle.std.specs.Prelude.{int_lt, nat_lt, if◌then◌else◌}
use Rattle.std.proofs.lemmas.Int.{ints}
use Rattle.std.proofs.lemmas.Bool.{cases_lt}
use Rattle.nest_lang.specs.declared.tree.Part.{Part}
use Rattle.nest_lang.specs.declared.tree.Part.TheVariants.{Head, Pre, Post}
use Rattle.domain.specs.Tables.{Table, depth, repeats, rank_of, cut, trip}
use Rattle.domain.specs.Instances.{Instance, instance, block_of, counter}
use Rattle.domain.specs.Steps.{turned, left_by, turn_by, head_rank, next_turn, after_loop, ends_loop, next_by, next}
use Rattle.domain.proofs.PointLaws.{length-cut, cut-before, cut-after}
use Rattle.domain.proofs.LeadLaws.{length-turned, turned-before, turned-here, turned-after}

-- no counter is negative, nor more than 1 above another point's
pub record Follows (xs ys : List ℤ) : Type 0 where
  pub size : length ys ≡ length xs
  pub up : ((k : ℕ) → pos 0 ≤ℤ counter xs k) → (k : ℕ) → pos 0 ≤ℤ counter ys k
  pub most : ((k : ℕ) → pos 0 ≤ℤ counter xs k) → (k : ℕ) → counter ys k ≤ℤ (counter xs k +ℤ pos 1)

same-follows : (xs : List ℤ) → Follows xs xs
same-follows xs = record { size = refl; up = λ h k. h k; most = λ h k. let l = h k in omega (arith, ints) }

cut-follows : (n : ℕ) (xs : List ℤ) → Follows xs (cut n xs)
cut-follows n xs = record {
  size = length-cut n xs;
  up = λ h k. ⊎_elim (λ l. subst (λ (z : ℤ). pos 0 ≤ℤ z) (sym (cut-before n xs k l)) (h k)) (λ l. subst (λ (z : ℤ). pos 0 ≤ℤ z) (sym (cut-after n xs k l)) (omega (arith, ints))) (cases_lt k n);
  most = λ h k. let low = h k in ⊎_elim (λ l. let e = cut-before n xs k l in omega (arith, ints)) (λ l. let e = cut-after n xs k l in omega (arith, ints)) (cases_lt k n);
}

beyond : (xs : List ℤ) (k : ℕ) → length xs ≤ k → counter xs k ≡ pos 0
beyond [] k l = refl
beyond (x ∷ xs) zero l = absurd (omega arith)
beyond (x ∷ xs) (suc k) l = beyond xs k (omega arith)

turned-follows : (n : ℕ) (xs : List ℤ) → Follows xs (turned n xs)
turned-follows n xs = record {
  size = length-turned n xs;
  up = λ h k. let low = h k in by h k low (cases_lt k n) (cases_lt n k) (cases_lt n (length xs));
  most = λ h k. let low = h k in high h k low (cases_lt k n) (cases_lt n k) (cases_lt n (length xs));
}
  where
    by : ((k : ℕ) → pos 0 ≤ℤ counter xs k) → (k : ℕ) → pos 0 ≤ℤ counter xs k → (k < n) ⊎ (n ≤ k) → (n < k) ⊎ (k ≤ n) → (n < length xs) ⊎ (length xs ≤ n) → pos 0 ≤ℤ counter (turned n xs) k
    by h k low (inl l) m o = let e = turned-before n xs k l in omega (arith, ints)
    by h k low (inr l) (inl m) o = let e = turned-after n xs k m in omega (arith, ints)
    by h k low (inr l) (inr m) (inl o) = let f : n ≡ k = omega arith in let e = turned-here n xs o in let g = ap (counter (turned n xs)) f in let i = ap (counter xs) f in omega (arith, ints)
    by h k low (inr l) (inr m) (inr o) = let e = beyond (turned n xs) k (let s = length-turned n xs in omega arith) in omega (arith, ints)

    high : ((k : ℕ) → pos 0 ≤ℤ counter xs k) → (k : ℕ) → pos 0 ≤ℤ counter xs k → (k < n) ⊎ (n ≤ k) → (n < k) ⊎ (k ≤ n) → (n < length xs) ⊎ (length xs ≤ n) → counter (turned n xs) k ≤ℤ (counter xs k +ℤ pos 1)
    high h k low (inl l) m o = let e = turned-before n xs k l in omega (arith, ints)
    high h k low (inr l) (inl m) o = let e = turned-after n xs k m in omega (arith, ints)
    high h k low (inr l) (inr m) (inl o) = let f : n ≡ k = omega arith in let e = turned-here n xs o in let g = ap (counter (turned n xs)) f in let i = ap (counter xs) f in omega (arith, ints)
    high h k low (inr l) (inr m) (inr o) = let e = beyond (turned n xs) k (let s = length-turned n xs in omega arith) in omega (arith, ints)

left-follows : (o : Option ℕ) (k : ℕ) (xs : List ℤ) (go : Instance) → Follows xs go.at → Follows xs (left_by o (cut k xs) go).at
left-follows None k xs go h = h
left-follows (Some r) k xs go h = cut-follows k xs

turn-follows : (w m : Bool) (head k : ℕ) (xs : List ℤ) (go : Instance) → Follows xs go.at → Follows xs (turn_by w m head (turned k xs) go).at
turn-follows true m head k xs go h = turned-follows k xs
turn-follows false true head k xs go h = turned-follows k xs
turn-follows false false head k xs go h = h

next_turn-follows : (t : Table) (k : ℕ) (xs : List ℤ) → Follows xs (next_turn t k xs).at
unfolding next_turn
next_turn-follows t zero xs = turned-follows 0 xs
next_turn-follows t (suc k) xs =
    turn-follows (repeats t (suc k)) (int_lt (counter xs (suc k) +ℤ pos 1) (trip t (suc k) xs)) (head_rank t (suc k + 1)) (suc k) xs
    (left_by (rank_of t Post (suc k)) (cut (suc k) xs) (next_turn t k xs)) (left-follows (rank_of t Post (suc k)) (suc k) xs (next_turn t k xs) (next_turn-follows t k xs))

either : (b : Bool) (x y : Instance) (xs : List ℤ) → Follows xs x.at → Follows xs y.at → Follows xs (if b then x else y).at
either true x y xs h k = h
either false x y xs h k = k

by-follows : (t : Table) (part : Part) (level rank : ℕ) (xs : List ℤ) → Follows xs (next_by t part level rank xs).at
by-follows t Head level rank xs =
    either (ends_loop t level xs) (after_loop t (level - 1) xs) (instance (rank + 1) xs) xs
    (left-follows (rank_of t Post (level - 1)) (level - 1) xs (next_turn t (level - 1 - 1) xs) (next_turn-follows t (level - 1 - 1) xs)) (same-follows xs)
by-follows t Pre level rank xs = either (nat_lt level (depth t)) (instance (rank + 1) xs) (next_turn t (level - 1) xs) xs (same-follows xs) (next_turn-follows t (level - 1) xs)
by-follows t Post level rank xs = next_turn-follows t (level - 1) xs

pub next-follows : (t : Table) (x : Instance) → Follows x.at (next t x).at
unfolding next
next-follows t x = by-follows t (block_of t x).part (block_of t x).level x.block x.at
