-- The loops and the blocks of a table, and where a block stands.
use Rattle.std.proofs.Common.{◌≡◌, sym, ap, ◌∙◌, ℕ, ◌<◌, ◌≤◌, Bool, true, false, List, Some, None, length, get_or, cond, nat_lt, arith}
use Rattle.std.specs.List.{position, position_or_len}
use Rattle.std.proofs.lemmas.List.Sums.{position_or_len_is}
use Rattle.std.proofs.lemmas.List.{get_or_default}
use Rattle.std.proofs.lemmas.Bool.Decides.{nat_tests}
use Rattle.domain.specs.Tables.{Level, Block, no_level, no_block}

pub level_at-is : (levels : List Level) (k : ℕ) (l : Level) → k < length levels → l ≡ get_or levels k l → get_or levels k no_level ≡ l
level_at-is levels k l h e = get_or_default levels k no_level l h ∙ sym e

pub block_at-is : (blocks : List Block) (k : ℕ) (b : Block) → k < length blocks → b ≡ get_or blocks k b → get_or blocks k no_block ≡ b
block_at-is blocks k b h e = get_or_default blocks k no_block b h ∙ sym e

-- where a search ends
module _ {X : Type 0} (p : X → Bool) (xs : List X) (d : X) where
  at-test : (n m : ℕ) (b : Bool) → nat_lt n m ≡ b → cond (nat_lt n m) (Some n) None ≡ cond b (Some n) None
  at-test n m b e = ap (λ (z : Bool). cond z (Some n) None) e

  pub position-found : (i : ℕ) → i < length xs → ((k : ℕ) → k < i → p (get_or xs k d) ≡ false) → p (get_or xs i d) ≡ true → position p xs ≡ Some i
  position-found i h before here =
      let e : position_or_len p xs ≡ i = position_or_len_is p xs i d (omega arith) before (λ _. here) in
      let t : nat_lt i (length xs) ≡ true = grind (arith, nat_tests) in
      ap (λ (n : ℕ). cond (nat_lt n (length xs)) (Some n) None) e ∙ at-test i (length xs) true t

  pub position-none : (n : ℕ) → length xs ≤ n → ((k : ℕ) → k < n → p (get_or xs k d) ≡ false) → position p xs ≡ None
  position-none n h before =
      let e : position_or_len p xs ≡ length xs = position_or_len_is p xs (length xs) d (omega arith) (λ k l. before k (omega arith)) (λ l. absurd (omega arith)) in
      let t : nat_lt (length xs) (length xs) ≡ false = grind (arith, nat_tests) in
      ap (λ (n : ℕ). cond (nat_lt n (length xs)) (Some n) None) e ∙ at-test (length xs) (length xs) false t
