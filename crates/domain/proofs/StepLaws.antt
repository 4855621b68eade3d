-- Steps, by the loop that turns.
use Rattle.std.proofs.Common.{◌≡◌, refl, sym, ap, ap₂, ◌∙◌, ℕ, zero, suc, ◌≤◌, ◌+◌, ◌-◌, ℤ, pos, ◌+ℤ◌, Bool, true, false, List, arith}
use Rattle.std.specs.Prelude.{int_lt, nat_lt, if◌then◌else◌}
use Rattle.nest_lang.specs.declared.tree.Part.{Part}
use Rattle.nest_lang.specs.declared.tree.Part.TheVariants.{Head, Pre, Post}
use Rattle.domain.specs.Tables.{Table, Block, depth, block_at, rank_of, repeats, cut, trip}
use Rattle.domain.specs.Instances.{Instance, instance, counter}
use Rattle.domain.specs.Steps.{turned, turn_by, left_by, head_rank, next_turn, after_loop, ends_loop, next, next_by}

pub next_turn-outermost : (t : Table) (k : ℕ) (at : List ℤ) → k ≡ 0 → next_turn t k at ≡ instance 0 (turned k at)
unfolding next_turn
next_turn-outermost t zero at e = refl
next_turn-outermost t (suc k) at e = absurd (omega arith)

pub next_turn-inner :
    (t : Table) (k : ℕ) (at : List ℤ) → 1 ≤ k → next_turn t k at ≡ turn_by (repeats t k) (int_lt (counter at k +ℤ pos 1) (trip t k at)) (head_rank t (k + 1)) (turned k at) (after_loop t k at)
unfolding next_turn
next_turn-inner t zero at h = absurd (omega arith)
next_turn-inner t (suc k) at h =
    let e : k ≡ suc k - 1 = omega arith in
    ap (λ (n : ℕ). turn_by (repeats t (suc k)) (int_lt (counter at (suc k) +ℤ pos 1) (trip t (suc k) at)) (head_rank t (suc k + 1)) (turned (suc k) at) (left_by (rank_of t Post (suc k)) (cut (suc k) at) (next_turn t n at))) e

-- ---- the next turn, by the tests

module _ (t : Table) (k : ℕ) (at : List ℤ) (some : 1 ≤ k) where
  turn-by : (w more : Bool) → repeats t k ≡ w → int_lt (counter at k +ℤ pos 1) (trip t k at) ≡ more → next_turn t k at ≡ turn_by w more (head_rank t (k + 1)) (turned k at) (after_loop t k at)
  turn-by w more e f =
      next_turn-inner t k at some
      ∙ ap (λ (z : Bool). turn_by z (int_lt (counter at k +ℤ pos 1) (trip t k at)) (head_rank t (k + 1)) (turned k at) (after_loop t k at)) e
      ∙ ap (λ (z : Bool). turn_by w z (head_rank t (k + 1)) (turned k at) (after_loop t k at)) f

  pub turn-repeats : (head : ℕ) (point : List ℤ) → repeats t k ≡ true → head ≡ head_rank t (k + 1) → point ≡ turned k at → instance head point ≡ next_turn t k at
  turn-repeats head point e f g = ap₂ instance f g ∙ sym (turn-by true (int_lt (counter at k +ℤ pos 1) (trip t k at)) e refl)

  pub turn-more : (head : ℕ) (point : List ℤ) → repeats t k ≡ false → int_lt (counter at k +ℤ pos 1) (trip t k at) ≡ true → head ≡ head_rank t (k + 1) → point ≡ turned k at → instance (head + 1) point ≡ next_turn t k at
  turn-more head point e l f g = ap₂ (λ (h : ℕ) (p : List ℤ). instance (h + 1) p) f g ∙ sym (turn-by false true e l)

  pub turn-last : repeats t k ≡ false → int_lt (counter at k +ℤ pos 1) (trip t k at) ≡ false → after_loop t k at ≡ next_turn t k at
  turn-last e l = sym (turn-by false false e l)

-- ---- the next instance, by the block

pub next-of : (t : Table) (x y : Instance) (b d : Block) → y ≡ x → b ≡ block_at t y.block → d ≡ b → next t x ≡ next_by t d.part d.level y.block y.at
unfolding next
next-of t x y b d e f g = ap (λ (z : Instance). next_by t (block_at t z.block).part (block_at t z.block).level z.block z.at) (sym e) ∙ ap (λ (z : Block). next_by t z.part z.level y.block y.at) (sym (g ∙ f))

pick : {X : Type 0} (b c : Bool) (x y : X) → b ≡ c → (if b then x else y) ≡ (if c then x else y)
pick {X} b c x y e = ap (λ (z : Bool). if z then x else y) e

module _ (t : Table) (level rank : ℕ) (at : List ℤ) where
  pub next-head : (ends : Bool) (part : Part) → part ≡ Head → ends_loop t level at ≡ ends → next_by t part level rank at ≡ (if ends then after_loop t (level - 1) at else instance (rank + 1) at)
  next-head ends part e f = ap (λ (p : Part). next_by t p level rank at) e ∙ pick (ends_loop t level at) ends (after_loop t (level - 1) at) (instance (rank + 1) at) f

  pub next-pre : (more : Bool) (part : Part) → part ≡ Pre → nat_lt level (depth t) ≡ more → next_by t part level rank at ≡ (if more then instance (rank + 1) at else next_turn t (level - 1) at)
  next-pre more part e f = ap (λ (p : Part). next_by t p level rank at) e ∙ pick (nat_lt level (depth t)) more (instance (rank + 1) at) (next_turn t (level - 1) at) f

  pub next-post : (part : Part) → part ≡ Post → next_by t part level rank at ≡ next_turn t (level - 1) at
  next-post part e = ap (λ (p : Part). next_by t p level rank at) e
