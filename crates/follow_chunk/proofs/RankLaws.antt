-- Ranks: the blocks of a table are the present blocks of its nest.
use Rattle.std.proofs.Common.{◌≡◌, refl, sym, ap, ap₂, ◌∙◌, ℕ, zero, suc, ◌<◌, ◌+◌, Bool, List, [], ◌∷◌, Some, None, length, get_or, cond, nat_lt, nat_eq, arith}
use Rattle.std.specs.Prelude.{slice_get, not, ◌&&◌}
use Rattle.std.specs.List.{position, position_or_len}
use Rattle.std.proofs.lemmas.List.{length-map}
use Rattle.nest_lang.specs.declared.tree.Part.{Part}
use Rattle.nest_lang.specs.declared.tree.BlockRef.{BlockRef}
use Rattle.nest_lang.specs.declared.tree.Loop.{Loop}
use Rattle.nest_lang.specs.Blocks.{same_part, same_block, block_ref, present_blocks}
use Rattle.nest_lang.specs.Blocks as blocks
use Rattle.domain.specs.Tables.{Table, Level, depth, block_at, no_block, is_block, rank_of}
use Rattle.domain.specs.Shapes.{kind_of, IsBlockOf, IsTableOf}

get-here : {X : Type 0} (xs : List X) (k : ℕ) (d : X) → k < length xs → slice_get xs k ≡ Some (get_or xs k d)
get-here [] k d l = absurd (omega arith)
get-here (x ∷ xs) zero d l = refl
get-here (x ∷ xs) (suc k) d l = get-here xs k d (omega arith)

first-same : {X Y : Type 0} (p : X → Bool) (q : Y → Bool) (xs : List X) (ys : List Y) (d : X) (e : Y) → length xs ≡ length ys → ((k : ℕ) → k < length xs → p (get_or xs k d) ≡ q (get_or ys k e))
    → position_or_len p xs ≡ position_or_len q ys
first-same p q [] [] d e size h = refl
first-same p q [] (y ∷ ys) d e size h = absurd (omega arith)
first-same p q (x ∷ xs) [] d e size h = absurd (omega arith)
first-same p q (x ∷ xs) (y ∷ ys) d e size h =
    ap₂ (λ (b : Bool) (n : ℕ). cond (not b) (1 + n) 0) (h 0 (omega arith)) (first-same p q xs ys d e (omega arith) (λ k l. h (suc k) (omega arith)))

position-same : {X Y : Type 0} (p : X → Bool) (q : Y → Bool) (xs : List X) (ys : List Y) (d : X) (e : Y) → length xs ≡ length ys → ((k : ℕ) → k < length xs → p (get_or xs k d) ≡ q (get_or ys k e))
    → position p xs ≡ position q ys
position-same p q xs ys d e size h =
    ap₂ (λ (n m : ℕ). cond (nat_lt n m) (Some n) None) (first-same p q xs ys d e size h) size

module _ (scalars : ℕ) (loops : List Loop) (t : Table) (is : IsTableOf scalars loops t) where
  pub block-of : (rank : ℕ) → rank < length t.blocks → IsBlockOf scalars loops (get_or (present_blocks loops) rank (block_ref (block_at t rank).part 0)) (block_at t rank)
  block-of rank l = is.each rank _ (get-here (present_blocks loops) rank (block_ref (block_at t rank).part 0) (let e = is.count in omega arith))

  -- a block has the rank in the table that it has among the present ones
  pub rank-same : (block : BlockRef) → rank_of t block.part block.level ≡ blocks.rank_of loops block
  rank-same block =
      position-same (is_block block.part block.level) (λ (b : BlockRef). same_block b block) t.blocks (present_blocks loops) no_block block is.count
      (λ k l. each k l)
    where
      each : (k : ℕ) → k < length t.blocks → is_block block.part block.level (block_at t k) ≡ same_block (get_or (present_blocks loops) k block) block
      each k l =
          let b = is.each k (get_or (present_blocks loops) k block) (get-here (present_blocks loops) k block (let e = is.count in omega arith)) in
          ap₂ (λ (p : Part) (n : ℕ). same_part p block.part && nat_eq n block.level) b.part b.level

  pub depth-same : depth t ≡ length loops
  depth-same = sym (length-map t.levels (λ (l : Level). l.kind)) ∙ ap length is.levels ∙ length-map loops (λ (l : Loop). kind_of l.head)
