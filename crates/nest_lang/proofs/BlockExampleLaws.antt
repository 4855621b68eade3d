-- The examples of blocks, by computing.
use Rattle.std.proofs.Common.{◌≡◌, refl, sym, subst, ℕ, zero, suc, ◌<◌, ◌-◌, ◌^◌, pos, List, [], ◌∷◌, Some, length, arith}
use Rattle.std.specs.List.{All}
use Rattle.std.proofs.lemmas.List.Elements.{All-nil, All-cons}
use Rattle.nest_lang.specs.declared.tree.Access.{Access}
use Rattle.nest_lang.specs.declared.tree.Place.{Place}
use Rattle.nest_lang.specs.declared.tree.Stmt.{Stmt}
use Rattle.nest_lang.specs.declared.tree.Head.{Head}
use Rattle.nest_lang.specs.Accesses.{load, store, block_accesses, head_accesses}
use Rattle.nest_lang.specs.Places.{block_places, head_places, block_size}
use Rattle.nest_lang.specs.declared.tree.Expr.TheVariants.{Number, Var, Load, Neg}
use Rattle.nest_lang.specs.declared.tree.Place.TheVariants.{Scalar, Counter}
use Rattle.nest_lang.specs.declared.tree.Stmt.TheVariants as statement
use Rattle.nest_lang.specs.declared.tree.Head.TheVariants.{For, While}
use Rattle.nest_lang.specs.declared.tree.Loop.{Loop}
use Rattle.nest_lang.specs.Blocks.{present_blocks, loop_at}
use Rattle.nest_lang.specs.Rules.{loops_keep, AreNumbered, IsWithin, BlockKeeps, HeadKeeps, LoopKeeps}
use Rattle.nest_lang.specs.Examples.{loop_of, guarded, AccessExamples, BlockExamples}
use Rattle.nest_lang.proofs.AccessLaws.{statement_levels}
use Rattle.nest_lang.proofs.PlaceLaws.{place_levels, size_levels}

pub accesses-computed : AccessExamples
accesses-computed = record {
  store_is_last = simp statement_levels refl;
  both_branches = simp statement_levels refl;
  both_bounds = simp statement_levels refl;
  places = simp place_levels refl;
  size = simp size_levels refl;
}

-- a block keeps the rules by what its accesses, places and size are
block-keeps : (scalars level : ℕ) (block : List Stmt) (accesses : List Access) (places : List Place) (size : ℕ) → block_accesses block ≡ accesses → AreNumbered accesses
    → block_places block ≡ places → All (IsWithin scalars level) places → block_size block ≡ size → size < 2 ^ 20 → BlockKeeps scalars level block
block-keeps scalars level block accesses places size is numbered are within fit small =
    record { accesses = subst AreNumbered (sym is) numbered; places = subst (All (IsWithin scalars level)) (sym are) within; size = subst (λ (n : ℕ). n < 2 ^ 20) (sym fit) small }

head-keeps : (scalars level : ℕ) (head : Head) (accesses : List Access) (places : List Place) → head_accesses head ≡ accesses → AreNumbered accesses → head_places head ≡ places → All (IsWithin scalars (level - 1)) places → HeadKeeps scalars level head
head-keeps scalars level head accesses places is numbered are within =
    record { accesses = subst AreNumbered (sym is) numbered; places = subst (All (IsWithin scalars (level - 1))) (sym are) within }

pub empty-keeps : (scalars level : ℕ) → BlockKeeps scalars level []
empty-keeps scalars level = block-keeps scalars level [] [] [] 0 (simp statement_levels refl) (refl, omega arith) (simp place_levels refl) (All-nil (IsWithin scalars level)) (simp size_levels refl) (omega arith)

guarded-outer : (l : Loop) → loop_of (While (Var (Scalar 0))) [] (statement.Set 0 (Number (pos 0)) ∷ []) ≡ l → LoopKeeps 1 1 l
guarded-outer l e =
    subst (λ (z : Loop). LoopKeeps 1 1 z) e
    (record {
      head = head-keeps 1 1 (While (Var (Scalar 0))) [] (Scalar 0 ∷ []) (simp statement_levels refl) (refl, omega arith) (simp place_levels refl) (All-cons (IsWithin 1 0) (Scalar 0) [] (omega arith) (All-nil (IsWithin 1 0)));
      pre = empty-keeps 1 1;
      post = block-keeps 1 1 (statement.Set 0 (Number (pos 0)) ∷ []) [] (Scalar 0 ∷ []) 1 (simp statement_levels refl) (refl, omega arith) (simp place_levels refl) (All-cons (IsWithin 1 1) (Scalar 0) [] (omega arith) (All-nil (IsWithin 1 1))) (simp size_levels refl) (omega arith);
    })

guarded-inner : (l : Loop) → loop_of (For (Load 1 (Number (pos 0))) (Neg (Load 2 (Number (pos 1)))) (pos 1)) (statement.Store 1 (Var (Counter 1)) (Number (pos 5)) ∷ []) [] ≡ l → LoopKeeps 1 2 l
guarded-inner l e =
    subst (λ (z : Loop). LoopKeeps 1 2 z) e
    (record {
      head = head-keeps 1 2 (For (Load 1 (Number (pos 0))) (Neg (Load 2 (Number (pos 1)))) (pos 1)) (load 1 ∷ load 2 ∷ []) [] (simp statement_levels refl) (refl, omega arith) (simp place_levels refl) (All-nil (IsWithin 1 1));
      pre = block-keeps 1 2 (statement.Store 1 (Var (Counter 1)) (Number (pos 5)) ∷ []) (store 1 ∷ []) (Counter 1 ∷ []) 1 (simp statement_levels refl) (refl, omega arith) (simp place_levels refl) (All-cons (IsWithin 1 2) (Counter 1) [] (omega arith) (All-nil (IsWithin 1 2))) (simp size_levels refl) (omega arith);
      post = empty-keeps 1 2;
    })

guarded-each : (level : ℕ) (l : Loop) → loop_at guarded level ≡ Some l → LoopKeeps 1 level l
guarded-each zero l e = absurd (cc)
guarded-each (suc zero) l e = guarded-outer l (cc)
guarded-each (suc (suc zero)) l e = guarded-inner l (cc)
guarded-each (suc (suc (suc n))) l e = absurd (cc)

guarded-innermost : (l : Loop) → loop_at guarded (length guarded) ≡ Some l → l.post ≡ []
guarded-innermost l e = cc

pub blocks-computed : BlockExamples
unfolding present_blocks loops_keep
blocks-computed = record {
  present = refl;
  rank = refl;
  no_rank = refl;
  while_head = refl;
  for_head = refl;
  body = refl;
  keeps = record { loops_keep = refl; innermost = guarded-innermost; each = guarded-each };
}
