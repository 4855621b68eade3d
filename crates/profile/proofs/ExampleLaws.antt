-- A small nest keeps the rules, as its fit asks.
use Rattle.std.proofs.Common.{◌≡◌, refl, sym, subst, ℕ, zero, suc, ◌<◌, ◌^◌, pos, List, [], ◌∷◌, length, Some, arith}
use Rattle.std.specs.List.{All}
use Rattle.std.proofs.lemmas.List.Elements.{All-cons, All-nil}
use Rattle.nest_lang.specs.declared.tree.Loop.{Loop}
use Rattle.nest_lang.specs.declared.tree.Place.TheVariants.{Counter}
use Rattle.nest_lang.specs.declared.tree.Expr.TheVariants.{Number}
use Rattle.nest_lang.specs.declared.tree.Head.TheVariants.{For}
use Rattle.nest_lang.specs.declared.tree.Access.{Access}
use Rattle.nest_lang.specs.declared.tree.Place.{Place}
use Rattle.nest_lang.specs.declared.tree.Stmt.{Stmt}
use Rattle.nest_lang.specs.Accesses.{block_accesses, head_accesses, store}
use Rattle.nest_lang.specs.Places.{block_places, block_size, head_places}
use Rattle.nest_lang.specs.Blocks.{loop_at}
use Rattle.nest_lang.specs.Rules.{AreNumbered, BlockKeeps, IsWithin, LoopKeeps, NestKeeps, loops_keep}
use Rattle.nest_lang.proofs.AccessLaws.{statement_levels}
use Rattle.nest_lang.proofs.PlaceLaws.{place_levels, size_levels}
use Rattle.profile.specs.Examples.{filling, store_five}

block-keeps : (block : List Stmt) (accesses : List Access) (places : List Place) (size : ℕ) → block_accesses block ≡ accesses → AreNumbered accesses → block_places block ≡ places → All (IsWithin 1 1) places → block_size block ≡ size → size < 2 ^ 20 → BlockKeeps 1 1 block
block-keeps block accesses places size is numbered are within fit small =
    record { accesses = subst AreNumbered (sym is) numbered; places = subst (All (IsWithin 1 1)) (sym are) within; size = subst (λ (n : ℕ). n < 2 ^ 20) (sym fit) small }

head-accesses : head_accesses (For (Number (pos 0)) (Number (pos 8)) (pos 1)) ≡ []
head-accesses = simp statement_levels refl

head-places : head_places (For (Number (pos 0)) (Number (pos 8)) (pos 1)) ≡ []
head-places = simp place_levels refl

loop-keeps : (l : Loop) → record { head = For (Number (pos 0)) (Number (pos 8)) (pos 1); pre = store_five; post = [] } ≡ l → LoopKeeps 1 1 l
loop-keeps l e =
    subst (λ (z : Loop). LoopKeeps 1 1 z) e
    (record {
      head = record { accesses = subst AreNumbered (sym head-accesses) (refl, omega arith); places = subst (All (IsWithin 1 0)) (sym head-places) (All-nil (IsWithin 1 0)) };
      pre = block-keeps store_five (store 1 ∷ []) (Counter 0 ∷ []) 1 (simp statement_levels refl) (refl, omega arith) (simp place_levels refl) (All-cons (IsWithin 1 1) (Counter 0) [] (omega arith) (All-nil (IsWithin 1 1))) (simp size_levels refl) (omega arith);
      post = block-keeps [] [] [] 0 (simp statement_levels refl) (refl, omega arith) (simp place_levels refl) (All-nil (IsWithin 1 1)) (simp size_levels refl) (omega arith);
    })

each-keeps : (level : ℕ) (l : Loop) → loop_at filling level ≡ Some l → LoopKeeps 1 level l
each-keeps zero l e = absurd (cc)
each-keeps (suc zero) l e = loop-keeps l (cc)
each-keeps (suc (suc n)) l e = absurd (cc)

innermost-keeps : (l : Loop) → loop_at filling (length filling) ≡ Some l → l.post ≡ []
innermost-keeps l e = cc

pub filling-keeps : (loops : List Loop) → loops ≡ filling → NestKeeps 1 loops
unfolding loops_keep
filling-keeps loops is = subst (NestKeeps 1) (sym is) (record { loops_keep = refl; innermost = innermost-keeps; each = each-keeps })
