-- Premises: a task that can be met.
use Rattle.std.proofs.Common.{◌≡◌, refl, sym, ap, ap₂, subst, ℕ, zero, suc, ◌<◌, ◌≤◌, ◌-◌, ℤ, pos, ◌≤ℤ◌, ◌<ℤ◌, ◌+ℤ◌, List, [], ◌∷◌, ◌++◌, length, get_or, Some, None, inl, inr, arith}
use Rattle.std.specs.Prelude.{◌^◌, slice_get}
use Rattle.std.specs.List.{All}
use Rattle.std.proofs.lemmas.Int.{ints}
use Rattle.std.proofs.lemmas.List.{length-append}
use Rattle.std.proofs.lemmas.List.Elements.{All-nil, All-cons}
use Rattle.plain_lemmas.proofs.MembershipLaws.{has-from-contains, contains-from-has}
use Rattle.plain_lemmas.specs.Lists.{Has}
use Rattle.nest_lang.specs.declared.tree.BlockRef.{BlockRef}
use Rattle.nest_lang.specs.declared.tree.Loop.{Loop}
use Rattle.nest_lang.specs.declared.tree.Part.TheVariants.{Pre}
use Rattle.nest_lang.specs.declared.tree.Place.TheVariants.{Counter}
use Rattle.nest_lang.specs.Accesses.{block_accesses}
use Rattle.nest_lang.specs.Blocks.{block_ref, present_blocks, loop_at}
use Rattle.nest_lang.specs.declared.tree.Expr.TheVariants.{Number, Var}
use Rattle.nest_lang.specs.declared.tree.Head.TheVariants.{For}
use Rattle.nest_lang.specs.declared.tree.Stmt.{Stmt}
use Rattle.nest_lang.specs.declared.tree.Stmt.TheVariants.{Store}
use Rattle.nest_lang.specs.Accesses.{head_accesses, store}
use Rattle.nest_lang.specs.Places.{block_places, head_places, block_size}
use Rattle.nest_lang.specs.Rules.{loops_keep, AreNumbered, IsWithin, BlockKeeps, HeadKeeps, LoopKeeps, NestKeeps}
use Rattle.nest_lang.proofs.AccessLaws.{statement_levels}
use Rattle.nest_lang.proofs.PlaceLaws.{place_levels, size_levels}
use Rattle.domain.specs.declared.table.LoopKind.TheVariants as kinds
use Rattle.domain.specs.Tables.{block_at, level_at}
use Rattle.domain.specs.Instances.{Instance, instance, counter, Predicted}
use Rattle.domain.specs.Launches.{failure}
use Rattle.domain.specs.Examples.{row}
use Rattle.domain.specs.Shapes.{IsBlockOf}
use Rattle.domain.proofs.OrderLaws.{premises_can_hold}
use Rattle.follow_chunk.specs.Laws.{one_row, one_turn, PremisesCanHold}

abbrev pub i : Instance
i = instance 0 (pos 0 ∷ [])

single : (xs : List ℤ) → length xs ≡ 1 → pos 0 ≤ℤ counter xs 0 → counter xs 0 <ℤ (pos 0 +ℤ pos 1) → xs ≡ pos 0 ∷ []
single [] size from below = absurd (omega arith)
single (x ∷ []) size from below = let e : x ≡ pos 0 = omega (arith, ints) in ap (λ (z : ℤ). z ∷ []) e
single (x ∷ y ∷ xs) size from below = absurd (omega arith)

pub here : Predicted row one_turn i
here = record {
  is = record { block = omega arith; size = refl; rest = λ k l. rests k l };
  turn = record { from = omega (arith, ints); below = omega (arith, ints); inner = λ k l m. absurd (omega arith) };
  test = λ l. absurd (omega arith);
}
  where
    rests : (k : ℕ) → 1 ≤ k → counter (pos 0 ∷ []) k ≡ pos 0
    rests zero l = absurd (omega arith)
    rests (suc k) l = refl

only : (x : Instance) → Predicted row one_turn x → x ≡ i
only x p = ap₂ instance (let l = p.is.block in omega arith) (single x.at p.is.size p.turn.from p.turn.below)

block-here : (rank : ℕ) (block : BlockRef) → slice_get (block_ref Pre 1 ∷ []) rank ≡ Some block → IsBlockOf 0 one_row block (block_at row rank)
block-here zero block e =
    let f : block_ref Pre 1 ≡ block = cc in
    subst (λ (r : BlockRef). IsBlockOf 0 one_row r (block_at row 0)) f (record { part = refl; level = refl; forms = refl; accesses = simp statement_levels refl })
block-here (suc k) block e = absurd (cc)

-- ---- the nest keeps the rules

body : List Stmt
body = Store 1 (Var (Counter 0)) (Number (pos 1)) ∷ []

body-keeps : BlockKeeps 0 1 (Store 1 (Var (Counter 0)) (Number (pos 1)) ∷ [])
body-keeps =
    let is : block_accesses (Store 1 (Var (Counter 0)) (Number (pos 1)) ∷ []) ≡ store 1 ∷ [] = simp statement_levels refl in
    let are : block_places (Store 1 (Var (Counter 0)) (Number (pos 1)) ∷ []) ≡ Counter 0 ∷ [] = simp place_levels refl in
    let fit : block_size (Store 1 (Var (Counter 0)) (Number (pos 1)) ∷ []) ≡ 1 = simp size_levels refl in
    record {
      accesses = subst AreNumbered (sym is) (refl, omega arith);
      places = subst (All (IsWithin 0 1)) (sym are) (All-cons (IsWithin 0 1) (Counter 0) [] (omega arith) (All-nil (IsWithin 0 1)));
      size = subst (λ (n : ℕ). n < 2 ^ 20) (sym fit) (omega arith);
    }

empty-keeps : BlockKeeps 0 1 []
empty-keeps =
    let is : block_accesses [] ≡ [] = simp statement_levels refl in
    let are : block_places [] ≡ [] = simp place_levels refl in
    let fit : block_size [] ≡ 0 = simp size_levels refl in
    record {
      accesses = subst AreNumbered (sym is) (refl, omega arith);
      places = subst (All (IsWithin 0 1)) (sym are) (All-nil (IsWithin 0 1));
      size = subst (λ (n : ℕ). n < 2 ^ 20) (sym fit) (omega arith);
    }

head-keeps : HeadKeeps 0 1 (For (Number (pos 0)) (Number (pos 40)) (pos 1))
head-keeps =
    let is : head_accesses (For (Number (pos 0)) (Number (pos 40)) (pos 1)) ≡ [] = simp statement_levels refl in
    let are : head_places (For (Number (pos 0)) (Number (pos 40)) (pos 1)) ≡ [] = simp place_levels refl in
    record { accesses = subst AreNumbered (sym is) (refl, omega arith); places = subst (All (IsWithin 0 (1 - 1))) (sym are) (All-nil (IsWithin 0 (1 - 1))) }

the-loop : Loop
the-loop = record { head = For (Number (pos 0)) (Number (pos 40)) (pos 1); pre = Store 1 (Var (Counter 0)) (Number (pos 1)) ∷ []; post = [] }

each-keeps : (level : ℕ) (l : Loop) → loop_at one_row level ≡ Some l → LoopKeeps 0 level l
each-keeps zero l e = absurd (cc)
each-keeps (suc zero) l e =
    let f : record { head = For (Number (pos 0)) (Number (pos 40)) (pos 1); pre = Store 1 (Var (Counter 0)) (Number (pos 1)) ∷ []; post = [] } ≡ l = cc in
    subst (λ (z : Loop). LoopKeeps 0 1 z) f (record { head = head-keeps; pre = body-keeps; post = empty-keeps })
each-keeps (suc (suc n)) l e = absurd (cc)

nest-keeps : NestKeeps 0 one_row
unfolding loops_keep
nest-keeps = record { loops_keep = refl; innermost = λ l e. cc; each = each-keeps }

-- ---- the chunk is launched

passes : (us : List Instance) (x : Instance) (vs : List Instance) → i ∷ [] ≡ us ++ x ∷ vs → failure row (pos 40) us x ≡ None
unfolding failure
passes [] x vs e = let f : i ≡ x = ap (λ (xs : List Instance). get_or xs 0 i) e in subst (λ (y : Instance). failure row (pos 40) [] y ≡ None) f refl
passes (u ∷ us) x vs e = absurd (let f = ap length e in let g = length-append us (x ∷ vs) in omega arith)

pub premises-can-hold : PremisesCanHold
unfolding present_blocks
premises-can-hold = record {
  keeps = nest-keeps;
  shape = premises_can_hold;
  table = record { levels = refl; count = refl; each = block-here };
  lowers = lowers;
  position = (0, 40, refl, refl, λ j l. omega (arith, ints));
  first = refl;
  soon = omega (arith, ints);
  some = omega (arith, ints);
  most = omega (arith, ints);
  turns = omega arith;
  launched = (
    1,
    record {
      list = i ∷ [];
      original = record { ordered = (tt, tt); has = λ x. (λ c. has-to x (has-from-contains (i ∷ []) x c), λ p. contains-from-has (i ∷ []) x (inl (only x p))) };
      count = refl;
      passes = passes;
    },
  );
}
  where
    has-to : (x : Instance) → Has (i ∷ []) x → Predicted row one_turn x
    has-to x (inl e) = subst (Predicted row one_turn) (sym e) here
    has-to x (inr h) = absurd h

    lowers : (k : ℕ) (stride : ℤ) → (level_at row k).kind ≡ kinds.For stride → (level_at row k).lower ≡ None → (level_at row k).trip ≡ None
    lowers zero stride is e = refl
    lowers (suc k) stride is e = refl
