-- The planned instances begin with the first present block.
use Rattle.std.proofs.Common.{◌≡◌, refl, ℕ, ℤ, pos, unsigned_abs, zero, suc, ◌+◌, Bool, true, false, List, [], ◌∷◌, ◌++◌, length}
use Rattle.std.specs.Prelude.{nat_le}
use Rattle.std.proofs.lemmas.Bool.{and_parts}
use Rattle.nest_lang.specs.declared.tree.Stmt.{Stmt}
use Rattle.nest_lang.specs.declared.tree.Head.{Head}
use Rattle.nest_lang.specs.declared.tree.Head.TheVariants.{For, While}
use Rattle.nest_lang.specs.declared.tree.Loop.{Loop}
use Rattle.nest_lang.specs.declared.tree.Part.TheVariants as part
use Rattle.nest_lang.specs.declared.tree.BlockRef.{BlockRef}
use Rattle.nest_lang.specs.declared.state.Outer.{Outer}
use Rattle.nest_lang.specs.Blocks.{present_blocks, outermost, opening, closing, block_if_any}
use Rattle.nest_lang.specs.Values.{turn_value}
use Rattle.nest_lang.specs.Loops.{Around, inward, outside}
use Rattle.nest_lang.specs.Rules.{strides, has_statements, loop_keeps, loops_keep}
use Rattle.follow.specs.Forecasts.{Forecast}
use Rattle.follow.specs.Plans.{item, plan_block, plan_turn, plan_turns, plan_whiles, plan_loop, plan_loops, plan_outer, planned, Item, Evaluates}
use Rattle.follow.specs.PlannedLaws.{FirstIs, PlannedFirst}

first-whiles : (m t : ℕ) (value : ℤ) (head : Head) (plan : ℕ → List Item) (rest : List Item) (bs : List BlockRef)
    → FirstIs (plan_whiles m 0 (λ i. item part.Head 2 (inward (inward outside t value) i (pos i)) (Evaluates head)) plan ++ rest) (record { part = part.Head; level = 2 } ∷ bs) t
first-whiles zero t value head plan rest bs = (1, bs, refl, refl)
first-whiles (suc m) t value head plan rest bs = (1, bs, refl, refl)

first-loop : (h : Head) (p : Forecast) (t : ℕ) (value : ℤ) (head : Head) (plan : Around → List Item) (rest : List Item) (bs : List BlockRef)
    → FirstIs (plan_loop h p 2 head plan (inward outside t value) ++ rest) (record { part = part.Head; level = 2 } ∷ bs) t
first-loop (For lower upper stride) p t value head plan rest bs = (0, bs, refl, refl)
first-loop (While condition) p t value head plan rest bs = first-whiles _ t value head _ rest bs

append-two : (xs ys zs : List Item) (bs : List BlockRef) (t : ℕ) → FirstIs (xs ++ (ys ++ zs)) bs t → FirstIs ((xs ++ ys) ++ zs) bs t
append-two [] ys zs bs t h = h
append-two (x ∷ xs) ys zs bs t h = h

first-turn : (pre : List Stmt) (ls : List Loop) (p : Forecast) (t : ℕ) (value : ℤ) (post rest : List Item) (bs : List BlockRef) → (l : Loop) → loop_keeps l ls ≡ true → has_statements l.pre ≡ has_statements pre
    → FirstIs ((plan_block part.Pre 1 (inward outside t value) pre ++ (plan_loops p 2 ls (inward outside t value) ++ post)) ++ rest) ((block_if_any part.Pre 1 pre ++ opening 2 ls) ++ bs) t
first-turn (x ∷ xs) ls p t value post rest bs l keeps same = (0, _, refl, refl)
first-turn [] [] p t value post rest bs l keeps same = absurd (none (has_statements l.pre) (and_parts (strides l.head) (has_statements l.pre) keeps).1 same)
  where
    none : (b : Bool) → b ≡ true → b ≡ false → ⊥
    none true e f = cc
    none false e f = cc
first-turn [] (m ∷ ms) p t value post rest bs l keeps same =
    append-two (plan_loops p 2 (m ∷ ms) (inward outside t value)) post rest (opening 2 (m ∷ ms) ++ bs) t
    (first-loop m.head p t value m.head (plan_turn 2 m (plan_loops p 3 ms)) (post ++ rest) ((block_if_any part.Pre 2 m.pre ++ opening 3 ms) ++ bs))

first-outer : (h : Head) (l : Loop) (ls : List Loop) (p : Forecast) (o : Outer) (c : ℕ) → loop_keeps l ls ≡ true
    → FirstIs (plan_outer h h (plan_turn 1 l (plan_loops p 2 ls)) o c) (outermost h ++ block_if_any part.Pre 1 l.pre ++ opening 2 ls ++ closing 1 (l ∷ ls)) (unsigned_abs o.next)
first-outer (For lower upper stride) l ls p o zero keeps = tt
first-outer (While condition) l ls p o zero keeps = tt
first-outer (For lower upper stride) l ls p o (suc c) keeps =
    first-turn l.pre ls p (unsigned_abs o.next) (turn_value o.lower stride (unsigned_abs o.next))
    (plan_block part.Post 1 (inward outside (unsigned_abs o.next) (turn_value o.lower stride (unsigned_abs o.next))) l.post)
    (plan_turns c (unsigned_abs o.next + 1) (λ t. plan_turn 1 l (plan_loops p 2 ls) (inward outside t (turn_value o.lower stride t)))) (closing 1 (l ∷ ls)) l keeps refl
first-outer (While condition) l ls p o (suc c) keeps = (0, _, refl, refl)

pub planned-first : PlannedFirst
unfolding planned loops_keep present_blocks
planned-first p [] o c keeps = tt
planned-first p (l ∷ ls) o c keeps = first-outer l.head l ls p o c (and_parts (nat_le (length ls) 5) (loop_keeps l ls) keeps).1
