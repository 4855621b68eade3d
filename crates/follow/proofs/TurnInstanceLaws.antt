-- Turns have an instance.
use Rattle.std.proofs.Common.{◌≡◌, refl, ℕ, unsigned_abs, zero, suc, ◌+◌, ◌<◌, true, List, [], ◌∷◌, ◌++◌, length, length-append, arith}
use Rattle.std.specs.Prelude.{nat_le}
use Rattle.std.proofs.lemmas.Bool.{and_parts}
use Rattle.nest_lang.specs.declared.tree.Stmt.{Stmt}
use Rattle.nest_lang.specs.declared.tree.Head.{Head}
use Rattle.nest_lang.specs.declared.tree.Head.TheVariants.{For, While}
use Rattle.nest_lang.specs.declared.tree.Loop.{Loop}
use Rattle.nest_lang.specs.declared.tree.Part.{Part}
use Rattle.nest_lang.specs.declared.tree.Part.TheVariants as part
use Rattle.nest_lang.specs.declared.state.Outer.{Outer}
use Rattle.nest_lang.specs.Values.{turn_value}
use Rattle.nest_lang.specs.Loops.{Around, inward, outside}
use Rattle.nest_lang.specs.Rules.{strides, has_statements, loop_keeps, loops_keep}
use Rattle.follow.specs.Forecasts.{Forecast}
use Rattle.follow.specs.Plans.{plan_block, plan_turn, plan_turns, plan_whiles, plan_loop, plan_loops, plan_outer, planned, Item}
use Rattle.follow.specs.PlannedLaws.{PlannedSome}

some-block : (by : Part) (level : ℕ) (a : Around) (block : List Stmt) → has_statements block ≡ true → 0 < length (plan_block by level a block)
some-block by level a [] h = absurd (cc)
some-block by level a (x ∷ xs) h = omega arith

some-whiles : (m t : ℕ) (test : ℕ → Item) (plan : ℕ → List Item) → 0 < length (plan_whiles m t test plan)
some-whiles zero t test plan = omega arith
some-whiles (suc m) t test plan = omega arith

some-loop : (h : Head) (p : Forecast) (level : ℕ) (head : Head) (plan : Around → List Item) (a : Around) → 0 < length (plan_loop h p level head plan a)
some-loop (For lower upper stride) p level head plan a = omega arith
some-loop (While condition) p level head plan a = some-whiles _ 0 _ _

some-turn : (p : Forecast) (l : Loop) (ls : List Loop) (a : Around) → loop_keeps l ls ≡ true → 0 < length (plan_turn 1 l (plan_loops p 2 ls) a)
some-turn p l [] a keeps =
    let one = some-block part.Pre 1 a l.pre (and_parts (strides l.head) (has_statements l.pre) keeps).1 in
    let e = length-append (plan_block part.Pre 1 a l.pre) ([] ++ plan_block part.Post 1 a l.post) in
    omega (arith, one, e)
some-turn p l (m ∷ ls) a keeps =
    let inner = some-loop m.head p 2 m.head (plan_turn 2 m (plan_loops p 3 ls)) a in
    let e = length-append (plan_block part.Pre 1 a l.pre) (plan_loops p 2 (m ∷ ls) a ++ plan_block part.Post 1 a l.post) in
    let f = length-append (plan_loops p 2 (m ∷ ls) a) (plan_block part.Post 1 a l.post) in
    omega (arith, inner, e, f)

some-outer : (h : Head) (plan : Around → List Item) (o : Outer) (c : ℕ) → 0 < c → ((a : Around) → 0 < length (plan a)) → 0 < length (plan_outer h h plan o c)
some-outer h plan o zero some each = absurd (omega (arith, some))
some-outer (For lower upper stride) plan o (suc c) some each =
    let t : ℕ = unsigned_abs o.next in
    let turn : ℕ → List Item = λ t. plan (inward outside t (turn_value o.lower stride t)) in
    let one = each (inward outside t (turn_value o.lower stride t)) in
    let e = length-append (turn t) (plan_turns c (t + 1) turn) in
    omega (arith, one, e)
some-outer (While condition) plan o (suc c) some each = omega arith

first-of : (xs : List Item) → 0 < length xs → (y : Item) × (ys : List Item) × (xs ≡ y ∷ ys)
first-of [] h = absurd (omega (arith, h))
first-of (x ∷ xs) h = (x, xs, refl)

length-some : (p : Forecast) (l : Loop) (ls : List Loop) (o : Outer) (c : ℕ) → loop_keeps l ls ≡ true → 0 < c → 0 < length (planned p (l ∷ ls) o c)
unfolding planned
length-some p l ls o c keeps some = some-outer l.head (plan_turn 1 l (plan_loops p 2 ls)) o c some (λ a. some-turn p l ls a keeps)

pub planned-some : PlannedSome
unfolding loops_keep
planned-some p [] o c keeps some = absurd (cc)
planned-some p (l ∷ ls) o c keeps some = first-of (planned p (l ∷ ls) o c) (length-some p l ls o c (and_parts (nat_le (length ls) 5) (loop_keeps l ls) keeps).1 some)
