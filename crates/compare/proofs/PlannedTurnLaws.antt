-- The planned instances of a chunk are in its turns.
use Rattle.std.proofs.Common.{◌≡◌, refl, sym, ap, ◌∙◌, ℕ, zero, suc, ◌<◌, ◌≤◌, ◌+◌, ℤ, pos, ◌<ℤ◌, unsigned_abs, List, [], ◌∷◌, ◌++◌, get_or, append_assoc, append-nil, arith}
use Rattle.std.proofs.lemmas.Int.{ints}
use Rattle.std.specs.List.{AllByRecursion}
use Rattle.nest_lang.specs.declared.tree.Stmt.{Stmt}
use Rattle.nest_lang.specs.declared.tree.Head.{Head}
use Rattle.nest_lang.specs.declared.tree.Head.TheVariants.{For, While}
use Rattle.nest_lang.specs.declared.tree.Loop.{Loop}
use Rattle.nest_lang.specs.declared.tree.Part.{Part}
use Rattle.nest_lang.specs.declared.tree.Part.TheVariants as part
use Rattle.nest_lang.specs.declared.state.Outer.{Outer}
use Rattle.nest_lang.specs.Values.{turn_value}
use Rattle.nest_lang.specs.Loops.{Around, inward, outside}
use Rattle.follow.specs.Forecasts.{Forecast}
use Rattle.follow.specs.Plans.{item, turns_in, plan_block, plan_turn, plan_turns, plan_loop, plan_loops, plan_tested, plan_outer, planned, Item, Evaluates}
use Rattle.follow.proofs.PlannedOrderLaws.{all-append, all-map}
use Rattle.follow.proofs.FindingLaws.{all-turns, all-whiles}

-- an instance is in these turns of the loops around it
abbrev Under : List ℤ → Item → Type 0
Under cs x = (rest : List ℤ) × (x.at.counters ≡ cs ++ rest)

block-under : (by : Part) (level : ℕ) (a : Around) (block : List Stmt) → AllByRecursion (Under a.counters) (plan_block by level a block)
block-under by level a [] = tt
block-under by level a (x ∷ xs) = (([], sym (append-nil a.counters)), tt)

less-under : (cs : List ℤ) (z : ℤ) (x : Item) → Under (cs ++ z ∷ []) x → Under cs x
less-under cs z x h = (z ∷ h.0, h.1 ∙ append_assoc cs (z ∷ []) h.0)

turn-under : (level : ℕ) (l : Loop) (plan : Around → List Item) (a : Around) → AllByRecursion (Under a.counters) (plan a) → AllByRecursion (Under a.counters) (plan_turn level l plan a)
turn-under level l plan a inner =
    all-append (Under a.counters) (plan_block part.Pre level a l.pre) (plan a ++ plan_block part.Post level a l.post) (block-under part.Pre level a l.pre)
    (all-append (Under a.counters) (plan a) (plan_block part.Post level a l.post) inner (block-under part.Post level a l.post))

module _ (p : Forecast) where
  loop-under : (hd : Head) (level : ℕ) (plan : Around → List Item) (a : Around) → ((b : Around) → AllByRecursion (Under b.counters) (plan b)) → AllByRecursion (Under a.counters) (plan_loop hd p level hd plan a)
  loop-under (For lower upper stride) level plan a each =
      let value : ℕ → ℤ = λ t. turn_value (p.lower (record { block = record { part = part.Head; level = level }; counters = a.counters })) stride t in (
        ([], sym (append-nil a.counters)),
        all-turns (Under a.counters) (turns_in (p.trip (record { part = part.Head; level = level }) a.counters)) 0 (λ t. plan (inward a t (value t)))
            (λ t. all-map (Under (a.counters ++ pos t ∷ [])) (Under a.counters) (plan (inward a t (value t))) (less-under a.counters (pos t)) (each (inward a t (value t)))),
      )
  loop-under (While condition) level plan a each =
      all-whiles (Under a.counters) (turns_in (p.trip (record { part = part.Head; level = level }) a.counters)) 0
      (λ t. item part.Head level (inward a t (pos t)) (Evaluates (While condition))) (λ t. plan (inward a t (pos t)))
      (λ t. (pos t ∷ [], refl))
      (λ t. all-map (Under (a.counters ++ pos t ∷ [])) (Under a.counters) (plan (inward a t (pos t))) (less-under a.counters (pos t)) (each (inward a t (pos t))))

  loops-under : (ls : List Loop) (level : ℕ) (a : Around) → AllByRecursion (Under a.counters) (plan_loops p level ls a)
  loops-under [] level a = tt
  loops-under (l ∷ ls) level a = loop-under l.head level (plan_turn level l (plan_loops p (level + 1) ls)) a (λ b. turn-under level l (plan_loops p (level + 1) ls) b (loops-under ls (level + 1) b))

  -- before a turn of the outermost loop
  abbrev pub Sooner : ℕ → Item → Type 0
  Sooner n x = get_or x.at.counters 0 (pos 0) <ℤ pos n

  module _ (l : Loop) (ls : List Loop) (n : ℕ) where
    abbrev turn : Around → List Item
    turn = plan_turn 1 l (plan_loops p 2 ls)

    turn-sooner : (i : ℕ) (v : ℤ) → i < n → AllByRecursion (Sooner n) (turn (inward outside i v))
    turn-sooner i v h =
        all-map (Under (pos i ∷ [])) (Sooner n) (turn (inward outside i v)) (λ x u. let e : get_or x.at.counters 0 (pos 0) ≡ pos i = ap (λ (cs : List ℤ). get_or cs 0 (pos 0)) u.1 in omega (arith, ints))
        (turn-under 1 l (plan_loops p 2 ls) (inward outside i v) (loops-under ls 2 (inward outside i v)))

    turns-sooner : (c i : ℕ) (value : ℕ → ℤ) → i + c ≤ n → AllByRecursion (Sooner n) (plan_turns c i (λ j. turn (inward outside j (value j))))
    turns-sooner zero i value h = tt
    turns-sooner (suc c) i value h =
        all-append (Sooner n) (turn (inward outside i (value i))) (plan_turns c (i + 1) (λ j. turn (inward outside j (value j)))) (turn-sooner i (value i) (omega (arith, h))) (turns-sooner c (i + 1) value (omega (arith, h)))

    tested-sooner : (c i : ℕ) (hd : Head) → i + c ≤ n → AllByRecursion (Sooner n) (plan_tested c i (λ j. item part.Head 1 (inward outside j (pos j)) (Evaluates hd)) (λ j. turn (inward outside j (pos j))))
    tested-sooner zero i hd h = tt
    tested-sooner (suc c) i hd h = (
      omega (arith, ints, h),
      all-append (Sooner n) (turn (inward outside i (pos i))) (plan_tested c (i + 1) (λ j. item part.Head 1 (inward outside j (pos j)) (Evaluates hd)) (λ j. turn (inward outside j (pos j)))) (turn-sooner i (pos i) (omega (arith, h)))
          (tested-sooner c (i + 1) hd (omega (arith, h))),
    )

    outer-sooner : (hd : Head) (o : Outer) (c : ℕ) → unsigned_abs o.next + c ≤ n → AllByRecursion (Sooner n) (plan_outer hd hd turn o c)
    outer-sooner (For lower upper stride) o c h = turns-sooner c (unsigned_abs o.next) (λ j. turn_value o.lower stride j) h
    outer-sooner (While condition) o c h = tested-sooner c (unsigned_abs o.next) (While condition) h

  -- the planned instances of some turns are before the turn after these
  pub planned-sooner : (loops : List Loop) (o : Outer) (c : ℕ) → AllByRecursion (Sooner (unsigned_abs o.next + c)) (planned p loops o c)
  unfolding planned
  planned-sooner [] o c = tt
  planned-sooner (l ∷ ls) o c = outer-sooner l ls (unsigned_abs o.next + c) l.head o c (omega arith)
