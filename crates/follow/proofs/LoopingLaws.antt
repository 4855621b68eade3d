-- Loops lead where their planned instances lead one after another.
use Rattle.std.proofs.Common.{◌≡◌, refl, ap, ◌∙◌, sym, subst, ℕ, ℤ, pos, negsuc, unsigned_abs, zero, suc, ◌+◌, ◌≤◌, nat_lt, Bool, true, false, List, [], ◌∷◌, ◌++◌, length, length-append, arith}
use Rattle.std.proofs.lemmas.Bool.Decides.{nat_tests}
use Rattle.std.specs.Prelude.{◌||◌, int_lt, nat_le}
use Rattle.nest_lang.specs.declared.tree.Expr.{Expr}
use Rattle.nest_lang.specs.declared.tree.Head.{Head}
use Rattle.nest_lang.specs.declared.tree.Head.TheVariants.{For, While}
use Rattle.nest_lang.specs.declared.tree.Loop.{Loop}
use Rattle.nest_lang.specs.declared.tree.Part.TheVariants as part
use Rattle.nest_lang.specs.declared.state.Outer.{Outer}
use Rattle.nest_lang.specs.Values.{turn_value}
use Rattle.nest_lang.specs.Stores.{Store}
use Rattle.nest_lang.specs.Lookups.{plain}
use Rattle.nest_lang.specs.Traces.{Trace, in_turn, traced}
use Rattle.nest_lang.specs.Expressions.{Frame}
use Rattle.nest_lang.specs.Statements.{announced, instance_trace}
use Rattle.nest_lang.specs.Heads.{Yield, Tested, head_of, headed}
use Rattle.nest_lang.specs.Loops.{Around, inward, outside, frame_of, turn_trace, turns_from, turns_of, turn_if, whiles_from, loop_by, loops_trace}
use Rattle.nest_lang.specs.Turns.{counted_turns, turn_or_over, tested_turns, number_left, turns_by, turns_trace}
use Rattle.follow.specs.Forecasts.{around_last, expects_turn, Forecast}
use Rattle.follow.specs.Plans.{occurrence, item, turns_in, plan_block, plan_turn, plan_turns, plan_whiles, plan_loop, plan_loops, plan_tested, plan_outer, planned, Item, Evaluates}
use Rattle.follow.specs.ChunkRuns.{HasTurns, HasTurnsIn}
use Rattle.follow.proofs.TraceLeadLaws.{Leads, leads-ends, leads-then, leads-only, leads-block, from-head, reach-head}
use Rattle.follow.proofs.HeadYieldLaws.{for-yields, while-yields, around-inward, last-inward}

first-few : (k : ℕ) (xs ys : List Item) → length (xs ++ ys) ≤ k → length xs ≤ k
first-few k xs ys h = let e = length-append xs ys in omega (arith, e, h)

rest-few : (k : ℕ) (xs ys : List Item) → length (xs ++ ys) ≤ k → length ys ≤ k
rest-few k xs ys h = let e = length-append xs ys in omega (arith, e, h)

below-turns : (t : ℕ) (z : ℤ) → int_lt (pos t) z ≡ nat_lt t (turns_in z)
below-turns t (pos n) = refl
below-turns t (negsuc n) = grind (arith, nat_tests)

inner-test : (level : ℕ) (b : Bool) → 2 ≤ level → nat_le level 1 || b ≡ b
inner-test level b h =
    let e : nat_le level 1 ≡ false = grind (arith, nat_tests) in
    rw e refl

module _ (p : Forecast) (k : ℕ) where
  turn-leads : (level : ℕ) (l : Loop) (inner : Around → Store → Trace) (plan : Around → List Item) (a : Around)
      → Leads p (inner a) (plan a) → Leads p (turn_trace plain level l inner a) (plan_turn level l plan a)
  unfolding turn_trace
  turn-leads level l inner plan a leads s =
      leads-then p (instance_trace (frame_of plain part.Pre level a) l.pre) (in_turn (inner a ∷ instance_trace (frame_of plain part.Post level a) l.post ∷ []))
      (plan_block part.Pre level a l.pre) (plan a ++ plan_block part.Post level a l.post)
      (leads-block p part.Pre level a l.pre)
      (leads-then p (inner a) (in_turn (instance_trace (frame_of plain part.Post level a) l.post ∷ [])) (plan a) (plan_block part.Post level a l.post) leads
      (leads-only p (instance_trace (frame_of plain part.Post level a) l.post) (plan_block part.Post level a l.post) (leads-block p part.Post level a l.post))) s

  -- each turn leads where its instances lead
  abbrev TurnsLead : (ℕ → Store → Trace) → (ℕ → List Item) → Type 0
  TurnsLead turn plan = (i : ℕ) → length (plan i) ≤ k → Leads p (turn i) (plan i)

  turns-lead : (n t : ℕ) (turn : ℕ → Store → Trace) (plan : ℕ → List Item) → TurnsLead turn plan → length (plan_turns n t plan) ≤ k → Leads p (turns_from n t turn) (plan_turns n t plan)
  turns-lead zero t turn plan each few = leads-ends p
  turns-lead (suc n) t turn plan each few =
      leads-then p (turn t) (turns_from n (t + 1) turn) (plan t) (plan_turns n (t + 1) plan) (each t (first-few k (plan t) (plan_turns n (t + 1) plan) few))
      (turns-lead n (t + 1) turn plan each (rest-few k (plan t) (plan_turns n (t + 1) plan) few))

  for-leads : (level : ℕ) (a : Around) (lower upper : Expr) (stride : ℤ) (turn : ℤ → ℕ → Store → Trace) (rest : List Item)
      → ((n : ℕ) → p.trip (occurrence part.Head level a).block a.counters ≡ pos n → Leads p (turns_from n 0 (turn (p.lower (occurrence part.Head level a)))) rest)
      → Leads p (λ s. traced (headed (frame_of plain part.Head level a) (For lower upper stride) (turns_of turn) s) s) (item part.Head level a (Evaluates (For lower upper stride)) ∷ rest)
  for-leads level a lower upper stride turn rest each s =
      let f : Frame = frame_of plain part.Head level a in
      reach-head p (announced f s) (head_of f (For lower upper stride) s).seen (head_of f (For lower upper stride) s).value (turns_of turn) rest s
      (λ y e h. let w = for-yields p f lower upper stride s y e h in
      subst (λ (z : Yield). Leads p (in_turn (turns_of turn z)) rest) (sym w.1) (leads-only p (turns_from w.0 0 (turn (p.lower f.at))) rest (each w.0 w.2)))
      ∙ from-head p f.at a.values (For lower upper stride) rest s

  while-leads : (level : ℕ) (a : Around) (condition : Expr) (go : Yield → List (Store → Trace)) (rest : List Item) → Leads p (in_turn (go (Tested (expects_turn p (occurrence part.Head level a))))) rest
      → Leads p (λ s. traced (headed (frame_of plain part.Head level a) (While condition) go s) s) (item part.Head level a (Evaluates (While condition)) ∷ rest)
  while-leads level a condition go rest leads s =
      let f : Frame = frame_of plain part.Head level a in
      reach-head p (announced f s) (head_of f (While condition) s).seen (head_of f (While condition) s).value go rest s
      (λ y e h. subst (λ (z : Yield). Leads p (in_turn (go z)) rest) (sym (while-yields p f condition s y e h)) leads)
      ∙ from-head p f.at a.values (While condition) rest s

  two-lead : (turn more : Store → Trace) (plan rest : List Item) → Leads p turn plan → Leads p more rest → Leads p (in_turn (turn ∷ more ∷ [])) (plan ++ rest)
  two-lead turn more plan rest first second = leads-then p turn (in_turn (more ∷ [])) plan rest first (leads-only p more rest second)

  whiles-lead : (m n t : ℕ) (level : ℕ) (around : ℕ → Around) (condition : Expr) (turn : ℕ → Store → Trace) (plan : ℕ → List Item) (trip : ℕ)
      → ((i : ℕ) → expects_turn p (occurrence part.Head level (around i)) ≡ nat_lt i trip) → t + m ≡ trip → n ≤ k → TurnsLead turn plan
      → length (plan_whiles m t (λ i. item part.Head level (around i) (Evaluates (While condition))) plan) ≤ n
      → Leads p (whiles_from n t (λ i. frame_of plain part.Head level (around i)) (While condition) turn) (plan_whiles m t (λ i. item part.Head level (around i) (Evaluates (While condition))) plan)
  whiles-lead zero zero t level around condition turn plan trip test sum bound each few = absurd (omega (arith, few))
  whiles-lead (suc m) zero t level around condition turn plan trip test sum bound each few = absurd (omega (arith, few))
  whiles-lead zero (suc n) t level around condition turn plan trip test sum bound each few =
      let past : nat_lt t trip ≡ false = grind (arith, nat_tests) in
      while-leads level (around t) condition (turn_if (turn t) (whiles_from n (t + 1) (λ i. frame_of plain part.Head level (around i)) (While condition) turn)) []
      (subst (λ (b : Bool). Leads p (in_turn (turn_if (turn t) (whiles_from n (t + 1) (λ i. frame_of plain part.Head level (around i)) (While condition) turn) (Tested b))) []) (sym (test t ∙ past)) (leads-ends p))
  whiles-lead (suc m) (suc n) t level around condition turn plan trip test sum bound each few =
      let below : nat_lt t trip ≡ true = grind (arith, nat_tests) in
      let more : List Item = plan_whiles m (t + 1) (λ i. item part.Head level (around i) (Evaluates (While condition))) plan in
      let both : length (plan t ++ more) ≤ n = omega (arith, few) in
      let here : length (plan t) ≤ n = first-few n (plan t) more both in
      while-leads level (around t) condition (turn_if (turn t) (whiles_from n (t + 1) (λ i. frame_of plain part.Head level (around i)) (While condition) turn)) (plan t ++ more)
      (subst (λ (b : Bool). Leads p (in_turn (turn_if (turn t) (whiles_from n (t + 1) (λ i. frame_of plain part.Head level (around i)) (While condition) turn) (Tested b))) (plan t ++ more)) (sym (test t ∙ below))
      (two-lead (turn t) (whiles_from n (t + 1) (λ i. frame_of plain part.Head level (around i)) (While condition) turn) (plan t) more (each t (omega (arith, here, bound)))
      (whiles-lead m n (t + 1) level around condition turn plan trip test (omega (arith, sum)) (omega (arith, bound)) each (rest-few n (plan t) more both))))

  inner-expects : (level t : ℕ) (a : Around) → 2 ≤ level
      → expects_turn p (occurrence part.Head level (inward a t (pos t))) ≡ nat_lt t (turns_in (p.trip (record { part = part.Head; level = level }) a.counters))
  inner-expects level t a h =
      inner-test level _ h
      ∙ ap (λ (z : ℤ). int_lt z (p.trip (record { part = part.Head; level = level }) (around_last (a.counters ++ pos t ∷ [])))) (last-inward a.counters (pos t))
      ∙ ap (λ (cs : List ℤ). int_lt (pos t) (p.trip (record { part = part.Head; level = level }) cs)) (around-inward a.counters (pos t))
      ∙ below-turns t (p.trip (record { part = part.Head; level = level }) a.counters)

  loop-leads : (h : Head) (level : ℕ) (turn : Around → Store → Trace) (plan : Around → List Item) (a : Around) → 2 ≤ level
      → ((b : Around) → length (plan b) ≤ k → Leads p (turn b) (plan b)) → length (plan_loop h p level h plan a) ≤ k
      → Leads p (loop_by h plain k level h turn a) (plan_loop h p level h plan a)
  loop-leads (For lower upper stride) level turn plan a inside each few =
      let f : Frame = frame_of plain part.Head level a in
      for-leads level a lower upper stride (λ from t. turn (inward a t (turn_value from stride t))) (plan_turns (turns_in (p.trip f.at.block f.at.counters)) 0 (λ t. plan (inward a t (turn_value (p.lower f.at) stride t))))
      (λ n e. subst (λ (m : ℕ). Leads p (turns_from m 0 (λ t. turn (inward a t (turn_value (p.lower f.at) stride t)))) (plan_turns (turns_in (p.trip f.at.block f.at.counters)) 0 (λ t. plan (inward a t (turn_value (p.lower f.at) stride t))))) (ap turns_in e)
      (turns-lead (turns_in (p.trip f.at.block f.at.counters)) 0 (λ t. turn (inward a t (turn_value (p.lower f.at) stride t))) (λ t. plan (inward a t (turn_value (p.lower f.at) stride t)))
      (λ t. each (inward a t (turn_value (p.lower f.at) stride t))) (omega (arith, few))))
  loop-leads (While condition) level turn plan a inside each few =
      whiles-lead (turns_in (p.trip (record { part = part.Head; level = level }) a.counters)) k 0 level (λ t. inward a t (pos t)) condition (λ t. turn (inward a t (pos t))) (λ t. plan (inward a t (pos t)))
      (turns_in (p.trip (record { part = part.Head; level = level }) a.counters)) (λ t. inner-expects level t a inside) (omega arith) (omega arith) (λ t. each (inward a t (pos t))) few

  pub loops-lead : (ls : List Loop) (level : ℕ) (a : Around) → 2 ≤ level → length (plan_loops p level ls a) ≤ k → Leads p (loops_trace plain k level ls a) (plan_loops p level ls a)
  loops-lead [] level a inside few = leads-ends p
  loops-lead (l ∷ ls) level a inside few =
      loop-leads l.head level (turn_trace plain level l (loops_trace plain k (level + 1) ls)) (plan_turn level l (plan_loops p (level + 1) ls)) a inside
      (λ b h. turn-leads level l (loops_trace plain k (level + 1) ls) (plan_loops p (level + 1) ls) b
      (loops-lead ls (level + 1) b (omega (arith, inside)) (first-few k (plan_loops p (level + 1) ls b) (plan_block part.Post level b l.post)
      (rest-few k (plan_block part.Pre level b l.pre) (plan_loops p (level + 1) ls b ++ plan_block part.Post level b l.post) h)))) few

  -- the turns of an outermost loop
  counted-lead : (c n t : ℕ) (turn : ℕ → Store → Trace) (plan : ℕ → List Item) → c ≤ n → TurnsLead turn plan → length (plan_turns c t plan) ≤ k → Leads p (counted_turns c n t turn) (plan_turns c t plan)
  counted-lead zero n t turn plan room each few = leads-ends p
  counted-lead (suc c) zero t turn plan room each few = absurd (omega (arith, room))
  counted-lead (suc c) (suc n) t turn plan room each few =
      leads-then p (turn t) (counted_turns c n (t + 1) turn) (plan t) (plan_turns c (t + 1) plan) (each t (first-few k (plan t) (plan_turns c (t + 1) plan) few))
      (counted-lead c n (t + 1) turn plan (omega (arith, room)) each (rest-few k (plan t) (plan_turns c (t + 1) plan) few))

  tested-lead : (c t : ℕ) (around : ℕ → Around) (condition : Expr) (turn : ℕ → Store → Trace) (plan : ℕ → List Item) → ((i : ℕ) → expects_turn p (occurrence part.Head 1 (around i)) ≡ true) → TurnsLead turn plan
      → length (plan_tested c t (λ i. item part.Head 1 (around i) (Evaluates (While condition))) plan) ≤ k
      → Leads p (tested_turns c t (λ i. frame_of plain part.Head 1 (around i)) (While condition) turn) (plan_tested c t (λ i. item part.Head 1 (around i) (Evaluates (While condition))) plan)
  tested-lead zero t around condition turn plan test each few = leads-ends p
  tested-lead (suc c) t around condition turn plan test each few =
      let more : List Item = plan_tested c (t + 1) (λ i. item part.Head 1 (around i) (Evaluates (While condition))) plan in
      let both : length (plan t ++ more) ≤ k = omega (arith, few) in
      while-leads 1 (around t) condition (turn_or_over (turn t) (tested_turns c (t + 1) (λ i. frame_of plain part.Head 1 (around i)) (While condition) turn)) (plan t ++ more)
      (subst (λ (b : Bool). Leads p (in_turn (turn_or_over (turn t) (tested_turns c (t + 1) (λ i. frame_of plain part.Head 1 (around i)) (While condition) turn) (Tested b))) (plan t ++ more)) (sym (test t))
      (two-lead (turn t) (tested_turns c (t + 1) (λ i. frame_of plain part.Head 1 (around i)) (While condition) turn) (plan t) more (each t (first-few k (plan t) more both))
      (tested-lead c (t + 1) around condition turn plan test each (rest-few k (plan t) more both))))

  outer-leads : (h : Head) (turn : Around → Store → Trace) (plan : Around → List Item) (o : Outer) (c : ℕ) → HasTurns h o c
      → ((b : Around) → length (plan b) ≤ k → Leads p (turn b) (plan b)) → length (plan_outer h h plan o c) ≤ k → Leads p (turns_by h plain h turn o c) (plan_outer h h plan o c)
  outer-leads (For lower upper stride) turn plan o c room each few =
      counted-lead c (number_left o.left) (unsigned_abs o.next) (λ t. turn (inward outside t (turn_value o.lower stride t))) (λ t. plan (inward outside t (turn_value o.lower stride t))) room
      (λ t. each (inward outside t (turn_value o.lower stride t))) few
  outer-leads (While condition) turn plan o c room each few =
      tested-lead c (unsigned_abs o.next) (λ t. inward outside t (pos t)) condition (λ t. turn (inward outside t (pos t))) (λ t. plan (inward outside t (pos t)))
      (λ t. refl) (λ t. each (inward outside t (pos t))) few

  pub turns-lead-planned : (loops : List Loop) (o : Outer) (c : ℕ) → HasTurnsIn loops o c → length (planned p loops o c) ≤ k → Leads p (turns_trace plain k loops o c) (planned p loops o c)
  unfolding planned turns_trace
  turns-lead-planned [] o c room few = leads-ends p
  turns-lead-planned (l ∷ ls) o c room few =
      outer-leads l.head (turn_trace plain 1 l (loops_trace plain k 2 ls)) (plan_turn 1 l (plan_loops p 2 ls)) o c room
      (λ b h. turn-leads 1 l (loops_trace plain k 2 ls) (plan_loops p 2 ls) b
      (loops-lead ls 2 b (omega arith) (first-few k (plan_loops p 2 ls b) (plan_block part.Post 1 b l.post)
      (rest-few k (plan_block part.Pre 1 b l.pre) (plan_loops p 2 ls b ++ plan_block part.Post 1 b l.post) h)))) few
