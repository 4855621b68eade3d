-- Each planned instance is found from its block and its turn numbers.
use Rattle.std.proofs.Common.{◌≡◌, refl, ap, ◌∙◌, sym, subst, ℕ, ℤ, pos, unsigned_abs, zero, suc, ◌+◌, ◌≤◌, Bool, true, false, List, [], ◌∷◌, ◌++◌, append_assoc, append-nil, Option, Some, None, arith}
use Rattle.std.specs.Prelude.{if◌then◌else◌, nat_le}
use Rattle.std.proofs.lemmas.Bool.Decides.{nat_tests}
use Rattle.std.specs.List.{AllByRecursion}
use Rattle.nest_lang.specs.declared.tree.Stmt.{Stmt}
use Rattle.nest_lang.specs.declared.tree.Head.{Head}
use Rattle.nest_lang.specs.declared.tree.Head.TheVariants.{For, While}
use Rattle.nest_lang.specs.declared.tree.Loop.{Loop}
use Rattle.nest_lang.specs.declared.tree.Part.{Part}
use Rattle.nest_lang.specs.Traces.{Occurrence}
use Rattle.nest_lang.specs.declared.tree.Part.TheVariants as part
use Rattle.nest_lang.specs.declared.state.Outer.{Outer}
use Rattle.nest_lang.specs.Values.{turn_value}
use Rattle.nest_lang.specs.Loops.{Around, inward, outside}
use Rattle.follow.specs.Forecasts.{Forecast}
use Rattle.follow.specs.Plans.{occurrence, item, turns_in, plan_block, plan_turn, plan_turns, plan_whiles, plan_loop, plan_loops, plan_tested, plan_outer, planned, Item, Evaluates}
use Rattle.follow.specs.Instances.{lower_at, into, block_item, head_item, item_here, item_from, item_of, PlannedByInstance}
use Rattle.follow.proofs.PlannedOrderLaws.{all-append, all-map}

-- turns, each of which has the property
module _ (P : Item → Type 0) where
  pub all-turns : (m t : ℕ) (plan : ℕ → List Item) → ((i : ℕ) → AllByRecursion P (plan i)) → AllByRecursion P (plan_turns m t plan)
  all-turns zero t plan each = tt
  all-turns (suc m) t plan each = all-append P (plan t) (plan_turns m (t + 1) plan) (each t) (all-turns m (t + 1) plan each)

  pub all-whiles : (m t : ℕ) (test : ℕ → Item) (plan : ℕ → List Item) → ((i : ℕ) → P (test i)) → ((i : ℕ) → AllByRecursion P (plan i)) → AllByRecursion P (plan_whiles m t test plan)
  all-whiles zero t test plan one each = (one t, tt)
  all-whiles (suc m) t test plan one each = (one t, all-append P (plan t) (plan_whiles m (t + 1) test plan) (each t) (all-whiles m (t + 1) test plan one each))

  pub all-tested : (m t : ℕ) (test : ℕ → Item) (plan : ℕ → List Item) → ((i : ℕ) → P (test i)) → ((i : ℕ) → AllByRecursion P (plan i)) → AllByRecursion P (plan_tested m t test plan)
  all-tested zero t test plan one each = tt
  all-tested (suc m) t test plan one each = (one t, all-append P (plan t) (plan_tested m (t + 1) test plan) (each t) (all-tested m (t + 1) test plan one each))

  all-block : (by : Part) (level : ℕ) (a : Around) (block : List Stmt) → ((x : Item) → block_item by level a block ≡ Some x → P x) → AllByRecursion P (plan_block by level a block)
  all-block by level a [] each = tt
  all-block by level a (x ∷ xs) each = (each _ refl, tt)

block-at : (by : Part) (level : ℕ) (a : Around) (block : List Stmt) (x : Item) → block_item by level a block ≡ Some x → x.at ≡ occurrence by level a
block-at by level a [] x e = absurd (cc)
block-at by level a (y ∷ ys) x e = sym (ap at-or e)
  where
    at-or : Option Item → Occurrence
    at-or None = occurrence by level a
    at-or (Some z) = z.at

pick-true : (b : Bool) (u v : Option Item) → b ≡ true → (if b then u else v) ≡ u
pick-true b u v e = rw e refl

pick-false : (b : Bool) (u v : Option Item) → b ≡ false → (if b then u else v) ≡ v
pick-false b u v e = rw e refl

module _ (p : Forecast) (o : Outer) where
  abbrev From : ℕ → List Loop → Around → List ℤ → Item → Option Item
  From level ls a rest x = item_from p o level ls a rest x.at.block.part x.at.block.level

  record Found (level : ℕ) (ls : List Loop) (a : Around) (x : Item) : Type 0 where
    rest : List ℤ
    counters : x.at.counters ≡ a.counters ++ rest
    found : From level ls a rest x ≡ Some x
    deep : level ≤ x.at.block.level

  here-found : (level : ℕ) (l : Loop) (ls : List Loop) (a : Around) (t : ℤ) (rest : List ℤ) (x : Item) → x.at.block.level ≡ level
      → item_here p o l level a (t ∷ rest) x.at.block.part ≡ Some x → From level (l ∷ ls) a (t ∷ rest) x ≡ Some x
  here-found level l ls a t rest x at e =
      let yes_here : nat_le x.at.block.level level ≡ true = grind (arith, nat_tests) in
      pick-true (nat_le x.at.block.level level) _ _ yes_here ∙ e

  turn-found : (level : ℕ) (l : Loop) (ls : List Loop) (a : Around) (t : ℕ) (inner : Around → List Item)
      → AllByRecursion (Found (level + 1) ls (into p o l.head level a (pos t))) (inner (into p o l.head level a (pos t)))
      → AllByRecursion (Found level (l ∷ ls) a) (plan_turn level l inner (into p o l.head level a (pos t)))
  turn-found level l ls a t inner within =
      let b : Around = into p o l.head level a (pos t) in
      let Mine : Item → Type 0 = Found level (l ∷ ls) a in
      all-append Mine (plan_block part.Pre level b l.pre) (inner b ++ plan_block part.Post level b l.post)
      (all-block Mine part.Pre level b l.pre (λ x e.
      let f = block-at part.Pre level b l.pre x e in
      record {
        rest = pos t ∷ [];
        counters = ap (λ (g : Occurrence). g.counters) f;
        found = here-found level l ls a (pos t) [] x (ap (λ (g : Occurrence). g.block.level) f) (ap (λ (g : Occurrence). item_here p o l level a (pos t ∷ []) g.block.part) f ∙ e);
        deep = let same_level = ap (λ (g : Occurrence). g.block.level) f in omega (arith, same_level);
      }))
      (all-append Mine (inner b) (plan_block part.Post level b l.post)
      (all-map (Found (level + 1) ls b) Mine (inner b) (λ x h.
      let deeper : nat_le x.at.block.level level ≡ false = let d = h.deep in grind (arith, nat_tests) in
      record {
        rest = pos t ∷ h.rest;
        counters = h.counters ∙ append_assoc a.counters (pos t ∷ []) h.rest;
        found = pick-false (nat_le x.at.block.level level) _ _ deeper ∙ h.found;
        deep = omega (arith, h.deep);
      }) within)
      (all-block Mine part.Post level b l.post (λ x e.
      let f = block-at part.Post level b l.post x e in
      record {
        rest = pos t ∷ [];
        counters = ap (λ (g : Occurrence). g.counters) f;
        found = here-found level l ls a (pos t) [] x (ap (λ (g : Occurrence). g.block.level) f) (ap (λ (g : Occurrence). item_here p o l level a (pos t ∷ []) g.block.part) f ∙ e);
        deep = let same_level = ap (λ (g : Occurrence). g.block.level) f in omega (arith, same_level);
      })))

  -- one loop of a list, by its head
  loop-found : (h : Head) (level : ℕ) (l : Loop) (ls : List Loop) (a : Around) (plan : Around → List Item) → l.head ≡ h → 2 ≤ level
      → ((t : ℕ) → AllByRecursion (Found level (l ∷ ls) a) (plan (into p o h level a (pos t)))) → AllByRecursion (Found level (l ∷ ls) a) (plan_loop h p level h plan a)
  loop-found (For lower upper stride) level l ls a plan is inside each =
      let inner : nat_le level 1 ≡ false = grind (arith, nat_tests) in
      let low : lower_at p o level a.counters ≡ p.lower (record { block = record { part = part.Head; level = level }; counters = a.counters }) = rw inner refl in (
        record {
          rest = [];
          counters = sym (append-nil a.counters);
          found = ap (λ (z : Head). head_item p o z z level a []) is;
          deep = omega arith;
        },
        all-turns (Found level (l ∷ ls) a) (turns_in (p.trip (record { part = part.Head; level = level }) a.counters)) 0
            (λ t. plan (inward a t (turn_value (p.lower (record { block = record { part = part.Head; level = level }; counters = a.counters })) stride t)))
            (λ t. subst (λ (z : ℤ). AllByRecursion (Found level (l ∷ ls) a) (plan (inward a t (turn_value z stride t)))) low (each t)),
      )
  loop-found (While condition) level l ls a plan is inside each =
      all-whiles (Found level (l ∷ ls) a) (turns_in (p.trip (record { part = part.Head; level = level }) a.counters)) 0
      (λ t. item part.Head level (inward a t (pos t)) (Evaluates (While condition))) (λ t. plan (inward a t (pos t)))
      (λ t. record {
        rest = pos t ∷ [];
        counters = refl;
        found = here-found level l ls a (pos t) [] (item part.Head level (inward a t (pos t)) (Evaluates (While condition))) refl (ap (λ (z : Head). head_item p o z z level a (pos t ∷ [])) is);
        deep = omega arith;
      }) each

  loops-found : (ls : List Loop) (level : ℕ) (a : Around) → 2 ≤ level → AllByRecursion (Found level ls a) (plan_loops p level ls a)
  loops-found [] level a inside = tt
  loops-found (l ∷ ls) level a inside =
      loop-found l.head level l ls a (plan_turn level l (plan_loops p (level + 1) ls)) refl inside
      (λ t. turn-found level l ls a t (plan_loops p (level + 1) ls) (loops-found ls (level + 1) (into p o l.head level a (pos t)) (omega (arith, inside))))

  outer-found : (h : Head) (l : Loop) (ls : List Loop) (plan : Around → List Item) (c : ℕ) → l.head ≡ h
      → ((t : ℕ) → AllByRecursion (Found 1 (l ∷ ls) outside) (plan (into p o h 1 outside (pos t)))) → AllByRecursion (Found 1 (l ∷ ls) outside) (plan_outer h h plan o c)
  outer-found (For lower upper stride) l ls plan c is each =
      all-turns (Found 1 (l ∷ ls) outside) c (unsigned_abs o.next) (λ t. plan (inward outside t (turn_value o.lower stride t))) each
  outer-found (While condition) l ls plan c is each =
      all-tested (Found 1 (l ∷ ls) outside) c (unsigned_abs o.next)
      (λ t. item part.Head 1 (inward outside t (pos t)) (Evaluates (While condition))) (λ t. plan (inward outside t (pos t)))
      (λ t. record {
        rest = pos t ∷ [];
        counters = refl;
        found = here-found 1 l ls outside (pos t) [] (item part.Head 1 (inward outside t (pos t)) (Evaluates (While condition))) refl (ap (λ (z : Head). head_item p o z z 1 outside (pos t ∷ [])) is);
        deep = omega arith;
      }) each

pub planned-by-instance : PlannedByInstance
unfolding planned
planned-by-instance p [] o c = tt
planned-by-instance p (l ∷ ls) o c =
    all-map (Found p o 1 (l ∷ ls) outside) (λ x. item_of p o (l ∷ ls) x.at ≡ Some x) (plan_outer l.head l.head (plan_turn 1 l (plan_loops p 2 ls)) o c)
    (λ x h. ap (λ (cs : List ℤ). item_from p o 1 (l ∷ ls) outside cs x.at.block.part x.at.block.level) h.counters ∙ h.found)
    (outer-found p o l.head l ls (plan_turn 1 l (plan_loops p 2 ls)) c refl
    (λ t. turn-found p o 1 l ls outside t (plan_loops p 2 ls) (loops-found p o ls 2 (into p o l.head 1 outside (pos t)) (omega arith))))
