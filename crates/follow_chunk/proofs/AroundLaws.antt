-- Arounds: where an instance of a nest runs.
use Rattle.std.proofs.Common.{◌≡◌, refl, sym, ap, ap₂, ◌∙◌, subst, ℕ, suc, ◌<◌, ◌≤◌, ◌-◌, ◌+◌, ℤ, pos, ◌≤ℤ◌, Bool, true, false, List, [], ◌∷◌, ◌++◌, Option, Some, length, nat_le, append_assoc, append-nil, arith}
use Rattle.std.specs.Prelude.{slice_get, unsigned_abs, if◌then◌else◌}
use Rattle.std.specs.List.{AllByRecursion}
use Rattle.std.proofs.lemmas.Int.{ints}
use Rattle.std.proofs.lemmas.Bool.Decides.{nat_tests}
use Rattle.std.proofs.lemmas.Option.{slice_get_within}
use Rattle.nest_lang.specs.declared.tree.Head.{Head}
use Rattle.nest_lang.specs.declared.tree.Head.TheVariants.{For, While}
use Rattle.nest_lang.specs.declared.tree.Loop.{Loop}
use Rattle.nest_lang.specs.declared.tree.Part.{Part}
use Rattle.nest_lang.specs.declared.tree.Part.TheVariants as part
use Rattle.nest_lang.specs.declared.state.Outer.{Outer}
use Rattle.nest_lang.specs.Blocks.{counters_by}
use Rattle.nest_lang.specs.Loops.{Around, inward}
use Rattle.follow.specs.Forecasts.{Forecast}
use Rattle.follow.specs.Plans.{item, Item, Evaluates}
use Rattle.follow.specs.Instances.{value_in, into, block_item, head_item, item_here, item_from}
use Rattle.follow_chunk.specs.Items.{inside_of}

-- what stands at a part of a loop
abbrev pub part_item : Part → ℕ → Around → Loop → Option Item
part_item part.Head level a l = Some (item part.Head level a (Evaluates l.head))
part_item part.Pre level a l = block_item part.Pre level a l.pre
part_item part.Post level a l = block_item part.Post level a l.post

module _ (p : Forecast) (o : Outer) where
  pub inside-none : (level : ℕ) (ls : List Loop) (a : Around) → inside_of p o level ls a [] ≡ a
  inside-none level [] a = refl
  inside-none level (l ∷ ls) a = refl

  -- at the level of the block
  here : (level : ℕ) (l : Loop) (ls : List Loop) (a : Around) (turns : List ℤ) (which : Part) → 1 ≤ level → length turns + level ≡ counters_by which l.head level + 1
      → item_here p o l level a turns which ≡ part_item which level (inside_of p o level (l ∷ ls) a turns) l
  here level l ls a turns which some e = by which turns e l.head refl
    where
      by : (which : Part) (turns : List ℤ) → length turns + level ≡ counters_by which l.head level + 1 → (h : Head) → l.head ≡ h → item_here p o l level a turns which ≡ part_item which level (inside_of p o level (l ∷ ls) a turns) l
      by part.Head [] e (For lower upper stride) is = ap (λ (h : Head). head_item p o h l.head level a []) is
      by part.Head (t ∷ []) e (While condition) is =
          ap (λ (h : Head). head_item p o h l.head level a (t ∷ [])) is
          ∙ ap (λ (v : ℤ). Some (item part.Head level (inward a (unsigned_abs t) v) (Evaluates l.head))) (sym (ap (λ (h : Head). value_in p o h level a (unsigned_abs t)) is))
          ∙ ap (λ (b : Around). Some (item part.Head level b (Evaluates l.head))) (sym (inside-none (level + 1) ls (into p o l.head level a t)))
      by part.Pre (t ∷ []) e h is = ap (λ (b : Around). block_item part.Pre level b l.pre) (sym (inside-none (level + 1) ls (into p o l.head level a t)))
      by part.Post (t ∷ []) e h is = ap (λ (b : Around). block_item part.Post level b l.post) (sym (inside-none (level + 1) ls (into p o l.head level a t)))
      by part.Head (t ∷ us) e (For lower upper stride) is = let f : length (t ∷ us) + level ≡ level - 1 + 1 = e ∙ ap (λ (h : Head). counters_by part.Head h level + 1) is in absurd (omega arith)
      by part.Head [] e (While condition) is = let f : length {A = ℤ} [] + level ≡ level + 1 = e ∙ ap (λ (h : Head). counters_by part.Head h level + 1) is in absurd (omega arith)
      by part.Head (t ∷ u ∷ us) e (While condition) is = let f : length (t ∷ u ∷ us) + level ≡ level + 1 = e ∙ ap (λ (h : Head). counters_by part.Head h level + 1) is in absurd (omega arith)
      by part.Pre [] e h is = absurd (omega arith)
      by part.Pre (t ∷ u ∷ us) e h is = absurd (omega arith)
      by part.Post [] e h is = absurd (omega arith)
      by part.Post (t ∷ u ∷ us) e h is = absurd (omega arith)

  counters-least : (which : Part) (h : Head) (level : ℕ) → level ≤ counters_by which h level + 1
  counters-least part.Head (For lower upper stride) level = omega arith
  counters-least part.Head (While condition) level = omega arith
  counters-least part.Pre h level = omega arith
  counters-least part.Post h level = omega arith

  -- the instance of a block with as many turn numbers as it has
  pub item-inside : (level : ℕ) (ls : List Loop) (a : Around) (turns : List ℤ) (which : Part) (wanted : ℕ) (l : Loop) → 1 ≤ level → level ≤ wanted → slice_get ls (wanted - level) ≡ Some l
      → length turns + level ≡ counters_by which l.head wanted + 1 → item_from p o level ls a turns which wanted ≡ part_item which wanted (inside_of p o level ls a turns) l
  item-inside level [] a turns which wanted l some to is e = absurd (let f = slice_get_within [] (wanted - level) l is in omega arith)
  item-inside level (m ∷ ls) a [] which wanted l some to is e = at (omega (arith, counters-least which l.head wanted)) m (cc)
    where
      at : wanted ≡ level → (m : Loop) → slice_get (m ∷ ls) (wanted - level) ≡ Some l → item_here p o m level a [] which ≡ part_item which wanted (inside_of p o level (m ∷ ls) a []) l
      at same m is =
          let zero_is : wanted - level ≡ 0 = omega arith in
          let f : slice_get (m ∷ ls) 0 ≡ Some l = sym (ap (slice_get (m ∷ ls)) zero_is) ∙ is in
          let g : m ≡ l = cc in
          subst (λ (k : Loop). item_here p o m level a [] which ≡ part_item which wanted (inside_of p o level (m ∷ ls) a []) k) g
          (subst (λ (n : ℕ). item_here p o m level a [] which ≡ part_item which n (inside_of p o level (m ∷ ls) a []) m) (sym same)
          (here level m ls a [] which some (e ∙ ap (λ (n : ℕ). counters_by which l.head n + 1) same ∙ ap (λ (k : Loop). counters_by which k.head level + 1) (sym g))))
  item-inside level (m ∷ ls) a (t ∷ rest) which wanted l some to is e =
      at (λ f less. item-inside (level + 1) ls (into p o m.head level a t) rest which wanted l (omega arith) less f (omega arith)) (nat_le wanted level) refl
    where
      at : (slice_get ls (wanted - (level + 1)) ≡ Some l → level + 1 ≤ wanted → item_from p o (level + 1) ls (into p o m.head level a t) rest which wanted ≡ part_item which wanted (inside_of p o (level + 1) ls (into p o m.head level a t) rest) l)
          → (b : Bool) → nat_le wanted level ≡ b → item_from p o level (m ∷ ls) a (t ∷ rest) which wanted ≡ part_item which wanted (inside_of p o level (m ∷ ls) a (t ∷ rest)) l
      at more true test =
          let same : wanted ≡ level = grind (arith, nat_tests) in
          let zero_is : wanted - level ≡ 0 = omega arith in
          let f : slice_get (m ∷ ls) 0 ≡ Some l = sym (ap (slice_get (m ∷ ls)) zero_is) ∙ is in
          let g : m ≡ l = cc in
          ap (λ (b : Bool). if b then item_here p o m level a (t ∷ rest) which else item_from p o (level + 1) ls (into p o m.head level a t) rest which wanted) test
          ∙ subst (λ (k : Loop). item_here p o m level a (t ∷ rest) which ≡ part_item which wanted (inside_of p o level (m ∷ ls) a (t ∷ rest)) k) g
          (subst (λ (n : ℕ). item_here p o m level a (t ∷ rest) which ≡ part_item which n (inside_of p o level (m ∷ ls) a (t ∷ rest)) m) (sym same)
          (here level m ls a (t ∷ rest) which some (e ∙ ap (λ (n : ℕ). counters_by which l.head n + 1) same ∙ ap (λ (k : Loop). counters_by which k.head level + 1) (sym g))))
      at go false test =
          let less : level < wanted = grind (arith, nat_tests) in
          let more : wanted - level ≡ suc (wanted - (level + 1)) = omega arith in
          let f : slice_get ls (wanted - (level + 1)) ≡ Some l = sym (ap (slice_get (m ∷ ls)) more) ∙ is in
          ap (λ (b : Bool). if b then item_here p o m level a (t ∷ rest) which else item_from p o (level + 1) ls (into p o m.head level a t) rest which wanted) test
          ∙ go f (omega arith)

  -- one loop further in
  pub inside-more : (level : ℕ) (ls : List Loop) (a : Around) (turns : List ℤ) (t : ℤ) (l : Loop) → slice_get ls (length turns) ≡ Some l
      → inside_of p o level ls a (turns ++ t ∷ []) ≡ into p o l.head (level + length turns) (inside_of p o level ls a turns) t
  inside-more level [] a turns t l is = absurd (let f = slice_get_within [] (length turns) l is in omega arith)
  inside-more level (m ∷ ls) a [] t l is =
      let g : m ≡ l = cc in
      inside-none (level + 1) ls (into p o m.head level a t) ∙ ap₂ (λ (k : Loop) (n : ℕ). into p o k.head n a t) g (omega arith)
  inside-more level (m ∷ ls) a (u ∷ us) t l is =
      inside-more (level + 1) ls (into p o m.head level a u) us t l is
      ∙ ap (λ (n : ℕ). into p o l.head n (inside_of p o (level + 1) ls (into p o m.head level a u) us) t) (omega arith)

  -- the turn numbers are those that were given, where none is negative
  pub inside-counters : (level : ℕ) (ls : List Loop) (a : Around) (turns : List ℤ) → length turns ≤ length ls → AllByRecursion (λ z. pos 0 ≤ℤ z) turns → (inside_of p o level ls a turns).counters ≡ a.counters ++ turns
  inside-counters level ls a [] few up = ap (λ (b : Around). b.counters) (inside-none level ls a) ∙ sym (append-nil a.counters)
  inside-counters level [] a (t ∷ us) few up = absurd (omega arith)
  inside-counters level (l ∷ ls) a (t ∷ us) few up =
      inside-counters (level + 1) ls (into p o l.head level a t) us (omega arith) up.1
      ∙ append_assoc a.counters (pos (unsigned_abs t) ∷ []) us ∙ ap (λ (z : ℤ). a.counters ++ z ∷ us) (same t up.0)
    where
      same : (z : ℤ) → pos 0 ≤ℤ z → pos (unsigned_abs z) ≡ z
      same z h = omega (arith, ints)
