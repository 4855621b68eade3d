-- Ranks: the blocks of a table stand in the order of the text, each once.
use Rattle.std.proofs.Common.{◌≡◌, refl, sym, ap, ◌∙◌, ℕ, ◌<◌, ◌≤◌, ◌+◌, ◌-◌, Bool, true, false, List, Option, Some, None, length, get_or, nat_eq, nat_lt, cond, ◌⊎◌, inl, inr, ⊎_elim, arith}
use Rattle.std.specs.Prelude.{is_some, ◌&&◌}
use Rattle.std.specs.List.{position, position_or_len}
use Rattle.std.proofs.lemmas.Bool.{cases_lt, and_parts}
use Rattle.std.proofs.lemmas.Bool.Decides.{nat_tests}
use Rattle.std.proofs.lemmas.List.Sums.{fails_before_first}
use Rattle.std.proofs.lemmas.List.Quantifiers.{position-Some}
use Rattle.nest_lang.specs.declared.tree.Part.{Part}
use Rattle.nest_lang.specs.declared.tree.Part.TheVariants.{Head, Pre, Post}
use Rattle.nest_lang.specs.Blocks.{same_part}
use Rattle.domain.specs.Tables.{Table, no_block, block_at, is_block, rank_of, text_place, text_place_by, repeats, IsBlock, IsTable}

same_part-exact : (a b : Part) → same_part a b ≡ true → a ≡ b
same_part-exact Head Head h = refl
same_part-exact Pre Pre h = refl
same_part-exact Post Post h = refl
same_part-exact Head Pre h = absurd (cc)
same_part-exact Head Post h = absurd (cc)
same_part-exact Pre Head h = absurd (cc)
same_part-exact Pre Post h = absurd (cc)
same_part-exact Post Head h = absurd (cc)
same_part-exact Post Pre h = absurd (cc)

same_part-self : (a : Part) → same_part a a ≡ true
same_part-self Head = refl
same_part-self Pre = refl
same_part-self Post = refl

-- a block of that rank, part and level
pub record Stands (t : Table) (part : Part) (level rank : ℕ) : Type 0 where
  pub inside : rank < length t.blocks
  pub part-is : (block_at t rank).part ≡ part
  pub level-is : (block_at t rank).level ≡ level

pub stands : (t : Table) (part : Part) (level rank : ℕ) → rank_of t part level ≡ Some rank → Stands t part level rank
stands t part level rank e =
    let found = position-Some (is_block part level) t.blocks rank no_block e in
    let tests = and_parts (same_part (block_at t rank).part part) (nat_eq (block_at t rank).level level) found.1 in
    let second = tests.1 in
    record {
      inside = found.0;
      part-is = same_part-exact (block_at t rank).part part tests.0;
      level-is = grind (arith, nat_tests);
    }

some-rank : (o : Option ℕ) → is_some o ≡ true → (rank : ℕ) × (o ≡ Some rank)
some-rank None h = absurd (cc)
some-rank (Some rank) h = (rank, refl)

pub has-rank : (t : Table) (part : Part) (level : ℕ) → is_some (rank_of t part level) ≡ true → (rank : ℕ) × (rank_of t part level ≡ Some rank)
has-rank t part level h = some-rank (rank_of t part level) h

is_block-here : (t : Table) (part : Part) (level rank : ℕ) → Stands t part level rank → is_block part level (block_at t rank) ≡ true
is_block-here t part level rank s =
    let level-is = s.level-is in
    let same : nat_eq (block_at t rank).level level ≡ true = grind (arith, nat_tests) in
    ap (λ (p : Part). same_part p part && nat_eq (block_at t rank).level level) s.part-is ∙ ap (λ (b : Bool). b && nat_eq (block_at t rank).level level) (same_part-self part) ∙ same

no-position : {X : Type 0} (p : X → Bool) (xs : List X) (d : X) (k : ℕ) → k < length xs → p (get_or xs k d) ≡ true → position p xs ≡ None → ⊥
no-position p xs d k l e h =
    ⊎_elim
    (λ m. let f = fails_before_first p xs k d m in let z : true ≡ false = sym e ∙ f in cc)
    (λ m. let test : nat_lt (position_or_len p xs) (length xs) ≡ true = grind (arith, nat_tests) in
    let some : position p xs ≡ Some (position_or_len p xs) = ap (λ (b : Bool). cond b (Some (position_or_len p xs)) None) test in
    let z : Some (position_or_len p xs) ≡ None = sym some ∙ h in cc)
    (cases_lt k (position_or_len p xs))

-- a block that stands somewhere has a rank
pub absent : (t : Table) (part : Part) (level rank : ℕ) → rank_of t part level ≡ None → Stands t part level rank → ⊥
absent t part level rank e s = no-position (is_block part level) t.blocks no_block rank s.inside (is_block-here t part level rank s) e

pub is_some-stands : (t : Table) (part : Part) (level rank : ℕ) → Stands t part level rank → is_some (rank_of t part level) ≡ true
is_some-stands t part level rank s = at (rank_of t part level) refl
  where
    at : (o : Option ℕ) → rank_of t part level ≡ o → is_some o ≡ true
    at None e = absurd (absent t part level rank e s)
    at (Some r) e = refl

module _ (D : ℕ) (t : Table) (is : IsTable D t) where
  -- where the block of a rank stands in the text
  abbrev pub text_at : ℕ → ℕ
  text_at rank = text_place D (block_at t rank)

  pub ranks-rise : (i j : ℕ) → i < length t.blocks → text_at i < text_at j → i < j
  ranks-rise i j l h = ⊎_elim (λ m. m) (λ m. absurd (past m (cases_lt j i))) (cases_lt i j)
    where
      past : j ≤ i → (j < i) ⊎ (i ≤ j) → ⊥
      past m (inl n) = let r = is.rising j i n l in omega arith
      past m (inr n) = let e : i ≡ j = omega arith in let f = ap text_at e in omega arith

  pub same-rank : (i j : ℕ) → i < length t.blocks → j < length t.blocks → text_at i ≡ text_at j → i ≡ j
  same-rank i j l m h = ⊎_elim (λ n. absurd (let r = is.rising i j n m in omega arith)) (λ n. ⊎_elim (λ o. absurd (let r = is.rising j i o l in omega arith)) (λ o. omega arith) (cases_lt j i)) (cases_lt i j)

  pub text-stands : (part : Part) (level rank : ℕ) → Stands t part level rank → text_at rank ≡ text_place_by D part level
  text-stands part level rank s = ap (λ (p : Part). text_place_by D p (block_at t rank).level) s.part-is ∙ ap (text_place_by D part) s.level-is

  -- a block by its part: where it stands, and that it is one of D loops
  pub data Kind (rank : ℕ) : Type 0 where
    AtHead : (level : ℕ) (from : 1 ≤ level) (to : level ≤ D) (here : Stands t Head level rank) (text : text_at rank ≡ level + level) → Kind rank
    AtPre : (level : ℕ) (from : 1 ≤ level) (to : level ≤ D) (here : Stands t Pre level rank) (text : text_at rank ≡ level + level + 1) → Kind rank
    AtPost : (level : ℕ) (from : 1 ≤ level) (to : level < D) (here : Stands t Post level rank) (text : text_at rank ≡ D + D + D + 3 - level) → Kind rank

  pub kind : (rank : ℕ) → rank < length t.blocks → Kind rank
  kind rank l = at (block_at t rank).part refl
    where
      b : IsBlock D (block_at t rank)
      b = is.blocks rank l

      at : (p : Part) → (block_at t rank).part ≡ p → Kind rank
      at Head e = let s : Stands t Head (block_at t rank).level rank = record { inside = l; part-is = e; level-is = refl } in AtHead (block_at t rank).level (is.blocks rank l).from (is.blocks rank l).to s (text-stands Head (block_at t rank).level rank s)
      at Pre e = let s : Stands t Pre (block_at t rank).level rank = record { inside = l; part-is = e; level-is = refl } in AtPre (block_at t rank).level (is.blocks rank l).from (is.blocks rank l).to s (text-stands Pre (block_at t rank).level rank s)
      at Post e = let s : Stands t Post (block_at t rank).level rank = record { inside = l; part-is = e; level-is = refl } in AtPost (block_at t rank).level (is.blocks rank l).from ((is.blocks rank l).outer e) s (text-stands Post (block_at t rank).level rank s)

  -- the outermost head is there for a `while` alone
  pub outermost-repeats : (rank : ℕ) → Stands t Head 1 rank → repeats t 0 ≡ true
  outermost-repeats rank s = sym is.outermost ∙ is_some-stands t Head 1 rank s

  -- the rank after a block that stands before another
  pub rank-after : (i j : ℕ) → i < length t.blocks → j < length t.blocks → text_at i < text_at j → (i + 1 < length t.blocks) × (text_at i < text_at (i + 1)) × (text_at (i + 1) ≤ text_at j)
  rank-after i j l m h =
      let before : i < j = ranks-rise i j l h in
      let inside : i + 1 < length t.blocks = omega arith in
      let rise = is.rising i (i + 1) (omega arith) inside in
      (inside, rise, ⊎_elim (λ n. let r = is.rising (i + 1) j n m in omega arith) (λ n. let e : i + 1 ≡ j = omega arith in let f = ap text_at e in omega arith) (cases_lt (i + 1) j))
