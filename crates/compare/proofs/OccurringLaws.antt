-- Occurrences as instances of a table, and the trips that are expected of them.
use Rattle.std.proofs.Common.{◌≡◌, refl, sym, ap, ap₂, ◌∙◌, ℕ, zero, suc, ◌<◌, ◌≤◌, ◌-◌, min, ℤ, pos, true, false, is_some, List, [], ◌∷◌, length, get_or, slice_get, take, Option, Some, None, ⊎_elim, arith}
use Rattle.std.specs.Prelude.{unwrap_or, option_map, option_and_then}
use Rattle.std.proofs.lemmas.Bool.{cases_lt}
use Rattle.std.proofs.lemmas.Option.{slice_get-get_or, slice_get_within}
use Rattle.std.proofs.lemmas.List.{ext_get_or}
use Rattle.std.proofs.Math.ListN.{get_or-eq_default}
use Rattle.affine.specs.Forms.{Affine, value_at}
use Rattle.nest_lang.specs.declared.tree.BlockRef.{BlockRef}
use Rattle.nest_lang.specs.declared.tree.Loop.{Loop}
use Rattle.nest_lang.specs.declared.tree.Part.{Part}
use Rattle.nest_lang.specs.declared.tree.Part.TheVariants.{Head}
use Rattle.nest_lang.specs.Traces.{Occurrence}
use Rattle.nest_lang.specs.Blocks.{present_blocks, block_ref}
use Rattle.nest_lang.specs.Blocks as blocks
use Rattle.nest_lang.proofs.RankLaws.{ranks-are-numbers}
use Rattle.domain.specs.declared.prediction.What.TheVariants.{Trip}
use Rattle.domain.specs.Tables.{Table, Block, Level, no_block, no_level, block_at, level_at, rank_of, depth, cut, trip, head_level_by, loop_of, IsTable}
use Rattle.domain.specs.Shapes.{IsTableOf}
use Rattle.domain.specs.Instances.{Instance}
use Rattle.domain.specs.Expected.{form_by, form_of, expected_of}
use Rattle.domain.proofs.PointLaws.{trip-some, trip-none}
use Rattle.domain.proofs.RankLaws.{Stands, stands}
use Rattle.follow_chunk.specs.Predicted.{padded_to as point, instance_of}
use Rattle.compare.proofs.PointLaws.{length-point}
use Rattle.compare.proofs.TableBlockLaws.{stands-present, rank-here}

-- ---- points

point-below : (d : ℕ) (cs : List ℤ) (j : ℕ) → j < d → get_or (point d cs) j (pos 0) ≡ get_or cs j (pos 0)
point-below zero cs j h = absurd (omega arith)
point-below (suc d) [] zero h = refl
point-below (suc d) [] (suc j) h = point-below d [] j (omega arith)
point-below (suc d) (c ∷ cs) zero h = refl
point-below (suc d) (c ∷ cs) (suc j) h = point-below d cs j (omega arith)

-- a list of d numbers that are the first ones of another list, with zeros after them
pub point-is : (d : ℕ) (at cs : List ℤ) → length at ≡ d → ((j : ℕ) → j < d → get_or at j (pos 0) ≡ get_or cs j (pos 0)) → at ≡ point d cs
point-is d at cs size h = ext_get_or (pos 0) at (point d cs) (size ∙ sym (length-point d cs)) (λ j l. h j (omega (arith, size)) ∙ sym (point-below d cs j (omega (arith, size))))

cut-none : (k d : ℕ) → cut k (point d []) ≡ point d []
cut-none k zero = refl
cut-none zero (suc d) = ap (λ (zs : List ℤ). pos 0 ∷ zs) (cut-none zero d)
cut-none (suc k) (suc d) = ap (λ (zs : List ℤ). pos 0 ∷ zs) (cut-none k d)

zeros-point : (d : ℕ) (cs : List ℤ) → cut 0 (point d cs) ≡ point d []
zeros-point zero cs = refl
zeros-point (suc d) [] = ap (λ (zs : List ℤ). pos 0 ∷ zs) (zeros-point d [])
zeros-point (suc d) (c ∷ cs) = ap (λ (zs : List ℤ). pos 0 ∷ zs) (zeros-point d cs)

-- the first numbers alone
point-first : (d k : ℕ) (cs : List ℤ) → point d (take k cs) ≡ cut k (point d cs)
point-first zero k cs = refl
point-first (suc d) zero cs = sym (zeros-point (suc d) cs)
point-first (suc d) (suc k) [] = sym (cut-none (suc k) (suc d))
point-first (suc d) (suc k) (c ∷ cs) = ap (λ (zs : List ℤ). c ∷ zs) (point-first d k cs)

pub take-least : (k : ℕ) (cs : List ℤ) → take (min k (length cs)) cs ≡ take k cs
take-least zero cs = ap (λ (n : ℕ). take n cs) (let e : min 0 (length cs) ≡ 0 = omega arith in e)
take-least (suc k) [] = ap (λ (n : ℕ). take n []) (let e : min (suc k) 0 ≡ 0 = omega arith in e)
take-least (suc k) (c ∷ cs) = ap (λ (n : ℕ). take n (c ∷ cs)) (let e : min (suc k) (suc (length cs)) ≡ suc (min k (length cs)) = omega arith in e) ∙ ap (λ (zs : List ℤ). c ∷ zs) (take-least k cs)

module _ (D n : ℕ) (t : Table) (loops : List Loop) (is : IsTable D t) (of : IsTableOf n loops t) where
  -- ---- ranks

  ranks-same : (b : BlockRef) → blocks.rank_of loops b ≡ rank_of t b.part b.level
  ranks-same b = by (rank_of t b.part b.level) refl (blocks.rank_of loops b) refl
    where
      by : (o : Option ℕ) → rank_of t b.part b.level ≡ o → (q : Option ℕ) → blocks.rank_of loops b ≡ q → blocks.rank_of loops b ≡ rank_of t b.part b.level
      by (Some r) e q f = (ranks-are-numbers loops b r).1 (stands-present D n t loops is of b.part b.level r (stands t b.part b.level r e)) ∙ sym e
      by None e None f = f ∙ sym e
      by None e (Some r) f =
          let there = (ranks-are-numbers loops b r).0 f in
          let same = of.each r b there in
          let s : Stands t b.part b.level r = record { inside = slice-inside r there; part-is = same.part; level-is = same.level } in
          f ∙ sym (rank-here D n t loops is of b.part b.level r s)
        where
          slice-inside : (r : ℕ) → slice_get (present_blocks loops) r ≡ Some b → r < length t.blocks
          slice-inside r e = let w = slice_get_within (present_blocks loops) r b e in let c = of.count in omega arith

  pub rank-found : (b : BlockRef) (r : ℕ) → blocks.rank_of loops b ≡ Some r → (x : Occurrence) → x.block ≡ b → r ≡ (instance_of t x).block
  unfolding instance_of
  rank-found b r e x same =
      sym (ap (λ (c : BlockRef). unwrap_or (rank_of t c.part c.level) (length t.blocks)) same ∙ ap (λ (o : Option ℕ). unwrap_or o (length t.blocks)) (sym (ranks-same b) ∙ e))

  pub rank-missing : (b : BlockRef) (r : ℕ) → blocks.rank_of loops b ≡ None → r ≡ length (present_blocks loops) → (x : Occurrence) → x.block ≡ b → r ≡ (instance_of t x).block
  unfolding instance_of
  rank-missing b r e count x same =
      count ∙ sym of.count
      ∙ sym (ap (λ (c : BlockRef). unwrap_or (rank_of t c.part c.level) (length t.blocks)) same ∙ ap (λ (o : Option ℕ). unwrap_or o (length t.blocks)) (sym (ranks-same b) ∙ e))

  -- ---- trips

  head-at : ℕ → List ℤ → Occurrence
  head-at level cs = record { block = block_ref Head level; counters = cs }

  form-trip : (b : Block) (k : ℕ) → b.part ≡ Head → b.level ≡ suc k → form_by t b Trip ≡ option_and_then (λ (l : Level). l.trip) (slice_get t.levels k)
  form-trip b k e f = ap₂ (λ (q : Part) (m : ℕ). option_and_then (λ (l : Level). l.trip) (head_level_by q (loop_of t m))) e f

  by-form : (k : ℕ) (at : List ℤ) (o : Option Affine) → (level_at t k).trip ≡ o → unwrap_or (option_map (λ form. value_at form (cut k at)) o) (pos 0) ≡ trip t k at
  by-form k at None e = sym (trip-none t k at e)
  by-form k at (Some form) e = sym (trip-some t k form at e)

  -- the value of the form at the first counters is the trip
  trip-value : (k : ℕ) (cs : List ℤ) → 1 ≤ k → unwrap_or (expected_of t (instance_of t (record { block = block_ref Head (suc k); counters = take k cs })) Trip) (pos 0) ≡ trip t k (point (depth t) cs)
  unfolding instance_of expected_of form_of
  trip-value k cs some = by (rank_of t Head (suc k)) refl
    where
      first : point (depth t) (take k cs) ≡ cut k (point (depth t) cs)
      first = point-first (depth t) k cs

      abbreviated : (r : ℕ) (f : Option Affine) → form_by t (block_at t r) Trip ≡ f → f ≡ (level_at t k).trip → unwrap_or (option_map (λ form. value_at form (point (depth t) (take k cs))) (form_by t (block_at t r) Trip)) (pos 0) ≡ trip t k (point (depth t) cs)
      abbreviated r f e g =
          ap₂ (λ (o : Option Affine) (at : List ℤ). unwrap_or (option_map (λ form. value_at form at) o) (pos 0)) (e ∙ g) first ∙ by-form k (point (depth t) cs) (level_at t k).trip refl

      by : (o : Option ℕ) → rank_of t Head (suc k) ≡ o
          → unwrap_or (option_map (λ form. value_at form (point (depth t) (take k cs))) (form_by t (block_at t (unwrap_or (rank_of t Head (suc k)) (length t.blocks))) Trip)) (pos 0) ≡ trip t k (point (depth t) cs)
      by (Some r) e =
          let s = stands t Head (suc k) r e in
          let deep : k < depth t = let a = (is.blocks r s.inside).to in let b = s.level-is in let d = is.deep in omega arith in
          ap (λ (o : Option ℕ). unwrap_or (option_map (λ form. value_at form (point (depth t) (take k cs))) (form_by t (block_at t (unwrap_or o (length t.blocks))) Trip)) (pos 0)) e
          ∙ abbreviated r (level_at t k).trip (form-trip (block_at t r) k s.part-is s.level-is ∙ ap (option_and_then (λ (l : Level). l.trip)) (slice_get-get_or t.levels k no_level deep)) refl
      by None e =
          let outside : length t.levels ≤ k = ⊎_elim (λ l. absurd (missing l)) (λ l. l) (cases_lt k (length t.levels)) in
          let none : block_at t (length t.blocks) ≡ no_block = get_or-eq_default t.blocks no_block (omega arith) in
          let past : level_at t k ≡ no_level = get_or-eq_default t.levels no_level outside in
          ap (λ (o : Option ℕ). unwrap_or (option_map (λ form. value_at form (point (depth t) (take k cs))) (form_by t (block_at t (unwrap_or o (length t.blocks))) Trip)) (pos 0)) e
          ∙ abbreviated (length t.blocks) None (ap (λ (b : Block). form_by t b Trip) none) (sym (ap (λ (l : Level). l.trip) past))
        where
          missing : k < length t.levels → ⊥
          missing l =
              let d = is.deep in
              let here = is.heads (suc k) (omega arith) (omega arith) in
              let f : false ≡ true = ap is_some (sym e) ∙ here in
              cc

  pub trip-wanted : (level : ℕ) (cs first : List ℤ) (x : Instance) (o : Option ℤ) → 2 ≤ level → first ≡ take (level - 1) cs → x ≡ instance_of t (record { block = block_ref Head level; counters = first }) → o ≡ expected_of t x Trip
      → unwrap_or o (pos 0) ≡ trip t (level - 1) (point (depth t) cs)
  trip-wanted level cs first x o inner e f g =
      let k : ℕ = level - 1 in
      let h : level ≡ suc (level - 1) = omega arith in
      ap (λ (q : Option ℤ). unwrap_or q (pos 0)) (g ∙ ap (λ (z : Instance). expected_of t z Trip) (f ∙ ap₂ (λ (m : ℕ) (ds : List ℤ). instance_of t (record { block = block_ref Head m; counters = ds })) h e))
      ∙ trip-value (level - 1) cs (omega arith)
