-- The blocks of a table that is a nest's: which stand there, and the kinds of its loops.
use Rattle.std.proofs.Common.{◌≡◌, refl, sym, ap, ap₂, subst, ◌∙◌, ℕ, ◌<◌, List, map, length, get_or, slice_get, Option, Some, None, arith}
use Rattle.std.specs.Prelude.{option_map}
use Rattle.std.proofs.lemmas.Option.{slice_get_within, slice_get-get_or, slice_get-map}
use Rattle.nest_lang.specs.declared.tree.Loop.{Loop}
use Rattle.nest_lang.specs.declared.tree.Part.{Part}
use Rattle.nest_lang.specs.declared.tree.Part.TheVariants.{Pre}
use Rattle.nest_lang.specs.declared.tree.BlockRef.{BlockRef}
use Rattle.nest_lang.specs.Blocks.{present_blocks, block_ref, loop_at}
use Rattle.nest_lang.specs.BlockLaws.{IsPresentPart}
use Rattle.nest_lang.proofs.RankLaws.{ranks-are-numbers, present_blocks-have-ranks}
use Rattle.domain.specs.declared.table.LoopKind.{LoopKind}
use Rattle.domain.specs.Tables.{Table, Block, Level, block_at, level_at, no_level, repeats, is_while, IsTable}
use Rattle.domain.specs.Tables as tables
use Rattle.domain.specs.Shapes.{IsTableOf, IsBlockOf, kind_of}
use Rattle.domain.proofs.RankLaws.{Stands, stands, has-rank, is_some-stands, same-rank, text-stands}

module _ (D n : ℕ) (t : Table) (loops : List Loop) (is : IsTable D t) (of : IsTableOf n loops t) where
  -- the present block of a rank
  pub block-of : (rank : ℕ) → rank < length t.blocks → (b : BlockRef) × (slice_get (present_blocks loops) rank ≡ Some b) × IsBlockOf n loops b (block_at t rank)
  block-of rank h =
      let d : BlockRef = block_ref Pre 0 in
      let b : BlockRef = get_or (present_blocks loops) rank d in
      let e : slice_get (present_blocks loops) rank ≡ Some b = slice_get-get_or (present_blocks loops) rank d (let c = of.count in omega arith) in
      (b, e, of.each rank b e)

  pub stands-present : (part : Part) (level rank : ℕ) → Stands t part level rank → slice_get (present_blocks loops) rank ≡ Some (block_ref part level)
  stands-present part level rank s =
      let (b, e, same) = block-of rank s.inside in
      let f : b ≡ block_ref part level = ap₂ block_ref (sym same.part ∙ s.part-is) (sym same.level ∙ s.level-is) in
      e ∙ ap (λ (z : BlockRef). Some z) f

  -- a block stands in the table where the nest has that part
  pub stands-part : (part : Part) (level rank : ℕ) → Stands t part level rank → (l : Loop) × (loop_at loops level ≡ Some l) × IsPresentPart part level l
  stands-part part level rank s =
      (present_blocks-have-ranks loops (block_ref part level)).1 (rank, (ranks-are-numbers loops (block_ref part level) rank).1 (stands-present part level rank s))

  pub part-stands : (part : Part) (level : ℕ) (l : Loop) → loop_at loops level ≡ Some l → IsPresentPart part level l → (rank : ℕ) × Stands t part level rank
  part-stands part level l e present =
      let found = (present_blocks-have-ranks loops (block_ref part level)).0 (l, e, present) in
      let here = (ranks-are-numbers loops (block_ref part level) found.0).0 found.1 in
      let same = of.each found.0 (block_ref part level) here in
      (found.0, record { inside = let w = slice_get_within (present_blocks loops) found.0 (block_ref part level) here in let c = of.count in omega arith; part-is = same.part; level-is = same.level })

  -- the part of the loop at this level
  pub part-here : (part : Part) (level rank : ℕ) (l : Loop) → loop_at loops level ≡ Some l → Stands t part level rank → IsPresentPart part level l
  part-here part level rank l e s =
      let (m, f, present) = stands-part part level rank s in
      let same : m ≡ l = let g : Some m ≡ Some l = sym f ∙ e in cc in
      subst (IsPresentPart part level) same present

  -- the kinds of the loops are those of their heads
  pub repeats-is : (k : ℕ) (l : Loop) → slice_get loops k ≡ Some l → repeats t k ≡ is_while (kind_of l.head)
  repeats-is k l e =
      let all = ap (λ (xs : List LoopKind). slice_get xs k) of.levels in
      let mine : slice_get (map (λ (v : Level). v.kind) t.levels) k ≡ Some (kind_of l.head) = all ∙ slice_get-map (λ (v : Loop). kind_of v.head) loops k ∙ ap (option_map (λ (v : Loop). kind_of v.head)) e in
      at (slice_get t.levels k) refl (sym (slice_get-map (λ (v : Level). v.kind) t.levels k) ∙ mine)
    where
      at : (o : Option Level) → slice_get t.levels k ≡ o → option_map (λ (v : Level). v.kind) (slice_get t.levels k) ≡ Some (kind_of l.head) → repeats t k ≡ is_while (kind_of l.head)
      at None f g = absurd (let h : None ≡ Some (kind_of l.head) = ap (option_map (λ (v : Level). v.kind)) (sym f) ∙ g in cc)
      at (Some v) f g =
          let same : v.kind ≡ kind_of l.head = let h : Some v.kind ≡ Some (kind_of l.head) = ap (option_map (λ (w : Level). w.kind)) (sym f) ∙ g in cc in
          let there : Some (level_at t k) ≡ Some v = sym (slice_get-get_or t.levels k no_level (slice_get_within t.levels k v f)) ∙ f in
          let here : level_at t k ≡ v = cc in
          ap (λ (w : Level). is_while w.kind) here ∙ ap is_while same

  -- a block that stands somewhere has that rank
  pub rank-here : (part : Part) (level rank : ℕ) → Stands t part level rank → tables.rank_of t part level ≡ Some rank
  rank-here part level rank s =
      let (r, e) = has-rank t part level (is_some-stands t part level rank s) in
      let there = stands t part level r e in
      let same : r ≡ rank = same-rank D t is r rank there.inside s.inside (text-stands D t is part level r there ∙ sym (text-stands D t is part level rank s)) in
      e ∙ ap (λ (z : ℕ). Some z) same
