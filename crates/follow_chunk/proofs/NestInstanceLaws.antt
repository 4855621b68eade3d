-- What an instance of a nest runs, and where.
use Rattle.std.proofs.Common.{◌≡◌, refl, sym, ap, ap₂, ◌∙◌, subst, ℕ, zero, suc, ◌<◌, ◌≤◌, ◌-◌, ◌+◌, ℤ, true, List, [], ◌∷◌, Option, Some, None, length, take, get_or, length-take-le, arith}
use Rattle.std.specs.Prelude.{◌≢◌, ◌^◌, slice_get, option_map, unwrap_or}
use Rattle.std.specs.Option.{option_and_then}
use Rattle.std.proofs.lemmas.List.{length-map}
use Rattle.std.proofs.lemmas.Bool.{and_parts}
use Rattle.nest_lang.specs.declared.tree.Access.{Access as NestAccess}
use Rattle.nest_lang.specs.declared.tree.BlockRef.{BlockRef}
use Rattle.nest_lang.specs.declared.tree.Head as tree
use Rattle.nest_lang.specs.declared.tree.Head.TheVariants as head
use Rattle.nest_lang.specs.declared.tree.Loop.{Loop}
use Rattle.nest_lang.specs.declared.tree.Stmt.{Stmt}
use Rattle.nest_lang.specs.declared.tree.Part.{Part}
use Rattle.nest_lang.specs.declared.tree.Part.TheVariants.{Head, Pre, Post}
use Rattle.nest_lang.specs.declared.state.Outer.{Outer}
use Rattle.nest_lang.specs.Accesses.{block_accesses, part_accesses, accesses_by, accesses_of}
use Rattle.nest_lang.specs.Blocks.{block_ref, present_blocks, loop_at, head_at, statements_by, statements_of, counters_of}
use Rattle.nest_lang.specs.Blocks as blocks
use Rattle.nest_lang.specs.BlockLaws.{IsPresentPart}
use Rattle.nest_lang.specs.Loops.{Around, outside}
use Rattle.nest_lang.specs.Places.{block_size}
use Rattle.nest_lang.specs.Rules.{strides, loop_keeps, loops_keep, AreNumbered, LoopKeeps}
use Rattle.nest_lang.proofs.RankLaws.{ranks-are-numbers, present_blocks-have-ranks}
use Rattle.domain.specs.declared.table.LoopKind.{LoopKind}
use Rattle.domain.specs.Tables.{Table, Block, Access, level_at, is_while, counters, counters_by}
use Rattle.domain.specs.Instances.{Instance, block_of}
use Rattle.domain.specs.Shapes.{kind_of, is_store, IsBlockOf}
use Rattle.follow.specs.Plans.{item, occurrence, Item, Runs, Evaluates}
use Rattle.follow.specs.Footprints.{work_accesses}
use Rattle.follow.specs.Instances.{block_item, item_of}
use Rattle.follow_chunk.specs.Predicted.{occurrence_of, instance_of, forecast_of}
use Rattle.follow_chunk.specs.Items.{item_at, idle, around_of}
use Rattle.follow_chunk.specs.Nests.{IsNest, IsInTurns}
use Rattle.follow_chunk.proofs.PointLaws.{instance-occurrence}
use Rattle.follow_chunk.proofs.RankLaws.{depth-same}
use Rattle.follow_chunk.proofs.AroundLaws.{part_item, item-inside, inside-counters}
use Rattle.follow_chunk.proofs.PlacingLaws.{fronts-up, loop-kind-of, counters-within}

pub get-here : {X : Type 0} (xs : List X) (k : ℕ) (d : X) → k < length xs → slice_get xs k ≡ Some (get_or xs k d)
get-here [] k d l = absurd (omega arith)
get-here (x ∷ xs) zero d l = refl
get-here (x ∷ xs) (suc k) d l = get-here xs k d (omega arith)

-- both count turn numbers alike
counts-same : (part : Part) (h : tree.Head) (kind : LoopKind) (level : ℕ) → kind ≡ kind_of h → blocks.counters_by part h level ≡ counters_by part (is_while kind) level
counts-same Head (head.For lower upper stride) kind level e = ap (λ (k : LoopKind). counters_by Head (is_while k) level) (sym e)
counts-same Head (head.While condition) kind level e = ap (λ (k : LoopKind). counters_by Head (is_while k) level) (sym e)
counts-same Pre h kind level e = refl
counts-same Post h kind level e = refl

loop-strides : (l : Loop) (ls : List Loop) → loop_keeps l ls ≡ true → (k : ℕ) (m : Loop) → slice_get (l ∷ ls) k ≡ Some m → strides m.head ≡ true
loop-strides l [] keeps zero m e = let f : l ≡ m = cc in subst (λ (n : Loop). strides n.head ≡ true) f (and_parts (strides l.head) _ keeps).0
loop-strides l [] keeps (suc k) m e = absurd (cc)
loop-strides l (n ∷ ns) keeps zero m e = let f : l ≡ m = cc in subst (λ (n : Loop). strides n.head ≡ true) f (and_parts (strides l.head) (loop_keeps n ns) keeps).0
loop-strides l (n ∷ ns) keeps (suc k) m e = loop-strides n ns (and_parts (strides l.head) (loop_keeps n ns) keeps).1 k m e

all-strides : (loops : List Loop) → loops_keep loops ≡ true → (k : ℕ) (m : Loop) → slice_get loops k ≡ Some m → strides m.head ≡ true
unfolding loops_keep
all-strides [] keeps k m e = absurd (cc)
all-strides (l ∷ ls) keeps k m e = loop-strides l ls (and_parts _ (loop_keeps l ls) keeps).1 k m e

module _ (D scalars : ℕ) (loops : List Loop) (t : Table) (o : Outer) (nest : IsNest D scalars loops t) (x : Instance) (p : IsInTurns t x) where
  part : Part
  part = (block_of t x).part

  abbrev b : Block
  b = block_of t x

  abbrev pub A : Around
  A = around_of t loops o (take (counters t (block_of t x)) x.at)

  inside : x.block < length (present_blocks loops)
  inside = let e = (nest.table).count in let l = p.is.block in omega arith

  of : IsBlockOf scalars loops (get_or (present_blocks loops) x.block (block_ref Pre 0)) b
  of = (nest.table).each x.block (get_or (present_blocks loops) x.block (block_ref Pre 0)) (get-here (present_blocks loops) x.block (block_ref Pre 0) inside)

  same : get_or (present_blocks loops) x.block (block_ref Pre 0) ≡ block_ref b.part b.level
  same = ap₂ block_ref (sym of.part) (sym of.level)

  pub block-here : slice_get (present_blocks loops) x.block ≡ Some (block_ref b.part b.level)
  block-here = get-here (present_blocks loops) x.block (block_ref Pre 0) inside ∙ ap (λ (r : BlockRef). Some r) same

  pub block-is : IsBlockOf scalars loops (block_ref b.part b.level) b
  block-is = subst (λ (r : BlockRef). IsBlockOf scalars loops r b) same of

  pub loop-here : (l : Loop) × (loop_at loops b.level ≡ Some l) × IsPresentPart b.part b.level l
  loop-here = (present_blocks-have-ranks loops (block_ref b.part b.level)).1 (x.block, (ranks-are-numbers loops (block_ref b.part b.level) x.block).1 block-here)

  abbrev l : Loop
  l = loop-here.0

  some : 1 ≤ b.level
  some = ((nest.shape).blocks x.block p.is.block).from

  level-is : (b.level - 1) + 1 ≡ b.level
  level-is = omega (arith, some)

  loop-get : slice_get loops (b.level - 1) ≡ Some l
  loop-get = let e : b.level ≡ suc (b.level - 1) = omega (arith, some) in sym (ap (loop_at loops) e) ∙ loop-here.1

  pub head-here : head_at loops b.level ≡ Some l.head
  head-here = ap (option_map (λ (m : Loop). m.head)) loop-here.1

  pub counts : blocks.counters_by b.part l.head b.level ≡ counters t b
  counts =
      let e : b.level ≡ suc (b.level - 1) = omega (arith, some) in
      counts-same b.part l.head (level_at t (b.level - 1)).kind b.level
      (loop-kind-of scalars loops t nest.table (b.level - 1) l.head (sym (ap (head_at loops) e) ∙ head-here))

  pub head-same : (h : tree.Head) → head_at loops b.level ≡ Some h → l.head ≡ h
  head-same h is = let f : Some l.head ≡ Some h = sym head-here ∙ is in cc

  pub counts-by : (h : tree.Head) → head_at loops b.level ≡ Some h → b.part ≡ Head → blocks.counters_by Head h b.level ≡ counters t b
  counts-by h is e =
      let same-head : l.head ≡ h = (let f : Some l.head ≡ Some h = sym head-here ∙ is in cc) in
      ap (λ (z : tree.Head). blocks.counters_by Head z b.level) (sym same-head) ∙ ap (λ (r : Part). blocks.counters_by r l.head b.level) (sym e) ∙ counts

  pub deep-here : counters t b ≤ D
  deep-here = counters-within D t nest.shape x p.is

  pub counters-here : counters_of loops (block_ref b.part b.level) ≡ Some (counters t b)
  counters-here = ap (option_map (λ (h : tree.Head). blocks.counters_by b.part h b.level)) head-here ∙ ap (λ (n : ℕ). Some n) counts

  size : length x.at ≡ D
  size = p.is.size ∙ (nest.shape).deep

  front : length (take (counters t b) x.at) ≡ counters t b
  front = length-take-le (counters t b) x.at (omega (arith, size, counters-within D t nest.shape x p.is))

  -- the turn numbers there are the counters of the instance
  pub around-counters : A.counters ≡ take (counters t b) x.at
  unfolding around_of
  around-counters =
      inside-counters (forecast_of t) o 1 loops outside (take (counters t b) x.at)
      (omega (arith, front, depth-same scalars loops t nest.table, (nest.shape).deep, counters-within D t nest.shape x p.is))
      (fronts-up (counters t b) x.at p.turns)

  pub occurrence-here : occurrence b.part b.level A ≡ occurrence_of t x
  unfolding occurrence_of
  occurrence-here = ap (λ (cs : List ℤ). record { block = block_ref b.part b.level; counters = cs }) around-counters

  item-here : item_of (forecast_of t) o loops (occurrence_of t x) ≡ part_item b.part b.level A l
  unfolding occurrence_of around_of
  item-here =
      item-inside (forecast_of t) o 1 loops outside (take (counters t b) x.at) b.part b.level l (omega arith) some loop-get
      (omega (arith, front, counts))

  some-or : (i j : Item) (found : Option Item) → found ≡ Some i → unwrap_or found j ≡ i
  some-or i j found e = ap (λ (f : Option Item). unwrap_or f j) e

  item-is : (i : Item) → part_item b.part b.level A l ≡ Some i → item_at t loops o x ≡ i
  unfolding item_at
  item-is i e = some-or i (idle (occurrence_of t x)) (item_of (forecast_of t) o loops (occurrence_of t x)) (item-here ∙ e)

  -- an instance of a head
  pub item-head : b.part ≡ Head → item_at t loops o x ≡ item b.part b.level A (Evaluates l.head)
  item-head e = item-is (item b.part b.level A (Evaluates l.head)) (ap (λ (q : Part). part_item q b.level A l) e ∙ ap (λ (q : Part). Some (item q b.level A (Evaluates l.head))) (sym e))

  -- an instance of statements, of which there is one
  pub item-statements : (ss : List Stmt) → statements_of loops (block_ref b.part b.level) ≡ Some ss → (s : Stmt) × (rest : List Stmt) × (ss ≡ s ∷ rest) × (item_at t loops o x ≡ item b.part b.level A (Runs s rest))
  item-statements ss e = by b.part refl (loop-here.2) (ap (λ (m : Option Loop). option_and_then (statements_by b.part) m) (sym loop-here.1) ∙ e)
    where
      filled : (q : Part) (us ws : List Stmt) → us ≢ [] → us ≡ ws → ((i : Item) → part_item b.part b.level A l ≡ Some i → item_at t loops o x ≡ i) → ((s : Stmt) (rest : List Stmt) → us ≡ s ∷ rest → part_item b.part b.level A l ≡ Some (item b.part b.level A (Runs s rest)))
          → (s : Stmt) × (rest : List Stmt) × (ws ≡ s ∷ rest) × (item_at t loops o x ≡ item b.part b.level A (Runs s rest))
      filled q [] ws ne f go is = absurd (ne refl)
      filled q (s ∷ rest) ws ne f go is = (s, rest, sym f, go (item b.part b.level A (Runs s rest)) (is s rest refl))

      by : (q : Part) → b.part ≡ q → IsPresentPart b.part b.level l → statements_by b.part l ≡ Some ss → (s : Stmt) × (rest : List Stmt) × (ss ≡ s ∷ rest) × (item_at t loops o x ≡ item b.part b.level A (Runs s rest))
      by Head f there g = absurd (let h : None ≡ Some ss = sym (ap (λ (q : Part). statements_by q l) f) ∙ g in cc)
      by Pre f there g =
          filled Pre l.pre ss (subst (λ (q : Part). IsPresentPart q b.level l) f there) (let h : Some l.pre ≡ Some ss = sym (ap (λ (q : Part). statements_by q l) f) ∙ g in cc) item-is
          (λ s rest e. ap (λ (q : Part). part_item q b.level A l) f ∙ ap (λ (us : List Stmt). block_item Pre b.level A us) e ∙ ap (λ (q : Part). Some (item q b.level A (Runs s rest))) (sym f))
      by Post f there g =
          filled Post l.post ss (subst (λ (q : Part). IsPresentPart q b.level l) f there) (let h : Some l.post ≡ Some ss = sym (ap (λ (q : Part). statements_by q l) f) ∙ g in cc) item-is
          (λ s rest e. ap (λ (q : Part). part_item q b.level A l) f ∙ ap (λ (us : List Stmt). block_item Post b.level A us) e ∙ ap (λ (q : Part). Some (item q b.level A (Runs s rest))) (sym f))

  pub size-here : (ss : List Stmt) → statements_of loops (block_ref b.part b.level) ≡ Some ss → block_size ss < 2 ^ 20
  size-here ss e = by b.part (ap (λ (m : Option Loop). option_and_then (statements_by b.part) m) (sym loop-here.1) ∙ e)
    where
      some-is : {X : Type 0} (a d : X) → Some a ≡ Some d → a ≡ d
      some-is a d e = cc

      keeps : LoopKeeps scalars b.level l
      keeps = (nest.keeps).each b.level l loop-here.1

      by : (q : Part) → statements_by q l ≡ Some ss → block_size ss < 2 ^ 20
      by Head g = absurd (cc)
      by Pre g = subst (λ (us : List Stmt). block_size us < 2 ^ 20) (some-is l.pre ss g) (keeps.pre).size
      by Post g = subst (λ (us : List Stmt). block_size us < 2 ^ 20) (some-is l.post ss g) (keeps.post).size

  -- a block without statements is that of a head
  pub none-head : statements_of loops (block_ref b.part b.level) ≡ None → b.part ≡ Head
  none-head e = by b.part refl (ap (λ (m : Option Loop). option_and_then (statements_by b.part) m) (sym loop-here.1) ∙ e)
    where
      by : (q : Part) → b.part ≡ q → statements_by b.part l ≡ None → b.part ≡ Head
      by Head f g = f
      by Pre f g = absurd (let h : Some l.pre ≡ None = sym (ap (λ (q : Part). statements_by q l) f) ∙ g in cc)
      by Post f g = absurd (let h : Some l.post ≡ None = sym (ap (λ (q : Part). statements_by q l) f) ∙ g in cc)

  pub item-found : item_of (forecast_of t) o loops (occurrence_of t x) ≡ Some (item_at t loops o x)
  item-found = by (statements_of loops (block_ref b.part b.level)) refl
    where
      is-some : (i : Item) → part_item b.part b.level A l ≡ Some i → item_of (forecast_of t) o loops (occurrence_of t x) ≡ Some (item_at t loops o x)
      is-some i e = item-here ∙ e ∙ ap (λ (j : Item). Some j) (sym (item-is i e))

      block-part : (us : List Stmt) → statements_by b.part l ≡ Some us → (s : Stmt) (rest : List Stmt) → us ≡ s ∷ rest → part_item b.part b.level A l ≡ Some (item b.part b.level A (Runs s rest))
      block-part us e s rest f = at b.part refl e
        where
          same-list : (v w : List Stmt) → Some v ≡ Some w → v ≡ w
          same-list v w g = cc

          at : (q : Part) → b.part ≡ q → statements_by q l ≡ Some us → part_item b.part b.level A l ≡ Some (item b.part b.level A (Runs s rest))
          at Head g h = absurd (cc)
          at Pre g h = ap (λ (q : Part). part_item q b.level A l) g ∙ ap (λ (us : List Stmt). block_item Pre b.level A us) (same-list l.pre us h ∙ f) ∙ ap (λ (q : Part). Some (item q b.level A (Runs s rest))) (sym g)
          at Post g h = ap (λ (q : Part). part_item q b.level A l) g ∙ ap (λ (us : List Stmt). block_item Post b.level A us) (same-list l.post us h ∙ f) ∙ ap (λ (q : Part). Some (item q b.level A (Runs s rest))) (sym g)

      by : (ss : Option (List Stmt)) → statements_of loops (block_ref b.part b.level) ≡ ss → item_of (forecast_of t) o loops (occurrence_of t x) ≡ Some (item_at t loops o x)
      by None e = let h = none-head e in is-some (item b.part b.level A (Evaluates l.head)) (ap (λ (q : Part). part_item q b.level A l) h ∙ ap (λ (q : Part). Some (item q b.level A (Evaluates l.head))) (sym h))
      by (Some ss) e =
          let (s, rest, are, is) = item-statements ss e in
          is-some (item b.part b.level A (Runs s rest)) (block-part ss (ap (λ (m : Option Loop). option_and_then (statements_by b.part) m) (sym loop-here.1) ∙ e) s rest are)

  -- the accesses of what it runs are those of its block
  pub item-accesses : work_accesses (item_at t loops o x).work ≡ accesses_of loops (block_ref b.part b.level)
  item-accesses = by (statements_of loops (block_ref b.part b.level)) refl
    where
      part-is : accesses_of loops (block_ref b.part b.level) ≡ part_accesses b.part l
      part-is = ap (accesses_by b.part) loop-here.1

      same-list : (v w : List Stmt) → Some v ≡ Some w → v ≡ w
      same-list v w g = cc

      of-part : (us : List Stmt) (q : Part) → statements_by q l ≡ Some us → block_accesses us ≡ part_accesses q l
      of-part us Head e = absurd (cc)
      of-part us Pre e = ap block_accesses (sym (same-list l.pre us e))
      of-part us Post e = ap block_accesses (sym (same-list l.post us e))

      by : (ss : Option (List Stmt)) → statements_of loops (block_ref b.part b.level) ≡ ss → work_accesses (item_at t loops o x).work ≡ accesses_of loops (block_ref b.part b.level)
      by None e = let h = none-head e in ap (λ (i : Item). work_accesses i.work) (item-head h) ∙ ap (λ (q : Part). part_accesses q l) (sym h) ∙ sym part-is
      by (Some ss) e =
          let (s, rest, are, is) = item-statements ss e in
          ap (λ (i : Item). work_accesses i.work) is ∙ ap block_accesses (sym are) ∙ of-part ss b.part (ap (λ (m : Option Loop). option_and_then (statements_by b.part) m) (sym loop-here.1) ∙ e) ∙ sym part-is

  pub numbered-here : AreNumbered (accesses_of loops (block_ref b.part b.level))
  numbered-here = subst AreNumbered (sym (ap (accesses_by b.part) loop-here.1)) (by b.part)
    where
      keeps : LoopKeeps scalars b.level l
      keeps = (nest.keeps).each b.level l loop-here.1

      by : (q : Part) → AreNumbered (part_accesses q l)
      by Head = (keeps.head).accesses
      by Pre = (keeps.pre).accesses
      by Post = (keeps.post).accesses

  pub strides-here : strides l.head ≡ true
  strides-here = all-strides loops (nest.keeps).loops_keep (b.level - 1) l loop-get

  pub accesses-here : length (accesses_of loops (block_ref b.part b.level)) ≡ length b.accesses
  accesses-here = sym (length-map (accesses_of loops (block_ref b.part b.level)) (λ (a : NestAccess). is_store a.kind)) ∙ ap length (sym block-is.accesses) ∙ length-map b.accesses (λ (a : Access). a.stores)

  -- it is the instance of its block and its turn numbers
  pub item-occurrence : (item_at t loops o x).at ≡ occurrence_of t x
  item-occurrence = by (statements_of loops (block_ref b.part b.level)) refl
    where
      by : (ss : Option (List Stmt)) → statements_of loops (block_ref b.part b.level) ≡ ss → (item_at t loops o x).at ≡ occurrence_of t x
      by None e = ap (λ (i : Item). i.at) (item-head (none-head e)) ∙ occurrence-here
      by (Some ss) e = let (s, rest, are, is) = item-statements ss e in ap (λ (i : Item). i.at) is ∙ occurrence-here

  pub instance-back : instance_of t (item_at t loops o x).at ≡ x
  instance-back = ap (instance_of t) item-occurrence ∙ instance-occurrence D t nest.shape x p.is
