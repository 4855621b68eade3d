-- The table of a nest that keeps the rules is a table.
use Rattle.std.proofs.lemmas.Bool.{and_parts}
use Rattle.std.proofs.Common.{◌≡◌, refl, sym, ap, subst, ◌∙◌, ℕ, zero, suc, ◌+◌, ◌^◌, ◌<◌, ◌≤◌, Bool, true, false, not, nat_eq, nat_le, nat_lt, List, [], ◌∷◌, ◌++◌, length, map, get_or, slice_get, length-append, Option, Some, None, arith}
use Rattle.std.specs.Prelude.{is_some, if◌then◌else◌, ◌&&◌, ◌≢◌}
use Rattle.std.specs.List.{position, position_or_len}
use Rattle.std.proofs.lemmas.Bool.Decides.{nat_tests}
use Rattle.std.proofs.lemmas.List.{length-map}
use Rattle.std.proofs.lemmas.Option.{slice_get_within, slice_get-get_or}
use Rattle.nest_lang.specs.declared.tree.Access.{Access as NestAccess}
use Rattle.nest_lang.specs.declared.tree.BlockRef.{BlockRef}
use Rattle.nest_lang.specs.declared.tree.Head.{Head}
use Rattle.nest_lang.specs.declared.tree.Head.TheVariants as head
use Rattle.nest_lang.specs.declared.tree.Loop.{Loop}
use Rattle.nest_lang.specs.declared.tree.Part.{Part}
use Rattle.nest_lang.specs.declared.tree.Part.TheVariants.{Pre, Post}
use Rattle.nest_lang.specs.declared.tree.Part.TheVariants as part
use Rattle.nest_lang.specs.declared.tree.Stmt.{Stmt}
use Rattle.nest_lang.specs.Accesses.{accesses_of, accesses_by, part_accesses}
use Rattle.nest_lang.specs.Blocks.{present_blocks, outermost, opening, closing, block_if_any, block_ref, same_part, same_block, loop_at}
use Rattle.nest_lang.specs.Blocks.{rank_of as nest_rank}
use Rattle.nest_lang.specs.BlockLaws.{IsPresentHead, IsPresentPart}
use Rattle.nest_lang.specs.Rules.{strides, has_statements, loop_keeps, loops_keep, NestKeeps, LoopKeeps}
use Rattle.nest_lang.proofs.RankLaws.{Each, Rise, present-rises, ranks-are-numbers, present_blocks-have-ranks}
use Rattle.nest_lang.proofs.RankLaws.{text_place as nest_place}
use Rattle.domain.specs.declared.table.LoopKind.{LoopKind}
use Rattle.domain.specs.Tables.{Table, Access, Level, IsBlock, IsTable, Reaches, block_at, level_at, is_block, is_while, no_block, no_level, rank_of, stride_size, text_place, text_place_by}
use Rattle.domain.specs.Shapes.{IsBlockOf, IsTableOf, kind_of, is_store}
use Rattle.domain.specs.Laws.{TableOfNest, RanksOfNest}

-- ---- searches in lists of one length, where the tests agree place by place
module _ {X Y : Type 0} (p : X → Bool) (q : Y → Bool) (dx : X) (dy : Y) where
  abbrev Alike : List X → List Y → Type 0
  Alike xs ys = (k : ℕ) → k < length xs → p (get_or xs k dx) ≡ q (get_or ys k dy)

  places-alike : (xs : List X) (ys : List Y) → length xs ≡ length ys → Alike xs ys → position_or_len p xs ≡ position_or_len q ys
  places-alike [] [] e same = refl
  places-alike [] (y ∷ ys) e same = absurd (omega arith)
  places-alike (x ∷ xs) [] e same = absurd (omega arith)
  places-alike (x ∷ xs) (y ∷ ys) e same =
      let more : position_or_len p xs ≡ position_or_len q ys = places-alike xs ys (omega arith) (λ k l. same (suc k) (omega arith)) in
      let here : p x ≡ q y = same 0 (omega arith) in
      ap (λ (z : Bool). if not z then 1 + position_or_len p xs else 0) here ∙ ap (λ (n : ℕ). if not (q y) then 1 + n else 0) more

  positions-alike : (xs : List X) (ys : List Y) → length xs ≡ length ys → Alike xs ys → position p xs ≡ position q ys
  positions-alike xs ys e same =
      ap (λ (n : ℕ). if nat_lt n (length xs) then Some n else None) (places-alike xs ys e same) ∙ ap (λ (m : ℕ). if nat_lt (position_or_len q ys) m then Some (position_or_len q ys) else None) e

-- ---- lists of blocks in order
no-ref : BlockRef
no-ref = block_ref part.Head 0

each-at : (P : BlockRef → Type 0) (xs : List BlockRef) (k : ℕ) → Each P xs → k < length xs → P (get_or xs k no-ref)
each-at P [] k all h = absurd (omega arith)
each-at P (x ∷ xs) zero all h = all.0
each-at P (x ∷ xs) (suc k) all h = each-at P xs k all.1 (omega arith)

rise-at : (P : BlockRef → BlockRef → Type 0) (xs : List BlockRef) (i j : ℕ) → Rise P xs → i < j → j < length xs → P (get_or xs i no-ref) (get_or xs j no-ref)
rise-at P [] i j rise h l = absurd (omega arith)
rise-at P (x ∷ xs) i zero rise h l = absurd (omega arith)
rise-at P (x ∷ xs) zero (suc j) rise h l = each-at (P x) xs j rise.0 (omega arith)
rise-at P (x ∷ xs) (suc i) (suc j) rise h l = rise-at P xs i j rise.1 (omega arith) (omega arith)

-- ---- how many blocks there are
if-any-short : (by : Part) (level : ℕ) (block : List Stmt) → length (block_if_any by level block) ≤ 1
if-any-short by level [] = omega arith
if-any-short by level (x ∷ xs) = omega arith

opening-short : (level : ℕ) (ls : List Loop) → length (opening level ls) ≤ length ls + length ls
opening-short level [] = omega arith
opening-short level (l ∷ ls) =
    let more = opening-short (level + 1) ls in
    let one = if-any-short Pre level l.pre in
    let sum = length-append (block_if_any Pre level l.pre) (opening (level + 1) ls) in
    omega arith

closing-short : (level : ℕ) (ls : List Loop) → length (closing level ls) ≤ length ls
closing-short level [] = omega arith
closing-short level (l ∷ ls) =
    let more = closing-short (level + 1) ls in
    let one = if-any-short Post level l.post in
    let sum = length-append (closing (level + 1) ls) (block_if_any Post level l.post) in
    omega arith

outermost-short : (h : Head) → length (outermost h) ≤ 1
outermost-short (head.For lower upper stride) = omega arith
outermost-short (head.While condition) = omega arith

parts-short : (l : Loop) (ls : List Loop) → length ls ≤ 5 → length (outermost l.head ++ block_if_any Pre 1 l.pre ++ opening 2 ls ++ closing 1 (l ∷ ls)) ≤ 18
parts-short l ls few =
    let a = outermost-short l.head in
    let b = if-any-short Pre 1 l.pre in
    let c = opening-short 2 ls in
    let d = closing-short 1 (l ∷ ls) in
    let s = length-append (outermost l.head ++ block_if_any Pre 1 l.pre ++ opening 2 ls) (closing 1 (l ∷ ls)) in
    let u = length-append (outermost l.head ++ block_if_any Pre 1 l.pre) (opening 2 ls) in
    let v = length-append (outermost l.head) (block_if_any Pre 1 l.pre) in
    omega arith

present-short : (l : Loop) (ls : List Loop) → length ls ≤ 5 → length (present_blocks (l ∷ ls)) ≤ 18
unfolding present_blocks
present-short l ls few = parts-short l ls few

-- ---- rules of loops
last-keeps : (l : Loop) (ls : List Loop) → loop_keeps l ls ≡ true → (m : Loop) × (slice_get (l ∷ ls) (length ls) ≡ Some m) × (m.pre ≢ [])
last-keeps l [] h = (l, refl, λ none. absurd (let e = ap has_statements none in let k = (and_parts (strides l.head) (has_statements l.pre) h).1 in cc))
last-keeps l (x ∷ ls) h = let p = last-keeps x ls (and_parts (strides l.head) (loop_keeps x ls) h).1 in (p.0, p.1, p.2)

keeps-few : (l : Loop) (ls : List Loop) → loops_keep (l ∷ ls) ≡ true → (length ls ≤ 5) × (loop_keeps l ls ≡ true)
unfolding loops_keep
keeps-few l ls h = let p = and_parts (nat_le (length ls) 5) (loop_keeps l ls) h in let t = p.0 in (grind (arith, nat_tests), p.1)

keeps-none : loops_keep [] ≡ true → ⊥
unfolding loops_keep
keeps-none h = cc

loop_at-within : (loops : List Loop) (level : ℕ) (l : Loop) → loop_at loops level ≡ Some l → (1 ≤ level) × (level ≤ length loops)
loop_at-within loops zero l e = absurd (cc)
loop_at-within loops (suc n) l e = let h = slice_get_within loops n l e in (omega arith, omega arith)

kind-first : (levels : List Level) (l : Loop) (ls : List Loop) → map (λ (x : Level). x.kind) levels ≡ map (λ (x : Loop). kind_of x.head) (l ∷ ls) → (get_or levels 0 no_level).kind ≡ kind_of l.head
kind-first [] l ls e = absurd (cc)
kind-first (x ∷ levels) l ls e = cc

places-same : (D : ℕ) (by : Part) (level : ℕ) → text_place_by D by level ≡ nest_place D by level
places-same D part.Head level = refl
places-same D part.Pre level = refl
places-same D part.Post level = refl

-- ---- the blocks of the table of a nest
module _ (scalars : ℕ) (loops : List Loop) (t : Table) (of : IsTableOf scalars loops t) where
  abbrev named : ℕ → BlockRef
  named rank = get_or (present_blocks loops) rank no-ref

  found : (rank : ℕ) → rank < length t.blocks → slice_get (present_blocks loops) rank ≡ Some (named rank)
  found rank h = slice_get-get_or (present_blocks loops) rank no-ref (let e = of.count in omega arith)

  is : (rank : ℕ) → rank < length t.blocks → IsBlockOf scalars loops (named rank) (block_at t rank)
  is rank h = of.each rank (named rank) (found rank h)

  pub ranks-same : (by : Part) (level : ℕ) → rank_of t by level ≡ nest_rank loops (block_ref by level)
  ranks-same by level =
      positions-alike (is_block by level) (λ (b : BlockRef). same_block b (block_ref by level)) no_block no-ref t.blocks (present_blocks loops) of.count
      (λ k h. let b = is k h in ap (λ (z : Part). same_part z by && nat_eq (block_at t k).level level) b.part ∙ ap (λ (n : ℕ). same_part (named k).part by && nat_eq n level) b.level)

  present : (rank : ℕ) → rank < length t.blocks → (l : Loop) × (loop_at loops (named rank).level ≡ Some l) × IsPresentPart (named rank).part (named rank).level l
  present rank h = (present_blocks-have-ranks loops (named rank)).1 (rank, (ranks-are-numbers loops (named rank) rank).1 (found rank h))

  ranked : (by : Part) (level : ℕ) (l : Loop) → loop_at loops level ≡ Some l → IsPresentPart by level l → is_some (rank_of t by level) ≡ true
  ranked by level l e h =
      let r = (present_blocks-have-ranks loops (block_ref by level)).0 (l, e, h) in
      ap (λ (o : Option ℕ). is_some o) (ranks-same by level ∙ r.1)

pub ranks_of_nest : RanksOfNest
ranks_of_nest scalars loops t by level of = ranks-same scalars loops t of by level

-- ---- the accesses of a block
part-accesses-short : (scalars level : ℕ) (l : Loop) (by : Part) → LoopKeeps scalars level l → length (part_accesses by l) ≤ 64
part-accesses-short scalars level l part.Head k = k.head.accesses.1
part-accesses-short scalars level l part.Pre k = k.pre.accesses.1
part-accesses-short scalars level l part.Post k = k.post.accesses.1

-- a block of a nest that keeps the rules has at most 64 accesses
pub accesses-short : (scalars : ℕ) (loops : List Loop) (rank : ℕ) (block : BlockRef) → NestKeeps scalars loops → slice_get (present_blocks loops) rank ≡ Some block → length (accesses_of loops block) ≤ 64
accesses-short scalars loops rank block keeps e =
    let p = (present_blocks-have-ranks loops block).1 (rank, (ranks-are-numbers loops block rank).1 e) in
    subst (λ (o : Option Loop). length (accesses_by block.part o) ≤ 64) (sym p.1) (part-accesses-short scalars block.level p.0 block.part (keeps.each block.level p.0 p.1))

-- ---- the table of a nest that keeps the rules
module _ (scalars : ℕ) (few : scalars ≤ 16) (l : Loop) (ls : List Loop) (t : Table) (keeps : NestKeeps scalars (l ∷ ls)) (of : IsTableOf scalars (l ∷ ls) t) where
  abbrev D : ℕ
  D = suc (length ls)

  abbrev all : List Loop
  all = l ∷ ls

  abbrev ref-of : ℕ → BlockRef
  ref-of rank = named scalars all t of rank

  outer-post : (by : Part) (level : ℕ) (m : Loop) → loop_at all level ≡ Some m → IsPresentPart by level m → by ≡ Post → level < D
  outer-post part.Head level m e h is = absurd (cc)
  outer-post part.Pre level m e h is = absurd (cc)
  outer-post part.Post level m e h is = at (nat_eq level D) refl
    where
      within : level ≤ D
      within = (loop_at-within all level m e).1

      at : (z : Bool) → nat_eq level D ≡ z → level < D
      at true q =
          let last : level ≡ D = grind (arith, nat_tests) in
          absurd (h (keeps.innermost m (ap (loop_at all) (sym last) ∙ e)))
      at false q = let w = within in grind (arith, nat_tests)

  block : (rank : ℕ) → rank < length t.blocks → IsBlock D (block_at t rank)
  block rank h =
      let b = is scalars all t of rank h in
      let p = present scalars all t of rank h in
      let range = loop_at-within all (ref-of rank).level p.0 p.1 in
      let short : length (accesses_of all (ref-of rank)) ≤ 64 =
      subst (λ (o : Option Loop). length (accesses_by (ref-of rank).part o) ≤ 64) (sym p.1) (part-accesses-short scalars (ref-of rank).level p.0 (ref-of rank).part (keeps.each (ref-of rank).level p.0 p.1)) in
      let count : length (block_at t rank).accesses ≡ length (accesses_of all (ref-of rank)) =
      sym (length-map (block_at t rank).accesses (λ (a : Access). a.stores)) ∙ ap (λ (xs : List Bool). length xs) b.accesses ∙ length-map (accesses_of all (ref-of rank)) (λ (a : NestAccess). is_store a.kind) in
      record {
        from = subst (λ (n : ℕ). 1 ≤ n) (sym b.level) range.0;
        to = subst (λ (n : ℕ). n ≤ D) (sym b.level) range.1;
        scalars = subst (λ (n : ℕ). n ≤ 16) (sym b.forms) few;
        accesses = omega arith;
        outer = λ post. subst (λ (n : ℕ). n < D) (sym b.level) (outer-post (ref-of rank).part (ref-of rank).level p.0 p.1 p.2 (sym b.part ∙ post));
      }

  place : (rank : ℕ) → rank < length t.blocks → text_place D (block_at t rank) ≡ nest_place D (ref-of rank).part (ref-of rank).level
  place rank h =
      let b = is scalars all t of rank h in
      ap (λ (z : Part). text_place_by D z (block_at t rank).level) b.part ∙ ap (text_place_by D (ref-of rank).part) b.level ∙ places-same D (ref-of rank).part (ref-of rank).level

  rising : (i j : ℕ) → i < j → j < length t.blocks → text_place D (block_at t i) < text_place D (block_at t j)
  rising i j h within =
      let less = rise-at (λ (a b : BlockRef). nest_place D a.part a.level < nest_place D b.part b.level) (present_blocks all) i j (present-rises D l ls refl) h (let e = of.count in omega arith) in
      let a = place i (omega arith) in
      let b = place j within in
      omega arith

  inner-head : (h : Head) (level : ℕ) → 2 ≤ level → IsPresentHead h level
  inner-head (head.For lower upper stride) level h = h
  inner-head (head.While condition) level h = omega arith

  heads : (level : ℕ) → 2 ≤ level → level ≤ D → is_some (rank_of t part.Head level) ≡ true
  heads zero h k = absurd (omega arith)
  heads (suc n) h k =
      let e : loop_at all (suc n) ≡ Some (get_or all n l) = slice_get-get_or all n l (omega arith) in
      ranked scalars all t of part.Head (suc n) (get_or all n l) e (inner-head (get_or all n l).head (suc n) h)

  outermost-ranked : (h : Head) → l.head ≡ h → is_some (rank_of t part.Head 1) ≡ is_while (kind_of h)
  outermost-ranked (head.While condition) e = ranked scalars all t of part.Head 1 l refl (subst (λ (h : Head). IsPresentHead h 1) (sym e) (omega arith))
  outermost-ranked (head.For lower upper stride) e = at (nest_rank all (block_ref part.Head 1)) refl
    where
      at : (o : Option ℕ) → nest_rank all (block_ref part.Head 1) ≡ o → is_some (rank_of t part.Head 1) ≡ false
      at None q = ap (λ (o : Option ℕ). is_some o) (ranks-same scalars all t of part.Head 1 ∙ q)
      at (Some r) q =
          let p = (present_blocks-have-ranks all (block_ref part.Head 1)).1 (r, q) in
          let first : l ≡ p.0 = (let f = p.1 in cc) in
          let two : 2 ≤ 1 = subst (λ (h : Head). IsPresentHead h 1) (ap (λ (z : Loop). z.head) (sym first) ∙ e) p.2 in
          absurd (omega arith)

  body : is_some (rank_of t part.Pre D) ≡ true
  body = let q = last-keeps l ls (keeps-few l ls keeps.loops_keep).1 in ranked scalars all t of part.Pre D q.0 q.1 q.2

  table : ((k : ℕ) → stride_size (level_at t k).kind ≤ 2 ^ 63) → ((k : ℕ) → Reaches (stride_size (level_at t k).kind) (level_at t k).trip) → IsTable D t
  table strides reach =
      let shallow = (keeps-few l ls keeps.loops_keep).0 in
      let deep : length t.levels ≡ D = sym (length-map t.levels (λ (x : Level). x.kind)) ∙ ap (λ (xs : List LoopKind). length xs) of.levels ∙ length-map all (λ (x : Loop). kind_of x.head) in
      let short = present-short l ls shallow in
      record {
        deep = deep;
        some = omega arith;
        few = omega arith;
        short = subst (λ (n : ℕ). n ≤ 18) (sym of.count) short;
        blocks = block;
        rising = rising;
        heads = heads;
        outermost = outermost-ranked l.head refl ∙ ap is_while (sym (kind-first t.levels l ls of.levels));
        body = body;
        strides = strides;
        reach = reach;
      }

pub table_of_nest : TableOfNest
table_of_nest scalars [] t few keeps of strides reach = absurd (keeps-none keeps.loops_keep)
table_of_nest scalars (l ∷ ls) t few keeps of strides reach = table scalars few l ls t keeps of strides reach
