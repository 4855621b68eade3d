-- The ranks of blocks: the present blocks stand in the order of their places in the text, so each once.
use Rattle.std.proofs.Common.{◌≡◌, refl, ap, ◌∙◌, sym, subst, ℕ, zero, suc, ◌+◌, ◌-◌, ◌<◌, ◌≤◌, ◌⊎◌, inl, inr, Bool, true, false, not, nat_eq, nat_lt, List, [], ◌∷◌, ◌++◌, length, get_or, slice_get, Some, None, arith}
use Rattle.std.specs.Prelude.{if◌then◌else◌, ◌&&◌, ◌≢◌}
use Rattle.std.specs.List.{position, position_or_len, prefix_len}
use Rattle.std.proofs.lemmas.Bool.Decides.{nat_tests}
use Rattle.std.proofs.lemmas.List.Quantifiers.{position-Some}
use Rattle.std.proofs.lemmas.Option.{slice_get_within, slice_get-get_or}
use Rattle.nest_lang.specs.declared.tree.Stmt.{Stmt}
use Rattle.nest_lang.specs.declared.tree.Head.{Head}
use Rattle.nest_lang.specs.declared.tree.Head.TheVariants.{For, While}
use Rattle.nest_lang.specs.declared.tree.Loop.{Loop}
use Rattle.nest_lang.specs.declared.tree.Part.{Part}
use Rattle.nest_lang.specs.declared.tree.Part.TheVariants as part
use Rattle.nest_lang.specs.declared.tree.BlockRef.{BlockRef}
use Rattle.nest_lang.specs.Blocks.{present_blocks, outermost, opening, closing, block_if_any, block_ref, same_part, same_block, rank_of, loop_at}
use Rattle.nest_lang.specs.BlockLaws.{IsPresentHead, IsPresentPart, PresentBlocksHaveRanks, RanksAreNumbers}
use Rattle.std.proofs.lemmas.Bool.{and_parts}
use Rattle.plain_lemmas.specs.Lists.{Has}
use Rattle.plain_lemmas.proofs.MembershipLaws.{has-cases, has-left, has-right}

pub same_part-self : (a : Part) → same_part a a ≡ true
same_part-self part.Head = refl
same_part-self part.Pre = refl
same_part-self part.Post = refl

pub same_part-exact : (a b : Part) → same_part a b ≡ true → a ≡ b
same_part-exact part.Head part.Head h = refl
same_part-exact part.Pre part.Pre h = refl
same_part-exact part.Post part.Post h = refl
same_part-exact part.Head part.Pre h = absurd (cc)
same_part-exact part.Head part.Post h = absurd (cc)
same_part-exact part.Pre part.Head h = absurd (cc)
same_part-exact part.Pre part.Post h = absurd (cc)
same_part-exact part.Post part.Head h = absurd (cc)
same_part-exact part.Post part.Pre h = absurd (cc)

pub same_block-self : (b : BlockRef) → same_block b b ≡ true
same_block-self b =
    let even : nat_eq b.level b.level ≡ true = grind (arith, nat_tests) in
    ap (λ (z : Bool). z && nat_eq b.level b.level) (same_part-self b.part) ∙ even

pub same_block-exact : (a b : BlockRef) → same_block a b ≡ true → a ≡ b
same_block-exact a b h =
    let t = and_parts (same_part a.part b.part) (nat_eq a.level b.level) h in
    let level : a.level ≡ b.level = let e = t.1 in grind (arith, nat_tests) in
    ap (λ (z : Part). block_ref z a.level) (same_part-exact a.part b.part t.0) ∙ ap (block_ref b.part) level

abbrev pub Each : (BlockRef → Type 0) → List BlockRef → Type 0
Each P [] = Unit {0}
Each P (x ∷ xs) = P x × Each P xs

has-get : (xs : List BlockRef) (r : ℕ) (b : BlockRef) → slice_get xs r ≡ Some b → Has xs b
has-get [] r b e = absurd (cc)
has-get (x ∷ xs) zero b e = inl (cc)
has-get (x ∷ xs) (suc r) b e = inr (has-get xs r b e)

get-has : (xs : List BlockRef) (b : BlockRef) → Has xs b → (r : ℕ) × (slice_get xs r ≡ Some b)
get-has [] b h = absurd h
get-has (x ∷ xs) b (inl e) = (0, ap (λ (z : BlockRef). Some z) (sym e))
get-has (x ∷ xs) b (inr h) = let p = get-has xs b h in (suc p.0, p.1)

each-has : (P : BlockRef → Type 0) (xs : List BlockRef) (b : BlockRef) → Each P xs → Has xs b → P b
each-has P [] b all h = absurd h
each-has P (y ∷ ys) b all (inl e) = subst P (sym e) all.0
each-has P (y ∷ ys) b all (inr h) = each-has P ys b all.1 h

each-append : (P : BlockRef → Type 0) (xs ys : List BlockRef) → Each P xs → Each P ys → Each P (xs ++ ys)
each-append P [] ys a b = b
each-append P (x ∷ xs) ys a b = (a.0, each-append P xs ys a.1 b)

each-map : (P Q : BlockRef → Type 0) (xs : List BlockRef) → ((x : BlockRef) → P x → Q x) → Each P xs → Each Q xs
each-map P Q [] go a = tt
each-map P Q (x ∷ xs) go a = (go x a.0, each-map P Q xs go a.1)

-- each block of a list stands before those behind it
abbrev pub Rise : (BlockRef → BlockRef → Type 0) → List BlockRef → Type 0
Rise P [] = Unit {0}
Rise P (x ∷ xs) = Each (P x) xs × Rise P xs

-- the place of a block in the text of a nest of D loops
abbrev pub text_place : ℕ → Part → ℕ → ℕ
text_place D part.Head level = level + level
text_place D part.Pre level = level + level + 1
text_place D part.Post level = D + D + D + 3 - level

module _ (D : ℕ) where
  abbrev place : BlockRef → ℕ
  place b = text_place D b.part b.level

  abbrev Above : BlockRef → BlockRef → Type 0
  Above a b = place a < place b

  pub same_block-above : (a b : BlockRef) → Above a b → same_block a b ≡ false
  same_block-above a b h = at (same_block a b) refl
    where
      at : (z : Bool) → same_block a b ≡ z → same_block a b ≡ false
      at false e = e
      at true e = absurd (let even = ap place (same_block-exact a b e) in omega (arith, h, even))

  -- the present blocks stand in the order of their places
  abbrev Between : ℕ → ℕ → BlockRef → Type 0
  Between low high b = (low ≤ place b) × (place b ≤ high)

  abbrev Blocks : ℕ → ℕ → List BlockRef → Type 0
  Blocks low high xs = Rise Above xs × Each (Between low high) xs

  blocks-append : (low mid high : ℕ) (xs ys : List BlockRef) → low ≤ suc mid → mid ≤ high → Blocks low mid xs → Blocks (suc mid) high ys → Blocks low high (xs ++ ys)
  blocks-append low mid high xs ys h i a b = (
    ordered xs a.0 a.1,
    each-append (Between low high) xs ys
        (each-map (Between low mid) (Between low high) xs (λ x k. let k0 = k.0 in let k1 = k.1 in (k.0, omega (arith, k1, i))) a.1)
        (each-map (Between (suc mid) high) (Between low high) ys (λ x k. let k0 = k.0 in (omega (arith, k0, h), k.1)) b.1),
  )
    where
      ordered : (zs : List BlockRef) → Rise Above zs → Each (Between low mid) zs → Rise Above (zs ++ ys)
      ordered [] o all = b.0
      ordered (z ∷ zs) o all =
          (each-append (Above z) zs ys o.0 (each-map (Between (suc mid) high) (Above z) ys (λ y k. let top = all.0.1 in let k0 = k.0 in omega (arith, top, k0)) b.1), ordered zs o.1 all.1)

  any-blocks : (by : Part) (level : ℕ) (block : List Stmt) (low high : ℕ) → low ≤ text_place D by level → text_place D by level ≤ high → Blocks low high (block_if_any by level block)
  any-blocks by level [] low high h i = (tt, tt)
  any-blocks by level (x ∷ xs) low high h i = ((tt, tt), ((h, i), tt))

  opening-blocks : (ls : List Loop) (level : ℕ) → level + length ls ≡ D + 1 → Blocks (level + level) (D + D + 1) (opening level ls)
  opening-blocks [] level deep = (tt, tt)
  opening-blocks (l ∷ ls) level deep =
      let more = opening-blocks ls (level + 1) (omega (arith, deep)) in
      let rest : Blocks (suc (level + level)) (D + D + 1) (block_if_any part.Pre level l.pre ++ opening (level + 1) ls) =
      blocks-append (suc (level + level)) (level + level + 1) (D + D + 1) (block_if_any part.Pre level l.pre) (opening (level + 1) ls) (omega arith) (omega (arith, deep))
      (any-blocks part.Pre level l.pre (suc (level + level)) (level + level + 1) (omega arith) (omega arith))
      (subst (λ (n : ℕ). Blocks n (D + D + 1) (opening (level + 1) ls)) (let e : level + 1 + (level + 1) ≡ suc (level + level + 1) = omega arith in e) more) in
      blocks-append (level + level) (level + level) (D + D + 1) (block_ref part.Head level ∷ []) (block_if_any part.Pre level l.pre ++ opening (level + 1) ls) (omega arith) (omega (arith, deep))
      ((tt, tt), ((omega arith, omega arith), tt)) rest

  closing-blocks : (ls : List Loop) (level : ℕ) → level + length ls ≡ D + 1 → Blocks (D + D + 2) (D + D + D + 3 - level) (closing level ls)
  closing-blocks [] level deep = (tt, tt)
  closing-blocks (l ∷ ls) level deep =
      blocks-append (D + D + 2) (D + D + D + 3 - (level + 1)) (D + D + D + 3 - level) (closing (level + 1) ls) (block_if_any part.Post level l.post) (omega (arith, deep)) (omega arith)
      (closing-blocks ls (level + 1) (omega (arith, deep)))
      (any-blocks part.Post level l.post (suc (D + D + D + 3 - (level + 1))) (D + D + D + 3 - level) (omega (arith, deep)) (omega arith))

  outermost-blocks : (h : Head) → Blocks 2 2 (outermost h)
  outermost-blocks (For lower upper stride) = (tt, tt)
  outermost-blocks (While condition) = ((tt, tt), ((omega arith, omega arith), tt))

  pub present-rises : (l : Loop) (ls : List Loop) → suc (length ls) ≡ D → Rise Above (present_blocks (l ∷ ls))
  unfolding present_blocks
  present-rises l ls deep =
      (blocks-append 2 (D + D + 1) (D + D + D + 3 - 1) (outermost l.head ++ block_if_any part.Pre 1 l.pre ++ opening 2 ls) (closing 1 (l ∷ ls)) (omega arith) (omega (arith, deep))
      (blocks-append 2 3 (D + D + 1) (outermost l.head ++ block_if_any part.Pre 1 l.pre) (opening 2 ls) (omega arith) (omega (arith, deep))
      (blocks-append 2 2 3 (outermost l.head) (block_if_any part.Pre 1 l.pre) (omega arith) (omega arith) (outermost-blocks l.head) (any-blocks part.Pre 1 l.pre 3 3 (omega arith) (omega arith)))
      (opening-blocks ls 2 (omega (arith, deep))))
      (subst (λ (n : ℕ). Blocks n (D + D + D + 3 - 1) (closing 1 (l ∷ ls))) (let e : D + D + 2 ≡ suc (D + D + 1) = omega arith in e) (closing-blocks (l ∷ ls) 1 (omega (arith, deep))))).0

  -- in a list that rises, a block stands at one place
  place-rises : (xs : List BlockRef) (r : ℕ) (b : BlockRef) → Rise Above xs → slice_get xs r ≡ Some b → position_or_len (λ (x : BlockRef). same_block x b) xs ≡ r
  place-rises [] r b rise e = absurd (cc)
  place-rises (x ∷ xs) zero b rise e =
      let is : x ≡ b = cc in
      let here : same_block x b ≡ true = subst (λ (z : BlockRef). same_block x z ≡ true) is (same_block-self x) in
      ap (λ (z : Bool). if not z then 1 + prefix_len (λ (y : BlockRef). not (same_block y b)) xs else 0) here
  place-rises (x ∷ xs) (suc r) b rise e =
      let above : Above x b = each-has (Above x) xs b rise.0 (has-get xs r b e) in
      let more = place-rises xs r b rise.1 e in
      let next : position_or_len (λ (y : BlockRef). same_block y b) (x ∷ xs) ≡ 1 + position_or_len (λ (y : BlockRef). same_block y b) xs =
      ap (λ (z : Bool). if not z then 1 + prefix_len (λ (y : BlockRef). not (same_block y b)) xs else 0) (same_block-above x b above) in
      next ∙ (let s : 1 + position_or_len (λ (y : BlockRef). same_block y b) xs ≡ suc r = omega (arith, more) in s)

  position-rises : (xs : List BlockRef) (r : ℕ) (b : BlockRef) → Rise Above xs → slice_get xs r ≡ Some b → position (λ (x : BlockRef). same_block x b) xs ≡ Some r
  position-rises xs r b rise e =
      let at = place-rises xs r b rise e in
      let within : r < length xs = slice_get_within xs r b e in
      let less : nat_lt r (length xs) ≡ true = grind (arith, within) in
      ap (λ (n : ℕ). if nat_lt n (length xs) then Some n else None) at ∙ ap (λ (z : Bool). if z then Some r else None) less

position-get : (xs : List BlockRef) (r : ℕ) (b : BlockRef) → position (λ (x : BlockRef). same_block x b) xs ≡ Some r → slice_get xs r ≡ Some b
position-get xs r b e =
    let found = position-Some (λ (x : BlockRef). same_block x b) xs r b e in
    slice_get-get_or xs r b found.0 ∙ ap (λ (z : BlockRef). Some z) (same_block-exact (get_or xs r b) b found.1)

present_blocks-none : (r : ℕ) (b : BlockRef) → slice_get (present_blocks []) r ≡ Some b → ⊥
unfolding present_blocks
present_blocks-none r b e = cc

position-present : (loops : List Loop) (r : ℕ) (b : BlockRef) → slice_get (present_blocks loops) r ≡ Some b → rank_of loops b ≡ Some r
position-present [] r b e = absurd (present_blocks-none r b e)
position-present (l ∷ ls) r b e = position-rises (suc (length ls)) (present_blocks (l ∷ ls)) r b (present-rises (suc (length ls)) l ls refl) e

pub ranks-are-numbers : RanksAreNumbers
ranks-are-numbers loops b r = (position-get (present_blocks loops) r b, position-present loops r b)

-- the blocks of the loops inside, by the loop at their level
has-if-any : (by : Part) (level : ℕ) (block : List Stmt) → block ≢ [] → Has (block_if_any by level block) (block_ref by level)
has-if-any by level [] some = absurd (some refl)
has-if-any by level (x ∷ xs) some = inl refl

if-any-has : (by : Part) (level : ℕ) (block : List Stmt) (b : BlockRef) → Has (block_if_any by level block) b → (b ≡ block_ref by level) × (block ≢ [])
if-any-has by level [] b h = absurd h
if-any-has by level (x ∷ xs) b (inl e) = (e, λ none. absurd (cc))
if-any-has by level (x ∷ xs) b (inr h) = absurd h

abbrev Opens : Part → Loop → Type 0
Opens part.Head l = Unit {0}
Opens part.Pre l = l.pre ≢ []
Opens part.Post l = ⊥

has-opening : (ls : List Loop) (level n : ℕ) (l : Loop) (by : Part) → slice_get ls n ≡ Some l → Opens by l → Has (opening level ls) (block_ref by (level + n))
has-opening [] level n l by e h = absurd (cc)
has-opening (m ∷ ls) level zero l by e h =
    let is : m ≡ l = cc in
    let here : level + 0 ≡ level = omega arith in
    rw here (subst (λ (z : Loop). Has (opening level (z ∷ ls)) (block_ref by level)) (sym is) (at by h))
  where
    at : (by : Part) → Opens by l → Has (opening level (l ∷ ls)) (block_ref by level)
    at part.Head h = inl refl
    at part.Pre h = inr (has-left (block_if_any part.Pre level l.pre) (opening (level + 1) ls) (block_ref part.Pre level) (has-if-any part.Pre level l.pre h))
    at part.Post h = absurd h
has-opening (m ∷ ls) level (suc n) l by e h =
    let deeper : level + suc n ≡ level + 1 + n = omega arith in
    rw deeper (inr (has-right (block_if_any part.Pre level m.pre) (opening (level + 1) ls) (block_ref by (level + 1 + n)) (has-opening ls (level + 1) n l by e h)))

has-closing : (ls : List Loop) (level n : ℕ) (l : Loop) → slice_get ls n ≡ Some l → l.post ≢ [] → Has (closing level ls) (block_ref part.Post (level + n))
has-closing [] level n l e h = absurd (cc)
has-closing (m ∷ ls) level zero l e h =
    let is : m ≡ l = cc in
    let here : level + 0 ≡ level = omega arith in
    rw here (has-right (closing (level + 1) ls) (block_if_any part.Post level m.post) (block_ref part.Post level)
    (subst (λ (z : Loop). Has (block_if_any part.Post level z.post) (block_ref part.Post level)) (sym is) (has-if-any part.Post level l.post h)))
has-closing (m ∷ ls) level (suc n) l e h =
    let deeper : level + suc n ≡ level + 1 + n = omega arith in
    rw deeper (has-left (closing (level + 1) ls) (block_if_any part.Post level m.post) (block_ref part.Post (level + 1 + n)) (has-closing ls (level + 1) n l e h))

-- and the other way round
record Opened (level : ℕ) (ls : List Loop) (b : BlockRef) : Type 0 where
  at : ℕ
  loop : Loop
  found : slice_get ls at ≡ Some loop
  level-is : b.level ≡ level + at
  opens : Opens b.part loop

opening-has : (ls : List Loop) (level : ℕ) (b : BlockRef) → Has (opening level ls) b → Opened level ls b
opening-has [] level b h = absurd h
opening-has (l ∷ ls) level b (inl e) =
    let here : level ≡ level + 0 = omega arith in
    record { at = 0; loop = l; found = refl; level-is = ap (λ (z : BlockRef). z.level) e ∙ here; opens = subst (λ (z : BlockRef). Opens z.part l) (sym e) tt }
opening-has (l ∷ ls) level b (inr h) = by (opening-has ls (level + 1) b) (has-cases (block_if_any part.Pre level l.pre) (opening (level + 1) ls) b h)
  where
    by : (Has (opening (level + 1) ls) b → Opened (level + 1) ls b) → Has (block_if_any part.Pre level l.pre) b ⊎ Has (opening (level + 1) ls) b → Opened level (l ∷ ls) b
    by go (inl k) =
        let q = if-any-has part.Pre level l.pre b k in
        let here : level ≡ level + 0 = omega arith in
        record { at = 0; loop = l; found = refl; level-is = ap (λ (z : BlockRef). z.level) q.0 ∙ here; opens = subst (λ (z : BlockRef). Opens z.part l) (sym q.0) q.1 }
    by go (inr k) =
        let q = go k in
        let deeper : level + 1 + q.at ≡ level + suc q.at = omega arith in
        record { at = suc q.at; loop = q.loop; found = q.found; level-is = q.level-is ∙ deeper; opens = q.opens }

record Closed (level : ℕ) (ls : List Loop) (b : BlockRef) : Type 0 where
  at : ℕ
  loop : Loop
  found : slice_get ls at ≡ Some loop
  is : b ≡ block_ref part.Post (level + at)
  some : loop.post ≢ []

closing-has : (ls : List Loop) (level : ℕ) (b : BlockRef) → Has (closing level ls) b → Closed level ls b
closing-has [] level b h = absurd h
closing-has (l ∷ ls) level b h = by (closing-has ls (level + 1) b) (has-cases (closing (level + 1) ls) (block_if_any part.Post level l.post) b h)
  where
    by : (Has (closing (level + 1) ls) b → Closed (level + 1) ls b) → Has (closing (level + 1) ls) b ⊎ Has (block_if_any part.Post level l.post) b → Closed level (l ∷ ls) b
    by go (inl k) =
        let q = go k in
        let deeper : level + 1 + q.at ≡ level + suc q.at = omega arith in
        record { at = suc q.at; loop = q.loop; found = q.found; is = q.is ∙ ap (block_ref part.Post) deeper; some = q.some }
    by go (inr k) =
        let q = if-any-has part.Post level l.post b k in
        let here : level ≡ level + 0 = omega arith in
        record { at = 0; loop = l; found = refl; is = q.0 ∙ ap (block_ref part.Post) here; some = q.1 }

-- a block that is present
abbrev IsPresent : List Loop → BlockRef → Type 0
IsPresent loops b = (l : Loop) × (loop_at loops b.level ≡ Some l) × IsPresentPart b.part b.level l

module _ (l : Loop) (ls : List Loop) where
  abbrev front : List BlockRef
  front = outermost l.head ++ block_if_any part.Pre 1 l.pre ++ opening 2 ls

  has-outermost : (h : Head) → IsPresentHead h 1 → Has (outermost h) (block_ref part.Head 1)
  has-outermost (For lower upper stride) k = absurd (omega (arith, k))
  has-outermost (While condition) k = inl refl

  outermost-has : (h : Head) (b : BlockRef) → Has (outermost h) b → (b ≡ block_ref part.Head 1) × IsPresentHead h 1
  outermost-has (For lower upper stride) b k = absurd k
  outermost-has (While condition) b (inl e) = (e, omega arith)
  outermost-has (While condition) b (inr k) = absurd k

  in-front : (b : BlockRef) → Has (outermost l.head ++ block_if_any part.Pre 1 l.pre) b → Has (front ++ closing 1 (l ∷ ls)) b
  in-front b k = has-left front (closing 1 (l ∷ ls)) b (has-left (outermost l.head ++ block_if_any part.Pre 1 l.pre) (opening 2 ls) b k)

  inside : (b : BlockRef) → Has (opening 2 ls) b → Has (front ++ closing 1 (l ∷ ls)) b
  inside b k = has-left front (closing 1 (l ∷ ls)) b (has-right (outermost l.head ++ block_if_any part.Pre 1 l.pre) (opening 2 ls) b k)

  has-present-part : (by : Part) (level : ℕ) (m : Loop) → loop_at (l ∷ ls) level ≡ Some m → IsPresentPart by level m → Has (front ++ closing 1 (l ∷ ls)) (block_ref by level)
  has-present-part by zero m e h = absurd (cc)
  has-present-part part.Head (suc zero) m e h =
      let is : l ≡ m = cc in
      in-front (block_ref part.Head 1) (has-left (outermost l.head) (block_if_any part.Pre 1 l.pre) (block_ref part.Head 1) (has-outermost l.head (subst (λ (z : Loop). IsPresentHead z.head 1) (sym is) h)))
  has-present-part part.Pre (suc zero) m e h =
      let is : l ≡ m = cc in
      in-front (block_ref part.Pre 1) (has-right (outermost l.head) (block_if_any part.Pre 1 l.pre) (block_ref part.Pre 1) (has-if-any part.Pre 1 l.pre (subst (λ (z : Loop). z.pre ≢ []) (sym is) h)))
  has-present-part part.Post (suc n) m e h =
      let one : 1 + n ≡ suc n = omega arith in
      has-right front (closing 1 (l ∷ ls)) (block_ref part.Post (suc n)) (rw one at (has-closing (l ∷ ls) 1 n m e h))
  has-present-part part.Head (suc (suc n)) m e h =
      let two : 2 + n ≡ suc (suc n) = omega arith in
      inside (block_ref part.Head (suc (suc n))) (rw two at (has-opening ls 2 n m part.Head e tt))
  has-present-part part.Pre (suc (suc n)) m e h =
      let two : 2 + n ≡ suc (suc n) = omega arith in
      inside (block_ref part.Pre (suc (suc n))) (rw two at (has-opening ls 2 n m part.Pre e h))

  opened-head : (h : Head) (n : ℕ) → IsPresentHead h (2 + n)
  opened-head (For lower upper stride) n = omega arith
  opened-head (While condition) n = omega arith

  opened-present : (by : Part) (level : ℕ) (m : Loop) (n : ℕ) → slice_get ls n ≡ Some m → level ≡ 2 + n → Opens by m → IsPresent (l ∷ ls) (block_ref by level)
  opened-present by level m n found is h =
      let two : 2 + n ≡ suc (suc n) = omega arith in
      subst (λ (k : ℕ). IsPresent (l ∷ ls) (block_ref by k)) (sym two ∙ sym is) (m, found, at by h)
    where
      at : (by : Part) → Opens by m → IsPresentPart by (suc (suc n)) m
      at part.Head h = let two : 2 + n ≡ suc (suc n) = omega arith in rw two at (opened-head m.head n)
      at part.Pre h = h
      at part.Post h = absurd h

  present-has : (b : BlockRef) → Has (front ++ closing 1 (l ∷ ls)) b → IsPresent (l ∷ ls) b
  present-has b h = by (has-cases front (closing 1 (l ∷ ls)) b h)
    where
      behind : Closed 1 (l ∷ ls) b → IsPresent (l ∷ ls) b
      behind q =
          let one : 1 + q.at ≡ suc q.at = omega arith in
          subst (λ (z : BlockRef). IsPresent (l ∷ ls) z) (sym (q.is ∙ ap (block_ref part.Post) one)) (q.loop, q.found, q.some)

      within : Opened 2 ls b → IsPresent (l ∷ ls) b
      within q = opened-present b.part b.level q.loop q.at q.found q.level-is q.opens

      before : Has (outermost l.head) b ⊎ Has (block_if_any part.Pre 1 l.pre) b → IsPresent (l ∷ ls) b
      before (inl k) =
          let q = outermost-has l.head b k in
          subst (λ (z : BlockRef). IsPresent (l ∷ ls) z) (sym q.0) (l, refl, q.1)
      before (inr k) =
          let q = if-any-has part.Pre 1 l.pre b k in
          subst (λ (z : BlockRef). IsPresent (l ∷ ls) z) (sym q.0) (l, refl, q.1)

      outer : Has (outermost l.head ++ block_if_any part.Pre 1 l.pre) b ⊎ Has (opening 2 ls) b → IsPresent (l ∷ ls) b
      outer (inl k) = before (has-cases (outermost l.head) (block_if_any part.Pre 1 l.pre) b k)
      outer (inr k) = within (opening-has ls 2 b k)

      by : Has front b ⊎ Has (closing 1 (l ∷ ls)) b → IsPresent (l ∷ ls) b
      by (inl k) = outer (has-cases (outermost l.head ++ block_if_any part.Pre 1 l.pre) (opening 2 ls) b k)
      by (inr k) = behind (closing-has (l ∷ ls) 1 b k)

has-present : (loops : List Loop) (b : BlockRef) → IsPresent loops b → Has (present_blocks loops) b
unfolding present_blocks
has-present [] b (l, e, h) = absurd (none b.level e)
  where
    none : (level : ℕ) {l : Loop} → loop_at [] level ≡ Some l → ⊥
    none zero e = cc
    none (suc n) e = cc
has-present (l ∷ ls) b (m, e, h) = has-present-part l ls b.part b.level m e h

present-is : (loops : List Loop) (b : BlockRef) → Has (present_blocks loops) b → IsPresent loops b
unfolding present_blocks
present-is [] b h = absurd h
present-is (l ∷ ls) b h = present-has l ls b h

pub present_blocks-have-ranks : PresentBlocksHaveRanks
present_blocks-have-ranks loops b = (ranked, named)
  where
    ranked : IsPresent loops b → (rank : ℕ) × (rank_of loops b ≡ Some rank)
    ranked p = let q = get-has (present_blocks loops) b (has-present loops b p) in (q.0, position-present loops q.0 b q.1)

    named : (rank : ℕ) × (rank_of loops b ≡ Some rank) → IsPresent loops b
    named r = present-is loops b (has-get (present_blocks loops) r.0 b (position-get (present_blocks loops) r.0 b r.1))
