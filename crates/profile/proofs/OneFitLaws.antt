-- A nest has one fit.
use Rattle.std.proofs.Common.{◌≡◌, refl, sym, ap, subst, ◌∙◌, ℕ, zero, suc, ◌+◌, ◌<◌, ◌≤◌, Bool, false, ℤ, pos, List, [], ◌∷◌, ◌++◌, length, map, get_or, slice_get, Option, Some, None, arith}
use Rattle.std.specs.Prelude.{option_and_then, option_map}
use Rattle.std.specs.List.{Contains, range_with_len}
use Rattle.std.proofs.lemmas.List.{length-map}
use Rattle.std.proofs.lemmas.List.Elements.{All-contains, Contains-append_left, Contains-append_right, Contains-get_or}
use Rattle.std.proofs.lemmas.List.FromFn.{get_or-map-range_with_len, length-map-range_with_len}
use Rattle.std.proofs.lemmas.Option.{slice_get-get_or}
use Rattle.affine.specs.Forms.{Affine}
use Rattle.nest_lang.specs.declared.tree.Access.{Access as NestAccess}
use Rattle.nest_lang.specs.declared.tree.BlockRef.{BlockRef}
use Rattle.nest_lang.specs.declared.tree.Head.{Head as LoopHead}
use Rattle.nest_lang.specs.declared.tree.Head.TheVariants as head
use Rattle.nest_lang.specs.declared.tree.Loop.{Loop}
use Rattle.nest_lang.specs.declared.tree.Part.{Part}
use Rattle.nest_lang.specs.declared.tree.Part.TheVariants.{Head}
use Rattle.nest_lang.specs.Accesses.{accesses_of}
use Rattle.nest_lang.specs.Blocks.{block_ref, present_blocks}
use Rattle.nest_lang.specs.BlockLaws.{IsPresentHead}
use Rattle.nest_lang.specs.Traces.{Observation}
use Rattle.nest_lang.proofs.RankLaws.{ranks-are-numbers, present_blocks-have-ranks}
use Rattle.line_fit.specs.Samples.{Sample}
use Rattle.line_fit.specs.Lines.{Tube}
use Rattle.line_fit.proofs.LineLaws.{fit-one}
use Rattle.domain.specs.declared.prediction.What.{What}
use Rattle.domain.specs.declared.prediction.What.TheVariants.{Scalar, Address, Lower, Trip}
use Rattle.domain.specs.declared.table.LoopKind.{LoopKind}
use Rattle.domain.specs.Tables.{Table, Block, Access, Level, block_at, head_level, head_level_by, level_at, loop_of, no_block, no_level}
use Rattle.domain.specs.Shapes.{IsBlockOf, is_store, kind_of}
use Rattle.profile.specs.Data.{bounds_of, data_of, samples_at, tube_about, tube_in, tube_of_access, widest}
use Rattle.profile.specs.Fits.{HasFit, HasFitAt, HasNarrowTube, IsFitOf}
use Rattle.profile.specs.Laws.{OneFit}
use Rattle.profile.proofs.FitPartLaws.{bounds-two}

-- lists of one length with the same element at each place are the same
same-list : {X : Type 0} (xs ys : List X) (d : X) → length xs ≡ length ys → ((k : ℕ) → k < length xs → get_or xs k d ≡ get_or ys k d) → xs ≡ ys
same-list [] [] d size each = refl
same-list [] (y ∷ ys) d size each = absurd (omega arith)
same-list (x ∷ xs) [] d size each = absurd (omega arith)
same-list (x ∷ xs) (y ∷ ys) d size each =
    let first : x ≡ y = each 0 (omega arith) in
    let rest = same-list xs ys d (omega arith) (λ k h. each (suc k) (omega arith)) in
    cc

-- samples have one fit
fit-same : (D most : ℕ) (samples : List Sample) (a b : Option Tube) → HasFit D most samples a → HasFit D most samples b → a ≡ b
fit-same D most samples None None f g = refl
fit-same D most samples None (Some y) f g = let size : length samples ≡ 0 = ap (λ (xs : List Sample). length xs) f in let some = g.0 in absurd (omega arith)
fit-same D most samples (Some x) None f g = let size : length samples ≡ 0 = ap (λ (xs : List Sample). length xs) g in let some = f.0 in absurd (omega arith)
fit-same D most samples (Some x) (Some y) f g = ap (λ (z : Tube). Some z) (fit-one D most samples x y f.0 f.1 g.1)

-- a form from its tube
form-back : (form : Option Affine) (low high : ℤ) → option_map (λ (t : Tube). t.line) (tube_about form low high) ≡ form
form-back None low high = refl
form-back (Some line) low high = refl

forms-same : (a b : Option Affine) → tube_about a (pos 0) (pos 0) ≡ tube_about b (pos 0) (pos 0) → a ≡ b
forms-same a b e = sym (form-back a (pos 0) (pos 0)) ∙ ap (option_map (λ (t : Tube). t.line)) e ∙ form-back b (pos 0) (pos 0)

abbrev tube-at : Affine → ℤ → ℤ → Tube
tube-at line low high = record { line = line; low = low; high = high }

abbrev block-with : Part → ℕ → List (Option Affine) → List Access → Block
block-with part level forms accesses = record { part = part; level = level; scalars = forms; accesses = accesses }

abbrev level-of : LoopKind → Option Affine → Option Affine → Level
level-of kind lower trip = record { kind = kind; lower = lower; trip = trip }

abbrev table-of : List Level → List Block → Table
table-of levels blocks = record { levels = levels; blocks = blocks }

abbrev access : Bool → Option Affine → ℤ → ℤ → Access
access stores line low high = record { stores = stores; line = line; low = low; high = high }

accesses-same : (s r : Bool) (line other : Option Affine) (low high less more : ℤ) → s ≡ r → tube_about line low high ≡ tube_about other less more → HasNarrowTube (access s line low high) → HasNarrowTube (access r other less more) → access s line low high ≡ access r other less more
accesses-same s r None None low high less more same e f g = let a = f refl in let b = g refl in let one = a.0 in let two = a.1 in let three = b.0 in let four = b.1 in cc
accesses-same s r None (Some y) low high less more same e f g = absurd (cc)
accesses-same s r (Some x) None low high less more same e f g = absurd (cc)
accesses-same s r (Some x) (Some y) low high less more same e f g =
    let tubes : tube-at x low high ≡ tube-at y less more = cc in
    let lines : x ≡ y = ap (λ (t : Tube). t.line) tubes in
    let lows : low ≡ less = ap (λ (t : Tube). t.low) tubes in
    let highs : high ≡ more = ap (λ (t : Tube). t.high) tubes in
    cc

pub inner-head : (h : LoopHead) (level : ℕ) → 2 ≤ level → IsPresentHead h level
inner-head (head.For lower upper stride) level h = h
inner-head (head.While condition) level h = omega arith

-- an element and what it is mapped to
mapped : {X Y : Type 0} (v : X → Y) (xs ys : List X) (d : X) (k : ℕ) → map v xs ≡ map v ys → k < length xs → v (get_or xs k d) ≡ v (get_or ys k d)
mapped v [] ys d k e h = absurd (omega arith)
mapped v (x ∷ xs) [] d k e h = absurd (cc)
mapped v (x ∷ xs) (y ∷ ys) d zero e h = cc
mapped v (x ∷ xs) (y ∷ ys) d (suc k) e h = mapped v xs ys d k (cc) (omega arith)

-- numbered data
has-ranged : (f : ℕ → What) (from n k j : ℕ) → k < n → from + k ≡ j → Contains (map f (range_with_len from n)) (f j)
has-ranged f from n k j within is =
    let size = length-map-range_with_len f from n in
    subst (λ (w : What). Contains (map f (range_with_len from n)) w) (get_or-map-range_with_len f from n k j (f j) within is) (Contains-get_or (map f (range_with_len from n)) k (f j) (omega (arith, size, within)))

module _ (D scalars : ℕ) (loops : List Loop) (observations : List Observation) (t u : Table) (f : IsFitOf D scalars loops observations t) (g : IsFitOf D scalars loops observations u) where
  abbrev no-ref : BlockRef
  no-ref = block_ref Head 0

  no-access : Access
  no-access = record { stores = false; line = None; low = pos 0; high = pos 0 }

  module _ (rank : ℕ) (block : BlockRef) (e : slice_get (present_blocks loops) rank ≡ Some block) where
    abbrev a : Block
    a = block_at t rank

    abbrev b : Block
    b = block_at u rank

    abbrev one : IsBlockOf scalars loops block a
    one = f.shape.each rank block e

    abbrev two : IsBlockOf scalars loops block b
    two = g.shape.each rank block e

    abbrev first : List What
    first = map (λ n. Scalar n) (range_with_len 0 scalars)

    abbrev second : List What
    second = map (λ n. Address n) (range_with_len 1 (length (accesses_of loops block)))

    tubes-same : (what : What) → Contains (data_of scalars loops block) what → tube_in t a what ≡ tube_in u b what
    tubes-same what has =
        fit-same D (widest what) (samples_at D observations block what) (tube_in t a what) (tube_in u b what)
        (All-contains (λ w. HasFitAt D observations block w (tube_in t a w)) (data_of scalars loops block) what (f.fits rank block e) has)
        (All-contains (λ w. HasFitAt D observations block w (tube_in u b w)) (data_of scalars loops block) what (g.fits rank block e) has)

    scalar-forms : a.scalars ≡ b.scalars
    scalar-forms = same-list a.scalars b.scalars None (one.forms ∙ sym two.forms) (λ k h.
        forms-same (get_or a.scalars k None) (get_or b.scalars k None) (tubes-same (Scalar k) (Contains-append_left (first ++ second) (bounds_of block.part block.level) (Scalar k)
        (Contains-append_left first second (Scalar k) (has-ranged (λ (n : ℕ). Scalar n) 0 scalars k k (let c = one.forms in omega (arith, c, h)) (omega arith))))))

    count : (x : Block) → IsBlockOf scalars loops block x → length x.accesses ≡ length (accesses_of loops block)
    count x of = sym (length-map x.accesses (λ (y : Access). y.stores)) ∙ ap (λ (xs : List Bool). length xs) of.accesses ∙ length-map (accesses_of loops block) (λ (y : NestAccess). is_store y.kind)

    access-forms : a.accesses ≡ b.accesses
    access-forms = same-list a.accesses b.accesses no-access (count a one ∙ sym (count b two)) each
      where
        each : (k : ℕ) → k < length a.accesses → get_or a.accesses k no-access ≡ get_or b.accesses k no-access
        each k h =
            let within : k < length (accesses_of loops block) = (let c = count a one in omega (arith, c, h)) in
            let x = get_or a.accesses k no-access in
            let y = get_or b.accesses k no-access in
            let at : slice_get a.accesses k ≡ Some x = slice_get-get_or a.accesses k no-access h in
            let bt : slice_get b.accesses k ≡ Some y = slice_get-get_or b.accesses k no-access (let c = count b two in omega (arith, c, within)) in
            let tubes = tubes-same (Address (suc k)) (Contains-append_left (first ++ second) (bounds_of block.part block.level) (Address (suc k))
            (Contains-append_right first second (Address (suc k)) (has-ranged (λ (n : ℕ). Address n) 1 (length (accesses_of loops block)) k (suc k) within (omega arith)))) in
            accesses-same x.stores y.stores x.line y.line x.low x.high y.low y.high (mapped (λ (z : Access). z.stores) a.accesses b.accesses no-access k (one.accesses ∙ sym two.accesses) h)
            (sym (ap tube_of_access at) ∙ tubes ∙ ap tube_of_access bt) (f.unseen rank (suc k) x at) (g.unseen rank (suc k) y bt)

    blocks-same : a ≡ b
    blocks-same = let parts = one.part ∙ sym two.part in let levels = one.level ∙ sym two.level in
        ap (λ (z : Part). block-with z a.level a.scalars a.accesses) parts ∙ ap (λ (n : ℕ). block-with b.part n a.scalars a.accesses) levels
        ∙ ap (λ (zs : List (Option Affine)). block-with b.part b.level zs a.accesses) scalar-forms ∙ ap (λ (zs : List Access). block-with b.part b.level b.scalars zs) access-forms

  -- ---- loops
  pub deep : (x : Table) → IsFitOf D scalars loops observations x → length x.levels ≡ length loops
  deep x of = sym (length-map x.levels (λ (y : Level). y.kind)) ∙ ap (λ (xs : List LoopKind). length xs) of.shape.levels ∙ length-map loops (λ (y : Loop). kind_of y.head)

  module _ (j : ℕ) (within : suc j < length loops) (rank : ℕ) (e : slice_get (present_blocks loops) rank ≡ Some (block_ref Head (suc (suc j)))) where
    abbrev block : BlockRef
    block = block_ref Head (suc (suc j))

    abbrev front : List What
    front = map (λ n. Scalar n) (range_with_len 0 scalars) ++ map (λ n. Address n) (range_with_len 1 (length (accesses_of loops block)))

    bounds-are : bounds_of Head (suc (suc j)) ≡ Lower ∷ Trip ∷ []
    bounds-are = bounds-two D observations block refl (omega arith)

    pub has-lower : Contains (data_of scalars loops block) Lower
    has-lower = Contains-append_right front (bounds_of Head (suc (suc j))) Lower (subst (λ (ws : List What). Contains ws Lower) (sym bounds-are) (0, omega arith, refl))

    pub has-trip : Contains (data_of scalars loops block) Trip
    has-trip = Contains-append_right front (bounds_of Head (suc (suc j))) Trip (subst (λ (ws : List What). Contains ws Trip) (sym bounds-are) (1, omega arith, refl))

    pub own : (x : Table) → IsFitOf D scalars loops observations x → head_level x (block_at x rank) ≡ Some (level_at x (suc j))
    own x of =
        let is = of.shape.each rank block e in
        ap (λ (z : Part). head_level_by z (loop_of x (block_at x rank).level)) is.part ∙ ap (loop_of x) is.level ∙ slice_get-get_or x.levels (suc j) no_level (let c = deep x of in omega (arith, c, within))

    lowers : (level_at t (suc j)).lower ≡ (level_at u (suc j)).lower
    lowers =
        sym (ap (option_and_then (λ (l : Level). l.lower)) (own t f))
        ∙ forms-same (option_and_then (λ (l : Level). l.lower) (head_level t (block_at t rank))) (option_and_then (λ (l : Level). l.lower) (head_level u (block_at u rank))) (tubes-same rank block e Lower has-lower)
        ∙ ap (option_and_then (λ (l : Level). l.lower)) (own u g)

    trips : (level_at t (suc j)).trip ≡ (level_at u (suc j)).trip
    trips =
        sym (ap (option_and_then (λ (l : Level). l.trip)) (own t f))
        ∙ forms-same (option_and_then (λ (l : Level). l.trip) (head_level t (block_at t rank))) (option_and_then (λ (l : Level). l.trip) (head_level u (block_at u rank))) (tubes-same rank block e Trip has-trip)
        ∙ ap (option_and_then (λ (l : Level). l.trip)) (own u g)

  level-made : (x y : Level) → x.kind ≡ y.kind → x.lower ≡ y.lower → x.trip ≡ y.trip → x ≡ y
  level-made x y kind lower trip = ap (λ (z : LoopKind). level-of z x.lower x.trip) kind ∙ ap (λ (z : Option Affine). level-of y.kind z x.trip) lower ∙ ap (level-of y.kind y.lower) trip

  levels-same : (k : ℕ) → k < length loops → level_at t k ≡ level_at u k
  levels-same k h = level-made (level_at t k) (level_at u k) (mapped (λ (x : Level). x.kind) t.levels u.levels no_level k (f.shape.levels ∙ sym g.shape.levels) (let c = deep t f in omega (arith, c, h))) (ends k h).0 (ends k h).1
    where
      ends : (k : ℕ) → k < length loops → ((level_at t k).lower ≡ (level_at u k).lower) × ((level_at t k).trip ≡ (level_at u k).trip)
      ends zero h = (f.outermost.0 ∙ sym g.outermost.0, f.outermost.1 ∙ sym g.outermost.1)
      ends (suc j) h = head (nth loops (suc j) h)
        where
          nth : (xs : List Loop) (i : ℕ) → i < length xs → (l : Loop) × (slice_get xs i ≡ Some l)
          nth [] i h = absurd (omega arith)
          nth (x ∷ xs) zero h = (x, refl)
          nth (x ∷ xs) (suc i) h = nth xs i (omega arith)

          head : (l : Loop) × (slice_get loops (suc j) ≡ Some l) → ((level_at t (suc j)).lower ≡ (level_at u (suc j)).lower) × ((level_at t (suc j)).trip ≡ (level_at u (suc j)).trip)
          head (l, e) =
              let r = (present_blocks-have-ranks loops (block_ref Head (suc (suc j)))).0 (l, e, inner-head l.head (suc (suc j)) (omega arith)) in
              let at = (ranks-are-numbers loops (block_ref Head (suc (suc j))) r.0).0 r.1 in
              (lowers j h r.0 at, trips j h r.0 at)

  tables-same : t ≡ u
  tables-same = ap (λ (zs : List Level). table-of zs t.blocks) levels ∙ ap (table-of u.levels) blocks
    where
      levels : t.levels ≡ u.levels
      levels = same-list t.levels u.levels no_level (deep t f ∙ sym (deep u g)) (λ k h. levels-same k (let c = deep t f in omega (arith, c, h)))

      blocks : t.blocks ≡ u.blocks
      blocks = same-list t.blocks u.blocks no_block (f.shape.count ∙ sym g.shape.count) (λ k h.
          blocks-same k (get_or (present_blocks loops) k no-ref) (slice_get-get_or (present_blocks loops) k no-ref (let c = f.shape.count in omega (arith, c, h))))

pub one-fit : OneFit
one-fit D scalars loops observations t u f g = tables-same D scalars loops observations t u f g
