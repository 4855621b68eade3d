-- In a launched chunk the points whose places lie between the ends of a block are the padded points of its predicted
-- instances.
use Rattle.std.proofs.Common.{◌≡◌, refl, sym, ap, ap₂, ◌∙◌, subst, ℕ, zero, suc, ◌<◌, ◌≤◌, ◌+◌, ◌-◌, ℤ, pos, ◌+ℤ◌, ◌-ℤ◌, ◌≤ℤ◌, Bool, true, false, List, [], ◌∷◌, Some, map, length, get_or, nat_lt, nat_eq, ◌⊎◌, inl, inr, ⊎_elim, arith, max}
use Rattle.std.specs.Prelude.{◌&&◌}
use Rattle.std.specs.List.{range_with_len}
use Rattle.std.proofs.lemmas.Int.{ints}
use Rattle.std.proofs.lemmas.Bool.{cases_lt, and_parts}
use Rattle.std.proofs.lemmas.Bool.Decides.{nat_tests}
use Rattle.nest_lang.specs.declared.tree.Part.{Part}
use Rattle.nest_lang.specs.declared.tree.Part.TheVariants.{Head, Pre, Post}
use Rattle.domain.specs.declared.chunk.Chunk.{Chunk}
use Rattle.domain.specs.Tables.{Table, Block, IsTable, block_at, counters, counters_by, cut, depth, is_post, rank_of, repeats, trip, turning}
use Rattle.domain.specs.Instances.{Instance, instance, block_of, counter, place, padded, InTurn, Tested, Predicted}
use Rattle.domain.proofs.PlaceLaws.{place-counter, place-turns, place-rest, place-zero}
use Rattle.domain.proofs.PointLaws.{length-cut, cut-before, cut-after, trip-cut}
use Rattle.domain.proofs.WithinLaws.{trip-same, turns-trip, counters-of, turning-of, head-least}
use Rattle.domain.proofs.RankLaws.{Stands, stands, has-rank, Kind, AtHead, AtPre, AtPost, kind, outermost-repeats}
use Rattle.domain.proofs.LaunchedLaws.{launched_trips}
use Rattle.skeletons.specs.Blocks.{IsPointOf}
use Rattle.skeletons.specs.Cells.{IsLaunch}
use Rattle.skeletons.specs.Places.{Lies, greatest, is_turns, least}

-- ---- lists by their numbers

pub get_or-map-range : (f : ℕ → ℤ) (n first k : ℕ) → k < n → get_or (map f (range_with_len first n)) k (pos 0) ≡ f (first + k)
get_or-map-range f zero first k h = absurd (omega arith)
get_or-map-range f (suc n) first zero h = let e : first ≡ first + 0 = omega arith in ap f e
get_or-map-range f (suc n) first (suc k) h = get_or-map-range f n (first + 1) k (omega arith) ∙ (let e : first + 1 + k ≡ first + suc k = omega arith in ap f e)

pub length-map-range : (f : ℕ → ℤ) (n first : ℕ) → length (map f (range_with_len first n)) ≡ n
length-map-range f zero first = refl
length-map-range f (suc n) first = ap suc (length-map-range f n (first + 1))

pub padded-at : (t : Table) (x : Instance) (k : ℕ) → k < depth t → counter (padded t x) k ≡ place t (block_of t x) x.at k
unfolding padded
padded-at t x k h = get_or-map-range (place t (block_of t x) x.at) (depth t) 0 k h ∙ (let e : 0 + k ≡ k = omega arith in ap (place t (block_of t x) x.at) e)

pub length-padded : (t : Table) (x : Instance) → length (padded t x) ≡ depth t
unfolding padded
length-padded t x = length-map-range (place t (block_of t x) x.at) (depth t) 0

pub same_numbers : (xs ys : List ℤ) → length xs ≡ length ys → ((k : ℕ) → k < length xs → get_or xs k (pos 0) ≡ get_or ys k (pos 0)) → xs ≡ ys
same_numbers [] [] size h = refl
same_numbers [] (y ∷ ys) size h = absurd (omega arith)
same_numbers (x ∷ xs) [] size h = absurd (omega arith)
same_numbers (x ∷ xs) (y ∷ ys) size h = ap₂ (λ (z : ℤ) (zs : List ℤ). z ∷ zs) (h 0 (omega arith)) (same_numbers xs ys (omega arith) (λ k l. h (suc k) (omega arith)))

-- ---- blocks

-- how many counters a block has, and how many loops are in a turn at it
pub record IsLevel (D : ℕ) (t : Table) (b : Block) : Type 0 where
  pub some : 1 ≤ turning b
  pub turns : turning b ≤ counters t b
  pub next : counters t b ≤ turning b + 1
  pub inside : counters t b ≤ D
  pub behind : b.part ≡ Post → (counters t b ≡ b.level) × (turning b ≡ b.level) × (b.level < D) × (1 ≤ b.level)
  pub test : turning b < counters t b → (b.part ≡ Head) × (2 ≤ b.level) × (turning b ≡ b.level - 1)

head-level : (D level n c : ℕ) (w : Bool) → (level ≡ 1 → w ≡ true) → 1 ≤ level → level ≤ D → c ≡ counters_by Head w level → n ≡ max 1 (level - 1)
    → (1 ≤ n) × (n ≤ c) × (c ≤ n + 1) × (c ≤ D) × (n < c → (2 ≤ level) × (n ≡ level - 1))
head-level D level n c true first from to e f = (omega arith, omega arith, omega arith, omega arith, λ l. (omega arith, omega arith))
head-level D zero n c false first from to e f = absurd (omega arith)
head-level D (suc zero) n c false first from to e f = absurd (let w = first refl in cc)
head-level D (suc (suc level)) n c false first from to e f = (omega arith, omega arith, omega arith, omega arith, λ l. (omega arith, omega arith))

module _ (D : ℕ) (t : Table) (is : IsTable D t) where
  pub level-of : (rank : ℕ) → rank < length t.blocks → IsLevel D t (block_at t rank)
  level-of rank inside = by (kind D t is rank inside)
    where
      by : Kind D t is rank → IsLevel D t (block_at t rank)
      by (AtHead level from to here text) =
          let first : level ≡ 1 → repeats t (level - 1) ≡ true = λ e. head-first e here in
          let all = head-level D level (turning (block_at t rank)) (counters t (block_at t rank)) (repeats t (level - 1)) first from to (counters-of t Head level rank here) (turning-of t Head level rank here) in
          let e = here.level-is in
          record {
            some = all.0;
            turns = all.1;
            next = all.2;
            inside = all.3;
            behind = λ p. absurd (let f = here.part-is in cc);
            test = λ l. let more = all.4 l in let a = more.0 in let b = more.1 in (here.part-is, omega arith, omega arith);
          }
        where
          head-first : {level : ℕ} → level ≡ 1 → Stands t Head level rank → repeats t (level - 1) ≡ true
          head-first {level} e h = let z : level - 1 ≡ 0 = omega arith in subst (λ (k : ℕ). repeats t k ≡ true) (sym z) (outermost-repeats D t is rank (subst (λ (l : ℕ). Stands t Head l rank) e h))
      by (AtPre level from to here text) =
          let c = counters-of t Pre level rank here in let n = turning-of t Pre level rank here in
          record {
            some = omega arith;
            turns = omega arith;
            next = omega arith;
            inside = omega arith;
            behind = λ p. absurd (let f = here.part-is in cc);
            test = λ l. absurd (omega arith);
          }
      by (AtPost level from to here text) =
          let c = counters-of t Post level rank here in let n = turning-of t Post level rank here in let e = here.level-is in
          record {
            some = omega arith;
            turns = omega arith;
            next = omega arith;
            inside = omega arith;
            behind = λ p. (omega arith, omega arith, omega arith, omega arith);
            test = λ l. absurd (omega arith);
          }

-- ---- the ends of a place

module _ (t : Table) (chunk : Chunk) (b : Block) (k : ℕ) where
  not-first : 1 ≤ k → nat_eq k 0 ≡ false
  not-first h = grind (arith, nat_tests)

  pub turns-false : (k ≡ counters t b → ⊥) → is_turns t b k ≡ false
  turns-false ne = let e : nat_eq k (counters t b) ≡ false = grind (arith, nat_tests) in rw e (and-off (is_post b.part))
    where
      and-off : (a : Bool) → (a && false) ≡ false
      and-off true = refl
      and-off false = refl

  pub turns-true : is_turns t b k ≡ true → (is_post b.part ≡ true) × (k ≡ counters t b)
  turns-true h = let a = and_parts (is_post b.part) (nat_eq k (counters t b)) h in let f = a.1 in (a.0, grind (arith, nat_tests))

  pub least-zero : (p : List ℤ) → 1 ≤ k → is_turns t b k ≡ false → least t chunk b p k ≡ pos 0
  least-zero p some fails = rw (not-first some, fails) refl

  pub least-turns : (p : List ℤ) → 1 ≤ k → is_turns t b k ≡ true → least t chunk b p k ≡ trip t k p
  least-turns p some holds = rw (not-first some, holds) refl

  pub greatest-turn : (p : List ℤ) → 1 ≤ k → k < turning b → greatest t chunk b p k ≡ trip t k p -ℤ pos 1
  greatest-turn p some l = let e : nat_lt k (turning b) ≡ true = grind (arith, nat_tests) in rw (not-first some, e) refl

  pub greatest-test : (p : List ℤ) → 1 ≤ k → turning b ≤ k → k < counters t b → greatest t chunk b p k ≡ trip t k p
  greatest-test p some l m =
      let e : nat_lt k (turning b) ≡ false = grind (arith, nat_tests) in let f : nat_lt k (counters t b) ≡ true = grind (arith, nat_tests) in rw (not-first some, e, f) refl

  pub greatest-turns : (p : List ℤ) → 1 ≤ k → turning b ≤ k → counters t b ≤ k → is_turns t b k ≡ true → greatest t chunk b p k ≡ trip t k p
  greatest-turns p some l m holds =
      let e : nat_lt k (turning b) ≡ false = grind (arith, nat_tests) in let f : nat_lt k (counters t b) ≡ false = grind (arith, nat_tests) in rw (not-first some, e, f, holds) refl

  pub greatest-zero : (p : List ℤ) → 1 ≤ k → turning b ≤ k → counters t b ≤ k → is_turns t b k ≡ false → greatest t chunk b p k ≡ pos 0
  greatest-zero p some l m fails =
      let e : nat_lt k (turning b) ≡ false = grind (arith, nat_tests) in let f : nat_lt k (counters t b) ≡ false = grind (arith, nat_tests) in rw (not-first some, e, f, fails) refl

-- ---- the two sets are one

is-post : (p : Part) → is_post p ≡ true → p ≡ Post
is-post Head h = absurd (let w : false ≡ true = h in cc)
is-post Pre h = absurd (let w : false ≡ true = h in cc)
is-post Post h = refl

cases-bool : (b : Bool) → (b ≡ true) ⊎ (b ≡ false)
cases-bool true = inl refl
cases-bool false = inr refl

module _ (D : ℕ) (t : Table) (is : IsTable D t) (chunk : Chunk) (launch : IsLaunch t chunk) where
  -- the loop before a block behind it has a trip that isn't negative
  post-up : (x : Instance) → Predicted t chunk x → (block_of t x).part ≡ Post → pos 0 ≤ℤ trip t (counters t (block_of t x)) x.at
  post-up x p post =
      subst (λ (n : ℕ). pos 0 ≤ℤ trip t n x.at) (let e = at.0 in let f = head.level-is in omega arith)
      (launched_trips D t launch.words chunk launch.instances is launch.launched y predicted head.part-is (let e = head.level-is in let f = at.3 in omega arith) here)
    where
      b : Block
      b = block_of t x

      lvl : IsLevel D t b
      lvl = level-of D t is x.block p.is.block

      at : (counters t b ≡ b.level) × (turning b ≡ b.level) × (b.level < D) × (1 ≤ b.level)
      at = lvl.behind post

      ranked : (rank : ℕ) × (rank_of t Head (b.level + 1) ≡ Some rank)
      ranked = has-rank t Head (b.level + 1) (is.heads (b.level + 1) (let f = at.3 in omega arith) (let l = at.2 in omega arith))

      head : Stands t Head (b.level + 1) ranked.0
      head = stands t Head (b.level + 1) ranked.0 ranked.1

      y : Instance
      y = instance ranked.0 x.at

      turns : turning (block_of t y) ≡ b.level
      turns = turning-of t Head (b.level + 1) ranked.0 head ∙ (let f = at.3 in omega arith)

      rest : (k : ℕ) → b.level ≤ k → counter x.at k ≡ pos 0
      rest k l = p.is.rest k (let e = at.0 in omega arith)

      counts : b.level ≤ counters t (block_of t y)
      counts = let e = counters-of t Head (b.level + 1) ranked.0 head in let l = head-least (repeats t (b.level + 1 - 1)) (b.level + 1) in omega arith

      here : counter x.at ((block_of t y).level - 1) ≡ pos 0
      here = rest ((block_of t y).level - 1) (let e = head.level-is in omega arith)

      predicted : Predicted t chunk y
      predicted = record {
        is = record { block = head.inside; size = p.is.size; rest = λ k l. rest k (let c = counts in omega arith) };
        turn = subst (λ (n : ℕ). InTurn t chunk n x.at) (at.1 ∙ sym turns) p.turn;
        test = λ l. inl (rest (turning (block_of t y)) (let e = turns in omega arith));
      }

  -- the trips over the padded point are those over the counters
  trip-padded : (x : Instance) → Predicted t chunk x → (k : ℕ) → k ≤ counters t (block_of t x) → trip t k (padded t x) ≡ trip t k x.at
  trip-padded x p k l =
      trip-same t k (padded t x) x.at (length-padded t x ∙ sym p.is.size) (λ j m.
      padded-at t x j (let i = (level-of D t is x.block p.is.block).inside in let d = is.deep in omega arith)
      ∙ place-counter t (block_of t x) x.at j (omega arith))

  pub points-lie : (x : Instance) → Predicted t chunk x → Lies t chunk (block_of t x) (padded t x)
  points-lie x p k inside = ⊎_elim zero-case (λ some. ⊎_elim (turn-case some) (λ l. ⊎_elim (test-case some l) (λ m. past-case some l m) (cases_lt k (counters t b))) (cases_lt k (turning b))) (cases-one k)
    where
      b : Block
      b = block_of t x

      lvl : IsLevel D t b
      lvl = level-of D t is x.block p.is.block

      cases-one : (k : ℕ) → (k ≡ 0) ⊎ (1 ≤ k)
      cases-one zero = inl refl
      cases-one (suc k) = inr (omega arith)

      at : counter (padded t x) k ≡ place t b x.at k
      at = padded-at t x k inside

      zero-case : k ≡ 0 → (least t chunk b (padded t x) k ≤ℤ counter (padded t x) k) × (counter (padded t x) k ≤ℤ greatest t chunk b (padded t x) k)
      zero-case e = subst (λ (j : ℕ). (least t chunk b (padded t x) j ≤ℤ counter (padded t x) j) × (counter (padded t x) j ≤ℤ greatest t chunk b (padded t x) j)) (sym e) first
        where
          first : (chunk.first ≤ℤ counter (padded t x) 0) × (counter (padded t x) 0 ≤ℤ ((chunk.first +ℤ chunk.turns) -ℤ pos 1))
          first =
              let s = lvl.some in let n = lvl.turns in
              let f = padded-at t x 0 (let i = lvl.inside in let d = is.deep in omega arith) ∙ place-counter t b x.at 0 (omega arith) in
              let from = p.turn.from in let below = p.turn.below in
              (omega (arith, ints, f, from), omega (arith, ints, f, below))

      turn-case : 1 ≤ k → k < turning b → (least t chunk b (padded t x) k ≤ℤ counter (padded t x) k) × (counter (padded t x) k ≤ℤ greatest t chunk b (padded t x) k)
      turn-case some l =
          let n = lvl.turns in
          let f = at ∙ place-counter t b x.at k (omega arith) in
          let low = least-zero t chunk b k (padded t x) some (turns-false t chunk b k (λ e. omega arith)) in
          let high = greatest-turn t chunk b k (padded t x) some l ∙ ap (λ (z : ℤ). z -ℤ pos 1) (trip-padded x p k (omega arith)) in
          let in-turn = p.turn.inner k some l in
          let from = in-turn.0 in let below = in-turn.1 in
          (omega (arith, ints, f, low, from), omega (arith, ints, f, high, below))

      test-case : 1 ≤ k → turning b ≤ k → k < counters t b → (least t chunk b (padded t x) k ≤ℤ counter (padded t x) k) × (counter (padded t x) k ≤ℤ greatest t chunk b (padded t x) k)
      test-case some l m = tested (subst (λ (j : ℕ). Tested (counter x.at j) (trip t j x.at)) is-k (p.test inner))
        where
          inner : turning b < counters t b
          inner = omega arith

          is-k : turning b ≡ k
          is-k = let n = lvl.next in omega arith

          f : counter (padded t x) k ≡ counter x.at k
          f = at ∙ place-counter t b x.at k m

          low : least t chunk b (padded t x) k ≡ pos 0
          low = least-zero t chunk b k (padded t x) some (turns-false t chunk b k (λ e. omega arith))

          high : greatest t chunk b (padded t x) k ≡ trip t k x.at
          high = greatest-test t chunk b k (padded t x) some l m ∙ trip-padded x p k (omega arith)

          tested : Tested (counter x.at k) (trip t k x.at) → (least t chunk b (padded t x) k ≤ℤ counter (padded t x) k) × (counter (padded t x) k ≤ℤ greatest t chunk b (padded t x) k)
          tested (inl e) =
              let h = lvl.test inner in
              let i : b.level - 1 ≡ k = sym h.2 ∙ is-k in
              let up = subst (λ (j : ℕ). pos 0 ≤ℤ trip t j x.at) i (launched_trips D t launch.words chunk launch.instances is launch.launched x p h.0 h.1 (subst (λ (j : ℕ). counter x.at j ≡ pos 0) (sym i) e)) in
              let ff = f in let ll = low in let hh = high in
              (omega (arith, ints, ff, ll, e), omega (arith, ints, ff, hh, e, up))
          tested (inr h) =
              let from = h.0 in let to = h.1 in let ff = f in let ll = low in let hh = high in
              (omega (arith, ints, ff, ll, from), omega (arith, ints, ff, hh, to))

      past-case : 1 ≤ k → turning b ≤ k → counters t b ≤ k → (least t chunk b (padded t x) k ≤ℤ counter (padded t x) k) × (counter (padded t x) k ≤ℤ greatest t chunk b (padded t x) k)
      past-case some l m = by (cases-bool (is_turns t b k))
        where
          by : (is_turns t b k ≡ true) ⊎ (is_turns t b k ≡ false) → (least t chunk b (padded t x) k ≤ℤ counter (padded t x) k) × (counter (padded t x) k ≤ℤ greatest t chunk b (padded t x) k)
          by (inl holds) =
              let h = turns-true t chunk b k holds in
              let post = is-post b.part h.0 in
              let up = subst (λ (j : ℕ). pos 0 ≤ℤ trip t j x.at) (sym h.1) (post-up x p post) in
              let f = at ∙ place-turns t b x.at k post h.1 ∙ turns-trip (trip t k x.at) up in
              let q = h.1 in
              let same = trip-padded x p k (omega arith) in
              let low = least-turns t chunk b k (padded t x) some holds ∙ same in
              let high = greatest-turns t chunk b k (padded t x) some l m holds ∙ same in
              (omega (arith, ints, f, low), omega (arith, ints, f, high))
          by (inr fails) =
              let f = at ∙ past (cases-bool (is_post b.part)) in
              let low = least-zero t chunk b k (padded t x) some fails in
              let high = greatest-zero t chunk b k (padded t x) some l m fails in
              (omega (arith, ints, f, low), omega (arith, ints, f, high))
            where
              past : (is_post b.part ≡ true) ⊎ (is_post b.part ≡ false) → place t b x.at k ≡ pos 0
              past (inl holds) = place-rest t b x.at k (beyond (cases_lt (counters t b) k))
                where
                  beyond : (counters t b < k) ⊎ (k ≤ counters t b) → counters t b < k
                  beyond (inl h) = h
                  beyond (inr h) = absurd (let e : nat_eq k (counters t b) ≡ true = grind (arith, nat_tests) in let w : is_turns t b k ≡ true = rw (holds, e) refl in cc)
              past (inr no_post) = place-zero t b x.at k no_post m

  -- and a point that lies so is one of the block
  pub lie-points : (rank : ℕ) (p : List ℤ) → rank < length t.blocks → length p ≡ D → Lies t chunk (block_at t rank) p → IsPointOf t chunk rank p
  lie-points rank p inside size lies = record { at = x; predicted = predicted; block = refl; there = same }
    where
      b : Block
      b = block_at t rank

      lvl : IsLevel D t b
      lvl = level-of D t is rank inside

      x : Instance
      x = instance rank (cut (counters t b) p)

      kept : (k : ℕ) → k < counters t b → counter x.at k ≡ counter p k
      kept k l = cut-before (counters t b) p k l

      trips : (k : ℕ) → k ≤ counters t b → trip t k x.at ≡ trip t k p
      trips k l = trip-cut t k (counters t b) p l

      deep : (k : ℕ) → k < counters t b → k < depth t
      deep k l = let i = lvl.inside in let d = is.deep in omega arith

      at : (k : ℕ) → k < depth t → (least t chunk b p k ≤ℤ counter p k) × (counter p k ≤ℤ greatest t chunk b p k)
      at k l = lies k l

      predicted : Predicted t chunk x
      predicted = record {
        is = record { block = inside; size = length-cut (counters t b) p ∙ size ∙ sym is.deep; rest = λ k l. cut-after (counters t b) p k l };
        turn = record {
          from = let s = lvl.some in let n = lvl.turns in let e = kept 0 (omega arith) in let l = (at 0 (deep 0 (omega arith))).0 in omega (arith, ints, e, l);
          below = let s = lvl.some in let n = lvl.turns in let e = kept 0 (omega arith) in let l = (at 0 (deep 0 (omega arith))).1 in omega (arith, ints, e, l);
          inner = λ k some l.
              let n = lvl.turns in
              let e = kept k (omega arith) in
              let a = at k (deep k (omega arith)) in
              let low = least-zero t chunk b k p some (turns-false t chunk b k (λ f. omega arith)) in
              let high = greatest-turn t chunk b k p some l in
              let q = trips k (omega arith) in
              let u = a.0 in let v = a.1 in
              (omega (arith, ints, e, low, u), omega (arith, ints, e, high, v, q));
        };
        test = λ l.
            let s = lvl.some in
            let e = kept (turning b) l in
            let a = at (turning b) (deep (turning b) l) in
            let low = least-zero t chunk b (turning b) p s (turns-false t chunk b (turning b) (λ f. omega arith)) in
            let high = greatest-test t chunk b (turning b) p s (omega arith) l in
            let q = trips (turning b) (omega arith) in
            let u = a.0 in let v = a.1 in
            inr (omega (arith, ints, e, low, u), omega (arith, ints, e, high, v, q));
      }

      number : (k : ℕ) → k < depth t → place t b x.at k ≡ counter p k
      number k inside = ⊎_elim (λ l. place-counter t b x.at k l ∙ kept k l) (λ m. by m (cases-bool (is_turns t b k))) (cases_lt k (counters t b))
        where
          by : counters t b ≤ k → (is_turns t b k ≡ true) ⊎ (is_turns t b k ≡ false) → place t b x.at k ≡ counter p k
          by m (inl holds) =
              let h = turns-true t chunk b k holds in
              let post = is-post b.part h.0 in
              let up = subst (λ (j : ℕ). pos 0 ≤ℤ trip t j x.at) (sym h.1) (post-up x predicted post) in
              let s = lvl.some in let n = lvl.turns in let q = h.1 in
              let a = at k inside in
              let low = least-turns t chunk b k p (omega arith) holds in
              let high = greatest-turns t chunk b k p (omega arith) (omega arith) m holds in
              let same = trips k (omega arith) in
              let u = a.0 in let v = a.1 in
              place-turns t b x.at k post h.1 ∙ turns-trip (trip t k x.at) up ∙ (omega (arith, ints, same, low, high, u, v))
          by m (inr fails) =
              let s = lvl.some in let n = lvl.turns in
              let a = at k inside in
              let low = least-zero t chunk b k p (omega arith) fails in
              let high = greatest-zero t chunk b k p (omega arith) (omega arith) m fails in
              let u = a.0 in let v = a.1 in
              past (cases-bool (is_post b.part)) ∙ omega (arith, ints, low, high, u, v)
            where
              past : (is_post b.part ≡ true) ⊎ (is_post b.part ≡ false) → place t b x.at k ≡ pos 0
              past (inl holds) = place-rest t b x.at k (beyond (cases_lt (counters t b) k))
                where
                  beyond : (counters t b < k) ⊎ (k ≤ counters t b) → counters t b < k
                  beyond (inl h) = h
                  beyond (inr h) = absurd (let e : nat_eq k (counters t b) ≡ true = grind (arith, nat_tests) in let w : is_turns t b k ≡ true = rw (holds, e) refl in cc)
              past (inr no_post) = place-zero t b x.at k no_post m

      same : padded t x ≡ p
      same = same_numbers (padded t x) p (length-padded t x ∙ is.deep ∙ sym size) (λ k l. let i = length-padded t x in padded-at t x k (omega arith) ∙ number k (omega arith))
