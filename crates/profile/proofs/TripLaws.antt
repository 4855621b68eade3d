-- Of good observations the values are those of their kinds, and the trips stay within reach.
use Rattle.std.proofs.Common.{◌≡◌, refl, ap, subst, ◌∙◌, ℕ, zero, suc, ◌+◌, ◌-◌, ◌*◌, ◌<◌, ◌≤◌, ◌^◌, ℤ, pos, unsigned_abs, nat_eq, nat_le, Bool, true, false, List, [], ◌∷◌, length, take, get_or, Some, arith}
use Rattle.std.specs.Prelude.{if◌then◌else◌, slice_get}
use Rattle.std.specs.List.{All, range_with_len}
use Rattle.std.specs.Ordering.{int_eq}
use Rattle.std.proofs.lemmas.Bool.{and_parts}
use Rattle.std.proofs.lemmas.Bool.Decides.{nat_tests}
use Rattle.std.proofs.lemmas.List.Elements.{All-append, All-cons, All-map, All-nil}
use Rattle.nest_lang.specs.declared.observe.Seen.{Seen}
use Rattle.nest_lang.specs.declared.observe.Seen.TheVariants as seen
use Rattle.nest_lang.specs.declared.tree.BlockRef.{BlockRef}
use Rattle.nest_lang.specs.declared.tree.Head.{Head}
use Rattle.nest_lang.specs.declared.tree.Head.TheVariants.{For, While}
use Rattle.nest_lang.specs.declared.tree.Loop.{Loop}
use Rattle.nest_lang.specs.declared.tree.Part.TheVariants as part
use Rattle.nest_lang.specs.declared.state.Outer.{Outer}
use Rattle.nest_lang.specs.Blocks.{block_ref, loop_at, same_part, same_block}
use Rattle.nest_lang.specs.Lookups.{plain}
use Rattle.nest_lang.specs.Rules.{loop_keeps, loops_keep}
use Rattle.nest_lang.specs.Traces.{Observation, cut, seen_of, seen_in}
use Rattle.nest_lang.specs.Stores.{Store}
use Rattle.nest_lang.specs.Turns.{IsPositionIn, turns_trace}
use Rattle.line_fit.specs.Samples.{Sample}
use Rattle.domain.specs.Tables.{stride_size}
use Rattle.domain.specs.Shapes.{kind_of}
use Rattle.profile.specs.Gathered.{ended_by, given_by, is_end_of, is_of, padded, same_seen, sample_of, samples_of, trip_of}
use Rattle.profile.specs.Sampled.{observation_of, observations_in}
use Rattle.profile.specs.Reach.{HasI64s, HasValue, IsOfI64s, IsWithinReach, TripsStayWithinReach, TurnsLeaveI64s, TurnsShowValues}
use Rattle.profile.proofs.ReachLaws.{Each, Good, GoodAt, Sound, all-each, cut-fits, each-append, nest-sound, sound-seen}

abbrev most : ℕ
most = 2 ^ 33

abbrev IsNear : ℤ → Type 0
IsNear z = unsigned_abs z ≤ 2 ^ 33

get-near : (xs : List ℤ) (i : ℕ) → Each IsNear xs → unsigned_abs (get_or xs i (pos 0)) ≤ 2 ^ 33
get-near [] i h = omega arith
get-near (x ∷ xs) zero h = h.0
get-near (x ∷ xs) (suc i) h = get-near xs i h.1

take-near : (n : ℕ) (xs : List ℤ) → Each IsNear xs → Each IsNear (take n xs)
take-near zero [] h = tt
take-near (suc n) [] h = tt
take-near zero (x ∷ xs) h = tt
take-near (suc n) (x ∷ xs) h = (h.0, take-near n xs h.1)

padded-near : (D : ℕ) (xs : List ℤ) → Each IsNear xs → All IsNear (padded D xs)
padded-near D xs h = All-map IsNear (λ (k : ℕ). get_or xs k (pos 0)) (range_with_len 0 D) (λ i d l. get-near xs (get_or (range_with_len 0 D) i d) h)

module _ (loops : List Loop) where
  abbrev Fine : Observation → Type 0
  Fine o = Good (2 ^ 33) (omega arith) loops o

  kept : (o : Observation) (what : Seen) → Fine o → Each Fine (observation_of o what)
  kept o seen.Start h = tt
  kept o (seen.Scalar number) h = (h, tt)
  kept o (seen.Address access) h = (h, tt)
  kept o seen.Lower h = (h, tt)
  kept o seen.Trip h = (h, tt)
  kept o seen.Condition h = (h, tt)

  all-kept : (os : List Observation) → Each Fine os → Each Fine (observations_in os)
  all-kept [] h = tt
  all-kept (o ∷ os) h = each-append Fine (observation_of o o.what) (observations_in os) (kept o o.what h.0) (all-kept os h.1)

  is-trip : (what : Seen) → same_seen what seen.Trip ≡ true → what ≡ seen.Trip
  is-trip seen.Start e = absurd (cc)
  is-trip (seen.Scalar number) e = absurd (cc)
  is-trip (seen.Address access) e = absurd (cc)
  is-trip seen.Lower e = absurd (cc)
  is-trip seen.Trip e = refl
  is-trip seen.Condition e = absurd (cc)

  is-condition : (what : Seen) → same_seen what seen.Condition ≡ true → what ≡ seen.Condition
  is-condition seen.Start e = absurd (cc)
  is-condition (seen.Scalar number) e = absurd (cc)
  is-condition (seen.Address access) e = absurd (cc)
  is-condition seen.Lower e = absurd (cc)
  is-condition seen.Trip e = absurd (cc)
  is-condition seen.Condition e = refl

  module _ (D level : ℕ) (l : Loop) (found : loop_at loops level ≡ Some l) where
    abbrev block : BlockRef
    block = block_ref part.Head level

    abbrev Reached : Sample → Type 0
    Reached sample = IsWithinReach (stride_size (kind_of l.head)) sample

    -- what the block shows
    of-block : (o : Observation) (what : Seen) → Fine o → is_of block what o ≡ true → (o.what ≡ what) → GoodAt (2 ^ 33) (omega arith) loops what l.head o.value
    of-block o what h e is =
        let same = (and_parts (same_block o.at.block block) (same_seen o.what what) e).0 in
        let number : nat_eq o.at.block.level level ≡ true = (and_parts (same_part o.at.block.part part.Head) (nat_eq o.at.block.level level) same).1 in
        let here : o.at.block.level ≡ level = grind (arith, nat_tests, number) in
        subst (λ (w : Seen). GoodAt (2 ^ 33) (omega arith) loops w l.head o.value) is (h.1 l (ap (loop_at loops) here ∙ found))

    -- a `while`'s trip
    repeat-reach : (h : Head) (n : ℕ) → GoodAt (2 ^ 33) (omega arith) loops seen.Condition h (pos 0) → n ≤ 2 ^ 33 → stride_size (kind_of h) * n ≤ 2 ^ 65
    repeat-reach (For lower upper stride) n bad small = absurd bad
    repeat-reach (While condition) n good small = omega (arith, small)

    if-reached : (b : Bool) (sample : Sample) (rest : List Sample) → (b ≡ true → Reached sample) → All Reached rest → All Reached (if b then sample ∷ [] else rest)
    if-reached true sample rest h more = All-cons Reached sample [] (h refl) (All-nil Reached)
    if-reached false sample rest h more = more

    given : (o : Observation) → Fine o → All Reached (given_by D block seen.Trip o)
    given o h = if-reached (is_of block seen.Trip o) (sample_of D o) (ended_by D block seen.Trip o) seen-trip (if-reached (is_end_of block o) (trip_of D o.at.counters) [] ended (All-nil Reached))
      where
        seen-trip : is_of block seen.Trip o ≡ true → Reached (sample_of D o)
        seen-trip e = record {
          counters = padded-near D o.at.counters h.0;
          trip = of-block o seen.Trip h e (is-trip o.what (and_parts (same_block o.at.block block) (same_seen o.what seen.Trip) e).1);
        }

        ended : is_end_of block o ≡ true → Reached (trip_of D o.at.counters)
        ended e =
            let is = (and_parts (is_of block seen.Condition o) (int_eq o.value (pos 0)) e).0 in
            record {
              counters = padded-near D (take (length o.at.counters - 1) o.at.counters) (take-near (length o.at.counters - 1) o.at.counters h.0);
              trip = repeat-reach l.head (unsigned_abs (get_or o.at.counters (length o.at.counters - 1) (pos 0)))
                  (of-block o seen.Condition h is (is-condition o.what (and_parts (same_block o.at.block block) (same_seen o.what seen.Condition) is).1))
                  (get-near o.at.counters (length o.at.counters - 1) h.0);
            }

    all-given : (os : List Observation) → Each Fine os → All Reached (samples_of D block seen.Trip os)
    all-given [] h = All-nil Reached
    all-given (o ∷ os) h = All-append Reached (given_by D block seen.Trip o) (samples_of D block seen.Trip os) (given o h.0) (all-given os h.1)

numbers-from : (l : Loop) (ls : List Loop) (j : ℕ) → loop_at (l ∷ ls) (1 + j) ≡ slice_get (l ∷ ls) j
numbers-from l ls j = let e : 1 + j ≡ suc j = omega arith in ap (loop_at (l ∷ ls)) e

-- what some turns show is good, and what they change is an i64
turns-sound : (k left c t : ℕ) (l : Loop) (ls : List Loop) (o : Outer) (s : Store) → 0 < k → loops_keep (l ∷ ls) ≡ true → All HasI64s (l ∷ ls) → IsOfI64s s → IsPositionIn (l ∷ ls) o → o.next ≡ pos t → t + left ≤ 2 ^ 33
    → Sound (2 ^ 33) (omega arith) (l ∷ ls) left (turns_trace plain k (l ∷ ls) o c s).entries
unfolding loops_keep
turns-sound k left c t l ls o s some keeps numbers fits position next few =
    let inner = (and_parts (nat_le (length ls) 5) (loop_keeps l ls) keeps).1 in
    nest-sound (2 ^ 33) (omega arith) (l ∷ ls) k some l ls (numbers-from l ls) inner (all-each HasI64s (l ∷ ls) numbers) o position t next c left few s fits

turns-good : (k left c t : ℕ) (l : Loop) (ls : List Loop) (o : Outer) (s : Store) → 0 < k → loops_keep (l ∷ ls) ≡ true → All HasI64s (l ∷ ls) → IsOfI64s s → IsPositionIn (l ∷ ls) o → o.next ≡ pos t → t + left ≤ 2 ^ 33
    → Each (Fine (l ∷ ls)) (seen_of (turns_trace plain k (l ∷ ls) o c s).entries left)
turns-good k left c t l ls o s some keeps numbers fits position next few =
    sound-seen (2 ^ 33) (omega arith) (l ∷ ls) left (turns_trace plain k (l ∷ ls) o c s).entries (turns-sound k left c t l ls o s some keeps numbers fits position next few)

pub trips-stay-within-reach : TripsStayWithinReach
unfolding seen_in
trips-stay-within-reach D k left c t [] o s some keeps numbers fits position next few = absurd position
trips-stay-within-reach D k left c t (l ∷ ls) o s some keeps numbers fits position next few =
    let good = turns-good k left c t l ls o s some keeps numbers fits position next few in
    λ level m found. all-given (l ∷ ls) D level m found (observations_in (seen_of (turns_trace plain k (l ∷ ls) o c s).entries left)) (all-kept (l ∷ ls) (seen_of (turns_trace plain k (l ∷ ls) o c s).entries left) good)

-- ---- values

have-values : (loops : List Loop) (os : List Observation) → Each (Fine loops) os → All HasValue os
have-values loops [] h = All-nil HasValue
have-values loops (o ∷ os) h = All-cons HasValue o os h.0.2 (have-values loops os h.1)

pub turns-show-values : TurnsShowValues
unfolding seen_in
turns-show-values k left c t [] o s some keeps numbers fits position next few = absurd position
turns-show-values k left c t (l ∷ ls) o s some keeps numbers fits position next few =
    have-values (l ∷ ls) (seen_of (turns_trace plain k (l ∷ ls) o c s).entries left) (turns-good k left c t l ls o s some keeps numbers fits position next few)

pub turns-leave-i64s : TurnsLeaveI64s
unfolding cut
turns-leave-i64s k left used c t [] o s some keeps numbers fits position next few = absurd position
turns-leave-i64s k left used c t (l ∷ ls) o s some keeps numbers fits position next few =
    cut-fits (2 ^ 33) (omega arith) (l ∷ ls) left s (turns_trace plain k (l ∷ ls) o c s).entries (turns-sound k left c t l ls o s some keeps numbers fits position next few) fits
