-- What is kept, as one more address or one more stripe is.
use Rattle.std.proofs.Common.{◌≡◌, ℕ, zero, suc, subst, ◌+◌, ◌<◌, ◌≤◌, ℤ, pos, List, [], ◌∷◌, ◌++◌, map, length, take, get_or, sym, ap, ◌∙◌, refl, unsigned_abs, append-nil, arith}
use Rattle.std.specs.Int.{w64, cast_signed}
use Rattle.std.specs.List.{range_with_len, Contains, All}
use Rattle.std.proofs.lemmas.List.{take_all, take_more, map-append, length-map, get_or-map, append_assoc}
use Rattle.std.proofs.lemmas.List.FromFn.{map-range_with_len_more, length-map-range_with_len, get_or-map-range_with_len}
use Rattle.std.proofs.lemmas.List.Elements.{All-nil, All-append}
use Rattle.std.proofs.lemmas.Int.{ints}
use Rattle.std.proofs.lemmas.Grind.{flat_map-append}
use Rattle.std.proofs.Math.ListN.{get_or-map as get_or-map_default}
use Rattle.shared_words.specs.Memories.{signed}
use Rattle.chunk_run.specs.declared.keep.Kept.{Kept}
use Rattle.tiles.specs.declared.stripe.Stripe.{Stripe}
use Rattle.tiles.specs.Stripes.{address_at, IsWithin, addresses_of, addresses_of_all}
use Rattle.chunk_run.specs.Backups.{word_of, words_at, addresses_kept, HasOneValueEach}

pub word_of-signed : (base : List ℕ) (a : ℕ) → word_of (signed base) a ≡ cast_signed w64 (get_or base a 0)
word_of-signed base a = get_or-map_default (cast_signed w64) base a 0

abbrev kept-at : List ℤ → ℕ → Kept
kept-at m a = record { address = a; value = word_of m a }

pub words_at-more : (m : List ℤ) (f : ℕ → ℕ) (k : ℕ) → words_at m (map f (range_with_len 0 (k + 1))) ≡ words_at m (map f (range_with_len 0 k)) ++ record { address = f k; value = word_of m (f k) } ∷ []
words_at-more m f k = ap (words_at m) (map-range_with_len_more f 0 k k (omega arith)) ∙ map-append (kept-at m) (map f (range_with_len 0 k)) (f k ∷ [])

-- the next address of a stripe is kept as well
pub kept-more : (before now next : List Kept) (stripe : Stripe) (base : List ℕ) (k a : ℕ) (x : ℤ)
    → now ≡ before ++ words_at (signed base) (map (λ k. unsigned_abs (address_at stripe k)) (range_with_len 0 k))
    → next ≡ now ++ record { address = a; value = x } ∷ [] → pos a ≡ address_at stripe k → x ≡ cast_signed w64 (get_or base a 0)
    → next ≡ before ++ words_at (signed base) (map (λ k. unsigned_abs (address_at stripe k)) (range_with_len 0 (k + 1)))
kept-more before now next stripe base k a x so_far pushed address value =
    let m = signed base in let f : ℕ → ℕ = λ k. unsigned_abs (address_at stripe k) in
    let there : a ≡ f k = ap unsigned_abs address in
    let word : record { address = a; value = x } ≡ kept-at m (f k) =
    ap (λ z. record { address = a; value = z }) (value ∙ sym (word_of-signed base a)) ∙ ap (kept-at m) there in
    pushed ∙ ap (λ xs. xs ++ record { address = a; value = x } ∷ []) so_far ∙ append_assoc before (words_at m (map f (range_with_len 0 k))) (record { address = a; value = x } ∷ [])
    ∙ ap (λ u. before ++ (words_at m (map f (range_with_len 0 k)) ++ u ∷ [])) word
    ∙ ap (λ xs. before ++ xs) (sym (words_at-more m f k))

pub words_at-stripe : (m : List ℤ) (stripes : List Stripe) (i : ℕ) (d : Stripe) → i < length stripes
    → words_at m (addresses_of_all (take (i + 1) stripes)) ≡ words_at m (addresses_of_all (take i stripes)) ++ words_at m (addresses_of (get_or stripes i d))
words_at-stripe m stripes i d lt =
    ap (λ s. words_at m (addresses_of_all s)) (take_more stripes i d lt)
    ∙ ap (words_at m) (flat_map-append addresses_of (take i stripes) (get_or stripes i d ∷ []) ∙ ap (λ t. addresses_of_all (take i stripes) ++ t) (append-nil (addresses_of (get_or stripes i d))))
    ∙ map-append (kept-at m) (addresses_of_all (take i stripes)) (addresses_of (get_or stripes i d))

-- the loop over all stripes is at its end
pub kept-all : (m : List ℤ) (stripes : List Stripe) (i : ℕ) (items : List Kept) → items ≡ words_at m (addresses_of_all (take i stripes)) → length stripes ≤ i → items ≡ words_at m (addresses_of_all stripes)
kept-all m stripes i items so_far end = so_far ∙ ap (λ s. words_at m (addresses_of_all s)) (take_all i stripes end)

pub kept_value : (m : List ℤ) (addresses : List ℕ) (u : Kept) → Contains (words_at m addresses) u → u.value ≡ word_of m u.address
kept_value m addresses u (i, lt, is) =
    let long = length-map addresses (kept-at m) in
    let here : u ≡ kept-at m (get_or addresses i 0) = sym is ∙ get_or-map (kept-at m) addresses i 0 u (omega (arith, long, lt)) in
    ap (λ w. w.value) here ∙ ap (word_of m) (sym (ap (λ w. w.address) here))

pub one-value-each : (m : List ℤ) (addresses : List ℕ) → HasOneValueEach (words_at m addresses)
one-value-each m addresses u v cu cv same = kept_value m addresses u cu ∙ ap (word_of m) same ∙ sym (kept_value m addresses v cv)

pub addresses_kept-words_at : (m : List ℤ) (addresses : List ℕ) → addresses_kept (words_at m addresses) ≡ addresses
addresses_kept-words_at m [] = refl
addresses_kept-words_at m (a ∷ others) = ap (λ t. a ∷ t) (addresses_kept-words_at m others)

stripe-within : (n : ℕ) (stripe : Stripe) → IsWithin n stripe → All (λ a. a < n) (addresses_of stripe)
stripe-within n stripe within k d below =
    let f : ℕ → ℕ = λ k. unsigned_abs (address_at stripe k) in
    let lt : k < stripe.count = subst (λ (m : ℕ). k < m) (length-map-range_with_len f 0 stripe.count) below in
    let here : get_or (addresses_of stripe) k d ≡ f k = get_or-map-range_with_len f 0 stripe.count k k d lt (omega arith) in
    let (from, until) = within k lt in
    subst (λ (a : ℕ). a < n) (sym here) (omega (arith, ints, from, until))

all-within : (n : ℕ) (stripes : List Stripe) → ((k : ℕ) (d : Stripe) → k < length stripes → IsWithin n (get_or stripes k d)) → All (λ a. a < n) (addresses_of_all stripes)
all-within n [] each = All-nil (λ a. a < n)
all-within n (s ∷ ss) each =
    All-append (λ a. a < n) (addresses_of s) (addresses_of_all ss) (stripe-within n s (each zero s (omega arith))) (all-within n ss (λ k d lt. each (suc k) d (omega (arith, lt))))

pub words-within : (n : ℕ) (m : List ℤ) (stripes : List Stripe) → All (IsWithin n) stripes → All (λ word. word.address < n) (words_at m (addresses_of_all stripes))
words-within n m stripes within k d below =
    let addresses = addresses_of_all stripes in
    let lt : k < length addresses = subst (λ (l : ℕ). k < l) (length-map addresses (kept-at m)) below in
    subst (λ word. word.address < n) (sym (get_or-map (kept-at m) addresses k 0 d lt)) (all-within n stripes within k 0 lt)
