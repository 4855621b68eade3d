-- The words that a text declares are i64s.
use Rattle.std.proofs.Common.{◌≡◌, refl, subst, sym, ℕ, zero, suc, ◌+◌, ◌*◌, ◌<◌, ◌^◌, ℤ, pos, ◌+ℤ◌, ◌*ℤ◌, List, [], ◌∷◌, length, replicate, Option, Some, None, inl, inr, true, false, cond, nat_lt, FitsSigned, w64, arith}
use Rattle.std.specs.List.{All}
use Rattle.std.proofs.lemmas.Bool.{ltb-true}
use Rattle.std.proofs.lemmas.Int.{ints}
use Rattle.std.proofs.lemmas.List.Elements.{All-head, All-nil, All-push, All-set, All-tail}
use Rattle.std.specs.Prelude.{slice_set}
use Rattle.plain_lemmas.proofs.MembershipLaws.{All-from}
use Rattle.plain_lemmas.specs.Lists.{Has}
use Rattle.nest_tokens.specs.declared.token.Mark.{Mark}
use Rattle.nest_tokens.specs.declared.token.Token.{Token}
use Rattle.nest_tokens.specs.declared.token.Token.TheVariants as token
use Rattle.nest_tokens.specs.declared.token.BadToken.TheVariants as bad
use Rattle.nest_tokens.specs.declared.token.Spot.{Spot}
use Rattle.nest_tokens.specs.Tokens.{keyword_of}
use Rattle.nest_tokens.specs.Lexing.{FitsI64, decimal, named, numbered, keyword_or_name}
use Rattle.nest_tokens.specs.Division.{Spells, name, number, sign, bad_byte, Divides, ends, goes_on}
use Rattle.nest_tokens.specs.Ahead.{first, rest}
use Rattle.nest_tokens.proofs.DividingLaws.{tokens-divide}
use Rattle.nest_grammar.specs.declared.file.File.{File}
use Rattle.nest_grammar.specs.declared.file.Item.{Item}
use Rattle.nest_grammar.specs.declared.file.Item.TheVariants.{Data, Ramp}
use Rattle.nest_grammar.specs.declared.file.Scalar.{Scalar}
use Rattle.nest_grammar.specs.declared.version.Version.{Version}
use Rattle.nest_grammar.specs.Contents.{ramp_fits}
use Rattle.nest_grammar.specs.Files.{after_item, after_items, first_memory, first_store, set_words}
use Rattle.nest_grammar.specs.Sights.{Sight, here, skip, start}
use Rattle.nest_grammar.specs.Grammar as grammar
use Rattle.nest_grammar.specs.Grammar.{IsItem, IsItems, IsScalars, IsSigned, IsValues, IsVersion, Reads, SeesNumber, unsigned, negative, data_, ramp}
use Rattle.nest_grammar.specs.Readings.{with_sign}
use Rattle.nest_grammar.proofs.ContentLaws.{reading-reads}
use Rattle.nest_text.specs.Files.{IsOfText}
use Rattle.nest_text.proofs.StoredItemLaws.{ramp_from, ramp-from-all, ramp-from-next, ramp-from-start, ramp_fits-value}

-- ---- tokens

abbrev pub AllFit : List Spot → Type 0
AllFit [] = Unit {0}
AllFit (x ∷ xs) = FitsI64 x.token × AllFit xs

spelled-fits : {s rest : List ℕ} {t : Token} → Spells s rest t → FitsI64 t
unfolding named numbered
spelled-fits (name {s} b a e) = elim (nat_lt 32 (length s)) as (λ c. FitsI64 (cond c (token.Bad bad.Name) (keyword_or_name (keyword_of s) s))) [ true ↦ tt | false ↦ word (keyword_of s) ]
  where
    word : (o : Option Mark) → FitsI64 (keyword_or_name o s)
    word (Some m) = tt
    word None = tt
spelled-fits (number {s} b a e) = elim (nat_lt (decimal s) (2 ^ 63)) as (λ c. nat_lt (decimal s) (2 ^ 63) ≡ c → FitsI64 (cond c (token.Number (decimal s)) (token.Bad bad.Number))) [
  | true ↦ λ is. ltb-true (decimal s) (2 ^ 63) is
  | false ↦ λ is. tt
] refl
spelled-fits (sign h i l) = tt
spelled-fits (bad_byte a b c d e) = tt

pub divided-fit : {size : ℕ} {text : List ℕ} {xs : List Spot} → Divides size text xs → AllFit xs
divided-fit (ends g) = tt
divided-fit (goes_on g s d) = (spelled-fits s, divided-fit d)

-- the tokens that are left
abbrev pub FitSight : Sight → Type 0
FitSight s = AllFit s.left

pub fit-skip : (s : Sight) → FitSight s → FitSight (skip s)
unfolding skip
fit-skip s h = by s.left h
  where
    by : (xs : List Spot) → AllFit xs → AllFit (rest xs)
    by [] k = tt
    by (x ∷ xs) k = k.1

pub number-fits : (n : ℕ) (s : Sight) → FitSight s → SeesNumber n s → n < 2 ^ 63
unfolding here
number-fits n s h e = by s.left h e
  where
    by : (xs : List Spot) → AllFit xs → (first s.size xs).token ≡ token.Number n → n < 2 ^ 63
    by [] k q = absurd (cc)
    by (x ∷ xs) k q = subst FitsI64 q k.0

-- ---- numbers

abbrev pub I64 : ℤ → Type 0
I64 z = FitsSigned w64 z

pub positive-fits : (n : ℕ) → n < 2 ^ 63 → I64 (pos n)
positive-fits n less = omega (arith, ints, less)

negative-fits : (n : ℕ) → n < 2 ^ 63 → I64 (with_sign true n)
negative-fits zero less = positive-fits 0 less
negative-fits (suc n) less = omega (arith, ints, less)

pub signed-fits : {s : Sight} {v : ℤ} {t : Sight} → IsSigned s v t → FitSight s → I64 v × FitSight t
signed-fits (unsigned {n} {s} h) p = (positive-fits n (number-fits n s p h), fit-skip s p)
signed-fits (negative {n} {s} h k) p = let q = fit-skip s p in (negative-fits n (number-fits n (skip s) q k), fit-skip (skip s) q)

values-fit : {words first : ℕ} {s : Sight} {vs : List ℤ} {t : Sight} → IsValues words first s vs t → FitSight s → All I64 vs × FitSight t
values-fit (grammar.one {v} l i) p = let one = signed-fits i p in (All-push I64 [] v (All-nil I64) one.0, one.1)
values-fit (grammar.more {vs} {v} {t = t} i h l j) p =
    let before = values-fit i p in
    let last = signed-fits j (fit-skip t before.1) in
    (All-push I64 vs v before.0 last.0, last.1)

-- the values of an item
abbrev pub HasNumbers : ℕ → Item → Type 0
HasNumbers words (Data first values) = All I64 values
HasNumbers words (Ramp first count stride start growth) = I64 start × (ramp_fits words first count stride start growth ≡ true)

item-fits : {words : ℕ} {s : Sight} {i : Item} {t : Sight} → IsItem words s i t → FitSight s → HasNumbers words i × FitSight t
item-fits {words} (data_ {first} {vs} {s} {t} h n q c v) p =
    let there : FitSight t = subst FitSight (sym q) (fit-skip (skip s) (fit-skip s p)) in
    values-fit v (fit-skip t there)
item-fits {words} (ramp {s = s} {t = t} {u = u} h f q c r k n i j m) p =
    let there : FitSight t = subst FitSight (sym q) (fit-skip (skip s) (fit-skip s p)) in
    let later : FitSight u = subst FitSight (sym r) (fit-skip t there) in
    let start = signed-fits i (fit-skip u later) in
    let growth = signed-fits j start.1 in
    ((start.0, m), growth.1)

pub items-fit : {words : ℕ} {s : Sight} {is : List Item} {t : Sight} → IsItems words s is t → FitSight s → All (HasNumbers words) is × FitSight t
items-fit {words} grammar.none p = (All-nil (HasNumbers words), p)
items-fit {words} (grammar.more {is} {i} j k) p =
    let before = items-fit j p in
    let last = item-fits k before.1 in
    (All-push (HasNumbers words) is i before.0 last.0, last.1)

scalars-pass : {s : Sight} {cs : List Scalar} {t : Sight} → IsScalars s cs t → FitSight s → FitSight t
scalars-pass grammar.none p = p
scalars-pass (grammar.more {t = t} i h l k f a j) p =
    let q = fit-skip t (scalars-pass i p) in
    (signed-fits j (fit-skip (skip (skip t)) (fit-skip (skip t) q))).1

pub version-passes : {s : Sight} {v : Version} {t : Sight} → IsVersion s v t → FitSight s → FitSight t
version-passes (grammar.one {s} h k) p = fit-skip (skip s) (fit-skip s p)
version-passes (grammar.two {s} h k) p = fit-skip (skip s) (fit-skip s p)

reads-fit : (text : List ℕ) (file : File) → Reads text file → All (HasNumbers file.words) file.items
reads-fit text _ (grammar.file {t = t} l iv ic m n b ii iu e) =
    let there = scalars-pass ic (version-passes iv (divided-fit (tokens-divide text))) in
    (items-fit ii (fit-skip (skip t) (fit-skip t there))).0

-- ---- the first memory

set_words-fit : (first : ℕ) (vs memory : List ℤ) → All I64 vs → All I64 memory → All I64 (set_words first vs memory)
set_words-fit first [] memory a m = m
set_words-fit first (v ∷ vs) memory a m = set_words-fit (suc first) vs (slice_set memory first v) (All-tail I64 v vs a) (All-set I64 memory first v (All-head I64 v vs a) m)

ramp-fit : (n i count first stride : ℕ) (start growth : ℤ) (memory : List ℤ) → n + i ≡ count → ((j : ℕ) → j < count → I64 (start +ℤ growth *ℤ pos j)) → All I64 memory
    → All I64 (ramp_from i count first stride start growth memory)
ramp-fit zero i count first stride start growth memory is each m = subst (All I64) (sym (ramp-from-all i count first stride start growth memory (omega (arith, is)))) m
ramp-fit (suc n) i count first stride start growth memory is each m =
    let less : i < count = omega (arith, is) in
    subst (All I64) (sym (ramp-from-next i count first stride start growth memory less))
    (ramp-fit n (i + 1) count first stride start growth (slice_set memory (first + stride * i) (start +ℤ growth *ℤ pos i)) (omega (arith, is)) each (All-set I64 memory (first + stride * i) (start +ℤ growth *ℤ pos i) (each i less) m))

item-memory : (words : ℕ) (memory : List ℤ) (i : Item) → HasNumbers words i → All I64 memory → All I64 (after_item memory i)
item-memory words memory (Data first values) a m = set_words-fit first values memory a m
item-memory words memory (Ramp first count stride start growth) a m =
    subst (All I64) (sym (ramp-from-start count first stride start growth memory))
    (ramp-fit count 0 count first stride start growth memory (omega arith) (λ j less. ramp_fits-value words first count stride j start growth a.1 less a.0) m)

items-memory : (words : ℕ) (memory : List ℤ) (items : List Item) → All (HasNumbers words) items → All I64 memory → All I64 (after_items memory items)
items-memory words memory [] a m = m
items-memory words memory (i ∷ is) a m =
    items-memory words (after_item memory i) is (All-tail (HasNumbers words) i is a) (item-memory words memory i (All-head (HasNumbers words) i is a) m)

zeros-fit : (n : ℕ) → All I64 (replicate n (pos 0))
zeros-fit n = All-from I64 (replicate n (pos 0)) (by n)
  where
    by : (k : ℕ) (z : ℤ) → Has (replicate k (pos 0)) z → I64 z
    by zero z h = absurd h
    by (suc k) z (inl e) = subst I64 (sym e) (positive-fits 0 (omega arith))
    by (suc k) z (inr h) = by k z h

pub words-fit : (file : File) → IsOfText file → All I64 (first_store file).memory
unfolding first_memory
words-fit file of = items-memory file.words (replicate file.words (pos 0)) file.items (reads-fit of.0 file (reading-reads of.0 file of.1)) (zeros-fit file.words)
