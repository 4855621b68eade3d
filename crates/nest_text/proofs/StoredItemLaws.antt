-- The memory after items, word by word.
use Rattle.std.proofs.Common.{◌≡◌, ◌∙◌, ap, sym, refl, subst, ℕ, zero, suc, ◌+◌, ◌-◌, ◌*◌, ◌<◌, ◌≤◌, ℤ, pos, negsuc, ◌+ℤ◌, ◌*ℤ◌, List, [], ◌∷◌, length, drop, get_or, true, nat_lt, FitsSigned, w64, arith}
use Rattle.std.specs.Prelude.{slice_set}
use Rattle.std.specs.List.{All}
use Rattle.std.proofs.lemmas.Bool.{and_parts, ltb-true, leb-true}
use Rattle.std.proofs.lemmas.Int.{ints}
use Rattle.std.proofs.lemmas.List.{drop_more, drop_all, length-set}
use Rattle.std.proofs.Math.Nat.{mul-le-mul_left}
use Rattle.std.proofs.Math.IntN.{pos-*ℤ-pos, negsuc-*ℤ-pos}
use Rattle.nest_grammar.specs.declared.file.Item.{Item}
use Rattle.nest_grammar.specs.declared.file.Item.TheVariants.{Data, Ramp}
use Rattle.nest_lang.specs.Values.{is_i64}
use Rattle.nest_grammar.specs.Contents.{ramp_fits}
use Rattle.nest_grammar.specs.Files.{set_words, set_ramp, after_item, after_items}
use Rattle.nest_grammar.specs.Rules.{item_fits}

-- the number of words stays

length-set_words : (first : ℕ) (vs memory : List ℤ) → length (set_words first vs memory) ≡ length memory
length-set_words first [] memory = refl
length-set_words first (v ∷ vs) memory = length-set_words (suc first) vs (slice_set memory first v) ∙ length-set memory first v

length-set_ramp : (count first stride : ℕ) (start growth : ℤ) (memory : List ℤ) → length (set_ramp count first stride start growth memory) ≡ length memory
length-set_ramp zero first stride start growth memory = refl
length-set_ramp (suc count) first stride start growth memory = length-set_ramp count (first + stride) stride (start +ℤ growth) growth (slice_set memory first start) ∙ length-set memory first start

pub length-after_item : (memory : List ℤ) (i : Item) → length (after_item memory i) ≡ length memory
length-after_item memory (Data first values) = length-set_words first values memory
length-after_item memory (Ramp first count stride start growth) = length-set_ramp count first stride start growth memory

-- one word more of a list

pub set_words-next : (first i : ℕ) (vs memory : List ℤ) (d : ℤ) → i < length vs → set_words (first + i) (drop i vs) memory ≡ set_words (first + (i + 1)) (drop (i + 1) vs) (slice_set memory (first + i) (get_or vs i d))
set_words-next first i vs memory d h =
    let on : suc (first + i) ≡ first + (i + 1) = omega arith in
    ap (λ (l : List ℤ). set_words (first + i) l memory) (drop_more vs i d h) ∙ ap (λ (k : ℕ). set_words k (drop (i + 1) vs) (slice_set memory (first + i) (get_or vs i d))) on

pub set_words-all : (first i : ℕ) (vs memory : List ℤ) → length vs ≤ i → set_words (first + i) (drop i vs) memory ≡ memory
set_words-all first i vs memory h = ap (λ (l : List ℤ). set_words (first + i) l memory) (drop_all i vs h)

-- one word more of a ramp

-- what is left of a ramp behind its first i words
abbrev pub ramp_from : ℕ → ℕ → ℕ → ℕ → ℤ → ℤ → List ℤ → List ℤ
ramp_from i count first stride start growth memory = set_ramp (count - i) (first + stride * i) stride (start +ℤ growth *ℤ pos i) growth memory

value-next : (start growth : ℤ) (i : ℕ) → (start +ℤ growth *ℤ pos i) +ℤ growth ≡ start +ℤ growth *ℤ pos (i + 1)
value-next start (pos g) i = let e : g * (i + 1) ≡ g * i + g = grind arith in rw pos-*ℤ-pos (omega (arith, ints))
value-next start (negsuc g) i = let e : suc g * (i + 1) ≡ suc g * i + suc g = grind arith in rw negsuc-*ℤ-pos (omega (arith, ints))

value-first : (start growth : ℤ) → start ≡ start +ℤ growth *ℤ pos 0
value-first start (pos g) = let e : g * 0 ≡ 0 = grind arith in rw pos-*ℤ-pos (omega (arith, ints))
value-first start (negsuc g) = let e : suc g * 0 ≡ 0 = grind arith in rw negsuc-*ℤ-pos (omega (arith, ints))

pub ramp-from-start : (count first stride : ℕ) (start growth : ℤ) (memory : List ℤ) → set_ramp count first stride start growth memory ≡ ramp_from 0 count first stride start growth memory
ramp-from-start count first stride start growth memory =
    let all : count ≡ count - 0 = omega arith in
    let here : first ≡ first + stride * 0 = grind arith in
    ap (λ (c : ℕ). set_ramp c first stride start growth memory) all
    ∙ ap (λ (a : ℕ). set_ramp (count - 0) a stride start growth memory) here
    ∙ ap (λ (z : ℤ). set_ramp (count - 0) (first + stride * 0) stride z growth memory) (value-first start growth)

pub ramp-from-next : (i count first stride : ℕ) (start growth : ℤ) (memory : List ℤ) → i < count
    → ramp_from i count first stride start growth memory ≡ ramp_from (i + 1) count first stride start growth (slice_set memory (first + stride * i) (start +ℤ growth *ℤ pos i))
ramp-from-next i count first stride start growth memory h =
    let left : count - i ≡ suc (count - (i + 1)) = omega arith in
    let on : (first + stride * i) + stride ≡ first + stride * (i + 1) = grind arith in
    let new : List ℤ = slice_set memory (first + stride * i) (start +ℤ growth *ℤ pos i) in
    ap (λ (c : ℕ). set_ramp c (first + stride * i) stride (start +ℤ growth *ℤ pos i) growth memory) left
    ∙ ap (λ (a : ℕ). set_ramp (count - (i + 1)) a stride ((start +ℤ growth *ℤ pos i) +ℤ growth) growth new) on
    ∙ ap (λ (z : ℤ). set_ramp (count - (i + 1)) (first + stride * (i + 1)) stride z growth new) (value-next start growth i)

pub ramp-from-all : (i count first stride : ℕ) (start growth : ℤ) (memory : List ℤ) → count ≤ i → ramp_from i count first stride start growth memory ≡ memory
ramp-from-all i count first stride start growth memory h =
    let none : count - i ≡ 0 = omega arith in
    ap (λ (c : ℕ). set_ramp c (first + stride * i) stride (start +ℤ growth *ℤ pos i) growth memory) none

-- a ramp that fits: its addresses are words and its values i64

is_i64-fits : (z : ℤ) → is_i64 z ≡ true → FitsSigned w64 z
is_i64-fits (pos n) h = let l : n < 9223372036854775808 = ltb-true n 9223372036854775808 h in omega (arith, ints)
is_i64-fits (negsuc n) h = let l : n < 9223372036854775808 = ltb-true n 9223372036854775808 h in omega (arith, ints)

between-fits : (start growth : ℤ) (i k : ℕ) → i ≤ k → FitsSigned w64 start → FitsSigned w64 (start +ℤ growth *ℤ pos k) → FitsSigned w64 (start +ℤ growth *ℤ pos i)
between-fits start (pos g) i k h f l =
    let m : g * i ≤ g * k = mul-le-mul_left g h in
    let last : FitsSigned w64 (start +ℤ pos (g * k)) = subst (λ (z : ℤ). FitsSigned w64 (start +ℤ z)) (pos-*ℤ-pos g k) l in
    subst (λ (z : ℤ). FitsSigned w64 (start +ℤ z)) (sym (pos-*ℤ-pos g i)) (omega (arith, ints))
between-fits start (negsuc g) i k h f l =
    let m : suc g * i ≤ suc g * k = mul-le-mul_left (suc g) h in
    let last = subst (λ (z : ℤ). FitsSigned w64 (start +ℤ z)) (negsuc-*ℤ-pos g k) l in
    subst (λ (z : ℤ). FitsSigned w64 (start +ℤ z)) (sym (negsuc-*ℤ-pos g i)) (omega (arith, ints))

pub ramp_fits-address : (words first count stride i : ℕ) (start growth : ℤ) → ramp_fits words first count stride start growth ≡ true → i < count → first + stride * i < words
ramp_fits-address words first zero stride i start growth h l = absurd (omega arith)
ramp_fits-address words first (suc k) stride i start growth h l =
    let p = and_parts (nat_lt (first + stride * k) words) (is_i64 (start +ℤ growth *ℤ pos k)) h in
    let last : first + stride * k < words = ltb-true (first + stride * k) words p.0 in
    let m : stride * i ≤ stride * k = mul-le-mul_left stride (omega arith) in
    omega arith

pub ramp_fits-value : (words first count stride i : ℕ) (start growth : ℤ) → ramp_fits words first count stride start growth ≡ true → i < count → FitsSigned w64 start → FitsSigned w64 (start +ℤ growth *ℤ pos i)
ramp_fits-value words first zero stride i start growth h l f = absurd (omega arith)
ramp_fits-value words first (suc k) stride i start growth h l f =
    let p = and_parts (nat_lt (first + stride * k) words) (is_i64 (start +ℤ growth *ℤ pos k)) h in
    between-fits start growth i k (omega arith) f (is_i64-fits (start +ℤ growth *ℤ pos k) p.1)

pub data-fits : (words first : ℕ) (vs : List ℤ) → item_fits words (Data first vs) ≡ true → first + length vs ≤ words
data-fits words first vs h = leb-true (first + length vs) words h

-- one item more

pub after_items-next : (i : ℕ) (is : List Item) (memory : List ℤ) (x : Item) → i < length is → x ≡ get_or is i x → after_items memory (drop i is) ≡ after_items (after_item memory x) (drop (i + 1) is)
after_items-next i is memory x h e =
    ap (after_items memory) (drop_more is i x h) ∙ ap (λ (y : Item). after_items (after_item memory y) (drop (i + 1) is)) (sym e)

pub after_items-all : (i : ℕ) (is : List Item) (memory : List ℤ) → length is ≤ i → after_items memory (drop i is) ≡ memory
after_items-all i is memory h = ap (after_items memory) (drop_all i is h)

pub fits-at : (words i : ℕ) (is : List Item) (x : Item) → All (λ y. item_fits words y ≡ true) is → i < length is → x ≡ get_or is i x → item_fits words x ≡ true
fits-at words i is x a h e = subst (λ (y : Item). item_fits words y ≡ true) (sym e) (a i x h)
