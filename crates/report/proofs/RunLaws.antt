-- Longest runs, found piece by piece: a piece is a list of equal words that can't be made longer.
use Rattle.std.proofs.Common.{◌≡◌, ◌≢◌, ℕ, zero, suc, ◌+◌, ◌-◌, ◌<◌, ◌≤◌, ℤ, pos, List, [], ◌∷◌, ◌++◌, length, get_or, drop, Bool, Option, Some, true, false, arith, slice_get, refl, sym, ◌∙◌, ap, subst, inl, inr, length-append, length-drop, flat_map, append_assoc}
use Rattle.std.specs.Prelude.{All, Any, AllPairs}
use Rattle.std.specs.List.{AllAdjacentBelow, IsChunkByPrefix, prefix_len}
use Rattle.std.specs.Ordering.{int_eq}
use Rattle.std.specs.Option.{unwrap_or}
use Rattle.std.proofs.lemmas.Bool.{cases_lt, cases_Bool, false≢true}
use Rattle.std.proofs.lemmas.Bool.Decides.{Decides-int_eq}
use Rattle.std.proofs.lemmas.List.{get_or-drop, get_or_append_left, drop-drop, append-nil}
use Rattle.std.proofs.lemmas.Grind.{flat_map-append}
use Rattle.std.proofs.Math.Seq.{drop-append_seam}
use Rattle.std.proofs.lemmas.List.Sums.{prefix_len_passes, prefix_len_stops, prefix_len-le-length}
use Rattle.std.proofs.lemmas.List.Elements.{All-push, All-weaker}
use Rattle.std.proofs.lemmas.List.Quantifiers.{all_pairs_push, Any-push}
use Rattle.std.proofs.lemmas.Option.{slice_get_within, slice_get-get_or, get_or_from_slice_get}
use Rattle.report.specs.declared.runs.WordRun.{WordRun}
use Rattle.report.specs.LongestRuns.{IsIn, IsLongest, LongestRuns}
use Rattle.report.specs.Outcomes.{words_line}

-- the longest runs below an address at which no run is cut
pub record LongestBelow (memory : List ℤ) (n : ℕ) (runs : List WordRun) : Type 0 where
  pub ascending : AllPairs (λ one later. one.last < later.first) runs
  pub longest : All (IsLongest memory) runs
  pub below : All (λ run. run.last < n) runs
  pub complete : (a : ℕ) (word : ℤ) → a < n → slice_get memory a ≡ Some word → word ≢ pos 0 → Any (λ run. IsIn run a) runs
  pub uncut : (a : ℕ) (word : ℤ) → a + 1 ≡ n → slice_get memory a ≡ Some word → slice_get memory n ≢ Some word

-- from an address on stand so many equal words, and no further one
pub record IsPiece (memory : List ℤ) (n len : ℕ) (word : ℤ) : Type 0 where
  pub not_empty : 0 < len
  pub equal : (a : ℕ) → n ≤ a → a < n + len → slice_get memory a ≡ Some word
  pub after : slice_get memory (n + len) ≢ Some word

-- a word stands once at an address
pub same-word : (memory : List ℤ) (a : ℕ) (one other : ℤ) → slice_get memory a ≡ Some one → slice_get memory a ≡ Some other → one ≡ other
same-word memory a one other at at' = ap (λ (found : Option ℤ). unwrap_or found one) (sym at ∙ at')

pub LongestBelow-start : (memory : List ℤ) → LongestBelow memory 0 []
LongestBelow-start memory = record {
  ascending = grind arith;
  longest = grind arith;
  below = grind arith;
  complete = λ a word less at nonzero. absurd (omega arith);
  uncut = λ a word next at. absurd (omega arith);
}

-- below the end of the memory stand all runs
pub LongestRuns-below : (memory : List ℤ) (n : ℕ) (runs : List WordRun) → length memory ≤ n → LongestBelow memory n runs → LongestRuns memory runs
LongestRuns-below memory n runs end so = record {
  ascending = so.ascending;
  longest = so.longest;
  complete = λ a word at nonzero. let inside : a < length memory = slice_get_within memory a word at in so.complete a word (omega arith) at nonzero;
}

-- at the end of a piece no run is cut
uncut-piece : (memory : List ℤ) (n len : ℕ) (word : ℤ) → IsPiece memory n len word → (a : ℕ) (other : ℤ) → a + 1 ≡ n + len → slice_get memory a ≡ Some other → slice_get memory (n + len) ≢ Some other
uncut-piece memory n len word piece a other next at at' =
    let some = piece.not_empty in
    let same : other ≡ word = same-word memory a other word at (piece.equal a (omega arith) (omega arith)) in
    piece.after (at' ∙ ap Some same)

-- a piece of zeros has no run
pub LongestBelow-zeros : (memory : List ℤ) (n len : ℕ) (runs : List WordRun) → IsPiece memory n len (pos 0) → LongestBelow memory n runs → LongestBelow memory (n + len) runs
LongestBelow-zeros memory n len runs piece so = record {
  ascending = so.ascending;
  longest = so.longest;
  below = All-weaker (λ run. run.last < n) (λ run. run.last < n + len) (λ run less. omega arith) runs so.below;
  complete = λ a word less at nonzero. elim (cases_lt a n) [
    | inl before ↦ so.complete a word before at nonzero
    | inr within ↦ absurd (nonzero (same-word memory a word (pos 0) at (piece.equal a within less)))
  ];
  uncut = uncut-piece memory n len (pos 0) piece;
}

-- the run of a piece
abbrev pub run_of : ℕ → ℕ → ℤ → WordRun
run_of n len word = record { first = n; last = n + len - 1; value = word }

-- a piece of words that aren't 0 is a longest run
IsLongest-piece : (memory : List ℤ) (n len : ℕ) (word : ℤ) (runs : List WordRun) → IsPiece memory n len word → word ≢ pos 0 → LongestBelow memory n runs → IsLongest memory (run_of n len word)
IsLongest-piece memory n len word runs piece nonzero so =
    let some = piece.not_empty in
    let last : n + len - 1 + 1 ≡ n + len = omega arith in
    record {
      not_empty = omega arith;
      not_zero = nonzero;
      equal = λ a inside. piece.equal a inside.0 (let most = inside.1 in omega arith);
      before = λ a next at. so.uncut a word next at (piece.equal n (omega arith) (omega arith));
      after = subst (λ (a : ℕ). slice_get memory a ≢ Some word) (sym last) piece.after;
    }

-- some element of a list is one of the list with one more
Any-more : {X : Type 0} (P : X → Type 0) (xs : List X) (y : X) → Any P xs → Any P (xs ++ y ∷ [])
Any-more P xs y some =
    let len = length-append xs (y ∷ []) in
    (some.0, some.1, (let less = some.2 in omega arith), get_or_append_left xs (y ∷ []) some.1 some.0 some.2 ∙ some.3, some.4)

-- a piece of words that aren't 0 is the next run
pub LongestBelow-push : (memory : List ℤ) (n len : ℕ) (word : ℤ) (runs : List WordRun) → IsPiece memory n len word → word ≢ pos 0 → LongestBelow memory n runs → LongestBelow memory (n + len) (runs ++ run_of n len word ∷ [])
LongestBelow-push memory n len word runs piece nonzero so =
    let some = piece.not_empty in
    record {
      ascending = all_pairs_push (λ one later. one.last < later.first) runs (run_of n len word) so.ascending (λ k d less. so.below k d less);
      longest = All-push (IsLongest memory) runs (run_of n len word) so.longest (IsLongest-piece memory n len word runs piece nonzero so);
      below = All-push (λ run. run.last < n + len) runs (run_of n len word) (All-weaker (λ run. run.last < n) (λ run. run.last < n + len) (λ run less. omega arith) runs so.below) (omega arith);
      complete = λ a other less at other_nonzero. elim (cases_lt a n) [
        | inl before ↦ Any-more (λ run. IsIn run a) runs (run_of n len word) (so.complete a other before at other_nonzero)
        | inr within ↦ Any-push (λ run. IsIn run a) runs (run_of n len word) (within, omega arith)
      ];
      uncut = uncut-piece memory n len word piece;
    }

-- equal words in front of what is left, and another word after them or none, are a piece
pub IsPiece-drop : (memory : List ℤ) (n len : ℕ) (word : ℤ) → 0 < len → len ≤ length (drop n memory) → ((i : ℕ) → i < len → get_or (drop n memory) i word ≡ word) → (len < length (drop n memory) → get_or (drop n memory) len word ≢ word) → IsPiece memory n len word
IsPiece-drop memory n len word some most equal other =
    let left : length (drop n memory) ≡ length memory - n = length-drop n memory in
    record {
      not_empty = some;
      equal = λ a least less.
          let place : n + (a - n) ≡ a = omega arith in
          let at : get_or memory a word ≡ word = sym (ap (λ (k : ℕ). get_or memory k word) place) ∙ (sym (get_or-drop n memory (a - n) word) ∙ equal (a - n) (omega arith)) in
          slice_get-get_or memory a word (omega arith) ∙ ap Some at;
      after = λ at.
          let inside : n + len < length memory = slice_get_within memory (n + len) word at in
          other (omega arith) (get_or-drop n memory len word ∙ get_or_from_slice_get memory (n + len) word word at);
    }

-- adjacent words that are equal are all equal to the first
equal-to-first : (words : List ℤ) (len : ℕ) (d : ℤ) → AllAdjacentBelow (λ one next. int_eq one next ≡ true) words len → (i : ℕ) → i < len → get_or words i d ≡ get_or words 0 d
equal-to-first words len d adjacent zero less = refl
equal-to-first words len d adjacent (suc i) less =
    let step : get_or words i d ≡ get_or words (i + 1) d = (Decides-int_eq (get_or words i d) (get_or words (i + 1) d)).0 (adjacent i d (omega arith)) in
    let next : i + 1 ≡ suc i = omega arith in
    ap (λ (k : ℕ). get_or words k d) (sym next) ∙ (sym step ∙ equal-to-first words len d adjacent i (omega arith))

-- words that `==` tells apart differ
told-apart : (one other : ℤ) → int_eq one other ≡ false → one ≢ other
told-apart one other test same = let equal : int_eq one other ≡ true = (Decides-int_eq one other).1 same in grind arith

-- an element within a list is the same whatever stands for none
get_or_default : (words : List ℤ) (n : ℕ) (d e : ℤ) → n < length words → get_or words n d ≡ get_or words n e
get_or_default [] n d e less = absurd (omega arith)
get_or_default (word ∷ words) zero d e less = refl
get_or_default (word ∷ words) (suc n) d e less = get_or_default words n d e (omega arith)

-- a list whose first element passes begins with one that does
prefix_len-some : (p : ℤ → Bool) (words : List ℤ) (d : ℤ) → 0 < length words → p (get_or words 0 d) ≡ true → 0 < prefix_len p words
prefix_len-some p words d some passes = elim (cases_lt 0 (prefix_len p words)) [
  | inl more ↦ more
  | inr none ↦
      let zero_len : prefix_len p words ≡ 0 = omega arith in
      let stops = prefix_len_stops p words d (omega arith) in
      let fails : p (get_or words 0 d) ≡ false = ap (λ (k : ℕ). p (get_or words k d)) (sym zero_len) ∙ stops in
      absurd (false≢true (sym fails ∙ passes))
]

-- the next chunk of what is left is a piece
pub IsPiece-chunk : (memory rest xs ys : List ℤ) (n : ℕ) → rest ≡ drop n memory → rest ≡ xs ++ ys → 0 < length xs → IsChunkByPrefix int_eq rest (length xs) → IsPiece memory n (length xs) (get_or xs 0 (pos 0))
IsPiece-chunk memory rest xs ys n left parts some chunk =
    let word = get_or xs 0 (pos 0) in
    let front : get_or (drop n memory) 0 word ≡ word = ap (λ (words : List ℤ). get_or words 0 word) (sym left ∙ parts) ∙ (get_or_append_left xs ys word 0 some ∙ get_or_default xs 0 word (pos 0) some) in
    let whole : IsChunkByPrefix int_eq (drop n memory) (length xs) = subst (λ (words : List ℤ). IsChunkByPrefix int_eq words (length xs)) left chunk in
    let len : length (drop n memory) ≡ length xs + length ys = ap length (sym left ∙ parts) ∙ length-append xs ys in
    let equal : (i : ℕ) → i < length xs → get_or (drop n memory) i word ≡ word = λ i less. equal-to-first (drop n memory) (length xs) word whole.0 i less ∙ front in
    IsPiece-drop memory n (length xs) word some (omega arith) equal
    (λ more same. told-apart (get_or (drop n memory) (length xs - 1) word) (get_or (drop n memory) (length xs) word) (whole.1 more word) (equal (length xs - 1) (omega arith) ∙ sym same))

-- what is left behind a chunk
pub rest-chunk : (memory rest xs ys : List ℤ) (n : ℕ) → rest ≡ drop n memory → rest ≡ xs ++ ys → ys ≡ drop (n + length xs) memory
rest-chunk memory rest xs ys n left parts =
    sym (drop-append_seam xs ys) ∙ (ap (λ (words : List ℤ). drop (length xs) words) (sym parts ∙ left) ∙ drop-drop (length xs) n memory)

-- the line of one more run
pub lines-push : (start before now : List ℕ) (runs : List WordRun) (run : WordRun) → before ≡ start ++ flat_map words_line runs → now ≡ before ++ words_line run → now ≡ start ++ flat_map words_line (runs ++ run ∷ [])
lines-push start before now runs run so written =
    written ∙ (ap (λ (text : List ℕ). text ++ words_line run) so ∙ (append_assoc start (flat_map words_line runs) (words_line run) ∙ ap (λ (text : List ℕ). start ++ text) (sym (flat_map-append words_line runs (run ∷ []) ∙ ap (λ (text : List ℕ). flat_map words_line runs ++ text) (append-nil (words_line run))))))

-- at each address within the memory stands a piece
pub some-piece : (memory : List ℤ) (n : ℕ) → n < length memory → (len : ℕ) × (word : ℤ) × IsPiece memory n len word
some-piece memory n inside =
    let word = get_or memory n (pos 0) in
    let is_word : ℤ → Bool = λ other. int_eq word other in
    let left = drop n memory in
    let len : length left ≡ length memory - n = length-drop n memory in
    let front : get_or left 0 word ≡ word = get_or-drop n memory 0 word ∙ (ap (λ (k : ℕ). get_or memory k word) (let e : n + 0 ≡ n = omega arith in e) ∙ get_or_default memory n word (pos 0) inside) in
    let equal : (i : ℕ) → i < prefix_len is_word left → get_or left i word ≡ word = λ i less. sym ((Decides-int_eq word (get_or left i word)).0 (prefix_len_passes is_word left i word less)) in
    let some : 0 < prefix_len is_word left = prefix_len-some is_word left word (omega arith) ((Decides-int_eq word (get_or left 0 word)).1 (sym front)) in (
      prefix_len is_word left,
      word,
      IsPiece-drop memory n (prefix_len is_word left) word some (prefix_len-le-length is_word left) equal
          (λ more same. told-apart word (get_or left (prefix_len is_word left) word) (prefix_len_stops is_word left word more) (sym same)),
    )

-- from the longest runs below an address on, piece by piece
longest-from : (k n : ℕ) (memory : List ℤ) (runs : List WordRun) → length memory ≤ n + k → LongestBelow memory n runs → (all : List WordRun) × LongestRuns memory all
longest-from zero n memory runs end so = (runs, LongestRuns-below memory n runs (omega arith) so)
longest-from (suc k) n memory runs end so = elim (cases_lt n (length memory)) [
  | inl inside ↦
      let found = some-piece memory n inside in
      let some = found.2.not_empty in
      elim (cases_Bool (int_eq found.1 (pos 0))) [
        | inl test ↦ longest-from k (n + found.0) memory runs (omega arith)
            (LongestBelow-zeros memory n found.0 runs (subst (λ (word : ℤ). IsPiece memory n found.0 word) ((Decides-int_eq found.1 (pos 0)).0 test) found.2) so)
        | inr test ↦ longest-from k (n + found.0) memory (runs ++ run_of n found.0 found.1 ∷ []) (omega arith)
            (LongestBelow-push memory n found.0 found.1 runs found.2 (told-apart found.1 (pos 0) test) so)
      ]
  | inr all ↦ (runs, LongestRuns-below memory n runs all so)
]

-- each memory has a list of its longest runs
pub longest-runs : (memory : List ℤ) → (runs : List WordRun) × LongestRuns memory runs
longest-runs memory = longest-from (length memory) 0 memory [] (omega arith) (LongestBelow-start memory)
