-- The flag, the claims and the memory words, after a write of another word.
use Rattle.std.proofs.Common.{◌≡◌, ◌≢◌, ℕ, ◌+◌, ◌-◌, ◌<◌, ◌≤◌, List, length, get_or, set, drop, sym, ap, ◌∙◌, arith, length-set, length-drop, get_or-set_same, get_or-set_other}
use Rattle.std.proofs.lemmas.List.{get_or-drop, ext_get_or}
use mathlib.Core.Logic.{dite}
use native.Mathlib.Decide.{ℕ_discrete}
use Rattle.core_steps.specs.States.{claim_word, memory_word, flag_of, claim_of, word_of, memory_of}

pub flag-set-claim : (words : List ℕ) (k x : ℕ) → flag_of (set words (claim_word k) x) ≡ flag_of words
flag-set-claim words k x = get_or-set_other words (claim_word k) 0 x 0 (λ e. omega arith)

pub flag-set-memory : (words : List ℕ) (a x : ℕ) → flag_of (set words (memory_word a) x) ≡ flag_of words
flag-set-memory words a x = get_or-set_other words (memory_word a) 0 x 0 (λ e. omega arith)

pub claim-set-flag : (words : List ℕ) (k x : ℕ) → claim_of (set words 0 x) k ≡ claim_of words k
claim-set-flag words k x = get_or-set_other words 0 (claim_word k) x 0 (λ e. omega arith)

pub claim-set-memory : (words : List ℕ) (k a x : ℕ) → k < 65536 → claim_of (set words (memory_word a) x) k ≡ claim_of words k
claim-set-memory words k a x lt = get_or-set_other words (memory_word a) (claim_word k) x 0 (λ e. omega arith)

pub claim-set-other : (words : List ℕ) (k n x : ℕ) → n ≢ k → claim_of (set words (claim_word k) x) n ≡ claim_of words n
claim-set-other words k n x ne = get_or-set_other words (claim_word k) (claim_word n) x 0 (λ e. ne (omega arith))

pub word-set-flag : (words : List ℕ) (a x : ℕ) → word_of (set words 0 x) a ≡ word_of words a
word-set-flag words a x = get_or-set_other words 0 (memory_word a) x 0 (λ e. omega arith)

pub word-set-claim : (words : List ℕ) (k a x : ℕ) → k < 65536 → word_of (set words (claim_word k) x) a ≡ word_of words a
word-set-claim words k a x lt = get_or-set_other words (claim_word k) (memory_word a) x 0 (λ e. omega arith)

pub word-set-other : (words : List ℕ) (a b x : ℕ) → b ≢ a → word_of (set words (memory_word a) x) b ≡ word_of words b
word-set-other words a b x ne = get_or-set_other words (memory_word a) (memory_word b) x 0 (λ e. ne (omega arith))

pub word-set-same : (words : List ℕ) (a x : ℕ) → memory_word a < length words → word_of (set words (memory_word a) x) a ≡ x
word-set-same words a x lt = get_or-set_same words (memory_word a) x 0 lt

-- the list has the memory's values
pub record ShowsMemory (words base : List ℕ) : Type 0 where
  pub width : length words ≡ 65537 + length base
  pub values : (a : ℕ) → a < length base → word_of words a ≡ get_or base a 0

-- over a variable in the place of the number, which is long as a numeral of ones
memory-from : (words : List ℕ) (low : ℕ) → low ≤ length words → (length words ≡ low + length (drop low words)) × ((a : ℕ) → get_or words (low + a) 0 ≡ get_or (drop low words) a 0)
memory-from words low le = let len : length (drop low words) ≡ length words - low = length-drop low words in (omega arith, λ a. sym (get_or-drop low words a 0))

pub shows-memory : (words : List ℕ) → 65537 ≤ length words → ShowsMemory words (memory_of words)
shows-memory words le = let both = memory-from words 65537 le in record { width = both.0; values = λ a _. both.1 a }

pub shows-store : (words base : List ℕ) (a x : ℕ) → ShowsMemory words base → a < length base → ShowsMemory (set words (memory_word a) x) (set base a x)
shows-store words base a x h lt = let
    wide = h.width in let
    len : length (set base a x) ≡ length base = length-set base a x in let
    longer : length (set words (memory_word a) x) ≡ length words = length-set words (memory_word a) x in
    record {
      width = omega arith;
      values = λ b lt'. dite (ℕ_discrete b a)
          (λ e. ap (λ (j : ℕ). word_of (set words (memory_word a) x) j) e ∙ word-set-same words a x (omega arith) ∙ sym (get_or-set_same base a x 0 lt) ∙ ap (λ (j : ℕ). get_or (set base a x) j 0) (sym e))
          (λ ne. word-set-other words a b x ne ∙ h.values b (omega arith) ∙ sym (get_or-set_other base a b x 0 ne));
    }

-- a list that has the memory's values is the memory
pub memory-shown : (words base : List ℕ) → ShowsMemory words base → memory_of words ≡ base
memory-shown words base h = let wide = h.width in let all = shows-memory words (omega arith) in let same = all.width in let len : length (memory_of words) ≡ length base = omega arith in
    ext_get_or 0 (memory_of words) base len (λ a lt. sym (all.values a lt) ∙ h.values a (omega arith))
