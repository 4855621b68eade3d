-- Plain runs within more and more steps.
use Rattle.std.proofs.Common.{◌≡◌, refl, ap, ◌∙◌, sym, ℕ, ℤ, zero, suc, ◌+◌, ◌-◌, ◌≤◌, min, inl, inr, true, false, List, [], ◌∷◌, ◌++◌, length, nat_le, take, set, arith}
use Rattle.std.proofs.lemmas.Grind.{common_steps}
use Rattle.nest_lang.specs.declared.tree.Nest.{Nest}
use Rattle.nest_lang.specs.Stores.{Store, Effect, Nothing, Local, Scalar, Word, effect_on}
use Rattle.nest_lang.specs.Traces.{Entry, Trace, Limited, finish_of, cut_of, cut, after_all}
use Rattle.nest_lang.specs.Runs.{nests_trace, plain_run, run_of}
use Rattle.nest_lang.specs.Laws.{LongerRunBegins, FinishedRunStays, SizesStay}
use Rattle.nest_lang.proofs.AgreementLaws.{Alike, alike-nests, cut-long}
use Rattle.plain_lemmas.proofs.ListLaws.{take-same, take-begins}

runs-alike : (nests : List Nest) (s : Store) (n m : ℕ) → n ≤ m → Alike (n + 1) (nests_trace (n + 1) nests s) (nests_trace (m + 1) nests s)
runs-alike nests s n m h = alike-nests (n + 1) (n + 1) (m + 1) nests (omega arith) (omega arith) s

begins-alike : (t u : Trace) (n m : ℕ) → n ≤ m → Alike (n + 1) t u → (more : List Entry) × (take m u.entries ≡ take n t.entries ++ more)
begins-alike t u n m h (inl e) =
    let p = take-begins n m u.entries h in
    (p.0, p.1 ∙ ap (λ z. take n z.entries ++ p.0) (sym e))
begins-alike t u n m h (inr b) =
    let p = take-begins n m u.entries h in
    (p.0, p.1 ∙ ap (λ z. z ++ p.0) (sym (take-same n (n + 1) t.entries u.entries (omega arith) b.same)))

pub longer-run-begins : LongerRunBegins
longer-run-begins nests s n m h = begins-alike (nests_trace (n + 1) nests s) (nests_trace (m + 1) nests s) n m h (runs-alike nests s n m h)

take-all : {A : Type 0} (xs : List A) (n : ℕ) → length xs ≤ n → take n xs ≡ xs
take-all [] zero h = refl
take-all [] (suc n) h = refl
take-all (x ∷ xs) zero h = absurd (omega arith)
take-all (x ∷ xs) (suc n) h = ap (λ z. x ∷ z) (take-all xs n (omega arith))

-- a cut of a trace with no more entries than steps
pub cut-whole : (t : Trace) (s : Store) (left used : ℕ) → length t.entries ≤ left → cut t s left used ≡ cut_of (after_all s t.entries) (left - length t.entries) (used + length t.entries) (finish_of t.halt)
unfolding cut
cut-whole t s left used h =
    let more : nat_le (length t.entries) left ≡ true = grind arith in
    let all : min left (length t.entries) ≡ length t.entries = omega arith in
    rw (more, all, take-all t.entries left h) refl

-- a cut that is not limited took every entry
within-cut : (t : Trace) (s : Store) (left used : ℕ) → ((cut t s left used).ending ≡ Limited → ⊥) → length t.entries ≤ left
within-cut t s left used other =
    elim (nat_le (length t.entries) left) as (λ b. nat_le (length t.entries) left ≡ b → length t.entries ≤ left) [
      | true ↦ λ e. grind arith
      | false ↦ λ e. absurd (other (ap (λ c. c.ending) (cut-long t s left used (grind arith))))
    ] refl

stays-alike : (t u : Trace) (s : Store) (n m : ℕ) → n ≤ m → Alike (n + 1) t u → ((run_of (cut t s n 0)).ending ≡ Limited → ⊥) → run_of (cut u s m 0) ≡ run_of (cut t s n 0)
stays-alike t u s n m h (inl e) other =
    let few : length t.entries ≤ n = within-cut t s n 0 other in
    let here : run_of (cut t s m 0) ≡ run_of (cut t s n 0) =
    ap run_of (cut-whole t s m 0 (omega arith)) ∙ sym (ap run_of (cut-whole t s n 0 few)) in
    ap (λ z. run_of (cut z s m 0)) (sym e) ∙ here
stays-alike t u s n m h (inr b) other = absurd (omega (arith, within-cut t s n 0 other, b.first))

pub finished-run-stays : FinishedRunStays
unfolding plain_run
finished-run-stays nests s n m h other = stays-alike (nests_trace (n + 1) nests s) (nests_trace (m + 1) nests s) s n m h (runs-alike nests s n m h) other

pub length-slice_set : (xs : List ℤ) (i : ℕ) (v : ℤ) → length (set xs i v) ≡ length xs
length-slice_set xs i v = grind (arith, common_steps)

-- a step changes no number of words or scalars
abbrev pub SameSizes : Store → Store → Type 0
SameSizes s t = (length t.memory ≡ length s.memory) × (length t.scalars ≡ length s.scalars)

effect-sizes : (s : Store) (e : Effect) → SameSizes s (effect_on s e)
effect-sizes s Nothing = (refl, refl)
effect-sizes s (Local number value) = (refl, refl)
effect-sizes s (Scalar number value) = (refl, length-slice_set s.scalars number value)
effect-sizes s (Word address value) = (length-slice_set s.memory address value, refl)

pub after_all-sizes : (s : Store) (es : List Entry) → SameSizes s (after_all s es)
after_all-sizes s [] = (refl, refl)
after_all-sizes s (e ∷ es) =
    let one = effect-sizes s e.effect in
    let more = after_all-sizes (effect_on s e.effect) es in
    (more.0 ∙ one.0, more.1 ∙ one.1)

pub cut-sizes : (t : Trace) (s : Store) (left used : ℕ) → SameSizes s (cut t s left used).store
unfolding cut
cut-sizes t s left used = after_all-sizes s (take left t.entries)

pub sizes-stay : SizesStay
unfolding plain_run
sizes-stay nests s n = cut-sizes (nests_trace (n + 1) nests s) s n 0
