-- The lines of scalars, one by one.
use Rattle.std.proofs.Common.{◌≡◌, ◌∙◌, ◌++◌, ◌+◌, ◌<◌, ℕ, suc, ℤ, pos, List, [], ◌∷◌, Some, codes, ap, ap₂, sym, arith, get_or, drop, drop-cons, append_assoc, flat_map, length}
use Rattle.std.specs.Prelude.{slice_get}
use Rattle.std.specs.List.{zip}
use Rattle.std.specs.Fmt.{signed_decimal}
use Rattle.std.proofs.lemmas.Option.{slice_get_within, get_or_from_slice_get}
use Rattle.report.specs.Outcomes.{scalar_line}

drop-found : {A : Type 0} (xs : List A) (k : ℕ) (x : A) → slice_get xs k ≡ Some x → drop k xs ≡ x ∷ drop (k + 1) xs
drop-found xs k x found =
    let next : suc k ≡ k + 1 = omega arith in
    drop-cons xs k x (slice_get_within xs k x found) ∙ ap₂ (λ y n. y ∷ drop n xs) (get_or_from_slice_get xs k x x found) next

drop-value : (xs : List ℤ) (k : ℕ) → k < length xs → drop k xs ≡ get_or xs k (pos 0) ∷ drop (k + 1) xs
drop-value xs k h = let next : suc k ≡ k + 1 = omega arith in drop-cons xs k (pos 0) h ∙ ap (λ n. get_or xs k (pos 0) ∷ drop n xs) next

-- a line, as it is written piece by piece
abbrev pub written : List ℕ → ℤ → List ℕ
written name z = codes "scalar " ++ (name ++ 32 ∷ (signed_decimal z ++ 10 ∷ []))

written-line : (name : List ℕ) (z : ℤ) → written name z ≡ scalar_line (name, z)
written-line name z = simp append_assoc

pub lines-next : (names : List (List ℕ)) (values : List ℤ) (k : ℕ) (name text new whole : List ℕ) → slice_get names k ≡ Some name → k < length values → new ≡ text ++ written name (get_or values k (pos 0))
    → text ++ flat_map scalar_line (zip (drop k names) (drop k values)) ≡ whole → new ++ flat_map scalar_line (zip (drop (k + 1) names) (drop (k + 1) values)) ≡ whole
lines-next names values k name text new whole found below is before =
    ap (λ t. t ++ flat_map scalar_line (zip (drop (k + 1) names) (drop (k + 1) values))) (is ∙ ap (λ l. text ++ l) (written-line name (get_or values k (pos 0))))
    ∙ append_assoc text (scalar_line (name, get_or values k (pos 0))) (flat_map scalar_line (zip (drop (k + 1) names) (drop (k + 1) values)))
    ∙ sym (ap₂ (λ ns vs. text ++ flat_map scalar_line (zip ns vs)) (drop-found names k name found) (drop-value values k below))
    ∙ before
