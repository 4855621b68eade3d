-- What is answered of the candidates of a nest, one after another.
use Rattle.std.proofs.Common.{◌≡◌, refl, sym, ap, ap₂, ◌∙◌, ℕ, zero, suc, ◌+◌, ◌<◌, ◌≤◌, ℤ, Option, inl, inr, List, [], ◌∷◌, ◌++◌, length, get_or, append-nil, arith}
use Rattle.std.specs.Prelude.{slice_get}
use Rattle.std.specs.Option.{option_and_then}
use Rattle.std.specs.List.{flat_map, range_with_len}
use Rattle.std.proofs.lemmas.Bool.{cases_lt}
use Rattle.std.proofs.lemmas.Option.{slice_get-get_or, slice_get_past}
use Rattle.nest_lang.specs.declared.command.Command.{Command}
use Rattle.nest_lang.specs.declared.tree.Loop.{Loop}
use Rattle.domain.specs.Tables.{Table}
use Rattle.transform.specs.Schedules.{Schedule}
use Rattle.transform.specs.Scripts.{schedule_of}
use Rattle.transform.specs.Standards.{standard, standard_script, standard_scripts}
use Rattle.dependence.proofs.AddedLaws.{flat-more}
use Rattle.dependence.proofs.RangeLaws.{any-default}
use Rattle.report.specs.declared.line.ListingLine.{ListingLine}
use Rattle.listing.specs.Lists.{judged_if_any, judgement_at, judgements, judgements_of}

-- ---- ranges

ranged-same : {Y : Type 0} (f g : ℕ → List Y) (n : ℕ) → ((k : ℕ) → k < n → f k ≡ g k) → flat_map f (range_with_len 0 n) ≡ flat_map g (range_with_len 0 n)
ranged-same f g zero same = refl
ranged-same {Y} f g (suc n) same =
    let here : 0 + n ≡ n = omega arith in
    flat-more f 0 n
    ∙ ap₂ (λ (xs ys : List Y). xs ++ ys) (ranged-same f g n (λ k l. same k (omega arith))) (ap f here ∙ same n (omega arith) ∙ sym (ap g here))
    ∙ sym (flat-more g 0 n)

-- a range past whose first n numbers nothing is made
ranged-stop : {Y : Type 0} (f g : ℕ → List Y) (n m : ℕ) → n ≤ m → ((k : ℕ) → k < n → f k ≡ g k) → ((k : ℕ) → n ≤ k → f k ≡ []) → flat_map f (range_with_len 0 m) ≡ flat_map g (range_with_len 0 n)
ranged-stop f g n zero l same none = let z : n ≡ 0 = omega arith in sym (ap (λ (j : ℕ). flat_map g (range_with_len 0 j)) z)
ranged-stop {Y} f g n (suc m) l same none = elim (cases_lt m n) [
  | inl less ↦
      let whole : n ≡ suc m = omega arith in
      ranged-same f g (suc m) (λ k h. same k (omega arith)) ∙ ap (λ (j : ℕ). flat_map g (range_with_len 0 j)) (sym whole)
  | inr more ↦
      let here : 0 + m ≡ m = omega arith in
      flat-more f 0 m
      ∙ ap (λ (ys : List Y). flat_map f (range_with_len 0 m) ++ ys) (ap f here ∙ none m (omega arith))
      ∙ append-nil (flat_map f (range_with_len 0 m))
      ∙ ranged-stop f g n m (omega arith) same none
]

-- ---- candidates

-- the standard candidate at a place
abbrev pub standard_at : List Loop → Table → ℤ → ℕ → ℕ → List ListingLine
standard_at loops t L D k = judged_if_any loops t L (k + 1) (standard D (k + 1))

module _ (loops : List Loop) (t : Table) (L : ℤ) (D : ℕ) (deep : length loops ≡ D) where
  -- a candidate of the file
  pub own-judged : (scripts : List (List Command)) (k : ℕ) (script d : List Command) (schedule : Option Schedule) → k < length scripts → get_or scripts k d ≡ script → schedule ≡ schedule_of D script
      → judged_if_any loops t L (k + 1) schedule ≡ judgement_at loops t L scripts k
  own-judged scripts k script d schedule l e s = ap (judged_if_any loops t L (k + 1)) (s ∙ ap₂ schedule_of (sym deep) (sym e ∙ any-default scripts k d [] l))

  abbrev At : ℕ → List ListingLine
  At k = standard_at loops t L D k

  standards-few : (n : ℕ) → length (standard_scripts n) ≤ 5
  standards-few zero = omega arith
  standards-few (suc zero) = omega arith
  standards-few (suc (suc n)) = omega arith

  script-at : (k : ℕ) → standard D (k + 1) ≡ option_and_then (schedule_of D) (slice_get (standard_scripts D) k)
  script-at k = let next : k + 1 ≡ suc k = omega arith in ap (λ (j : ℕ). option_and_then (schedule_of D) (standard_script D j)) next

  standard-same : (k : ℕ) → k < length (standard_scripts D) → At k ≡ judgement_at loops t L (standard_scripts D) k
  standard-same k l =
      ap (judged_if_any loops t L (k + 1))
      (script-at k ∙ ap (option_and_then (schedule_of D)) (slice_get-get_or (standard_scripts D) k [] l) ∙ ap (λ (n : ℕ). schedule_of n (get_or (standard_scripts D) k [])) (sym deep))

  standard-past : (k : ℕ) → length (standard_scripts D) ≤ k → At k ≡ []
  standard-past k l = ap (judged_if_any loops t L (k + 1)) (script-at k ∙ ap (option_and_then (schedule_of D)) (slice_get_past (standard_scripts D) k l))

  pub standard-judged : flat_map At (range_with_len 0 5) ≡ judgements_of loops t L (standard_scripts D)
  standard-judged = ranged-stop At (judgement_at loops t L (standard_scripts D)) (length (standard_scripts D)) 5 (standards-few D) standard-same standard-past

  -- the candidates of a nest
  pub judgements-none : (scripts : List (List Command)) → length scripts ≡ 0 → judgements_of loops t L (standard_scripts D) ≡ judgements loops t L scripts
  judgements-none [] e = ap (λ (n : ℕ). judgements_of loops t L (standard_scripts n)) (sym deep)
  judgements-none (script ∷ scripts) e = absurd (omega arith)

  pub judgements-some : (scripts : List (List Command)) → (length scripts ≡ 0 → ⊥) → judgements_of loops t L scripts ≡ judgements loops t L scripts
  judgements-some [] e = absurd (e refl)
  judgements-some (script ∷ scripts) e = refl
