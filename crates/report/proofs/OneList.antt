-- A memory has no two lists of longest runs.
use Rattle.std.proofs.Common.{◌≡◌, ℕ, zero, suc, ◌+◌, ◌-◌, ◌<◌, ◌≤◌, ℤ, List, [], ◌∷◌, get_or, Some, arith, refl, sym, ◌∙◌, ap, subst, ◌⊎◌, inl, inr}
use Rattle.std.specs.Prelude.{All, AllPairs, Contains}
use Rattle.std.proofs.lemmas.Bool.{cases_lt}
use Rattle.std.proofs.lemmas.List.Elements.{All-tail, All-contains}
use Rattle.report.specs.declared.runs.WordRun.{WordRun}
use Rattle.report.specs.LongestRuns.{IsIn, IsLongest, LongestRuns}
use Rattle.report.proofs.RunLaws.{same-word}

abbrev Before : WordRun → WordRun → Type 0
Before one later = one.last < later.first

-- two longest runs with an address in common have the same value
same-value : (memory : List ℤ) (one other : WordRun) (a : ℕ) → IsLongest memory one → IsLongest memory other → IsIn one a → IsIn other a → one.value ≡ other.value
same-value memory one other a is is' inside inside' = same-word memory a one.value other.value (is.equal a inside) (is'.equal a inside')

-- none of two longest runs with an address in common begins after the other
begins-no-later : (memory : List ℤ) (one other : WordRun) (a : ℕ) → IsLongest memory one → IsLongest memory other → IsIn one a → IsIn other a → one.first ≤ other.first
begins-no-later memory one other a is is' inside inside' = elim (cases_lt other.first one.first) [
  | inl later ↦
      let low = inside.0 in
      let high = inside'.1 in
      let next : one.first - 1 + 1 ≡ one.first = omega arith in
      let at = is'.equal (one.first - 1) (omega arith, omega arith) in
      absurd (is.before (one.first - 1) next (at ∙ ap Some (sym (same-value memory one other a is is' inside inside'))))
  | inr not_later ↦ not_later
]

-- none of them ends before the other
ends-no-sooner : (memory : List ℤ) (one other : WordRun) (a : ℕ) → IsLongest memory one → IsLongest memory other → IsIn one a → IsIn other a → other.last ≤ one.last
ends-no-sooner memory one other a is is' inside inside' = elim (cases_lt one.last other.last) [
  | inl sooner ↦
      let low = inside'.0 in
      let high = inside.1 in
      let at = is'.equal (one.last + 1) (omega arith, omega arith) in
      absurd (is.after (at ∙ ap Some (sym (same-value memory one other a is is' inside inside'))))
  | inr not_sooner ↦ not_sooner
]

run-by-fields : (one other : WordRun) → one.first ≡ other.first → one.last ≡ other.last → one.value ≡ other.value → one ≡ other
run-by-fields one other first last value =
    let P : ℕ → ℕ → ℤ → WordRun = λ f l v. record { first = f; last = l; value = v } in
    ap (λ (f : ℕ). P f one.last one.value) first ∙ (ap (λ (l : ℕ). P other.first l one.value) last ∙ ap (λ (v : ℤ). P other.first other.last v) value)

-- two longest runs with an address in common are the same
same-run : (memory : List ℤ) (one other : WordRun) (a : ℕ) → IsLongest memory one → IsLongest memory other → IsIn one a → IsIn other a → one ≡ other
same-run memory one other a is is' inside inside' =
    let begins = begins-no-later memory one other a is is' inside inside' in
    let begins' = begins-no-later memory other one a is' is inside' inside in
    let ends = ends-no-sooner memory one other a is is' inside inside' in
    let ends' = ends-no-sooner memory other one a is' is inside' inside in
    run-by-fields one other (omega arith) (omega arith) (same-value memory one other a is is' inside inside')

-- each run of one list is in the other
each-in-other : (memory : List ℤ) (xs ys : List WordRun) → LongestRuns memory xs → LongestRuns memory ys → All (Contains ys) xs
each-in-other memory xs ys so so' k d less =
    let run = get_or xs k d in
    let is : IsLongest memory run = so.longest k d less in
    let first : IsIn run run.first = (omega arith, is.not_empty) in
    let found = so'.complete run.first run.value (is.equal run.first first) is.not_zero in
    let other = found.1 in
    let there : Contains ys other = (found.0, found.2, found.3) in
    let is' : IsLongest memory other = All-contains (IsLongest memory) ys other so'.longest there in
    subst (λ (r : WordRun). Contains ys r) (same-run memory other run run.first is' is found.4 first) there

-- an element of a list is its first, or one of the rest
first-or-rest : (x : WordRun) (xs : List WordRun) (y : WordRun) → Contains (x ∷ xs) y → (y ≡ x) ⊎ Contains xs y
first-or-rest x xs y (zero, less, at) = inl (sym at)
first-or-rest x xs y (suc k, less, at) = inr (k, (omega arith), at)

-- ascending lists of runs with the same runs are equal
same-list : (xs ys : List WordRun) → All (λ run. run.first ≤ run.last) xs → All (λ run. run.first ≤ run.last) ys → AllPairs Before xs → AllPairs Before ys → All (Contains ys) xs → All (Contains xs) ys → xs ≡ ys
same-list [] [] some some' before before' within within' = refl
same-list [] (y ∷ ys) some some' before before' within within' = absurd (let none = within' 0 y (omega arith) in let less = none.1 in omega arith)
same-list (x ∷ xs) [] some some' before before' within within' = absurd (let none = within 0 x (omega arith) in let less = none.1 in omega arith)
same-list (x ∷ xs) (y ∷ ys) some some' before before' within within' =
    let after : All (Before x) xs = λ k d less. before 0 (suc k) d (omega arith) (omega arith) in
    let after' : All (Before y) ys = λ k d less. before' 0 (suc k) d (omega arith) (omega arith) in
    let x_some : x.first ≤ x.last = some 0 x (omega arith) in
    let y_some : y.first ≤ y.last = some' 0 y (omega arith) in
    let heads : x ≡ y = elim (first-or-rest y ys x (within 0 x (omega arith))) [
      | inl same ↦ same
      | inr x_later ↦ elim (first-or-rest x xs y (within' 0 y (omega arith))) [
        | inl same ↦ sym same
        | inr y_later ↦
            let x_after : y.last < x.first = All-contains (Before y) ys x after' x_later in
            let y_after : x.last < y.first = All-contains (Before x) xs y after y_later in
            absurd (omega arith)
      ]
    ] in
    let rest : All (Contains ys) xs = λ k d less. elim (first-or-rest y ys (get_or xs k d) (All-tail (Contains (y ∷ ys)) x xs within k d less)) [
      | inl same ↦
          let next : x.last < (get_or xs k d).first = after k d less in
          let first : (get_or xs k d).first ≡ x.first = ap (λ (r : WordRun). r.first) (same ∙ sym heads) in
          absurd (omega arith)
      | inr there ↦ there
    ] in
    let rest' : All (Contains xs) ys = λ k d less. elim (first-or-rest x xs (get_or ys k d) (All-tail (Contains (x ∷ xs)) y ys within' k d less)) [
      | inl same ↦
          let next : y.last < (get_or ys k d).first = after' k d less in
          let first : (get_or ys k d).first ≡ y.first = ap (λ (r : WordRun). r.first) (same ∙ heads) in
          absurd (omega arith)
      | inr there ↦ there
    ] in
    ap (λ (r : WordRun). r ∷ xs) heads ∙ ap (λ (rs : List WordRun). y ∷ rs)
    (same-list xs ys (All-tail (λ run. run.first ≤ run.last) x xs some) (All-tail (λ run. run.first ≤ run.last) y ys some') (λ i j d less in'. before (suc i) (suc j) d (omega arith) (omega arith)) (λ i j d less in'. before' (suc i) (suc j) d (omega arith) (omega arith)) rest rest')

-- two lists of the longest runs of a memory are equal
pub same-runs : (memory : List ℤ) (xs ys : List WordRun) → LongestRuns memory xs → LongestRuns memory ys → xs ≡ ys
same-runs memory xs ys so so' =
    same-list xs ys (λ k d less. (so.longest k d less).not_empty) (λ k d less. (so'.longest k d less).not_empty) so.ascending so'.ascending
    (each-in-other memory xs ys so so') (each-in-other memory ys xs so' so)
