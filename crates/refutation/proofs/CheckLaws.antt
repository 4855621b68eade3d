-- What a check finds, add by add.
use Rattle.std.proofs.Common.{◌≡◌, ◌<◌, ◌+◌, ℕ, zero, suc, Bool, true, false, Option, Some, None, List, [], ◌∷◌, ◌++◌, length, get_or, drop, refl, sym, ap, ◌∙◌, arith}
use Rattle.std.specs.Prelude.{◌↔◌, ◌≤◌, if◌then◌else◌}
use Rattle.std.specs.List.{All}
use Rattle.std.proofs.lemmas.List.{drop_more}
use Rattle.affine.specs.declared.row.Row.{Row}
use Rattle.fourier_motzkin.specs.RowSets.{is_false, tidied}
use Rattle.refutation.specs.declared.proofs_by_adding.Add.{Add}
use Rattle.refutation.specs.declared.proofs_by_adding.Why.{Why}
use Rattle.refutation.specs.declared.proofs_by_adding.Why.TheVariants as why
use Rattle.refutation.specs.declared.proofs_by_adding.Checked.{Checked}
use Rattle.refutation.specs.declared.proofs_by_adding.Checked.TheVariants.{Yes, No}
use Rattle.refutation.specs.Refutations.{AreAdds, HasFactors, IsRefutation, Refutation, names_rows, names_wide, row_at, rows_of, sum_of, with_sums}
use Rattle.refutation.specs.Checks.{checked, checked_by, first_flaw, flaw, flaw_or}

-- the first k adds have no flaw, and these are the rows then
pub record AreChecked (start : List Row) (adds : List Add) (k : ℕ) (rows : List Row) : Type 0 where
  pub flaws : first_flaw k rows (drop k adds) ≡ first_flaw 0 start adds
  pub sums : with_sums rows (drop k adds) ≡ with_sums start adds

pub none-checked : (start : List Row) (adds : List Add) → AreChecked start adds 0 start
none-checked start adds = record { flaws = refl; sums = refl }

pub one-checked : (start : List Row) (adds : List Add) (k : ℕ) (rows after : List Row) (add : Add) → AreChecked start adds k rows → k < length adds → get_or adds k add ≡ add
    → None ≡ flaw k rows add → after ≡ rows ++ sum_of rows add ∷ [] → AreChecked start adds (k + 1) after
one-checked start adds k rows after add h l e none made =
    let more : drop k adds ≡ add ∷ drop (k + 1) adds = drop_more adds k add l ∙ ap (λ (a : Add). a ∷ drop (k + 1) adds) e in
    let next : k + 1 ≡ suc k = omega arith in
    let flaws : first_flaw k rows (drop k adds) ≡ flaw_or (flaw k rows add) (first_flaw (suc k) (rows ++ sum_of rows add ∷ []) (drop (k + 1) adds)) = ap (first_flaw k rows) more in
    record {
      flaws = ap (λ (n : ℕ). first_flaw n after (drop (k + 1) adds)) next ∙ ap (λ (xs : List Row). first_flaw (suc k) xs (drop (k + 1) adds)) made
          ∙ ap (λ (o : Option Why). flaw_or o (first_flaw (suc k) (rows ++ sum_of rows add ∷ []) (drop (k + 1) adds))) none ∙ sym flaws ∙ h.flaws;
      sums = ap (λ (xs : List Row). with_sums xs (drop (k + 1) adds)) made ∙ sym (ap (with_sums rows) more) ∙ h.sums;
    }

pub flaw-found : (given : List Row) (proof : Refutation) (adds : List Add) (k : ℕ) (rows seen : List Row) (add d : Add) (found : Why) → AreChecked (tidied given) proof.adds k rows → adds ≡ proof.adds → k < length adds
    → add ≡ get_or adds k d → seen ≡ rows → Some found ≡ flaw k seen add → No found ≡ checked given proof
unfolding checked
flaw-found given proof adds k rows seen add d found h same l e sees tells =
    let some : Some found ≡ flaw k rows add = tells ∙ ap (λ (xs : List Row). flaw k xs add) sees in
    let here : k < length proof.adds = rw same at l in
    let is : add ≡ get_or proof.adds k d = rw same at e in
    let more : drop k proof.adds ≡ add ∷ drop (k + 1) proof.adds = drop_more proof.adds k d here ∙ ap (λ (a : Add). a ∷ drop (k + 1) proof.adds) (sym is) in
    let flaws : Some found ≡ first_flaw 0 (tidied given) proof.adds =
    ap (λ (o : Option Why). flaw_or o (first_flaw (suc k) (rows ++ sum_of rows add ∷ []) (drop (k + 1) proof.adds))) some ∙ sym (ap (first_flaw k rows) more) ∙ h.flaws in
    ap (λ (o : Option Why). checked_by o (is_false (row_at (rows_of given proof) proof.last))) flaws

drop-none : (adds : List Add) (k : ℕ) → length adds ≤ k → drop k adds ≡ []
drop-none [] zero l = refl
drop-none [] (suc k) l = refl
drop-none (add ∷ adds) zero l = absurd (omega arith)
drop-none (add ∷ adds) (suc k) l = drop-none adds k (omega arith)

pub all-checked : (given : List Row) (proof : Refutation) (adds : List Add) (k : ℕ) (rows seen : List Row) (ends : Bool) → AreChecked (tidied given) proof.adds k rows → adds ≡ proof.adds → length adds ≤ k
    → seen ≡ rows → ends ≡ is_false (row_at seen proof.last) → checked_by None ends ≡ checked given proof
unfolding checked
all-checked given proof adds k rows seen ends h same l sees tells =
    let e : ends ≡ is_false (row_at rows proof.last) = tells ∙ ap (λ (xs : List Row). is_false (row_at xs proof.last)) sees in
    let done : length proof.adds ≤ k = rw same at l in
    let none : drop k proof.adds ≡ [] = drop-none proof.adds k done in
    let flaws : None ≡ first_flaw 0 (tidied given) proof.adds = sym (ap (first_flaw k rows) none) ∙ h.flaws in
    let sums : rows ≡ rows_of given proof = sym (ap (with_sums rows) none) ∙ h.sums in
    ap (checked_by None) (e ∙ ap (λ (xs : List Row). is_false (row_at xs proof.last)) sums) ∙ ap (λ (o : Option Why). checked_by o (is_false (row_at (rows_of given proof) proof.last))) flaws

-- an add without a flaw

flaw-none : (k : ℕ) (rows : List Row) (add : Add) → flaw k rows add ≡ None → (names_rows rows add ≡ true) × (names_wide rows add ≡ false)
flaw-none k rows add h = at (names_rows rows add) refl (names_wide rows add) refl h
  where
    at : (a : Bool) → names_rows rows add ≡ a → (b : Bool) → names_wide rows add ≡ b → (if a then (if b then Some (why.Wide k) else None) else Some (why.Index k)) ≡ None → (names_rows rows add ≡ true) × (names_wide rows add ≡ false)
    at true e true f h = cc
    at true e false f h = (e, f)
    at false e b f h = cc

pub flawless : (k : ℕ) (rows : List Row) (add : Add) → None ≡ flaw k rows add → (names_rows rows add ≡ true) × (names_wide rows add ≡ false)
flawless k rows add h = flaw-none k rows add (sym h)

both-none : (o later : Option Why) → flaw_or o later ≡ None → (o ≡ None) × (later ≡ None)
both-none None later h = (refl, h)
both-none (Some found) later h = cc

adds-from : (k : ℕ) (rows : List Row) (adds : List Add) → first_flaw k rows adds ≡ None → AreAdds rows adds
adds-from k rows [] h = tt
adds-from k rows (add ∷ adds) h =
    let (here, later) = both-none (flaw k rows add) (first_flaw (suc k) (rows ++ sum_of rows add ∷ []) adds) h in
    let (there, narrow) = flaw-none k rows add here in
    (there, narrow, adds-from (suc k) (rows ++ sum_of rows add ∷ []) adds later)

adds-none : (k : ℕ) (rows : List Row) (adds : List Add) → AreAdds rows adds → first_flaw k rows adds ≡ None
adds-none k rows [] h = refl
adds-none k rows (add ∷ adds) h = rw (h.0, h.1) (adds-none (suc k) (rows ++ sum_of rows add ∷ []) adds h.2)

yes-parts : (o : Option Why) (ends : Bool) → checked_by o ends ≡ Yes → (o ≡ None) × (ends ≡ true)
yes-parts (Some found) ends h = cc
yes-parts None true h = (refl, refl)
yes-parts None false h = cc

pub yes-exactly : (rows : List Row) (proof : Refutation) (answer : Checked) → All HasFactors proof.adds → answer ≡ checked rows proof → (answer ≡ Yes) ↔ IsRefutation rows proof
unfolding checked
yes-exactly rows proof answer factors e = (
  λ y.
      let (none, ends) = yes-parts (first_flaw 0 (tidied rows) proof.adds) (is_false (row_at (rows_of rows proof) proof.last)) (sym e ∙ y) in
      record { factors = factors; adds = adds-from 0 (tidied rows) proof.adds none; ends = ends },
  λ is. e ∙ ap (λ (o : Option Why). checked_by o (is_false (row_at (rows_of rows proof) proof.last))) (adds-none 0 (tidied rows) proof.adds is.adds) ∙ ap (checked_by None) is.ends,
)
