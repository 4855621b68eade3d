-- Sums of steps, job by job.
use Rattle.std.proofs.Common.{◌≡◌, ℕ, zero, suc, ◌+◌, ◌<◌, ◌≤◌, List, [], ◌∷◌, ◌++◌, length, take, drop, get_or, refl, sym, ap, subst, ◌∙◌, arith}
use Rattle.crew.specs.Jobs.{Ran, total, tiles_of}
use Rattle.verified_turns.specs.Workers.{Status, Origin}

module _ {J : Type 0} (steps : J → ℕ) where
  pub total-more : (jobs : List J) (k : ℕ) (d : J) → k < length jobs → total steps (take (k + 1) jobs) ≡ total steps (take k jobs) + steps (get_or jobs k d)
  total-more [] k d below = absurd (omega (arith, below))
  total-more (j ∷ js) zero d below = omega arith
  total-more (j ∷ js) (suc k) d below =
      let next : suc (k + 1) ≡ suc k + 1 = omega arith in
      let more = total-more js k d (omega (arith, below)) in
      let step : steps j + total steps (take (k + 1) js) ≡ steps j + total steps (take k js) + steps (get_or js k d) = omega (arith, more) in
      ap (λ (n : ℕ). total steps (take n (j ∷ js))) (sym next) ∙ step

  pub take-whole : (jobs : List J) (k : ℕ) → length jobs ≤ k → take k jobs ≡ jobs
  take-whole [] zero past = refl
  take-whole [] (suc k) past = refl
  take-whole (j ∷ js) zero past = absurd (omega (arith, past))
  take-whole (j ∷ js) (suc k) past = ap (λ (xs : List J). j ∷ xs) (take-whole js k (omega (arith, past)))

-- what was put into a buffer whole is all of it
pub take-all : {J : Type 0} (new rest : List J) (n : ℕ) → length new ≡ n → take n (new ++ rest) ≡ new
take-all [] rest zero is = refl
take-all [] rest (suc n) is = absurd (omega (arith, is))
take-all (x ∷ xs) rest zero is = absurd (omega (arith, is))
take-all (x ∷ xs) rest (suc n) is = ap (λ l. x ∷ l) (take-all xs rest n (omega (arith, is)))

-- jobs that were run in a buffer of so many
pub ran-back : {J : Type 0} (origin : J → Origin) (left : J → ℕ) (items slice new : List J) (n : ℕ) → length slice ≡ n → slice ≡ items → Ran origin left slice new → Ran origin left items (take n (new ++ drop (length new) items))
ran-back {J} origin left items slice new n long is ran =
    subst (λ (xs : List J). Ran origin left items xs) (sym (take-all new (drop (length new) items) n (ran.same_length ∙ long)))
    (subst (λ (xs : List J). Ran origin left xs new) is ran)

-- the tiles of the first
pub tiles-first : {D : ℕ} (jobs : List (Status D)) (first : Status D) → 0 < length jobs → first ≡ get_or jobs 0 first → length first.lists ≡ tiles_of jobs
tiles-first [] first some is = absurd (omega (arith, some))
tiles-first (j ∷ js) first some is = ap (λ (w : Status _). length w.lists) is
