-- Jobs that were run, and their steps.
use Rattle.std.specs.Prelude.{◌≡◌, ℕ, ◌<◌, ◌+◌, List, [], ◌∷◌, length, slice_index_or}
use Rattle.verified_turns.specs.Workers.{Status, Origin}

-- each job has nothing left, and the origin of the job that stood at its place
pub record Ran {J : Type 0} (origin : J → Origin) (left : J → ℕ) (old new : List J) : Type 0 where
  pub same_length : length new ≡ length old
  pub each : (i : ℕ) (d : J) → i < length old → (left (slice_index_or new i d) ≡ 0) × (origin (slice_index_or new i d) ≡ origin (slice_index_or old i d))

-- the steps of all jobs
abbrev pub total : {J : Type 0} → (J → ℕ) → List J → ℕ
total steps [] = 0
total steps (job ∷ jobs) = steps job + total steps jobs

-- the tiles that the first of some workers has to try; all workers of a phase have as many
abbrev pub tiles_of : {D : ℕ} → List (Status D) → ℕ
tiles_of [] = 0
tiles_of (w ∷ ws) = length w.lists
