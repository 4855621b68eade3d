-- Computed examples: sums of steps, and how jobs are run.
use Rattle.std.specs.Prelude.{◌≡◌, ℕ, false, None, [], ◌∷◌, refl}
use Rattle.crew.specs.Jobs.{total, tiles_of}
use Rattle.crew.specs.Ways.{runs_beside, order_of}
use Rattle.crew.specs.declared.handed.Way.TheVariants.{Line}

pub three_jobs_have_six_steps : total (λ (n : ℕ). n) (1 ∷ 2 ∷ 3 ∷ []) ≡ 6
three_jobs_have_six_steps = refl

pub no_job_has_no_steps : total (λ (n : ℕ). n) [] ≡ 0
no_job_has_no_steps = refl

pub no_worker_has_no_tiles : tiles_of {D = 2} [] ≡ 0
no_worker_has_no_tiles = refl

pub in_line_nothing_waits : runs_beside {R = ℕ} {G = ℕ} Line ≡ false
in_line_nothing_waits = refl

pub in_line_no_list_gives_turns : order_of {R = ℕ} {G = ℕ} Line ≡ None
in_line_no_list_gives_turns = refl
