-- Workers that a crew gave their turns are those of their phase still.
use Rattle.std.proofs.Common.{◌≡◌, ℕ, zero, suc, ℤ, ◌<◌, Option, Some, List, [], ◌∷◌, ◌++◌, length, get_or, refl, sym, ap, ◌∙◌, inl, inr, arith}
use Rattle.plain_lemmas.specs.Lists.{Has}
use Rattle.follow_chunk.specs.Tasks.{TaskState}
use Rattle.verified_turns.specs.Workers.{Status, Origin, origin_of}
use Rattle.crew.specs.declared.handed.Handed.{Handed}
use Rattle.crew.specs.Jobs.{Ran, tiles_of}
use Rattle.phase_run.specs.Postings.{PostingState}
use Rattle.phase_run.specs.Phases.{GainsEntry}
use Rattle.phase_run.specs.Seats.{AreOfPhase, AreDone, OnlyTheirs}

-- the place of an element, and the element at a place
place_of : {X : Type 0} (xs : List X) (x : X) → Has xs x → (i : ℕ) × (i < length xs) × (get_or xs i x ≡ x)
place_of [] x here = absurd here
place_of (y ∷ ys) x (inl e) = (0, omega arith, sym e)
place_of (y ∷ ys) x (inr here) = let (i, below, is) = place_of ys x here in (suc i, omega (arith, below), is)

element-at : {X : Type 0} (xs : List X) (i : ℕ) (d : X) → i < length xs → Has xs (get_or xs i d)
element-at [] i d below = absurd (omega (arith, below))
element-at (x ∷ xs) zero d below = inl refl
element-at (x ∷ xs) (suc i) d below = inr (element-at xs i d (omega (arith, below)))

module _ {D : ℕ} (old new : List (Status D)) (ran : Ran (λ (w : Status D). origin_of w) (λ (w : Status D). w.left) old new) where
  -- each worker has the origin of one that was handed in, and no turn left; and each that was handed in has one
  came : (w : Status D) → Has new w → (u : Status D) × Has old u × (origin_of w ≡ origin_of u) × (w.left ≡ 0)
  came w here =
      let (i, below, is) = place_of new w here in
      let same = ran.same_length in
      let inside : i < length old = omega (arith, below, same) in
      let each = ran.each i w inside in
      (get_or old i w, element-at old i w inside, sym (ap (λ (z : Status D). origin_of z) is) ∙ each.1, sym (ap (λ (z : Status D). z.left) is) ∙ each.0)

  went : (u : Status D) → Has old u → (w : Status D) × Has new w × (origin_of w ≡ origin_of u)
  went u here =
      let (i, below, is) = place_of old u here in
      let same = ran.same_length in
      (get_or new i u, element-at new i u (omega (arith, below, same)), (ran.each i u below).1 ∙ ap (λ (z : Status D). origin_of z) is)

  pub still-of-phase : (k : TaskState) (p : PostingState) (base : List ℕ) → AreOfPhase k p base old → AreOfPhase k p base new
  still-of-phase k p base all w here =
      let (u, there, same, none) = came w here in
      let is = all u there in
      record {
        same_table = ap (λ (o : Origin). o.table) same ∙ is.same_table;
        same_task = ap (λ (o : Origin). o.task) same ∙ is.same_task;
        same_lists = ap (λ (o : Origin). o.lists) same ∙ is.same_lists;
        same_base = ap (λ (o : Origin). o.base) same ∙ is.same_base;
        same_plan = ap (λ (o : Origin). o.plan) same ∙ is.same_plan;
      }

  pub are-done : AreDone new
  are-done w here = let (u, there, same, none) = came w here in none

  pub still-theirs : (out : List ℕ) → OnlyTheirs out old → OnlyTheirs out new
  still-theirs out all n has =
      let (u, there, number) = all n has in
      let (w, here, same) = went u there in
      (w, here, ap (λ (o : Origin). o.seat) same ∙ number)

-- the first of the workers has as many tiles as the phase
pub tiles-are : {D : ℕ} (ws : List (Status D)) (k : TaskState) (p : PostingState) (base : List ℕ) → 0 < length ws → AreOfPhase k p base ws → tiles_of ws ≡ length p.lists
tiles-are [] k p base some all = absurd (omega (arith, some))
tiles-are (w ∷ ws) k p base some all = ap length ((all w (inl refl)).same_lists)

pub gains : (k : TaskState) (p : PostingState) (result : Option ℕ) (old new : List Handed) (first : ℤ) (phase workers tiles steps : ℕ)
    → new ≡ old ++ record { first = first; phase = phase; workers = workers; tiles = tiles; steps = steps } ∷ []
    → first ≡ k.chunk.first → phase ≡ p.number → workers ≡ p.workers → tiles ≡ length p.lists → ((n : ℕ) → result ≡ Some n → steps ≡ n) → GainsEntry k p result old new
gains k p result old new first phase workers tiles steps gained a b c d e = record {
  entry = record { first = first; phase = phase; workers = workers; tiles = tiles; steps = steps };
  is = record { first = a; phase = b; workers = c; tiles = d; steps_are = e };
  gained = gained;
}
