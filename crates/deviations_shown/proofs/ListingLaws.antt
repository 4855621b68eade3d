-- The instances of a chunk, one after another.
use Rattle.std.proofs.Common.{◌≡◌, ap, ◌∙◌, ◌⊎◌, ⊎_elim, ℕ, ℤ, pos, ◌+ℤ◌, ◌<ℤ◌, List, [], ◌∷◌, ◌++◌, arith}
use Rattle.std.specs.List.{AllByRecursion}
use Rattle.std.proofs.lemmas.Int.{ints}
use Rattle.domain.specs.declared.chunk.Chunk.{Chunk}
use Rattle.domain.specs.Tables.{Table, IsTable}
use Rattle.domain.specs.Instances.{Instance, Predicted, counter, opening_at}
use Rattle.domain.proofs.OriginalLaws.{opening-turn}

-- an instance of a turn of the chunk is no instance behind it
pub in-chunk : (D : ℕ) (t : Table) (is : IsTable D t) (chunk : Chunk) (x : Instance) → Predicted t chunk x ⊎ (x ≡ opening_at t (chunk.first +ℤ chunk.turns)) → counter x.at 0 <ℤ (chunk.first +ℤ chunk.turns) → Predicted t chunk x
in-chunk D t is chunk x either h =
    ⊎_elim (λ p. p) (λ e. absurd (let f = ap (λ (v : Instance). counter v.at 0) e ∙ opening-turn D t is chunk (chunk.first +ℤ chunk.turns) in omega (arith, ints))) either

pub all-with : (P : Instance → Type 0) (xs : List Instance) (x : Instance) → AllByRecursion P xs → P x → AllByRecursion P (xs ++ x ∷ [])
all-with P [] x all p = (p, tt)
all-with P (y ∷ ys) x all p = (all.0, all-with P ys x all.1 p)
