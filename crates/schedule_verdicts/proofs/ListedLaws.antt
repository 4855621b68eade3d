-- What is listed of a table is of that table.
use Rattle.std.proofs.Common.{◌≡◌, subst, ℕ, ◌<◌, ℤ, List, length, get_or}
use Rattle.std.specs.Prelude.{Contains}
use Rattle.plain_lemmas.proofs.MembershipLaws.{contains-from-has, has-get_or}
use Rattle.domain.specs.Tables.{Table}
use Rattle.dependence.specs.Systems.{IsSystemOf, System, systems}

pub system-of : (t : Table) (L : ℤ) (items : List System) (k : ℕ) (d : System) → items ≡ systems t L → k < length items → IsSystemOf t (get_or items k d)
system-of t L items k d e l = (L, subst (λ (xs : List System). Contains xs (get_or items k d)) e (contains-from-has items (get_or items k d) (has-get_or items k d l)))
