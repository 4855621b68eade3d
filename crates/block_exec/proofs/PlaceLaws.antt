-- Places: a turn begins.
use Rattle.std.proofs.Common.{◌≡◌, refl, ap, ℕ, ◌+◌, take, arith}
use Rattle.std.proofs.lemmas.List.{take-take, take-set, take_more_set}
use Rattle.plain_lemmas.proofs.ListLaws.{take-same}
use Rattle.block_exec.specs.Sites.{around_at}
use Rattle.block_exec.specs.declared.site.Places.{Places}

-- the loops around a loop are the same where those around the one inside of it are
pub around-shallower : (depth : ℕ) (p q : Places) → around_at (depth + 1) p ≡ around_at (depth + 1) q → around_at depth p ≡ around_at depth q
around-shallower depth p q same =
    let counters : take depth p.counters ≡ take depth q.counters = take-same depth (depth + 1) _ _ (omega arith) (ap (λ a. a.counters) same) in
    let values : take depth p.values ≡ take depth q.values = take-same depth (depth + 1) _ _ (omega arith) (ap (λ a. a.values) same) in
    rw (counters, values) refl

pub ruleset begins = (take-set, take_more_set)
