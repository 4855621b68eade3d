-- The systems that may be met.
use Rattle.std.specs.Prelude.{ℤ, not, List, map, filter}
use Rattle.fourier_motzkin.specs.Verdicts.{verdict_of}
use Rattle.domain.specs.Tables.{Table}
use Rattle.dependence.specs.Systems.{System, systems}
use Rattle.dependence.specs.Legality.{is_empty, joint_variables}
use Rattle.legality.specs.declared.listing.Dependence.{Dependence}

-- what is listed of a system: its accesses, its case, and its verdict
abbrev pub depends : Table → System → Dependence
depends t sys = record { first = sys.first; second = sys.second; case = sys.case; verdict = verdict_of (joint_variables t sys) sys.rows }

-- those of some systems whose verdict isn't Empty
abbrev pub met : Table → List System → List Dependence
met t systems = filter (λ d. not (is_empty d.verdict)) (map (depends t) systems)

-- those of all systems, for chunks of at most L turns
abbrev pub dependences : Table → ℤ → List Dependence
dependences t L = met t (systems t L)
