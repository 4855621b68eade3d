-- Verifies: a port that verifies the accesses of an instance by itself.
use Rattle.std.specs.Prelude.{◌≡◌, ℕ, true, List, Option}
use Rattle.nest_lang.specs.declared.tree.Access.{Access}
use Rattle.nest_lang.specs.declared.tree.AccessKind.{AccessKind}
use Rattle.nest_lang.specs.declared.tree.AccessKind.TheVariants.{Load, Store}
use Rattle.nest_lang.specs.Lookups.{Expectation, Interval}
use Rattle.plain_lemmas.specs.Lists.{Has}
use Rattle.follow.specs.Intervals.{Intervals}

-- what is expected of a load, or of a store, of that number
abbrev pub expected_by : AccessKind → Expectation → ℕ → Option Interval
expected_by Load x number = x.loads number
expected_by Store x number = x.stores number

-- it verifies, and expects these intervals of these accesses, of each as the load or the store that it is. What it
-- expects of a load under the number of a store is left open, since no instance makes one.
pub record VerifiesOwn (x : Expectation) (intervals : Intervals) (accesses : List Access) : Type 0 where
  pub verifies : x.verifies ≡ true
  pub each : (access : Access) → Has accesses access → expected_by access.kind x access.number ≡ intervals access.number
