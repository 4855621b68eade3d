-- Footprints: which words an instance may read and write, and the machine of instances that follow their prediction.
use Rattle.std.specs.Prelude.{ℕ, nat_lt, ℤ, pos, List, ◌∷◌, Bool, true, false, ◌&&◌}
use Rattle.std.specs.List.{list_any}
use Rattle.nest_lang.specs.declared.tree.Access.{Access}
use Rattle.nest_lang.specs.declared.tree.AccessKind.{AccessKind}
use Rattle.nest_lang.specs.declared.tree.AccessKind.TheVariants.{Load, Store}
use Rattle.nest_lang.specs.Lookups.{lies_in}
use Rattle.nest_lang.specs.Accesses.{block_accesses, head_accesses}
use Rattle.nest_lang.specs.Traces.{Occurrence}
use Rattle.orders.specs.Runs.{Machine}
use Rattle.follow.specs.Forecasts.{Forecast}
use Rattle.follow.specs.Plans.{Item, Work, Runs, Evaluates}
use Rattle.follow.specs.FollowRuns.{follow_one}

abbrev pub same_kind : AccessKind → AccessKind → Bool
same_kind Load Load = true
same_kind Store Store = true
same_kind a b = false

-- the accesses of an instance
abbrev pub work_accesses : Work → List Access
work_accesses (Runs first rest) = block_accesses (first ∷ rest)
work_accesses (Evaluates head) = head_accesses head

-- the address lies in the expected interval of one of the accesses of that kind
abbrev pub lies_in_one : Forecast → AccessKind → Occurrence → List Access → ℕ → Bool
lies_in_one p kind at accesses a = list_any (λ (x : Access). same_kind x.kind kind && lies_in (p.interval at x.number) (pos a)) accesses

-- what an instance reads: every word in the expected intervals of its loads
abbrev pub item_reads : Forecast → ℕ → Item → ℕ → Bool
item_reads p words i a = nat_lt a words && lies_in_one p Load i.at (work_accesses i.work) a

-- what it writes: every address in the expected intervals of its stores
abbrev pub item_writes : Forecast → Item → ℕ → Bool
item_writes p i a = lies_in_one p Store i.at (work_accesses i.work) a

-- instances over so many words, each with its footprint and its follow run
abbrev pub follow_machine : Forecast → (Item → List ℤ) → ℕ → Machine Item
follow_machine p after words = record { size = words; reads = item_reads p words; writes = item_writes p; run = follow_one p after }
