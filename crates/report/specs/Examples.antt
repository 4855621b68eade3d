-- Examples of longest runs and of outcomes, each worked by hand. That these are the longest runs is proved by
-- search, and the bytes of an outcome by computing them.
use Rattle.std.specs.Prelude.{ℕ, ℤ, pos, negsuc, [], ◌∷◌, codes}
use Rattle.nest_lang.specs.declared.budget.Ending.TheVariants.{Ended, Trapped, Limited}
use Rattle.nest_lang.specs.declared.tree.Trap.TheVariants.{Outside}
use Rattle.nest_lang.specs.Stores.{store_of}
use Rattle.report.specs.declared.runs.WordRun.{WordRun}
use Rattle.report.specs.LongestRuns.{LongestRuns}
use Rattle.report.specs.Outcomes.{IsOutcome}

abbrev pub word_run : ℕ → ℕ → ℤ → WordRun
word_run first last value = record { first = first; last = last; value = value }

-- longest runs: two with a 0 between them; none; two side by side; and a word at each end
pub record RunExamples : Type 0 where
  pub zero_between : LongestRuns (pos 1 ∷ pos 1 ∷ pos 0 ∷ pos 2 ∷ []) (word_run 0 1 (pos 1) ∷ word_run 3 3 (pos 2) ∷ [])
  pub all_zero : LongestRuns (pos 0 ∷ pos 0 ∷ pos 0 ∷ []) []
  pub no_words : LongestRuns [] []
  pub side_by_side : LongestRuns (pos 7 ∷ pos 7 ∷ negsuc 6 ∷ pos 7 ∷ []) (word_run 0 1 (pos 7) ∷ word_run 2 2 (negsuc 6) ∷ word_run 3 3 (pos 7) ∷ [])
  pub at_the_ends : LongestRuns (pos 5 ∷ pos 0 ∷ pos 0 ∷ pos 5 ∷ []) (word_run 0 0 (pos 5) ∷ word_run 3 3 (pos 5) ∷ [])

-- outcomes: a store outside of the memory; a limited run with a scalar and a word below 0; and a run
-- that did nothing
pub record OutcomeExamples : Type 0 where
  pub outside : IsOutcome [] (store_of (pos 5 ∷ pos 5 ∷ []) [] []) (Trapped (Outside (pos 2))) 4 (codes "trapped outside 2\nwords 0 1 5\nsteps 4\n")
  pub below_zero : IsOutcome (codes "p" ∷ codes "total" ∷ []) (store_of (pos 0 ∷ negsuc 11 ∷ []) (pos 0 ∷ negsuc 6 ∷ []) []) Limited 50 (codes "limited\nscalar p 0\nscalar total -7\nwords 1 1 -12\nsteps 50\n")
  pub nothing : IsOutcome [] (store_of [] [] []) Ended 0 (codes "ended\nsteps 0\n")
