-- Summaries: what a journey came to, as pieces one behind another.
use Rattle.std.specs.Prelude.{ℕ, ℤ, pos, ◌+ℤ◌, List, [], ◌∷◌, ◌++◌, Bool, true, false, codes, decimal}
use Rattle.std.specs.Fmt.{signed_decimal}
use Rattle.std.specs.List.{concat, count_by}
use Rattle.nest_lang.specs.declared.budget.Ending.{Ending}
use Rattle.report.specs.declared.line.Line.{Line}
use Rattle.report.specs.declared.line.Line.TheVariants as said
use Rattle.report.specs.declared.summary.Kind.{Kind}
use Rattle.report.specs.declared.summary.Kind.TheVariants as kind
use Rattle.report.specs.Outcomes.{ending_line, line, steps_line}

-- whether a line is of a kind; a line that names a nest is of none
abbrev pub is_of : Kind → Line → Bool
is_of kind.Profile (said.Profile first turns) = true
is_of kind.Unfit (said.Unfit block datum why) = true
is_of kind.Illegal (said.Illegal candidate first second which row above verdict) = true
is_of kind.Held (said.Held first turns at why) = true
is_of kind.Commit (said.Commit first turns candidate instances phases tiles steps) = true
is_of kind.Rollback (said.Rollback first turns at difference) = true
is_of kind.Plain (said.Plain first turns) = true
is_of other line = false

-- how many lines are of a kind
abbrev pub count : Kind → List Line → List ℕ
count of lines = decimal (count_by (is_of of) lines)

-- how many lines say what was foretold, or why nothing was
abbrev pub foretold : List Line → List ℕ
foretold lines = concat (
    codes "profiles " ∷ count kind.Profile lines ∷ codes " unfits " ∷ count kind.Unfit lines ∷ codes " illegals " ∷ count kind.Illegal lines ∷ codes " helds " ∷ count kind.Held lines ∷ [])

-- how many say how a chunk was run
abbrev pub ran : List Line → List ℕ
ran lines = concat (codes " commits " ∷ count kind.Commit lines ∷ codes " rollbacks " ∷ count kind.Rollback lines ∷ codes " plains " ∷ count kind.Plain lines ∷ codes "\n" ∷ [])

-- how many lines there are of each kind
abbrev pub counts_line : List Line → List ℕ
counts_line lines = foretold lines ++ ran lines

-- the exact sum of words
abbrev pub sum : List ℤ → ℤ
sum [] = pos 0
sum (word ∷ words) = word +ℤ sum words

-- the sum of the words, however large
abbrev pub sum_line : List ℤ → List ℕ
sum_line words = line (codes "sum " ++ signed_decimal (sum words))

-- the summary of a run that ended so after these steps, with these lines, and left these words
abbrev pub summary : Ending → ℕ → List Line → List ℤ → List ℕ
summary ending steps lines words = ending_line ending ++ (steps_line steps ++ (counts_line lines ++ sum_line words))
