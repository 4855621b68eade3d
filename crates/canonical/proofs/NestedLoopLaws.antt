-- Loops within one another.
use Rattle.std.proofs.Common.{◌≡◌, ℕ, ◌+◌, List, [], ◌∷◌, ◌++◌, refl, arith, length, ap, ◌∙◌, append-nil, append_assoc}
use Rattle.nest_lang.specs.declared.tree.Loop.{Loop}
use Rattle.canonical.specs.Pieces.{text_of, line}
use Rattle.canonical.specs.Labels.{Labels, in_pre, in_post}
use Rattle.canonical.specs.Statements.{statement_lines, close_line}
use Rattle.canonical.specs.Loops.{opening_line, loop_lines}
use Rattle.canonical.proofs.PieceLaws.{text-nil, text-append}

pub loops-none : (l : Labels) (level : ℕ) → text_of (loop_lines l level []) ≡ []
unfolding loop_lines
loops-none l level = text-nil

pub loops-empty : (l : Labels) (level : ℕ) (xs : List Loop) → length xs ≡ 0 → text_of (loop_lines l level xs) ≡ []
loops-empty l level [] h = loops-none l level
loops-empty l level (x ∷ xs) h = absurd (omega arith)

pub loops-more : (l : Labels) (level : ℕ) (x : Loop) (xs : List Loop) → loop_lines l level (x ∷ xs) ≡ opening_line l level x.head ++ statement_lines (in_pre l level) x.pre (level + 1) ++ loop_lines l (level + 1) xs ++ statement_lines (in_post l level) x.post (level + 1) ++ line level close_line
unfolding loop_lines
loops-more l level x xs = refl

pub text-loops : (l : Labels) (level : ℕ) (x : Loop) (xs : List Loop) → text_of (loop_lines l level (x ∷ xs)) ≡ text_of (opening_line l level x.head) ++ (text_of (statement_lines (in_pre l level) x.pre (level + 1)) ++ (text_of (loop_lines l (level + 1) xs) ++ (text_of (statement_lines (in_post l level) x.post (level + 1)) ++ text_of (line level close_line))))
text-loops l level x xs = ap text_of (loops-more l level x xs) ∙ simp (text-append, append_assoc)

pub ruleset nested = (loops-none, text-loops, append-nil, append_assoc)
