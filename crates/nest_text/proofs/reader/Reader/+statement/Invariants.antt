use Rattle.std.proofs.Common.{◌≡◌, ℕ, ◌+◌, ◌*◌, ◌≤◌, length, take, []}
use Rattle.nest_grammar.specs.Names.{Names}
use Rattle.nest_text.proofs.ListingLaws.{Going, going}
use Rattle.nest_text.proofs.reader.Reader.+statement.Given as goal

abbrev pub decreases-braced : goal.decreases-braced
decreases-braced l = 5 * l.depth + 3

abbrev pub decreases-otherwise : goal.decreases-otherwise
decreases-otherwise l = 5 * l.depth + 4

abbrev pub decreases-statements : goal.decreases-statements
decreases-statements l = 5 * l.depth + 2

abbrev pub decreases-statement : goal.decreases-statement
decreases-statement l = 5 * l.depth + 1

abbrev pub decreases-choice : goal.decreases-choice
decreases-choice l = 5 * l.depth

-- what was read so far goes on as the whole list does, and the names that were visible stay in front
pub record Listed (visible : ℕ) (start names : Names) (more whole : Going) : Type 0 where
  pub rest : more ≡ whole
  pub long : length start ≤ length names
  pub kept : take (length start) names ≡ start
  pub seen : visible ≡ length start

abbrev pub invariant-statements-statements : goal.invariant-statements-statements
invariant-statements-statements l = Listed l.visible l.fn.names.items l.names.items (going l.depth l.statements l.names.items l.self) (going l.fn.depth [] l.fn.names.items l.fn.self)

abbrev pub decreases-statements-statements : goal.decreases-statements-statements
decreases-statements-statements l = length l.self.left
