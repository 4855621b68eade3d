-- Reach: the values that are seen in a run whose numbers are i64s, and how far its trips reach.
use Rattle.std.specs.Prelude.{◌≡◌, ◌<◌, ◌≤◌, ◌+◌, ◌*◌, ◌^◌, ℕ, ℤ, pos, unsigned_abs, FitsSigned, List, [], ◌∷◌, ◌++◌, Some, true, ⊤}
use Rattle.std.specs.Int.{w64}
use Rattle.std.specs.List.{All, flat_map}
use Rattle.affine.specs.Forms.{AllWithinSize}
use Rattle.nest_lang.specs.declared.tree.Expr.{Expr}
use Rattle.nest_lang.specs.declared.tree.Expr.TheFolds.{fold-Expr}
use Rattle.nest_lang.specs.declared.tree.Expr.TheOpen.{Expr-F}
use Rattle.nest_lang.specs.declared.tree.Head.{Head}
use Rattle.nest_lang.specs.declared.tree.Head.TheVariants.{For, While}
use Rattle.nest_lang.specs.declared.tree.Loop.{Loop}
use Rattle.nest_lang.specs.declared.tree.Part.TheVariants as part
use Rattle.nest_lang.specs.declared.tree.Stmt.{Stmt}
use Rattle.nest_lang.specs.declared.tree.Stmt.TheFolds.{fold-Stmt}
use Rattle.nest_lang.specs.declared.tree.Stmt.TheOpen.{Stmt-F}
use Rattle.nest_lang.specs.declared.observe.Seen.{Seen}
use Rattle.nest_lang.specs.declared.observe.Seen.TheVariants as seen
use Rattle.nest_lang.specs.declared.state.Outer.{Outer}
use Rattle.nest_lang.specs.Blocks.{block_ref, loop_at}
use Rattle.nest_lang.specs.Lookups.{plain}
use Rattle.nest_lang.specs.Rules.{loops_keep}
use Rattle.nest_lang.specs.Stores.{Store}
use Rattle.nest_lang.specs.Traces.{Observation, cut, seen_in}
use Rattle.nest_lang.specs.Turns.{IsPositionIn, turns_trace}
use Rattle.line_fit.specs.Samples.{Sample}
use Rattle.domain.specs.declared.prediction.What.TheVariants.{Trip}
use Rattle.domain.specs.Tables.{Table, Reaches, level_at, stride_size}
use Rattle.domain.specs.Shapes.{kind_of}
use Rattle.profile.specs.Data.{samples_at}
use Rattle.profile.specs.Fits.{IsFitOf}
use Rattle.profile.specs.Sampled.{observations_in}

-- ---- the numbers of a nest

-- the numbers that an expression has, from those of its parts
abbrev pub expression_level : Expr-F (List ℤ) → List ℤ
expression_level (Expr-F.Number n) = n ∷ []
expression_level (Expr-F.Var place) = []
expression_level (Expr-F.Load number a) = a
expression_level (Expr-F.Neg a) = a
expression_level (Expr-F.Two op a b) = a ++ b

unfoldable pub expression_numbers : Expr → List ℤ
expression_numbers = fold-Expr (List ℤ) expression_level

-- lists of numbers, one after another
abbrev pub all_in : List (List ℤ) → List ℤ
all_in = flat_map (λ numbers. numbers)

-- the numbers that a statement has, from those of the statements in it
abbrev pub statement_level : Stmt-F (List ℤ) → List ℤ
statement_level (Stmt-F.Let number e) = expression_numbers e
statement_level (Stmt-F.Set number e) = expression_numbers e
statement_level (Stmt-F.Store number a e) = expression_numbers a ++ expression_numbers e
statement_level (Stmt-F.If e first second) = expression_numbers e ++ all_in first ++ all_in second

unfoldable pub statement_numbers : Stmt → List ℤ
statement_numbers = fold-Stmt (List ℤ) statement_level

unfoldable pub block_numbers : List Stmt → List ℤ
block_numbers block = flat_map statement_numbers block

-- the numbers of a head: those of its bounds and the stride, or those of its condition
abbrev pub head_numbers : Head → List ℤ
head_numbers (For lower upper stride) = expression_numbers lower ++ expression_numbers upper ++ stride ∷ []
head_numbers (While condition) = expression_numbers condition

-- the numbers of a loop are i64s
pub record HasI64s (l : Loop) : Type 0 where
  pub head : All (FitsSigned w64) (head_numbers l.head)
  pub pre : All (FitsSigned w64) (block_numbers l.pre)
  pub post : All (FitsSigned w64) (block_numbers l.post)

-- the words, the scalars and the locals of a store are i64s
pub record IsOfI64s (s : Store) : Type 0 where
  pub memory : All (FitsSigned w64) s.memory
  pub scalars : All (FitsSigned w64) s.scalars
  pub locals : All (FitsSigned w64) s.locals

-- ---- the values that are seen

-- a value of what is shown: an i64 for a scalar, an address and a lower bound, and a u64 for a trip
abbrev pub IsValueOf : Seen → ℤ → Type 0
IsValueOf seen.Start v = ⊤
IsValueOf (seen.Scalar number) v = FitsSigned w64 v
IsValueOf (seen.Address access) v = FitsSigned w64 v
IsValueOf seen.Lower v = FitsSigned w64 v
IsValueOf seen.Trip v = (n : ℕ) × (v ≡ pos n) × (n < 2 ^ 64)
IsValueOf seen.Condition v = ⊤

abbrev pub HasValue : Observation → Type 0
HasValue o = IsValueOf o.what o.value

-- where the numbers of a nest and of a store are i64s, as in every run, each value that is shown in some turns from a
-- position on is one of its kind, where the number of the next turn and the steps that are left are at most 2^33 together
abbrev pub TurnsShowValues : Type 0
TurnsShowValues = (k left c t : ℕ) (loops : List Loop) (o : Outer) (s : Store) → 0 < k → loops_keep loops ≡ true → All HasI64s loops → IsOfI64s s
    → IsPositionIn loops o → o.next ≡ pos t → t + left ≤ 2 ^ 33 → All HasValue (seen_in (turns_trace plain k loops o c s) left)

-- and the store that they leave, where the steps end, is one of i64s
abbrev pub TurnsLeaveI64s : Type 0
TurnsLeaveI64s = (k left used c t : ℕ) (loops : List Loop) (o : Outer) (s : Store) → 0 < k → loops_keep loops ≡ true → All HasI64s loops → IsOfI64s s
    → IsPositionIn loops o → o.next ≡ pos t → t + left ≤ 2 ^ 33 → IsOfI64s (cut (turns_trace plain k loops o c s) s left used).store

-- ---- the trips that are seen

-- a trip that was seen of a loop of that stride stays within reach: its counters are at most 2^33 in size, and the stride
-- times the trip at most 2^65
pub record IsWithinReach (stride : ℕ) (sample : Sample) : Type 0 where
  pub counters : AllWithinSize (2 ^ 33) sample.at
  pub trip : stride * unsigned_abs sample.value ≤ 2 ^ 65

-- each trip that was seen stays so
abbrev pub AreWithinReach : ℕ → List Loop → List Observation → Type 0
AreWithinReach D loops observations =
    (level : ℕ) (l : Loop) → loop_at loops level ≡ Some l → All (λ sample. IsWithinReach (stride_size (kind_of l.head)) sample) (samples_at D observations (block_ref part.Head level) Trip)

-- where the numbers of a nest and of a store are i64s, as in every run, each trip that is seen in some turns from a
-- position on stays within reach, where the number of the next turn and the steps that are left are at most 2^33 together
abbrev pub TripsStayWithinReach : Type 0
TripsStayWithinReach = (D k left c t : ℕ) (loops : List Loop) (o : Outer) (s : Store) → 0 < k → loops_keep loops ≡ true → All HasI64s loops → IsOfI64s s
    → IsPositionIn loops o → o.next ≡ pos t → t + left ≤ 2 ^ 33 → AreWithinReach D loops (observations_in (seen_in (turns_trace plain k loops o c s) left))

-- where they stay so, the form of each loop's trip keeps the values of the loop's name far below 2^127, as a prediction asks
abbrev pub FormsStayWithinReach : Type 0
FormsStayWithinReach = (D scalars : ℕ) (loops : List Loop) (observations : List Observation) (t : Table) → D ≤ 6 → AreWithinReach D loops observations → IsFitOf D scalars loops observations t
    → (k : ℕ) → Reaches (stride_size (level_at t k).kind) (level_at t k).trip
