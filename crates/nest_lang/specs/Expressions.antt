-- Expressions: the value of one, and what it shows.
use Rattle.std.specs.Prelude.{ℕ, ℤ, pos, List, [], ◌∷◌, ◌++◌, get_or, Result, Ok, Err}
use Rattle.nest_lang.specs.declared.tree.Expr.{Expr}
use Rattle.nest_lang.specs.declared.tree.Expr.TheFolds.{fold-Expr}
use Rattle.nest_lang.specs.declared.tree.Expr.TheOpen.{Expr-F}
use Rattle.nest_lang.specs.declared.tree.Place.{Place}
use Rattle.nest_lang.specs.declared.tree.Place.TheVariants.{Scalar, Counter, Local}
use Rattle.nest_lang.specs.declared.tree.Trap.{Trap}
use Rattle.nest_lang.specs.declared.tree.Trap.TheVariants as trap
use Rattle.nest_lang.specs.declared.observe.Stop.{Stop}
use Rattle.nest_lang.specs.declared.observe.Stop.TheVariants.{Outside, Unexpected}
use Rattle.nest_lang.specs.declared.observe.Seen.{Seen}
use Rattle.nest_lang.specs.declared.observe.Seen.TheVariants.{Address}
use Rattle.nest_lang.specs.Values.{apply_of, negate_of}
use Rattle.nest_lang.specs.Stores.{Store}
use Rattle.nest_lang.specs.Lookups.{Expectation, look_load}
use Rattle.nest_lang.specs.Traces.{Occurrence, Observation, Halt, Trapped, Stopped}

-- where a block runs: its occurrence, the values of the names of the loops around it, and what is
-- expected of its addresses
pub record Frame : Type 0 where
  pub at : Occurrence
  pub values : List ℤ
  pub expects : Expectation

-- something that an instance shows
abbrev pub shown : Frame → Seen → ℤ → Observation
shown f what value = record { at = f.at; what = what; value = value }

-- what is shown, and the value or the halt
pub record Told : Type 0 where
  pub seen : List Observation
  pub value : Result ℤ Halt

abbrev pub telling : List Observation → Result ℤ Halt → Told
telling seen value = record { seen = seen; value = value }

-- one part, and then what follows from its value
abbrev pub then_tell : List Observation → Result ℤ Halt → (ℤ → Told) → Told
then_tell seen (Err halt) go = telling seen (Err halt)
then_tell seen (Ok v) go = telling (seen ++ (go v).seen) (go v).value

-- the halt of an operator's trap
abbrev pub or_trapped : Result ℤ Trap → Result ℤ Halt
or_trapped (Ok v) = Ok v
or_trapped (Err t) = Err (Trapped t)

-- the halt of a refused look-up
abbrev pub or_stopped : ℕ → Result ℤ Stop → Result ℤ Halt
or_stopped access (Ok word) = Ok word
or_stopped access (Err (Outside address)) = Err (Trapped (trap.Outside address))
or_stopped access (Err (Unexpected address expected)) = Err (Stopped access address expected)

-- the value of a name
abbrev pub place_value : List ℤ → List ℤ → List ℤ → Place → ℤ
place_value values scalars locals (Scalar number) = get_or scalars number (pos 0)
place_value values scalars locals (Counter number) = get_or values number (pos 0)
place_value values scalars locals (Local number) = get_or locals number (pos 0)

-- one level of an expression, from what its parts tell. The left operand comes first; the address of a
-- load is shown before it is looked up.
abbrev pub expression_level : Frame → List ℤ → List ℤ → (ℕ → ℤ → Result ℤ Stop) → Expr-F Told → Told
expression_level f scalars locals find (Expr-F.Number n) = telling [] (Ok n)
expression_level f scalars locals find (Expr-F.Var place) = telling [] (Ok (place_value f.values scalars locals place))
expression_level f scalars locals find (Expr-F.Load access a) =
    then_tell a.seen a.value (λ address. telling (shown f (Address access) address ∷ []) (or_stopped access (find access address)))
expression_level f scalars locals find (Expr-F.Neg a) = then_tell a.seen a.value (λ x. telling [] (or_trapped (negate_of x)))
expression_level f scalars locals find (Expr-F.Two op a b) =
    then_tell a.seen a.value (λ x. then_tell b.seen b.value (λ y. telling [] (or_trapped (apply_of op x y))))

-- what an expression tells, where loads find their words by a look-up
unfoldable pub told_by : Frame → List ℤ → List ℤ → (ℕ → ℤ → Result ℤ Stop) → Expr → Told
told_by f scalars locals find = fold-Expr Told (expression_level f scalars locals find)

-- what an expression tells at a store
abbrev pub told : Frame → Store → Expr → Told
told f s e = told_by f s.scalars s.locals (look_load f.expects s.memory) e
