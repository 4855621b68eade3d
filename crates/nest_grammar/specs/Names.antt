-- Names: which are visible, and what each stands for.
use Rattle.std.specs.Prelude.{ℕ, ◌+◌, List, [], ◌∷◌, Option, Some, None, if◌then◌else◌}
use Rattle.std.specs.Str.{bytes_eq}
use Rattle.nest_lang.specs.declared.tree.Place.{Place}
use Rattle.nest_lang.specs.declared.tree.Place.TheVariants as place
use Rattle.nest_tokens.specs.declared.token.Name.{Name}
use Rattle.nest_tokens.specs.declared.token.Token.{Token}
use Rattle.nest_tokens.specs.declared.token.Token.TheVariants as token
use Rattle.nest_grammar.specs.declared.file.Declared.{Declared}
use Rattle.nest_grammar.specs.declared.file.Scalar.{Scalar}
use Rattle.nest_grammar.specs.declared.fault.TextKind.TheVariants as kind
use Rattle.nest_grammar.specs.Readings.{Reading, refused, wrong, skipped, gives, ◌>>=◌}
use Rattle.nest_grammar.specs.Sights.{stands}

-- the names that are visible, in the order in which they were declared
abbrev pub Names : Type 0
Names = List Declared

abbrev pub declared : Name → Place → Declared
declared n p = record { name = n; place = p }

-- what a name stands for, where it is visible
unfoldable pub place_of : Names → Name → Option Place
place_of [] n = None
place_of (x ∷ xs) n = if bytes_eq x.name.bytes n.bytes then Some x.place else place_of xs n

abbrev pub unless_known : Name → Option Place → Reading Name
unless_known n None = skipped >>= λ _. gives n
unless_known n (Some p) = refused kind.Known

abbrev pub fresh_at : Names → Token → Reading Name
fresh_at names (token.Name n) = unless_known n (place_of names n)
fresh_at names _ = wrong

-- a name that is declared here
unfoldable pub fresh : Names → Reading Name
fresh names s = fresh_at names (stands s) s

abbrev pub if_scalar : Option Place → Reading ℕ
if_scalar (Some (place.Scalar k)) = skipped >>= λ _. gives k
if_scalar (Some _) = refused kind.Fixed
if_scalar None = refused kind.Unknown

-- a name that is given a value: that of a scalar
unfoldable pub target : Names → Name → Reading ℕ
target names n = if_scalar (place_of names n)

-- the scalars from a number on
abbrev pub scalars_from : ℕ → List Scalar → Names
scalars_from k [] = []
scalars_from k (c ∷ cs) = declared c.name (place.Scalar k) ∷ scalars_from (k + 1) cs

-- the names of the scalars, which are visible everywhere
abbrev pub names_of : List Scalar → Names
names_of cs = scalars_from 0 cs
