-- Labels: the name of a place.
use Rattle.std.specs.Prelude.{ℕ, List, [], Option, Some, None, replicate, slice_get}
use Rattle.nest_lang.specs.declared.tree.Place.{Place}
use Rattle.nest_lang.specs.declared.tree.Place.TheVariants as place
use Rattle.nest_tokens.specs.declared.token.Name.{Name}
use Rattle.nest_grammar.specs.declared.file.Scalar.{Scalar}
use Rattle.nest_grammar.specs.declared.file.LoopNames.{LoopNames}

-- the scalars of a file, the names of a nest's loops, and those of a block's locals
pub record Labels : Type 0 where
  pub scalars : List Scalar
  pub loops : List LoopNames
  pub lets : List Name

-- The name of what has none. In a file that was read each place has one.
abbrev pub nobody : Name
nobody = record { bytes = replicate 32 0 }

abbrev pub name_or_none : Option Name → Name
name_or_none (Some n) = n
name_or_none None = nobody

abbrev pub scalar_name : Option Scalar → Name
scalar_name (Some c) = c.name
scalar_name None = nobody

abbrev pub turns_name : Option LoopNames → Name
turns_name (Some ns) = name_or_none ns.counter
turns_name None = nobody

-- the name of a place
unfoldable pub label : Labels → Place → Name
label l (place.Scalar k) = scalar_name (slice_get l.scalars k)
label l (place.Counter k) = turns_name (slice_get l.loops k)
label l (place.Local k) = name_or_none (slice_get l.lets k)

-- the names of a block's locals
abbrev pub with_lets : Labels → List Name → Labels
with_lets l ns = record l { lets = ns }

abbrev pub pre_names : Option LoopNames → List Name
pre_names (Some ns) = ns.pre
pre_names None = []

abbrev pub post_names : Option LoopNames → List Name
post_names (Some ns) = ns.post
post_names None = []

-- in a loop's head, in its block before the inner loop, and in the one behind it, at a level from 0
abbrev pub in_head : Labels → Labels
in_head l = with_lets l []

abbrev pub in_pre : Labels → ℕ → Labels
in_pre l level = with_lets l (pre_names (slice_get l.loops level))

abbrev pub in_post : Labels → ℕ → Labels
in_post l level = with_lets l (post_names (slice_get l.loops level))
