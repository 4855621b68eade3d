use Rattle.std.proofs.Common.{◌≡◌, drop}
use Rattle.nest_grammar.specs.Names.{place_of}
use Rattle.nest_text.proofs.visible.place_of.Given as goal

abbrev pub invariant-loop-declared : goal.invariant-loop-declared
invariant-loop-declared l = place_of (drop l.declared-index l.names) l.name ≡ place_of l.names l.name
