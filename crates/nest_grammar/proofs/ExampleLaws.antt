-- The computed examples.
use Rattle.std.proofs.Common.{◌≡◌, ℕ, ◌<◌, List, length, refl, Ok, false, nat_le}
use Rattle.std.proofs.lemmas.Bool.{lt-leb}
use Rattle.nest_grammar.specs.declared.fault.TextKind.TheVariants as kind
use Rattle.nest_tokens.specs.Tokens.{spelling, keyword_of, sign_at, is_mark}
use Rattle.nest_tokens.specs.Lexing.{between, gap, decimal, numbered, named, lexed, spots, tokens_from}
use Rattle.nest_grammar.specs.Sights.{here, skip}
use Rattle.nest_grammar.specs.Readings.{refused, need, obeys, number_where, minus, signed_where, more, many, end}
use Rattle.nest_grammar.specs.Names.{place_of, fresh, target}
use Rattle.nest_grammar.specs.Expressions.{start_of, product_of, addition_of, comparison_of, taken, closed, access, unary, term, sum, expr, expression}
use Rattle.nest_grammar.specs.Statements.{opening_of, statements, block}
use Rattle.nest_grammar.specs.Loops.{loop_keyword, body_end, loops}
use Rattle.nest_grammar.specs.Scripts.{word_spelling, word_of_name, command_word, row_begins, rows, operands, command, script, candidates}
use Rattle.nest_grammar.specs.Contents.{version, scalars, memory, item_keyword, data_value, data_values, item_of, items, unit, units, contents, reading}
use Rattle.nest_grammar.specs.Examples.{ReadingExamples, FaultExamples, whole_text, whole_file, nests_text, nests_file, fault}
use Rattle.nest_grammar.proofs.ContentLaws.{reading-reads}

nests-computed : reading nests_text ≡ Ok nests_file
unfolding spelling keyword_of sign_at is_mark between gap decimal numbered named lexed spots tokens_from here skip refused need obeys number_where minus signed_where more many end place_of fresh target start_of product_of addition_of comparison_of taken closed access unary term sum expr expression opening_of statements block loop_keyword body_end loops word_spelling word_of_name command_word row_begins rows operands command script candidates version scalars memory item_keyword data_value data_values item_of items unit units contents reading
nests-computed = refl

whole-computed : reading whole_text ≡ Ok whole_file
unfolding spelling keyword_of sign_at is_mark between gap decimal numbered named lexed spots tokens_from here skip refused need obeys number_where minus signed_where more many end place_of fresh target start_of product_of addition_of comparison_of taken closed access unary term sum expr expression opening_of statements block loop_keyword body_end loops word_spelling word_of_name command_word row_begins rows operands command script candidates version scalars memory item_keyword data_value data_values item_of items unit units contents reading
whole-computed = refl

pub readings-computed : ReadingExamples
readings-computed = record { whole = reading-reads whole_text whole_file whole-computed; nests = reading-reads nests_text nests_file nests-computed }

long-computed : (text : List ℕ) → 1048576 < length text → reading text ≡ fault 1048576 kind.Long
unfolding reading
long-computed text h = let e : nat_le (length text) 1048576 ≡ false = lt-leb (length text) 1048576 h in rw e

pub faults-computed : FaultExamples
unfolding spelling keyword_of sign_at is_mark between gap decimal numbered named lexed spots tokens_from here skip refused need obeys number_where minus signed_where more many end place_of fresh target start_of product_of addition_of comparison_of taken closed access unary term sum expr expression opening_of statements block loop_keyword body_end loops word_spelling word_of_name command_word row_begins rows operands command script candidates version scalars memory item_keyword data_value data_values item_of items unit units contents reading
faults-computed = record { long = long-computed; byte = refl; large = refl; name = refl; expected = refl; end = refl; version = refl; known = refl; unknown = refl; fixed = refl; many = refl; deep = refl; long_sum = refl; long_unknown = refl; outside = refl; ahead = refl; hollow = refl; row = refl }

pub ruleset examples = (readings-computed, faults-computed)
