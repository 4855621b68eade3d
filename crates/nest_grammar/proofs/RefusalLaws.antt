-- The computed refusals, and what is accepted beside them.
use Rattle.std.proofs.Common.{refl}
use Rattle.nest_tokens.specs.Tokens.{spelling, keyword_of, sign_at, is_mark}
use Rattle.nest_tokens.specs.Lexing.{between, gap, decimal, numbered, named, lexed, spots, tokens_from}
use Rattle.nest_grammar.specs.Sights.{here, skip}
use Rattle.nest_grammar.specs.Readings.{refused, need, obeys, number_where, minus, signed_where, more, many, end}
use Rattle.nest_grammar.specs.Names.{place_of, fresh, target}
use Rattle.nest_grammar.specs.Expressions.{start_of, product_of, addition_of, comparison_of, taken, closed, access, unary, term, sum, expr, expression}
use Rattle.nest_grammar.specs.Statements.{opening_of, statements, block}
use Rattle.nest_grammar.specs.Loops.{loop_keyword, body_end, loops}
use Rattle.nest_grammar.specs.Scripts.{word_spelling, word_of_name, command_word, row_begins, rows, operands, command, script, candidates}
use Rattle.nest_grammar.specs.Contents.{version, scalars, memory, item_keyword, data_value, data_values, item_of, items, unit, units, contents, reading}
use Rattle.nest_grammar.specs.Refusals.{LimitExamples, RuleExamples, AcceptedExamples, RefusedExamples, OperatorExamples}

pub limits-computed : LimitExamples
unfolding spelling keyword_of sign_at is_mark between gap decimal numbered named lexed spots tokens_from here skip refused need obeys number_where minus signed_where more many end place_of fresh target start_of product_of addition_of comparison_of taken closed access unary term sum expr expression opening_of statements block loop_keyword body_end loops word_spelling word_of_name command_word row_begins rows operands command script candidates version scalars memory item_keyword data_value data_values item_of items unit units contents reading
limits-computed = record { words = refl; scalars = refl; locals = refl; accesses = refl; brackets = refl; conditions = refl; levels = refl; levels_2 = refl; nests = refl; second_nest = refl; candidates = refl; commands = refl }

pub rules-computed : RuleExamples
unfolding spelling keyword_of sign_at is_mark between gap decimal numbered named lexed spots tokens_from here skip refused need obeys number_where minus signed_where more many end place_of fresh target start_of product_of addition_of comparison_of taken closed access unary term sum expr expression opening_of statements block loop_keyword body_end loops word_spelling word_of_name command_word row_begins rows operands command script candidates version scalars memory item_keyword data_value data_values item_of items unit units contents reading
rules-computed = record { inner_head = refl; behind_branch = refl; chain = refl; step = refl; ramp_word = refl; ramp_value = refl; stride = refl; word = refl; seq_twice = refl; swap_itself = refl; skew_itself = refl; factor = refl; skews = refl; size_0 = refl; size_large = refl; row_0 = refl; row_3 = refl; rows = refl }

pub accepted-computed : AcceptedExamples
unfolding spelling keyword_of sign_at is_mark between gap decimal numbered named lexed spots tokens_from here skip refused need obeys number_where minus signed_where more many end place_of fresh target start_of product_of addition_of comparison_of taken closed access unary term sum expr expression opening_of statements block loop_keyword body_end loops word_spelling word_of_name command_word row_begins rows operands command script candidates version scalars memory item_keyword data_value data_values item_of items unit units contents reading
accepted-computed = record { words = refl; scalars = refl; locals = refl; accesses = refl; accesses_2 = refl; tokens = refl; brackets = refl; conditions = refl; levels = refl; levels_2 = refl; nests = refl; candidates = refl; commands = refl; skews = refl; factor = refl; factor_below = refl; size_1 = refl; size_large = refl; row_1 = refl; row_2 = refl; rows = refl; seq_0 = refl; seq_2 = refl; ramp = refl }

pub refused-computed : RefusedExamples
unfolding spelling keyword_of sign_at is_mark between gap decimal numbered named lexed spots tokens_from here skip refused need obeys number_where minus signed_where more many end place_of fresh target start_of product_of addition_of comparison_of taken closed access unary term sum expr expression opening_of statements block loop_keyword body_end loops word_spelling word_of_name command_word row_begins rows operands command script candidates version scalars memory item_keyword data_value data_values item_of items unit units contents reading
refused-computed = record { accesses_1 = refl; factor_above = refl; seq_3 = refl; commands = refl }

pub operators-computed : OperatorExamples
unfolding spelling keyword_of sign_at is_mark between gap decimal numbered named lexed spots tokens_from here skip refused need obeys number_where minus signed_where more many end place_of fresh target start_of product_of addition_of comparison_of taken closed access unary term sum expr expression opening_of statements block loop_keyword body_end loops word_spelling word_of_name command_word row_begins rows operands command script candidates version scalars memory item_keyword data_value data_values item_of items unit units contents reading
operators-computed = record { quotient = refl; equal = refl; not_equal = refl; less = refl; at_most = refl; greater = refl; at_least = refl; assign = refl }

pub ruleset refusals = (limits-computed, rules-computed, accepted-computed, refused-computed, operators-computed)
