-- The computed examples.
use Rattle.std.proofs.Common.{refl}
use Rattle.nest_tokens.specs.Tokens.{spelling, keyword_of, sign_at}
use Rattle.nest_tokens.specs.Lexing.{between, gap, decimal, numbered, named, lexed, spots, tokens_from}
use Rattle.nest_tokens.specs.Examples.{TokenExamples}

pub tokens-computed : TokenExamples
unfolding spelling keyword_of sign_at between gap decimal numbered named lexed spots tokens_from
tokens-computed = record {
  separated = refl;
  longest = refl;
  bad_byte = refl;
  leading_zeros = refl;
  greatest = refl;
  longest_name = refl;
  long_name = refl;
  nothing = refl;
}

pub ruleset examples = (tokens-computed)
