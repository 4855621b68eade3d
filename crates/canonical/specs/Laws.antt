-- Laws: what canonical texts are to the texts that they stand for.
use Rattle.std.specs.Prelude.{◌≡◌, ℕ, ◌≤◌, List, length, map, Ok}
use Rattle.nest_tokens.specs.Lexing.{tokens}
use Rattle.nest_grammar.specs.declared.file.File.{File}
use Rattle.nest_grammar.specs.Limits.{most_bytes}
use Rattle.nest_grammar.specs.Contents.{reading}
use Rattle.canonical.specs.Layout.{words, AllWritten}
use Rattle.canonical.specs.Contents.{pieces, canonical}

-- Where the names and numbers of a file are written as a text can have them, the tokens of its canonical
-- text are the words of its pieces.
abbrev pub TokensAreWords : Type 0
TokensAreWords = (file : File) → AllWritten (pieces file) → map (λ x. x.token) (tokens (canonical file)) ≡ words (pieces file)

-- Those of a file that was read are so.
abbrev pub ReadIsWritten : Type 0
ReadIsWritten = (text : List ℕ) (file : File) → reading text ≡ Ok file → AllWritten (pieces file)

-- What a text reads as, its canonical text reads as, where it is no longer than a text may be.
abbrev pub RoundTrip : Type 0
RoundTrip = (text : List ℕ) (file : File) → reading text ≡ Ok file → length (canonical file) ≤ most_bytes → reading (canonical file) ≡ Ok file

-- Writing what was read of a canonical text gives the same text.
abbrev pub WritesTheSame : Type 0
WritesTheSame = (text : List ℕ) (file again : File) → reading text ≡ Ok file → length (canonical file) ≤ most_bytes → reading (canonical file) ≡ Ok again → canonical again ≡ canonical file

-- No text that reads as a file has fewer tokens than its canonical text, which so has no parentheses, steps or
-- else branches that are not needed.
abbrev pub FewestTokens : Type 0
FewestTokens = (text : List ℕ) (file : File) → reading text ≡ Ok file → length (tokens (canonical file)) ≤ length (tokens text)
