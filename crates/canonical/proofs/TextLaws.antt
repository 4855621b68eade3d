-- The laws on canonical texts.
use Rattle.std.proofs.Common.{◌≡◌, ◌∙◌, ◌≤◌, ℕ, List, length, ap, sym, subst, Result, Ok, Err, IfOk, arith}
use Rattle.std.proofs.lemmas.List.{length-map}
use Rattle.nest_tokens.specs.declared.token.Token.{Token}
use Rattle.nest_tokens.specs.declared.token.Spot.{Spot}
use Rattle.nest_tokens.specs.Lexing.{tokens}
use Rattle.nest_grammar.specs.declared.file.File.{File}
use Rattle.nest_grammar.specs.Limits.{most_bytes}
use Rattle.nest_grammar.specs.Contents.{reading}
use Rattle.nest_text.specs.Files.{IsOfText}
use Rattle.nest_grammar.proofs.ContentLaws.{reads-reading, reading-reads}
use Rattle.canonical.specs.Contents.{canonical}
use Rattle.canonical.specs.Laws.{TokensAreWords, ReadIsWritten, RoundTrip, WritesTheSame, FewestTokens}
use Rattle.canonical.proofs.ContentsAgainLaws.{reads-again}
use Rattle.canonical.proofs.FewestLineLaws.{fewest-words}
use Rattle.canonical.proofs.LayoutFileLaws.{file-layout}
use Rattle.canonical.proofs.ProperFileLaws.{reads-written, reads-walks}

pub tokens-are-words : TokensAreWords
tokens-are-words file h = file-layout file h

pub read-is-written : ReadIsWritten
read-is-written text file h = reads-written text file (reading-reads text file h)

pub round-trip : RoundTrip
round-trip text file h k =
    let r = reading-reads text file h in
    reads-reading (canonical file) file (reads-again text file r (canonical file) k (reads-walks text file r))

pub writes-the-same : WritesTheSame
writes-the-same text file again h k r = let q = round-trip text file h k in let e : again ≡ file = cc in ap canonical e

pub fewest-tokens : FewestTokens
fewest-tokens text file h =
    let r = reading-reads text file h in
    let a = length-map (tokens (canonical file)) (λ (x : Spot). x.token) in
    let b = ap (λ (l : List Token). length l) (file-layout file (reads-written text file r)) in
    let c = fewest-words text file r in
    omega (arith, a, b, c)

-- what a writer of the plain data of a file gives, which some text reads as
pub written-is : {V E : Type 0} (file inner : File) (bytes_of : V → List ℕ) (r : Result V E) → inner ≡ file → IfOk r (λ b. bytes_of b ≡ canonical inner) → IfOk r (λ b. bytes_of b ≡ canonical file)
written-is file inner bytes_of (Ok b) same h = h ∙ ap canonical same
written-is file inner bytes_of (Err e) same h = tt

pub written-reads : {V E : Type 0} (file inner : File) (bytes_of : V → List ℕ) (r : Result V E) → IsOfText file → inner ≡ file → IfOk r (λ b. bytes_of b ≡ canonical inner) → IfOk r (λ b. length (bytes_of b) ≤ most_bytes → reading (bytes_of b) ≡ Ok file)
written-reads file inner bytes_of (Ok b) of_text same h = λ short.
    let is : bytes_of b ≡ canonical file = h ∙ ap canonical same in
    let few : length (canonical file) ≤ most_bytes = subst (λ (l : List ℕ). length l ≤ most_bytes) is short in
    subst (λ (l : List ℕ). reading l ≡ Ok file) (sym is) (round-trip of_text.0 file of_text.1 few)
written-reads file inner bytes_of (Err e) of_text same h = tt

pub ruleset laws = (tokens-are-words, read-is-written, round-trip, writes-the-same, fewest-tokens)
