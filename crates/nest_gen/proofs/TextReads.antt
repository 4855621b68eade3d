-- A text of pieces whose tokens can be followed is read.
use Rattle.std.proofs.Common.{◌≡◌, ◌∙◌, ap, sym, subst, refl, ℕ, zero, suc, ◌*◌, ◌≤◌, Bool, true, false, List, [], ◌∷◌, length, Result, Ok, Err, nat_le, arith}
use Rattle.std.specs.List.{list_all}
use Rattle.std.specs.Fmt.{decimal}
use Rattle.std.proofs.lemmas.Bool.{leb-true, and_parts}
use Rattle.std.proofs.lemmas.Fmt.{length-decimal-le}
use Rattle.std.proofs.lemmas.List.{length-append}
use Rattle.nest_tokens.specs.declared.token.Mark.TheVariants as mark
use Rattle.nest_tokens.specs.declared.token.Token.{Token}
use Rattle.nest_tokens.specs.declared.token.Token.TheVariants as token
use Rattle.nest_tokens.specs.declared.token.Spot.{Spot}
use Rattle.nest_tokens.specs.Lexing.{tokens}
use Rattle.nest_grammar.specs.declared.fault.TextFault.{TextFault}
use Rattle.nest_grammar.specs.declared.file.File.{File}
use Rattle.nest_grammar.specs.declared.file.Item.{Item}
use Rattle.nest_grammar.specs.declared.file.Scalar.{Scalar}
use Rattle.nest_grammar.specs.declared.version.Version.TheVariants.{One}
use Rattle.nest_grammar.specs.Limits.{most_bytes, most_words, most_depth}
use Rattle.nest_grammar.specs.Sights.{Sight, stands, Sees, skip, beyond, of_version, start}
use Rattle.nest_grammar.specs.Names.{names_of}
use Rattle.nest_grammar.specs.Loops.{Loops, loops}
use Rattle.nest_grammar.specs.Scripts.{Script, candidates}
use Rattle.nest_grammar.specs.Contents.{reading}
use Rattle.nest_grammar.specs.Grammar.{SeesNumber, IsVersion, IsScalars, IsItems}
use Rattle.nest_grammar.specs.Grammar as grammar
use Rattle.nest_grammar.proofs.LoopLaws.{loops-sound}
use Rattle.nest_grammar.proofs.ScriptLaws.{candidates-sound}
use Rattle.nest_grammar.proofs.ContentLaws.{reads-reading}
use Rattle.canonical.specs.Pieces.{Piece, Word, Space, Indent, Newline, piece_text, token_text, text_of}
use Rattle.canonical.specs.Layout.{words, IsWritten, AllWritten}
use Rattle.canonical.proofs.LayoutPieceLaws.{shown, Laid, Free, pieces-read}

-- these tokens, at places that nothing is known of
abbrev pub placed : (ℕ → ℕ) → List Token → List Spot
placed at [] = []
placed at (t ∷ ts) = record { at = at zero; token = t } ∷ placed (λ k. at (suc k)) ts

at_of : List Spot → ℕ → ℕ
at_of [] k = zero
at_of (x ∷ xs) zero = x.at
at_of (x ∷ xs) (suc k) = at_of xs k

spots-placed : (l : List Spot) → l ≡ placed (at_of l) (shown l)
unfolding at_of
spots-placed [] = refl
spots-placed (x ∷ xs) = ap (λ (l : List Spot). x ∷ l) (spots-placed xs)

-- a sight of these tokens, before any was read of
abbrev pub sight : (ℕ → ℕ) → ℕ → List Token → Sight
sight at size ts = record { left = placed at ts; size = size; version = One; spent = 0; opened = 0; accesses = 0; lets = [] }

-- Tests of what stands behind the items: the loops and candidates are read, and then the text ends.
abbrev pub is_end : Token → Bool
is_end token.End = true
is_end _ = false

abbrev pub ends : Result (List Script × Sight) TextFault → Bool
ends (Ok y) = is_end (stands y.1)
ends (Err f) = false

abbrev pub goes_on : Result (Loops × Sight) TextFault → Bool
goes_on (Ok x) = ends (candidates (length x.0.0) x.1)
goes_on (Err f) = false

end-stands : (t : Token) → is_end t ≡ true → t ≡ token.End
end-stands token.End h = refl
end-stands (token.Name n) h = absurd (cc)
end-stands (token.Number n) h = absurd (cc)
end-stands (token.Plain m) h = absurd (cc)
end-stands (token.Bad b) h = absurd (cc)

ends-found : (r : Result (List Script × Sight) TextFault) → ends r ≡ true → (y : List Script × Sight) × (r ≡ Ok y) × (stands y.1 ≡ token.End)
ends-found (Ok y) h = (y, refl, end-stands (stands y.1) h)
ends-found (Err f) h = absurd (cc)

goes_on-found : (r : Result (Loops × Sight) TextFault) → goes_on r ≡ true → (x : Loops × Sight) × (r ≡ Ok x) × (ends (candidates (length x.0.0) x.1) ≡ true)
goes_on-found (Ok x) h = (x, refl, h)
goes_on-found (Err f) h = absurd (cc)

-- a sight from which a file of version 1 stands
pub record Parsed (s : Sight) : Type 0 where
  pub scalars : List Scalar
  pub memory-at : Sight
  pub words : ℕ
  pub items : List Item
  pub loops-at : Sight
  pub version : IsVersion s One (of_version One (beyond 2 s))
  pub has-scalars : IsScalars (of_version One (beyond 2 s)) scalars memory-at
  pub memory : Sees mark.Memory memory-at
  pub number : SeesNumber words (skip memory-at)
  pub few : words ≤ most_words
  pub has-items : IsItems words (beyond 2 memory-at) items loops-at
  pub loops : goes_on (Rattle.nest_grammar.specs.Loops.loops (most_depth One) 0 (names_of scalars) loops-at) ≡ true

parsed-read : (text : List ℕ) → length text ≤ most_bytes → Parsed (start text) → (file : File) × (reading text ≡ Ok file)
parsed-read text short p =
    let (x, loops_read, more) = goes_on-found (Rattle.nest_grammar.specs.Loops.loops (most_depth One) 0 (names_of p.scalars) p.loops-at) p.loops in
    let (y, scripts_read, end) = ends-found (candidates (length x.0.0) x.1) more in
    let unit = grammar.unit (loops-sound (most_depth One) 0 (names_of p.scalars) p.loops-at x loops_read) (candidates-sound (length x.0.0) x.1 y scripts_read) in
    let read = grammar.file short p.version p.has-scalars p.memory p.number p.few p.has-items (grammar.one unit) end in
    (_, reads-reading text _ read)

pub text-read : (ps : List Piece) → Laid Free ps → AllWritten ps → length (text_of ps) ≤ most_bytes → ((at : ℕ → ℕ) (size : ℕ) → Parsed (sight at size (Rattle.canonical.specs.Layout.words ps)))
    → (file : File) × (reading (text_of ps) ≡ Ok file)
text-read ps laid written short parsed =
    let text = text_of ps in
    let left : tokens text ≡ placed (at_of (tokens text)) (Rattle.canonical.specs.Layout.words ps) = spots-placed (tokens text) ∙ ap (placed (at_of (tokens text))) (pieces-read Free ps (length text) laid written) in
    parsed-read text short (subst (λ (l : List Spot). Parsed (record { left = l; size = length text; version = One; spent = 0; opened = 0; accesses = 0; lets = [] })) (sym left) (parsed (at_of (tokens text)) (length text)))

-- a piece of at most 20 bytes, as every number is
abbrev pub is_brief : Piece → Bool
is_brief (Word (token.Number n)) = true
is_brief p = nat_le (length (piece_text p)) 20

number-brief : (n : ℕ) → IsWritten (token.Number n) → length (decimal n) ≤ 20
number-brief n below = length-decimal-le 20 n (omega arith) (omega (arith, below)) (omega (arith, below))

word-brief : (t : Token) → is_brief (Word t) ≡ true → IsWritten t → length (piece_text (Word t)) ≤ 20
unfolding piece_text token_text
word-brief (token.Number n) h w = number-brief n w
word-brief (token.Name n) h w = leb-true _ _ h
word-brief (token.Plain m) h w = leb-true _ _ h
word-brief (token.Bad b) h w = leb-true _ _ h
word-brief token.End h w = leb-true _ _ h

all-brief : (p : Piece) (ps : List Piece) → length (piece_text p) ≤ 20 → length (text_of ps) ≤ 20 * length ps → length (text_of (p ∷ ps)) ≤ 20 * length (p ∷ ps)
unfolding text_of
all-brief p ps one rest = let both = length-append (piece_text p) (text_of ps) in omega (arith, one, rest, both)

pub length-brief : (ps : List Piece) → list_all is_brief ps ≡ true → AllWritten ps → length (text_of ps) ≤ 20 * length ps
unfolding text_of
length-brief [] h w = omega arith
length-brief (Word t ∷ ps) h w = let (one, rest) = and_parts (is_brief (Word t)) (list_all is_brief ps) h in all-brief (Word t) ps (word-brief t one w.0) (length-brief ps rest w.1)
length-brief (Space ∷ ps) h w = let (one, rest) = and_parts (is_brief Space) (list_all is_brief ps) h in all-brief Space ps (leb-true _ _ one) (length-brief ps rest w)
length-brief (Newline ∷ ps) h w = let (one, rest) = and_parts (is_brief Newline) (list_all is_brief ps) h in all-brief Newline ps (leb-true _ _ one) (length-brief ps rest w)
length-brief (Indent n ∷ ps) h w = let (one, rest) = and_parts (is_brief (Indent n)) (list_all is_brief ps) h in all-brief (Indent n) ps (leb-true _ _ one) (length-brief ps rest w)
