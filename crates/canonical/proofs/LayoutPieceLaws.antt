-- Pieces that are laid out so that no token is lengthened by what stands behind it are read as their words.
use Rattle.std.proofs.Common.{◌≡◌, ℕ, zero, suc, ◌*◌, List, [], ◌∷◌, ◌++◌, length, map, drop, replicate, refl, sym, ◌∙◌, ap, arith, Some, None, Bool, true, false}
use Rattle.nest_tokens.specs.declared.token.Mark.{Mark}
use Rattle.nest_tokens.specs.declared.token.Mark.TheVariants as mark
use Rattle.nest_tokens.specs.declared.token.Token.{Token}
use Rattle.nest_tokens.specs.declared.token.Token.TheVariants as token
use Rattle.nest_tokens.specs.declared.token.Spot.{Spot}
use Rattle.nest_tokens.specs.Tokens.{spelling}
use Rattle.nest_tokens.specs.Lexing.{is_letter, is_digit, is_name_byte, between, gap, name_of, Lexed, lexed, spots, tokens_from}
use Rattle.nest_tokens.specs.Division.{Begins, Stops}
use Rattle.nest_tokens.proofs.PlaceLaws.{tokens-gap, tokens-cons}
use Rattle.nest_tokens.specs.Spellings.{name_text}
use Rattle.canonical.specs.Pieces.{Piece, Word, Space, Indent, Newline, token_text, piece_text, text_of}
use Rattle.canonical.specs.Layout.{words, IsWritten, AllWritten}
use Rattle.canonical.proofs.TokenWalkLaws.{Walks}
use Rattle.nest_tokens.proofs.SpelledLaws.{name_text-name_of}
use Rattle.nest_tokens.proofs.SpelledLaws.{drop-front}
use Rattle.canonical.proofs.LayoutTokenLaws.{lexed-name, lexed-number, number-begins}
use Rattle.canonical.proofs.LayoutMarkLaws.{is_word, lexed-word, is_equals, sign-begins, word-begins, lexed-sign}
use Rattle.nest_tokens.proofs.OneDivision.{letter-solid, digit-solid}

-- behind a space or a line's end, behind a name, a number or a keyword, behind a sign
pub data State : Type 0 where
  Free Worded Signed : State

unfoldable pub is_sign : Token → Bool
is_sign (token.Plain mark.Nest) = false
is_sign (token.Plain mark.Scalar) = false
is_sign (token.Plain mark.Memory) = false
is_sign (token.Plain mark.Data) = false
is_sign (token.Plain mark.Ramp) = false
is_sign (token.Plain mark.Candidate) = false
is_sign (token.Plain mark.For) = false
is_sign (token.Plain mark.Below) = false
is_sign (token.Plain mark.Step) = false
is_sign (token.Plain mark.While) = false
is_sign (token.Plain mark.Let) = false
is_sign (token.Plain mark.If) = false
is_sign (token.Plain mark.Else) = false
is_sign (token.Plain m) = true
is_sign _ = false

-- one that begins with `=`
unfoldable pub with_equals : Token → Bool
with_equals (token.Plain mark.Assign) = true
with_equals (token.Plain mark.Equal) = true
with_equals _ = false

-- what a token may stand behind
abbrev pub Joins : State → Token → Type 0
Joins Free t = Unit {0}
Joins Worded t = is_sign t ≡ true
Joins Signed t = with_equals t ≡ false

abbrev pub behind : Bool → State
behind true = Signed
behind false = Worded

abbrev pub Laid : State → List Piece → Type 0
Laid s [] = Unit {0}
Laid s (Word t ∷ ps) = Joins s t × Laid (behind (is_sign t)) ps
Laid s (Space ∷ ps) = Laid Free ps
Laid s (Newline ∷ ps) = Laid Free ps
Laid s (Indent n ∷ ps) = (s ≡ Free) × Laid Free ps

text-cons : (p : Piece) (ps : List Piece) → text_of (p ∷ ps) ≡ piece_text p ++ text_of ps
unfolding text_of
text-cons p ps = refl

-- The first bytes

sign-word : (m : Mark) → is_sign (token.Plain m) ≡ true → is_word m ≡ false
unfolding is_word is_sign
sign-word mark.Nest h = absurd (cc)
sign-word mark.Scalar h = absurd (cc)
sign-word mark.Memory h = absurd (cc)
sign-word mark.Data h = absurd (cc)
sign-word mark.Ramp h = absurd (cc)
sign-word mark.Candidate h = absurd (cc)
sign-word mark.For h = absurd (cc)
sign-word mark.Below h = absurd (cc)
sign-word mark.Step h = absurd (cc)
sign-word mark.While h = absurd (cc)
sign-word mark.Let h = absurd (cc)
sign-word mark.If h = absurd (cc)
sign-word mark.Else h = absurd (cc)
sign-word _ h = refl

word-sign : (m : Mark) → is_sign (token.Plain m) ≡ false → is_word m ≡ true
unfolding is_word is_sign
word-sign mark.Nest h = refl
word-sign mark.Scalar h = refl
word-sign mark.Memory h = refl
word-sign mark.Data h = refl
word-sign mark.Ramp h = refl
word-sign mark.Candidate h = refl
word-sign mark.For h = refl
word-sign mark.Below h = refl
word-sign mark.Step h = refl
word-sign mark.While h = refl
word-sign mark.Let h = refl
word-sign mark.If h = refl
word-sign mark.Else h = refl
word-sign _ h = absurd (cc)

stops-front : (p : ℕ → Bool) (b : ℕ) (cs s bs : List ℕ) → s ≡ b ∷ cs → p b ≡ false → Stops p (s ++ bs)
stops-front p b cs s bs e h = rw e h

sign-stops : (t : Token) (bs : List ℕ) → is_sign t ≡ true → Stops is_name_byte (token_text t ++ bs)
unfolding token_text is_sign
sign-stops (token.Plain m) bs h = let b = sign-begins m (sign-word m h) in stops-front is_name_byte b.0 b.1 (spelling m) bs b.2 b.3
sign-stops (token.Name n) bs h = absurd (cc)
sign-stops (token.Number n) bs h = absurd (cc)
sign-stops (token.Bad b) bs h = absurd (cc)
sign-stops token.End bs h = absurd (cc)

-- behind a word no name goes on
worded-stops : (ps : List Piece) → Laid Worded ps → Stops is_name_byte (text_of ps)
unfolding text_of piece_text
worded-stops [] h = tt
worded-stops (Word t ∷ ps) h = sign-stops t (text_of ps) h.0
worded-stops (Space ∷ ps) h = refl
worded-stops (Newline ∷ ps) h = refl
worded-stops (Indent n ∷ ps) h = absurd (let k : Worded ≡ Free = h.0 in cc)

letter-no-equals : (b : ℕ) → is_letter b ≡ true → is_equals b ≡ false
letter-no-equals b h = grind arith

digit-no-equals : (b : ℕ) → is_digit b ≡ true → is_equals b ≡ false
digit-no-equals b h = grind arith

begins-stops : (p q : ℕ → Bool) → ((b : ℕ) → p b ≡ true → q b ≡ false) → (s bs : List ℕ) → Begins p s → Stops q (s ++ bs)
begins-stops p q up [] bs h = absurd h
begins-stops p q up (b ∷ cs) bs h = up b h

mark-stops : (m : Mark) (bs : List ℕ) → with_equals (token.Plain m) ≡ false → Stops is_equals (spelling m ++ bs)
unfolding spelling with_equals
mark-stops mark.OpenBrace bs h = refl
mark-stops mark.CloseBrace bs h = refl
mark-stops mark.Open bs h = refl
mark-stops mark.Close bs h = refl
mark-stops mark.OpenBracket bs h = refl
mark-stops mark.CloseBracket bs h = refl
mark-stops mark.Assign bs h = absurd (cc)
mark-stops mark.Equal bs h = absurd (cc)
mark-stops mark.NotEqual bs h = refl
mark-stops mark.Less bs h = refl
mark-stops mark.AtMost bs h = refl
mark-stops mark.Greater bs h = refl
mark-stops mark.AtLeast bs h = refl
mark-stops mark.Plus bs h = refl
mark-stops mark.Minus bs h = refl
mark-stops mark.Times bs h = refl
mark-stops mark.Divide bs h = refl
mark-stops mark.Remainder bs h = refl
mark-stops mark.Colon bs h = refl
mark-stops mark.Comma bs h = refl
mark-stops mark.Semicolon bs h = refl
mark-stops mark.Nest bs h = refl
mark-stops mark.Scalar bs h = refl
mark-stops mark.Memory bs h = refl
mark-stops mark.Data bs h = refl
mark-stops mark.Ramp bs h = refl
mark-stops mark.Candidate bs h = refl
mark-stops mark.For bs h = refl
mark-stops mark.Below bs h = refl
mark-stops mark.Step bs h = refl
mark-stops mark.While bs h = refl
mark-stops mark.Let bs h = refl
mark-stops mark.If bs h = refl
mark-stops mark.Else bs h = refl

token-stops : (t : Token) (bs : List ℕ) → IsWritten t → with_equals t ≡ false → Stops is_equals (token_text t ++ bs)
unfolding token_text
token-stops (token.Name n) bs w h =
    let e : name_text n ≡ w.0 = ap name_text w.1 ∙ name_text-name_of w.0 w.4 in
    rw e (begins-stops is_letter is_equals letter-no-equals w.0 bs w.3)
token-stops (token.Number n) bs w h = begins-stops is_digit is_equals digit-no-equals _ bs (number-begins n w)
token-stops (token.Plain m) bs w h = mark-stops m bs h
token-stops (token.Bad b) bs w h = absurd w
token-stops token.End bs w h = absurd w

-- behind a sign no `=` lengthens it
signed-stops : (ps : List Piece) → Laid Signed ps → AllWritten ps → Stops is_equals (text_of ps)
unfolding text_of piece_text
signed-stops [] h w = tt
signed-stops (Word t ∷ ps) h w = token-stops t (text_of ps) w.0 h.0
signed-stops (Space ∷ ps) h w = refl
signed-stops (Newline ∷ ps) h w = refl
signed-stops (Indent n ∷ ps) h w = absurd (let k : Signed ≡ Free = h.0 in cc)

-- Tokens

abbrev pub shown : List Spot → List Token
shown l = map (λ x. x.token) l

one-token : (t : Token) (c : ℕ) (cs rest : List ℕ) (size : ℕ) → between false c ≡ None → lexed ((c ∷ cs) ++ rest) ≡ record { token = t; len = length (c ∷ cs) } → shown (tokens_from size ((c ∷ cs) ++ rest)) ≡ t ∷ shown (tokens_from size rest)
unfolding gap
one-token t c cs rest size b h =
    let g : gap false (c ∷ (cs ++ rest)) ≡ c ∷ (cs ++ rest) = rw b refl in
    ap shown (tokens-cons size c (cs ++ rest) g) ∙ ap (λ (l : Lexed). l.token ∷ shown (tokens_from size (drop l.len ((c ∷ cs) ++ rest)))) h ∙ ap (λ (l : List ℕ). t ∷ shown (tokens_from size l)) (drop-front (c ∷ cs) rest)

-- a spelling whose first byte begins a token
token-from : (t : Token) (s rest : List ℕ) (size : ℕ) (p : ℕ → Bool) → ((b : ℕ) → p b ≡ true → between false b ≡ None) → Begins p s → lexed (s ++ rest) ≡ record { token = t; len = length s } → shown (tokens_from size (s ++ rest)) ≡ t ∷ shown (tokens_from size rest)
token-from t [] rest size p up b h = absurd b
token-from t (c ∷ cs) rest size p up b h = one-token t c cs rest size (up c b) h

begins-token : ℕ → Bool
begins-token b = elim (between false b) as (λ o. Bool) [ None ↦ true | Some c ↦ false ]

begun : (b : ℕ) → begins-token b ≡ true → between false b ≡ None
unfolding begins-token
begun b h = elim (between false b) as (λ o. (elim o as (λ o. Bool) [ None ↦ true | Some c ↦ false ]) ≡ true → o ≡ None) [ None ↦ λ k. refl | Some c ↦ λ k. absurd (cc) ] h

sign-begun : (m : Mark) → is_word m ≡ false → Begins begins-token (spelling m)
unfolding is_word spelling begins-token between
sign-begun mark.OpenBrace h = refl
sign-begun mark.CloseBrace h = refl
sign-begun mark.Open h = refl
sign-begun mark.Close h = refl
sign-begun mark.OpenBracket h = refl
sign-begun mark.CloseBracket h = refl
sign-begun mark.Assign h = refl
sign-begun mark.Equal h = refl
sign-begun mark.NotEqual h = refl
sign-begun mark.Less h = refl
sign-begun mark.AtMost h = refl
sign-begun mark.Greater h = refl
sign-begun mark.AtLeast h = refl
sign-begun mark.Plus h = refl
sign-begun mark.Minus h = refl
sign-begun mark.Times h = refl
sign-begun mark.Divide h = refl
sign-begun mark.Remainder h = refl
sign-begun mark.Colon h = refl
sign-begun mark.Comma h = refl
sign-begun mark.Semicolon h = refl
sign-begun _ h = absurd (cc)

-- a token is read from its bytes
token-read : (t : Token) (ps : List Piece) (size : ℕ) → IsWritten t → Laid (behind (is_sign t)) ps → AllWritten ps → shown (tokens_from size (token_text t ++ text_of ps)) ≡ t ∷ shown (tokens_from size (text_of ps))
unfolding token_text is_sign
token-read (token.Name n) ps size w h a =
    let e : name_text n ≡ w.0 = ap name_text w.1 ∙ name_text-name_of w.0 w.4 in
    let k : Stops is_name_byte (text_of ps) = worded-stops ps h in
    rw (e, w.1) (token-from (token.Name (name_of w.0)) w.0 (text_of ps) size is_letter letter-solid w.3 (lexed-name w.0 (text_of ps) w.2 w.3 w.4 w.5 k))
token-read (token.Number n) ps size w h a =
    let k : Stops is_name_byte (text_of ps) = worded-stops ps h in
    token-from (token.Number n) _ (text_of ps) size is_digit digit-solid (number-begins n w) (lexed-number n (text_of ps) w k)
token-read (token.Plain m) ps size w h a = elim (is_sign (token.Plain m)) as (λ b. is_sign (token.Plain m) ≡ b → Laid (behind b) ps → shown (tokens_from size (spelling m ++ text_of ps)) ≡ token.Plain m ∷ shown (tokens_from size (text_of ps))) [
  | true ↦ λ e k. (let q : is_word m ≡ false = sign-word m e in token-from (token.Plain m) (spelling m) (text_of ps) size begins-token begun (sign-begun m q) (lexed-sign m (text_of ps) q (signed-stops ps k a)))
  | false ↦ λ e k. (let q : is_word m ≡ true = word-sign m e in token-from (token.Plain m) (spelling m) (text_of ps) size is_letter letter-solid (word-begins m q) (lexed-word m (text_of ps) q (worded-stops ps k)))
] refl h
token-read (token.Bad b) ps size w h a = absurd w
token-read token.End ps size w h a = absurd w

blank-skipped : (b : ℕ) (bs : List ℕ) (size : ℕ) → between false b ≡ Some false → tokens_from size (b ∷ bs) ≡ tokens_from size bs
unfolding gap
blank-skipped b bs size h =
    let g : gap false (b ∷ bs) ≡ gap false bs = rw h refl in
    sym (tokens-gap size (b ∷ bs) (gap false bs) (sym g)) ∙ tokens-gap size bs (gap false bs) refl

spaces-skipped : (n : ℕ) (bs : List ℕ) (size : ℕ) → tokens_from size (replicate n 32 ++ bs) ≡ tokens_from size bs
unfolding between
spaces-skipped zero bs size = refl
spaces-skipped (suc n) bs size = blank-skipped 32 (replicate n 32 ++ bs) size refl ∙ spaces-skipped n bs size

-- The bytes of pieces that are laid out so are read as the words of the pieces.
pub pieces-read : (s : State) (ps : List Piece) (size : ℕ) → Laid s ps → AllWritten ps → shown (tokens_from size (text_of ps)) ≡ words ps
unfolding text_of piece_text between tokens_from spots
pieces-read s [] size h a = refl
pieces-read s (Word t ∷ ps) size h a = token-read t ps size a.0 h.1 a.1 ∙ ap (λ (l : List Token). t ∷ l) (pieces-read (behind (is_sign t)) ps size h.1 a.1)
pieces-read s (Space ∷ ps) size h a = ap shown (blank-skipped 32 (text_of ps) size refl) ∙ pieces-read Free ps size h a
pieces-read s (Newline ∷ ps) size h a = ap shown (blank-skipped 10 (text_of ps) size refl) ∙ pieces-read Free ps size h a
pieces-read s (Indent n ∷ ps) size h a = ap shown (spaces-skipped (2 * n) (text_of ps) size) ∙ pieces-read Free ps size h.1 a

-- the same as a walk
pub words-walk : (ps : List Piece) (size : ℕ) (l : List Spot) → shown l ≡ words ps → Walks ps size l []
words-walk [] size [] h = refl
words-walk [] size (x ∷ xs) h = absurd (cc)
words-walk (Word t ∷ ps) size [] h = absurd (cc)
words-walk (Word t ∷ ps) size (x ∷ xs) h = (cc, words-walk ps size xs (cc))
words-walk (Space ∷ ps) size l h = words-walk ps size l h
words-walk (Indent n ∷ ps) size l h = words-walk ps size l h
words-walk (Newline ∷ ps) size l h = words-walk ps size l h
