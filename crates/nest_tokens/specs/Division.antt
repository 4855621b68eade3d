-- Division: what the tokens of a text are, with no word of how they are found. The text is gaps and
-- tokens by turns; each token has its spelling, and what stands behind it can't be a part of it.
use Rattle.std.specs.Prelude.{◌≡◌, ℕ, ◌-◌, List, [], ◌∷◌, ◌++◌, length, Bool, true, false, ◌==◌, ◌≤◌, ◌⊎◌}
use Rattle.nest_tokens.specs.declared.token.Mark.{Mark}
use Rattle.nest_tokens.specs.declared.token.Token.{Token}
use Rattle.nest_tokens.specs.declared.token.Token.TheVariants as token
use Rattle.nest_tokens.specs.declared.token.BadToken.TheVariants as bad
use Rattle.nest_tokens.specs.declared.token.Spot.{Spot}
use Rattle.nest_tokens.specs.Tokens.{spelling, signs}
use Rattle.nest_tokens.specs.Lexing.{is_letter, is_digit, is_name_byte, is_blank, named, numbered, tokens}

-- blanks and comments: `Gap c g d` where g begins in a comment as c says, and ends in one as d says
pub data Gap : Bool → List ℕ → Bool → Type 0 where
  none : {c : Bool} → Gap c [] c
  blank : {b : ℕ} {bs : List ℕ} {d : Bool} → is_blank b ≡ true → Gap false bs d → Gap false (b ∷ bs) d
  opens : {b : ℕ} {bs : List ℕ} {d : Bool} → (b == 35) ≡ true → Gap true bs d → Gap false (b ∷ bs) d
  inside : {b : ℕ} {bs : List ℕ} {d : Bool} → (b == 10) ≡ false → Gap true bs d → Gap true (b ∷ bs) d
  closes : {b : ℕ} {bs : List ℕ} {d : Bool} → (b == 10) ≡ true → Gap false bs d → Gap true (b ∷ bs) d

-- the first byte passes
abbrev pub Begins : (ℕ → Bool) → List ℕ → Type 0
Begins p [] = ⊥
Begins p (b ∷ bs) = p b ≡ true

-- there is no first byte that passes
abbrev pub Stops : (ℕ → Bool) → List ℕ → Type 0
Stops p [] = Unit {0}
Stops p (b ∷ bs) = p b ≡ false

abbrev pub AllPass : (ℕ → Bool) → List ℕ → Type 0
AllPass p [] = Unit {0}
AllPass p (b ∷ bs) = (p b ≡ true) × AllPass p bs

-- one of these
abbrev pub IsOneOf : List Mark → Mark → Type 0
IsOneOf [] m = ⊥
IsOneOf (x ∷ xs) m = (m ≡ x) ⊎ IsOneOf xs m

-- a sign, and no keyword
abbrev pub IsSign : Mark → Type 0
IsSign m = IsOneOf signs m

-- a text begins with the spelling of this
abbrev pub StandsAt : List ℕ → Mark → Type 0
StandsAt text m = (rest : List ℕ) × (text ≡ spelling m ++ rest)

-- `Spells s rest t`: s is the spelling of the token t, where `rest` stands behind it
pub data Spells : List ℕ → List ℕ → Token → Type 0 where
  name : {s rest : List ℕ} → Begins is_letter s → AllPass is_name_byte s → Stops is_name_byte rest → Spells s rest (named s)
  number : {s rest : List ℕ} → Begins is_digit s → AllPass is_digit s → Stops is_digit rest → Spells s rest (numbered s)
  -- no sign that stands here is longer
  sign : {m : Mark} {s rest : List ℕ} → s ≡ spelling m → IsSign m → ((k : Mark) → IsSign k → StandsAt (s ++ rest) k → length (spelling k) ≤ length s) → Spells s rest (token.Plain m)
  -- no name, number, sign, blank or comment begins here
  bad_byte : {b : ℕ} {rest : List ℕ} → is_blank b ≡ false → (b == 35) ≡ false → is_letter b ≡ false → is_digit b ≡ false → ((k : Mark) → IsSign k → StandsAt (b ∷ rest) k → ⊥) → Spells (b ∷ []) rest (token.Bad bad.Byte)

-- what is left of a text of this size is gaps and these tokens by turns
pub data Divides (size : ℕ) : List ℕ → List Spot → Type 0 where
  ends : {g : List ℕ} {d : Bool} → Gap false g d → Divides size g []
  goes_on : {g s rest : List ℕ} {t : Token} {spots : List Spot} → Gap false g false → Spells s rest t → Divides size rest spots → Divides size (g ++ (s ++ rest)) (record { at = size - length (s ++ rest); token = t } ∷ spots)

-- A text is divided by its tokens.
abbrev pub TokensDivide : Type 0
TokensDivide = (text : List ℕ) → Divides (length text) text (tokens text)

-- A text is divided in one way.
abbrev pub OneDivision : Type 0
OneDivision = (text : List ℕ) (spots others : List Spot) → Divides (length text) text spots → Divides (length text) text others → spots ≡ others
