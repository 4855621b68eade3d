-- Spelled: the names of a text are spelled as names.
use Rattle.std.proofs.Common.{◌≡◌, ℕ, ◌≤◌, List, [], ◌∷◌, length, refl, subst, Option, Some, None, Bool, true, false, cond, nat_lt, ◌^◌}
use Rattle.std.proofs.lemmas.Bool.{ltb-false}
use Rattle.nest_tokens.specs.declared.token.Mark.{Mark}
use Rattle.nest_tokens.specs.declared.token.Name.{Name}
use Rattle.nest_tokens.specs.declared.token.Token.{Token}
use Rattle.nest_tokens.specs.declared.token.Token.TheVariants as token
use Rattle.nest_tokens.specs.declared.token.BadToken.TheVariants as bad
use Rattle.nest_tokens.specs.declared.token.Spot.{Spot}
use Rattle.nest_tokens.specs.Tokens.{keyword_of}
use Rattle.nest_tokens.specs.Lexing.{is_letter, is_name_byte, decimal, named, numbered, keyword_or_name}
use Rattle.nest_tokens.specs.Division.{Begins, AllPass, Spells, name, number, sign, bad_byte, Divides, ends, goes_on}
use Rattle.nest_tokens.proofs.DividingLaws.{tokens-divide}
use Rattle.nest_tokens.specs.Ahead.{first, rest}
use Rattle.nest_grammar.specs.Sights.{Sight, here, skip, start}
use Rattle.nest_grammar.specs.Grammar.{SeesName}
use Rattle.nest_grammar.specs.Rules.{IsSpelled}

-- where the token is a name, it is spelled as one
abbrev Proper : Token → Type 0
Proper (token.Name n) = IsSpelled n
Proper _ = Unit {0}

abbrev AllProper : List Spot → Type 0
AllProper [] = Unit {0}
AllProper (x ∷ xs) = Proper x.token × AllProper xs

proper-named : (s : List ℕ) → Begins is_letter s → AllPass is_name_byte s → Proper (named s)
unfolding named
proper-named s b a = long (nat_lt 32 (length s)) refl
  where
    word : length s ≤ 32 → (o : Option Mark) → Proper (keyword_or_name o s)
    word l (Some m) = tt
    word l None = (s, refl, l, b, a)

    long : (c : Bool) → nat_lt 32 (length s) ≡ c → Proper (cond c (token.Bad bad.Name) (keyword_or_name (keyword_of s) s))
    long true e = tt
    long false e = word (ltb-false 32 (length s) e) (keyword_of s)

proper-numbered : (s : List ℕ) → Proper (numbered s)
unfolding numbered
proper-numbered s = elim (nat_lt (decimal s) (2 ^ 63)) as (λ c. Proper (cond c (token.Number (decimal s)) (token.Bad bad.Number))) [ true ↦ tt | false ↦ tt ]

proper-spells : {s rest : List ℕ} {t : Token} → Spells s rest t → Proper t
proper-spells (name {s} b a e) = proper-named s b a
proper-spells (number {s} b a e) = proper-numbered s
proper-spells (sign h i l) = tt
proper-spells (bad_byte a b c d e) = tt

proper-divides : {size : ℕ} {text : List ℕ} {xs : List Spot} → Divides size text xs → AllProper xs
proper-divides (ends g) = tt
proper-divides (goes_on g s d) = (proper-spells s, proper-divides d)

-- the tokens that are left
abbrev pub ProperSight : Sight → Type 0
ProperSight s = AllProper s.left

pub proper-start : (text : List ℕ) → ProperSight (start text)
proper-start text = proper-divides (tokens-divide text)

pub proper-skip : (s : Sight) → ProperSight s → ProperSight (skip s)
unfolding skip
proper-skip s h = by s.left h
  where
    by : (xs : List Spot) → AllProper xs → AllProper (rest xs)
    by [] k = tt
    by (x ∷ xs) k = k.1

pub proper-name : (n : Name) (s : Sight) → ProperSight s → SeesName n s → IsSpelled n
unfolding here
proper-name n s h e = by s.left h e
  where
    by : (xs : List Spot) → AllProper xs → (first s.size xs).token ≡ token.Name n → IsSpelled n
    by [] k q = absurd (cc)
    by (x ∷ xs) k q = subst Proper q k.0
