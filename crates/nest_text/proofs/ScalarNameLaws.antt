-- The names of a file's scalars.
use Rattle.std.proofs.Common.{◌≡◌, ◌∙◌, ap, sym, subst, ℕ, zero, suc, ◌<◌, List, [], ◌∷◌, Option, option_map, true, arith}
use Rattle.std.specs.Prelude.{slice_get}
use Rattle.std.specs.Option.{option_copied}
use Rattle.std.specs.Borrow.{Bor}
use Rattle.std.specs.Str.{IsUtf8, IsAscii}
use Rattle.std.proofs.lemmas.Option.{slice_get-map}
use Rattle.std.proofs.lemmas.Str.{IsUtf8-from_ascii}
use Rattle.nest_tokens.specs.declared.token.Name.{Name}
use Rattle.nest_tokens.specs.Lexing.{is_name_byte}
use Rattle.nest_tokens.specs.Division.{AllPass}
use Rattle.nest_grammar.specs.declared.file.Scalar.{Scalar}
use Rattle.nest_grammar.specs.declared.file.NestUnit.{NestUnit}
use Rattle.nest_grammar.specs.declared.file.File.{File}
use Rattle.nest_grammar.specs.Files.{nests_of}
use Rattle.nest_grammar.specs.Rules.{IsSpelled}
use Rattle.nest_tokens.specs.Spellings.{name_text}
use Rattle.nest_tokens.proofs.SpelledLaws.{name_text-name_of}
use Rattle.nest_text.specs.Files.{scalar_names}

-- the name at a number is that of the scalar there
pub name-found : (file inner : File) (found : Option (Bor Scalar)) (k : ℕ) → inner ≡ file → option_copied found ≡ slice_get inner.scalars k → slice_get (scalar_names file) k ≡ option_map (λ c. name_text c.name) (option_copied found)
name-found file inner found k same h = ap (λ (f : File). slice_get (scalar_names f) k) (sym same) ∙ (slice_get-map (λ (c : Scalar). name_text c.name) inner.scalars k ∙ ap (option_map (λ (c : Scalar). name_text c.name)) (sym h))

-- the nest at a number is that of the unit there
pub nest-found : (file inner : File) (found : Option (Bor NestUnit)) (k : ℕ) → inner ≡ file → option_copied found ≡ slice_get inner.units k → slice_get (nests_of file) k ≡ option_map (λ u. u.nest) (option_copied found)
nest-found file inner found k same h = ap (λ (f : File). slice_get (nests_of f) k) (sym same) ∙ (slice_get-map (λ (u : NestUnit). u.nest) inner.units k ∙ ap (option_map (λ (u : NestUnit). u.nest)) (sym h))

-- the bytes of a name are ASCII
name-byte-ascii : (b : ℕ) → is_name_byte b ≡ true → b < 128
name-byte-ascii b h = grind arith

ascii-name : (s : List ℕ) → AllPass is_name_byte s → IsAscii s
ascii-name [] a i = omega arith
ascii-name (b ∷ s) a zero = name-byte-ascii b a.0
ascii-name (b ∷ s) a (suc i) = ascii-name s a.1 i

pub spelled-text : (n : Name) → IsSpelled n → IsUtf8 (name_text n)
spelled-text n p = subst IsUtf8 (sym (ap name_text p.1 ∙ name_text-name_of p.0 p.4)) (IsUtf8-from_ascii p.0 (ascii-name p.0 p.4))
