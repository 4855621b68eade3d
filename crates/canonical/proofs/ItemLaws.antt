-- The texts of items.
use Rattle.std.proofs.Common.{◌≡◌, ℕ, ◌*◌, ℤ, List, [], ◌∷◌, ◌++◌, refl, ap, ◌∙◌, append-nil, append_assoc, replicate}
use Rattle.nest_tokens.specs.declared.token.Mark.{Mark}
use Rattle.nest_tokens.specs.declared.token.Mark.TheVariants as mark
use Rattle.nest_tokens.specs.Tokens.{spelling}
use Rattle.nest_grammar.specs.declared.file.Item.TheVariants.{Data, Ramp}
use Rattle.canonical.specs.Pieces.{Piece, plain, text_of, line}
use Rattle.canonical.specs.Scripts.{operand, signed_operand}
use Rattle.canonical.specs.Contents.{value_list, item_line}
use Rattle.canonical.proofs.PieceLaws.{text-plain, text-append, text-space, text-number, text-nil, text-line}

pub text-data : (first : ℕ) (vs : List ℤ) → text_of (item_line (Data first vs)) ≡ spelling mark.Data ++ (text_of (operand first) ++ (spelling mark.Colon ++ (text_of (value_list vs) ++ 10 ∷ [])))
unfolding item_line
text-data first vs = text-line 0 _ ∙ simp (text-append, text-plain, text-space, text-number, text-nil, append-nil, append_assoc)

five : (a b c d e : List Piece) → text_of (a ++ b ++ c ++ d ++ e) ++ 10 ∷ [] ≡ text_of a ++ (text_of b ++ (text_of c ++ (text_of d ++ (text_of e ++ 10 ∷ []))))
five a b c d e = simp (text-append, append_assoc)

text-five : (m : Mark) (a b c d e : List Piece) → text_of (line 0 (plain m ∷ a ++ b ++ c ++ d ++ e)) ≡ spelling m ++ (text_of a ++ (text_of b ++ (text_of c ++ (text_of d ++ (text_of e ++ 10 ∷ [])))))
text-five m a b c d e =
    text-line 0 (plain m ∷ a ++ b ++ c ++ d ++ e)
    ∙ ap (λ (t : List ℕ). t ++ 10 ∷ []) (text-plain m (a ++ b ++ c ++ d ++ e))
    ∙ append_assoc (spelling m) (text_of (a ++ b ++ c ++ d ++ e)) (10 ∷ [])
    ∙ ap (λ (t : List ℕ). spelling m ++ t) (five a b c d e)

pub text-ramp : (first count stride : ℕ) (start growth : ℤ) → text_of (item_line (Ramp first count stride start growth)) ≡ spelling mark.Ramp ++ (text_of (operand first) ++ (text_of (operand count) ++ (text_of (operand stride) ++ (text_of (signed_operand start) ++ (text_of (signed_operand growth) ++ 10 ∷ [])))))
unfolding item_line
text-ramp first count stride start growth = text-five mark.Ramp (operand first) (operand count) (operand stride) (signed_operand start) (signed_operand growth)

pub ruleset items = (text-data, text-ramp, append_assoc)
