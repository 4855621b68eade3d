-- Printed expressions, one equation for each of them.
use Rattle.std.proofs.Common.{◌≡◌, ℕ, ℤ, pos, List, [], ◌∷◌, ◌++◌, true, false, refl, ap, ◌∙◌, rules, append_assoc, append-nil}
use Rattle.std.specs.Fmt.{signed_decimal}
use Rattle.nest_lang.specs.declared.tree.Expr.{Expr, the_lemmas}
use Rattle.nest_lang.specs.declared.tree.Expr.TheVariants.{Number, Var, Load, Neg, Two}
use Rattle.nest_lang.specs.declared.tree.Place.{Place}
use Rattle.nest_lang.specs.declared.tree.Op.{Op}
use Rattle.nest_tokens.specs.declared.token.Mark.TheVariants as mark
use Rattle.nest_tokens.specs.Tokens.{spelling}
use Rattle.canonical.specs.declared.group.Group.{Group}
use Rattle.canonical.specs.declared.group.Group.TheVariants.{Unary, Whole}
use Rattle.canonical.specs.Groups.{fits, left_of, right_of, mark_of}
use Rattle.nest_tokens.specs.Spellings.{name_text}
use Rattle.canonical.specs.Pieces.{text_of, plain, name, number, signed, spaced}
use Rattle.canonical.specs.Labels.{Labels, label}
use Rattle.canonical.specs.Expressions.{Printed, as_group, both, printed}
use Rattle.canonical.proofs.PieceLaws.{text-plain, text-append, text-closed, text-nil, text-name, text-signed}

pub printed-signed : (l : Labels) (n : ℤ) → printed l (Number n) ≡ record { group = Unary; pieces = signed n }
unfolding printed
printed-signed l n = search (rules, the_lemmas)

pub printed-number : (l : Labels) (n : ℕ) → printed l (Number (pos n)) ≡ record { group = Unary; pieces = number n ∷ [] }
unfolding signed
printed-number l n = printed-signed l (pos n)

pub printed-var : (l : Labels) (p : Place) → printed l (Var p) ≡ record { group = Unary; pieces = name (label l p) ∷ [] }
unfolding printed
printed-var l p = search (rules, the_lemmas)

pub printed-load : (l : Labels) (k : ℕ) (e : Expr) → printed l (Load k e) ≡ record { group = Unary; pieces = plain mark.OpenBracket ∷ as_group Whole (printed l e) ++ plain mark.CloseBracket ∷ [] }
unfolding printed
printed-load l k e = search (rules, the_lemmas)

pub printed-neg : (l : Labels) (e : Expr) → printed l (Neg e) ≡ record { group = Unary; pieces = plain mark.Minus ∷ as_group Unary (printed l e) }
unfolding printed
printed-neg l e = search (rules, the_lemmas)

pub printed-two : (l : Labels) (o : Op) (a b : Expr) → printed l (Two o a b) ≡ both o (printed l a) (printed l b)
unfolding printed
printed-two l o a b = search (rules, the_lemmas)

pub as-fit : (wanted : Group) (x : Printed) → fits x.group wanted ≡ true → as_group wanted x ≡ x.pieces
unfolding as_group
as-fit wanted x h = rw h

pub as-held : (wanted : Group) (x : Printed) → fits x.group wanted ≡ false → as_group wanted x ≡ plain mark.Open ∷ x.pieces ++ plain mark.Close ∷ []
unfolding as_group
as-held wanted x h = rw h

-- the texts of expressions without parentheses round them
pub bare-number : (l : Labels) (n : ℤ) → text_of (printed l (Number n)).pieces ≡ signed_decimal n
bare-number l n = ap (λ (x : Printed). text_of x.pieces) (printed-signed l n) ∙ text-signed n

pub bare-var : (l : Labels) (p : Place) → text_of (printed l (Var p)).pieces ≡ name_text (label l p)
bare-var l p = rw (printed-var, text-name, text-nil) (append-nil (name_text (label l p)))

pub bare-load : (l : Labels) (k : ℕ) (e : Expr) → text_of (printed l (Load k e)).pieces ≡ spelling mark.OpenBracket ++ (text_of (as_group Whole (printed l e)) ++ spelling mark.CloseBracket)
bare-load l k e = ap (λ (x : Printed). text_of x.pieces) (printed-load l k e) ∙ text-plain mark.OpenBracket _ ∙ ap (λ (t : List ℕ). spelling mark.OpenBracket ++ t) (text-closed (as_group Whole (printed l e)) mark.CloseBracket)

pub bare-neg : (l : Labels) (e : Expr) → text_of (printed l (Neg e)).pieces ≡ spelling mark.Minus ++ text_of (as_group Unary (printed l e))
bare-neg l e = rw (printed-neg, text-plain) refl

pub bare-two : (l : Labels) (o : Op) (a b : Expr) → text_of (printed l (Two o a b)).pieces ≡ text_of (as_group (left_of o) (printed l a)) ++ (text_of (spaced (mark_of o)) ++ text_of (as_group (right_of o) (printed l b)))
bare-two l o a b = ap (λ (x : Printed). text_of x.pieces) (printed-two l o a b) ∙ simp (text-append, append_assoc)

-- the text of an expression in parentheses
pub held-text : (wanted : Group) (x : Printed) → fits x.group wanted ≡ false → text_of (as_group wanted x) ≡ spelling mark.Open ++ (text_of x.pieces ++ spelling mark.Close)
held-text wanted x h = ap text_of (as-held wanted x h) ∙ text-plain mark.Open _ ∙ ap (λ (t : List ℕ). spelling mark.Open ++ t) (text-closed x.pieces mark.Close)

pub ruleset groups = (printed-signed, printed-var, printed-load, printed-neg, printed-two)

pub ruleset printings = (bare-number, bare-var, bare-load, bare-neg, bare-two, append_assoc)

pub ruleset grouped = (as-fit, held-text, append_assoc)
