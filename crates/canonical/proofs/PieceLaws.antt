-- How the text of pieces is made up.
use Rattle.std.proofs.Common.{◌≡◌, ℕ, ◌*◌, ℤ, pos, negsuc, List, [], ◌∷◌, ◌++◌, refl, sym, ap, ◌∙◌, zero, suc, ◌+◌, ◌<◌, length, take, get_or, arith, append_assoc, append-nil, replicate}
use Rattle.std.specs.List.{flat_map}
use Rattle.std.specs.Fmt.{decimal, signed_decimal}
use Rattle.std.proofs.lemmas.Grind.{flat_map-append}
use Rattle.std.proofs.lemmas.List.{take_more}
use Rattle.nest_tokens.specs.declared.token.Mark.{Mark}
use Rattle.nest_tokens.specs.declared.token.Name.{Name}
use Rattle.nest_tokens.specs.declared.token.Token.TheVariants as token
use Rattle.nest_tokens.specs.Tokens.{spelling}
use Rattle.nest_tokens.specs.Spellings.{name_text}
use Rattle.canonical.specs.Pieces.{Piece, Word, Space, Indent, Newline, token_text, piece_text, text_of, signed, line}

pub text-nil : text_of [] ≡ []
unfolding text_of
text-nil = refl

pub text-plain : (m : Mark) (ps : List Piece) → text_of (Word (token.Plain m) ∷ ps) ≡ spelling m ++ text_of ps
unfolding text_of piece_text token_text
text-plain m ps = refl

pub text-name : (n : Name) (ps : List Piece) → text_of (Word (token.Name n) ∷ ps) ≡ name_text n ++ text_of ps
unfolding text_of piece_text token_text
text-name n ps = refl

pub text-number : (n : ℕ) (ps : List Piece) → text_of (Word (token.Number n) ∷ ps) ≡ decimal n ++ text_of ps
unfolding text_of piece_text token_text
text-number n ps = refl

pub text-space : (ps : List Piece) → text_of (Space ∷ ps) ≡ 32 ∷ text_of ps
unfolding text_of piece_text
text-space ps = refl

pub text-newline : (ps : List Piece) → text_of (Newline ∷ ps) ≡ 10 ∷ text_of ps
unfolding text_of piece_text
text-newline ps = refl

pub text-indent : (n : ℕ) (ps : List Piece) → text_of (Indent n ∷ ps) ≡ replicate (2 * n) 32 ++ text_of ps
unfolding text_of piece_text
text-indent n ps = refl

pub text-append : (xs ys : List Piece) → text_of (xs ++ ys) ≡ text_of xs ++ text_of ys
unfolding text_of
text-append xs ys = flat_map-append piece_text xs ys

pub text-signed : (z : ℤ) → text_of (signed z) ≡ signed_decimal z
unfolding text_of piece_text token_text signed spelling
text-signed (pos n) = append-nil (decimal n)
text-signed (negsuc n) = ap (λ (l : List ℕ). 45 ∷ l) (append-nil (decimal (suc n)))

pub text-line : (depth : ℕ) (ps : List Piece) → text_of (line depth ps) ≡ replicate (2 * depth) 32 ++ (text_of ps ++ 10 ∷ [])
unfolding line text_of piece_text
text-line depth ps = ap (λ (l : List ℕ). replicate (2 * depth) 32 ++ l) (flat_map-append piece_text ps (Newline ∷ []))

pub flat_map-last : {X Y : Type 0} (f : X → List Y) (xs : List X) (x : X) → flat_map f (xs ++ x ∷ []) ≡ flat_map f xs ++ f x
flat_map-last {X} {Y} f xs x = flat_map-append f xs (x ∷ []) ∙ ap (λ (l : List Y). flat_map f xs ++ l) (append-nil (f x))

-- the text of pieces with a sign behind them
pub text-closed : (ps : List Piece) (m : Mark) → text_of (ps ++ Word (token.Plain m) ∷ []) ≡ text_of ps ++ spelling m
text-closed ps m = text-append ps (Word (token.Plain m) ∷ []) ∙ ap (λ (t : List ℕ). text_of ps ++ t) (text-plain m [] ∙ ap (λ (t : List ℕ). spelling m ++ t) text-nil ∙ append-nil (spelling m))

get_or_default : {X : Type 0} (xs : List X) (i : ℕ) (d e : X) → i < length xs → get_or xs i d ≡ get_or xs i e
get_or_default [] i d e h = absurd (omega arith)
get_or_default (x ∷ xs) zero d e h = refl
get_or_default (x ∷ xs) (suc i) d e h = get_or_default xs i d e (omega arith)

-- behind what was written stands the text of one more of a list
pub text-more : {X : Type 0} (f : X → List Piece) (xs : List X) (i : ℕ) (x : X) (old page new : List ℕ) → i < length xs → x ≡ get_or xs i x → page ≡ old ++ text_of (flat_map f (take i xs)) → new ≡ page ++ text_of (f x) → new ≡ old ++ text_of (flat_map f (take (i + 1) xs))
text-more f xs i x old page new h item so next =
    let whole : flat_map f (take (i + 1) xs) ≡ flat_map f (take i xs) ++ f x = ap (flat_map f) (take_more xs i x h ∙ ap (λ z. take i xs ++ z ∷ []) (sym item)) ∙ flat_map-last f (take i xs) x in
    next ∙ ap (λ (l : List ℕ). l ++ text_of (f x)) so ∙ append_assoc old (text_of (flat_map f (take i xs))) (text_of (f x)) ∙ ap (λ (l : List ℕ). old ++ l) (sym (ap text_of whole ∙ text-append (flat_map f (take i xs)) (f x)))

pub text-at : {X : Type 0} (f : X → List Piece) (xs : List X) (i : ℕ) (d : X) (old page new : List ℕ) → i < length xs → page ≡ old ++ text_of (flat_map f (take i xs)) → new ≡ page ++ text_of (f (get_or xs i d)) → new ≡ old ++ text_of (flat_map f (take (i + 1) xs))
text-at f xs i d old page new h so next = text-more f xs i (get_or xs i d) old page new h (get_or_default xs i d (get_or xs i d) h) so next

pub ruleset texts = (text-nil, text-plain, text-name, text-number, text-space, text-newline, text-indent, text-append, text-signed, text-line, append-nil, append_assoc)

pub ruleset lists = (text-nil, append-nil)
