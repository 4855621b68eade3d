-- Lists that grow by one more part.
use Rattle.std.proofs.Common.{◌≡◌, sym, ap, ◌∙◌, ℕ, suc, ◌+◌, ◌<◌, List, [], ◌∷◌, ◌++◌, map, take, length, get_or, append_assoc, arith}
use Rattle.std.specs.List.{flat_map, range_with_len}
use Rattle.std.proofs.lemmas.List.{take_more, map-append}
use Rattle.std.proofs.lemmas.List.Folds.{flat_map-map}
use Rattle.dependence.proofs.AddedLaws.{flat-more}
use Rattle.std.proofs.lemmas.Grind.{flat_map-append}

-- what is made of one more number of a range
pub ranged-more : {Y : Type 0} (f : ℕ → List Y) (from n j : ℕ) (old before after : List Y) → from + n ≡ j → before ≡ old ++ flat_map f (range_with_len from n) → after ≡ before ++ f j → after ≡ old ++ flat_map f (range_with_len from (n + 1))
ranged-more {Y} f from n j old before after e b a =
    let next : n + 1 ≡ suc n = omega arith in
    let grown : flat_map f (range_with_len from (n + 1)) ≡ flat_map f (range_with_len from n) ++ f j =
    ap (λ (m : ℕ). flat_map f (range_with_len from m)) next ∙ flat-more f from n ∙ ap (λ (m : ℕ). flat_map f (range_with_len from n) ++ f m) e in
    a ∙ ap (λ (ys : List Y). ys ++ f j) b ∙ append_assoc old (flat_map f (range_with_len from n)) (f j) ∙ ap (λ (ys : List Y). old ++ ys) (sym grown)

-- and of what is numbered
pub numbered-more : {X Y : Type 0} (g : X → List Y) (what : ℕ → X) (from n j : ℕ) (old before after : List Y) → from + n ≡ j → before ≡ old ++ flat_map g (map what (range_with_len from n)) → after ≡ before ++ g (what j)
    → after ≡ old ++ flat_map g (map what (range_with_len from (n + 1)))
numbered-more {Y = Y} g what from n j old before after e b a =
    ranged-more (λ (k : ℕ). g (what k)) from n j old before after e (b ∙ ap (λ (ys : List Y). old ++ ys) (flat_map-map g what (range_with_len from n))) a
    ∙ ap (λ (ys : List Y). old ++ ys) (sym (flat_map-map g what (range_with_len from (n + 1))))

-- one more element, mapped
pub mapped-more : {X Y : Type 0} (f : X → Y) (xs : List X) (k : ℕ) (x d : X) (y : Y) (old before after : List Y) → k < length xs → get_or xs k d ≡ x → before ≡ old ++ map f (take k xs) → after ≡ before ++ y ∷ [] → y ≡ f x
    → after ≡ old ++ map f (take (k + 1) xs)
mapped-more {X} {Y} f xs k x d y old before after l e b a is =
    let grown : map f (take (k + 1) xs) ≡ map f (take k xs) ++ f x ∷ [] = ap (map f) (take_more xs k d l ∙ ap (λ (z : X). take k xs ++ z ∷ []) e) ∙ map-append f (take k xs) (x ∷ []) in
    a ∙ ap (λ (ys : List Y). ys ++ y ∷ []) b ∙ append_assoc old (map f (take k xs)) (y ∷ []) ∙ ap (λ (z : Y). old ++ (map f (take k xs) ++ z ∷ [])) is ∙ ap (λ (ys : List Y). old ++ ys) (sym grown)

-- three parts, one behind another
pub three-parts : {X Y : Type 0} (g : X → List Y) (a b c : List X) (old one two new : List Y) → one ≡ old ++ flat_map g a → two ≡ one ++ flat_map g b → new ≡ two ++ flat_map g c → new ≡ old ++ flat_map g (a ++ b ++ c)
three-parts {X} {Y} g a b c old one two new e f h =
    h
    ∙ ap (λ (ys : List Y). ys ++ flat_map g c) (f ∙ ap (λ (ys : List Y). ys ++ flat_map g b) e ∙ append_assoc old (flat_map g a) (flat_map g b))
    ∙ append_assoc old (flat_map g a ++ flat_map g b) (flat_map g c)
    ∙ ap (λ (ys : List Y). old ++ ys) (sym (flat_map-append g (a ++ b) c ∙ ap (λ (ys : List Y). ys ++ flat_map g c) (flat_map-append g a b)))

pub three-lists : {Y : Type 0} (a b c old one two new : List Y) → one ≡ old ++ a → two ≡ one ++ b → new ≡ two ++ c → new ≡ old ++ (a ++ (b ++ c))
three-lists {Y} a b c old one two new e f h =
    h
    ∙ ap (λ (ys : List Y). ys ++ c) (f ∙ ap (λ (ys : List Y). ys ++ b) e)
    ∙ append_assoc (old ++ a) b c
    ∙ append_assoc old a (b ++ c)
