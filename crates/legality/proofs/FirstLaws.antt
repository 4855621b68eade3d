-- What is made of the first element that passes a test, in lists that are made of lists.
use Rattle.std.proofs.Common.{◌≡◌, refl, sym, ap, ◌∙◌, ℕ, zero, suc, ◌+◌, ◌<◌, ◌≤◌, Bool, true, false, Option, Some, None, is_some, option_map, List, [], ◌∷◌, ◌++◌, length, get_or, take, drop, append-nil}
use Rattle.std.specs.Prelude.{if◌then◌else◌}
use Rattle.std.specs.List.{find, flat_map}
use Rattle.std.proofs.lemmas.List.{take_more, take_all}
use Rattle.std.proofs.lemmas.Grind.{flat_map-append}

take-drop : {Z : Type 0} (n : ℕ) (ys : List Z) → take n ys ++ drop n ys ≡ ys
take-drop zero ys = refl
take-drop (suc n) [] = refl
take-drop {Z} (suc n) (y ∷ ys) = ap (λ (rest : List Z). y ∷ rest) (take-drop n ys)

module _ {X Y : Type 0} (p : X → Bool) (f : X → Y) where
  abbrev pub first : List X → Option Y
  first xs = option_map f (find p xs)

  past-by : (w : Bool) (x : X) (o q : Option X) (r : Option Y) → (option_map f o ≡ None → option_map f q ≡ r) → option_map f (if w then Some x else o) ≡ None → option_map f (if w then Some x else q) ≡ r
  past-by true x o q r h e = cc
  past-by false x o q r h e = h e

  within-by : (w : Bool) (x : X) (o q : Option X) → (is_some (option_map f o) ≡ true → option_map f q ≡ option_map f o) → is_some (option_map f (if w then Some x else o)) ≡ true
      → option_map f (if w then Some x else q) ≡ option_map f (if w then Some x else o)
  within-by true x o q h e = refl
  within-by false x o q h e = h e

  pub first-past : (xs ys : List X) → first xs ≡ None → first (xs ++ ys) ≡ first ys
  first-past [] ys e = refl
  first-past (x ∷ xs) ys e = past-by (p x) x (find p xs) (find p (xs ++ ys)) (first ys) (first-past xs ys) e

  pub first-within : (xs ys : List X) → is_some (first xs) ≡ true → first (xs ++ ys) ≡ first xs
  first-within [] ys e = cc
  first-within (x ∷ xs) ys e = within-by (p x) x (find p xs) (find p (xs ++ ys)) (first-within xs ys) e

  none-is : (o : Option Y) → is_some o ≡ false → o ≡ None
  none-is None e = refl
  none-is (Some y) e = cc

  module _ {Z : Type 0} (g : Z → List X) (zs : List Z) (k : ℕ) (z d : Z) where
    taken : k < length zs → get_or zs k d ≡ z → flat_map g (take (k + 1) zs) ≡ flat_map g (take k zs) ++ g z
    taken l e = ap (flat_map g) (take_more zs k d l ∙ ap (λ (y : Z). take k zs ++ y ∷ []) e) ∙ flat_map-append g (take k zs) (z ∷ []) ∙ ap (λ (xs : List X). flat_map g (take k zs) ++ xs) (append-nil (g z))

    -- none passes in the lists of the first elements, and none in that of the next one
    pub none-more : (o : Option Y) → k < length zs → get_or zs k d ≡ z → first (flat_map g (take k zs)) ≡ None → o ≡ first (g z) → is_some o ≡ false → first (flat_map g (take (k + 1) zs)) ≡ None
    none-more o l e before here none = ap first (taken l e) ∙ first-past (flat_map g (take k zs)) (g z) before ∙ sym here ∙ none-is o none

    -- one passes in that of the next one
    pub found-here : (o : Option Y) → k < length zs → get_or zs k d ≡ z → first (flat_map g (take k zs)) ≡ None → o ≡ first (g z) → is_some o ≡ true → o ≡ first (flat_map g zs)
    found-here o l e before here some =
        let whole : flat_map g (take (k + 1) zs ++ drop (k + 1) zs) ≡ flat_map g (take (k + 1) zs) ++ flat_map g (drop (k + 1) zs) = flat_map-append g (take (k + 1) zs) (drop (k + 1) zs) in
        let here-too : first (flat_map g (take (k + 1) zs)) ≡ o = ap first (taken l e) ∙ first-past (flat_map g (take k zs)) (g z) before ∙ sym here in
        sym here-too
        ∙ sym (first-within (flat_map g (take (k + 1) zs)) (flat_map g (drop (k + 1) zs)) (ap is_some here-too ∙ some))
        ∙ ap first (sym whole ∙ ap (flat_map g) (take-drop (k + 1) zs))

  pub none-at-end : {Z : Type 0} (g : Z → List X) (zs : List Z) (k : ℕ) → length zs ≤ k → first (flat_map g (take k zs)) ≡ None → None ≡ first (flat_map g zs)
  none-at-end g zs k l e = sym (ap (λ ys. first (flat_map g ys)) (sym (take_all k zs l)) ∙ e)
