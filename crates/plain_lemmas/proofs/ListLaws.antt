-- Lists: beginnings, single places, the first element that passes.
use Rattle.std.proofs.Common.{◌≡◌, refl, sym, ap, ◌∙◌, ℕ, zero, suc, ◌≤◌, Bool, ◌||◌, List, [], ◌∷◌, ◌++◌, length, get_or, replicate, take, set, Some, arith}
use Rattle.std.specs.Prelude.{is_some}
use Rattle.std.specs.List.{All, list_any, slice_get}
use Rattle.std.proofs.Math.Bool.{or_assoc, or-false}
use Rattle.std.proofs.lemmas.List.{take-take}
use Rattle.std.proofs.lemmas.Option.{get_or_from_slice_get, slice_get_within}

-- ---- beginnings

-- lists with the same first m elements have the same first k, where k is at most m
pub take-same : {A : Type 0} (k m : ℕ) (xs ys : List A) → k ≤ m → take m xs ≡ take m ys → take k xs ≡ take k ys
take-same k m xs ys h e = sym (take-take k m xs h) ∙ ap (take k) e ∙ take-take k m ys h

-- the first m elements begin with the first n, where n is at most m
pub take-begins : {A : Type 0} (n m : ℕ) (xs : List A) → n ≤ m → (more : List A) × (take m xs ≡ take n xs ++ more)
take-begins zero m xs h = (take m xs, refl)
take-begins (suc n) zero xs h = absurd (omega arith)
take-begins (suc n) (suc m) [] h = ([], refl)
take-begins (suc n) (suc m) (x ∷ xs) h =
    let p = take-begins n m xs (omega arith) in
    (p.0, ap (λ z. x ∷ z) p.1)

-- ---- single places

-- lists of one length that agree at n agree there after the same write
pub slice_get-set : {A : Type 0} (xs ys : List A) (i n : ℕ) (v : A) → length xs ≡ length ys → slice_get xs n ≡ slice_get ys n → slice_get (set xs i v) n ≡ slice_get (set ys i v) n
slice_get-set [] [] i n v size h = h
slice_get-set [] (y ∷ ys) i n v size h = absurd (omega arith)
slice_get-set (x ∷ xs) [] i n v size h = absurd (omega arith)
slice_get-set (x ∷ xs) (y ∷ ys) zero zero v size h = refl
slice_get-set (x ∷ xs) (y ∷ ys) zero (suc n) v size h = h
slice_get-set (x ∷ xs) (y ∷ ys) (suc i) zero v size h = h
slice_get-set (x ∷ xs) (y ∷ ys) (suc i) (suc n) v size h = slice_get-set xs ys i n v (omega arith) h

-- lists of one length have the same places
pub is_some-slice_get : {A B : Type 0} (xs : List A) (ys : List B) (n : ℕ) → length xs ≡ length ys → is_some (slice_get xs n) ≡ is_some (slice_get ys n)
is_some-slice_get [] [] n size = refl
is_some-slice_get [] (y ∷ ys) n size = absurd (omega arith)
is_some-slice_get (x ∷ xs) [] n size = absurd (omega arith)
is_some-slice_get (x ∷ xs) (y ∷ ys) zero size = refl
is_some-slice_get (x ∷ xs) (y ∷ ys) (suc n) size = is_some-slice_get xs ys n (omega arith)

-- a list of d has d at each place, and past its end
pub get_or-replicate-default : {A : Type 0} (n k : ℕ) (d : A) → get_or (replicate n d) k d ≡ d
get_or-replicate-default zero k d = refl
get_or-replicate-default (suc n) zero d = refl
get_or-replicate-default (suc n) (suc k) d = get_or-replicate-default n k d

-- what holds of every element holds of the one at k
pub All-slice_get : {A : Type 0} (P : A → Type 0) (xs : List A) (k : ℕ) (x : A) → All P xs → slice_get xs k ≡ Some x → P x
All-slice_get P xs k x all e = rw (← get_or_from_slice_get xs k x x e) (all k x (slice_get_within xs k x e))

-- ---- tests of some element

pub list_any-push : {A : Type 0} (p : A → Bool) (xs : List A) (x : A) → list_any p (xs ++ x ∷ []) ≡ (list_any p xs || p x)
list_any-push p [] x = or-false (p x)
list_any-push p (y ∷ ys) x = ap (λ b. p y || b) (list_any-push p ys x) ∙ sym (or_assoc (p y) (list_any p ys) (p x))
