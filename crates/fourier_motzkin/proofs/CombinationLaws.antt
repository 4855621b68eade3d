-- Sums of two lists place by place, as a loop makes them.
use Rattle.std.proofs.Common.{◌≡◌, ℕ, ◌+◌, ◌≤◌, ◌<◌, ℤ, ◌+ℤ◌, ◌*ℤ◌, List, [], ◌∷◌, ◌++◌, length, sym, ap, ◌∙◌, ◌⊎◌, inl, inr, arith, append_assoc, append-nil, unsigned_abs, pos, ◌*◌, ◌^◌}
use Rattle.std.specs.List.{All}
use Rattle.std.proofs.lemmas.List.{length-append}
use Rattle.std.proofs.lemmas.List.Elements.{All-head, All-push, All-rest, All-same}
use Rattle.std.proofs.lemmas.Int.{ints}
use Rattle.affine.specs.Sums.{dot, weighted}
use Rattle.fourier_motzkin.proofs.SizeLaws.{abs-sum-more}

pub weighted-room : (sums rest more xs : List ℤ) (x : ℤ) → rest ≡ x ∷ more → length sums + length rest ≡ length xs → length xs ≤ 16 → length sums < 16
weighted-room sums rest more xs x is room few = let long : length rest ≡ length (x ∷ more) = ap length is in omega arith

-- one place more
pub weighted-more : (q p x y r : ℤ) (sums new left right left' right' whole : List ℤ) → left ≡ x ∷ left' → right ≡ y ∷ right' → new ≡ sums ++ r ∷ [] → r ≡ q *ℤ x +ℤ p *ℤ y → sums ++ weighted q left p right ≡ whole → new ++ weighted q left' p right' ≡ whole
weighted-more q p x y r sums new left right left' right' whole e f is value done =
    rw (is, append_assoc sums (r ∷ []) (weighted q left' p right'), value) (rw (e, f) at done)

-- one of the lists has ended
pub weighted-end : (q p : ℤ) (sums left right whole : List ℤ) → (left ≡ []) ⊎ (right ≡ []) → sums ++ weighted q left p right ≡ whole → sums ≡ whole
weighted-end q p sums left right whole (inl e) done = sym (append-nil sums) ∙ rw e at done
weighted-end q p sums [] right whole (inr e) done = sym (append-nil sums) ∙ done
weighted-end q p sums (x ∷ left) right whole (inr e) done = sym (append-nil sums) ∙ rw e at done

pub weighted-room-more : (sums new rest more xs : List ℤ) (x r : ℤ) → rest ≡ x ∷ more → new ≡ sums ++ r ∷ [] → length sums + length rest ≡ length xs → length new + length more ≡ length xs
weighted-room-more sums new rest more xs x r is pushed room =
    let long : length rest ≡ length (x ∷ more) = ap length is in
    let longer : length new ≡ length sums + 1 = ap length pushed ∙ length-append sums (r ∷ []) in
    omega arith

pub pushed-within : (most : ℕ) (sums new : List ℤ) (r : ℤ) → new ≡ sums ++ r ∷ [] → unsigned_abs r ≤ most → All (λ number. unsigned_abs number ≤ most) sums → All (λ number. unsigned_abs number ≤ most) new
pushed-within most sums new r is small all = All-same (λ number. unsigned_abs number ≤ most) new (sums ++ r ∷ []) is (All-push (λ number. unsigned_abs number ≤ most) sums r all small)

-- one product more
pub dot-more : (x y sum r whole : ℤ) (left right left' right' : List ℤ) → left ≡ x ∷ left' → right ≡ y ∷ right' → r ≡ sum +ℤ x *ℤ y → sum +ℤ dot left right ≡ whole → r +ℤ dot left' right' ≡ whole
dot-more x y sum r whole left right left' right' e f value done =
    let is : sum +ℤ (x *ℤ y +ℤ dot left' right') ≡ whole = rw (e, f) at done in
    rw value (omega (arith, ints, is))

pub dot-end : (sum whole : ℤ) (left right : List ℤ) → (left ≡ []) ⊎ (right ≡ []) → sum +ℤ dot left right ≡ whole → sum ≡ whole
dot-end sum whole left right (inl e) done = let is : sum +ℤ pos 0 ≡ whole = rw e at done in omega (arith, ints, is)
dot-end sum whole [] right (inr e) done = omega (arith, ints, done)
dot-end sum whole (x ∷ left) right (inr e) done = let is : sum +ℤ pos 0 ≡ whole = rw e at done in omega (arith, ints, is)

pub long-more : {X : Type 0} (yielded : List X) (p : X) (rest more outer : List ℤ) (y : ℤ) → rest ≡ y ∷ more → length yielded + length rest ≡ length outer → length (yielded ++ p ∷ []) + length more ≡ length outer
long-more yielded p rest more outer y is long =
    let longer : length rest ≡ length (y ∷ more) = ap length is in
    let front = length-append yielded (p ∷ []) in
    omega (arith, longer, front)

pub size-more : {X : Type 0} (yielded : List X) (p : X) (sum r x y : ℤ) → r ≡ sum +ℤ x *ℤ y → unsigned_abs sum ≤ 2 ^ 62 + length yielded * (2 ^ 62 * 2 ^ 60) → unsigned_abs x ≤ 2 ^ 62 → unsigned_abs y ≤ 2 ^ 60 → unsigned_abs r ≤ 2 ^ 62 + length (yielded ++ p ∷ []) * (2 ^ 62 * 2 ^ 60)
size-more yielded p sum r x y is small h k =
    let bound = abs-sum-more sum x y (length yielded) small h k in
    rw (is, length-append yielded (p ∷ [])) bound

-- what holds of the rest of a list holds of its first number, and of the others
pub within-head : (most : ℕ) (rest more : List ℤ) (x : ℤ) → rest ≡ x ∷ more → All (λ number. unsigned_abs number ≤ most) rest → unsigned_abs x ≤ most
within-head most rest more x is all = All-head (λ number. unsigned_abs number ≤ most) x more (All-same (λ number. unsigned_abs number ≤ most) (x ∷ more) rest (sym is) all)

pub within-tail : (most : ℕ) (rest more : List ℤ) (x : ℤ) → rest ≡ x ∷ more → All (λ number. unsigned_abs number ≤ most) rest → All (λ number. unsigned_abs number ≤ most) more
within-tail most rest more x is all = All-rest (λ number. unsigned_abs number ≤ most) x more rest is all
