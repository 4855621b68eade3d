-- Points: turn numbers with zeros after them.
use Rattle.std.proofs.Common.{◌≡◌, refl, sym, ap, ap₂, ◌∙◌, ℕ, zero, suc, ◌<◌, ◌≤◌, ◌+◌, ◌-◌, ℤ, pos, ◌+ℤ◌, List, [], ◌∷◌, ◌++◌, length, get_or, set, replicate, take, arith}
use Rattle.domain.specs.Tables.{Table, cut, rank_of, repeats, trip}
use Rattle.domain.specs.Instances.{Instance, instance, counter}
use Rattle.domain.specs.Steps.{turned, next_turn, after_loop, left_by, turn_by, head_rank}
use Rattle.domain.proofs.PointLaws.{cut-before, trip-cut}
use Rattle.std.specs.Prelude.{int_lt}
use Rattle.nest_lang.specs.declared.tree.Part.TheVariants.{Post}
use Rattle.follow_chunk.specs.Predicted.{padded_to as point}

pub length-point : (d : ℕ) (cs : List ℤ) → length (point d cs) ≡ d
length-point zero cs = refl
length-point (suc d) [] = ap suc (length-point d [])
length-point (suc d) (c ∷ cs) = ap suc (length-point d cs)

pub point-get : (d : ℕ) (cs : List ℤ) (j : ℕ) → length cs ≤ d → get_or (point d cs) j (pos 0) ≡ get_or cs j (pos 0)
point-get zero [] j h = refl
point-get zero (c ∷ cs) j h = absurd (omega (arith, h))
point-get (suc d) [] zero h = refl
point-get (suc d) [] (suc j) h = point-get d [] j (omega arith)
point-get (suc d) (c ∷ cs) zero h = refl
point-get (suc d) (c ∷ cs) (suc j) h = point-get d cs j (omega (arith, h))

-- a last 0 is one of the zeros
pub point-zero : (d : ℕ) (cs : List ℤ) → point d (cs ++ pos 0 ∷ []) ≡ point d cs
point-zero zero cs = refl
point-zero (suc d) [] = refl
point-zero (suc d) (c ∷ cs) = ap (λ (zs : List ℤ). c ∷ zs) (point-zero d cs)

pub point-take : (d : ℕ) (cs : List ℤ) → length cs ≤ d → take (length cs) (point d cs) ≡ cs
point-take zero [] h = refl
point-take zero (c ∷ cs) h = absurd (omega (arith, h))
point-take (suc d) [] h = refl
point-take (suc d) (c ∷ cs) h = ap (λ (zs : List ℤ). c ∷ zs) (point-take d cs (omega (arith, h)))

pub point-none : (d : ℕ) → point d [] ≡ replicate d (pos 0)
point-none zero = refl
point-none (suc d) = ap (λ (zs : List ℤ). pos 0 ∷ zs) (point-none d)

pub point-set : (d : ℕ) (cs : List ℤ) (z : ℤ) → set (point d cs) (length cs) z ≡ point d (cs ++ z ∷ [])
point-set zero cs z = refl
point-set (suc d) [] z = refl
point-set (suc d) (c ∷ cs) z = ap (λ (zs : List ℤ). c ∷ zs) (point-set d cs z)

cut-zeros : (d : ℕ) → cut 0 (point d []) ≡ point d []
cut-zeros zero = refl
cut-zeros (suc d) = ap (λ (zs : List ℤ). pos 0 ∷ zs) (cut-zeros d)

pub cut-point : (d : ℕ) (cs : List ℤ) → cut (length cs) (point d cs) ≡ point d cs
cut-point zero [] = refl
cut-point zero (c ∷ cs) = refl
cut-point (suc d) [] = ap (λ (zs : List ℤ). pos 0 ∷ zs) (cut-zeros d)
cut-point (suc d) (c ∷ cs) = ap (λ (zs : List ℤ). c ∷ zs) (cut-point d cs)

-- the turn numbers around the last one
pub cut-last : (d : ℕ) (cs : List ℤ) (z : ℤ) → cut (length cs) (point d (cs ++ z ∷ [])) ≡ point d cs
cut-last zero [] z = refl
cut-last zero (c ∷ cs) z = refl
cut-last (suc d) [] z = ap (λ (zs : List ℤ). pos 0 ∷ zs) (cut-zeros d)
cut-last (suc d) (c ∷ cs) z = ap (λ (zs : List ℤ). c ∷ zs) (cut-last d cs z)

pub last-at : (cs : List ℤ) (z : ℤ) → get_or (cs ++ z ∷ []) (length cs) (pos 0) ≡ z
last-at [] z = refl
last-at (c ∷ cs) z = last-at cs z

pub length-more : (cs : List ℤ) (z : ℤ) → length (cs ++ z ∷ []) ≡ length cs + 1
length-more [] z = refl
length-more (c ∷ cs) z = let e = length-more cs z in omega arith

-- the next turn of the loop with the last turn number
pub point-turned : (d : ℕ) (cs : List ℤ) (z : ℤ) → length cs < d → turned (length cs) (point d (cs ++ z ∷ [])) ≡ point d (cs ++ (z +ℤ pos 1) ∷ [])
point-turned d cs z h =
    let size = length-more cs z in
    let here : counter (point d (cs ++ z ∷ [])) (length cs) ≡ z = point-get d (cs ++ z ∷ []) (length cs) (omega arith) ∙ last-at cs z in
    ap₂ (λ (xs : List ℤ) (y : ℤ). set xs (length cs) (y +ℤ pos 1)) (cut-last d cs z) here ∙ point-set d cs (z +ℤ pos 1)

cut-cut : (n k : ℕ) (xs : List ℤ) → n ≤ k → cut n (cut k xs) ≡ cut n xs
cut-cut n k [] l = refl
cut-cut zero zero (x ∷ xs) l = ap (λ (zs : List ℤ). pos 0 ∷ zs) (cut-cut zero zero xs l)
cut-cut zero (suc k) (x ∷ xs) l = ap (λ (zs : List ℤ). pos 0 ∷ zs) (cut-cut zero k xs (omega arith))
cut-cut (suc n) zero (x ∷ xs) l = absurd (omega arith)
cut-cut (suc n) (suc k) (x ∷ xs) l = ap (λ (zs : List ℤ). x ∷ zs) (cut-cut n k xs (omega arith))

-- what follows the turn of a loop depends on the turn numbers of that loop and of those around it alone
pub next_turn-cut : (t : Table) (k : ℕ) (at : List ℤ) → next_turn t k (cut (suc k) at) ≡ next_turn t k at
unfolding next_turn
next_turn-cut t zero at =
    ap₂ (λ (xs : List ℤ) (y : ℤ). instance 0 (set xs 0 (y +ℤ pos 1))) (cut-cut 0 1 at (omega arith)) (cut-before 1 at 0 (omega arith))
next_turn-cut t (suc k) at =
    ap₂ (λ (y v : ℤ). turn_by (repeats t (suc k)) (int_lt (y +ℤ pos 1) v) (head_rank t (suc k + 1)) (turned (suc k) (cut (suc (suc k)) at)) (left_by (rank_of t Post (suc k)) (cut (suc k) (cut (suc (suc k)) at)) (next_turn t k (cut (suc (suc k)) at))))
    (cut-before (suc (suc k)) at (suc k) (omega arith)) (trip-cut t (suc k) (suc (suc k)) at (omega arith))
    ∙ ap₂ (λ (xs : List ℤ) (y : ℤ). turn_by (repeats t (suc k)) (int_lt (counter at (suc k) +ℤ pos 1) (trip t (suc k) at)) (head_rank t (suc k + 1)) (set xs (suc k) (y +ℤ pos 1)) (left_by (rank_of t Post (suc k)) (cut (suc k) (cut (suc (suc k)) at)) (next_turn t k (cut (suc (suc k)) at))))
    (cut-cut (suc k) (suc (suc k)) at (omega arith)) (cut-before (suc (suc k)) at (suc k) (omega arith))
    ∙ ap₂ (λ (xs : List ℤ) (y : Instance). turn_by (repeats t (suc k)) (int_lt (counter at (suc k) +ℤ pos 1) (trip t (suc k) at)) (head_rank t (suc k + 1)) (turned (suc k) at) (left_by (rank_of t Post (suc k)) xs y))
    (cut-cut (suc k) (suc (suc k)) at (omega arith))
    (sym (next_turn-cut t k (cut (suc (suc k)) at)) ∙ ap (next_turn t k) (cut-cut (suc k) (suc (suc k)) at (omega arith)) ∙ next_turn-cut t k at)

pub after_loop-cut : (t : Table) (k : ℕ) (at : List ℤ) → 1 ≤ k → after_loop t k (cut k at) ≡ after_loop t k at
after_loop-cut t zero at h = absurd (omega arith)
after_loop-cut t (suc k) at h = ap₂ (λ (xs : List ℤ) (y : Instance). left_by (rank_of t Post (suc k)) xs y) (cut-cut (suc k) (suc k) at (omega arith)) (by-less (omega arith))
  where
    by-less : suc k - 1 ≡ k → next_turn t (suc k - 1) (cut (suc k) at) ≡ next_turn t (suc k - 1) at
    by-less e = ap (λ (n : ℕ). next_turn t n (cut (suc k) at)) e ∙ next_turn-cut t k at ∙ ap (λ (n : ℕ). next_turn t n at) (sym e)
