-- Padded points, place by place.
use Rattle.std.proofs.Common.{◌≡◌, refl, sym, ap, ap₂, ◌∙◌, ℕ, suc, ◌<◌, ◌≤◌, ◌+◌, ◌-◌, ℤ, pos, Bool, true, false, List, [], ◌∷◌, map, length, get_or, set, nat_lt, nat_eq, ◌⊎◌, inl, inr, arith, get_or-set_same, get_or-set_other, length-set}
use Rattle.std.specs.Prelude.{if◌then◌else◌, ◌&&◌}
use Rattle.std.specs.List.{range_with_len}
use Rattle.std.proofs.lemmas.Bool.{cases_lt}
use Rattle.std.proofs.lemmas.Bool.Decides.{nat_tests}
use Rattle.nest_lang.specs.declared.tree.Part.{Part}
use Rattle.nest_lang.specs.declared.tree.Part.TheVariants.{Head, Pre, Post}
use Rattle.domain.specs.Tables.{Table, Block, depth, counters, counters_by, repeats, is_post, trip}
use Rattle.domain.specs.Instances.{Instance, block_of, counter, turns_of, place, padded, IsInstance}

-- a list is known by its numbers
tabulated : (f : ℕ → ℤ) (xs : List ℤ) (n : ℕ) → ((k : ℕ) → k < length xs → get_or xs k (pos 0) ≡ f (n + k)) → xs ≡ map f (range_with_len n (length xs))
tabulated f [] n h = refl
tabulated f (x ∷ xs) n h =
    let e : n + 0 ≡ n = omega arith in
    ap₂ (λ (z : ℤ) (zs : List ℤ). z ∷ zs) (h 0 (omega arith) ∙ ap f e)
    (tabulated f xs (n + 1) (λ k l. let i : n + suc k ≡ n + 1 + k = omega arith in h (suc k) (omega arith) ∙ ap f i))

pick-true : {X : Type 0} (b : Bool) (u v : X) → b ≡ true → (if b then u else v) ≡ u
pick-true {X} b u v e = ap (λ (z : Bool). if z then u else v) e

pick-false : {X : Type 0} (b : Bool) (u v : X) → b ≡ false → (if b then u else v) ≡ v
pick-false {X} b u v e = ap (λ (z : Bool). if z then u else v) e

pub place-counter : (t : Table) (b : Block) (at : List ℤ) (k : ℕ) → k < counters t b → place t b at k ≡ counter at k
place-counter t b at k h = let e : nat_lt k (counters t b) ≡ true = grind (arith, nat_tests) in pick-true (nat_lt k (counters t b)) _ _ e

pub place-turns : (t : Table) (b : Block) (at : List ℤ) (k : ℕ) → b.part ≡ Post → k ≡ counters t b → place t b at k ≡ turns_of (trip t k at)
place-turns t b at k p h =
    let e : nat_lt k (counters t b) ≡ false = grind (arith, nat_tests) in
    let f : nat_eq k (counters t b) ≡ true = grind (arith, nat_tests) in
    pick-false (nat_lt k (counters t b)) _ _ e ∙ pick-true (is_post b.part && nat_eq k (counters t b)) _ _ (ap₂ (λ (x y : Bool). x && y) (ap is_post p) f)

and-false : (a b : Bool) → b ≡ false → a && b ≡ false
and-false true b e = e
and-false false b e = refl

pub place-rest : (t : Table) (b : Block) (at : List ℤ) (k : ℕ) → counters t b < k → place t b at k ≡ pos 0
place-rest t b at k h =
    let e : nat_lt k (counters t b) ≡ false = grind (arith, nat_tests) in
    let f : nat_eq k (counters t b) ≡ false = grind (arith, nat_tests) in
    pick-false (nat_lt k (counters t b)) _ _ e ∙ pick-false (is_post b.part && nat_eq k (counters t b)) _ _ (and-false (is_post b.part) (nat_eq k (counters t b)) f)

pub place-zero : (t : Table) (b : Block) (at : List ℤ) (k : ℕ) → is_post b.part ≡ false → counters t b ≤ k → place t b at k ≡ pos 0
place-zero t b at k p h =
    let e : nat_lt k (counters t b) ≡ false = grind (arith, nat_tests) in
    pick-false (nat_lt k (counters t b)) _ _ e ∙ pick-false (is_post b.part && nat_eq k (counters t b)) _ _ (ap (λ (x : Bool). x && nat_eq k (counters t b)) p)

-- of a block that isn't after an inner loop the padded point is the counters with their zeros
pub padded-plain : (t : Table) (x : Instance) → IsInstance t x → is_post (block_of t x).part ≡ false → x.at ≡ padded t x
unfolding padded
padded-plain t x is plain =
    tabulated (place t (block_of t x) x.at) x.at 0 (λ k l. let e : 0 + k ≡ k = omega arith in at k (cases_lt k (counters t (block_of t x))) ∙ ap (place t (block_of t x) x.at) (sym e))
    ∙ ap (λ (n : ℕ). map (place t (block_of t x) x.at) (range_with_len 0 n)) is.size
  where
    at : (k : ℕ) → (k < counters t (block_of t x)) ⊎ (counters t (block_of t x) ≤ k) → get_or x.at k (pos 0) ≡ place t (block_of t x) x.at k
    at k (inl h) = sym (place-counter t (block_of t x) x.at k h)
    at k (inr h) = is.rest k h ∙ sym (place-zero t (block_of t x) x.at k plain h)

pub padded-post : (t : Table) (x : Instance) (v : ℤ) → IsInstance t x → (block_of t x).part ≡ Post → counters t (block_of t x) < depth t → v ≡ turns_of (trip t (counters t (block_of t x)) x.at)
    → set x.at (counters t (block_of t x)) v ≡ padded t x
unfolding padded
padded-post t x v is post inside e =
    tabulated (place t (block_of t x) x.at) (set x.at n v) 0 (λ k l. let f : 0 + k ≡ k = omega arith in at k (cases_lt k n) (cases_lt n k) ∙ ap (place t (block_of t x) x.at) (sym f))
    ∙ ap (λ (m : ℕ). map (place t (block_of t x) x.at) (range_with_len 0 m)) (length-set x.at n v ∙ is.size)
  where
    n : ℕ
    n = counters t (block_of t x)

    at : (k : ℕ) → (k < counters t (block_of t x)) ⊎ (counters t (block_of t x) ≤ k) → (counters t (block_of t x) < k) ⊎ (k ≤ counters t (block_of t x)) → get_or (set x.at (counters t (block_of t x)) v) k (pos 0) ≡ place t (block_of t x) x.at k
    at k (inl h) m = other k (omega arith) ∙ sym (place-counter t (block_of t x) x.at k h)
      where
        other : (k : ℕ) → (k ≡ counters t (block_of t x) → ⊥) → get_or (set x.at (counters t (block_of t x)) v) k (pos 0) ≡ get_or x.at k (pos 0)
        other k ne = rw get_or-set_other refl
    at k (inr h) (inl m) = other k (omega arith) ∙ is.rest k h ∙ sym (place-rest t (block_of t x) x.at k m)
      where
        other : (k : ℕ) → (k ≡ counters t (block_of t x) → ⊥) → get_or (set x.at (counters t (block_of t x)) v) k (pos 0) ≡ get_or x.at k (pos 0)
        other k ne = rw get_or-set_other refl
    at k (inr h) (inr m) =
        let same : k ≡ counters t (block_of t x) = omega arith in
        let room : counters t (block_of t x) < length x.at = omega (arith, is.size) in
        ap (λ (i : ℕ). get_or (set x.at (counters t (block_of t x)) v) i (pos 0)) same ∙ here room ∙ e ∙ sym (ap (λ (i : ℕ). turns_of (trip t i x.at)) same) ∙ sym (place-turns t (block_of t x) x.at k post same)
      where
        here : counters t (block_of t x) < length x.at → get_or (set x.at (counters t (block_of t x)) v) (counters t (block_of t x)) (pos 0) ≡ v
        here room = rw get_or-set_same refl

counters-post : (t : Table) (b : Block) → b.part ≡ Post → counters t b ≡ b.level
counters-post t b e = ap (λ (p : Part). counters_by p (repeats t (b.level - 1)) b.level) e

pub padded-post-at : (t : Table) (y : Instance) (d : Block) (v : ℤ) → d ≡ block_of t y → IsInstance t y → d.part ≡ Post → d.level < depth t → v ≡ turns_of (trip t d.level y.at) → set y.at d.level v ≡ padded t y
padded-post-at t y d v h is post inside e =
    let n : counters t (block_of t y) ≡ d.level = ap (counters t) (sym h) ∙ counters-post t d post in
    ap (λ (k : ℕ). set y.at k v) (sym n)
    ∙ padded-post t y v is (ap (λ (b : Block). b.part) (sym h) ∙ post) (omega (arith, n)) (e ∙ ap (λ (k : ℕ). turns_of (trip t k y.at)) (sym n))

pub padded-plain-at : (t : Table) (y : Instance) (d : Block) → d ≡ block_of t y → IsInstance t y → is_post d.part ≡ false → y.at ≡ padded t y
padded-plain-at t y d h is plain = padded-plain t y is (ap (λ (b : Block). is_post b.part) (sym h) ∙ plain)

pub not-post : (p : Part) → (p ≡ Post → ⊥) → is_post p ≡ false
not-post Head h = refl
not-post Pre h = refl
not-post Post h = absurd (h refl)
