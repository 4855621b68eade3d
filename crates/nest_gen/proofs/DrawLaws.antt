-- The nodes of shortcuts, one more of which is drawn.
use Rattle.std.proofs.Common.{◌≡◌, ◌∙◌, ap, sym, ℕ, zero, suc, ◌+◌, ◌-◌, ◌<◌, ◌≤◌, ◌/◌, ◌^◌, List, [], ◌∷◌, ◌++◌, length, map, arith}
use Rattle.std.specs.List.{flat_map, range_with_len}
use Rattle.std.proofs.lemmas.List.{append_assoc, append-nil}
use Rattle.std.proofs.lemmas.List.FromFn.{map-range_with_len_more, length-map-range_with_len}
use Rattle.std.proofs.lemmas.Grind.{flat_map-append}
use Rattle.std.proofs.Math.Nat.{mod-lt}
use Rattle.nest_gen.specs.Draws.{next, after, drawn, draw}
use Rattle.nest_gen.specs.Texts.{chain, shortcut, drawn_nodes}
use Rattle.nest_gen.proofs.ListReads.{Below}

pub after-more : (seed k : ℕ) → after seed (k + 1) ≡ next (after seed k)
after-more seed k = let e : k + 1 ≡ suc k = omega arith in ap (after seed) e

module _ (seed n : ℕ) where
  abbrev pub node : ℕ → ℕ
  node i = 1 + draw seed (i + 1) (n - 2)

  -- the text with the shortcuts at the first k nodes
  abbrev pub so_far : ℕ → List ℕ
  so_far k = chain n ++ flat_map (shortcut n) (map node (range_with_len 0 k))

  so-far-more : (k : ℕ) → so_far (k + 1) ≡ so_far k ++ shortcut n (node k)
  so-far-more k =
      ap (λ js. chain n ++ flat_map (shortcut n) js) (map-range_with_len_more node 0 k k (omega arith))
      ∙ ap (λ t. chain n ++ t) (flat_map-append (shortcut n) (map node (range_with_len 0 k)) (node k ∷ []) ∙ ap (λ t. flat_map (shortcut n) (map node (range_with_len 0 k)) ++ t) (append-nil (shortcut n (node k))))
      ∙ sym (append_assoc (chain n) (flat_map (shortcut n) (map node (range_with_len 0 k))) (shortcut n (node k)))

  pub one-more : (k nodes latest newer j : ℕ) (text added whole : List ℕ) → nodes ≡ n → text ≡ so_far k → latest ≡ after seed (k + 1) → newer ≡ next latest → j ≡ drawn (nodes - 2) newer
      → added ≡ shortcut nodes (1 + j) → whole ≡ text ++ added → whole ≡ so_far (k + 1)
  one-more k nodes latest newer j text added whole same before at then is by all =
      let newest : newer ≡ after seed (k + 1 + 1) = then ∙ ap next at ∙ sym (after-more seed (k + 1)) in
      let drew : 1 + j ≡ node k = ap (λ (x : ℕ). 1 + x) (is ∙ ap (λ (x : ℕ). drawn (nodes - 2) x) newest ∙ ap (λ (x : ℕ). drawn (x - 2) (after seed (k + 1 + 1))) same) in
      all ∙ ap (λ t. t ++ added) before ∙ ap (λ t. so_far k ++ t) (by ∙ ap (λ x. shortcut x (1 + j)) same ∙ ap (λ x. shortcut n x) drew) ∙ sym (so-far-more k)

  in-range : (f : ℕ → ℕ) (a c : ℕ) → ((i : ℕ) → f i + 1 < n) → Below n (map f (range_with_len a c))
  in-range f a zero each = tt
  in-range f a (suc c) each = (each a, in-range f (a + 1) c each)

  pub nodes-below : 3 ≤ n → Below n (drawn_nodes seed n)
  nodes-below many = in-range node 0 (1 + draw seed 0 4) (λ i. let h = mod-lt (after seed (i + 1 + 1) / 2 ^ 33) {m = n - 2} (omega (arith, many)) in omega (arith, h, many))

  pub nodes-few : length (drawn_nodes seed n) ≤ 4
  nodes-few = let long = length-map-range_with_len node 0 (1 + draw seed 0 4) in let h = mod-lt (after seed 1 / 2 ^ 33) {m = 4} (omega arith) in omega (arith, long, h)
