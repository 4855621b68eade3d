-- Points: the instance of an occurrence of an instance.
use Rattle.std.proofs.Common.{◌≡◌, refl, sym, ap, ap₂, subst, ◌∙◌, ℕ, zero, suc, ◌<◌, ℤ, pos, ◌+ℤ◌, ◌⊎◌, ⊎_elim, List, [], ◌∷◌, Option, Some, length, take}
use Rattle.std.specs.Prelude.{unwrap_or}
use Rattle.nest_lang.specs.declared.tree.Part.{Part}
use Rattle.domain.specs.declared.chunk.Chunk.{Chunk}
use Rattle.domain.specs.Tables.{Table, depth, rank_of, counters, cut, IsTable}
use Rattle.domain.specs.Instances.{Instance, instance, block_of, IsInstance, IsSuccessor, Predicted, Precedes, original_key, opening_at}
use Rattle.domain.specs.Steps.{next}
use Rattle.domain.proofs.PointLaws.{cut-same}
use Rattle.domain.proofs.RankLaws.{Stands, stands, has-rank, is_some-stands, same-rank, text-stands}
use Rattle.domain.proofs.OriginalLaws.{not-back, opening-last, successor-law}
use Rattle.follow_chunk.specs.Predicted.{padded_to, occurrence_of, instance_of}

pub padded-take : (n : ℕ) (xs : List ℤ) → padded_to (length xs) (take n xs) ≡ cut n xs
padded-take zero [] = refl
padded-take (suc n) [] = refl
padded-take zero (x ∷ xs) = ap (λ (zs : List ℤ). pos 0 ∷ zs) (padded-take zero xs)
padded-take (suc n) (x ∷ xs) = ap (λ (zs : List ℤ). x ∷ zs) (padded-take n xs)

pub padded-take-of : (d n : ℕ) (xs : List ℤ) → length xs ≡ d → padded_to d (take n xs) ≡ cut n xs
padded-take-of d n xs size = ap (λ (m : ℕ). padded_to m (take n xs)) (sym size) ∙ padded-take n xs

module _ (D : ℕ) (t : Table) (is : IsTable D t) where
  -- a block that stands somewhere has that rank
  pub rank-here : (part : Part) (level rank : ℕ) → Stands t part level rank → rank_of t part level ≡ Some rank
  rank-here part level rank s =
      let found = has-rank t part level (is_some-stands t part level rank s) in
      let there = stands t part level found.0 found.1 in
      found.1 ∙ ap (λ (n : ℕ). Some n) (same-rank D t is found.0 rank there.inside s.inside (text-stands D t is part level found.0 there ∙ sym (text-stands D t is part level rank s)))

  here : (x : Instance) → x.block < length t.blocks → Stands t (block_of t x).part (block_of t x).level x.block
  here x l = record { inside = l; part-is = refl; level-is = refl }

  pub instance-occurrence : (x : Instance) → IsInstance t x → instance_of t (occurrence_of t x) ≡ x
  unfolding instance_of occurrence_of
  instance-occurrence x i =
      ap₂ instance
      (ap (λ (r : Option ℕ). unwrap_or r (length t.blocks)) (rank-here (block_of t x).part (block_of t x).level x.block (here x i.block)))
      (padded-take-of (depth t) (counters t (block_of t x)) x.at i.size ∙ cut-same (counters t (block_of t x)) x.at (λ k from to. i.rest k from))

  module _ (chunk : Chunk) (x y : Instance) (p : Predicted t chunk x) (s : IsSuccessor t chunk x y) where
    z : IsSuccessor t chunk x (next t x)
    z = successor-law D t is chunk x p

    past : Instance
    past = opening_at t (chunk.first +ℤ chunk.turns)

    back : (u v : Instance) → Precedes t u v → Precedes t v u → ⊥
    back u v h g = not-back (original_key t u) (original_key t v) h g

    -- both are predicted, or one is, or neither
    both : Predicted t chunk (next t x) → Precedes t (next t x) y → y ≡ next t x
    both good less = ⊎_elim (λ e. sym e) (λ h. absurd (back y (next t x) h less)) (s.next (next t x) good z.after)

    first : Predicted t chunk y → (y ≡ next t x) ⊎ Precedes t (next t x) y → y ≡ next t x
    first good h =
        ⊎_elim (λ e. e)
        (λ less. ⊎_elim (λ other. both other less) (λ e. absurd (back (next t x) y less (subst (Precedes t y) (sym e) (opening-last D t is chunk y good)))) z.is) h

    second : y ≡ opening_at t (chunk.first +ℤ chunk.turns) → y ≡ next t x
    second e =
        ⊎_elim
        (λ other. ⊎_elim (λ g. sym g) (λ less. absurd (back y (next t x) less (subst (Precedes t (next t x)) (sym e) (opening-last D t is chunk (next t x) other)))) (s.next (next t x) other z.after))
        (λ g. e ∙ sym g) z.is

    -- an instance has one successor
    pub successor-is : y ≡ next t x
    successor-is = ⊎_elim (λ good. first good (z.next y good s.after)) second s.is
