-- A plan whose tiles have no addresses may be posted.
use Rattle.std.proofs.Common.{◌≡◌, ℕ, zero, suc, ◌<◌, true, false, true≢false, List, [], ◌∷◌, ◌++◌, get_or, refl, sym, ap, ◌∙◌}
use Rattle.core_steps.specs.declared.plan.Tile.{Tile}
use Rattle.core_steps.specs.declared.plan.Plan.{Plan}
use Rattle.core_steps.specs.Plans.{no_tile, touches_of, IsSeparate, IsInside}

-- no tile has an address
abbrev pub AreEmpty : List Tile → Type 0
AreEmpty tiles = (k : ℕ) → get_or tiles k no_tile ≡ no_tile

pub empty-more : (ts : List Tile) (t : Tile) → AreEmpty ts → t ≡ no_tile → AreEmpty (ts ++ t ∷ [])
empty-more [] t h e zero = e
empty-more [] t h e (suc k) = refl
empty-more (x ∷ xs) t h e zero = h 0
empty-more (x ∷ xs) t h e (suc k) = empty-more xs t (λ j. h (suc j)) e k

pub empty-separate : (plan : Plan) → AreEmpty plan.tiles → IsSeparate plan
empty-separate plan h j k ne a t = ap (λ (u : Tile). touches_of u a) (h k)

pub empty-inside : (plan : Plan) (words : ℕ) → AreEmpty plan.tiles → IsInside words plan
empty-inside plan words h k a t = absurd (true≢false (sym t ∙ ap (λ (u : Tile). touches_of u a) (h k)))

pub ruleset empty_tiles = (empty-more, empty-separate, empty-inside)
