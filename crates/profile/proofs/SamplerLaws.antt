-- A sampler that is shown a list of things.
use Rattle.std.proofs.Common.{◌≡◌, sym, ap, subst, ◌∙◌, ◌⊎◌, inl, inr, List, [], ◌∷◌, ◌++◌, append_assoc, append-nil, Option, Some, None}
use Rattle.nest_lang.specs.Traces.{Observation}
use Rattle.block_exec.specs.Watches.{Chain}
use Rattle.profile.specs.Sampled.{observation_of, observations_in, MayKeep, SamplerKeepsAll}

-- a sampler that was refused memory stays so
refused-stays : (shown : List Observation) (new : Option (List Observation)) → Chain MayKeep None shown new → new ≡ None
refused-stays [] new same = same
refused-stays (o ∷ os) new (mid, step, rest) = refused-stays os new (subst (λ (m : Option (List Observation)). Chain MayKeep m os new) (still step) rest)
  where
    still : MayKeep None o mid → mid ≡ None
    still (inl none) = none
    still (inr same) = same

pub sampler-keeps : SamplerKeepsAll
sampler-keeps kept [] new same = inr (same ∙ ap Some (sym (append-nil kept)))
sampler-keeps kept (o ∷ os) new (mid, step, rest) = at step (sampler-keeps (kept ++ observation_of o o.what) os new)
  where
    at : MayKeep (Some kept) o mid → (Chain MayKeep (Some (kept ++ observation_of o o.what)) os new → (new ≡ None) ⊎ (new ≡ Some ((kept ++ observation_of o o.what) ++ observations_in os))) → (new ≡ None) ⊎ (new ≡ Some (kept ++ (observation_of o o.what ++ observations_in os)))
    at (inl none) more = inl (refused-stays os new (subst (λ (m : Option (List Observation)). Chain MayKeep m os new) none rest))
    at (inr is) more = elim (more (subst (λ (m : Option (List Observation)). Chain MayKeep m os new) is rest)) [ inl none ↦ inl none | inr same ↦ inr (same ∙ ap Some (append_assoc kept (observation_of o o.what) (observations_in os))) ]
