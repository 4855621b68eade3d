-- What a sampler keeps.
use Rattle.std.specs.Prelude.{◌≡◌, ◌⊎◌, List, [], ◌∷◌, ◌++◌, Option, Some, None}
use Rattle.nest_lang.specs.declared.observe.Seen.{Seen}
use Rattle.nest_lang.specs.declared.observe.Seen.TheVariants.{Start, Scalar, Address, Lower, Trip, Condition}
use Rattle.nest_lang.specs.Traces.{Observation}
use Rattle.block_exec.specs.Watches.{Chain}

-- what is shown as an instance begins is no observation; everything else is one
abbrev pub observation_of : Observation → Seen → List Observation
observation_of shown Start = []
observation_of shown (Scalar number) = shown ∷ []
observation_of shown (Address access) = shown ∷ []
observation_of shown Lower = shown ∷ []
observation_of shown Trip = shown ∷ []
observation_of shown Condition = shown ∷ []

-- the observations among what was shown, in order
abbrev pub observations_in : List Observation → List Observation
observations_in [] = []
observations_in (o ∷ os) = observation_of o o.what ++ observations_in os

-- a sampler that gained the observation shown; one that was refused memory stays so
abbrev pub gained : Option (List Observation) → Observation → Option (List Observation)
gained None shown = None
gained (Some kept) shown = Some (kept ++ observation_of shown shown.what)

-- one thing was shown: the sampler gained it, or was refused memory
abbrev pub MayKeep : Option (List Observation) → Observation → Option (List Observation) → Type 0
MayKeep old shown new = (new ≡ None) ⊎ (new ≡ gained old shown)

-- a sampler that was shown a list of things kept the observations among them, in order, or was refused memory
abbrev pub SamplerKeepsAll : Type 0
SamplerKeepsAll = (kept shown : List Observation) (new : Option (List Observation)) → Chain MayKeep (Some kept) shown new → (new ≡ None) ⊎ (new ≡ Some (kept ++ observations_in shown))
