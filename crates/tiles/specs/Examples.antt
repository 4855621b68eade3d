-- Computed examples: the strips of a run, stripes, phases, and one cell more.
use Rattle.std.specs.Prelude.{◌≡◌, ℕ, pos, negsuc, ◌==◌, Bool, true, false, Some, None, [], ◌∷◌, map, refl}
use Rattle.std.proofs.Common.{subst}
use Rattle.affine.specs.Forms.{Affine}
use Rattle.core_steps.specs.declared.plan.Tile.{Tile}
use Rattle.domain.specs.Tables.{Access}
use Rattle.skeletons.specs.Cells.{Cell}
use Rattle.skeletons.specs.Runs.{Run}
use Rattle.tiles.specs.declared.strip.Strip.{Strip}
use Rattle.tiles.specs.declared.stripe.Stripe.{Stripe}
use Rattle.tiles.specs.Counts.{count_of}
use Rattle.tiles.specs.Groups.{added, alone}
use Rattle.tiles.specs.Plans.{cells_of, phase_key}
use Rattle.tiles.specs.Stripes.{addresses_of, addresses_of_all}
use Rattle.tiles.specs.Strips.{access_strips, address_at, load_strips, store_strips}

-- three instances of a block, at the counters (4, 0), (4, 1) and (4, 2)
abbrev pub row : Run
row = record { first = record { block = 1; at = pos 4 ∷ pos 0 ∷ [] }; step = pos 0 ∷ pos 1 ∷ []; count = 3 }

-- 18 i + 2 j + 19
abbrev pub line : Affine
line = record { coef = pos 18 ∷ pos 2 ∷ []; cst = pos 19 }

abbrev pub store : Access
store = record { stores = true; line = Some line; low = pos 0; high = pos 0 }

-- it stores at 91, 93 and 95
pub a_store_has_a_strip : store_strips row store ≡ record { first = pos 91; step = pos 2; count = 3 } ∷ []
a_store_has_a_strip = refl

pub the_last_address : map (λ (s : Strip). address_at s 2) (store_strips row store) ≡ pos 95 ∷ []
the_last_address = refl

-- the strip of a store is none of the loads
pub a_store_loads_nothing : load_strips row store ≡ []
a_store_loads_nothing = refl

-- a tube from -1 to 1 has a strip for each of its three offsets
pub a_tube_has_strips : access_strips row (record { stores = false; line = Some line; low = negsuc 0; high = pos 1 })
    ≡ record { first = pos 90; step = pos 2; count = 3 } ∷ record { first = pos 91; step = pos 2; count = 3 } ∷ record { first = pos 92; step = pos 2; count = 3 } ∷ []
a_tube_has_strips = refl

-- an access without a form has none
pub no_form_no_strip : access_strips row (record { stores = true; line = None; low = pos 0; high = pos 0 }) ≡ []
no_form_no_strip = refl

pub counts_are_added : count_of (row ∷ row ∷ []) ≡ 6
counts_are_added = refl

-- ---- stripes

abbrev pub is_three : Bool → Type 0
is_three true = Unit {0}
is_three false = ⊥

pub three_is_not_one : ◌≡◌ {A = ℕ} 3 1 → ⊥
three_is_not_one e = subst (λ (n : ℕ). is_three (n == 3)) e tt

-- from 10 on, three addresses downwards in steps of 4
abbrev pub falling : Stripe
falling = record { first = 10; step = negsuc 3; count = 3; single = λ one. absurd (three_is_not_one one) }

pub a_stripe_may_fall : addresses_of falling ≡ 10 ∷ 6 ∷ 2 ∷ []
a_stripe_may_fall = refl

-- one address, with the step 0
abbrev pub lone : Stripe
lone = record { first = 6; step = pos 0; count = 1; single = λ one. refl }

-- an address may stand in two stripes
pub stripes_one_after_another : addresses_of_all (falling ∷ lone ∷ []) ≡ 10 ∷ 6 ∷ 2 ∷ 6 ∷ []
stripes_one_after_another = refl

pub no_addresses : addresses_of (record lone { count = 0; single = λ one. refl }) ≡ []
no_addresses = refl

-- ---- phases

-- a cell of wave 3 behind one leading row that is 2, and two more: of the same key, and of the next wave
abbrev pub first : Cell
first = record { lead = pos 2 ∷ pos 0 ∷ []; wave = pos 3; tile = pos 0 ∷ pos 3 ∷ [] }

abbrev pub beside : Cell
beside = record { lead = pos 2 ∷ pos 0 ∷ []; wave = pos 3; tile = pos 0 ∷ pos 4 ∷ [] }

abbrev pub later : Cell
later = record { lead = pos 2 ∷ pos 0 ∷ []; wave = pos 4; tile = pos 0 ∷ pos 3 ∷ [] }

pub the_key : phase_key first ≡ pos 2 ∷ pos 0 ∷ pos 3 ∷ []
the_key = refl

abbrev pub nothing : Tile
nothing = record { reads = []; writes = [] }

-- the cell beside joins the phase, and the later one begins one
pub two_phases : added (added (added [] first nothing) beside nothing) later nothing
    ≡ record { cells = first ∷ beside ∷ []; plan = record { tiles = nothing ∷ nothing ∷ [] } } ∷ alone later nothing ∷ []
two_phases = refl

pub all_cells : cells_of (added (added (added [] first nothing) beside nothing) later nothing) ≡ first ∷ beside ∷ later ∷ []
all_cells = refl
