-- What a seat knows of the shared words, and what each step makes of it.
use Rattle.std.specs.Prelude.{◌≡◌, ℕ, ◌+◌, ◌==◌, Bool, true, false, ◌||◌, if◌then◌else◌, List, [], ◌∷◌, ◌++◌, Option, Some, None, unwrap_or, slice_index, slice_set}
use Rattle.std.specs.List.{list_any}
use Rattle.core_steps.specs.declared.plan.Plan.{Plan}
use Rattle.core_steps.specs.declared.view.View.{View}
use Rattle.core_steps.specs.Numbers.{has, without}
use Rattle.core_steps.specs.Plans.{no_plan, writes, touches}

-- the last value stored at an address, in a list of stores with the newest first
abbrev pub stored_at : ℕ → List (ℕ × ℕ) → Option ℕ
stored_at a [] = None
stored_at a (s ∷ ss) = if s.0 == a then Some s.1 else stored_at a ss

-- the words after the stores
abbrev pub overlaid : List (ℕ × ℕ) → List ℕ → List ℕ
overlaid [] base = base
overlaid (s ∷ ss) base = slice_set (overlaid ss base) s.0 s.1

-- what a seat reads at an address: its own value, else the base's
abbrev pub value_at : View → ℕ → ℕ
value_at v a = unwrap_or (stored_at a v.own) (slice_index v.base a)

-- the view claimed the tile, or took it over
abbrev pub Holds : View → ℕ → Type 0
Holds v k = has k v.held ≡ true

-- the view put the tile into a claim, whatever the answer
abbrev pub Knows : View → ℕ → Type 0
Knows v k = has k v.known ≡ true

-- the address is a write of a tile that the view holds
abbrev pub may_store : View → ℕ → Bool
may_store v a = list_any (λ k. writes v.plan k a) v.held

-- the address is a read or a write of a tile that the view holds
abbrev pub may_load : View → ℕ → Bool
may_load v a = list_any (λ k. touches v.plan k a) v.held

-- own values belong to writes of held tiles
abbrev pub OwnsItsValues : View → Type 0
OwnsItsValues v = (a x : ℕ) → stored_at a v.own ≡ Some x → (k : ℕ) × Holds v k × (writes v.plan k a ≡ true)

-- main's view at the start
abbrev pub first_view : List ℕ → View
first_view base =
    record { number = 0; posted = false; epoch = 0; base = base; plan = no_plan; out = []; held = []; known = []; own = []; failed = false; seen = false; stored = 0 }

-- a seat that main took back knows nothing
abbrev pub spent_view : View
spent_view = first_view []

-- nothing is taken over
abbrev pub forgetting_view : View → View
forgetting_view m = record m { held = []; known = []; own = []; failed = false; seen = false }

-- main begins a phase: the epoch rises by one, and nothing is taken over yet
abbrev pub posted_view : View → List ℕ → Plan → View
posted_view m base plan =
    record m { posted = true; epoch = m.epoch + 1; base = base; plan = plan; held = []; known = []; own = []; failed = false; seen = false }

-- main lends a seat to the worker w
abbrev pub lending_view : View → ℕ → View
lending_view m w = record m { out = w ∷ m.out }

-- the seat of the worker w, as main lends it
abbrev pub lent_view : View → ℕ → View
lent_view m w =
    record { number = w; posted = m.posted; epoch = m.epoch; base = m.base; plan = m.plan; out = []; held = []; known = []; own = []; failed = false; seen = false; stored = 0 }

-- main stores between phases
abbrev pub based_view : View → ℕ → ℕ → View
based_view m a x = record m { base = slice_set m.base a x; stored = m.epoch }

-- a worker stores
abbrev pub storing_view : View → ℕ → ℕ → View
storing_view v a x = record v { own = (a, x) ∷ v.own }

-- a seat loads the flag, and remembers whether it was at the epoch
abbrev pub seeing_view : View → ℕ → View
seeing_view v flag = record v { seen = v.seen || (flag == v.epoch) }

-- a worker raises the flag
abbrev pub failed_view : View → View
failed_view v = record v { failed = true }

-- a worker claims a tile: it holds the tile where the old claim was of an earlier epoch, and knows it in any case
abbrev pub holding_view : View → ℕ → View
holding_view v k = record v { held = v.held ++ k ∷ []; known = v.known ++ k ∷ [] }

abbrev pub knowing_view : View → ℕ → View
knowing_view v k = record v { known = v.known ++ k ∷ [] }

abbrev pub claiming_view : View → ℕ → ℕ → View
claiming_view v k claim = if claim == v.epoch then knowing_view v k else holding_view v k

-- main takes over what a worker's view has
abbrev pub joined_view : View → View → View
joined_view m v =
    record m { out = without v.number m.out; held = m.held ++ v.held; known = m.known ++ v.known; own = m.own ++ v.own; failed = m.failed || v.failed; seen = m.seen || v.seen }

-- main ends the phase
abbrev pub settled_view : View → List ℕ → View
settled_view m base =
    record m { posted = false; base = base; plan = no_plan; held = []; known = []; own = []; failed = false; seen = false }
