-- What a worker of a phase has done, as plain data: its view, what is left of the tiles that it holds, and its steps.
-- An instance is whatever runs on words, of a machine as `orders` has them, and each tile has a list of instances.
use Rattle.std.specs.Prelude.{◌≡◌, ℕ, ℤ, ◌<◌, Bool, true, false, ◌||◌, ◌⊎◌, Some, None, List, [], ◌∷◌, ◌++◌, length, map, slice_index_or}
use Rattle.core_steps.specs.declared.plan.Plan.{Plan}
use Rattle.core_steps.specs.declared.view.View.{View}
use Rattle.core_steps.specs.Numbers.{has, IsSingle}
use Rattle.core_steps.specs.Plans as plans
use Rattle.core_steps.specs.Views.{Holds, Knows, OwnsItsValues, may_load, may_store}
use Rattle.orders.specs.Runs.{Machine, follow}
use Rattle.orders.specs.Runs as runs
use Rattle.plain_lemmas.specs.Lists.{Has}
use Rattle.orders.specs.Tiles.{flat}
use Rattle.shared_words.specs.Memories.{signed, shown}

-- the list of a tile; a number past the end has none
abbrev pub list_of : {X : Type 0} → List (List X) → ℕ → List X
list_of lists k = slice_index_or lists k []

-- the instances of these tiles, one tile after another
abbrev pub taken : {X : Type 0} → List (List X) → List ℕ → List X
taken lists tiles = flat (map (list_of lists) tiles)

-- the instances of each list stay within the plan's tile: what they write it writes, and what they touch it touches
pub record Fits {X : Type 0} (s : Machine X) (plan : Plan) (lists : List (List X)) : Type 0 where
  pub writes : (k a : ℕ) (x : X) → Has (list_of lists k) x → s.writes x a ≡ true → plans.writes plan k a ≡ true
  pub all : (k a : ℕ) (x : X) → Has (list_of lists k) x → runs.touches s x a ≡ true → plans.touches plan k a ≡ true

-- a seat with this view may touch what the instance touches
pub record MayRun {X : Type 0} (s : Machine X) (x : X) (v : View) : Type 0 where
  pub stores : (a : ℕ) → s.writes x a ≡ true → may_store v a ≡ true
  pub loads : (a : ℕ) → runs.touches s x a ≡ true → may_load v a ≡ true

-- from the base it followed, in the order of its claims, all instances of its tiles but `rest`, and its view shows the
-- words that they left; `closes` is what following an instance shows of it beside its run
pub record Went {X : Type 0} (s : Machine X) (closes : X → Type 0) (lists : List (List X)) (v : View) (rest : List X) (steps : ℕ) : Type 0 where
  pub done : List X
  pub split : taken lists v.held ≡ done ++ rest
  pub each : (x : X) → Has done x → closes x
  pub ran : follow s done (signed v.base) ≡ Some (record { memory = shown v; steps = steps })

-- `rest` is what is left of the list of the tile that was claimed last: `front` are the tiles claimed before it, and `begun`
-- is what stands before `rest` in its list
pub record IsLeftOfLast {X : Type 0} (lists : List (List X)) (held : List ℕ) (rest : List X) : Type 0 where
  pub front : List ℕ
  pub tile : ℕ
  pub begun : List X
  pub claimed : held ≡ front ++ tile ∷ []
  pub split : list_of lists tile ≡ begun ++ rest

-- x stands in the tile that it claimed last: from the base it followed all instances of the tiles claimed before and, of
-- this tile's list, all before x; and x is None on the words that they left
pub record CameTo {X : Type 0} (s : Machine X) (lists : List (List X)) (v : View) (x : X) (steps : ℕ) : Type 0 where
  pub rest : List X
  pub last : IsLeftOfLast lists v.held (x ∷ rest)
  pub memory : List ℤ
  pub ran : follow s (taken lists last.front ++ last.begun) (signed v.base) ≡ Some (record { memory = memory; steps = steps })
  pub none : s.run x memory ≡ None

-- the view put each tile below `next` into a claim
abbrev pub Tried : View → ℕ → Type 0
Tried v next = (k : ℕ) → k < next → Knows v k

-- what a look at the flag, and a raise of it, tell a worker of its view: each tile stands once in `held` and is a tile
-- of the plan, and own values belong to writes of held tiles
pub record IsTold (v : View) : Type 0 where
  pub single : IsSingle v.held
  pub planned : (k : ℕ) → Holds v k → k < length v.plan.tiles
  pub owned : OwnsItsValues v

-- the view after a look at the flag
abbrev pub looked_view : View → Bool → View
looked_view v raised = record v { seen = v.seen || raised }

-- it is at work, and what is left to follow, if anything, is the end of the list of the tile that it claimed last
pub record IsGoing {X : Type 0} (s : Machine X) (closes : X → Type 0) (lists : List (List X)) (v : View) (rest : List X) (next steps : ℕ) : Type 0 where
  pub went : Went s closes lists v rest steps
  pub last : (rest ≡ []) ⊎ IsLeftOfLast lists v.held rest
  pub tried : Tried v next
  pub unfailed : v.failed ≡ false
  pub unseen : v.seen ≡ false

-- it tried every tile, and followed all instances of those that it holds
pub record HasEnded {X : Type 0} (s : Machine X) (closes : X → Type 0) (lists : List (List X)) (v : View) (steps : ℕ) : Type 0 where
  pub went : Went s closes lists v [] steps
  pub tried : Tried v (length v.plan.tiles)
  pub unfailed : v.failed ≡ false
  pub unseen : v.seen ≡ false
  pub told : IsTold v

-- it came to x, which is None, and raised the flag
pub record HasFailed {X : Type 0} (s : Machine X) (lists : List (List X)) (v : View) (x : X) (steps : ℕ) : Type 0 where
  pub came : CameTo s lists v x steps
  pub raised : v.failed ≡ true
  pub unseen : v.seen ≡ false
  pub told : IsTold v

-- it saw the flag before a claim, and followed all instances of the tiles that it holds
pub record HasStopped {X : Type 0} (s : Machine X) (closes : X → Type 0) (lists : List (List X)) (v : View) (steps : ℕ) : Type 0 where
  pub went : Went s closes lists v [] steps
  pub unfailed : v.failed ≡ false
  pub seen : v.seen ≡ true
  pub told : IsTold v

-- a tile of a plan as one instance: the plan says what it touches, and its run is that of its list
abbrev pub planned : {X : Type 0} → Machine X → Plan → List (List X) → Machine ℕ
planned s plan lists = record {
  size = s.size;
  reads = λ k a. has a (plans.tile_of plan k).reads;
  writes = λ k a. plans.writes plan k a;
  run = λ k. follow s (list_of lists k);
}
