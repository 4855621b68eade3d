-- What every lawful step keeps: the core invariant, over the words, main's view and all views with main's first.
--
-- The parts that speak of a plan hold where none is posted too, since the plan is then without a tile and no view
-- holds, knows or owns anything.
use Rattle.std.specs.Prelude.{◌≡◌, ◌≢◌, ℕ, ◌+◌, ◌<◌, ◌≤◌, true, false, List, [], length, Some, None, slice_index}
use mathlib.Core.Option.{some}
use lib.ListN.{get_elem?}
use Rattle.core_steps.specs.declared.view.View.{View}
use Rattle.core_steps.specs.Numbers.{has, IsSingle}
use Rattle.core_steps.specs.Plans.{writes, IsSeparate, IsInside}
use Rattle.core_steps.specs.Views.{Holds, Knows, stored_at, spent_view}
use Rattle.core_steps.specs.States.{State, flag_of, claim_of, word_of, views_of}

-- the view stands at this place
abbrev pub At : List View → ℕ → View → Type 0
At views i v = get_elem? views i ≡ some v

-- each view has the property, which may speak of its place
abbrev pub Each : (ℕ → View → Type 0) → List View → Type 0
Each P views = (i : ℕ) (v : View) → At views i v → P i v

-- some view has the property
abbrev pub Somewhere : (View → Type 0) → List View → Type 0
Somewhere P views = (i : ℕ) × (v : View) × At views i v × P v

-- at most one view has the property
abbrev pub AtMostOne : (View → Type 0) → List View → Type 0
AtMostOne P views = (i j : ℕ) (u v : View) → At views i u → At views j v → P u → P v → i ≡ j

-- no view has stored at the address
abbrev pub IsUntouched : List View → ℕ → Type 0
IsUntouched views a = Each (λ _ v. stored_at a v.own ≡ None) views

-- nothing was taken over
pub record IsEmptyHanded (v : View) : Type 0 where
  pub held : v.held ≡ []
  pub known : v.known ≡ []
  pub own : v.own ≡ []
  pub failed : v.failed ≡ false

-- the view of a worker whose seat is out
pub record IsLentBy (m v : View) : Type 0 where
  pub posted : v.posted ≡ m.posted
  pub epoch : v.epoch ≡ m.epoch
  pub base : v.base ≡ m.base
  pub plan : v.plan ≡ m.plan
  pub out : has v.number m.out ≡ true

-- the epochs, the flag and the plan
pub record PhaseIsSound (words : List ℕ) (m : View) (views : List View) : Type 0 where
  pub main_number : m.number ≡ 0
  pub width : length words ≡ 65537 + length m.base
  -- no flag and no claim is above main's epoch, and neither is `stored`
  pub flag : flag_of words ≤ m.epoch
  pub claims : (k : ℕ) → k < 65536 → claim_of words k ≤ m.epoch
  pub stored : m.stored ≤ m.epoch
  -- without a plan no number is out, and nothing is taken over
  pub none_out : m.posted ≡ false → m.out ≡ []
  pub nothing : m.posted ≡ false → IsEmptyHanded m
  -- the plan is separate, has at most 65,536 tiles, and its addresses are words
  pub separate : IsSeparate m.plan
  pub few : length m.plan.tiles ≤ 65536
  pub inside : IsInside (length m.base) m.plan
  -- the numbers out are at least 1 and distinct, with one view each
  pub numbers : (w : ℕ) → has w m.out ≡ true → 0 < w
  pub distinct : IsSingle m.out
  pub one_view : (w : ℕ) → has w m.out ≡ true → Somewhere (λ v. v.number ≡ w) views
  pub only_view : (w : ℕ) → 0 < w → AtMostOne (λ v. v.number ≡ w) views
  -- each of these views has main's epoch, base and plan; the other views but main's are spent
  pub lent : Each (λ _ v. 0 < v.number → IsLentBy m v) views
  pub spent : Each (λ i v. i ≢ 0 → v.number ≡ 0 → v ≡ spent_view) views
  -- with a plan the flag is at the epoch exactly where a view has failed, out or taken over
  pub failed : Each (λ _ v. v.failed ≡ true → flag_of words ≡ m.epoch) views
  pub failure : m.posted ≡ true → flag_of words ≡ m.epoch → Somewhere (λ v. v.failed ≡ true) views
  -- where a view has seen the flag, the flag is at the epoch
  pub seen : Each (λ _ v. v.seen ≡ true → flag_of words ≡ m.epoch) views

-- the tiles and their claims
pub record TilesAreSound (words : List ℕ) (m : View) (views : List View) : Type 0 where
  -- each tile is held by at most one view, out or taken over, and stands once in its list
  pub one_holder : (k : ℕ) → AtMostOne (λ v. Holds v k) views
  pub once : Each (λ _ v. IsSingle v.held) views
  -- a tile is held exactly where it is a tile of the plan whose claim is at the epoch
  pub claimed : (k : ℕ) → Each (λ _ v. Holds v k → (k < length m.plan.tiles) × (claim_of words k ≡ m.epoch)) views
  pub held : m.posted ≡ true → (k : ℕ) → k < length m.plan.tiles → claim_of words k ≡ m.epoch → Somewhere (λ v. Holds v k) views
  -- each known tile is held: it is a tile of the plan, and its claim is at the epoch
  pub known : (k : ℕ) → Each (λ _ v. Knows v k → (k < length m.plan.tiles) × (claim_of words k ≡ m.epoch)) views

-- the values of the memory words
pub record ValuesAreSound (words : List ℕ) (m : View) (views : List View) : Type 0 where
  -- own values belong to writes of held tiles
  pub owned : (a x : ℕ) → Each (λ _ v. stored_at a v.own ≡ Some x → (k : ℕ) × Holds v k × (writes m.plan k a ≡ true)) views
  -- a word has the value that a view stored there, and its base value where none stored
  pub own : (a x : ℕ) → Each (λ _ v. stored_at a v.own ≡ Some x → word_of words a ≡ x) views
  pub base : (a : ℕ) → a < length m.base → IsUntouched views a → word_of words a ≡ slice_index m.base a

pub record Inv (words : List ℕ) (m : View) (views : List View) : Type 0 where
  pub phase : PhaseIsSound words m views
  pub tiles : TilesAreSound words m views
  pub values : ValuesAreSound words m views

-- the invariant of a state
abbrev pub IsSound : State → Type 0
IsSound s = Inv s.words s.main (views_of s)
