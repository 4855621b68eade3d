-- Launch: the checks of a predicted instance, and where a chunk is held.
use Rattle.std.specs.Prelude.{◌≡◌, ◌+◌, ◌-◌, ℕ, ℤ, pos, ◌+ℤ◌, ◌-ℤ◌, ◌*ℤ◌, unsigned_abs, int_lt, nat_lt, nat_le, ◌||◌, if◌then◌else◌, Bool, Option, Some, None, option_map, List, [], ◌∷◌, ◌++◌, length, sum_by, Contains, ◌↔◌}
use Rattle.affine.specs.Forms.{Affine, value_at}
use Rattle.nest_lang.specs.declared.tree.Part.{Part}
use Rattle.nest_lang.specs.declared.tree.Part.TheVariants.{Head, Pre, Post}
use Rattle.nest_lang.specs.Values.{is_i64, same}
use Rattle.domain.specs.declared.chunk.Chunk.{Chunk}
use Rattle.domain.specs.declared.held.HeldWhy.{HeldWhy}
use Rattle.domain.specs.declared.held.HeldWhy.TheVariants.{Negative, Many, Outside, Scalar, Lower, Last}
use Rattle.domain.specs.declared.table.LoopKind.{LoopKind}
use Rattle.domain.specs.declared.table.LoopKind.TheVariants.{For, While}
use Rattle.domain.specs.Tables.{Table, Access, Block, level_at, trip}
use Rattle.domain.specs.Instances.{Instance, block_of, counter, Predicted, Precedes, Ordered, IsOriginal}

-- the first of two that is one
abbrev pub first_of : Option HeldWhy → Option HeldWhy → Option HeldWhy
first_of None second = second
first_of (Some why) second = Some why

-- ---- 1: too many instances, or too many addresses

abbrev pub width_by : Option Affine → ℕ → ℕ
width_by None width = 0
width_by (Some form) width = width

-- how many addresses are expected of an access: hi - lo + 1 where it has a form
abbrev pub access_width : Access → ℕ
access_width a = width_by a.line (unsigned_abs (a.high -ℤ a.low) + 1)

abbrev pub block_width : Block → ℕ
block_width b = sum_by access_width b.accesses

-- the widths of the accesses with forms, summed over instances
abbrev pub widths : Table → List Instance → ℕ
widths t xs = sum_by (λ x. block_width (block_of t x)) xs

-- it is past the 65,536th instance, or the widths up to it and with it pass 2,097,152
abbrev pub is_many : Table → List Instance → Instance → Bool
is_many t before x = nat_le 65536 (length before) || nat_lt 2097152 (widths t before + block_width (block_of t x))

-- ---- 2: an expected scalar is no i64

abbrev pub scalar_failure : ℕ → Option Affine → List ℤ → Option HeldWhy
scalar_failure number None at = None
scalar_failure number (Some form) at = if is_i64 (value_at form at) then None else Some (Scalar number (value_at form at))

-- of the scalars from a number on
abbrev pub scalars_failure : ℕ → List (Option Affine) → List ℤ → Option HeldWhy
scalars_failure number [] at = None
scalars_failure number (f ∷ fs) at = first_of (scalar_failure number f at) (scalars_failure (number + 1) fs at)

-- ---- 3: the expected interval of a store has an address that is no word

-- the first address of an interval that is no word
abbrev pub outside : ℤ → ℤ → ℤ → Option ℤ
outside words first last = if int_lt first (pos 0) then Some first else (if int_lt last words then None else Some (if int_lt first words then words else first))

abbrev pub line_failure : ℤ → ℕ → Option Affine → ℤ → ℤ → List ℤ → Option HeldWhy
line_failure words number None low high at = None
line_failure words number (Some form) low high at = option_map (λ address. Outside number address) (outside words (value_at form at +ℤ low) (value_at form at +ℤ high))

abbrev pub store_failure : ℤ → ℕ → Access → List ℤ → Option HeldWhy
store_failure words number a at = if a.stores then line_failure words number a.line a.low a.high at else None

-- of the accesses from a number on
abbrev pub stores_failure : ℤ → ℕ → List Access → List ℤ → Option HeldWhy
stores_failure words number [] at = None
stores_failure words number (a ∷ more) at = first_of (store_failure words number a at) (stores_failure words (number + 1) more at)

-- ---- 4 and 5: the head of an inner loop

abbrev pub trip_failure : ℤ → Option HeldWhy
trip_failure trip = if int_lt trip (pos 0) then Some (Negative trip) else None

abbrev pub lower_failure : Option Affine → List ℤ → Option HeldWhy
lower_failure None at = None
lower_failure (Some form) at = if is_i64 (value_at form at) then None else Some (Lower (value_at form at))

-- the value of the loop's name in its last turn
abbrev pub last_failure : Option Affine → ℤ → ℤ → List ℤ → Option HeldWhy
last_failure None stride trip at = None
last_failure (Some form) stride trip at =
    if same trip (pos 0) then None
    else (if is_i64 (value_at form at +ℤ stride *ℤ (trip -ℤ pos 1)) then None else Some (Last (value_at form at +ℤ stride *ℤ (trip -ℤ pos 1))))

abbrev pub loop_failure : LoopKind → Option Affine → ℤ → ℤ → List ℤ → Option HeldWhy
loop_failure (For stride) lower trip turn at = first_of (lower_failure lower at) (first_of (trip_failure trip) (last_failure lower stride trip at))
loop_failure While lower trip turn at = if same turn (pos 0) then trip_failure trip else None

abbrev pub head_by : Part → ℕ → Table → List ℤ → Option HeldWhy
head_by Head level t at = if nat_lt 1 level then loop_failure (level_at t (level - 1)).kind (level_at t (level - 1)).lower (trip t (level - 1) at) (counter at (level - 1)) at else None
head_by Pre level t at = None
head_by Post level t at = None

-- ---- the first check that fails

-- checks 2 to 5 of an instance
abbrev pub data_failure : Table → ℤ → Instance → Option HeldWhy
data_failure t words x =
    first_of (scalars_failure 0 (block_of t x).scalars x.at)
    (first_of (stores_failure words 1 (block_of t x).accesses x.at) (head_by (block_of t x).part (block_of t x).level t x.at))

-- the first check that fails at an instance that stands behind others
unfoldable pub failure : Table → ℤ → List Instance → Instance → Option HeldWhy
failure t words before x = if is_many t before x then Some Many else data_failure t words x

-- no check fails at these instances, each behind those before it
abbrev pub Passes : Table → ℤ → List Instance → Type 0
Passes t words xs = (us : List Instance) (x : Instance) (vs : List Instance) → xs ≡ us ++ x ∷ vs → failure t words us x ≡ None

-- the predicted instances before an instance, in original order
pub record IsBefore (t : Table) (chunk : Chunk) (x : Instance) (xs : List Instance) : Type 0 where
  pub ordered : Ordered (Precedes t) xs
  pub has : (z : Instance) → Contains xs z ↔ (Predicted t chunk z × Precedes t z x)

-- a chunk is launched with so many instances: no check fails at any of them
pub record IsLaunched (t : Table) (words : ℤ) (chunk : Chunk) (instances : ℕ) : Type 0 where
  pub list : List Instance
  pub original : IsOriginal t chunk list
  pub count : length list ≡ instances
  pub passes : Passes t words list

-- a chunk is held: x is the first predicted instance, in original order, at which a check fails, and this is the
-- first check that fails there
pub record IsHeld (t : Table) (words : ℤ) (chunk : Chunk) (x : Instance) (why : HeldWhy) : Type 0 where
  pub predicted : Predicted t chunk x
  pub before : List Instance
  pub those : IsBefore t chunk x before
  pub passes : Passes t words before
  pub fails : failure t words before x ≡ Some why
