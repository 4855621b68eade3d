-- Tables: the loops and the blocks of a nest, with the forms of their data.
use Rattle.std.specs.Prelude.{◌≡◌, ◌<◌, ◌≤◌, ◌+◌, ◌-◌, ◌*◌, ◌^◌, max, ℕ, zero, suc, ℤ, pos, ◌≤ℤ◌, ◌-ℤ◌, unsigned_abs, nat_eq, Bool, true, false, ◌&&◌, List, [], ◌∷◌, Option, Some, None, is_some, length, replicate, slice_get, slice_index_or}
use Rattle.std.specs.List.{All, position}
use Rattle.affine.specs.Forms.{Affine, value_at}
use Rattle.nest_lang.specs.declared.tree.Part.{Part}
use Rattle.nest_lang.specs.declared.tree.Part.TheVariants.{Head, Pre, Post}
use Rattle.nest_lang.specs.Blocks.{same_part}
use Rattle.domain.specs.declared.table.LoopKind.{LoopKind}
use Rattle.domain.specs.declared.table.LoopKind.TheVariants.{For, While}

-- an access: whether it stores, and where it was made the form of its address, with the tube about it
pub record Access : Type 0 where
  pub stores : Bool
  pub line : Option Affine
  pub low : ℤ
  pub high : ℤ

-- a block of a level, from 1, with the forms of the scalars as it begins
pub record Block : Type 0 where
  pub part : Part
  pub level : ℕ
  pub scalars : List (Option Affine)
  pub accesses : List Access

-- a loop: its kind, and the forms of its lower bound and of its trip
pub record Level : Type 0 where
  pub kind : LoopKind
  pub lower : Option Affine
  pub trip : Option Affine

-- the loops from the outermost on, and the present blocks in text order, so that a block's rank is its place
pub record Table : Type 0 where
  pub levels : List Level
  pub blocks : List Block

-- the number of loops
abbrev pub depth : Table → ℕ
depth t = length t.levels

abbrev pub no_block : Block
no_block = record { part = Pre; level = 0; scalars = []; accesses = [] }

abbrev pub no_level : Level
no_level = record { kind = While; lower = None; trip = None }

-- the block of a rank
abbrev pub block_at : Table → ℕ → Block
block_at t rank = slice_index_or t.blocks rank no_block

-- the loop inside so many others
abbrev pub level_at : Table → ℕ → Level
level_at t k = slice_index_or t.levels k no_level

-- the loop is a `while`
abbrev pub is_while : LoopKind → Bool
is_while (For stride) = false
is_while While = true

abbrev pub repeats : Table → ℕ → Bool
repeats t k = is_while (level_at t k).kind

-- a block of that part and level
abbrev pub is_block : Part → ℕ → Block → Bool
is_block part level b = same_part b.part part && nat_eq b.level level

-- the rank of the block of that part and level, where it is present
abbrev pub rank_of : Table → Part → ℕ → Option ℕ
rank_of t part level = position (is_block part level) t.blocks

-- ---- data

-- the access of that number, from 1
abbrev pub access_at : Block → ℕ → Option Access
access_at b zero = None
access_at b (suc n) = slice_get b.accesses n

abbrev pub line_of : Option Access → Option Affine
line_of None = None
line_of (Some a) = a.line

abbrev pub tube_by : Option Access → Option Affine → Option (ℤ × ℤ)
tube_by None form = None
tube_by (Some a) None = None
tube_by (Some a) (Some form) = Some (a.low, a.high)

abbrev pub scalar_at : Block → ℕ → Option Affine
scalar_at b number = slice_index_or b.scalars number None

-- ---- trips

-- the form of n counters that is 0
abbrev pub zero_form : ℕ → Affine
zero_form n = record { coef = replicate n (pos 0); cst = pos 0 }

abbrev pub form_or_zero : ℕ → Option Affine → Affine
form_or_zero n None = zero_form n
form_or_zero n (Some form) = form

-- the first k numbers, and zeros in place of the others
abbrev pub cut : ℕ → List ℤ → List ℤ
cut k [] = []
cut zero (x ∷ xs) = pos 0 ∷ cut zero xs
cut (suc k) (x ∷ xs) = x ∷ cut k xs

-- the trip of the loop inside so many counters, over these counters alone; 0 where no head of it was seen
abbrev pub trip_form : Table → ℕ → Affine
trip_form t k = record { coef = cut k (form_or_zero (depth t) (level_at t k).trip).coef; cst = (form_or_zero (depth t) (level_at t k).trip).cst }

-- the predicted trip of that loop at these counters
unfoldable pub trip : Table → ℕ → List ℤ → ℤ
trip t k at = value_at (trip_form t k) at

-- ---- counters

-- the number of an instance's counters: the head of a `for` lacks that of its own loop
abbrev pub counters_by : Part → Bool → ℕ → ℕ
counters_by Head true level = level
counters_by Head false level = level - 1
counters_by Pre while level = level
counters_by Post while level = level

abbrev pub counters : Table → Block → ℕ
counters t b = counters_by b.part (repeats t (b.level - 1)) b.level

-- the number of loops that are in a turn at an instance: of a head that is inside a loop, those around it
abbrev pub turning_by : Part → ℕ → ℕ
turning_by Head level = max 1 (level - 1)
turning_by Pre level = level
turning_by Post level = level

abbrev pub turning : Block → ℕ
turning b = turning_by b.part b.level

abbrev pub is_post : Part → Bool
is_post Head = false
is_post Pre = false
is_post Post = true

-- ---- tables of nests

-- where a block stands in the text of a nest of that depth: heads and blocks before the inner loops inwards, and then
-- the blocks after the inner loops outwards
abbrev pub text_place_by : ℕ → Part → ℕ → ℕ
text_place_by depth Head level = level + level
text_place_by depth Pre level = level + level + 1
text_place_by depth Post level = depth + depth + depth + 3 - level

abbrev pub text_place : ℕ → Block → ℕ
text_place depth b = text_place_by depth b.part b.level

-- the interval is about 0, and at most 64 wide
pub record IsTube (low high : ℤ) : Type 0 where
  pub below : low ≤ℤ pos 0
  pub above : pos 0 ≤ℤ high
  pub width : (high -ℤ low) ≤ℤ pos 64

-- the size of a loop's stride, at least 1
abbrev pub stride_size : LoopKind → ℕ
stride_size (For stride) = max 1 (unsigned_abs stride)
stride_size While = 1

-- the values of a loop's name stay far below 2^127: the stride times each coefficient of the trip is at most 2^66, and
-- times its constant at most 2^104. So it is of each loop whose values were seen to be i64s.
abbrev pub Reaches : ℕ → Option Affine → Type 0
Reaches stride None = Unit {0}
Reaches stride (Some form) = All (λ c. stride * unsigned_abs c ≤ 2 ^ 66) form.coef × (stride * unsigned_abs form.cst ≤ 2 ^ 104) × (length form.coef ≤ 6)

-- a block of a nest of that depth
pub record IsBlock (D : ℕ) (b : Block) : Type 0 where
  pub from : 1 ≤ b.level
  pub to : b.level ≤ D
  pub scalars : length b.scalars ≤ 16
  pub accesses : length b.accesses ≤ 64
  pub outer : b.part ≡ Post → b.level < D

-- the table of a nest of D loops: the blocks stand in the order of the text, each once; each inner loop has its head,
-- the outermost one has it where it is a `while`, and the innermost loop has statements
pub record IsTable (D : ℕ) (t : Table) : Type 0 where
  pub deep : length t.levels ≡ D
  pub some : 1 ≤ D
  pub few : D ≤ 6
  pub short : length t.blocks ≤ 18
  pub blocks : (rank : ℕ) → rank < length t.blocks → IsBlock D (block_at t rank)
  pub rising : (i j : ℕ) → i < j → j < length t.blocks → text_place D (block_at t i) < text_place D (block_at t j)
  pub heads : (level : ℕ) → 2 ≤ level → level ≤ D → is_some (rank_of t Head level) ≡ true
  pub outermost : is_some (rank_of t Head 1) ≡ repeats t 0
  pub body : is_some (rank_of t Pre D) ≡ true
  pub strides : (k : ℕ) → stride_size (level_at t k).kind ≤ 2 ^ 63
  pub reach : (k : ℕ) → Reaches (stride_size (level_at t k).kind) (level_at t k).trip

-- ---- forms

abbrev pub head_level_by : Part → Option Level → Option Level
head_level_by Head level = level
head_level_by Pre level = None
head_level_by Post level = None

-- the loop of a level, from 1
abbrev pub loop_of : Table → ℕ → Option Level
loop_of t zero = None
loop_of t (suc k) = slice_get t.levels k

-- the loop of which a block is the head
abbrev pub head_level : Table → Block → Option Level
head_level t b = head_level_by b.part (loop_of t b.level)
