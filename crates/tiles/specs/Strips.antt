-- Strips: the addresses of a run about the line of an access, at one offset of its tube.
use Rattle.std.specs.Prelude.{◌≡◌, ◌↔◌, ℕ, ℤ, pos, ◌<◌, ◌≤◌, ◌^◌, ◌+ℤ◌, ◌*ℤ◌, ◌≤ℤ◌, ◌<ℤ◌, ◌+◌, ◌-ℤ◌, unsigned_abs, int_lt, if◌then◌else◌, List, [], map, length, Option, Some, None, Contains}
use Rattle.std.specs.List.{flat_map, range_with_len}
use Rattle.std.specs.List.Sorted.{IsStrictlyIncreasing}
use Rattle.affine.specs.Forms.{Affine, AllWithinSize, value_at}
use Rattle.affine.specs.Sums.{dot, weighted}
use Rattle.tiles.specs.declared.stripe.Stripe.{Stripe}
use Rattle.plain_lemmas.specs.Lists.{Has}
use Rattle.domain.specs.Tables.{Table, Access}
use Rattle.domain.specs.Instances.{block_of}
use Rattle.skeletons.specs.Runs.{Run}
use Rattle.tiles.specs.declared.strip.Strip.{Strip}

-- a stripe is a strip
abbrev pub strip_of : Stripe → Strip
strip_of stripe = record { first = pos stripe.first; step = stripe.step; count = stripe.count }

-- ---- the strips of a run

-- the addresses about a line at counters from these on, so many by a step, at one offset
abbrev pub form_strip : Affine → List ℤ → List ℤ → ℕ → ℤ → Strip
form_strip form at step count offset = record { first = value_at form at +ℤ offset; step = dot form.coef step; count = count }

-- the addresses of a run about a line, at one offset
abbrev pub run_strip : Run → Affine → ℤ → Strip
run_strip r form offset = form_strip form r.first.at r.step r.count offset

abbrev pub line_strips : Run → Option Affine → List ℤ → List Strip
line_strips r None offsets = []
line_strips r (Some form) offsets = map (run_strip r form) offsets

-- the offset number k of an access's tube, from 0
abbrev pub offset_at : Access → ℕ → ℤ
offset_at a k = a.low +ℤ pos k

-- how many offsets the tube has
abbrev pub offset_count : Access → ℕ
offset_count a = if int_lt a.high a.low then 0 else unsigned_abs (a.high -ℤ a.low) + 1

-- one strip for each offset of the tube, where the access has a form
abbrev pub access_strips : Run → Access → List Strip
access_strips r a = line_strips r a.line (map (offset_at a) (range_with_len 0 (offset_count a)))

-- those of a store, and those of a load
abbrev pub store_strips : Run → Access → List Strip
store_strips r a = if a.stores then access_strips r a else []

abbrev pub load_strips : Run → Access → List Strip
load_strips r a = if a.stores then [] else access_strips r a

-- those of all accesses of the run's block
abbrev pub stores_of_run : Table → Run → List Strip
stores_of_run t r = flat_map (store_strips r) (block_of t r.first).accesses

abbrev pub loads_of_run : Table → Run → List Strip
loads_of_run t r = flat_map (load_strips r) (block_of t r.first).accesses

-- ---- the addresses of a strip

-- the address number k of a strip, from 0
abbrev pub address_at : Strip → ℕ → ℤ
address_at s k = s.first +ℤ s.step *ℤ pos k

-- a word at an address of one of these strips
pub record IsWordOf (words : ℕ) (strips : List Strip) (address : ℕ) : Type 0 where
  pub strip : Strip
  pub has : Has strips strip
  pub place : ℕ
  pub below : place < strip.count
  pub is : pos address ≡ address_at strip place
  pub word : address < words

-- the step and the addresses are far from the ends of what is computed with
pub record IsNear (s : Strip) : Type 0 where
  pub step : unsigned_abs s.step ≤ 2 ^ 90
  pub all : (k : ℕ) → k < s.count → unsigned_abs (address_at s k) ≤ 2 ^ 90

-- the strip can be a stripe: it begins at a number of 64 bits, and where it has one address its step is 0
pub record IsStored (s : Strip) : Type 0 where
  pub from : pos 0 ≤ℤ s.first
  pub to : s.first <ℤ pos (2 ^ 64)
  pub single : s.count ≡ 1 → s.step ≡ pos 0

-- counters from these on, so many by a step, are small, and so is the step
pub record AreSmall (at step : List ℤ) (count : ℕ) : Type 0 where
  pub some : 1 ≤ count
  pub long : length at ≡ length step
  pub by : AllWithinSize (2 ^ 20) step
  pub all : (k : ℕ) → k < count → AllWithinSize (2 ^ 33) (weighted (pos 1) at (pos k) step)

-- those of the instances of a run
abbrev pub IsSmallRun : Run → Type 0
IsSmallRun r = AreSmall r.first.at r.step r.count

-- a run whose block is present, and whose stores are those of stripes
pub record IsPlannedRun (t : Table) (r : Run) : Type 0 where
  pub block : r.first.block < length t.blocks
  pub small : IsSmallRun r
  pub stores : (s : Strip) → Has (stores_of_run t r) s → IsStored s

-- exactly the words of these strips, in order, each once
pub record IsListOfWords (words : ℕ) (strips : List Strip) (addresses : List ℕ) : Type 0 where
  pub rising : IsStrictlyIncreasing addresses
  pub has : (address : ℕ) → Contains addresses address ↔ IsWordOf words strips address
