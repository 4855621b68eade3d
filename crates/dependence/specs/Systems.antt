-- The systems of rows of a table, for chunks of at most L turns.
use Rattle.std.specs.Prelude.{false, ◌≤◌, ◌<◌, Contains, ℕ, ◌+◌, ◌-◌, ℤ, pos, negsuc, ◌+ℤ◌, ◌-ℤ◌, nat_lt, nat_eq, ◌&&◌, ◌||◌, Bool, if◌then◌else◌, Option, Some, None, List, [], ◌∷◌, ◌++◌, map, length, is_some}
use Rattle.std.specs.List.{range_with_len, flat_map}
use Rattle.affine.specs.declared.row.Row.{Row}
use Rattle.affine.specs.Forms.{Affine}
use Rattle.affine.specs.Matrices.{unit_row}
use Rattle.nest_lang.specs.declared.tree.AccessRef.{AccessRef}
use Rattle.domain.specs.Tables.{Table, Block, Access, depth, zero_form, form_or_zero, block_at, access_at, trip_form, counters, turning, is_post}
use Rattle.dependence.specs.Comparisons.{Term, Number, Turn, AtX, AtY, AtMost, at_most, row_for}

-- a form and a number
abbrev pub shifted : ℤ → Affine → Affine
shifted number form = record { coef = form.coef; cst = form.cst +ℤ number }

-- the form that is the counter of that place
abbrev pub counter_form : ℕ → ℕ → Affine
counter_form n k = record { coef = unit_row n k; cst = pos 0 }

-- a place of the padded point of a launched chunk's instances, as a form: the counters, then zeros; after the counters of a post block the trip of the loop before it
abbrev pub place_form : Table → Block → ℕ → Affine
place_form t b k = if nat_lt k (counters t b) then counter_form (depth t) k else (if is_post b.part && nat_eq k (counters t b) then trip_form t k else zero_form (depth t))

-- the greatest value of an inner counter: the trip for the last one of a `while` head, and one less for the others
abbrev pub greatest : Table → Block → ℕ → Affine
greatest t b k = if nat_lt k (turning b) then shifted (negsuc 0) (trip_form t k) else trip_form t k

-- both are equal, in two rows
abbrev pub equal : Term → Term → List AtMost
equal p q = at_most p q ∷ at_most q p ∷ []

-- the first counter is one of L turns from f on
abbrev pub first_counter : Table → ℤ → (Affine → Term) → List AtMost
first_counter t L side = at_most (Turn (pos 0)) (side (counter_form (depth t) 0)) ∷ at_most (side (counter_form (depth t) 0)) (Turn (L -ℤ pos 1)) ∷ []

-- an inner counter lies within its trip
abbrev pub inner_counter : Table → Block → (Affine → Term) → ℕ → List AtMost
inner_counter t b side k = at_most (Number (pos 0)) (side (counter_form (depth t) k)) ∷ at_most (side (counter_form (depth t) k)) (side (greatest t b k)) ∷ []

abbrev pub inner_counters : Table → Block → (Affine → Term) → List AtMost
inner_counters t b side = flat_map (inner_counter t b side) (range_with_len 1 (counters t b - 1))

-- the intervals of two accesses meet
abbrev pub meeting : ℕ → Access → Access → List AtMost
meeting n a b =
    at_most (AtX (shifted a.low (form_or_zero n a.line))) (AtY (shifted b.high (form_or_zero n b.line)))
    ∷ at_most (AtY (shifted b.low (form_or_zero n b.line))) (AtX (shifted a.high (form_or_zero n a.line)))
    ∷ []

-- place k of the padded points of x and of y
abbrev pub equal_place : Table → Block → Block → ℕ → List AtMost
equal_place t a b k = equal (AtX (place_form t a k)) (AtY (place_form t b k))

abbrev pub equal_places : Table → Block → Block → ℕ → List AtMost
equal_places t a b n = flat_map (equal_place t a b) (range_with_len 0 n)

-- case c: the padded points are equal before place c, where x is less than y; after the last place they are equal
abbrev pub rising_place : Table → Block → Block → ℕ → List AtMost
rising_place t a b k = if nat_lt k (depth t) then at_most (AtX (shifted (pos 1) (place_form t a k))) (AtY (place_form t b k)) ∷ [] else []

abbrev pub found_access : Option Access → Access
found_access None = record { stores = false; line = None; low = pos 0; high = pos 0 }
found_access (Some access) = access

abbrev pub referred : Table → AccessRef → Access
referred t r = found_access (access_at (block_at t r.block) r.access)

-- what a system says, in order, of case c
unfoldable pub comparisons : Table → ℤ → AccessRef → AccessRef → ℕ → List AtMost
comparisons t L a b c =
    at_most (Number (pos 0)) (Turn (pos 0))
    ∷ (first_counter t L AtX
    ++ (first_counter t L AtY
    ++ (inner_counters t (block_at t a.block) AtX
    ++ (inner_counters t (block_at t b.block) AtY
    ++ (meeting (depth t) (referred t a) (referred t b)
    ++ (equal_places t (block_at t a.block) (block_at t b.block) (c - 1)
    ++ rising_place t (block_at t a.block) (block_at t b.block) (c - 1)))))))

pub record System : Type 0 where
  pub first : AccessRef
  pub second : AccessRef
  pub case : ℕ
  pub rows : List Row

-- the rows of comparisons for two blocks
abbrev pub rows_for : Table → AccessRef → AccessRef → List AtMost → List Row
rows_for t a b cs = map (row_for (counters t (block_at t a.block)) (counters t (block_at t b.block))) cs

abbrev pub system : Table → ℤ → AccessRef → AccessRef → ℕ → System
system t L a b c = record { first = a; second = b; case = c; rows = rows_for t a b (comparisons t L a b c) }

-- the accesses in text order
abbrev pub refs_of : Table → ℕ → List AccessRef
refs_of t rank = map (λ number. record { block = rank; access = number }) (range_with_len 1 (length (block_at t rank).accesses))

abbrev pub refs : Table → List AccessRef
refs t = flat_map (refs_of t) (range_with_len 0 (length t.blocks))

-- both have forms, and one is a store
abbrev pub pairs : Access → Access → Bool
pairs a b = (a.stores || b.stores) && (is_some a.line && is_some b.line)

-- the cases: each place; and all places equal, where the first block has the smaller rank
abbrev pub cases : Table → AccessRef → AccessRef → List ℕ
cases t a b = range_with_len 1 (depth t + (if nat_lt a.block b.block then 1 else 0))

abbrev pub systems_of : Table → ℤ → AccessRef → AccessRef → List System
systems_of t L a b = if pairs (referred t a) (referred t b) then map (system t L a b) (cases t a b) else []

-- the systems in their order: the first access, the second access, the case
unfoldable pub systems : Table → ℤ → List System
systems t L = flat_map (λ a. flat_map (systems_of t L a) (refs t)) (refs t)

-- it refers to an access of the table
pub record IsRef (t : Table) (r : AccessRef) : Type 0 where
  pub block : r.block < length t.blocks
  pub from : 1 ≤ r.access
  pub to : r.access ≤ length (block_at t r.block).accesses

-- it is one of the systems of the table, for chunks of some length
abbrev pub IsSystemOf : Table → System → Type 0
IsSystemOf t sys = (L : ℤ) × Contains (systems t L) sys
