-- Examples, computed: tables of small nests, and what their checks, points and steps are.
use Rattle.std.specs.Prelude.{◌≡◌, refl, ℤ, pos, negsuc, true, false, Some, None, List, [], ◌∷◌}
use Rattle.affine.specs.Forms.{Affine}
use Rattle.nest_lang.specs.declared.tree.Part.TheVariants.{Head, Pre, Post}
use Rattle.domain.specs.declared.held.HeldWhy.TheVariants as why
use Rattle.domain.specs.declared.table.LoopKind.TheVariants.{For}
use Rattle.domain.specs.Tables.{Table, Access, Level, IsTable, trip}
use Rattle.domain.specs.Instances.{instance, padded}
use Rattle.domain.specs.Steps.{next, next_turn}
use Rattle.domain.specs.Launches.{failure}

abbrev form : List ℤ → ℤ → Affine
form coef cst = record { coef = coef; cst = cst }

abbrev outer : Level
outer = record { kind = For (pos 1); lower = None; trip = None }

abbrev store_at : Affine → Access
store_at f = record { stores = true; line = Some f; low = pos 0; high = pos 0 }

-- for i { [i] = 1 }
abbrev pub row : Table
row = record { levels = outer ∷ []; blocks = record { part = Pre; level = 1; scalars = []; accesses = store_at (form (pos 1 ∷ []) (pos 0)) ∷ [] } ∷ [] }

-- for i { [i] = [i + (i % 4 == 2) - (i % 4 == 3)] }, whose load lies within one word of i
abbrev pub near : Table
near = record { levels = outer ∷ []; blocks = record { part = Pre; level = 1; scalars = []; accesses = record { stores = false; line = Some (form (pos 1 ∷ []) (pos 0)); low = negsuc 0; high = pos 1 } ∷ store_at (form (pos 1 ∷ []) (pos 0)) ∷ [] } ∷ [] }

-- two loops: the inner one has a stride, a lower bound and a trip, and a block with these accesses
abbrev pub two_loops : ℤ → Affine → Affine → List Access → Table
two_loops stride lower trip accesses = record {
  levels = outer ∷ record { kind = For stride; lower = Some lower; trip = Some trip } ∷ [];
  blocks = record { part = Head; level = 2; scalars = []; accesses = [] } ∷ record { part = Pre; level = 2; scalars = []; accesses = accesses } ∷ [];
}

-- for i { for j = i below 10 { [20 * i + j] = 0 } }
abbrev pub triangle : Table
triangle = two_loops (pos 1) (form (pos 1 ∷ pos 0 ∷ []) (pos 0)) (form (negsuc 0 ∷ pos 0 ∷ []) (pos 10)) (store_at (form (pos 21 ∷ pos 1 ∷ []) (pos 0)) ∷ [])

-- for i { [i] = 1  for j = 0 below 6 - i { [30 + j] = 1 }  [6 - i] = 2 }
abbrev pub behind : Table
behind = record {
  levels = outer ∷ record { kind = For (pos 1); lower = Some (form (pos 0 ∷ pos 0 ∷ []) (pos 0)); trip = Some (form (negsuc 0 ∷ pos 0 ∷ []) (pos 6)) } ∷ [];
  blocks =
      record { part = Pre; level = 1; scalars = []; accesses = store_at (form (pos 1 ∷ pos 0 ∷ []) (pos 0)) ∷ [] }
      ∷ record { part = Head; level = 2; scalars = []; accesses = [] }
      ∷ record { part = Pre; level = 2; scalars = []; accesses = store_at (form (pos 0 ∷ pos 1 ∷ []) (pos 30)) ∷ [] }
      ∷ record { part = Post; level = 1; scalars = []; accesses = store_at (form (negsuc 0 ∷ pos 0 ∷ []) (pos 6)) ∷ [] }
      ∷ [];
}

-- for i { for j = 9223372036854775800 + i below 0 { [0] = 1 } }, whose trip is 0
abbrev pub high_lower : Table
high_lower = two_loops (pos 1) (form (pos 1 ∷ pos 0 ∷ []) (pos 9223372036854775800)) (form (pos 0 ∷ pos 0 ∷ []) (pos 0)) []

-- for i { for j = 0 below (i + 1) * 2^60 step 2^60 { [i] = 1 } }
abbrev pub long_steps : Table
long_steps = two_loops (pos 1152921504606846976) (form (pos 0 ∷ pos 0 ∷ []) (pos 0)) (form (pos 1 ∷ pos 0 ∷ []) (pos 1)) (store_at (form (pos 1 ∷ pos 0 ∷ []) (pos 0)) ∷ [])

-- a store at address 40 of 40 words
held-store : failure row (pos 40) [] (instance 0 (pos 40 ∷ [])) ≡ Some (why.Outside 1 (pos 40))
unfolding failure
held-store = refl

passed-store : failure row (pos 40) [] (instance 0 (pos 39 ∷ [])) ≡ None
unfolding failure
passed-store = refl

-- the trip of head2 (11) is -1
held-trip : failure triangle (pos 400) [] (instance 0 (pos 11 ∷ pos 0 ∷ [])) ≡ Some (why.Negative (negsuc 0))
unfolding failure trip
held-trip = refl

passed-trip : failure triangle (pos 400) [] (instance 0 (pos 10 ∷ pos 0 ∷ [])) ≡ None
unfolding failure trip
passed-trip = refl

-- after a negative trip the point of the post block has 0 turns there
padded-negative : padded behind (instance 3 (pos 7 ∷ pos 0 ∷ [])) ≡ pos 7 ∷ pos 0 ∷ []
unfolding padded trip
padded-negative = refl

padded-post : padded behind (instance 3 (pos 4 ∷ pos 0 ∷ [])) ≡ pos 4 ∷ pos 2 ∷ []
unfolding padded trip
padded-post = refl

-- the last turn of the inner loop is followed by the block behind it, and that by the next outer turn
next-last : next behind (instance 2 (pos 4 ∷ pos 1 ∷ [])) ≡ instance 3 (pos 4 ∷ pos 0 ∷ [])
unfolding next next_turn trip
next-last = refl

next-post : next behind (instance 3 (pos 4 ∷ pos 0 ∷ [])) ≡ instance 0 (pos 5 ∷ pos 0 ∷ [])
unfolding next next_turn trip
next-post = refl

-- the lower bound of head2 (8) is 2^63
held-lower : failure high_lower (pos 4) [] (instance 0 (pos 8 ∷ pos 0 ∷ [])) ≡ Some (why.Lower (pos 9223372036854775808))
unfolding failure trip
held-lower = refl

-- the last value of the inner loop in turn 8 is 2^63
held-last : failure long_steps (pos 40) [] (instance 0 (pos 8 ∷ pos 0 ∷ [])) ≡ Some (why.Last (pos 9223372036854775808))
unfolding failure trip
held-last = refl

passed-last : failure long_steps (pos 40) [] (instance 0 (pos 7 ∷ pos 0 ∷ [])) ≡ None
unfolding failure trip
passed-last = refl

-- the premises of all contracts can be met
abbrev pub PremisesCanHold : Type 0
PremisesCanHold = IsTable 1 row
