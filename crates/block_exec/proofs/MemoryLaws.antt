-- Look-ups of a port that verifies nothing.
use Rattle.std.proofs.Common.{◌≡◌, refl, ap, ℕ, ◌<◌, ◌≤◌, ℤ, pos, negsuc, ◌≤ℤ◌, unsigned_abs, List, length, get_or, Option, Some, None, Result, Ok, Err, false, arith, rules}
use Rattle.std.proofs.lemmas.Int.{ints}
use Rattle.std.proofs.lemmas.Option.{slice_get-get_or, slice_get_past}
use Rattle.nest_lang.specs.declared.observe.Stop.{Stop}
use Rattle.nest_lang.specs.declared.observe.Stop.TheVariants.{Outside}
use Rattle.nest_lang.specs.Lookups.{Interval, look, look_load, look_store, plain, word_or_outside}
use Rattle.nest_lang.specs.Stores.{word_at}

pub look-plain-found : (expected : Option Interval) (memory : List ℤ) (address : ℤ) → pos 0 ≤ℤ address → unsigned_abs address < length memory → look false expected memory address ≡ Ok (get_or memory (unsigned_abs address) (pos 0))
unfolding look
look-plain-found expected memory (pos n) h l = ap (word_or_outside (pos n)) (slice_get-get_or memory n (pos 0) l)
look-plain-found expected memory (negsuc n) h l = absurd (omega (arith, ints))

pub look-plain-outside : (expected : Option Interval) (memory : List ℤ) (address : ℤ) → ((pos 0 ≤ℤ address) × (unsigned_abs address < length memory) → ⊥) → look false expected memory address ≡ Err (Outside address)
unfolding look
look-plain-outside expected memory (pos n) h =
    let least : pos 0 ≤ℤ pos n = omega (arith, ints) in
    let beyond : n < length memory → ⊥ = λ l. h (least, l) in
    let past : length memory ≤ n = omega (arith, beyond) in
    ap (word_or_outside (pos n)) (slice_get_past memory n past)
look-plain-outside expected memory (negsuc n) h = refl

pub ruleset plain_looks = (look-plain-found, look-plain-outside)
