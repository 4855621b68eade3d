-- Look-ups and stores of the memory that the main seat shows.
use Rattle.std.proofs.Common.{◌≡◌, ◌∙◌, ap, sym, subst, ℕ, ◌<◌, ℤ, pos, ◌≤ℤ◌, unsigned_abs, List, length, get_or, set, Option, Ok, Err, false, Result, FitsSigned}
use Rattle.std.specs.Int.{w64, cast_signed, cast_unsigned}
use Rattle.std.proofs.lemmas.Int.{to_z-of_z}
use Rattle.std.proofs.lemmas.List.{length-map, map-set}
use Rattle.std.proofs.Math.ListN.{get_or-map}
use Rattle.nest_lang.specs.declared.observe.Stop.{Stop}
use Rattle.nest_lang.specs.declared.observe.Stop.TheVariants.{Outside}
use Rattle.nest_lang.specs.Lookups.{Interval, look}
use Rattle.block_exec.proofs.MemoryLaws.{look-plain-found, look-plain-outside}
use Rattle.shared_words.specs.Memories.{signed}

length-signed : (base : List ℕ) → length (signed base) ≡ length base
length-signed base = length-map base (cast_signed w64)

pub look-signed-found : (expected : Option Interval) (base : List ℕ) (address : ℤ) → pos 0 ≤ℤ address → unsigned_abs address < length base
    → look false expected (signed base) address ≡ Ok (cast_signed w64 (get_or base (unsigned_abs address) 0))
look-signed-found expected base address from below =
    let ok : ℤ → Result ℤ Stop = λ z. Ok z in
    look-plain-found expected (signed base) address from (subst (λ (n : ℕ). unsigned_abs address < n) (sym (length-signed base)) below)
    ∙ ap ok (get_or-map (cast_signed w64) base (unsigned_abs address) 0)

pub look-signed-outside : (expected : Option Interval) (base : List ℕ) (address : ℤ) → ((pos 0 ≤ℤ address) × (unsigned_abs address < length base) → ⊥)
    → look false expected (signed base) address ≡ Err (Outside address)
look-signed-outside expected base address none =
    look-plain-outside expected (signed base) address (λ h. none (h.0, subst (λ (n : ℕ). unsigned_abs address < n) (length-signed base) h.1))

pub signed-set : (base : List ℕ) (a : ℕ) (x : ℤ) → FitsSigned w64 x → signed (set base a (cast_unsigned w64 x)) ≡ set (signed base) a x
signed-set base a x fits = map-set (cast_signed w64) base a (cast_unsigned w64 x) ∙ ap (λ (z : ℤ). set (signed base) a z) (to_z-of_z w64 x fits)

pub ruleset main_looks = (look-signed-found, look-signed-outside)
