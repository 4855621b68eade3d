-- Look-ups and stores of the memory that a worker's seat shows.
use Rattle.std.proofs.Common.{◌≡◌, refl, ◌∙◌, ap, sym, subst, ℕ, ◌<◌, ℤ, pos, ◌≤ℤ◌, unsigned_abs, length, get_or, set, Bool, true, false, Option, Some, None, Ok, Err, Result, FitsSigned, arith}
use Rattle.std.specs.Prelude.{if◌then◌else◌}
use Rattle.std.specs.Int.{w64, cast_signed, cast_unsigned}
use Rattle.std.proofs.lemmas.Int.{ints, to_z-of_z}
use Rattle.std.proofs.lemmas.List.{length-map, map-set}
use Rattle.std.proofs.Math.ListN.{get_or-map}
use Rattle.nest_lang.specs.declared.observe.Stop.{Stop}
use Rattle.nest_lang.specs.declared.observe.Stop.TheVariants.{Outside}
use Rattle.nest_lang.specs.Lookups.{Interval, lies_in, line_of, look}
use Rattle.block_exec.proofs.MemoryLaws.{look-plain-found, look-plain-outside}
use Rattle.core_steps.specs.declared.view.View.{View}
use Rattle.core_steps.specs.Views.{overlaid, value_at, storing_view}
use Rattle.core_steps.proofs.StoreListLaws.{length-overlaid, overlaid-at}
use Rattle.shared_words.specs.Memories.{shown}
use Rattle.follow.proofs.VerifyLaws.{refused_by, look-passed}

pub length-shown : (v : View) → length (shown v) ≡ length v.base
length-shown v = length-map (overlaid v.own v.base) (cast_signed w64) ∙ length-overlaid v.own v.base

word-shown : (v : View) (a : ℕ) → a < length v.base → get_or (shown v) a (pos 0) ≡ cast_signed w64 (value_at v a)
word-shown v a below = get_or-map (cast_signed w64) (overlaid v.own v.base) a 0 ∙ ap (cast_signed w64) (overlaid-at a v.own v.base below)

pub found : (i : Option Interval) (v : View) (address : ℤ) → None ≡ refused_by i address → pos 0 ≤ℤ address → unsigned_abs address < length v.base
    → look true i (shown v) address ≡ Ok (cast_signed w64 (value_at v (unsigned_abs address)))
found i v address none from below =
    let ok : ℤ → Result ℤ Stop = λ z. Ok z in
    sym (look-passed i i (shown v) address false refl (sym none))
    ∙ look-plain-found i (shown v) address from (subst (λ (n : ℕ). unsigned_abs address < n) (sym (length-shown v)) below)
    ∙ ap ok (word-shown v (unsigned_abs address) below)

pub outside : (i : Option Interval) (v : View) (address : ℤ) → None ≡ refused_by i address → ((pos 0 ≤ℤ address) × (unsigned_abs address < length v.base) → ⊥)
    → look true i (shown v) address ≡ Err (Outside address)
outside i v address none past =
    sym (look-passed i i (shown v) address false refl (sym none))
    ∙ look-plain-outside i (shown v) address (λ h. past (h.0, subst (λ (n : ℕ). unsigned_abs address < n) (length-shown v) h.1))

-- an address that isn't refused lies in the interval
pub lies : (i : Option Interval) (address : ℤ) → None ≡ refused_by i address → pos 0 ≤ℤ address → lies_in i (pos (unsigned_abs address)) ≡ true
lies i address none from = subst (λ (z : ℤ). lies_in i z ≡ true) is (by (lies_in i address) none)
  where
    is : address ≡ pos (unsigned_abs address)
    is = omega (arith, ints, from)

    by : (b : Bool) → None ≡ (if b then None else Some (line_of i)) → b ≡ true
    by true e = refl
    by false e = absurd (cc)

pub shown-store : (v : View) (a : ℕ) (x : ℤ) → FitsSigned w64 x → shown (storing_view v a (cast_unsigned w64 x)) ≡ set (shown v) a x
shown-store v a x fits = map-set (cast_signed w64) (overlaid v.own v.base) a (cast_unsigned w64 x) ∙ ap (λ (z : ℤ). set (shown v) a z) (to_z-of_z w64 x fits)
