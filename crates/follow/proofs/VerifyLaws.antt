-- What a port that verifies answers, over a port that does not.
use Rattle.std.proofs.Common.{◌≡◌, refl, ap, ◌∙◌, sym, ℤ, ◌+ℤ◌, ◌-ℤ◌, Bool, true, false, not, List, Option, Some, None, Err, arith}
use Rattle.std.specs.Prelude.{if◌then◌else◌, ◌&&◌, int_le}
use Rattle.std.proofs.lemmas.Int.{ints}
use Rattle.nest_lang.specs.declared.observe.Stop.TheVariants.{Unexpected}
use Rattle.nest_lang.specs.Stores.{word_at}
use Rattle.block_exec.specs.Ports.{without_word}
use Rattle.nest_lang.specs.Lookups.{Interval, lies_in, line_of, look, word_or_outside}

-- the line of what is expected where the address isn't
abbrev pub refused_by : Option Interval → ℤ → Option (Option ℤ)
refused_by i a = if lies_in i a then None else Some (line_of i)

some-line : (x y : Option ℤ) → ◌≡◌ {A = Option (Option ℤ)} (Some x) (Some y) → x ≡ y
some-line x y e = cc

pub look-refused : (i : Option Interval) (m : List ℤ) (a : ℤ) (line : Option ℤ) → refused_by i a ≡ Some line → Err (Unexpected a line) ≡ look true i m a
unfolding look
look-refused i m a line e = by (lies_in i a) e
  where
    by : (b : Bool) → (if b then None else Some (line_of i)) ≡ Some line → Err (Unexpected a line) ≡ (if true && not b then Err (Unexpected a (line_of i)) else word_or_outside a (word_at m a))
    by true h = absurd (cc)
    by false h = ap (λ (z : Option ℤ). Err (Unexpected a z)) (sym (some-line (line_of i) line h))

pub look-passed : (i j : Option Interval) (m : List ℤ) (a : ℤ) (v : Bool) → v ≡ false → refused_by i a ≡ None → look v j m a ≡ look true i m a
unfolding look
look-passed i j m a v plain e = ap (λ (z : Bool). if z && not (lies_in j a) then Err (Unexpected a (line_of j)) else word_or_outside a (word_at m a)) plain ∙ by (lies_in i a) e
  where
    by : (b : Bool) → (if b then None else Some (line_of i)) ≡ None → word_or_outside a (word_at m a) ≡ (if true && not b then Err (Unexpected a (line_of i)) else word_or_outside a (word_at m a))
    by true h = refl
    by false h = absurd (cc)

pub store-refused : (i : Option Interval) (m : List ℤ) (a : ℤ) (line : Option ℤ) → refused_by i a ≡ Some line → Err (Unexpected a line) ≡ without_word (look true i m a)
store-refused i m a line e = ap without_word (look-refused i m a line e)

-- an address lies in an interval where its distance from the line lies between the ends
near-end : (line high z d : ℤ) → d ≡ z -ℤ line → (b : Bool) → int_le d high ≡ b → b ≡ int_le z (line +ℤ high)
near-end line high z d e true f = sym (grind (arith, ints))
near-end line high z d e false f = sym (grind (arith, ints))

pub near-lies : (line low high z d : ℤ) → d ≡ z -ℤ line → int_le low d ≡ true → int_le d high ≡ (int_le (line +ℤ low) z && int_le z (line +ℤ high))
near-lies line low high z d e f =
    let reaches : int_le (line +ℤ low) z ≡ true = grind (arith, ints) in
    near-end line high z d e (int_le d high) refl ∙ ap (λ (b : Bool). b && int_le z (line +ℤ high)) (sym reaches)

pub ruleset verifying = (look-passed)
