-- Logs with one more item.
use Rattle.std.proofs.Common.{◌≡◌, refl, sym, ap, ◌∙◌, ℕ, ◌+◌, ◌<◌, ℤ, pos, List, [], ◌∷◌, ◌++◌, length, get_or, take, append_assoc, append-nil, Option, Some, None, arith}
use Rattle.std.proofs.lemmas.List.{take_more, take_more_same, take-take}
use Rattle.block_exec.specs.Watches.{observed}
use Rattle.profile.specs.declared.log.Shown.{Shown}
use Rattle.profile.specs.declared.log.Item.{Item}
use Rattle.profile.specs.Logs.{counters_after, counters_in, told, told_by, told_value, turned}

pub counters_in-push : (counters : List ℤ) (items : List Item) (i : Item) → counters_in counters (items ++ i ∷ []) ≡ counters_after (counters_in counters items) i.shown i.level i.value
counters_in-push counters [] i = refl
counters_in-push counters (x ∷ items) i = counters_in-push (counters_after counters x.shown x.level x.value) items i

pub told-push : (counters : List ℤ) (items : List Item) (i : Item) → told counters (items ++ i ∷ []) ≡ told counters items ++ told_by (counters_in counters items) i.shown i.level i.value
told-push counters [] i = append-nil (told_by counters i.shown i.level i.value)
told-push counters (x ∷ items) i = rw (told-push (counters_after counters x.shown x.level x.value) items i) (sym (append_assoc (told_by counters x.shown x.level x.value) _ _))

abbrev item_of : Option Shown → ℕ → ℤ → Item
item_of shown level value = record { shown = shown; level = level; value = value }

-- a counter changed
pub log-turned : (old new : List Item) (counters front after : List ℤ) (place : ℕ) (counter : ℤ) → new ≡ old ++ item_of None place counter ∷ [] → counters ≡ counters_in [] old → front ≡ take place counters → after ≡ front ++ counter ∷ []
    → (after ≡ counters_in [] new) × (told [] new ≡ told [] old) × (after ≡ turned place counter counters)
log-turned old new counters front after place counter grown step begins more =
    let is : after ≡ turned place counter counters = more ∙ ap (λ (xs : List ℤ). xs ++ counter ∷ []) begins in
    let counted = ap (counters_in []) grown ∙ counters_in-push [] old (item_of None place counter) in
    let read = ap (told []) grown ∙ told-push [] old (item_of None place counter) ∙ append-nil (told [] old) in
    (is ∙ ap (turned place counter) step ∙ sym counted, read, is)

-- something was shown
pub log-shown : (old new : List Item) (counters seen : List ℤ) (shown : Shown) (level : ℕ) (value : ℤ) → new ≡ old ++ item_of (Some shown) level value ∷ [] → counters ≡ counters_in [] old → take level counters ≡ seen
    → (counters ≡ counters_in [] new) × (told [] new ≡ told [] old ++ observed shown.block seen shown.what (told_value shown.what value) ∷ [])
log-shown old new counters seen shown level value grown step begins =
    let counted = ap (counters_in []) grown ∙ counters_in-push [] old (item_of (Some shown) level value) in
    let read = ap (told []) grown ∙ told-push [] old (item_of (Some shown) level value) in
    let same : take level (counters_in [] old) ≡ seen = ap (take level) (sym step) ∙ begins in
    (step ∙ sym counted, read ∙ ap (λ (at : List ℤ). told [] old ++ observed shown.block at shown.what (told_value shown.what value) ∷ []) same)

-- the counters begin with one more of those that are wanted
pub turned-begins : (now wanted after : List ℤ) (place : ℕ) (counter : ℤ) → place < length wanted → take place now ≡ take place wanted → counter ≡ get_or wanted place (pos 0) → after ≡ turned place counter now → take (place + 1) after ≡ take (place + 1) wanted
turned-begins now wanted after place counter within begins is made =
    let whole : after ≡ take (place + 1) wanted = made ∙ ap (λ (xs : List ℤ). xs ++ counter ∷ []) begins ∙ ap (λ (v : ℤ). take place wanted ++ v ∷ []) is ∙ sym (take_more wanted place (pos 0) within) in
    ap (take (place + 1)) whole ∙ take-take (place + 1) (place + 1) wanted (omega arith)

pub kept-begins : (now wanted : List ℤ) (place : ℕ) → place < length wanted → place < length now → take place now ≡ take place wanted → get_or now place (pos 0) ≡ get_or wanted place (pos 0) → take (place + 1) now ≡ take (place + 1) wanted
kept-begins now wanted place within here begins same = take_more_same now wanted place (pos 0) here within begins same
