-- Samples gathered item by item.
use Rattle.std.proofs.Common.{◌≡◌, sym, ap, ◌∙◌, ℕ, ◌+◌, ◌<◌, ℤ, List, [], ◌∷◌, ◌++◌, length, get_or, take, append-nil, Option, Some}
use Rattle.std.proofs.lemmas.List.{take_more}
use Rattle.std.proofs.lemmas.Grind.{flat_map-append}
use Rattle.nest_lang.specs.declared.tree.BlockRef.{BlockRef}
use Rattle.nest_lang.specs.declared.observe.Seen.{Seen}
use Rattle.block_exec.specs.Watches.{observed}
use Rattle.line_fit.specs.Samples.{Sample}
use Rattle.profile.specs.declared.log.Shown.{Shown}
use Rattle.profile.specs.declared.log.Item.{Item}
use Rattle.profile.specs.Logs.{counters_after, counters_in, told, told_by, told_value}
use Rattle.profile.specs.Gathered.{given_by, samples_of}
use Rattle.profile.proofs.LogLaws.{counters_in-push, told-push}

pub gather-counters : (items : List Item) (i : ℕ) (item d : Item) (counters after : List ℤ) → i < length items → item ≡ get_or items i d → counters ≡ counters_in [] (take i items) → after ≡ counters_after counters item.shown item.level item.value → after ≡ counters_in [] (take (i + 1) items)
gather-counters items i item d counters after h is before step =
    let grown : take (i + 1) items ≡ take i items ++ item ∷ [] = take_more items i d h ∙ ap (λ (x : Item). take i items ++ x ∷ []) (sym is) in
    step ∙ ap (λ (c : List ℤ). counters_after c item.shown item.level item.value) before ∙ sym (ap (counters_in []) grown ∙ counters_in-push [] (take i items) item)

pub gather-samples : (D : ℕ) (block : BlockRef) (what : Seen) (items : List Item) (i : ℕ) (item d : Item) (counters : List ℤ) (found after : List Sample) → i < length items → item ≡ get_or items i d → counters ≡ counters_in [] (take i items)
    → found ≡ samples_of D block what (told [] (take i items)) → after ≡ found ++ samples_of D block what (told_by counters item.shown item.level item.value) → after ≡ samples_of D block what (told [] (take (i + 1) items))
gather-samples D block what items i item d counters found after h is before so_far step =
    let grown : take (i + 1) items ≡ take i items ++ item ∷ [] = take_more items i d h ∙ ap (λ (x : Item). take i items ++ x ∷ []) (sym is) in
    let read = ap (told []) grown ∙ told-push [] (take i items) item in
    let here : after ≡ samples_of D block what (told [] (take i items)) ++ samples_of D block what (told_by (counters_in [] (take i items)) item.shown item.level item.value) =
    step ∙ ap (λ (xs : List Sample). xs ++ samples_of D block what (told_by counters item.shown item.level item.value)) so_far ∙ ap (λ (c : List ℤ). samples_of D block what (told [] (take i items)) ++ samples_of D block what (told_by c item.shown item.level item.value)) before in
    here ∙ sym (ap (samples_of D block what) read ∙ flat_map-append (given_by D block what) (told [] (take i items)) (told_by (counters_in [] (take i items)) item.shown item.level item.value))

-- an item that tells an observation
pub read-shown : (D : ℕ) (block : BlockRef) (what : Seen) (counters at : List ℤ) (given : List Sample) (item : Option Shown) (shown : Shown) (level : ℕ) (value : ℤ) → item ≡ Some shown → at ≡ take level counters
    → given ≡ given_by D block what (observed shown.block at shown.what (told_value shown.what value)) → given ≡ samples_of D block what (told_by counters item level value)
read-shown D block what counters at given item shown level value is begins gives =
    gives ∙ ap (λ (c : List ℤ). given_by D block what (observed shown.block c shown.what (told_value shown.what value))) begins ∙ sym (append-nil _) ∙ ap (λ (i : Option Shown). samples_of D block what (told_by counters i level value)) (sym is)

pub ruleset gathering = (gather-counters, gather-samples)
