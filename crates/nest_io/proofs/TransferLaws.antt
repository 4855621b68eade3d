-- Bytes that were taken in turn were taken at once, and so for bytes that were put.
use Rattle.std.specs.Prelude.{◌≡◌, ◌+◌, ◌-◌, ◌<◌, ◌≤◌, ◌↔◌, ℕ, List, [], ◌++◌, length, take, drop, Option, Some, None, IfSome}
use Rattle.std.proofs.Common.{sym, ◌∙◌, ap, subst, refl, arith, rules, append_assoc}
use Rattle.std.proofs.lemmas.List.{append-nil, drop-drop, length-append, length-drop, length-take-le, take-append-drop, take_all, take_at}
use Rattle.std.proofs.Math.Seq.{take-append_seam}
use Rattle.nest_io.specs.Bytes.{Takes, Appends}

-- nothing is taken of a source that stays
pub Takes-nothing : (left : Option (List ℕ)) → Takes left left []
Takes-nothing None = tt
Takes-nothing (Some left) = (left, refl, refl)

pub Takes-trans : (first second third : Option (List ℕ)) (xs ys : List ℕ) → Takes first second xs → Takes second third ys → Takes first third (xs ++ ys)
Takes-trans None second third xs ys taken more = tt
Takes-trans (Some left) second third xs ys taken more =
    let rest = taken.0 in
    let then : Takes (Some rest) third ys = subst (λ (now : Option (List ℕ)). Takes now third ys) taken.2 more in
    (then.0, taken.1 ∙ (ap (λ (all : List ℕ). xs ++ all) then.1 ∙ sym (append_assoc xs ys then.0)), then.2)

-- a read that takes nothing leaves what was taken
pub Takes-then-nothing : (first second third : Option (List ℕ)) (xs : List ℕ) → Takes first second xs → Takes second third [] → Takes first third xs
Takes-then-nothing first second third xs taken none =
    subst (λ (all : List ℕ). Takes first third all) (append-nil xs) (Takes-trans first second third xs [] taken none)

-- nothing is put into a sink that stays
pub Appends-nothing : (held : Option (List ℕ)) → Appends held held []
Appends-nothing None = tt
Appends-nothing (Some held) = ap Some (sym (append-nil held))

pub Appends-trans : (first second third : Option (List ℕ)) (xs ys : List ℕ) → Appends first second xs → Appends second third ys → Appends first third (xs ++ ys)
Appends-trans None second third xs ys put more = tt
Appends-trans (Some held) second third xs ys put more =
    let then : Appends (Some (held ++ xs)) third ys = subst (λ (now : Option (List ℕ)). Appends now third ys) put more in
    then ∙ ap Some (append_assoc held xs ys)

-- what was put after the next piece, and what is left behind it
pub put-more : (first second third : Option (List ℕ)) (bytes put rest : List ℕ) (count before now : ℕ) → bytes ≡ put ++ rest → Appends first second put → Appends second third (take count rest) → 1 ≤ count → count ≤ length rest → now ≤ before + length put → (more : List ℕ) × (bytes ≡ more ++ take (length rest - count) (drop count rest)) × Appends first third more × (now + 1 ≤ before + length more)
put-more first second third bytes put rest count before now whole had then least most steps =
    let len : length (put ++ take count rest) ≡ length put + count = length-append put (take count rest) ∙ ap (λ (n : ℕ). length put + n) (length-take-le count rest most) in
    let seam : bytes ≡ (put ++ take count rest) ++ drop count rest = whole ∙ (ap (λ (all : List ℕ). put ++ all) (sym (take-append-drop count rest)) ∙ sym (append_assoc put (take count rest) (drop count rest))) in
    let behind : take (length rest - count) (drop count rest) ≡ drop count rest = search (rules, take_all, length-drop) in
    (put ++ take count rest, seam ∙ ap (λ (all : List ℕ). (put ++ take count rest) ++ all) (sym behind), Appends-trans first second third put (take count rest) had then, omega arith)

-- where a write fails, what was put is a front of the bytes
pub put-front : (first second third : Option (List ℕ)) (bytes put rest : List ℕ) (before now : ℕ) → bytes ≡ put ++ rest → Appends first second put → Appends second third [] → 0 < length rest → now ≤ before + (length put + 1) → (n : ℕ) × (n < length bytes) × Appends first third (take n bytes) × (now ≤ before + (n + 1))
put-front first second third bytes put rest before now whole had none some steps =
    let all : length bytes ≡ length put + length rest = ap length whole ∙ length-append put rest in
    let front : take (length put) bytes ≡ put = ap (λ (xs : List ℕ). take (length put) xs) whole ∙ take-append_seam put rest in
    let held : Appends first third (put ++ []) = Appends-trans first second third put [] had none in
    (length put, omega arith, subst (λ (xs : List ℕ). Appends first third xs) (append-nil put ∙ sym front) held, steps)

-- what is read up to the end is the text, and nothing is left
pub whole_text : (first second third : Option (List ℕ)) (bytes piece : List ℕ) (count : ℕ) → Takes first second bytes → Takes second third (take count piece) → count ≡ 0 → IfSome second (λ left. (count ≡ 0) ↔ (left ≡ [])) → IfSome first (λ text. (bytes ≡ text) × (third ≡ Some []))
whole_text None second third bytes piece count taken more none end = tt
whole_text (Some left) second third bytes piece count taken more none end =
    let rest = taken.0 in
    let empty : rest ≡ [] = (subst (λ (now : Option (List ℕ)). IfSome now (λ xs. (count ≡ 0) ↔ (xs ≡ []))) taken.2 end).0 none in
    let then : Takes (Some rest) third (take count piece) = subst (λ (now : Option (List ℕ)). Takes now third (take count piece)) taken.2 more in
    let same : rest ≡ then.0 = then.1 ∙ ap (λ (n : ℕ). take n piece ++ then.0) none in
    (sym (taken.1 ∙ (ap (λ (xs : List ℕ). bytes ++ xs) empty ∙ append-nil bytes)), then.2 ∙ ap Some (sym same ∙ empty))

-- what was taken with the next piece, for which there was no room
pub take_more : (first second third : Option (List ℕ)) (bytes piece : List ℕ) (count limit before now : ℕ) → Takes first second bytes → Takes second third (take count piece) → count ≤ length piece → length bytes + count ≤ limit → now ≤ before + (length bytes + 1) → (all : List ℕ) × Takes first third all × (length all ≤ limit) × (now ≤ before + (length all + 1))
take_more first second third bytes piece count limit before now taken more room fits steps =
    let len : length (bytes ++ take count piece) ≡ length bytes + count = length-append bytes (take count piece) ∙ ap (λ (n : ℕ). length bytes + n) (length-take-le count piece room) in
    (bytes ++ take count piece, Takes-trans first second third bytes (take count piece) taken more, omega arith, omega arith)

-- what was copied to the front of a buffer from what is behind `given` is taken from there
pub front-copied : (whole shown left into after : List ℕ) (given count : ℕ) → shown ≡ whole → drop given whole ≡ left → count ≤ length (take (length shown - given) (drop given shown)) → after ≡ take count (take (length shown - given) (drop given shown)) ++ drop count into → (rest : List ℕ) × (left ≡ take count after ++ rest) × (Some (drop (given + count) whole) ≡ Some rest)
front-copied whole shown left into after given count same behind fits copied =
    let cut : take (length shown - given) (drop given shown) ≡ drop given shown = search (rules, take_all, length-drop) in
    let seen : take (length shown - given) (drop given shown) ≡ left = cut ∙ (ap (λ (xs : List ℕ). drop given xs) same ∙ behind) in
    let there : count ≤ length left = subst (λ (xs : List ℕ). count ≤ length xs) seen fits in
    let front : after ≡ take count left ++ drop count into = copied ∙ ap (λ (xs : List ℕ). take count xs ++ drop count into) seen in
    let back : take count after ≡ take count left = ap (λ (xs : List ℕ). take count xs) front ∙ take_at (take count left) (drop count into) count (length-take-le count left there) in
    (drop count left, sym (ap (λ (xs : List ℕ). xs ++ drop count left) back ∙ take-append-drop count left), ap Some (sym (drop-drop count given whole) ∙ ap (λ (xs : List ℕ). drop count xs) behind))
