-- Scalars that are compared one after another.
use Rattle.std.proofs.Common.{◌≡◌, ap, ap₂, ◌∙◌, ℕ, ℤ, suc, pos, ◌+◌, ◌<◌, Bool, true, List, drop, get_or, length, Some, arith}
use Rattle.std.specs.Prelude.{if◌then◌else◌}
use Rattle.std.proofs.lemmas.List.{drop_more}
use Rattle.nest_lang.specs.Values.{same}
use Rattle.follow.specs.declared.how.How.TheVariants.{Scalar}
use Rattle.follow.specs.Hows.{scalars_differ}
use Rattle.follow.proofs.ClosingLaws.{same-self}

-- where the scalar of a number is the expected one, what differs first comes after it
pub differ-after : (ws xs : List ℤ) (n : ℕ) (v : ℤ) → n < length xs → get_or xs n (pos 0) ≡ v → get_or ws n (pos 0) ≡ v → scalars_differ ws n (drop n xs) ≡ scalars_differ ws (n + 1) (drop (n + 1) xs)
differ-after ws xs n v l x w =
    let next : suc n ≡ n + 1 = omega arith in
    let agree : same (get_or xs n (pos 0)) (get_or ws n (pos 0)) ≡ true = ap₂ same x w ∙ same-self v in
    ap (scalars_differ ws n) (drop_more xs n (pos 0) l)
    ∙ ap (λ (b : Bool). if b then scalars_differ ws (suc n) (drop (n + 1) xs) else Some (Scalar n (get_or ws n (pos 0)) (get_or xs n (pos 0)))) agree
    ∙ ap (λ (m : ℕ). scalars_differ ws m (drop (n + 1) xs)) next
