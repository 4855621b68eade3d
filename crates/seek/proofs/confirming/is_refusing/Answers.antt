use Rattle.std.proofs.Common.{◌≡◌, refl, Bool, true}
use Rattle.std.specs.Prelude.{◌↔◌}
use Rattle.fourier_motzkin.specs.declared.verdicts.Ruling.{Ruling}
use Rattle.fourier_motzkin.specs.declared.verdicts.Ruling.TheVariants.{Empty, Maybe, Wide}
use Rattle.fourier_motzkin.specs.contracts.verdicts.Ruling.{the_type}
use denote.Enum.Bare.{sameb}
use Rattle.seek.specs.Confirmations.{IsRefusing}
use Rattle.seek.proofs.confirming.is_refusing.Goals as goal

same-by : (found verdict : Ruling) (b : Bool) → b ≡ sameb the_type found verdict → (verdict ≡ Empty → ⊥) → (b ≡ true) ↔ IsRefusing verdict found
same-by Empty Empty b e other = absurd (other refl)
same-by Maybe Empty b e other = absurd (other refl)
same-by Wide Empty b e other = absurd (other refl)
same-by Maybe Maybe b e other = (λ f. record { same = refl; other = other }, λ h. e)
same-by Wide Wide b e other = (λ f. record { same = refl; other = other }, λ h. e)
same-by Empty Maybe b e other = (λ f. cc, λ h. let s = h.same in cc)
same-by Empty Wide b e other = (λ f. cc, λ h. let s = h.same in cc)
same-by Maybe Wide b e other = (λ f. cc, λ h. let s = h.same in cc)
same-by Wide Maybe b e other = (λ f. cc, λ h. let s = h.same in cc)

pub returns-in-Empty : goal.returns-in-Empty
returns-in-Empty c = (λ e. cc, λ h. absurd (h.other c.in-Empty.is))

pub returns-in_default : goal.returns-in_default
returns-in_default c = same-by c.args.found c.args.verdict _ c.eq.ensures c.in_default.not-Empty
