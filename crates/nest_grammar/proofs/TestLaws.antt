-- Tests: what the tests of the readings tell of numbers and tokens.
use Rattle.std.proofs.Common.{◌≡◌, ℕ, refl, ap, Some, None, true, false, cond}
use Rattle.std.specs.Prelude.{◌≢◌, ◌==◌, not}
use Rattle.std.proofs.lemmas.Bool.{eq-eqb, eqb-true}
use Rattle.nest_tokens.specs.declared.token.Mark.{Mark}
use Rattle.nest_tokens.specs.Tokens.{is_mark}
use Rattle.nest_tokens.proofs.MarkLaws.{is_mark-true}
use Rattle.nest_grammar.specs.Sights.{Sight, stands, Sees}
use Rattle.nest_grammar.specs.Readings.{at_mark}
use Rattle.nest_grammar.proofs.ReadingLaws.{sees-is}

pub not-equal : (a b : ℕ) → a ≢ b → not (a == b) ≡ true
not-equal a b h = elim (a == b) as (λ c. (a == b) ≡ c → not c ≡ true) [ true ↦ λ e. absurd (h (eqb-true a b e)) | false ↦ λ e. refl ] refl

pub equal-not : (a b : ℕ) → not (a == b) ≡ true → a ≢ b
equal-not a b h = λ e. (let k : not (a == b) ≡ false = ap not (eq-eqb a b e) in cc)

-- this sign or word stands here, and another part begins
pub mark-begins : (m : Mark) (s : Sight) → Sees m s → at_mark m (stands s) ≡ Some tt
mark-begins m s h = let e = sees-is m s h in rw e

pub mark-sees : (m : Mark) (s : Sight) (u : Unit {0}) → at_mark m (stands s) ≡ Some u → Sees m s
mark-sees m s u h = elim (is_mark m (stands s)) as (λ b. is_mark m (stands s) ≡ b → cond b (Some (tt {0})) None ≡ Some u → Sees m s) [ true ↦ λ e k. is_mark-true m (stands s) e | false ↦ λ e k. absurd (cc) ] refl h
