-- What one command makes of a draft.
use Rattle.std.proofs.Common.{◌≡◌, refl, sym, ap, ap₂, ◌∙◌, ℕ, ◌<◌, ◌≤◌, ◌+◌, ◌-◌, ℤ, Bool, true, false, not, ◌&&◌, cond, List, Some, None, unsigned_abs}
use Rattle.std.specs.Prelude.{nat_eq, nat_lt}
use Rattle.std.proofs.Math.Bool.{or-false}
use Rattle.std.proofs.lemmas.Bool.{and_from, le-leb, lt-ltb}
use Rattle.nest_lang.specs.declared.command.Command.TheVariants.{Skew}
use Rattle.affine.specs.Matrices.{skew}
use Rattle.transform.specs.Drafts.{Draft, drafted, extended, has_room}
use Rattle.transform.specs.Scripts.{is_row, keeps_rule}

not-and-false : (b : Bool) → not (b && false) ≡ true
not-and-false true = refl
not-and-false false = refl

pub drafted-skew : (n : ℕ) (d : Draft) (a b i j : ℕ) (m : ℤ) (rows : List (List ℤ)) → ((is_row n a && is_row n b) && not (nat_eq a b)) ≡ true → unsigned_abs m ≤ 8 → d.skews < 6
    → i ≡ a - 1 → j ≡ b - 1 → rows ≡ skew d.parts.rows i j m
    → drafted n d (Skew a b m) ≡ Some (record { parts = record { rows = rows; seq = d.parts.seq; sizes = d.parts.sizes; parallel = d.parts.parallel }; led = d.led; skews = d.skews + 1 })
drafted-skew n d a b i j m rows apart factor few at-a at-b is =
    let c = Skew a b m in
    let keeps : keeps_rule n c ≡ true = and_from _ _ apart (le-leb (unsigned_abs m) 8 factor) in
    let room : has_room d c ≡ true = and_from (not (d.led && false)) (nat_lt d.skews 6) (not-and-false d.led) (lt-ltb d.skews 6 few) in
    let same : skew d.parts.rows (a - 1) (b - 1) m ≡ rows = ap₂ (λ k l. skew d.parts.rows k l m) (sym at-a) (sym at-b) ∙ sym is in
    ap (λ o. cond o (Some (extended d c)) None) (and_from (keeps_rule n c) (has_room d c) keeps room)
    ∙ ap₂ (λ led made. Some (record { parts = record { rows = made; seq = d.parts.seq; sizes = d.parts.sizes; parallel = d.parts.parallel }; led = led; skews = d.skews + 1 })) (or-false d.led) same
