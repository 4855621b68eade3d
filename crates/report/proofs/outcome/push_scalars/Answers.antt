use Rattle.std.proofs.Common.{◌≡◌, ◌∙◌, ◌<◌, ap, sym, Some, option_map, length, rules}
use Rattle.std.specs.Prelude.{slice_get}
use Rattle.nest_text.specs.Files.{scalar_names}
use Rattle.report.proofs.ScalarLaws.{lines-next}
use Rattle.report.proofs.outcome.push_scalars.Goals as goal

pub scalars-preserved : goal.scalars-preserved
scalars-preserved c =
    let names = scalar_names c.args.file.now in
    let here : slice_get names c.scalars.number ≡ Some c.in-Some.name.now = sym c.scalar_name.ensures ∙ ap (option_map (λ n. n.now)) c.in-Some.is in
    let below : c.scalars.number < length c.args.values.now = search rules in
    lines-next names c.args.values.now c.scalars.number c.in-Some.name.now _ _ _ here below (c.in_ok-writeln.ensures.bytes) c.scalars.invariant
