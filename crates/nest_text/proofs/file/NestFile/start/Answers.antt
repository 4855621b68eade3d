use Rattle.std.proofs.Common.{◌≡◌, ◌∙◌, ◌≤◌, ℤ, List, length, map, ap, arith}
use Rattle.std.proofs.lemmas.List.{length-map}
use Rattle.nest_grammar.specs.declared.file.Scalar.{Scalar}
use Rattle.nest_grammar.proofs.RuleLaws.{reading-keeps}
use Rattle.nest_text.proofs.file.NestFile.start.Goals as goal

pub first_memory-requires : goal.first_memory-requires
first_memory-requires c = reading-keeps c.self.invariant.0 c.self.inside.file c.self.invariant.1

pub returns-clause-scalars : goal.returns-clause-scalars
returns-clause-scalars c =
    let few : length c.self.inside.file.scalars ≤ 16 = (reading-keeps c.self.invariant.0 c.self.inside.file c.self.invariant.1).few_scalars in
    let same : length c.in_ok-first_scalars.field-0.items ≡ length (map (λ (s : Scalar). s.value) c.self.inside.file.scalars) = ap (λ (l : List ℤ). length l) (c.in_ok-first_scalars.ensures ∙ ap (map (λ (s : Scalar). s.value)) c.as_slice.ensures) in
    let kept : length (map (λ (s : Scalar). s.value) c.self.inside.file.scalars) ≡ length c.self.inside.file.scalars = length-map c.self.inside.file.scalars (λ (s : Scalar). s.value) in
    omega arith
