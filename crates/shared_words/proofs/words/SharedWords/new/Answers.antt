use Rattle.std.proofs.Common.{ℕ, [], ◌∷◌, List, Vec, Global, arith, ap, subst, sym, ◌∙◌}
use Rattle.std.specs.Int.{cast_unsigned, w64}
use Rattle.std.proofs.lemmas.List.{length-map}
use Rattle.core_steps.specs.Views.{first_view}
use Rattle.core_steps.specs.States.{memory_of, bits_of}
use Rattle.shared_words.specs.Seats.{IsCoreState}
use Rattle.shared_words.proofs.SeatLaws.{keeps-first}
use Rattle.shared_words.proofs.MainStepLaws.{start-in}
use Rattle.shared_words.proofs.words.SharedWords.new.Goals as goal

pub of_words-requires : goal.of_words-requires
of_words-requires c =
    let row = c.as_slice.ensures.value in
    let start = start-in c.as_slice.result.now (bits_of c.args.words.now) (row ∙ c.in_ok-row.ensures) in
    subst (λ (l : List ℕ). IsCoreState c.as_slice.result.now (first_view (memory_of l) ∷ [])) (row ∙ sym (ap (λ (v : Vec ℕ Global). v.items) c.of.ensures)) start.kept

pub first-requires-clause-keeps : goal.first-requires-clause-keeps
first-requires-clause-keeps c =
    let told = c.in_ok-table.ensures in let row = c.as_slice.ensures.value in
    let start = start-in c.as_slice.result.now (bits_of c.args.words.now) (row ∙ c.in_ok-row.ensures) in
    let key = ap (λ (l : List ℕ). memory_of l) (ap (λ (v : Vec ℕ Global). v.items) c.of.ensures ∙ sym row) ∙ start.memory-is in
    keeps-first c.in_ok-table.table.shared.table_id c.in_ok-table.seat.table_id c.in_ok-table.seat.me (bits_of c.args.words.now) (told.0 ∙ start.width) told.2 (told.4 ∙ ap (λ (l : List ℕ). (first_view l, [])) key)

pub invariant_of-result : goal.invariant_of-result
invariant_of-result c =
    let told = c.in_ok-table.ensures in let few = c.requires in
    let start = start-in c.as_slice.result.now (bits_of c.args.words.now) (c.as_slice.ensures.value ∙ c.in_ok-row.ensures) in
    let wide = told.0 ∙ start.width in let len = length-map c.args.words.now (cast_unsigned w64) in
    (omega arith, omega arith)
