use Rattle.std.proofs.Common.{◌≡◌, sym, ap, ◌∙◌, subst, ℕ, List, [], ◌∷◌, map, FitsSigned, w64, arith, rules}
use Rattle.std.specs.List.{range_with_len}
use Rattle.std.proofs.lemmas.Int.{to_z-of_z}
use Rattle.domain.specs.Footprints.{Gains}
use Rattle.domain.specs.Tables.{Access}
use Rattle.tiles.specs.declared.strip.Strip.{Strip}
use Rattle.tiles.specs.Strips.{IsWordOf, offset_at, offset_count, run_strip}
use Rattle.tiles.proofs.WordLaws.{strips-some, words-range}
use Rattle.tiles.proofs.touching.push_words.Goals as goal

pub loop-place-preserved : goal.loop-place-preserved
loop-place-preserved g c =
    let offset : FitsSigned w64 c.offset.result = search rules in
    let is = (simp to_z-of_z at c.of_run-strip.ensures.is) ∙ ap (run_strip c.args.run.now c.in-Some.form) c.offset.ensures.is in
    words-range c.args.words (λ (k : ℕ). run_strip c.args.run.now c.in-Some.form (offset_at c.args.access.now k)) c.loop-place.place c.args.list.now.items c.loop-place.list.items c.push_words.new.list.items c.loop-place.invariant
    (subst (λ (s : Strip). Gains (IsWordOf c.args.words (s ∷ [])) c.loop-place.list.items c.push_words.new.list.items) is c.in_ok-push_words.ensures)

pub returns : goal.returns
returns g c =
    let end : c.loop-place.place ≡ offset_count c.args.access.now = omega (arith, c.loop-place-test.false, c.loop-place.auto.place-end, c.width-width.ensures) in
    let line = sym (ap (λ (a : Access). a.line) c.access.view_is) ∙ c.in-Some.is in
    subst (λ (l : List Strip). Gains (IsWordOf c.args.words l) c.args.list.now.items c.loop-place.list.items)
    (ap (λ (n : ℕ). map (λ (k : ℕ). run_strip c.args.run.now c.in-Some.form (offset_at c.args.access.now k)) (range_with_len 0 n)) end ∙ sym (strips-some c.args.run.now c.args.access.now c.in-Some.form line))
    c.loop-place.invariant
