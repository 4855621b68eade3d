use Rattle.std.proofs.Common.{◌≡◌, ◌<◌, sym, ap, ◌∙◌, subst, ℕ, List, ◌++◌, map, FitsSigned, w64, arith, rules}
use Rattle.std.specs.List.{range_with_len}
use Rattle.std.proofs.lemmas.Int.{to_z-of_z}
use Rattle.std.proofs.lemmas.List.FromFn.{map-range_with_len_more}
use Rattle.domain.specs.Tables.{Access}
use Rattle.tiles.specs.declared.strip.Strip.{Strip}
use Rattle.tiles.specs.Strips.{IsStored, offset_at, offset_count, run_strip, strip_of}
use Rattle.tiles.proofs.StripLaws.{strip-access}
use Rattle.tiles.proofs.WordLaws.{strips-some, stripes-push}
use Rattle.tiles.proofs.touching.push_stripes.Goals as goal

pub stripe-requires-clause-stored : goal.stripe-requires-clause-stored
stripe-requires-clause-stored g c =
    let offset : FitsSigned w64 c.offset.result = search rules in
    let is = (simp to_z-of_z at c.of_run-strip.ensures.is) ∙ ap (run_strip c.args.run.now c.in-Some.form) c.offset.ensures.is in
    let below : c.loop-place.place < offset_count c.args.access.now = omega (arith, c.loop-place-test.true, c.width-width.ensures) in
    let line = sym (ap (λ (a : Access). a.line) c.access.view_is) ∙ c.in-Some.is in
    let strip = run_strip c.args.run.now c.in-Some.form (offset_at c.args.access.now c.loop-place.place) in
    subst IsStored (sym is) (c.requires.stored strip (strip-access c.args.run.now c.args.access.now c.in-Some.form c.loop-place.place line below))

pub loop-place-preserved : goal.loop-place-preserved
loop-place-preserved g c =
    let offset : FitsSigned w64 c.offset.result = search rules in
    let is = (simp to_z-of_z at c.of_run-strip.ensures.is) ∙ ap (run_strip c.args.run.now c.in-Some.form) c.offset.ensures.is in
    let f = λ (k : ℕ). run_strip c.args.run.now c.in-Some.form (offset_at c.args.access.now k) in
    ap (map strip_of) c.in_ok-push.ensures.items
    ∙ stripes-push c.loop-place.stripes.items c.stripe.result (map strip_of c.args.stripes.now.items) (map f (range_with_len 0 c.loop-place.place)) (f c.loop-place.place) (c.stripe.ensures ∙ is) c.loop-place.invariant
    ∙ ap (λ (l : List Strip). map strip_of c.args.stripes.now.items ++ l) (sym (map-range_with_len_more f 0 c.loop-place.place c.loop-place.place (omega arith)))

pub returns : goal.returns
returns g c =
    let end : c.loop-place.place ≡ offset_count c.args.access.now = omega (arith, c.loop-place-test.false, c.loop-place.auto.place-end, c.width-width.ensures) in
    let line = sym (ap (λ (a : Access). a.line) c.access.view_is) ∙ c.in-Some.is in
    c.loop-place.invariant
    ∙ ap (λ (l : List Strip). map strip_of c.args.stripes.now.items ++ l)
    (ap (λ (n : ℕ). map (λ (k : ℕ). run_strip c.args.run.now c.in-Some.form (offset_at c.args.access.now k)) (range_with_len 0 n)) end ∙ sym (strips-some c.args.run.now c.args.access.now c.in-Some.form line))
