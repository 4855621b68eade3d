use Rattle.std.proofs.Common.{◌≡◌, ◌∙◌, ap, sym, subst, ℕ, ◌<◌, List, length, arith}
use Rattle.std.specs.List.{All}
use Rattle.shared_words.specs.Memories.{signed}
use Rattle.chunk_run.specs.declared.keep.Kept.{Kept}
use Rattle.tiles.specs.Stripes.{addresses_of_all}
use Rattle.chunk_run.specs.Backups.{HasOneValueEach, addresses_kept}
use Rattle.chunk_run.proofs.KeptWordLaws.{one-value-each, addresses_kept-words_at, words-within, kept-all}
use Rattle.chunk_run.proofs.keep.take.Goals as goal

pub invariant_of-result : goal.invariant_of-result
invariant_of-result c = subst HasOneValueEach (sym c.loop-stripe.invariant.1) (one-value-each _ _)

pub returns-clause-addresses : goal.returns-clause-addresses
returns-clause-addresses c =
    let m = signed c.args.main.now.view.base in
    let all = kept-all m c.args.stripes.now c.loop-stripe.stripe-index c.loop-stripe.kept.items c.loop-stripe.invariant.1 (omega (arith, c.loop-stripe-test.false)) in
    ap addresses_kept all ∙ addresses_kept-words_at m (addresses_of_all c.args.stripes.now)

pub returns-clause-words : goal.returns-clause-words
returns-clause-words c =
    let m = signed c.args.main.now.view.base in let n = length c.args.main.now.view.base in
    let all = kept-all m c.args.stripes.now c.loop-stripe.stripe-index c.loop-stripe.kept.items c.loop-stripe.invariant.1 (omega (arith, c.loop-stripe-test.false)) in
    let same : length c.loop-stripe.main.view.base ≡ n = ap (λ s. length s.view.base) c.loop-stripe.invariant.0 in
    subst (λ (k : ℕ). All (λ word. word.address < k) c.loop-stripe.kept.items) (sym same)
    (subst (λ (ks : List Kept). All (λ word. word.address < n) ks) (sym all) (words-within n m c.args.stripes.now c.requires.within))
