use Rattle.std.proofs.Common.{◌≡◌, ◌∙◌, ap, get_or, to_z, of_z}
use Rattle.std.proofs.lemmas.Int.{to_z-of_z}
use Rattle.std.specs.Int.{w64, cast_signed}
use Rattle.chunk_run.proofs.KeptWordLaws.{kept-more}
use Rattle.chunk_run.proofs.keep.keep.Goals as goal

pub loop-k-preserved : goal.loop-k-preserved
loop-k-preserved c =
    let base = c.args.main.now.view.base in
    let value : c.load-value.result ≡ cast_signed w64 (get_or base c.address-address.result 0) =
    c.load-value.ensures.value ∙ ap (λ m. cast_signed w64 (get_or m.view.base c.address-address.result 0)) c.loop-k.invariant.0 in
    let round : to_z w64 (of_z w64 c.load-value.result) ≡ c.load-value.result = to_z-of_z w64 c.load-value.result (record { sfits = c.load-value.type_inv }) in (
      c.load-value.ensures.unchanged ∙ c.loop-k.invariant.0,
      c.loop-k.invariant.1,
      kept-more c.args.kept.now.items c.loop-k.kept.items c.push.new.self.items c.args.stripe base c.loop-k.k c.address-address.result (to_z w64 (of_z w64 c.load-value.result)) c.loop-k.invariant.2 c.in_ok-push.ensures.items c.address-address.ensures (round ∙ value),
    )
