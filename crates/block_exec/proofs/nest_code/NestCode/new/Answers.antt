use Rattle.std.proofs.Common.{◌≡◌, ◌∙◌, refl, ap, sym, ◌+◌, ◌++◌, [], ◌∷◌, length, length-append}
use Rattle.block_exec.proofs.NestCodeLaws.{are-next}
use Rattle.block_exec.proofs.nest_code.NestCode.new.Goals as goal

pub loop-one-preserved : goal.loop-one-preserved
loop-one-preserved c =
    let before = c.loop-one.invariant in
    let pushed = c.in_ok-push.ensures.ok in
    let within = rw c.as_slice-one-items.ensures at c.loop-one-test.true in
    let item = rw c.as_slice-one-items.ensures at c.one-item.is in
    let last = c.in_ok-code.code ∷ [] in
    record {
      codes = rw pushed (are-next c.args.nest.now.loops c.loop-one.loops c.loop-one.one-index c.one-item.result c.in_ok-code.code within item before.count before.codes c.in_ok-code.ensures);
      count = ap length pushed ∙ length-append c.loop-one.loops last ∙ ap (λ n. n + 1) before.count;
    }
