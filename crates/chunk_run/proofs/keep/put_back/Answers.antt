use Rattle.std.proofs.Common.{◌∙◌, ap, ℤ, set, FitsSigned, rules}
use Rattle.std.specs.Int.{w64, cast_unsigned}
use Rattle.std.proofs.lemmas.Int.{to_z-of_z}
use Rattle.core_steps.specs.declared.view.View.{View}
use Rattle.shared_words.specs.Memories.{signed}
use Rattle.chunk_run.proofs.StoringBackLaws.{signed-set}
use Rattle.chunk_run.proofs.keep.put_back.Goals as goal

pub returns-clause-word : goal.returns-clause-word
returns-clause-word c =
    let v = c.args.main.now.view in let x = c.args.word.now.value in
    let fits : FitsSigned w64 x = search rules in
    ap (λ (v : View). signed v.base) c.store.ensures.view ∙ ap (λ (z : ℤ). signed (set v.base c.args.word.now.address (cast_unsigned w64 z))) (to_z-of_z w64 x fits) ∙ signed-set v.base c.args.word.now.address x fits
