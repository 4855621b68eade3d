use Rattle.std.proofs.Common.{◌≡◌, ◌∙◌, ◌∷◌, Some, ap, sym, pos}
use Rattle.nest_lang.specs.declared.command.Command.TheVariants.{Seq}
use Rattle.transform.specs.Drafts.{drafted, new_draft}
use Rattle.transform.specs.Standards.{parallel_row, tiles}
use Rattle.transform.proofs.ScriptLaws.{drafted_all-goes}
use Rattle.transform.proofs.standards.second_parallel.Goals as goal

pub returns : goal.returns
returns g c =
    let n = g.row.D in
    let first : drafted n (new_draft n) (Seq 1) ≡ Some c.in_ok-draft.draft = ap (λ d. drafted n d (Seq 1)) (sym c.new.ensures) ∙ sym c.in_ok-draft.ensures in
    let second : drafted n c.in_ok-draft.draft (parallel_row 2) ≡ Some c.in_ok-draft-2.draft = ap (drafted n c.in_ok-draft.draft) (sym c.parallel.ensures) ∙ sym c.in_ok-draft-2.ensures in
    c.tiled.ensures
    ∙ sym (drafted_all-goes n (new_draft n) c.in_ok-draft.draft (Seq 1) (parallel_row 2 ∷ tiles 2 n (pos 8)) first
    ∙ drafted_all-goes n c.in_ok-draft.draft c.in_ok-draft-2.draft (parallel_row 2) (tiles 2 n (pos 8)) second)
