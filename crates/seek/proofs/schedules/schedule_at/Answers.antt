use Rattle.std.proofs.Common.{◌≡◌, ◌∙◌, sym, ap, Some, None}
use Rattle.transform.specs.Scripts.{schedule_of}
use Rattle.seek.specs.ScheduleLists as lists
use Rattle.seek.proofs.ScriptLaws.{has-schedule}
use Rattle.seek.proofs.schedules.schedule_at.Goals as goal

pub unreachable-requires : goal.unreachable-requires
unreachable-requires g c =
    let none : schedule_of g.row.D c.as_slice.result.now ≡ None = sym c.schedule_of.ensures ∙ c.in-None.is in
    let some = ap (schedule_of g.row.D) (c.as_slice.ensures ∙ c.script_at.ensures) ∙ has-schedule g.row.D c.args.place c.requires.some c.requires.few c.requires.inside in
    let both : None ≡ Some (lists.schedule_at g.row.D c.args.place) = sym none ∙ some in
    cc
