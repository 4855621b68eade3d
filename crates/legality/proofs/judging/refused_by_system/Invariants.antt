use Rattle.std.proofs.Common.{◌≡◌, ◌-◌, None, take}
use Rattle.std.specs.List.{flat_map, range_with_len}
use Rattle.legality.specs.Judgements.{first_refusal}
use Rattle.legality.proofs.RefusalLaws.{row_trials}
use Rattle.legality.proofs.judging.refused_by_system.Given as goal

abbrev pub invariant-loop-row : goal.invariant-loop-row
invariant-loop-row g l = first_refusal l.pred l.schedule (flat_map (row_trials l.schedule l.system) (take (l.row - 1) (range_with_len 1 g.row.D))) ≡ None
