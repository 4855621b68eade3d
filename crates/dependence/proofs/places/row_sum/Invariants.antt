use Rattle.std.proofs.Common.{◌≡◌, ◌-◌, ◌*◌, ◌^◌, map, drop}
use Rattle.std.specs.List.{range_with_len}
use Rattle.domain.specs.Tables.{depth}
use Rattle.dependence.specs.Systems.{place_form}
use Rattle.dependence.specs.Legality.{combined}
use Rattle.dependence.specs.Terms.{IsShort}
use Rattle.dependence.proofs.places.row_sum.Given as goal

abbrev pub invariant-loop-place : goal.invariant-loop-place
invariant-loop-place g l = record {
  value : l.sum ≡ combined (depth l.pred) (drop l.place l.row) (map (place_form l.pred l.block) (range_with_len l.place (depth l.pred - l.place)));
  short : IsShort ((g.row.D - l.place) * 2 ^ 83) l.sum;
}
