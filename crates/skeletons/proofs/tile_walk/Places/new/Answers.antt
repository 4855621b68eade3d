use Rattle.std.proofs.Common.{ap, subst, ℤ, pos, List, map, replicate, arith}
use Rattle.level_walk.specs.declared.merges.Best.{Best}
use Rattle.plain_lemmas.specs.Lists.{Has}
use Rattle.level_walk.proofs.NewWalkLaws.{IsEnded, ended-ordered, ended-stands, nothing-merged, zeros-box}
use Rattle.skeletons.specs.Cells.{Extent}
use Rattle.skeletons.specs.Frames.{instance_at}
use Rattle.skeletons.proofs.tile_walk.Places.new.Goals as goal

pub returns-clause-stands : goal.returns-clause-stands
returns-clause-stands g c =
    let e : IsEnded c.ended.result = record { place = c.ended.ensures.place; run = c.ended.ensures.run; head = c.ended.ensures.head; depth = c.ended.ensures.depth; width = c.ended.ensures.width } in
    let zeros : List ℤ = replicate g.row.D (pos 0) in
    record {
      frame = c.requires.frame;
      few = let f = c.requires.few in omega (arith, f);
      inside = zeros-box g.row.D;
      stand = ended-stands g.row.D zeros zeros c.args.frame.now.blocks.items _ c.requires.frame.scans.all (e, (e, (e, (e, (e, (e, (e, (e, (e, (e, (e, (e, (e, (e, (e, (e, (e, (e, tt))))))))))))))))));
      ordered = ended-ordered zeros zeros c.args.frame.now.blocks.items _ (e, (e, (e, (e, (e, (e, (e, (e, (e, (e, (e, (e, (e, (e, (e, (e, (e, (e, tt))))))))))))))))));
      places = λ best h. absurd (subst (λ (xs : List Best). Has xs best) (nothing-merged zeros zeros c.args.frame.now.blocks.items _ (e, (e, (e, (e, (e, (e, (e, (e, (e, (e, (e, (e, (e, (e, (e, (e, (e, (e, tt))))))))))))))))))) h);
    }

pub returns-clause-rest : goal.returns-clause-rest
returns-clause-rest g c =
    let e : IsEnded c.ended.result = record { place = c.ended.ensures.place; run = c.ended.ensures.run; head = c.ended.ensures.head; depth = c.ended.ensures.depth; width = c.ended.ensures.width } in
    let zeros : List ℤ = replicate g.row.D (pos 0) in
    let f = c.args.frame.now in
    let extent : Extent = record { table = f.pred.now; schedule = f.schedule.now; chunk = f.chunk } in
    ap (map (instance_at extent f.inverse)) (nothing-merged zeros zeros f.blocks.items _ (e, (e, (e, (e, (e, (e, (e, (e, (e, (e, (e, (e, (e, (e, (e, (e, (e, (e, tt)))))))))))))))))))
