use Rattle.std.proofs.Common.{◌≡◌, sym, subst, inr, List, ◌∷◌}
use Rattle.level_walk.specs.declared.merges.Best.{Best}
use Rattle.level_walk.specs.declared.scans.BlockScan.{BlockScan}
use Rattle.level_walk.specs.Merges.{AllOrdered, merged}
use Rattle.level_walk.specs.Walks.{AllStand, all_left}
use Rattle.plain_lemmas.specs.Lists.{Has}
use Rattle.skeletons.proofs.tile_walk.Places.next.Goals as goal

pub returns-clause-stands : goal.returns-clause-stands
returns-clause-stands g c =
    let s = c.requires.stands in
    let b = c.as_slice.ensures.value in
    let old = c.args.self.now in
    record {
      frame = s.frame;
      few = s.few;
      inside = s.inside;
      stand = subst (λ (bs : List BlockScan). AllStand old.lows old.highs bs c.next.new.states) b c.next.ensures.stand;
      ordered = subst (λ (bs : List BlockScan). AllOrdered (all_left old.lows old.highs bs c.next.new.states)) b c.next.ensures.ordered;
      places = λ best h. s.places best (subst (λ (xs : List Best). Has xs best)
          (sym (subst (λ (bs : List BlockScan). merged (all_left old.lows old.highs bs old.states) ≡ c.in_ok-best.best ∷ merged (all_left old.lows old.highs bs c.next.new.states)) b c.in_ok-best.ensures.some)) (inr h));
    }
