use Rattle.std.proofs.Common.{sym, ap, ◌∙◌, subst, List, [], ◌++◌, map, take, rules}
use Rattle.std.specs.List.{flat_map}
use Rattle.domain.specs.Footprints.{Gains}
use Rattle.tiles.specs.declared.strip.Strip.{Strip}
use Rattle.tiles.specs.Strips.{IsListOfWords, IsWordOf, loads_of_run, stores_of_run, strip_of}
use Rattle.tiles.proofs.WordLaws.{flat-all, flat-more, get_or-has, strips-append, words-list, words-more}
use Rattle.tiles.proofs.touching.tile_of_runs.Goals as goal

pub gain_run-requires : goal.gain_run-requires
gain_run-requires g c = (search rules, (search rules, (c.requires.few, c.requires.runs c.run-item.result (get_or-has c.args.runs.now c.loop-run.run-index c.run-item.result c.loop-run-test.true c.run-item.is))))

pub loop-run-preserved : goal.loop-run-preserved
loop-run-preserved g c =
    let items = c.args.runs.now in
    let n = c.loop-run.run-index in
    let x = c.run-item.result in
    let t = c.args.pred.now in
    record {
      reads = words-more c.args.words (loads_of_run t) items n x [] c.loop-run.touching.reads.items c.gain_run.new.self.reads.items c.loop-run-test.true c.run-item.is c.loop-run.invariant.reads c.in_ok-gain_run.ensures.reads;
      writes = words-more c.args.words (stores_of_run t) items n x [] c.loop-run.touching.writes.items c.gain_run.new.self.writes.items c.loop-run-test.true c.run-item.is c.loop-run.invariant.writes c.in_ok-gain_run.ensures.writes;
      stripes = strips-append (map strip_of c.args.stripes.now.items) (flat_map (stores_of_run t) (take n items)) (stores_of_run t x) (map strip_of c.loop-run.stripes.items) (map strip_of c.gain_run.new.stripes.items) c.loop-run.invariant.stripes c.in_ok-gain_run.ensures.stripes
          ∙ ap (λ (l : List Strip). map strip_of c.args.stripes.now.items ++ l) (sym (flat-more (stores_of_run t) items n x c.loop-run-test.true c.run-item.is));
    }

pub returns-clause-reads : goal.returns-clause-reads
returns-clause-reads g c =
    let strips = flat_map (loads_of_run c.args.pred.now) c.args.runs.now in
    let gained = subst (λ (l : List Strip). Gains (IsWordOf c.args.words l) [] c.loop-run.touching.reads.items) (flat-all (loads_of_run c.args.pred.now) c.args.runs.now c.loop-run.run-index c.loop-run-test.false) c.loop-run.invariant.reads in
    subst (IsListOfWords c.args.words strips) (sym c.new.ensures.reads) (words-list c.args.words strips c.loop-run.touching.reads.items c.in_order.result.items gained c.in_order.ensures.rising c.in_order.ensures.has)

pub returns-clause-writes : goal.returns-clause-writes
returns-clause-writes g c =
    let strips = flat_map (stores_of_run c.args.pred.now) c.args.runs.now in
    let gained = subst (λ (l : List Strip). Gains (IsWordOf c.args.words l) [] c.loop-run.touching.writes.items) (flat-all (stores_of_run c.args.pred.now) c.args.runs.now c.loop-run.run-index c.loop-run-test.false) c.loop-run.invariant.writes in
    subst (IsListOfWords c.args.words strips) (sym c.new.ensures.writes) (words-list c.args.words strips c.loop-run.touching.writes.items c.in_order-2.result.items gained c.in_order-2.ensures.rising c.in_order-2.ensures.has)
