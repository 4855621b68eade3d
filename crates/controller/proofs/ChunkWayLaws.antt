-- A chunk, as a way from stage to stage.
use Rattle.std.proofs.Common.{◌≡◌, refl, ap, ◌∙◌, sym, subst, ℕ, ◌+◌, ◌-◌, ◌<◌, ◌≤◌, ℤ, pos, List, [], ◌∷◌, ◌++◌, append_assoc, append-nil, length, true, false, Option, Some, Ok, unsigned_abs, ◌≤ℤ◌, w64, to_z, of_z, arith}
use Rattle.std.specs.Prelude.{slice_get}
use Rattle.nest_lang.specs.declared.tree.Loop.{Loop}
use Rattle.nest_lang.specs.declared.state.Outer.{Outer}
use Rattle.nest_lang.specs.declared.budget.Ending.TheVariants.{Ended}
use Rattle.nest_lang.specs.Stores.{Store, store_of}
use Rattle.nest_lang.specs.Lookups.{plain}
use Rattle.nest_lang.specs.Traces.{Finish, Done, Cut, cut, cut_of, seen_in}
use Rattle.nest_lang.specs.Turns.{turns_trace, turns_later, IsPositionIn}
use Rattle.plain_interp.proofs.OuterTurnLaws.{position-later}
use Rattle.block_exec.specs.Moments.{moment}
use Rattle.block_exec.specs.Watches.{Chain}
use Rattle.transform.specs.Schedules.{Schedule}
use Rattle.domain.specs.declared.chunk.Chunk.{Chunk}
use Rattle.domain.specs.Tables.{Table}
use Rattle.domain.specs.Instances.{Instance}
use Rattle.domain.specs.declared.held.HeldWhy.{HeldWhy}
use Rattle.domain.specs.Launches.{IsHeld, IsLaunched}
use Rattle.follow.specs.declared.how.How.{How}
use Rattle.follow.specs.ChunkRuns.{ChunkRun}
use Rattle.follow.specs.Deviations.{Deviation, FollowsPrediction, IsDeviation}
use Rattle.follow.specs.Hows.{how_of}
use Rattle.follow.proofs.DeviatingLaws.{not-both}
use Rattle.follow_chunk.specs.declared.task.Deviation as code
use Rattle.follow_chunk.specs.Predicted.{forecast_of}
use Rattle.skeletons.specs.Cells.{Extent}
use Rattle.compare.specs.ChainLaw.{run_of_chunk}
use Rattle.compare.specs.Comparisons.{Comparison, MayCompare, fresh}
use Rattle.compare.specs.Compared.{IsFirstDeviation, IsDeviationOf, instance_in}
use Rattle.compare.proofs.KeptLaws.{runs-show-values}
use Rattle.chunk_run.specs.declared.run.ChunkEnd.{ChunkEnd}
use Rattle.chunk_run.specs.declared.run.ChunkEnd.TheVariants.{Committed, RolledBack}
use Rattle.chunk_run.specs.Groups.{GainsGroup}
use Rattle.crew.specs.declared.handed.Handed.{Handed}
use Rattle.chunk_run.specs.ChunkEnds.{IsCommitted, IsRolledBack, store_in}
use Rattle.profile.specs.FirstProfiles.{has_turn}
use Rattle.report.specs.declared.line.Line.{Line}
use Rattle.report.specs.declared.line.Line.TheVariants as said
use Rattle.journeys.specs.Settings.{Setting, Moment, Ran, plain_turns, next_turns, chunk_turns, next_chunk, words_at}
use Rattle.journeys.specs.Tellings.{held_line, rollback_line, commit_line}
use Rattle.journeys.specs.Stages as stages
use Rattle.journeys.specs.Stages.{Leads, Reaches, ChunkLeads, chunk_run_from, DeviatesAt, FollowsIt}
use Rattle.journeys.specs.Stages.Leads.{chunk, no_chunk}
use Rattle.journeys.specs.Stages.Reaches.{begun, then}
use Rattle.journeys.specs.Stages.ChunkLeads.{held, rolled_back, committed}
use Rattle.journeys.specs.HandedRecords.{Launched, launched_at}
use Rattle.journeys.proofs.HandedLaws.{launches-more, record-one}
use Rattle.controller.specs.declared.stage.Chosen.{Chosen}
use Rattle.controller.specs.declared.stage.Stage.{Stage}
use Rattle.controller.specs.declared.stage.Stage.TheVariants.{Chunks, Plainly, Over}
use Rattle.controller.specs.Machines.{IsPlaced, HasRun, HandsOver, HavePosted, MachineState, Posts, between_at}
use Rattle.controller.specs.Courses.{IsSetting, IsChosen, BrokeOff, Led, LedWith, given_up, kept_on, stage_of}
use Rattle.controller.proofs.NextChunkLaws.{chunk-some, turns-are}
use Rattle.controller.proofs.PlainTurnLaws.{ending-alone, ran-took, placed-i64s, placed-on}

abbrev one-step : (g : Setting) (from to : stages.Stage) (m after : Moment) (lines : List Line) → Leads g from m lines to after → Reaches g from m lines to after
one-step g from to m after lines way = then [] lines from to m after begun way

-- a way and then another
pub led-more : {D : ℕ} (g : Setting) (from mid to : Stage D) (m there after : Moment) (before lines more : List Line) (chunks further : List Launched)
    → Led g from m before mid there lines chunks → Led g mid there lines to after more further → Led g from m before to after more (chunks ++ further)
led-more g from mid to m there after before lines more chunks further a b = record {
  told = a.told ++ b.told;
  are = b.are ∙ ap (λ (ls : List Line). ls ++ b.told) a.are ∙ append_assoc before a.told b.told;
  reaches = launches-more g (stage_of from) m (stage_of mid) there a.told b.told (stage_of to) after chunks further a.reaches b.reaches;
  nearer = let first = a.nearer in let second = b.nearer in omega (arith, first, second);
  due = b.due;
  turn = b.turn;
  placed = b.placed;
}

-- where a `for` has no turn left, the run has ended
pub ended-led : {D : ℕ} (g : Setting) (m : Moment) (chosen : Chosen D) (before : List Line) → IsPlaced g m → has_turn m.outer.left ≡ false → Led g (Chunks chosen) m before (Over Ended) m before []
ended-led g m chosen before p off = record {
  told = [];
  are = sym (append-nil before);
  reaches = (one-step g (stages.Chunks chosen.pred chosen.number) (stages.Over Done) m m [] (no_chunk chosen.pred chosen.number m off), refl);
  nearer = omega arith;
  due = tt;
  turn = tt;
  placed = p;
}

module _ {D : ℕ} (g : Setting) (m : Moment) (set : IsSetting D g) (p : IsPlaced g m) (on : has_turn m.outer.left ≡ true) (chosen : Chosen D) (before lines : List Line) where
  abbrev here : stages.Stage
  here = stages.Chunks chosen.pred chosen.number

  abbrev plain-stage : stages.Stage
  plain-stage = stages.Plainly (chunk_turns g m)

  -- the turns of the chunk follow in original order
  plainly-led : (line : Line) → lines ≡ before ++ line ∷ [] → (leads : ChunkLeads chosen.pred chosen.number g m (line ∷ []) plain-stage m) → Led g (Chunks chosen) m before (Plainly (chunk_turns g m)) m lines (launched_at leads)
  plainly-led line are leads = record {
    told = line ∷ [];
    are = are;
    reaches = (one-step g here plain-stage m m (line ∷ []) (chunk chosen.pred chosen.number m m (line ∷ []) plain-stage on leads), refl);
    nearer = omega arith;
    due = chunk-some g m set p on;
    turn = on;
    placed = p;
  }

  -- a chunk is held
  pub held-led : (at : Instance) (why : HeldWhy) → IsHeld chosen.pred (words_at m) (next_chunk g m) at why → lines ≡ before ++ held_line g m at why ∷ [] → Led g (Chunks chosen) m before (Plainly (chunk_turns g m)) m lines []
  held-led at why is are = plainly-led (held_line g m at why) are (held at why is)

  -- a chunk is rolled back
  pub rolled-led : (s : Schedule) (at : Instance) (how : How) (instances : ℕ) → slice_get g.candidates (chosen.number - 1) ≡ Some s
      → IsLaunched chosen.pred (words_at m) (next_chunk g m) instances → DeviatesAt chosen.pred g m at how → lines ≡ before ++ rollback_line g m at how ∷ []
      → Led g (Chunks chosen) m before (Plainly (chunk_turns g m)) m lines (given_up chosen.pred s (next_chunk g m))
  rolled-led s at how instances which launched deviates are = plainly-led (rollback_line g m at how) are (rolled_back s instances at how which launched deviates)

-- ---- committed

no-locals : (s : Store) → s.locals ≡ [] → store_of s.memory s.scalars [] ≡ s
no-locals s none = ap (λ (ls : List ℤ). store_of s.memory s.scalars ls) (sym none)

abbrev extent-of : Table → Schedule → Chunk → Extent
extent-of t s k = record { table = t; schedule = s; chunk = k }

abbrev extent : Table → Schedule → Setting → Moment → Extent
extent t s g m = extent-of t s (next_chunk g m)

-- a committed chunk was run in original order
committed-ran : (t : Table) (s : Schedule) (g : Setting) (m after : Moment) (instances phases tiles steps : ℕ) → m.store.locals ≡ [] → after.store.locals ≡ []
    → IsCommitted (extent t s g m) g.loops m.outer (between_at m) (between_at after) instances phases tiles steps → after.outer ≡ turns_later m.outer (chunk_turns g m) → Ran g m (chunk_turns g m) (chunk_turns g m) Done after
committed-ran t s g m after instances phases tiles steps none still h outer = record {
  whole = λ k few. record {
    within = omega arith;
    done = sym (ending-alone (plain_turns g k m (chunk_turns g m) m.store) m.store m.left m.used) ∙ sym (ap (λ (c : Cut). c.ending) (ran k few));
    most = λ i less most done. absurd (omega (arith, less, most));
  };
  cut = ran;
  outer = outer;
}
  where
    ran : (k : ℕ) → m.left < k → cut_of after.store after.left after.used Done ≡ cut (plain_turns g k m (chunk_turns g m) m.store) m.store m.left m.used
    ran k few =
        let led = h.plain k few in
        subst (λ (u : Store). cut_of u after.left after.used Done ≡ cut (plain_turns g k m (chunk_turns g m) m.store) m.store m.left m.used) (no-locals after.store still)
        (subst (λ (u : Store). cut_of (store_in (between_at after)) after.left after.used Done ≡ cut (plain_turns g k m (chunk_turns g m) u) u m.left m.used) (no-locals m.store none) (sym led))

-- a state between two turns has no locals, so it is followed from the moment
committed-follows : (t : Table) (s : Schedule) (g : Setting) (m after : Moment) (instances phases tiles steps : ℕ) → m.store.locals ≡ []
    → IsCommitted (extent t s g m) g.loops m.outer (between_at m) (between_at after) instances phases tiles steps → FollowsIt t g m
committed-follows t s g m after instances phases tiles steps none h =
    let few : m.left < m.left + 1 = omega arith in
    subst (λ (u : Store). FollowsPrediction (forecast_of t) (run_of_chunk t (next_chunk g m) (turns_trace plain (m.left + 1) g.loops m.outer (chunk_turns g m) u) u m.left)) (no-locals m.store none) (h.follows (m.left + 1) few)

-- a chunk that was rolled back doesn't follow its prediction
pub rolled-back-deviates : (t : Table) (s : Schedule) (g : Setting) (m : Moment) (x : Setting) (k : Chunk) → x ≡ g → k ≡ next_chunk g m → m.store.locals ≡ []
    → IsRolledBack (extent-of t s k) x.loops m.outer (between_at m) (between_at m) → FollowsIt t g m → ⊥
rolled-back-deviates t s g m x k here next none h follows =
    let few : m.left < m.left + 1 = omega arith in
    let back_here : IsRolledBack (extent t s g m) g.loops m.outer (between_at m) (between_at m) =
    subst (λ (c : Chunk). IsRolledBack (extent-of t s c) g.loops m.outer (between_at m) (between_at m)) next (subst (λ (y : Setting). IsRolledBack (extent-of t s k) y.loops m.outer (between_at m) (between_at m)) here h) in
    let chunk_run : Store → ChunkRun = λ (u : Store). run_of_chunk t (next_chunk g m) (turns_trace plain (m.left + 1) g.loops m.outer (chunk_turns g m) u) u m.left in
    let back : FollowsPrediction (forecast_of t) (chunk_run (store_in (between_at m))) = subst (λ (u : Store). FollowsPrediction (forecast_of t) (chunk_run u)) (sym (no-locals m.store none)) follows in
    let one = back_here.deviates (m.left + 1) few in
    not-both (forecast_of t) (chunk_run (store_in (between_at m))) one.0 one.1 back

-- it deviates first at some instance, and in some way
pub rolled-back-at : (t : Table) (s : Schedule) (g : Setting) (m : Moment) (x : Setting) (k : Chunk) → x ≡ g → k ≡ next_chunk g m → m.store.locals ≡ []
    → IsRolledBack (extent-of t s k) x.loops m.outer (between_at m) (between_at m) → (at : Instance) × (how : How) × DeviatesAt t g m at how
rolled-back-at t s g m x k here next none h =
    let few : m.left < m.left + 1 = omega arith in
    let back : IsRolledBack (extent t s g m) g.loops m.outer (between_at m) (between_at m) =
    subst (λ (c : Chunk). IsRolledBack (extent-of t s c) g.loops m.outer (between_at m) (between_at m)) next (subst (λ (y : Setting). IsRolledBack (extent-of t s k) y.loops m.outer (between_at m) (between_at m)) here h) in
    let chunk_run : Store → ChunkRun = λ (u : Store). run_of_chunk t (next_chunk g m) (turns_trace plain (m.left + 1) g.loops m.outer (chunk_turns g m) u) u m.left in
    let one : (d : Deviation) × IsDeviation (forecast_of t) (chunk_run_from t g m) d =
    subst (λ (u : Store). (d : Deviation) × IsDeviation (forecast_of t) (chunk_run u) d) (no-locals m.store none) (back.deviates (m.left + 1) few) in
    (instance_in t (next_chunk g m) (chunk_run_from t g m).observations one.0, how_of (forecast_of t) one.0, (one.0, one.1, refl, refl))

position-in : (loops : List Loop) (o : Outer) (j : ℕ) → IsPositionIn loops o → IsPositionIn loops (turns_later o j)
position-in [] o j p = absurd p
position-in (l ∷ ls) o j p = position-later l.head o j p

module _ {D : ℕ} (g : Setting) (m after : Moment) (set : IsSetting D g) (p : IsPlaced g m) (on : has_turn m.outer.left ≡ true) (chosen : Chosen D) (is : IsChosen g chosen.pred chosen.number) (before lines : List Line) where
  -- a chunk is committed
  committed-there : (s : Schedule) (instances phases tiles steps : ℕ) → slice_get g.candidates (chosen.number - 1) ≡ Some s → m.store.locals ≡ [] → after.store.locals ≡ []
      → length after.store.scalars ≡ length m.store.scalars
      → IsCommitted (extent chosen.pred s g m) g.loops m.outer (between_at m) (between_at after) instances phases tiles steps → after.outer ≡ turns_later m.outer (chunk_turns g m)
      → lines ≡ before ++ said.Commit m.outer.next (pos (chunk_turns g m)) chosen.number instances phases tiles steps ∷ []
      → Led g (Chunks chosen) m before (Chunks chosen) after lines (kept_on (extent chosen.pred s g m) instances phases tiles steps)
  committed-there s instances phases tiles steps at none still count h outer are =
      let t = chosen.pred in
      let c = chunk_turns g m in
      let ran = committed-ran t s g m after instances phases tiles steps none still h outer in
      let taken : m.left ≡ steps + after.left = h.taken.left in
      let same : steps ≡ m.left - after.left = omega (arith, taken) in
      let line = commit_line g m after chosen.number instances phases tiles in
      let leads = committed s instances phases tiles after at h.numbers (committed-follows t s g m after instances phases tiles steps none h) ran in
      let stage = stages.Chunks t chosen.number in
      let position = subst (λ (o : Outer). IsPositionIn g.loops o) (sym outer) (position-in g.loops m.outer c p.position) in
      record {
        told = line ∷ [];
        are = are ∙ ap (λ (n : ℕ). before ++ said.Commit m.outer.next (pos c) chosen.number instances phases tiles n ∷ []) same;
        reaches = (one-step g stage stage m after (line ∷ []) (chunk t chosen.number m after (line ∷ []) stage on leads), ap (λ (n : ℕ). kept_on (extent t s g m) instances phases tiles n) (sym same));
        nearer = let some = chunk-some g m set p on in let fewer = (ran-took g m after p.turn c c Done p.keeps.loops_keep p.next ran).steps in omega (arith, some, fewer);
        due = is;
        turn = tt;
        placed = placed-on g m after c c Done p.keeps.loops_keep p ran position count;
      }

  -- the same of a setting and a chunk that are these
  pub committed-led : (x : Setting) (k : Chunk) (s : Schedule) (instances phases tiles steps : ℕ) → x ≡ g → k ≡ next_chunk g m → slice_get g.candidates (chosen.number - 1) ≡ Some s → m.store.locals ≡ [] → after.store.locals ≡ []
      → length after.store.scalars ≡ length m.store.scalars → HasRun (extent-of chosen.pred s k) x.loops m after (Ok (Committed instances phases tiles steps))
      → lines ≡ before ++ said.Commit k.first k.turns chosen.number instances phases tiles steps ∷ []
      → Led g (Chunks chosen) m before (Chunks chosen) after lines (kept_on (extent chosen.pred s g m) instances phases tiles steps)
  committed-led x k s instances phases tiles steps here next at none still count h are =
      committed-there s instances phases tiles steps at none still count
      (subst (λ (c : Chunk). IsCommitted (extent-of chosen.pred s c) g.loops m.outer (between_at m) (between_at after) instances phases tiles steps) next
      (subst (λ (y : Setting). IsCommitted (extent-of chosen.pred s k) y.loops m.outer (between_at m) (between_at after) instances phases tiles steps) here h.0))
      (h.1 ∙ ap (λ (c : Chunk). turns_later m.outer (unsigned_abs c.turns)) next)
      (are ∙ ap (λ (c : Chunk). before ++ said.Commit c.first c.turns chosen.number instances phases tiles steps ∷ []) next)

-- ---- what is handed over

-- a chunk was run: what it hands over was handed over
pub kept-hands : (e other : Extent) (instances phases tiles steps : ℕ) (a b : Posts) (old new : List Handed) → e ≡ other → GainsGroup e a.workers old new (Ok (Committed instances phases tiles steps)) → HavePosted a b old new
    → HandsOver (kept_on other instances phases tiles steps) a b old new
kept-hands e other instances phases tiles steps a b old new same gains posted = subst (λ (x : Extent). HandsOver (kept_on x instances phases tiles steps) a b old new) same (record {
  list = gains.group;
  gained = gains.gained;
  is = record-one a.workers (record { extent = e; end = Committed instances phases tiles steps }) gains.group gains.whole;
  posted = posted;
})

pub given-hands : (t : Table) (s : Schedule) (k : Chunk) (a b : Posts) (old new : List Handed) → GainsGroup (extent-of t s k) a.workers old new (Ok RolledBack) → HavePosted a b old new → HandsOver (given_up t s k) a b old new
given-hands t s k a b old new gains posted = record {
  list = gains.group;
  gained = gains.gained;
  is = record-one a.workers (record { extent = extent-of t s k; end = RolledBack }) gains.group gains.begun;
  posted = posted;
}

-- memory was wanting behind a way
pub led-broke : {D : ℕ} (g : Setting) (from : Stage D) (a : MachineState) (before : List Line) (old : List Handed) (to : Stage D) (b : MachineState) (lines : List Line) (new : List Handed)
    → LedWith g from a before old to b lines new → BrokeOff g (stage_of from) a old new
led-broke g from a before old to b lines new l = record {
  told = l.led.told;
  to = stage_of to;
  after = b.moment;
  chunks = l.chunks;
  reaches = l.led.reaches;
  list = l.hands.list;
  gained = l.hands.gained;
  is = l.hands.is;
}

-- memory was wanting before a chunk was launched
pub none-broke : (g : Setting) (from : stages.Stage) (a : MachineState) (old new : List Handed) → new ≡ old → BrokeOff g from a old new
none-broke g from a old new same = record { told = []; to = from; after = a.moment; chunks = []; reaches = (begun, refl); list = []; gained = same ∙ sym (append-nil old); is = refl }

module _ {D : ℕ} (g : Setting) (a b : MachineState) (set : IsSetting D g) (p : IsPlaced g a.moment) (on : has_turn a.moment.outer.left ≡ true) (chosen : Chosen D) (is : IsChosen g chosen.pred chosen.number)
    (x : Setting) (k : Chunk) (s : Schedule) (old new : List Handed) (here : x ≡ g) (next : k ≡ next_chunk g a.moment) (which : slice_get g.candidates (chosen.number - 1) ≡ Some s)
    (none : a.moment.store.locals ≡ []) (still : b.moment.store.locals ≡ []) (count : length b.moment.store.scalars ≡ length a.moment.store.scalars)
    (end : ChunkEnd) (run : HasRun (extent-of chosen.pred s k) x.loops a.moment b.moment (Ok end)) (gains : GainsGroup (extent-of chosen.pred s k) a.posts.workers old new (Ok end))
    (posted : HavePosted a.posts b.posts old new) (few : b.posts.epoch ≤ a.posts.epoch + 65536) where
  extents : extent-of chosen.pred s k ≡ extent chosen.pred s g a.moment
  extents = ap (λ (c : Chunk). extent-of chosen.pred s c) next

  -- a chunk is committed by a crew
  pub committed-with : (before lines : List Line) (instances phases tiles steps : ℕ) → end ≡ Committed instances phases tiles steps
      → lines ≡ before ++ said.Commit k.first k.turns chosen.number instances phases tiles steps ∷ [] → LedWith g (Chunks chosen) a before old (Chunks chosen) b lines new
  committed-with before lines instances phases tiles steps ended are = record {
    chunks = kept_on (extent chosen.pred s g a.moment) instances phases tiles steps;
    led = committed-led g a.moment b.moment set p on chosen is before lines x k s instances phases tiles steps here next which none still count
        (subst (λ (e : ChunkEnd). HasRun (extent-of chosen.pred s k) x.loops a.moment b.moment (Ok e)) ended run) are;
    hands = kept-hands (extent-of chosen.pred s k) (extent chosen.pred s g a.moment) instances phases tiles steps a.posts b.posts old new extents
        (subst (λ (e : ChunkEnd). GainsGroup (extent-of chosen.pred s k) a.posts.workers old new (Ok e)) ended gains) posted;
    few = few;
  }

  -- and memory was wanting for its line
  pub committed-broke : (instances phases tiles steps : ℕ) → end ≡ Committed instances phases tiles steps → BrokeOff g (stage_of (Chunks chosen)) a old new
  committed-broke instances phases tiles steps ended =
      led-broke g (Chunks chosen) a [] old (Chunks chosen) b (said.Commit k.first k.turns chosen.number instances phases tiles steps ∷ []) new
      (committed-with [] (said.Commit k.first k.turns chosen.number instances phases tiles steps ∷ []) instances phases tiles steps ended refl)

  module _ (ended : end ≡ RolledBack) where
    pub rolled-run : HasRun (extent-of chosen.pred s k) x.loops a.moment b.moment (Ok RolledBack)
    rolled-run = subst (λ (e : ChunkEnd). HasRun (extent-of chosen.pred s k) x.loops a.moment b.moment (Ok e)) ended run

    rolled-hands : HandsOver (given_up chosen.pred s k) a.posts b.posts old new
    rolled-hands = given-hands chosen.pred s k a.posts b.posts old new (subst (λ (e : ChunkEnd). GainsGroup (extent-of chosen.pred s k) a.posts.workers old new (Ok e)) ended gains) posted

    -- a chunk is rolled back by a crew, and its turns were run
    pub rolled-with : (before lines : List Line) (to : Stage D) (after : MachineState) → after.posts ≡ b.posts → Led g (Chunks chosen) b.moment before to after.moment lines (given_up chosen.pred s k)
        → LedWith g (Chunks chosen) a before old to after lines new
    rolled-with before lines to after same led = record {
      chunks = given_up chosen.pred s k;
      led = subst (λ (m : Moment). Led g (Chunks chosen) m before to after.moment lines (given_up chosen.pred s k)) rolled-run.1 led;
      hands = subst (λ (q : Posts). HandsOver (given_up chosen.pred s k) a.posts q old new) (sym same) rolled-hands;
      few = let epoch = ap (λ (q : Posts). q.epoch) same in omega (arith, few, epoch);
    }

    -- and memory was wanting for its lines
    pub rolled-broke : (instances : ℕ) × IsLaunched chosen.pred (words_at a.moment) k instances → BrokeOff g (stage_of (Chunks chosen)) a old new
    rolled-broke launched =
        let m = a.moment in
        let deviates = rolled-back-at chosen.pred s g m x k here next none rolled-run.0 in
        let line = rollback_line g m deviates.0 deviates.1 in
        let there : IsLaunched chosen.pred (words_at m) (next_chunk g m) launched.0 = subst (λ (c : Chunk). IsLaunched chosen.pred (words_at m) c launched.0) next launched.1 in
        led-broke g (Chunks chosen) a [] old (Plainly (chunk_turns g m)) (record { moment = m; posts = b.posts }) (line ∷ []) new (record {
          chunks = given_up chosen.pred s (next_chunk g m);
          led = rolled-led g m set p on chosen [] (line ∷ []) s deviates.0 deviates.1 launched.0 which there deviates.2 refl;
          hands = subst (λ (c : Chunk). HandsOver (given_up chosen.pred s c) a.posts b.posts old new) next rolled-hands;
          few = few;
        })

-- ---- the deviation of the turns in original order

-- the turns of the next chunk ran in original order, watched by a comparison: what it gives is the deviation of the chunk
pub watched-deviation : {D : ℕ} (t : Table) (g : Setting) (m after : Moment) (done : ℕ) (finish : Finish) (c : Comparison) (result : Option (code.Deviation D)) → IsPlaced g m → Ran g m (chunk_turns g m) done finish after
    → Chain MayCompare (fresh t (next_chunk g m)) (seen_in (next_turns g m (chunk_turns g m)) m.left) c → IsFirstDeviation c finish after.store.scalars result → IsDeviationOf t (next_chunk g m) (chunk_run_from t g m) result
watched-deviation t g m after done finish c result p ran shown first =
    let few : m.left < m.left + 1 = omega arith in
    first t (next_chunk g m) plain (m.left + 1) g.loops m.outer (moment m.store m.left m.used (fresh t (next_chunk g m))) (moment after.store after.left after.used c) (record {
      begins = refl;
      ends = refl;
      closes = refl;
      ran = record { cut = ran.cut (m.left + 1) few; shown = shown };
    }) (runs-show-values t (next_chunk g m) (m.left + 1) (chunk_turns g m) m.left g.loops m.outer m.store (omega arith) (placed-i64s g m p))

-- the same from the chunk, the watch and the scalars as they are handed on
pub told-deviation : {D : ℕ} (t : Table) (g : Setting) (m after : Moment) (k : Chunk) (start c : Comparison) (finish : Finish) (scalars : List ℤ) (result : Option (code.Deviation D)) → IsPlaced g m → pos 1 ≤ℤ k.turns → k.turns ≤ℤ pos 1024 → k ≡ next_chunk g m
    → start ≡ fresh t k → (done : ℕ) × Ran g m (unsigned_abs (to_z w64 (of_z w64 k.turns))) done finish after → Chain MayCompare start (seen_in (next_turns g m (unsigned_abs (to_z w64 (of_z w64 k.turns)))) m.left) c → scalars ≡ after.store.scalars
    → IsFirstDeviation {D = D} c finish scalars result → IsDeviationOf t (next_chunk g m) (chunk_run_from t g m) result
told-deviation {D} t g m after k start c finish scalars result p some most next new ran shown values first =
    let turns = turns-are g m k some most next in
    watched-deviation t g m after ran.0 finish c result p (subst (λ (n : ℕ). Ran g m n ran.0 finish after) turns ran.1)
    (subst (λ (s : Comparison). Chain MayCompare s (seen_in (next_turns g m (chunk_turns g m)) m.left) c) (new ∙ ap (fresh t) next) (subst (λ (n : ℕ). Chain MayCompare start (seen_in (next_turns g m n) m.left) c) turns shown))
    (subst (λ (vs : List ℤ). IsFirstDeviation {D = D} c finish vs result) values first)
