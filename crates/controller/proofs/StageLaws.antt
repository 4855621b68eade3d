-- From stage to stage.
use Rattle.std.proofs.Common.{◌≡◌, refl, ap, ◌∙◌, sym, subst, ℕ, ◌+◌, ◌-◌, ◌≤◌, ◌^◌, ◌*◌, min, pos, List, [], ◌++◌, append_assoc, append-nil, length, Some, Ok, Err, arith}
use Rattle.std.specs.Prelude.{slice_get}
use Rattle.std.specs.List.{All}
use Rattle.nest_lang.specs.declared.budget.Ending.{Ending}
use Rattle.nest_lang.specs.declared.tree.Loop.{Loop}
use Rattle.nest_lang.specs.declared.tree.Nest.{Nest}
use Rattle.nest_lang.specs.Rules.{NestKeeps}
use Rattle.nest_lang.specs.Runs.{finish_of_ending}
use Rattle.nest_lang.specs.Stores.{Store}
use Rattle.nest_lang.specs.Traces.{Finish, Cut, cut_of}
use Rattle.nest_lang.specs.Turns.{entry_steps, IsPositionIn}
use Rattle.nest_grammar.specs.declared.file.File.{File}
use Rattle.nest_grammar.specs.declared.file.NestUnit.{NestUnit}
use Rattle.profile.specs.Reach.{HasI64s, IsOfI64s}
use Rattle.report.specs.declared.journey.Options.{Options}
use Rattle.report.specs.declared.line.Line.{Line}
use Rattle.journeys.specs.Settings.{Setting, Moment, entry, setting_of}
use Rattle.journeys.specs.Stages.{Profiles, Over}
use Rattle.journeys.specs.Stages.Reaches.{begun}
use Rattle.journeys.specs.Journeys.{IsNestJourney, entered_at}
use Rattle.journeys.specs.Journeys.IsNestJourney.{not_entered, entered}
use Rattle.journeys.specs.HandedRecords.{Launched, Launching, IsHandedRecord, NestHasLaunched, launched_in_nest}
use Rattle.journeys.specs.HandedRecords.NestHasLaunched.{not_begun, so_far}
use Rattle.journeys.proofs.HandedLaws.{launches-more, record-more}
use Rattle.crew.specs.declared.handed.Handed.{Handed}
use Rattle.controller.specs.declared.stage.Stage.{Stage}
use Rattle.controller.specs.declared.stage.Stage.TheVariants as code
use Rattle.controller.specs.Machines.{IsPlaced, MachineState, Posts, HandsOver, reach_of}
use Rattle.controller.specs.Courses.{IsDue, IsUnit, HasTurn, Led, LedWith, BrokeOff, StagesRan, RunsUnit, UnitBrokeOff, rest_of, stage_of}

-- ---- what is handed over

pub hands-none : (a : Posts) (handed : List Handed) → HandsOver [] a a handed handed
hands-none a handed = record { list = []; gained = sym (append-nil handed); is = refl; posted = record { workers = refl; epoch = refl } }

pub hands-same : (a b : Posts) (handed : List Handed) → b ≡ a → HandsOver [] a b handed handed
hands-same a b handed same = subst (λ (x : Posts). HandsOver [] a x handed handed) (sym same) (hands-none a handed)

pub hands-more : (chunks more : List Launched) (a b c : Posts) (old mid new : List Handed) → HandsOver chunks a b old mid → HandsOver more b c mid new → HandsOver (chunks ++ more) a c old new
hands-more chunks more a b c old mid new p q = record {
  list = p.list ++ q.list;
  gained = q.gained ∙ ap (λ (hs : List Handed). hs ++ q.list) p.gained ∙ append_assoc old p.list q.list;
  is = record-more a.workers chunks more p.list q.list p.is (subst (λ (n : ℕ). IsHandedRecord n more q.list) p.posted.workers q.is);
  posted = record {
    workers = q.posted.workers ∙ p.posted.workers;
    epoch = let first = p.posted.epoch in let second = q.posted.epoch in omega (arith, first, second);
  };
}

-- ---- from stage to stage

-- a way on which no chunk was launched
pub led-with-none : {D : ℕ} (g : Setting) (from : Stage D) (a : MachineState) (before : List Line) (handed : List Handed) (to : Stage D) (b : MachineState) (lines : List Line)
    → Led g from a.moment before to b.moment lines [] → b.posts ≡ a.posts → LedWith g from a before handed to b lines handed
led-with-none g from a before handed to b lines led same = record {
  chunks = [];
  led = led;
  hands = hands-same a.posts b.posts handed same;
  few = let epoch = ap (λ (p : Posts). p.epoch) same in omega (arith, epoch);
}

-- how far a run has come from its first profile on, with these lines behind those before and what was handed over; the
-- epoch has room for what may follow
pub record Along {D : ℕ} (g : Setting) (start : MachineState) (before : List Line) (old : List Handed) (stage : Stage D) (a : MachineState) (lines : List Line) (new : List Handed) : Type 0 where
  pub told : List Line
  pub are : lines ≡ before ++ told
  pub chunks : List Launched
  pub reaches : Launching g Profiles start.moment told (stage_of stage) a.moment chunks
  pub due : IsDue g stage
  pub turn : HasTurn stage a.moment
  pub placed : IsPlaced g a.moment
  pub hands : HandsOver chunks start.posts a.posts old new
  pub room : a.posts.epoch + 65536 * rest_of stage a.moment ≤ reach_of start + 131072

along-more : {D : ℕ} (g : Setting) (start : MachineState) (before : List Line) (old : List Handed) (stage next : Stage D) (a b : MachineState) (lines more : List Line) (mid new : List Handed)
    → Along g start before old stage a lines mid → LedWith g stage a lines mid next b more new → Along g start before old next b more new
along-more g start before old stage next a b lines more mid new x l = record {
  told = x.told ++ l.led.told;
  are = l.led.are ∙ ap (λ (ls : List Line). ls ++ l.led.told) x.are ∙ append_assoc before x.told l.led.told;
  chunks = x.chunks ++ l.chunks;
  reaches = launches-more g Profiles start.moment (stage_of stage) a.moment x.told l.led.told (stage_of next) b.moment x.chunks l.chunks x.reaches l.led.reaches;
  due = l.led.due;
  turn = l.led.turn;
  placed = l.led.placed;
  hands = hands-more x.chunks l.chunks start.posts a.posts b.posts old mid new x.hands l.hands;
  room = let room = x.room in let nearer = l.led.nearer in let few = l.few in omega (arith, room, nearer, few);
}

pub along-start : {D : ℕ} (g : Setting) (start : MachineState) (before : List Line) (handed : List Handed) (stage : Stage D) → stage ≡ code.Profiles → IsPlaced g start.moment → Along g start before handed stage start before handed
along-start {D} g start before handed stage is placed = subst (λ (s : Stage D). Along g start before handed s start before handed) (sym is) (record {
  told = [];
  are = sym (append-nil before);
  chunks = [];
  reaches = (begun, refl);
  due = tt;
  turn = tt;
  placed = placed;
  hands = hands-none start.posts handed;
  room = omega arith;
})

pub along-by : {D : ℕ} (g : Setting) (start : MachineState) (before : List Line) (old : List Handed) (at from next : Stage D) (a b : MachineState) (lines more : List Line) (mid new : List Handed)
    → at ≡ from → Along g start before old at a lines mid → LedWith g from a lines mid next b more new → Along g start before old next b more new
along-by {D} g start before old at from next a b lines more mid new is x l =
    along-more g start before old from next a b lines more mid new (subst (λ (s : Stage D). Along g start before old s a lines mid) is x) l

-- where a run is over
pub along-over : {D : ℕ} (g : Setting) (start : MachineState) (before : List Line) (old : List Handed) (at : Stage D) (a : MachineState) (lines : List Line) (new : List Handed) (e : Ending) → at ≡ code.Over e
    → Along g start before old at a lines new → StagesRan g start before old (finish_of_ending e) a lines new
along-over {D} g start before old at a lines new e is x =
    let here = subst (λ (s : Stage D). Along g start before old s a lines new) is x in
    record {
      told = here.told;
      are = here.are;
      chunks = here.chunks;
      reaches = here.reaches;
      count = here.placed.count;
      fits = here.placed.fits;
      hands = here.hands;
      few = let room = here.room in omega (arith, room);
    }

-- the epoch leaves room for a chunk
pub along-room : {D : ℕ} (g : Setting) (start : MachineState) (before : List Line) (old : List Handed) (at : Stage D) (a : MachineState) (lines : List Line) (new : List Handed) → reach_of start + 131072 ≤ 2 ^ 62
    → Along g start before old at a lines new → a.posts.epoch ≤ 2 ^ 62
along-room g start before old at a lines new most x = let room = x.room in omega (arith, most, room)

-- where memory was wanting
pub along-stopped : {D : ℕ} (g : Setting) (start : MachineState) (before : List Line) (old : List Handed) (at : Stage D) (a : MachineState) (lines : List Line) (new : List Handed)
    → Along g start before old at a lines new → BrokeOff g Profiles start old new
along-stopped g start before old at a lines new x = record {
  told = x.told;
  to = stage_of at;
  after = a.moment;
  chunks = x.chunks;
  reaches = x.reaches;
  list = x.hands.list;
  gained = x.hands.gained;
  is = x.hands.is;
}

pub along-broke : {D : ℕ} (g : Setting) (start : MachineState) (before : List Line) (old : List Handed) (at from : Stage D) (a : MachineState) (lines : List Line) (mid new : List Handed)
    → at ≡ from → Along g start before old at a lines mid → BrokeOff g (stage_of from) a mid new → BrokeOff g Profiles start old new
along-broke {D} g start before old at from a lines mid new same x b =
    let here = subst (λ (s : Stage D). Along g start before old s a lines mid) same x in
    record {
      told = here.told ++ b.told;
      to = b.to;
      after = b.after;
      chunks = here.chunks ++ b.chunks;
      reaches = launches-more g Profiles start.moment (stage_of from) a.moment here.told b.told b.to b.after here.chunks b.chunks here.reaches b.reaches;
      list = here.hands.list ++ b.list;
      gained = b.gained ∙ ap (λ (hs : List Handed). hs ++ b.list) here.hands.gained ∙ append_assoc old here.hands.list b.list;
      is = record-more start.posts.workers here.chunks b.chunks here.hands.list b.list here.hands.is (subst (λ (n : ℕ). IsHandedRecord n b.chunks b.list) here.hands.posted.workers b.is);
    }

-- ---- a nest of a file

-- a moment, by where the outermost loop stands there
moment-at : (m : Moment) (s : Store) (left used : ℕ) → m.store ≡ s → m.left ≡ left → m.used ≡ used → m ≡ record { outer = m.outer; store = s; left = left; used = used }
moment-at m s left used store-is left-is used-is = rw (← store-is, ← left-is, ← used-is) refl

cut-at : (m : Moment) (finish : Finish) (s : Store) (left used : ℕ) → m.store ≡ s → m.left ≡ left → m.used ≡ used → cut_of s left used finish ≡ cut_of m.store m.left m.used finish
cut-at m finish s left used store-is left-is used-is = rw (← store-is, ← left-is, ← used-is) refl

module _ (file : File) (number : ℕ) (nest : Nest) (options : Options) (unit : IsUnit file number nest options) (g : Setting)
    (of : (u : NestUnit) → slice_get file.units number ≡ Some u → g ≡ setting_of options (length file.scalars) u) where
  is-setting : g ≡ setting_of options (length file.scalars) unit.unit
  is-setting = of unit.unit unit.at

  loops-are : g.loops ≡ nest.loops
  loops-are = ap (λ (x : Setting). x.loops) is-setting ∙ ap (λ (n : Nest). n.loops) unit.is

  scalars-are : g.scalars ≡ length file.scalars
  scalars-are = ap (λ (x : Setting). x.scalars) is-setting

  -- where its outermost loop is entered
  pub unit-placed : (m at : Moment) → length m.store.scalars ≡ length file.scalars → IsOfI64s m.store → at.store ≡ m.store → at.left + at.used ≤ 2 ^ 32 → IsPositionIn nest.loops at.outer → at.outer.next ≡ pos 0 → IsPlaced g at
  unit-placed m at count fits same most position next = record {
    keeps = subst (λ (n : ℕ). NestKeeps n g.loops) (sym scalars-are) (subst (λ (ls : List Loop). NestKeeps (length file.scalars) ls) (sym loops-are) unit.keeps);
    numbers = subst (λ (ls : List Loop). All HasI64s ls) (sym loops-are) unit.numbers;
    fits = subst (λ (s : Store). IsOfI64s s) (sym same) fits;
    most = most;
    position = subst (λ (ls : List Loop). IsPositionIn ls at.outer) (sym loops-are) position;
    count = ap (λ (s : Store). length s.scalars) same ∙ count ∙ sym scalars-are;
    turn = 0;
    next = next;
    taken = omega arith;
  }

  module _ (a at b : MachineState) (store-is : at.moment.store ≡ a.moment.store) (left-is : at.moment.left ≡ a.moment.left - entry_steps nest.loops)
      (used-is : at.moment.used ≡ a.moment.used + min (entry_steps nest.loops) a.moment.left) (posts-are : at.posts ≡ a.posts) where
    -- where its outermost loop was entered
    from-there : at.moment ≡ entered_at g at.moment.outer a.moment.store a.moment.left a.moment.used
    from-there = moment-at at.moment a.moment.store (a.moment.left - entry_steps g.loops) (a.moment.used + min (entry_steps g.loops) a.moment.left) store-is
        (left-is ∙ ap (λ (ls : List Loop). a.moment.left - entry_steps ls) (sym loops-are)) (used-is ∙ ap (λ (ls : List Loop). a.moment.used + min (entry_steps ls) a.moment.left) (sym loops-are))

    entered-there : Ok at.moment.outer ≡ entry nest.loops a.moment.store a.moment.left → entry g.loops a.moment.store a.moment.left ≡ Ok at.moment.outer
    entered-there enters = ap (λ (ls : List Loop). entry ls a.moment.store a.moment.left) loops-are ∙ sym enters

    -- its run from there on is over
    pub unit-over : (before lines : List Line) (old new : List Handed) (finish : Finish) → Ok at.moment.outer ≡ entry nest.loops a.moment.store a.moment.left
        → StagesRan g at before old finish b lines new → RunsUnit file number options a before old finish b lines new
    unit-over before lines old new finish enters went = record {
      told = went.told;
      are = went.are;
      chunks = went.chunks;
      journey = λ u is. subst
          (λ (x : Setting). (journey : IsNestJourney x a.moment.store a.moment.left a.moment.used went.told (cut_of b.moment.store b.moment.left b.moment.used finish)) × (launched_in_nest journey ≡ went.chunks)) (of u is)
          (let there = subst (λ (x : Moment). Launching g Profiles x went.told (Over finish) b.moment went.chunks) from-there went.reaches in
          (entered at.moment.outer went.told finish b.moment (entered-there enters) there.0, there.1));
      count = went.count ∙ scalars-are;
      fits = went.fits;
      hands = subst (λ (p : Posts). HandsOver went.chunks p b.posts old new) posts-are went.hands;
      few = let few = went.few in let epoch = ap (λ (p : Posts). p.epoch) posts-are in omega (arith, few, epoch, left-is);
    }

    -- the epoch leaves room for it
    pub unit-reach : reach_of a + 131072 ≤ 2 ^ 62 → reach_of at + 131072 ≤ 2 ^ 62
    unit-reach most = let epoch = ap (λ (p : Posts). p.epoch) posts-are in omega (arith, most, epoch, left-is)

    -- memory was wanting in its run
    pub unit-broke : (old new : List Handed) → Ok at.moment.outer ≡ entry nest.loops a.moment.store a.moment.left → BrokeOff g Profiles at old new → UnitBrokeOff file number options a old new
    unit-broke old new enters went = record {
      chunks = went.chunks;
      launched = λ u is. subst (λ (x : Setting). NestHasLaunched x a.moment.store a.moment.left a.moment.used went.chunks) (of u is)
          (let there = subst (λ (x : Moment). Launching g Profiles x went.told went.to went.after went.chunks) from-there went.reaches in
          subst (λ (cs : List Launched). NestHasLaunched g a.moment.store a.moment.left a.moment.used cs) there.1 (so_far at.moment.outer went.told went.to went.after (entered-there enters) there.0));
      list = went.list;
      gained = went.gained;
      is = subst (λ (p : Posts). IsHandedRecord p.workers went.chunks went.list) posts-are went.is;
    }

  -- its run ended at the head of the outermost loop
  pub unit-not_entered : (a at : MachineState) (before : List Line) (handed : List Handed) (finish : Finish) → length a.moment.store.scalars ≡ length file.scalars → IsOfI64s a.moment.store
      → at.moment.store ≡ a.moment.store → at.moment.left ≡ a.moment.left - entry_steps nest.loops → at.moment.used ≡ a.moment.used + min (entry_steps nest.loops) a.moment.left
      → at.posts ≡ a.posts → Err finish ≡ entry nest.loops a.moment.store a.moment.left → RunsUnit file number options a before handed finish at before handed
  unit-not_entered a at before handed finish count fits store-is left-is used-is posts-are stops = record {
    told = [];
    are = sym (append-nil before);
    chunks = [];
    journey = λ u is. subst
        (λ (x : Setting). (journey : IsNestJourney x a.moment.store a.moment.left a.moment.used [] (cut_of at.moment.store at.moment.left at.moment.used finish)) × (launched_in_nest journey ≡ [])) (of u is)
        (subst (λ (end : Cut). (journey : IsNestJourney g a.moment.store a.moment.left a.moment.used [] end) × (launched_in_nest journey ≡ [])) there
        (not_entered finish (ap (λ (ls : List Loop). entry ls a.moment.store a.moment.left) loops-are ∙ sym stops), refl));
    count = ap (λ (s : Store). length s.scalars) store-is ∙ count;
    fits = subst (λ (s : Store). IsOfI64s s) (sym store-is) fits;
    hands = hands-same a.posts at.posts handed posts-are;
    few = let epoch = ap (λ (p : Posts). p.epoch) posts-are in omega (arith, epoch, left-is);
  }
    where
      there : cut_of a.moment.store (a.moment.left - entry_steps g.loops) (a.moment.used + min (entry_steps g.loops) a.moment.left) finish ≡ cut_of at.moment.store at.moment.left at.moment.used finish
      there = cut-at at.moment finish a.moment.store (a.moment.left - entry_steps g.loops) (a.moment.used + min (entry_steps g.loops) a.moment.left) store-is
          (left-is ∙ ap (λ (ls : List Loop). a.moment.left - entry_steps ls) (sym loops-are)) (used-is ∙ ap (λ (ls : List Loop). a.moment.used + min (entry_steps ls) a.moment.left) (sym loops-are))

-- memory was wanting before its run was begun
pub unit-unbegun : (file : File) (number : ℕ) (options : Options) (a : MachineState) (handed : List Handed) → UnitBrokeOff file number options a handed handed
unit-unbegun file number options a handed = record { chunks = []; launched = λ u is. not_begun; list = []; gained = sym (append-nil handed); is = refl }
