-- Each file that keeps the rules has a journey.
use Rattle.std.proofs.Common.{◌≡◌, refl, ap, ◌∙◌, sym, subst, ℕ, zero, suc, ◌+◌, ◌-◌, ◌<◌, ◌≤◌, ◌^◌, min, nat_le, unsigned_abs, ℤ, pos, ◌≤ℤ◌, Bool, true, false, List, [], ◌∷◌, ◌++◌, length, slice_get, Option, Some, None, Result, Ok, Err, arith}
use Rattle.std.specs.Prelude.{option_map}
use Rattle.std.specs.List.{All, position}
use Rattle.std.proofs.lemmas.Bool.{and_parts, false≢true}
use Rattle.std.proofs.lemmas.Int.{ints}
use Rattle.std.proofs.lemmas.List.Elements.{All-nil}
use Rattle.std.proofs.lemmas.List.Quantifiers.{position-Some}
use Rattle.nest_lang.specs.declared.tree.Head.{Head}
use Rattle.nest_lang.specs.declared.tree.Head.TheVariants.{For, While}
use Rattle.nest_lang.specs.declared.tree.Loop.{Loop}
use Rattle.nest_lang.specs.declared.tree.Part.TheVariants as part
use Rattle.nest_lang.specs.declared.state.Outer.{Outer}
use Rattle.nest_lang.specs.Heads.{Bounds, Yield, Tested, head_of}
use Rattle.nest_lang.specs.Loops.{frame_of, outside}
use Rattle.nest_lang.specs.Lookups.{plain}
use Rattle.nest_lang.specs.Rules.{NestKeeps, loop_keeps, loops_keep, strides}
use Rattle.nest_lang.specs.Stores.{Store}
use Rattle.nest_lang.specs.Traces.{Cut, Done, Finish, Halt, Halted, Limited, Occurrence, cut_of}
use Rattle.nest_lang.specs.Turns.{IsPosition, IsPositionIn, entry_steps, first_position, turns_later}
use Rattle.nest_lang.specs.TurnLaws.{over_is_done}
use Rattle.nest_lang.proofs.CutLaws.{cut-left}
use Rattle.nest_grammar.specs.declared.file.File.{File}
use Rattle.nest_grammar.specs.declared.file.NestUnit.{NestUnit}
use Rattle.nest_grammar.specs.declared.version.Version.{Version}
use Rattle.nest_grammar.specs.Files.{first_store}
use Rattle.plain_interp.proofs.NestRuleLaws.{loop_keeps-strides}
use Rattle.plain_interp.proofs.OuterTurnLaws.{position-later}
use Rattle.transform.specs.Schedules.{Schedule}
use Rattle.domain.specs.Tables.{IsTable, Table}
use Rattle.profile.specs.Reach.{HasI64s, IsOfI64s, head_numbers}
use Rattle.profile.proofs.BoundsLaws.{fits-are-tables}
use Rattle.profile.proofs.NumberLaws.{I64}
use Rattle.profile.proofs.ReachLaws.{Each, YieldFine, all-each, head-fine}
use Rattle.profile.specs.FirstProfiles.{has_turn}
use Rattle.legality.specs.Choices.{choice, first_legal, is_legal}
use Rattle.report.specs.declared.journey.Options.{Options}
use Rattle.report.specs.declared.line.Line.{Line}
use Rattle.journeys.specs.Settings.{Setting, Moment, Ran, chunk_turns, entry, entry_at, observed, plain_turns, profile_turns, setting_of, turns_within}
use Rattle.journeys.specs.Tellings.{heading}
use Rattle.journeys.specs.Stages.{Stage, Profiles, Chunks, Plainly, Over, AreJudged, ChunkLeads, Leads, PlainLeads, ProfileLeads, Reaches}
use Rattle.journeys.specs.Stages.AreJudged.{unfit, none_legal, chosen}
use Rattle.journeys.specs.Stages.ProfileLeads.{stopped as profile_stopped, used_up, profiled}
use Rattle.journeys.specs.Stages.ChunkLeads.{held, rolled_back, committed}
use Rattle.journeys.specs.Stages.PlainLeads.{stopped as plain_stopped, gone_on}
use Rattle.journeys.specs.Stages.Leads.{no_profile, no_chunk, profile, chunk, plainly}
use Rattle.journeys.specs.Stages.Reaches.{begun, then}
use Rattle.journeys.specs.Journeys.{IsJourneyOf, IsNestJourney, entered_at, where_ended}
use Rattle.journeys.specs.Journeys.IsNestJourney.{not_entered, entered}
use Rattle.journeys.specs.Laws.{IsRunnable, SomeJourney}
use Rattle.journeys.proofs.EnteringLaws.{entry-goes, same-ok, yields-bounds}
use Rattle.journeys.proofs.SomeWay.{some-chunk, some-plain, some-profile}
use Rattle.journeys.proofs.TurnStepLaws.{steps-taken, store-left}

-- a nest that keeps the rules, whose numbers are i64s, with profiles and chunks of at least one turn
pub record IsReady (g : Setting) : Type 0 where
  pub keeps : NestKeeps g.scalars g.loops
  pub few : g.scalars ≤ 16
  pub numbers : All HasI64s g.loops
  pub sample : 1 ≤ g.sample
  pub chunk : 1 ≤ g.chunk

-- a moment of a run whose numbers are i64s
pub record IsSteady (g : Setting) (m : Moment) : Type 0 where
  pub position : IsPositionIn g.loops m.outer
  pub number : ℕ
  pub next : m.outer.next ≡ pos number
  pub few : number + m.left ≤ 2 ^ 33
  pub store : IsOfI64s m.store

position-in : (loops : List Loop) (o : Outer) (c : ℕ) → IsPositionIn loops o → IsPositionIn loops (turns_later o c)
position-in [] o c at = absurd at
position-in (l ∷ ls) o c at = position-later l.head o c at

within-some : (left : Option ℕ) (c : ℕ) → has_turn left ≡ true → 1 ≤ c → 1 ≤ turns_within left c
within-some None c on some = some
within-some (Some zero) c on some = absurd (false≢true on)
within-some (Some (suc n)) c on some = omega (arith, some)

-- where no step is left for the next turn, the run isn't over
not-limited : (f : Finish) → over_is_done f ≡ Done → f ≡ Limited → ⊥
not-limited f over limited = let e : over_is_done Limited ≡ Done = ap over_is_done (sym limited) ∙ over in cc

-- the number of a legal candidate is that of one
candidate : (t : Table) (L : ℤ) (ss : List Schedule) (number : ℕ) → (choice t L ss).legal ≡ Some number → (s : Schedule) × (slice_get ss (number - 1) ≡ Some s)
candidate t L ss number e = by (first_legal t L ss) refl e
  where
    at : (xs : List Schedule) (k : ℕ) → k < length xs → (s : Schedule) × (slice_get xs k ≡ Some s)
    at [] k h = absurd (omega (arith, h))
    at (x ∷ xs) zero h = (x, refl)
    at (x ∷ xs) (suc k) h = at xs k (omega (arith, h))

    less : (xs : List Schedule) (k : ℕ) → position (is_legal t L) xs ≡ Some k → k < length xs
    less [] k found = absurd (cc)
    less (x ∷ xs) k found = (position-Some (is_legal t L) (x ∷ xs) k x found).0

    by : (o : Option ℕ) → first_legal t L ss ≡ o → option_map suc o ≡ Some number → (s : Schedule) × (slice_get ss (number - 1) ≡ Some s)
    by None found is = absurd (cc)
    by (Some k) found is =
        let same : suc k ≡ number = cc in
        let back : k ≡ number - 1 = omega (arith, same) in
        let s = at ss k (less ss k found) in
        (s.0, ap (slice_get ss) (sym back) ∙ s.1)

none-small : 0 ≤ 2 ^ 33
none-small = omega arith

-- the head of the outermost loop
abbrev outermost : Occurrence
outermost = record { block = record { part = part.Head; level = 1 }; counters = [] }

module _ (g : Setting) (ready : IsReady g) where
  module _ (m : Moment) (steady : IsSteady g m) where
    -- turns that don't end for want of a step leave i64s
    ran-store : (c done : ℕ) (finish : Finish) (after : Moment) → Ran g m c done finish after → (finish ≡ Limited → ⊥) → IsOfI64s after.store
    ran-store c done finish after r other =
        let run = r.cut (m.left + 1) (omega arith) in
        subst IsOfI64s (sym (ap (λ (x : Cut). x.store) run))
        (store-left (m.left + 1) (omega arith) g.loops ready.keeps.loops_keep ready.numbers m.outer steady.position steady.number steady.next c m.store steady.store m.left m.used steady.few (λ limited. other (ap (λ (x : Cut). x.ending) run ∙ limited)))

    ran-left : (c done : ℕ) (finish : Finish) (after : Moment) → Ran g m c done finish after → after.left ≤ m.left
    ran-left c done finish after r =
        let same = ap (λ (x : Cut). x.left) (r.cut (m.left + 1) (omega arith)) in
        let most = cut-left (plain_turns g (m.left + 1) m c m.store) m.store m.left m.used in
        omega (arith, same, most)

    ran-taken : (c done : ℕ) (after : Moment) → Ran g m c done Done after → c + after.left ≤ m.left
    ran-taken c done after r =
        let run = r.cut (m.left + 1) (omega arith) in
        let same = ap (λ (x : Cut). x.left) run in
        let most = steps-taken (m.left + 1) (omega arith) g.loops ready.keeps.loops_keep m.outer c m.store m.left m.used (sym (ap (λ (x : Cut). x.ending) run)) in
        omega (arith, same, most)

    steady-after : (c : ℕ) (after : Moment) → Ran g m c c Done after → IsSteady g after
    steady-after c after r = record {
      position = subst (IsPositionIn g.loops) (sym r.outer) (position-in g.loops m.outer c steady.position);
      number = steady.number + c;
      next = ap (λ (o : Outer). o.next) r.outer ∙ (let e = steady.next in omega (arith, ints, e));
      few = let taken = ran-taken c c after r in let few = steady.few in omega (arith, taken, few);
      store = ran-store c c Done after r (λ e. cc);
    }

  -- ---- stages

  -- what holds where a stage begins
  abbrev pub Begins : Stage → Moment → Type 0
  Begins Profiles m = IsSteady g m
  Begins (Chunks t number) m = IsSteady g m × IsTable (length g.loops) t × ((s : Schedule) × (slice_get g.candidates (number - 1) ≡ Some s))
  Begins (Plainly turns) m = IsSteady g m × (1 ≤ turns) × (has_turn m.outer.left ≡ true)
  Begins (Over finish) m = finish ≡ Done → IsOfI64s m.store

  -- how many stages may follow
  abbrev pub cost : Stage → ℕ → ℕ
  cost Profiles left = left + left + 1
  cost (Chunks t number) left = left + left + 2
  cost (Plainly turns) left = left + left + 1
  cost (Over finish) left = 0

  pub record GoesOn (m : Moment) (stage : Stage) (after : Moment) (most : ℕ) : Type 0 where
    pub begins : Begins stage after
    pub less : after.left ≤ m.left
    pub cheaper : cost stage after.left < most

  module _ (m : Moment) (steady : IsSteady g m) (on : has_turn m.outer.left ≡ true) where
    judged-on : (after : Moment) (lines : List Line) (stage : Stage) → IsSteady g after → has_turn after.outer.left ≡ true → after.left < m.left → AreJudged g (observed g m (profile_turns g m)) lines stage → GoesOn m stage after (m.left + m.left + 1)
    judged-on after lines stage next more less (unfit u at) = record { begins = (next, ready.chunk, more); less = omega (arith, less); cheaper = omega (arith, less) }
    judged-on after lines stage next more less (none_legal t fits none) = record { begins = (next, ready.chunk, more); less = omega (arith, less); cheaper = omega (arith, less) }
    judged-on after lines stage next more less (chosen t number fits some) = record {
      begins = (
        next,
        fits-are-tables g.scalars (m.left + 1) (profile_turns g m) m.left steady.number g.loops m.outer m.store t (omega arith) ready.few ready.keeps ready.numbers steady.store steady.position steady.next steady.few fits,
        candidate t (pos g.chunk) g.candidates number some,
      );
      less = omega (arith, less);
      cheaper = omega (arith, less);
    }

    pub profile-on : (lines : List Line) (stage : Stage) (after : Moment) → ProfileLeads g m lines stage after → GoesOn m stage after (m.left + m.left + 1)
    profile-on lines stage after (profile_stopped done finish there r other) = record {
      begins = λ over. ran-store m steady (profile_turns g m) done finish there r (not-limited finish over);
      less = ran-left m steady (profile_turns g m) done finish there r;
      cheaper = omega arith;
    }
    profile-on lines stage after (used_up there r off) = record {
      begins = λ over. ran-store m steady (profile_turns g m) (profile_turns g m) Done there r (λ e. cc);
      less = ran-left m steady (profile_turns g m) (profile_turns g m) Done there r;
      cheaper = omega arith;
    }
    profile-on lines stage after (profiled there more next r further are) =
        let taken = ran-taken m steady (profile_turns g m) (profile_turns g m) there r in
        let some = within-some m.outer.left g.sample on ready.sample in
        judged-on there more next (steady-after m steady (profile_turns g m) there r) further (omega (arith, taken, some)) are

    pub plain-on : (turns : ℕ) → 1 ≤ turns → (lines : List Line) (stage : Stage) (after : Moment) → PlainLeads turns g m lines stage after → GoesOn m stage after (m.left + m.left + 1)
    plain-on turns some lines stage after (plain_stopped done finish there r other) = record {
      begins = λ over. ran-store m steady (turns_within m.outer.left turns) done finish there r (not-limited finish over);
      less = ran-left m steady (turns_within m.outer.left turns) done finish there r;
      cheaper = omega arith;
    }
    plain-on turns some lines stage after (gone_on there r) =
        let taken = ran-taken m steady (turns_within m.outer.left turns) (turns_within m.outer.left turns) there r in
        let one = within-some m.outer.left turns on some in
        record { begins = steady-after m steady (turns_within m.outer.left turns) there r; less = omega (arith, taken); cheaper = omega (arith, taken, one) }

    pub chunk-on : (t : Table) (number : ℕ) → IsTable (length g.loops) t → ((s : Schedule) × (slice_get g.candidates (number - 1) ≡ Some s)) → (lines : List Line) (stage : Stage) (after : Moment) → ChunkLeads t number g m lines stage after → GoesOn m stage after (m.left + m.left + 2)
    chunk-on t number is s lines stage after (held at why stays) = record { begins = (steady, within-some m.outer.left g.chunk on ready.chunk, on); less = omega arith; cheaper = omega arith }
    chunk-on t number is s lines stage after (rolled_back schedule instances at how which launched deviates) = record { begins = (steady, within-some m.outer.left g.chunk on ready.chunk, on); less = omega arith; cheaper = omega arith }
    chunk-on t number is s lines stage after (committed schedule instances phases tiles there which numbers follows r) =
        let taken = ran-taken m steady (chunk_turns g m) (chunk_turns g m) there r in
        let one = within-some m.outer.left g.chunk on ready.chunk in
        record { begins = (steady-after m steady (chunk_turns g m) there r, is, s); less = omega (arith, taken); cheaper = omega (arith, taken, one) }

  record SomeStep (stage : Stage) (m : Moment) : Type 0 where
    lines : List Line
    next : Stage
    after : Moment
    leads : Leads g stage m lines next after
    goes : GoesOn m next after (cost stage m.left)

  profiles-step : (m : Moment) → IsSteady g m → SomeStep Profiles m
  profiles-step m steady = by (has_turn m.outer.left) refl
    where
      by : (b : Bool) → has_turn m.outer.left ≡ b → SomeStep Profiles m
      by false off = record { lines = []; next = Over Done; after = m; leads = no_profile m off; goes = record { begins = λ e. steady.store; less = omega arith; cheaper = omega arith } }
      by true on = let x = some-profile g m in record { lines = x.lines; next = x.stage; after = x.after; leads = profile m x.after x.lines x.stage on x.leads; goes = profile-on m steady on x.lines x.stage x.after x.leads }

  plainly-step : (turns : ℕ) (m : Moment) → Begins (Plainly turns) m → SomeStep (Plainly turns) m
  plainly-step turns m (steady, some, on) =
      let x = some-plain g m turns in
      record { lines = x.lines; next = x.stage; after = x.after; leads = plainly turns m x.after x.lines x.stage x.leads; goes = plain-on m steady on turns some x.lines x.stage x.after x.leads }

  chunks-step : (t : Table) (number : ℕ) (m : Moment) → Begins (Chunks t number) m → SomeStep (Chunks t number) m
  chunks-step t number m (steady, is, s) = by (has_turn m.outer.left) refl
    where
      by : (b : Bool) → has_turn m.outer.left ≡ b → SomeStep (Chunks t number) m
      by false off = record { lines = []; next = Over Done; after = m; leads = no_chunk t number m off; goes = record { begins = λ e. steady.store; less = omega arith; cheaper = omega arith } }
      by true on =
          let low : pos 0 ≤ℤ m.outer.next = (let e = steady.next in omega (arith, ints, e)) in
          let x = some-chunk t number g m is s.0 s.1 low (within-some m.outer.left g.chunk on ready.chunk) in
          record { lines = x.lines; next = x.stage; after = x.after; leads = chunk t number m x.after x.lines x.stage on x.leads; goes = chunk-on m steady on t number is s x.lines x.stage x.after x.leads }

  -- ---- to the end of a nest

  pub record SomeEnd (from : Stage) (start : Moment) : Type 0 where
    pub lines : List Line
    pub finish : Finish
    pub end : Moment
    pub reaches : Reaches g from start lines (Over finish) end
    pub fits : finish ≡ Done → IsOfI64s end.store
    pub less : end.left ≤ start.left

  module _ (from : Stage) (start : Moment) where
    pub to-end : (n : ℕ) (stage : Stage) (m : Moment) (lines : List Line) → Reaches g from start lines stage m → Begins stage m → m.left ≤ start.left → cost stage m.left ≤ n → SomeEnd from start
    to-end n (Over finish) m lines r begins less cheap = record { lines = lines; finish = finish; end = m; reaches = r; fits = begins; less = less }
    to-end zero Profiles m lines r begins less cheap = absurd (omega (arith, cheap))
    to-end zero (Chunks t number) m lines r begins less cheap = absurd (omega (arith, cheap))
    to-end zero (Plainly turns) m lines r begins less cheap = absurd (omega (arith, cheap))
    to-end (suc n) Profiles m lines r begins less cheap =
        let x = profiles-step m begins in
        let fewer = x.goes.less in
        let cheaper = x.goes.cheaper in
        to-end n x.next x.after (lines ++ x.lines) (then lines x.lines Profiles x.next m x.after r x.leads) x.goes.begins (omega (arith, less, fewer)) (omega (arith, cheap, cheaper))
    to-end (suc n) (Chunks t number) m lines r begins less cheap =
        let x = chunks-step t number m begins in
        let fewer = x.goes.less in
        let cheaper = x.goes.cheaper in
        to-end n x.next x.after (lines ++ x.lines) (then lines x.lines (Chunks t number) x.next m x.after r x.leads) x.goes.begins (omega (arith, less, fewer)) (omega (arith, cheap, cheaper))
    to-end (suc n) (Plainly turns) m lines r begins less cheap =
        let x = plainly-step turns m begins in
        let fewer = x.goes.less in
        let cheaper = x.goes.cheaper in
        to-end n x.next x.after (lines ++ x.lines) (then lines x.lines (Plainly turns) x.next m x.after r x.leads) x.goes.begins (omega (arith, less, fewer)) (omega (arith, cheap, cheaper))

  -- ---- the outermost loop is entered

  pub record IsFirst (o : Outer) : Type 0 where
    pub position : IsPositionIn g.loops o
    pub next : o.next ≡ pos 0

  first-by : (h : Head) (l : Loop) (s : Store) (left : ℕ) (o : Outer) → l.head ≡ h → All I64 (head_numbers h) → strides h ≡ true → IsOfI64s s → entry_at h s left ≡ Ok o → IsPosition h o × (o.next ≡ pos 0)
  first-by (While condition) l s left o is numbers turns fits e =
      let at : first_position (Tested true) ≡ o = same-ok (entry_at (While condition) s left) (first_position (Tested true)) o refl e in
      (subst (IsPosition (While condition)) at (0, refl, refl), ap (λ (x : Outer). x.next) (sym at))
  first-by (For lower upper stride) l s left o is numbers turns fits e =
      let y = entry-goes (head_of (frame_of plain part.Head 1 outside) (For lower upper stride) s).value left o e in
      let b = yields-bounds (frame_of plain part.Head 1 outside) lower upper stride s y.yield y.is in
      let at : first_position (Bounds b.0 b.1) ≡ o = ap first_position (sym b.2) ∙ y.at in
      let value : (head_of (frame_of plain part.Head 1 outside) (For lower upper stride) s).value ≡ Ok (Bounds b.0 b.1) = y.is ∙ ap (λ (x : Yield). Ok x) b.2 in
      let fine = head-fine 0 none-small (l ∷ []) outermost [] tt (All-nil I64) l refl (For lower upper stride) is (all-each I64 (head_numbers (For lower upper stride)) numbers) turns s fits in
      let values = subst (λ (r : Result Yield Halt). YieldFine 0 none-small (l ∷ []) outermost [] tt (All-nil I64) (For lower upper stride) r) value fine.1 in
      (subst (IsPosition (For lower upper stride)) at (0, b.1, refl, refl, λ i less. let none : 0 + i ≡ i = omega arith in rw none (values i less)), ap (λ (x : Outer). x.next) (sym at))

  pub first-in : (s : Store) (left : ℕ) (o : Outer) → IsOfI64s s → entry g.loops s left ≡ Ok o → IsFirst o
  unfolding entry loops_keep
  first-in s left o fits e = by g.loops refl
    where
      by : (ls : List Loop) → g.loops ≡ ls → IsFirst o
      by [] is = let none : Err Done ≡ Ok o = ap (λ (x : List Loop). entry x s left) (sym is) ∙ e in absurd (cc)
      by (l ∷ ls) is =
          let here : entry_at l.head s left ≡ Ok o = ap (λ (x : List Loop). entry x s left) (sym is) ∙ e in
          let inner = (and_parts (nat_le (length ls) 5) (loop_keeps l ls) (subst (λ (x : List Loop). loops_keep x ≡ true) is ready.keeps.loops_keep)).1 in
          let numbers = (subst (All HasI64s) is ready.numbers) 0 l (omega arith) in
          let first = first-by l.head l s left o refl numbers.head (loop_keeps-strides l ls inner) fits here in
          record { position = subst (λ (x : List Loop). IsPositionIn x o) (sym is) first.0; next = first.1 }

  -- ---- a nest

  pub record SomeNest (s : Store) (left used : ℕ) : Type 0 where
    pub lines : List Line
    pub end : Cut
    pub is : IsNestJourney g s left used lines end
    pub fits : end.ending ≡ Done → IsOfI64s end.store
    pub less : end.left ≤ left

  pub some-nest : (s : Store) (left used : ℕ) → IsOfI64s s → left ≤ 2 ^ 32 → SomeNest s left used
  some-nest s left used fits few = by (entry g.loops s left) refl
    where
      by : (r : Result Outer Finish) → entry g.loops s left ≡ r → SomeNest s left used
      by (Err finish) e = record { lines = []; end = cut_of s (left - entry_steps g.loops) (used + min (entry_steps g.loops) left) finish; is = not_entered finish e; fits = λ done. fits; less = omega arith }
      by (Ok o) e =
          let first = first-in s left o fits e in
          let start : Moment = entered_at g o s left used in
          let x = to-end Profiles start (cost Profiles (left - entry_steps g.loops)) Profiles start [] begun (record { position = first.position; number = 0; next = first.next; few = omega (arith, few); store = fits }) (omega arith) (omega arith) in
          let fewer = x.less in
          record { lines = x.lines; end = cut_of x.end.store x.end.left x.end.used x.finish; is = entered o x.lines x.finish x.end e x.reaches; fits = x.fits; less = omega (arith, fewer) }

-- ---- a file

module _ (options : Options) (version : Version) (scalars : ℕ) where
  abbrev Journey : List NestUnit → ℕ → Cut → List Line → Cut → Type 0
  Journey units number at lines end = IsJourneyOf options version scalars units number at.store at.left at.used lines end

  abbrev Follows : List NestUnit → ℕ → Cut → List Line → Cut → Finish → Type 0
  Follows units number at lines end f = where_ended f (Journey units number at lines end) ((lines ≡ []) × (end ≡ at))

  pub record SomeRest (units : List NestUnit) (number : ℕ) (at : Cut) : Type 0 where
    pub lines : List Line
    pub end : Cut
    pub is : Follows units number at lines end at.ending

  pub record SomeUnits (units : List NestUnit) (number : ℕ) (s : Store) (left used : ℕ) : Type 0 where
    pub lines : List Line
    pub end : Cut
    pub is : IsJourneyOf options version scalars units number s left used lines end

  pub rest-by : (units : List NestUnit) (number : ℕ) (at : Cut) (f : Finish) → at.ending ≡ f → (at.ending ≡ Done → SomeUnits units number at.store at.left at.used) → SomeRest units number at
  rest-by units number at Done e more =
      let x = more e in
      record { lines = x.lines; end = x.end; is = subst (Follows units number at x.lines x.end) (sym e) x.is }
  rest-by units number at (Halted halt) e more = record { lines = []; end = at; is = subst (Follows units number at [] at) (sym e) (refl, refl) }
  rest-by units number at Limited e more = record { lines = []; end = at; is = subst (Follows units number at [] at) (sym e) (refl, refl) }

  pub some-units : (units : List NestUnit) → Each (λ (u : NestUnit). IsReady (setting_of options scalars u)) units → (number : ℕ) (s : Store) (left used : ℕ) → IsOfI64s s → left ≤ 2 ^ 32 → SomeUnits units number s left used
  some-units [] ready number s left used fits few = record { lines = []; end = cut_of s left used Done; is = (refl, refl) }
  some-units (unit ∷ units) ready number s left used fits few =
      let nest = some-nest (setting_of options scalars unit) ready.0 s left used fits few in
      let less = nest.less in
      let rest = rest-by units (suc number) nest.end nest.end.ending refl (λ done. some-units units ready.1 (suc number) nest.end.store nest.end.left nest.end.used (nest.fits done) (omega (arith, few, less))) in
      record { lines = heading version number ++ (nest.lines ++ rest.lines); end = rest.end; is = (nest.lines, rest.lines, nest.end, nest.is, rest.is, refl) }

-- ---- the law

both-each : {A : Type 0} (P Q R : A → Type 0) (xs : List A) → ((x : A) → P x → Q x → R x) → Each P xs → Each Q xs → Each R xs
both-each P Q R [] both h k = tt
both-each P Q R (x ∷ xs) both h k = (both x h.0 k.0, both-each P Q R xs both h.1 k.1)

some-abs : (z : ℤ) → pos 1 ≤ℤ z → 1 ≤ unsigned_abs z
some-abs z h = omega (arith, ints, h)

pub nests-ready : (options : Options) (file : File) → IsRunnable options file → Each (λ (u : NestUnit). IsReady (setting_of options (length file.scalars) u)) file.units
nests-ready options file runs =
    both-each (λ (u : NestUnit). NestKeeps (length file.scalars) u.nest.loops) (λ (u : NestUnit). All HasI64s u.nest.loops) (λ (u : NestUnit). IsReady (setting_of options (length file.scalars) u)) file.units
    (λ u keeps numbers. record { keeps = keeps; few = runs.keeps.few_scalars; numbers = numbers; sample = some-abs options.sample runs.sample; chunk = some-abs options.chunk runs.chunk })
    (all-each (λ (u : NestUnit). NestKeeps (length file.scalars) u.nest.loops) file.units runs.keeps.nests_keep) (all-each (λ (u : NestUnit). All HasI64s u.nest.loops) file.units runs.numbers)

pub some-journey : SomeJourney
some-journey options file runs =
    let x = some-units options file.version (length file.scalars) file.units (nests-ready options file runs) 1 (first_store file) options.steps 0 runs.store runs.steps in
    (x.lines, x.end, x.is)
