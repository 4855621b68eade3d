-- What a run has launched as far as it came are the first launched chunks of a journey.
use Rattle.std.proofs.Common.{◌≡◌, refl, ap, ◌∙◌, sym, subst, ℕ, suc, ◌≤◌, ◌^◌, List, [], ◌∷◌, ◌++◌, length, append_assoc, append-nil, inl, inr, Ok, arith}
use Rattle.nest_lang.specs.declared.state.Outer.{Outer}
use Rattle.nest_lang.specs.Stores.{Store}
use Rattle.nest_lang.specs.Traces.{Cut, Done, Finish, cut_of}
use Rattle.nest_grammar.specs.declared.file.NestUnit.{NestUnit}
use Rattle.nest_grammar.specs.declared.version.Version.{Version}
use Rattle.nest_grammar.specs.Files.{first_store}
use Rattle.profile.specs.Reach.{IsOfI64s}
use Rattle.profile.proofs.ReachLaws.{Each}
use Rattle.report.specs.declared.journey.Options.{Options}
use Rattle.report.specs.declared.line.Line.{Line}
use Rattle.journeys.specs.Settings.{Setting, Moment, entry, setting_of}
use Rattle.journeys.specs.Tellings.{heading}
use Rattle.journeys.specs.Stages.{Stage, Profiles, Over, Leads, Reaches}
use Rattle.journeys.specs.Stages.Leads.{no_profile, no_chunk, profile, chunk, plainly}
use Rattle.journeys.specs.Stages.Reaches.{begun, then}
use Rattle.journeys.specs.Journeys.{IsJourneyOf, IsNestJourney, entered_at, where_ended}
use Rattle.journeys.specs.Journeys.IsNestJourney.{not_entered, entered}
use Rattle.journeys.specs.HandedRecords.{Launched, NestHasLaunched, HaveLaunched, launched_on, launched_in_nest, launched_in_nests, launched_behind}
use Rattle.journeys.specs.HandedRecords.NestHasLaunched.{not_begun, so_far}
use Rattle.journeys.specs.Laws.{BegunGoesOn}
use Rattle.journeys.proofs.HandedLaws.{launches-more}
use Rattle.journeys.proofs.SomeJourney.{Begins, IsReady, IsSteady, chunk-on, cost, first-in, nests-ready, plain-on, profile-on, rest-by, some-nest, some-units, to-end}

module _ (g : Setting) (ready : IsReady g) where
  -- a stage begins where one before it led
  record StillBegins (start : Moment) (stage : Stage) (m : Moment) : Type 0 where
    begins : Begins g ready stage m
    less : m.left ≤ start.left

  leads-on : (from stage : Stage) (m after : Moment) (lines : List Line) → Leads g from m lines stage after → Begins g ready from m → StillBegins m stage after
  leads-on from stage m after lines (no_profile at off) steady = record { begins = λ done. steady.store; less = omega arith }
  leads-on from stage m after lines (no_chunk t number at off) (steady, is, s) = record { begins = λ done. steady.store; less = omega arith }
  leads-on from stage m after lines (profile at there told next on leads) steady =
      let goes = profile-on g ready at steady on told next there leads in record { begins = goes.begins; less = goes.less }
  leads-on from stage m after lines (chunk t number at there told next on leads) (steady, is, s) =
      let goes = chunk-on g ready at steady on t number is s told next there leads in record { begins = goes.begins; less = goes.less }
  leads-on from stage m after lines (plainly turns at there told next leads) (steady, some, on) =
      let goes = plain-on g ready at steady on turns some told next there leads in record { begins = goes.begins; less = goes.less }

  still-begins : (from : Stage) (start : Moment) (stage : Stage) (m : Moment) (lines : List Line) → Reaches g from start lines stage m → Begins g ready from start → StillBegins start stage m
  still-begins from start stage m lines begun begins = record { begins = begins; less = omega arith }
  still-begins from start stage m lines (then told more mid next at after reaches leads) begins =
      let before = still-begins from start mid at told reaches begins in
      let last = leads-on mid next at after more leads before.begins in
      let less = before.less in
      let fewer = last.less in
      record { begins = last.begins; less = omega (arith, less, fewer) }

  -- ---- a nest

  first-begins : (s : Store) (left used : ℕ) (o : Outer) → IsOfI64s s → left ≤ 2 ^ 32 → entry g.loops s left ≡ Ok o → IsSteady g (entered_at g o s left used)
  first-begins s left used o fits few at =
      let first = first-in g ready s left o fits at in
      record { position = first.position; number = 0; next = first.next; few = omega (arith, few); store = fits }

  -- a nest that ended leaves i64s, and no more steps
  record LeavesI64s (left : ℕ) (end : Cut) : Type 0 where
    store : IsOfI64s end.store
    less : end.left ≤ left

  nest-leaves : (s : Store) (left used : ℕ) (lines : List Line) (end : Cut) → IsOfI64s s → left ≤ 2 ^ 32 → IsNestJourney g s left used lines end → end.ending ≡ Done → LeavesI64s left end
  nest-leaves s left used lines end fits few (not_entered finish none) done = record { store = fits; less = omega arith }
  nest-leaves s left used lines end fits few (entered o told finish m at reaches) done =
      let still = still-begins Profiles (entered_at g o s left used) (Over finish) m told reaches (first-begins s left used o fits few at) in
      let less = still.less in
      record { store = still.begins done; less = omega (arith, less) }

  -- a nest that was begun has a journey that goes on from there
  record NestGoesOn (s : Store) (left used : ℕ) (chunks : List Launched) : Type 0 where
    lines : List Line
    end : Cut
    nest : IsNestJourney g s left used lines end
    rest : List Launched
    launched : launched_in_nest nest ≡ chunks ++ rest
    fits : end.ending ≡ Done → IsOfI64s end.store
    less : end.left ≤ left

  nest-goes_on : (s : Store) (left used : ℕ) (chunks : List Launched) → IsOfI64s s → left ≤ 2 ^ 32 → NestHasLaunched g s left used chunks → NestGoesOn s left used chunks
  nest-goes_on s left used chunks fits few not_begun =
      let x = some-nest g ready s left used fits few in
      record { lines = x.lines; end = x.end; nest = x.is; rest = launched_in_nest x.is; launched = refl; fits = x.fits; less = x.less }
  nest-goes_on s left used chunks fits few (so_far o told stage m at reaches) =
      let start = entered_at g o s left used in
      let still = still-begins Profiles start stage m told reaches (first-begins s left used o fits few at) in
      let x = to-end g ready stage m (cost g ready stage m.left) stage m [] begun still.begins (omega arith) (omega arith) in
      let whole = launches-more g Profiles start stage m told x.lines (Over x.finish) x.end (launched_on reaches) (launched_on x.reaches) (reaches, refl) (x.reaches, refl) in
      let less = still.less in
      let fewer = x.less in
      record {
        lines = told ++ x.lines;
        end = cut_of x.end.store x.end.left x.end.used x.finish;
        nest = entered o (told ++ x.lines) x.finish x.end at whole.0;
        rest = launched_on x.reaches;
        launched = whole.1;
        fits = x.fits;
        less = omega (arith, less, fewer);
      }

-- ---- a file

module _ (options : Options) (version : Version) (scalars : ℕ) where
  record NestsGoOn (units : List NestUnit) (number : ℕ) (s : Store) (left used : ℕ) (chunks : List Launched) : Type 0 where
    lines : List Line
    end : Cut
    journey : IsJourneyOf options version scalars units number s left used lines end
    rest : List Launched
    launched : launched_in_nests options version scalars units number s left used lines end journey ≡ chunks ++ rest

  -- what follows a nest that ended
  abbrev Behind : List NestUnit → ℕ → Cut → List Line → Cut → List Launched → Finish → Type 0
  Behind units number at lines end chunks f =
      (follows : where_ended f (IsJourneyOf options version scalars units number at.store at.left at.used lines end) ((lines ≡ []) × (end ≡ at)))
      × (launched_behind (IsJourneyOf options version scalars units number at.store at.left at.used lines end) ((lines ≡ []) × (end ≡ at))
      (launched_in_nests options version scalars units number at.store at.left at.used lines end) f follows ≡ chunks)

  go-on : (units : List NestUnit) → Each (λ (u : NestUnit). IsReady (setting_of options scalars u)) units → (number : ℕ) (s : Store) (left used : ℕ) (chunks : List Launched) → IsOfI64s s → left ≤ 2 ^ 32
      → HaveLaunched options scalars units s left used chunks → NestsGoOn units number s left used chunks
  go-on [] ready number s left used chunks fits few none = record {
    lines = [];
    end = cut_of s left used Done;
    journey = (refl, refl);
    rest = [];
    launched = sym (append-nil chunks ∙ none);
  }
  go-on (unit ∷ units) ready number s left used chunks fits few (inl begins) =
      let nest = nest-goes_on (setting_of options scalars unit) ready.0 s left used chunks fits few begins in
      let less = nest.less in
      let rest = rest-by options version scalars units (suc number) nest.end nest.end.ending refl
      (λ done. some-units options version scalars units ready.1 (suc number) nest.end.store nest.end.left nest.end.used (nest.fits done) (omega (arith, few, less))) in
      let behind = launched_behind (IsJourneyOf options version scalars units (suc number) nest.end.store nest.end.left nest.end.used rest.lines rest.end) ((rest.lines ≡ []) × (rest.end ≡ nest.end))
      (launched_in_nests options version scalars units (suc number) nest.end.store nest.end.left nest.end.used rest.lines rest.end) nest.end.ending rest.is in
      record {
        lines = heading version number ++ (nest.lines ++ rest.lines);
        end = rest.end;
        journey = (nest.lines, rest.lines, nest.end, nest.nest, rest.is, refl);
        rest = nest.rest ++ behind;
        launched = ap (λ (cs : List Launched). cs ++ behind) nest.launched ∙ append_assoc chunks nest.rest behind;
      }
  go-on (unit ∷ units) ready number s left used chunks fits few (inr (own, here, nest, done, more, launched, are)) =
      let leaves = nest-leaves (setting_of options scalars unit) ready.0 s left used own here fits few nest done in
      let less = leaves.less in
      let rest = go-on units ready.1 (suc number) here.store here.left here.used more leaves.store (omega (arith, few, less)) launched in
      let behind : Behind units (suc number) here rest.lines rest.end (more ++ rest.rest) here.ending = subst (Behind units (suc number) here rest.lines rest.end (more ++ rest.rest)) (sym done) (rest.journey, rest.launched) in
      record {
        lines = heading version number ++ (own ++ rest.lines);
        end = rest.end;
        journey = (own, rest.lines, here, nest, behind.0, refl);
        rest = rest.rest;
        launched = ap (λ (cs : List Launched). launched_in_nest nest ++ cs) behind.1 ∙ sym (append_assoc (launched_in_nest nest) more rest.rest) ∙ ap (λ (cs : List Launched). cs ++ rest.rest) (sym are);
      }

pub begun-goes_on : BegunGoesOn
begun-goes_on options file chunks runs launched =
    let x = go-on options file.version (length file.scalars) file.units (nests-ready options file runs) 1 (first_store file) options.steps 0 chunks runs.store runs.steps launched in
    (x.lines, x.end, x.journey, x.rest, x.launched)
