-- A journey launches one list of chunks.
use Rattle.std.proofs.Common.{◌≡◌, refl, ap₂, ◌∙◌, sym, subst, ℕ, suc, List, [], ◌∷◌, ◌++◌, length, append-nil, append_assoc, true, false, ◌⊎◌, inl, inr}
use Rattle.nest_lang.specs.declared.state.Outer.{Outer}
use Rattle.nest_lang.specs.Stores.{Store}
use Rattle.nest_lang.specs.Traces.{Cut, Done, Finish, Halted, Limited}
use Rattle.nest_grammar.specs.declared.file.NestUnit.{NestUnit}
use Rattle.nest_grammar.specs.declared.version.Version.{Version}
use Rattle.nest_grammar.specs.Files.{first_store}
use Rattle.profile.specs.FirstProfiles.{has_turn}
use Rattle.report.specs.declared.journey.Options.{Options}
use Rattle.report.specs.declared.line.Line.{Line}
use Rattle.journeys.specs.Settings.{Setting, Moment, entry, setting_of}
use Rattle.journeys.specs.Stages.{Stage, Profiles, Chunks, Plainly, Over, ChunkLeads, Leads, Reaches}
use Rattle.journeys.specs.Stages.Leads.{no_profile, no_chunk, profile, chunk, plainly}
use Rattle.journeys.specs.Stages.Reaches.{begun, then}
use Rattle.journeys.specs.Journeys.{IsJourneyOf, IsNestJourney, entered_at, where_ended}
use Rattle.journeys.specs.Journeys.IsNestJourney.{not_entered, entered}
use Rattle.journeys.specs.HandedRecords.{Launched, launched_at, launched_by, launched_on, launched_in_nest, launched_behind, launched_in_nests}
use Rattle.journeys.specs.Laws.{OneLaunched}
use Rattle.journeys.proofs.EnteringLaws.{same-ok, not-both as entry-both}
use Rattle.journeys.proofs.OneWay.{has-both}
use Rattle.journeys.proofs.OneChunk.{launched-one}
use Rattle.journeys.proofs.OneJourney.{one-nest-journey, over-stays, stage-leads-one-way}

-- ---- a stage

-- what a stage launches, said of the stage that leads
abbrev LaunchedFrom : Setting → Stage → Moment → List Line → Stage → Moment → List Launched → Type 0
LaunchedFrom g Profiles m lines stage after chunks = chunks ≡ []
LaunchedFrom g (Chunks t number) m lines stage after chunks =
    ((has_turn m.outer.left ≡ false) × (chunks ≡ [])) ⊎ ((has_turn m.outer.left ≡ true) × ((leads : ChunkLeads t number g m lines stage after) × (launched_at leads ≡ chunks)))
LaunchedFrom g (Plainly turns) m lines stage after chunks = chunks ≡ []
LaunchedFrom g (Over finish) m lines stage after chunks = ⊥

launched-from : (g : Setting) (from : Stage) (m : Moment) (lines : List Line) (stage : Stage) (after : Moment) (leads : Leads g from m lines stage after) → LaunchedFrom g from m lines stage after (launched_by leads)
launched-from g from m lines stage after (no_profile at off) = refl
launched-from g from m lines stage after (no_chunk t number at off) = inl (off, refl)
launched-from g from m lines stage after (profile at there more next on leads) = refl
launched-from g from m lines stage after (chunk t number at there more next on leads) = inr (on, (leads, refl))
launched-from g from m lines stage after (plainly turns at there more next leads) = refl

from-one : (g : Setting) (from : Stage) (m : Moment) (lines lines' : List Line) (stage stage' : Stage) (after after' : Moment) (chunks others : List Launched)
    → LaunchedFrom g from m lines stage after chunks → LaunchedFrom g from m lines' stage' after' others → chunks ≡ others
from-one g Profiles m lines lines' stage stage' after after' chunks others a b = a ∙ sym b
from-one g (Chunks t number) m lines lines' stage stage' after after' chunks others (inl a) (inl b) = a.1 ∙ sym b.1
from-one g (Chunks t number) m lines lines' stage stage' after after' chunks others (inl a) (inr b) = absurd (has-both (has_turn m.outer.left) b.0 a.0)
from-one g (Chunks t number) m lines lines' stage stage' after after' chunks others (inr a) (inl b) = absurd (has-both (has_turn m.outer.left) a.0 b.0)
from-one g (Chunks t number) m lines lines' stage stage' after after' chunks others (inr a) (inr b) = sym a.1.1 ∙ launched-one t number g m lines lines' stage stage' after after' a.1.0 b.1.0 ∙ b.1.1
from-one g (Plainly turns) m lines lines' stage stage' after after' chunks others a b = a ∙ sym b
from-one g (Over finish) m lines lines' stage stage' after after' chunks others a b = absurd a

stage-launched-one : (g : Setting) (from : Stage) (m : Moment) (lines lines' : List Line) (stage stage' : Stage) (after after' : Moment) (a : Leads g from m lines stage after) (b : Leads g from m lines' stage' after')
    → launched_by a ≡ launched_by b
stage-launched-one g from m lines lines' stage stage' after after' a b =
    from-one g from m lines lines' stage stage' after after' (launched_by a) (launched_by b) (launched-from g from m lines stage after a) (launched-from g from m lines' stage' after' b)

-- ---- stages one after another, the first of them first

data Track (g : Setting) : Stage → Moment → List Launched → Stage → Moment → Type 0 where
  here : (stage : Stage) (m : Moment) → Track g stage m [] stage m
  step : (from next stage : Stage) (m there after : Moment) (lines : List Line) (more : List Launched) (leads : Leads g from m lines next there) → Track g next there more stage after
      → Track g from m (launched_by leads ++ more) stage after

module _ (g : Setting) where
  -- a last step
  onward : (from stage next : Stage) (m there after : Moment) (chunks : List Launched) (lines : List Line) → Track g from m chunks stage there → (leads : Leads g stage there lines next after)
      → Track g from m (chunks ++ launched_by leads) next after
  onward from stage next m there after chunks lines (here at by) last =
      subst (λ (cs : List Launched). Track g from m cs next after) (append-nil (launched_by last)) (step from next next m after after lines [] last (here next after))
  onward from stage next m there after chunks lines (step by middle end first second till one rest leads track) last =
      subst (λ (cs : List Launched). Track g from m cs next after) (sym (append_assoc (launched_by leads) rest (launched_by last)))
      (step from middle next m second after one (rest ++ launched_by last) leads (onward middle stage next second there after rest lines track last))

  track : (from : Stage) (start : Moment) (stage : Stage) (m : Moment) (lines : List Line) (reaches : Reaches g from start lines stage m) → Track g from start (launched_on reaches) stage m
  track from start stage m lines begun = here from start
  track from start stage m lines (then before more mid next at after r leads) = onward from mid next start at after (launched_on r) more (track from start mid at before r) leads

  -- a track, said of where it begins
  abbrev TrackFrom : Stage → Moment → List Launched → Stage → Moment → Type 0
  TrackFrom from m chunks stage after =
      ((from ≡ stage) × (m ≡ after) × (chunks ≡ []))
      ⊎ ((next : Stage) × (there : Moment) × (lines : List Line) × (rest : List Launched) × (leads : Leads g from m lines next there) × Track g next there rest stage after × (chunks ≡ launched_by leads ++ rest))

  track-from : (from stage : Stage) (m after : Moment) (chunks : List Launched) → Track g from m chunks stage after → TrackFrom from m chunks stage after
  track-from from stage m after chunks (here at by) = inl (refl, refl, refl)
  track-from from stage m after chunks (step by middle end first second till one rest leads more) = inr (middle, second, one, rest, leads, more, refl)

  -- two tracks to the end of the run launch the same chunks
  track-one : (from stage another : Stage) (m end other : Moment) (chunks others : List Launched) (finish last : Finish) → stage ≡ Over finish → another ≡ Over last
      → Track g from m chunks stage end → Track g from m others another other → chunks ≡ others
  track-one from stage another m end other chunks others finish last over over' (here at by) q = elim (track-from from another m other others q) [
    | inl none ↦ sym none.2
    | inr some ↦ absurd (over-stays g from some.0 m some.1 some.2 finish over some.4)
  ]
  track-one from stage another m end other chunks others finish last over over' (step by middle till first second by_then one rest leads more) q = elim (track-from from another m other others q) [
    | inl none ↦ absurd (over-stays g from middle m second one last (none.0 ∙ over') leads)
    | inr some ↦
        let same = stage-leads-one-way g from m one some.2 middle some.0 second some.1 leads some.4 in
        let there : Track g middle some.1 some.3 another other = subst (λ (x : Stage). Track g x some.1 some.3 another other) (sym same.next) some.5 in
        let again : Track g middle second some.3 another other = subst (λ (x : Moment). Track g middle x some.3 another other) (sym same.there) there in
        let after = track-one middle stage another second end other rest some.3 finish last over over' more again in
        ap₂ (λ (cs ds : List Launched). cs ++ ds) (stage-launched-one g from m one some.2 middle some.0 second some.1 leads some.4) after ∙ sym some.6
  ]

-- ---- a nest

nest-launched-one : (g : Setting) (s : Store) (left used : ℕ) (lines others : List Line) (end other : Cut) (a : IsNestJourney g s left used lines end) (b : IsNestJourney g s left used others other) → launched_in_nest a ≡ launched_in_nest b
nest-launched-one g s left used lines others end other (not_entered finish none) (not_entered last none') = refl
nest-launched-one g s left used lines others end other (not_entered finish none) (entered o told last m at r) = absurd (entry-both (entry g.loops s left) o finish at none)
nest-launched-one g s left used lines others end other (entered o told finish m at r) (not_entered last none) = absurd (entry-both (entry g.loops s left) o last at none)
nest-launched-one g s left used lines others end other (entered o told finish m at r) (entered o' told' last m' at' r') =
    let start = entered_at g o s left used in
    let placed : o' ≡ o = same-ok (entry g.loops s left) o' o at' at in
    let again : (x : Reaches g Profiles start told' (Over last) m') × (launched_on x ≡ launched_on r') =
    subst (λ (p : Outer). (x : Reaches g Profiles (entered_at g p s left used) told' (Over last) m') × (launched_on x ≡ launched_on r')) placed (r', refl) in
    track-one g Profiles (Over finish) (Over last) start m m' (launched_on r) (launched_on again.0) finish last refl refl (track g Profiles start (Over finish) m told r) (track g Profiles start (Over last) m' told' again.0) ∙ again.1

-- ---- a file

module _ (options : Options) (version : Version) (scalars : ℕ) where
  abbrev Journey : List NestUnit → ℕ → Cut → List Line → Cut → Type 0
  Journey units number at lines end = IsJourneyOf options version scalars units number at.store at.left at.used lines end

  abbrev Follows : List NestUnit → ℕ → Cut → List Line → Cut → Finish → Type 0
  Follows units number at rest end f = where_ended f (Journey units number at rest end) ((rest ≡ []) × (end ≡ at))

  abbrev launched : (units : List NestUnit) (number : ℕ) (at : Cut) (rest : List Line) (end : Cut) (f : Finish) → Follows units number at rest end f → List Launched
  launched units number at rest end f follows =
      launched_behind (Journey units number at rest end) ((rest ≡ []) × (end ≡ at)) (launched_in_nests options version scalars units number at.store at.left at.used rest end) f follows

  -- what follows a nest
  rest-one : (units : List NestUnit) (number : ℕ) (at : Cut) (f : Finish) (rest rest' : List Line) (end other : Cut)
      → ((a : Journey units number at rest end) (b : Journey units number at rest' other)
      → launched_in_nests options version scalars units number at.store at.left at.used rest end a ≡ launched_in_nests options version scalars units number at.store at.left at.used rest' other b)
      → (a : Follows units number at rest end f) (b : Follows units number at rest' other f) → launched units number at rest end f a ≡ launched units number at rest' other f b
  rest-one units number at Done rest rest' end other one a b = one a b
  rest-one units number at (Halted halt) rest rest' end other one a b = refl
  rest-one units number at Limited rest rest' end other one a b = refl

  units-one : (units : List NestUnit) (number : ℕ) (s : Store) (left used : ℕ) (lines others : List Line) (end other : Cut)
      (a : IsJourneyOf options version scalars units number s left used lines end) (b : IsJourneyOf options version scalars units number s left used others other)
      → launched_in_nests options version scalars units number s left used lines end a ≡ launched_in_nests options version scalars units number s left used others other b
  units-one [] number s left used lines others end other a b = refl
  units-one (unit ∷ units) number s left used lines others end other (own, rest, at, nest, follows, are) (own', rest', at', nest', follows', are') =
      let first = one-nest-journey (setting_of options scalars unit) s left used own own' at at' nest nest' in
      let more : (x : Follows units (suc number) at rest' other at.ending) × (launched units (suc number) at rest' other at.ending x ≡ launched units (suc number) at' rest' other at'.ending follows') =
      subst (λ (c : Cut). (x : Follows units (suc number) c rest' other c.ending) × (launched units (suc number) c rest' other c.ending x ≡ launched units (suc number) at' rest' other at'.ending follows')) (sym first.ends) (follows', refl) in
      ap₂ (λ (cs ds : List Launched). cs ++ ds) (nest-launched-one (setting_of options scalars unit) s left used own own' at at' nest nest')
      (rest-one units (suc number) at at.ending rest rest' end other (units-one units (suc number) at.store at.left at.used rest rest' end other) follows more.0 ∙ more.1)

pub one-launched : OneLaunched
one-launched options file lines others end other a b = units-one options file.version (length file.scalars) file.units 1 (first_store file) options.steps 0 lines others end other a b
