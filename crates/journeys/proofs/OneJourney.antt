-- A file has at most one journey.
use Rattle.std.proofs.Common.{◌≡◌, refl, ap, ap₂, ◌∙◌, sym, subst, ℕ, suc, ◌+◌, ◌-◌, min, List, [], ◌∷◌, ◌++◌, length, append-nil, append_assoc, true, false, ◌⊎◌, inl, inr}
use Rattle.nest_lang.specs.declared.state.Outer.{Outer}
use Rattle.nest_lang.specs.Stores.{Store}
use Rattle.nest_lang.specs.Traces.{Cut, Done, Finish, Halted, Limited, cut_of}
use Rattle.nest_lang.specs.Turns.{entry_steps}
use Rattle.nest_grammar.specs.declared.file.NestUnit.{NestUnit}
use Rattle.nest_grammar.specs.declared.version.Version.{Version}
use Rattle.nest_grammar.specs.Files.{first_store}
use Rattle.profile.specs.FirstProfiles.{has_turn}
use Rattle.report.specs.declared.journey.Options.{Options}
use Rattle.report.specs.declared.line.Line.{Line}
use Rattle.journeys.specs.Settings.{Setting, Moment, entry, setting_of}
use Rattle.journeys.specs.Stages.{Stage, Profiles, Chunks, Plainly, Over, ProfileLeads, ChunkLeads, PlainLeads, Leads, Reaches}
use Rattle.journeys.specs.Stages.Leads.{no_profile, no_chunk, profile, chunk, plainly}
use Rattle.journeys.specs.Stages.Reaches.{begun, then}
use Rattle.journeys.specs.Tellings.{heading}
use Rattle.journeys.specs.Journeys.{IsJourneyOf, entered_at, where_ended}
use Rattle.journeys.specs.Journeys.IsNestJourney.{not_entered, entered}
use Rattle.journeys.specs.Laws.{OneJourney, OneNestJourney, SameJourney, SameWay, StageLeadsOneWay}
use Rattle.journeys.proofs.EnteringLaws.{same-err, same-ok, not-both as entry-both}
use Rattle.journeys.proofs.OneWay.{has-both, plain-leads-one-way, profile-leads-one-way}
use Rattle.journeys.proofs.OneChunk.{chunk-leads-one-way}

-- ---- a stage

record LedNowhere (m : Moment) (lines : List Line) (stage : Stage) (after : Moment) : Type 0 where
  none : has_turn m.outer.left ≡ false
  told : lines ≡ []
  next : stage ≡ Over Done
  there : after ≡ m

-- where a stage leads, said of the stage that it leads from
abbrev LeadsFrom : Setting → Stage → Moment → List Line → Stage → Moment → Type 0
LeadsFrom g Profiles m lines stage after = LedNowhere m lines stage after ⊎ ((has_turn m.outer.left ≡ true) × ProfileLeads g m lines stage after)
LeadsFrom g (Chunks t number) m lines stage after = LedNowhere m lines stage after ⊎ ((has_turn m.outer.left ≡ true) × ChunkLeads t number g m lines stage after)
LeadsFrom g (Plainly turns) m lines stage after = PlainLeads turns g m lines stage after
LeadsFrom g (Over finish) m lines stage after = ⊥

leads-from : (g : Setting) (from : Stage) (m : Moment) (lines : List Line) (stage : Stage) (after : Moment) → Leads g from m lines stage after → LeadsFrom g from m lines stage after
leads-from g from m lines stage after (no_profile at off) = inl (record { none = off; told = refl; next = refl; there = refl })
leads-from g from m lines stage after (no_chunk t number at off) = inl (record { none = off; told = refl; next = refl; there = refl })
leads-from g from m lines stage after (profile at there more next on leads) = inr (on, leads)
leads-from g from m lines stage after (chunk t number at there more next on leads) = inr (on, leads)
leads-from g from m lines stage after (plainly turns at there more next leads) = leads

nowhere-one : (m : Moment) (lines lines' : List Line) (stage stage' : Stage) (after after' : Moment) → LedNowhere m lines stage after → LedNowhere m lines' stage' after' → SameWay lines lines' stage stage' after after'
nowhere-one m lines lines' stage stage' after after' a b = record { told = a.told ∙ sym b.told; next = a.next ∙ sym b.next; there = a.there ∙ sym b.there }

from-one : (g : Setting) (from : Stage) (m : Moment) (lines lines' : List Line) (stage stage' : Stage) (after after' : Moment) → LeadsFrom g from m lines stage after → LeadsFrom g from m lines' stage' after' → SameWay lines lines' stage stage' after after'
from-one g Profiles m lines lines' stage stage' after after' (inl a) (inl b) = nowhere-one m lines lines' stage stage' after after' a b
from-one g Profiles m lines lines' stage stage' after after' (inl a) (inr b) = absurd (has-both (has_turn m.outer.left) b.0 a.none)
from-one g Profiles m lines lines' stage stage' after after' (inr a) (inl b) = absurd (has-both (has_turn m.outer.left) a.0 b.none)
from-one g Profiles m lines lines' stage stage' after after' (inr a) (inr b) = profile-leads-one-way g m lines lines' stage stage' after after' a.1 b.1
from-one g (Chunks t number) m lines lines' stage stage' after after' (inl a) (inl b) = nowhere-one m lines lines' stage stage' after after' a b
from-one g (Chunks t number) m lines lines' stage stage' after after' (inl a) (inr b) = absurd (has-both (has_turn m.outer.left) b.0 a.none)
from-one g (Chunks t number) m lines lines' stage stage' after after' (inr a) (inl b) = absurd (has-both (has_turn m.outer.left) a.0 b.none)
from-one g (Chunks t number) m lines lines' stage stage' after after' (inr a) (inr b) = chunk-leads-one-way t number g m lines lines' stage stage' after after' a.1 b.1
from-one g (Plainly turns) m lines lines' stage stage' after after' a b = plain-leads-one-way turns g m lines lines' stage stage' after after' a b
from-one g (Over finish) m lines lines' stage stage' after after' a b = absurd a

pub stage-leads-one-way : StageLeadsOneWay
stage-leads-one-way g from m lines lines' stage stage' after after' a b =
    from-one g from m lines lines' stage stage' after after' (leads-from g from m lines stage after a) (leads-from g from m lines' stage' after' b)

-- ---- stages one after another, the first of them first

data Path (g : Setting) : Stage → Moment → List Line → Stage → Moment → Type 0 where
  here : (stage : Stage) (m : Moment) → Path g stage m [] stage m
  step : (from next stage : Stage) (m there after : Moment) (lines more : List Line) → Leads g from m lines next there → Path g next there more stage after → Path g from m (lines ++ more) stage after

module _ (g : Setting) where
  -- a last step
  onward : (from stage next : Stage) (m there after : Moment) (lines more : List Line) → Path g from m lines stage there → Leads g stage there more next after → Path g from m (lines ++ more) next after
  onward from stage next m there after lines more (here at by) leads =
      subst (λ (ls : List Line). Path g from m ls next after) (append-nil more) (step from next next m after after more [] leads (here next after))
  onward from stage next m there after lines more (step by middle end first second last one rest leads path) last_leads =
      subst (λ (ls : List Line). Path g from m ls next after) (sym (append_assoc one rest more))
      (step from middle next m second after one (rest ++ more) leads (onward middle stage next second there after rest more path last_leads))

  path : (from : Stage) (start : Moment) (stage : Stage) (m : Moment) (lines : List Line) → Reaches g from start lines stage m → Path g from start lines stage m
  path from start stage m lines begun = here from start
  path from start stage m lines (then before more mid next at after r leads) = onward from mid next start at after before more (path from start mid at before r) leads

  record SamePath (lines others : List Line) (finish last : Finish) (end other : Moment) : Type 0 where
    told : lines ≡ others
    finishes : finish ≡ last
    ends : end ≡ other

  -- a path, said of where it begins
  abbrev PathFrom : Stage → Moment → List Line → Stage → Moment → Type 0
  PathFrom from m lines stage after =
      ((from ≡ stage) × (m ≡ after) × (lines ≡ []))
      ⊎ ((next : Stage) × (there : Moment) × (one : List Line) × (rest : List Line) × Leads g from m one next there × Path g next there rest stage after × (lines ≡ one ++ rest))

  path-from : (from stage : Stage) (m after : Moment) (lines : List Line) → Path g from m lines stage after → PathFrom from m lines stage after
  path-from from stage m after lines (here at by) = inl (refl, refl, refl)
  path-from from stage m after lines (step by middle end first second last one rest leads more) = inr (middle, second, one, rest, leads, more, refl)

  -- the run has finished, and nothing follows
  pub over-stays : (from next : Stage) (m there : Moment) (lines : List Line) (finish : Finish) → from ≡ Over finish → Leads g from m lines next there → ⊥
  over-stays from next m there lines finish over leads = subst (λ (x : Stage). LeadsFrom g x m lines next there) over (leads-from g from m lines next there leads)

  same-finish : (finish last : Finish) → Over finish ≡ Over last → finish ≡ last
  same-finish finish last e = cc

  -- two paths to the end of the run are one
  path-one : (from stage another : Stage) (m end other : Moment) (lines others : List Line) (finish last : Finish) → stage ≡ Over finish → another ≡ Over last
      → Path g from m lines stage end → Path g from m others another other → SamePath lines others finish last end other
  path-one from stage another m end other lines others finish last over over' (here at by) q = elim (path-from from another m other others q) [
    | inl none ↦ record { told = sym none.2; finishes = same-finish finish last (sym over ∙ none.0 ∙ over'); ends = none.1 }
    | inr some ↦ absurd (over-stays from some.0 m some.1 some.2 finish over some.4)
  ]
  path-one from stage another m end other lines others finish last over over' (step by middle till first second by_then one rest leads more) q = elim (path-from from another m other others q) [
    | inl none ↦ absurd (over-stays from middle m second one last (none.0 ∙ over') leads)
    | inr some ↦
        let same = stage-leads-one-way g from m one some.2 middle some.0 second some.1 leads some.4 in
        let there : Path g middle some.1 some.3 another other = subst (λ (x : Stage). Path g x some.1 some.3 another other) (sym same.next) some.5 in
        let again : Path g middle second some.3 another other = subst (λ (x : Moment). Path g middle x some.3 another other) (sym same.there) there in
        let after = path-one middle stage another second end other rest some.3 finish last over over' more again in
        record { told = ap₂ (λ (xs ys : List Line). xs ++ ys) same.told after.told ∙ sym some.6; finishes = after.finishes; ends = after.ends }
  ]

-- ---- a nest

pub one-nest-journey : OneNestJourney
one-nest-journey g s left used lines others end other (not_entered finish none) (not_entered last none') =
    record { told = refl; ends = ap (λ (f : Finish). cut_of s (left - entry_steps g.loops) (used + min (entry_steps g.loops) left) f) (same-err (entry g.loops s left) finish last none none') }
one-nest-journey g s left used lines others end other (not_entered finish none) (entered o told last m at r) = absurd (entry-both (entry g.loops s left) o finish at none)
one-nest-journey g s left used lines others end other (entered o told finish m at r) (not_entered last none) = absurd (entry-both (entry g.loops s left) o last at none)
one-nest-journey g s left used lines others end other (entered o told finish m at r) (entered o' told' last m' at' r') =
    let start = entered_at g o s left used in
    let placed : o' ≡ o = same-ok (entry g.loops s left) o' o at' at in
    let again : Reaches g Profiles start told' (Over last) m' = subst (λ (x : Outer). Reaches g Profiles (entered_at g x s left used) told' (Over last) m') placed r' in
    let same = path-one g Profiles (Over finish) (Over last) start m m' told told' finish last refl refl (path g Profiles start (Over finish) m told r) (path g Profiles start (Over last) m' told' again) in
    record { told = same.told; ends = ap₂ (λ (x : Moment) (f : Finish). cut_of x.store x.left x.used f) same.ends same.finishes }

-- ---- a file

module _ (options : Options) (version : Version) (scalars : ℕ) where
  abbrev Journey : List NestUnit → ℕ → Cut → List Line → Cut → Type 0
  Journey units number at lines end = IsJourneyOf options version scalars units number at.store at.left at.used lines end

  -- what follows a nest
  rest-one : (units : List NestUnit) (number : ℕ) (at : Cut) (f : Finish) (rest rest' : List Line) (end other : Cut)
      → (Journey units number at rest end → Journey units number at rest' other → SameJourney rest rest' end other)
      → where_ended f (Journey units number at rest end) ((rest ≡ []) × (end ≡ at)) → where_ended f (Journey units number at rest' other) ((rest' ≡ []) × (other ≡ at)) → SameJourney rest rest' end other
  rest-one units number at Done rest rest' end other one a b = one a b
  rest-one units number at (Halted halt) rest rest' end other one a b = record { told = a.0 ∙ sym b.0; ends = a.1 ∙ sym b.1 }
  rest-one units number at Limited rest rest' end other one a b = record { told = a.0 ∙ sym b.0; ends = a.1 ∙ sym b.1 }

  abbrev Follows : List NestUnit → ℕ → Cut → List Line → Cut → Type 0
  Follows units number at rest end = where_ended at.ending (Journey units number at rest end) ((rest ≡ []) × (end ≡ at))

  units-one : (units : List NestUnit) (number : ℕ) (s : Store) (left used : ℕ) (lines others : List Line) (end other : Cut)
      → IsJourneyOf options version scalars units number s left used lines end → IsJourneyOf options version scalars units number s left used others other → SameJourney lines others end other
  units-one [] number s left used lines others end other a b = record { told = a.0 ∙ sym b.0; ends = a.1 ∙ sym b.1 }
  units-one (unit ∷ units) number s left used lines others end other (own, rest, at, nest, follows, are) (own', rest', at', nest', follows', are') =
      let first = one-nest-journey (setting_of options scalars unit) s left used own own' at at' nest nest' in
      let more : Follows units (suc number) at rest' other = subst (λ (x : Cut). Follows units (suc number) x rest' other) (sym first.ends) follows' in
      let after = rest-one units (suc number) at at.ending rest rest' end other (units-one units (suc number) at.store at.left at.used rest rest' end other) follows more in
      record { told = are ∙ ap₂ (λ (xs ys : List Line). heading version number ++ (xs ++ ys)) first.told after.told ∙ sym are'; ends = after.ends }

pub one-journey : OneJourney
one-journey options file lines others end other a b = units-one options file.version (length file.scalars) file.units 1 (first_store file) options.steps 0 lines others end other a b
