-- Handed records: one after another, and of journeys that are over.
use Rattle.std.proofs.Common.{◌≡◌, refl, ap, ◌∙◌, sym, subst, ℕ, suc, List, [], ◌∷◌, ◌++◌, append_assoc, append-nil, inl, inr}
use Rattle.nest_lang.specs.Stores.{Store}
use Rattle.nest_lang.specs.Traces.{Finish, Done, Halted, Limited, Cut}
use Rattle.nest_grammar.specs.declared.file.NestUnit.{NestUnit}
use Rattle.nest_grammar.specs.declared.version.Version.{Version}
use Rattle.crew.specs.declared.handed.Handed.{Handed}
use Rattle.report.specs.declared.journey.Options.{Options}
use Rattle.report.specs.declared.line.Line.{Line}
use Rattle.journeys.specs.Settings.{Setting, Moment, setting_of}
use Rattle.journeys.specs.Stages.{Stage, Over}
use Rattle.journeys.specs.Stages.Reaches.{begun, then}
use Rattle.journeys.specs.Journeys.{IsNestJourney, IsJourneyOf, where_ended}
use Rattle.journeys.specs.Journeys.IsNestJourney.{not_entered, entered}
use Rattle.journeys.specs.HandedRecords.{Launched, Launching, IsGroup, IsHandedRecord, NestHasLaunched, HaveLaunched, launched_behind, launched_by, launched_in_nest, launched_in_nests, launched_on}
use Rattle.journeys.specs.HandedRecords.NestHasLaunched.{not_begun, so_far}

-- ---- records

pub record-one : (workers : ℕ) (l : Launched) (group : List Handed) → IsGroup workers l.extent l.end group → IsHandedRecord workers (l ∷ []) group
record-one workers l group is = (group, [], is, refl, sym (append-nil group))

-- of chunks and of those that follow
pub record-more : (workers : ℕ) (chunks more : List Launched) (list rest : List Handed) → IsHandedRecord workers chunks list → IsHandedRecord workers more rest → IsHandedRecord workers (chunks ++ more) (list ++ rest)
record-more workers [] more list rest none is = subst (λ (hs : List Handed). IsHandedRecord workers more (hs ++ rest)) (sym none) is
record-more workers (l ∷ ls) more list rest (group, behind, of, others, are) is =
    (group, behind ++ rest, of, record-more workers ls more behind rest others is, ap (λ (hs : List Handed). hs ++ rest) are ∙ append_assoc group behind rest)

-- ---- stages that follow others

pub launches-more : (g : Setting) (from : Stage) (start : Moment) (mid : Stage) (m : Moment) (lines more : List Line) (to : Stage) (after : Moment) (chunks further : List Launched)
    → Launching g from start lines mid m chunks → Launching g mid m more to after further → Launching g from start (lines ++ more) to after (chunks ++ further)
launches-more g from start mid m lines more to after chunks further (r, is) (begun, e) =
    subst (λ (ls : List Line). Launching g from start ls mid m (chunks ++ further)) (sym (append-nil lines)) (r, is ∙ sym (append-nil chunks) ∙ ap (λ (cs : List Launched). chunks ++ cs) e)
launches-more g from start mid m lines more to after chunks further (r, is) (then before told stage next at there s leads, e) =
    let first = launches-more g from start mid m lines before stage at chunks (launched_on s) (r, is) (s, refl) in
    subst (λ (ls : List Line). Launching g from start ls to after (chunks ++ further)) (append_assoc lines before told) (
      then (lines ++ before) told stage next at there first.0 leads,
      ap (λ (cs : List Launched). cs ++ launched_by leads) first.1 ∙ append_assoc chunks (launched_on s) (launched_by leads) ∙ ap (λ (cs : List Launched). chunks ++ cs) e,
    )

-- ---- what was launched

-- before any nest was begun
pub none-launched : (options : Options) (scalars : ℕ) (units : List NestUnit) (s : Store) (left used : ℕ) → HaveLaunched options scalars units s left used []
none-launched options scalars [] s left used = refl
none-launched options scalars (unit ∷ units) s left used = inl not_begun

-- at the end of a nest
pub nest-launched : (g : Setting) (s : Store) (left used : ℕ) (lines : List Line) (end : Cut) (nest : IsNestJourney g s left used lines end) → NestHasLaunched g s left used (launched_in_nest nest)
nest-launched g s left used lines end (not_entered finish none) = not_begun
nest-launched g s left used lines end (entered o told finish m at reaches) = so_far o told (Over finish) m at reaches

-- at the end of nests
pub nests-launched : (options : Options) (version : Version) (scalars : ℕ) (units : List NestUnit) (number : ℕ) (s : Store) (left used : ℕ) (lines : List Line) (end : Cut)
    (journey : IsJourneyOf options version scalars units number s left used lines end)
    → HaveLaunched options scalars units s left used (launched_in_nests options version scalars units number s left used lines end journey)
nests-launched options version scalars [] number s left used lines end journey = refl
nests-launched options version scalars (unit ∷ units) number s left used lines end (own, rest, here, nest, follows, are) =
    by (nests-launched options version scalars units (suc number) here.store here.left here.used rest end) here.ending refl follows
  where
    by : ((journey : IsJourneyOf options version scalars units (suc number) here.store here.left here.used rest end)
        → HaveLaunched options scalars units here.store here.left here.used (launched_in_nests options version scalars units (suc number) here.store here.left here.used rest end journey))
        → (f : Finish) → here.ending ≡ f → (next : where_ended f (IsJourneyOf options version scalars units (suc number) here.store here.left here.used rest end) ((rest ≡ []) × (end ≡ here)))
        → HaveLaunched options scalars (unit ∷ units) s left used (launched_in_nest nest
        ++ launched_behind (IsJourneyOf options version scalars units (suc number) here.store here.left here.used rest end) ((rest ≡ []) × (end ≡ here))
        (launched_in_nests options version scalars units (suc number) here.store here.left here.used rest end) f next)
    by launched Done e next = inr (own, here, nest, e, launched_in_nests options version scalars units (suc number) here.store here.left here.used rest end next, launched next, refl)
    by launched (Halted halt) e next = inl (subst (λ (cs : List Launched). NestHasLaunched (setting_of options scalars unit) s left used cs) (sym (append-nil (launched_in_nest nest))) (nest-launched (setting_of options scalars unit) s left used own here nest))
    by launched Limited e next = inl (subst (λ (cs : List Launched). NestHasLaunched (setting_of options scalars unit) s left used cs) (sym (append-nil (launched_in_nest nest))) (nest-launched (setting_of options scalars unit) s left used own here nest))
