-- From nest to nest.
use Rattle.std.proofs.Common.{◌≡◌, refl, ap, ap₂, ◌∙◌, sym, subst, ℕ, suc, ◌+◌, ◌*◌, ◌^◌, ◌<◌, ◌≤◌, pos, ◌≤ℤ◌, List, [], ◌∷◌, ◌++◌, append_assoc, append-nil, length, drop, drop-cons, Option, Some, None, inl, inr, arith}
use Rattle.std.specs.Prelude.{slice_get, option_map}
use Rattle.std.specs.List.{All}
use Rattle.std.proofs.lemmas.Option.{slice_get_within, get_or_from_slice_get, slice_get-map}
use Rattle.std.proofs.lemmas.List.{drop_all, length-map}
use Rattle.nest_lang.specs.declared.budget.Ending.{Ending}
use Rattle.nest_lang.specs.declared.budget.Ending.TheVariants as ending
use Rattle.nest_lang.specs.declared.tree.Nest.{Nest}
use Rattle.nest_lang.specs.Rules.{NestKeeps}
use Rattle.nest_lang.specs.Runs.{finish_of_ending}
use Rattle.nest_lang.specs.Traces.{Done, Limited, Cut, cut_of}
use Rattle.nest_grammar.specs.declared.file.File.{File}
use Rattle.nest_grammar.specs.declared.file.NestUnit.{NestUnit}
use Rattle.nest_grammar.specs.declared.version.Version.{Version}
use Rattle.nest_grammar.specs.Files.{nests_of}
use Rattle.profile.specs.Reach.{HasI64s, IsOfI64s}
use Rattle.report.specs.declared.journey.Options.{Options}
use Rattle.report.specs.declared.line.Line.{Line}
use Rattle.journeys.specs.Settings.{Moment, setting_of}
use Rattle.journeys.specs.Tellings.{heading}
use Rattle.journeys.specs.Journeys.{IsJourneyOf, IsNestJourney}
use Rattle.journeys.specs.HandedRecords.{Launched, IsHandedRecord, HaveLaunched, launched_in_nest, launched_in_nests}
use Rattle.journeys.proofs.HandedLaws.{none-launched, record-more}
use Rattle.crew.specs.declared.handed.Handed.{Handed}
use Rattle.nest_text.specs.Files.{IsOfText}
use Rattle.listing.specs.Parts.{IsUnitOf}
use Rattle.listing.proofs.FileLaws.{units-of_text}
use Rattle.plain_lemmas.proofs.MembershipLaws.{All-has, has-at}
use Rattle.plain_lemmas.specs.Lists.{Has}
use Rattle.controller.specs.Machines.{MachineState, HandsOver, reach_of}
use Rattle.controller.specs.Courses.{IsUnit, NestsBrokeOff, RunsNests, RunsUnit, UnitBrokeOff}
use Rattle.controller.proofs.FileNumberLaws.{units-of-i64s}
use Rattle.controller.proofs.StageLaws.{hands-more, hands-none}

-- the unit of a nest
pub unit-at : (file : File) (number : ℕ) (nest : Nest) → slice_get (nests_of file) number ≡ Some nest → (unit : NestUnit) × (slice_get file.units number ≡ Some unit) × (unit.nest ≡ nest)
unit-at file number nest is = by (slice_get file.units number) refl
  where
    by : (o : Option NestUnit) → slice_get file.units number ≡ o → (unit : NestUnit) × (slice_get file.units number ≡ Some unit) × (unit.nest ≡ nest)
    by (Some unit) found =
        let same : Some unit.nest ≡ Some nest = ap (option_map (λ (u : NestUnit). u.nest)) (sym found) ∙ sym (slice_get-map (λ (u : NestUnit). u.nest) file.units number) ∙ is in
        (unit, found, cc)
    by None found =
        let bad : None ≡ Some nest = ap (option_map (λ (u : NestUnit). u.nest)) (sym found) ∙ sym (slice_get-map (λ (u : NestUnit). u.nest) file.units number) ∙ is in
        absurd (cc)

-- a file that some text reads as has few nests
pub nests-few : (file : File) → IsOfText file → length (nests_of file) ≤ 8
nests-few file of =
    let few = (units-of_text file of).count in
    let same = length-map file.units (λ (u : NestUnit). u.nest) in
    omega (arith, few, same)

-- its nests are ones that can be run
pub is-unit : (file : File) (number : ℕ) (nest : Nest) (options : Options) → IsOfText file → slice_get (nests_of file) number ≡ Some nest → NestKeeps (length file.scalars) nest.loops
    → pos 2 ≤ℤ options.sample → options.sample ≤ℤ pos 64 → pos 1 ≤ℤ options.chunk → options.chunk ≤ℤ pos 1024 → IsUnit file number nest options
is-unit file number nest options of here keeps sample_from sample_to chunk_from chunk_to =
    let u = unit-at file number nest here in
    let are = units-of_text file of in
    let has : Has file.units u.0 = has-at file.units number u.0 (slice_get_within file.units number u.0 u.1) (get_or_from_slice_get file.units number u.0 u.0 u.1) in
    let numbers = All-has (λ (n : NestUnit). All HasI64s n.nest.loops) file.units u.0 (units-of-i64s file of) has in
    record {
      unit = u.0;
      at = u.1;
      is = u.2;
      keeps = keeps;
      numbers = subst (λ (n : Nest). All HasI64s n.loops) u.2 numbers;
      scalars = are.scalars;
      scripts = (All-has (IsUnitOf (length file.scalars)) file.units u.0 are.each has).candidates;
      sample_from = sample_from;
      sample_to = sample_to;
      chunk_from = chunk_from;
      chunk_to = chunk_to;
    }

pub heading-at : (version v : Version) (number : ℕ) (lines headed : List Line) → headed ≡ lines ++ heading version (number + 1) → version ≡ v → headed ≡ lines ++ heading v (suc number)
heading-at version v number lines headed is same =
    let next : number + 1 ≡ suc number = omega arith in
    is ∙ ap (λ (x : Version). lines ++ heading x (number + 1)) same ∙ ap (λ (k : ℕ). lines ++ heading v k) next

-- the nests from a number on
drop-at : (units : List NestUnit) (number : ℕ) (unit : NestUnit) → slice_get units number ≡ Some unit → drop number units ≡ unit ∷ drop (suc number) units
drop-at units number unit found =
    drop-cons units number unit (slice_get_within units number unit found)
    ∙ ap (λ (u : NestUnit). u ∷ drop (suc number) units) (get_or_from_slice_get units number unit unit found)

module _ (options : Options) (file : File) where
  -- the journey of the nests from a number on, from a moment; they launch these chunks
  abbrev pub FromUnits : List NestUnit → ℕ → Moment → List Line → Cut → List Launched → Type 0
  FromUnits units number m lines end chunks =
      (journey : IsJourneyOf options file.version (length file.scalars) units number m.store m.left m.used lines end)
      × (launched_in_nests options file.version (length file.scalars) units number m.store m.left m.used lines end journey ≡ chunks)

  abbrev pub FromNest : ℕ → Moment → List Line → Cut → List Launched → Type 0
  FromNest number m lines end chunks = FromUnits (drop number file.units) (suc number) m lines end chunks

  abbrev pub LaunchedFrom : ℕ → Moment → List Launched → Type 0
  LaunchedFrom number m chunks = HaveLaunched options (length file.scalars) (drop number file.units) m.store m.left m.used chunks

  -- so many nests ended, and told lines, which are put behind those before, and launched chunks: what the journey of the
  -- other nests tells and launches follows
  pub record Nested (start : MachineState) (before : List Line) (old : List Handed) (number : ℕ) (a : MachineState) (lines : List Line) (new : List Handed) : Type 0 where
    pub told : List Line
    pub are : lines ≡ before ++ told
    pub chunks : List Launched
    pub follows : (more : List Line) (end : Cut) (further : List Launched) → FromNest number a.moment more end further → FromNest 0 start.moment (told ++ more) end (chunks ++ further)
    pub launched : (further : List Launched) → LaunchedFrom number a.moment further → LaunchedFrom 0 start.moment (chunks ++ further)
    pub count : length a.moment.store.scalars ≡ length file.scalars
    pub fits : IsOfI64s a.moment.store
    pub hands : HandsOver chunks start.posts a.posts old new
    pub reach : reach_of a ≤ reach_of start + number * 131072

  pub nested-start : (start : MachineState) (before : List Line) (handed : List Handed) → length start.moment.store.scalars ≡ length file.scalars → IsOfI64s start.moment.store → Nested start before handed 0 start before handed
  nested-start start before handed count fits = record {
    told = [];
    are = sym (append-nil before);
    chunks = [];
    follows = λ more end further is. is;
    launched = λ further is. is;
    count = count;
    fits = fits;
    hands = hands-none start.posts handed;
    reach = omega arith;
  }

  module _ (start a b : MachineState) (before lines : List Line) (old mid : List Handed) (number : ℕ) (n : Nested start before old number a lines mid) where
    -- where no nest is left
    pub nested-end : length file.units ≤ number → RunsNests file options start before old Done a lines mid
    nested-end all = record {
      told = n.told;
      are = n.are;
      chunks = n.chunks;
      journey = subst (λ (ls : List Line). FromNest 0 start.moment ls (cut_of a.moment.store a.moment.left a.moment.used Done) n.chunks) (append-nil n.told)
          (subst (λ (cs : List Launched). FromNest 0 start.moment (n.told ++ []) (cut_of a.moment.store a.moment.left a.moment.used Done) cs) (append-nil n.chunks)
          (n.follows [] (cut_of a.moment.store a.moment.left a.moment.used Done) []
          (subst (λ (us : List NestUnit). FromUnits us (suc number) a.moment [] (cut_of a.moment.store a.moment.left a.moment.used Done) []) (sym (drop_all number file.units all)) ((refl, refl), refl))));
      count = n.count;
      hands = n.hands;
    }

    -- where memory was wanting before the next nest
    pub nested-stopped : NestsBrokeOff file options start old mid
    nested-stopped = record {
      chunks = n.chunks;
      launched = subst (λ (cs : List Launched). LaunchedFrom 0 start.moment cs) (append-nil n.chunks)
          (n.launched [] (none-launched options (length file.scalars) (drop number file.units) a.moment.store a.moment.left a.moment.used));
      list = n.hands.list;
      gained = n.hands.gained;
      is = n.hands.is;
    }

    -- the epoch leaves room for a nest
    pub nested-room : number < length file.units → length file.units ≤ 8 → reach_of start + 8 * 131072 ≤ 2 ^ 62 → reach_of a + 131072 ≤ 2 ^ 62
    nested-room some few most = let reach = n.reach in omega (arith, some, few, most, reach)

    module _ (unit : NestUnit) (found : slice_get file.units number ≡ Some unit) where
      -- where memory was wanting in a nest
      pub nested-broke : (new : List Handed) → UnitBrokeOff file number options a mid new → NestsBrokeOff file options start old new
      nested-broke new r = record {
        chunks = n.chunks ++ r.chunks;
        launched = n.launched r.chunks
            (subst (λ (us : List NestUnit). HaveLaunched options (length file.scalars) us a.moment.store a.moment.left a.moment.used r.chunks) (sym (drop-at file.units number unit found)) (inl (r.launched unit found)));
        list = n.hands.list ++ r.list;
        gained = r.gained ∙ ap (λ (hs : List Handed). hs ++ r.list) n.hands.gained ∙ append_assoc old n.hands.list r.list;
        is = record-more start.posts.workers n.chunks r.chunks n.hands.list r.list n.hands.is (subst (λ (w : ℕ). IsHandedRecord w r.chunks r.list) n.hands.posted.workers r.is);
      }

      module _ (headed : List Line) (is : headed ≡ lines ++ heading file.version (suc number)) where
        told-too : (now own : List Line) → now ≡ headed ++ own → now ≡ before ++ (n.told ++ (heading file.version (suc number) ++ own))
        told-too now own are =
            are ∙ ap (λ (ls : List Line). ls ++ own) (is ∙ ap (λ (ls : List Line). ls ++ heading file.version (suc number)) n.are)
            ∙ ap (λ (ls : List Line). ls ++ own) (append_assoc before n.told (heading file.version (suc number)))
            ∙ append_assoc before (n.told ++ heading file.version (suc number)) own
            ∙ ap (λ (ls : List Line). before ++ ls) (append_assoc n.told (heading file.version (suc number)) own)

        -- a nest has ended
        pub nested-next : (now : List Line) (new : List Handed) (e : Ending) → e ≡ ending.Ended → RunsUnit file number options a headed mid (finish_of_ending e) b now new → Nested start before old (number + 1) b now new
        nested-next now new e ended r =
            let one : suc number ≡ number + 1 = omega arith in
            let ran : RunsUnit file number options a headed mid Done b now new = subst (λ (x : Ending). RunsUnit file number options a headed mid (finish_of_ending x) b now new) ended r in
            let nest = ran.journey unit found in
            subst (λ (k : ℕ). Nested start before old k b now new) one (record {
              told = n.told ++ (heading file.version (suc number) ++ ran.told);
              are = told-too now ran.told ran.are;
              chunks = n.chunks ++ ran.chunks;
              follows = λ more end further journey. subst (λ (cs : List Launched). FromNest 0 start.moment ((n.told ++ (heading file.version (suc number) ++ ran.told)) ++ more) end cs) (sym (append_assoc n.chunks ran.chunks further))
                  (subst (λ (ls : List Line). FromNest 0 start.moment ls end (n.chunks ++ (ran.chunks ++ further)))
                  (ap (λ (ls : List Line). n.told ++ ls) (sym (append_assoc (heading file.version (suc number)) ran.told more)) ∙ sym (append_assoc n.told (heading file.version (suc number) ++ ran.told) more))
                  (n.follows (heading file.version (suc number) ++ (ran.told ++ more)) end (ran.chunks ++ further)
                  (subst (λ (us : List NestUnit). FromUnits us (suc number) a.moment (heading file.version (suc number) ++ (ran.told ++ more)) end (ran.chunks ++ further)) (sym (drop-at file.units number unit found))
                  ((ran.told, more, cut_of b.moment.store b.moment.left b.moment.used Done, nest.0, journey.0, refl), ap₂ (λ (cs ds : List Launched). cs ++ ds) nest.1 journey.1))));
              launched = λ further more. subst (λ (cs : List Launched). LaunchedFrom 0 start.moment cs) (sym (append_assoc n.chunks ran.chunks further))
                  (n.launched (ran.chunks ++ further)
                  (subst (λ (us : List NestUnit). HaveLaunched options (length file.scalars) us a.moment.store a.moment.left a.moment.used (ran.chunks ++ further)) (sym (drop-at file.units number unit found))
                  (inr (ran.told, cut_of b.moment.store b.moment.left b.moment.used Done, nest.0, refl, further, more, ap (λ (cs : List Launched). cs ++ further) (sym nest.1)))));
              count = ran.count;
              fits = ran.fits;
              hands = hands-more n.chunks ran.chunks start.posts a.posts b.posts old mid new n.hands ran.hands;
              reach = let first = n.reach in let second = ran.few in omega (arith, first, second);
            })

        -- a nest did not end, and no nest follows it
        pub nested-out : (now : List Line) (new : List Handed) (e : Ending) → (e ≡ ending.Ended → ⊥) → RunsUnit file number options a headed mid (finish_of_ending e) b now new
            → RunsNests file options start before old (finish_of_ending e) b now new
        nested-out now new e other r = record {
          told = n.told ++ (heading file.version (suc number) ++ r.told);
          are = told-too now r.told r.are;
          chunks = n.chunks ++ r.chunks;
          journey = subst (λ (ls : List Line). FromNest 0 start.moment (n.told ++ (heading file.version (suc number) ++ ls)) (cut_of b.moment.store b.moment.left b.moment.used (finish_of_ending e)) (n.chunks ++ r.chunks)) (append-nil r.told)
              (n.follows (heading file.version (suc number) ++ (r.told ++ [])) (cut_of b.moment.store b.moment.left b.moment.used (finish_of_ending e)) r.chunks
              (subst (λ (us : List NestUnit). FromUnits us (suc number) a.moment (heading file.version (suc number) ++ (r.told ++ [])) (cut_of b.moment.store b.moment.left b.moment.used (finish_of_ending e)) r.chunks) (sym (drop-at file.units number unit found))
              (out e other (r.journey unit found))));
          count = r.count;
          hands = hands-more n.chunks r.chunks start.posts a.posts b.posts old mid new n.hands r.hands;
        }
          where
            out : (x : Ending) → (x ≡ ending.Ended → ⊥)
                → ((nest : IsNestJourney (setting_of options (length file.scalars) unit) a.moment.store a.moment.left a.moment.used r.told (cut_of b.moment.store b.moment.left b.moment.used (finish_of_ending x))) × (launched_in_nest nest ≡ r.chunks))
                → FromUnits (unit ∷ drop (suc number) file.units) (suc number) a.moment (heading file.version (suc number) ++ (r.told ++ [])) (cut_of b.moment.store b.moment.left b.moment.used (finish_of_ending x)) r.chunks
            out ending.Ended not nest = absurd (not refl)
            out (ending.Trapped trap) not (nest, is) = ((r.told, [], cut_of b.moment.store b.moment.left b.moment.used (finish_of_ending (ending.Trapped trap)), nest, (refl, refl), refl), append-nil (launched_in_nest nest) ∙ is)
            out ending.Limited not (nest, is) = ((r.told, [], cut_of b.moment.store b.moment.left b.moment.used Limited, nest, (refl, refl), refl), append-nil (launched_in_nest nest) ∙ is)
