-- Where the run of a file starts.
use Rattle.std.proofs.Common.{◌≡◌, refl, ap, ap₂, ◌∙◌, sym, subst, ℕ, ◌≤◌, ℤ, pos, List, [], ◌∷◌, ◌++◌, append-nil, length, FitsSigned, w64, arith, to_z-of_z}
use Rattle.std.specs.Prelude.{replicate}
use Rattle.std.specs.List.{All}
use Rattle.std.proofs.lemmas.List.Elements.{All-head, All-tail}
use Rattle.std.proofs.lemmas.List.{length-replicate, length-map}
use Rattle.core_steps.specs.States.{bits_of}
use Rattle.nest_lang.specs.Stores.{Store, store_of}
use Rattle.nest_lang.specs.Traces.{Finish, Cut, cut_of}
use Rattle.nest_grammar.specs.declared.file.File.{File}
use Rattle.nest_grammar.specs.declared.file.Item.{Item}
use Rattle.nest_grammar.specs.Files.{after_item, after_items, first_memory, first_store}
use Rattle.nest_grammar.proofs.RuleLaws.{reading-keeps}
use Rattle.nest_text.specs.Files.{IsOfText}
use Rattle.nest_text.proofs.StoredItemLaws.{length-after_item}
use Rattle.shared_words.specs.Memories.{signed}
use Rattle.report.specs.declared.journey.Options.{Options}
use Rattle.report.specs.declared.line.Line.{Line}
use Rattle.journeys.specs.Journeys.{IsJourney, IsJourneyOf}
use Rattle.journeys.specs.HandedRecords.{Launched, IsHandedRecord, JourneyHands, BegunJourneyHands, HaveLaunched, launched_in, launched_in_nests}
use Rattle.journeys.proofs.HandedLaws.{nests-launched, none-launched}
use Rattle.crew.specs.declared.handed.Handed.{Handed}
use Rattle.controller.specs.Machines.{MachineState}
use Rattle.controller.specs.Courses.{NestsBrokeOff, RunsNests}
use Rattle.controller.proofs.TextNumberLaws.{words-fit}

length-after_items : (memory : List ℤ) (items : List Item) → length (after_items memory items) ≡ length memory
length-after_items memory [] = refl
length-after_items memory (i ∷ is) = length-after_items (after_item memory i) is ∙ length-after_item memory i

-- there are few words
pub words-few : (file : File) → IsOfText file → length (first_store file).memory ≤ 1048576
unfolding first_memory
words-few file of =
    let few = (reading-keeps of.0 file of.1).few_words in
    let same = length-after_items (replicate file.words (pos 0)) file.items ∙ length-replicate file.words (pos 0) in
    omega (arith, few, same)

-- there are as many scalars as the file declares
pub scalars-same : (file : File) → length (first_store file).scalars ≡ length file.scalars
scalars-same file = length-map file.scalars (λ c. c.value)

-- words as bits are the same words
signed-bits : (values : List ℤ) → All (FitsSigned w64) values → signed (bits_of values) ≡ values
signed-bits [] fits = refl
signed-bits (v ∷ vs) fits = ap₂ (λ (x : ℤ) (xs : List ℤ). x ∷ xs) (to_z-of_z (All-head (FitsSigned w64) v vs fits)) (signed-bits vs (All-tail (FitsSigned w64) v vs fits))

-- the first store, as the words of a seat show it
pub store-shown : (file : File) → IsOfText file → (base : List ℕ) (words scalars : List ℤ) → base ≡ bits_of words → words ≡ (first_store file).memory → scalars ≡ (first_store file).scalars
    → store_of (signed base) scalars [] ≡ first_store file
store-shown file of base words scalars base-is words-are scalars-are =
    let fits = subst (All (FitsSigned w64)) (sym words-are) (words-fit file of) in
    ap₂ (λ (m vs : List ℤ). store_of m vs []) (ap signed base-is ∙ signed-bits words fits ∙ words-are) scalars-are

-- the journey of a file, from its first store on, and what it hands to a crew
module _ (options : Options) (file : File) (start : MachineState) (store-is : start.moment.store ≡ first_store file) (left-is : start.moment.left ≡ options.steps) (used-is : start.moment.used ≡ 0) (workers-are : start.posts.workers ≡ options.workers) where
  -- by where the run starts
  pub from-start : (P : Store → ℕ → ℕ → Type 0) → P start.moment.store start.moment.left start.moment.used → P (first_store file) options.steps 0
  from-start P p =
      subst (λ (n : ℕ). P (first_store file) options.steps n) used-is
      (subst (λ (n : ℕ). P (first_store file) n start.moment.used) left-is
      (subst (λ (s : Store). P s start.moment.left start.moment.used) store-is p))

  pub journey-handed : (b : MachineState) (none lines : List Line) (old new : List Handed) (state : Store) (steps : ℕ) (finish : Finish) → none ≡ [] → state ≡ b.moment.store → steps ≡ b.moment.used
      → RunsNests file options start none old finish b lines new
      → (list : List Handed) × (new ≡ old ++ list) × ((left : ℕ) × JourneyHands options file lines (cut_of state left steps finish) list)
  journey-handed b none lines old new state steps finish none-is state-is steps-is r =
      let end = cut_of b.moment.store b.moment.left b.moment.used finish in
      let told-are : r.told ≡ lines = sym (r.are ∙ ap (λ (ls : List Line). ls ++ r.told) none-is) in
      let end-is : end ≡ cut_of state b.moment.left steps finish = ap₂ (λ (s : Store) (n : ℕ). cut_of s b.moment.left n finish) (sym state-is) (sym steps-is) in
      let from-first = from-start (λ s left used. (journey : IsJourneyOf options file.version (length file.scalars) file.units 1 s left used r.told end) × (launched_in_nests options file.version (length file.scalars) file.units 1 s left used r.told end journey ≡ r.chunks)) r.journey in
      let of-lines = subst (λ (ls : List Line). (journey : IsJourney options file ls end) × (launched_in options file ls end journey ≡ r.chunks)) told-are from-first in
      let of-end = subst (λ (x : Cut). (journey : IsJourney options file lines x) × (launched_in options file lines x journey ≡ r.chunks)) end-is of-lines in (
        r.hands.list,
        r.hands.gained,
        (
          b.moment.left,
          (
            of-end.0,
            subst (λ (cs : List Launched). IsHandedRecord options.workers cs r.hands.list) (sym of-end.1) (subst (λ (n : ℕ). IsHandedRecord n r.chunks r.hands.list) workers-are r.hands.is),
          ),
        ),
      )

  -- where memory was wanting in its nests
  pub journey-broke : (old new : List Handed) → NestsBrokeOff file options start old new → (list : List Handed) × (new ≡ old ++ list) × BegunJourneyHands options file list
  journey-broke old new r = (
    r.list,
    r.gained,
    (
      r.chunks,
      from-start (λ s left used. HaveLaunched options (length file.scalars) file.units s left used r.chunks) r.launched,
      subst (λ (n : ℕ). IsHandedRecord n r.chunks r.list) workers-are r.is,
    ),
  )

  -- and where it was wanting behind them
  pub journey-unfinished : (b : MachineState) (none lines : List Line) (old new : List Handed) (finish : Finish) → RunsNests file options start none old finish b lines new
      → (list : List Handed) × (new ≡ old ++ list) × BegunJourneyHands options file list
  journey-unfinished b none lines old new finish r =
      let end = cut_of b.moment.store b.moment.left b.moment.used finish in
      journey-broke old new (record {
        chunks = r.chunks;
        launched = subst (λ (cs : List Launched). HaveLaunched options (length file.scalars) file.units start.moment.store start.moment.left start.moment.used cs) r.journey.1
            (nests-launched options file.version (length file.scalars) file.units 1 start.moment.store start.moment.left start.moment.used r.told end r.journey.0);
        list = r.hands.list;
        gained = r.hands.gained;
        is = r.hands.is;
      })

-- before its first nest nothing is handed over
pub journey-unbegun : (options : Options) (file : File) (handed : List Handed) → (list : List Handed) × (handed ≡ handed ++ list) × BegunJourneyHands options file list
journey-unbegun options file handed = ([], sym (append-nil handed), ([], none-launched options (length file.scalars) file.units (first_store file) options.steps 0, refl))
