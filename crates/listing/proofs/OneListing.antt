-- There is exactly one listing.
use Rattle.std.proofs.Common.{◌≡◌, refl, sym, ap, ap₂, subst, ◌∙◌, ℕ, suc, inl, inr, List, [], ◌∷◌, ◌++◌, length}
use Rattle.std.specs.Prelude.{unsigned_abs}
use Rattle.std.specs.List.{All}
use Rattle.std.proofs.lemmas.List.Elements.{All-head, All-tail}
use Rattle.nest_lang.specs.Stores.{Store}
use Rattle.nest_lang.specs.Traces.{Finish, Done, Halted, Limited, Observation}
use Rattle.nest_grammar.specs.declared.file.NestUnit.{NestUnit}
use Rattle.nest_grammar.specs.declared.version.Version.{Version}
use Rattle.nest_grammar.specs.Files.{first_store}
use Rattle.profile.specs.declared.unfit.Unfit.{Unfit}
use Rattle.profile.proofs.FitLaws.{fit_or_unfit}
use Rattle.profile.proofs.OneFitLaws.{one-fit}
use Rattle.profile.proofs.OneUnfitLaws.{one-first-unfit}
use Rattle.profile.proofs.SomeFitLaws.{fit-or-first-unfit}
use Rattle.profile.specs.declared.first_turns.FirstProfile.{FirstProfile}
use Rattle.profile.specs.declared.first_turns.FirstProfile.TheVariants.{Missing, Short, Whole}
use Rattle.profile.proofs.OneProfile.{one-profile}
use Rattle.report.specs.declared.journey.Options.{Options}
use Rattle.report.specs.declared.line.ListingLine.{ListingLine}
use Rattle.report.specs.declared.line.ListingLine.TheVariants as listing
use Rattle.listing.specs.Laws.{OneListing}
use Rattle.listing.specs.Lists.{table_lines}
use Rattle.listing.specs.Listings.{AreFittedLines, AreNestLines, AreNestsLines, AreProfileLines, heading, profile_line, run_of_nest, unfit_line, where_done}
use Rattle.listing.specs.Listings.AreFittedLines.{unfit, fitted}
use Rattle.listing.specs.Parts.{IsUnitOf}
use Rattle.listing.proofs.FileLaws.{units-of_text}

-- ---- at most one

module _ (options : Options) (scalars : ℕ) (unit : NestUnit) where
  one-fitted : (D : ℕ) (observations : List Observation) (x y : List ListingLine) → AreFittedLines D options scalars unit observations x → AreFittedLines D options scalars unit observations y → x ≡ y
  one-fitted D observations x y (unfit u h) (unfit v k) = ap (λ (w : Unfit D). unfit_line unit.nest.loops w ∷ []) (one-first-unfit D scalars unit.nest.loops observations u v h k)
  one-fitted D observations x y (unfit u h) (fitted t k) = absurd (fit_or_unfit D scalars unit.nest.loops observations t u k h)
  one-fitted D observations x y (fitted t h) (unfit u k) = absurd (fit_or_unfit D scalars unit.nest.loops observations t u h k)
  one-fitted D observations x y (fitted t h) (fitted r k) = ap (table_lines scalars unit.nest.loops options.chunk unit.scripts) (one-fit D scalars unit.nest.loops observations t r h k)

  one-profile-lines : (profile : FirstProfile) (x y : List ListingLine) → AreProfileLines options scalars unit profile x → AreProfileLines options scalars unit profile y → x ≡ y
  one-profile-lines Missing x y h k = h ∙ sym k
  one-profile-lines (Short turns) x y h k = h ∙ sym k
  one-profile-lines (Whole observations) x y h k =
      h.2 ∙ ap (λ (rest : List ListingLine). profile_line options.sample ∷ rest) (one-fitted (length unit.nest.loops) observations h.0 k.0 h.1 k.1) ∙ sym k.2

  one-nest : (s : Store) (left : ℕ) (x y : List ListingLine) → AreNestLines options scalars unit s left x → AreNestLines options scalars unit s left y → x ≡ y
  one-nest s left x y h k =
      let one = one-profile unit.nest.loops (unsigned_abs options.sample) s left in
      let same : k.0 ≡ h.0 = one.2 k.0 k.1 ∙ sym (one.2 h.0 h.1) in
      one-profile-lines h.0 x y h.2 (subst (λ (p : FirstProfile). AreProfileLines options scalars unit p y) same k.2)

one-rest : (e : Finish) (F : List ListingLine → Type 0) (x y : List ListingLine) → (F x → F y → x ≡ y) → where_done e (F x) (x ≡ []) → where_done e (F y) (y ≡ []) → x ≡ y
one-rest Done F x y more h k = more h k
one-rest (Halted halt) F x y more h k = h ∙ sym k
one-rest Limited F x y more h k = h ∙ sym k

one-nests : (options : Options) (version : Version) (scalars : ℕ) (units : List NestUnit) (number : ℕ) (s : Store) (left : ℕ) (x y : List ListingLine)
    → AreNestsLines options version scalars units number s left x → AreNestsLines options version scalars units number s left y → x ≡ y
one-nests options version scalars [] number s left x y h k = h ∙ sym k
one-nests options version scalars (unit ∷ units) number s left x y h k =
    let run = run_of_nest unit s left in
    let own : h.0 ≡ k.0 = one-nest options scalars unit s left h.0 k.0 h.2 k.2 in
    let rest : h.1 ≡ k.1 = one-rest run.ending (AreNestsLines options version scalars units (suc number) run.store run.left) h.1 k.1 (one-nests options version scalars units (suc number) run.store run.left h.1 k.1) h.3 k.3 in
    h.4 ∙ ap₂ (λ (a b : List ListingLine). heading version number ++ (a ++ b)) own rest ∙ sym k.4

-- ---- and one at least

module _ (options : Options) (scalars : ℕ) (unit : NestUnit) (of : IsUnitOf scalars unit) where
  some-fitted : (observations : List Observation) → (lines : List ListingLine) × AreFittedLines (length unit.nest.loops) options scalars unit observations lines
  some-fitted observations = elim (fit-or-first-unfit (length unit.nest.loops) scalars unit.nest.loops observations) [
    | inl f ↦ (table_lines scalars unit.nest.loops options.chunk unit.scripts f.0, fitted f.0 f.1)
    | inr u ↦ (unfit_line unit.nest.loops u.0 ∷ [], unfit u.0 u.1)
  ]

  some-profile-lines : (profile : FirstProfile) → (lines : List ListingLine) × AreProfileLines options scalars unit profile lines
  some-profile-lines Missing = (listing.NothingToFit ∷ [], refl)
  some-profile-lines (Short turns) = (profile_line turns ∷ listing.NothingToFit ∷ [], refl)
  some-profile-lines (Whole observations) = let f = some-fitted observations in (profile_line options.sample ∷ f.0, (f.0, f.1, refl))

  some-nest : (s : Store) (left : ℕ) → (lines : List ListingLine) × AreNestLines options scalars unit s left lines
  some-nest s left =
      let one = one-profile unit.nest.loops (unsigned_abs options.sample) s left in
      let f = some-profile-lines one.0 in
      (f.0, (one.0, one.1, f.1))

some-rest : (e : Finish) (F : List ListingLine → Type 0) → ((x : List ListingLine) × F x) → (x : List ListingLine) × where_done e (F x) (x ≡ [])
some-rest Done F more = more
some-rest (Halted halt) F more = ([], refl)
some-rest Limited F more = ([], refl)

some-nests : (options : Options) (version : Version) (scalars : ℕ) (units : List NestUnit) → All (IsUnitOf scalars) units → (number : ℕ) (s : Store) (left : ℕ) → (lines : List ListingLine) × AreNestsLines options version scalars units number s left lines
some-nests options version scalars [] all number s left = ([], refl)
some-nests options version scalars (unit ∷ units) all number s left =
    let run = run_of_nest unit s left in
    let own = some-nest options scalars unit (All-head (IsUnitOf scalars) unit units all) s left in
    let rest = some-rest run.ending (AreNestsLines options version scalars units (suc number) run.store run.left) (some-nests options version scalars units (All-tail (IsUnitOf scalars) unit units all) (suc number) run.store run.left) in
    (heading version number ++ (own.0 ++ rest.0), (own.0, rest.0, own.1, rest.1, refl))

pub one-listing : OneListing
one-listing options file of =
    let some = some-nests options file.version (length file.scalars) file.units (units-of_text file of).each 1 (first_store file) options.steps in
    (some.0, some.1, λ other h. one-nests options file.version (length file.scalars) file.units 1 (first_store file) options.steps other some.0 h some.1)
