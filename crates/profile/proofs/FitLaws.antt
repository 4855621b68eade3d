-- What the fit of a nest is worth.
use Rattle.std.proofs.Common.{◌≡◌, ap, subst, ◌∙◌, ℕ, ◌-◌, Bool, true, false, ℤ, pos, List, [], ◌∷◌, length, take, Option, Some, None, arith}
use Rattle.std.specs.Prelude.{slice_index_or, if◌then◌else◌}
use Rattle.std.specs.List.{All, range_with_len}
use Rattle.std.proofs.lemmas.List.{length-map}
use Rattle.std.proofs.lemmas.List.Elements.{All-append, All-contains, All-cons, All-nil}
use Rattle.std.proofs.lemmas.List.FromFn.{length-range_with_len}
use Rattle.plain_lemmas.proofs.ListLaws.{All-slice_get}
use Rattle.nest_lang.specs.declared.observe.Seen.{Seen}
use Rattle.nest_lang.specs.declared.observe.Seen.TheVariants.{Start, Condition}
use Rattle.nest_lang.specs.declared.observe.Seen.TheVariants as seen
use Rattle.nest_lang.specs.declared.tree.BlockRef.{BlockRef}
use Rattle.nest_lang.specs.declared.tree.Loop.{Loop}
use Rattle.nest_lang.specs.Traces.{Observation}
use Rattle.line_fit.specs.Samples.{Sample}
use Rattle.line_fit.specs.Lines.{Tube}
use Rattle.line_fit.proofs.LineLaws.{lie-in-tube, only-affine, fit-or-unfit}
use Rattle.domain.specs.declared.prediction.What.{What}
use Rattle.domain.specs.Tables.{Table, block_at}
use Rattle.profile.specs.declared.unfit.UnfitWhy.{UnfitWhy}
use Rattle.profile.specs.declared.unfit.UnfitWhy.TheVariants as why
use Rattle.profile.specs.Data.{data_of, samples_at, shown_as, tube_in, widest}
use Rattle.profile.specs.Gathered.{ended_by, given_by, is_end_of, is_of, padded, sample_of, samples_of, trip_of}
use Rattle.profile.specs.Fits.{HasFit, HasFitAt, IsFitOf, IsUnfitBy}
use Rattle.profile.specs.Laws.{FitOrUnfit, HasForm, SamplesLieInTubes, FormIsOnlyAffine}

-- samples with a fit are fit
pub not-both : (D rank most : ℕ) (samples : List Sample) (fit : Option Tube) (reason : UnfitWhy D) → HasFit D most samples fit → IsUnfitBy D rank most samples reason → ⊥
not-both D rank most samples None (why.Large number) none h = let size : length samples ≡ 0 = ap (λ (xs : List Sample). length xs) none in let some = h.0 in omega arith
not-both D rank most samples None (why.Line at line seen) none h = let size : length samples ≡ 0 = ap (λ (xs : List Sample). length xs) none in let some = h.0 in omega arith
not-both D rank most samples (Some tube) (why.Large number) fit h = (fit-or-unfit D most samples tube fit.0 fit.1).0 number h.1
not-both D rank most samples (Some tube) (why.Line at line seen) fit h = (fit-or-unfit D most samples tube fit.0 fit.1).1 (record { at = at.at; line = line; seen = seen }) h.2

pub fit_or_unfit : FitOrUnfit
fit_or_unfit D scalars loops observations t unfit fit at =
    let has = All-slice_get (λ what. HasFitAt D observations at.block what (tube_in t (block_at t unfit.block) what)) (data_of scalars loops at.block) at.first.place unfit.what (fit.fits unfit.block at.block at.present) at.first.datum in
    not-both D unfit.block (widest unfit.what) (samples_at D observations at.block unfit.what) (tube_in t (block_at t unfit.block) unfit.what) unfit.why has at.first.why

module _ (D scalars : ℕ) (loops : List Loop) (observations : List Observation) (t : Table) (block : BlockRef) (what : What) (tube : Tube) (fit : IsFitOf D scalars loops observations t) (form : HasForm scalars loops t block what tube) where
  has-fit : HasFitAt D observations block what (Some tube)
  has-fit =
      subst (λ (o : Option Tube). HasFitAt D observations block what o) form.form
      (All-contains (λ w. HasFitAt D observations block w (tube_in t (block_at t form.rank) w)) (data_of scalars loops block) what (fit.fits form.rank block form.present) form.datum)

pub samples-lie-in-tubes : SamplesLieInTubes
samples-lie-in-tubes D scalars loops observations t block what tube fit form = lie-in-tube D (widest what) (samples_at D observations block what) tube (has-fit D scalars loops observations t block what tube fit form).1

-- samples of a datum have D counters
module _ (D : ℕ) where
  abbrev Sized : Sample → Type 0
  Sized s = length s.at ≡ D

  padded-sized : (counters : List ℤ) → length (padded D counters) ≡ D
  padded-sized counters = length-map (range_with_len 0 D) (λ (k : ℕ). slice_index_or counters k (pos 0)) ∙ length-range_with_len 0 D

  one : (s : Sample) → Sized s → All Sized (s ∷ [])
  one s h = All-cons Sized s [] h (All-nil Sized)

  if-sized : (test : Bool) (s : Sample) (rest : List Sample) → Sized s → All Sized rest → All Sized (if test then s ∷ [] else rest)
  if-sized true s rest h more = one s h
  if-sized false s rest h more = more

  ended-sized : (block : BlockRef) (what : Seen) (o : Observation) → All Sized (ended_by D block what o)
  ended-sized block Start o = All-nil Sized
  ended-sized block (seen.Scalar number) o = All-nil Sized
  ended-sized block (seen.Address access) o = All-nil Sized
  ended-sized block seen.Lower o = All-nil Sized
  ended-sized block seen.Trip o = if-sized (is_end_of block o) (trip_of D o.at.counters) [] (padded-sized (take (length o.at.counters - 1) o.at.counters)) (All-nil Sized)
  ended-sized block Condition o = All-nil Sized

  samples-sized : (block : BlockRef) (what : Seen) (os : List Observation) → All Sized (samples_of D block what os)
  samples-sized block what [] = All-nil Sized
  samples-sized block what (o ∷ os) = All-append Sized (given_by D block what o) (samples_of D block what os) (if-sized (is_of block what o) (sample_of D o) (ended_by D block what o) (padded-sized o.at.counters) (ended-sized block what o)) (samples-sized block what os)

pub form-is-only-affine : FormIsOnlyAffine
form-is-only-affine D scalars loops observations t block what tube fit form low high pairs =
    let h = has-fit D scalars loops observations t block what tube fit form in
    only-affine D (widest what) (samples_at D observations block what) tube h.0 (λ place l. samples-sized D block (shown_as what) observations place _ l) h.1 low high pairs
