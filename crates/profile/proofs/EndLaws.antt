-- The first datum of a list that has no fit.
use Rattle.std.proofs.Common.{◌≡◌, refl, sym, ap, subst, ◌∙◌, ℕ, zero, suc, ◌+◌, ◌<◌, ◌⊎◌, inl, inr, List, [], ◌∷◌, ◌++◌, length, map, slice_get, Option, Some, arith}
use Rattle.std.specs.List.{range_with_len}
use Rattle.std.specs.Prelude.{Result, Ok, Err, MatchResult}
use Rattle.std.specs.Result.{IsErr, IsErrAnd}
use Rattle.std.proofs.lemmas.List.FromFn.{get_or-map-range_with_len, length-map-range_with_len}
use Rattle.std.proofs.lemmas.Option.{slice_get_within, slice_get-get_or}
use Rattle.nest_lang.specs.declared.observe.Seen.{Seen}
use Rattle.nest_lang.specs.declared.tree.BlockRef.{BlockRef}
use Rattle.nest_lang.specs.Traces.{Observation}
use Rattle.line_fit.specs.declared.sample.NoFit.{NoFit}
use Rattle.line_fit.specs.declared.sample.NoFit.TheVariants as no
use Rattle.line_fit.specs.Answers.{IsUnfit}
use Rattle.line_fit.specs.Lines.{Miss, Tube}
use Rattle.line_fit.specs.Samples.{Sample}
use Rattle.domain.specs.declared.prediction.What.{What}
use Rattle.profile.specs.declared.unfit.FitEnd.{FitEnd}
use Rattle.profile.specs.declared.unfit.FitEnd.TheVariants as end
use Rattle.profile.specs.declared.unfit.UnfitWhy.{UnfitWhy}
use Rattle.profile.specs.declared.unfit.UnfitWhy.TheVariants as why
use Rattle.profile.specs.Data.{samples_at, shown_as, widest}
use Rattle.profile.specs.Gathered.{samples_of}
use Rattle.profile.specs.Fits.{HasFitAt, IsUnfitBy, AreFitIn}
use Rattle.profile.specs.Parts.{IsEndIn}

pub slice_get-left : {X : Type 0} (xs ys : List X) (k : ℕ) (x : X) → slice_get xs k ≡ Some x → slice_get (xs ++ ys) k ≡ Some x
slice_get-left [] ys k x e = absurd (cc)
slice_get-left (z ∷ xs) ys zero x e = e
slice_get-left (z ∷ xs) ys (suc k) x e = slice_get-left xs ys k x e

slice_get-left-back : {X : Type 0} (xs ys : List X) (k : ℕ) (x : X) → k < length xs → slice_get (xs ++ ys) k ≡ Some x → slice_get xs k ≡ Some x
slice_get-left-back [] ys k x h e = absurd (omega arith)
slice_get-left-back (z ∷ xs) ys zero x h e = e
slice_get-left-back (z ∷ xs) ys (suc k) x h e = slice_get-left-back xs ys k x (omega arith) e

pub slice_get-right : {X : Type 0} (xs ys : List X) (k : ℕ) (x : X) → slice_get ys k ≡ Some x → slice_get (xs ++ ys) (length xs + k) ≡ Some x
slice_get-right [] ys k x e = let s : 0 + k ≡ k = omega arith in rw s e
slice_get-right (z ∷ xs) ys k x e = let s : suc (length xs) + k ≡ suc (length xs + k) = omega arith in rw s (slice_get-right xs ys k x e)

-- a place in two lists, one after another
pub slice_get-either : {X : Type 0} (xs ys : List X) (k : ℕ) (x : X) → slice_get (xs ++ ys) k ≡ Some x → (slice_get xs k ≡ Some x) ⊎ ((j : ℕ) × (k ≡ length xs + j) × (slice_get ys j ≡ Some x))
slice_get-either [] ys k x e = inr (k, omega arith, e)
slice_get-either (z ∷ xs) ys zero x e = inl e
slice_get-either (z ∷ xs) ys (suc k) x e = at (slice_get-either xs ys k x e)
  where
    at : (slice_get xs k ≡ Some x) ⊎ ((j : ℕ) × (k ≡ length xs + j) × (slice_get ys j ≡ Some x)) → (slice_get xs k ≡ Some x) ⊎ ((j : ℕ) × (suc k ≡ suc (length xs) + j) × (slice_get ys j ≡ Some x))
    at (inl h) = inl h
    at (inr (j, s, h)) = inr (j, omega (arith, s), h)

module _ (D : ℕ) (observations : List Observation) (rank : ℕ) (block : BlockRef) where
  abbrev Fitted : What → Type 0
  Fitted what = (fit : Option Tube) × HasFitAt D observations block what fit

  -- where the data before are fit, the end of one datum is that of the list
  pub one-end : (list : List What) (place : ℕ) (what : What) (e : FitEnd D) → slice_get list place ≡ Some what → ((k : ℕ) (w : What) → k < place → slice_get list k ≡ Some w → Fitted w)
      → IsEndIn D observations rank block (what ∷ []) e → IsEndIn D observations rank block list e
  one-end list place what end.NoMemory at before h = tt
  one-end list place what (end.Unfit unfit) at before h = record { of = h.of; place = place; datum = at ∙ sym (ap (λ (w : What). Some w) (alone h.place h.datum)); why = h.why; before = before }
    where
      alone : (p : ℕ) → slice_get (what ∷ []) p ≡ Some unfit.what → unfit.what ≡ what
      alone zero e = cc
      alone (suc p) e = absurd (cc)

  pub left-end : (xs ys : List What) (e : FitEnd D) → IsEndIn D observations rank block xs e → IsEndIn D observations rank block (xs ++ ys) e
  left-end xs ys end.NoMemory h = tt
  left-end xs ys (end.Unfit unfit) h =
      let within = slice_get_within xs h.place unfit.what h.datum in
      record {
        of = h.of;
        place = h.place;
        datum = slice_get-left xs ys h.place unfit.what h.datum;
        why = h.why;
        before = λ k w l e. h.before k w l (slice_get-left-back xs ys k w (omega arith) e);
      }

  pub right-end : (xs ys : List What) (e : FitEnd D) → AreFitIn D observations block xs → IsEndIn D observations rank block ys e → IsEndIn D observations rank block (xs ++ ys) e
  right-end xs ys end.NoMemory fit h = tt
  right-end xs ys (end.Unfit unfit) fit h = record {
    of = h.of;
    place = length xs + h.place;
    datum = slice_get-right xs ys h.place unfit.what h.datum;
    why = h.why;
    before = λ k w l e. by k w l (slice_get-either xs ys k w e);
  }
    where
      by : (k : ℕ) (w : What) → k < length xs + h.place → (slice_get xs k ≡ Some w) ⊎ ((j : ℕ) × (k ≡ length xs + j) × (slice_get ys j ≡ Some w)) → Fitted w
      by k w l (inl e) = fit k w e
      by k w l (inr (j, s, e)) = h.before j w (omega (arith, s, l)) e

  pub both-fit : (xs ys : List What) → AreFitIn D observations block xs → AreFitIn D observations block ys → AreFitIn D observations block (xs ++ ys)
  both-fit xs ys a b k w e = by (slice_get-either xs ys k w e)
    where
      by : (slice_get xs k ≡ Some w) ⊎ ((j : ℕ) × (k ≡ length xs + j) × (slice_get ys j ≡ Some w)) → Fitted w
      by (inl h) = a k w h
      by (inr (j, s, h)) = b j w h

  -- numbered data
  ranged : (f : ℕ → What) (from n k : ℕ) (w : What) → slice_get (map f (range_with_len from n)) k ≡ Some w → (k < n) × (w ≡ f (from + k))
  ranged f from n k w e =
      let size = length-map-range_with_len f from n in
      let inside = slice_get_within (map f (range_with_len from n)) k w e in
      let within : k < n = omega arith in
      let is = slice_get-get_or (map f (range_with_len from n)) k w inside in
      let value = get_or-map-range_with_len f from n k (from + k) w within refl in
      (within, (let same : Some w ≡ Some (f (from + k)) = sym e ∙ is ∙ ap (λ (x : What). Some x) value in cc))

  pub ranged-fit : (f : ℕ → What) (from n : ℕ) → ((k : ℕ) → k < n → Fitted (f (from + k))) → AreFitIn D observations block (map f (range_with_len from n))
  ranged-fit f from n each k w e = let r = ranged f from n k w e in subst Fitted (sym r.1) (each k r.0)

  pub ranged-end : (f : ℕ → What) (from n k j : ℕ) (e : FitEnd D) → k < n → from + k ≡ j → ((i : ℕ) → i < k → Fitted (f (from + i))) → IsEndIn D observations rank block (f j ∷ []) e → IsEndIn D observations rank block (map f (range_with_len from n)) e
  ranged-end f from n k j e within is before h =
      let size = length-map-range_with_len f from n in
      let get = slice_get-get_or (map f (range_with_len from n)) k (f j) (omega arith) in
      let value = get_or-map-range_with_len f from n k j (f j) within is in
      one-end (map f (range_with_len from n)) k (f j) e (get ∙ ap (λ (x : What). Some x) value)
      (λ i w l g. let r = ranged f from n i w g in subst Fitted (sym r.1) (before i l)) h

  -- what the fit of one datum answers
  pub missed-end : (what : What) (why : UnfitWhy D) → IsUnfitBy D rank (widest what) (samples_at D observations block what) why → IsEndIn D observations rank block (what ∷ []) (end.Unfit (record { block = rank; what = what; why = why }))
  missed-end what why h = record { of = refl; place = 0; datum = refl; why = h; before = λ k w l e. absurd (omega (arith, l)) }

  pub missed-why : (most : ℕ) (samples : List Sample) (given : NoFit D) (miss : Miss) (reason : UnfitWhy D) → given ≡ no.Missed miss → reason ≡ why.Line (record { block = rank; at = miss.at }) miss.line miss.seen → IsUnfit D most samples given → IsUnfitBy D rank most samples reason
  missed-why most samples given miss reason is told h =
      let k = subst (λ (n : NoFit D). IsUnfit D most samples n) is h in
      subst (λ (r : UnfitWhy D). IsUnfitBy D rank most samples r) (sym told) (k.0, refl, k.1)

  -- the samples of a datum are those of what is shown of it
  pub unfit-at : (what : What) (seen : Seen) (most : ℕ) (given : NoFit D) → seen ≡ shown_as what → most ≡ widest what → IsUnfit D most (samples_of D block seen observations) given → IsUnfit D (widest what) (samples_at D observations block what) given
  unfit-at what seen most given is wide h =
      subst (λ (s : Seen). IsUnfit D (widest what) (samples_of D block s observations) given) is (subst (λ (n : ℕ). IsUnfit D n (samples_of D block seen observations) given) wide h)

-- an error that `?` hands on
pub handed-on : {D : ℕ} {T : Type 0} (r : Result T (FitEnd D)) (P : T → Type 0) (Q : FitEnd D → Type 0) (e : FitEnd D) → IsErr r × IsErrAnd r (λ x. x ≡ e) → Q e → MatchResult r P Q
handed-on (Ok x) P Q e (err, is) q = absurd (cc)
handed-on (Err x) P Q e (err, is) q = subst Q (sym is) q
