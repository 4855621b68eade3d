-- A value that is one of its kind is kept as it is, so what is kept of a run of i64s is its deviation.
use Rattle.std.proofs.Common.{◌≡◌, refl, sym, ap, subst, ◌∙◌, ℕ, suc, ◌<◌, ◌^◌, ℤ, pos, negsuc, FitsSigned, w64, Bool, true, unsigned_abs, List, [], ◌∷◌, ◌++◌, Option, Some, None, arith}
use Rattle.std.specs.Prelude.{if◌then◌else◌, nat_lt}
use Rattle.std.specs.List.{All}
use Rattle.std.proofs.lemmas.Bool.Decides.{nat_tests}
use Rattle.std.proofs.lemmas.Int.{ints}
use Rattle.std.proofs.lemmas.List.Elements.{All-append, All-cons, All-head, All-nil, All-tail}
use Rattle.nest_lang.specs.declared.observe.Seen.{Seen}
use Rattle.nest_lang.specs.declared.observe.Seen.TheVariants as see
use Rattle.nest_lang.specs.Lookups.{plain}
use Rattle.nest_lang.specs.Traces.{Observation, Finish, Done, Halted, Limited, Occurrence, cut, seen_in}
use Rattle.nest_lang.specs.Statements.{scalars_from}
use Rattle.nest_lang.specs.Turns.{turns_trace}
use Rattle.nest_lang.specs.Values.{is_i64}
use Rattle.follow.specs.Plans.{frame_with}
use Rattle.follow.specs.ChunkRuns.{closing_at}
use Rattle.follow.specs.Deviations.{Deviation, Differs, Halts, Limit}
use Rattle.follow.specs.Hows.{how_of}
use Rattle.follow_chunk.specs.declared.task.Deviation as code
use Rattle.follow_chunk.specs.Predicted.{forecast_of, occurrence_of}
use Rattle.profile.specs.Reach.{HasValue, IsValueOf}
use Rattle.profile.proofs.TripLaws.{turns-leave-i64s, turns-show-values}
use Rattle.compare.specs.ChainLaw.{behind, run_of_chunk}
use Rattle.compare.specs.Comparisons.{Comparison}
use Rattle.compare.specs.Compared.{IsFirstDeviation, IsFirstKept}
use Rattle.compare.specs.Kept.{kept, kept_by, kept_i64, kept_u64}
use Rattle.compare.specs.KeptLaws.{KeptIsExact, RunsShowValues}

-- ---- values

fits-is_i64 : (v : ℤ) → FitsSigned w64 v → is_i64 v ≡ true
fits-is_i64 (pos n) h = let s : n < 2 ^ 63 = omega (arith, ints, h) in grind (arith, nat_tests, s)
fits-is_i64 (negsuc n) h = let s : n < 2 ^ 63 = omega (arith, ints, h) in grind (arith, nat_tests, s)

i64-kept : (v : ℤ) → FitsSigned w64 v → kept_i64 v ≡ v
i64-kept v h = ap (λ (b : Bool). if b then v else pos 0) (fits-is_i64 v h)

u64-kept : (n : ℕ) → n < 2 ^ 64 → kept_u64 (pos n) ≡ pos n
u64-kept n h = let t : nat_lt n (2 ^ 64) ≡ true = grind (arith, nat_tests, h) in ap (λ (b : Bool). if b then pos n else pos 0) t

value-kept : (what : Seen) (v : ℤ) → IsValueOf what v → kept_by what v ≡ v
value-kept see.Start v h = refl
value-kept (see.Scalar number) v h = i64-kept v h
value-kept (see.Address access) v h = i64-kept v h
value-kept see.Lower v h = i64-kept v h
value-kept see.Trip v (n, is, few) = subst (λ (z : ℤ). kept_u64 z ≡ z) (sym is) (u64-kept n few)
value-kept see.Condition v h = refl

observation-kept : (o : Observation) → HasValue o → kept o ≡ o
observation-kept o h = ap (λ (v : ℤ). let x : Observation = record { at = o.at; what = o.what; value = v } in x) (value-kept o.what o.value h)

-- ---- a deviation

-- one of a list
middle : {A : Type 0} (P : A → Type 0) (xs : List A) (x : A) (ys : List A) → All P (xs ++ x ∷ ys) → P x
middle P [] x ys h = All-head P x ys h
middle P (z ∷ xs) x ys h = middle P xs x ys (All-tail P z (xs ++ x ∷ ys) h)

pub kept-is-exact : KeptIsExact
kept-is-exact p run (Differs seen) all first = ap Differs (observation-kept seen (middle HasValue first.before seen first.after (subst (All HasValue) first.are all)))
kept-is-exact p run (Halts halt) all is = refl
kept-is-exact p run Limit all is = refl

pub first-exact : (D : ℕ) (c : Comparison) (finish : Finish) (scalars : List ℤ) (result : Option (code.Deviation D)) → IsFirstKept {D = D} c finish scalars result → IsFirstDeviation {D = D} c finish scalars result
first-exact D c finish scalars None first t chunk x k loops o a b w all = first t chunk x k loops o a b w
first-exact D c finish scalars (Some d) first t chunk x k loops o a b w all =
    let is = first t chunk x k loops o a b w in
    (is.0, is.1, is.2, is.3 ∙ ap (λ (e : Deviation). how_of (forecast_of t) e) (kept-is-exact (forecast_of t) (run_of_chunk t chunk (turns_trace x k loops o (unsigned_abs chunk.turns) a.store) a.store a.left) is.0 all is.1))

-- ---- a run of i64s

scalars-have : (next : Occurrence) (number : ℕ) (vs : List ℤ) → All (FitsSigned w64) vs → All HasValue (scalars_from (frame_with next [] plain) number vs)
scalars-have next number [] h = All-nil HasValue
scalars-have next number (v ∷ vs) h =
    All-cons HasValue (record { at = next; what = see.Scalar number; value = v }) (scalars_from (frame_with next [] plain) (suc number) vs) (All-head (FitsSigned w64) v vs h) (scalars-have next (suc number) vs (All-tail (FitsSigned w64) v vs h))

closing-have : (next : Occurrence) (finish : Finish) (vs : List ℤ) → All (FitsSigned w64) vs → All HasValue (closing_at next finish vs)
closing-have next Done vs h = scalars-have next 0 vs h
closing-have next (Halted halt) vs h = All-nil HasValue
closing-have next Limited vs h = All-nil HasValue

pub runs-show-values : RunsShowValues
runs-show-values t chunk k c left loops o s some is =
    let trace = turns_trace plain k loops o c s in
    let end = cut trace s left 0 in
    All-append HasValue (seen_in trace left) (closing_at (occurrence_of t (behind t chunk)) end.ending end.store.scalars)
    (turns-show-values k left c is.turn loops o s some is.keeps is.numbers is.store is.position is.next is.few)
    (closing-have (occurrence_of t (behind t chunk)) end.ending end.store.scalars (turns-leave-i64s k left 0 c is.turn loops o s some is.keeps is.numbers is.store is.position is.next is.few).scalars)
