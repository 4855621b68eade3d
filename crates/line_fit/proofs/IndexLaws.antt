-- An index of samples grows with one more sample.
use Rattle.std.proofs.Common.{◌≡◌, refl, sym, ap, subst, ◌∙◌, ℕ, ◌+◌, ◌<◌, ℤ, List, Option, Some, None, Bool, true, false, cond, MatchOption, get_or, length, ◌⊎◌, inl, inr, Bor, Ordering, Less, Equal, Greater, int_cmp, arith}
use Rattle.std.specs.Option.{option_copied, is_some}
use Rattle.std.specs.Ordering.{is_eq}
use Rattle.std.specs.Cmp.Lexicographic.{slice_cmp}
use Rattle.std.specs.BTreeMap.{BTreeMap, get, is_at}
use Rattle.std.proofs.lemmas.Cmp.{int_cmp_total, lists_total, tied_itself}
use Rattle.std.proofs.lemmas.List.{get_or_default}
use Rattle.plain_lemmas.proofs.OrderLaws.{slice_cmp-exact}
use Rattle.line_fit.specs.Samples.{Sample, sample_at}
use Rattle.line_fit.specs.Firsts.{IsFirstWith, IsAbsent, IsIndex}

-- ---- counters that compare as equal are equal

is_eq-exact : (o : Ordering) → is_eq o ≡ true → o ≡ Equal
is_eq-exact Less h = cc
is_eq-exact Equal h = refl
is_eq-exact Greater h = cc

at-same : (at other : List ℤ) → is_at (slice_cmp int_cmp at) other ≡ true → at ≡ other
at-same at other h = slice_cmp-exact at other (is_eq-exact (slice_cmp int_cmp at other) h)

at-itself : (at other : List ℤ) → is_at (slice_cmp int_cmp at) other ≡ false → at ≡ other → ⊥
at-itself at other h same =
    let tied = tied_itself (lists_total int_cmp_total) at in
    let told : is_eq (slice_cmp int_cmp at at) ≡ false = subst (λ (q : List ℤ). is_eq (slice_cmp int_cmp at q) ≡ false) (sym same) h in
    let equal : true ≡ false = ap is_eq (sym tied) ∙ told in
    cc

-- ---- what an index tells

-- a sample that was read is the one at its place
pub sample_at-read : (samples : List Sample) (place : ℕ) (s : Sample) → place < length samples → s ≡ get_or samples place s → s ≡ sample_at samples place
sample_at-read samples place s h e = e ∙ get_or_default samples place _ _ h

pub index-told : (samples : List Sample) (n : ℕ) (index : BTreeMap (List ℤ) ℕ) (at here : List ℤ) (found : Option ℕ) → IsIndex samples n index → at ≡ here → get (slice_cmp int_cmp) index at ≡ found → MatchOption found (IsAbsent samples n here) (IsFirstWith samples n here)
index-told samples n index at here found is same e = subst (λ (q : List ℤ). MatchOption found (IsAbsent samples n q) (IsFirstWith samples n q)) same (subst (λ (o : Option ℕ). MatchOption o (IsAbsent samples n at) (IsFirstWith samples n at)) e (is at))

-- what a look-up by reference found
pub copied-none : (found : Option (Bor ℕ)) → is_some found ≡ false → option_copied found ≡ None
copied-none None h = refl
copied-none (Some x) h = cc

pub copied-some : (found : Option (Bor ℕ)) → is_some found ≡ true → (place : ℕ) × (option_copied found ≡ Some place)
copied-some None h = cc
copied-some (Some x) h = (x.now, refl)

-- ---- one more sample

abbrev Found : List Sample → ℕ → List ℤ → Option ℕ → Type 0
Found samples n at found = MatchOption found (IsAbsent samples n at) (IsFirstWith samples n at)

absent-more : (samples : List Sample) (n : ℕ) (at : List ℤ) → IsAbsent samples n at → ((sample_at samples n).at ≡ at → ⊥) → IsAbsent samples (n + 1) at
absent-more samples n at absent new place h same =
    elim (split place n h) [ inl below ↦ absent place below same | inr e ↦ new (subst (λ (p : ℕ). (sample_at samples p).at ≡ at) e same) ]
  where
    split : (place n : ℕ) → place < n + 1 → (place < n) ⊎ (place ≡ n)
    split place n h = grind arith

found-more : (samples : List Sample) (n : ℕ) (at : List ℤ) (found : Option ℕ) → Found samples n at found → ((sample_at samples n).at ≡ at → ⊥) → Found samples (n + 1) at found
found-more samples n at None absent new = absent-more samples n at absent new
found-more samples n at (Some place) first new = record { within = omega (arith, first.within); same = first.same; first = first.first }

-- counters that are there already stay at their place
found-again : (samples : List Sample) (n : ℕ) (at : List ℤ) (found : Option ℕ) → Found samples n at found → (place : ℕ) → place < n → (sample_at samples place).at ≡ at → Found samples (n + 1) at found
found-again samples n at None absent place h same = absurd (absent place h same)
found-again samples n at (Some first) is place h same = record { within = omega (arith, is.within); same = is.same; first = is.first }

-- counters that are new come first at the new place
pub index-more : (samples : List Sample) (n : ℕ) (old new : BTreeMap (List ℤ) ℕ) (at : List ℤ) → IsIndex samples n old → at ≡ (sample_at samples n).at → get (slice_cmp int_cmp) old at ≡ None
    → ((q : List ℤ) → get (slice_cmp int_cmp) new q ≡ cond (is_at (slice_cmp int_cmp at) q) (Some n) (get (slice_cmp int_cmp) old q)) → IsIndex samples (n + 1) new
index-more samples n old new at index here none updates q = subst (Found samples (n + 1) q) (sym (updates q)) (told (is_at (slice_cmp int_cmp at) q) refl)
  where
    absent : IsAbsent samples n at
    absent = subst (Found samples n at) none (index at)

    told : (b : Bool) → is_at (slice_cmp int_cmp at) q ≡ b → Found samples (n + 1) q (cond b (Some n) (get (slice_cmp int_cmp) old q))
    told true e = let same = at-same at q e in record { within = omega arith; same = sym here ∙ same; first = λ earlier h is. absent earlier h (is ∙ sym same) }
    told false e = found-more samples n q (get (slice_cmp int_cmp) old q) (index q) (λ same. at-itself at q e (here ∙ same))

-- counters that are there already change nothing
pub index-stays : (samples : List Sample) (n place : ℕ) (index : BTreeMap (List ℤ) ℕ) (at : List ℤ) → IsIndex samples n index → at ≡ (sample_at samples n).at → get (slice_cmp int_cmp) index at ≡ Some place → IsIndex samples (n + 1) index
index-stays samples n place index at is at_n there q = kept (get (slice_cmp int_cmp) index q) refl (is q)
  where
    here : IsFirstWith samples n (sample_at samples n).at place
    here = index-told samples n index at (sample_at samples n).at (Some place) is at_n there

    kept : (found : Option ℕ) → get (slice_cmp int_cmp) index q ≡ found → Found samples n q found → Found samples (n + 1) q found
    kept None e absent = absent-more samples n q absent (λ same. absent place here.within (here.same ∙ same))
    kept (Some first) e is = record { within = omega (arith, is.within); same = is.same; first = is.first }
