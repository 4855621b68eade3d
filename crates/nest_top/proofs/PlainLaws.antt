-- The loop over the nests of a file.
use Rattle.std.proofs.Common.{◌≡◌, ◌∙◌, refl, ap, ap₂, sym, ℕ, ◌+◌, ◌<◌, ◌≤◌, suc, List, ◌∷◌, length, drop, Some, None, inl, inr, arith, get_or, drop-cons}
use Rattle.std.specs.Prelude.{slice_get}
use Rattle.std.proofs.lemmas.Option.{slice_get_cases}
use Rattle.std.proofs.lemmas.List.{drop_all}
use Rattle.nest_lang.specs.declared.tree.Nest.{Nest}
use Rattle.nest_lang.specs.declared.budget.Ending.{Ending}
use Rattle.nest_lang.specs.declared.budget.Ending.TheVariants as ending
use Rattle.nest_lang.specs.Stores.{Store}
use Rattle.nest_lang.specs.Traces.{Finish, Done, cut, cut_of}
use Rattle.nest_lang.specs.Runs.{finish_of_ending, nest_trace, nests_trace, plain_run, run_of}
use Rattle.plain_interp.proofs.SeveralNestLaws.{rest_of_run, plain_run-rest, rest-of-run-end, rest-of-run-next, rest-of-run-out}

-- the element at a place, and what is behind it
same-some : {A : Type 0} (a b : A) → Some a ≡ Some b → a ≡ b
same-some a b e = cc

element-at : {A : Type 0} (xs : List A) (k : ℕ) (x : A) → slice_get xs k ≡ Some x → (k < length xs) × (get_or xs k x ≡ x)
element-at xs k x found = elim (slice_get_cases xs k).1 [
  | inl h ↦ let same : h.0 ≡ x = same-some h.0 x (sym h.2 ∙ found) in (h.1, ap (get_or xs k) (sym same) ∙ (h.3 ∙ same))
  | inr h ↦ let bad : None ≡ Some x = sym h.1 ∙ found in absurd (cc)
]

drop-at : {A : Type 0} (xs : List A) (k : ℕ) (x : A) → slice_get xs k ≡ Some x → drop k xs ≡ x ∷ drop (k + 1) xs
drop-at xs k x found =
    let here = element-at xs k x found in
    let next : suc k ≡ k + 1 = omega arith in
    drop-cons xs k x here.0 ∙ ap₂ (λ y n. y ∷ drop n xs) here.1 next

-- what is left to run where so many nests have ended
pub record Left (nests : List Nest) (number : ℕ) (s t : Store) (left used left' used' : ℕ) : Type 0 where
  pub rest : (k : ℕ) → left < k → cut (nests_trace k (drop number nests) t) t left' used' ≡ cut (nests_trace k nests s) s left used
  pub fewer : left' ≤ left
  pub kept : left' + used' ≡ left + used
  pub scalars : length t.scalars ≡ length s.scalars

-- a nest that was run from a store to another
pub record NestRan (nest : Nest) (s t : Store) (left used left' used' : ℕ) (e : Ending) : Type 0 where
  pub ran : (k : ℕ) → left < k → cut_of t left' used' (finish_of_ending e) ≡ cut (nest_trace k nest.loops s) s left used
  pub kept : left' + used' ≡ left + used
  pub fewer : left' ≤ left
  pub scalars : length t.scalars ≡ length s.scalars

module _ (nests : List Nest) (number : ℕ) (s t : Store) (left used left' used' : ℕ) (before : Left nests number s t left used left' used') where
  module _ (nest : Nest) (u : Store) (left'' used'' : ℕ) (e : Ending) (here : slice_get nests number ≡ Some nest) (run : NestRan nest t u left' used' left'' used'' e) where
    pub left-next : e ≡ ending.Ended → Left nests (number + 1) s u left used left'' used''
    unfolding rest_of_run
    left-next ended = record {
      rest = λ k more.
          let ran : cut_of u left'' used'' Done ≡ cut (nest_trace k nest.loops t) t left' used' = ap (λ (x : Ending). cut_of u left'' used'' (finish_of_ending x)) (sym ended) ∙ run.ran k (omega (arith, more, before.fewer)) in
          rest-of-run-next k nest (drop (number + 1) nests) t u left' used' left'' used'' ran
          ∙ ap (λ (ns : List Nest). cut (nests_trace k ns t) t left' used') (sym (drop-at nests number nest here))
          ∙ before.rest k more;
      fewer = omega (arith, run.fewer, before.fewer);
      kept = run.kept ∙ before.kept;
      scalars = run.scalars ∙ before.scalars;
    }

    pub left-out : (e ≡ ending.Ended → ⊥) → (k : ℕ) → left < k → cut_of u left'' used'' (finish_of_ending e) ≡ cut (nests_trace k nests s) s left used
    unfolding rest_of_run
    left-out out k more =
        rest-of-run-out k nest (drop (number + 1) nests) t u left' used' left'' used'' (finish_of_ending e) (λ done. out (only-ended e done)) (run.ran k (omega (arith, more, before.fewer)))
        ∙ ap (λ (ns : List Nest). cut (nests_trace k ns t) t left' used') (sym (drop-at nests number nest here))
        ∙ before.rest k more
      where
        only-ended : (x : Ending) → finish_of_ending x ≡ Done → x ≡ ending.Ended
        only-ended ending.Ended h = refl
        only-ended (ending.Trapped trap) h = absurd (cc)
        only-ended ending.Limited h = absurd (cc)

  pub left-end : length nests ≤ number → (k : ℕ) → left < k → cut_of t left' used' Done ≡ cut (nests_trace k nests s) s left used
  unfolding rest_of_run
  left-end all k more =
      rest-of-run-end k t left' used'
      ∙ ap (λ (ns : List Nest). cut (nests_trace k ns t) t left' used') (sym (drop_all number nests all))
      ∙ before.rest k more

pub left-start : (nests : List Nest) (s : Store) (left used : ℕ) → Left nests 0 s s left used left used
left-start nests s left used = record { rest = λ k more. refl; fewer = omega arith; kept = refl; scalars = refl }

-- the plain run of nests from a store
pub nests-ran : (nests : List Nest) (s t : Store) (n left used : ℕ) (e : Finish) → cut_of t left used e ≡ cut (nests_trace (n + 1) nests s) s n 0
    → record { store = t; ending = e; steps = used } ≡ plain_run nests s n
unfolding rest_of_run
nests-ran nests s t n left used e ran = ap run_of ran ∙ plain_run-rest nests s n
