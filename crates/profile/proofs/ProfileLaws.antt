-- Profiles, from what the calls inside them say.
use Rattle.std.proofs.Common.{◌≡◌, ◌+◌, ◌-◌, ℕ, ℤ, pos, ◌+ℤ◌, List, [], Bool, true, false, Option, Some, None, arith, ap, sym, subst, ◌∙◌, refl, inl, inr}
use Rattle.std.proofs.lemmas.Bool.{cases_lt, false≢true}
use Rattle.std.proofs.lemmas.Option.{none-some}
use Rattle.nest_lang.specs.declared.tree.Loop.{Loop}
use Rattle.nest_lang.specs.declared.state.Outer.{Outer}
use Rattle.nest_lang.specs.declared.budget.Turned.{Turned}
use Rattle.nest_lang.specs.declared.budget.Turned.TheVariants as turned
use Rattle.nest_lang.specs.Stores.{Store}
use Rattle.nest_lang.specs.Traces.{Observation, Trace, Finish, Done, Cut, cut, cut_of, seen_in}
use Rattle.nest_lang.specs.Turns.{finish_of_turned, turns_later, entry_steps, AreWhole}
use Rattle.block_exec.specs.Watches.{Chain}
use Rattle.profile.specs.Sampled.{MayKeep, observations_in}
use Rattle.profile.proofs.SamplerLaws.{sampler-keeps}
use Rattle.profile.specs.declared.first_turns.FirstProfile.{FirstProfile}
use Rattle.profile.specs.declared.first_turns.FirstProfile.TheVariants.{Missing, Short, Whole}
use Rattle.profile.specs.FirstProfiles.{entered, turns_from, has_turn, goes_on, GoThrough, IsProfileFrom, IsFirstProfile}

-- ---- the number of whole turns

-- where all turns are done, all are whole
pub all-whole : (turns : ℕ → Store → Trace) (s : Store) (left c j : ℕ) → AreWhole turns s left c j → (cut (turns c s) s left 0).ending ≡ Done → j ≡ c
all-whole turns s left c j whole done = elim (cases_lt j c) [
  | inl less ↦ absurd (whole.most c less (omega arith) done)
  | inr not-less ↦ let within = whole.within in omega arith
]

-- ---- how turns end

abbrev is_done : Finish → Bool
is_done Done = true
is_done finish = false

done-went : (end : Turned) → finish_of_turned end ≡ Done → end ≡ turned.Went
done-went turned.Went is = refl
done-went turned.Ended is = absurd (false≢true (ap is_done is))
done-went (turned.Trapped trap) is = absurd (false≢true (ap is_done is))
done-went turned.Limited is = absurd (false≢true (ap is_done is))

went-on : (end : Turned) (left : Option ℕ) → goes_on end left ≡ true → (end ≡ turned.Went) × (has_turn left ≡ true)
went-on turned.Went left is = (refl, is)
went-on turned.Ended left is = absurd (false≢true is)
went-on (turned.Trapped trap) left is = absurd (false≢true is)
went-on turned.Limited left is = absurd (false≢true is)

-- the ending of a cut doesn't depend on the steps that were used before
ending-alone : (t : Trace) (s : Store) (left used : ℕ) → (cut t s left used).ending ≡ (cut t s left 0).ending
unfolding cut
ending-alone t s left used = refl

-- a run of turns, as `run_turns` says it
pub record IsRunOf (loops : List Loop) (c : ℕ) (s : Store) (left : ℕ) (o o' : Outer) (end : Turned) : Type 0 where
  pub finish : finish_of_turned end ≡ (cut (turns_from loops left o c s) s left 0).ending
  pub done : ℕ
  pub later : o' ≡ turns_later o done
  pub whole : AreWhole (turns_from loops left o) s left c done

pub run_of : (loops : List Loop) (c : ℕ) (s t : Store) (left used left' used' : ℕ) (o o' : Outer) (end : Turned) (done : ℕ)
    → cut_of t left' used' (finish_of_turned end) ≡ cut (turns_from loops left o c s) s left used → o' ≡ turns_later o done → AreWhole (turns_from loops left o) s left c done
    → IsRunOf loops c s left o o' end
run_of loops c s t left used left' used' o o' end done ran later whole = record {
  finish = ap (λ (run : Cut). run.ending) ran ∙ ending-alone (turns_from loops left o c s) s left used;
  done = done;
  later = later;
  whole = whole;
}

-- turns that went, with a further one, go through
pub goes-through : (loops : List Loop) (c : ℕ) (s : Store) (left : ℕ) (o o' : Outer) (end : Turned) → IsRunOf loops c s left o o' end → goes_on end o'.left ≡ true → GoThrough loops c s left o
goes-through loops c s left o o' end run on =
    let is = went-on end o'.left on in
    let done : (cut (turns_from loops left o c s) s left 0).ending ≡ Done = sym run.finish ∙ ap finish_of_turned is.0 in
    let same : run.done ≡ c = all-whole (turns_from loops left o) s left c run.done run.whole done in
    record {
      done = done;
      more = subst (λ (n : ℕ). has_turn (turns_later o n).left ≡ true) same (ap (λ (p : Outer). has_turn p.left) (sym run.later) ∙ is.1);
    }

-- other turns don't
pub falls-short : (loops : List Loop) (c : ℕ) (s : Store) (left : ℕ) (o o' : Outer) (end : Turned) → IsRunOf loops c s left o o' end → goes_on end o'.left ≡ false → GoThrough loops c s left o → ⊥
falls-short loops c s left o o' end run off through =
    let went : end ≡ turned.Went = done-went end (run.finish ∙ through.done) in
    let same : run.done ≡ c = all-whole (turns_from loops left o) s left c run.done run.whole through.done in
    let none : has_turn o'.left ≡ false = subst (λ (t : Turned). goes_on t o'.left ≡ false) went off in
    let some : has_turn o'.left ≡ true = ap (λ (p : Outer). has_turn p.left) run.later ∙ subst (λ (n : ℕ). has_turn (turns_later o n).left ≡ true) (sym same) through.more in
    false≢true (sym none ∙ some)

-- ---- the answers of a profile

from-zero : (n : ℕ) → pos 0 +ℤ pos n ≡ pos n
from-zero n = let same : 0 + n ≡ n = omega arith in ap pos same

pub short-profile : (loops : List Loop) (c : ℕ) (s : Store) (left : ℕ) (o o' : Outer) (end : Turned) → o.next ≡ pos 0 → IsRunOf loops c s left o o' end → goes_on end o'.left ≡ false → IsProfileFrom loops c s left o (Short o'.next)
short-profile loops c s left o o' end first run off = (
  falls-short loops c s left o o' end run off,
  (run.done, ap (λ (p : Outer). p.next) run.later ∙ ap (λ (n : ℤ). n +ℤ pos run.done) first ∙ from-zero run.done, run.whole),
)

abbrev or-none : Option (List Observation) → List Observation
or-none None = []
or-none (Some xs) = xs

some-same : (xs ys : List Observation) → Some xs ≡ Some ys → xs ≡ ys
some-same xs ys is = ap (λ (o : Option (List Observation)). or-none o) is

-- what a new sampler kept is what it was shown
pub kept-all : (shown kept : List Observation) → Chain MayKeep (Some []) shown (Some kept) → kept ≡ observations_in shown
kept-all shown kept chain = elim (sampler-keeps [] shown (Some kept) chain) [
  | inl none ↦ absurd (none-some kept (sym none))
  | inr some ↦ some-same kept (observations_in shown) some
]

pub whole-profile : (loops : List Loop) (c : ℕ) (s : Store) (left : ℕ) (o o' : Outer) (end : Turned) (kept : List Observation) → IsRunOf loops c s left o o' end → goes_on end o'.left ≡ true
    → Chain MayKeep (Some []) (seen_in (turns_from loops left o c s) left) (Some kept) → IsProfileFrom loops c s left o (Whole kept)
whole-profile loops c s left o o' end kept run on chain = (goes-through loops c s left o o' end run on, kept-all (seen_in (turns_from loops left o c s) left) kept chain)

-- ---- the first profile

pub missing-none : (loops : List Loop) (c : ℕ) (s : Store) (left : ℕ) → None ≡ entered loops s left → IsFirstProfile loops c s left Missing
missing-none loops c s left none = λ o at. absurd (none-some o (none ∙ at))

abbrev outer-or : Outer → Option Outer → Outer
outer-or o None = o
outer-or o (Some p) = p

pub outer-same : (o p : Outer) → Some o ≡ Some p → o ≡ p
outer-same o p is = ap (λ (x : Option Outer). outer-or o x) is

pub missing-over : (loops : List Loop) (c : ℕ) (s : Store) (left : ℕ) (p : Outer) → Some p ≡ entered loops s left → has_turn p.left ≡ false → IsFirstProfile loops c s left Missing
missing-over loops c s left p is over = λ o at. ap (λ (x : Outer). has_turn x.left) (sym (outer-same p o (is ∙ at))) ∙ over

pub first-from : (loops : List Loop) (c : ℕ) (s : Store) (left left' : ℕ) (p : Outer) → Some p ≡ entered loops s left → has_turn p.left ≡ true → left' ≡ left - entry_steps loops
    → (found : FirstProfile) → IsProfileFrom loops c s left' p found → IsFirstProfile loops c s left found
first-from loops c s left left' p is turn steps Missing from = absurd from
first-from loops c s left left' p is turn steps (Short turns) from = (p, sym is, turn, subst (λ (n : ℕ). IsProfileFrom loops c s n p (Short turns)) steps from)
first-from loops c s left left' p is turn steps (Whole observations) from = (p, sym is, turn, subst (λ (n : ℕ). IsProfileFrom loops c s n p (Whole observations)) steps from)
