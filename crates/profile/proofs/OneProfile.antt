-- There is exactly one first profile.
use Rattle.std.proofs.Common.{◌≡◌, ◌+◌, ◌-◌, ℕ, zero, suc, pos, List, [], ◌∷◌, Bool, true, false, Option, Some, None, arith, ap, sym, subst, ◌∙◌, refl, ◌⊎◌, inl, inr}
use Rattle.std.proofs.lemmas.Option.{none-some}
use Rattle.std.proofs.lemmas.Bool.{cases_lt, cases_Bool, false≢true}
use Rattle.nest_lang.specs.declared.tree.Head.{Head}
use Rattle.nest_lang.specs.declared.tree.Head.TheVariants.{For, While}
use Rattle.nest_lang.specs.declared.tree.Loop.{Loop}
use Rattle.nest_lang.specs.declared.state.Outer.{Outer}
use Rattle.nest_lang.specs.Stores.{Store}
use Rattle.nest_lang.specs.Lookups.{plain}
use Rattle.nest_lang.specs.Traces.{Trace, Finish, Done, Halted, Limited, Cut, cut, seen_in}
use Rattle.nest_lang.specs.Turns.{turns_trace, turns_by, turns_later, entry_steps, AreWhole}
use Rattle.nest_lang.specs.Loops.{turn_trace, loops_trace}
use Rattle.nest_lang.proofs.CutLaws.{cut-ends}
use Rattle.profile.specs.Sampled.{observations_in}
use Rattle.profile.specs.declared.first_turns.FirstProfile.{FirstProfile}
use Rattle.profile.specs.declared.first_turns.FirstProfile.TheVariants.{Missing, Short, Whole}
use Rattle.profile.specs.FirstProfiles.{entered, turns_from, has_turn, GoThrough, IsProfileFrom, IsFirstProfile}
use Rattle.profile.specs.Laws.{OneFirstProfile}
use Rattle.profile.proofs.ProfileLaws.{missing-none, missing-over, first-from, outer-same}

-- ---- the number of whole turns

abbrev is_done : Finish → Bool
is_done Done = true
is_done (Halted halt) = false
is_done Limited = false

is-done-done : (f : Finish) → is_done f ≡ true → f ≡ Done
is-done-done Done is = refl
is-done-done (Halted halt) is = absurd (false≢true is)
is-done-done Limited is = absurd (false≢true is)

not-done : (f : Finish) → is_done f ≡ false → f ≡ Done → ⊥
not-done f off is = false≢true (sym off ∙ ap is_done is)

-- of at most c turns some number is whole, where no turn at all is done
some-whole : (turns : ℕ → Store → Trace) (s : Store) (left c : ℕ) → (cut (turns 0 s) s left 0).ending ≡ Done → (j : ℕ) × AreWhole turns s left c j
some-whole turns s left zero none = (0, record { within = omega arith; done = none; most = λ i more upto done. absurd (omega arith) })
some-whole turns s left (suc c) none = elim (cases_Bool (is_done (cut (turns (suc c) s) s left 0).ending)) [
  | inl all ↦ (suc c, record { within = omega arith; done = is-done-done (cut (turns (suc c) s) s left 0).ending all; most = λ i more upto done. absurd (omega arith) })
  | inr short ↦
      let fewer = some-whole turns s left c none in (
        fewer.0,
        record {
          within = (let upto = fewer.1.within in omega arith);
          done = fewer.1.done;
          most = λ i more upto done. elim (cases_lt i (suc c)) [
            | inl less ↦ fewer.1.most i more (omega arith) done
            | inr not-less ↦
                let same : i ≡ suc c = omega arith in
                not-done (cut (turns (suc c) s) s left 0).ending short (subst (λ (n : ℕ). (cut (turns n s) s left 0).ending ≡ Done) same done)
          ];
        },
      )
]

-- and only one is
one-whole : (turns : ℕ → Store → Trace) (s : Store) (left c i j : ℕ) → AreWhole turns s left c i → AreWhole turns s left c j → i ≡ j
one-whole turns s left c i j is is' = elim (cases_lt i j) [
  | inl less ↦ absurd (is.most j less is'.within is'.done)
  | inr not-less ↦ elim (cases_lt j i) [
    | inl more ↦ absurd (is'.most i more is.within is.done)
    | inr not_more ↦ omega arith
  ]
]

no-turns : (loops : List Loop) (k : ℕ) (o : Outer) (s : Store) (left : ℕ) → (cut (turns_trace plain k loops o 0 s) s left 0).ending ≡ Done
unfolding turns_trace
no-turns [] k o s left = ap (λ (run : Cut). run.ending) (cut-ends s left 0)
no-turns (l ∷ ls) k o s left = elim l.head as (λ (h : Head). (cut (turns_by h plain l.head (turn_trace plain 1 l (loops_trace plain k 2 ls)) o 0 s) s left 0).ending ≡ Done) [
  | For lower upper stride ↦ ap (λ (run : Cut). run.ending) (cut-ends s left 0)
  | While condition ↦ ap (λ (run : Cut). run.ending) (cut-ends s left 0)
]

-- ---- a profile from a position

goes-or-not : (loops : List Loop) (c : ℕ) (s : Store) (left : ℕ) (o : Outer) → GoThrough loops c s left o ⊎ (GoThrough loops c s left o → ⊥)
goes-or-not loops c s left o = elim (cases_Bool (is_done (cut (turns_from loops left o c s) s left 0).ending)) [
  | inl all ↦ elim (cases_Bool (has_turn (turns_later o c).left)) [
    | inl more ↦ inl (record { done = is-done-done (cut (turns_from loops left o c s) s left 0).ending all; more = more })
    | inr over ↦ inr (λ through. false≢true (sym over ∙ through.more))
  ]
  | inr short ↦ inr (λ through. not-done (cut (turns_from loops left o c s) s left 0).ending short through.done)
]

some-from : (loops : List Loop) (c : ℕ) (s : Store) (left : ℕ) (o : Outer) → (profile : FirstProfile) × IsProfileFrom loops c s left o profile
some-from loops c s left o = elim (goes-or-not loops c s left o) [
  | inl through ↦ (Whole (observations_in (seen_in (turns_from loops left o c s) left)), (through, refl))
  | inr short ↦
      let whole = some-whole (turns_from loops left o) s left c (no-turns loops (left + 1) o s left) in
      (Short (pos whole.0), (short, (whole.0, refl, whole.1)))
]

one-from : (loops : List Loop) (c : ℕ) (s : Store) (left : ℕ) (o : Outer) (p q : FirstProfile) → IsProfileFrom loops c s left o p → IsProfileFrom loops c s left o q → q ≡ p
one-from loops c s left o Missing q is is' = absurd is
one-from loops c s left o (Short turns) Missing is is' = absurd is'
one-from loops c s left o (Whole seen) Missing is is' = absurd is'
one-from loops c s left o (Short turns) (Short turns') is is' =
    let same : is'.1.0 ≡ is.1.0 = one-whole (turns_from loops left o) s left c is'.1.0 is.1.0 is'.1.2 is.1.2 in
    ap Short (is'.1.1 ∙ ap pos same ∙ sym is.1.1)
one-from loops c s left o (Short turns) (Whole seen) is is' = absurd (is.0 is'.0)
one-from loops c s left o (Whole seen) (Short turns) is is' = absurd (is'.0 is.0)
one-from loops c s left o (Whole seen) (Whole seen') is is' = ap Whole (is'.1 ∙ sym is.1)

-- ---- the first profile

none-other : (loops : List Loop) (c : ℕ) (s : Store) (left : ℕ) → entered loops s left ≡ None → (other : FirstProfile) → IsFirstProfile loops c s left other → other ≡ Missing
none-other loops c s left none Missing is = refl
none-other loops c s left none (Short turns) is = absurd (none-some is.0 (sym none ∙ is.1))
none-other loops c s left none (Whole seen) is = absurd (none-some is.0 (sym none ∙ is.1))

over-other : (loops : List Loop) (c : ℕ) (s : Store) (left : ℕ) (o : Outer) → entered loops s left ≡ Some o → has_turn o.left ≡ false → (other : FirstProfile) → IsFirstProfile loops c s left other → other ≡ Missing
over-other loops c s left o at over Missing is = refl
over-other loops c s left o at over (Short turns) is = absurd (false≢true (sym over ∙ ap (λ (x : Outer). has_turn x.left) (outer-same o is.0 (sym at ∙ is.1)) ∙ is.2))
over-other loops c s left o at over (Whole seen) is = absurd (false≢true (sym over ∙ ap (λ (x : Outer). has_turn x.left) (outer-same o is.0 (sym at ∙ is.1)) ∙ is.2))

from-other : (loops : List Loop) (c : ℕ) (s : Store) (left : ℕ) (o : Outer) (profile : FirstProfile) → entered loops s left ≡ Some o → has_turn o.left ≡ true → IsProfileFrom loops c s (left - entry_steps loops) o profile
    → (other : FirstProfile) → IsFirstProfile loops c s left other → other ≡ profile
from-other loops c s left o profile at turn from Missing is = absurd (false≢true (sym (is o at) ∙ turn))
from-other loops c s left o profile at turn from (Short turns) is =
    one-from loops c s (left - entry_steps loops) o profile (Short turns) from (subst (λ (x : Outer). IsProfileFrom loops c s (left - entry_steps loops) x (Short turns)) (outer-same is.0 o (sym is.1 ∙ at)) is.3)
from-other loops c s left o profile at turn from (Whole seen) is =
    one-from loops c s (left - entry_steps loops) o profile (Whole seen) from (subst (λ (x : Outer). IsProfileFrom loops c s (left - entry_steps loops) x (Whole seen)) (outer-same is.0 o (sym is.1 ∙ at)) is.3)

abbrev Exactly : List Loop → ℕ → Store → ℕ → Type 0
Exactly loops c s left = (profile : FirstProfile) × IsFirstProfile loops c s left profile × ((other : FirstProfile) → IsFirstProfile loops c s left other → other ≡ profile)

where-entered : (loops : List Loop) (c : ℕ) (s : Store) (left : ℕ) (o : Outer) → entered loops s left ≡ Some o → Exactly loops c s left
where-entered loops c s left o at = elim (cases_Bool (has_turn o.left)) [
  | inl turn ↦
      let from = some-from loops c s (left - entry_steps loops) o in
      (from.0, first-from loops c s left (left - entry_steps loops) o (sym at) turn refl from.0 from.1, from-other loops c s left o from.0 at turn from.1)
  | inr over ↦ (Missing, missing-over loops c s left o (sym at) over, over-other loops c s left o at over)
]

where-found : (loops : List Loop) (c : ℕ) (s : Store) (left : ℕ) (found : Option Outer) → entered loops s left ≡ found → Exactly loops c s left
where-found loops c s left None none = (Missing, missing-none loops c s left (sym none), none-other loops c s left none)
where-found loops c s left (Some o) at = where-entered loops c s left o at

pub one-profile : OneFirstProfile
one-profile = λ loops c s left. where-found loops c s left (entered loops s left) refl
