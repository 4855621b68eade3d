-- Turns that are done take at least a step each, and leave a store of i64s.
use Rattle.std.proofs.Common.{◌≡◌, refl, ap, ◌∙◌, sym, subst, ℕ, zero, suc, ◌+◌, ◌-◌, ◌<◌, ◌≤◌, ◌^◌, pos, nat_le, true, false, List, [], ◌∷◌, length, length-append, slice_get, Option, Some, None, Result, Ok, Err, inl, inr, arith}
use Rattle.std.specs.List.{All}
use Rattle.std.proofs.lemmas.Bool.{and_parts, cases_lt}
use Rattle.nest_lang.specs.declared.tree.Head.{Head}
use Rattle.nest_lang.specs.declared.tree.Head.TheVariants.{For, While}
use Rattle.nest_lang.specs.declared.tree.Loop.{Loop}
use Rattle.nest_lang.specs.declared.state.Outer.{Outer}
use Rattle.nest_lang.specs.Blocks.{loop_at}
use Rattle.nest_lang.specs.Expressions.{Frame}
use Rattle.nest_lang.specs.Heads.{Bounds, Tested, Yield, head_step}
use Rattle.nest_lang.specs.Loops.{Around, inward, loops_trace, outside, turn_trace}
use Rattle.nest_lang.specs.Lookups.{plain}
use Rattle.nest_lang.specs.Rules.{loop_keeps, loops_keep}
use Rattle.nest_lang.specs.Stores.{Nothing, Store}
use Rattle.nest_lang.specs.Traces.{Cut, Done, Entry, Halt, Limited, Observation, Over, Trace, after_all, cut, cut_of, ends, finish_of, in_turn, joined, traced}
use Rattle.nest_lang.specs.Turns.{IsPositionIn, counted_turns, number_left, over, tested_turns, turn_or_over, turns_by, turns_trace}
use Rattle.nest_lang.specs.Values.{turn_value}
use Rattle.nest_lang.proofs.AgreementLaws.{cut-long}
use Rattle.nest_lang.proofs.RunLaws.{cut-whole}
use Rattle.profile.specs.Reach.{HasI64s, IsOfI64s}
use Rattle.profile.proofs.ReachLaws.{after-fits, all-each, nest-sound, turn-takes}

-- ---- steps

-- a trace that nothing halts has at least so many steps
abbrev Takes : ℕ → Trace → Type 0
Takes c t = t.halt ≡ None → c ≤ length t.entries

some-none : (h : Halt) → Some h ≡ None → ⊥
some-none h e = cc

joined-take : (n b c : ℕ) (halt : Option Halt) (es : List Entry) (more : Trace) → n ≤ b + c → (halt ≡ None → b ≤ length es) → Takes c more → Takes n (joined halt es more)
joined-take n b c (Some h) es more enough first rest = λ none. absurd (some-none h none)
joined-take n b c None es more enough first rest = λ none. let one = first refl in let two = rest none in let size = length-append es more.entries in omega (arith, enough, one, two, size)

counted-take : (c n t : ℕ) (turn : ℕ → Store → Trace) → ((i : ℕ) (u : Store) → Takes 1 (turn i u)) → (s : Store) → Takes c (counted_turns c n t turn s)
counted-take zero n t turn each s = λ none. omega arith
counted-take (suc c) zero t turn each s = λ none. absurd (some-none Over none)
counted-take (suc c) (suc n) t turn each s = joined-take (suc c) 1 c (turn t s).halt (turn t s).entries (counted_turns c n (t + 1) turn (after_all s (turn t s).entries)) (omega arith) (each t s) (counted-take c n (t + 1) turn each (after_all s (turn t s).entries))

over-take : (c : ℕ) (s : Store) → Takes c (in_turn ((λ u. over) ∷ []) s)
over-take c s = λ none. absurd (some-none Over none)

head-take : (before seen : List Observation) (r : Result Yield Halt) (go : Yield → List (Store → Trace)) (c : ℕ) (s : Store) → ((y : Yield) (u : Store) → Takes c (in_turn (go y) u)) → Takes (suc c) (traced (head_step before seen r go) s)
head-take before seen (Ok y) go c s each = joined-take (suc c) 1 c None (record { before = before; seen = seen; effect = Nothing } ∷ []) (in_turn (go y) s) (omega arith) (λ none. omega arith) (each y s)
head-take before seen (Err h) go c s each = λ none. absurd (some-none h none)

tested-take : (c t : ℕ) (frame : ℕ → Frame) (head : Head) (turn : ℕ → Store → Trace) (s : Store) → Takes c (tested_turns c t frame head turn s)
tested-take zero t frame head turn s = λ none. omega arith
tested-take (suc c) t frame head turn s = head-take _ _ _ (turn_or_over (turn t) (tested_turns c (t + 1) frame head turn)) c s (by (tested_turns c (t + 1) frame head turn) (tested-take c (t + 1) frame head turn))
  where
    by : (more : Store → Trace) → ((u : Store) → Takes c (more u)) → (y : Yield) (u : Store) → Takes c (in_turn (turn_or_over (turn t) more y) u)
    by more each (Bounds lower trip) u = over-take c u
    by more each (Tested false) u = over-take c u
    by more each (Tested true) u =
        let w : Store = after_all u (turn t u).entries in
        joined-take c 0 c (turn t u).halt (turn t u).entries (in_turn (more ∷ []) w) (omega arith) (λ none. omega arith) (joined-take c c 0 (more w).halt (more w).entries ends (omega arith) (each w) (λ none. omega arith))

by-take : (h : Head) (turn : Around → Store → Trace) → ((a : Around) (u : Store) → Takes 1 (turn a u)) → (o : Outer) (c : ℕ) (s : Store) → Takes c (turns_by h plain h turn o c s)
by-take (For lower upper stride) turn each o c s = counted-take c (number_left o.left) _ _ (λ i u. each (inward outside i (turn_value o.lower stride i)) u) s
by-take (While condition) turn each o c s = tested-take c _ _ (While condition) _ s

pub turns-take : (k : ℕ) → 0 < k → (loops : List Loop) → loops_keep loops ≡ true → (o : Outer) (c : ℕ) (s : Store) → Takes c (turns_trace plain k loops o c s)
unfolding turns_trace loops_keep
turns-take k some [] keeps o c s = absurd (cc)
turns-take k some (l ∷ ls) keeps o c s =
    let inner = (and_parts (nat_le (length ls) 5) (loop_keeps l ls) keeps).1 in
    by-take l.head (turn_trace plain 1 l (loops_trace plain k 2 ls)) (λ a u none. let takes = turn-takes 0 (omega arith) [] k some l ls 1 inner a u none in omega (arith, takes)) o c s

-- ---- a run that isn't limited has gone through its trace

pub record GoneThrough (t : Trace) (s : Store) (left used : ℕ) : Type 0 where
  pub whole : length t.entries ≤ left
  pub is : cut t s left used ≡ cut_of (after_all s t.entries) (left - length t.entries) (used + length t.entries) (finish_of t.halt)

pub gone-through : (t : Trace) (s : Store) (left used : ℕ) → ((cut t s left used).ending ≡ Limited → ⊥) → GoneThrough t s left used
gone-through t s left used other = elim (cases_lt left (length t.entries)) [
  | inl long ↦ absurd (other (ap (λ (c : Cut). c.ending) (cut-long t s left used long)))
  | inr whole ↦ record { whole = whole; is = cut-whole t s left used whole }
]

done-none : (halt : Option Halt) → finish_of halt ≡ Done → halt ≡ None
done-none None e = refl
done-none (Some h) e = absurd (cc)

module _ (k : ℕ) (some : 0 < k) (loops : List Loop) (keeps : loops_keep loops ≡ true) where
  -- c turns that are done took at least c steps
  pub steps-taken : (o : Outer) (c : ℕ) (s : Store) (left used : ℕ) → (cut (turns_trace plain k loops o c s) s left used).ending ≡ Done → c + (cut (turns_trace plain k loops o c s) s left used).left ≤ left
  steps-taken o c s left used done =
      let t = turns_trace plain k loops o c s in
      let gone = gone-through (turns_trace plain k loops o c s) s left used (λ limited. let e = sym done ∙ limited in cc) in
      let none = done-none (turns_trace plain k loops o c s).halt (sym (ap (λ (x : Cut). x.ending) gone.is) ∙ done) in
      let most = turns-take k some loops keeps o c s none in
      let whole = gone.whole in
      let rest = ap (λ (x : Cut). x.left) gone.is in
      omega (arith, most, whole, rest)

  -- they leave i64s
  pub store-left : All HasI64s loops → (o : Outer) → IsPositionIn loops o → (n : ℕ) → o.next ≡ pos n → (c : ℕ) (s : Store) → IsOfI64s s → (left used : ℕ) → n + left ≤ 2 ^ 33
      → ((cut (turns_trace plain k loops o c s) s left used).ending ≡ Limited → ⊥) → IsOfI64s (cut (turns_trace plain k loops o c s) s left used).store
  unfolding loops_keep
  store-left numbers o position n next c s fits left used few other = by loops refl numbers position
    where
      numbers-from : (l : Loop) (ls : List Loop) (j : ℕ) → loop_at (l ∷ ls) (1 + j) ≡ slice_get (l ∷ ls) j
      numbers-from l ls j = let e : 1 + j ≡ suc j = omega arith in ap (loop_at (l ∷ ls)) e

      by : (ls : List Loop) → loops ≡ ls → All HasI64s ls → IsPositionIn ls o → IsOfI64s (cut (turns_trace plain k loops o c s) s left used).store
      by [] is all at = absurd at
      by (l ∷ ls) is all at =
          let inner = (and_parts (nat_le (length ls) 5) (loop_keeps l ls) (subst (λ (x : List Loop). loops_keep x ≡ true) is keeps)).1 in
          let sound = nest-sound (2 ^ 33) (omega arith) (l ∷ ls) k some l ls (numbers-from l ls) inner (all-each HasI64s (l ∷ ls) all) o at n next c left few s fits in
          let gone = gone-through (turns_trace plain k loops o c s) s left used other in
          let entries : List Entry = (turns_trace plain k (l ∷ ls) o c s).entries in
          let same : turns_trace plain k loops o c s ≡ turns_trace plain k (l ∷ ls) o c s = ap (λ (x : List Loop). turns_trace plain k x o c s) is in
          let whole : length (turns_trace plain k (l ∷ ls) o c s).entries ≤ left = subst (λ (x : Trace). length x.entries ≤ left) same gone.whole in
          subst IsOfI64s (sym (ap (λ (x : Cut). x.store) gone.is ∙ ap (λ (x : Trace). after_all s x.entries) same))
          (after-fits (2 ^ 33) (omega arith) (l ∷ ls) left s (turns_trace plain k (l ∷ ls) o c s).entries sound whole fits)
