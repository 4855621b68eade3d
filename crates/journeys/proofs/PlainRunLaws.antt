-- The run of a journey is the plain run.
use Rattle.std.proofs.Common.{◌≡◌, refl, ap, ◌∙◌, sym, subst, ℕ, suc, ◌+◌, ◌-◌, ◌<◌, ◌≤◌, min, ℤ, pos, List, [], ◌∷◌, map, true, Option, Some, None, IfSome, Result, Ok, Err, arith, length}
use Rattle.std.proofs.lemmas.Option.{none-some}
use Rattle.nest_lang.specs.declared.tree.Expr.{Expr}
use Rattle.nest_lang.specs.declared.tree.Head.{Head}
use Rattle.nest_lang.specs.declared.tree.Head.TheVariants.{For, While}
use Rattle.nest_lang.specs.declared.tree.Loop.{Loop}
use Rattle.nest_lang.specs.declared.tree.Nest.{Nest}
use Rattle.nest_lang.specs.declared.tree.Part.TheVariants as part
use Rattle.nest_lang.specs.declared.state.Outer.{Outer}
use Rattle.nest_lang.specs.Stores.{Store}
use Rattle.nest_lang.specs.Lookups.{plain}
use Rattle.nest_lang.specs.Traces.{Trace, Halt, Trapped, Stopped, Over, Finish, Done, Halted, Limited, Cut, cut, cut_of, traced}
use Rattle.nest_lang.specs.Statements.{announced}
use Rattle.nest_lang.specs.Heads.{Yield, Bounds, Tested, head_of, headed}
use Rattle.nest_lang.specs.Loops.{outside, frame_of, loops_trace, turn_trace}
use Rattle.nest_lang.specs.Turns.{turns_trace, turns_by, turns_later, first_position, entry_steps, entry_steps_of}
use Rattle.nest_lang.specs.TurnLaws.{over_is_done, all_turns}
use Rattle.nest_lang.specs.Runs.{nest_trace, run_of}
use Rattle.nest_lang.proofs.CutLaws.{cut-ends, cut-traced, cut-only, cut-and_then, cut-left, resumed, resumed-not}
use Rattle.nest_lang.proofs.TurnLaws.{turns_trace-split, for-is-its-turns}
use Rattle.nest_lang.proofs.WhileTurnLaws.{while-is-its-turns}
use Rattle.nest_lang.proofs.NeverOver.{GoesOn, loops_trace-goes}
use Rattle.plain_interp.proofs.SeveralNestLaws.{rest_of_run, plain_run-rest, rest-of-run-end, rest-of-run-next, rest-of-run-out}
use Rattle.nest_grammar.specs.declared.file.NestUnit.{NestUnit}
use Rattle.nest_grammar.specs.declared.version.Version.{Version}
use Rattle.nest_grammar.specs.Files.{first_store, nests_of}
use Rattle.block_exec.specs.Moments.{where_left}
use Rattle.report.specs.declared.journey.Options.{Options}
use Rattle.report.specs.declared.line.Line.{Line}
use Rattle.journeys.specs.Settings.{Setting, Moment, plain_turns, entry, entry_at, entry_by, setting_of}
use Rattle.journeys.specs.Stages.{Stage, Profiles, Chunks, Plainly, Over as OverStage, Reaches}
use Rattle.journeys.specs.Journeys.{IsNestJourney, IsJourneyOf, entered_at, where_ended}
use Rattle.journeys.specs.Journeys.IsNestJourney.{not_entered, entered}
use Rattle.journeys.specs.Laws.{IsPlainMoment, MomentsArePlain, NestRunIsPlain, RunIsPlain}
use Rattle.journeys.proofs.MomentLaws.{Stands, Ended, Arrives, stands-start, arrives}
use Rattle.journeys.proofs.EnteringLaws.{entry-stops, entry-goes, Yields, stepped-goes, yields-bounds, never-over, same-err, same-ok, not-both}

-- ---- moments

pub no-turns : (loops : List Loop) (k : ℕ) (o : Outer) (s : Store) (left used : ℕ) → cut_of s left used Done ≡ cut (turns_trace plain k loops o 0 s) s left used
unfolding turns_trace
no-turns [] k o s left used = sym (cut-ends s left used)
no-turns (l ∷ ls) k o s left used = elim l.head as (λ (h : Head). cut_of s left used Done ≡ cut (turns_by h plain l.head (turn_trace plain 1 l (loops_trace plain k 2 ls)) o 0 s) s left used) [
  | For lower upper stride ↦ sym (cut-ends s left used)
  | While condition ↦ sym (cut-ends s left used)
]

starts : (g : Setting) (k t : ℕ) (e : Moment) → e.outer.next ≡ pos t → Stands g k e e
starts g k t e next = stands-start g k t e next (no-turns g.loops k e.outer e.store e.left e.used)

plain-moment : (g : Setting) (k : ℕ) (e m : Moment) (stage : Stage) → Arrives g k e stage m → IsPlainMoment g k e m
plain-moment g k e m Profiles s = record { turns = s.turns; finish = Done; cut = s.cut }
plain-moment g k e m (Chunks t number) s = record { turns = s.turns; finish = Done; cut = s.cut }
plain-moment g k e m (Plainly turns) s = record { turns = s.turns; finish = Done; cut = s.cut }
plain-moment g k e m (OverStage finish) s = record { turns = s.turns; finish = s.last; cut = s.cut }

pub moments-are-plain : MomentsArePlain
moments-are-plain g k o s left used t lines stage m few next r =
    let e = entered_at g o s left used in
    plain-moment g k e m stage (arrives g k t e next (omega (arith, few)) Profiles e lines stage m r (starts g k t e next))

-- ---- the run of a nest

-- turns that were not done are the end of more turns
extends : (g : Setting) (k t : ℕ) (e : Moment) (i c : ℕ) (run : Cut) → e.outer.next ≡ pos t → i ≤ c → run ≡ cut (plain_turns g k e i e.store) e.store e.left e.used → (run.ending ≡ Done → ⊥)
    → run ≡ cut (plain_turns g k e c e.store) e.store e.left e.used
extends g k t e i c run next few is other =
    let all : i + (c - i) ≡ c = omega (arith, few) in
    let go : Store → Trace = turns_trace plain k g.loops (turns_later e.outer i) (c - i) in
    sym (resumed-not run go other)
    ∙ ap (λ (r : Cut). resumed r go) is
    ∙ sym (cut-and_then (plain_turns g k e i e.store) go e.store e.left e.used)
    ∙ ap (λ (u : Trace). cut u e.store e.left e.used) (sym (turns_trace-split plain k g.loops e.outer t i (c - i) e.store next))
    ∙ ap (λ (n : ℕ). cut (plain_turns g k e n e.store) e.store e.left e.used) all

over-done-same : (f : Finish) → (f ≡ Halted Over → ⊥) → over_is_done f ≡ f
over-done-same Done other = refl
over-done-same (Halted (Trapped trap)) other = refl
over-done-same (Halted (Stopped access seen expected)) other = refl
over-done-same (Halted Over) other = absurd (other refl)
over-done-same Limited other = refl

-- done or not
done-or-not : (f : Finish) (A : Type 0) → (f ≡ Done → A) → ((f ≡ Done → ⊥) → A) → A
done-or-not Done A done other = done refl
done-or-not (Halted halt) A done other = other (λ is. cc)
done-or-not Limited A done other = other (λ is. cc)

some-same : (m n : ℕ) → Some m ≡ Some n → m ≡ n
some-same m n is = cc

-- all turns of a `for`, of which there are so many
for-all : (g : Setting) (k t trip : ℕ) (e m : Moment) (finish : Finish) → e.outer.next ≡ pos t → e.outer.left ≡ Some trip → (x : Ended g k e m finish)
    → cut_of m.store m.left m.used x.last ≡ cut (plain_turns g k e trip e.store) e.store e.left e.used
for-all g k t trip e m finish next left x = done-or-not x.last (cut_of m.store m.left m.used x.last ≡ cut (plain_turns g k e trip e.store) e.store e.left e.used)
    (λ done. let same : x.turns ≡ trip = some-same x.turns trip (sym (x.all done) ∙ left) in x.cut ∙ ap (λ (n : ℕ). cut (plain_turns g k e n e.store) e.store e.left e.used) same)
    (λ other.
    let within : x.turns ≤ trip = subst (λ (o : Option ℕ). IfSome o (λ n. x.turns ≤ n)) left x.upto in
    extends g k t e x.turns trip (cut_of m.store m.left m.used x.last) next within x.cut other)

entry-cons : (l : Loop) (ls : List Loop) (s : Store) (left : ℕ) → entry (l ∷ ls) s left ≡ entry_at l.head s left
unfolding entry
entry-cons l ls s left = refl

entry-none : (s : Store) (left : ℕ) → entry [] s left ≡ Err Done
unfolding entry
entry-none s left = refl

nest-as-loops : (k : ℕ) (loops : List Loop) (s : Store) → nest_trace k loops s ≡ loops_trace plain k 1 loops outside s
unfolding nest_trace
nest-as-loops k loops s = refl

nest-never-over : (k : ℕ) (loops : List Loop) (s : Store) (left used : ℕ) → (cut (nest_trace k loops s) s left used).ending ≡ Halted Over → ⊥
nest-never-over k loops s left used = never-over (nest_trace k loops s) s left used (subst (λ (t : Trace). GoesOn t.halt) (sym (nest-as-loops k loops s)) (loops_trace-goes plain k 1 loops outside s))

-- where a run's end was found, and how it finishes
abbrev end_at : Moment → Finish → Cut
end_at m finish = cut_of m.store m.left m.used finish

module _ (g : Setting) (k : ℕ) (l : Loop) (ls : List Loop) (s : Store) (left used : ℕ) (few : left < k) (loops : g.loops ≡ l ∷ ls) where
  -- the outermost loop is a `for`
  module _ (lower upper : Expr) (stride : ℤ) (head : l.head ≡ For lower upper stride) where
    for-base : cut (nest_trace k g.loops s) s left used ≡ cut (traced (headed (frame_of plain part.Head 1 outside) l.head (λ y. turns_trace plain k (l ∷ ls) (first_position y) (all_turns y) ∷ []) s) s) s left used
    for-base =
        ap (λ (t : Trace). cut t s left used) (nest-as-loops k g.loops s)
        ∙ ap (λ (ms : List Loop). cut (loops_trace plain k 1 ms outside s) s left used) loops
        ∙ ap (λ (t : Trace). cut t s left used) (for-is-its-turns plain k l ls lower upper stride s head)

    for-entry : entry g.loops s left ≡ entry_at (For lower upper stride) s left
    for-entry = ap (λ (ms : List Loop). entry ms s left) loops ∙ entry-cons l ls s left ∙ ap (λ (h : Head). entry_at h s left) head

    for-value : (head_of (frame_of plain part.Head 1 outside) l.head s).value ≡ (head_of (frame_of plain part.Head 1 outside) (For lower upper stride) s).value
    for-value = ap (λ (h : Head). (head_of (frame_of plain part.Head 1 outside) h s).value) head

    for-steps : entry_steps g.loops ≡ 1
    for-steps = ap entry_steps loops ∙ ap entry_steps_of head

    for-not_entered : (finish : Finish) → entry g.loops s left ≡ Err finish → cut_of s (left - entry_steps g.loops) (used + min (entry_steps g.loops) left) finish ≡ cut (nest_trace k g.loops s) s left used
    for-not_entered finish none =
        let f = frame_of plain part.Head 1 outside in
        let stops : entry_by (where_left left (head_of f l.head s).value) ≡ Err finish = ap (λ (r : Result Yield Halt). entry_by (where_left left r)) for-value ∙ sym for-entry ∙ none in
        ap (λ (n : ℕ). cut_of s (left - n) (used + min n left) finish) for-steps
        ∙ entry-stops (announced f s) (head_of f l.head s).seen (head_of f l.head s).value (λ y. turns_trace plain k (l ∷ ls) (first_position y) (all_turns y) ∷ []) s left used finish stops
        ∙ sym (cut-traced (headed f l.head (λ y. turns_trace plain k (l ∷ ls) (first_position y) (all_turns y) ∷ []) s) s left used)
        ∙ sym for-base

    for-entered : (o : Outer) (lines : List Line) (finish : Finish) (end : Moment) → entry g.loops s left ≡ Ok o → Reaches g Profiles (entered_at g o s left used) lines (OverStage finish) end
        → end_at end finish ≡ cut (nest_trace k g.loops s) s left used
    for-entered o lines finish end at r =
        let f = frame_of plain part.Head 1 outside in
        let e = entered_at g o s left used in
        let goes : Yields (head_of f l.head s).value o left = entry-goes (head_of f l.head s).value left o (ap (λ (v : Result Yield Halt). entry_by (where_left left v)) for-value ∙ sym for-entry ∙ at) in
        let b = yields-bounds f lower upper stride s goes.yield (sym for-value ∙ goes.is) in
        let placed : o ≡ first_position (Bounds b.0 b.1) = sym goes.at ∙ ap first_position b.2 in
        let next : o.next ≡ pos 0 = ap (λ (p : Outer). p.next) placed in
        let trips : o.left ≡ Some b.1 = ap (λ (p : Outer). p.left) placed in
        let x : Ended g k e end finish = arrives g k 0 e next (omega (arith, few)) Profiles e lines (OverStage finish) end r (starts g k 0 e next) in
        let all : end_at end x.last ≡ cut (plain_turns g k e b.1 e.store) e.store e.left e.used = for-all g k 0 b.1 e end finish next trips x in
        let whole : cut (nest_trace k g.loops s) s left used ≡ end_at end x.last =
        for-base
        ∙ cut-traced (headed f l.head (λ y. turns_trace plain k (l ∷ ls) (first_position y) (all_turns y) ∷ []) s) s left used
        ∙ stepped-goes (announced f s) (head_of f l.head s).seen (head_of f l.head s).value goes.yield (λ y. turns_trace plain k (l ∷ ls) (first_position y) (all_turns y) ∷ []) s left used goes.is goes.some
        ∙ cut-only (turns_trace plain k (l ∷ ls) (first_position goes.yield) (all_turns goes.yield)) s (left - 1) (used + min 1 left)
        ∙ ap (λ (ms : List Loop). cut (turns_trace plain k ms (first_position goes.yield) (all_turns goes.yield) s) s (left - 1) (used + min 1 left)) (sym loops)
        ∙ ap (λ (p : Outer). cut (turns_trace plain k g.loops p (all_turns goes.yield) s) s (left - 1) (used + min 1 left)) goes.at
        ∙ ap (λ (n : ℕ). cut (turns_trace plain k g.loops o n s) s (left - 1) (used + min 1 left)) (ap all_turns b.2)
        ∙ ap (λ (n : ℕ). cut (turns_trace plain k g.loops o b.1 s) s (left - n) (used + min n left)) (sym for-steps)
        ∙ sym all in
        let last : x.last ≡ finish = sym (over-done-same x.last (λ is. nest-never-over k g.loops s left used (ap (λ (run : Cut). run.ending) whole ∙ is))) ∙ x.is in
        ap (end_at end) (sym last) ∙ sym whole

  -- it is a `while`
  module _ (condition : Expr) (head : l.head ≡ While condition) where
    while-entry : entry g.loops s left ≡ Ok (first_position (Tested true))
    while-entry = ap (λ (ms : List Loop). entry ms s left) loops ∙ entry-cons l ls s left ∙ ap (λ (h : Head). entry_at h s left) head

    while-steps : entry_steps g.loops ≡ 0
    while-steps = ap entry_steps loops ∙ ap entry_steps_of head

    while-not_entered : (finish : Finish) → entry g.loops s left ≡ Err finish → ⊥
    while-not_entered finish none = not-both (entry g.loops s left) (first_position (Tested true)) finish while-entry none

    while-entered : (o : Outer) (lines : List Line) (finish : Finish) (end : Moment) → entry g.loops s left ≡ Ok o → Reaches g Profiles (entered_at g o s left used) lines (OverStage finish) end
        → end_at end finish ≡ cut (nest_trace k g.loops s) s left used
    while-entered o lines finish end at r =
        let e = entered_at g o s left used in
        let placed : first_position (Tested true) ≡ o = same-ok (entry g.loops s left) (first_position (Tested true)) o while-entry at in
        let next : o.next ≡ pos 0 = ap (λ (p : Outer). p.next) (sym placed) in
        let endless : o.left ≡ None = ap (λ (p : Outer). p.left) (sym placed) in
        let x : Ended g k e end finish = arrives g k 0 e next (omega (arith, few)) Profiles e lines (OverStage finish) end r (starts g k 0 e next) in
        let other : x.last ≡ Done → ⊥ = λ done. none-some x.turns (sym endless ∙ x.all done) in
        let turns = x.turns + (left + 1) in
        let more : end_at end x.last ≡ cut (plain_turns g k e turns s) s e.left e.used = extends g k 0 e x.turns turns (end_at end x.last) next (omega arith) x.cut other in
        let many : left < turns = omega arith in
        let left-same : left - 0 ≡ left = omega arith in
        let used-same : used + min 0 left ≡ used = omega arith in
        let run : end_at end x.last ≡ cut (turns_trace plain k (l ∷ ls) (first_position (Tested true)) turns s) s left used =
        more
        ∙ ap (λ (n : ℕ). cut (turns_trace plain k g.loops o turns s) s (left - n) (used + min n left)) while-steps
        ∙ ap (λ (n : ℕ). cut (turns_trace plain k g.loops o turns s) s n (used + min 0 left)) left-same
        ∙ ap (λ (n : ℕ). cut (turns_trace plain k g.loops o turns s) s left n) used-same
        ∙ ap (λ (p : Outer). cut (turns_trace plain k g.loops p turns s) s left used) (sym placed)
        ∙ ap (λ (ms : List Loop). cut (turns_trace plain k ms (first_position (Tested true)) turns s) s left used) loops in
        ap (end_at end) (sym x.is)
        ∙ ap (λ (c : Cut). record c { ending = over_is_done c.ending }) run
        ∙ sym (while-is-its-turns plain k l ls condition turns s left used head few many).0
        ∙ ap (λ (ms : List Loop). cut (loops_trace plain k 1 ms outside s) s left used) (sym loops)
        ∙ ap (λ (t : Trace). cut t s left used) (sym (nest-as-loops k g.loops s))

nest-by-head : (g : Setting) (k : ℕ) (l : Loop) (ls : List Loop) (s : Store) (left used : ℕ) (lines : List Line) (end : Cut) → left < k → g.loops ≡ l ∷ ls → (h : Head) → l.head ≡ h
    → IsNestJourney g s left used lines end → end ≡ cut (nest_trace k g.loops s) s left used
nest-by-head g k l ls s left used lines end few loops (For lower upper stride) head (not_entered finish none) = for-not_entered g k l ls s left used few loops lower upper stride head finish none
nest-by-head g k l ls s left used lines end few loops (For lower upper stride) head (entered o told finish m at r) = for-entered g k l ls s left used few loops lower upper stride head o told finish m at r
nest-by-head g k l ls s left used lines end few loops (While condition) head (not_entered finish none) = absurd (while-not_entered g k l ls s left used few loops condition head finish none)
nest-by-head g k l ls s left used lines end few loops (While condition) head (entered o told finish m at r) = while-entered g k l ls s left used few loops condition head o told finish m at r

nest-by-loops : (g : Setting) (k : ℕ) (s : Store) (left used : ℕ) (lines : List Line) (end : Cut) → left < k → (loops : List Loop) → g.loops ≡ loops → IsNestJourney g s left used lines end
    → end ≡ cut (nest_trace k g.loops s) s left used
nest-by-loops g k s left used lines end few (l ∷ ls) is j = nest-by-head g k l ls s left used lines end few is l.head refl j
nest-by-loops g k s left used lines end few [] is (not_entered finish none) =
    let done : Done ≡ finish = same-err (entry g.loops s left) Done finish (ap (λ (ms : List Loop). entry ms s left) is ∙ entry-none s left) none in
    let left-same : left - 0 ≡ left = omega arith in
    let used-same : used + min 0 left ≡ used = omega arith in
    ap (λ (n : ℕ). cut_of s (left - n) (used + min n left) finish) (ap entry_steps is)
    ∙ ap (λ (n : ℕ). cut_of s n (used + min 0 left) finish) left-same
    ∙ ap (λ (n : ℕ). cut_of s left n finish) used-same
    ∙ ap (cut_of s left used) (sym done)
    ∙ sym (cut-ends s left used)
    ∙ ap (λ (ms : List Loop). cut (loops_trace plain k 1 ms outside s) s left used) (sym is)
    ∙ ap (λ (t : Trace). cut t s left used) (sym (nest-as-loops k g.loops s))
nest-by-loops g k s left used lines end few [] is (entered o told finish m at r) =
    absurd (not-both (entry g.loops s left) o Done at (ap (λ (ms : List Loop). entry ms s left) is ∙ entry-none s left))

pub nest_run-is-plain : NestRunIsPlain
nest_run-is-plain g k s left used lines end few j = nest-by-loops g k s left used lines end few g.loops refl j

-- ---- the run of a file

module _ (options : Options) (version : Version) (scalars k : ℕ) where
  abbrev nests-of : List NestUnit → List Nest
  nests-of units = map (λ (u : NestUnit). u.nest) units

  -- a nest's run, and then the run of those after it, where it ended
  then-run : (unit : NestUnit) (units : List NestUnit) (number : ℕ) (s : Store) (left used : ℕ) (end : Cut) (rest : List Line) (here : Cut) → left < k
      → here ≡ cut (nest_trace k unit.nest.loops s) s left used
      → (here.left ≤ left → IsJourneyOf options version scalars units (suc number) here.store here.left here.used rest end → end ≡ rest_of_run k (nests-of units) here.store here.left here.used)
      → where_ended here.ending (IsJourneyOf options version scalars units (suc number) here.store here.left here.used rest end) ((rest ≡ []) × (end ≡ here))
      → end ≡ rest_of_run k (unit.nest ∷ nests-of units) s left used
  then-run unit units number s left used end rest here few ran more goes = by-ending here.ending refl goes
    where
      less : here.left ≤ left
      less = let same = ap (λ (run : Cut). run.left) ran in let most = cut-left (nest_trace k unit.nest.loops s) s left used in omega (arith, same, most)

      out : (f : Finish) → here.ending ≡ f → (f ≡ Done → ⊥) → end ≡ here → end ≡ rest_of_run k (unit.nest ∷ nests-of units) s left used
      out f at other stays = stays ∙ rest-of-run-out k unit.nest (nests-of units) s here.store left used here.left here.used here.ending (λ done. other (sym at ∙ done)) ran

      by-ending : (f : Finish) → here.ending ≡ f
          → where_ended f (IsJourneyOf options version scalars units (suc number) here.store here.left here.used rest end) ((rest ≡ []) × (end ≡ here))
          → end ≡ rest_of_run k (unit.nest ∷ nests-of units) s left used
      by-ending Done at follows = more less follows ∙ rest-of-run-next k unit.nest (nests-of units) s here.store left used here.left here.used (ap (cut_of here.store here.left here.used) (sym at) ∙ ran)
      by-ending (Halted halt) at stays = out (Halted halt) at (λ done. cc) stays.1
      by-ending Limited at stays = out Limited at (λ done. cc) stays.1

  file-run : (units : List NestUnit) (number : ℕ) (s : Store) (left used : ℕ) (lines : List Line) (end : Cut) → left < k
      → IsJourneyOf options version scalars units number s left used lines end → end ≡ rest_of_run k (nests-of units) s left used
  unfolding rest_of_run
  file-run [] number s left used lines end few is = is.1 ∙ rest-of-run-end k s left used
  file-run (unit ∷ units) number s left used lines end few is =
      then-run unit units number s left used end is.1 is.2 few (nest_run-is-plain (setting_of options scalars unit) k s left used is.0 is.2 few is.3)
      (λ less follows. file-run units (suc number) is.2.store is.2.left is.2.used is.1 end (omega (arith, few, less)) follows) is.4

pub run-is-plain : RunIsPlain
run-is-plain options file lines end is =
    ap run_of (file-run options file.version (length file.scalars) (options.steps + 1) file.units 1 (first_store file) options.steps 0 lines end (omega arith) is)
    ∙ plain_run-rest (nests_of file) (first_store file) options.steps
