-- A nest whose outermost loop is a `while`, beside its turns.
use Rattle.std.proofs.Common.{◌≡◌, refl, ap, ◌∙◌, sym, ℕ, pos, zero, suc, ◌+◌, ◌-◌, ◌≤◌, min, nat_le, inl, Bool, true, false, List, [], ◌∷◌, length, take, Option, Some, None, Result, Ok, Err, arith}
use Rattle.std.specs.Prelude.{if◌then◌else◌}
use Rattle.nest_lang.specs.declared.tree.Expr.{Expr}
use Rattle.nest_lang.specs.declared.tree.Head.{Head}
use Rattle.nest_lang.specs.declared.tree.Head.TheVariants.{While}
use Rattle.nest_lang.specs.declared.tree.Part.TheVariants as part
use Rattle.nest_lang.specs.Stores.{Store, Nothing}
use Rattle.nest_lang.specs.Lookups.{Expectation}
use Rattle.nest_lang.specs.Traces.{Observation, Entry, Halt, Trapped, Stopped, Over, Trace, joined, and_then, in_turn, traced, after_all, Finish, Limited, finish_of, Cut, cut_of, cut, seen_in}
use Rattle.nest_lang.specs.Expressions.{Frame}
use Rattle.nest_lang.specs.Statements.{announced}
use Rattle.nest_lang.specs.Heads.{Yield, Bounds, Tested, head_of, head_step}
use Rattle.nest_lang.specs.Loops.{Around, inward, outside, frame_of, turn_trace, turn_if, whiles_from, loop_by, loops_trace}
use Rattle.nest_lang.specs.Turns.{turn_or_over, tested_turns, turns_by, turns_trace, first_position}
use Rattle.nest_lang.specs.TurnLaws.{WhileIsItsTurns, over_is_done}
use Rattle.nest_lang.proofs.AgreementLaws.{Alike, AlikeOn, alike-zero, alike-two, alike-headed, cut-alike, seen-alike}
use Rattle.nest_lang.proofs.NeverOver.{GoesOn, FailsElse, head-else, turn_trace-goes, loops_trace-goes}
use Rattle.nest_lang.proofs.TraceLaws.{and_then-same, and_then-ends}

-- a trace, where the end of the outermost loop is no halt
abbrev pub halts_else : Option Halt → Option Halt
halts_else (Some Over) = None
halts_else halt = halt

abbrev pub without_over : Trace → Trace
without_over t = record t { halt = halts_else t.halt }

-- the same, where what goes before doesn't end the outermost loop
joined-without : (halt : Option Halt) (es : List Entry) (t : Trace) → GoesOn halt → without_over (joined halt es t) ≡ joined halt es (without_over t)
joined-without None es t h = refl
joined-without (Some (Trapped trap)) es t h = refl
joined-without (Some (Stopped access seen expected)) es t h = refl
joined-without (Some Over) es t h = absurd h

and_then-without : (s : Store) (t : Trace) (f g : Store → Trace) → GoesOn t.halt → ((u : Store) → g u ≡ without_over (f u)) → and_then s t g ≡ without_over (and_then s t f)
and_then-without s t f g h each = and_then-same s t g (λ u. without_over (f u)) each ∙ sym (joined-without t.halt t.entries (f (after_all s t.entries)) h)

-- the step of a condition, and what follows
head_step-without : (before seen : List Observation) (r : Result Yield Halt) (turn more rest : Store → Trace) (s : Store) → FailsElse r → ((u : Store) → GoesOn (turn u).halt) → ((u : Store) → more u ≡ without_over (rest u))
    → traced (head_step before seen r (turn_if turn more)) s ≡ without_over (traced (head_step before seen r (turn_or_over turn rest)) s)
head_step-without before seen (Err (Trapped trap)) turn more rest s h goes each = refl
head_step-without before seen (Err (Stopped access address expected)) turn more rest s h goes each = refl
head_step-without before seen (Err Over) turn more rest s h goes each = absurd h
head_step-without before seen (Ok (Bounds lower trip)) turn more rest s h goes each = refl
head_step-without before seen (Ok (Tested false)) turn more rest s h goes each = refl
head_step-without before seen (Ok (Tested true)) turn more rest s h goes each =
    ap (λ (t : Trace). joined None (record { before = before; seen = seen; effect = Nothing } ∷ []) t)
    (and_then-without s (turn s) (in_turn (rest ∷ [])) (in_turn (more ∷ [])) (goes s)
    (λ u. and_then-ends u (more u) ∙ each u ∙ sym (ap without_over (and_then-ends u (rest u)))))

tested-without : (n t : ℕ) (frame : ℕ → Frame) (head : Head) (turn : ℕ → Store → Trace) (s : Store) → ((i : ℕ) (u : Store) → GoesOn (turn i u).halt)
    → whiles_from n t frame head turn s ≡ without_over (tested_turns n t frame head turn s)
tested-without zero t frame head turn s goes = refl
tested-without (suc n) t frame head turn s goes =
    head_step-without (announced (frame t) s) (head_of (frame t) head s).seen (head_of (frame t) head s).value (turn t) (whiles_from n (t + 1) frame head turn) (tested_turns n (t + 1) frame head turn) s
    (head-else (frame t) head s) (goes t) (λ u. tested-without n (t + 1) frame head turn u goes)

-- turns past the steps that are left aren't seen
alike-turn_or_over : (m : ℕ) (turn more rest : Store → Trace) → AlikeOn m more rest → (y : Yield) → AlikeOn m (in_turn (turn_or_over turn more y)) (in_turn (turn_or_over turn rest y))
alike-turn_or_over m turn more rest a (Bounds lower trip) s = inl refl
alike-turn_or_over m turn more rest a (Tested true) s = alike-two m turn turn more rest (λ u. inl refl) a s
alike-turn_or_over m turn more rest a (Tested false) s = inl refl

alike-tested : (m k j t : ℕ) (frame : ℕ → Frame) (head : Head) (turn : ℕ → Store → Trace) → m ≤ k → m ≤ j → AlikeOn m (tested_turns k t frame head turn) (tested_turns j t frame head turn)
alike-tested zero k j t frame head turn h i s = alike-zero _ _
alike-tested (suc m) zero j t frame head turn h i s = absurd (omega (arith, h))
alike-tested (suc m) (suc k) zero t frame head turn h i s = absurd (omega (arith, i))
alike-tested (suc m) (suc k) (suc j) t frame head turn h i s =
    alike-headed m (frame t) head _ _ s (alike-turn_or_over m (turn t) (tested_turns k (t + 1) frame head turn) (tested_turns j (t + 1) frame head turn) (alike-tested m k j (t + 1) frame head turn (omega (arith, h)) (omega (arith, i))))

-- a cut of it
over-done : (halt : Option Halt) → finish_of (halts_else halt) ≡ over_is_done (finish_of halt)
over-done None = refl
over-done (Some (Trapped trap)) = refl
over-done (Some (Stopped access seen expected)) = refl
over-done (Some Over) = refl

cut-without : (t : Trace) (s : Store) (left used : ℕ) → cut (without_over t) s left used ≡ record (cut t s left used) { ending = over_is_done (cut t s left used).ending }
unfolding cut
cut-without t s left used =
    ap (λ (e : Finish). cut_of (after_all s (take left t.entries)) (left - length t.entries) (used + min left (length t.entries)) e) (by (nat_le (length t.entries) left))
  where
    by : (b : Bool) → (if b then finish_of (halts_else t.halt) else Limited) ≡ over_is_done (if b then finish_of t.halt else Limited)
    by true = over-done t.halt
    by false = refl

seen-without : (t : Trace) (left : ℕ) → seen_in (without_over t) left ≡ seen_in t left
unfolding seen_in
seen-without t left = refl

module _ (x : Expectation) (k : ℕ) (head : Head) (turn : Around → Store → Trace) (goes : (a : Around) (u : Store) → GoesOn (turn a u).halt) where
  loop_by-while : (h : Head) (condition : Expr) (s : Store) → h ≡ While condition → loop_by h x k 1 head turn outside s ≡ without_over (turns_by h x head turn (first_position (Tested true)) k s)
  loop_by-while h condition s e = rw e (tested-without k 0 (λ i. frame_of x part.Head 1 (inward outside i (pos i))) head (λ i. turn (inward outside i (pos i))) s (λ i u. goes (inward outside i (pos i)) u))

  alike-turns_by : (h : Head) (condition : Expr) (m c : ℕ) → h ≡ While condition → m ≤ k → m ≤ c → AlikeOn m (turns_by h x head turn (first_position (Tested true)) k) (turns_by h x head turn (first_position (Tested true)) c)
  alike-turns_by h condition m c e few less s =
      rw e (alike-tested m k c 0 (λ i. frame_of x part.Head 1 (inward outside i (pos i))) head (λ i. turn (inward outside i (pos i))) few less s)

pub while-is-its-turns : WhileIsItsTurns
unfolding turns_trace
while-is-its-turns x k l ls condition c s left used is few less =
    let turn : Around → Store → Trace = turn_trace x 1 l (loops_trace x k 2 ls) in
    let goes : (a : Around) (u : Store) → GoesOn (turn a u).halt = turn_trace-goes x 1 l (loops_trace x k 2 ls) (loops_trace-goes x k 2 ls) in
    let start = first_position (Tested true) in
    let loop : loops_trace x k 1 (l ∷ ls) outside s ≡ without_over (turns_by l.head x l.head turn start k s) = loop_by-while x k l.head turn goes l.head condition s is in
    let alike : Alike (left + 1) (turns_by l.head x l.head turn start k s) (turns_by l.head x l.head turn start c s) = alike-turns_by x k l.head turn goes l.head condition (left + 1) c is (omega (arith, few)) (omega (arith, less)) s in (
      ap (λ (t : Trace). cut t s left used) loop
          ∙ cut-without (turns_by l.head x l.head turn start k s) s left used
          ∙ ap (λ (run : Cut). record run { ending = over_is_done run.ending }) (cut-alike (turns_by l.head x l.head turn start k s) (turns_by l.head x l.head turn start c s) s left used alike),
      ap (λ (t : Trace). seen_in t left) loop
          ∙ seen-without (turns_by l.head x l.head turn start k s) left
          ∙ seen-alike (turns_by l.head x l.head turn start k s) (turns_by l.head x l.head turn start c s) left alike,
    )
