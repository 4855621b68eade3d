-- Each turn takes a step.
use Rattle.std.proofs.Common.{◌≡◌, refl, ap, ◌∙◌, sym, ℕ, zero, suc, ◌+◌, ◌<◌, ◌≤◌, pos, unsigned_abs, List, [], ◌∷◌, length, true, false, Option, Some, None, Result, Ok, Err, arith}
use Rattle.std.proofs.lemmas.Bool.{and_parts}
use Rattle.nest_lang.specs.declared.tree.Head.{Head}
use Rattle.nest_lang.specs.declared.tree.Head.TheVariants.{For, While}
use Rattle.nest_lang.specs.declared.tree.Loop.{Loop}
use Rattle.nest_lang.specs.declared.tree.Part.TheVariants as part
use Rattle.nest_lang.specs.declared.tree.Stmt.{Stmt}
use Rattle.nest_lang.specs.declared.state.Outer.{Outer}
use Rattle.nest_lang.specs.Values.{turn_value}
use Rattle.nest_lang.specs.Stores.{Store, effect_on}
use Rattle.nest_lang.specs.Lookups.{plain}
use Rattle.nest_lang.specs.Traces.{Observation, Halt, Over, Trace, Transition, in_turn, traced, Finish, Done, Halted, Limited, Cut, cut}
use Rattle.nest_lang.specs.Expressions.{Frame}
use Rattle.nest_lang.specs.Statements.{announced, instance_trace}
use Rattle.nest_lang.specs.Heads.{Yield, Bounds, Tested, head_of, head_step, headed}
use Rattle.nest_lang.specs.Loops.{Around, inward, outside, frame_of, turn_trace, turn_if, turns_of, whiles_from, loop_by, loops_trace}
use Rattle.nest_lang.specs.Turns.{over, counted_turns, tested_turns, turn_or_over, turns_by, turns_trace, number_left}
use Rattle.nest_lang.specs.Rules.{loops_keep, loop_keeps, has_statements, strides}
use Rattle.nest_lang.proofs.CutLaws.{cut-end, cut-ends, cut-traced, cut-and_then, cut-turn, cut-only, cut-left, resumed, resumed_at, resumed-not, stepped, goes_on}
use Rattle.block_exec.specs.Moments.{moment, Ran}
use Rattle.block_exec.specs.Watches.{Chain}
use Rattle.plain_interp.proofs.BlockLaws.{instance-steps}
use Rattle.plain_interp.proofs.NestLaws.{loops_keep-inner, loops_keep-some}

-- what is done took at least one step
abbrev Falls : (Store → Trace) → Type 0
Falls f = (s : Store) (left used : ℕ) → (cut (f s) s left used).ending ≡ Done → (cut (f s) s left used).left < left

-- two parts are done where each is
record Parts (first : Cut) (go : Store → Trace) : Type 0 where
  done : first.ending ≡ Done
  rest : resumed first go ≡ cut (go first.store) first.store first.left first.used

parts : (first : Cut) (go : Store → Trace) → (resumed first go).ending ≡ Done → Parts first go
parts first go done = by first.ending refl
  where
    by : (f : Finish) → first.ending ≡ f → Parts first go
    by Done at = record { done = at; rest = ap (λ (x : Finish). resumed_at x first.store first.left first.used go) at }
    by (Halted halt) at =
        let stays : resumed first go ≡ first = resumed-not first go (λ is. let bad = sym at ∙ is in cc) in
        let bad : Halted halt ≡ Done = sym at ∙ ap (λ (c : Cut). c.ending) (sym stays) ∙ done in absurd (cc)
    by Limited at =
        let stays : resumed first go ≡ first = resumed-not first go (λ is. let bad = sym at ∙ is in cc) in
        let bad : Limited ≡ Done = sym at ∙ ap (λ (c : Cut). c.ending) (sym stays) ∙ done in absurd (cc)

-- the first part falls, or the rest does
first-falls : (f : Store → Trace) (fs : List (Store → Trace)) → Falls f → Falls (in_turn (f ∷ fs))
first-falls f fs falls s left used done =
    let first = cut (f s) s left used in
    let p = parts first (in_turn fs) (ap (λ (c : Cut). c.ending) (sym (cut-turn f fs s left used)) ∙ done) in
    let fewer : first.left < left = falls s left used p.done in
    let rest = ap (λ (c : Cut). c.left) (cut-turn f fs s left used ∙ p.rest) in
    let most = cut-left (in_turn fs first.store) first.store first.left first.used in
    omega (arith, fewer, rest, most)

rest-falls : (f : Store → Trace) (fs : List (Store → Trace)) → Falls (in_turn fs) → Falls (in_turn (f ∷ fs))
rest-falls f fs falls s left used done =
    let first = cut (f s) s left used in
    let p = parts first (in_turn fs) (ap (λ (c : Cut). c.ending) (sym (cut-turn f fs s left used)) ∙ done) in
    let all = cut-turn f fs s left used ∙ p.rest in
    let fewer : (cut (in_turn fs first.store) first.store first.left first.used).left < first.left = falls first.store first.left first.used (ap (λ (c : Cut). c.ending) (sym all) ∙ done) in
    let rest = ap (λ (c : Cut). c.left) all in
    let most = cut-left (f s) s left used in
    omega (arith, fewer, rest, most)

goes_on-left : (h : Option Halt) (more : Trace) (s : Store) (left used : ℕ) → (goes_on h more s left used).left ≤ left
goes_on-left (Some halt) more s left used = omega arith
goes_on-left None more s left used = cut-left more s left used

stepped-falls : (st : Transition) (s : Store) (left used : ℕ) → (stepped st s left used).ending ≡ Done → (stepped st s left used).left < left
stepped-falls st s zero used done = let bad : Limited ≡ Done = done in absurd (cc)
stepped-falls st s (suc n) used done =
    let most = goes_on-left st.halt (in_turn st.rest (effect_on s st.entry.effect)) (effect_on s st.entry.effect) n (used + 1) in omega (arith, most)

traced-falls : (st : Store → Transition) → Falls (λ s. traced (st s) s)
traced-falls st s left used done =
    let all = cut-traced (st s) s left used in
    let falls = stepped-falls (st s) s left used (ap (λ (c : Cut). c.ending) (sym all) ∙ done) in
    let same = ap (λ (c : Cut). c.left) all in
    omega (arith, falls, same)

-- an instance of a block with statements
Any : Unit {0} → Observation → Unit {0} → Type 0
Any old shown new = Unit {0}

chain-any : (os : List Observation) → Chain Any tt os tt
unfolding Any
chain-any [] = refl
chain-any (o ∷ os) = (tt, tt, chain-any os)

instance-falls : (f : Frame) (block : List Stmt) → 0 < length block → Falls (instance_trace f block)
instance-falls f block some s left used done =
    let run = cut (instance_trace f block s) s left used in
    let ran : Ran Any (instance_trace f block) (moment s left used tt) (moment run.store run.left run.used tt) run.ending = record { cut = refl; shown = chain-any _ } in
    instance-steps Any f block (moment s left used tt) (moment run.store run.left run.used tt) run.ending ran some done

-- a loop takes the step of its head
loop-falls : (h : Head) (k level : ℕ) (head : Head) (turn : Around → Store → Trace) (a : Around) → 0 < k → Falls (loop_by h plain k level head turn a)
loop-falls (For lower upper stride) k level head turn a some = traced-falls (λ s. headed (frame_of plain part.Head level a) head (turns_of (λ from t. turn (inward a t (turn_value from stride t)))) s)
loop-falls (While condition) zero level head turn a some = absurd (omega (arith, some))
loop-falls (While condition) (suc n) level head turn a some =
    traced-falls (λ s. headed (frame_of plain part.Head level (inward a 0 (pos 0))) head (turn_if (turn (inward a 0 (pos 0))) (whiles_from n (0 + 1) (λ t. frame_of plain part.Head level (inward a t (pos t))) head (λ t. turn (inward a t (pos t))))) s)

some-statements : (ss : List Stmt) → has_statements ss ≡ true → 0 < length ss
some-statements [] is = absurd (cc)
some-statements (s ∷ ss) is = omega arith

-- a turn takes a step
turn-falls : (k : ℕ) (l : Loop) (ls : List Loop) (a : Around) → 0 < k → loop_keeps l ls ≡ true → Falls (turn_trace plain 1 l (loops_trace plain k 2 ls) a)
unfolding turn_trace
turn-falls k l [] a some keeps =
    first-falls (instance_trace (frame_of plain part.Pre 1 a) l.pre) (loops_trace plain k 2 [] a ∷ instance_trace (frame_of plain part.Post 1 a) l.post ∷ [])
    (instance-falls (frame_of plain part.Pre 1 a) l.pre (some-statements l.pre (and_parts (strides l.head) (has_statements l.pre) keeps).1))
turn-falls k l (m ∷ ms) a some keeps =
    rest-falls (instance_trace (frame_of plain part.Pre 1 a) l.pre) (loops_trace plain k 2 (m ∷ ms) a ∷ instance_trace (frame_of plain part.Post 1 a) l.post ∷ [])
    (first-falls (loops_trace plain k 2 (m ∷ ms) a) (instance_trace (frame_of plain part.Post 1 a) l.post ∷ [])
    (loop-falls m.head k 2 m.head (turn_trace plain 2 m (loops_trace plain k 3 ms)) a some))

-- ---- some turns

counted-falls : (c n t : ℕ) (turn : ℕ → Store → Trace) → ((i : ℕ) → Falls (turn i)) → (s : Store) (left used : ℕ)
    → (cut (counted_turns c n t turn s) s left used).ending ≡ Done → c + (cut (counted_turns c n t turn s) s left used).left ≤ left
counted-falls zero n t turn each s left used done = let same = ap (λ (run : Cut). run.left) (cut-ends s left used) in omega (arith, same)
counted-falls (suc c) zero t turn each s left used done =
    let bad : Halted Over ≡ Done = sym (ap (λ (run : Cut). run.ending) (cut-end (Some Over) s left used)) ∙ done in absurd (cc)
counted-falls (suc c) (suc n) t turn each s left used done =
    let first = cut (turn t s) s left used in
    let more = counted_turns c n (t + 1) turn in
    let p = parts first more (ap (λ (run : Cut). run.ending) (sym (cut-and_then (turn t s) more s left used)) ∙ done) in
    let all = cut-and_then (turn t s) more s left used ∙ p.rest in
    let fewer : first.left < left = each t s left used p.done in
    let rest = counted-falls c n (t + 1) turn each first.store first.left first.used (ap (λ (run : Cut). run.ending) (sym all) ∙ done) in
    let same = ap (λ (run : Cut). run.left) all in
    omega (arith, fewer, rest, same)

-- one turn of a `while` and then more, by what its condition gives
tested-by : (c : ℕ) (turn more : Store → Trace) → Falls turn → ((s : Store) (left used : ℕ) → (cut (more s) s left used).ending ≡ Done → c + (cut (more s) s left used).left ≤ left)
    → (before seen : List Observation) (value : Result Yield Halt) (s : Store) (left used : ℕ)
    → (stepped (head_step before seen value (turn_or_over turn more)) s left used).ending ≡ Done → suc c + (stepped (head_step before seen value (turn_or_over turn more)) s left used).left ≤ left
tested-by c turn more falls rest before seen (Err halt) s zero used done = let bad : Limited ≡ Done = done in absurd (cc)
tested-by c turn more falls rest before seen (Ok yield) s zero used done = let bad : Limited ≡ Done = done in absurd (cc)
tested-by c turn more falls rest before seen (Err halt) s (suc n) used done = let bad : Halted halt ≡ Done = done in absurd (cc)
tested-by c turn more falls rest before seen (Ok (Bounds lower trip)) s (suc n) used done =
    let bad : Halted Over ≡ Done = sym (ap (λ (run : Cut). run.ending) (cut-only (λ u. over) s n (used + 1) ∙ cut-end (Some Over) s n (used + 1))) ∙ done in absurd (cc)
tested-by c turn more falls rest before seen (Ok (Tested false)) s (suc n) used done =
    let bad : Halted Over ≡ Done = sym (ap (λ (run : Cut). run.ending) (cut-only (λ u. over) s n (used + 1) ∙ cut-end (Some Over) s n (used + 1))) ∙ done in absurd (cc)
tested-by c turn more falls rest before seen (Ok (Tested true)) s (suc n) used done =
    let first = cut (turn s) s n (used + 1) in
    let p = parts first (in_turn (more ∷ [])) (ap (λ (run : Cut). run.ending) (sym (cut-turn turn (more ∷ []) s n (used + 1))) ∙ done) in
    let all = cut-turn turn (more ∷ []) s n (used + 1) ∙ p.rest ∙ cut-only more first.store first.left first.used in
    let fewer : first.left < n = falls s n (used + 1) p.done in
    let others = rest first.store first.left first.used (ap (λ (run : Cut). run.ending) (sym all) ∙ done) in
    let same = ap (λ (run : Cut). run.left) all in
    omega (arith, fewer, others, same)

tested-falls : (c t : ℕ) (frame : ℕ → Frame) (head : Head) (turn : ℕ → Store → Trace) → ((i : ℕ) → Falls (turn i)) → (s : Store) (left used : ℕ)
    → (cut (tested_turns c t frame head turn s) s left used).ending ≡ Done → c + (cut (tested_turns c t frame head turn s) s left used).left ≤ left
tested-falls zero t frame head turn each s left used done = let same = ap (λ (run : Cut). run.left) (cut-ends s left used) in omega (arith, same)
tested-falls (suc c) t frame head turn each s left used done =
    let more = tested_turns c (t + 1) frame head turn in
    let st = headed (frame t) head (turn_or_over (turn t) more) s in
    let all = cut-traced st s left used in
    let falls = tested-by c (turn t) more (each t) (tested-falls c (t + 1) frame head turn each) (announced (frame t) s) (head_of (frame t) head s).seen (head_of (frame t) head s).value s left used (ap (λ (run : Cut). run.ending) (sym all) ∙ done) in
    let same = ap (λ (run : Cut). run.left) all in
    omega (arith, falls, same)

-- c turns that are done take at least c steps
pub turns-take-steps : (loops : List Loop) (k c : ℕ) (o : Outer) (s : Store) (left used : ℕ) → loops_keep loops ≡ true → 0 < k
    → (cut (turns_trace plain k loops o c s) s left used).ending ≡ Done → c + (cut (turns_trace plain k loops o c s) s left used).left ≤ left
unfolding turns_trace
turns-take-steps [] k c o s left used keeps some done = absurd (loops_keep-some [] refl keeps)
turns-take-steps (l ∷ ls) k c o s left used keeps some done = by l.head done
  where
    each : (a : Around) → Falls (turn_trace plain 1 l (loops_trace plain k 2 ls) a)
    each a = turn-falls k l ls a some (loops_keep-inner (l ∷ ls) l ls refl keeps)

    by : (h : Head) → (cut (turns_by h plain l.head (turn_trace plain 1 l (loops_trace plain k 2 ls)) o c s) s left used).ending ≡ Done
        → c + (cut (turns_by h plain l.head (turn_trace plain 1 l (loops_trace plain k 2 ls)) o c s) s left used).left ≤ left
    by (For lower upper stride) is = counted-falls c (number_left o.left) (unsigned_abs o.next) (λ t. turn_trace plain 1 l (loops_trace plain k 2 ls) (inward outside t (turn_value o.lower stride t))) (λ i. each (inward outside i (turn_value o.lower stride i))) s left used is
    by (While condition) is = tested-falls c (unsigned_abs o.next) (λ t. frame_of plain part.Head 1 (inward outside t (pos t))) l.head (λ t. turn_trace plain 1 l (loops_trace plain k 2 ls) (inward outside t (pos t))) (λ i. each (inward outside i (pos i))) s left used is
