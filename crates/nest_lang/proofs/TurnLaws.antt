-- Turns of an outermost loop.
use Rattle.std.proofs.Common.{◌≡◌, refl, ap, ◌∙◌, sym, ℕ, ℤ, pos, ◌+ℤ◌, unsigned_abs, zero, suc, ◌+◌, ◌-◌, true, false, List, [], ◌∷◌, Option, Some, None, Result, Ok, Err, arith}
use Rattle.nest_lang.specs.declared.tree.Expr.{Expr}
use Rattle.nest_lang.specs.declared.tree.Head.{Head}
use Rattle.nest_lang.specs.declared.tree.Head.TheVariants.{For, While}
use Rattle.nest_lang.specs.declared.tree.Loop.{Loop}
use Rattle.nest_lang.specs.declared.tree.Part.TheVariants as part
use Rattle.nest_lang.specs.declared.state.Outer.{Outer}
use Rattle.nest_lang.specs.Values.{turn_value}
use Rattle.nest_lang.specs.Stores.{Store, Nothing}
use Rattle.nest_lang.specs.Lookups.{Expectation}
use Rattle.nest_lang.specs.Traces.{Observation, Entry, Halt, Trace, joined, and_then, in_turn, traced, cut, seen_in}
use Rattle.nest_lang.specs.Expressions.{Frame}
use Rattle.nest_lang.specs.Statements.{announced}
use Rattle.nest_lang.specs.Heads.{Yield, Bounds, Tested, head_of, head_step, headed}
use Rattle.nest_lang.specs.Loops.{Around, inward, outside, frame_of, turn_trace, turns_from, turns_of, loop_by, loops_trace}
use Rattle.nest_lang.specs.Turns.{counted_turns, turn_or_over, tested_turns, number_left, turns_by, turns_trace, left_after, turns_later, first_position}
use Rattle.nest_lang.specs.TurnLaws.{TurnsJoin, FewerTurnsBegin, ForIsItsTurns, all_turns}
use Rattle.nest_lang.proofs.CutLaws.{rest_seen, seen-and_then}
use Rattle.nest_lang.proofs.TraceLaws.{and_then-and_then, and_then-same, and_then-ends}

-- turns, and then more of them
counted-split : (c d n t : ℕ) (turn : ℕ → Store → Trace) (s : Store) → counted_turns (c + d) n t turn s ≡ and_then s (counted_turns c n t turn s) (counted_turns d (n - c) (t + c) turn)
counted-split zero d n t turn s =
    let a : 0 + d ≡ d = omega arith in
    let b : n - 0 ≡ n = omega arith in
    let e : t + 0 ≡ t = omega arith in
    rw (a, b, e) refl
counted-split (suc c) d zero t turn s =
    let a : suc c + d ≡ suc (c + d) = omega arith in
    rw a refl
counted-split (suc c) d (suc n) t turn s =
    let a : suc c + d ≡ suc (c + d) = omega arith in
    let b : suc n - suc c ≡ n - c = omega arith in
    let e : t + suc c ≡ t + 1 + c = omega arith in
    rw (a, b, e)
    (and_then-same s (turn t s) (counted_turns (c + d) n (t + 1) turn) (λ u. and_then u (counted_turns c n (t + 1) turn u) (counted_turns d (n - c) (t + 1 + c) turn)) (λ u. counted-split c d n (t + 1) turn u)
    ∙ sym (and_then-and_then s (turn t s) (counted_turns c n (t + 1) turn) (counted_turns d (n - c) (t + 1 + c) turn)))

-- a turn after a head, and then more of them
turn_or_over-split : (before seen : List Observation) (r : Result Yield Halt) (turn more few rest : Store → Trace) (s : Store) → ((u : Store) → more u ≡ and_then u (few u) rest)
    → traced (head_step before seen r (turn_or_over turn more)) s ≡ and_then s (traced (head_step before seen r (turn_or_over turn few)) s) rest
turn_or_over-split before seen (Err halt) turn more few rest s split = refl
turn_or_over-split before seen (Ok (Bounds lower trip)) turn more few rest s split = refl
turn_or_over-split before seen (Ok (Tested false)) turn more few rest s split = refl
turn_or_over-split before seen (Ok (Tested true)) turn more few rest s split =
    let entry : Entry = record { before = before; seen = seen; effect = Nothing } in
    let first : Trace = record { entries = entry ∷ []; halt = None } in
    let last : (u : Store) → in_turn (more ∷ []) u ≡ and_then u (in_turn (few ∷ []) u) rest = λ u.
    and_then-ends u (more u) ∙ split u ∙ ap (λ (t : Trace). and_then u t rest) (sym (and_then-ends u (few u))) in
    and_then-same s first (in_turn (turn ∷ more ∷ [])) (λ u. and_then u (in_turn (turn ∷ few ∷ []) u) rest)
    (λ u. and_then-same u (turn u) (in_turn (more ∷ [])) (λ v. and_then v (in_turn (few ∷ []) v) rest) last ∙ sym (and_then-and_then u (turn u) (in_turn (few ∷ [])) rest))
    ∙ sym (and_then-and_then s first (in_turn (turn ∷ few ∷ [])) rest)

tested-split : (c d t : ℕ) (frame : ℕ → Frame) (head : Head) (turn : ℕ → Store → Trace) (s : Store)
    → tested_turns (c + d) t frame head turn s ≡ and_then s (tested_turns c t frame head turn s) (tested_turns d (t + c) frame head turn)
tested-split zero d t frame head turn s =
    let a : 0 + d ≡ d = omega arith in
    let e : t + 0 ≡ t = omega arith in
    rw (a, e) refl
tested-split (suc c) d t frame head turn s =
    let a : suc c + d ≡ suc (c + d) = omega arith in
    let e : t + suc c ≡ t + 1 + c = omega arith in
    rw (a, e)
    (turn_or_over-split (announced (frame t) s) (head_of (frame t) head s).seen (head_of (frame t) head s).value (turn t) (tested_turns (c + d) (t + 1) frame head turn) (tested_turns c (t + 1) frame head turn) (tested_turns d (t + 1 + c) frame head turn) s
    (λ u. tested-split c d (t + 1) frame head turn u))

number_left-after : (left : Option ℕ) (c : ℕ) → number_left (left_after left c) ≡ number_left left - c
number_left-after None c = omega arith
number_left-after (Some n) c = refl

turns_by-split : (h : Head) (x : Expectation) (head : Head) (turn : Around → Store → Trace) (o : Outer) (t c d : ℕ) (s : Store) → o.next ≡ pos t
    → turns_by h x head turn o (c + d) s ≡ and_then s (turns_by h x head turn o c s) (turns_by h x head turn (turns_later o c) d)
turns_by-split (For lower upper stride) x head turn o t c d s next =
    let number : unsigned_abs (o.next +ℤ pos c) ≡ unsigned_abs o.next + c = rw next refl in
    rw (number, number_left-after o.left c) (counted-split c d (number_left o.left) (unsigned_abs o.next) (λ i. turn (inward outside i (turn_value o.lower stride i))) s)
turns_by-split (While condition) x head turn o t c d s next =
    let number : unsigned_abs (o.next +ℤ pos c) ≡ unsigned_abs o.next + c = rw next refl in
    rw number (tested-split c d (unsigned_abs o.next) (λ i. frame_of x part.Head 1 (inward outside i (pos i))) head (λ i. turn (inward outside i (pos i))) s)

-- c turns and then d turns from where they lead are c + d turns
pub turns_trace-split : (x : Expectation) (k : ℕ) (loops : List Loop) (o : Outer) (t c d : ℕ) (s : Store) → o.next ≡ pos t
    → turns_trace x k loops o (c + d) s ≡ and_then s (turns_trace x k loops o c s) (turns_trace x k loops (turns_later o c) d)
unfolding turns_trace
turns_trace-split x k [] o t c d s next = refl
turns_trace-split x k (l ∷ ls) o t c d s next = turns_by-split l.head x l.head (turn_trace x 1 l (loops_trace x k 2 ls)) o t c d s next

pub turns-join : TurnsJoin
turns-join x k loops o t c d s next = turns_trace-split x k loops o t c d s next

pub fewer-turns-begin : FewerTurnsBegin
fewer-turns-begin x k loops o t b c s left next few =
    let rest : Store → Trace = turns_trace x k loops (turns_later o b) (c - b) in
    let all : b + (c - b) ≡ c = omega (arith, few) in (
      rest_seen (cut (turns_trace x k loops o b s) s left 0) rest,
      ap (λ (n : ℕ). seen_in (turns_trace x k loops o n s) left) (sym all)
          ∙ ap (λ (u : Trace). seen_in u left) (turns_trace-split x k loops o t b (c - b) s next)
          ∙ seen-and_then (turns_trace x k loops o b s) rest s left 0,
    )

-- all the turns that are left of a `for` are its turns
counted_turns-all : (n t : ℕ) (turn : ℕ → Store → Trace) (s : Store) → counted_turns n n t turn s ≡ turns_from n t turn s
counted_turns-all zero t turn s = refl
counted_turns-all (suc n) t turn s = and_then-same s (turn t s) (counted_turns n n (t + 1) turn) (turns_from n (t + 1) turn) (λ u. counted_turns-all n (t + 1) turn u)

-- a head's step, and then traces that are the same from each store
traced-same : (before seen : List Observation) (r : Result Yield Halt) (p q : Yield → List (Store → Trace)) (s : Store) → ((y : Yield) (u : Store) → in_turn (p y) u ≡ in_turn (q y) u)
    → traced (head_step before seen r p) s ≡ traced (head_step before seen r q) s
traced-same before seen (Err halt) p q s each = refl
traced-same before seen (Ok y) p q s each = ap (λ (t : Trace). joined None (record { before = before; seen = seen; effect = Nothing } ∷ []) t) (each y s)

for-turns-all : (x : Expectation) (head : Head) (lower upper : Expr) (stride : ℤ) (turn : Around → Store → Trace) (y : Yield) (u : Store)
    → in_turn (turns_of (λ from t. turn (inward outside t (turn_value from stride t))) y) u ≡ in_turn (turns_by (For lower upper stride) x head turn (first_position y) (all_turns y) ∷ []) u
for-turns-all x head lower upper stride turn (Bounds from trip) u =
    ap (λ (t : Trace). and_then u t (in_turn [])) (sym (counted_turns-all trip 0 (λ t. turn (inward outside t (turn_value from stride t))) u))
for-turns-all x head lower upper stride turn (Tested holds) u = refl

loop_by-for : (h : Head) (lower upper : Expr) (stride : ℤ) (x : Expectation) (k : ℕ) (head : Head) (turn : Around → Store → Trace) (s : Store) → h ≡ For lower upper stride
    → loop_by h x k 1 head turn outside s ≡ traced (headed (frame_of x part.Head 1 outside) head (λ y. turns_by h x head turn (first_position y) (all_turns y) ∷ []) s) s
loop_by-for h lower upper stride x k head turn s e =
    rw e
    (traced-same (announced (frame_of x part.Head 1 outside) s) (head_of (frame_of x part.Head 1 outside) head s).seen (head_of (frame_of x part.Head 1 outside) head s).value
    (turns_of (λ from t. turn (inward outside t (turn_value from stride t)))) (λ y. turns_by (For lower upper stride) x head turn (first_position y) (all_turns y) ∷ []) s
    (for-turns-all x head lower upper stride turn))

pub for-is-its-turns : ForIsItsTurns
unfolding turns_trace
for-is-its-turns x k l ls lower upper stride s e = loop_by-for l.head lower upper stride x k l.head (turn_trace x 1 l (loops_trace x k 2 ls)) s e
