-- Some turns of the outermost loop, from the runs of their parts.
use Rattle.std.proofs.Common.{◌≡◌, refl, ap, ap₂, ◌∙◌, sym, subst, ℕ, ℤ, pos, ◌+ℤ◌, unsigned_abs, FitsSigned, w64, zero, suc, ◌<◌, ◌+◌, ◌-◌, ◌≤◌, true, false, List, [], ◌∷◌, ◌++◌, append_assoc, append-nil, Option, Some, None, Result, Ok, Err, arith}
use Rattle.std.proofs.lemmas.Int.{ints}
use Rattle.nest_lang.specs.declared.tree.Expr.{Expr}
use Rattle.nest_lang.specs.declared.tree.Head.{Head}
use Rattle.nest_lang.specs.declared.tree.Head.TheVariants.{For, While}
use Rattle.nest_lang.specs.declared.tree.Loop.{Loop}
use Rattle.nest_lang.specs.declared.tree.Part.TheVariants as part
use Rattle.nest_lang.specs.declared.state.Outer.{Outer}
use Rattle.nest_lang.specs.Values.{turn_value}
use Rattle.nest_lang.specs.Stores.{Store, Nothing, effect_on}
use Rattle.nest_lang.specs.Lookups.{Expectation}
use Rattle.nest_lang.specs.Traces.{Observation, Entry, Halt, Over, Trace, ends, joined, and_then, in_turn, traced, after_all, Finish, Done, Halted, Limited, Cut, cut, seen_in}
use Rattle.nest_lang.specs.Expressions.{Frame}
use Rattle.nest_lang.specs.Statements.{announced}
use Rattle.nest_lang.specs.Heads.{Yield, Bounds, Tested, head_of, head_step, headed}
use Rattle.nest_lang.specs.Loops.{Around, inward, outside, frame_of, turn_trace, loops_trace}
use Rattle.nest_lang.proofs.CutLaws.{cut-end}
use Rattle.block_exec.specs.Moments.{Moment, Ran, Evaluated}
use Rattle.plain_interp.specs.Levels.{IsWhile}
use Rattle.nest_lang.specs.declared.budget.Turned.{Turned}
use Rattle.nest_lang.specs.declared.budget.Turned.TheVariants as turned
use Rattle.nest_lang.specs.Turns.{over, finish_of_turned, AreWhole, IsPosition, counted_turns, turn_or_over, tested_turns, number_left, turns_by, turns_trace, left_after, turns_later}
use Rattle.nest_lang.proofs.TurnLaws.{turns_trace-split}
use Rattle.plain_interp.proofs.TraceRunLaws.{ran-ends, ran-then, ran-out, ran-only, ran-same, ran-head-yields, ran-head-halts, ran-head-limited}

-- one turn of a `for`
counted-one : (m n u t : ℕ) (turn : ℕ → Store → Trace) (s : Store) → m ≡ suc n → u ≡ t → and_then s (turn t s) (in_turn []) ≡ counted_turns 1 m u turn s
counted-one m n u t turn s left next = rw (left, next) refl

counted-none : (m u : ℕ) (turn : ℕ → Store → Trace) (s : Store) → m ≡ 0 → over ≡ counted_turns 1 m u turn s
counted-none m u turn s left = rw left refl

turns_by-for : (h : Head) (lower upper : Expr) (stride : ℤ) (x : Expectation) (head : Head) (turn : Around → Store → Trace) (o : Outer) (t n : ℕ) (s : Store) → h ≡ For lower upper stride → o.next ≡ pos t → o.left ≡ Some (suc n)
    → and_then s (turn (inward outside t (turn_value o.lower stride t)) s) (in_turn []) ≡ turns_by h x head turn o 1 s
turns_by-for h lower upper stride x head turn o t n s is next left =
    subst (λ (z : Head). and_then s (turn (inward outside t (turn_value o.lower stride t)) s) (in_turn []) ≡ turns_by z x head turn o 1 s) (sym is)
    (counted-one (number_left o.left) n (unsigned_abs o.next) t (λ i. turn (inward outside i (turn_value o.lower stride i))) s (ap number_left left) (ap unsigned_abs next))

turns_by-over : (h : Head) (lower upper : Expr) (stride : ℤ) (x : Expectation) (head : Head) (turn : Around → Store → Trace) (o : Outer) (s : Store) → h ≡ For lower upper stride → o.left ≡ Some 0 → over ≡ turns_by h x head turn o 1 s
turns_by-over h lower upper stride x head turn o s is left =
    subst (λ (z : Head). over ≡ turns_by z x head turn o 1 s) (sym is)
    (counted-none (number_left o.left) (unsigned_abs o.next) (λ i. turn (inward outside i (turn_value o.lower stride i))) s (ap number_left left))

-- one turn of a `while`
tested-one : (u t : ℕ) (frame : ℕ → Frame) (head : Head) (turn : ℕ → Store → Trace) (s : Store) → u ≡ t → traced (headed (frame t) head (turn_or_over (turn t) (in_turn [])) s) s ≡ tested_turns 1 u frame head turn s
tested-one u t frame head turn s next = rw next refl

turns_by-while : (h : Head) (x : Expectation) (head : Head) (turn : Around → Store → Trace) (o : Outer) (t : ℕ) (s : Store) → IsWhile h → o.next ≡ pos t
    → traced (headed (frame_of x part.Head 1 (inward outside t (pos t))) head (turn_or_over (turn (inward outside t (pos t))) (in_turn [])) s) s ≡ turns_by h x head turn o 1 s
turns_by-while (For lower upper stride) x head turn o t s is next = absurd is
turns_by-while (While condition) x head turn o t s is next =
    tested-one (unsigned_abs o.next) t (λ i. frame_of x part.Head 1 (inward outside i (pos i))) head (λ i. turn (inward outside i (pos i))) s (ap unsigned_abs next)

abbrev pub turn_of : Expectation → ℕ → Loop → List Loop → ℕ → ℤ → Store → Trace
turn_of x k l ls t value = turn_trace x 1 l (loops_trace x k 2 ls) (inward outside t value)

module _ {W : Type 0} (may : W → Observation → W → Type 0) where
  ran-over : (a : Moment W) → Ran may (λ s. over) a a (Halted Over)
  unfolding seen_in
  ran-over a = record { cut = sym (cut-end (Some Over) a.store a.left a.used); shown = refl }

  ran-first : (f : Store → Trace) (a b : Moment W) (e : Finish) → Ran may f a b e → Ran may (in_turn (f ∷ in_turn [] ∷ [])) a b e
  ran-first f a b Done r = ran-then may f (in_turn (in_turn [] ∷ [])) a b b Done r (ran-only may (in_turn []) b b Done (ran-ends may b))
  ran-first f a b (Halted halt) r = ran-out may f (in_turn (in_turn [] ∷ [])) a b (Halted halt) r (λ h. cc)
  ran-first f a b Limited r = ran-out may f (in_turn (in_turn [] ∷ [])) a b Limited r (λ h. cc)

  -- one turn of a `for`, where one is left and where none is
  pub ran-for-turn : (x : Expectation) (k : ℕ) (l : Loop) (ls : List Loop) (o : Outer) (lower upper : Expr) (stride : ℤ) (t n : ℕ) (a b : Moment W) (e : Finish)
      → l.head ≡ For lower upper stride → o.next ≡ pos t → o.left ≡ Some (suc n) → Ran may (turn_of x k l ls t (turn_value o.lower stride t)) a b e → Ran may (turns_trace x k (l ∷ ls) o 1) a b e
  unfolding turns_trace
  ran-for-turn x k l ls o lower upper stride t n a b e is next left r =
      ran-same may (in_turn (turn_of x k l ls t (turn_value o.lower stride t) ∷ [])) (turns_trace x k (l ∷ ls) o 1) a b e
      (turns_by-for l.head lower upper stride x l.head (turn_trace x 1 l (loops_trace x k 2 ls)) o t n a.store is next left)
      (ran-only may (turn_of x k l ls t (turn_value o.lower stride t)) a b e r)

  pub ran-for-over : (x : Expectation) (k : ℕ) (l : Loop) (ls : List Loop) (o : Outer) (lower upper : Expr) (stride : ℤ) (a : Moment W)
      → l.head ≡ For lower upper stride → o.left ≡ Some 0 → Ran may (turns_trace x k (l ∷ ls) o 1) a a (Halted Over)
  unfolding turns_trace
  ran-for-over x k l ls o lower upper stride a is left =
      ran-same may (λ s. over) (turns_trace x k (l ∷ ls) o 1) a a (Halted Over)
      (turns_by-over l.head lower upper stride x l.head (turn_trace x 1 l (loops_trace x k 2 ls)) o a.store is left) (ran-over a)

  -- one turn of a `while`, by what its condition gives
  while-ran : (x : Expectation) (k : ℕ) (l : Loop) (ls : List Loop) (o : Outer) (t : ℕ) (a b : Moment W) (e : Finish) → IsWhile l.head → o.next ≡ pos t
      → Ran may (λ s. traced (headed (frame_of x part.Head 1 (inward outside t (pos t))) l.head (turn_or_over (turn_of x k l ls t (pos t)) (in_turn [])) s) s) a b e → Ran may (turns_trace x k (l ∷ ls) o 1) a b e
  unfolding turns_trace
  while-ran x k l ls o t a b e is next r =
      ran-same may (λ s. traced (headed (frame_of x part.Head 1 (inward outside t (pos t))) l.head (turn_or_over (turn_of x k l ls t (pos t)) (in_turn [])) s) s) (turns_trace x k (l ∷ ls) o 1) a b e
      (turns_by-while l.head x l.head (turn_trace x 1 l (loops_trace x k 2 ls)) o t a.store is next) r

  pub ran-while-turn : (x : Expectation) (k : ℕ) (l : Loop) (ls : List Loop) (o : Outer) (t : ℕ) (a m b : Moment W) (e : Finish) → IsWhile l.head → o.next ≡ pos t
      → Evaluated may (frame_of x part.Head 1 (inward outside t (pos t))) l.head a m (Some (Ok (Tested true)))
      → Ran may (turn_of x k l ls t (pos t)) m b e → Ran may (turns_trace x k (l ∷ ls) o 1) a b e
  ran-while-turn x k l ls o t a m b e is next ev r =
      while-ran x k l ls o t a b e is next
      (ran-head-yields may (frame_of x part.Head 1 (inward outside t (pos t))) l.head (turn_or_over (turn_of x k l ls t (pos t)) (in_turn [])) (Tested true) a m b e ev
      (ran-first (turn_of x k l ls t (pos t)) m b e r))

  pub ran-while-over : (x : Expectation) (k : ℕ) (l : Loop) (ls : List Loop) (o : Outer) (t : ℕ) (a m : Moment W) → IsWhile l.head → o.next ≡ pos t
      → Evaluated may (frame_of x part.Head 1 (inward outside t (pos t))) l.head a m (Some (Ok (Tested false)))
      → Ran may (turns_trace x k (l ∷ ls) o 1) a m (Halted Over)
  ran-while-over x k l ls o t a m is next ev =
      while-ran x k l ls o t a m (Halted Over) is next
      (ran-head-yields may (frame_of x part.Head 1 (inward outside t (pos t))) l.head (turn_or_over (turn_of x k l ls t (pos t)) (in_turn [])) (Tested false) a m m (Halted Over) ev
      (ran-only may (λ s. over) m m (Halted Over) (ran-over m)))

  pub ran-while-halts : (x : Expectation) (k : ℕ) (l : Loop) (ls : List Loop) (o : Outer) (t : ℕ) (a m : Moment W) (h : Halt) → IsWhile l.head → o.next ≡ pos t
      → Evaluated may (frame_of x part.Head 1 (inward outside t (pos t))) l.head a m (Some (Err h))
      → Ran may (turns_trace x k (l ∷ ls) o 1) a m (Halted h)
  ran-while-halts x k l ls o t a m h is next ev =
      while-ran x k l ls o t a m (Halted h) is next
      (ran-head-halts may (frame_of x part.Head 1 (inward outside t (pos t))) l.head (turn_or_over (turn_of x k l ls t (pos t)) (in_turn [])) h a m ev)

  pub ran-while-limited : (x : Expectation) (k : ℕ) (l : Loop) (ls : List Loop) (o : Outer) (t : ℕ) (a m : Moment W) → IsWhile l.head → o.next ≡ pos t
      → Evaluated may (frame_of x part.Head 1 (inward outside t (pos t))) l.head a m None
      → Ran may (turns_trace x k (l ∷ ls) o 1) a m Limited
  ran-while-limited x k l ls o t a m is next ev =
      while-ran x k l ls o t a m Limited is next
      (ran-head-limited may (frame_of x part.Head 1 (inward outside t (pos t))) l.head (turn_or_over (turn_of x k l ls t (pos t)) (in_turn [])) a m ev)

  -- the turn that is next, run from its number and its value
  pub ran-turn-of : (x x0 : Expectation) (k : ℕ) (l : Loop) (ls : List Loop) (t : ℕ) (next value v : ℤ) (a b : Moment W) (e : Finish) → x ≡ x0 → next ≡ pos t → value ≡ v
      → Ran may (turn_trace x 1 l (loops_trace x k 2 ls) (record { counters = next ∷ []; values = value ∷ [] })) a b e → Ran may (turn_of x0 k l ls t v) a b e
  ran-turn-of x x0 k l ls t next value v a b e expects number is r =
      let X : Expectation → Type 0 = λ y. Ran may (turn_of y k l ls t v) a b e in
      let T : ℤ → Type 0 = λ z. Ran may (turn_trace x 1 l (loops_trace x k 2 ls) (record { counters = z ∷ []; values = value ∷ [] })) a b e in
      let V : ℤ → Type 0 = λ z. Ran may (turn_trace x 1 l (loops_trace x k 2 ls) (record { counters = pos t ∷ []; values = z ∷ [] })) a b e in
      subst X expects (subst V is (subst T number r))

  -- one turn of a `for` of which some are left
  pub ran-for-some : (x : Expectation) (k : ℕ) (l : Loop) (ls : List Loop) (o : Outer) (lower upper : Expr) (stride : ℤ) (t n : ℕ) (a b : Moment W) (e : Finish)
      → l.head ≡ For lower upper stride → o.next ≡ pos t → o.left ≡ Some n → (o.left ≡ Some 0 → ⊥) → Ran may (turn_of x k l ls t (turn_value o.lower stride t)) a b e → Ran may (turns_trace x k (l ∷ ls) o 1) a b e
  ran-for-some x k l ls o lower upper stride t zero a b e is next left some r = absurd (some left)
  ran-for-some x k l ls o lower upper stride t (suc n) a b e is next left some r = ran-for-turn x k l ls o lower upper stride t n a b e is next left r

-- a position of a `for`, and of a `while`
pub position-for : (h : Head) (lower upper : Expr) (stride : ℤ) (o : Outer) → h ≡ For lower upper stride → IsPosition h o → IsPosition (For lower upper stride) o
position-for h lower upper stride o is p = subst (λ (z : Head). IsPosition z o) is p

pub position-while : (h : Head) (condition : Expr) (o : Outer) → h ≡ While condition → IsPosition h o → IsPosition (While condition) o
position-while h condition o is p = subst (λ (z : Head). IsPosition z o) is p

pub while-head : (h : Head) (condition : Expr) → h ≡ While condition → IsWhile h
while-head h condition is = subst IsWhile (sym is) tt

-- a position some turns later is one
pub position-later : (h : Head) (o : Outer) (j : ℕ) → IsPosition h o → IsPosition h (turns_later o j)
position-later (For lower upper stride) o j p = (
  p.0 + j,
  p.1 - j,
  rw p.2 refl,
  rw p.3 refl,
  λ i few. let e : p.0 + j + i ≡ p.0 + (j + i) = omega arith in rw e (p.4 (j + i) (omega arith)),
)
position-later (While condition) o j p = (p.0 + j, rw p.1 refl, rw p.2 refl)

pub position-kept : (h : Head) (old new : Outer) (r : Turned) → (r ≡ turned.Went → new ≡ turns_later old 1) → ((r ≡ turned.Went → ⊥) → new ≡ old) → IsPosition h old → IsPosition h new
position-kept h old new turned.Went went others p = subst (λ (o : Outer). IsPosition h o) (sym (went refl)) (position-later h old 1 p)
position-kept h old new turned.Ended went others p = subst (λ (o : Outer). IsPosition h o) (sym (others (λ e. cc))) p
position-kept h old new (turned.Trapped trap) went others p = subst (λ (o : Outer). IsPosition h o) (sym (others (λ e. cc))) p
position-kept h old new turned.Limited went others p = subst (λ (o : Outer). IsPosition h o) (sym (others (λ e. cc))) p

-- how some turns finish, as the code says it
pub finish_of_turned-not : (r : Turned) → (r ≡ turned.Went → ⊥) → finish_of_turned r ≡ Done → ⊥
finish_of_turned-not turned.Went other done = other refl
finish_of_turned-not turned.Ended other done = cc
finish_of_turned-not (turned.Trapped trap) other done = cc
finish_of_turned-not turned.Limited other done = cc

-- turns one after another
module _ {W : Type 0} (may : W → Observation → W → Type 0) (x : Expectation) (k : ℕ) (loops : List Loop) (o : Outer) (t : ℕ) (next : o.next ≡ pos t) where
  -- no turn yet
  pub ran-no-turns : (a : Moment W) → Ran may (turns_trace x k loops o 0) a a Done
  unfolding turns_trace
  ran-no-turns a = at loops
    where
      at : (ls : List Loop) → Ran may (turns_trace x k ls o 0) a a Done
      at [] = ran-ends may a
      at (l ∷ ls) = by l.head
        where
          by : (h : Head) → Ran may (turns_by h x l.head (turn_trace x 1 l (loops_trace x k 2 ls)) o 0) a a Done
          by (For lower upper stride) = ran-ends may a
          by (While condition) = ran-ends may a

  -- i turns were done, and then one more was run
  pub ran-turns-more : (i : ℕ) (a b c : Moment W) (e : Finish) → Ran may (turns_trace x k loops o i) a b Done → Ran may (turns_trace x k loops (turns_later o i) 1) b c e → Ran may (turns_trace x k loops o (i + 1)) a c e
  ran-turns-more i a b c e first second =
      ran-same may (λ s. and_then s (turns_trace x k loops o i s) (turns_trace x k loops (turns_later o i) 1)) (turns_trace x k loops o (i + 1)) a c e
      (sym (turns_trace-split x k loops o t i 1 a.store next))
      (ran-then may (turns_trace x k loops o i) (turns_trace x k loops (turns_later o i) 1) a b c e first second)

  -- where a turn was not done, so are no more turns
  pub ran-turns-out : (i c : ℕ) (a b : Moment W) (e : Finish) → Ran may (turns_trace x k loops o i) a b e → (e ≡ Done → ⊥) → i ≤ c → Ran may (turns_trace x k loops o c) a b e
  ran-turns-out i c a b e r other few =
      let more : i + (c - i) ≡ c = omega arith in
      let P : ℕ → Type 0 = λ n. Ran may (turns_trace x k loops o n) a b e in
      subst P more
      (ran-same may (λ s. and_then s (turns_trace x k loops o i s) (turns_trace x k loops (turns_later o i) (c - i))) (turns_trace x k loops o (i + (c - i))) a b e
      (sym (turns_trace-split x k loops o t i (c - i) a.store next))
      (ran-out may (turns_trace x k loops o i) (turns_trace x k loops (turns_later o i) (c - i)) a b e r other))

  ending-at : (i : ℕ) (a b : Moment W) (e : Finish) → Ran may (turns_trace x k loops o i) a b e → (cut (turns_trace x k loops o i a.store) a.store a.left 0).ending ≡ e
  unfolding cut
  ending-at i a b e r = sym (ap (λ (c : Cut). c.ending) r.cut)

  -- the whole turns, where all were done and where one was not
  pub whole-turns-all : (c : ℕ) (a b : Moment W) → Ran may (turns_trace x k loops o c) a b Done → AreWhole (turns_trace x k loops o) a.store a.left c c
  whole-turns-all c a b r = record { within = omega arith; done = ending-at c a b Done r; most = λ i more few. absurd (omega (arith, more, few)) }

  pub whole-turns-some : (j c : ℕ) (a b d : Moment W) (e : Finish) → j < c → Ran may (turns_trace x k loops o j) a b Done → Ran may (turns_trace x k loops o (j + 1)) a d e → (e ≡ Done → ⊥)
      → AreWhole (turns_trace x k loops o) a.store a.left c j
  whole-turns-some j c a b d e fewer r out other =
      record {
        within = omega (arith, fewer);
        done = ending-at j a b Done r;
        most = λ i more few done. other (sym (ending-at i a d e (ran-turns-out (j + 1) i a d e out other (omega (arith, more)))) ∙ done);
      }

-- the position no turn later, and one turn later still
pub turns_later-none : (o : Outer) (t : ℕ) → o.next ≡ pos t → o ≡ turns_later o 0
turns_later-none o t next =
    let n : o.next ≡ o.next +ℤ pos 0 = next ∙ sym (let e : pos t +ℤ pos 0 ≡ pos t = omega (arith, ints) in ap (λ (z : ℤ). z +ℤ pos 0) next ∙ e) in
    ap₂ (λ (z : ℤ) (left : Option ℕ). record { lower = o.lower; next = z; left = left }) n (left_after-none o.left)
  where
    left_after-none : (left : Option ℕ) → left ≡ left_after left 0
    left_after-none None = refl
    left_after-none (Some n) = let e : n - 0 ≡ n = omega arith in rw e refl

pub turns_later-more : (o : Outer) (j : ℕ) → turns_later (turns_later o j) 1 ≡ turns_later o (j + 1)
turns_later-more o j =
    let n : o.next +ℤ pos j +ℤ pos 1 ≡ o.next +ℤ pos (j + 1) = omega (arith, ints) in
    rw (n, left_after-more o.left j) refl
  where
    left_after-more : (left : Option ℕ) (j : ℕ) → left_after (left_after left j) 1 ≡ left_after left (j + 1)
    left_after-more None j = refl
    left_after-more (Some n) j = let e : n - j - 1 ≡ n - (j + 1) = omega arith in rw e refl

-- the number of the next turn stays an i64, as each turn takes a step
pub number-more : (o : Outer) (left left' t : ℕ) → o.next ≡ pos t → left' < left → FitsSigned w64 (o.next +ℤ pos left) → FitsSigned w64 ((turns_later o 1).next +ℤ pos left')
number-more o left left' t next fewer fits =
    let here : FitsSigned w64 (pos (t + left)) = subst (λ (z : ℤ). FitsSigned w64 (z +ℤ pos left)) next fits in
    let there : FitsSigned w64 (pos (t + 1 + left')) = omega (arith, ints, here, fewer) in
    subst (λ (z : ℤ). FitsSigned w64 (z +ℤ pos 1 +ℤ pos left')) (sym next) there

pub number-kept : (o : Outer) (left left' t : ℕ) → o.next ≡ pos t → left' ≤ left → FitsSigned w64 (o.next +ℤ pos left) → FitsSigned w64 (o.next +ℤ pos left')
number-kept o left left' t next fewer fits =
    let here : FitsSigned w64 (pos (t + left)) = subst (λ (z : ℤ). FitsSigned w64 (z +ℤ pos left)) next fits in
    let there : FitsSigned w64 (pos (t + left')) = omega (arith, ints, here, fewer) in
    subst (λ (z : ℤ). FitsSigned w64 (z +ℤ pos left')) (sym next) there

module _ {W : Type 0} (may : W → Observation → W → Type 0) where
  -- some turns, where what is said of their place is the same
  pub turns-moved : (x x0 : Expectation) (k : ℕ) (ls ls0 : List Loop) (o o0 : Outer) (c : ℕ) (a b : Moment W) (e : Finish) → x ≡ x0 → ls ≡ ls0 → o ≡ o0
      → Ran may (turns_trace x k ls o c) a b e → Ran may (turns_trace x0 k ls0 o0 c) a b e
  turns-moved x x0 k ls ls0 o o0 c a b e expects loops outer r =
      let X : Expectation → Type 0 = λ y. Ran may (turns_trace y k ls0 o0 c) a b e in
      let P : List Loop → Type 0 = λ ms. Ran may (turns_trace x k ms o0 c) a b e in
      let O : Outer → Type 0 = λ p. Ran may (turns_trace x k ls p c) a b e in
      subst X expects (subst P loops (subst O outer r))
