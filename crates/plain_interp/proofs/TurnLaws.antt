-- Turns of loops, from the runs of their parts.
use Rattle.std.proofs.Common.{◌≡◌, refl, ap, ◌∙◌, sym, subst, ℕ, ℤ, pos, zero, suc, ◌<◌, ◌+◌, ◌-◌, min, Bool, not, List, [], ◌∷◌, ◌++◌, length, take, set, Option, Some, None, Result, Ok, Err, arith}
use Rattle.std.proofs.lemmas.List.{take_more_set}
use Rattle.std.proofs.lemmas.Grind.{common_steps}
use Rattle.nest_lang.specs.declared.tree.Expr.{Expr}
use Rattle.nest_lang.specs.declared.tree.Head.{Head}
use Rattle.nest_lang.specs.declared.tree.Head.TheVariants.{For, While}
use Rattle.nest_lang.specs.declared.tree.Loop.{Loop}
use Rattle.nest_lang.specs.declared.tree.Stmt.{Stmt}
use Rattle.nest_lang.specs.declared.tree.Part.TheVariants as part
use Rattle.nest_lang.specs.declared.observe.Seen.TheVariants.{Lower, Trip, Condition}
use Rattle.nest_lang.specs.Values.{same, trip_count, turn_value}
use Rattle.nest_lang.specs.Stores.{Store}
use Rattle.nest_lang.specs.Lookups.{Expectation}
use Rattle.nest_lang.specs.Traces.{Observation, Halt, Trace, in_turn, traced, Finish, Done, Halted, Limited}
use Rattle.nest_lang.specs.Expressions.{Frame, shown, told}
use Rattle.nest_lang.specs.Statements.{announced, instance_trace}
use Rattle.nest_lang.specs.Heads.{Yield, Bounds, Tested, heading, then_head, as_number, head_of, headed}
use Rattle.nest_lang.specs.Loops.{Around, inward, frame_of, turn_trace, turns_from, turns_of, whiles_from, loop_by, loops_trace}
use Rattle.block_exec.specs.Watches.{Chain}
use Rattle.block_exec.specs.Moments.{Moment, Ran, Evaluated}
use Rattle.plain_interp.specs.Levels.{IsWhile}
use Rattle.plain_interp.proofs.TraceRunLaws.{Leads, ran-ends, ran-then, ran-out, ran-only, ran-same, ran-head-yields, ran-head-halts, ran-head-limited}

-- turn t of a `for`, and of a `while` with the frame of its condition
abbrev pub for_turns : Expectation → ℕ → ℕ → Loop → List Loop → Around → ℤ → ℤ → ℕ → Store → Trace
for_turns x k level l ls a stride from t = turn_trace x level l (loops_trace x k (level + 1) ls) (inward a t (turn_value from stride t))

abbrev pub while_frames : Expectation → ℕ → Around → ℕ → Frame
while_frames x level a t = frame_of x part.Head level (inward a t (pos t))

abbrev pub while_turns : Expectation → ℕ → ℕ → Loop → List Loop → Around → ℕ → Store → Trace
while_turns x k level l ls a t = turn_trace x level l (loops_trace x k (level + 1) ls) (inward a t (pos t))

module _ {W : Type 0} (may : W → Observation → W → Type 0) where
  -- a whole turn, and one that its parts cut short
  pub turn-ran : (x : Expectation) (level : ℕ) (l : Loop) (inner : Around → Store → Trace) (a : Around) (p q r t : Moment W) (e : Finish)
      → Ran may (instance_trace (frame_of x part.Pre level a) l.pre) p q Done → Ran may (inner a) q r Done
      → Ran may (instance_trace (frame_of x part.Post level a) l.post) r t e → Ran may (turn_trace x level l inner a) p t e
  unfolding turn_trace
  turn-ran x level l inner a p q r t e before inside behind =
      ran-then may (instance_trace (frame_of x part.Pre level a) l.pre) (in_turn (inner a ∷ instance_trace (frame_of x part.Post level a) l.post ∷ [])) p q t e before
      (ran-then may (inner a) (in_turn (instance_trace (frame_of x part.Post level a) l.post ∷ [])) q r t e inside
      (ran-only may (instance_trace (frame_of x part.Post level a) l.post) r t e behind))

  pub turn-ran-before : (x : Expectation) (level : ℕ) (l : Loop) (inner : Around → Store → Trace) (a : Around) (p q : Moment W) (e : Finish)
      → Ran may (instance_trace (frame_of x part.Pre level a) l.pre) p q e → (e ≡ Done → ⊥) → Ran may (turn_trace x level l inner a) p q e
  unfolding turn_trace
  turn-ran-before x level l inner a p q e before other =
      ran-out may (instance_trace (frame_of x part.Pre level a) l.pre) (in_turn (inner a ∷ instance_trace (frame_of x part.Post level a) l.post ∷ [])) p q e before other

  pub turn-ran-inside : (x : Expectation) (level : ℕ) (l : Loop) (inner : Around → Store → Trace) (a : Around) (p q r : Moment W) (e : Finish)
      → Ran may (instance_trace (frame_of x part.Pre level a) l.pre) p q Done → Ran may (inner a) q r e → (e ≡ Done → ⊥) → Ran may (turn_trace x level l inner a) p r e
  unfolding turn_trace
  turn-ran-inside x level l inner a p q r e before inside other =
      ran-then may (instance_trace (frame_of x part.Pre level a) l.pre) (in_turn (inner a ∷ instance_trace (frame_of x part.Post level a) l.post ∷ [])) p q r e before
      (ran-out may (inner a) (in_turn (instance_trace (frame_of x part.Post level a) l.post ∷ [])) q r e inside other)

  -- a loop by a `for`: its head, and then its turns
  for-is : (h : Head) (lower upper : Expr) (stride : ℤ) (x : Expectation) (k level : ℕ) (head : Head) (turn : Around → Store → Trace) (a : Around) (s : Store) → h ≡ For lower upper stride
      → traced (headed (frame_of x part.Head level a) head (turns_of (λ from t. turn (inward a t (turn_value from stride t)))) s) s ≡ loop_by h x k level head turn a s
  for-is h lower upper stride x k level head turn a s e = rw e refl

  for-ran : (x : Expectation) (k level : ℕ) (l : Loop) (ls : List Loop) (a : Around) (lower upper : Expr) (stride : ℤ) (p c : Moment W) (e : Finish) → l.head ≡ For lower upper stride
      → Ran may (λ s. traced (headed (frame_of x part.Head level a) l.head (turns_of (λ from t. for_turns x k level l ls a stride from t)) s) s) p c e → Ran may (loops_trace x k level (l ∷ ls) a) p c e
  for-ran x k level l ls a lower upper stride p c e is r =
      ran-same may (λ s. traced (headed (frame_of x part.Head level a) l.head (turns_of (λ from t. for_turns x k level l ls a stride from t)) s) s) (loops_trace x k level (l ∷ ls) a) p c e
      (for-is l.head lower upper stride x k level l.head (turn_trace x level l (loops_trace x k (level + 1) ls)) a p.store is) r

  pub for-yields : (x : Expectation) (k level : ℕ) (l : Loop) (ls : List Loop) (a : Around) (lower upper : Expr) (stride from : ℤ) (trip : ℕ) (p m c : Moment W) (e : Finish) → l.head ≡ For lower upper stride
      → Evaluated may (frame_of x part.Head level a) l.head p m (Some (Ok (Bounds from trip)))
      → Ran may (turns_from trip 0 (λ t. for_turns x k level l ls a stride from t)) m c e → Ran may (loops_trace x k level (l ∷ ls) a) p c e
  for-yields x k level l ls a lower upper stride from trip p m c e is ev r =
      for-ran x k level l ls a lower upper stride p c e is
      (ran-head-yields may (frame_of x part.Head level a) l.head _ (Bounds from trip) p m c e ev
      (ran-only may (turns_from trip 0 (λ t. for_turns x k level l ls a stride from t)) m c e r))

  pub for-halts : (x : Expectation) (k level : ℕ) (l : Loop) (ls : List Loop) (a : Around) (lower upper : Expr) (stride : ℤ) (h : Halt) (p m : Moment W) → l.head ≡ For lower upper stride
      → Evaluated may (frame_of x part.Head level a) l.head p m (Some (Err h))
      → Ran may (loops_trace x k level (l ∷ ls) a) p m (Halted h)
  for-halts x k level l ls a lower upper stride h p m is ev =
      for-ran x k level l ls a lower upper stride p _ _ is (ran-head-halts may (frame_of x part.Head level a) l.head _ h p m ev)

  pub for-limited : (x : Expectation) (k level : ℕ) (l : Loop) (ls : List Loop) (a : Around) (lower upper : Expr) (stride : ℤ) (p m : Moment W) → l.head ≡ For lower upper stride
      → Evaluated may (frame_of x part.Head level a) l.head p m None
      → Ran may (loops_trace x k level (l ∷ ls) a) p m Limited
  for-limited x k level l ls a lower upper stride p m is ev =
      for-ran x k level l ls a lower upper stride p _ _ is (ran-head-limited may (frame_of x part.Head level a) l.head _ p m ev)

  -- a loop by a `while` is its turns from the first
  while-is : (h : Head) (x : Expectation) (k level : ℕ) (head : Head) (turn : Around → Store → Trace) (a : Around) (s : Store) → IsWhile h
      → whiles_from k 0 (λ t. frame_of x part.Head level (inward a t (pos t))) head (λ t. turn (inward a t (pos t))) s ≡ loop_by h x k level head turn a s
  while-is (For lower upper stride) x k level head turn a s is = absurd is
  while-is (While condition) x k level head turn a s is = refl

  pub while-starts : (x : Expectation) (k level : ℕ) (l : Loop) (ls : List Loop) (a : Around) (p : Moment W) → IsWhile l.head
      → Leads may (whiles_from k 0 (while_frames x level a) l.head (while_turns x k level l ls a)) p (Ran may (loops_trace x k level (l ∷ ls) a) p)
  while-starts x k level l ls a p is c e r =
      ran-same may (whiles_from k 0 (while_frames x level a) l.head (while_turns x k level l ls a)) (loops_trace x k level (l ∷ ls) a) p c e
      (while-is l.head x k level l.head (turn_trace x level l (loops_trace x k (level + 1) ls)) a p.store is) r

module _ {W : Type 0} (may : W → Observation → W → Type 0) where
  -- a head that was evaluated in one of two frames that are the same was evaluated in the other
  pub evaluated-at : (f f' : Frame) (head head' : Head) (a b : Moment W) (yields yields' : Option (Result Yield Halt)) → f ≡ f' → head ≡ head' → yields ≡ yields'
      → Evaluated may f head a b yields → Evaluated may f' head' a b yields'
  evaluated-at f f' head head' a b yields yields' same is y ev =
      let F : Frame → Type 0 = λ z. Evaluated may z head' a b yields' in
      let H : Head → Type 0 = λ h. Evaluated may f h a b yields' in
      let Y : Option (Result Yield Halt) → Type 0 = λ z. Evaluated may f head a b z in
      subst F same (subst H is (subst Y y ev))

  -- a turn, and the loops inside of one, where what is said of their place is the same
  pub turn-moved : (x x0 : Expectation) (k level : ℕ) (l : Loop) (ls : List Loop) (a a0 : Around) (p q : Moment W) (e : Finish) → x ≡ x0 → a ≡ a0
      → Ran may (turn_trace x level l (loops_trace x k (level + 1) ls) a) p q e → Ran may (turn_trace x0 level l (loops_trace x0 k (level + 1) ls) a0) p q e
  turn-moved x x0 k level l ls a a0 p q e expects around r =
      let P : Expectation → Type 0 = λ y. Ran may (turn_trace y level l (loops_trace y k (level + 1) ls) a0) p q e in
      let Q : Around → Type 0 = λ b. Ran may (turn_trace x level l (loops_trace x k (level + 1) ls) b) p q e in
      subst P expects (subst Q around r)

  pub inner-moved : (x x0 : Expectation) (k level : ℕ) (ls ls0 : List Loop) (a : Around) (p q : Moment W) (e : Finish) → x ≡ x0 → ls ≡ ls0
      → Ran may (loops_trace x k level ls a) p q e → Ran may (loops_trace x0 k level ls0 a) p q e
  inner-moved x x0 k level ls ls0 a p q e expects loops r =
      let P : Expectation → Type 0 = λ y. Ran may (loops_trace y k level ls0 a) p q e in
      let Q : List Loop → Type 0 = λ ms. Ran may (loops_trace x k level ms a) p q e in
      subst P expects (subst Q loops r)

  -- no loop is inside
  pub ran-no-loops : (x : Expectation) (k level : ℕ) (ls : List Loop) (a : Around) (p : Moment W) → length ls ≡ 0 → Ran may (loops_trace x k level ls a) p p Done
  ran-no-loops x k level [] a p none = ran-ends may p
  ran-no-loops x k level (l ∷ ls) a p none = absurd (omega (arith, none))

  -- a whole turn, where the block behind was run in a place and from a moment that are the same
  pub turn-ran-behind : (x x0 : Expectation) (level : ℕ) (l : Loop) (inner : Around → Store → Trace) (a a0 : Around) (block : List Stmt) (p q r r0 t : Moment W) (e : Finish)
      → x ≡ x0 → a ≡ a0 → block ≡ l.post → r ≡ r0
      → Ran may (instance_trace (frame_of x0 part.Pre level a0) l.pre) p q Done → Ran may (inner a0) q r0 Done
      → Ran may (instance_trace (frame_of x part.Post level a) block) r t e → Ran may (turn_trace x0 level l inner a0) p t e
  turn-ran-behind x x0 level l inner a a0 block p q r r0 t e expects around post from before inside behind =
      let Q : Expectation → Type 0 = λ y. Ran may (instance_trace (frame_of y part.Post level a0) l.post) r0 t e in
      let A : Around → Type 0 = λ b. Ran may (instance_trace (frame_of x part.Post level b) l.post) r0 t e in
      let B : List Stmt → Type 0 = λ ss. Ran may (instance_trace (frame_of x part.Post level a) ss) r0 t e in
      let R : Moment W → Type 0 = λ m. Ran may (instance_trace (frame_of x part.Post level a) block) m t e in
      turn-ran may x0 level l inner a0 p q r0 t e before inside (subst Q expects (subst A around (subst B post (subst R from behind))))
