-- Levels: what runs of their blocks and heads say at their places.
use Rattle.std.proofs.Common.{◌≡◌, refl, ap, ◌∙◌, sym, subst, ℕ, ◌<◌, ◌+◌, ◌-◌, ℤ, pos, negsuc, ◌≤ℤ◌, unsigned_abs, List, [], ◌∷◌, length, Option, Some, None, Result, Ok, Err, true, not, arith}
use Rattle.std.proofs.lemmas.Int.{ints}
use Rattle.nest_lang.specs.declared.tree.BlockRef.{BlockRef}
use Rattle.nest_lang.specs.declared.tree.Expr.{Expr}
use Rattle.nest_lang.specs.declared.tree.Head.{Head}
use Rattle.nest_lang.specs.declared.tree.Head.TheVariants.{For}
use Rattle.nest_lang.specs.declared.tree.Loop.{Loop}
use Rattle.nest_lang.specs.declared.tree.Part.{Part}
use Rattle.nest_lang.specs.declared.tree.Part.TheVariants as part
use Rattle.nest_lang.specs.declared.tree.Stmt.{Stmt}
use Rattle.nest_lang.specs.Values.{same}
use Rattle.nest_lang.specs.Stores.{Store}
use Rattle.nest_lang.specs.Lookups.{Expectation}
use Rattle.nest_lang.specs.Traces.{Observation, Halt, Trace, Finish, Done}
use Rattle.nest_lang.specs.Expressions.{Frame}
use Rattle.nest_lang.specs.Statements.{instance_trace}
use Rattle.nest_lang.specs.Heads.{Yield}
use Rattle.nest_lang.specs.Loops.{Around, inward, outside, frame_of, turn_trace, turns_from, whiles_from, loops_trace}
use Rattle.nest_lang.specs.Rules.{strides}
use Rattle.block_exec.specs.declared.site.Site.{Site}
use Rattle.block_exec.specs.declared.halt.Cut.{Cut}
use Rattle.block_exec.specs.declared.halt.Cut.TheVariants as cut
use Rattle.block_exec.specs.declared.halt.Halt as code
use Rattle.block_exec.specs.declared.site.Places.{Places}
use Rattle.block_exec.specs.Sites.{frame_at, around_at}
use Rattle.block_exec.specs.Watches.{Chain}
use Rattle.block_exec.proofs.InstanceLaws.{cut-no-instance, seen-no-instance}
use Rattle.block_exec.specs.Moments.{Moment, Ran, Evaluated}
use Rattle.block_exec.specs.Halts.{halt_by, yield_where_left, finish_of}
use Rattle.plain_interp.specs.declared.loops.Level.{Level}
use Rattle.plain_interp.specs.Levels.{IsWhile, level_turn}
use Rattle.plain_interp.proofs.TraceRunLaws.{Leads, while-halts, while-limited}
use Rattle.nest_lang.specs.declared.state.Outer.{Outer}
use Rattle.nest_lang.specs.Turns.{turns_trace}
use Rattle.plain_interp.proofs.OuterTurnLaws.{ran-while-halts, ran-while-limited}
use Rattle.plain_interp.proofs.TurnLaws.{for_turns, for-halts, for-limited}

-- the stride of a loop that keeps the rules
pub stride-not-0 : (h : Head) (lower upper : Expr) (stride : ℤ) → h ≡ For lower upper stride → strides h ≡ true → stride ≡ pos 0 → ⊥
stride-not-0 h lower upper stride is keeps zero =
    let some : not (same stride (pos 0)) ≡ true = subst (λ (z : Head). strides z ≡ true) is keeps in
    let none : not (same (pos 0) (pos 0)) ≡ true = subst (λ (z : ℤ). not (same z (pos 0)) ≡ true) zero some in
    cc

pub inward-same : (a b : Around) (t : ℕ) (v w : ℤ) → a ≡ b → v ≡ w → inward a t v ≡ inward b t w
inward-same a b t v w same_around same-value = ap (λ (c : Around). inward c t v) same_around ∙ ap (λ (z : ℤ). inward b t z) same-value

-- the place of a turn of the outermost loop, by its number and by its value
pub place-outermost : (depth : ℕ) (p q : Places) (n : ℕ) (next value : ℤ) → depth ≡ 0 → around_at 1 p ≡ inward (around_at 0 q) n value → pos n ≡ next → around_at (depth + 1) p ≡ record { counters = next ∷ []; values = value ∷ [] }
place-outermost depth p q n next value outermost inner is =
    ap (λ (d : ℕ). around_at (d + 1) p) outermost ∙ inner ∙ ap (λ (z : ℤ). let a : Around = record { counters = z ∷ []; values = value ∷ [] } in a) is

pub place-tested : (p q : Places) (n t : ℕ) (next : ℤ) → around_at 1 p ≡ inward (around_at 0 q) n next → n ≡ t → next ≡ pos t → around_at 1 p ≡ inward outside t (pos t)
place-tested p q n t next inner same is = inner ∙ ap (λ (m : ℕ). inward outside m next) same ∙ ap (λ (z : ℤ). inward outside t z) is

pub pos-unsigned_abs : (z : ℤ) → pos 0 ≤ℤ z → pos (unsigned_abs z) ≡ z
pos-unsigned_abs (pos n) h = refl
pos-unsigned_abs (negsuc n) h = absurd (omega (arith, ints))

module _ {W : Type 0} (may : W → Observation → W → Type 0) where
  -- a block without statements has no instance
  pub no_block : (f : Frame) (block : List Stmt) (a : Moment W) → length block ≡ 0 → Ran may (instance_trace f block) a a Done
  no_block f [] a none =
      record {
        cut = sym (cut-no-instance f a.store a.store a.left a.used);
        shown = subst (λ (os : List Observation). Chain may a.watch os a.watch) (sym (seen-no-instance f a.store a.left)) refl;
      }
  no_block f (x ∷ xs) a none = absurd (omega (arith, none))

  -- a block, run at a site of a level
  pub block-at : (site : Site) (ref : BlockRef) (x x0 : Expectation) (p : Part) (level : ℕ) (a a0 : Around) (block block0 : List Stmt) (m n : Moment W) (e : Finish)
      → ((y : Expectation) → frame_at site y ≡ frame_of y ref.part ref.level a) → ref ≡ record { part = p; level = level } → x ≡ x0 → a ≡ a0 → block ≡ block0
      → Ran may (instance_trace (frame_at site x) block) m n e → Ran may (instance_trace (frame_of x0 p level a0) block0) m n e
  block-at site ref x x0 p level a a0 block block0 m n e frame here expects around statements r =
      let F : Frame → Type 0 = λ f. Ran may (instance_trace f block0) m n e in
      let B : List Stmt → Type 0 = λ ss. Ran may (instance_trace (frame_at site x) ss) m n e in
      let R : BlockRef → Type 0 = λ b. Ran may (instance_trace (frame_of x0 b.part b.level a0) block0) m n e in
      let X : Expectation → Type 0 = λ y. Ran may (instance_trace (frame_of y ref.part ref.level a0) block0) m n e in
      let A : Around → Type 0 = λ b. Ran may (instance_trace (frame_of x ref.part ref.level b) block0) m n e in
      subst R here (subst X expects (subst A around (subst F (frame x) (subst B statements r))))

  -- a head, evaluated at a site of a level
  pub head-at : (site : Site) (ref : BlockRef) (x x0 : Expectation) (level : ℕ) (a a0 : Around) (h h0 : Head) (m n : Moment W) (yields : Option (Result Yield Halt))
      → ((y : Expectation) → frame_at site y ≡ frame_of y ref.part ref.level a) → ref ≡ record { part = part.Head; level = level } → x ≡ x0 → a ≡ a0 → h ≡ h0
      → Evaluated may (frame_at site x) h m n yields → Evaluated may (frame_of x0 part.Head level a0) h0 m n yields
  head-at site ref x x0 level a a0 h h0 m n yields frame here expects around is ev =
      let F : Frame → Type 0 = λ f. Evaluated may f h0 m n yields in
      let H : Head → Type 0 = λ z. Evaluated may (frame_at site x) z m n yields in
      let R : BlockRef → Type 0 = λ b. Evaluated may (frame_of x0 b.part b.level a0) h0 m n yields in
      let X : Expectation → Type 0 = λ y. Evaluated may (frame_of y ref.part ref.level a0) h0 m n yields in
      let A : Around → Type 0 = λ b. Evaluated may (frame_of x ref.part ref.level b) h0 m n yields in
      subst R here (subst X expects (subst A around (subst F (frame x) (subst H is ev))))

  -- a `for` that its head cuts short
  pub for-cut : (x : Expectation) (k level : ℕ) (l : Loop) (ls : List Loop) (a : Around) (lower upper : Expr) (stride : ℤ) {A : Type 0} (yield : A → Yield) (c : Cut) (h : code.Halt) (p m : Moment W) → l.head ≡ For lower upper stride
      → Evaluated may (frame_of x part.Head level a) l.head p m (yield_where_left yield (Err c) h) → Ran may (loops_trace x k level (l ∷ ls) a) p m (finish_of (Err c) h)
  for-cut x k level l ls a lower upper stride yield cut.Halted h p m is ev = for-halts may x k level l ls a lower upper stride (halt_by h) p m is ev
  for-cut x k level l ls a lower upper stride yield cut.Limited h p m is ev = for-limited may x k level l ls a lower upper stride p m is ev

  -- a `while` that its condition cuts short
  pub while-cut : (frame : ℕ → Frame) (head : Head) (turn : ℕ → Store → Trace) (k t : ℕ) (a m : Moment W) {A : Type 0} (yield : A → Yield) (c : Cut) (h : code.Halt) (Whole : Moment W → Finish → Type 0) → t < k
      → Evaluated may (frame t) head a m (yield_where_left yield (Err c) h)
      → Leads may (whiles_from (k - t) t frame head turn) a Whole → Whole m (finish_of (Err c) h)
  while-cut frame head turn k t a m yield cut.Halted h Whole more ev leads = while-halts may frame head turn k t a m (halt_by h) Whole more ev leads
  while-cut frame head turn k t a m yield cut.Limited h Whole more ev leads = while-limited may frame head turn k t a m Whole more ev leads

  -- the turns of a `for`, where what is said of them is the same
  pub for-turns-moved : (x x0 : Expectation) (k level : ℕ) (l : Loop) (ls : List Loop) (a : Around) (stride stride0 from : ℤ) (trip : ℕ) (p q : Moment W) (e : Finish) → x ≡ x0 → stride ≡ stride0
      → Ran may (turns_from trip 0 (for_turns x k level l ls a stride from)) p q e → Ran may (turns_from trip 0 (for_turns x0 k level l ls a stride0 from)) p q e
  for-turns-moved x x0 k level l ls a stride stride0 from trip p q e expects same r =
      let X : Expectation → Type 0 = λ y. Ran may (turns_from trip 0 (for_turns y k level l ls a stride0 from)) p q e in
      let S : ℤ → Type 0 = λ z. Ran may (turns_from trip 0 (for_turns x k level l ls a z from)) p q e in
      subst X expects (subst S same r)

  -- a turn of the outermost level
  pub level_turn-outermost : (x : Expectation) (k : ℕ) (at : Level) (a : Around) (p q : Moment W) (e : Finish) → at.depth ≡ 0
      → Ran may (level_turn x at a k) p q e → Ran may (turn_trace x 1 at.first.now (loops_trace x k 2 at.rest.now) a) p q e
  level_turn-outermost x k at a p q e outermost r =
      let P : ℕ → Type 0 = λ d. Ran may (turn_trace x (d + 1) at.first.now (loops_trace x k (d + 1 + 1) at.rest.now) a) p q e in
      subst P outermost r

  -- a turn that the condition of the outermost `while` cuts short
  pub ran-while-cut : (x : Expectation) (k : ℕ) (l : Loop) (ls : List Loop) (o : Outer) (t : ℕ) (a m : Moment W) {A : Type 0} (yield : A → Yield) (c : Cut) (h : code.Halt) → IsWhile l.head → o.next ≡ pos t
      → Evaluated may (frame_of x part.Head 1 (inward outside t (pos t))) l.head a m (yield_where_left yield (Err c) h)
      → Ran may (turns_trace x k (l ∷ ls) o 1) a m (finish_of (Err c) h)
  ran-while-cut x k l ls o t a m yield cut.Halted h is next ev = ran-while-halts may x k l ls o t a m (halt_by h) is next ev
  ran-while-cut x k l ls o t a m yield cut.Limited h is next ev = ran-while-limited may x k l ls o t a m is next ev
