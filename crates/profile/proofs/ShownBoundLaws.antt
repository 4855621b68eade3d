-- What turns show of the bounds of a `for`: its lower bound with its trip.
use Rattle.std.proofs.Common.{◌≡◌, refl, sym, ap, subst, ◌∙◌, ℕ, ℤ, pos, zero, suc, ◌+◌, nat_eq, Bool, true, false, List, [], ◌∷◌, ◌++◌, map, slice_get, Option, Some, None, Result, Ok, Err, append_assoc, arith}
use Rattle.std.specs.Prelude.{if◌then◌else◌, ◌&&◌}
use Rattle.std.specs.List.{AllByRecursion}
use Rattle.std.specs.Ordering.{int_eq}
use Rattle.std.proofs.Math.Bool.{and-false}
use Rattle.std.proofs.lemmas.Bool.{and_parts}
use Rattle.std.proofs.lemmas.Bool.Decides.{nat_tests}
use Rattle.std.proofs.lemmas.Grind.{flat_map-append}
use Rattle.nest_lang.specs.declared.tree.Expr.{Expr, map-Expr, roll-Expr}
use Rattle.nest_lang.specs.declared.tree.Expr.TheOpen.{Expr-F}
use Rattle.nest_lang.specs.declared.tree.Expr.TheFolds.{ind-Expr}
use Rattle.nest_lang.specs.declared.tree.Stmt.{Stmt, map-Stmt, roll-Stmt}
use Rattle.nest_lang.specs.declared.tree.Stmt.TheOpen.{Stmt-F}
use Rattle.nest_lang.specs.declared.tree.Stmt.TheFolds.{ind-Stmt}
use Rattle.nest_lang.specs.declared.tree.BlockRef.{BlockRef}
use Rattle.nest_lang.specs.declared.tree.Head.{Head}
use Rattle.nest_lang.specs.declared.tree.Head.TheVariants.{For, While}
use Rattle.nest_lang.specs.declared.tree.Loop.{Loop}
use Rattle.nest_lang.specs.declared.tree.Part.TheVariants as part
use Rattle.nest_lang.specs.declared.observe.Seen.{Seen}
use Rattle.nest_lang.specs.declared.observe.Seen.TheVariants as seen
use Rattle.nest_lang.specs.declared.observe.Stop.{Stop}
use Rattle.nest_lang.specs.declared.state.Outer.{Outer}
use Rattle.nest_lang.specs.Values.{same, turn_value, trip_count}
use Rattle.nest_lang.specs.Stores.{Store, Effect, Nothing, Local, Scalar}
use Rattle.nest_lang.specs.Lookups.{Expectation, look_load, look_store}
use Rattle.nest_lang.specs.Blocks.{block_ref, same_part, same_block}
use Rattle.nest_lang.specs.Traces.{Observation, Entry, Halt, Trace, joined, and_then, after_all, in_turn, Transition, step_of, traced, seen_of, seen_in}
use Rattle.nest_lang.specs.Expressions.{Frame, Told, then_tell, or_stopped, expression_level, told_by, told, shown}
use Rattle.nest_lang.specs.Statements.{with_value, stored, statement_level, statement_trace, block_trace, started, announced, scalars_from, shown_before, instance_trace}
use Rattle.nest_lang.specs.Heads.{Yield, Bounds, Tested, Headed, then_head, head_of, head_step, headed}
use Rattle.nest_lang.specs.Loops.{Around, inward, outside, frame_of, turn_trace, turns_from, turns_of, turn_if, whiles_from, loop_by, loops_trace}
use Rattle.nest_lang.specs.Turns.{number_left, counted_turns, turn_or_over, tested_turns, turns_by, turns_trace, over}
use Rattle.nest_lang.proofs.StepLaws.{told-rolled, statement-rolled}
use Rattle.line_fit.specs.Samples.{Sample}
use Rattle.profile.specs.Gathered.{given_by, is_end_of, is_of, same_seen, samples_of}
use Rattle.profile.specs.Sampled.{observation_of, observations_in}

-- an address, a scalar, or the start of an instance
abbrev IsPlain : Seen → Type 0
IsPlain seen.Start = Unit {0}
IsPlain (seen.Scalar number) = Unit {0}
IsPlain (seen.Address access) = Unit {0}
IsPlain seen.Lower = ⊥
IsPlain seen.Trip = ⊥
IsPlain seen.Condition = ⊥

observations-append : (xs ys : List Observation) → observations_in (xs ++ ys) ≡ observations_in xs ++ observations_in ys
observations-append [] ys = refl
observations-append (x ∷ xs) ys = ap (λ (zs : List Observation). observation_of x x.what ++ zs) (observations-append xs ys) ∙ sym (append_assoc (observation_of x x.what) (observations_in xs) (observations_in ys))

nil-left : (xs ys : List Sample) → xs ++ ys ≡ [] → xs ≡ []
nil-left [] ys e = refl
nil-left (x ∷ xs) ys e = absurd (cc)

nil-right : (xs ys : List Sample) → xs ++ ys ≡ [] → ys ≡ []
nil-right [] ys e = e
nil-right (x ∷ xs) ys e = absurd (cc)

-- the head of the loop at this level
module _ (D level : ℕ) where
  abbrev block : BlockRef
  block = block_ref part.Head level

  abbrev lowers : List Observation → List Sample
  lowers os = samples_of D block seen.Lower (observations_in os)

  abbrev trips : List Observation → List Sample
  trips os = samples_of D block seen.Trip (observations_in os)

  -- where no lower bound is shown, no trip is
  Comes : List Observation → Type 0
  Comes os = lowers os ≡ [] → trips os ≡ []

  samples-append : (what : Seen) (xs ys : List Observation) → samples_of D block what (observations_in (xs ++ ys)) ≡ samples_of D block what (observations_in xs) ++ samples_of D block what (observations_in ys)
  samples-append what xs ys = ap (samples_of D block what) (observations-append xs ys) ∙ flat_map-append (given_by D block what) (observations_in xs) (observations_in ys)

  append-comes : (xs ys : List Observation) → Comes xs → Comes ys → Comes (xs ++ ys)
  unfolding Comes
  append-comes xs ys h g none =
      let both = sym (samples-append seen.Lower xs ys) ∙ none in
      let one = h (nil-left (lowers xs) (lowers ys) both) in
      let two = g (nil-right (lowers xs) (lowers ys) both) in
      samples-append seen.Trip xs ys ∙ (rw (one, two) refl)

  none-comes : Comes []
  unfolding Comes
  none-comes e = refl

  -- an observation that is neither a trip nor a condition gives no trip
  given-none : (o : Observation) → same_seen o.what seen.Trip ≡ false → same_seen o.what seen.Condition ≡ false → given_by D block seen.Trip o ≡ []
  given-none o no_trip no_condition =
      let one : is_of block seen.Trip o ≡ false = ap (λ (b : Bool). same_block o.at.block block && b) no_trip ∙ and-false (same_block o.at.block block) in
      let two : is_end_of block o ≡ false = ap (λ (b : Bool). b && int_eq o.value (pos 0)) (ap (λ (b : Bool). same_block o.at.block block && b) no_condition ∙ and-false (same_block o.at.block block)) in
      rw (one, two) refl

  -- nor does one of another block
  given-other : (o : Observation) → same_block o.at.block block ≡ false → given_by D block seen.Trip o ≡ []
  given-other o other =
      let one : is_of block seen.Trip o ≡ false = ap (λ (b : Bool). b && same_seen o.what seen.Trip) other in
      let two : is_end_of block o ≡ false = ap (λ (b : Bool). (b && same_seen o.what seen.Condition) && int_eq o.value (pos 0)) other in
      rw (one, two) refl

  plain-comes : (f : Frame) (what : Seen) (v : ℤ) (os : List Observation) → IsPlain what → Comes os → Comes (shown f what v ∷ os)
  unfolding Comes
  plain-comes f what v os is h = append-comes (shown f what v ∷ []) os (one what is) h
    where
      one : (what : Seen) → IsPlain what → Comes (shown f what v ∷ [])
      one seen.Start is = λ none. refl
      one (seen.Scalar number) is = λ none. rw (given-none (shown f (seen.Scalar number) v) refl refl) refl
      one (seen.Address access) is = λ none. rw (given-none (shown f (seen.Address access) v) refl refl) refl
      one seen.Lower is = absurd is
      one seen.Trip is = absurd is
      one seen.Condition is = absurd is

  -- ---- steps

  abbrev Tells : Entry → Type 0
  Tells e = Comes e.before × Comes e.seen

  abbrev Shows : Trace → Type 0
  Shows t = AllByRecursion Tells t.entries

  all-append : (xs ys : List Entry) → AllByRecursion Tells xs → AllByRecursion Tells ys → AllByRecursion Tells (xs ++ ys)
  all-append [] ys h g = g
  all-append (x ∷ xs) ys h g = (h.0, all-append xs ys h.1 g)

  joined-shows : (halt : Option Halt) (es : List Entry) (more : Trace) → AllByRecursion Tells es → Shows more → Shows (joined halt es more)
  joined-shows (Some halt) es more h g = h
  joined-shows None es more h g = all-append es more.entries h g

  and_then-shows : (s : Store) (t : Trace) (go : Store → Trace) → Shows t → ((u : Store) → Shows (go u)) → Shows (and_then s t go)
  and_then-shows s t go h each = joined-shows t.halt t.entries (go (after_all s t.entries)) h (each (after_all s t.entries))

  record Steps (st : Transition) : Type 0 where
    before : Comes st.entry.before
    seen : Comes st.entry.seen
    rest : (u : Store) → Shows (in_turn st.rest u)

  traced-shows : (st : Transition) (s : Store) → Steps st → Shows (traced st s)
  traced-shows st s h = joined-shows st.halt (st.entry ∷ []) (in_turn st.rest _) ((h.before, h.seen), tt) (h.rest _)

  only-shows : (f : Store → Trace) → ((s : Store) → Shows (f s)) → (s : Store) → Shows (in_turn (f ∷ []) s)
  only-shows f each s = and_then-shows s (f s) (in_turn []) (each s) (λ u. tt)

  two-shows : (f g : Store → Trace) → ((s : Store) → Shows (f s)) → ((s : Store) → Shows (g s)) → (s : Store) → Shows (in_turn (f ∷ g ∷ []) s)
  two-shows f g each more s = and_then-shows s (f s) (in_turn (g ∷ [])) (each s) (only-shows g more)

  -- ---- expressions

  then_tell-comes : (os : List Observation) (v : Result ℤ Halt) (go : ℤ → Told) → Comes os → ((z : ℤ) → Comes (go z).seen) → Comes (then_tell os v go).seen
  then_tell-comes os (Ok z) go h each = append-comes os (go z).seen h (each z)
  then_tell-comes os (Err halt) go h each = h

  module _ (f : Frame) (scalars locals : List ℤ) (find : ℕ → ℤ → Result ℤ Stop) where
    Told-comes : Expr → Type 0
    Told-comes e = Comes (told_by f scalars locals find e).seen

    level-comes : (y : Expr-F ((e : Expr) × Told-comes e)) → Comes (expression_level f scalars locals find (map-Expr _ _ (told_by f scalars locals find) (map-Expr _ _ (λ e. e.0) y))).seen
    unfolding Told-comes
    level-comes (Expr-F.Number n) = none-comes
    level-comes (Expr-F.Var place) = none-comes
    level-comes (Expr-F.Load access a) = then_tell-comes _ _ _ a.1 (λ z. plain-comes f (seen.Address access) z [] tt none-comes)
    level-comes (Expr-F.Neg a) = then_tell-comes _ _ _ a.1 (λ z. none-comes)
    level-comes (Expr-F.Two op a b) = then_tell-comes _ _ _ a.1 (λ z. then_tell-comes _ _ _ b.1 (λ v. none-comes))

    tells : (e : Expr) → Told-comes e
    unfolding Told-comes
    tells = ind-Expr Told-comes (λ y z is. subst (λ w. Told-comes (roll-Expr w)) is
        (subst (λ (p : Told). Comes p.seen) (sym (told-rolled f scalars locals find (map-Expr _ _ (λ e. e.0) z))) (level-comes z)))

  told-comes : (f : Frame) (s : Store) (e : Expr) → Comes (told f s e).seen
  unfolding Told-comes
  told-comes f s e = tells f s.scalars s.locals (look_load f.expects s.memory) e

  -- ---- statements

  with_value-steps : (os : List Observation) (v : Result ℤ Halt) (go : ℤ → Transition) → Comes os → ((z : ℤ) → Steps (go z)) → Steps (with_value os v go)
  with_value-steps os (Ok z) go h each = each z
  with_value-steps os (Err halt) go h each = record { before = none-comes; seen = h; rest = λ u. tt }

  stored-steps : (os : List Observation) (address v : ℤ) (r : Result ℤ Halt) → Comes os → Steps (stored os address v r)
  stored-steps os address v (Ok old) h = record { before = none-comes; seen = h; rest = λ u. tt }
  stored-steps os address v (Err halt) h = record { before = none-comes; seen = h; rest = λ u. tt }

  module _ (f : Frame) where
    Runs : Stmt → Type 0
    Runs x = (s : Store) → Shows (statement_trace f x s)

    all-show : (xs : List ((x : Stmt) × Runs x)) (s : Store) → Shows (in_turn (map (statement_trace f) (map (λ e. e.0) xs)) s)
    unfolding Runs
    all-show [] s = tt
    all-show (x ∷ xs) s = and_then-shows s (statement_trace f x.0 s) (in_turn (map (statement_trace f) (map (λ e. e.0) xs))) (x.1 s) (all-show xs)

    if-steps : (os : List Observation) (v : Result ℤ Halt) (first second : List (Store → Trace)) → Comes os → ((u : Store) → Shows (in_turn first u)) → ((u : Store) → Shows (in_turn second u))
        → Steps (with_value os v (λ z. step_of [] os Nothing None (if same z (pos 0) then second else first)))
    if-steps os v first second h one two = with_value-steps os v _ h (λ z. record { before = none-comes; seen = h; rest = λ u. chosen (same z (pos 0)) u })
      where
        chosen : (b : Bool) (u : Store) → Shows (in_turn (if b then second else first) u)
        chosen true u = two u
        chosen false u = one u

    -- a step that nothing follows
    last-step : (os : List Observation) (effect : Effect) → Comes os → Steps (step_of [] os effect None [])
    last-step os effect h = record { before = none-comes; seen = h; rest = λ u. tt }

    level-steps : (y : Stmt-F ((x : Stmt) × Runs x)) (s : Store) → Steps (statement_level f (map-Stmt _ _ (statement_trace f) (map-Stmt _ _ (λ e. e.0) y)) s)
    unfolding Runs
    level-steps (Stmt-F.Let number e) s =
        with_value-steps (told f s e).seen (told f s e).value (λ v. step_of [] (told f s e).seen (Local number v) None []) (told-comes f s e) (λ z. last-step (told f s e).seen (Local number z) (told-comes f s e))
    level-steps (Stmt-F.Set number e) s =
        with_value-steps (told f s e).seen (told f s e).value (λ v. step_of [] (told f s e).seen (Scalar number v) None []) (told-comes f s e) (λ z. last-step (told f s e).seen (Scalar number z) (told-comes f s e))
    level-steps (Stmt-F.Store access a e) s =
        let both = append-comes (told f s a).seen (told f s e).seen (told-comes f s a) (told-comes f s e) in
        with_value-steps (told f s a).seen (told f s a).value
        (λ z. with_value ((told f s a).seen ++ (told f s e).seen) (told f s e).value (λ v. stored ((told f s a).seen ++ (told f s e).seen ++ shown f (seen.Address access) z ∷ []) z v (or_stopped access (look_store f.expects s.memory access z))))
        (told-comes f s a)
        (λ z. with_value-steps ((told f s a).seen ++ (told f s e).seen) (told f s e).value
        (λ v. stored ((told f s a).seen ++ (told f s e).seen ++ shown f (seen.Address access) z ∷ []) z v (or_stopped access (look_store f.expects s.memory access z))) both
        (λ v. stored-steps ((told f s a).seen ++ (told f s e).seen ++ shown f (seen.Address access) z ∷ []) z v (or_stopped access (look_store f.expects s.memory access z))
        (append-comes ((told f s a).seen ++ (told f s e).seen) (shown f (seen.Address access) z ∷ []) both (plain-comes f (seen.Address access) z [] tt none-comes))))
    level-steps (Stmt-F.If e first second) s =
        if-steps (told f s e).seen (told f s e).value (map (statement_trace f) (map (λ e. e.0) first)) (map (statement_trace f) (map (λ e. e.0) second)) (told-comes f s e) (all-show first) (all-show second)

    statements-show : (x : Stmt) → Runs x
    unfolding Runs
    statements-show = ind-Stmt Runs (λ y z is. subst (λ w. Runs (roll-Stmt w)) is
        (λ s. subst (λ (p : Store → Trace). Shows (p s)) (sym (statement-rolled f (map-Stmt _ _ (λ e. e.0) z))) (traced-shows _ s (level-steps z s))))

    announced-comes : (s : Store) → Comes (announced f s)
    unfolding announced
    announced-comes s = plain-comes f seen.Start (pos 0) (scalars_from f 0 s.scalars) tt (each 0 s.scalars)
      where
        each : (number : ℕ) (vs : List ℤ) → Comes (scalars_from f number vs)
        each number [] = none-comes
        each number (v ∷ vs) = plain-comes f (seen.Scalar number) v (scalars_from f (suc number) vs) tt (each (suc number) vs)

    before-shows : (os : List Observation) (es : List Entry) → Comes os → AllByRecursion Tells es → AllByRecursion Tells (shown_before os es)
    before-shows os [] h k = tt
    before-shows os (e ∷ es) h k = ((append-comes os e.before h k.0.0, k.0.1), k.1)

    instance-shows : (statements : List Stmt) (s : Store) → Shows (instance_trace f statements s)
    unfolding instance_trace block_trace Runs
    instance-shows statements s = before-shows (announced f s) (block_trace f statements (started s)).entries (announced-comes s) (each statements (started s))
      where
        each : (statements : List Stmt) (s : Store) → Shows (in_turn (map (statement_trace f) statements) s)
        each [] s = tt
        each (x ∷ xs) s = and_then-shows s (statement_trace f x s) (in_turn (map (statement_trace f) xs)) (statements-show x s) (each xs)

    -- ---- heads

    then_head-comes : (os : List Observation) (v : Result ℤ Halt) (go : ℤ → Headed) → Comes os → ((z : ℤ) → Comes (go z).seen) → Comes (then_head os v go).seen
    then_head-comes os (Ok z) go h each = append-comes os (go z).seen h (each z)
    then_head-comes os (Err halt) go h each = h

    -- a `while` of another level
    abbrev IsAside : Head → Type 0
    IsAside (For lower upper stride) = Unit {0}
    IsAside (While condition) = f.at.block.level ≡ level → ⊥

    -- the bounds of a `for` come together
    bounds-come : (from : ℤ) (trip : ℕ) → Comes (shown f seen.Lower from ∷ shown f seen.Trip (pos trip) ∷ [])
    unfolding Comes
    bounds-come from trip = by (same_block f.at.block block) refl
      where
        by : (b : Bool) → same_block f.at.block block ≡ b → Comes (shown f seen.Lower from ∷ shown f seen.Trip (pos trip) ∷ [])
        by true here = λ none. let is : is_of block seen.Lower (shown f seen.Lower from) ≡ true = ap (λ (b : Bool). b && true) here in let e = rw is at none in absurd (cc)
        by false other = λ none. rw (given-other (shown f seen.Lower from) other, given-other (shown f seen.Trip (pos trip)) other) refl

    condition-comes : (v : ℤ) → (f.at.block.level ≡ level → ⊥) → Comes (shown f seen.Condition v ∷ [])
    unfolding Comes
    condition-comes v other = by (same_block f.at.block block) refl
      where
        by : (b : Bool) → same_block f.at.block block ≡ b → Comes (shown f seen.Condition v ∷ [])
        by true here = let number : nat_eq f.at.block.level level ≡ true = (and_parts (same_part f.at.block.part part.Head) (nat_eq f.at.block.level level) here).1 in absurd (other (grind (arith, nat_tests, number)))
        by false apart = λ none. rw (given-other (shown f seen.Condition v) apart) refl

    head-comes : (head : Head) (s : Store) → IsAside head → Comes (head_of f head s).seen
    unfolding head_of
    head-comes (For lower upper stride) s aside = then_head-comes _ _ _ (told-comes f s lower) (λ from. then_head-comes _ _ _ (told-comes f s upper) (λ to. bounds-come from (trip_count from to stride)))
    head-comes (While condition) s aside = then_head-comes _ _ _ (told-comes f s condition) (λ v. condition-comes _ aside)

    head_step-shows : (before os : List Observation) (r : Result Yield Halt) (go : Yield → List (Store → Trace)) (s : Store) → Comes before → Comes os → ((y : Yield) (u : Store) → Shows (in_turn (go y) u)) → Shows (traced (head_step before os r go) s)
    head_step-shows before os (Ok y) go s h k each = traced-shows (step_of before os Nothing None (go y)) s (record { before = h; seen = k; rest = each y })
    head_step-shows before os (Err halt) go s h k each = traced-shows (step_of before os Nothing (Some halt) []) s (record { before = h; seen = k; rest = λ u. tt })

    headed-shows : (head : Head) (go : Yield → List (Store → Trace)) (s : Store) → IsAside head → ((y : Yield) (u : Store) → Shows (in_turn (go y) u)) → Shows (traced (headed f head go s) s)
    headed-shows head go s aside each = head_step-shows _ _ _ go s (announced-comes s) (head-comes head s aside) each

  -- ---- loops

  turns_from-shows : (n t : ℕ) (turn : ℕ → Store → Trace) → ((i : ℕ) (s : Store) → Shows (turn i s)) → (s : Store) → Shows (turns_from n t turn s)
  turns_from-shows zero t turn each s = tt
  turns_from-shows (suc n) t turn each s = and_then-shows s (turn t s) (turns_from n (t + 1) turn) (each t s) (turns_from-shows n (t + 1) turn each)

  turns_of-shows : (turn : ℤ → ℕ → Store → Trace) → ((from : ℤ) (i : ℕ) (s : Store) → Shows (turn from i s)) → (y : Yield) (s : Store) → Shows (in_turn (turns_of turn y) s)
  turns_of-shows turn each (Bounds lower trip) s = only-shows (turns_from trip 0 (turn lower)) (turns_from-shows trip 0 (turn lower) (each lower)) s
  turns_of-shows turn each (Tested holds) s = tt

  turn_if-shows : (turn more : Store → Trace) → ((s : Store) → Shows (turn s)) → ((s : Store) → Shows (more s)) → (y : Yield) (s : Store) → Shows (in_turn (turn_if turn more y) s)
  turn_if-shows turn more each rest (Bounds lower trip) s = tt
  turn_if-shows turn more each rest (Tested true) s = two-shows turn more each rest s
  turn_if-shows turn more each rest (Tested false) s = tt

  whiles_from-shows : (n t : ℕ) (frame : ℕ → Frame) (head : Head) (turn : ℕ → Store → Trace) → ((i : ℕ) → IsAside (frame i) head) → ((i : ℕ) (s : Store) → Shows (turn i s)) → (s : Store) → Shows (whiles_from n t frame head turn s)
  whiles_from-shows zero t frame head turn aside each s = tt
  whiles_from-shows (suc n) t frame head turn aside each s = headed-shows (frame t) head _ s (aside t) (turn_if-shows (turn t) _ (each t) (whiles_from-shows n (t + 1) frame head turn aside each))

  abbrev IsAsideAt : ℕ → Head → Type 0
  IsAsideAt at (For lower upper stride) = Unit {0}
  IsAsideAt at (While condition) = at ≡ level → ⊥

  loop_by-shows : (h : Head) (x : Expectation) (k at : ℕ) (turn : Around → Store → Trace) → IsAsideAt at h → ((a : Around) (s : Store) → Shows (turn a s)) → (a : Around) (s : Store) → Shows (loop_by h x k at h turn a s)
  loop_by-shows (For lower upper stride) x k at turn aside each a s = headed-shows (frame_of x part.Head at a) (For lower upper stride) _ s tt (turns_of-shows _ (λ from i u. each (inward a i (turn_value from stride i)) u))
  loop_by-shows (While condition) x k at turn aside each a s = whiles_from-shows k 0 _ (While condition) _ (λ i. aside) (λ i u. each (inward a i (pos i)) u) s

  turn_trace-shows : (x : Expectation) (at : ℕ) (l : Loop) (inner : Around → Store → Trace) → ((a : Around) (s : Store) → Shows (inner a s)) → (a : Around) (s : Store) → Shows (turn_trace x at l inner a s)
  unfolding turn_trace
  turn_trace-shows x at l inner each a s =
      and_then-shows s (instance_trace (frame_of x part.Pre at a) l.pre s) (in_turn (inner a ∷ instance_trace (frame_of x part.Post at a) l.post ∷ [])) (instance-shows (frame_of x part.Pre at a) l.pre s)
      (two-shows (inner a) (instance_trace (frame_of x part.Post at a) l.post) (each a) (instance-shows (frame_of x part.Post at a) l.post))

  -- each `while` among loops, the outermost of which is at that level, is at another
  abbrev AreAside : ℕ → List Loop → Type 0
  AreAside at [] = Unit {0}
  AreAside at (l ∷ ls) = IsAsideAt at l.head × AreAside (at + 1) ls

  loops_trace-shows : (x : Expectation) (k at : ℕ) (ls : List Loop) → AreAside at ls → (a : Around) (s : Store) → Shows (loops_trace x k at ls a s)
  loops_trace-shows x k at [] aside a s = tt
  loops_trace-shows x k at (l ∷ ls) aside a s = loop_by-shows l.head x k at _ aside.0 (turn_trace-shows x at l _ (loops_trace-shows x k (at + 1) ls aside.1)) a s

  -- ---- turns

  counted-shows : (c n t : ℕ) (turn : ℕ → Store → Trace) → ((i : ℕ) (s : Store) → Shows (turn i s)) → (s : Store) → Shows (counted_turns c n t turn s)
  counted-shows zero n t turn each s = tt
  counted-shows (suc c) zero t turn each s = tt
  counted-shows (suc c) (suc n) t turn each s = and_then-shows s (turn t s) (counted_turns c n (t + 1) turn) (each t s) (counted-shows c n (t + 1) turn each)

  turn_or_over-shows : (turn more : Store → Trace) → ((s : Store) → Shows (turn s)) → ((s : Store) → Shows (more s)) → (y : Yield) (s : Store) → Shows (in_turn (turn_or_over turn more y) s)
  turn_or_over-shows turn more each rest (Bounds lower trip) s = only-shows (λ u. over) (λ u. tt) s
  turn_or_over-shows turn more each rest (Tested true) s = two-shows turn more each rest s
  turn_or_over-shows turn more each rest (Tested false) s = only-shows (λ u. over) (λ u. tt) s

  tested-shows : (c t : ℕ) (frame : ℕ → Frame) (head : Head) (turn : ℕ → Store → Trace) → ((i : ℕ) → IsAside (frame i) head) → ((i : ℕ) (s : Store) → Shows (turn i s)) → (s : Store) → Shows (tested_turns c t frame head turn s)
  tested-shows zero t frame head turn aside each s = tt
  tested-shows (suc c) t frame head turn aside each s = headed-shows (frame t) head _ s (aside t) (turn_or_over-shows (turn t) (tested_turns c (t + 1) frame head turn) (each t) (tested-shows c (t + 1) frame head turn aside each))

  turns_by-shows : (h : Head) (x : Expectation) (turn : Around → Store → Trace) → IsAsideAt 1 h → ((a : Around) (s : Store) → Shows (turn a s)) → (o : Outer) (c : ℕ) (s : Store) → Shows (turns_by h x h turn o c s)
  turns_by-shows (For lower upper stride) x turn aside each o c s = counted-shows c (number_left o.left) _ _ (λ i u. each (inward outside i (turn_value o.lower stride i)) u) s
  turns_by-shows (While condition) x turn aside each o c s = tested-shows c _ _ (While condition) _ (λ i. aside) (λ i u. each (inward outside i (pos i)) u) s

  turns-show : (x : Expectation) (k : ℕ) (loops : List Loop) (o : Outer) (c : ℕ) (s : Store) → AreAside 1 loops → Shows (turns_trace x k loops o c s)
  unfolding turns_trace
  turns-show x k [] o c s aside = tt
  turns-show x k (l ∷ ls) o c s aside = turns_by-shows l.head x _ aside.0 (turn_trace-shows x 1 l _ (loops_trace-shows x k 2 ls aside.1)) o c s

  seen-comes : (es : List Entry) (n : ℕ) → AllByRecursion Tells es → Comes (seen_of es n)
  seen-comes [] n h = none-comes
  seen-comes (e ∷ es) zero h = h.0.0
  seen-comes (e ∷ es) (suc n) h = append-comes (e.before ++ e.seen) (seen_of es n) (append-comes e.before e.seen h.0.0 h.0.1) (seen-comes es n h.1)

  -- the loop at this level is a `for`
  aside-by : (at : ℕ) (h : Head) (lower upper : Expr) (stride : ℤ) → (at ≡ level → h ≡ For lower upper stride) → IsAsideAt at h
  aside-by at (For from to by) lower upper stride is = tt
  aside-by at (While condition) lower upper stride is = λ e. let s = is e in absurd (cc)

  all-aside : (at : ℕ) (ls : List Loop) (lower upper : Expr) (stride : ℤ) → ((j : ℕ) (l : Loop) → slice_get ls j ≡ Some l → at + j ≡ level → l.head ≡ For lower upper stride) → AreAside at ls
  all-aside at [] lower upper stride is = tt
  all-aside at (l ∷ ls) lower upper stride is =
      (aside-by at l.head lower upper stride (λ e. is 0 l refl (omega (arith, e))), all-aside (at + 1) ls lower upper stride (λ j m found e. is (suc j) m found (omega (arith, e))))

  -- where no lower bound of the `for` at this level is observed in some turns, no trip of it is
  pub lowers-come : (x : Expectation) (k : ℕ) (loops : List Loop) (o : Outer) (c : ℕ) (s : Store) (left : ℕ) (lower upper : Expr) (stride : ℤ)
      → ((j : ℕ) (l : Loop) → slice_get loops j ≡ Some l → 1 + j ≡ level → l.head ≡ For lower upper stride)
      → samples_of D (block_ref part.Head level) seen.Lower (observations_in (seen_in (turns_trace x k loops o c s) left)) ≡ []
      → samples_of D (block_ref part.Head level) seen.Trip (observations_in (seen_in (turns_trace x k loops o c s) left)) ≡ []
  unfolding seen_in Comes
  lowers-come x k loops o c s left lower upper stride is none = seen-comes (turns_trace x k loops o c s).entries left (turns-show x k loops o c s (all-aside 1 loops lower upper stride is)) none
