-- What is seen in a run whose numbers are i64s: its values are i64s, and its trips stay within reach.
use Rattle.std.proofs.Common.{◌≡◌, refl, sym, ap, subst, ◌∙◌, ℕ, zero, suc, ◌+◌, ◌-◌, ◌*◌, ◌<◌, ◌≤◌, ◌^◌, ℤ, pos, negsuc, unsigned_abs, Bool, true, false, List, [], ◌∷◌, ◌++◌, length, length-append, map, take, get_or, Option, Some, None, Result, Ok, Err, arith}
use Rattle.std.specs.Prelude.{if◌then◌else◌, slice_get, not}
use Rattle.std.specs.List.{All, flat_map}
use Rattle.std.proofs.lemmas.Bool.{and_parts}
use Rattle.std.proofs.lemmas.List.Elements.{All-append, All-cons, All-nil, All-set, All-replicate}
use Rattle.plain_lemmas.proofs.ListLaws.{All-slice_get}
use Rattle.nest_lang.specs.declared.tree.Expr.{Expr, map-Expr, roll-Expr}
use Rattle.nest_lang.specs.declared.tree.Expr.TheOpen.{Expr-F}
use Rattle.nest_lang.specs.declared.tree.Expr.TheFolds.{ind-Expr, fold-roll-Expr}
use Rattle.nest_lang.specs.declared.tree.Stmt.{Stmt, map-Stmt, roll-Stmt}
use Rattle.nest_lang.specs.declared.tree.Stmt.TheOpen.{Stmt-F}
use Rattle.nest_lang.specs.declared.tree.Stmt.TheFolds.{ind-Stmt, fold-roll-Stmt}
use Rattle.nest_lang.specs.declared.tree.Head.{Head}
use Rattle.nest_lang.specs.declared.tree.Head.TheVariants.{For, While}
use Rattle.nest_lang.specs.declared.tree.Loop.{Loop}
use Rattle.nest_lang.specs.declared.tree.Part.TheVariants as part
use Rattle.nest_lang.specs.declared.tree.Place.{Place}
use Rattle.nest_lang.specs.declared.tree.Place.TheVariants as place
use Rattle.nest_lang.specs.declared.tree.Trap.{Trap}
use Rattle.nest_lang.specs.declared.observe.Seen.{Seen}
use Rattle.nest_lang.specs.declared.observe.Seen.TheVariants as seen
use Rattle.nest_lang.specs.declared.observe.Stop.{Stop}
use Rattle.nest_lang.specs.declared.observe.Stop.TheVariants as stop
use Rattle.nest_lang.specs.declared.state.Outer.{Outer}
use Rattle.nest_lang.specs.Values.{same, apply_of, negate_of, turn_value, trip_count}
use Rattle.nest_lang.specs.Stores.{Store, Effect, Nothing, Local, Scalar, Word, effect_on, word_at}
use Rattle.nest_lang.specs.Lookups.{plain, look, look_load, look_store, word_or_outside}
use Rattle.nest_lang.specs.Blocks.{loop_at}
use Rattle.nest_lang.specs.Traces.{Occurrence, Observation, Entry, Halt, Trace, joined, after_all, in_turn, Transition, step_of, traced, seen_of}
use Rattle.nest_lang.specs.Expressions.{Frame, shown, Told, then_tell, or_trapped, or_stopped, place_value, expression_level, told_by, told}
use Rattle.nest_lang.specs.Statements.{with_value, stored, statement_level, statement_trace, block_trace, started, scalars_from, announced, shown_before, instance_trace}
use Rattle.nest_lang.specs.Heads.{Yield, Bounds, Tested, Headed, then_head, as_number, head_of, head_step, headed}
use Rattle.nest_lang.specs.Loops.{Around, inward, outside, frame_of, turn_trace, turns_from, turns_of, turn_if, whiles_from, loop_by, loops_trace}
use Rattle.nest_lang.specs.Rules.{strides, has_statements, loop_keeps}
use Rattle.nest_lang.specs.Turns.{over, counted_turns, turn_or_over, tested_turns, number_left, turns_by, turns_trace, IsPosition}
use Rattle.nest_lang.proofs.StepLaws.{told-rolled, statement-rolled}
use Rattle.domain.specs.Tables.{stride_size}
use Rattle.domain.specs.Shapes.{kind_of}
use Rattle.profile.specs.Reach.{expression_numbers, statement_numbers, block_numbers, head_numbers, all_in, HasI64s, IsOfI64s, IsValueOf, HasValue}
use Rattle.profile.specs.Reach as reach
use Rattle.profile.proofs.NumberLaws.{I64, IsOkI64, apply-fits, negate-fits, pos-fits, trip-fits, turn-fits, trip-reach}

-- ---- lists

abbrev pub Each : {A : Type 0} → (A → Type 0) → List A → Type 0
Each P [] = Unit {0}
Each P (x ∷ xs) = P x × Each P xs

pub each-append : {A : Type 0} (P : A → Type 0) (xs ys : List A) → Each P xs → Each P ys → Each P (xs ++ ys)
each-append P [] ys h g = g
each-append P (x ∷ xs) ys h g = (h.0, each-append P xs ys h.1 g)

each-left : {A : Type 0} (P : A → Type 0) (xs ys : List A) → Each P (xs ++ ys) → Each P xs
each-left P [] ys h = tt
each-left P (x ∷ xs) ys h = (h.0, each-left P xs ys h.1)

pub each-right : {A : Type 0} (P : A → Type 0) (xs ys : List A) → Each P (xs ++ ys) → Each P ys
each-right P [] ys h = h
each-right P (x ∷ xs) ys h = each-right P xs ys h.1

pub all-each : {A : Type 0} (P : A → Type 0) (xs : List A) → All P xs → Each P xs
all-each P [] h = tt
all-each P (x ∷ xs) h = (h 0 x (omega arith), all-each P xs (λ k d l. h (suc k) d (omega (arith, l))))

get-fits : (xs : List ℤ) (i : ℕ) → All I64 xs → I64 (get_or xs i (pos 0))
get-fits [] i h = pos-fits 0 (omega arith)
get-fits (x ∷ xs) zero h = h 0 x (omega arith)
get-fits (x ∷ xs) (suc i) h = get-fits xs i (λ k d l. h (suc k) d (omega (arith, l)))

-- ---- a trace takes a step, unless it halts

abbrev Takes : Trace → Type 0
Takes t = t.halt ≡ None → 0 < length t.entries

join-first : (halt : Option Halt) (es : List Entry) (more : Trace) → (halt ≡ None → 0 < length es) → Takes (joined halt es more)
join-first (Some h) es more some = λ none. absurd (cc)
join-first None es more some = λ none. let a = some refl in let b = length-append es more.entries in omega (arith, a, b)

join-second : (halt : Option Halt) (es : List Entry) (more : Trace) → Takes more → Takes (joined halt es more)
join-second (Some h) es more some = λ none. absurd (cc)
join-second None es more some = λ none. let a = some none in let b = length-append es more.entries in omega (arith, a, b)

traced-some : (st : Transition) (s : Store) → 0 < length (traced st s).entries
traced-some st s = by st.halt
  where
    by : (halt : Option Halt) → 0 < length (joined halt (st.entry ∷ []) (in_turn st.rest (effect_on s st.entry.effect))).entries
    by (Some h) = omega arith
    by None = omega arith

shown_before-length : (os : List Observation) (es : List Entry) → length (shown_before os es) ≡ length es
shown_before-length os [] = refl
shown_before-length os (e ∷ es) = refl

statement-some : (f : Frame) (x : Stmt) (s : Store) → 0 < length (statement_trace f x s).entries
statement-some f = ind-Stmt (λ x. (s : Store) → 0 < length (statement_trace f x s).entries) (λ y z is. subst (λ w. (s : Store) → 0 < length (statement_trace f (roll-Stmt w) s).entries) is
    (λ s. subst (λ (p : Store → Trace). 0 < length (p s).entries) (sym (statement-rolled f (map-Stmt _ _ (λ e. e.0) z))) (traced-some (statement_level f (map-Stmt _ _ (statement_trace f) (map-Stmt _ _ (λ e. e.0) z)) s) s)))

some-steps : (f : Frame) (block : List Stmt) (s : Store) → has_statements block ≡ true → Takes (block_trace f block s)
unfolding block_trace
some-steps f [] s h = absurd (cc)
some-steps f (x ∷ xs) s h = join-first (statement_trace f x s).halt (statement_trace f x s).entries (in_turn (map (statement_trace f) xs) (after_all s (statement_trace f x s).entries)) (λ none. statement-some f x s)

instance-takes : (f : Frame) (block : List Stmt) (s : Store) → has_statements block ≡ true → Takes (instance_trace f block s)
unfolding instance_trace
instance-takes f block s h = λ none. let some = some-steps f block (started s) h none in let size = shown_before-length (announced f s) (block_trace f block (started s)).entries in omega (arith, some, size)

module _ (B : ℕ) (small : B ≤ 2 ^ 33) (loops : List Loop) where
  -- ---- what is seen

  abbrev IsRepeat : Head → Type 0
  IsRepeat (For lower upper stride) = ⊥
  IsRepeat (While condition) = Unit {0}

  abbrev pub GoodAt : Seen → Head → ℤ → Type 0
  GoodAt seen.Start h v = Unit {0}
  GoodAt (seen.Scalar number) h v = Unit {0}
  GoodAt (seen.Address access) h v = Unit {0}
  GoodAt seen.Lower h v = Unit {0}
  GoodAt seen.Trip h v = stride_size (kind_of h) * unsigned_abs v ≤ 2 ^ 65
  GoodAt seen.Condition h v = IsRepeat h

  abbrev IsSmall : ℤ → Type 0
  IsSmall z = unsigned_abs z ≤ B

  -- an observation whose counters are small, whose value stays within reach of the loop at its level, and is one of its kind
  abbrev pub Good : Observation → Type 0
  Good o = Each IsSmall o.at.counters × ((l : Loop) → loop_at loops o.at.block.level ≡ Some l → GoodAt o.what l.head o.value) × HasValue o

  abbrev EffectFits : Effect → Type 0
  EffectFits Nothing = Unit {0}
  EffectFits (Local number v) = I64 v
  EffectFits (Scalar number v) = I64 v
  EffectFits (Word address v) = I64 v

  -- what n steps show is good, and what they change is an i64
  abbrev pub Sound : ℕ → List Entry → Type 0
  Sound n [] = Unit {0}
  Sound zero (e ∷ es) = Each Good e.before
  Sound (suc n) (e ∷ es) = Each Good e.before × Each Good e.seen × EffectFits e.effect × Sound n es

  effect-fits : (s : Store) (e : Effect) → EffectFits e → IsOfI64s s → IsOfI64s (effect_on s e)
  effect-fits s Nothing h f = f
  effect-fits s (Local number v) h f = record { memory = f.memory; scalars = f.scalars; locals = All-set I64 s.locals number v h f.locals }
  effect-fits s (Scalar number v) h f = record { memory = f.memory; scalars = All-set I64 s.scalars number v h f.scalars; locals = f.locals }
  effect-fits s (Word address v) h f = record { memory = All-set I64 s.memory address v h f.memory; scalars = f.scalars; locals = f.locals }

  pub after-fits : (n : ℕ) (s : Store) (es : List Entry) → Sound n es → length es ≤ n → IsOfI64s s → IsOfI64s (after_all s es)
  after-fits n s [] h l f = f
  after-fits zero s (e ∷ es) h l f = absurd (omega (arith, l))
  after-fits (suc n) s (e ∷ es) h l f = after-fits n (effect_on s e.effect) es h.3 (omega (arith, l)) (effect-fits s e.effect h.2 f)

  -- the store where the steps that are left end
  pub cut-fits : (n : ℕ) (s : Store) (es : List Entry) → Sound n es → IsOfI64s s → IsOfI64s (after_all s (take n es))
  cut-fits zero s [] h f = f
  cut-fits zero s (e ∷ es) h f = f
  cut-fits (suc n) s [] h f = f
  cut-fits (suc n) s (e ∷ es) h f = cut-fits n (effect_on s e.effect) es h.3 (effect-fits s e.effect h.2 f)

  sound-append : (n : ℕ) (xs ys : List Entry) → Sound n xs → ((j : ℕ) → j + length xs ≡ n → Sound j ys) → Sound n (xs ++ ys)
  sound-append n [] ys h rest = rest n (omega arith)
  sound-append zero (e ∷ es) ys h rest = h
  sound-append (suc n) (e ∷ es) ys h rest = (h.0, h.1, h.2, sound-append n es ys h.3 (λ j q. rest j (omega (arith, q))))

  pub sound-seen : (n : ℕ) (es : List Entry) → Sound n es → Each Good (seen_of es n)
  sound-seen n [] h = tt
  sound-seen zero (e ∷ es) h = h
  sound-seen (suc n) (e ∷ es) h = each-append Good (e.before ++ e.seen) (seen_of es n) (each-append Good e.before e.seen h.0 h.1) (sound-seen n es h.3)

  join-sound : (n : ℕ) (s : Store) (halt : Option Halt) (es : List Entry) (go : Store → Trace) → Sound n es → IsOfI64s s
      → ((j : ℕ) → j + length es ≡ n → halt ≡ None → (u : Store) → IsOfI64s u → Sound j (go u).entries) → Sound n (joined halt es (go (after_all s es))).entries
  join-sound n s (Some h) es go st f rest = st
  join-sound n s None es go st f rest = sound-append n es (go (after_all s es)).entries st (λ j q. rest j q refl (after_all s es) (after-fits n s es st (omega (arith, q)) f))

  abbrev FineTo : ℕ → (Store → Trace) → Type 0
  FineTo n f = (j : ℕ) → j ≤ n → (u : Store) → IsOfI64s u → Sound j (f u).entries

  in_turn-fine : (n : ℕ) (fs : List (Store → Trace)) → Each (FineTo n) fs → FineTo n (in_turn fs)
  in_turn-fine n [] h j l u f = tt
  in_turn-fine n (g ∷ gs) h j l u f = join-sound j u (g u).halt (g u).entries (in_turn gs) (h.0 j l u f) f (λ i q none w fw. in_turn-fine n gs h.1 i (omega (arith, q, l)) w fw)

  no-more : (n : ℕ) → FineTo n (in_turn [])
  no-more n = in_turn-fine n [] tt

  one-entry : (n : ℕ) (e : Entry) → Each Good e.before → Each Good e.seen → EffectFits e.effect → Sound n (e ∷ [])
  one-entry zero e before seen_good fits = before
  one-entry (suc n) e before seen_good fits = (before, seen_good, fits, tt)

  traced-sound : (n : ℕ) (st : Transition) (s : Store) → Each Good st.entry.before → Each Good st.entry.seen → EffectFits st.entry.effect → IsOfI64s s → ((j : ℕ) → suc j ≡ n → FineTo j (in_turn st.rest)) → Sound n (traced st s).entries
  traced-sound n st s before seen_good fits f rest =
      join-sound n s st.halt (st.entry ∷ []) (in_turn st.rest) (one-entry n st.entry before seen_good fits) f (λ j q none u fu. rest j (omega (arith, q)) j (omega arith) u fu)

  -- the turns of a `for` have i64s as values of its name
  abbrev YieldsTo : ℤ → Yield → Type 0
  YieldsTo stride (Bounds from trip) = (i : ℕ) → i < trip → I64 (turn_value from stride i)
  YieldsTo stride (Tested holds) = Unit {0}

  -- ---- expressions, statements and heads of a frame
  module _ (at : Occurrence) (values : List ℤ) (near : Each IsSmall at.counters) (fit : All I64 values) where
    abbrev g : Frame
    g = record { at = at; values = values; expects = plain }

    shown-good : (what : Seen) (v : ℤ) → ((l : Loop) → loop_at loops at.block.level ≡ Some l → GoodAt what l.head v) → IsValueOf what v → Good (shown g what v)
    shown-good what v h is = (near, h, is)

    abbrev ToldFine : Told → Type 0
    ToldFine p = Each Good p.seen × IsOkI64 p.value

    then_tell-fine : (os : List Observation) (v : Result ℤ Halt) (go : ℤ → Told) → Each Good os → IsOkI64 v → ((z : ℤ) → I64 z → ToldFine (go z)) → ToldFine (then_tell os v go)
    then_tell-fine os (Ok z) go h f more = let m = more z f in (each-append Good os (go z).seen h m.0, m.1)
    then_tell-fine os (Err halt) go h f more = (h, tt)

    trapped-fits : (r : Result ℤ Trap) → IsOkI64 r → IsOkI64 (or_trapped r)
    trapped-fits (Ok v) h = h
    trapped-fits (Err trap) h = tt

    stopped-fits : (access : ℕ) (r : Result ℤ Stop) → IsOkI64 r → IsOkI64 (or_stopped access r)
    stopped-fits access (Ok v) h = h
    stopped-fits access (Err (stop.Outside address)) h = tt
    stopped-fits access (Err (stop.Unexpected address expected)) h = tt

    module _ (scalars locals memory : List ℤ) (fs : All I64 scalars) (fl : All I64 locals) (fm : All I64 memory) where
      place-fits : (p : Place) → I64 (place_value values scalars locals p)
      place-fits (place.Scalar number) = get-fits scalars number fs
      place-fits (place.Counter number) = get-fits values number fit
      place-fits (place.Local number) = get-fits locals number fl

      word-fits : (z : ℤ) (w : Option ℤ) → word_at memory z ≡ w → IsOkI64 (word_or_outside z w)
      word-fits z None e = tt
      word-fits (pos a) (Some w) e = All-slice_get I64 memory a w fm e
      word-fits (negsuc a) (Some w) e = absurd (cc)

      look-fits : (access : ℕ) (z : ℤ) → IsOkI64 (or_stopped access (look_load plain memory access z))
      unfolding look
      look-fits access z = stopped-fits access (word_or_outside z (word_at memory z)) (word-fits z (word_at memory z) refl)

      TellsFine : Expr → Type 0
      TellsFine e = Each I64 (expression_numbers e) → ToldFine (told_by g scalars locals (look_load plain memory) e)

      level-fine : (y : Expr-F ((e : Expr) × TellsFine e)) → Each I64 (reach.expression_level (map-Expr _ _ expression_numbers (map-Expr _ _ (λ e. e.0) y)))
          → ToldFine (expression_level g scalars locals (look_load plain memory) (map-Expr _ _ (told_by g scalars locals (look_load plain memory)) (map-Expr _ _ (λ e. e.0) y)))
      unfolding TellsFine
      level-fine (Expr-F.Number n) h = (tt, h.0)
      level-fine (Expr-F.Var p) h = (tt, place-fits p)
      level-fine (Expr-F.Load access a) h = let p = a.1 h in then_tell-fine _ _ _ p.0 p.1 (λ z f. ((shown-good (seen.Address access) z (λ l e. tt) f, tt), look-fits access z))
      level-fine (Expr-F.Neg a) h = let p = a.1 h in then_tell-fine _ _ _ p.0 p.1 (λ z f. (tt, trapped-fits (negate_of z) (negate-fits z)))
      level-fine (Expr-F.Two op a b) h =
          let p = a.1 (each-left I64 (expression_numbers a.0) (expression_numbers b.0) h) in
          let q = b.1 (each-right I64 (expression_numbers a.0) (expression_numbers b.0) h) in
          then_tell-fine _ _ _ p.0 p.1 (λ x fx. then_tell-fine _ _ _ q.0 q.1 (λ y fy. (tt, trapped-fits (apply_of op x y) (apply-fits op x y fy))))

      numbers-rolled : (y : Expr-F Expr) → expression_numbers (roll-Expr y) ≡ reach.expression_level (map-Expr _ _ expression_numbers y)
      unfolding expression_numbers
      numbers-rolled y = fold-roll-Expr (List ℤ) reach.expression_level y

      tells : (e : Expr) → TellsFine e
      unfolding TellsFine
      tells = ind-Expr TellsFine (λ y z is. subst (λ w. TellsFine (roll-Expr w)) is
          (λ h. subst (λ (p : Told). ToldFine p) (sym (told-rolled g scalars locals (look_load plain memory) (map-Expr _ _ (λ e. e.0) z))) (level-fine z (subst (Each I64) (numbers-rolled (map-Expr _ _ (λ e. e.0) z)) h))))

    told-fine : (s : Store) → IsOfI64s s → (e : Expr) → Each I64 (expression_numbers e) → ToldFine (told g s e)
    unfolding TellsFine
    told-fine s f e h = tells s.scalars s.locals s.memory f.scalars f.locals f.memory e h

    -- ---- statements
    RunsFine : Stmt → Type 0
    RunsFine x = Each I64 (statement_numbers x) → (j : ℕ) (u : Store) → IsOfI64s u → Sound j (statement_trace g x u).entries

    with_value-sound : (j : ℕ) (os : List Observation) (v : Result ℤ Halt) (go : ℤ → Transition) (u : Store) → Each Good os → IsOkI64 v → IsOfI64s u → ((z : ℤ) → I64 z → Sound j (traced (go z) u).entries) → Sound j (traced (with_value os v go) u).entries
    with_value-sound j os (Ok z) go u h f fu more = more z f
    with_value-sound j os (Err halt) go u h f fu more = traced-sound j (step_of [] os Nothing (Some halt) []) u tt h tt fu (λ i q. no-more i)

    stored-sound : (j : ℕ) (os : List Observation) (address v : ℤ) (r : Result ℤ Halt) (u : Store) → Each Good os → I64 v → IsOfI64s u → Sound j (traced (stored os address v r) u).entries
    stored-sound j os address v (Ok old) u h f fu = traced-sound j (step_of [] os (Word (unsigned_abs address) v) None []) u tt h f fu (λ i q. no-more i)
    stored-sound j os address v (Err halt) u h f fu = traced-sound j (step_of [] os Nothing (Some halt) []) u tt h tt fu (λ i q. no-more i)

    statements-fine : (n : ℕ) (xs : List ((x : Stmt) × RunsFine x)) → Each I64 (all_in (map statement_numbers (map (λ e. e.0) xs))) → FineTo n (in_turn (map (statement_trace g) (map (λ e. e.0) xs)))
    unfolding RunsFine
    statements-fine n [] h j l u f = tt
    statements-fine n (x ∷ xs) h j l u f =
        let more = all_in (map statement_numbers (map (λ e. e.0) xs)) in
        join-sound j u (statement_trace g x.0 u).halt (statement_trace g x.0 u).entries (in_turn (map (statement_trace g) (map (λ e. e.0) xs))) (x.1 (each-left I64 (statement_numbers x.0) more h) j u f) f
        (λ i q none w fw. statements-fine n xs (each-right I64 (statement_numbers x.0) more h) i (omega (arith, q, l)) w fw)

    statement_level-sound : (y : Stmt-F ((x : Stmt) × RunsFine x)) → Each I64 (reach.statement_level (map-Stmt _ _ statement_numbers (map-Stmt _ _ (λ e. e.0) y)))
        → (j : ℕ) (u : Store) → IsOfI64s u → Sound j (traced (statement_level g (map-Stmt _ _ (statement_trace g) (map-Stmt _ _ (λ e. e.0) y)) u) u).entries
    unfolding RunsFine
    statement_level-sound (Stmt-F.Let number e) h j u f =
        let p = told-fine u f e h in
        with_value-sound j _ _ _ u p.0 p.1 f (λ z fz. traced-sound j (step_of [] (told g u e).seen (Local number z) None []) u tt p.0 fz f (λ i q. no-more i))
    statement_level-sound (Stmt-F.Set number e) h j u f =
        let p = told-fine u f e h in
        with_value-sound j _ _ _ u p.0 p.1 f (λ z fz. traced-sound j (step_of [] (told g u e).seen (Scalar number z) None []) u tt p.0 fz f (λ i q. no-more i))
    statement_level-sound (Stmt-F.Store access a e) h j u f =
        let p = told-fine u f a (each-left I64 (expression_numbers a) (expression_numbers e) h) in
        let q = told-fine u f e (each-right I64 (expression_numbers a) (expression_numbers e) h) in
        let both = each-append Good (told g u a).seen (told g u e).seen p.0 q.0 in
        with_value-sound j _ _ _ u p.0 p.1 f (λ z fz. with_value-sound j _ _ _ u both q.1 f (λ v fv.
        stored-sound j _ z v (or_stopped access (look_store plain u.memory access z)) u (each-append Good ((told g u a).seen ++ (told g u e).seen) (shown g (seen.Address access) z ∷ []) both (shown-good (seen.Address access) z (λ l r. tt) fz, tt)) fv f))
    statement_level-sound (Stmt-F.If e first second) h j u f =
        let one = all_in (map statement_numbers (map (λ x. x.0) first)) in
        let two = all_in (map statement_numbers (map (λ x. x.0) second)) in
        let front = each-left I64 (expression_numbers e ++ one) two h in
        let p = told-fine u f e (each-left I64 (expression_numbers e) one front) in
        with_value-sound j _ _ _ u p.0 p.1 f (λ z fz. traced-sound j (step_of [] (told g u e).seen Nothing None (if same z (pos 0) then map (statement_trace g) (map (λ x. x.0) second) else map (statement_trace g) (map (λ x. x.0) first))) u tt p.0 tt f (λ i q. chosen i (same z (pos 0)) (statements-fine i first (each-right I64 (expression_numbers e) one front)) (statements-fine i second (each-right I64 (expression_numbers e ++ one) two h))))
      where
        chosen : (i : ℕ) (b : Bool) → FineTo i (in_turn (map (statement_trace g) (map (λ x. x.0) first))) → FineTo i (in_turn (map (statement_trace g) (map (λ x. x.0) second)))
            → FineTo i (in_turn (if b then map (statement_trace g) (map (λ x. x.0) second) else map (statement_trace g) (map (λ x. x.0) first)))
        chosen i true fine other = other
        chosen i false fine other = fine

    statement_numbers-rolled : (y : Stmt-F Stmt) → statement_numbers (roll-Stmt y) ≡ reach.statement_level (map-Stmt _ _ statement_numbers y)
    unfolding statement_numbers
    statement_numbers-rolled y = fold-roll-Stmt (List ℤ) reach.statement_level y

    statements-run : (x : Stmt) → RunsFine x
    unfolding RunsFine
    statements-run = ind-Stmt RunsFine (λ y z is. subst (λ w. RunsFine (roll-Stmt w)) is
        (λ h j u f. subst (λ (p : Store → Trace). Sound j (p u).entries) (sym (statement-rolled g (map-Stmt _ _ (λ e. e.0) z))) (statement_level-sound z (subst (Each I64) (statement_numbers-rolled (map-Stmt _ _ (λ e. e.0) z)) h) j u f)))

    block-sound : (block : List Stmt) → Each I64 (block_numbers block) → (j : ℕ) (u : Store) → IsOfI64s u → Sound j (block_trace g block u).entries
    unfolding block_trace block_numbers RunsFine
    block-sound [] h j u f = tt
    block-sound (x ∷ xs) h j u f =
        join-sound j u (statement_trace g x u).halt (statement_trace g x u).entries (in_turn (map (statement_trace g) xs)) (statements-run x (each-left I64 (statement_numbers x) (flat_map statement_numbers xs) h) j u f) f
        (λ i q none w fw. block-sound xs (each-right I64 (statement_numbers x) (flat_map statement_numbers xs) h) i w fw)

    scalars-good : (number : ℕ) (vs : List ℤ) → Each I64 vs → Each Good (scalars_from g number vs)
    scalars-good number [] fits = tt
    scalars-good number (v ∷ vs) fits = (shown-good (seen.Scalar number) v (λ l e. tt) fits.0, scalars-good (suc number) vs fits.1)

    announced-good : (s : Store) → IsOfI64s s → Each Good (announced g s)
    unfolding announced
    announced-good s f = (shown-good seen.Start (pos 0) (λ l e. tt) tt, scalars-good 0 s.scalars (all-each I64 s.scalars f.scalars))

    shown_before-sound : (j : ℕ) (os : List Observation) (es : List Entry) → Each Good os → Sound j es → Sound j (shown_before os es)
    shown_before-sound j os [] h st = tt
    shown_before-sound zero os (e ∷ es) h st = each-append Good os e.before h st
    shown_before-sound (suc j) os (e ∷ es) h st = (each-append Good os e.before h st.0, st.1, st.2, st.3)

    instance-sound : (block : List Stmt) → Each I64 (block_numbers block) → (j : ℕ) (u : Store) → IsOfI64s u → Sound j (instance_trace g block u).entries
    unfolding instance_trace
    instance-sound block h j u f =
        shown_before-sound j (announced g u) (block_trace g block (started u)).entries (announced-good u f)
        (block-sound block h j (started u) (record { memory = f.memory; scalars = f.scalars; locals = All-replicate I64 16 (pos 0) (pos-fits 0 (omega arith)) }))

    -- ---- heads
    abbrev pub YieldFine : Head → Result Yield Halt → Type 0
    YieldFine (For lower upper stride) (Ok y) = YieldsTo stride y
    YieldFine (For lower upper stride) (Err halt) = Unit {0}
    YieldFine (While condition) r = Unit {0}

    abbrev HeadedFine : Head → Headed → Type 0
    HeadedFine h p = Each Good p.seen × YieldFine h p.value

    then_head-fine : (h : Head) (os : List Observation) (v : Result ℤ Halt) (go : ℤ → Headed) → Each Good os → IsOkI64 v → ((halt : Halt) → YieldFine h (Err halt)) → ((z : ℤ) → I64 z → HeadedFine h (go z)) → HeadedFine h (then_head os v go)
    then_head-fine h os (Ok z) go good f none more = let m = more z f in (each-append Good os (go z).seen good m.0, m.1)
    then_head-fine h os (Err halt) go good f none more = (good, none halt)

    pub head-fine : (l0 : Loop) → loop_at loops at.block.level ≡ Some l0 → (head : Head) → l0.head ≡ head → Each I64 (head_numbers head) → strides head ≡ true → (s : Store) → IsOfI64s s → HeadedFine head (head_of g head s)
    unfolding head_of
    head-fine l0 found (For lower upper stride) is h turns s f =
        let front = each-left I64 (expression_numbers lower ++ expression_numbers upper) (stride ∷ []) h in
        let p = told-fine s f lower (each-left I64 (expression_numbers lower) (expression_numbers upper) front) in
        let q = told-fine s f upper (each-right I64 (expression_numbers lower) (expression_numbers upper) front) in
        let step : I64 stride = (each-right I64 (expression_numbers lower ++ expression_numbers upper) (stride ∷ []) h).0 in
        then_head-fine (For lower upper stride) _ _ _ p.0 p.1 (λ halt. tt) (λ from ff. then_head-fine (For lower upper stride) _ _ _ q.0 q.1 (λ halt. tt) (λ to ft. (
          (
            shown-good seen.Lower from (λ l e. tt) ff,
            (
              shown-good seen.Trip (pos (trip_count from to stride)) (λ l e. subst (λ (z : Head). GoodAt seen.Trip z (pos (trip_count from to stride))) (head-same l e) (trip-reach from to stride ff ft step (not-zero stride turns)))
                  (trip_count from to stride, refl, trip-fits from to stride ff ft (not-zero stride turns)),
              tt,
            ),
          ),
          λ i less. turn-fits from to stride i ff ft (not-zero stride turns) less,
        )))
      where
        head-same : (l : Loop) → loop_at loops at.block.level ≡ Some l → For lower upper stride ≡ l.head
        head-same l e = let same : l0 ≡ l = (let z : Some l0 ≡ Some l = sym found ∙ e in cc) in sym is ∙ ap (λ (m : Loop). m.head) same

        not-zero : (z : ℤ) → strides (For lower upper z) ≡ true → z ≡ pos 0 → ⊥
        not-zero z t e = let zero_is : strides (For lower upper (pos 0)) ≡ true = subst (λ (y : ℤ). strides (For lower upper y) ≡ true) e t in cc
    head-fine l0 found (While condition) is h turns s f =
        let p = told-fine s f condition h in
        then_head-fine (While condition) _ _ _ p.0 p.1 (λ halt. tt) (λ v fv. ((shown-good seen.Condition (as_number (not (same v (pos 0)))) (λ l e. subst IsRepeat (head-same l e) tt) tt, tt), tt))
      where
        head-same : (l : Loop) → loop_at loops at.block.level ≡ Some l → While condition ≡ l.head
        head-same l e = let same : l0 ≡ l = (let z : Some l0 ≡ Some l = sym found ∙ e in cc) in sym is ∙ ap (λ (m : Loop). m.head) same

    headed-sound : (j : ℕ) (head : Head) (go : Yield → List (Store → Trace)) (s : Store) → HeadedFine head (head_of g head s) → IsOfI64s s → ((y : Yield) → YieldFine head (Ok y) → (i : ℕ) → suc i ≡ j → FineTo i (in_turn (go y))) → Sound j (traced (headed g head go s) s).entries
    headed-sound j head go s fine f rest = by (head_of g head s).seen (head_of g head s).value fine.0 fine.1
      where
        by : (os : List Observation) (r : Result Yield Halt) → Each Good os → YieldFine head r → Sound j (traced (head_step (announced g s) os r go) s).entries
        by os (Ok y) good yields = traced-sound j (step_of (announced g s) os Nothing None (go y)) s (announced-good s f) good tt f (rest y yields)
        by os (Err halt) good yields = traced-sound j (step_of (announced g s) os Nothing (Some halt) []) s (announced-good s f) good tt f (λ i q. no-more i)

  -- ---- loops
  pub record AroundFine (a : Around) : Type 0 where
    pub near : Each IsSmall a.counters
    pub fit : All I64 a.values

  inward-fine : (a : Around) (t : ℕ) (v : ℤ) → AroundFine a → t ≤ B → I64 v → AroundFine (inward a t v)
  inward-fine a t v h few f = record {
    near = each-append IsSmall a.counters (pos t ∷ []) h.near (few, tt);
    fit = All-append I64 a.values (v ∷ []) h.fit (All-cons I64 v [] f (All-nil I64));
  }

  turn-fits-small : (t : ℕ) → t ≤ B → I64 (pos t)
  turn-fits-small t h = pos-fits t (let b = small in omega (arith, h, b))

  -- a turn
  turn-fine : (n level : ℕ) (l : Loop) (inner : Around → Store → Trace) (a : Around) → HasI64s l → AroundFine a → FineTo n (inner a) → FineTo n (turn_trace plain level l inner a)
  unfolding turn_trace
  turn-fine n level l inner a numbers h inside = in_turn-fine n (instance_trace (frame_of plain part.Pre level a) l.pre ∷ inner a ∷ instance_trace (frame_of plain part.Post level a) l.post ∷ []) (
    (λ j q u f. instance-sound (record { block = record { part = part.Pre; level = level }; counters = a.counters }) a.values h.near h.fit l.pre (all-each I64 (block_numbers l.pre) numbers.pre) j u f),
    (inside, ((λ j q u f. instance-sound (record { block = record { part = part.Post; level = level }; counters = a.counters }) a.values h.near h.fit l.post (all-each I64 (block_numbers l.post) numbers.post) j u f), tt)),
  )

  -- turns of a `for`, from turn t on, where the number of a turn and the steps left are at most B
  turns-sound : (m t : ℕ) (turn : ℕ → Store → Trace) → ((i : ℕ) → t ≤ i → i < t + m → (j : ℕ) → i + j ≤ B → (u : Store) → IsOfI64s u → Sound j (turn i u).entries) → ((i : ℕ) (u : Store) → Takes (turn i u))
      → (j : ℕ) → t + j ≤ B → (u : Store) → IsOfI64s u → Sound j (turns_from m t turn u).entries
  turns-sound zero t turn fine takes j few u f = tt
  turns-sound (suc m) t turn fine takes j few u f =
      join-sound j u (turn t u).halt (turn t u).entries (turns_from m (t + 1) turn) (fine t (omega arith) (omega arith) j few u f) f
      (λ i q none w fw. let some = takes t u none in turns-sound m (t + 1) turn (λ k less more. fine k (omega (arith, less)) (omega (arith, more))) takes i (omega (arith, some, q, few)) w fw)

  -- turns of a `while`
  whiles-sound : (l : Loop) (level : ℕ) (a : Around) (turn : ℕ → Store → Trace) → loop_at loops level ≡ Some l → HasI64s l → (condition : Expr) → l.head ≡ While condition → AroundFine a
      → ((i : ℕ) (j : ℕ) → i + j ≤ B → (u : Store) → IsOfI64s u → Sound j (turn i u).entries)
      → (k t j : ℕ) → t + j ≤ B → (u : Store) → IsOfI64s u → Sound j (whiles_from k t (λ t. frame_of plain part.Head level (inward a t (pos t))) (While condition) turn u).entries
  whiles-sound l level a turn found numbers condition is h fine zero t j few u f = tt
  whiles-sound l level a turn found numbers condition is h fine (suc k) t j few u f =
      let place = inward-fine a t (pos t) h (omega (arith, few)) (turn-fits-small t (omega (arith, few))) in
      let at : Occurrence = record { block = record { part = part.Head; level = level }; counters = a.counters ++ pos t ∷ [] } in
      let all : Each I64 (head_numbers (While condition)) = subst (λ (z : Head). Each I64 (head_numbers z)) is (all-each I64 (head_numbers l.head) numbers.head) in
      headed-sound at (a.values ++ pos t ∷ []) place.near place.fit j (While condition) _ u (head-fine at (a.values ++ pos t ∷ []) place.near place.fit l found (While condition) is all refl u f) f
      (λ y yields i q. next (whiles-sound l level a turn found numbers condition is h fine k (t + 1)) y i (omega (arith, few, q)))
    where
      next : ((e : ℕ) → t + 1 + e ≤ B → (w : Store) → IsOfI64s w → Sound e (whiles_from k (t + 1) (λ t. frame_of plain part.Head level (inward a t (pos t))) (While condition) turn w).entries) → (y : Yield) (i : ℕ) → t + 1 + i ≤ B → FineTo i (in_turn (turn_if (turn t) (whiles_from k (t + 1) (λ t. frame_of plain part.Head level (inward a t (pos t))) (While condition) turn) y))
      next rest (Bounds lower trip) i near_i = no-more i
      next rest (Tested false) i near_i = no-more i
      next rest (Tested true) i near_i = in_turn-fine i (turn t ∷ whiles_from k (t + 1) (λ t. frame_of plain part.Head level (inward a t (pos t))) (While condition) turn ∷ []) ((λ e less w fw. fine t e (omega (arith, near_i, less)) w fw), ((λ e less w fw. rest e (omega (arith, near_i, less)) w fw), tt))

  -- ---- loops inside one another
  abbrev Keeps : List Loop → Type 0
  Keeps [] = Unit {0}
  Keeps (l ∷ ls) = loop_keeps l ls ≡ true

  keeps-strides : (l : Loop) (ls : List Loop) → loop_keeps l ls ≡ true → strides l.head ≡ true
  keeps-strides l [] h = (and_parts (strides l.head) (has_statements l.pre) h).0
  keeps-strides l (m ∷ ls) h = (and_parts (strides l.head) (loop_keeps m ls) h).0

  keeps-inner : (l : Loop) (ls : List Loop) → loop_keeps l ls ≡ true → Keeps ls
  keeps-inner l [] h = tt
  keeps-inner l (m ∷ ls) h = (and_parts (strides l.head) (loop_keeps m ls) h).1

  -- these loops are those of the nest from a level on
  abbrev AreFrom : ℕ → List Loop → Type 0
  AreFrom level ls = (j : ℕ) → loop_at loops (level + j) ≡ slice_get ls j

  from-first : (level : ℕ) (l : Loop) (ls : List Loop) → AreFrom level (l ∷ ls) → loop_at loops level ≡ Some l
  from-first level l ls h = let e : level ≡ level + 0 = omega arith in ap (loop_at loops) e ∙ h 0

  from-rest : (level : ℕ) (l : Loop) (ls : List Loop) → AreFrom level (l ∷ ls) → AreFrom (level + 1) ls
  from-rest level l ls h j = let e : level + 1 + j ≡ level + suc j = omega arith in ap (loop_at loops) e ∙ h (suc j)

  module _ (k : ℕ) (some : 0 < k) where
    loop-some : (h : Head) (level : ℕ) (head : Head) (turn : Around → Store → Trace) (a : Around) (s : Store) → 0 < length (loop_by h plain k level head turn a s).entries
    loop-some (For lower upper stride) level head turn a s = traced-some (headed (frame_of plain part.Head level a) head (turns_of (λ from t. turn (inward a t (turn_value from stride t)))) s) s
    loop-some (While condition) level head turn a s = at k some
      where
        at : (n : ℕ) → 0 < n → 0 < length (whiles_from n 0 (λ t. frame_of plain part.Head level (inward a t (pos t))) head (λ t. turn (inward a t (pos t))) s).entries
        at zero h = absurd (omega (arith, h))
        at (suc n) h = traced-some (headed (frame_of plain part.Head level (inward a 0 (pos 0))) head (turn_if (turn (inward a 0 (pos 0))) (whiles_from n (0 + 1) (λ t. frame_of plain part.Head level (inward a t (pos t))) head (λ t. turn (inward a t (pos t))))) s) s

    pub turn-takes : (l : Loop) (ls : List Loop) (level : ℕ) → loop_keeps l ls ≡ true → (a : Around) (s : Store) → Takes (turn_trace plain level l (loops_trace plain k (level + 1) ls) a s)
    unfolding turn_trace
    turn-takes l [] level h a s =
        let pre = instance_trace (frame_of plain part.Pre level a) l.pre s in
        join-first pre.halt pre.entries (in_turn (loops_trace plain k (level + 1) [] a ∷ instance_trace (frame_of plain part.Post level a) l.post ∷ []) (after_all s pre.entries))
        (λ none. instance-takes (frame_of plain part.Pre level a) l.pre s (and_parts (strides l.head) (has_statements l.pre) h).1 none)
    turn-takes l (m ∷ ls) level h a s =
        let pre = instance_trace (frame_of plain part.Pre level a) l.pre s in
        let u : Store = after_all s pre.entries in
        let inner = loops_trace plain k (level + 1) (m ∷ ls) a u in
        join-second pre.halt pre.entries (in_turn (loops_trace plain k (level + 1) (m ∷ ls) a ∷ instance_trace (frame_of plain part.Post level a) l.post ∷ []) u)
        (join-first inner.halt inner.entries (in_turn (instance_trace (frame_of plain part.Post level a) l.post ∷ []) (after_all u inner.entries)) (λ none. loop-some m.head (level + 1) m.head (turn_trace plain (level + 1) m (loops_trace plain k (level + 1 + 1) ls)) a u))

    -- a loop, from a turn of it
    loop-fine : (h : Head) (l : Loop) (level : ℕ) (turn : Around → Store → Trace) → loop_at loops level ≡ Some l → l.head ≡ h → HasI64s l → strides h ≡ true
        → ((b : Around) → AroundFine b → (j : ℕ) → j ≤ B → (u : Store) → IsOfI64s u → Sound j (turn b u).entries) → ((b : Around) (u : Store) → Takes (turn b u))
        → (a : Around) → AroundFine a → FineTo B (loop_by h plain k level h turn a)
    loop-fine (For lower upper stride) l level turn found is numbers turns fine takes a place j less u f =
        let at : Occurrence = record { block = record { part = part.Head; level = level }; counters = a.counters } in
        let all : Each I64 (head_numbers (For lower upper stride)) = subst (λ (z : Head). Each I64 (head_numbers z)) is (all-each I64 (head_numbers l.head) numbers.head) in
        headed-sound at a.values place.near place.fit j (For lower upper stride) _ u (head-fine at a.values place.near place.fit l found (For lower upper stride) is all turns u f) f
        (λ y yields i q. next y yields i (omega (arith, less, q)))
      where
        next : (y : Yield) → YieldsTo stride y → (i : ℕ) → i ≤ B → FineTo i (in_turn (turns_of (λ from t. turn (inward a t (turn_value from stride t))) y))
        next (Tested holds) yields i few = no-more i
        next (Bounds from trip) yields i few = in_turn-fine i (turns_from trip 0 (λ t. turn (inward a t (turn_value from stride t))) ∷ []) (
          (λ e small_e w fw. turns-sound trip 0 (λ t. turn (inward a t (turn_value from stride t)))
              (λ t least below d near_d v fv. fine (inward a t (turn_value from stride t)) (inward-fine a t (turn_value from stride t) place (omega (arith, near_d)) (yields t (omega (arith, below)))) d (omega (arith, near_d)) v fv)
              (λ t v. takes (inward a t (turn_value from stride t)) v) e (omega (arith, few, small_e)) w fw),
          tt,
        )
    loop-fine (While condition) l level turn found is numbers turns fine takes a place j less u f =
        whiles-sound l level a (λ t. turn (inward a t (pos t))) found numbers condition is place
        (λ i d near_d v fv. fine (inward a i (pos i)) (inward-fine a i (pos i) place (omega (arith, near_d)) (turn-fits-small i (omega (arith, near_d)))) d (omega (arith, near_d)) v fv) k 0 j (omega (arith, less)) u f

    pub loops-fine : (ls : List Loop) (level : ℕ) → AreFrom level ls → Keeps ls → Each HasI64s ls → (a : Around) → AroundFine a → FineTo B (loops_trace plain k level ls a)
    loops-fine [] level from keeps numbers a place = λ j less u f. tt
    loops-fine (l ∷ ls) level from keeps numbers a place =
        loop-fine l.head l level (turn_trace plain level l (loops_trace plain k (level + 1) ls)) (from-first level l ls from) refl numbers.0 (keeps-strides l ls keeps)
        (λ b fine. turn-fine B level l (loops_trace plain k (level + 1) ls) b numbers.0 fine (loops-fine ls (level + 1) (from-rest level l ls from) (keeps-inner l ls keeps) numbers.1 b fine))
        (turn-takes l ls level keeps) a place

    -- ---- turns of the outermost loop
    counted-sound : (c n t : ℕ) (turn : ℕ → Store → Trace) → ((i : ℕ) → t ≤ i → i < t + n → (j : ℕ) → i + j ≤ B → (u : Store) → IsOfI64s u → Sound j (turn i u).entries) → ((i : ℕ) (u : Store) → Takes (turn i u))
        → (j : ℕ) → t + j ≤ B → (u : Store) → IsOfI64s u → Sound j (counted_turns c n t turn u).entries
    counted-sound zero n t turn fine takes j few u f = tt
    counted-sound (suc c) zero t turn fine takes j few u f = tt
    counted-sound (suc c) (suc n) t turn fine takes j few u f =
        join-sound j u (turn t u).halt (turn t u).entries (counted_turns c n (t + 1) turn) (fine t (omega arith) (omega arith) j few u f) f
        (λ i q none w fw. let took = takes t u none in counted-sound c n (t + 1) turn (λ k less more. fine k (omega (arith, less)) (omega (arith, more))) takes i (omega (arith, took, q, few)) w fw)

    tested-sound : (l : Loop) (turn : ℕ → Store → Trace) → loop_at loops 1 ≡ Some l → HasI64s l → (condition : Expr) → l.head ≡ While condition → AroundFine outside
        → ((i : ℕ) (j : ℕ) → i + j ≤ B → (u : Store) → IsOfI64s u → Sound j (turn i u).entries)
        → (c t j : ℕ) → t + j ≤ B → (u : Store) → IsOfI64s u → Sound j (tested_turns c t (λ t. frame_of plain part.Head 1 (inward outside t (pos t))) (While condition) turn u).entries
    tested-sound l turn found numbers condition is h fine zero t j few u f = tt
    tested-sound l turn found numbers condition is h fine (suc c) t j few u f =
        let place = inward-fine outside t (pos t) h (omega (arith, few)) (turn-fits-small t (omega (arith, few))) in
        let at : Occurrence = record { block = record { part = part.Head; level = 1 }; counters = [] ++ pos t ∷ [] } in
        let all : Each I64 (head_numbers (While condition)) = subst (λ (z : Head). Each I64 (head_numbers z)) is (all-each I64 (head_numbers l.head) numbers.head) in
        headed-sound at ([] ++ pos t ∷ []) place.near place.fit j (While condition) _ u (head-fine at ([] ++ pos t ∷ []) place.near place.fit l found (While condition) is all refl u f) f
        (λ y yields i q. next (tested-sound l turn found numbers condition is h fine c (t + 1)) y i (omega (arith, few, q)))
      where
        over-fine : (i : ℕ) → FineTo i (in_turn ((λ s. over) ∷ []))
        over-fine i = in_turn-fine i ((λ s. over) ∷ []) ((λ e less w fw. tt), tt)

        next : ((e : ℕ) → t + 1 + e ≤ B → (w : Store) → IsOfI64s w → Sound e (tested_turns c (t + 1) (λ t. frame_of plain part.Head 1 (inward outside t (pos t))) (While condition) turn w).entries) → (y : Yield) (i : ℕ) → t + 1 + i ≤ B → FineTo i (in_turn (turn_or_over (turn t) (tested_turns c (t + 1) (λ t. frame_of plain part.Head 1 (inward outside t (pos t))) (While condition) turn) y))
        next rest (Bounds lower trip) i near_i = over-fine i
        next rest (Tested false) i near_i = over-fine i
        next rest (Tested true) i near_i = in_turn-fine i (turn t ∷ tested_turns c (t + 1) (λ t. frame_of plain part.Head 1 (inward outside t (pos t))) (While condition) turn ∷ []) ((λ e less w fw. fine t e (omega (arith, near_i, less)) w fw), ((λ e less w fw. rest e (omega (arith, near_i, less)) w fw), tt))

    outside-fine : AroundFine outside
    outside-fine = record { near = tt; fit = All-nil I64 }

    turns-by-sound : (h : Head) (l : Loop) (turn : Around → Store → Trace) → loop_at loops 1 ≡ Some l → l.head ≡ h → HasI64s l
        → ((b : Around) → AroundFine b → (j : ℕ) → j ≤ B → (u : Store) → IsOfI64s u → Sound j (turn b u).entries) → ((b : Around) (u : Store) → Takes (turn b u))
        → (o : Outer) → IsPosition h o → (t : ℕ) → o.next ≡ pos t → (c j : ℕ) → t + j ≤ B → (u : Store) → IsOfI64s u → Sound j (turns_by h plain h turn o c u).entries
    turns-by-sound (For lower upper stride) l turn found is numbers fine takes o (t', n, next', left, values) t next c j few u f =
        subst (λ (m : ℕ). Sound j (counted_turns c m (unsigned_abs o.next) (λ i. turn (inward outside i (turn_value o.lower stride i))) u).entries) (sym (ap number_left left))
        (subst (λ (m : ℕ). Sound j (counted_turns c n m (λ i. turn (inward outside i (turn_value o.lower stride i))) u).entries) (sym (ap unsigned_abs next))
        (counted-sound c n t (λ i. turn (inward outside i (turn_value o.lower stride i)))
        (λ i least below d near_d v fv. fine (inward outside i (turn_value o.lower stride i)) (inward-fine outside i (turn_value o.lower stride i) outside-fine (omega (arith, near_d)) (value i least below)) d (omega (arith, near_d)) v fv)
        (λ i v. takes (inward outside i (turn_value o.lower stride i)) v) j few u f))
      where
        same : t' ≡ t
        same = ap unsigned_abs (sym next' ∙ next)

        value : (i : ℕ) → t ≤ i → i < t + n → I64 (turn_value o.lower stride i)
        value i least below = let e : t' + (i - t) ≡ i = (let q = same in omega (arith, least, q)) in subst (λ (m : ℕ). I64 (turn_value o.lower stride m)) e (values (i - t) (omega (arith, least, below)))
    turns-by-sound (While condition) l turn found is numbers fine takes o position t next c j few u f =
        subst (λ (m : ℕ). Sound j (tested_turns c m (λ i. frame_of plain part.Head 1 (inward outside i (pos i))) (While condition) (λ i. turn (inward outside i (pos i))) u).entries) (sym (ap unsigned_abs next))
        (tested-sound l (λ i. turn (inward outside i (pos i))) found numbers condition is outside-fine
        (λ i d near_d v fv. fine (inward outside i (pos i)) (inward-fine outside i (pos i) outside-fine (omega (arith, near_d)) (turn-fits-small i (omega (arith, near_d)))) d (omega (arith, near_d)) v fv) c t j few u f)

    pub nest-sound : (l : Loop) (ls : List Loop) → AreFrom 1 (l ∷ ls) → loop_keeps l ls ≡ true → Each HasI64s (l ∷ ls) → (o : Outer) → IsPosition l.head o → (t : ℕ) → o.next ≡ pos t → (c j : ℕ) → t + j ≤ B → (u : Store) → IsOfI64s u
        → Sound j (turns_trace plain k (l ∷ ls) o c u).entries
    unfolding turns_trace
    nest-sound l ls from keeps numbers o position t next c j few u f =
        turns-by-sound l.head l (turn_trace plain 1 l (loops_trace plain k 2 ls)) (from-first 1 l ls from) refl numbers.0
        (λ b fine. turn-fine B 1 l (loops_trace plain k 2 ls) b numbers.0 fine (loops-fine ls 2 (from-rest 1 l ls from) (keeps-inner l ls keeps) numbers.1 b fine))
        (turn-takes l ls 1 keeps) o position t next c j few u f
