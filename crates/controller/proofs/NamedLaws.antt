-- The scalars that a run shows are those of its store.
use Rattle.std.proofs.Common.{◌≡◌, refl, ◌∙◌, sym, subst, ℕ, zero, suc, ◌+◌, ◌<◌, ◌≤◌, ℤ, pos, Bool, true, false, List, [], ◌∷◌, ◌++◌, map, length, take, Option, Some, None, Result, Ok, Err, arith}
use Rattle.std.specs.Prelude.{if◌then◌else◌}
use Rattle.std.proofs.lemmas.List.{length-set}
use Rattle.nest_lang.specs.declared.tree.Part.TheVariants as part
use Rattle.nest_lang.specs.declared.tree.Expr.{Expr, map-Expr, roll-Expr}
use Rattle.nest_lang.specs.declared.tree.Expr.TheOpen.{Expr-F}
use Rattle.nest_lang.specs.declared.tree.Expr.TheFolds.{ind-Expr}
use Rattle.nest_lang.specs.declared.tree.Stmt.{Stmt, map-Stmt, roll-Stmt}
use Rattle.nest_lang.specs.declared.tree.Stmt.TheOpen.{Stmt-F}
use Rattle.nest_lang.specs.declared.tree.Stmt.TheFolds.{fold-roll-Stmt, ind-Stmt}
use Rattle.nest_lang.specs.declared.tree.Head.{Head}
use Rattle.nest_lang.specs.declared.tree.Head.TheVariants.{For, While}
use Rattle.nest_lang.specs.declared.tree.Loop.{Loop}
use Rattle.nest_lang.specs.declared.observe.Seen.{Seen}
use Rattle.nest_lang.specs.declared.observe.Seen.TheVariants as see
use Rattle.nest_lang.specs.declared.observe.Stop.{Stop}
use Rattle.nest_lang.specs.declared.state.Outer.{Outer}
use Rattle.nest_lang.specs.Values.{turn_value}
use Rattle.nest_lang.specs.Stores.{Store, Effect, Nothing, Local, Scalar, Word, effect_on}
use Rattle.nest_lang.specs.Lookups.{plain, look_load}
use Rattle.nest_lang.specs.Traces.{Occurrence, Observation, Halt, Trace, Transition, Entry, after_all, joined, in_turn, traced, Finish, Done, Halted, Limited, cut, seen_of, seen_in}
use Rattle.nest_lang.specs.Expressions.{Frame, Told, shown, then_tell, expression_level, told_by, told}
use Rattle.nest_lang.specs.Statements.{with_value, stored, statement_level, statement_trace, block_trace, instance_trace, started, scalars_from, announced, shown_before}
use Rattle.nest_lang.specs.Heads.{Yield, Bounds, Tested, Headed, then_head, head_of, head_step, headed}
use Rattle.nest_lang.specs.Loops.{Around, inward, frame_of, turn_trace, turns_from, turns_of, turn_if, whiles_from, loop_by, loops_trace, outside}
use Rattle.nest_lang.specs.Turns.{counted_turns, tested_turns, turn_or_over, turns_by, turns_trace, number_left}
use Rattle.nest_lang.proofs.StepLaws.{told-rolled}
use Rattle.follow.specs.ChunkRuns.{closing_at, chunk_run}
use Rattle.follow.specs.Plans.{frame_with}

-- ---- the number of scalars stays

effect-count : (s : Store) (e : Effect) → length (effect_on s e).scalars ≡ length s.scalars
effect-count s Nothing = refl
effect-count s (Local number value) = refl
effect-count s (Scalar number value) = length-set s.scalars number value
effect-count s (Word address value) = refl

pub after_all-count : (es : List Entry) (s : Store) → length (after_all s es).scalars ≡ length s.scalars
after_all-count [] s = refl
after_all-count (e ∷ es) s = after_all-count es (effect_on s e.effect) ∙ effect-count s e.effect

pub cut-count : (t : Trace) (s : Store) (left used : ℕ) → length (cut t s left used).store.scalars ≡ length s.scalars
unfolding cut
cut-count t s left used = after_all-count (take left t.entries) s

-- ---- what is shown of n scalars

module _ (n : ℕ) where
  -- a scalar that is shown is one of them
  abbrev pub IsNamed : Seen → Type 0
  IsNamed (see.Scalar number) = number < n
  IsNamed what = Unit {0}

  abbrev pub AreNamed : List Observation → Type 0
  AreNamed [] = Unit {0}
  AreNamed (o ∷ os) = IsNamed o.what × AreNamed os

  pub named-both : (os more : List Observation) → AreNamed os → AreNamed more → AreNamed (os ++ more)
  named-both [] more a b = b
  named-both (o ∷ os) more a b = (a.0, named-both os more a.1 b)

  pub named-scalars : (f : Frame) (i : ℕ) (vs : List ℤ) → i + length vs ≤ n → AreNamed (scalars_from f i vs)
  named-scalars f i [] few = tt
  named-scalars f i (v ∷ vs) few = (omega (arith, few), named-scalars f (suc i) vs (omega (arith, few)))

  named-announced : (f : Frame) (s : Store) → length s.scalars ≡ n → AreNamed (announced f s)
  unfolding announced
  named-announced f s count = (tt, named-scalars f 0 s.scalars (omega (arith, count)))

  abbrev IsNamedEntry : Entry → Type 0
  IsNamedEntry e = AreNamed e.before × AreNamed e.seen

  abbrev EntriesNamed : List Entry → Type 0
  EntriesNamed [] = Unit {0}
  EntriesNamed (e ∷ es) = IsNamedEntry e × EntriesNamed es

  entries-both : (es more : List Entry) → EntriesNamed es → EntriesNamed more → EntriesNamed (es ++ more)
  entries-both [] more a b = b
  entries-both (e ∷ es) more a b = (a.0, entries-both es more a.1 b)

  -- what runs from a store of n scalars shows these alone
  abbrev Shows : (Store → Trace) → Type 0
  Shows run = (s : Store) → length s.scalars ≡ n → EntriesNamed (run s).entries

  abbrev AllShow : List (Store → Trace) → Type 0
  AllShow [] = Unit {0}
  AllShow (f ∷ fs) = Shows f × AllShow fs

  abbrev StepShows : Transition → Type 0
  StepShows st = IsNamedEntry st.entry × AllShow st.rest

  joined-shows : (h : Option Halt) (es : List Entry) (more : Trace) → EntriesNamed es → EntriesNamed more.entries → EntriesNamed (joined h es more).entries
  joined-shows None es more a b = entries-both es more.entries a b
  joined-shows (Some halt) es more a b = a

  in_turn-shows : (fs : List (Store → Trace)) → AllShow fs → Shows (in_turn fs)
  in_turn-shows [] a s count = tt
  in_turn-shows (f ∷ fs) a s count =
      joined-shows (f s).halt (f s).entries (in_turn fs (after_all s (f s).entries)) (a.0 s count) (in_turn-shows fs a.1 (after_all s (f s).entries) (after_all-count (f s).entries s ∙ count))

  traced-shows : (st : Transition) (s : Store) → length s.scalars ≡ n → StepShows st → EntriesNamed (traced st s).entries
  traced-shows st s count a =
      joined-shows st.halt (st.entry ∷ []) (in_turn st.rest (effect_on s st.entry.effect)) (a.0, tt) (in_turn-shows st.rest a.1 (effect_on s st.entry.effect) (effect-count s st.entry.effect ∙ count))

  -- values

  then_tell-shows : (seen : List Observation) (v : Result ℤ Halt) (go : ℤ → Told) → AreNamed seen → ((z : ℤ) → AreNamed (go z).seen) → AreNamed (then_tell seen v go).seen
  then_tell-shows seen (Ok z) go a b = named-both seen (go z).seen a (b z)
  then_tell-shows seen (Err halt) go a b = a

  module _ (f : Frame) where
    module _ (scalars locals : List ℤ) (find : ℕ → ℤ → Result ℤ Stop) where
      Tells : Expr → Type 0
      Tells e = AreNamed (told_by f scalars locals find e).seen

      level-tells : (y : Expr-F ((e : Expr) × Tells e)) → AreNamed (expression_level f scalars locals find (map-Expr _ _ (told_by f scalars locals find) (map-Expr _ _ (λ e. e.0) y))).seen
      unfolding Tells
      level-tells (Expr-F.Number k) = tt
      level-tells (Expr-F.Var place) = tt
      level-tells (Expr-F.Load access a) = then_tell-shows _ _ _ a.1 (λ z. (tt, tt))
      level-tells (Expr-F.Neg a) = then_tell-shows _ _ _ a.1 (λ z. tt)
      level-tells (Expr-F.Two op a b) = then_tell-shows _ _ _ a.1 (λ z. then_tell-shows _ _ _ b.1 (λ v. tt))

      tells : (e : Expr) → Tells e
      unfolding Tells
      tells = ind-Expr Tells (λ y z is. subst (λ w. Tells (roll-Expr w)) is
          (subst (λ (p : Told). AreNamed p.seen) (sym (told-rolled f scalars locals find (map-Expr _ _ (λ e. e.0) z))) (level-tells z)))

    told-shows : (s : Store) (e : Expr) → AreNamed (told f s e).seen
    unfolding Tells
    told-shows s e = tells s.scalars s.locals (look_load f.expects s.memory) e

    -- statements

    with_value-shows : (seen : List Observation) (v : Result ℤ Halt) (go : ℤ → Transition) → AreNamed seen → ((z : ℤ) → StepShows (go z)) → StepShows (with_value seen v go)
    with_value-shows seen (Ok z) go a b = b z
    with_value-shows seen (Err halt) go a b = ((tt, a), tt)

    stored-shows : (seen : List Observation) (address v : ℤ) (r : Result ℤ Halt) → AreNamed seen → StepShows (stored seen address v r)
    stored-shows seen address v (Ok old) a = ((tt, a), tt)
    stored-shows seen address v (Err halt) a = ((tt, a), tt)

    PartsShow : Stmt-F (Store → Trace) → Type 0
    PartsShow (Stmt-F.If e first second) = AllShow first × AllShow second
    PartsShow _ = Unit {0}

    if-shows : (b : Bool) (xs ys : List (Store → Trace)) → AllShow xs → AllShow ys → AllShow (if b then xs else ys)
    if-shows true xs ys h k = h
    if-shows false xs ys h k = k

    statement_level-shows : (x : Stmt-F (Store → Trace)) (s : Store) → PartsShow x → StepShows (statement_level f x s)
    unfolding PartsShow
    statement_level-shows (Stmt-F.Let number e) s parts = with_value-shows _ (told f s e).value _ (told-shows s e) (λ z. ((tt, told-shows s e), tt))
    statement_level-shows (Stmt-F.Set number e) s parts = with_value-shows _ (told f s e).value _ (told-shows s e) (λ z. ((tt, told-shows s e), tt))
    statement_level-shows (Stmt-F.Store access a e) s parts =
        with_value-shows _ (told f s a).value _ (told-shows s a) (λ z.
        with_value-shows _ (told f s e).value _ (named-both (told f s a).seen (told f s e).seen (told-shows s a) (told-shows s e)) (λ v.
        stored-shows _ z v _ (named-both ((told f s a).seen ++ (told f s e).seen) (shown f (see.Address access) z ∷ []) (named-both (told f s a).seen (told f s e).seen (told-shows s a) (told-shows s e)) (tt, tt))))
    statement_level-shows (Stmt-F.If e first second) s parts = with_value-shows _ (told f s e).value _ (told-shows s e) (λ z. ((tt, told-shows s e), if-shows _ second first parts.1 parts.0))

    RunsNamed : Stmt → Type 0
    RunsNamed st = Shows (statement_trace f st)

    all-mapped : (xs : List ((st : Stmt) × RunsNamed st)) → AllShow (map (statement_trace f) (map (λ e. e.0) xs))
    unfolding RunsNamed
    all-mapped [] = tt
    all-mapped (x ∷ xs) = (x.1, all-mapped xs)

    layer-shows : (y : Stmt-F ((st : Stmt) × RunsNamed st)) → PartsShow (map-Stmt _ _ (statement_trace f) (map-Stmt _ _ (λ e. e.0) y))
    unfolding PartsShow
    layer-shows (Stmt-F.Let number e) = tt
    layer-shows (Stmt-F.Set number e) = tt
    layer-shows (Stmt-F.Store access a e) = tt
    layer-shows (Stmt-F.If e first second) = (all-mapped first, all-mapped second)

    rolled-statement : (x : Stmt-F Stmt) → statement_trace f (roll-Stmt x) ≡ (λ s. traced (statement_level f (map-Stmt _ _ (statement_trace f) x) s) s)
    unfolding statement_trace
    rolled-statement x = fold-roll-Stmt (Store → Trace) (λ z s. traced (statement_level f z s) s) x

    statement-shows : (st : Stmt) → RunsNamed st
    unfolding RunsNamed
    statement-shows = ind-Stmt RunsNamed (λ x y is. subst (λ z. RunsNamed (roll-Stmt z)) is
        (subst Shows (sym (rolled-statement (map-Stmt _ _ (λ e. e.0) y)))
        (λ s count. traced-shows (statement_level f (map-Stmt _ _ (statement_trace f) (map-Stmt _ _ (λ e. e.0) y)) s) s count (statement_level-shows _ s (layer-shows y)))))

    block-shows : (xs : List Stmt) → AllShow (map (statement_trace f) xs)
    unfolding RunsNamed
    block-shows [] = tt
    block-shows (x ∷ xs) = (statement-shows x, block-shows xs)

    before-shows : (os : List Observation) (es : List Entry) → AreNamed os → EntriesNamed es → EntriesNamed (shown_before os es)
    before-shows os [] a b = tt
    before-shows os (e ∷ es) a b = ((named-both os e.before a b.0.0, b.0.1), b.1)

    instance-shows : (xs : List Stmt) → Shows (instance_trace f xs)
    unfolding instance_trace block_trace
    instance-shows xs s count =
        before-shows (announced f s) (in_turn (map (statement_trace f) xs) (started s)).entries (named-announced f s count) (in_turn-shows (map (statement_trace f) xs) (block-shows xs) (started s) count)

    -- heads

    then_head-shows : (seen : List Observation) (v : Result ℤ Halt) (go : ℤ → Headed) → AreNamed seen → ((z : ℤ) → AreNamed (go z).seen) → AreNamed (then_head seen v go).seen
    then_head-shows seen (Ok z) go a b = named-both seen (go z).seen a (b z)
    then_head-shows seen (Err halt) go a b = a

    head_of-shows : (h : Head) (s : Store) → AreNamed (head_of f h s).seen
    unfolding head_of
    head_of-shows (For lower upper stride) s = then_head-shows _ (told f s lower).value _ (told-shows s lower) (λ z. then_head-shows _ (told f s upper).value _ (told-shows s upper) (λ v. (tt, (tt, tt))))
    head_of-shows (While condition) s = then_head-shows _ (told f s condition).value _ (told-shows s condition) (λ z. (tt, tt))

    head_step-shows : (before seen : List Observation) (r : Result Yield Halt) (go : Yield → List (Store → Trace)) → AreNamed before → AreNamed seen → ((y : Yield) → AllShow (go y)) → StepShows (head_step before seen r go)
    head_step-shows before seen (Ok y) go a b c = ((a, b), c y)
    head_step-shows before seen (Err halt) go a b c = ((a, b), tt)

    headed-shows : (h : Head) (go : Yield → List (Store → Trace)) → ((y : Yield) → AllShow (go y)) → Shows (λ s. traced (headed f h go s) s)
    headed-shows h go b s count =
        traced-shows (headed f h go s) s count (head_step-shows (announced f s) (head_of f h s).seen (head_of f h s).value go (named-announced f s count) (head_of-shows h s) b)

  -- ---- loops

  turns_from-shows : (k t : ℕ) (turn : ℕ → Store → Trace) → ((t : ℕ) → Shows (turn t)) → Shows (turns_from k t turn)
  turns_from-shows zero t turn h s count = tt
  turns_from-shows (suc k) t turn h s count =
      joined-shows (turn t s).halt (turn t s).entries _ (h t s count) (turns_from-shows k (t + 1) turn h (after_all s (turn t s).entries) (after_all-count (turn t s).entries s ∙ count))

  turns_of-shows : (turn : ℤ → ℕ → Store → Trace) → ((z : ℤ) (t : ℕ) → Shows (turn z t)) → (y : Yield) → AllShow (turns_of turn y)
  turns_of-shows turn h (Bounds lower trip) = (turns_from-shows trip 0 (turn lower) (h lower), tt)
  turns_of-shows turn h (Tested holds) = tt

  turn_if-shows : (turn more : Store → Trace) → Shows turn → Shows more → (y : Yield) → AllShow (turn_if turn more y)
  turn_if-shows turn more h k (Bounds lower trip) = tt
  turn_if-shows turn more h k (Tested true) = (h, (k, tt))
  turn_if-shows turn more h k (Tested false) = tt

  whiles_from-shows : (k t : ℕ) (frame : ℕ → Frame) (h : Head) (turn : ℕ → Store → Trace) → ((t : ℕ) → Shows (turn t)) → Shows (whiles_from k t frame h turn)
  whiles_from-shows zero t frame h turn each s count = tt
  whiles_from-shows (suc k) t frame h turn each s count =
      headed-shows (frame t) h (turn_if (turn t) (whiles_from k (t + 1) frame h turn)) (turn_if-shows (turn t) (whiles_from k (t + 1) frame h turn) (each t) (whiles_from-shows k (t + 1) frame h turn each)) s count

  loop_by-shows : (shape head : Head) (k level : ℕ) (turn : Around → Store → Trace) → ((a : Around) → Shows (turn a)) → (a : Around) → Shows (loop_by shape plain k level head turn a)
  loop_by-shows (For lower upper stride) head k level turn h a s count =
      headed-shows (frame_of plain part.Head level a) head (turns_of (λ from t. turn (inward a t (turn_value from stride t)))) (turns_of-shows (λ from t. turn (inward a t (turn_value from stride t))) (λ from t. h (inward a t (turn_value from stride t)))) s count
  loop_by-shows (While condition) head k level turn h a s count =
      whiles_from-shows k 0 (λ t. frame_of plain part.Head level (inward a t (pos t))) head (λ t. turn (inward a t (pos t))) (λ t. h (inward a t (pos t))) s count

  turn-shows : (level : ℕ) (l : Loop) (inner : Around → Store → Trace) → ((a : Around) → Shows (inner a)) → (a : Around) → Shows (turn_trace plain level l inner a)
  unfolding turn_trace
  turn-shows level l inner h a =
      in_turn-shows (instance_trace (frame_of plain part.Pre level a) l.pre ∷ inner a ∷ instance_trace (frame_of plain part.Post level a) l.post ∷ [])
      (instance-shows (frame_of plain part.Pre level a) l.pre, (h a, (instance-shows (frame_of plain part.Post level a) l.post, tt)))

  loops-shows : (k level : ℕ) (ls : List Loop) (a : Around) → Shows (loops_trace plain k level ls a)
  loops-shows k level [] a s count = tt
  loops-shows k level (l ∷ ls) a s count = loop_by-shows l.head l.head k level (turn_trace plain level l (loops_trace plain k (level + 1) ls)) (turn-shows level l (loops_trace plain k (level + 1) ls) (loops-shows k (level + 1) ls)) a s count

  -- ---- some turns

  counted-shows : (c k t : ℕ) (turn : ℕ → Store → Trace) → ((t : ℕ) → Shows (turn t)) → Shows (counted_turns c k t turn)
  counted-shows zero k t turn h s count = tt
  counted-shows (suc c) zero t turn h s count = tt
  counted-shows (suc c) (suc k) t turn h s count =
      joined-shows (turn t s).halt (turn t s).entries _ (h t s count) (counted-shows c k (t + 1) turn h (after_all s (turn t s).entries) (after_all-count (turn t s).entries s ∙ count))

  turn_or_over-shows : (turn more : Store → Trace) → Shows turn → Shows more → (y : Yield) → AllShow (turn_or_over turn more y)
  turn_or_over-shows turn more h k (Bounds lower trip) = (λ s count. tt, tt)
  turn_or_over-shows turn more h k (Tested true) = (h, (k, tt))
  turn_or_over-shows turn more h k (Tested false) = (λ s count. tt, tt)

  tested-shows : (c t : ℕ) (frame : ℕ → Frame) (head : Head) (turn : ℕ → Store → Trace) → ((t : ℕ) → Shows (turn t)) → Shows (tested_turns c t frame head turn)
  tested-shows zero t frame head turn h s count = tt
  tested-shows (suc c) t frame head turn h s count =
      headed-shows (frame t) head (turn_or_over (turn t) (tested_turns c (t + 1) frame head turn)) (turn_or_over-shows (turn t) (tested_turns c (t + 1) frame head turn) (h t) (tested-shows c (t + 1) frame head turn h)) s count

  turns-shows : (k : ℕ) (loops : List Loop) (o : Outer) (c : ℕ) → Shows (turns_trace plain k loops o c)
  unfolding turns_trace
  turns-shows k [] o c s count = tt
  turns-shows k (l ∷ ls) o c s count = by l.head s count
    where
      each : (a : Around) → Shows (turn_trace plain 1 l (loops_trace plain k 2 ls) a)
      each a = turn-shows 1 l (loops_trace plain k 2 ls) (loops-shows k 2 ls) a

      by : (shape : Head) → Shows (turns_by shape plain l.head (turn_trace plain 1 l (loops_trace plain k 2 ls)) o c)
      by (For lower upper stride) = counted-shows c (number_left o.left) _ (λ t. turn_trace plain 1 l (loops_trace plain k 2 ls) (inward outside t (turn_value o.lower stride t))) (λ t. each (inward outside t (turn_value o.lower stride t)))
      by (While condition) = tested-shows c _ (λ t. frame_of plain part.Head 1 (inward outside t (pos t))) l.head (λ t. turn_trace plain 1 l (loops_trace plain k 2 ls) (inward outside t (pos t))) (λ t. each (inward outside t (pos t)))

  seen_of-named : (es : List Entry) (left : ℕ) → EntriesNamed es → AreNamed (seen_of es left)
  seen_of-named [] left a = tt
  seen_of-named (e ∷ es) zero a = a.0.0
  seen_of-named (e ∷ es) (suc left) a = named-both (e.before ++ e.seen) (seen_of es left) (named-both e.before e.seen a.0.0 a.0.1) (seen_of-named es left a.1)

  -- what is observed of the run of a chunk
  pub chunk-named : (next : Occurrence) (k : ℕ) (loops : List Loop) (o : Outer) (c : ℕ) (s : Store) (left : ℕ) → length s.scalars ≡ n → AreNamed (chunk_run next (turns_trace plain k loops o c s) s left).observations
  unfolding seen_in
  chunk-named next k loops o c s left count =
      named-both (seen_of (turns_trace plain k loops o c s).entries left) (closing_at next (cut (turns_trace plain k loops o c s) s left 0).ending (cut (turns_trace plain k loops o c s) s left 0).store.scalars)
      (seen_of-named (turns_trace plain k loops o c s).entries left (turns-shows k loops o c s count))
      (closing (cut (turns_trace plain k loops o c s) s left 0).ending (cut (turns_trace plain k loops o c s) s left 0).store.scalars (cut-count (turns_trace plain k loops o c s) s left 0 ∙ count))
    where
      closing : (finish : Finish) (scalars : List ℤ) → length scalars ≡ n → AreNamed (closing_at next finish scalars)
      closing Done scalars same = named-scalars (frame_with next [] plain) 0 scalars (omega (arith, same))
      closing (Halted halt) scalars same = tt
      closing Limited scalars same = tt
