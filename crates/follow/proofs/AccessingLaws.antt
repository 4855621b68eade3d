-- What runs depends on what is expected of its own accesses alone.
use Rattle.std.proofs.Common.{◌≡◌, refl, ap, ap₂, ◌∙◌, sym, subst, ℕ, ℤ, pos, inl, Bool, true, false, List, [], ◌∷◌, ◌++◌, map, Option, None, Result, Ok, nat_eq}
use Rattle.std.specs.Prelude.{if◌then◌else◌, not, ◌&&◌}
use Rattle.std.specs.List.{list_any}
use Rattle.std.proofs.lemmas.Bool.{eq-eqb}
use Rattle.nest_lang.specs.declared.tree.Access.{Access}
use Rattle.nest_lang.specs.declared.tree.AccessKind.{AccessKind}
use Rattle.nest_lang.specs.declared.tree.AccessKind.TheVariants as kind
use Rattle.nest_lang.specs.Accesses.{load, store, all_in, expression_accesses, statement_accesses, block_accesses, head_accesses}
use Rattle.nest_lang.specs.Accesses.{expression_level as access_level, statement_level as accessing_level}
use Rattle.nest_lang.specs.declared.tree.Expr.{Expr, map-Expr, roll-Expr}
use Rattle.nest_lang.specs.declared.tree.Expr.TheOpen.{Expr-F}
use Rattle.nest_lang.specs.declared.tree.Expr.TheFolds.{fold-roll-Expr, ind-Expr}
use Rattle.nest_lang.specs.declared.tree.Stmt.{Stmt, map-Stmt, roll-Stmt}
use Rattle.nest_lang.specs.declared.tree.Stmt.TheOpen.{Stmt-F}
use Rattle.nest_lang.specs.declared.tree.Stmt.TheFolds.{fold-roll-Stmt, ind-Stmt}
use Rattle.nest_lang.specs.declared.tree.Head.{Head}
use Rattle.nest_lang.specs.declared.tree.Head.TheVariants.{For, While}
use Rattle.nest_lang.specs.declared.observe.Stop.{Stop}
use Rattle.nest_lang.specs.declared.observe.Seen.TheVariants.{Address, Lower, Trip, Condition}
use Rattle.nest_lang.specs.Values.{same, trip_count}
use Rattle.nest_lang.specs.Stores.{Store, Nothing, Local, Scalar}
use Rattle.nest_lang.specs.Lookups.{Interval, Expectation, look, look_load}
use Rattle.nest_lang.specs.Traces.{Occurrence, Observation, Trace, in_turn, step_of, traced}
use Rattle.nest_lang.specs.Expressions.{Frame, shown, Told, telling, then_tell, or_stopped, expression_level, told_by, told}
use Rattle.nest_lang.specs.Statements.{with_value, stored, statement_level, statement_trace, block_trace, started, announced, shown_before, instance_trace}
use Rattle.nest_lang.specs.Heads.{Bounds, Tested, as_number, Headed, heading, then_head, head_of, head_step, headed}
use Rattle.plain_lemmas.specs.Lists.{Has}
use Rattle.plain_lemmas.proofs.MembershipLaws.{has-left, has-right}
use Rattle.orders.proofs.LiftLaws.{has_any}
use Rattle.follow.specs.Forecasts.{expectation_at, Forecast}
use Rattle.follow.specs.Plans.{frame_with, work_trace, Work, Runs, Evaluates}
use Rattle.follow.specs.Footprints.{same_kind, work_accesses}

-- an access of that kind and number
abbrev pub is_access : AccessKind → ℕ → Access → Bool
is_access k n a = same_kind a.kind k && nat_eq a.number n

-- only these accesses are expected
abbrev pub only : AccessKind → List Access → (ℕ → Option Interval) → ℕ → Option Interval
only k accesses expected n = if list_any (is_access k n) accesses then expected n else None

abbrev pub own_accesses : Forecast → Occurrence → Work → Expectation
own_accesses p at w = record { verifies = true; loads = only kind.Load (work_accesses w) (p.interval at); stores = only kind.Store (work_accesses w) (p.interval at) }

-- what isn't an access of an instance may be expected or not
abbrev pub OwnAccesses : Type 0
OwnAccesses = (p : Forecast) (at : Occurrence) (values : List ℤ) (w : Work) (s : Store)
    → work_trace (frame_with at values (expectation_at p at)) w s ≡ work_trace (frame_with at values (own_accesses p at w)) w s

expression_accesses-rolled : (y : Expr-F Expr) → expression_accesses (roll-Expr y) ≡ access_level (map-Expr _ _ expression_accesses y)
unfolding expression_accesses
expression_accesses-rolled y = fold-roll-Expr (List Access) access_level y

statement_accesses-rolled : (y : Stmt-F Stmt) → statement_accesses (roll-Stmt y) ≡ accessing_level (map-Stmt _ _ statement_accesses y)
unfolding statement_accesses
statement_accesses-rolled y = fold-roll-Stmt (List Access) accessing_level y

told-rolled : (h : Frame) (scalars locals : List ℤ) (find : ℕ → ℤ → Result ℤ Stop) (y : Expr-F Expr) → told_by h scalars locals find (roll-Expr y) ≡ expression_level h scalars locals find (map-Expr _ _ (told_by h scalars locals find) y)
unfolding told_by
told-rolled h scalars locals find y = fold-roll-Expr Told (expression_level h scalars locals find) y

statement-rolled : (h : Frame) (y : Stmt-F Stmt) → statement_trace h (roll-Stmt y) ≡ (λ s. traced (statement_level h (map-Stmt _ _ (statement_trace h) y) s) s)
unfolding statement_trace
statement-rolled h y = fold-roll-Stmt (Store → Trace) (λ z s. traced (statement_level h z s) s) y

module _ (at : Occurrence) (values : List ℤ) (x y : Expectation) (verify : x.verifies ≡ y.verifies) where
  abbrev pub f : Frame
  f = frame_with at values x

  abbrev pub g : Frame
  g = frame_with at values y

  -- the same is expected of an access, and of these accesses
  abbrev pub SameBy : AccessKind → ℕ → Type 0
  SameBy kind.Load n = x.loads n ≡ y.loads n
  SameBy kind.Store n = x.stores n ≡ y.stores n

  abbrev pub Same : List Access → Type 0
  Same accesses = (a : Access) → Has accesses a → SameBy a.kind a.number

  look-same : (a b : Option Interval) (memory : List ℤ) (z : ℤ) → a ≡ b → look x.verifies a memory z ≡ look y.verifies b memory z
  look-same a b memory z e = ap₂ (λ (v : Bool) (o : Option Interval). look v o memory z) verify e

  module _ (scalars locals memory : List ℤ) where
    abbrev tells-f : Expr → Told
    tells-f = told_by f scalars locals (look_load x memory)

    abbrev tells-g : Expr → Told
    tells-g = told_by g scalars locals (look_load y memory)

    Tells : Expr → Type 0
    Tells e = Same (expression_accesses e) → tells-f e ≡ tells-g e

    level-same : (z : Expr-F ((e : Expr) × Tells e)) → Same (access_level (map-Expr _ _ expression_accesses (map-Expr _ _ (λ e. e.0) z)))
        → expression_level f scalars locals (look_load x memory) (map-Expr _ _ tells-f (map-Expr _ _ (λ e. e.0) z)) ≡ expression_level g scalars locals (look_load y memory) (map-Expr _ _ tells-g (map-Expr _ _ (λ e. e.0) z))
    unfolding Tells
    level-same (Expr-F.Number n) h = refl
    level-same (Expr-F.Var place) h = refl
    level-same (Expr-F.Load access a) h =
        ap (λ (r : Told). then_tell r.seen r.value (λ z. telling (shown f (Address access) z ∷ []) (or_stopped access (look x.verifies (x.loads access) memory z)))) (a.1 (λ n k. h n (has-left _ _ n k)))
        ∙ ap (λ (go : ℤ → Told). then_tell (tells-g a.0).seen (tells-g a.0).value go)
        (λ i z. telling (shown f (Address access) z ∷ []) (or_stopped access (look-same (x.loads access) (y.loads access) memory z (h (load access) (has-right (expression_accesses a.0) _ _ (inl refl))) i)))
    level-same (Expr-F.Neg a) h = ap (λ (r : Told). expression_level f scalars locals (look_load x memory) (Expr-F.Neg r)) (a.1 h)
    level-same (Expr-F.Two op a b) h =
        ap₂ (λ (q r : Told). expression_level f scalars locals (look_load x memory) (Expr-F.Two op q r)) (a.1 (λ n k. h n (has-left _ _ n k))) (b.1 (λ n k. h n (has-right _ _ n k)))

    tells : (e : Expr) → Tells e
    unfolding Tells
    tells = ind-Expr Tells (λ w z is. subst (λ v. Tells (roll-Expr v)) is
        (λ h. told-rolled f scalars locals (look_load x memory) (map-Expr _ _ (λ e. e.0) z)
        ∙ level-same z (subst Same (expression_accesses-rolled (map-Expr _ _ (λ e. e.0) z)) h)
        ∙ sym (told-rolled g scalars locals (look_load y memory) (map-Expr _ _ (λ e. e.0) z))))

  told-same : (s : Store) (e : Expr) → Same (expression_accesses e) → told f s e ≡ told g s e
  unfolding Tells
  told-same s e h = tells s.scalars s.locals s.memory e h

  Traces : Stmt → Type 0
  Traces st = Same (statement_accesses st) → statement_trace f st ≡ statement_trace g st

  statements-same : (zs : List ((st : Stmt) × Traces st)) → Same (all_in (map statement_accesses (map (λ e. e.0) zs)))
      → map (statement_trace f) (map (λ e. e.0) zs) ≡ map (statement_trace g) (map (λ e. e.0) zs)
  unfolding Traces
  statements-same [] h = refl
  statements-same (z ∷ zs) h =
      ap₂ (λ (t : Store → Trace) (ts : List (Store → Trace)). t ∷ ts)
      (z.1 (λ n j. h n (has-left _ _ n j)))
      (statements-same zs (λ n j. h n (has-right (statement_accesses z.0) _ n j)))

  statement_level-same : (z : Stmt-F ((st : Stmt) × Traces st)) (s : Store)
      → Same (accessing_level (map-Stmt _ _ statement_accesses (map-Stmt _ _ (λ e. e.0) z)))
      → statement_level f (map-Stmt _ _ (statement_trace f) (map-Stmt _ _ (λ e. e.0) z)) s ≡ statement_level g (map-Stmt _ _ (statement_trace g) (map-Stmt _ _ (λ e. e.0) z)) s
  unfolding Traces
  statement_level-same (Stmt-F.Let number e) s h = ap (λ (q : Told). with_value q.seen q.value (λ v. step_of [] q.seen (Local number v) None [])) (told-same s e h)
  statement_level-same (Stmt-F.Set number e) s h = ap (λ (q : Told). with_value q.seen q.value (λ v. step_of [] q.seen (Scalar number v) None [])) (told-same s e h)
  statement_level-same (Stmt-F.Store access a e) s h =
      ap₂ (λ (p q : Told). with_value p.seen p.value (λ z. with_value (p.seen ++ q.seen) q.value (λ v. stored (p.seen ++ q.seen ++ shown f (Address access) z ∷ []) z v (or_stopped access (look x.verifies (x.stores access) s.memory z)))))
      (told-same s a (λ n j. h n (has-left _ _ n (has-left _ _ n j)))) (told-same s e (λ n j. h n (has-left _ _ n (has-right (expression_accesses a) _ n j))))
      ∙ ap (λ (found : ℤ → Result ℤ Stop). with_value (told g s a).seen (told g s a).value (λ z. with_value ((told g s a).seen ++ (told g s e).seen) (told g s e).value (λ v. stored ((told g s a).seen ++ (told g s e).seen ++ shown f (Address access) z ∷ []) z v (or_stopped access (found z)))))
      (λ i z. look-same (x.stores access) (y.stores access) s.memory z (h (store access) (has-right (expression_accesses a ++ expression_accesses e) _ _ (inl refl))) i)
  statement_level-same (Stmt-F.If e first second) s h =
      let one = told-same s e (λ n j. h n (has-left _ _ n (has-left _ _ n j))) in
      let two = statements-same first (λ n j. h n (has-left _ _ n (has-right (expression_accesses e) _ n j))) in
      let three = statements-same second (λ n j. h n (has-right (expression_accesses e ++ all_in (map statement_accesses (map (λ e. e.0) first))) _ n j)) in
      ap (λ (q : Told). with_value q.seen q.value (λ v. step_of [] q.seen Nothing None (if same v (pos 0) then map (statement_trace f) (map (λ e. e.0) second) else map (statement_trace f) (map (λ e. e.0) first)))) one
      ∙ ap₂ (λ (p q : List (Store → Trace)). with_value (told g s e).seen (told g s e).value (λ v. step_of [] (told g s e).seen Nothing None (if same v (pos 0) then q else p))) two three

  every-statement-same : (st : Stmt) → Traces st
  unfolding Traces
  every-statement-same = ind-Stmt Traces (λ w z is. subst (λ v. Traces (roll-Stmt v)) is
      (λ h. statement-rolled f (map-Stmt _ _ (λ e. e.0) z)
      ∙ (λ i s. traced (statement_level-same z s (subst Same (statement_accesses-rolled (map-Stmt _ _ (λ e. e.0) z)) h) i) s)
      ∙ sym (statement-rolled g (map-Stmt _ _ (λ e. e.0) z))))

  every-same : (block : List Stmt) → Same (block_accesses block) → map (statement_trace f) block ≡ map (statement_trace g) block
  unfolding Traces block_accesses
  every-same [] h = refl
  every-same (st ∷ block) h =
      ap₂ (λ (t : Store → Trace) (ts : List (Store → Trace)). t ∷ ts)
      (every-statement-same st (λ n j. h n (has-left _ _ n j)))
      (every-same block (λ n j. h n (has-right (statement_accesses st) _ n j)))

  announced-same : (s : Store) → announced f s ≡ announced g s
  unfolding announced
  announced-same s = refl

  pub instance-same : (block : List Stmt) (s : Store) → Same (block_accesses block) → instance_trace f block s ≡ instance_trace g block s
  unfolding instance_trace block_trace
  instance-same block s h =
      ap₂ (λ (ts : List (Store → Trace)) (os : List Observation). record (in_turn ts (started s)) { entries = shown_before os (in_turn ts (started s)).entries }) (every-same block h) (announced-same s)

  pub head-same : (head : Head) (s : Store) → Same (head_accesses head) → head_of f head s ≡ head_of g head s
  unfolding head_of
  head-same (For lower upper stride) s h =
      ap₂ (λ (p q : Told). then_head p.seen p.value (λ from. then_head q.seen q.value (λ to. heading (shown f Lower from ∷ shown f Trip (pos (trip_count from to stride)) ∷ []) (Ok (Bounds from (trip_count from to stride))))))
      (told-same s lower (λ n j. h n (has-left _ _ n j))) (told-same s upper (λ n j. h n (has-right (expression_accesses lower) _ n j)))
  head-same (While condition) s h =
      ap (λ (p : Told). then_head p.seen p.value (λ v. heading (shown f Condition (as_number (not (same v (pos 0)))) ∷ []) (Ok (Tested (not (same v (pos 0))))))) (told-same s condition h)

  headed-same : (head : Head) (s : Store) → Same (head_accesses head) → traced (headed f head (λ y. []) s) s ≡ traced (headed g head (λ y. []) s) s
  headed-same head s h = ap₂ (λ (os : List Observation) (r : Headed). traced (head_step os r.seen r.value (λ y. [])) s) (announced-same s) (head-same head s h)

list_any-here : (test : Access → Bool) (accesses : List Access) (a : Access) → Has accesses a → test a ≡ true → list_any test accesses ≡ true
list_any-here test accesses a has is = has_any test accesses a has is

only-same : (k : AccessKind) (accesses : List Access) (expected : ℕ → Option Interval) (a : Access) → Has accesses a → same_kind a.kind k ≡ true → expected a.number ≡ only k accesses expected a.number
only-same k accesses expected a has is =
    by (list_any (is_access k a.number) accesses) (list_any-here (is_access k a.number) accesses a has (ap₂ (λ (b c : Bool). b && c) is (eq-eqb a.number a.number refl)))
  where
    by : (b : Bool) → b ≡ true → expected a.number ≡ (if b then expected a.number else None)
    by true e = refl
    by false e = absurd (cc)

pub own-accesses : OwnAccesses
own-accesses p at values w s = by w (λ a has. each a a.kind refl has)
  where
    each : (a : Access) (k : AccessKind) → a.kind ≡ k → Has (work_accesses w) a → SameBy at values (expectation_at p at) (own_accesses p at w) refl k a.number
    each a kind.Load e has = only-same kind.Load (work_accesses w) (p.interval at) a has (ap (λ (q : AccessKind). same_kind q kind.Load) e)
    each a kind.Store e has = only-same kind.Store (work_accesses w) (p.interval at) a has (ap (λ (q : AccessKind). same_kind q kind.Store) e)

    by : (v : Work) → Same at values (expectation_at p at) (own_accesses p at w) refl (work_accesses v) → work_trace (frame_with at values (expectation_at p at)) v s ≡ work_trace (frame_with at values (own_accesses p at w)) v s
    by (Runs first rest) h = instance-same at values (expectation_at p at) (own_accesses p at w) refl (first ∷ rest) s h
    by (Evaluates head) h = headed-same at values (expectation_at p at) (own_accesses p at w) refl head s h
