-- What runs depends on what is expected of its own accesses alone.
use Rattle.std.proofs.Common.{◌≡◌, refl, ap, ap₂, ◌∙◌, sym, subst, ℤ, pos, Bool, not, List, [], ◌∷◌, ◌++◌, map, Option, None, Result, Ok, arith}
use Rattle.std.specs.Prelude.{if◌then◌else◌}
use Rattle.std.specs.List.{Contains, flat_map}
use Rattle.std.proofs.lemmas.List.Elements.{Contains-append_left, Contains-append_right}
use Rattle.nest_lang.specs.declared.tree.Access.{Access}
use Rattle.nest_lang.specs.declared.tree.Expr.{Expr, map-Expr, roll-Expr}
use Rattle.nest_lang.specs.declared.tree.Expr.TheOpen.{Expr-F}
use Rattle.nest_lang.specs.declared.tree.Expr.TheFolds.{fold-roll-Expr, ind-Expr}
use Rattle.nest_lang.specs.declared.tree.Stmt.{Stmt, map-Stmt, roll-Stmt}
use Rattle.nest_lang.specs.declared.tree.Stmt.TheOpen.{Stmt-F}
use Rattle.nest_lang.specs.declared.tree.Stmt.TheFolds.{fold-roll-Stmt, ind-Stmt}
use Rattle.nest_lang.specs.declared.tree.Head.{Head}
use Rattle.nest_lang.specs.declared.tree.Head.TheVariants.{For, While}
use Rattle.nest_lang.specs.declared.observe.Stop.{Stop}
use Rattle.nest_lang.specs.declared.observe.Seen.TheVariants.{Address, Lower, Trip, Condition}
use Rattle.nest_lang.specs.Values.{same, trip_count}
use Rattle.nest_lang.specs.Stores.{Store, Nothing, Local, Scalar}
use Rattle.nest_lang.specs.Lookups.{Interval, Expectation, look, look_load}
use Rattle.nest_lang.specs.Traces.{Occurrence, Observation, Trace, in_turn, step_of, traced}
use Rattle.nest_lang.specs.Expressions.{Frame, shown, Told, telling, then_tell, or_stopped, told_by, told}
use Rattle.nest_lang.specs.Expressions as expressions
use Rattle.nest_lang.specs.Statements.{with_value, stored, statement_trace, block_trace, started, announced, shown_before, instance_trace}
use Rattle.nest_lang.specs.Statements as statements
use Rattle.nest_lang.specs.Heads.{Bounds, Tested, as_number, heading, then_head, head_of}
use Rattle.nest_lang.specs.Accesses.{load, store, expression_level, expression_accesses, all_in, statement_level, statement_accesses, block_accesses, head_accesses}
use Rattle.nest_lang.specs.AccessLaws.{AgreeOn, frame_with, InstancesHaveOwnAccesses, HeadsHaveOwnAccesses}
use Rattle.nest_lang.proofs.StepLaws.{told-rolled, statement-rolled}

accesses-rolled : (y : Expr-F Expr) → expression_accesses (roll-Expr y) ≡ expression_level (map-Expr _ _ expression_accesses y)
unfolding expression_accesses
accesses-rolled y = fold-roll-Expr (List Access) expression_level y

statement_accesses-rolled : (y : Stmt-F Stmt) → statement_accesses (roll-Stmt y) ≡ statement_level (map-Stmt _ _ statement_accesses y)
unfolding statement_accesses
statement_accesses-rolled y = fold-roll-Stmt (List Access) statement_level y

contains-only : (x : Access) → Contains (x ∷ []) x
contains-only x = (0, omega arith, refl)

module _ (at : Occurrence) (values : List ℤ) (x y : Expectation) where
  abbrev f : Frame
  f = frame_with at values x

  abbrev g : Frame
  g = frame_with at values y

  Agree : List Access → Type 0
  Agree accesses = AgreeOn accesses x y

  left : (xs ys : List Access) → Agree (xs ++ ys) → Agree xs
  unfolding Agree
  left xs ys h = record { verify = h.verify; loads = λ n k. h.loads n (Contains-append_left xs ys (load n) k); stores = λ n k. h.stores n (Contains-append_left xs ys (store n) k) }

  right : (xs ys : List Access) → Agree (xs ++ ys) → Agree ys
  unfolding Agree
  right xs ys h = record { verify = h.verify; loads = λ n k. h.loads n (Contains-append_right xs ys (load n) k); stores = λ n k. h.stores n (Contains-append_right xs ys (store n) k) }

  look-same : (a b : Option Interval) (memory : List ℤ) (z : ℤ) → x.verifies ≡ y.verifies → a ≡ b → look x.verifies a memory z ≡ look y.verifies b memory z
  look-same a b memory z v e = ap₂ (λ (v : Bool) (o : Option Interval). look v o memory z) v e

  module _ (scalars locals memory : List ℤ) where
    abbrev tells-f : Expr → Told
    tells-f = told_by f scalars locals (look_load x memory)

    abbrev tells-g : Expr → Told
    tells-g = told_by g scalars locals (look_load y memory)

    Tells : Expr → Type 0
    Tells e = Agree (expression_accesses e) → tells-f e ≡ tells-g e

    level-same : (z : Expr-F ((e : Expr) × Tells e)) → Agree (expression_level (map-Expr _ _ expression_accesses (map-Expr _ _ (λ e. e.0) z)))
        → expressions.expression_level f scalars locals (look_load x memory) (map-Expr _ _ tells-f (map-Expr _ _ (λ e. e.0) z)) ≡ expressions.expression_level g scalars locals (look_load y memory) (map-Expr _ _ tells-g (map-Expr _ _ (λ e. e.0) z))
    unfolding Tells Agree
    level-same (Expr-F.Number n) h = refl
    level-same (Expr-F.Var place) h = refl
    level-same (Expr-F.Load access a) h =
        let own : Agree (load access ∷ []) = right (expression_accesses a.0) (load access ∷ []) h in
        let expects : x.loads access ≡ y.loads access = own.loads access (contains-only (load access)) in
        ap (λ (r : Told). then_tell r.seen r.value (λ z. telling (shown f (Address access) z ∷ []) (or_stopped access (look x.verifies (x.loads access) memory z)))) (a.1 (left (expression_accesses a.0) (load access ∷ []) h))
        ∙ ap (λ (go : ℤ → Told). then_tell (tells-g a.0).seen (tells-g a.0).value go)
        (λ i z. telling (shown f (Address access) z ∷ []) (or_stopped access (look-same (x.loads access) (y.loads access) memory z h.verify expects i)))
    level-same (Expr-F.Neg a) h = ap (λ (r : Told). expressions.expression_level f scalars locals (look_load x memory) (Expr-F.Neg r)) (a.1 h)
    level-same (Expr-F.Two op a b) h =
        ap₂ (λ (q r : Told). expressions.expression_level f scalars locals (look_load x memory) (Expr-F.Two op q r)) (a.1 (left (expression_accesses a.0) (expression_accesses b.0) h)) (b.1 (right (expression_accesses a.0) (expression_accesses b.0) h))

    tells : (e : Expr) → Tells e
    unfolding Tells
    tells = ind-Expr Tells (λ w z is. subst (λ v. Tells (roll-Expr v)) is
        (λ h. told-rolled f scalars locals (look_load x memory) (map-Expr _ _ (λ e. e.0) z)
        ∙ level-same z (subst Agree (accesses-rolled (map-Expr _ _ (λ e. e.0) z)) h)
        ∙ sym (told-rolled g scalars locals (look_load y memory) (map-Expr _ _ (λ e. e.0) z))))

  told-same : (s : Store) (e : Expr) → Agree (expression_accesses e) → told f s e ≡ told g s e
  unfolding Tells
  told-same s e h = tells s.scalars s.locals s.memory e h

  Traces : Stmt → Type 0
  Traces st = Agree (statement_accesses st) → statement_trace f st ≡ statement_trace g st

  statements-same : (zs : List ((st : Stmt) × Traces st)) → Agree (all_in (map statement_accesses (map (λ e. e.0) zs))) → map (statement_trace f) (map (λ e. e.0) zs) ≡ map (statement_trace g) (map (λ e. e.0) zs)
  unfolding Traces
  statements-same [] h = refl
  statements-same (z ∷ zs) h =
      let rest : List Access = all_in (map statement_accesses (map (λ e. e.0) zs)) in
      ap₂ (λ (t : Store → Trace) (ts : List (Store → Trace)). t ∷ ts) (z.1 (left (statement_accesses z.0) rest h)) (statements-same zs (right (statement_accesses z.0) rest h))

  statement_level-same : (z : Stmt-F ((st : Stmt) × Traces st)) (s : Store) → Agree (statement_level (map-Stmt _ _ statement_accesses (map-Stmt _ _ (λ e. e.0) z)))
      → statements.statement_level f (map-Stmt _ _ (statement_trace f) (map-Stmt _ _ (λ e. e.0) z)) s ≡ statements.statement_level g (map-Stmt _ _ (statement_trace g) (map-Stmt _ _ (λ e. e.0) z)) s
  unfolding Traces Agree
  statement_level-same (Stmt-F.Let number e) s h = ap (λ (q : Told). with_value q.seen q.value (λ v. step_of [] q.seen (Local number v) None [])) (told-same s e h)
  statement_level-same (Stmt-F.Set number e) s h = ap (λ (q : Told). with_value q.seen q.value (λ v. step_of [] q.seen (Scalar number v) None [])) (told-same s e h)
  statement_level-same (Stmt-F.Store access a e) s h =
      let both : Agree (expression_accesses a ++ expression_accesses e) = left (expression_accesses a ++ expression_accesses e) (store access ∷ []) h in
      let own : Agree (store access ∷ []) = right (expression_accesses a ++ expression_accesses e) (store access ∷ []) h in
      let expects : x.stores access ≡ y.stores access = own.stores access (contains-only (store access)) in
      ap₂ (λ (p q : Told). with_value p.seen p.value (λ z. with_value (p.seen ++ q.seen) q.value (λ v. stored (p.seen ++ q.seen ++ shown f (Address access) z ∷ []) z v (or_stopped access (look x.verifies (x.stores access) s.memory z)))))
      (told-same s a (left (expression_accesses a) (expression_accesses e) both)) (told-same s e (right (expression_accesses a) (expression_accesses e) both))
      ∙ ap (λ (found : ℤ → Result ℤ Stop). with_value (told g s a).seen (told g s a).value (λ z. with_value ((told g s a).seen ++ (told g s e).seen) (told g s e).value (λ v. stored ((told g s a).seen ++ (told g s e).seen ++ shown f (Address access) z ∷ []) z v (or_stopped access (found z)))))
      (λ i z. look-same (x.stores access) (y.stores access) s.memory z h.verify expects i)
  statement_level-same (Stmt-F.If e first second) s h =
      let ones : List Access = all_in (map statement_accesses (map (λ e. e.0) first)) in
      let twos : List Access = all_in (map statement_accesses (map (λ e. e.0) second)) in
      let front : Agree (expression_accesses e ++ ones) = left (expression_accesses e ++ ones) twos h in
      let one = told-same s e (left (expression_accesses e) ones front) in
      let two = statements-same first (right (expression_accesses e) ones front) in
      let three = statements-same second (right (expression_accesses e ++ ones) twos h) in
      ap (λ (q : Told). with_value q.seen q.value (λ v. step_of [] q.seen Nothing None (if same v (pos 0) then map (statement_trace f) (map (λ e. e.0) second) else map (statement_trace f) (map (λ e. e.0) first)))) one
      ∙ ap₂ (λ (p q : List (Store → Trace)). with_value (told g s e).seen (told g s e).value (λ v. step_of [] (told g s e).seen Nothing None (if same v (pos 0) then q else p))) two three

  every-statement-same : (st : Stmt) → Traces st
  unfolding Traces
  every-statement-same = ind-Stmt Traces (λ w z is. subst (λ v. Traces (roll-Stmt v)) is
      (λ h. statement-rolled f (map-Stmt _ _ (λ e. e.0) z)
      ∙ (λ i s. traced (statement_level-same z s (subst Agree (statement_accesses-rolled (map-Stmt _ _ (λ e. e.0) z)) h) i) s)
      ∙ sym (statement-rolled g (map-Stmt _ _ (λ e. e.0) z))))

  every-same : (block : List Stmt) → Agree (flat_map statement_accesses block) → map (statement_trace f) block ≡ map (statement_trace g) block
  unfolding Traces
  every-same [] h = refl
  every-same (st ∷ block) h =
      ap₂ (λ (t : Store → Trace) (ts : List (Store → Trace)). t ∷ ts)
      (every-statement-same st (left (statement_accesses st) (flat_map statement_accesses block) h))
      (every-same block (right (statement_accesses st) (flat_map statement_accesses block) h))

  announced-same : (s : Store) → announced f s ≡ announced g s
  unfolding announced
  announced-same s = refl

  instance-same : (block : List Stmt) (s : Store) → AgreeOn (block_accesses block) x y → instance_trace f block s ≡ instance_trace g block s
  unfolding instance_trace block_trace block_accesses Agree
  instance-same block s h =
      ap₂ (λ (ts : List (Store → Trace)) (os : List Observation). record (in_turn ts (started s)) { entries = shown_before os (in_turn ts (started s)).entries }) (every-same block h) (announced-same s)

  head-same : (head : Head) (s : Store) → AgreeOn (head_accesses head) x y → head_of f head s ≡ head_of g head s
  unfolding head_of Agree
  head-same (For lower upper stride) s h =
      ap₂ (λ (p q : Told). then_head p.seen p.value (λ from. then_head q.seen q.value (λ to. heading (shown f Lower from ∷ shown f Trip (pos (trip_count from to stride)) ∷ []) (Ok (Bounds from (trip_count from to stride))))))
      (told-same s lower (left (expression_accesses lower) (expression_accesses upper) h)) (told-same s upper (right (expression_accesses lower) (expression_accesses upper) h))
  head-same (While condition) s h =
      ap (λ (p : Told). then_head p.seen p.value (λ v. heading (shown f Condition (as_number (not (same v (pos 0)))) ∷ []) (Ok (Tested (not (same v (pos 0))))))) (told-same s condition h)

pub instances-have-own-accesses : InstancesHaveOwnAccesses
instances-have-own-accesses at values x y block s h = instance-same at values x y block s h

pub heads-have-own-accesses : HeadsHaveOwnAccesses
heads-have-own-accesses at values x y head s h = head-same at values x y head s h
