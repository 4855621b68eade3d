-- An instance whose addresses are verified, beside the plain one.
use Rattle.std.proofs.Common.{◌≡◌, refl, ap, ◌∙◌, sym, subst, ℕ, ℤ, pos, ◌⊎◌, inl, inr, Bool, true, false, not, List, [], ◌∷◌, ◌++◌, append_assoc, append-nil, map, Option, Some, None, Result, Ok, Err}
use Rattle.std.specs.Prelude.{if◌then◌else◌, ◌&&◌}
use Rattle.nest_lang.specs.declared.tree.Expr.{Expr, map-Expr, roll-Expr}
use Rattle.nest_lang.specs.declared.tree.Expr.TheOpen.{Expr-F}
use Rattle.nest_lang.specs.declared.tree.Expr.TheFolds.{ind-Expr}
use Rattle.nest_lang.specs.declared.tree.Stmt.{Stmt, map-Stmt, roll-Stmt}
use Rattle.nest_lang.specs.declared.tree.Stmt.TheOpen.{Stmt-F}
use Rattle.nest_lang.specs.declared.tree.Stmt.TheFolds.{ind-Stmt}
use Rattle.nest_lang.specs.declared.tree.Head.{Head}
use Rattle.nest_lang.specs.declared.tree.Head.TheVariants.{For, While}
use Rattle.nest_lang.specs.declared.observe.Stop.TheVariants.{Unexpected}
use Rattle.nest_lang.specs.declared.observe.Seen.TheVariants.{Address}
use Rattle.nest_lang.specs.Values.{same}
use Rattle.nest_lang.specs.Stores.{Store, word_at, Nothing, Local, Scalar, effect_on}
use Rattle.nest_lang.specs.Lookups.{Interval, Expectation, plain, lies_in, line_of, look, look_load, look_store, word_or_outside}
use Rattle.nest_lang.specs.Traces.{Observation, Entry, Halt, Stopped, Trace, joined, and_then, in_turn, Transition, step_of, traced, after_all}
use Rattle.nest_lang.specs.Expressions.{Frame, shown, Told, telling, then_tell, or_stopped, expression_level, told_by, told}
use Rattle.nest_lang.specs.Statements.{with_value, stored, statement_level, statement_trace, block_trace, started, announced, shown_before, instance_trace}
use Rattle.nest_lang.specs.Heads.{Yield, Headed, heading, then_head, head_of, head_step}
use Rattle.block_exec.specs.Laws.{head_trace, IsUnexpected, StopsUnexpected, InstancesArePlainOrStop}
use Rattle.nest_lang.proofs.StepLaws.{told-rolled, statement-rolled, with_value-before, stored-before, stored-seen, value-step, store-step, value-step-before, head_step-before, head_step-seen}

abbrev Begins : List Observation → List Observation → Type 0
Begins xs ys = (more : List Observation) × (ys ≡ xs ++ more)

begins-same : (xs ys : List Observation) → ys ≡ xs → Begins xs ys
begins-same xs ys e = ([], e ∙ sym (append-nil xs))

-- the entries of a trace that goes on behind some entries
goes-on : (halt : Option Halt) (es : List Entry) (w : Trace) (shared : List Entry) (other : Entry) (more : List Entry) → es ≡ shared ++ other ∷ more → (behind : List Entry) × ((joined halt es w).entries ≡ shared ++ other ∷ behind)
goes-on (Some halt) es w shared other more e = (more, e)
goes-on None es w shared other more e = (more ++ w.entries, ap (λ z. z ++ w.entries) e ∙ append_assoc shared (other ∷ more) w.entries)

with_value-begins : (xs seen : List Observation) (v : Result ℤ Halt) (go : ℤ → Transition) → Begins xs seen → ((z : ℤ) → Begins xs (go z).entry.seen) → Begins xs (with_value seen v go).entry.seen
with_value-begins xs seen (Ok z) go b each = each z
with_value-begins xs seen (Err halt) go b each = b

module _ (f : Frame) where
  abbrev g : Frame
  g = record f { expects = plain }

  -- what is shown ends with the address of an access that is not expected, and the value is its halt; the
  -- other shows that, and maybe more
  record Refused {A : Type 0} (p q : List Observation) (v : Result A Halt) : Type 0 where
    access : ℕ
    address : ℤ
    line : Option ℤ
    front : List Observation
    behind : List Observation
    value : v ≡ Err (Stopped access address line)
    shows : p ≡ front ++ shown f (Address access) address ∷ []
    begins : q ≡ p ++ behind
    unexpected : IsUnexpected f.expects access address line

  refused-behind : {A : Type 0} (xs p q : List Observation) (v : Result A Halt) → Refused p q v → Refused (xs ++ p) (xs ++ q) v
  refused-behind xs p q v r =
      record {
        access = r.access;
        address = r.address;
        line = r.line;
        front = xs ++ r.front;
        behind = r.behind;
        value = r.value;
        shows = ap (λ z. xs ++ z) r.shows ∙ sym (append_assoc xs r.front (shown f (Address r.access) r.address ∷ []));
        begins = ap (λ z. xs ++ z) r.begins ∙ sym (append_assoc xs p r.behind);
        unexpected = r.unexpected;
      }

  refused-begins : {A : Type 0} (p q q' : List Observation) (v : Result A Halt) → Refused p q v → Begins q q' → Refused p q' v
  refused-begins p q q' v r b =
      record {
        access = r.access;
        address = r.address;
        line = r.line;
        front = r.front;
        behind = r.behind ++ b.0;
        value = r.value;
        shows = r.shows;
        begins = b.1 ∙ ap (λ z. z ++ b.0) r.begins ∙ append_assoc p r.behind b.0;
        unexpected = r.unexpected;
      }

  refused-halt : {A : Type 0} (p q : List Observation) (h : Halt) (r : Refused {A = A} p q (Err h)) → h ≡ Stopped r.access r.address r.line
  refused-halt p q h r = let e = r.value in cc

  recast : {A B : Type 0} (p q : List Observation) (h : Halt) → Refused {A = A} p q (Err h) → Refused {A = B} p q (Err h)
  recast p q h r =
      record {
        access = r.access;
        address = r.address;
        line = r.line;
        front = r.front;
        behind = r.behind;
        value = ap Err (refused-halt p q h r);
        shows = r.shows;
        begins = r.begins;
        unexpected = r.unexpected;
      }

  -- a look-up is the plain one, or refuses what is not expected
  abbrev Looks : ℕ → ℤ → Result ℤ Halt → Result ℤ Halt → Type 0
  Looks access z r r' = (r ≡ r') ⊎ ((line : Option ℤ) × (r ≡ Err (Stopped access z line)) × IsUnexpected f.expects access z line)

  look-up : (interval : Option Interval) (memory : List ℤ) (access : ℕ) (z : ℤ) → (interval ≡ f.expects.loads access) ⊎ (interval ≡ f.expects.stores access)
      → Looks access z (or_stopped access (look f.expects.verifies interval memory z)) (or_stopped access (look false None memory z))
  unfolding look
  look-up interval memory access z its = at f.expects.verifies (lies_in interval z) refl
    where
      at : (v b : Bool) → lies_in interval z ≡ b → Looks access z (or_stopped access (if v && not b then Err (Unexpected z (line_of interval)) else word_or_outside z (word_at memory z))) (or_stopped access (word_or_outside z (word_at memory z)))
      at false b e = inl refl
      at true true e = inl refl
      at true false e = inr (line_of interval, refl, record { interval = interval; its = its; beyond = e; lined = refl })

  abbrev ToldUp : Told → Told → Type 0
  ToldUp p q = (p ≡ q) ⊎ Refused p.seen q.seen p.value

  load-up : (access : ℕ) (z : ℤ) (r r' : Result ℤ Halt) → Looks access z r r' → ToldUp (telling (shown f (Address access) z ∷ []) r) (telling (shown f (Address access) z ∷ []) r')
  load-up access z r r' (inl e) = inl (ap (λ (v : Result ℤ Halt). telling (shown f (Address access) z ∷ []) v) e)
  load-up access z r r' (inr (line, is, un)) =
      inr (record { access = access; address = z; line = line; front = []; behind = []; value = is; shows = refl; begins = refl; unexpected = un })

  then_tell-up : (p q : Told) (go go' : ℤ → Told) → ToldUp p q → ((z : ℤ) → ToldUp (go z) (go' z)) → ToldUp (then_tell p.seen p.value go) (then_tell q.seen q.value go')
  then_tell-up p q go go' (inl e) each = subst (λ (r : Told). ToldUp (then_tell p.seen p.value go) (then_tell r.seen r.value go')) e (at p.seen p.value)
    where
      more : (seen : List Observation) (z : ℤ) → ToldUp (go z) (go' z) → ToldUp (telling (seen ++ (go z).seen) (go z).value) (telling (seen ++ (go' z).seen) (go' z).value)
      more seen z (inl e) = inl (ap (λ (r : Told). telling (seen ++ r.seen) r.value) e)
      more seen z (inr r) = inr (refused-behind seen (go z).seen (go' z).seen (go z).value r)

      at : (seen : List Observation) (v : Result ℤ Halt) → ToldUp (then_tell seen v go) (then_tell seen v go')
      at seen (Err halt) = inl refl
      at seen (Ok z) = more seen z (each z)
  then_tell-up p q go go' (inr r) each = inr (stop p.value q.value r)
    where
      stop : (v w : Result ℤ Halt) → Refused p.seen q.seen v → Refused (then_tell p.seen v go).seen (then_tell q.seen w go').seen (then_tell p.seen v go).value
      stop (Ok z) w r = absurd (let e = r.value in cc)
      stop (Err h) (Err k) r = r
      stop (Err h) (Ok z) r = refused-begins p.seen q.seen (q.seen ++ (go' z).seen) (Err h) r ((go' z).seen, refl)

  abbrev HeadedUp : Headed → Headed → Type 0
  HeadedUp p q = (p ≡ q) ⊎ Refused p.seen q.seen p.value

  then_head-up : (p q : Told) (go go' : ℤ → Headed) → ToldUp p q → ((z : ℤ) → HeadedUp (go z) (go' z)) → HeadedUp (then_head p.seen p.value go) (then_head q.seen q.value go')
  then_head-up p q go go' (inl e) each = subst (λ (r : Told). HeadedUp (then_head p.seen p.value go) (then_head r.seen r.value go')) e (at p.seen p.value)
    where
      more : (seen : List Observation) (z : ℤ) → HeadedUp (go z) (go' z) → HeadedUp (heading (seen ++ (go z).seen) (go z).value) (heading (seen ++ (go' z).seen) (go' z).value)
      more seen z (inl e) = inl (ap (λ (r : Headed). heading (seen ++ r.seen) r.value) e)
      more seen z (inr r) = inr (refused-behind seen (go z).seen (go' z).seen (go z).value r)

      at : (seen : List Observation) (v : Result ℤ Halt) → HeadedUp (then_head seen v go) (then_head seen v go')
      at seen (Err halt) = inl refl
      at seen (Ok z) = more seen z (each z)
  then_head-up p q go go' (inr r) each = inr (stop p.value q.value r)
    where
      stop : (v w : Result ℤ Halt) → Refused p.seen q.seen v → Refused (then_head p.seen v go).seen (then_head q.seen w go').seen (then_head p.seen v go).value
      stop (Ok z) w r = absurd (let e = r.value in cc)
      stop (Err h) (Err k) r = recast p.seen q.seen h r
      stop (Err h) (Ok z) r = recast p.seen (q.seen ++ (go' z).seen) h (refused-begins p.seen q.seen (q.seen ++ (go' z).seen) (Err h) r ((go' z).seen, refl))

  module _ (scalars locals memory : List ℤ) where
    Tells : Expr → Type 0
    Tells e = ToldUp (told_by f scalars locals (look_load f.expects memory) e) (told_by g scalars locals (look_load plain memory) e)

    level-up : (y : Expr-F ((e : Expr) × Tells e))
        → ToldUp (expression_level f scalars locals (look_load f.expects memory) (map-Expr _ _ (told_by f scalars locals (look_load f.expects memory)) (map-Expr _ _ (λ e. e.0) y)))
        (expression_level g scalars locals (look_load plain memory) (map-Expr _ _ (told_by g scalars locals (look_load plain memory)) (map-Expr _ _ (λ e. e.0) y)))
    unfolding Tells
    level-up (Expr-F.Number n) = inl refl
    level-up (Expr-F.Var place) = inl refl
    level-up (Expr-F.Load access a) = then_tell-up _ _ _ _ a.1 (λ z. load-up access z _ _ (look-up (f.expects.loads access) memory access z (inl refl)))
    level-up (Expr-F.Neg a) = then_tell-up _ _ _ _ a.1 (λ z. inl refl)
    level-up (Expr-F.Two op a b) = then_tell-up _ _ _ _ a.1 (λ z. then_tell-up _ _ _ _ b.1 (λ v. inl refl))

    tells : (e : Expr) → Tells e
    unfolding Tells
    tells = ind-Expr Tells (λ y z is. subst (λ w. Tells (roll-Expr w)) is
        (subst (λ (p : Told). ToldUp p (told_by g scalars locals (look_load plain memory) (roll-Expr (map-Expr _ _ (λ e. e.0) z)))) (sym (told-rolled f scalars locals (look_load f.expects memory) (map-Expr _ _ (λ e. e.0) z)))
        (subst (λ (q : Told). ToldUp (expression_level f scalars locals (look_load f.expects memory) (map-Expr _ _ (told_by f scalars locals (look_load f.expects memory)) (map-Expr _ _ (λ e. e.0) z))) q) (sym (told-rolled g scalars locals (look_load plain memory) (map-Expr _ _ (λ e. e.0) z))) (level-up z))))

  told-up : (s : Store) (e : Expr) → ToldUp (told f s e) (told g s e)
  unfolding Tells
  told-up s e = tells s.scalars s.locals s.memory e

  -- traces
  abbrev Up : Trace → Trace → Type 0
  Up t u = (t ≡ u) ⊎ StopsUnexpected f t u

  abbrev UpOn : (Store → Trace) → (Store → Trace) → Type 0
  UpOn a b = (s : Store) → Up (a s) (b s)

  up-joined : (halt : Option Halt) (es : List Entry) (t u : Trace) → Up t u → Up (joined halt es t) (joined halt es u)
  up-joined (Some halt) es t u up = inl refl
  up-joined None es t u (inl e) = inl (ap (λ (w : Trace). joined None es w) e)
  up-joined None es t u (inr p) =
      inr (record {
        shared = es ++ p.shared;
        last = p.last;
        other = p.other;
        more = p.more;
        access = p.access;
        address = p.address;
        line = p.line;
        front = p.front;
        behind = p.behind;
        stopped = ap (λ (w : Trace). joined None es w) p.stopped ∙ ap (λ (entries : List Entry). record { entries = entries; halt = Some (Stopped p.access p.address p.line) }) (sym (append_assoc es p.shared (p.last ∷ [])));
        goes = ap (λ (entries : List Entry). es ++ entries) p.goes ∙ sym (append_assoc es p.shared (p.other ∷ p.more));
        due = p.due;
        shows = p.shows;
        begins = p.begins;
        unchanged = p.unchanged;
        unexpected = p.unexpected;
      })

  up-and_then : (s : Store) (t u : Trace) (a b : Store → Trace) → Up t u → UpOn a b → Up (and_then s t a) (and_then s u b)
  up-and_then s t u a b (inl e) on = subst (λ (w : Trace). Up (and_then s t a) (and_then s w b)) e (up-joined t.halt t.entries (a (after_all s t.entries)) (b (after_all s t.entries)) (on (after_all s t.entries)))
  up-and_then s t u a b (inr p) on =
      let goes = goes-on u.halt u.entries (b (after_all s u.entries)) p.shared p.other p.more p.goes in
      inr (record {
        shared = p.shared;
        last = p.last;
        other = p.other;
        more = goes.0;
        access = p.access;
        address = p.address;
        line = p.line;
        front = p.front;
        behind = p.behind;
        stopped = ap (λ (w : Trace). and_then s w a) p.stopped;
        goes = goes.1;
        due = p.due;
        shows = p.shows;
        begins = p.begins;
        unchanged = p.unchanged;
        unexpected = p.unexpected;
      })

  -- one step that stops, beside one that shows the same and maybe more
  record StepRefused (a b : Transition) : Type 0 where
    access : ℕ
    address : ℤ
    line : Option ℤ
    front : List Observation
    behind : List Observation
    halt : a.halt ≡ Some (Stopped access address line)
    due : a.entry.before ≡ b.entry.before
    shows : a.entry.seen ≡ front ++ shown f (Address access) address ∷ []
    begins : b.entry.seen ≡ a.entry.seen ++ behind
    unchanged : a.entry.effect ≡ Nothing
    unexpected : IsUnexpected f.expects access address line

  up-step : (a b : Transition) (s : Store) → StepRefused a b → Up (traced a s) (traced b s)
  up-step a b s p =
      let goes = goes-on b.halt (b.entry ∷ []) (in_turn b.rest (effect_on s b.entry.effect)) [] b.entry [] refl in
      inr (record {
        shared = [];
        last = a.entry;
        other = b.entry;
        more = goes.0;
        access = p.access;
        address = p.address;
        line = p.line;
        front = p.front;
        behind = p.behind;
        stopped = ap (λ (h : Option Halt). joined h (a.entry ∷ []) (in_turn a.rest (effect_on s a.entry.effect))) p.halt;
        goes = goes.1;
        due = p.due;
        shows = p.shows;
        begins = p.begins;
        unchanged = p.unchanged;
        unexpected = p.unexpected;
      })

  value-refused : (seen : List Observation) (v : Result ℤ Halt) (go : ℤ → Transition) (b : Transition) → Refused seen b.entry.seen v → b.entry.before ≡ [] → StepRefused (with_value seen v go) b
  value-refused seen (Ok z) go b r none = absurd (let e = r.value in cc)
  value-refused seen (Err h) go b r none =
      record {
        access = r.access;
        address = r.address;
        line = r.line;
        front = r.front;
        behind = r.behind;
        halt = ap Some (refused-halt seen b.entry.seen h r);
        due = sym none;
        shows = r.shows;
        begins = r.begins;
        unchanged = refl;
        unexpected = r.unexpected;
      }

  head-refused : (before : List Observation) (p q : Headed) (go : Yield → List (Store → Trace)) → Refused p.seen q.seen p.value → StepRefused (head_step before p.seen p.value go) (head_step before q.seen q.value go)
  head-refused before p q go r = at p.value r
    where
      at : (v : Result Yield Halt) → Refused p.seen q.seen v → StepRefused (head_step before p.seen v go) (head_step before q.seen q.value go)
      at (Ok y) r = absurd (let e = r.value in cc)
      at (Err h) r =
          record {
            access = r.access;
            address = r.address;
            line = r.line;
            front = r.front;
            behind = r.behind;
            halt = ap Some (refused-halt p.seen q.seen h r);
            due = sym (head_step-before before q.seen q.value go);
            shows = r.shows;
            begins = head_step-seen before q.seen q.value go ∙ r.begins;
            unchanged = refl;
            unexpected = r.unexpected;
          }

  with_value-up : (seen : List Observation) (v : Result ℤ Halt) (go go' : ℤ → Transition) (s : Store) → ((z : ℤ) → Up (traced (go z) s) (traced (go' z) s)) → Up (traced (with_value seen v go) s) (traced (with_value seen v go') s)
  with_value-up seen (Ok z) go go' s each = each z
  with_value-up seen (Err halt) go go' s each = inl refl

  set-up : (go : ℤ → List Observation → Transition) (p q : Told) (s : Store) → ((z : ℤ) (os : List Observation) → (go z os).entry.before ≡ []) → ((z : ℤ) (os : List Observation) → (go z os).entry.seen ≡ os) → ToldUp p q
      → Up (traced (with_value p.seen p.value (λ v. go v p.seen)) s) (traced (with_value q.seen q.value (λ v. go v q.seen)) s)
  set-up go p q s none is (inl e) = inl (ap (λ (r : Told). traced (with_value r.seen r.value (λ v. go v r.seen)) s) e)
  set-up go p q s none is (inr r) =
      let b = with_value-begins q.seen q.seen q.value (λ v. go v q.seen) (begins-same q.seen q.seen refl) (λ z. begins-same q.seen (go z q.seen).entry.seen (is z q.seen)) in
      up-step (with_value p.seen p.value (λ v. go v p.seen)) (with_value q.seen q.value (λ v. go v q.seen)) s
      (value-refused p.seen p.value (λ v. go v p.seen) (with_value q.seen q.value (λ v. go v q.seen)) (refused-begins p.seen q.seen _ p.value r b) (with_value-before q.seen q.value (λ v. go v q.seen) (λ z. none z q.seen)))

  chosen-up : (b : Bool) (x y x' y' : List (Store → Trace)) → UpOn (in_turn x) (in_turn x') → UpOn (in_turn y) (in_turn y') → UpOn (in_turn (if b then x else y)) (in_turn (if b then x' else y'))
  chosen-up true x y x' y' first second = first
  chosen-up false x y x' y' first second = second

  abbrev if-step : List (Store → Trace) → List (Store → Trace) → List Observation → ℤ → Transition
  if-step first second os v = step_of [] os Nothing None (if same v (pos 0) then second else first)

  if-up : (first second first' second' : List (Store → Trace)) (p q : Told) (s : Store) → UpOn (in_turn first) (in_turn first') → UpOn (in_turn second) (in_turn second') → ToldUp p q
      → Up (traced (with_value p.seen p.value (if-step first second p.seen)) s) (traced (with_value q.seen q.value (if-step first' second' q.seen)) s)
  if-up first second first' second' p q s on on' (inl e) =
      subst (λ (r : Told). Up (traced (with_value p.seen p.value (if-step first second p.seen)) s) (traced (with_value r.seen r.value (if-step first' second' r.seen)) s)) e
      (with_value-up p.seen p.value (if-step first second p.seen) (if-step first' second' p.seen) s
      (λ z. up-joined None ((step_of [] p.seen Nothing None []).entry ∷ []) (in_turn (if same z (pos 0) then second else first) s) (in_turn (if same z (pos 0) then second' else first') s) (chosen-up (same z (pos 0)) second first second' first' on' on s)))
  if-up first second first' second' p q s on on' (inr r) =
      let b = with_value-begins q.seen q.seen q.value (if-step first' second' q.seen) (begins-same q.seen q.seen refl) (λ z. begins-same q.seen q.seen refl) in
      up-step (with_value p.seen p.value (if-step first second p.seen)) (with_value q.seen q.value (if-step first' second' q.seen)) s
      (value-refused p.seen p.value (if-step first second p.seen) (with_value q.seen q.value (if-step first' second' q.seen)) (refused-begins p.seen q.seen _ p.value r b) (with_value-before q.seen q.value (if-step first' second' q.seen) (λ z. refl)))

  value-begins : (access : ℕ) (a e : Told) (found : ℤ → Result ℤ Halt) (z : ℤ) → Begins (a.seen ++ e.seen) (value-step f access a e found z).entry.seen
  value-begins access a e found z =
      with_value-begins (a.seen ++ e.seen) (a.seen ++ e.seen) e.value (λ v. stored (a.seen ++ e.seen ++ shown f (Address access) z ∷ []) z v (found z)) (begins-same (a.seen ++ e.seen) (a.seen ++ e.seen) refl)
      (λ v. (shown f (Address access) z ∷ [], stored-seen (a.seen ++ e.seen ++ shown f (Address access) z ∷ []) z v (found z)))

  store-begins : (access : ℕ) (a e : Told) (found : ℤ → Result ℤ Halt) → Begins a.seen (store-step f access a e found).entry.seen
  store-begins access a e found =
      with_value-begins a.seen a.seen a.value (value-step f access a e found) (begins-same a.seen a.seen refl)
      (λ z. let b = value-begins access a e found z in (e.seen ++ b.0, b.1 ∙ append_assoc a.seen e.seen b.0))

  stored-up : (access : ℕ) (seen : List Observation) (z v : ℤ) (r r' : Result ℤ Halt) (s : Store) → Looks access z r r'
      → Up (traced (stored (seen ++ shown f (Address access) z ∷ []) z v r) s) (traced (stored (seen ++ shown f (Address access) z ∷ []) z v r') s)
  stored-up access seen z v r r' s (inl e) = inl (ap (λ (k : Result ℤ Halt). traced (stored (seen ++ shown f (Address access) z ∷ []) z v k) s) e)
  stored-up access seen z v r r' s (inr (line, is, un)) =
      let all = seen ++ shown f (Address access) z ∷ [] in
      up-step (stored all z v r) (stored all z v r') s
      (record {
        access = access;
        address = z;
        line = line;
        front = seen;
        behind = [];
        halt = ap (λ (k : Result ℤ Halt). (stored all z v k).halt) is;
        due = stored-before all z v r ∙ sym (stored-before all z v r');
        shows = stored-seen all z v r;
        begins = stored-seen all z v r' ∙ sym (stored-seen all z v r) ∙ sym (append-nil (stored all z v r).entry.seen);
        unchanged = ap (λ (k : Result ℤ Halt). (stored all z v k).entry.effect) is;
        unexpected = un;
      })

  value-up : (access : ℕ) (a e e' : Told) (found found' : ℤ → Result ℤ Halt) (s : Store) (z : ℤ) → ToldUp e e' → Looks access z (found z) (found' z)
      → Up (traced (value-step f access a e found z) s) (traced (value-step f access a e' found' z) s)
  value-up access a e e' found found' s z (inr r) fu =
      up-step (value-step f access a e found z) (value-step f access a e' found' z) s
      (value-refused (a.seen ++ e.seen) e.value (λ v. stored (a.seen ++ e.seen ++ shown f (Address access) z ∷ []) z v (found z)) (value-step f access a e' found' z)
      (refused-begins (a.seen ++ e.seen) (a.seen ++ e'.seen) _ e.value (refused-behind a.seen e.seen e'.seen e.value r) (value-begins access a e' found' z)) (value-step-before f access a e' found' z))
  value-up access a e e' found found' s z (inl se) fu =
      subst (λ (r : Told). Up (traced (value-step f access a e found z) s) (traced (value-step f access a r found' z) s)) se
      (with_value-up (a.seen ++ e.seen) e.value (λ v. stored (a.seen ++ e.seen ++ shown f (Address access) z ∷ []) z v (found z)) (λ v. stored (a.seen ++ e.seen ++ shown f (Address access) z ∷ []) z v (found' z)) s
      (λ v. stored-up access (a.seen ++ e.seen) z v (found z) (found' z) s fu))

  store-up : (access : ℕ) (a a' e e' : Told) (found found' : ℤ → Result ℤ Halt) (s : Store) → ToldUp a a' → ToldUp e e' → ((z : ℤ) → Looks access z (found z) (found' z))
      → Up (traced (store-step f access a e found) s) (traced (store-step f access a' e' found') s)
  store-up access a a' e e' found found' s (inr r) eu fu =
      up-step (store-step f access a e found) (store-step f access a' e' found') s
      (value-refused a.seen a.value (value-step f access a e found) (store-step f access a' e' found') (refused-begins a.seen a'.seen _ a.value r (store-begins access a' e' found'))
      (with_value-before a'.seen a'.value (value-step f access a' e' found') (value-step-before f access a' e' found')))
  store-up access a a' e e' found found' s (inl sa) eu fu =
      subst (λ (r : Told). Up (traced (store-step f access a e found) s) (traced (store-step f access r e' found') s)) sa
      (with_value-up a.seen a.value (value-step f access a e found) (value-step f access a e' found') s (λ z. value-up access a e e' found found' s z eu (fu z)))

  Runs-up : Stmt → Type 0
  Runs-up st = UpOn (statement_trace f st) (statement_trace g st)

  statements-up : (xs : List ((st : Stmt) × Runs-up st)) → UpOn (in_turn (map (statement_trace f) (map (λ e. e.0) xs))) (in_turn (map (statement_trace g) (map (λ e. e.0) xs)))
  unfolding Runs-up
  statements-up [] s = inl refl
  statements-up (st ∷ xs) s = up-and_then s _ _ _ _ (st.1 s) (statements-up xs)

  statement_level-up : (y : Stmt-F ((st : Stmt) × Runs-up st)) → UpOn (λ s. traced (statement_level f (map-Stmt _ _ (statement_trace f) (map-Stmt _ _ (λ e. e.0) y)) s) s) (λ s. traced (statement_level g (map-Stmt _ _ (statement_trace g) (map-Stmt _ _ (λ e. e.0) y)) s) s)
  unfolding Runs-up
  statement_level-up (Stmt-F.Let number e) s = set-up (λ v os. step_of [] os (Local number v) None []) _ _ s (λ z os. refl) (λ z os. refl) (told-up s e)
  statement_level-up (Stmt-F.Set number e) s = set-up (λ v os. step_of [] os (Scalar number v) None []) _ _ s (λ z os. refl) (λ z os. refl) (told-up s e)
  statement_level-up (Stmt-F.Store access a e) s =
      store-up access _ _ _ _ (λ z. or_stopped access (look_store f.expects s.memory access z)) (λ z. or_stopped access (look_store plain s.memory access z)) s (told-up s a) (told-up s e) (λ z. look-up (f.expects.stores access) s.memory access z (inr refl))
  statement_level-up (Stmt-F.If e first second) s = if-up _ _ _ _ _ _ s (statements-up first) (statements-up second) (told-up s e)

  every-statement-up : (st : Stmt) → Runs-up st
  unfolding Runs-up
  every-statement-up = ind-Stmt Runs-up (λ y z is. subst (λ w. Runs-up (roll-Stmt w)) is
      (subst (λ (p : Store → Trace). UpOn p (statement_trace g (roll-Stmt (map-Stmt _ _ (λ e. e.0) z)))) (sym (statement-rolled f (map-Stmt _ _ (λ e. e.0) z)))
      (subst (λ (q : Store → Trace). UpOn (λ s. traced (statement_level f (map-Stmt _ _ (statement_trace f) (map-Stmt _ _ (λ e. e.0) z)) s) s) q) (sym (statement-rolled g (map-Stmt _ _ (λ e. e.0) z))) (statement_level-up z))))

  block-up : (block : List Stmt) → UpOn (block_trace f block) (block_trace g block)
  unfolding Runs-up block_trace
  block-up [] s = inl refl
  block-up (st ∷ block) s = up-and_then s _ _ _ _ (every-statement-up st s) (block-up block)

  instance-up : (block : List Stmt) → UpOn (instance_trace f block) (instance_trace g block)
  unfolding instance_trace announced
  instance-up block s = at-first (block_trace f block (started s)) (block_trace g block (started s)) (block-up block (started s))
    where
      at-first : (t u : Trace) → Up t u → Up (record t { entries = shown_before (announced f s) t.entries }) (record u { entries = shown_before (announced g s) u.entries })
      at-first t u (inl e) = inl (ap (λ (w : Trace). record w { entries = shown_before (announced f s) w.entries }) e)
      at-first t u (inr p) = stops p.shared p.stopped p.goes
        where
          stops : (shared : List Entry) → t ≡ record { entries = shared ++ p.last ∷ []; halt = Some (Stopped p.access p.address p.line) } → u.entries ≡ shared ++ p.other ∷ p.more
              → Up (record t { entries = shown_before (announced f s) t.entries }) (record u { entries = shown_before (announced g s) u.entries })
          stops [] ended goes =
              inr (record {
                shared = [];
                last = record p.last { before = announced f s ++ p.last.before };
                other = record p.other { before = announced f s ++ p.other.before };
                more = p.more;
                access = p.access;
                address = p.address;
                line = p.line;
                front = p.front;
                behind = p.behind;
                stopped = ap (λ (w : Trace). record w { entries = shown_before (announced f s) w.entries }) ended;
                goes = ap (λ (entries : List Entry). shown_before (announced f s) entries) goes;
                due = ap (λ (os : List Observation). announced f s ++ os) p.due;
                shows = p.shows;
                begins = p.begins;
                unchanged = p.unchanged;
                unexpected = p.unexpected;
              })
          stops (d ∷ es) ended goes =
              inr (record {
                shared = record d { before = announced f s ++ d.before } ∷ es;
                last = p.last;
                other = p.other;
                more = p.more;
                access = p.access;
                address = p.address;
                line = p.line;
                front = p.front;
                behind = p.behind;
                stopped = ap (λ (w : Trace). record w { entries = shown_before (announced f s) w.entries }) ended;
                goes = ap (λ (entries : List Entry). shown_before (announced f s) entries) goes;
                due = p.due;
                shows = p.shows;
                begins = p.begins;
                unchanged = p.unchanged;
                unexpected = p.unexpected;
              })

  head-up : (head : Head) (s : Store) → HeadedUp (head_of f head s) (head_of g head s)
  unfolding head_of
  head-up (For lower upper stride) s =
      then_head-up _ _ _ _ (told-up s lower) (λ from. then_head-up _ _ _ _ (told-up s upper) (λ to. inl refl))
  head-up (While condition) s = then_head-up _ _ _ _ (told-up s condition) (λ v. inl refl)

  headed-up : (head : Head) (s : Store) → Up (head_trace f head s) (head_trace g head s)
  unfolding announced
  headed-up head s = by (head_of f head s) (head_of g head s) (head-up head s)
    where
      by : (p q : Headed) → HeadedUp p q → Up (traced (head_step (announced f s) p.seen p.value (λ y. [])) s) (traced (head_step (announced g s) q.seen q.value (λ y. [])) s)
      by p q (inl e) = inl (ap (λ (r : Headed). traced (head_step (announced f s) r.seen r.value (λ y. [])) s) e)
      by p q (inr r) = up-step (head_step (announced f s) p.seen p.value (λ y. [])) (head_step (announced f s) q.seen q.value (λ y. [])) s (head-refused (announced f s) p q (λ y. []) r)

pub instances-up : InstancesArePlainOrStop
instances-up f s = (λ block. instance-up f block s, λ head. headed-up f head s)
