-- What an instance shows whose addresses are verified: all of it agrees, but for the access that stops it.
use Rattle.std.proofs.Common.{◌≡◌, refl, ap, ap₂, ◌∙◌, sym, subst, ℕ, ℤ, zero, suc, pos, ◌+◌, ◌<◌, ◌≤◌, Bool, true, false, not, List, [], ◌∷◌, ◌++◌, append_assoc, append-nil, map, length, Option, Some, None, Result, Ok, Err, arith}
use Rattle.std.specs.Prelude.{if◌then◌else◌, ◌&&◌}
use Rattle.nest_lang.specs.declared.tree.Expr.{Expr, map-Expr, roll-Expr}
use Rattle.nest_lang.specs.declared.tree.Expr.TheOpen.{Expr-F}
use Rattle.nest_lang.specs.declared.tree.Expr.TheFolds.{fold-roll-Expr, ind-Expr}
use Rattle.nest_lang.specs.declared.tree.Stmt.{Stmt, map-Stmt, roll-Stmt}
use Rattle.nest_lang.specs.declared.tree.Stmt.TheOpen.{Stmt-F}
use Rattle.nest_lang.specs.declared.tree.Stmt.TheFolds.{fold-roll-Stmt, ind-Stmt}
use Rattle.nest_lang.specs.declared.tree.Head.{Head}
use Rattle.nest_lang.specs.declared.tree.Head.TheVariants.{For, While}
use Rattle.nest_lang.specs.declared.tree.Trap.{Trap}
use Rattle.nest_lang.specs.declared.observe.Stop.TheVariants.{Unexpected}
use Rattle.nest_lang.specs.declared.observe.Seen.TheVariants.{Address, Lower, Trip, Condition}
use Rattle.nest_lang.specs.Values.{same, apply_of, negate_of}
use Rattle.nest_lang.specs.Stores.{Store, word_at, Nothing, effect_on}
use Rattle.nest_lang.specs.Lookups.{lies_in, line_of, look, look_load, look_store, word_or_outside}
use Rattle.nest_lang.specs.Traces.{Occurrence, Observation, Entry, Halt, Trapped, Stopped, Over, Trace, joined, and_then, in_turn, Transition, step_of, traced, after_all, seen_of}
use Rattle.nest_lang.specs.Expressions.{Frame, shown, Told, then_tell, or_trapped, or_stopped, expression_level, told_by, told, place_value}
use Rattle.nest_lang.specs.Statements.{with_value, stored, statement_level, statement_trace, block_trace, started, announced, shown_before, instance_trace}
use Rattle.nest_lang.specs.Heads.{Yield, Bounds, Tested, Headed, then_head, head_of, as_number}
use Rattle.follow.specs.Forecasts.{expectation_at, all_agree, Forecast}
use Rattle.follow.specs.Reaches.{plus, here, reach_by, Reached}
use Rattle.follow.specs.Plans.{frame_with}
use Rattle.follow.proofs.HeadYieldLaws.{agree-append}

-- the store after all of a trace and its steps; nothing where a halt ends it
abbrev pub led : List Entry → Option Halt → Store → Option Reached
led es None s = Some (record { store = after_all s es; steps = length es })
led es (Some halt) s = None

module _ (p : Forecast) (at : Occurrence) (values : List ℤ) where
  abbrev pub f : Frame
  f = frame_with at values (expectation_at p at)

  -- all agree but the last, which is an access that is not expected
  pub record StopsAt (os : List Observation) (access : ℕ) (z : ℤ) (line : Option ℤ) : Type 0 where
    pub before : List Observation
    pub are : os ≡ before ++ record { at = at; what = Address access; value = z } ∷ []
    pub agree : all_agree p before ≡ true
    pub beyond : lies_in (p.interval at access) z ≡ false
    pub lined : line ≡ line_of (p.interval at access)

  abbrev pub Fine : List Observation → Halt → Type 0
  Fine os (Trapped trap) = all_agree p os ≡ true
  Fine os (Stopped access z line) = StopsAt os access z line
  Fine os Over = all_agree p os ≡ true

  abbrev pub FineOr : List Observation → Option Halt → Type 0
  FineOr os None = all_agree p os ≡ true
  FineOr os (Some halt) = Fine os halt

  abbrev FineTold : List Observation → Result ℤ Halt → Type 0
  FineTold os (Ok v) = all_agree p os ≡ true
  FineTold os (Err halt) = Fine os halt

  agree-both : (xs ys : List Observation) → all_agree p xs ≡ true → all_agree p ys ≡ true → all_agree p (xs ++ ys) ≡ true
  agree-both xs ys h k = agree-append p xs ys ∙ ap₂ (λ (a b : Bool). a && b) h k

  fine-front : (xs ys : List Observation) (halt : Halt) → all_agree p xs ≡ true → Fine ys halt → Fine (xs ++ ys) halt
  fine-front xs ys (Trapped trap) h k = agree-both xs ys h k
  fine-front xs ys Over h k = agree-both xs ys h k
  fine-front xs ys (Stopped access z line) h k =
      record {
        before = xs ++ k.before;
        are = ap (λ (os : List Observation). xs ++ os) k.are ∙ sym (append_assoc xs k.before (record { at = at; what = Address access; value = z } ∷ []));
        agree = agree-both xs k.before h k.agree;
        beyond = k.beyond;
        lined = k.lined;
      }

  fine-front-or : (xs ys : List Observation) (halt : Option Halt) → all_agree p xs ≡ true → FineOr ys halt → FineOr (xs ++ ys) halt
  fine-front-or xs ys None h k = agree-both xs ys h k
  fine-front-or xs ys (Some halt) h k = fine-front xs ys halt h k

  -- entries: each but the last agrees
  FineRest : List Observation → List Entry → Option Halt → Type 0
  FineRest os [] halt = FineOr os halt
  FineRest os (e ∷ es) halt = (all_agree p os ≡ true) × (all_agree p e.before ≡ true) × FineRest e.seen es halt

  pub FineEntries : List Entry → Option Halt → Type 0
  FineEntries [] halt = halt ≡ None
  FineEntries (e ∷ es) halt = (all_agree p e.before ≡ true) × FineRest e.seen es halt

  rest-append : (os : List Observation) (es fs : List Entry) (halt : Option Halt) → FineRest os es None → FineEntries fs halt → FineRest os (es ++ fs) halt
  unfolding FineRest FineEntries
  rest-append os [] [] halt h k = subst (FineOr os) (sym k) h
  rest-append os [] (e ∷ fs) halt h k = (h, k.0, k.1)
  rest-append os (e ∷ es) fs halt h k = (h.0, h.1, rest-append e.seen es fs halt h.2 k)

  fine-append : (es fs : List Entry) (halt : Option Halt) → FineEntries es None → FineEntries fs halt → FineEntries (es ++ fs) halt
  unfolding FineEntries
  fine-append [] fs halt h k = k
  fine-append (e ∷ es) fs halt h k = (h.0, rest-append e.seen es fs halt h.1 k)

  abbrev pub FineTrace : Trace → Type 0
  FineTrace t = FineEntries t.entries t.halt

  fine-joined : (halt : Option Halt) (es : List Entry) (t : Trace) → FineEntries es halt → FineTrace t → FineTrace (joined halt es t)
  fine-joined (Some halt) es t h k = h
  fine-joined None es t h k = fine-append es t.entries t.halt h k

  fine-then : (s : Store) (t : Trace) (go : Store → Trace) → FineTrace t → ((u : Store) → FineTrace (go u)) → FineTrace (and_then s t go)
  fine-then s t go h each = fine-joined t.halt t.entries (go (after_all s t.entries)) h (each (after_all s t.entries))

  fine-ends : (s : Store) → FineTrace (in_turn [] s)
  unfolding FineEntries
  fine-ends s = refl

  record FineStep (st : Transition) : Type 0 where
    before : all_agree p st.entry.before ≡ true
    seen : FineOr st.entry.seen st.halt
    rest : (u : Store) → FineTrace (in_turn st.rest u)

  fine-traced : (st : Transition) (s : Store) → FineStep st → FineTrace (traced st s)
  unfolding FineEntries FineRest
  fine-traced st s h = fine-joined st.halt (st.entry ∷ []) (in_turn st.rest (effect_on s st.entry.effect)) (h.before, h.seen) (h.rest (effect_on s st.entry.effect))

  -- expressions
  fine-then_tell : (seen : List Observation) (v : Result ℤ Halt) (go : ℤ → Told) → FineTold seen v → ((z : ℤ) → FineTold (go z).seen (go z).value) → FineTold (then_tell seen v go).seen (then_tell seen v go).value
  fine-then_tell seen (Err halt) go h each = h
  fine-then_tell seen (Ok z) go h each = by (go z).value (each z)
    where
      by : (r : Result ℤ Halt) → FineTold (go z).seen r → FineTold (seen ++ (go z).seen) r
      by (Ok v) k = agree-both seen (go z).seen h k
      by (Err halt) k = fine-front seen (go z).seen halt h k

  fine-trapped : (r : Result ℤ Trap) → FineTold [] (or_trapped r)
  unfolding all_agree
  fine-trapped (Ok v) = refl
  fine-trapped (Err trap) = refl

  fine-none : (v : ℤ) → FineTold [] (Ok v)
  unfolding all_agree
  fine-none v = refl

  fine-looked : (memory : List ℤ) (access : ℕ) (z : ℤ) → FineTold (shown f (Address access) z ∷ []) (or_stopped access (look true (p.interval at access) memory z))
  unfolding look all_agree
  fine-looked memory access z = by (lies_in (p.interval at access) z) refl
    where
      within : (r : Option ℤ) → lies_in (p.interval at access) z ≡ true → FineTold (record { at = at; what = Address access; value = z } ∷ []) (or_stopped access (word_or_outside z r))
      within None e = ap (λ (b : Bool). b && true) e
      within (Some word) e = ap (λ (b : Bool). b && true) e

      by : (b : Bool) → lies_in (p.interval at access) z ≡ b
          → FineTold (record { at = at; what = Address access; value = z } ∷ []) (or_stopped access (if not b then Err (Unexpected z (line_of (p.interval at access))) else word_or_outside z (word_at memory z)))
      by true e = within (word_at memory z) e
      by false e = record { before = []; are = refl; agree = refl; beyond = e; lined = refl }

  module _ (scalars locals memory : List ℤ) where
    abbrev tell : Expr → Told
    tell e = told_by f scalars locals (look_load (expectation_at p at) memory) e

    Tells : Expr → Type 0
    Tells e = FineTold (tell e).seen (tell e).value

    told-rolled : (y : Expr-F Expr) → tell (roll-Expr y) ≡ expression_level f scalars locals (look_load (expectation_at p at) memory) (map-Expr _ _ tell y)
    unfolding told_by
    told-rolled y = fold-roll-Expr Told (expression_level f scalars locals (look_load (expectation_at p at) memory)) y

    abbrev levelled : Expr-F Expr → Told
    levelled y = expression_level f scalars locals (look_load (expectation_at p at) memory) (map-Expr _ _ tell y)

    level-fine : (y : Expr-F ((e : Expr) × Tells e)) → FineTold (levelled (map-Expr _ _ (λ e. e.0) y)).seen (levelled (map-Expr _ _ (λ e. e.0) y)).value
    unfolding Tells
    level-fine (Expr-F.Number n) = fine-none n
    level-fine (Expr-F.Var place) = fine-none (place_value values scalars locals place)
    level-fine (Expr-F.Load access a) = fine-then_tell _ _ _ a.1 (λ z. fine-looked memory access z)
    level-fine (Expr-F.Neg a) = fine-then_tell _ _ _ a.1 (λ z. fine-trapped (negate_of z))
    level-fine (Expr-F.Two op a b) = fine-then_tell _ _ _ a.1 (λ z. fine-then_tell _ _ _ b.1 (λ v. fine-trapped (apply_of op z v)))

    tells : (e : Expr) → Tells e
    unfolding Tells
    tells = ind-Expr Tells (λ y z is. subst (λ w. Tells (roll-Expr w)) is
        (subst (λ (r : Told). FineTold r.seen r.value) (sym (told-rolled (map-Expr _ _ (λ e. e.0) z))) (level-fine z)))

  told-fine : (s : Store) (e : Expr) → FineTold (told f s e).seen (told f s e).value
  unfolding Tells
  told-fine s e = tells s.scalars s.locals s.memory e

  -- statements
  fine-step : (os : List Observation) (effect : _) (halt : Option Halt) → FineOr os halt → FineStep (step_of [] os effect halt [])
  unfolding all_agree
  fine-step os effect halt h = record { before = refl; seen = h; rest = fine-ends }

  fine-with_value : (seen : List Observation) (v : Result ℤ Halt) (go : ℤ → Transition) → FineTold seen v → (all_agree p seen ≡ true → (z : ℤ) → FineStep (go z)) → FineStep (with_value seen v go)
  fine-with_value seen (Ok z) go h each = each h z
  fine-with_value seen (Err halt) go h each = fine-step seen Nothing (Some halt) h

  fine-stored : (seen : List Observation) (access : ℕ) (z v : ℤ) (r : Result ℤ Halt) → all_agree p seen ≡ true → FineTold (shown f (Address access) z ∷ []) r → FineStep (stored (seen ++ shown f (Address access) z ∷ []) z v r)
  fine-stored seen access z v (Ok old) h k = fine-step (seen ++ shown f (Address access) z ∷ []) _ None (agree-both seen (shown f (Address access) z ∷ []) h k)
  fine-stored seen access z v (Err halt) h k = fine-step (seen ++ shown f (Address access) z ∷ []) Nothing (Some halt) (fine-front seen (shown f (Address access) z ∷ []) halt h k)

  Runs-fine : Stmt → Type 0
  Runs-fine st = (s : Store) → FineTrace (statement_trace f st s)

  statements-fine : (xs : List ((st : Stmt) × Runs-fine st)) (s : Store) → FineTrace (in_turn (map (statement_trace f) (map (λ e. e.0) xs)) s)
  unfolding Runs-fine
  statements-fine [] s = fine-ends s
  statements-fine (st ∷ xs) s = fine-then s _ _ (st.1 s) (statements-fine xs)

  chosen-fine : (b : Bool) (x y : List (Store → Trace)) → ((s : Store) → FineTrace (in_turn x s)) → ((s : Store) → FineTrace (in_turn y s)) → (s : Store) → FineTrace (in_turn (if b then x else y) s)
  chosen-fine true x y first second = first
  chosen-fine false x y first second = second

  fine-branch : (os : List Observation) (rest : List (Store → Trace)) → all_agree p os ≡ true → ((s : Store) → FineTrace (in_turn rest s)) → FineStep (step_of [] os Nothing None rest)
  unfolding all_agree
  fine-branch os rest h each = record { before = refl; seen = h; rest = each }

  fine-tail : (xs : List Observation) (r : Result ℤ Halt) (ys : List Observation) → all_agree p xs ≡ true → FineTold ys r → FineTold (xs ++ ys) r
  fine-tail xs (Ok v) ys h k = agree-both xs ys h k
  fine-tail xs (Err halt) ys h k = fine-front xs ys halt h k

  statement-rolled : (y : Stmt-F Stmt) → statement_trace f (roll-Stmt y) ≡ (λ s. traced (statement_level f (map-Stmt _ _ (statement_trace f) y) s) s)
  unfolding statement_trace
  statement-rolled y = fold-roll-Stmt (Store → Trace) (λ z s. traced (statement_level f z s) s) y

  fine-store : (access : ℕ) (a e : Told) (found : ℤ → Result ℤ Halt) → FineTold a.seen a.value → FineTold e.seen e.value → ((z : ℤ) → FineTold (shown f (Address access) z ∷ []) (found z))
      → FineStep (with_value a.seen a.value (λ address. with_value (a.seen ++ e.seen) e.value (λ v. stored (a.seen ++ e.seen ++ shown f (Address access) address ∷ []) address v (found address))))
  fine-store access a e found h k each =
      fine-with_value a.seen a.value _ h (λ front address. fine-with_value (a.seen ++ e.seen) e.value _ (fine-tail a.seen e.value e.seen front k)
      (λ both v. fine-stored (a.seen ++ e.seen) access address v (found address) both (each address)))

  statement_level-fine : (y : Stmt-F ((st : Stmt) × Runs-fine st)) (s : Store) → FineStep (statement_level f (map-Stmt _ _ (statement_trace f) (map-Stmt _ _ (λ e. e.0) y)) s)
  unfolding Runs-fine
  statement_level-fine (Stmt-F.Let number e) s = fine-with_value _ _ _ (told-fine s e) (λ h v. fine-step _ _ None h)
  statement_level-fine (Stmt-F.Set number e) s = fine-with_value _ _ _ (told-fine s e) (λ h v. fine-step _ _ None h)
  statement_level-fine (Stmt-F.Store access a e) s = fine-store access _ _ (λ z. or_stopped access (look_store (expectation_at p at) s.memory access z)) (told-fine s a) (told-fine s e) (λ z. fine-looked s.memory access z)
  statement_level-fine (Stmt-F.If e first second) s =
      fine-with_value _ _ _ (told-fine s e) (λ h v. fine-branch _ _ h (chosen-fine (same v (pos 0)) _ _ (statements-fine second) (statements-fine first)))

  every-statement-fine : (st : Stmt) → Runs-fine st
  unfolding Runs-fine
  every-statement-fine = ind-Stmt Runs-fine (λ y z is. subst (λ w. Runs-fine (roll-Stmt w)) is
      (subst (λ (r : Store → Trace). (s : Store) → FineTrace (r s)) (sym (statement-rolled (map-Stmt _ _ (λ e. e.0) z)))
      (λ s. fine-traced (statement_level f (map-Stmt _ _ (statement_trace f) (map-Stmt _ _ (λ e. e.0) z)) s) s (statement_level-fine z s))))

  block-fine : (block : List Stmt) (s : Store) → FineTrace (block_trace f block s)
  unfolding Runs-fine block_trace
  block-fine [] s = fine-ends s
  block-fine (st ∷ block) s = fine-then s _ _ (every-statement-fine st s) (block-fine block)

  pub instance-fine : (block : List Stmt) (s : Store) → all_agree p (announced f s) ≡ true → FineTrace (instance_trace f block s)
  unfolding instance_trace FineEntries
  instance-fine block s h = at-first (block_trace f block (started s)).entries (block_trace f block (started s)).halt (block-fine block (started s))
    where
      at-first : (es : List Entry) (halt : Option Halt) → FineEntries es halt → FineEntries (shown_before (announced f s) es) halt
      at-first [] halt k = k
      at-first (e ∷ es) halt k = (agree-both (announced f s) e.before h k.0, k.1)

  -- what of it is shown
  pub shows-cut : (es : List Entry) (halt : Option Halt) (n : ℕ) → FineEntries es halt → n < length es → all_agree p (seen_of es n) ≡ true
  unfolding FineEntries FineRest
  shows-cut [] halt n h few = absurd (omega (arith, few))
  shows-cut (e ∷ es) halt zero h few = h.0
  shows-cut (e ∷ []) halt (suc n) h few = absurd (omega (arith, few))
  shows-cut (e ∷ g ∷ es) halt (suc n) h few =
      agree-both (e.before ++ e.seen) (seen_of (g ∷ es) n) (agree-both e.before e.seen h.0 h.1.0) (shows-cut (g ∷ es) halt n (h.1.1, h.1.2) (omega (arith, few)))

  pub shows-all : (es : List Entry) (halt : Option Halt) (n : ℕ) → FineEntries es halt → length es ≤ n → FineOr (seen_of es n) halt
  unfolding FineEntries FineRest all_agree
  shows-all [] halt n h few = subst (FineOr []) (sym h) refl
  shows-all (e ∷ es) halt zero h few = absurd (omega (arith, few))
  shows-all (e ∷ []) halt (suc n) h few = subst (λ (os : List Observation). FineOr os halt) (sym (append-nil (e.before ++ e.seen))) (fine-front-or e.before e.seen halt h.0 h.1)
  shows-all (e ∷ g ∷ es) halt (suc n) h few =
      fine-front-or (e.before ++ e.seen) (seen_of (g ∷ es) n) halt (agree-both e.before e.seen h.0 h.1.0) (shows-all (g ∷ es) halt n (h.1.1, h.1.2) (omega (arith, few)))

  -- where it leads
  pub leads-on : (es : List Entry) (halt : Option Halt) (s : Store) → FineEntries es halt → reach_by p es halt s ≡ led es halt s
  unfolding FineEntries FineRest
  leads-on [] None s h = refl
  leads-on [] (Some halt) s h = absurd (cc)
  leads-on (e ∷ []) None s h = ap₂ (λ (a b : Bool). if a && b then plus 1 (here (effect_on s e.effect)) else None) h.0 h.1
  leads-on (e ∷ []) (Some halt) s h = none (all_agree p e.before && all_agree p e.seen)
    where
      none : (b : Bool) → (if b then plus 1 None else None) ≡ None
      none true = refl
      none false = refl
  leads-on (e ∷ g ∷ es) halt s h =
      ap₂ (λ (a b : Bool). if a && b then plus 1 (reach_by p (g ∷ es) halt (effect_on s e.effect)) else None) h.0 h.1.0
      ∙ ap (plus 1) (leads-on (g ∷ es) halt (effect_on s e.effect) (h.1.1, h.1.2))
      ∙ more halt
    where
      more : (z : Option Halt) → plus 1 (led (g ∷ es) z (effect_on s e.effect)) ≡ led (e ∷ g ∷ es) z s
      more None = let n : 1 + length (g ∷ es) ≡ length (e ∷ g ∷ es) = omega arith in ap (λ (k : ℕ). Some (record { store = after_all (effect_on s e.effect) (g ∷ es); steps = k })) n
      more (Some z) = refl

  -- one entry
  pub fine-one : (e : Entry) (halt : Option Halt) → all_agree p e.before ≡ true → FineOr e.seen halt → FineEntries (e ∷ []) halt
  unfolding FineEntries FineRest
  fine-one e halt h k = (h, k)

  -- heads: what they show for their operands agrees
  abbrev BoundsShown : List Observation → ℤ → ℕ → Type 0
  BoundsShown os from count =
      (front : List Observation) × (os ≡ front ++ record { at = at; what = Lower; value = from } ∷ record { at = at; what = Trip; value = pos count } ∷ []) × (all_agree p front ≡ true)

  abbrev ConditionShown : List Observation → Bool → Type 0
  ConditionShown os holds = (front : List Observation) × (os ≡ front ++ record { at = at; what = Condition; value = as_number holds } ∷ []) × (all_agree p front ≡ true)

  abbrev pub HeadFine : Head → List Observation → Result Yield Halt → Type 0
  HeadFine head os (Err halt) = Fine os halt
  HeadFine (For lower upper stride) os (Ok (Bounds from count)) = BoundsShown os from count
  HeadFine (For lower upper stride) os (Ok (Tested holds)) = ⊥
  HeadFine (While condition) os (Ok (Bounds from count)) = ⊥
  HeadFine (While condition) os (Ok (Tested holds)) = ConditionShown os holds

  head-front : (head : Head) (xs ys : List Observation) (r : Result Yield Halt) → all_agree p xs ≡ true → HeadFine head ys r → HeadFine head (xs ++ ys) r
  head-front head xs ys (Err halt) h k = fine-front xs ys halt h k
  head-front (For lower upper stride) xs ys (Ok (Bounds from count)) h k = (xs ++ k.0, ap (λ (os : List Observation). xs ++ os) k.1 ∙ sym (append_assoc xs k.0 _), agree-both xs k.0 h k.2)
  head-front (For lower upper stride) xs ys (Ok (Tested holds)) h k = k
  head-front (While condition) xs ys (Ok (Bounds from count)) h k = k
  head-front (While condition) xs ys (Ok (Tested holds)) h k = (xs ++ k.0, ap (λ (os : List Observation). xs ++ os) k.1 ∙ sym (append_assoc xs k.0 _), agree-both xs k.0 h k.2)

  fine-then_head : (head : Head) (seen : List Observation) (v : Result ℤ Halt) (go : ℤ → Headed) → FineTold seen v → ((z : ℤ) → HeadFine head (go z).seen (go z).value) → HeadFine head (then_head seen v go).seen (then_head seen v go).value
  fine-then_head head seen (Err halt) go h each = h
  fine-then_head head seen (Ok z) go h each = head-front head seen (go z).seen (go z).value h (each z)

  pub head-fine : (head : Head) (s : Store) → HeadFine head (head_of f head s).seen (head_of f head s).value
  unfolding head_of all_agree
  head-fine (For lower upper stride) s =
      fine-then_head (For lower upper stride) _ _ _ (told-fine s lower) (λ from. fine-then_head (For lower upper stride) _ _ _ (told-fine s upper) (λ to. ([], refl, refl)))
  head-fine (While condition) s = fine-then_head (While condition) _ _ _ (told-fine s condition) (λ v. ([], refl, refl))
