-- An instance whose addresses are verified, beside one that verifies nothing: they are the same, or in both
-- something that is shown disagrees.
use Rattle.std.proofs.Common.{◌≡◌, refl, ap, ◌∙◌, sym, subst, ℕ, ℤ, pos, ◌⊎◌, inl, inr, Bool, true, false, not, List, [], ◌∷◌, ◌++◌, map, Option, Some, None, Result, Ok, Err}
use Rattle.std.specs.Prelude.{if◌then◌else◌, ◌&&◌}
use Rattle.nest_lang.specs.declared.tree.Expr.{Expr, map-Expr, roll-Expr}
use Rattle.nest_lang.specs.declared.tree.Expr.TheOpen.{Expr-F}
use Rattle.nest_lang.specs.declared.tree.Expr.TheFolds.{fold-roll-Expr, ind-Expr}
use Rattle.nest_lang.specs.declared.tree.Stmt.{Stmt, map-Stmt, roll-Stmt}
use Rattle.nest_lang.specs.declared.tree.Stmt.TheOpen.{Stmt-F}
use Rattle.nest_lang.specs.declared.tree.Stmt.TheFolds.{fold-roll-Stmt, ind-Stmt}
use Rattle.nest_lang.specs.declared.tree.Head.{Head}
use Rattle.nest_lang.specs.declared.tree.Head.TheVariants.{For, While}
use Rattle.nest_lang.specs.declared.observe.Stop.{Stop}
use Rattle.nest_lang.specs.declared.observe.Stop.TheVariants.{Unexpected}
use Rattle.nest_lang.specs.declared.observe.Seen.TheVariants.{Address}
use Rattle.nest_lang.specs.Values.{same}
use Rattle.nest_lang.specs.Stores.{Store, word_at, Nothing, Local, Scalar, effect_on}
use Rattle.nest_lang.specs.Lookups.{plain, lies_in, line_of, look, look_load, look_store, word_or_outside}
use Rattle.nest_lang.specs.Traces.{Occurrence, Observation, Entry, Halt, Trace, joined, and_then, in_turn, Transition, step_of, traced, after_all}
use Rattle.nest_lang.specs.Expressions.{Frame, shown, Told, telling, then_tell, or_stopped, expression_level, told_by, told}
use Rattle.nest_lang.specs.Statements.{with_value, stored, statement_level, statement_trace, block_trace, started, announced, shown_before, instance_trace}
use Rattle.nest_lang.specs.Heads.{Yield, Headed, heading, then_head, head_of, head_step, headed}
use Rattle.follow.specs.Forecasts.{expectation_at, all_agree, Forecast}
use Rattle.follow.specs.Reaches.{plus, reach_by, reach}
use Rattle.follow.specs.Plans.{frame_with, work_trace, Work, Runs, Evaluates}
use Rattle.follow.proofs.HeadYieldLaws.{agree-append}

-- an instance leads to the same with its addresses verified
abbrev pub VerifiedIsPlain : Type 0
VerifiedIsPlain = (p : Forecast) (at : Occurrence) (values : List ℤ) (w : Work) (s : Store)
    → reach p (work_trace (frame_with at values (expectation_at p at)) w s) s ≡ reach p (work_trace (frame_with at values plain) w s) s

and-false : (b : Bool) → b && false ≡ false
and-false true = refl
and-false false = refl

module _ (p : Forecast) where
  abbrev Wrong : List Observation → Type 0
  Wrong os = all_agree p os ≡ false

  wrong-front : (xs ys : List Observation) → Wrong xs → Wrong (xs ++ ys)
  wrong-front xs ys h = agree-append p xs ys ∙ ap (λ (b : Bool). b && all_agree p ys) h

  wrong-back : (xs ys : List Observation) → Wrong ys → Wrong (xs ++ ys)
  wrong-back xs ys h = agree-append p xs ys ∙ ap (λ (b : Bool). all_agree p xs && b) h ∙ and-false (all_agree p xs)

  -- all that is shown agrees, and nothing halts
  fine : List Entry → Option Halt → Bool
  fine [] None = true
  fine [] (Some halt) = false
  fine (e ∷ es) halt = (all_agree p e.before && all_agree p e.seen) && fine es halt

  fine-none : (es : List Entry) (halt : Option Halt) (s : Store) → fine es halt ≡ false → reach_by p es halt s ≡ None
  unfolding fine
  fine-none [] None s h = absurd (cc)
  fine-none [] (Some halt) s h = refl
  fine-none (e ∷ es) halt s h = at (all_agree p e.before && all_agree p e.seen) h (fine-none es halt (effect_on s e.effect))
    where
      at : (b : Bool) → b && fine es halt ≡ false → (fine es halt ≡ false → reach_by p es halt (effect_on s e.effect) ≡ None) → (if b then plus 1 (reach_by p es halt (effect_on s e.effect)) else None) ≡ None
      at true h next = ap (plus 1) (next h)
      at false h next = refl

  fine-append : (es fs : List Entry) (halt : Option Halt) → fine (es ++ fs) halt ≡ fine es None && fine fs halt
  unfolding fine
  fine-append [] fs halt = refl
  fine-append (e ∷ es) fs halt = ap (λ (b : Bool). (all_agree p e.before && all_agree p e.seen) && b) (fine-append es fs halt) ∙ regroup (all_agree p e.before && all_agree p e.seen) (fine es None) (fine fs halt)
    where
      regroup : (a b c : Bool) → a && (b && c) ≡ (a && b) && c
      regroup true b c = refl
      regroup false b c = refl

  -- two traces are the same, or both are wrong
  abbrev Fails : Trace → Type 0
  Fails t = fine t.entries t.halt ≡ false

  abbrev Alike : Trace → Trace → Type 0
  Alike t u = (t ≡ u) ⊎ (Fails t × Fails u)

  abbrev AlikeOn : (Store → Trace) → (Store → Trace) → Type 0
  AlikeOn f g = (s : Store) → Alike (f s) (g s)

  fails-joined : (halt : Option Halt) (es : List Entry) (w : Trace) → fine es halt ≡ false → Fails (joined halt es w)
  fails-joined (Some halt) es w h = h
  fails-joined None es w h = fine-append es w.entries w.halt ∙ ap (λ (b : Bool). b && fine w.entries w.halt) h

  joined-alike : (halt : Option Halt) (es : List Entry) (t u : Trace) → Alike t u → Alike (joined halt es t) (joined halt es u)
  joined-alike (Some halt) es t u a = inl refl
  joined-alike None es t u (inl e) = inl (ap (λ (w : Trace). joined None es w) e)
  joined-alike None es t u (inr h) =
      inr (
        fine-append es t.entries t.halt ∙ ap (λ (b : Bool). fine es None && b) h.0 ∙ and-false (fine es None),
        fine-append es u.entries u.halt ∙ ap (λ (b : Bool). fine es None && b) h.1 ∙ and-false (fine es None),
      )

  then-alike : (s : Store) (t u : Trace) (f g : Store → Trace) → Alike t u → AlikeOn f g → Alike (and_then s t f) (and_then s u g)
  then-alike s t u f g (inl e) on =
      subst (λ (w : Trace). Alike (and_then s t f) (and_then s w g)) e (joined-alike t.halt t.entries (f (after_all s t.entries)) (g (after_all s t.entries)) (on (after_all s t.entries)))
  then-alike s t u f g (inr h) on =
      inr (fails-joined t.halt t.entries (f (after_all s t.entries)) h.0, fails-joined u.halt u.entries (g (after_all s u.entries)) h.1)

  step-fails : (st : Transition) (s : Store) → Wrong st.entry.seen → Fails (traced st s)
  unfolding fine
  step-fails st s h = fails-joined st.halt (st.entry ∷ []) (in_turn st.rest (effect_on s st.entry.effect)) (at (all_agree p st.entry.before) (all_agree p st.entry.seen) (fine [] st.halt) h)
    where
      at : (a b c : Bool) → b ≡ false → (a && b) && c ≡ false
      at a b c e = ap (λ (z : Bool). (a && z) && c) e ∙ ap (λ (z : Bool). z && c) (and-false a)

  -- expressions
  abbrev ToldAlike : Told → Told → Type 0
  ToldAlike a b = (a ≡ b) ⊎ (Wrong a.seen × Wrong b.seen)

  then_tell-wrong : (seen : List Observation) (v : Result ℤ Halt) (go : ℤ → Told) → Wrong seen → Wrong (then_tell seen v go).seen
  then_tell-wrong seen (Err halt) go h = h
  then_tell-wrong seen (Ok z) go h = wrong-front seen (go z).seen h

  then_tell-alike : (a b : Told) (go go' : ℤ → Told) → ToldAlike a b → ((z : ℤ) → ToldAlike (go z) (go' z)) → ToldAlike (then_tell a.seen a.value go) (then_tell b.seen b.value go')
  then_tell-alike a b go go' (inl e) each = subst (λ (r : Told). ToldAlike (then_tell a.seen a.value go) (then_tell r.seen r.value go')) e (at a.seen a.value)
    where
      more : (seen : List Observation) (z : ℤ) → ToldAlike (go z) (go' z) → ToldAlike (telling (seen ++ (go z).seen) (go z).value) (telling (seen ++ (go' z).seen) (go' z).value)
      more seen z (inl e) = inl (ap (λ (r : Told). telling (seen ++ r.seen) r.value) e)
      more seen z (inr h) = inr (wrong-back seen (go z).seen h.0, wrong-back seen (go' z).seen h.1)

      at : (seen : List Observation) (v : Result ℤ Halt) → ToldAlike (then_tell seen v go) (then_tell seen v go')
      at seen (Err halt) = inl refl
      at seen (Ok z) = more seen z (each z)
  then_tell-alike a b go go' (inr h) each = inr (then_tell-wrong a.seen a.value go h.0, then_tell-wrong b.seen b.value go' h.1)

  abbrev HeadedAlike : Headed → Headed → Type 0
  HeadedAlike a b = (a ≡ b) ⊎ (Wrong a.seen × Wrong b.seen)

  then_head-wrong : (seen : List Observation) (v : Result ℤ Halt) (go : ℤ → Headed) → Wrong seen → Wrong (then_head seen v go).seen
  then_head-wrong seen (Err halt) go h = h
  then_head-wrong seen (Ok z) go h = wrong-front seen (go z).seen h

  then_head-alike : (a b : Told) (go go' : ℤ → Headed) → ToldAlike a b → ((z : ℤ) → HeadedAlike (go z) (go' z)) → HeadedAlike (then_head a.seen a.value go) (then_head b.seen b.value go')
  then_head-alike a b go go' (inl e) each = subst (λ (r : Told). HeadedAlike (then_head a.seen a.value go) (then_head r.seen r.value go')) e (at a.seen a.value)
    where
      more : (seen : List Observation) (z : ℤ) → HeadedAlike (go z) (go' z) → HeadedAlike (heading (seen ++ (go z).seen) (go z).value) (heading (seen ++ (go' z).seen) (go' z).value)
      more seen z (inl e) = inl (ap (λ (r : Headed). heading (seen ++ r.seen) r.value) e)
      more seen z (inr h) = inr (wrong-back seen (go z).seen h.0, wrong-back seen (go' z).seen h.1)

      at : (seen : List Observation) (v : Result ℤ Halt) → HeadedAlike (then_head seen v go) (then_head seen v go')
      at seen (Err halt) = inl refl
      at seen (Ok z) = more seen z (each z)
  then_head-alike a b go go' (inr h) each = inr (then_head-wrong a.seen a.value go h.0, then_head-wrong b.seen b.value go' h.1)

  -- a look-up at an address that is shown
  module _ (at : Occurrence) (values : List ℤ) where
    f : Frame
    f = frame_with at values (expectation_at p at)

    g : Frame
    g = frame_with at values plain

    LookedAlike : ℕ → ℤ → Result ℤ Halt → Result ℤ Halt → Type 0
    LookedAlike access z r r' = (r ≡ r') ⊎ Wrong (shown g (Address access) z ∷ [])

    look-alike : (memory : List ℤ) (access : ℕ) (z : ℤ) → LookedAlike access z (or_stopped access (look true (p.interval at access) memory z)) (or_stopped access (look false None memory z))
    unfolding look all_agree LookedAlike g
    look-alike memory access z = by (lies_in (p.interval at access) z) refl
      where
        by : (b : Bool) → lies_in (p.interval at access) z ≡ b
            → (or_stopped access (if not b then Err (Unexpected z (line_of (p.interval at access))) else word_or_outside z (word_at memory z)) ≡ or_stopped access (word_or_outside z (word_at memory z)))
            ⊎ (lies_in (p.interval at access) z && true ≡ false)
        by true e = inl refl
        by false e = inr (ap (λ (b : Bool). b && true) e)

    module _ (scalars locals memory : List ℤ) where
      Tells : Expr → Type 0
      Tells e = ToldAlike (told_by f scalars locals (look_load (expectation_at p at) memory) e) (told_by g scalars locals (look_load plain memory) e)

      told-rolled : (h : Frame) (find : ℕ → ℤ → Result ℤ Stop) (y : Expr-F Expr) → told_by h scalars locals find (roll-Expr y) ≡ expression_level h scalars locals find (map-Expr _ _ (told_by h scalars locals find) y)
      unfolding told_by
      told-rolled h find y = fold-roll-Expr Told (expression_level h scalars locals find) y

      load-alike : (access : ℕ) (z : ℤ) (r r' : Result ℤ Halt) → LookedAlike access z r r' → ToldAlike (telling (shown g (Address access) z ∷ []) r) (telling (shown g (Address access) z ∷ []) r')
      unfolding LookedAlike
      load-alike access z r r' (inl e) = inl (ap (λ (v : Result ℤ Halt). telling (shown g (Address access) z ∷ []) v) e)
      load-alike access z r r' (inr h) = inr (h, h)

      level-alike : (y : Expr-F ((e : Expr) × Tells e))
          → ToldAlike (expression_level f scalars locals (look_load (expectation_at p at) memory) (map-Expr _ _ (told_by f scalars locals (look_load (expectation_at p at) memory)) (map-Expr _ _ (λ e. e.0) y)))
          (expression_level g scalars locals (look_load plain memory) (map-Expr _ _ (told_by g scalars locals (look_load plain memory)) (map-Expr _ _ (λ e. e.0) y)))
      unfolding Tells f g
      level-alike (Expr-F.Number n) = inl refl
      level-alike (Expr-F.Var place) = inl refl
      level-alike (Expr-F.Load access a) = then_tell-alike _ _ _ _ a.1 (λ z. load-alike access z _ _ (look-alike memory access z))
      level-alike (Expr-F.Neg a) = then_tell-alike _ _ _ _ a.1 (λ z. inl refl)
      level-alike (Expr-F.Two op a b) = then_tell-alike _ _ _ _ a.1 (λ z. then_tell-alike _ _ _ _ b.1 (λ v. inl refl))

      tells : (e : Expr) → Tells e
      unfolding Tells
      tells = ind-Expr Tells (λ y z is. subst (λ w. Tells (roll-Expr w)) is
          (subst (λ (r : Told). ToldAlike r (told_by g scalars locals (look_load plain memory) (roll-Expr (map-Expr _ _ (λ e. e.0) z)))) (sym (told-rolled f (look_load (expectation_at p at) memory) (map-Expr _ _ (λ e. e.0) z)))
          (subst (λ (q : Told). ToldAlike (expression_level f scalars locals (look_load (expectation_at p at) memory) (map-Expr _ _ (told_by f scalars locals (look_load (expectation_at p at) memory)) (map-Expr _ _ (λ e. e.0) z))) q) (sym (told-rolled g (look_load plain memory) (map-Expr _ _ (λ e. e.0) z))) (level-alike z))))

    told-alike : (s : Store) (e : Expr) → ToldAlike (told f s e) (told g s e)
    unfolding Tells f g
    told-alike s e = tells s.scalars s.locals s.memory e

    -- statements
    with_value-wrong : (seen : List Observation) (v : Result ℤ Halt) (go : ℤ → Transition) → Wrong seen → ((z : ℤ) → Wrong (go z).entry.seen) → Wrong (with_value seen v go).entry.seen
    with_value-wrong seen (Ok z) go h each = each z
    with_value-wrong seen (Err halt) go h each = h

    with_value-alike : (seen : List Observation) (v : Result ℤ Halt) (go go' : ℤ → Transition) (s : Store) → ((z : ℤ) → Alike (traced (go z) s) (traced (go' z) s)) → Alike (traced (with_value seen v go) s) (traced (with_value seen v go') s)
    with_value-alike seen (Ok z) go go' s each = each z
    with_value-alike seen (Err halt) go go' s each = inl refl

    stored-seen : (seen : List Observation) (z v : ℤ) (r : Result ℤ Halt) → (stored seen z v r).entry.seen ≡ seen
    stored-seen seen z v (Ok old) = refl
    stored-seen seen z v (Err halt) = refl

    Runs-alike : Stmt → Type 0
    Runs-alike st = AlikeOn (statement_trace f st) (statement_trace g st)

    statements-alike : (xs : List ((st : Stmt) × Runs-alike st)) → AlikeOn (in_turn (map (statement_trace f) (map (λ e. e.0) xs))) (in_turn (map (statement_trace g) (map (λ e. e.0) xs)))
    unfolding Runs-alike
    statements-alike [] s = inl refl
    statements-alike (st ∷ xs) s = then-alike s _ _ _ _ (st.1 s) (statements-alike xs)

    chosen-alike : (b : Bool) (x y x' y' : List (Store → Trace)) → AlikeOn (in_turn x) (in_turn x') → AlikeOn (in_turn y) (in_turn y') → AlikeOn (in_turn (if b then x else y)) (in_turn (if b then x' else y'))
    chosen-alike true x y x' y' first second = first
    chosen-alike false x y x' y' first second = second

    set-alike : (go : ℤ → List Observation → Transition) (a b : Told) (s : Store) → ((z : ℤ) (os : List Observation) → (go z os).entry.seen ≡ os) → ToldAlike a b
        → Alike (traced (with_value a.seen a.value (λ v. go v a.seen)) s) (traced (with_value b.seen b.value (λ v. go v b.seen)) s)
    set-alike go a b s is (inl e) = inl (ap (λ (r : Told). traced (with_value r.seen r.value (λ v. go v r.seen)) s) e)
    set-alike go a b s is (inr h) =
        inr (
          step-fails (with_value a.seen a.value (λ v. go v a.seen)) s (with_value-wrong a.seen a.value (λ v. go v a.seen) h.0 (λ z. ap (all_agree p) (is z a.seen) ∙ h.0)),
          step-fails (with_value b.seen b.value (λ v. go v b.seen)) s (with_value-wrong b.seen b.value (λ v. go v b.seen) h.1 (λ z. ap (all_agree p) (is z b.seen) ∙ h.1)),
        )

    if-alike : (first second first' second' : List (Store → Trace)) (a b : Told) (s : Store) → AlikeOn (in_turn first) (in_turn first') → AlikeOn (in_turn second) (in_turn second') → ToldAlike a b
        → Alike (traced (with_value a.seen a.value (λ v. step_of [] a.seen Nothing None (if same v (pos 0) then second else first))) s)
        (traced (with_value b.seen b.value (λ v. step_of [] b.seen Nothing None (if same v (pos 0) then second' else first'))) s)
    if-alike first second first' second' a b s on on' (inl e) =
        subst (λ (r : Told). Alike (traced (with_value a.seen a.value (λ v. step_of [] a.seen Nothing None (if same v (pos 0) then second else first))) s)
        (traced (with_value r.seen r.value (λ v. step_of [] r.seen Nothing None (if same v (pos 0) then second' else first'))) s)) e
        (with_value-alike a.seen a.value (λ v. step_of [] a.seen Nothing None (if same v (pos 0) then second else first)) (λ v. step_of [] a.seen Nothing None (if same v (pos 0) then second' else first')) s
        (λ z. joined-alike None ((step_of [] a.seen Nothing None []).entry ∷ []) (in_turn (if same z (pos 0) then second else first) s) (in_turn (if same z (pos 0) then second' else first') s) (chosen-alike (same z (pos 0)) second first second' first' on' on s)))
    if-alike first second first' second' a b s on on' (inr h) =
        inr (
          step-fails (with_value a.seen a.value (λ v. step_of [] a.seen Nothing None (if same v (pos 0) then second else first))) s (with_value-wrong a.seen a.value _ h.0 (λ z. h.0)),
          step-fails (with_value b.seen b.value (λ v. step_of [] b.seen Nothing None (if same v (pos 0) then second' else first'))) s (with_value-wrong b.seen b.value _ h.1 (λ z. h.1)),
        )

    abbrev value-step : ℕ → Told → Told → (ℤ → Result ℤ Halt) → ℤ → Transition
    value-step access a e found address = with_value (a.seen ++ e.seen) e.value (λ v. stored (a.seen ++ e.seen ++ shown g (Address access) address ∷ []) address v (found address))

    abbrev store-step : ℕ → Told → Told → (ℤ → Result ℤ Halt) → Transition
    store-step access a e found = with_value a.seen a.value (value-step access a e found)

    value-wrong : (access : ℕ) (a e : Told) (found : ℤ → Result ℤ Halt) (z : ℤ) → Wrong (a.seen ++ e.seen) → Wrong (value-step access a e found z).entry.seen
    value-wrong access a e found z h =
        with_value-wrong (a.seen ++ e.seen) e.value (λ v. stored (a.seen ++ e.seen ++ shown g (Address access) z ∷ []) z v (found z)) h
        (λ v. ap (all_agree p) (stored-seen (a.seen ++ e.seen ++ shown g (Address access) z ∷ []) z v (found z)) ∙ wrong-front (a.seen ++ e.seen) (shown g (Address access) z ∷ []) h)

    store-wrong : (access : ℕ) (a e : Told) (found : ℤ → Result ℤ Halt) → Wrong a.seen → Wrong (store-step access a e found).entry.seen
    store-wrong access a e found h = with_value-wrong a.seen a.value (value-step access a e found) h (λ z. value-wrong access a e found z (wrong-front a.seen e.seen h))

    stored-alike : (access : ℕ) (seen : List Observation) (z v : ℤ) (r r' : Result ℤ Halt) (s : Store) → LookedAlike access z r r'
        → Alike (traced (stored (seen ++ shown g (Address access) z ∷ []) z v r) s) (traced (stored (seen ++ shown g (Address access) z ∷ []) z v r') s)
    unfolding LookedAlike
    stored-alike access seen z v r r' s (inl e) = inl (ap (λ (k : Result ℤ Halt). traced (stored (seen ++ shown g (Address access) z ∷ []) z v k) s) e)
    stored-alike access seen z v r r' s (inr h) =
        let all = seen ++ shown g (Address access) z ∷ [] in
        let wrong : Wrong all = wrong-back seen (shown g (Address access) z ∷ []) h in
        inr (step-fails (stored all z v r) s (ap (all_agree p) (stored-seen all z v r) ∙ wrong), step-fails (stored all z v r') s (ap (all_agree p) (stored-seen all z v r') ∙ wrong))

    value-alike : (access : ℕ) (a e e' : Told) (found found' : ℤ → Result ℤ Halt) (s : Store) (z : ℤ) → ToldAlike e e' → LookedAlike access z (found z) (found' z)
        → Alike (traced (value-step access a e found z) s) (traced (value-step access a e' found' z) s)
    value-alike access a e e' found found' s z (inr h) fu =
        inr (step-fails (value-step access a e found z) s (value-wrong access a e found z (wrong-back a.seen e.seen h.0)), step-fails (value-step access a e' found' z) s (value-wrong access a e' found' z (wrong-back a.seen e'.seen h.1)))
    value-alike access a e e' found found' s z (inl se) fu =
        subst (λ (r : Told). Alike (traced (value-step access a e found z) s) (traced (value-step access a r found' z) s)) se
        (with_value-alike (a.seen ++ e.seen) e.value (λ v. stored (a.seen ++ e.seen ++ shown g (Address access) z ∷ []) z v (found z)) (λ v. stored (a.seen ++ e.seen ++ shown g (Address access) z ∷ []) z v (found' z)) s
        (λ v. stored-alike access (a.seen ++ e.seen) z v (found z) (found' z) s fu))

    store-alike : (access : ℕ) (a a' e e' : Told) (found found' : ℤ → Result ℤ Halt) (s : Store) → ToldAlike a a' → ToldAlike e e' → ((z : ℤ) → LookedAlike access z (found z) (found' z))
        → Alike (traced (store-step access a e found) s) (traced (store-step access a' e' found') s)
    store-alike access a a' e e' found found' s (inr h) eu fu = inr (step-fails (store-step access a e found) s (store-wrong access a e found h.0), step-fails (store-step access a' e' found') s (store-wrong access a' e' found' h.1))
    store-alike access a a' e e' found found' s (inl sa) eu fu =
        subst (λ (r : Told). Alike (traced (store-step access a e found) s) (traced (store-step access r e' found') s)) sa
        (with_value-alike a.seen a.value (value-step access a e found) (value-step access a e' found') s (λ z. value-alike access a e e' found found' s z eu (fu z)))

    statement-rolled : (h : Frame) (y : Stmt-F Stmt) → statement_trace h (roll-Stmt y) ≡ (λ s. traced (statement_level h (map-Stmt _ _ (statement_trace h) y) s) s)
    unfolding statement_trace
    statement-rolled h y = fold-roll-Stmt (Store → Trace) (λ z s. traced (statement_level h z s) s) y

    statement_level-alike : (y : Stmt-F ((st : Stmt) × Runs-alike st)) → AlikeOn (λ s. traced (statement_level f (map-Stmt _ _ (statement_trace f) (map-Stmt _ _ (λ e. e.0) y)) s) s) (λ s. traced (statement_level g (map-Stmt _ _ (statement_trace g) (map-Stmt _ _ (λ e. e.0) y)) s) s)
    unfolding Runs-alike f g
    statement_level-alike (Stmt-F.Let number e) s = set-alike (λ v os. step_of [] os (Local number v) None []) _ _ s (λ z os. refl) (told-alike s e)
    statement_level-alike (Stmt-F.Set number e) s = set-alike (λ v os. step_of [] os (Scalar number v) None []) _ _ s (λ z os. refl) (told-alike s e)
    statement_level-alike (Stmt-F.Store access a e) s =
        store-alike access _ _ _ _ (λ z. or_stopped access (look_store (expectation_at p at) s.memory access z)) (λ z. or_stopped access (look_store plain s.memory access z)) s (told-alike s a) (told-alike s e) (λ z. look-alike s.memory access z)
    statement_level-alike (Stmt-F.If e first second) s = if-alike _ _ _ _ _ _ s (statements-alike first) (statements-alike second) (told-alike s e)

    every-statement-alike : (st : Stmt) → Runs-alike st
    unfolding Runs-alike
    every-statement-alike = ind-Stmt Runs-alike (λ y z is. subst (λ w. Runs-alike (roll-Stmt w)) is
        (subst (λ (r : Store → Trace). AlikeOn r (statement_trace g (roll-Stmt (map-Stmt _ _ (λ e. e.0) z)))) (sym (statement-rolled f (map-Stmt _ _ (λ e. e.0) z)))
        (subst (λ (q : Store → Trace). AlikeOn (λ s. traced (statement_level f (map-Stmt _ _ (statement_trace f) (map-Stmt _ _ (λ e. e.0) z)) s) s) q) (sym (statement-rolled g (map-Stmt _ _ (λ e. e.0) z))) (statement_level-alike z))))

    block-alike : (block : List Stmt) → AlikeOn (block_trace f block) (block_trace g block)
    unfolding Runs-alike block_trace
    block-alike [] s = inl refl
    block-alike (st ∷ block) s = then-alike s _ _ _ _ (every-statement-alike st s) (block-alike block)

    fails-shown : (os : List Observation) (es : List Entry) (halt : Option Halt) → fine es halt ≡ false → fine (shown_before os es) halt ≡ false
    unfolding fine
    fails-shown os [] halt h = h
    fails-shown os (e ∷ es) halt h = ap (λ (b : Bool). (b && all_agree p e.seen) && fine es halt) (agree-append p os e.before) ∙ by (all_agree p os) (all_agree p e.before) (all_agree p e.seen) (fine es halt) h
      where
        by : (o b c d : Bool) → (b && c) && d ≡ false → ((o && b) && c) && d ≡ false
        by true b c d h = h
        by false b c d h = refl

    instance-alike : (block : List Stmt) → AlikeOn (instance_trace f block) (instance_trace g block)
    unfolding instance_trace announced f g
    instance-alike block s = at-first (block_trace f block (started s)) (block_trace g block (started s)) (block-alike block (started s))
      where
        at-first : (t u : Trace) → Alike t u → Alike (record t { entries = shown_before (announced f s) t.entries }) (record u { entries = shown_before (announced g s) u.entries })
        at-first t u (inl e) = inl (ap (λ (w : Trace). record w { entries = shown_before (announced f s) w.entries }) e)
        at-first t u (inr h) = inr (fails-shown (announced f s) t.entries t.halt h.0, fails-shown (announced g s) u.entries u.halt h.1)

    head-alike : (head : Head) (s : Store) → HeadedAlike (head_of f head s) (head_of g head s)
    unfolding head_of f g
    head-alike (For lower upper stride) s =
        then_head-alike _ _ _ _ (told-alike s lower) (λ from. then_head-alike _ _ _ _ (told-alike s upper) (λ to. inl refl))
    head-alike (While condition) s = then_head-alike _ _ _ _ (told-alike s condition) (λ v. inl refl)

    head_step-seen : (before seen : List Observation) (r : Result Yield Halt) (go : Yield → List (Store → Trace)) → (head_step before seen r go).entry.seen ≡ seen
    head_step-seen before seen (Ok yield) go = refl
    head_step-seen before seen (Err halt) go = refl

    headed-alike : (head : Head) (go : Yield → List (Store → Trace)) (s : Store) → Alike (traced (headed f head go s) s) (traced (headed g head go s) s)
    unfolding announced f g
    headed-alike head go s = by (head_of f head s) (head_of g head s) (head-alike head s)
      where
        by : (a b : Headed) → HeadedAlike a b → Alike (traced (head_step (announced f s) a.seen a.value go) s) (traced (head_step (announced g s) b.seen b.value go) s)
        by a b (inl e) = inl (ap (λ (r : Headed). traced (head_step (announced f s) r.seen r.value go) s) e)
        by a b (inr h) =
            inr (
              step-fails (head_step (announced f s) a.seen a.value go) s (ap (all_agree p) (head_step-seen (announced f s) a.seen a.value go) ∙ h.0),
              step-fails (head_step (announced g s) b.seen b.value go) s (ap (all_agree p) (head_step-seen (announced g s) b.seen b.value go) ∙ h.1),
            )

  reach-alike : (t u : Trace) (s : Store) → Alike t u → reach p t s ≡ reach p u s
  unfolding reach
  reach-alike t u s (inl e) = ap (λ (w : Trace). reach_by p w.entries w.halt s) e
  reach-alike t u s (inr h) = fine-none t.entries t.halt s h.0 ∙ sym (fine-none u.entries u.halt s h.1)

pub verified-plain : VerifiedIsPlain
unfolding f g
verified-plain p at values (Runs first rest) s = reach-alike p _ _ s (instance-alike p at values (first ∷ rest) s)
verified-plain p at values (Evaluates head) s = reach-alike p _ _ s (headed-alike p at values head (λ y. []) s)
