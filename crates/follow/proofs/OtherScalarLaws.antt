-- An instance leads nowhere that begins with other scalars than are expected.
use Rattle.std.proofs.Common.{◌≡◌, refl, ap, ◌∙◌, sym, subst, ℕ, ℤ, pos, suc, Bool, false, List, [], ◌∷◌, ◌++◌, length, length-append, append_assoc, map, get_or, Option, Some, None, Result, Ok, Err, arith}
use Rattle.std.specs.Prelude.{if◌then◌else◌, ◌&&◌}
use Rattle.nest_lang.specs.declared.tree.Stmt.{Stmt}
use Rattle.nest_lang.specs.Values.{same}
use Rattle.nest_lang.specs.Stores.{Store, effect_on}
use Rattle.nest_lang.specs.Traces.{Observation, Entry, Halt, Trace, joined, in_turn, traced, after_all, Done, Halted, Limited, Cut, cut}
use Rattle.nest_lang.specs.Expressions.{Frame}
use Rattle.nest_lang.specs.Statements.{statement_trace, block_trace, started, scalars_from, announced, shown_before, instance_trace}
use Rattle.nest_lang.specs.Heads.{Yield, head_of, head_step}
use Rattle.nest_lang.proofs.CutLaws.{trace_of, cut-end}
use Rattle.nest_lang.proofs.StatementLaws.{statement-due}
use Rattle.follow.specs.Forecasts.{same_all, expectation_at, all_agree, Forecast}
use Rattle.follow.specs.Reaches.{plus, reach_by, reach, Reached}
use Rattle.follow.specs.Plans.{frame_with, work_trace, item_trace, Item, Work, Runs, Evaluates}
use Rattle.follow.proofs.HeadYieldLaws.{agree-append}

get-at : (us ws : List ℤ) (w d : ℤ) → get_or (us ++ w ∷ ws) (length us) d ≡ w
get-at [] ws w d = refl
get-at (u ∷ us) ws w d = get-at us ws w d

module _ (p : Forecast) where
  pub scalars-agree : (f : Frame) (us ws vs : List ℤ) (j : ℕ) → length us ≡ j → p.scalars f.at ≡ us ++ ws → length ws ≡ length vs → all_agree p (scalars_from f j vs) ≡ same_all vs ws
  unfolding all_agree
  scalars-agree f us [] [] j at is sizes = refl
  scalars-agree f us (w ∷ ws) [] j at is sizes = absurd (omega (arith, sizes))
  scalars-agree f us [] (v ∷ vs) j at is sizes = absurd (omega (arith, sizes))
  scalars-agree f us (w ∷ ws) (v ∷ vs) j at is sizes =
      let here : get_or (p.scalars f.at) j (pos 0) ≡ w = ap (λ (xs : List ℤ). get_or xs j (pos 0)) is ∙ ap (λ (i : ℕ). get_or (us ++ w ∷ ws) i (pos 0)) (sym at) ∙ get-at us ws w (pos 0) in
      let next : length (us ++ w ∷ []) ≡ suc j = let e = length-append us (w ∷ []) in omega (arith, e, at) in
      ap (λ (z : ℤ). same v z && all_agree p (scalars_from f (suc j) vs)) here
      ∙ ap (λ (b : Bool). same v w && b) (scalars-agree f (us ++ w ∷ []) ws vs (suc j) next (is ∙ sym (append_assoc us (w ∷ []) ws)) (omega (arith, sizes)))

  pub announced-agree : (f : Frame) (s : Store) → length (p.scalars f.at) ≡ length s.scalars → all_agree p (announced f s) ≡ same_all s.scalars (p.scalars f.at)
  unfolding all_agree announced
  announced-agree f s sizes = scalars-agree f [] (p.scalars f.at) s.scalars 0 refl refl sizes

  some-entry : (es : List Entry) (halt : Option Halt) (s : Store) → (cut (trace_of es halt) s 0 0).ending ≡ Limited → (e : Entry) × (more : List Entry) × (es ≡ e ∷ more)
  some-entry (e ∷ es) halt s h = (e, es, refl)
  some-entry [] None s h = absurd (ends (sym (ap (λ (c : Cut). c.ending) (cut-end None s 0 0)) ∙ h))
    where
      ends : Done ≡ Limited → ⊥
      ends e = cc
  some-entry [] (Some halt) s h = absurd (ends (sym (ap (λ (c : Cut). c.ending) (cut-end (Some halt) s 0 0)) ∙ h))
    where
      ends : Halted halt ≡ Limited → ⊥
      ends e = cc

  none-first : (b c : Bool) (o : Option Reached) → b ≡ false → (if b && c then plus 1 o else None) ≡ None
  none-first b c o e = rw e refl

  none-before : (os : List Observation) (e : Entry) (es : List Entry) (halt : Option Halt) (s : Store) → all_agree p os ≡ false → reach_by p (shown_before os (e ∷ es)) halt s ≡ None
  none-before os e es halt s differs = none-first (all_agree p (os ++ e.before)) (all_agree p e.seen) (reach_by p es halt (effect_on s e.effect)) (agree-append p os e.before ∙ ap (λ (b : Bool). b && all_agree p e.before) differs)

  joined-first : (halt : Option Halt) (e : Entry) (es : List Entry) (t : Trace) → (more : List Entry) × ((joined halt (e ∷ es) t).entries ≡ e ∷ more)
  joined-first (Some halt) e es t = (es, refl)
  joined-first None e es t = (es ++ t.entries, refl)

  block-first : (f : Frame) (x : Stmt) (xs : List Stmt) (s : Store) → (e : Entry) × (more : List Entry) × ((block_trace f (x ∷ xs) s).entries ≡ e ∷ more)
  unfolding block_trace
  block-first f x xs s =
      let t : Trace = statement_trace f x s in
      let due = ap (λ (c : Cut). c.ending) (statement-due f x s 0 0 refl) in
      let one = some-entry t.entries t.halt s due in
      let all = subst (λ (es : List Entry). (more : List Entry) × ((joined t.halt es (in_turn (map (statement_trace f) xs) (after_all s t.entries))).entries ≡ one.0 ∷ more)) (sym one.2)
      (joined-first t.halt one.0 one.1 (in_turn (map (statement_trace f) xs) (after_all s t.entries))) in
      (one.0, all.0, all.1)

  block-none : (f : Frame) (x : Stmt) (xs : List Stmt) (s : Store) → all_agree p (announced f s) ≡ false → reach p (instance_trace f (x ∷ xs) s) s ≡ None
  unfolding reach instance_trace
  block-none f x xs s differs =
      let first = block-first f x xs (started s) in
      ap (λ (es : List Entry). reach_by p (shown_before (announced f s) es) (block_trace f (x ∷ xs) (started s)).halt s) first.2 ∙ none-before (announced f s) first.0 first.1 (block_trace f (x ∷ xs) (started s)).halt s differs

  head-none : (before seen : List Observation) (value : Result Yield Halt) (go : Yield → List (Store → Trace)) (s : Store) → all_agree p before ≡ false → reach p (traced (head_step before seen value go) s) s ≡ None
  unfolding reach
  head-none before seen (Ok y) go s differs = none-first (all_agree p before) (all_agree p seen) _ differs
  head-none before seen (Err halt) go s differs = none-first (all_agree p before) (all_agree p seen) None differs

  pub begins-none : (i : Item) (s : Store) → length (p.scalars i.at) ≡ length s.scalars → same_all s.scalars (p.scalars i.at) ≡ false → reach p (item_trace p i s) s ≡ None
  begins-none i s sizes differs = at (frame_with i.at i.values (expectation_at p i.at)) i.work (announced-agree (frame_with i.at i.values (expectation_at p i.at)) s sizes ∙ differs)
    where
      at : (f : Frame) (w : Work) → all_agree p (announced f s) ≡ false → reach p (work_trace f w s) s ≡ None
      at f (Runs first rest) e = block-none f first rest s e
      at f (Evaluates head) e = head-none (announced f s) (head_of f head s).seen (head_of f head s).value (λ y. []) s e
