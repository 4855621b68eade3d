-- Stores that are alike where loads are expected give one trace of a block.
use Rattle.std.proofs.Common.{◌≡◌, ◌++◌, ℕ, zero, suc, ℤ, pos, negsuc, Bool, true, false, not, List, [], ◌∷◌, map, length, set, slice_get, refl, sym, ap, ap₂, ◌∙◌, is_some, Option, Some, None, Result, Ok, Err, unsigned_abs, length-set, arith}
use Rattle.std.specs.Prelude.{if◌then◌else◌, ◌&&◌}
use Rattle.std.specs.List.{AllByRecursion}
use Rattle.nest_lang.specs.declared.tree.Expr.{Expr}
use Rattle.nest_lang.specs.declared.tree.Stmt.{Stmt}
use Rattle.nest_lang.specs.declared.tree.Stmt.TheOpen.{Stmt-F}
use Rattle.nest_lang.specs.declared.observe.Seen.TheVariants.{Address}
use Rattle.nest_lang.specs.declared.observe.Stop.{Stop}
use Rattle.nest_lang.specs.declared.observe.Stop.TheVariants.{Outside, Unexpected}
use Rattle.nest_lang.specs.Values.{same}
use Rattle.nest_lang.specs.Stores.{Store, store_of, word_at, Effect, Nothing, Local, Scalar, Word, effect_on}
use Rattle.nest_lang.specs.Lookups.{Interval, Expectation, lies_in, line_of, look, look_load, look_store, word_or_outside}
use Rattle.nest_lang.specs.Traces.{Observation, Entry, Halt, Trace, after_all, joined, and_then, in_turn, Transition, step_of, traced}
use Rattle.nest_lang.specs.Expressions.{Frame, shown, Told, told, told_by, or_stopped}
use Rattle.nest_lang.specs.Statements.{with_value, stored, statement_level, statement_trace, block_trace}
use Rattle.plain_lemmas.proofs.ListLaws.{slice_get-set, is_some-slice_get}
use Rattle.block_exec.specs.Laws.{IsLoaded, AlikeWhereLoaded, DependsWhereLoaded}
use Rattle.block_exec.proofs.EveryBlock.{every-block}

module _ (f : Frame) (verified : f.expects.verifies ≡ true) where
  pub record StoreAlike (s t : Store) : Type 0 where
    pub scalars : s.scalars ≡ t.scalars
    pub locals : s.locals ≡ t.locals
    pub memory : AlikeWhereLoaded f.expects s.memory t.memory

  set-alike : (m w : List ℤ) (i : ℕ) (v : ℤ) → AlikeWhereLoaded f.expects m w → AlikeWhereLoaded f.expects (set m i v) (set w i v)
  set-alike m w i v h = (length-set m i v ∙ h.0 ∙ sym (length-set w i v), λ n k. slice_get-set m w i n v h.0 (h.1 n k))

  effect-alike : (s t : Store) (e : Effect) → StoreAlike s t → StoreAlike (effect_on s e) (effect_on t e)
  effect-alike s t Nothing h = h
  effect-alike s t (Local i v) h = record { scalars = h.scalars; locals = ap (λ (xs : List ℤ). set xs i v) h.locals; memory = h.memory }
  effect-alike s t (Scalar i v) h = record { scalars = ap (λ (xs : List ℤ). set xs i v) h.scalars; locals = h.locals; memory = h.memory }
  effect-alike s t (Word i v) h = record { scalars = h.scalars; locals = h.locals; memory = set-alike s.memory t.memory i v h.memory }

  after-alike : (s t : Store) (es : List Entry) → StoreAlike s t → StoreAlike (after_all s es) (after_all t es)
  after-alike s t [] h = h
  after-alike s t (e ∷ es) h = after-alike (effect_on s e.effect) (effect_on t e.effect) es (effect-alike s t e.effect h)

  -- a load that is verified finds the same
  load-alike : (access : ℕ) (m w : List ℤ) (z : ℤ) → AlikeWhereLoaded f.expects m w → look_load f.expects m access z ≡ look_load f.expects w access z
  unfolding look
  load-alike access m w z h = rw verified (by-test (lies_in (f.expects.loads access) z) refl)
    where
      found : (z : ℤ) → lies_in (f.expects.loads access) z ≡ true → word_or_outside z (word_at m z) ≡ word_or_outside z (word_at w z)
      found (pos n) e = ap (word_or_outside (pos n)) (h.1 n (access, e))
      found (negsuc n) e = refl

      by-test : (b : Bool) → lies_in (f.expects.loads access) z ≡ b → (if not b then Err (Unexpected z (line_of (f.expects.loads access))) else word_or_outside z (word_at m z)) ≡ (if not b then Err (Unexpected z (line_of (f.expects.loads access))) else word_or_outside z (word_at w z))
      by-test true e = found z e
      by-test false e = refl

  loads-alike : (m w : List ℤ) → AlikeWhereLoaded f.expects m w → look_load f.expects m ≡ look_load f.expects w
  loads-alike m w h = λ i access z. load-alike access m w z h i

  pub told-alike : (s t : Store) (e : Expr) → StoreAlike s t → told f s e ≡ told f t e
  told-alike s t e h = ap₂ (λ (sc lo : List ℤ). told_by f sc lo (look_load f.expects s.memory) e) h.scalars h.locals ∙ ap (λ (find : ℕ → ℤ → Result ℤ Stop). told_by f t.scalars t.locals find e) (loads-alike s.memory t.memory h.memory)

  -- a store is refused in both or in none; the word that it replaces is no matter
  word-stored : (seen : List Observation) (access : ℕ) (z v : ℤ) (a b : Option ℤ) → is_some a ≡ is_some b → stored seen z v (or_stopped access (word_or_outside z a)) ≡ stored seen z v (or_stopped access (word_or_outside z b))
  word-stored seen access z v (Some x) (Some y) h = refl
  word-stored seen access z v None None h = refl
  word-stored seen access z v (Some x) None h = absurd (cc)
  word-stored seen access z v None (Some y) h = absurd (cc)

  stored-alike : (seen : List Observation) (access : ℕ) (z v : ℤ) (m w : List ℤ) → length m ≡ length w → stored seen z v (or_stopped access (look_store f.expects m access z)) ≡ stored seen z v (or_stopped access (look_store f.expects w access z))
  unfolding look
  stored-alike seen access z v m w size = by-test (f.expects.verifies && not (lies_in (f.expects.stores access) z))
    where
      found : (z : ℤ) → stored seen z v (or_stopped access (word_or_outside z (word_at m z))) ≡ stored seen z v (or_stopped access (word_or_outside z (word_at w z)))
      found (pos n) = word-stored seen access (pos n) v (slice_get m n) (slice_get w n) (is_some-slice_get m w n size)
      found (negsuc n) = refl

      by-test : (b : Bool) → stored seen z v (or_stopped access (if b then Err (Unexpected z (line_of (f.expects.stores access))) else word_or_outside z (word_at m z))) ≡ stored seen z v (or_stopped access (if b then Err (Unexpected z (line_of (f.expects.stores access))) else word_or_outside z (word_at w z)))
      by-test true = refl
      by-test false = found z

  Near : (Store → Trace) → Type 0
  Near g = (s t : Store) → StoreAlike s t → g s ≡ g t

  joined-near : (halt : Option Halt) (es : List Entry) (go : Store → Trace) (s t : Store) → Near go → StoreAlike s t → joined halt es (go s) ≡ joined halt es (go t)
  unfolding Near
  joined-near halt es go s t near h = ap (joined halt es) (near s t h)

  turn-near : (fs : List (Store → Trace)) → AllByRecursion Near fs → Near (in_turn fs)
  unfolding Near
  turn-near [] each = λ s t h. refl
  turn-near (g ∷ fs) each = λ s t h.
      joined-near (g s).halt (g s).entries (in_turn fs) (after_all s (g s).entries) (after_all t (g s).entries) (turn-near fs each.1) (after-alike s t (g s).entries h)
      ∙ ap (λ (z : Trace). and_then t z (in_turn fs)) (each.0 s t h)

  level-near : (x : Stmt-F (Store → Trace)) (s t : Store) → StoreAlike s t → statement_level f x s ≡ statement_level f x t
  level-near (Stmt-F.Let number e) s t h = ap (λ (q : Told). with_value q.seen q.value (λ z. step_of [] q.seen (Local number z) None [])) (told-alike s t e h)
  level-near (Stmt-F.Set number e) s t h = ap (λ (q : Told). with_value q.seen q.value (λ z. step_of [] q.seen (Scalar number z) None [])) (told-alike s t e h)
  level-near (Stmt-F.If e first second) s t h =
      ap (λ (q : Told). with_value q.seen q.value (λ z. step_of [] q.seen Nothing None (if same z (pos 0) then second else first))) (told-alike s t e h)
  level-near (Stmt-F.Store access a e) s t h =
      ap₂ (λ (p q : Told). with_value p.seen p.value (λ z. with_value (p.seen ++ q.seen) q.value (λ k. stored (p.seen ++ q.seen ++ shown f (Address access) z ∷ []) z k (or_stopped access (look_store f.expects s.memory access z))))) (told-alike s t a h) (told-alike s t e h)
      ∙ ap (λ (go : ℤ → ℤ → Transition). with_value (told f t a).seen (told f t a).value (λ z. with_value ((told f t a).seen ++ (told f t e).seen) (told f t e).value (go z)))
      (λ i z k. stored-alike ((told f t a).seen ++ (told f t e).seen ++ shown f (Address access) z ∷ []) access z k s.memory t.memory h.memory.0 i)

  traced-near : (x : Stmt-F (Store → Trace)) → ((s : Store) → AllByRecursion Near (statement_level f x s).rest) → Near (λ s. traced (statement_level f x s) s)
  unfolding Near
  traced-near x rest s t h =
      let st = statement_level f x s in
      joined-near st.halt (st.entry ∷ []) (in_turn st.rest) (effect_on s st.entry.effect) (effect_on t st.entry.effect) (turn-near st.rest (rest s)) (effect-alike s t st.entry.effect h)
      ∙ ap (λ (z : Transition). traced z t) (level-near x s t h)

  pub block-near : (block : List Stmt) (s t : Store) → StoreAlike s t → block_trace f block s ≡ block_trace f block t
  unfolding Near block_trace
  block-near block s t h = turn-near (map (statement_trace f) block) (every-block f Near traced-near block) s t h

pub depends_where_loaded : DependsWhereLoaded
depends_where_loaded f block m w scalars locals verified h = block-near f verified block (store_of m scalars locals) (store_of w scalars locals) (record { scalars = refl; locals = refl; memory = h })
