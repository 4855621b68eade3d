-- What a block stores goes where its stores are expected.
use Rattle.std.proofs.Common.{◌≡◌, ◌++◌, ℕ, zero, suc, ℤ, pos, negsuc, Bool, true, false, not, List, [], ◌∷◌, map, length, set, slice_get, refl, sym, ap, subst, ◌∙◌, Option, Some, None, Result, Ok, Err, arith}
use Rattle.std.specs.Prelude.{if◌then◌else◌}
use Rattle.std.specs.List.{AllByRecursion}
use Rattle.nest_lang.specs.declared.tree.Stmt.{Stmt}
use Rattle.nest_lang.specs.declared.tree.Stmt.TheOpen.{Stmt-F}
use Rattle.nest_lang.specs.declared.observe.Stop.{Stop}
use Rattle.nest_lang.specs.declared.observe.Stop.TheVariants.{Unexpected}
use Rattle.nest_lang.specs.Stores.{Store, word_at, Effect, Nothing, Local, Scalar, Word, effect_on}
use Rattle.nest_lang.specs.Lookups.{Interval, lies_in, line_of, look, look_store, word_or_outside}
use Rattle.nest_lang.specs.Traces.{Observation, Entry, Halt, Trace, after_all, joined, and_then, in_turn, Transition, step_of, traced}
use Rattle.nest_lang.specs.Expressions.{Frame, told, or_stopped}
use Rattle.nest_lang.specs.Statements.{with_value, stored, statement_level, statement_trace, block_trace}
use Rattle.block_exec.specs.Laws.{IsStored, ChangesWhereStored}
use Rattle.block_exec.proofs.EveryBlock.{every-block}

look-verified : (verifies : Bool) (expected : Option Interval) (memory : List ℤ) (z : ℤ) → verifies ≡ true → look verifies expected memory z ≡ (if not (lies_in expected z) then Err (Unexpected z (line_of expected)) else word_or_outside z (word_at memory z))
unfolding look
look-verified true expected memory z e = refl
look-verified false expected memory z e = absurd (cc)

module _ (f : Frame) (verified : f.expects.verifies ≡ true) where
  abbrev pub Goes : Effect → Type 0
  Goes (Word address value) = IsStored f.expects address
  Goes effect = Unit {0}

  abbrev pub Stays : List Entry → Type 0
  Stays es = AllByRecursion (λ e. Goes e.effect) es

  Inside : (Store → Trace) → Type 0
  Inside g = (s : Store) → Stays (g s).entries

  stays-append : (xs ys : List Entry) → Stays xs → Stays ys → Stays (xs ++ ys)
  stays-append [] ys h k = k
  stays-append (x ∷ xs) ys h k = (h.0, stays-append xs ys h.1 k)

  stays-joined : (halt : Option Halt) (es : List Entry) (more : Trace) → Stays es → Stays more.entries → Stays (joined halt es more).entries
  stays-joined (Some halt) es more h k = h
  stays-joined None es more h k = stays-append es more.entries h k

  turn-inside : (fs : List (Store → Trace)) → AllByRecursion Inside fs → Inside (in_turn fs)
  unfolding Inside
  turn-inside [] each = λ s. tt
  turn-inside (g ∷ fs) each = λ s. stays-joined (g s).halt (g s).entries (in_turn fs (after_all s (g s).entries)) (each.0 s) (turn-inside fs each.1 (after_all s (g s).entries))

  with-inside : (seen : List Observation) (v : Result ℤ Halt) (go : ℤ → Transition) → ((z : ℤ) → Goes (go z).entry.effect) → Goes (with_value seen v go).entry.effect
  with-inside seen (Ok z) go more = more z
  with-inside seen (Err halt) go more = tt

  stored-inside : (seen : List Observation) (access : ℕ) (z v : ℤ) (m : List ℤ) → Goes (stored seen z v (or_stopped access (look_store f.expects m access z))).entry.effect
  stored-inside seen access z v m =
      let verifies = look-verified f.expects.verifies (f.expects.stores access) m z verified in
      subst (λ (r : Result ℤ Stop). Goes (stored seen z v (or_stopped access r)).entry.effect) (sym verifies) (by-test z (lies_in (f.expects.stores access) z) refl)
    where
      -- a word is found at an address from 0 on alone
      found : (z : ℤ) → lies_in (f.expects.stores access) z ≡ true → Goes (stored seen z v (or_stopped access (word_or_outside z (word_at m z)))).entry.effect
      found (negsuc n) e = tt
      found (pos n) e = at (slice_get m n)
        where
          at : (o : Option ℤ) → Goes (stored seen (pos n) v (or_stopped access (word_or_outside (pos n) o))).entry.effect
          at (Some word) = (access, e)
          at None = tt

      by-test : (z : ℤ) (b : Bool) → lies_in (f.expects.stores access) z ≡ b → Goes (stored seen z v (or_stopped access (if not b then Err (Unexpected z (line_of (f.expects.stores access))) else word_or_outside z (word_at m z)))).entry.effect
      by-test z true e = found z e
      by-test z false e = tt

  level-inside : (x : Stmt-F (Store → Trace)) (s : Store) → Goes (statement_level f x s).entry.effect
  level-inside (Stmt-F.Let number e) s = with-inside _ (told f s e).value _ (λ z. tt)
  level-inside (Stmt-F.Set number e) s = with-inside _ (told f s e).value _ (λ z. tt)
  level-inside (Stmt-F.Store access a e) s = with-inside _ (told f s a).value _ (λ z. with-inside _ (told f s e).value _ (λ v. stored-inside _ access z v s.memory))
  level-inside (Stmt-F.If e first second) s = with-inside _ (told f s e).value _ (λ z. tt)

  traced-inside : (x : Stmt-F (Store → Trace)) → ((s : Store) → AllByRecursion Inside (statement_level f x s).rest) → Inside (λ s. traced (statement_level f x s) s)
  unfolding Inside
  traced-inside x rest s =
      let st = statement_level f x s in
      stays-joined st.halt (st.entry ∷ []) (in_turn st.rest (effect_on s st.entry.effect)) (level-inside x s, tt) (turn-inside st.rest (rest s) (effect_on s st.entry.effect))

  pub block-inside : (block : List Stmt) (s : Store) → Stays (block_trace f block s).entries
  unfolding Inside block_trace
  block-inside block s = turn-inside (map (statement_trace f) block) (every-block f Inside traced-inside block) s

  get-set-other : (m : List ℤ) (i n : ℕ) (v : ℤ) → (i ≡ n → ⊥) → slice_get (set m i v) n ≡ slice_get m n
  get-set-other [] i n v other = refl
  get-set-other (x ∷ xs) zero zero v other = absurd (other refl)
  get-set-other (x ∷ xs) zero (suc n) v other = refl
  get-set-other (x ∷ xs) (suc i) zero v other = refl
  get-set-other (x ∷ xs) (suc i) (suc n) v other = get-set-other xs i n v (λ e. other (ap suc e))

  effect-leaves : (s : Store) (e : Effect) (n : ℕ) → (IsStored f.expects n → ⊥) → Goes e → slice_get (effect_on s e).memory n ≡ slice_get s.memory n
  effect-leaves s Nothing n none goes = refl
  effect-leaves s (Local i v) n none goes = refl
  effect-leaves s (Scalar i v) n none goes = refl
  effect-leaves s (Word i v) n none goes = get-set-other s.memory i n v (λ e. none (subst (IsStored f.expects) e goes))

  pub after-leaves : (s : Store) (es : List Entry) (n : ℕ) → (IsStored f.expects n → ⊥) → Stays es → slice_get (after_all s es).memory n ≡ slice_get s.memory n
  after-leaves s [] n none all = refl
  after-leaves s (e ∷ es) n none all = after-leaves (effect_on s e.effect) es n none all.1 ∙ effect-leaves s e.effect n none all.0

pub changes_where_stored : ChangesWhereStored
changes_where_stored f block s n verified none = after-leaves f verified s (block_trace f block s).entries n none (block-inside f verified block s)
