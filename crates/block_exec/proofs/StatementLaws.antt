-- How runs of blocks go on, in code's words.
use Rattle.std.proofs.Common.{◌≡◌, refl, ap, sym, ◌∙◌, ℕ, ◌<◌, ◌≤◌, ◌+◌, ℤ, List, [], ◌∷◌, ◌++◌, length, take, drop, get_or, append-nil, set, arith, rules}
use Rattle.nest_lang.specs.declared.tree.Stmt.{Stmt}
use Rattle.nest_lang.specs.Stores.{Store, store_of, Effect, Nothing, Local, Scalar, Word, effect_on}
use Rattle.nest_lang.specs.Traces.{Observation, Entry, Trace, Finish, Done, Cut, cut_of, cut, seen_in, after_all}
use Rattle.nest_lang.specs.Expressions.{Frame}
use Rattle.nest_lang.specs.Statements.{statement_trace, block_trace}
use Rattle.nest_lang.proofs.CutLaws.{cut-step, cut-end, seen-step, seen-ends, rest_seen, rest-seen-not, trace_of, cut-stop, cut-cons}
use Rattle.nest_lang.proofs.StatementLaws.{statements, run-next, run-out, block-end, seen-block-end, seen-block-at}
use Rattle.block_exec.specs.Watches.{Chain}
use Rattle.block_exec.proofs.ChainLaws.{chain-append, chain-one}

-- a statement was run and was done: a chain for what is left of the block makes one for the whole
pub shown-next : {W : Type 0} (may : W → Observation → W → Type 0) (f : Frame) (xs : List Stmt) (i : ℕ) (x : Stmt) (s s' : Store) (left used left' used' : ℕ) (e : Finish) (w0 w w' : W) (whole : List Observation) → cut_of s' left' used' e ≡ cut (statement_trace f x s) s left used → e ≡ Done → i < length xs → x ≡ get_or xs i x → Chain may w (seen_in (statement_trace f x s) left) w' → ((v : W) → Chain may w (seen_in (block_trace f (drop i xs) s) left) v → Chain may w0 whole v) → (v : W) → Chain may w' (seen_in (block_trace f (drop (i + 1) xs) s') left') v → Chain may w0 whole v
shown-next may f xs i x s s' left used left' used' e w0 w w' whole run is h item step go v rest =
    let done : cut_of s' left' used' Done ≡ cut (statement_trace f x s) s left used = rw is at run in
    let next : seen_in (block_trace f (drop i xs) s) left ≡ seen_in (statement_trace f x s) left ++ seen_in (block_trace f (drop (i + 1) xs) s') left' =
    seen-block-at f xs i x s left used h item ∙ ap (λ k. seen_in (statement_trace f x s) left ++ rest_seen k (block_trace f (drop (i + 1) xs))) (sym done) in
    go v (rw next (chain-append may w w' v _ _ step rest))

-- a statement was run and was not done
pub shown-out : {W : Type 0} (may : W → Observation → W → Type 0) (f : Frame) (xs : List Stmt) (i : ℕ) (x : Stmt) (s s' : Store) (left used left' used' : ℕ) (e : Finish) (w0 w w' : W) (whole : List Observation) → cut_of s' left' used' e ≡ cut (statement_trace f x s) s left used → (e ≡ Done → ⊥) → i < length xs → x ≡ get_or xs i x → Chain may w (seen_in (statement_trace f x s) left) w' → ((v : W) → Chain may w (seen_in (block_trace f (drop i xs) s) left) v → Chain may w0 whole v) → Chain may w0 whole w'
shown-out may f xs i x s s' left used left' used' e w0 w w' whole run other h item step go =
    let next : seen_in (block_trace f (drop i xs) s) left ≡ seen_in (statement_trace f x s) left ++ [] =
    seen-block-at f xs i x s left used h item ∙ ap (λ k. seen_in (statement_trace f x s) left ++ rest_seen k (block_trace f (drop (i + 1) xs))) (sym run) ∙ ap (λ z. seen_in (statement_trace f x s) left ++ z) (rest-seen-not e s' left' (block_trace f (drop (i + 1) xs)) other) in
    go w' (rw (next, append-nil) step)

-- a store outside of blocks
abbrev pub bare : Store → Store
bare s = store_of s.memory s.scalars []

set-none : (i : ℕ) (v : ℤ) → set [] i v ≡ []
set-none i v = refl

effect-bare : (s : Store) (e : Effect) → effect_on (bare s) e ≡ bare (effect_on s e)
effect-bare s Nothing = refl
effect-bare s (Local number value) = ap (store_of s.memory s.scalars) (set-none number value)
effect-bare s (Scalar number value) = refl
effect-bare s (Word address value) = refl

after-bare : (s : Store) (es : List Entry) → after_all (bare s) es ≡ bare (after_all s es)
after-bare s [] = refl
after-bare s (e ∷ es) = ap (λ z. after_all z es) (effect-bare s e.effect) ∙ after-bare (effect_on s e.effect) es

abbrev pub bare_cut : Cut → Cut
bare_cut c = cut_of (bare c.store) c.left c.used c.ending

cut-bare : (t : Trace) (s : Store) (left used : ℕ) → cut t (bare s) left used ≡ bare_cut (cut t s left used)
unfolding cut
cut-bare t s left used = rw (after-bare s (take left t.entries)) refl

-- the locals of a block are gone after it
pub without-locals : (t : Trace) (s s' : Store) (left used left' used' : ℕ) (e : Finish) → cut_of s' left' used' e ≡ cut t s left used → cut_of (bare s') left' used' e ≡ cut t (bare s) left used
without-locals t s s' left used left' used' e run = ap bare_cut run ∙ sym (cut-bare t s left used)
