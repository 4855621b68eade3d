-- Whole nests, from the runs of their loops.
use Rattle.std.proofs.Common.{◌≡◌, ap, ◌∙◌, sym, subst, ℕ, ℤ, ◌<◌, ◌+◌, List, [], ◌∷◌, length, true, nat_le, arith}
use Rattle.nest_lang.specs.declared.tree.Loop.{Loop}
use Rattle.nest_lang.specs.declared.tree.Nest.{Nest}
use Rattle.nest_lang.specs.Rules.{loop_keeps, loops_keep}
use Rattle.nest_lang.specs.Stores.{Store, store_of}
use Rattle.nest_lang.specs.Lookups.{plain}
use Rattle.nest_lang.specs.Traces.{Finish, Cut, cut_of, cut}
use Rattle.nest_lang.specs.Loops.{loops_trace, outside}
use Rattle.nest_lang.specs.Runs.{nest_trace}
use Rattle.std.proofs.lemmas.Bool.{and_parts}
use Rattle.block_exec.specs.declared.nest_code.LoopCode.{LoopCode}
use Rattle.block_exec.specs.NestCodes.{AreLoopCodes}
use Rattle.plain_interp.specs.declared.loops.Level.{Level}
use Rattle.plain_interp.specs.Levels.{IsLevel}

-- what the rules of nests say of one with these loops
pub loops_keep-inner : (loops : List Loop) (first : Loop) (rest : List Loop) → loops ≡ first ∷ rest → loops_keep loops ≡ true → loop_keeps first rest ≡ true
unfolding loops_keep
loops_keep-inner loops first rest is h =
    let here : loops_keep (first ∷ rest) ≡ true = subst (λ (ls : List Loop). loops_keep ls ≡ true) is h in
    (and_parts (nat_le (length rest) 5) (loop_keeps first rest) here).1

pub loops_keep-depth : (loops : List Loop) (first : Loop) (rest : List Loop) → loops ≡ first ∷ rest → loops_keep loops ≡ true → length rest < 6
unfolding loops_keep
loops_keep-depth loops first rest is h =
    let here : loops_keep (first ∷ rest) ≡ true = subst (λ (ls : List Loop). loops_keep ls ≡ true) is h in
    let few : nat_le (length rest) 5 ≡ true = (and_parts (nat_le (length rest) 5) (loop_keeps first rest) here).0 in
    grind (arith, few)

pub loops_keep-some : (loops : List Loop) → length loops ≡ 0 → loops_keep loops ≡ true → ⊥
unfolding loops_keep
loops_keep-some [] none h = cc
loops_keep-some (l ∷ ls) none h = omega (arith, none)

-- the cut of a nest's trace, from that of its loops
pub cut-loops : (nest : Nest) (first : Loop) (rest : List Loop) (s t : Store) (k left used left' used' : ℕ) (e e' : Finish) → nest.loops ≡ first ∷ rest
    → cut_of t left' used' e ≡ cut (loops_trace plain k 1 (first ∷ rest) outside s) s left used → e' ≡ e
    → cut_of t left' used' e' ≡ cut (nest_trace k nest.loops s) s left used
unfolding nest_trace
cut-loops nest first rest s t k left used left' used' e e' is run ends_so =
    ap (λ (z : Finish). cut_of t left' used' z) ends_so ∙ run ∙ ap (λ (ls : List Loop). cut (loops_trace plain k 1 ls outside s) s left used) (sym is)

-- the words and the scalars that a run leaves are those that were lent to it
pub words-cut : (m m' scalars scalars' : List ℤ) (e : Finish) (left used : ℕ) (whole : Cut) → m ≡ m' → scalars ≡ scalars' → cut_of (store_of m' scalars' []) left used e ≡ whole → cut_of (store_of m scalars []) left used e ≡ whole
words-cut m m' scalars scalars' e left used whole same-words same_scalars run = rw (same-words, same_scalars) run

-- the outermost level of a nest that keeps the rules
pub nest-level : (loops : List Loop) (at : Level) → at.depth ≡ 0 → loops ≡ at.first.now ∷ at.rest.now → loops_keep loops ≡ true → AreLoopCodes (at.first.now ∷ at.rest.now) at.codes.now → IsLevel at
nest-level loops at outermost is keeps codes =
    let few = loops_keep-depth loops at.first.now at.rest.now is keeps in
    record { deep = omega (arith, outermost, few); keeps = loops_keep-inner loops at.first.now at.rest.now is keeps; codes = codes }

-- no code is code of any loops
pub no-codes : (loops : List Loop) → AreLoopCodes loops []
no-codes [] = tt
no-codes (l ∷ ls) = tt

pub codes-of : (loops : List Loop) (first : Loop) (rest : List Loop) (codes : List LoopCode) → loops ≡ first ∷ rest → AreLoopCodes loops codes → AreLoopCodes (first ∷ rest) codes
codes-of loops first rest codes is are = rw is at are
