-- Loops within loops.
use Rattle.std.proofs.Common.{◌≡◌, ℕ, zero, suc, ◌+◌, ◌-◌, ◌<◌, List, [], ◌∷◌, length, take, refl, sym, ◌∙◌, ap, arith, add-one, Option, Some, None, Err, false, not, ◌&&◌, ◌==◌}
use Rattle.std.proofs.lemmas.List.{append-nil as append_nil}
use Rattle.nest_lang.specs.declared.tree.Stmt.{Stmt}
use Rattle.nest_lang.specs.declared.tree.Loop.{Loop}
use Rattle.nest_tokens.specs.declared.token.Name.{Name}
use Rattle.nest_grammar.specs.declared.fault.TextKind.TheVariants as kind
use Rattle.nest_grammar.specs.declared.opening.LoopKeyword.{LoopKeyword}
use Rattle.nest_grammar.specs.Sights.{Sight, here, stands}
use Rattle.nest_grammar.specs.Readings.{refused, unexpected}
use Rattle.nest_grammar.specs.Names.{Names}
use Rattle.nest_grammar.specs.Loops.{loop_keyword, loop_of, loops, inside, has_any}
use Rattle.std.proofs.Math.Seq.{take-append_seam}

-- a loop where a level is left
pub loops-below : (d level : ℕ) (names : Names) (w : LoopKeyword) (s : Sight) → 0 < d → loop_keyword (stands s) ≡ Some w → loops d level names s ≡ loop_of (loops (d - 1) (level + 1)) level names w s
unfolding loops
loops-below zero level names w s h e = absurd (omega arith)
loops-below (suc d) level names w s h e =
    let p : suc d - 1 ≡ d = omega arith in
    let q : level + 1 ≡ suc level = add-one level in
    rw (e, p, q) refl

-- a loop where no level is left
pub loops-none : (level : ℕ) (names : Names) (w : LoopKeyword) (s : Sight) → loop_keyword (stands s) ≡ Some w → loops 0 level names s ≡ Err (record { at = (here s).at; what = kind.Deep })
unfolding loops refused
loops-none level names w s e = rw e refl

-- no loop
pub loops-wrong : (d level : ℕ) (names : Names) (s : Sight) → loop_keyword (stands s) ≡ None → loops d level names s ≡ Err (record { at = (here s).at; what = unexpected (stands s) })
unfolding loops refused
loops-wrong zero level names s e = rw e refl
loops-wrong (suc d) level names s e = rw e refl

-- the name of a loop's turns stands behind the others
pub inside-kept : (names : Names) (level : ℕ) (counter : Option Name) → take (length names) (inside names level counter) ≡ names
inside-kept names level None = ap (take (length names)) (sym (append_nil names)) ∙ take-append_seam names []
inside-kept names level (Some n) = take-append_seam names _

-- an empty body
pub has_any-is : (pre : List Stmt) (ls : List Loop) → has_any pre ls ≡ not ((length pre == 0) && (length ls == 0))
has_any-is [] [] = refl
has_any-is (x ∷ xs) ls = let e : (suc (length xs) == 0) ≡ false = grind arith in rw e refl
has_any-is [] (l ∷ ls) = let e : (suc (length ls) == 0) ≡ false = grind arith in rw e refl

pub ruleset levels = (loops-below, loops-none, loops-wrong)

pub ruleset insides = (inside-kept)

pub ruleset bodies = (has_any-is)
