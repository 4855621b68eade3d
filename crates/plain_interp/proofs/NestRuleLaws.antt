-- What the rules of nests say of a loop and of what is inside of it.
use Rattle.std.proofs.Common.{◌≡◌, refl, subst, ◌<◌, List, [], ◌∷◌, length, Bool, true, false, ◌&&◌, arith}
use Rattle.std.proofs.lemmas.Bool.{and_parts}
use Rattle.nest_lang.specs.declared.tree.Loop.{Loop}
use Rattle.nest_lang.specs.declared.tree.Stmt.{Stmt}
use Rattle.nest_lang.specs.Rules.{strides, has_statements, loop_keeps}

pub loop_keeps-strides : (l : Loop) (ls : List Loop) → loop_keeps l ls ≡ true → strides l.head ≡ true
loop_keeps-strides l [] h = (and_parts (strides l.head) (has_statements l.pre) h).0
loop_keeps-strides l (m ∷ ls) h = (and_parts (strides l.head) (loop_keeps m ls) h).0

pub loop_keeps-inner : (l m : Loop) (rest ls : List Loop) → rest ≡ m ∷ ls → loop_keeps l rest ≡ true → loop_keeps m ls ≡ true
loop_keeps-inner l m rest ls e h =
    let here : loop_keeps l (m ∷ ls) ≡ true = subst (λ (rs : List Loop). loop_keeps l rs ≡ true) e h in
    (and_parts (strides l.head) (loop_keeps m ls) here).1

some-statement : (ss : List Stmt) → has_statements ss ≡ true → 0 < length ss
some-statement [] h = absurd (cc)
some-statement (s ∷ ss) h = omega arith

pub loop_keeps-body : (l : Loop) (rest : List Loop) → length rest ≡ 0 → loop_keeps l rest ≡ true → 0 < length l.pre
loop_keeps-body l [] e h = some-statement l.pre (and_parts (strides l.head) (has_statements l.pre) h).1
loop_keeps-body l (m ∷ ls) e h = absurd (omega (arith, e))
