-- Rules: every nest of a file keeps the rules, with each of its blocks.
use Rattle.std.proofs.Common.{◌≡◌, refl, sym, subst, ℕ, zero, suc, ◌+◌, ◌-◌, ◌<◌, ◌^◌, List, [], ◌∷◌, slice_get, length, arith, Option, Some, true}
use Rattle.std.specs.List.{All}
use Rattle.std.proofs.lemmas.List.Elements.{All-nil, All-push}
use Rattle.nest_lang.specs.declared.tree.Stmt.{Stmt}
use Rattle.nest_lang.specs.declared.tree.Head.{Head}
use Rattle.nest_lang.specs.declared.tree.Loop.{Loop}
use Rattle.nest_lang.specs.Blocks.{loop_at}
use Rattle.nest_lang.specs.Places.{head_places}
use Rattle.nest_lang.specs.Rules.{loops_keep, IsWithin, BlockKeeps, HeadKeeps, LoopKeeps, NestKeeps}
use Rattle.nest_tokens.specs.declared.token.Name.{Name}
use Rattle.nest_grammar.specs.declared.version.Version.{Version}
use Rattle.nest_grammar.specs.declared.file.LoopNames.{LoopNames}
use Rattle.nest_grammar.specs.declared.file.NestUnit.{NestUnit}
use Rattle.nest_grammar.specs.Sights.{Sight}
use Rattle.nest_grammar.specs.Names.{Names}
use Rattle.nest_grammar.specs.Grammar.{IsHeading, IsBlock, IsLoops, IsUnit, IsUnits}
use Rattle.nest_grammar.specs.Grammar as grammar
use Rattle.nest_grammar.proofs.RuleAccessLaws.{block-numbered, heading-numbered}
use Rattle.nest_grammar.proofs.RulePlaceLaws.{AreWithin, within-inside, block-within, heading-within}
use Rattle.nest_grammar.proofs.RuleSizeLaws.{Left, skip-left, heading-left, block-left, loops-left, units-left}
use Rattle.nest_lang.proofs.BlockExampleLaws.{empty-keeps}

-- a sight from which on a text is short enough
abbrev pub Short : Sight → Type 0
Short s = Left s < 2 ^ 20

block-keeps : {scalars level : ℕ} {names : Names} {s t : Sight} {xs : List Stmt} {lets : List Name} → AreWithin scalars level names → Short s → IsBlock names s xs lets t → BlockKeeps scalars level xs
block-keeps {scalars} {level} all short b = let left = block-left b in record { accesses = block-numbered b; places = block-within scalars level all b; size = omega (arith, left, short) }

heading-keeps : {scalars level : ℕ} {names : Names} {s t : Sight} {h : Head} {n : Option Name} → AreWithin scalars level names → IsHeading names s h n t → HeadKeeps scalars (suc level) h
heading-keeps {scalars} {level} {h = h} all i =
    let around : level ≡ suc level - 1 = omega arith in
    record { accesses = heading-numbered i; places = subst (λ (n : ℕ). All (IsWithin scalars n) (head_places h)) around (heading-within scalars level all i) }

-- each of the loops from a level on
abbrev Levels : ℕ → ℕ → List Loop → Type 0
Levels scalars level ls = (k : ℕ) (l : Loop) → slice_get ls k ≡ Some l → LoopKeeps scalars (suc (level + k)) l

levels-cons : (scalars level : ℕ) (m : Loop) (ls : List Loop) → LoopKeeps scalars (suc level) m → Levels scalars (suc level) ls → Levels scalars level (m ∷ ls)
levels-cons scalars level m ls first more zero l e =
    let here : suc level ≡ suc (level + 0) = omega arith in
    let is : m ≡ l = cc in
    subst (λ (n : ℕ). LoopKeeps scalars n l) here (subst (LoopKeeps scalars (suc level)) is first)
levels-cons scalars level m ls first more (suc k) l e =
    let deeper : suc (suc level + k) ≡ suc (level + suc k) = omega arith in
    subst (λ (n : ℕ). LoopKeeps scalars n l) deeper (more k l e)

levels-none : (scalars level : ℕ) → Levels scalars level []
levels-none scalars level k l e = absurd (cc)

levels-keep : {scalars d level : ℕ} {names : Names} {s t : Sight} {ls : List Loop} {ns : List LoopNames} → AreWithin scalars level names → Short s → IsLoops d level names s ls ns t → Levels scalars level ls
levels-keep {scalars} all short (grammar.innermost {d} {level} {names} {h} {n} {pre} {lets} {s} {t} {u} i o b p c) =
    let head = heading-left i in
    let brace = skip-left t in
    let in_body = within-inside scalars level names n all in
    levels-cons scalars level (record { head = h; pre = pre; post = [] }) []
    (record { head = heading-keeps all i; pre = block-keeps in_body (omega (arith, head, brace, short)) b; post = empty-keeps scalars (suc level) }) (levels-none scalars (suc level))
levels-keep {scalars} all short (grammar.outer {d} {level} {names} {h} {n} {pre} {post} {lets} {post_lets} {ls} {ns} {s} {t} {u} {v} {w} i o b l q c) =
    let head = heading-left i in
    let brace = skip-left t in
    let before = block-left b in
    let inner = loops-left l in
    let in_body = within-inside scalars level names n all in
    levels-cons scalars level (record { head = h; pre = pre; post = post }) ls
    (record {
      head = heading-keeps all i;
      pre = block-keeps in_body (omega (arith, head, brace, short)) b;
      post = block-keeps in_body (omega (arith, head, brace, before, inner, short)) q;
    })
    (levels-keep in_body (omega (arith, head, brace, before, short)) l)

levels-each : (scalars : ℕ) (ls : List Loop) → Levels scalars 0 ls → (level : ℕ) (l : Loop) → loop_at ls level ≡ Some l → LoopKeeps scalars level l
levels-each scalars ls each zero l e = absurd (cc)
levels-each scalars ls each (suc k) l e =
    let from : suc (0 + k) ≡ suc k = omega arith in
    subst (λ (n : ℕ). LoopKeeps scalars n l) from (each k l e)

-- the innermost loop has no block behind
abbrev Innermost : List Loop → Type 0
Innermost ls = (l : Loop) → loop_at ls (length ls) ≡ Some l → l.post ≡ []

innermost-cons : (m : Loop) (ls : List Loop) → 0 < length ls → Innermost ls → Innermost (m ∷ ls)
innermost-cons m [] some inner = absurd (omega (arith, some))
innermost-cons m (k ∷ ls) some inner = λ l e. inner l e

innermost-alone : (m : Loop) → m.post ≡ [] → Innermost (m ∷ [])
innermost-alone m none = λ l e. let is : m ≡ l = cc in rw (sym is, none)

loops-some : {d level : ℕ} {names : Names} {s t : Sight} {ls : List Loop} {ns : List LoopNames} → IsLoops d level names s ls ns t → 0 < length ls
loops-some (grammar.innermost i o b p c) = omega arith
loops-some (grammar.outer i o b l q c) = omega arith

loops-innermost : {d level : ℕ} {names : Names} {s t : Sight} {ls : List Loop} {ns : List LoopNames} → IsLoops d level names s ls ns t → Innermost ls
loops-innermost (grammar.innermost {d} {level} {names} {h} {n} {pre} i o b p c) = innermost-alone (record { head = h; pre = pre; post = [] }) refl
loops-innermost (grammar.outer {d} {level} {names} {h} {n} {pre} {post} {ls = ls} i o b l q c) =
    innermost-cons (record { head = h; pre = pre; post = post }) ls (loops-some l) (loops-innermost l)

abbrev pub UnitKeeps : ℕ → NestUnit → Type 0
UnitKeeps scalars u = NestKeeps scalars u.nest.loops

unit-keeps : {scalars : ℕ} {v : Version} {names : Names} {s t : Sight} {u : NestUnit} → AreWithin scalars 0 names → Short s → loops_keep u.nest.loops ≡ true → IsUnit v names s u t → UnitKeeps scalars u
unit-keeps {scalars} all short keep (grammar.unit {ls = ls} i j) = record { loops_keep = keep; innermost = loops-innermost i; each = levels-each scalars ls (levels-keep all short i) }

-- where the loops of each unit keep the rules
pub units-keep-blocks : {scalars : ℕ} {names : Names} {v : Version} {s t : Sight} {us : List NestUnit} → AreWithin scalars 0 names → Short s
    → ((w : Version) (p q : Sight) (u : NestUnit) → IsUnit w names p u q → loops_keep u.nest.loops ≡ true) → IsUnits names v s us t → All (UnitKeeps scalars) us
units-keep-blocks {scalars} all short keep (grammar.one {n = n} i) = All-push (UnitKeeps scalars) [] n (All-nil (UnitKeeps scalars)) (unit-keeps all short (keep _ _ _ n i) i)
units-keep-blocks {scalars} all short keep (grammar.more {ns} {n} i l j) =
    let front = units-left i in
    All-push (UnitKeeps scalars) ns n (units-keep-blocks all short keep i) (unit-keeps all (omega (arith, front, short)) (keep _ _ _ n j) j)
