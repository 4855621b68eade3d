-- Positions of the outermost loop.
use Rattle.std.proofs.Common.{◌≡◌, refl, sym, subst, ℕ, ℤ, pos, ◌<◌, ◌+◌, FitsSigned, w64, List, [], ◌∷◌, Option, Some, None, Result, Err, slice_get, true, arith}
use Rattle.nest_lang.specs.declared.tree.Expr.{Expr}
use Rattle.nest_lang.specs.declared.tree.Head.{Head}
use Rattle.nest_lang.specs.declared.tree.Head.TheVariants.{For, While}
use Rattle.nest_lang.specs.declared.tree.Loop.{Loop}
use Rattle.nest_lang.specs.declared.state.Outer.{Outer}
use Rattle.nest_lang.specs.Rules.{strides, loops_keep}
use Rattle.nest_lang.specs.Values.{turn_value}
use Rattle.nest_lang.specs.declared.tree.Part.TheVariants as part
use Rattle.nest_lang.specs.declared.tree.Trap.{Trap}
use Rattle.nest_lang.specs.Lookups.{Expectation}
use Rattle.nest_lang.specs.Traces.{Observation, Halt, Trapped}
use Rattle.nest_lang.specs.Heads.{Yield}
use Rattle.nest_lang.specs.Loops.{outside, frame_of}
use Rattle.block_exec.specs.declared.halt.Halt as code
use Rattle.block_exec.specs.Moments.{Moment, Evaluated}
use Rattle.plain_interp.specs.declared.outer.Entered.{Entered}
use Rattle.plain_interp.specs.declared.outer.Entered.TheVariants as entered
use Rattle.plain_interp.specs.Entries.{IsEntryBy, IsEntryOf, IsEntry}
use Rattle.block_exec.specs.declared.head.Bounds.{Bounds}
use Rattle.block_exec.specs.Halts.{TurnsFit, halt_by}
use Rattle.nest_lang.specs.Turns.{IsPosition, IsPositionIn}
use Rattle.plain_interp.proofs.NestRuleLaws.{loop_keeps-strides}
use Rattle.plain_interp.proofs.NestLaws.{loops_keep-inner}

-- the outermost loop of a nest that keeps the rules
pub loops_keep-found : (loops : List Loop) → None ≡ slice_get loops 0 → loops_keep loops ≡ true → ⊥
unfolding loops_keep
loops_keep-found [] none h = cc
loops_keep-found (l ∷ ls) none h = cc

pub loops_keep-strides : (loops : List Loop) (first : Loop) → Some first ≡ slice_get loops 0 → loops_keep loops ≡ true → strides first.head ≡ true
loops_keep-strides [] first found h = absurd (cc)
loops_keep-strides (l ∷ ls) first found h =
    let same : l ≡ first = cc in
    subst (λ (z : Loop). strides z.head ≡ true) same (loop_keeps-strides l ls (loops_keep-inner (l ∷ ls) l ls refl h))

-- where its first turn is
position-first : (h : Head) (lower upper : Expr) (stride : ℤ) (b : Bounds) → h ≡ For lower upper stride → b.stride ≡ stride → TurnsFit b → IsPosition h (record { lower = b.lower; next = pos 0; left = Some b.trip })
position-first h lower upper stride b is same fit =
    let turns : (t : ℕ) → t < b.trip → FitsSigned w64 (turn_value b.lower stride t) = subst (λ (z : ℤ). (t : ℕ) → t < b.trip → FitsSigned w64 (turn_value b.lower z t)) same fit in
    let position : IsPosition (For lower upper stride) (record { lower = b.lower; next = pos 0; left = Some b.trip }) =
    (0, b.trip, refl, refl, λ i few. let e : 0 + i ≡ i = omega arith in rw e (turns i few)) in
    subst (λ (z : Head). IsPosition z (record { lower = b.lower; next = pos 0; left = Some b.trip })) (sym is) position

pub position-entered : (loops : List Loop) (first : Loop) (lower upper : Expr) (stride : ℤ) (b : Bounds) (o : Outer) → Some first ≡ slice_get loops 0 → first.head ≡ For lower upper stride → b.stride ≡ stride → TurnsFit b
    → record { lower = b.lower; next = pos 0; left = Some b.trip } ≡ o → IsPositionIn loops o
position-entered [] first lower upper stride b o found is same fit at = absurd (cc)
position-entered (l ∷ ls) first lower upper stride b o found is same fit at =
    let here : first ≡ l = cc in
    subst (λ (z : Outer). IsPosition l.head z) at
    (subst (λ (z : Loop). IsPosition z.head (record { lower = b.lower; next = pos 0; left = Some b.trip })) here (position-first first.head lower upper stride b is same fit))

-- an entry by a head that was evaluated
entry-of : {W : Type 0} (may : W → Observation → W → Type 0) (h : Head) (lower upper : Expr) (stride : ℤ) (x : Expectation) (a b : Moment W) (yields : Option (Result Yield Halt)) (e : Entered) → h ≡ For lower upper stride
    → Evaluated may (frame_of x part.Head 1 outside) h a b yields → IsEntryBy yields e → IsEntryOf may h x a b e
entry-of {W} may h lower upper stride x a b yields e is ev by =
    let E : Head → Type 0 = λ z. Evaluated may (frame_of x part.Head 1 outside) z a b yields in
    let R : Head → Type 0 = λ z. IsEntryOf may z x a b e in
    subst R (sym is) (yields, subst E is ev, by)

pub entry-for : {W : Type 0} (may : W → Observation → W → Type 0) (loops : List Loop) (first : Loop) (lower upper : Expr) (stride : ℤ) (x : Expectation) (a b : Moment W) (yields : Option (Result Yield Halt)) (e : Entered) → Some first ≡ slice_get loops 0 → first.head ≡ For lower upper stride
    → Evaluated may (frame_of x part.Head 1 outside) first.head a b yields → IsEntryBy yields e → IsEntry may loops x a b e
entry-for may [] first lower upper stride x a b yields e found is ev by = absurd (cc)
entry-for may (l ∷ ls) first lower upper stride x a b yields e found is ev by =
    let here : first ≡ l = cc in
    subst (λ (z : Loop). IsEntryOf may z.head x a b e) here (entry-of may first.head lower upper stride x a b yields e is ev by)

pub entered-trapped : (h : code.Halt) (trap : Trap) → halt_by h ≡ Trapped trap → IsEntryBy (Some (Err (halt_by h))) (entered.Trapped trap)
entered-trapped h trap is = rw is refl

-- the outermost loop of a nest stands where the nest does
pub position-outermost : (loops : List Loop) (first : Loop) (rest : List Loop) (o : Outer) → loops ≡ first ∷ rest → IsPositionIn loops o → IsPosition first.head o
position-outermost loops first rest o is p = subst (λ (ls : List Loop). IsPositionIn ls o) is p

pub position-nest : (loops : List Loop) (first : Loop) (rest : List Loop) (o : Outer) → loops ≡ first ∷ rest → IsPosition first.head o → IsPositionIn loops o
position-nest loops first rest o is p = subst (λ (ls : List Loop). IsPositionIn ls o) (sym is) p

-- a position has a number
position-number : (h : Head) (o : Outer) → IsPosition h o → (t : ℕ) × (o.next ≡ pos t)
position-number (For lower upper stride) o p = (p.0, p.2)
position-number (While condition) o p = (p.0, p.1)

pub position-next : (loops : List Loop) (o : Outer) → IsPositionIn loops o → (t : ℕ) × (o.next ≡ pos t)
position-next [] o p = absurd p
position-next (l ∷ ls) o p = position-number l.head o p
