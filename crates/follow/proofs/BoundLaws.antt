-- A bound on the turns of each inner `while` that is above the steps left is not seen.
use Rattle.std.proofs.Common.{◌≡◌, refl, ap, ◌∙◌, ℕ, ℤ, zero, suc, ◌<◌, ◌+◌, ◌≤◌, unsigned_abs, inl, true, false, List, [], ◌∷◌, Option, arith}
use Rattle.std.specs.Prelude.{if◌then◌else◌, ◌&&◌, None, Some}
use Rattle.nest_lang.specs.declared.tree.Head.{Head}
use Rattle.nest_lang.specs.declared.tree.Head.TheVariants.{For, While}
use Rattle.nest_lang.specs.declared.tree.Loop.{Loop}
use Rattle.nest_lang.specs.declared.tree.Part.TheVariants as part
use Rattle.nest_lang.specs.declared.state.Outer.{Outer}
use Rattle.nest_lang.specs.Stores.{Store}
use Rattle.nest_lang.specs.Lookups.{Expectation, plain}
use Rattle.nest_lang.specs.Traces.{Observation, Trace, in_turn, Cut, cut, seen_in}
use Rattle.nest_lang.specs.Expressions.{Frame}
use Rattle.nest_lang.specs.Statements.{instance_trace}
use Rattle.nest_lang.specs.Heads.{Yield, Bounds, Tested}
use Rattle.nest_lang.specs.Loops.{Around, frame_of, turn_trace}
use Rattle.nest_lang.proofs.AgreementLaws.{Alike, AlikeOn, alike-and_then, alike-two, alike-headed, alike-less, alike-loops, cut-alike, seen-alike}
use Rattle.nest_lang.specs.Turns.{counted_turns, turn_or_over, tested_turns, number_left, turns_by, turns_trace}
use Rattle.orders.specs.Chains.{State}
use Rattle.follow.proofs.Undeviated.{is_done, undeviated}
use Rattle.follow.specs.Forecasts.{same_all, all_agree, Forecast}

around-alike : (m : ℕ) (pre post f g : Store → Trace) → AlikeOn m f g → AlikeOn m (in_turn (pre ∷ f ∷ post ∷ [])) (in_turn (pre ∷ g ∷ post ∷ []))
around-alike m pre post f g inner s =
    alike-and_then m s (pre s) (pre s) (in_turn (f ∷ post ∷ [])) (in_turn (g ∷ post ∷ [])) (inl refl) (alike-two m f g post post inner (λ t. inl refl))

turn-alike : (m : ℕ) (x : Expectation) (level : ℕ) (l : Loop) (f g : Around → Store → Trace) (a : Around) → AlikeOn m (f a) (g a) → AlikeOn m (turn_trace x level l f a) (turn_trace x level l g a)
unfolding turn_trace
turn-alike m x level l f g a inner s =
    around-alike m (instance_trace (frame_of x part.Pre level a) l.pre) (instance_trace (frame_of x part.Post level a) l.post) (f a) (g a) inner s

counted-alike : (m c n t : ℕ) (f g : ℕ → Store → Trace) → ((t : ℕ) → AlikeOn m (f t) (g t)) → AlikeOn m (counted_turns c n t f) (counted_turns c n t g)
counted-alike m zero n t f g each s = inl refl
counted-alike m (suc c) zero t f g each s = inl refl
counted-alike m (suc c) (suc n) t f g each s = alike-and_then m s (f t s) (g t s) (counted_turns c n (t + 1) f) (counted_turns c n (t + 1) g) (each t s) (counted-alike m c n (t + 1) f g each)

turn_or_over-alike : (m : ℕ) (f g h k : Store → Trace) → AlikeOn m f g → AlikeOn m h k → (y : Yield) → AlikeOn m (in_turn (turn_or_over f h y)) (in_turn (turn_or_over g k y))
turn_or_over-alike m f g h k a b (Bounds lower trip) s = inl refl
turn_or_over-alike m f g h k a b (Tested true) s = alike-two m f g h k a b s
turn_or_over-alike m f g h k a b (Tested false) s = inl refl

tested-alike : (m c t : ℕ) (frame : ℕ → Frame) (head : Head) (f g : ℕ → Store → Trace) → ((t : ℕ) → AlikeOn m (f t) (g t)) → AlikeOn m (tested_turns c t frame head f) (tested_turns c t frame head g)
tested-alike m zero t frame head f g each s = inl refl
tested-alike m (suc c) t frame head f g each s =
    alike-less m (suc m) _ _ (omega arith)
    (alike-headed m (frame t) head _ _ s (turn_or_over-alike m (f t) (g t) (tested_turns c (t + 1) frame head f) (tested_turns c (t + 1) frame head g) (each t) (tested-alike m c (t + 1) frame head f g each)))

by-alike : (h : Head) (m : ℕ) (x : Expectation) (head : Head) (f g : Around → Store → Trace) (o : Outer) (c : ℕ) → ((a : Around) → AlikeOn m (f a) (g a)) → AlikeOn m (turns_by h x head f o c) (turns_by h x head g o c)
by-alike (For lower upper stride) m x head f g o c each s = counted-alike m c (number_left o.left) (unsigned_abs o.next) _ _ (λ t. each _) s
by-alike (While condition) m x head f g o c each s = tested-alike m c (unsigned_abs o.next) _ head _ _ (λ t. each _) s

pub turns-alike : (m k j : ℕ) (x : Expectation) (loops : List Loop) (o : Outer) (c : ℕ) → m ≤ k → m ≤ j → AlikeOn m (turns_trace x k loops o c) (turns_trace x j loops o c)
unfolding turns_trace
turns-alike m k j x [] o c h i s = inl refl
turns-alike m k j x (l ∷ ls) o c h i s = by-alike l.head m x l.head _ _ o c (λ b. turn-alike m x 1 l _ _ b (alike-loops m k j x 2 ls b h i)) s

pub undeviated-bound : (p : Forecast) (closing : List ℤ) (k j : ℕ) (loops : List Loop) (o : Outer) (c : ℕ) (s : Store) (left : ℕ) → left < k → left < j
    → undeviated p closing (turns_trace plain k loops o c s) s left ≡ undeviated p closing (turns_trace plain j loops o c s) s left
undeviated-bound p closing k j loops o c s left h i =
    let a : Alike (left + 1) (turns_trace plain k loops o c s) (turns_trace plain j loops o c s) = turns-alike (left + 1) k j plain loops o c (omega (arith, h)) (omega (arith, i)) s in
    ap (λ (os : List Observation). of os (cut (turns_trace plain k loops o c s) s left 0)) (seen-alike (turns_trace plain k loops o c s) (turns_trace plain j loops o c s) left a)
    ∙ ap (of (seen_in (turns_trace plain j loops o c s) left)) (cut-alike (turns_trace plain k loops o c s) (turns_trace plain j loops o c s) s left 0 a)
  where
    of : List Observation → Cut → Option State
    of os u = if all_agree p os && (is_done u.ending && same_all u.store.scalars closing) then Some (record { memory = u.store.memory; scalars = u.store.scalars; steps = u.left }) else None
