-- How a nest begins: the step of its head, and then its turns.
use Rattle.std.proofs.Common.{◌≡◌, refl, ◌∙◌, sym, subst, ℕ, zero, suc, ◌+◌, ◌-◌, ◌<◌, min, ℤ, List, Bool, true, false, Option, Some, None, Result, Ok, Err, arith, length}
use Rattle.std.specs.Prelude.{nat_le, if◌then◌else◌}
use Rattle.nest_lang.specs.declared.tree.Expr.{Expr}
use Rattle.nest_lang.specs.declared.tree.Head.TheVariants.{For}
use Rattle.nest_lang.specs.declared.state.Outer.{Outer}
use Rattle.nest_lang.specs.Stores.{Store}
use Rattle.nest_lang.specs.Traces.{Observation, Halt, Over, Trace, Finish, Halted, Limited, cut, cut_of, in_turn, finish_of}
use Rattle.nest_lang.specs.Expressions.{Frame, told}
use Rattle.nest_lang.specs.Heads.{Yield, Bounds, Tested, Headed, then_head, head_of, head_step}
use Rattle.nest_lang.specs.Turns.{first_position}
use Rattle.nest_lang.proofs.CutLaws.{stepped}
use Rattle.nest_lang.proofs.HeadLaws.{head-for}
use Rattle.nest_lang.proofs.NeverOver.{GoesOn}
use Rattle.block_exec.specs.Moments.{where_left}
use Rattle.journeys.specs.Settings.{entry_by}

pub same-err : (r : Result Outer Finish) (f h : Finish) → r ≡ Err f → r ≡ Err h → f ≡ h
same-err r f h one other = let e = sym one ∙ other in cc

pub same-ok : (r : Result Outer Finish) (o p : Outer) → r ≡ Ok o → r ≡ Ok p → o ≡ p
same-ok r o p one other = let e = sym one ∙ other in cc

pub not-both : (r : Result Outer Finish) (o : Outer) (f : Finish) → r ≡ Ok o → r ≡ Err f → ⊥
not-both r o f one other = let e = sym one ∙ other in cc

-- the head's step is due and none is left, or it halts
pub entry-stops : (before seen : List Observation) (value : Result Yield Halt) (go : Yield → List (Store → Trace)) (s : Store) (left used : ℕ) (finish : Finish) → entry_by (where_left left value) ≡ Err finish
    → cut_of s (left - 1) (used + min 1 left) finish ≡ stepped (head_step before seen value go) s left used
entry-stops before seen (Err halt) go s zero used finish is =
    let same : Limited ≡ finish = same-err (Err Limited) Limited finish refl is in let none : used + min 1 0 ≡ used = omega arith in rw (none, ← same) refl
entry-stops before seen (Ok y) go s zero used finish is =
    let same : Limited ≡ finish = same-err (Err Limited) Limited finish refl is in let none : used + min 1 0 ≡ used = omega arith in rw (none, ← same) refl
entry-stops before seen (Err halt) go s (suc n) used finish is =
    let same : Halted halt ≡ finish = same-err (Err (Halted halt)) (Halted halt) finish refl is in
    let one : used + min 1 (suc n) ≡ used + 1 = omega arith in
    let rest : suc n - 1 ≡ n = omega arith in
    rw (one, rest, ← same) refl
entry-stops before seen (Ok y) go s (suc n) used finish is = absurd (cc)

-- else what it yields is run
pub record Yields (value : Result Yield Halt) (o : Outer) (left : ℕ) : Type 0 where
  pub yield : Yield
  pub is : value ≡ Ok yield
  pub at : first_position yield ≡ o
  pub some : 0 < left

pub entry-goes : (value : Result Yield Halt) (left : ℕ) (o : Outer) → entry_by (where_left left value) ≡ Ok o → Yields value o left
entry-goes (Err halt) zero o is = absurd (cc)
entry-goes (Ok y) zero o is = absurd (cc)
entry-goes (Err halt) (suc n) o is = absurd (cc)
entry-goes (Ok y) (suc n) o is = record { yield = y; is = refl; at = same-ok (Ok (first_position y)) (first_position y) o refl is; some = omega arith }

pub stepped-goes : (before seen : List Observation) (value : Result Yield Halt) (yield : Yield) (go : Yield → List (Store → Trace)) (s : Store) (left used : ℕ) → value ≡ Ok yield → 0 < left
    → stepped (head_step before seen value go) s left used ≡ cut (in_turn (go yield) s) s (left - 1) (used + min 1 left)
stepped-goes before seen (Err halt) yield go s left used is some = absurd (cc)
stepped-goes before seen (Ok y) yield go s zero used is some = absurd (omega (arith, some))
stepped-goes before seen (Ok y) yield go s (suc n) used is some =
    let same : y ≡ yield = cc in
    let one : used + min 1 (suc n) ≡ used + 1 = omega arith in
    let rest : suc n - 1 ≡ n = omega arith in
    rw (one, rest, same) refl

-- the head of a `for` yields bounds
abbrev OnlyBounds : Result Yield Halt → Type 0
OnlyBounds (Ok (Bounds lower trip)) = Unit {0}
OnlyBounds (Ok (Tested holds)) = ⊥
OnlyBounds (Err halt) = Unit {0}

then-bounds : (seen : List Observation) (value : Result ℤ Halt) (go : ℤ → Headed) → ((v : ℤ) → OnlyBounds (go v).value) → OnlyBounds (then_head seen value go).value
then-bounds seen (Err halt) go each = tt
then-bounds seen (Ok v) go each = each v

head-bounds : (f : Frame) (lower upper : Expr) (stride : ℤ) (s : Store) → OnlyBounds (head_of f (For lower upper stride) s).value
head-bounds f lower upper stride s =
    subst (λ (h : Headed). OnlyBounds h.value) (sym (head-for f lower upper stride s))
    (then-bounds (told f s lower).seen (told f s lower).value _ (λ from. then-bounds (told f s upper).seen (told f s upper).value _ (λ to. tt)))

pub yields-bounds : (f : Frame) (lower upper : Expr) (stride : ℤ) (s : Store) (yield : Yield) → (head_of f (For lower upper stride) s).value ≡ Ok yield → (lower : ℤ) × (trip : ℕ) × (yield ≡ Bounds lower trip)
yields-bounds f lower upper stride s (Bounds from trip) is = (from, trip, refl)
yields-bounds f lower upper stride s (Tested holds) is = absurd (subst OnlyBounds is (head-bounds f lower upper stride s))

-- ---- nothing but turns of the outermost loop ends for want of a turn

goes-not : (halt : Option Halt) → GoesOn halt → finish_of halt ≡ Halted Over → ⊥
goes-not None goes is = cc
goes-not (Some halt) goes is = let same : halt ≡ Over = cc in subst (λ (h : Halt). GoesOn (Some h)) same goes

pub never-over : (t : Trace) (s : Store) (left used : ℕ) → GoesOn t.halt → (cut t s left used).ending ≡ Halted Over → ⊥
unfolding cut
never-over t s left used goes is = by (nat_le (length t.entries) left) is
  where
    by : (b : Bool) → (if b then finish_of t.halt else Limited) ≡ Halted Over → ⊥
    by true h = goes-not t.halt goes h
    by false h = cc
