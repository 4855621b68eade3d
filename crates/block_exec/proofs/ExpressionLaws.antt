-- What evaluations rest on.
use Rattle.std.proofs.Common.{◌≡◌, refl, ap, sym, ◌∙◌, append-nil, List, [], replicate, get_or, ℕ, zero, suc, ℤ, pos, Ok, Result}
use Rattle.nest_lang.specs.declared.tree.Expr.{Expr}
use Rattle.nest_lang.specs.declared.tree.Expr.TheVariants.{Two}
use Rattle.nest_lang.specs.declared.tree.Expr.TheFolds.{fold-Expr}
use Rattle.nest_lang.specs.declared.tree.Expr.TheOpen.{Expr-F}
use Rattle.nest_lang.specs.declared.tree.Place.TheVariants.{Scalar, Counter, Local}
use Rattle.nest_lang.specs.declared.observe.Stop.{Stop}
use Rattle.nest_lang.proofs.HeadLaws.{heads}
use Rattle.nest_lang.specs.declared.tree.Op.{Op}
use Rattle.nest_lang.specs.Lookups.{Expectation}
use Rattle.nest_lang.specs.Expressions.{Frame, Told, telling, told_by, expression_level, or_trapped}
use Rattle.nest_lang.specs.Values.{apply_of}
use Rattle.nest_lang.specs.Traces.{Halt}
use Rattle.nest_lang.proofs.ExpressionLaws.{tells, told_by-two}
use Rattle.block_exec.proofs.ChainLaws.{chain-append, chain-one}
use Rattle.block_exec.specs.declared.context.Run.{Run}
use Rattle.block_exec.specs.declared.site.Site.{Site}
use Rattle.block_exec.specs.Runs.{Looked, told_at}

-- what an expression tells is the same where the port was looked at alone
pub told-again : {P W B : Type 0} (memory : P → List ℤ) (expects : P → Expectation) (basis : P → B) (site : Site) (a b : Run P W) (e : Expr) → Looked memory expects basis a b → told_at memory expects site b e ≡ told_at memory expects site a e
told-again memory expects basis site a b e looked =
    let scalars = ap (λ r. r.scalars.now) looked.rest in
    let locals = ap (λ r. r.locals) looked.rest in
    rw (scalars, locals, looked.memory_same, looked.expects_same) refl

-- the value of an operator
pub told-two : {P W B : Type 0} (memory : P → List ℤ) (expects : P → Expectation) (basis : P → B) (site : Site) (a b : Run P W) (op : Op) (left right : Expr) (x y : ℤ) (v : Result ℤ Halt) → Looked memory expects basis a b → Ok x ≡ (told_at memory expects site a left).value → Ok y ≡ (told_at memory expects site b right).value → v ≡ or_trapped (apply_of op x y) → v ≡ (told_at memory expects site a (Two op left right)).value
told-two memory expects basis site a b op left right x y v looked l r is =
    let again : Ok y ≡ (told_at memory expects site a right).value = r ∙ ap (λ t. t.value) (told-again memory expects basis site a b right looked) in
    rw (told_by-two, sym l, sym again) is

pub ruleset evaluates = (tells, chain-append, chain-one, append-nil)

pub ruleset yields = (heads, chain-append, chain-one, append-nil)

get_or-zeros : (k n : ℕ) → get_or (replicate k (pos 0)) n (pos 0) ≡ pos 0
get_or-zeros zero n = refl
get_or-zeros (suc k) zero = refl
get_or-zeros (suc k) (suc n) = get_or-zeros k n

level-zeros : (f : Frame) (scalars : List ℤ) (find : ℕ → ℤ → Result ℤ Stop) (k : ℕ) (x : Expr-F Told) → expression_level f scalars (replicate k (pos 0)) find x ≡ expression_level f scalars [] find x
level-zeros f scalars find k (Expr-F.Number n) = refl
level-zeros f scalars find k (Expr-F.Var (Scalar n)) = refl
level-zeros f scalars find k (Expr-F.Var (Counter n)) = refl
level-zeros f scalars find k (Expr-F.Var (Local n)) = ap (λ z. telling [] (Ok z)) (get_or-zeros k n)
level-zeros f scalars find k (Expr-F.Load access a) = refl
level-zeros f scalars find k (Expr-F.Neg a) = refl
level-zeros f scalars find k (Expr-F.Two op a b) = refl

-- an expression tells the same at locals that are all 0 as at none
pub told-zeros : (f : Frame) (scalars : List ℤ) (find : ℕ → ℤ → Result ℤ Stop) (k : ℕ) (e : Expr) → told_by f scalars (replicate k (pos 0)) find e ≡ told_by f scalars [] find e
unfolding told_by
told-zeros f scalars find k e = λ i. fold-Expr Told (λ x. level-zeros f scalars find k x i) e
