use Rattle.std.proofs.Common.{◌≡◌, ◌∙◌, refl, ap, sym, ◌<◌, ◌+◌, suc, arith, ◌++◌, [], ◌∷◌, append-nil, append_assoc, FitsSigned, w64, to_z, of_z, rules}
use Rattle.std.proofs.lemmas.Int.{to_z-of_z}
use Rattle.block_exec.specs.declared.code.Instruction.TheVariants as instruction
use Rattle.block_exec.proofs.ExpressionCodeLaws.{code-more, code-number, code-load, code-neg, code-two}
use Rattle.block_exec.proofs.compile.+push_expression.Goals as goal

pub returns-in_ok-register-in-Number-clause-code : goal.returns-in_ok-register-in-Number-clause-code
returns-in_ok-register-in-Number-clause-code t c =
    let fits : FitsSigned w64 c.in-Number.number = search rules in
    let same : to_z w64 (of_z w64 c.in-Number.number) ≡ c.in-Number.number = to_z-of_z w64 c.in-Number.number fits in
    let found = c.in_ok-register-in-Number.ensures.register in
    let at = rw same at found.2 in
    rw (c.in-Number.is, found.1) ([], sym (append-nil c.args.parts.now), code-number _ c.in-Number.number c.args.depth found.0 at)

pub returns-in_ok-register-in-Var-clause-code : goal.returns-in_ok-register-in-Var-clause-code
returns-in_ok-register-in-Var-clause-code t c = rw c.in-Var.is c.in_ok-register-in-Var.ensures.code

pub returns-in_ok-push-in-Load-clause-code : goal.returns-in_ok-push-in-Load-clause-code
returns-in_ok-push-in-Load-clause-code t c =
    let got = c.in_ok-address-in-Load.ensures.code in
    let code = rw c.get.ensures at got.2 in
    let last = instruction.Load c.in-Load.access c.args.depth c.in_ok-address-in-Load.address ∷ [] in
    rw c.in-Load.is (got.0 ++ last, c.in_ok-push-in-Load.ensures.ok ∙ ap (λ z. z ++ last) got.1 ∙ append_assoc c.args.parts.now got.0 last, code-load _ c.in-Load.access _ c.args.depth got.0 c.in_ok-address-in-Load.address c.requires.depth code)

pub returns-in_ok-push-in-Neg-clause-code : goal.returns-in_ok-push-in-Neg-clause-code
returns-in_ok-push-in-Neg-clause-code t c =
    let got = c.in_ok-value-in-Neg.ensures.code in
    let code = rw c.get-in-Neg.ensures at got.2 in
    let last = instruction.Neg c.args.depth c.in_ok-value-in-Neg.value ∷ [] in
    rw c.in-Neg.is (got.0 ++ last, c.in_ok-push-in-Neg.ensures.ok ∙ ap (λ z. z ++ last) got.1 ∙ append_assoc c.args.parts.now got.0 last, code-neg _ _ c.args.depth got.0 c.in_ok-value-in-Neg.value c.requires.depth code)

pub returns-in_ok-push-in-Two-clause-code : goal.returns-in_ok-push-in-Two-clause-code
returns-in_ok-push-in-Two-clause-code t c =
    let a = c.in_ok-left-in-Two.ensures.code in
    let b = c.in_ok-right-in-Two.ensures.code in
    let early = rw c.get-in-Two.ensures at a.2 in
    let first = code-more _ c.push_expression-in-Two-2.new.inputs _ c.args.depth a.0 c.in_ok-left-in-Two.left (c.in_ok-right-in-Two.ensures.begins.0) early in
    let deeper : c.args.depth + 1 ≡ suc c.args.depth = omega arith in
    let second = rw (c.get-in-Two-2.ensures, deeper) at b.2 in
    let last = c.operation.result ∷ [] in
    rw c.in-Two.is (a.0 ++ b.0 ++ last, c.in_ok-push-in-Two.ensures.ok ∙ ap (λ z. z ++ last) (b.1 ∙ ap (λ z. z ++ b.0) a.1) ∙ ap (λ z. z ++ last) (append_assoc c.args.parts.now a.0 b.0) ∙ append_assoc c.args.parts.now (a.0 ++ b.0) last, code-two _ c.in-Two.op _ _ c.args.depth a.0 b.0 c.in_ok-left-in-Two.left c.in_ok-right-in-Two.right c.operation.result c.requires.depth c.operation.ensures first second)
