use Rattle.std.proofs.Common.{◌≡◌, refl, ap, sym, [], ◌∷◌, ◌++◌, append-nil}
use Rattle.block_exec.specs.declared.code.Instruction.TheVariants as instruction
use Rattle.block_exec.proofs.ExpressionCodeLaws.{begins-same, code-counter, code-name}
use Rattle.block_exec.proofs.compile.push_name.Goals as goal

pub returns-in_ok-register-in-Counter-clause-code : goal.returns-in_ok-register-in-Counter-clause-code
returns-in_ok-register-in-Counter-clause-code c =
    let found = c.in_ok-register-in-Counter.ensures.register in
    rw (c.in-Counter.is, found.1) ([], sym (append-nil c.args.parts.now), code-counter _ c.in-Counter.number c.args.depth found.0 found.2)

pub returns-in_ok-push-in-Scalar : goal.returns-in_ok-push-in-Scalar
returns-in_ok-push-in-Scalar c = record {
  code = (instruction.Name c.args.depth c.args.place ∷ [], c.in_ok-push-in-Scalar.ensures.ok, code-name c.args.inputs.now c.args.place c.args.depth c.requires.depth);
  begins = (begins-same c.args.inputs.now, c.requires.few);
}
