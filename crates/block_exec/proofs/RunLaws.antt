-- How runs of blocks go on, in code's words.
use Rattle.std.proofs.Common.{◌≡◌, refl, ap, ◌∙◌, ◌+◌, ◌≤◌, List, ℤ, Result, Ok, Err, append-nil, arith}
use Rattle.nest_lang.specs.Lookups.{Expectation}
use Rattle.nest_lang.specs.Traces.{Done}
use Rattle.nest_lang.proofs.CutLaws.{cut-step, cut-end, seen-step, seen-ends}
use Rattle.nest_lang.proofs.StatementLaws.{statements, run-next, run-out, block-end, seen-block-end}
use Rattle.block_exec.proofs.ChainLaws.{chain-append, chain-one}
use Rattle.block_exec.specs.declared.context.Run.{Run}
use Rattle.block_exec.specs.declared.halt.Halt.{Halt}
use Rattle.block_exec.specs.declared.halt.Cut.{Cut}
use Rattle.block_exec.specs.declared.halt.Cut.TheVariants as cut
use Rattle.block_exec.specs.Halts.{finish_of}
use Rattle.block_exec.specs.Runs.{Kept}

-- an error is not done
pub finish-err : (e : Cut) (h : Halt) → finish_of (Err e) h ≡ Done → ⊥
finish-err cut.Halted h e = grind arith
finish-err cut.Limited h e = grind arith

pub kept-trans : {P W B : Type 0} (expects : P → Expectation) (basis : P → B) (a b c : Run P W) → Kept expects basis a b → Kept expects basis b c → Kept expects basis a c
kept-trans expects basis a b c k l = record {
  expects_same = l.expects_same ∙ k.expects_same;
  basis_same = l.basis_same ∙ k.basis_same;
  scalars_same = l.scalars_same ∙ k.scalars_same;
  port_same = l.port_same ∙ k.port_same;
  watch_same = l.watch_same ∙ k.watch_same;
  count = l.count ∙ k.count;
  steps = l.steps ∙ k.steps;
  fewer = omega (arith, l.fewer, k.fewer);
  quiet = λ plain trap. l.quiet (ap (λ x. x.verifies) k.expects_same ∙ plain) (k.quiet plain trap);
}

pub ruleset steps = (statements, cut-step, cut-end, seen-step, seen-ends, chain-append, chain-one, append-nil)

pub ruleset joins = (run-next, run-out, block-end, seen-block-end, kept-trans)
