use Rattle.std.proofs.Common.{rules, arith, sym, ap, ◌∙◌, ◌≡◌, ◌∷◌, refl, length}
use Rattle.plain_interp.proofs.NestLaws.{codes-of, loops_keep-some, nest-level, cut-loops, words-cut}
use Rattle.plain_interp.proofs.plain.run_words.Goals as goal

pub unreachable-requires : goal.unreachable-requires
unreachable-requires c =
    let none : length c.args.nest.now.loops ≡ 0 = ap length (sym c.as_slice.ensures) ∙ search rules in
    loops_keep-some c.args.nest.now.loops none c.requires.rules

pub run_loop-end-requires-clause-level : goal.run_loop-end-requires-clause-level
run_loop-end-requires-clause-level c =
    let loops : c.args.nest.now.loops ≡ c.in-Some.first.now ∷ c.in-Some.rest.now = search rules in
    nest-level c.args.nest.now.loops (record { first = c.in-Some.first; rest = c.in-Some.rest; depth = 0; codes = c.args.codes }) refl loops c.requires.rules (codes-of _ _ _ _ loops c.requires.codes)

pub returns-clause-ran : goal.returns-clause-ran
returns-clause-ran c = λ k more.
    let loops : c.args.nest.now.loops ≡ c.in-Some.first.now ∷ c.in-Some.rest.now = search rules in
    let from : c.new-port.result.memory.now ≡ c.args.memory.now = search rules in
    let ran = rw from at (c.run_loop-end.ensures.ran k more) in
    words-cut _ c.run_loop-end.new.run.port.now.memory.now _ c.run_loop-end.new.run.scalars.now _ _ _ _ (search rules) (search rules)
    (cut-loops c.args.nest.now c.in-Some.first.now c.in-Some.rest.now _ _ k _ _ _ _ _ _ loops ran.cut c.ending_of.ensures)
