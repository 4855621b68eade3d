use Rattle.std.proofs.Common.{rules, arith, Err}
use Rattle.nest_grammar.specs.declared.file.Item.{Item}
use Rattle.nest_grammar.specs.declared.opening.ItemKeyword.TheVariants.{Ramp as RampWord}
use Rattle.nest_grammar.specs.Contents.{item_of}
use Rattle.nest_text.specs.Answers.{Gives}
use Rattle.nest_text.proofs.ProductionLaws.{ramp-copies, ramp-errs}
use Rattle.nest_text.proofs.reader.Reader.ramp.Goals as goal

pub returns-in_err-growth : goal.returns-in_err-growth
returns-in_err-growth c =
    let q : Gives {A = Item} (Err c.in_err-growth.field-0.0) c.growth.new.self (item_of c.args.words RampWord c.args.self.now) = ramp-errs c.args.words _ _ _ _ _ _ _ _ _ _ _ c.in_err-growth.field-0.0 (search rules) c.in_ok-first.ensures.read c.in_ok-count.ensures.read c.in_ok-stride.ensures.here c.in_ok-pass.ensures.read c.in_ok-start.ensures c.in_err-growth.ensures in
    grind arith

pub returns : goal.returns
returns c = ramp-copies c.args.words _ _ _ _ _ _ _ _ _ _ _ _ _ (search rules) (search rules) c.in_ok-first.ensures.read c.in_ok-count.ensures.read c.in_ok-stride.ensures.here c.in_ok-pass.ensures.read c.in_ok-start.ensures c.in_ok-growth.ensures
