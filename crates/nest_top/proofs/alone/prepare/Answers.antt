use Rattle.std.proofs.Common.{◌≡◌, sym, map, refl, rules, string_bytes, subst, ℕ, List, Option, false}
use Rattle.nest_grammar.specs.Contents.{reading}
use Rattle.command_line.specs.declared.invocation.Invocation.{Invocation}
use Rattle.command_line.specs.Invocations.{Finds, IsInvocation, IsNoInvocation}
use Rattle.nest_top.specs.declared.unanswered.Unanswered.TheVariants.{NoMemory}
use Rattle.nest_top.specs.Runs.{Over}
use Rattle.nest_top.specs.Texts.{IsRead, IsTextOf}
use Rattle.nest_top.specs.Answers.{AnswersReading, has_journey, text_for}
use Rattle.nest_top.specs.Answers.IsAnswer.{invoked}
use Rattle.nest_top.proofs.AnswerLaws.{options-in-range}
use Rattle.nest_top.proofs.RunLaws.{asks-not, none-alone, takes-text, text-made, text-taken, unread-made, usage-made, wanting-made}
use Rattle.nest_top.proofs.alone.prepare.Goals as goal

pub returns-in_default : goal.returns-in_default
returns-in_default g c =
    let words = map string_bytes c.args.words.now in
    let none : IsNoInvocation words = subst (λ (o : Option Invocation). Finds o (IsInvocation words)) c.in_default.is c.in_ok-invocation.ensures in
    usage-made words _ none refl _ _ c.in_ok-usage.ensures

pub answer_text-requires-clause-options : goal.answer_text-requires-clause-options
answer_text-requires-clause-options g c =
    let words = map string_bytes c.args.words.now in
    let is : IsInvocation words c.in-Some.invocation = subst (λ (o : Option Invocation). Finds o (IsInvocation words)) c.in-Some.is c.in_ok-invocation.ensures in
    options-in-range words c.in-Some.invocation is

pub returns-in_err-taken : goal.returns-in_err-taken
returns-in_err-taken g c =
    let source : Over g.row.S.Denot = record { bytes = g.S.Source.left; faults = g.S.Source.faults; before = c.args.source.now; after = c.read_all.new.source } in
    let words = map string_bytes c.args.words.now in
    let is : IsInvocation words c.in-Some.invocation = subst (λ (o : Option Invocation). Finds o (IsInvocation words)) c.in-Some.is c.in_ok-invocation.ensures in
    let off : has_journey c.in-Some.invocation.mode ≡ false = search rules in
    let takes = takes-text c.in-Some.invocation.mode off in
    none-alone words source c.from_residual-in_err-taken.result _ c.from_residual-in_err-taken.ensures.1
    (unread-made words source c.in-Some.invocation is takes c.in_err-taken.field-0.0 (search rules) c.read_all.ensures.never_falls) (asks-not words c.in-Some.invocation is off)

pub returns-in_err-answer_text : goal.returns-in_err-answer_text
returns-in_err-answer_text g c =
    let source : Over g.row.S.Denot = record { bytes = g.S.Source.left; faults = g.S.Source.faults; before = c.args.source.now; after = c.read_all.new.source } in
    let words = map string_bytes c.args.words.now in
    let is : IsInvocation words c.in-Some.invocation = subst (λ (o : Option Invocation). Finds o (IsInvocation words)) c.in-Some.is c.in_ok-invocation.ensures in
    let off : has_journey c.in-Some.invocation.mode ≡ false = search rules in
    let takes = takes-text c.in-Some.invocation.mode off in
    none-alone words source c.from_residual-in_err-answer_text.result NoMemory c.from_residual-in_err-answer_text.ensures.1
    (wanting-made words source c.in-Some.invocation is takes c.read_all.ensures.never_falls) (asks-not words c.in-Some.invocation is off)

pub returns : goal.returns
returns g c =
    let words = map string_bytes c.args.words.now in
    let i = c.in-Some.invocation in
    let text = c.as_slice.result.now in
    let bytes = c.in_ok-answer_text.field-0.bytes.items in
    let status = c.in_ok-answer_text.field-0.status in
    let is : IsInvocation words i = subst (λ (o : Option Invocation). Finds o (IsInvocation words)) c.in-Some.is c.in_ok-invocation.ensures in
    let off : has_journey i.mode ≡ false = search rules in
    let takes = takes-text i.mode off in
    let taken : IsTextOf (g.S.Source.left c.args.source.now) text = search rules in
    let gone : IsRead (g.S.Source.left c.args.source.now) (g.S.Source.left c.read_all.new.source) = search rules in
    let answers : AnswersReading i.mode i.options (reading (text_for i.mode text)) bytes status =
    subst (λ (t : List ℕ). AnswersReading i.mode i.options (reading t) bytes status) (sym (text-taken i.mode text takes)) c.in_ok-answer_text.ensures in
    ((text, taken, text-made words _ i is takes text bytes status (invoked i is bytes status answers) gone c.read_all.ensures.never_falls), asks-not words i is off)
