use Rattle.std.proofs.Common.{◌≡◌, ap, sym, map, refl, rules, string_bytes, subst, Option, Ok, Err, Result, true}
use Rattle.nest_grammar.specs.Contents.{reading}
use Rattle.command_line.specs.declared.invocation.Invocation.{Invocation}
use Rattle.command_line.specs.declared.invocation.Mode.{Mode}
use Rattle.std.specs.declared.alloc.AllocError.{AllocError}
use Rattle.nest_top.specs.declared.answer.Answer.{Answer}
use Rattle.command_line.specs.Invocations.{Finds, IsInvocation, IsNoInvocation}
use Rattle.nest_top.specs.declared.unanswered.Unanswered.TheVariants.{NoMemory}
use Rattle.nest_top.specs.Texts.{IsRead, IsTextOf}
use Rattle.nest_top.specs.Answers.{AnswersReading, TakesText, has_journey, text_for, text_made, unanswered_by}
use Rattle.nest_top.specs.Answers.IsAnswer.{invoked}
use Rattle.nest_top.proofs.AnswerLaws.{generated-answered, text-of}
use Rattle.nest_top.proofs.RunLaws.{nothing-taken, none-made, text-made, unread-made, wanting-first, wanting-made}
use Rattle.nest_top.specs.HandedOver.{ReadingHanded}
use Rattle.nest_top.proofs.HandedLaws.{answer-handed, none-handed, nothing-handed, wanting-handed}
use Rattle.nest_top.proofs.run.prepare.Goals as goal

pub unreachable-requires : goal.unreachable-requires
unreachable-requires g c =
    let words = map string_bytes c.args.words.now in
    let none : IsNoInvocation words = subst (λ (o : Option Invocation). Finds o (IsInvocation words)) c.in_default.is c.in_ok-invocation.ensures in
    none c.requires.invocation c.requires.is

pub returns-in_err-invocation : goal.returns-in_err-invocation
returns-in_err-invocation g c =
    let words = map string_bytes c.args.words.now in
    let t = text-of (g.S.Source.left c.args.source.now) in
    let why = c.from_residual.ensures.1 in
    let h = g.C.Crew.handed c.args.crew.now in
    record {
      text = t.0;
      taken = t.1;
      made = none-made words _ t.0 c.from_residual.result NoMemory why (wanting-first words _ refl);
      handed = none-handed words t.0 h h c.from_residual.result NoMemory why (nothing-handed words t.0 NoMemory h);
    }

pub returns-in_err-taken-in-Run : goal.returns-in_err-taken-in-Run
returns-in_err-taken-in-Run g c =
    let words = map string_bytes c.args.words.now in
    let i = c.in-Some.invocation in
    let is : IsInvocation words i = subst (λ (o : Option Invocation). Finds o (IsInvocation words)) c.in-Some.is c.in_ok-invocation.ensures in
    let takes : TakesText i.mode = subst TakesText (sym c.in-Run.is) tt in
    let t = text-of (g.S.Source.left c.args.source.now) in
    let why = c.from_residual-in_err-taken-in-Run.ensures.1 in
    let e = c.in_err-taken-in-Run.field-0.0 in
    let h = g.C.Crew.handed c.args.crew.now in
    record {
      text = t.0;
      taken = t.1;
      made = none-made words _ t.0 c.from_residual-in_err-taken-in-Run.result _ why (unread-made words _ i is takes e (search rules) c.read_all.ensures.never_falls);
      handed = none-handed words t.0 h h c.from_residual-in_err-taken-in-Run.result _ why (nothing-handed words t.0 (unanswered_by e) h);
    }

pub returns-in_err-speculative-in-Run : goal.returns-in_err-speculative-in-Run
returns-in_err-speculative-in-Run g c =
    let words = map string_bytes c.args.words.now in
    let i = c.in-Some.invocation in
    let text = c.as_slice-text.result.now in
    let e = c.in_err-speculative-in-Run.field-0.0 in
    let old = g.C.Crew.handed c.args.crew.now in
    let new = g.C.Crew.handed c.speculative.new.crew in
    let is : IsInvocation words i = subst (λ (o : Option Invocation). Finds o (IsInvocation words)) c.in-Some.is c.in_ok-invocation.ensures in
    let takes : TakesText i.mode = subst TakesText (sym c.in-Run.is) tt in
    let has : has_journey i.mode ≡ true = ap has_journey c.in-Run.is in
    let why = c.from_residual-in_err-speculative-in-Run.ensures.1 in
    let taken : IsTextOf (g.S.Source.left c.args.source.now) text = search rules in
    let handed : ReadingHanded i.options (reading (text_for i.mode text)) old new (Err e) =
    subst (λ (m : Mode). ReadingHanded i.options (reading (text_for m text)) old new (Err e)) (sym c.in-Run.is)
    (subst (λ (x : Result Answer AllocError). ReadingHanded i.options (reading text) old new x) c.in_err-speculative-in-Run.was c.speculative.ensures.handed) in
    record {
      text = text;
      taken = taken;
      made = none-made words _ text c.from_residual-in_err-speculative-in-Run.result NoMemory why (wanting-made words _ i is takes c.read_all.ensures.never_falls);
      handed = none-handed words text old new c.from_residual-in_err-speculative-in-Run.result NoMemory why (wanting-handed words text old new i is has (reading (text_for i.mode text)) e refl handed);
    }

pub returns-in_ok-speculative-in-Run : goal.returns-in_ok-speculative-in-Run
returns-in_ok-speculative-in-Run g c =
    let words = map string_bytes c.args.words.now in
    let i = c.in-Some.invocation in
    let text = c.as_slice-text.result.now in
    let a = c.in_ok-speculative-in-Run.field-0 in
    let old = g.C.Crew.handed c.args.crew.now in
    let new = g.C.Crew.handed c.speculative.new.crew in
    let is : IsInvocation words i = subst (λ (o : Option Invocation). Finds o (IsInvocation words)) c.in-Some.is c.in_ok-invocation.ensures in
    let takes : TakesText i.mode = subst TakesText (sym c.in-Run.is) tt in
    let has : has_journey i.mode ≡ true = ap has_journey c.in-Run.is in
    let taken : IsTextOf (g.S.Source.left c.args.source.now) text = search rules in
    let gone : IsRead (g.S.Source.left c.args.source.now) (g.S.Source.left c.read_all.new.source) = search rules in
    let answers : AnswersReading i.mode i.options (reading (text_for i.mode text)) a.bytes.items a.status =
    subst (λ (m : Mode). AnswersReading m i.options (reading (text_for m text)) a.bytes.items a.status) (sym c.in-Run.is) c.in_ok-speculative-in-Run.ensures.answer in
    let handed : ReadingHanded i.options (reading (text_for i.mode text)) old new (Ok a) =
    subst (λ (m : Mode). ReadingHanded i.options (reading (text_for m text)) old new (Ok a)) (sym c.in-Run.is)
    (subst (λ (x : Result Answer AllocError). ReadingHanded i.options (reading text) old new x) c.in_ok-speculative-in-Run.was c.speculative.ensures.handed) in
    record {
      text = text;
      taken = taken;
      made = text-made words _ i is takes text a.bytes.items a.status (invoked i is a.bytes.items a.status answers) gone c.read_all.ensures.never_falls;
      handed = answer-handed words text old new i is has (reading (text_for i.mode text)) a refl handed;
    }

pub returns-in_err-generated-in-Gen : goal.returns-in_err-generated-in-Gen
returns-in_err-generated-in-Gen g c =
    let words = map string_bytes c.args.words.now in
    let i = c.in-Some.invocation in
    let t = text-of (g.S.Source.left c.args.source.now) in
    let e = c.in_err-generated-in-Gen.field-0.0 in
    let old = g.C.Crew.handed c.args.crew.now in
    let new = g.C.Crew.handed c.generated.new.crew in
    let is : IsInvocation words i = subst (λ (o : Option Invocation). Finds o (IsInvocation words)) c.in-Some.is c.in_ok-invocation.ensures in
    let has : has_journey i.mode ≡ true = ap has_journey c.in-Gen.is in
    let why = c.from_residual-in_err-generated-in-Gen.ensures.1 in
    let handed : ReadingHanded i.options (reading (text_for i.mode t.0)) old new (Err e) =
    subst (λ (m : Mode). ReadingHanded i.options (reading (text_for m t.0)) old new (Err e)) (sym c.in-Gen.is)
    (subst (λ (x : Result Answer AllocError). ReadingHanded i.options (reading (text_made c.in-Gen.recipe)) old new x) c.in_err-generated-in-Gen.was c.generated.ensures.handed) in
    record {
      text = t.0;
      taken = t.1;
      made = none-made words _ t.0 c.from_residual-in_err-generated-in-Gen.result NoMemory why (wanting-first words _ refl);
      handed = none-handed words t.0 old new c.from_residual-in_err-generated-in-Gen.result NoMemory why (wanting-handed words t.0 old new i is has (reading (text_for i.mode t.0)) e refl handed);
    }

pub returns-in_ok-generated-in-Gen : goal.returns-in_ok-generated-in-Gen
returns-in_ok-generated-in-Gen g c =
    let words = map string_bytes c.args.words.now in
    let i = c.in-Some.invocation in
    let t = text-of (g.S.Source.left c.args.source.now) in
    let a = c.in_ok-generated-in-Gen.field-0 in
    let old = g.C.Crew.handed c.args.crew.now in
    let new = g.C.Crew.handed c.generated.new.crew in
    let is : IsInvocation words i = subst (λ (o : Option Invocation). Finds o (IsInvocation words)) c.in-Some.is c.in_ok-invocation.ensures in
    let has : has_journey i.mode ≡ true = ap has_journey c.in-Gen.is in
    let made = c.in_ok-generated-in-Gen.ensures.answer in
    let handed : ReadingHanded i.options (reading (text_for i.mode t.0)) old new (Ok a) =
    subst (λ (m : Mode). ReadingHanded i.options (reading (text_for m t.0)) old new (Ok a)) (sym c.in-Gen.is)
    (subst (λ (x : Result Answer AllocError). ReadingHanded i.options (reading (text_made c.in-Gen.recipe)) old new x) c.in_ok-generated-in-Gen.was c.generated.ensures.handed) in
    record {
      text = t.0;
      taken = t.1;
      made = nothing-taken words _ i c.in-Gen.recipe is c.in-Gen.is refl t.0 a.bytes.items a.status (generated-answered words i c.in-Gen.recipe t.0 a.bytes.items a.status is c.in-Gen.is made.0 made.1 made.2);
      handed = answer-handed words t.0 old new i is has (reading (text_for i.mode t.0)) a refl handed;
    }
