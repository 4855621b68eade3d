use Rattle.std.proofs.Common.{◌≡◌, ◌∙◌, ap, map, refl, sym, subst, List, true}
use Rattle.std.specs.Prelude.{string_bytes, []}
use Rattle.clap.specs.Words.{App, Row, fault_of, found_of, is_simple, is_simple_and_free, matches_of, rows_of, takes}
use Rattle.clap.specs.declared.error.kind.ErrorKind.TheVariants.{OutOfMemory}
use Rattle.command_line.specs.Syntax.{syntax}
use Rattle.command_line.specs.Invocations.{IsFoundInvocation}
use Rattle.command_line.proofs.FoundWordLaws.{finds-the-same}
use Rattle.command_line.proofs.TakenWordLaws.{takes-no-fault}
use Rattle.command_line.proofs.reading.invocation_of.Goals as goal

pub returns-in-Ok : goal.returns-in-Ok
returns-in-Ok c =
    let words = map string_bytes c.args.words.now in
    let is = c.in_ok-syntax.ensures in
    let free = ap is_simple_and_free is in
    let none : fault_of syntax words ≡ [] = ap (λ (a : App). fault_of a words) (sym is) ∙ c.in-Ok.ensures.kinds free in
    let taken : takes syntax words ≡ true = takes-no-fault syntax words refl refl refl refl none in
    let found : rows_of (found_of c.in-Ok.matches) ≡ matches_of syntax words = (c.in-Ok.ensures.matches (ap is_simple is)).0 ∙ ap (λ (a : App). matches_of a words) is in
    finds-the-same _ _ _ (λ command h. record { taken = taken; found = subst (λ (rows : List Row). IsFoundInvocation rows command) found h })
    (λ command h. subst (λ (rows : List Row). IsFoundInvocation rows command) (sym found) h.found) c.invocation_in.ensures

pub returns-in-Err-2 : goal.returns-in-Err-2
returns-in-Err-2 c = λ command h.
    let words = map string_bytes c.args.words.now in
    let is = c.in_ok-syntax.ensures in
    let memory = c.in-Err.ensures.passes (ap (λ (a : App). takes a words) is ∙ h.taken) in
    let same : c.kind.result ≡ OutOfMemory = c.kind.ensures ∙ memory in
    let told = rw same at c.eq.ensures in
    cc
