use Rattle.std.proofs.Common.{rules, ◌≡◌, ℤ, ◌++◌, string_bytes, length, [], ◌∷◌, arith, ap, to_z-of_z, w64, ◌∙◌, subst, get_or, pos, length-drop}
use Rattle.std.proofs.lemmas.List.Sorted.{answers_always}
use Rattle.std.specs.Ordering.{int_eq}
use Rattle.report.specs.Outcomes.{words_line}
use Rattle.report.proofs.RunLaws.{IsPiece, LongestRuns-below, LongestBelow-zeros, LongestBelow-push, IsPiece-chunk, rest-chunk, run_of, lines-push}
use Rattle.report.proofs.runs.push_words.Goals as goal
use Rattle.report.proofs.runs.push_words.Goals.{then-run-ne0+in_ok-push_line, else-run-ne0}

pub loop-words-preserved : goal.loop-words-preserved
loop-words-preserved c =
    let at = c.loop-words.invariant in
    let step = c.in-Some.ensures.steps in
    let piece = IsPiece-chunk c.args.memory.now _ c.in-Some.words.now c.next.new.self.rest.now c.loop-words.first at.0 step.0 step.1 (step.2 int_eq (answers_always _ _ _ (λ f a r f' called. search rules))).1 in (
      rest-chunk _ _ _ _ _ at.0 step.0,
      elim c.if-run-ne0.branch [
        | then-run-ne0+in_ok-push_line w ↦
            let written = w.in_ok-push_line.ensures in
            let is = w.text-is in
            let ne = w.if-run-ne0.true in
            (at.1.0 ++ run_of c.loop-words.first (length c.in-Some.words.now) _ ∷ [], LongestBelow-push c.args.memory.now _ _ _ _ piece (λ zero. absurd (ne (search rules))) at.1.1, lines-push _ _ _ at.1.0 (run_of c.loop-words.first (length c.in-Some.words.now) (get_or c.in-Some.words.now 0 (pos 0))) at.1.2 (ap string_bytes is ∙ (written ∙ ap (λ (word : ℤ). string_bytes c.loop-words.text ++ words_line (run_of c.loop-words.first (length c.in-Some.words.now) word)) (to_z-of_z {w = w64} {z = get_or c.in-Some.words.now 0 (pos 0)} (search rules)))))
        | else-run-ne0 w ↦
            let is = w.text-is in
            let zero = w.if-run-ne0.false in
            (at.1.0, LongestBelow-zeros c.args.memory.now _ _ _ (let value : get_or c.in-Some.words.now 0 (pos 0) ≡ pos 0 = search rules in subst (λ (word : ℤ). IsPiece c.args.memory.now c.loop-words.first (length c.in-Some.words.now) word) value piece) at.1.1, ap string_bytes is ∙ at.1.2)
      ],
    )

pub returns : goal.returns
returns c =
    let at = c.loop-words.invariant in
    let none = c.in-None.ensures.steps.0 in
    let left = ap length at.0 in
    let len = length-drop c.loop-words.first c.args.memory.now in
    (at.1.0, LongestRuns-below _ c.loop-words.first at.1.0 (omega arith) at.1.1, at.1.2)
