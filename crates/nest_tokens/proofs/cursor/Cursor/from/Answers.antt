use Rattle.std.proofs.Common.{◌≡◌, ℕ, ◌≤◌, ◌+◌, arith, length, drop, length-drop, ap}
use Rattle.std.proofs.lemmas.List.{take_rest}
use Rattle.nest_tokens.specs.Lexing.{lexed}
use Rattle.nest_tokens.proofs.PlaceLaws.{placed}
use Rattle.nest_tokens.proofs.cursor.Cursor.from.Goals as goal

pub invariant_of-result : goal.invariant_of-result
invariant_of-result c =
    let token : c.lex-token.result.0 ≡ (lexed (drop c.gap_end-at.result c.args.text.now)).token = rw take_rest at c.lex-token.ensures.token in
    let len : c.lex-token.result.1 ≡ (lexed (drop c.gap_end-at.result c.args.text.now)).len = rw take_rest at c.lex-token.ensures.len in
    let within : c.lex-token.result.1 ≤ length (drop c.gap_end-at.result c.args.text.now) = rw take_rest at c.lex-token.ensures.within in
    placed _ _ c.args.from _ _ c.gap_end-at.ensures.within (omega (arith, length-drop c.gap_end-at.result c.args.text.now)) c.gap_end-at.ensures.gap token (ap (λ (n : ℕ). c.gap_end-at.result + n) len)
