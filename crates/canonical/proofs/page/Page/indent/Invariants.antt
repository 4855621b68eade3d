use Rattle.std.proofs.Common.{◌≡◌, ◌++◌, ◌*◌, replicate}
use Rattle.canonical.proofs.page.Page.indent.Given as goal

abbrev pub invariant-loop-brace : goal.invariant-loop-brace
invariant-loop-brace l = l.self ≡ l.fn.self ++ replicate (2 * l._brace) 32
