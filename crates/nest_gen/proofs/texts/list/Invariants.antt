use Rattle.std.proofs.Common.{◌≡◌, ◌+◌, ◌*◌, string_bytes}
use Rattle.nest_gen.specs.Draws.{draw, after}
use Rattle.nest_gen.proofs.DrawLaws.{so_far}
use Rattle.nest_gen.proofs.texts.list.Given as goal

abbrev pub invariant-loop-shortcut : goal.invariant-loop-shortcut
invariant-loop-shortcut l =
    (string_bytes l.text ≡ so_far l.fn.seed (64 * l.fn.size) l._shortcut) × (l.draws.latest ≡ after l.fn.seed (l._shortcut + 1))
    × (l.nodes ≡ 64 * l.fn.size) × (l.shortcuts ≡ 1 + draw l.fn.seed 0 4)
