use Rattle.std.proofs.Common.{◌≡◌, ◌∙◌, ap, subst, ℕ, ◌+◌, List, IfOk, string_bytes}
use Rattle.nest_gen.specs.Draws.{next, drawn}
use Rattle.nest_gen.specs.Texts.{grid_of, grid_text}
use Rattle.nest_gen.proofs.texts.grid.Goals as goal

pub returns : goal.returns
returns c =
    let start : c.draw-start.result ≡ drawn 1000 (next c.args.seed) = c.draw-start.ensures.drawn ∙ ap (drawn 1000) (c.draw-start.ensures.latest ∙ ap next c.from.ensures) in
    let same : grid_of (c.from-side.result + 2) c.draw-start.result ≡ grid_text c.args.seed c.args.size =
    ap (λ (x : ℕ). grid_of (x + 2) c.draw-start.result) c.from-side.ensures ∙ ap (λ (d : ℕ). grid_of (c.args.size + 2) d) start in
    subst (λ (whole : List ℕ). IfOk c.sweep.result (λ text. string_bytes text ≡ whole)) same c.sweep.ensures
