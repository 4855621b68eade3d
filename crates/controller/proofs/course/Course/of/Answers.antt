use Rattle.std.proofs.Common.{◌≡◌, ℕ, ◌<◌, ◌≤◌, List, length, ap, ap₂, subst, sym, ◌∙◌, arith, rules}
use Rattle.nest_lang.specs.declared.command.Command.{Command}
use Rattle.nest_lang.specs.declared.tree.Nest.{Nest}
use Rattle.nest_lang.specs.Rules.{NestKeeps}
use Rattle.nest_grammar.specs.declared.file.NestUnit.{NestUnit}
use Rattle.journeys.specs.Settings.{candidates}
use Rattle.controller.proofs.CandidateLaws.{abs-from, candidates-few, setting-is, signed-again, some-loops}
use Rattle.controller.proofs.course.Course.of.Goals as goal

pub candidates-requires : goal.candidates-requires
candidates-requires g c =
    let has = some-loops c.args.unit.now.nest.now.loops c.requires.unit.keeps.loops_keep in
    let deep = c.requires.depth in
    let some : 0 < g.row.D = omega (arith, has, deep) in
    let few : g.row.D < 7 = c.requires.few in
    search rules

pub invariant_of-result : goal.invariant_of-result
invariant_of-result g c =
    let unit = c.requires.unit in
    let scalars : c.len.result ≡ length c.args.unit.now.file.now.scalars = search rules in
    let items : c.in_ok-candidates.field-0.items ≡ candidates g.row.D unit.unit.scripts = c.in_ok-candidates.ensures ∙ ap (candidates g.row.D) (c.scripts.ensures unit.unit unit.at) in
    let few = candidates-few g.row.D unit.unit.scripts unit.scripts in
    let many = ap length items in
    let sample = abs-from c.args.unit.now.options.sample 2 64 unit.sample_from unit.sample_to in
    let chunk = abs-from c.args.unit.now.options.chunk 1 1024 unit.chunk_from unit.chunk_to in
    let sampled = signed-again c.args.unit.now.options.sample unit.sample_from unit.sample_to (omega arith) in
    let chunked = signed-again c.args.unit.now.options.chunk unit.chunk_from unit.chunk_to (omega arith) in
    record {
      depth = c.requires.depth;
      few = c.requires.few;
      keeps = subst (λ (n : ℕ). NestKeeps n c.args.unit.now.nest.now.loops) (sym scalars) unit.keeps;
      scalars = subst (λ (n : ℕ). n ≤ 16) (sym scalars) unit.scalars;
      candidates = omega (arith, few, many);
      sample_from = subst (λ (n : ℕ). 2 ≤ n) (sym sampled) sample.0;
      sample_to = subst (λ (n : ℕ). n ≤ 64) (sym sampled) sample.1;
      chunk_from = subst (λ (n : ℕ). 1 ≤ n) (sym chunked) chunk.0;
      chunk_to = subst (λ (n : ℕ). n ≤ 1024) (sym chunked) chunk.1;
    }

pub returns : goal.returns
returns g c =
    let unit = c.requires.unit in
    let scalars : c.len.result ≡ length c.args.unit.now.file.now.scalars = search rules in
    λ u at.
    let same : unit.unit ≡ u = let first = unit.at in cc in
    let loops = ap (λ (n : Nest). n.loops) (sym unit.is) ∙ ap (λ (v : NestUnit). v.nest.loops) same in
    let deep : g.row.D ≡ length u.nest.loops = sym c.requires.depth ∙ ap length loops in
    setting-is c.args.unit.now.options (length c.args.unit.now.file.now.scalars) u _ _ _ _ _ loops scalars
    (c.in_ok-candidates.ensures ∙ ap₂ (λ (n : ℕ) (ss : List (List Command)). candidates n ss) deep (c.scripts.ensures u at))
    (signed-again c.args.unit.now.options.sample unit.sample_from unit.sample_to (omega arith)) (signed-again c.args.unit.now.options.chunk unit.chunk_from unit.chunk_to (omega arith))
