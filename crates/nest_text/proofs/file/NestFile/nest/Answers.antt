use Rattle.std.proofs.Common.{◌≡◌, ◌∙◌, ap, sym, subst, Some, option_map, length}
use Rattle.nest_grammar.specs.declared.file.File.{File}
use Rattle.std.specs.Option.{option_copied}
use Rattle.nest_lang.specs.Rules.{NestKeeps}
use Rattle.nest_grammar.proofs.RuleLaws.{reading-keeps}
use Rattle.nest_text.proofs.ScalarNameLaws.{nest-found}
use Rattle.nest_text.proofs.file.NestFile.nest.Goals as goal
use Rattle.plain_lemmas.proofs.ListLaws.{All-slice_get}

pub returns-in-Some-clause-rules : goal.returns-in-Some-clause-rules
returns-in-Some-clause-rules c =
    subst (λ (f : File). NestKeeps (length f.scalars) c.in-Some.unit.now.nest.loops) c.self.view_is
    (All-slice_get (λ u. NestKeeps (length c.self.inside.file.scalars) u.nest.loops) c.self.inside.file.units c.args.number c.in-Some.unit.now (reading-keeps c.self.invariant.0 c.self.inside.file c.self.invariant.1).nests_keep (sym c.get.ensures.value ∙ ap option_copied c.in-Some.is))

pub returns-in-None-clause-nest : goal.returns-in-None-clause-nest
returns-in-None-clause-nest c =
    sym (nest-found c.args.self.now c.self.inside.file c.get.result c.args.number c.self.view_is c.get.ensures.value ∙ ap (λ o. option_map (λ u. u.nest) (option_copied o)) c.in-None.is)
