use Rattle.std.proofs.Common.{◌∙◌, ap, sym, Some, option_map}
use Rattle.std.specs.Option.{option_copied}
use Rattle.nest_grammar.specs.Rules.{IsSpelled}
use Rattle.nest_grammar.proofs.RuleLaws.{reading-keeps}
use Rattle.nest_tokens.specs.Spellings.{name_text}
use Rattle.nest_text.proofs.ScalarNameLaws.{name-found}
use Rattle.nest_text.proofs.file.NestFile.scalar_name.Goals as goal
use Rattle.plain_lemmas.proofs.ListLaws.{All-slice_get}

pub text_of_name-requires : goal.text_of_name-requires
text_of_name-requires c =
    All-slice_get (λ s. IsSpelled s.name) c.self.inside.file.scalars c.args.number c.in-Some.scalar.now (reading-keeps c.self.invariant.0 c.self.inside.file c.self.invariant.1).spelled (sym c.get.ensures.value ∙ ap option_copied c.in-Some.is)

pub returns-in-Some : goal.returns-in-Some
returns-in-Some c =
    ap Some c.text_of_name.ensures
    ∙ sym (name-found c.args.self.now c.self.inside.file c.get.result c.args.number c.self.view_is c.get.ensures.value ∙ ap (λ o. option_map (λ s. name_text s.name) (option_copied o)) c.in-Some.is)

pub returns-in-None : goal.returns-in-None
returns-in-None c =
    sym (name-found c.args.self.now c.self.inside.file c.get.result c.args.number c.self.view_is c.get.ensures.value ∙ ap (λ o. option_map (λ s. name_text s.name) (option_copied o)) c.in-None.is)
