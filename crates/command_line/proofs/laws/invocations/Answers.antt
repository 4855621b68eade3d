use Rattle.std.proofs.Common.{codes, refl, [], ◌∷◌}
use Rattle.clap.proofs.OnLiterals.{clap_on_literals}
use Rattle.command_line.specs.declared.invocation.Mode.TheVariants.{Plain, Run, Check, Deps, Gen}
use Rattle.command_line.specs.declared.recipe.Shape.TheVariants.{List as Linked}
use Rattle.command_line.proofs.ExampleLaws.{is-invocation, is-recipe, recipe-of}
use Rattle.command_line.proofs.laws.invocations.Goals as goal

pub returns : goal.returns
unfolding clap_on_literals
returns c = record {
  plain = is-invocation _ Plain (codes "4") (codes "32") (codes "4") (codes "1000000") refl refl refl refl refl refl refl refl refl refl refl;
  run = is-invocation _ Run (codes "4") (codes "64") (codes "8") (codes "1000000") refl refl refl refl refl refl refl refl refl refl refl;
  check = is-invocation _ Check (codes "4") (codes "32") (codes "4") (codes "1000000") refl refl refl refl refl refl refl refl refl refl refl;
  deps = is-invocation _ Deps (codes "4") (codes "8") (codes "4") (codes "1000000") refl refl refl refl refl refl refl refl refl refl refl;
  gen = is-invocation _ (Gen (recipe-of (codes "007") Linked (codes "2"))) (codes "4") (codes "8") (codes "4") (codes "1000000") refl refl (codes "007" ∷ codes "list" ∷ codes "2" ∷ [], refl, is-recipe (codes "007") (codes "2") Linked refl refl) refl refl refl refl refl refl refl refl;
  steps = is-invocation _ Plain (codes "4") (codes "32") (codes "4") (codes "10") refl refl refl refl refl refl refl refl refl refl refl;
  joined_and_first = is-invocation _ Plain (codes "4") (codes "32") (codes "4") (codes "10") refl refl refl refl refl refl refl refl refl refl refl;
  all_options = is-invocation _ Plain (codes "64") (codes "1") (codes "0000000008") (codes "4294967296") refl refl refl refl refl refl refl refl refl refl refl;
  ends_the_options = is-invocation _ Plain (codes "4") (codes "8") (codes "4") (codes "1000000") refl refl refl refl refl refl refl refl refl refl refl;
}
