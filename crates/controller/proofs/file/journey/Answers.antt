use Rattle.std.proofs.Common.{◌≡◌, ◌∙◌, ap, sym, subst, length, ℤ, List, arith}
use Rattle.std.proofs.lemmas.Result.{err_from_is_err_and}
use Rattle.core_steps.specs.States.{bits_of}
use Rattle.core_steps.specs.declared.view.View.{View}
use Rattle.nest_lang.specs.Stores.{Store}
use Rattle.nest_lang.specs.Runs.{finish_of_ending}
use Rattle.nest_grammar.specs.Files.{first_store}
use Rattle.profile.specs.Reach.{IsOfI64s}
use Rattle.controller.proofs.FileNumberLaws.{store-of-i64s}
use Rattle.controller.proofs.StartLaws.{journey-broke, journey-handed, journey-unbegun, journey-unfinished, scalars-same, store-shown, words-few}
use Rattle.controller.proofs.StandingLaws.{journey-stands}
use Rattle.controller.proofs.file.journey.Goals as goal

pub new-requires : goal.new-requires
new-requires g c =
    let file = c.args.file.now in
    let words : c.as_slice.result.now ≡ (first_store file).memory = c.as_slice.ensures.value ∙ ap (λ (s : Store). s.memory) c.memory.view_is ∙ ap (λ (s : Store). s.memory) c.in_ok-memory.ensures.store in
    let few = words-few file c.file.ensures.of_text in
    let same = ap (λ (ws : List ℤ). length ws) words in
    omega (arith, few, same)

pub run_nests-requires-clause-fits : goal.run_nests-requires-clause-fits
run_nests-requires-clause-fits g c =
    let file = c.args.file.now in
    let words : c.as_slice.result.now ≡ (first_store file).memory = c.as_slice.ensures.value ∙ ap (λ (s : Store). s.memory) c.memory.view_is ∙ ap (λ (s : Store). s.memory) c.in_ok-memory.ensures.store in
    let scalars = ap (λ (s : Store). s.scalars) c.memory.view_is ∙ ap (λ (s : Store). s.scalars) c.in_ok-memory.ensures.store in
    let base : c.in_ok-words.main.view.base ≡ bits_of c.as_slice.result.now = ap (λ (v : View). v.base) c.in_ok-words.ensures.view in
    let store = c.new-machine.ensures.store ∙ store-shown file c.file.ensures.of_text c.in_ok-words.main.view.base c.as_slice.result.now c.memory.inside.scalars.items base words scalars in
    λ _ _. subst (λ (s : Store). IsOfI64s s) (sym store) (store-of-i64s file c.file.ensures.of_text)

pub run_nests-requires-clause-reach : goal.run_nests-requires-clause-reach
run_nests-requires-clause-reach g c =
    let epoch : c.new-machine.result.posts.epoch ≡ 0 = c.new-machine.ensures.posts.0 ∙ ap (λ (v : View). v.epoch) c.in_ok-words.ensures.view in
    let left = c.new-machine.ensures.steps.0 in
    let most = c.requires.steps in
    omega (arith, epoch, left, most)

pub returns-in_err-memory-clause-handed : goal.returns-in_err-memory-clause-handed
returns-in_err-memory-clause-handed g c =
    let p = err_from_is_err_and c.from_residual.result c.from_residual.ensures.1 in
    rw p.1 (journey-unbegun c.args.options.now c.args.file.now (g.C.Crew.handed c.args.crew.now))

pub returns-in_err-words-clause-handed : goal.returns-in_err-words-clause-handed
returns-in_err-words-clause-handed g c =
    let p = err_from_is_err_and c.from_residual-in_err-words.result c.from_residual-in_err-words.ensures.1 in
    rw p.1 (journey-unbegun c.args.options.now c.args.file.now (g.C.Crew.handed c.args.crew.now))

pub returns-in_err-ending-clause-handed : goal.returns-in_err-ending-clause-handed
returns-in_err-ending-clause-handed g c =
    let file = c.args.file.now in
    let words : c.as_slice.result.now ≡ (first_store file).memory = c.as_slice.ensures.value ∙ ap (λ (s : Store). s.memory) c.memory.view_is ∙ ap (λ (s : Store). s.memory) c.in_ok-memory.ensures.store in
    let scalars = ap (λ (s : Store). s.scalars) c.memory.view_is ∙ ap (λ (s : Store). s.scalars) c.in_ok-memory.ensures.store in
    let base : c.in_ok-words.main.view.base ≡ bits_of c.as_slice.result.now = ap (λ (v : View). v.base) c.in_ok-words.ensures.view in
    let store = c.new-machine.ensures.store ∙ store-shown file c.file.ensures.of_text c.in_ok-words.main.view.base c.as_slice.result.now c.memory.inside.scalars.items base words scalars in
    let p = err_from_is_err_and c.from_residual-in_err-ending.result c.from_residual-in_err-ending.ensures.1 in
    rw p.1 (journey-broke c.args.options.now file c.new-machine.result store c.new-machine.ensures.steps.0 c.new-machine.ensures.steps.1 c.new-machine.ensures.posts.1 (g.C.Crew.handed c.args.crew.now) (g.C.Crew.handed c.run_nests.new.crew) c.in_err-ending.ensures.broke)

pub returns-in_err-state-clause-handed : goal.returns-in_err-state-clause-handed
returns-in_err-state-clause-handed g c =
    let file = c.args.file.now in
    let words : c.as_slice.result.now ≡ (first_store file).memory = c.as_slice.ensures.value ∙ ap (λ (s : Store). s.memory) c.memory.view_is ∙ ap (λ (s : Store). s.memory) c.in_ok-memory.ensures.store in
    let scalars = ap (λ (s : Store). s.scalars) c.memory.view_is ∙ ap (λ (s : Store). s.scalars) c.in_ok-memory.ensures.store in
    let base : c.in_ok-words.main.view.base ≡ bits_of c.as_slice.result.now = ap (λ (v : View). v.base) c.in_ok-words.ensures.view in
    let store = c.new-machine.ensures.store ∙ store-shown file c.file.ensures.of_text c.in_ok-words.main.view.base c.as_slice.result.now c.memory.inside.scalars.items base words scalars in
    let p = err_from_is_err_and c.from_residual-in_err-state.result c.from_residual-in_err-state.ensures.1 in
    rw p.1 (journey-unfinished c.args.options.now file c.new-machine.result store c.new-machine.ensures.steps.0 c.new-machine.ensures.steps.1 c.new-machine.ensures.posts.1 c.run_nests.new.machine c.new-lines.result.items c.run_nests.new.lines.items
    (g.C.Crew.handed c.args.crew.now) (g.C.Crew.handed c.run_nests.new.crew) (finish_of_ending c.in_ok-ending.ending) c.in_ok-ending.ensures.ran)

pub returns-clause-handed : goal.returns-clause-handed
returns-clause-handed g c =
    let file = c.args.file.now in
    let words : c.as_slice.result.now ≡ (first_store file).memory = c.as_slice.ensures.value ∙ ap (λ (s : Store). s.memory) c.memory.view_is ∙ ap (λ (s : Store). s.memory) c.in_ok-memory.ensures.store in
    let scalars = ap (λ (s : Store). s.scalars) c.memory.view_is ∙ ap (λ (s : Store). s.scalars) c.in_ok-memory.ensures.store in
    let base : c.in_ok-words.main.view.base ≡ bits_of c.as_slice.result.now = ap (λ (v : View). v.base) c.in_ok-words.ensures.view in
    let store = c.new-machine.ensures.store ∙ store-shown file c.file.ensures.of_text c.in_ok-words.main.view.base c.as_slice.result.now c.memory.inside.scalars.items base words scalars in
    let ran = c.in_ok-ending.ensures.ran in
    let end = c.in_ok-state.ensures in
    journey-handed c.args.options.now file c.new-machine.result store c.new-machine.ensures.steps.0 c.new-machine.ensures.steps.1 c.new-machine.ensures.posts.1 c.run_nests.new.machine c.new-lines.result.items c.run_nests.new.lines.items
    (g.C.Crew.handed c.args.crew.now) (g.C.Crew.handed c.run_nests.new.crew) c.in_ok-state.state c.in_ok-state.steps (finish_of_ending c.in_ok-ending.ending) c.new-lines.ensures.items end.0 end.1 ran

pub returns-clause-journey : goal.returns-clause-journey
returns-clause-journey g c = let made = returns-clause-handed g c in (made.2.0, made.2.1.0)

pub returns-clause-standing : goal.returns-clause-standing
returns-clause-standing g c =
    let made = returns-clause-journey g c in
    journey-stands c.args.options.now c.args.file.now c.run_nests.new.lines.items _ (scalars-same c.args.file.now) made.1
