-- The views after a split and after a join.
use Rattle.std.proofs.Common.{◌≡◌, zero, suc, List, ◌∷◌, drop, set, refl, sym, ap, ◌∙◌, arith}
use mathlib.Core.Option.{some-injective}
use Rattle.core_steps.specs.declared.view.View.{View}
use Rattle.core_steps.specs.Views.{joined_view, spent_view}
use Rattle.core_steps.specs.States.{view_of, with_view}
use Rattle.core_steps.proofs.StateStepLaws.{seat-of-worker}
use Rattle.shared_words.specs.Laws.{SplitIsItsStep, JoinIsItsStep}
use Rattle.shared_words.proofs.WorkerStepLaws.{worker-at}

pub split-views : SplitIsItsStep
split-views s w h on number fresh = ((on, number, fresh), refl)

pub join-views : JoinIsItsStep
join-views s zero v h at out = let none = h.phase.main_number in let is = ap (λ (u : View). u.number) (some-injective s.main v at) in absurd (omega arith)
join-views s (suc i) v h at out = let
    w = worker-at s (suc i) v h at out in let
    seat : view_of v.number s.seats ≡ v = sym (seat-of-worker v.number s out) ∙ w.seat in let
    rest : with_view v.number spent_view s.seats ≡ set s.seats i spent_view = sym (ap (λ (l : List View). drop 1 l) (w.changed spent_view)) in
    (w.out, ap (λ (u : View). joined_view s.main u ∷ with_view v.number spent_view s.seats) seat ∙ ap (λ (l : List View). joined_view s.main v ∷ l) rest)
