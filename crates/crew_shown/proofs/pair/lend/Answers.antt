use Rattle.std.proofs.Common.{ℕ, pos, length, refl, sym, ap, subst, ◌∙◌, lit<}
use Rattle.std.proofs.lemmas.List.{length-replicate}
use Rattle.core_steps.specs.declared.plan.Plan.{Plan}
use Rattle.core_steps.specs.declared.view.View.{View}
use Rattle.follow_chunk.specs.Tasks.{task_of, IsTask}
use Rattle.shared_words.specs.Seats.{memory_words}
use Rattle.crew_shown.proofs.EmptyTileLaws.{none-in, none-at-all, few-empties}
use Rattle.crew_shown.proofs.pair.lend.Goals as goal

pub new-requires : goal.new-requires
new-requires c =
    let s = c.split-seat.ensures in
    let v = s.worker in
    let n = length c.new-walk.result.entered.now in
    let task = c.args.task.now in
    let plan = ap (λ (u : View). u.plan) v ∙ c.requires.plan in
    let tiles = length-replicate n _ ∙ c.new-walk.ensures ∙ sym c.args.tiles.now.counted ∙ sym (ap (λ (p : Plan). length p.tiles) plan) in (
      lit< tt,
      (
        lit< tt,
        (
          lit< tt,
          (
            s.table.1 ∙ c.requires.table,
            (
              ap memory_words (sym c.requires.table) ∙ s.count ∙ sym (ap (λ (u : View). length u.base) v),
              (
                record { posted = ap (λ (u : View). u.posted) v ∙ c.requires.posted; held = ap (λ (u : View). u.held) v; own = ap (λ (u : View). u.own) v; failed = ap (λ (u : View). u.failed) v; seen = ap (λ (u : View). u.seen) v },
                (
                  tiles,
                  (
                    refl,
                    (
                      subst (λ (k : ℕ). IsTask 1 (task_of task) (pos k)) (sym (ap (λ (u : View). length u.base) v ∙ c.requires.count)) c.requires.task,
                      (
                        record { writes_in = λ tile a x h. absurd (none-in n tile x h); touches_in = λ tile a x h. absurd (none-in n tile x h) },
                        (
                          λ x h. absurd (none-at-all n x h),
                          few-empties n,
                        ),
                      ),
                    ),
                  ),
                ),
              ),
            ),
          ),
        ),
      ),
    )
