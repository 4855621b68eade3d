use Rattle.std.proofs.Common.{sym, ap, ap₂, ◌∙◌, refl, ℕ}
use Rattle.domain.specs.Instances.{instance}
use Rattle.follow_chunk.specs.Predicted.{padded_to, instance_of}
use Rattle.compare.specs.Occurrences.{occurrence_at}
use Rattle.compare.proofs.occurrence.Occurrence.instance.Goals as goal

pub returns : goal.returns
unfolding instance_of
returns g c = ap₂ instance (c.rank.ensures (occurrence_at c.args.self.now) refl) (c.padded.ensures ∙ ap (λ (d : ℕ). padded_to d c.args.self.now.counters.now) (sym c.requires.shape.deep))
