-- What the labels of the code mean.
use Rattle.canonical.specs.declared.labels.Labels.{Labels as CodeLabels}
use Rattle.canonical.specs.Labels.{Labels}

abbrev pub labels_of : CodeLabels → Labels
labels_of l = record { scalars = l.scalars.now; loops = l.loops.now; lets = l.lets.now }
