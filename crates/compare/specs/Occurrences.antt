-- Occurrences, as the code has them.
use Rattle.nest_lang.specs.Traces as traces
use Rattle.compare.specs.declared.occurrence.Occurrence.{Occurrence}

abbrev pub occurrence_at : Occurrence → traces.Occurrence
occurrence_at o = record { block = o.block; counters = o.counters.now }
