use Rattle.std.proofs.Common.{◌≡◌, length}
use Rattle.nest_grammar.specs.Files.{set_ramp}
use Rattle.nest_text.proofs.StoredItemLaws.{ramp_from}
use Rattle.nest_text.proofs.file.set_ramp.Given as goal

abbrev pub invariant-words : goal.invariant-words
invariant-words l = (set_ramp l.fn.count l.fn.first l.fn.stride l.fn.start l.fn.growth l.fn.memory ≡ ramp_from l.number l.fn.count l.fn.first l.fn.stride l.fn.start l.fn.growth l.memory) × (length l.memory ≡ length l.fn.memory)
