use Rattle.core_steps.proofs.PhaseLaws.{phase-state}
use Rattle.core_steps.proofs.OneWriter.{one-writer-of}
use Rattle.core_steps.proofs.laws.one_writer.Goals as goal

pub returns : goal.returns
returns c words before plan steps s t p i j a x y later u first within second = let phase = phase-state words before plan steps s t p in
    one-writer-of t later u i j a x y phase.sound phase.posted first within second
