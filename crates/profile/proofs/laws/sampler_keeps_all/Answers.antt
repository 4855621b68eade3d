use Rattle.profile.proofs.SamplerLaws.{sampler-keeps}
use Rattle.profile.proofs.laws.sampler_keeps_all.Goals as goal

pub returns : goal.returns
returns c = sampler-keeps
