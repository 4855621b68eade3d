use Rattle.journeys.proofs.OneChunk.{chunk-leads-one-way}
use Rattle.journeys.proofs.OneJourney.{stage-leads-one-way}
use Rattle.journeys.proofs.OneWay.{plain-leads-one-way, profile-leads-one-way}
use Rattle.journeys.proofs.laws.ways_are_one.Goals as goal

pub returns : goal.returns
returns c = record { profile = profile-leads-one-way; chunk = chunk-leads-one-way; plainly = plain-leads-one-way; stage = stage-leads-one-way }
