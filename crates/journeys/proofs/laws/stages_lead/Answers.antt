use Rattle.journeys.proofs.SomeWay.{chunk-leads-somewhere, plain-leads-somewhere, profile-leads-somewhere}
use Rattle.journeys.proofs.laws.stages_lead.Goals as goal

pub returns : goal.returns
returns c = record { profile = profile-leads-somewhere; plainly = plain-leads-somewhere; chunk = chunk-leads-somewhere }
