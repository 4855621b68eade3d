use Rattle.verified_turns.proofs.FollowingLaws.{runs-are-follow-runs}
use Rattle.verified_turns.proofs.laws.runs_are_follow_runs.Goals as goal

pub returns : goal.returns
returns c = runs-are-follow-runs
