use Rattle.feed.proofs.RetainedRuns.{retained-by-messages}
use Rattle.feed.proofs.laws.retained_law.Goals as goal

pub returns : goal.returns
returns c = retained-by-messages
