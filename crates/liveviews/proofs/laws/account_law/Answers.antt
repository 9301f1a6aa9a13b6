use Rattle.liveviews.proofs.Alike.{account-ends}
use Rattle.liveviews.proofs.laws.account_law.Goals as goal

pub returns : goal.returns
returns c = account-ends c.story_law.ensures.events
