use Rattle.feed.proofs.Pieces.{cuts-agree, feed-follows, feeds-end}
use Rattle.feed.proofs.TranscriptLemmas.{nothing-left, push-keeps, refusal-ends}
use Rattle.feed.proofs.laws.pieces_law.Goals as goal

pub returns-clause-none : goal.returns-clause-none
returns-clause-none c = nothing-left

pub returns-clause-push : goal.returns-clause-push
returns-clause-push c = push-keeps c.first_message_law.ensures

pub returns-clause-refusal : goal.returns-clause-refusal
returns-clause-refusal c = refusal-ends c.first_message_law.ensures

pub returns-clause-feed : goal.returns-clause-feed
returns-clause-feed c = feed-follows c.first_message_law.ensures

pub returns-clause-cuts : goal.returns-clause-cuts
returns-clause-cuts c = cuts-agree c.first_message_law.ensures

pub returns-clause-end : goal.returns-clause-end
returns-clause-end c = feeds-end c.first_message_law.ensures
