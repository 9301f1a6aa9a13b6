use Rattle.feed.proofs.StoryLemmas.{
  all-is-story_step,
  event-tells,
  none-held,
  faults-tell,
  partial-is-held,
  partial-tells,
  rest_story-knows,
}
use Rattle.feed.proofs.FoldLemmas.{events-tell-all}
use Rattle.feed.proofs.laws.story_law.Goals as goal

pub returns-clause-all : goal.returns-clause-all
returns-clause-all c = all-is-story_step

pub returns-clause-event : goal.returns-clause-event
returns-clause-event c = event-tells c.first_message_law.ensures

pub returns-clause-held : goal.returns-clause-held
returns-clause-held c = none-held c.first_message_law.ensures

pub returns-clause-partial_held : goal.returns-clause-partial_held
returns-clause-partial_held c = partial-is-held c.first_message_law.ensures

pub returns-clause-faults : goal.returns-clause-faults
returns-clause-faults c = faults-tell c.first_message_law.ensures

pub returns-clause-partial : goal.returns-clause-partial
returns-clause-partial c = partial-tells c.first_message_law.ensures

pub returns-clause-knows : goal.returns-clause-knows
returns-clause-knows c = rest_story-knows

pub returns-clause-events : goal.returns-clause-events
returns-clause-events c = events-tell-all c.first_message_law.ensures
