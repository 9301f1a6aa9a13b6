use Rattle.std.proofs.Common.{Ok, Err}
use Rattle.feed.specs.States.{after_finish}
use Rattle.feed.specs.declared.condition.Condition.TheVariants as condition
use Rattle.feed.proofs.FeedLemmas.{after-finished, after-refused, finishes, shows-same}
use Rattle.feed.proofs.feed.Feed.finish.Goals as goal

pub returns-in-Ok-clause-answer : goal.returns-in-Ok-clause-answer
returns-in-Ok-clause-answer c = λ s shows.
    finishes
    (record {
      framing = c.self.inside.framer;
      table = c.self.inside.dicts;
      condition = c.self.inside.condition;
      change = c.self.inside.change;
      next = c.self.inside.next;
    }) s (Ok tt) c.in-Ok.ensures (rw c.self.view_is shows)

pub returns-in-Ok-clause-after : goal.returns-in-Ok-clause-after
returns-in-Ok-clause-after c = λ s shows.
    shows-same
    (record {
      framing = c.self.inside.framer;
      table = c.self.inside.dicts;
      condition = condition.Finished;
      change = c.self.inside.change;
      next = c.self.inside.next;
    }) c.discard_prepared.new.self (after_finish s (Ok tt))
    c.discard_prepared.ensures.framing c.discard_prepared.ensures.table c.discard_prepared.ensures.condition
    (after-finished
    (record {
      framing = c.self.inside.framer;
      table = c.self.inside.dicts;
      condition = c.self.inside.condition;
      change = c.self.inside.change;
      next = c.self.inside.next;
    }) s (rw c.self.view_is shows))

pub returns-in-Err-clause-answer : goal.returns-in-Err-clause-answer
returns-in-Err-clause-answer c = λ s shows.
    finishes
    (record {
      framing = c.self.inside.framer;
      table = c.self.inside.dicts;
      condition = c.self.inside.condition;
      change = c.self.inside.change;
      next = c.self.inside.next;
    }) s (Err c.in-Err.fault) c.in-Err.ensures
    (rw c.self.view_is shows)

pub returns-in-Err-clause-after : goal.returns-in-Err-clause-after
returns-in-Err-clause-after c = λ s shows.
    shows-same
    (record {
      framing = c.self.inside.framer;
      table = c.self.inside.dicts;
      condition = condition.Broken;
      change = c.self.inside.change;
      next = c.self.inside.next;
    }) c.discard_prepared-in-Err.new.self
    (after_finish s (Err c.in-Err.fault))
    c.discard_prepared-in-Err.ensures.framing c.discard_prepared-in-Err.ensures.table
    c.discard_prepared-in-Err.ensures.condition
    (after-refused
    (record {
      framing = c.self.inside.framer;
      table = c.self.inside.dicts;
      condition = c.self.inside.condition;
      change = c.self.inside.change;
      next = c.self.inside.next;
    }) s c.in-Err.fault (rw c.self.view_is shows))
