use Rattle.std.proofs.Common.{sym, ◌∙◌}
use Rattle.feed.proofs.FeedLemmas.{feed-committed, feed-uncommitted}
use Rattle.feed.proofs.feed.Feed.commit.Goals as goal

pub invariant_of-self : goal.invariant_of-self
invariant_of-self c =
    feed-committed
    (record {
      framing = c.self.inside.framer;
      table = c.self.inside.dicts;
      condition = c.self.inside.condition;
      change = c.self.inside.change;
      next = c.self.inside.next;
    })
    c.commit.new.self c.commit-in-Some.new.self c.self.inside.next c.self.inside.next c.take.new.self c.in-Some.change
    c.self.invariant
    c.commit.ensures.done c.commit.ensures.nothing_prepared (sym c.take.ensures.value
    ∙ c.in-Some.is) c.take.ensures.after c.commit-in-Some.ensures

pub invariant_of-self-in_default : goal.invariant_of-self-in_default
invariant_of-self-in_default c =
    feed-uncommitted
    (record {
      framing = c.self.inside.framer;
      table = c.self.inside.dicts;
      condition = c.self.inside.condition;
      change = c.self.inside.change;
      next = c.self.inside.next;
    })
    c.commit.new.self c.self.inside.next c.self.inside.next c.take.new.self c.self.invariant
    c.commit.ensures.done c.commit.ensures.nothing_prepared (sym c.take.ensures.value
    ∙ c.in_default.is) c.take.ensures.after
