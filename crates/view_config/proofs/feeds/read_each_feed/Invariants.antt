use Rattle.std.proofs.Common.{◌≡◌}
use Rattle.toml.specs.View.{members_view, table_view}
use Rattle.values.specs.Reading.{with_front}
use Rattle.view_config.specs.Tree.{each_member}
use Rattle.view_config.specs.Feeds.{feed_of}
use Rattle.view_config.proofs.feeds.read_each_feed.Given as goal

abbrev pub invariant-loop-name : goal.invariant-loop-name
invariant-loop-name l =
    (goal.iterator-loop-name).can_next l.name-iterator × (goal.iterator-loop-name).is_finite l.name-iterator
    × (with_front l.feeds.items (each_member (feed_of l.sides) (members_view l.name-iterator))
    ≡ each_member (feed_of l.sides) (table_view l.entries))
