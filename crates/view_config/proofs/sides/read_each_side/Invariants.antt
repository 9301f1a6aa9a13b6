use Rattle.std.proofs.Common.{◌≡◌}
use Rattle.toml.specs.View.{members_view, table_view}
use Rattle.values.specs.Reading.{with_front}
use Rattle.view_config.specs.Sides.{side_of}
use Rattle.view_config.specs.Tree.{each_member}
use Rattle.view_config.proofs.sides.read_each_side.Given as goal

abbrev pub invariant-loop-name : goal.invariant-loop-name
invariant-loop-name l =
    (goal.iterator-loop-name).can_next l.name-iterator × (goal.iterator-loop-name).is_finite l.name-iterator
    × (with_front l.sides.items (each_member side_of (members_view l.name-iterator))
    ≡ each_member side_of (table_view l.entries))
