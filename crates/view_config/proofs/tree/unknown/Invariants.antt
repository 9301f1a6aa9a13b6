use Rattle.std.proofs.Common.{◌≡◌, map}
use Rattle.toml.specs.View.{members_view, table_view}
use Rattle.view_config.specs.Tree.{has_only}
use Rattle.view_config.proofs.tree.unknown.Given as goal

-- what is left decides the whole
abbrev pub invariant-loop-name : goal.invariant-loop-name
invariant-loop-name l =
    (goal.iterator-loop-name).can_next l.name-iterator × (goal.iterator-loop-name).is_finite l.name-iterator
    × (has_only (map (λ n. n.now) l.names) (members_view l.name-iterator)
    ≡ has_only (map (λ n. n.now) l.names) (table_view l.entries))
