use Rattle.std.proofs.Common.{◌≡◌, List}
use Rattle.std.specs.Prelude.{◌&&◌, ◌||◌}
use Rattle.std.specs.BTreeMap.{is_at}
use Rattle.std.specs.List.{list_any}
use Rattle.std.specs.Map.{keys_of}
use Rattle.values.specs.declared.key.Key.{Key}
use Rattle.group_state.specs.Keys.{tuple_cmp}
use Rattle.group_state.specs.Moves.{begins_with}
use Rattle.group_state.proofs.groups.Groups.tuples_under.Given as goal

abbrev pub invariant-loop-first : goal.invariant-loop-first
invariant-loop-first l = (t : List Key)
    → (list_any (is_at (tuple_cmp t)) l.tuples.keys
    || (list_any (λ k. begins_with k t) l.first-iterator && list_any (is_at (tuple_cmp t)) (keys_of l.self.groups)))
    ≡ (list_any (λ k. begins_with k t) l.initial.first-iterator && list_any (is_at (tuple_cmp t)) (keys_of l.self.groups))
