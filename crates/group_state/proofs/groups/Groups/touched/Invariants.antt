use Rattle.std.proofs.Common.{◌≡◌, List, take}
use Rattle.std.specs.BTreeMap.{is_at}
use Rattle.std.specs.List.{list_any}
use Rattle.values.specs.declared.key.Key.{Key}
use Rattle.group_state.specs.Keys.{tuple_cmp}
use Rattle.group_state.specs.Touched.{touches}
use Rattle.group_state.proofs.groups.Groups.touched.Given as goal

abbrev pub invariant-loop-changed : goal.invariant-loop-changed
invariant-loop-changed l = (t : List Key) → list_any (is_at (tuple_cmp t)) l.tuples.keys
    ≡ list_any (touches l.self.keys t) (take l.changed-index l.change)
