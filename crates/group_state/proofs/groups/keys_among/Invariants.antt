use Rattle.std.proofs.Common.{◌≡◌, take}
use Rattle.std.specs.BTreeMap.{is_at}
use Rattle.std.specs.List.{list_any}
use Rattle.values.specs.declared.key.Key.{Key}
use Rattle.group_state.specs.Keys.{key_cmp, key_in}
use Rattle.group_state.proofs.groups.keys_among.Given as goal

abbrev pub invariant-loop-value : goal.invariant-loop-value
invariant-loop-value l = (k : Key) → list_any (is_at (key_cmp k)) l.keys.keys
    ≡ list_any (λ d. is_at (key_cmp k) (key_in d)) (take l.value-index l.values)
