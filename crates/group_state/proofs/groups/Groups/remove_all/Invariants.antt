use Rattle.std.proofs.Common.{◌≡◌, List, drop, take}
use Rattle.values.specs.Datum.{Datum}
use Rattle.view_lang.specs.Shifts.{with_befores}
use Rattle.group_state.specs.Groups.{Keeps}
use Rattle.group_state.specs.Touched.{StayBut, goes}
use Rattle.std.specs.List.{list_any}
use Rattle.group_state.proofs.groups.Groups.remove_all.Given as goal

abbrev pub invariant-loop-changed : goal.invariant-loop-changed
invariant-loop-changed l =
    ((rows : List (List Datum)) → Keeps l.fn.self (with_befores l.changes rows)
    → Keeps l.self (with_befores (drop l.changed-index l.changes) rows))
    × ((l.self.keys ≡ l.fn.self.keys) × ((l.self.columns ≡ l.fn.self.columns)
    × StayBut (λ t. list_any (goes l.fn.self.keys t) (take l.changed-index l.changes)) l.fn.self l.self))
