use Rattle.std.proofs.Common.{◌≡◌, List, take}
use Rattle.values.specs.Datum.{Datum}
use Rattle.view_lang.specs.Shifts.{with_afters}
use Rattle.group_state.specs.Groups.{Keeps}
use Rattle.group_state.specs.Touched.{StayBut, comes}
use Rattle.std.specs.List.{list_any}
use Rattle.group_state.proofs.groups.Groups.add_all.Given as goal

abbrev pub invariant-loop-changed : goal.invariant-loop-changed
invariant-loop-changed l =
    ((rows : List (List Datum)) → Keeps l.fn.self rows
    → Keeps l.self (with_afters (take l.changed-index l.changes) rows))
    × ((l.self.keys ≡ l.fn.self.keys) × ((l.self.columns ≡ l.fn.self.columns)
    × StayBut (λ t. list_any (comes l.fn.self.keys t) (take l.changed-index l.changes)) l.fn.self l.self))
