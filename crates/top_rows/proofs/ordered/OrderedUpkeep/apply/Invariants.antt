use Rattle.std.proofs.Common.{◌≡◌, take}
use Rattle.view_lang.specs.Shifts.{Fits, NumberedRows, patched}
use Rattle.top_rows.specs.Keeping.{Keeps}
use Rattle.top_rows.proofs.ordered.OrderedUpkeep.apply.Given as goal

abbrev pub invariant-loop-changed : goal.invariant-loop-changed
invariant-loop-changed l =
    (l.self.order ≡ l.fn.self.order)
    × ((rows : NumberedRows) → Fits rows l.change → Keeps l.fn.self rows
    → Keeps l.self (patched rows (take l.changed-index l.change)))
