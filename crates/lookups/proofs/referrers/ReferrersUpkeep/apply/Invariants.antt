use Rattle.lookups.proofs.referrers.ReferrersUpkeep.apply.Given as goal
use Rattle.lookups.specs.Keeping.{Keeps}
use Rattle.std.proofs.Common.{take}
use Rattle.view_lang.specs.Shifts.{Fits, NumberedRows, patched}

abbrev pub invariant-loop-changed : goal.invariant-loop-changed
invariant-loop-changed l =
    (rows : NumberedRows) → Fits rows l.change → Keeps l.fn.self rows
    → Keeps l.self (patched rows (take l.changed-index l.change))
