use Rattle.std.proofs.Common.{◌≡◌, length}
use Rattle.row_keys.specs.Numbers.{AreLive, turned_off}
use Rattle.row_keys.proofs.LastRows.{from}
use Rattle.row_keys.proofs.turning.retract_from.Given as goal

abbrev pub invariant-loop-number : goal.invariant-loop-number
invariant-loop-number l =
    (turned_off (from l.number (length l.fn.rows)) l.rows ≡ turned_off (from l.first (length l.fn.rows)) l.fn.rows)
    × AreLive (from l.number (length l.fn.rows)) l.rows
