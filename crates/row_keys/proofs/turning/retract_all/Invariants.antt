use Rattle.std.proofs.Common.{◌≡◌, drop}
use Rattle.row_keys.specs.Numbers.{AreLive, turned_off}
use Rattle.row_keys.proofs.turning.retract_all.Given as goal

abbrev pub invariant-loop-number : goal.invariant-loop-number
invariant-loop-number l =
    (turned_off (drop l.number-index l.numbers) l.rows ≡ turned_off l.numbers l.fn.rows)
    × AreLive (drop l.number-index l.numbers) l.rows
