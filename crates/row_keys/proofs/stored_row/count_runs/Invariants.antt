use Rattle.std.proofs.Common.{◌≡◌, ◌+◌, ◌≤◌, drop}
use Rattle.row_keys.specs.Runs.{runs_in, turns_from}
use Rattle.row_keys.proofs.stored_row.count_runs.Given as goal

abbrev pub invariant-loop-number : goal.invariant-loop-number
invariant-loop-number l =
    (l.runs + turns_from l.last (drop l.number-index l.rest) ≡ runs_in l.numbers) × (l.runs ≤ l.number-index + 1)
