use Rattle.std.proofs.Common.{◌+◌, ◌≤◌}
use Rattle.values.specs.Limits.{max_cell_weight}
use Rattle.values.specs.Rose.{node, none}
use Rattle.values.specs.Layouts.{null_weight}
use Rattle.array_layout.specs.Placing.{bytes_of}
use Rattle.array_layout.specs.Cells.{coded_by}
use Rattle.arrays.specs.Bounds.{IsBound}
use Rattle.arrays.specs.Weights.{encoded_weight}
use Rattle.arrays.proofs.bounds.heaviest_slot.Given as goal

abbrev pub invariant-loop-i : goal.invariant-loop-i
invariant-loop-i l =
    IsBound l.most (null_weight (node l.dictionary.layout none)) l.i
    (λ i. encoded_weight l.dictionary.layout
    (coded_by l.own.layout l.dictionary.values (bytes_of l.body l.own.values) i))
    × (l.most ≤ max_cell_weight + 1)
