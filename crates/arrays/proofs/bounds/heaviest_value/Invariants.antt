use Rattle.std.proofs.Common.{◌+◌, ◌≤◌, get_or}
use Rattle.values.specs.Limits.{max_cell_weight}
use Rattle.values.specs.Rose.{node, none}
use Rattle.values.specs.Datum.{null}
use Rattle.values.specs.Layouts.{null_weight, weight}
use Rattle.arrays.specs.Bounds.{IsBound}
use Rattle.arrays.proofs.bounds.heaviest_value.Given as goal

abbrev pub invariant-loop-k : goal.invariant-loop-k
invariant-loop-k l =
    IsBound l.most (null_weight (node l.dictionary.layout none)) l.k
    (λ k. weight (node l.dictionary.layout none) (get_or l.dictionary.values k null))
    × (l.most ≤ max_cell_weight + 1)
