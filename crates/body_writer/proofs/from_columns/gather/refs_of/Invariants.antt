use Rattle.std.proofs.Common.{◌≡◌, ◌++◌, drop}
use Rattle.body_writer.specs.Slots.{cells_of}
use Rattle.body_writer.proofs.from_columns.gather.refs_of.Given as goal

abbrev pub invariant-loop-value : goal.invariant-loop-value
invariant-loop-value l = cells_of l.refs.items ++ drop l.value-index l.values ≡ l.values
