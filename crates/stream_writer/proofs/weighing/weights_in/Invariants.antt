use Rattle.std.proofs.Common.{◌≡◌, ◌++◌, All, drop}
use Rattle.values.specs.Rose.{Roses}
use Rattle.values.specs.declared.layout.Layout.{Layout}
use Rattle.body_writer.specs.RowRanges.{rows_of}
use Rattle.stream_writer.specs.Weights.{weights_of}
use Rattle.stream_writer.specs.Weights.{WeighsAs}
use Rattle.stream_writer.proofs.weighing.weights_in.Given as goal

abbrev pub invariant-loop-batch : goal.invariant-loop-batch
invariant-loop-batch l = (ls : Roses Layout) → All (WeighsAs ls) l.batches
    → l.weights.items ++ weights_of ls (rows_of (drop l.batch-index l.batches)) ≡ weights_of ls (rows_of l.batches)
