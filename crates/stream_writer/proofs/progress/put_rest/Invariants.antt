use Rattle.std.proofs.Common.{◌≡◌, ℕ, ◌++◌, List, length}
use Rattle.values.specs.Datum.{Datum}
use Rattle.values.specs.Logical.{NamedType}
use Rattle.values.specs.Rose.{Rose}
use Rattle.stream_writer.specs.Progress.{IsHeld}
use Rattle.stream_writer.specs.Sinks.{Sunk}
use Rattle.stream_writer.specs.Stream.{batches, end_mark, trees}
use Rattle.stream_writer.specs.WrittenSoFar.{WrittenSoFar}
use Rattle.stream_writer.proofs.progress.put_rest.Given as goal

abbrev pub invariant-loop-alloc : goal.invariant-loop-alloc
invariant-loop-alloc g l = record {
  coded : g.R.RowSource.coded l.left ≡ g.R.RowSource.coded l.fn.rows;
  fits : g.R.RowSource.fits l.left l.layouts;
  held : (fs : List (Rose NamedType)) (all : List (List Datum))
      → IsHeld fs l.layouts all (g.R.RowSource.rows l.fn.rows) l.fn.written
      → IsHeld fs l.layouts all (g.R.RowSource.rows l.left) l.written;
  goes : (start : Sunk) (fs : List (Rose NamedType)) (all : List (List Datum)) (whole : List ℕ)
      → IsHeld fs l.layouts all (g.R.RowSource.rows l.fn.rows) l.fn.written
      → WrittenSoFar start (g.S.Sink.sunk l.fn.sink) l.fn.written whole
      (batches (g.R.RowSource.coded l.fn.rows) (trees fs) (length (g.R.RowSource.rows l.fn.rows)) (g.R.RowSource.rows l.fn.rows) ++ end_mark)
      → WrittenSoFar start (g.S.Sink.sunk l.sink) l.written whole
      (batches (g.R.RowSource.coded l.fn.rows) (trees fs) (length (g.R.RowSource.rows l.left)) (g.R.RowSource.rows l.left) ++ end_mark);
}

abbrev pub decreases-loop-alloc : goal.decreases-loop-alloc
decreases-loop-alloc g l = length (g.R.RowSource.rows l.left)
