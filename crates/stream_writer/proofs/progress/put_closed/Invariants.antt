use Rattle.std.proofs.Common.{◌≡◌, List, length}
use Rattle.values.specs.Datum.{Datum}
use Rattle.values.specs.Logical.{NamedType}
use Rattle.values.specs.Rose.{Rose, kids_of}
use Rattle.stream_writer.specs.Progress.{HasPut, IsHeld, last_rows}
use Rattle.stream_writer.specs.Sinks.{Sunk}
use Rattle.stream_writer.specs.Stream.{batch_len}
use Rattle.stream_writer.proofs.progress.put_closed.Given as goal

abbrev pub invariant-loop-alloc : goal.invariant-loop-alloc
invariant-loop-alloc g l = record {
  coded : g.R.RowSource.coded l.left ≡ g.R.RowSource.coded l.fn.rows;
  fits : g.R.RowSource.fits l.left l.layouts;
  counted : l.count ≡ batch_len (kids_of l.layouts) (g.R.RowSource.rows l.left);
  held : (fs : List (Rose NamedType)) (all : List (List Datum))
      → IsHeld fs l.layouts all (g.R.RowSource.rows l.fn.rows) l.fn.written
      → IsHeld fs l.layouts all (g.R.RowSource.rows l.left) l.written;
  last : g.R.RowSource.rows l.left ≡ last_rows (length (g.R.RowSource.rows l.left)) (g.R.RowSource.rows l.fn.rows);
  goes : (start : Sunk) (fs : List (Rose NamedType)) (all : List (List Datum))
      → IsHeld fs l.layouts all (g.R.RowSource.rows l.fn.rows) l.fn.written
      → HasPut start (g.S.Sink.sunk l.fn.sink) l.fn.written fs (g.R.RowSource.coded l.fn.rows) all
      (g.R.RowSource.rows l.fn.rows)
      → HasPut start (g.S.Sink.sunk l.sink) l.written fs (g.R.RowSource.coded l.fn.rows) all
      (g.R.RowSource.rows l.left);
}

abbrev pub decreases-loop-alloc : goal.decreases-loop-alloc
decreases-loop-alloc g l = length (g.R.RowSource.rows l.left)
