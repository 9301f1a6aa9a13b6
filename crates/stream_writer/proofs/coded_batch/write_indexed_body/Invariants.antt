use Rattle.body_writer.proofs.Rows.{cells_in}
use Rattle.stream_writer.proofs.IndexedBodies.{Indexing}
use Rattle.stream_writer.proofs.coded_batch.write_indexed_body.Given as goal

abbrev pub invariant-loop-j : goal.invariant-loop-j
invariant-loop-j l = Indexing l.coded l.j l.layouts (cells_in l.rows) l.body
