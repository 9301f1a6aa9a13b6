use Rattle.body_writer.proofs.RowRuns.{RunSoFar}
use Rattle.body_writer.proofs.from_locations.cells.segments_at.Given as goal

abbrev pub invariant-loop-place : goal.invariant-loop-place
invariant-loop-place l =
    RunSoFar l.j l.batches l.locations l.place-index l.segments.items l.run.batch l.run.from l.run.to
