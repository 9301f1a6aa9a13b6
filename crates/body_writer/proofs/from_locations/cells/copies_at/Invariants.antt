use Rattle.std.proofs.Common.{◌≡◌, ◌++◌, drop}
use Rattle.body_writer.specs.Locations.{cells_at}
use Rattle.body_writer.proofs.from_locations.cells.copies_at.Given as goal

abbrev pub invariant-loop-place : goal.invariant-loop-place
invariant-loop-place l =
    l.cells.items ++ cells_at l.j l.batches (drop l.place-index l.locations) ≡ cells_at l.j l.batches l.locations
