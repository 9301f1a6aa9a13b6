use Rattle.std.proofs.Common.{◌≡◌, ◌++◌, drop}
use Rattle.std.specs.Prelude.{map}
use Rattle.body_writer.specs.Texts.{as_bytes, bytes_cells}
use Rattle.body_writer.specs.Locations.{located_cells}
use Rattle.body_writer.proofs.from_locations.gather.texts.Given as goal

abbrev pub invariant-loop-place : goal.invariant-loop-place
invariant-loop-place l =
    bytes_cells l.texts.items ++ map as_bytes (located_cells l.arrays (drop l.place-index l.locations))
    ≡ map as_bytes (located_cells l.arrays l.locations)
