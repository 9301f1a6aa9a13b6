use Rattle.std.proofs.Common.{◌≡◌, ◌++◌, drop}
use Rattle.std.specs.Prelude.{map}
use Rattle.body_writer.specs.Slots.{is_valid}
use Rattle.body_writer.specs.Locations.{located_cells}
use Rattle.body_writer.proofs.from_locations.gather.validity.Given as goal

abbrev pub invariant-loop-place : goal.invariant-loop-place
invariant-loop-place l =
    l.bits ++ map is_valid (located_cells l.arrays (drop l.place-index l.locations)) ≡ map is_valid (located_cells l.arrays l.locations)
