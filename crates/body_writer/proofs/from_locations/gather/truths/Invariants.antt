use Rattle.std.proofs.Common.{◌≡◌, ◌++◌, drop}
use Rattle.std.specs.Prelude.{map}
use Rattle.body_writer.specs.Slots.{truth_in}
use Rattle.body_writer.specs.Locations.{located_cells}
use Rattle.body_writer.proofs.from_locations.gather.truths.Given as goal

abbrev pub invariant-loop-place : goal.invariant-loop-place
invariant-loop-place l =
    l.bits ++ map truth_in (located_cells l.arrays (drop l.place-index l.locations)) ≡ map truth_in (located_cells l.arrays l.locations)
