use Rattle.std.proofs.Common.{◌≡◌, ◌+◌, ◌≤◌, drop}
use Rattle.body_writer.specs.Slots.{null_count}
use Rattle.body_writer.specs.Locations.{located_cells}
use Rattle.body_writer.proofs.from_locations.gather.count_nulls.Given as goal

abbrev pub invariant-loop-place : goal.invariant-loop-place
invariant-loop-place l = record {
  nulls : l.nulls + null_count (located_cells l.arrays (drop l.place-index l.locations)) ≡ null_count (located_cells l.arrays l.locations);
  bound : l.nulls ≤ l.place-index;
}
