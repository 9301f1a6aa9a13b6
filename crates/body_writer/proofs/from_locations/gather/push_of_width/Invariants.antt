use Rattle.std.proofs.Common.{◌≡◌, ◌++◌, All, drop}
use Rattle.std.specs.List.{flat_map}
use Rattle.values.specs.declared.layout.Layout.{Layout}
use Rattle.body_writer.specs.Runs.{slot_bytes, slot_width}
use Rattle.body_writer.specs.Locations.{Fits, located_cells}
use Rattle.body_writer.proofs.from_locations.gather.push_of_width.Given as goal

abbrev pub invariant-loop-place : goal.invariant-loop-place
invariant-loop-place l = (t : Layout) → All (Fits t l.arrays) l.locations → l.width ≡ slot_width t
    → l.out.items ++ flat_map (slot_bytes t) (located_cells l.arrays (drop l.place-index l.locations))
    ≡ l.fn.out.items ++ flat_map (slot_bytes t) (located_cells l.arrays l.locations)
