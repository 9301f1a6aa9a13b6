use Rattle.std.proofs.Common.{◌≡◌, ◌++◌, All, drop}
use Rattle.std.specs.Prelude.{map}
use Rattle.values.specs.declared.layout.Layout.{Layout}
use Rattle.body_writer.specs.Runs.{slot_bytes, slot_width}
use Rattle.body_writer.specs.Locations.{Fits, located_cells}
use Rattle.body_writer.proofs.from_locations.gather.words.Given as goal

abbrev pub invariant-loop-place : goal.invariant-loop-place
invariant-loop-place l = (t : Layout) → All (Fits t l.arrays) l.locations → 8 ≡ slot_width t
    → l.words.items ++ map (slot_bytes t) (located_cells l.arrays (drop l.place-index l.locations))
    ≡ map (slot_bytes t) (located_cells l.arrays l.locations)
