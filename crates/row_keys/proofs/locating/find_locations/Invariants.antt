use Rattle.std.proofs.Common.{take}
use Rattle.row_keys.specs.Locations.{AreAtLocations}
use Rattle.row_keys.specs.Stretches.{IsStretch}
use Rattle.row_keys.proofs.locating.find_locations.Given as goal

abbrev pub invariant-loop-number : goal.invariant-loop-number
invariant-loop-number l = record {
  places : AreAtLocations l.chunks (take l.number-index l.numbers) l.locations.items;
  stretch : IsStretch l.chunks l.stretch;
}
