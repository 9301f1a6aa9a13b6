use Rattle.std.proofs.Common.{◌≡◌, drop}
use Rattle.view_config.specs.Sides.{find_side}
use Rattle.view_config.proofs.sides.find_side.Given as goal

abbrev pub invariant-loop-index : goal.invariant-loop-index
invariant-loop-index l = find_side l.index l.name (drop l.index l.sides) ≡ find_side 0 l.name l.sides
