use Rattle.std.proofs.Common.{◌≡◌, drop}
use Rattle.sub_groups.specs.FilterParts.{are_decided}
use Rattle.sub_groups.proofs.filter_parts.are_decided.Given as goal

abbrev pub invariant-loop-part : goal.invariant-loop-part
invariant-loop-part l = are_decided l.width l.keys (drop l.part-index l.parts) ≡ are_decided l.width l.keys l.parts
