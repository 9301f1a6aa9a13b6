use Rattle.std.proofs.Common.{◌≡◌, map, take}
use Rattle.row_keys.specs.Parts.{part_of}
use Rattle.row_keys.proofs.numbers.rows_of.Given as goal

abbrev pub invariant-loop-one : goal.invariant-loop-one
invariant-loop-one l = l.rows.items ≡ map (part_of l.keys) (take l.one-index l.kept)
