use Rattle.std.proofs.Common.{◌≡◌, take}
use Rattle.row_keys.specs.Parts.{retracted_in}
use Rattle.row_keys.proofs.TakenApart.{end_of}
use Rattle.row_keys.proofs.parts.number_rows.Given as goal

abbrev pub invariant-loop-row : goal.invariant-loop-row
invariant-loop-row l = l.numbers ≡ retracted_in (take l.row-index l.rows) (end_of 0 (take l.row-index l.rows))
