use Rattle.std.proofs.Common.{◌≡◌, ◌++◌, drop}
use Rattle.std.specs.Prelude.{map}
use Rattle.body_writer.specs.Slots.{is_valid}
use Rattle.body_writer.specs.Texts.{bytes_cells}
use Rattle.body_writer.proofs.from_columns.texts.validity.Given as goal

abbrev pub invariant-loop-text : goal.invariant-loop-text
invariant-loop-text l =
    l.bits ++ map is_valid (bytes_cells (drop l.text-index l.texts)) ≡ map is_valid (bytes_cells l.texts)
