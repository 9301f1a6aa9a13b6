use Rattle.std.proofs.Common.{◌≡◌, ◌++◌, ◌+◌, drop}
use Rattle.std.specs.Prelude.{map}
use Rattle.body_writer.specs.Slots.{total_length, length_in}
use Rattle.body_writer.specs.Columns.{offsets, offsets_from}
use Rattle.body_writer.specs.Texts.{bytes_cells}
use Rattle.body_writer.proofs.from_columns.texts.push_offsets.Given as goal

abbrev pub invariant-loop-text : goal.invariant-loop-text
invariant-loop-text l = record {
  end : l.end + total_length (bytes_cells (drop l.text-index l.texts)) ≡ total_length (bytes_cells l.texts);
  bytes : l.out.items ++ offsets_from l.width l.end (map length_in (bytes_cells (drop l.text-index l.texts))) ≡ l.fn.out.items
      ++ offsets l.width (bytes_cells l.texts);
}
