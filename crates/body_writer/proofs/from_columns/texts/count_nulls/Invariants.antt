use Rattle.std.proofs.Common.{◌≡◌, ◌+◌, ◌≤◌, drop}
use Rattle.body_writer.specs.Slots.{null_count}
use Rattle.body_writer.specs.Texts.{bytes_cells}
use Rattle.body_writer.proofs.from_columns.texts.count_nulls.Given as goal

abbrev pub invariant-loop-text : goal.invariant-loop-text
invariant-loop-text l = record {
  nulls : l.nulls + null_count (bytes_cells (drop l.text-index l.texts)) ≡ null_count (bytes_cells l.texts);
  bound : l.nulls ≤ l.text-index;
}
