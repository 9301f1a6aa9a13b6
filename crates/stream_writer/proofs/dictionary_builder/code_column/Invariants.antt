use Rattle.std.proofs.Common.{◌≡◌, ◌++◌, drop, map, []}
use Rattle.values.specs.Datum.{text}
use Rattle.body_writer.specs.Slots.{cells_of}
use Rattle.stream_writer.specs.Coding.{AreTextCells, index_in, texts_after}
use Rattle.stream_writer.specs.Texts.{texts_in}
use Rattle.stream_writer.proofs.dictionary_builder.code_column.Given as goal

abbrev pub invariant-loop-cell : goal.invariant-loop-cell
invariant-loop-cell l = record {
  left : AreTextCells (cells_of (drop l.cell-index l.cells));
  texts :
      texts_after (texts_in l.builder.texts.keys) (cells_of (drop l.cell-index l.cells)) ≡ texts_after []
      (cells_of l.cells);
  values : cells_of l.builder.values.items ≡ map text (texts_in l.builder.texts.keys);
  indices :
      l.indices.items ++ map (index_in (texts_after [] (cells_of l.cells))) (cells_of (drop l.cell-index l.cells)) ≡
      map
      (index_in (texts_after [] (cells_of l.cells))) (cells_of l.cells);
}
