use Rattle.std.proofs.Common.{drop, map, subst, [], ◌+◌}
use Rattle.body_writer.specs.Slots.{cell_of, cells_of}
use Rattle.stream_writer.specs.Coding.{AreTextCells, index_in, texts_after}
use Rattle.stream_writer.specs.Texts.{texts_in}
use Rattle.stream_writer.proofs.NumberedTexts.{cells-next, indices-more, texts-more}
use Rattle.stream_writer.proofs.dictionary_builder.code_column.Goals as goal

pub append-requires : goal.append-requires
append-requires c =
    let split =
    cells-next c.args.cells.now c.loop-cell.cell-index c.cell-item.result c.loop-cell-test.true c.cell-item.is in
    (subst AreTextCells split c.loop-cell.invariant.left).0

pub loop-cell-preserved : goal.loop-cell-preserved
loop-cell-preserved c =
    let cells = c.args.cells.now in
    let i = c.loop-cell.cell-index in
    let one = cell_of c.cell-item.result in
    let left = cells_of (drop i cells) in
    let rest = cells_of (drop (i + 1) cells) in
    let old = texts_in c.loop-cell.builder.texts.keys in
    let new = texts_in c.append.new.self.texts.keys in
    let all = texts_after [] (cells_of cells) in
    let inv = c.loop-cell.invariant in
    let split = cells-next cells i c.cell-item.result c.loop-cell-test.true c.cell-item.is in
    let own = subst AreTextCells split inv.left in
    record {
      left = own.1;
      texts = texts-more old new all one left rest split c.in_ok-append.ensures.texts inv.texts;
      values = c.in_ok-append.ensures.values inv.values;
      indices =
          indices-more old new all one c.in_ok-append.field-0 left rest c.loop-cell.indices.items
          c.push.new.self.items (map (index_in all) (cells_of cells)) own.0 split inv.texts
          c.in_ok-append.ensures.texts c.in_ok-append.ensures.index c.in_ok-push.ensures.items inv.indices;
    }
