use Rattle.std.proofs.Common.{◌+◌, ◌-◌, ◌≤◌, ◌∙◌, length, arith, sym}
use Rattle.values.specs.Rose.{node, kids_of}
use Rattle.body_writer.proofs.RowRangeLemmas.{cells-long, cell-good, column-slots, column-long, range-column}
use Rattle.body_writer.proofs.from_columns.gather.slots_in.Goals as goal

pub returns-clause-segment : goal.returns-clause-segment
returns-clause-segment c =
    let parts = c.parts-parts.result in
    let columns = c.args.range.now.batch.now.columns.items in
    let column = c.index.result.now in
    let long = column-long columns c.args.j c.args.range.now.batch.now.rows column c.requires.below c.index.ensures
    c.requires.cells in
    let size =
    cells-long parts.body.now (node parts.own.now (kids_of parts.children.now)) column.cells
    c.parts-parts.ensures.cells in
    record {
      checked = record {
        sound = c.parts-parts.ensures.sound;
        valid = λ k lo hi.
            cell-good parts.body.now (node parts.own.now (kids_of parts.children.now)) column.cells k
            c.parts-parts.ensures.cells
            (omega (arith, hi, c.requires.within, long, size));
        order = c.requires.order;
        within = omega (arith, c.requires.within, long, size);
      };
      offsets = c.offset_width.ensures;
    }

pub returns-clause-cells : goal.returns-clause-cells
returns-clause-cells c =
    let parts = c.parts-parts.result in
    let range = c.args.range.now in
    let columns = range.batch.now.columns.items in
    let column = c.index.result.now in
    let long = column-long columns c.args.j range.batch.now.rows column c.requires.below c.index.ensures
    c.requires.cells in
    let room : range.from + (range.to - range.from) ≤ length column.cells = omega (
      arith,
      c.requires.order,
      c.requires.within,
      long,
    ) in
    column-slots parts.body.now (node parts.own.now (kids_of parts.children.now)) column.cells range.from (range.to -
    range.from)
    c.parts-parts.ensures.cells room
    ∙ sym
    (range-column columns c.args.j range.from range.to range.batch.now.rows column c.requires.below c.index.ensures long
    c.requires.order c.requires.within)
