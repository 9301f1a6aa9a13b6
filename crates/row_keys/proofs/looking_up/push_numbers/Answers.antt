use Rattle.std.proofs.Common.{◌∙◌, List, ap, arith}
use Rattle.values.specs.CellViews.{shallow}
use Rattle.arrays.specs.Checked.{CheckedColumn}
use Rattle.body_writer.specs.RowRanges.{cells_in}
use Rattle.schema_meta.specs.Rows.{row_at}
use Rattle.view_lang.specs.Cells.{cell_at}
use Rattle.row_keys.proofs.SideLookups.{live_more, looked_more, looked_over}
use Rattle.row_keys.proofs.looking_up.push_numbers.Goals as goal

pub loop-index-preserved : goal.loop-index-preserved
loop-index-preserved c =
    let range = c.args.range.now in
    let cells = cells_in range.batch.now.columns.items in
    let l = c.loop-index in
    let finds = c.in_ok-find_cell.ensures.number (cell_at (row_at cells l.index) c.args.on)
    (c.cell_at-cell.ensures
    ∙ ap (λ (cs : List CheckedColumn). shallow (cell_at (row_at (cells_in cs) l.index) c.args.on)) c.deref.ensures.value) in
    record {
      past = omega (arith, l.invariant.past);
      rows = looked_more c.args.side.now c.args.on cells range.batch.now.rows l.index range.to _ l.numbers.items
          c.push.new.self.items c.in_ok-push.ensures.items finds _ c.loop-index-test.true c.requires.range.1.within
          l.invariant.rows;
      live = λ live. live_more c.args.side.now c.args.on cells range.batch.now.rows l.index range.to _ l.numbers.items
          c.push.new.self.items c.in_ok-push.ensures.items finds (l.invariant.live live);
      found = c.in_ok-find_cell.ensures.found;
    }

pub returns-clause-rows : goal.returns-clause-rows
returns-clause-rows c =
    let range = c.args.range.now in
    looked_over c.args.side.now c.args.on (cells_in range.batch.now.columns.items) range.batch.now.rows
    c.loop-index.index range.to c.loop-index.numbers.items _ c.loop-index-test.false c.loop-index.invariant.rows
