use Rattle.std.proofs.Common.{◌+◌, drop, length, refl}
use Rattle.values.specs.Rose.{kids_of}
use Rattle.values.specs.declared.layout.Layout.TheVariants.{Struct}
use Rattle.body_writer.specs.Batch.{row_cells}
use Rattle.body_writer.proofs.Rows.{write-start}
use Rattle.body_writer.proofs.Ahead.{ahead-first, ahead-call, ahead-next}
use Rattle.body_writer.specs.RowRanges.{column_in, ranges_rows}
use Rattle.body_writer.proofs.RowRangeLemmas.{all-columns}
use Rattle.body_writer.proofs.from_columns.write.write_body_from_columns.Goals as goal

pub loop-j-init : goal.loop-j-init
loop-j-init c =
    write-start (kids_of c.args.layouts.now) (ranges_rows c.args.ranges.now) c.in_ok-body.body c.requires.batch
    c.in_ok-body.ensures.nodes
    c.in_ok-body.ensures.ranges c.in_ok-body.ensures.bytes

pub write_column-requires : goal.write_column-requires
write_column-requires c =
    let layouts = c.args.layouts.now in
    let child = c.index-layouts-j.result in
    let rows = row_cells (ranges_rows c.args.ranges.now) in
    let first =
    ahead-first Struct c.loop-j.j layouts child rows c.loop-j.body _ _ _ c.loop-j-test.true c.index-layouts-j.is
    c.loop-j.invariant in
    let call =
    ahead-call Struct c.loop-j.j child (kids_of (drop (c.loop-j.j + 1) layouts)) rows (column_in c.loop-j.j
    c.args.ranges.now) c.loop-j.body
    _ _ _ refl first in
    record {
      ranges = all-columns (length layouts) c.loop-j.j c.args.ranges.now c.loop-j-test.true c.requires.ranges;
      layouts = call.0;
      held = call.1;
      light = call.2;
    }

pub loop-j-preserved : goal.loop-j-preserved
loop-j-preserved c =
    let layouts = c.args.layouts.now in
    let child = c.index-layouts-j.result in
    let rows = row_cells (ranges_rows c.args.ranges.now) in
    let first =
    ahead-first Struct c.loop-j.j layouts child rows c.loop-j.body _ _ _ c.loop-j-test.true c.index-layouts-j.is
    c.loop-j.invariant in
    ahead-next Struct c.loop-j.j child (kids_of (drop (c.loop-j.j + 1) layouts)) rows (column_in c.loop-j.j
    c.args.ranges.now) c.loop-j.body
    c.write_column.new.body _ _ _ refl first c.in_ok-write_column.ensures
