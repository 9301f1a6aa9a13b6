use Rattle.std.proofs.Common.{◌+◌, ◌<◌, drop, get_or, length, arith, refl}
use Rattle.values.specs.Rose.{kids_of}
use Rattle.values.specs.declared.layout.Layout.TheVariants.{Struct}
use Rattle.body_writer.specs.Batch.{row_cells}
use Rattle.body_writer.proofs.Rows.{write-start}
use Rattle.body_writer.proofs.Ahead.{ahead-first, ahead-call, ahead-next}
use Rattle.body_writer.specs.RowRanges.{column_in, ranges_rows}
use Rattle.body_writer.specs.Picked.{picked_rows}
use Rattle.body_writer.proofs.PickedLemmas.{picked-column, picked-there}
use Rattle.body_writer.proofs.from_columns.picked.write_body_from_picked_columns.Goals as goal

pub loop-j-init : goal.loop-j-init
loop-j-init c =
    write-start (kids_of c.args.layouts.now) (picked_rows c.args.columns.now (ranges_rows c.args.ranges.now))
    c.in_ok-body.body c.requires.batch c.in_ok-body.ensures.nodes c.in_ok-body.ensures.ranges
    c.in_ok-body.ensures.bytes

pub write_column-requires : goal.write_column-requires
write_column-requires c =
    let layouts = c.args.layouts.now in
    let columns = c.args.columns.now in
    let child = c.index-layouts-j.result in
    let k = get_or columns c.loop-j.j 0 in
    let rows = row_cells (picked_rows columns (ranges_rows c.args.ranges.now)) in
    let inside : c.loop-j.j < length columns = omega (arith, c.loop-j-test.true, c.requires.many) in
    let first =
    ahead-first Struct c.loop-j.j layouts child rows c.loop-j.body _ _ _ c.loop-j-test.true c.index-layouts-j.is
    c.loop-j.invariant in
    let call =
    ahead-call Struct c.loop-j.j child (kids_of (drop (c.loop-j.j + 1) layouts)) rows (column_in k c.args.ranges.now)
    c.loop-j.body
    _ _ _ (picked-column columns c.args.ranges.now c.loop-j.j k inside refl) first in
    record {
      ranges = picked-there c.requires.ranges.0 columns c.args.ranges.now c.loop-j.j k c.requires.ranges.1 inside
          refl;
      layouts = call.0;
      held = call.1;
      light = call.2;
    }

pub loop-j-preserved : goal.loop-j-preserved
loop-j-preserved c =
    let layouts = c.args.layouts.now in
    let columns = c.args.columns.now in
    let child = c.index-layouts-j.result in
    let k = get_or columns c.loop-j.j 0 in
    let rows = row_cells (picked_rows columns (ranges_rows c.args.ranges.now)) in
    let inside : c.loop-j.j < length columns = omega (arith, c.loop-j-test.true, c.requires.many) in
    let first =
    ahead-first Struct c.loop-j.j layouts child rows c.loop-j.body _ _ _ c.loop-j-test.true c.index-layouts-j.is
    c.loop-j.invariant in
    ahead-next Struct c.loop-j.j child (kids_of (drop (c.loop-j.j + 1) layouts)) rows (column_in k c.args.ranges.now)
    c.loop-j.body
    c.write_column.new.body _ _ _ (picked-column columns c.args.ranges.now c.loop-j.j k inside refl)
    first c.in_ok-write_column.ensures
