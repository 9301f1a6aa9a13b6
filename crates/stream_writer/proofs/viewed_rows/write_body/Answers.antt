use Rattle.std.proofs.Common.{◌+◌, ◌∙◌, ◌<◌, ap, arith, drop, length, sym, take}
use Rattle.values.specs.Rose.{kids_of, node, none}
use Rattle.values.specs.declared.layout.Layout.TheVariants.{Struct}
use Rattle.body_writer.specs.Batch.{row_cells}
use Rattle.body_writer.proofs.Ahead.{ahead-call, ahead-next}
use Rattle.body_writer.proofs.Rows.{body-done, write-start}
use Rattle.stream_writer.specs.ViewedRows.{viewed_columns, views_left}
use Rattle.stream_writer.proofs.BatchRowLemmas.{rows_from-length}
use Rattle.stream_writer.proofs.ViewLemmas.{below-is, flat-at, flat-own, long-at, writing-first}
use Rattle.stream_writer.proofs.viewed_rows.write_body.Goals as goal

pub loop-j-init : goal.loop-j-init
loop-j-init c =
    write-start (kids_of c.args.layouts.now) (take c.args.count (views_left c.args.rows.now)) c.in_ok-body.body
    c.requires.batch c.in_ok-body.ensures.nodes c.in_ok-body.ensures.ranges c.in_ok-body.ensures.bytes

pub slice_bounds-cells-end : goal.slice_bounds-cells-end
slice_bounds-cells-end c =
    let r = c.args.rows.now in
    let many = rows_from-length (viewed_columns r.columns.now) r.from r.left in
    let long =
    long-at r.columns.now (r.from + r.left) c.loop-j.j c.index-rows-j.result (omega (
      arith,
      c.loop-j-test.true,
      c.requires.fits.many,
    )) c.index-rows-j.is c.requires.fits.long in
    let same = ap length (c.deref.ensures.value ∙ ap (λ v. v.items) (sym c.index-rows-j.is)) in
    omega (arith, many, long, same, c.requires.within)

pub write_column_from_cells-requires : goal.write_column_from_cells-requires
write_column_from_cells-requires c =
    let r = c.args.rows.now in
    let ls = c.args.layouts.now in
    let j = c.loop-j.j in
    let tree = c.index-layouts-j.result in
    let column = c.index-rows-j.result in
    let l = c.tree.inside.layout in
    let rows = row_cells (take c.args.count (views_left r)) in
    let many = rows_from-length (viewed_columns r.columns.now) r.from r.left in
    let within : j < length r.columns.now = omega (arith, c.loop-j-test.true, c.requires.fits.many) in
    let own =
    flat-own tree l (kids_of c.tree.inside.children.items) (sym c.tree.view_is)
    (flat-at ls j tree tree c.loop-j-test.true c.index-layouts-j.is c.requires.fits.flat) in
    let below =
    below-is r.columns.now r.from r.left c.args.count j column c.deref.result.now within c.index-rows-j.is
    (c.deref.ensures.value ∙ ap (λ v. v.items) (sym c.index-rows-j.is))
    (long-at r.columns.now (r.from + r.left) j column within c.index-rows-j.is c.requires.fits.long)
    (omega (arith, many, c.requires.within)) in
    let call =
    ahead-call Struct j (node l none) (kids_of (drop (j + 1) ls)) rows _ c.loop-j.body _ _ _ below
    (writing-first j ls tree l rows c.loop-j.body _ _ _ c.loop-j-test.true c.index-layouts-j.is own
    c.loop-j.invariant) in
    record { layouts = call.0; held = call.1; light = call.2 }

pub loop-j-preserved : goal.loop-j-preserved
loop-j-preserved c =
    let r = c.args.rows.now in
    let ls = c.args.layouts.now in
    let j = c.loop-j.j in
    let tree = c.index-layouts-j.result in
    let column = c.index-rows-j.result in
    let l = c.tree.inside.layout in
    let rows = row_cells (take c.args.count (views_left r)) in
    let many = rows_from-length (viewed_columns r.columns.now) r.from r.left in
    let within : j < length r.columns.now = omega (arith, c.loop-j-test.true, c.requires.fits.many) in
    let own =
    flat-own tree l (kids_of c.tree.inside.children.items) (sym c.tree.view_is)
    (flat-at ls j tree tree c.loop-j-test.true c.index-layouts-j.is c.requires.fits.flat) in
    let below =
    below-is r.columns.now r.from r.left c.args.count j column c.deref.result.now within c.index-rows-j.is
    (c.deref.ensures.value ∙ ap (λ v. v.items) (sym c.index-rows-j.is))
    (long-at r.columns.now (r.from + r.left) j column within c.index-rows-j.is c.requires.fits.long)
    (omega (arith, many, c.requires.within)) in
    ahead-next Struct j (node l none) (kids_of (drop (j + 1) ls)) rows _ c.loop-j.body
    c.write_column_from_cells.new.body _ _ _ below
    (writing-first j ls tree l rows c.loop-j.body _ _ _ c.loop-j-test.true c.index-layouts-j.is own
    c.loop-j.invariant)
    c.in_ok-write_column_from_cells.ensures

pub returns : goal.returns
returns c =
    let done =
    body-done c.args.layouts.now (take c.args.count (views_left c.args.rows.now)) c.loop-j.j c.loop-j.body
    c.loop-j-test.false c.loop-j.invariant in
    record { nodes = done.0; ranges = done.1; bytes = done.2 }
