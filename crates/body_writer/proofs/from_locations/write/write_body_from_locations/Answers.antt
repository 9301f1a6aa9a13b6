use Rattle.std.proofs.Common.{◌+◌, ◌<◌, drop, length, arith}
use Rattle.values.specs.Rose.{kids_of}
use Rattle.values.specs.declared.layout.Layout.TheVariants.{Struct}
use Rattle.body_writer.specs.Batch.{row_cells}
use Rattle.body_writer.specs.Locations.{column_cells}
use Rattle.body_writer.proofs.Rows.{body-done, body-sized, write-start}
use Rattle.body_writer.proofs.Ahead.{ahead-first, ahead-call, ahead-next}
use Rattle.body_writer.proofs.LocatedColumns.{column-there}
use Rattle.body_writer.proofs.from_locations.write.write_body_from_locations.Goals as goal

pub loop-j-init : goal.loop-j-init
loop-j-init c = λ rows made.
    write-start (kids_of c.args.layouts.now) rows c.in_ok-body.body made.batch c.in_ok-body.ensures.nodes
    c.in_ok-body.ensures.ranges c.in_ok-body.ensures.bytes

pub write_located-requires-clause-held : goal.write_located-requires-clause-held
write_located-requires-clause-held c =
    let layouts = c.args.layouts.now in
    let child = c.index-layouts-j.result in
    let columns = c.args.columns.now in
    let column = c.index-columns-j.result in
    let inside : c.loop-j.j < length columns = omega (arith, c.loop-j-test.true, c.requires.many) in
    let rows = c.requires.rows.0 in
    let made = c.requires.rows.1 in
    let first =
    ahead-first Struct c.loop-j.j layouts child (row_cells rows) c.loop-j.body _ _ _ c.loop-j-test.true
    c.index-layouts-j.is (c.loop-j.invariant rows made) in
    (ahead-call Struct c.loop-j.j child (kids_of (drop (c.loop-j.j + 1) layouts)) (row_cells rows)
    (column_cells column) c.loop-j.body _ _ _
    (column-there columns rows c.loop-j.j column made.cells inside c.index-columns-j.is) first).1

pub write_located-requires-clause-light : goal.write_located-requires-clause-light
write_located-requires-clause-light c =
    let layouts = c.args.layouts.now in
    let child = c.index-layouts-j.result in
    let columns = c.args.columns.now in
    let column = c.index-columns-j.result in
    let inside : c.loop-j.j < length columns = omega (arith, c.loop-j-test.true, c.requires.many) in
    let rows = c.requires.rows.0 in
    let made = c.requires.rows.1 in
    let first =
    ahead-first Struct c.loop-j.j layouts child (row_cells rows) c.loop-j.body _ _ _ c.loop-j-test.true
    c.index-layouts-j.is (c.loop-j.invariant rows made) in
    (ahead-call Struct c.loop-j.j child (kids_of (drop (c.loop-j.j + 1) layouts)) (row_cells rows)
    (column_cells column) c.loop-j.body _ _ _
    (column-there columns rows c.loop-j.j column made.cells inside c.index-columns-j.is) first).2

pub loop-j-preserved : goal.loop-j-preserved
loop-j-preserved c = λ rows made.
    let layouts = c.args.layouts.now in
    let child = c.index-layouts-j.result in
    let columns = c.args.columns.now in
    let column = c.index-columns-j.result in
    let inside : c.loop-j.j < length columns = omega (arith, c.loop-j-test.true, c.requires.many) in
    let first =
    ahead-first Struct c.loop-j.j layouts child (row_cells rows) c.loop-j.body _ _ _ c.loop-j-test.true
    c.index-layouts-j.is (c.loop-j.invariant rows made) in
    ahead-next Struct c.loop-j.j child (kids_of (drop (c.loop-j.j + 1) layouts)) (row_cells rows)
    (column_cells column) c.loop-j.body c.write_located.new.body _ _ _
    (column-there columns rows c.loop-j.j column made.cells inside c.index-columns-j.is) first
    c.in_ok-write_located.ensures

pub returns-clause-nodes : goal.returns-clause-nodes
returns-clause-nodes c = λ rows made.
    (body-done c.args.layouts.now rows c.loop-j.j c.loop-j.body c.loop-j-test.false
    (c.loop-j.invariant rows made)).0

pub returns-clause-ranges : goal.returns-clause-ranges
returns-clause-ranges c = λ rows made.
    (body-done c.args.layouts.now rows c.loop-j.j c.loop-j.body c.loop-j-test.false
    (c.loop-j.invariant rows made)).1

pub returns-clause-bytes : goal.returns-clause-bytes
returns-clause-bytes c = λ rows made.
    (body-done c.args.layouts.now rows c.loop-j.j c.loop-j.body c.loop-j-test.false
    (c.loop-j.invariant rows made)).2

pub returns-clause-size : goal.returns-clause-size
returns-clause-size c =
    let rows = c.requires.rows.0 in
    let made = c.requires.rows.1 in
    body-sized (kids_of c.args.layouts.now) rows c.loop-j.body.bytes.items made.batch
    (body-done c.args.layouts.now rows c.loop-j.j c.loop-j.body c.loop-j-test.false
    (c.loop-j.invariant rows made)).2
