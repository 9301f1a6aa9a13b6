use Rattle.std.proofs.Common.{arith}
use Rattle.stream_writer.proofs.PlaceRowLemmas.{all-writable, arrays-many, columns-all, columns-many, columns-more, rows-of-columns}
use Rattle.stream_writer.proofs.locate_rows.located_columns.Goals as goal

pub bounds-arrays-j : goal.bounds-arrays-j
bounds-arrays-j c =
    let many = arrays-many c.args.rows.now c.args.columns.now c.args.arrays.now c.requires.arrays in
    omega (arith, many, c.loop-j-test.true)

pub loop-j-preserved : goal.loop-j-preserved
loop-j-preserved c =
    columns-more c.args.columns.now c.args.rows.now c.args.arrays.now c.loop-j.j c.loop-j.placed.items
    c.push.new.self.items _ c.requires.have c.requires.arrays c.loop-j-test.true c.index-arrays-j.is c.half.ensures
    c.in_ok-push.ensures.items c.loop-j.invariant

pub returns-clause-writable : goal.returns-clause-writable
returns-clause-writable c =
    all-writable c.args.rows.now c.args.columns.now c.loop-j.placed.items
    (columns-all c.args.rows.now c.args.columns.now c.loop-j.j c.loop-j.placed.items c.loop-j-test.false
    c.loop-j.invariant)

pub returns-clause-cells : goal.returns-clause-cells
returns-clause-cells c =
    rows-of-columns c.args.rows.now c.args.columns.now c.loop-j.placed.items
    (columns-all c.args.rows.now c.args.columns.now c.loop-j.j c.loop-j.placed.items c.loop-j-test.false
    c.loop-j.invariant)

pub returns-clause-many : goal.returns-clause-many
returns-clause-many c =
    columns-many c.args.rows.now c.args.columns.now c.loop-j.placed.items
    (columns-all c.args.rows.now c.args.columns.now c.loop-j.j c.loop-j.placed.items c.loop-j-test.false
    c.loop-j.invariant)
