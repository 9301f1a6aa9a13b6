use Rattle.std.proofs.Common.{arith}
use Rattle.values.specs.Rose.{node, kids_of}
use Rattle.array_layout.specs.Cells.{cell}
use Rattle.body_writer.specs.Slots.{cells_of}
use Rattle.body_writer.proofs.EncodedLemmas.{encoded-step, encoded-over}
use Rattle.body_writer.proofs.from_columns.encoded.push_found.Goals as goal

pub loop-i-preserved : goal.loop-i-preserved
loop-i-preserved c =
    let parts = c.args.range.now.parts in
    record {
      past = omega (arith, c.loop-i.invariant.past);
      cells = encoded-step (cell parts.body.now (node parts.own.now (kids_of parts.children.now))) c.loop-i.i
          c.args.range.now.to
          c.value_of.result c.loop-i.cells.items c.push.new.self.items _ c.loop-i-test.true c.value_of.ensures
          c.in_ok-push.ensures.items
          c.loop-i.invariant.cells;
    }

pub returns : goal.returns
returns c =
    let parts = c.args.range.now.parts in
    encoded-over (cell parts.body.now (node parts.own.now (kids_of parts.children.now))) c.loop-i.i c.args.range.now.to
    (cells_of c.loop-i.cells.items) _ c.loop-i-test.false c.loop-i.invariant.cells
