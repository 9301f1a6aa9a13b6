use Rattle.std.proofs.Common.{arith}
use Rattle.arrays.proofs.CopyLemmas.{row_after, row_gather}
use Rattle.arrays.proofs.read.+read.Goals as goal

pub read_row-loop-child-preserved : goal.read_row-loop-child-preserved
read_row-loop-child-preserved t c =
    let body = c.args.body.now in
    let children = c.args.children.now in
    let k = c.loop-child.child-index in
    let left = c.loop-child.invariant in (
      row_after body children k _ _ c.args.i c.child-item.is (omega (arith, c.loop-child-test.true)) left.0,
      row_gather body children k _ _ c.args.i c.loop-child.cells.items c.push.new.self.items c.in_ok-read.field-0 _
          c.child-item.is
          (omega (arith, c.loop-child-test.true)) c.in_ok-read.ensures c.in_ok-push.ensures.items left.1,
    )
