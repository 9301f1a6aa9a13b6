use Rattle.row_keys.proofs.LastRows.{live_next, off_next}
use Rattle.row_keys.proofs.turning.retract_from.Goals as goal
use Rattle.std.proofs.Common.{arith, length}

pub loop-number-preserved : goal.loop-number-preserved
loop-number-preserved c = (
  off_next c.loop-number.number (length c.args.rows.now) c.loop-number.rows c.retract.new.self _
      (omega (arith, c.loop-number-test.true, c.len-number-end.ensures.value)) c.retract.ensures
      c.loop-number.invariant.0,
  (live_next c.loop-number.number (length c.args.rows.now) c.loop-number.rows c.retract.new.self
      (omega (arith, c.loop-number-test.true, c.len-number-end.ensures.value)) c.retract.ensures
      c.loop-number.invariant.1).1,
)
