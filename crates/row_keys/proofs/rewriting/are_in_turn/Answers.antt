use Rattle.std.proofs.Common.{arith}
use Rattle.row_keys.proofs.GatheredRows.{turn_end}
use Rattle.row_keys.proofs.rewriting.are_in_turn.Goals as goal

pub returns : goal.returns
returns c = λ _.
    let end = c.loop-index-test.false in
    turn_end c.args.numbers.now c.args.first (λ k below. c.loop-index.invariant k (omega (arith, below, end)))
