use Rattle.std.proofs.Common.{arith}
use Rattle.group_state.specs.AccumulatedColumns.{counted}
use Rattle.group_state.specs.Rows.{cells}
use Rattle.group_state.proofs.Halfway.{cells-few, halfway-all, halfway-more, halfway-none}
use Rattle.group_state.proofs.group.add_each.Goals as goal

pub add-requires : goal.add-requires
add-requires g c =
    let rows = c.requires.0 in (
      _,
      cells _ rows,
      (
        (c.loop-i.invariant rows c.requires.1.0).ahead c.loop-i.i (counted 0) c.index-tallies-i.result (omega arith)
            c.loop-i-test.true,
        cells-few _ rows c.requires.1.1,
      ),
    )

pub loop-i-init : goal.loop-i-init
loop-i-init g c = λ rows k. halfway-none _ _ _ _ k

pub loop-i-preserved : goal.loop-i-preserved
loop-i-preserved g c = λ rows k.
    let h = c.loop-i.invariant rows k in
    halfway-more _ _ _ _ _ _ h c.loop-i-test.true _
    (c.in_ok-add.ensures _ (cells _ rows)
    (h.ahead c.loop-i.i _ c.index-tallies-i.result (omega arith) c.loop-i-test.true))

pub returns : goal.returns
returns g c = λ rows k. halfway-all _ _ _ _ _ c.loop-i-test.false (c.loop-i.invariant rows k)
