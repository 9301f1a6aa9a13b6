use Rattle.std.proofs.Common.{◌∙◌}
use Rattle.row_keys.proofs.TakenApart.{can_revive, revived_all, revived_more, revived_same}
use Rattle.row_keys.proofs.parts.revive_rows.Goals as goal
use Rattle.row_keys.proofs.parts.revive_rows.Goals.{else-row, then-row}

pub revive-requires : goal.revive-requires
revive-requires c =
    can_revive c.args.rows.now c.loop-row.row-index c.args.len c.row-item.result
    c.loop-row.numbers c.requires.order c.requires.distinct c.requires.given c.loop-row.invariant
    c.loop-row-test.true c.row-item.is c.if-row.true

pub loop-row-preserved : goal.loop-row-preserved
loop-row-preserved c =
    elim c.if-row.branch [
      | then-row w ↦
          w.numbers-is
          ∙ revived_more c.args.rows.now c.loop-row.row-index c.args.len c.row-item.result c.loop-row.numbers
          w.revive.new.self c.requires.order c.loop-row.invariant c.loop-row-test.true c.row-item.is
          w.if-row.true w.revive.ensures
      | else-row w ↦
          w.numbers-is
          ∙ revived_same c.args.rows.now c.loop-row.row-index c.args.len c.row-item.result c.loop-row.numbers
          c.loop-row.invariant c.loop-row-test.true c.row-item.is w.if-row.false
    ]

pub returns : goal.returns
returns c =
    c.loop-row.invariant ∙ revived_all c.args.rows.now c.loop-row.row-index c.args.len c.loop-row-test.false
