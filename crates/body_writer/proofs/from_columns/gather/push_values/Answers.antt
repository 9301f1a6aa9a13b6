use Rattle.body_writer.proofs.RowRangeLemmas.{values-step}
use Rattle.body_writer.proofs.from_columns.gather.push_values.Goals as goal

pub loop-i-preserved : goal.loop-i-preserved
loop-i-preserved c =
    values-step c.args.column.now.cells c.loop-i.i c.args.to c.in_ok-cell.field-0 c.loop-i.values.items
    c.push.new.self.items _
    c.loop-i-test.true c.requires.within c.in_ok-cell.ensures.value c.in_ok-push.ensures.items c.loop-i.invariant
