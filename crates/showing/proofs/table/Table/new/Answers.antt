use Rattle.showing.proofs.Widths.{names-taken}
use Rattle.showing.proofs.table.Table.new.Goals as goal

pub loop-field-preserved : goal.loop-field-preserved
loop-field-preserved c =
    names-taken c.args.fields.now c.loop-field.widths.items c.push.new.self.items c.loop-field.field-index
    c.field-item.result _ c.loop-field.invariant c.field-item.is c.loop-field-test.true c.name_width.ensures
    c.in_ok-push.ensures.items
