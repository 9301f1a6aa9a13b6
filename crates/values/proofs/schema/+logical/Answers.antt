use Rattle.values.proofs.Logicals.{logical-step}
use Rattle.values.proofs.schema.+logical.Goals as goal

pub logical_below-loop-field-preserved : goal.logical_below-loop-field-preserved
logical_below-loop-field-preserved t c =
    logical-step c.args.parent.now c.loop-field.logical.items c.push.new.self.items c.loop-field.yielded c.in-Some.field
    c.in_ok-logical_in.field-0
    c.in_ok-push.ensures.items c.in_ok-logical_in.ensures.value c.in_ok-logical_in.ensures.logical
    c.loop-field.invariant
