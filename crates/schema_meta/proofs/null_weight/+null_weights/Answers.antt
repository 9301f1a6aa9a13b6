use Rattle.std.proofs.Common.{arith}
use Rattle.schema_meta.proofs.Counts.{fields_step}
use Rattle.schema_meta.proofs.SlotLimits.{within_slot_step, slots_step, some_size}
use Rattle.schema_meta.proofs.null_weight.+null_weights.Goals as goal

pub null_weights_of-loop-field-preserved : goal.null_weights_of-loop-field-preserved
null_weights_of-loop-field-preserved t c =
    let null_weights =
    slots_step c.args.fields.now c.loop-field.field-index c.field-item.result c.field-item.result c.field-item.is
    c.loop-field-test.true in
    let fields =
    fields_step c.args.fields.now c.loop-field.field-index c.field-item.result c.field-item.result c.field-item.is
    c.loop-field-test.true in
    let some = some_size c.field-item.result in (
      within_slot_step c.args.fields.now c.loop-field.field-index c.field-item.result c.field-item.result _
          c.field-item.is c.loop-field-test.true c.in_ok-null_weights.ensures.value.0 c.loop-field.invariant.0,
      omega (arith, null_weights, c.in_ok-null_weights.ensures.value.1, c.loop-field.invariant.1),
      omega (arith, fields, some, c.in_ok-null_weights.ensures.bound, c.loop-field.invariant.2),
    )
