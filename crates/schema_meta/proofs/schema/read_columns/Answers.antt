use Rattle.schema_meta.proofs.FieldFacts.{few_read}
use Rattle.schema_meta.proofs.ColumnsRead.{all_read}
use Rattle.schema_meta.proofs.schema.read_columns.Goals as goal
use Rattle.values.specs.Limits.{max_fields}

pub null_weights_of-requires : goal.null_weights_of-requires
null_weights_of-requires c =
    rw c.deref.ensures.value
    (few_read c.args.columns.now c.in_ok-fields.fields.items c.in-Some.field-0 max_fields c.in_ok-fields.ensures
    c.in-Some.ensures)

pub returns : goal.returns
returns c =
    let null_weight_within = rw c.deref.ensures.value at c.in-Some-null_weights_of.ensures.value.0 in
    let clear = rw (c.are_consistent.ensures, c.deref-2.ensures.value) at c.if-not-are_consistent.false in
    all_read c.args.columns.now c.in_ok-fields.fields.items c.in-Some.field-0 c.in-Some.ensures c.in_ok-fields.ensures
    null_weight_within clear
