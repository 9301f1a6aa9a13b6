use Rattle.std.proofs.Common.{ap, ◌∙◌, rules}
use Rattle.showing.specs.Fields.{entry}
use Rattle.showing.proofs.WrittenParts.{leaves-item}
use Rattle.showing.proofs.Lists.{names-step}
use Rattle.showing.proofs.csv.write_csv_names.Goals as goal

pub loop-field-preserved : goal.loop-field-preserved
loop-field-preserved g c = record {
  text = search rules;
  wrote = leaves-item _ _ _ _ _ _ _ _ _ c.loop-field.invariant.wrote c.in_ok-write.ensures.bytes
      c.in_ok-write_field.ensures
      (names-step c.args.fields.now c.loop-field.field-index c.field-item.result c.as_bytes.result.now _ _
      c.field-item.is c.loop-field-test.true
      (c.as_bytes.ensures.value ∙ ap (λ f. (entry f).name) c.field.view_is));
}
