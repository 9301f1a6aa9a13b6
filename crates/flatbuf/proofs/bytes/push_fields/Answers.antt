use Rattle.std.proofs.Common.{◌∙◌, arith}
use Rattle.flatbuf.specs.Slots.{view}
use Rattle.flatbuf.proofs.Ends.{next-fits, next-objects, next-fields, object_end-le}
use Rattle.flatbuf.proofs.PushLemmas.{fields-more}
use Rattle.flatbuf.proofs.bytes.push_fields.Goals as goal

pub loop-slot-preserved : goal.loop-slot-preserved
loop-slot-preserved c =
    let at = c.loop-slot.free in
    let xs = c.args.slots.now in
    let x = c.slot-item.result in
    let inv = c.loop-slot.invariant in
    let fits = next-fits xs c.loop-slot.slot-index x c.loop-slot-test.true c.slot-item.is inv.fits in
    let ends = next-objects at xs c.loop-slot.slot-index x c.loop-slot-test.true c.slot-item.is in
    let field_ends = next-fields c.loop-slot.end xs c.loop-slot.slot-index x c.loop-slot-test.true c.slot-item.is in
    let low = object_end-le at (view x) fits.0 in
    let more =
    fields-more c.loop-slot.out.items c.args.table c.loop-slot.end at xs c.loop-slot.slot-index x
    c.loop-slot-test.true c.slot-item.is in
    record {
      fits = fits.1;
      field = rw (c.end_of_field-end.ensures.value) (field_ends ∙ inv.field);
      object = rw (c.end_of_object-free.ensures.value) (ends ∙ inv.object);
      behind = rw (c.end_of_object-free.ensures.value) (omega (arith, low, inv.behind));
      bytes = rw (
        c.in_ok-push_content.ensures,
        c.in_ok-push_zeros.ensures,
        c.end_of_object-free.ensures.value,
        c.end_of_field-end.ensures.value,
        c.place_of_field-field.ensures.value,
      ) (more ∙ inv.bytes);
    }
