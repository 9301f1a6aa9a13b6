use Rattle.std.proofs.Common.{◌∙◌, arith}
use Rattle.flatbuf.specs.Slots.{view}
use Rattle.flatbuf.proofs.Ends.{next-fits, next-objects, object_end-le}
use Rattle.flatbuf.proofs.PushLemmas.{elements-more}
use Rattle.flatbuf.proofs.bytes.push_elements.Goals as goal

pub loop-slot-preserved : goal.loop-slot-preserved
loop-slot-preserved c =
    let at = c.loop-slot.free in
    let xs = c.args.slots.now in
    let x = c.slot-item.result in
    let inv = c.loop-slot.invariant in
    let fits = next-fits xs c.loop-slot.slot-index x c.loop-slot-test.true c.slot-item.is inv.fits in
    let ends = next-objects at xs c.loop-slot.slot-index x c.loop-slot-test.true c.slot-item.is in
    let low = object_end-le at (view x) fits.0 in
    let more =
    elements-more c.loop-slot.out.items c.loop-slot.element at xs c.loop-slot.slot-index x c.loop-slot-test.true
    c.slot-item.is in
    record {
      fits = fits.1;
      object = rw (c.end_of_object-free.ensures.value) (ends ∙ inv.object);
      behind = rw (c.end_of_object-free.ensures.value) (omega (arith, low, inv.behind));
      place = omega (arith, inv.place);
      bytes = rw (c.in_ok-push_number.ensures, c.end_of_object-free.ensures.value, c.place_of_object.ensures.value)
          (more ∙ inv.bytes);
    }
