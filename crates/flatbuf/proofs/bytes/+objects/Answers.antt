use Rattle.std.proofs.Common.{rules, arith, append_assoc, refl}
use denote.Param.Weighed.{at_most}
use Rattle.flatbuf.proofs.Ends.{next-fits, next-object}
use Rattle.flatbuf.proofs.Views.{view-Table, view-References}
use Rattle.flatbuf.proofs.bytes.+objects.Goals as goal

pub push_objects-push_object-requires : goal.push_objects-push_object-requires
push_objects-push_object-requires t c =
    let i = c.loop-slot.slot-index in
    let xs = c.args.slots.now in
    let x = c.slot-item.result in
    let fits = next-fits xs i x c.loop-slot-test.true c.slot-item.is c.loop-slot.invariant.fits in
    let short = next-object c.loop-slot.free xs i x c.loop-slot-test.true c.slot-item.is c.loop-slot.invariant.fits in
    let end = c.loop-slot.invariant.end in
    let room = c.requires.room in
    (search (rules, at_most), (fits.0, omega (arith, short, end, room)))

pub push_object-returns-in_ok-push_objects-in-Table : goal.push_object-returns-in_ok-push_objects-in-Table
push_object-returns-in_ok-push_objects-in-Table t c =
    rw (
      c.in-Table.is,
      view-Table c.in-Table.slots,
      c.in_ok-push_objects-in-Table.ensures,
      c.in_ok-push_table-in-Table.ensures,
      c.end_of_table.ensures.value,
      c.deref-in-Table.ensures.value,
      c.deref-in-Table-2.ensures.value,
      c.deref-in-Table-3.ensures.value,
    )
    (simp append_assoc refl)

pub push_object-returns-in_ok-push_objects-in-References : goal.push_object-returns-in_ok-push_objects-in-References
push_object-returns-in_ok-push_objects-in-References t c =
    rw (
      c.in-References.is,
      view-References c.in-References.slots,
      c.in_ok-push_objects-in-References.ensures,
      c.in_ok-push_references-in-References.ensures,
      c.end_of_items.ensures.value,
      c.deref-in-References.ensures.value,
      c.deref-in-References-2.ensures.value,
      c.deref-in-References-3.ensures.value,
    )
    (simp append_assoc refl)
