use Rattle.std.proofs.Common.{rules, arith}
use denote.Param.Weighed.{at_most}
use Rattle.flatbuf.proofs.Ends.{next-fits, next-object}
use Rattle.flatbuf.proofs.layout.+ends.Goals as goal

pub end_of_objects-end_of_object-end-requires : goal.end_of_objects-end_of_object-end-requires
end_of_objects-end_of_object-end-requires t c =
    let i = c.loop-slot.slot-index in
    let xs = c.args.slots.now in
    let x = c.slot-item.result in
    let fits = next-fits xs i x c.loop-slot-test.true c.slot-item.is c.loop-slot.invariant.fits in
    let short = next-object c.loop-slot.end xs i x c.loop-slot-test.true c.slot-item.is c.loop-slot.invariant.fits in
    let end = c.loop-slot.invariant.end in
    let room = c.requires.room in
    (search (rules, at_most), (fits.0, omega (arith, short, end, room)))
