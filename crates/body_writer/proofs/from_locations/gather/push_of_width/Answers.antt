use Rattle.body_writer.specs.Runs.{slot_bytes}
use Rattle.body_writer.proofs.GatheredCells.{fits-item, flat-next}
use Rattle.body_writer.proofs.from_locations.gather.push_of_width.Goals as goal

pub push_slot_at-requires : goal.push_slot_at-requires
push_slot_at-requires c = (
  c.requires.0,
  fits-item c.requires.0 c.args.arrays.now c.args.locations.now c.loop-place.place-index _ c.requires.1
      c.loop-place-test.true,
  c.requires.2,
)

pub loop-place-preserved : goal.loop-place-preserved
loop-place-preserved c = λ t all is.
    let here = fits-item t c.args.arrays.now c.args.locations.now c.loop-place.place-index _ all c.loop-place-test.true in
    flat-next (slot_bytes t) c.args.arrays.now c.args.locations.now c.loop-place.place-index _ c.loop-place.out.items
    c.push_slot_at.new.out.items _ c.loop-place-test.true (c.in_ok-push_slot_at.ensures t here is)
    (c.loop-place.invariant t all is)
