use Rattle.body_writer.proofs.GatheredCells.{fits-item}
use Rattle.body_writer.proofs.from_locations.gather.count_nulls.Goals as goal

pub is_valid_at-requires : goal.is_valid_at-requires
is_valid_at-requires c = (
  c.requires.0,
  fits-item c.requires.0 c.args.arrays.now c.args.locations.now c.loop-place.place-index _ c.requires.1
      c.loop-place-test.true,
)
