use Rattle.body_writer.proofs.GatheredCells.{fits-item}
use Rattle.body_writer.proofs.from_locations.gather.texts.Goals as goal

pub text_at-requires : goal.text_at-requires
text_at-requires c = (
  c.requires.0,
  c.requires.1,
  fits-item c.requires.0 c.args.arrays.now c.args.locations.now c.loop-place.place-index _ c.requires.2
      c.loop-place-test.true,
)
