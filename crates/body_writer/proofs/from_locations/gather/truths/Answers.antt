use Rattle.std.proofs.Common.{ap, arith}
use Rattle.bitmaps.specs.Packed.{bytes_of}
use Rattle.values.specs.declared.layout.Layout.TheVariants.{Bool as Booleans}
use Rattle.body_writer.specs.Columns.{truths}
use Rattle.body_writer.specs.Slots.{truth_in}
use Rattle.body_writer.proofs.GatheredCells.{fits-item, maps-end, maps-few}
use Rattle.body_writer.proofs.from_locations.gather.truths.Goals as goal

pub truth_at-requires : goal.truth_at-requires
truth_at-requires c =
    fits-item Booleans c.args.arrays.now c.args.locations.now c.loop-place.place-index _ c.requires.fits
    c.loop-place-test.true

pub push-requires : goal.push-requires
push-requires c =
    let few = maps-few truth_in c.args.arrays.now c.args.locations.now c.loop-place.place-index c.loop-place.bits
    c.loop-place-test.true c.loop-place.invariant in
    omega (arith, few, c.requires.few)

pub returns : goal.returns
unfolding truths
returns c =
    ap bytes_of
    (maps-end truth_in c.args.arrays.now c.args.locations.now c.loop-place.place-index c.loop-place.bits _
    c.loop-place-test.false c.loop-place.invariant)
