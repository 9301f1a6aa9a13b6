use Rattle.std.proofs.Common.{◌∙◌, ap, arith, sym}
use Rattle.bitmaps.specs.Packed.{bytes_of}
use Rattle.body_writer.specs.Slots.{is_valid}
use Rattle.body_writer.specs.Locations.{located_cells}
use Rattle.body_writer.proofs.Cells.{validity-none, validity-some}
use Rattle.body_writer.proofs.GatheredCells.{fits-item, maps-end, maps-few}
use Rattle.body_writer.proofs.from_locations.gather.validity.Goals as goal

pub returns-then-nulls-eq0 : goal.returns-then-nulls-eq0
returns-then-nulls-eq0 c =
    ap bytes_of c.new-bits.ensures
    ∙ validity-none (located_cells c.args.arrays.now c.args.locations.now) (sym c.requires.nulls ∙ c.if-nulls-eq0.true)

pub is_valid_at-requires : goal.is_valid_at-requires
is_valid_at-requires c = (
  c.requires.fits.0,
  fits-item c.requires.fits.0 c.args.arrays.now c.args.locations.now c.loop-place.place-index _ c.requires.fits.1
      c.loop-place-test.true,
)

pub push-requires : goal.push-requires
push-requires c =
    let few = maps-few is_valid c.args.arrays.now c.args.locations.now c.loop-place.place-index c.loop-place.bits
    c.loop-place-test.true c.loop-place.invariant in
    omega (arith, few, c.requires.few)

pub returns : goal.returns
returns c =
    validity-some (located_cells c.args.arrays.now c.args.locations.now) c.loop-place.bits
    (λ e. c.if-nulls-eq0.false (c.requires.nulls ∙ e))
    (maps-end is_valid c.args.arrays.now c.args.locations.now c.loop-place.place-index c.loop-place.bits _
    c.loop-place-test.false c.loop-place.invariant)
