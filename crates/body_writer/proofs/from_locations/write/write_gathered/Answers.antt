use Rattle.std.proofs.Common.{inl, inr, refl}
use Rattle.std.proofs.lemmas.Result.{on_ok_weaker}
use Rattle.values.specs.Rose.{kids_of}
use Rattle.values.specs.declared.layout.Layout.TheVariants.{Bool as Booleans, Utf8, Binary}
use Rattle.body_writer.specs.Locations.{located_cells}
use Rattle.body_writer.proofs.TextLemmas.{texts-column, texts-short}
use Rattle.body_writer.proofs.LeafColumns.{fit-as, has-slots, locations-few, slots-column}
use Rattle.body_writer.proofs.from_locations.write.write_gathered.Goals as goal

pub write_slices-requires-clause-fits : goal.write_slices-requires-clause-fits
write_slices-requires-clause-fits c = (
  Utf8 c.in-Utf8.offsets,
  tt,
  fit-as c.args.layout.now c.layout.inside.layout (Utf8 c.in-Utf8.offsets) (kids_of c.layout.inside.children.items) c.args.arrays.now
      c.args.locations.now c.layout.view_is c.in-Utf8.is c.requires.fits,
)

pub write_slices-requires-clause-few : goal.write_slices-requires-clause-few
write_slices-requires-clause-few c = locations-few c.args.layout.now c.args.arrays.now c.args.locations.now c.requires.light

pub write_slices-requires-clause-short : goal.write_slices-requires-clause-short
write_slices-requires-clause-short c =
    texts-short c.args.layout.now c.layout.inside.layout (kids_of c.layout.inside.children.items) c.in-Utf8.offsets
    (located_cells c.args.arrays.now c.args.locations.now) c.layout.view_is (inl c.in-Utf8.is) c.requires.layouts c.requires.held
    c.requires.light

pub returns-in-Utf8 : goal.returns-in-Utf8
returns-in-Utf8 c =
    on_ok_weaker c.write_slices.result
    (texts-column c.args.layout.now c.layout.inside.layout (kids_of c.layout.inside.children.items) c.in-Utf8.offsets
    (located_cells c.args.arrays.now c.args.locations.now) c.args.body.now c.write_slices.new.body c.layout.view_is
    (inl c.in-Utf8.is) c.requires.layouts c.requires.held) c.write_slices.ensures

pub write_slices-requires-in-Binary-clause-fits : goal.write_slices-requires-in-Binary-clause-fits
write_slices-requires-in-Binary-clause-fits c = (
  Binary c.in-Binary.offsets,
  tt,
  fit-as c.args.layout.now c.layout.inside.layout (Binary c.in-Binary.offsets) (kids_of c.layout.inside.children.items) c.args.arrays.now
      c.args.locations.now c.layout.view_is c.in-Binary.is c.requires.fits,
)

pub write_slices-requires-in-Binary-clause-few : goal.write_slices-requires-in-Binary-clause-few
write_slices-requires-in-Binary-clause-few c = locations-few c.args.layout.now c.args.arrays.now c.args.locations.now c.requires.light

pub write_slices-requires-in-Binary-clause-short : goal.write_slices-requires-in-Binary-clause-short
write_slices-requires-in-Binary-clause-short c =
    texts-short c.args.layout.now c.layout.inside.layout (kids_of c.layout.inside.children.items) c.in-Binary.offsets
    (located_cells c.args.arrays.now c.args.locations.now) c.layout.view_is (inr c.in-Binary.is) c.requires.layouts c.requires.held
    c.requires.light

pub returns-in-Binary : goal.returns-in-Binary
returns-in-Binary c =
    on_ok_weaker c.write_slices-in-Binary.result
    (texts-column c.args.layout.now c.layout.inside.layout (kids_of c.layout.inside.children.items) c.in-Binary.offsets
    (located_cells c.args.arrays.now c.args.locations.now) c.args.body.now c.write_slices-in-Binary.new.body c.layout.view_is
    (inr c.in-Binary.is) c.requires.layouts c.requires.held) c.write_slices-in-Binary.ensures

pub write_bits-requires-clause-fits : goal.write_bits-requires-clause-fits
write_bits-requires-clause-fits c =
    fit-as c.args.layout.now c.layout.inside.layout Booleans (kids_of c.layout.inside.children.items) c.args.arrays.now c.args.locations.now
    c.layout.view_is c.in-Bool.is c.requires.fits

pub write_bits-requires-clause-few : goal.write_bits-requires-clause-few
write_bits-requires-clause-few c = locations-few c.args.layout.now c.args.arrays.now c.args.locations.now c.requires.light

pub write_slots-requires-clause-fits : goal.write_slots-requires-clause-fits
write_slots-requires-clause-fits c =
    fit-as c.args.layout.now c.layout.inside.layout c.layout.inside.layout (kids_of c.layout.inside.children.items) c.args.arrays.now
    c.args.locations.now c.layout.view_is refl c.requires.fits

pub write_slots-requires-clause-few : goal.write_slots-requires-clause-few
write_slots-requires-clause-few c = locations-few c.args.layout.now c.args.arrays.now c.args.locations.now c.requires.light

pub returns-in-Int : goal.returns-in-Int
returns-in-Int c =
    on_ok_weaker c.write_slots.result
    (slots-column c.args.layout.now c.layout.inside.layout (kids_of c.layout.inside.children.items) (located_cells c.args.arrays.now c.args.locations.now)
    c.args.body.now c.write_slots.new.body c.layout.view_is (has-slots c.layout.inside.layout _ c.in-Int.is tt)
    c.requires.layouts) c.write_slots.ensures

pub write_slots-requires-in-Decimal-clause-fits : goal.write_slots-requires-in-Decimal-clause-fits
write_slots-requires-in-Decimal-clause-fits c =
    fit-as c.args.layout.now c.layout.inside.layout c.layout.inside.layout (kids_of c.layout.inside.children.items) c.args.arrays.now
    c.args.locations.now c.layout.view_is refl c.requires.fits

pub write_slots-requires-in-Decimal-clause-few : goal.write_slots-requires-in-Decimal-clause-few
write_slots-requires-in-Decimal-clause-few c = locations-few c.args.layout.now c.args.arrays.now c.args.locations.now c.requires.light

pub returns-in-Decimal : goal.returns-in-Decimal
returns-in-Decimal c =
    on_ok_weaker c.write_slots-in-Decimal.result
    (slots-column c.args.layout.now c.layout.inside.layout (kids_of c.layout.inside.children.items) (located_cells c.args.arrays.now c.args.locations.now)
    c.args.body.now c.write_slots-in-Decimal.new.body c.layout.view_is (has-slots c.layout.inside.layout _ c.in-Decimal.is tt)
    c.requires.layouts) c.write_slots-in-Decimal.ensures

pub write_slots-requires-in-FixedSizeBinary-clause-fits : goal.write_slots-requires-in-FixedSizeBinary-clause-fits
write_slots-requires-in-FixedSizeBinary-clause-fits c =
    fit-as c.args.layout.now c.layout.inside.layout c.layout.inside.layout (kids_of c.layout.inside.children.items) c.args.arrays.now
    c.args.locations.now c.layout.view_is refl c.requires.fits

pub write_slots-requires-in-FixedSizeBinary-clause-few : goal.write_slots-requires-in-FixedSizeBinary-clause-few
write_slots-requires-in-FixedSizeBinary-clause-few c = locations-few c.args.layout.now c.args.arrays.now c.args.locations.now c.requires.light

pub returns-in-FixedSizeBinary : goal.returns-in-FixedSizeBinary
returns-in-FixedSizeBinary c =
    on_ok_weaker c.write_slots-in-FixedSizeBinary.result
    (slots-column c.args.layout.now c.layout.inside.layout (kids_of c.layout.inside.children.items) (located_cells c.args.arrays.now c.args.locations.now)
    c.args.body.now c.write_slots-in-FixedSizeBinary.new.body c.layout.view_is (has-slots c.layout.inside.layout _ c.in-FixedSizeBinary.is tt)
    c.requires.layouts) c.write_slots-in-FixedSizeBinary.ensures
