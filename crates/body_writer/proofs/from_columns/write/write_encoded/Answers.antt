use Rattle.std.proofs.Common.{arith, inl, inr}
use Rattle.std.proofs.lemmas.Result.{on_ok_weaker}
use Rattle.values.specs.Rose.{kids_of}
use Rattle.body_writer.proofs.WeightLemmas.{weights-long}
use Rattle.body_writer.specs.Segments.{segments_cells}
use Rattle.body_writer.proofs.TextLemmas.{texts-column, texts-short}
use Rattle.body_writer.proofs.from_columns.write.write_encoded.Goals as goal

pub write_encoded_texts-requires-clause-few : goal.write_encoded_texts-requires-clause-few
write_encoded_texts-requires-clause-few c =
    let long = weights-long c.args.layout.now (segments_cells c.args.segments.now) in omega (arith, long, c.requires.light)

pub write_encoded_texts-requires-clause-short : goal.write_encoded_texts-requires-clause-short
write_encoded_texts-requires-clause-short c =
    texts-short c.args.layout.now c.layout.inside.layout (kids_of c.layout.inside.children.items) c.in-Utf8.offsets
    (segments_cells c.args.segments.now) c.layout.view_is (inl c.in-Utf8.is) c.requires.layouts c.requires.held
    c.requires.light

pub write_encoded_texts-requires-in-Binary-clause-few : goal.write_encoded_texts-requires-in-Binary-clause-few
write_encoded_texts-requires-in-Binary-clause-few c =
    let long = weights-long c.args.layout.now (segments_cells c.args.segments.now) in omega (arith, long, c.requires.light)

pub write_encoded_texts-requires-in-Binary-clause-short : goal.write_encoded_texts-requires-in-Binary-clause-short
write_encoded_texts-requires-in-Binary-clause-short c =
    texts-short c.args.layout.now c.layout.inside.layout (kids_of c.layout.inside.children.items) c.in-Binary.offsets
    (segments_cells c.args.segments.now) c.layout.view_is (inr c.in-Binary.is) c.requires.layouts c.requires.held
    c.requires.light

pub returns-in-Utf8 : goal.returns-in-Utf8
returns-in-Utf8 c =
    on_ok_weaker c.write_encoded_texts.result
    (texts-column c.args.layout.now c.layout.inside.layout (kids_of c.layout.inside.children.items) c.in-Utf8.offsets
    (segments_cells c.args.segments.now) c.args.body.now c.write_encoded_texts.new.body c.layout.view_is
    (inl c.in-Utf8.is) c.requires.layouts c.requires.held) c.write_encoded_texts.ensures

pub returns-in-Binary : goal.returns-in-Binary
returns-in-Binary c =
    on_ok_weaker c.write_encoded_texts-in-Binary.result
    (texts-column c.args.layout.now c.layout.inside.layout (kids_of c.layout.inside.children.items) c.in-Binary.offsets
    (segments_cells c.args.segments.now) c.args.body.now c.write_encoded_texts-in-Binary.new.body c.layout.view_is
    (inr c.in-Binary.is) c.requires.layouts c.requires.held) c.write_encoded_texts-in-Binary.ensures
