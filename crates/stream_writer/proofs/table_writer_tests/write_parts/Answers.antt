use Rattle.std.proofs.Common.{List, [], arith, subst}
use Rattle.values.specs.Logical.{NamedType}
use Rattle.values.specs.Rose.{Rose}
use Rattle.stream_writer.specs.TableWriters.{IsWriting}
use Rattle.stream_writer.proofs.PlainRows.{plain-columns, plain-layouts}
use Rattle.stream_writer.proofs.table_writer_tests.write_parts.Goals as goal

pub begin-requires-clause-columns : goal.begin-requires-clause-columns
begin-requires-clause-columns g c = plain-columns c.in_ok-schema.schema.fields.items c.in_ok-schema.ensures

pub begin-requires-clause-known : goal.begin-requires-clause-known
begin-requires-clause-known g c = plain-layouts c.in_ok-schema.schema.fields.items c.in_ok-schema.ensures

pub take_rows-requires : goal.take_rows-requires
take_rows-requires g c =
    let start = g.S.Sink.sunk c.args.sink.now in
    let few = c.requires in
    let P : List (Rose NamedType) → Type 0 =
    λ fs. IsWriting start (g.S.Sink.sunk c.begin.new.sink) fs [] c.in_ok-writer.writer in
    let begun = subst P c.in_ok-schema.ensures c.in_ok-writer.ensures.writing in
    (start, [], begun, omega (arith, few))

pub take_rows-requires-2 : goal.take_rows-requires-2
take_rows-requires-2 g c =
    let start = g.S.Sink.sunk c.args.sink.now in
    let few = c.requires in
    let P : List (Rose NamedType) → Type 0 =
    λ fs. IsWriting start (g.S.Sink.sunk c.begin.new.sink) fs [] c.in_ok-writer.writer in
    let begun = subst P c.in_ok-schema.ensures c.in_ok-writer.ensures.writing in
    let one = c.in_ok-take_rows.ensures start [] begun (omega (arith, few)) in
    let many = one.2 in
    (start, one.0, one.1, omega (arith, few, many))

pub take_rows-requires-3 : goal.take_rows-requires-3
take_rows-requires-3 g c =
    let start = g.S.Sink.sunk c.args.sink.now in
    let few = c.requires in
    let P : List (Rose NamedType) → Type 0 =
    λ fs. IsWriting start (g.S.Sink.sunk c.begin.new.sink) fs [] c.in_ok-writer.writer in
    let begun = subst P c.in_ok-schema.ensures c.in_ok-writer.ensures.writing in
    let one = c.in_ok-take_rows.ensures start [] begun (omega (arith, few)) in
    let many = one.2 in
    let two = c.in_ok-take_rows-2.ensures start one.0 one.1 (omega (arith, few, many)) in
    let more = two.2 in
    (start, two.0, two.1, omega (arith, few, many, more))

pub end-requires : goal.end-requires
end-requires g c =
    let start = g.S.Sink.sunk c.args.sink.now in
    let few = c.requires in
    let P : List (Rose NamedType) → Type 0 =
    λ fs. IsWriting start (g.S.Sink.sunk c.begin.new.sink) fs [] c.in_ok-writer.writer in
    let begun = subst P c.in_ok-schema.ensures c.in_ok-writer.ensures.writing in
    let one = c.in_ok-take_rows.ensures start [] begun (omega (arith, few)) in
    let many = one.2 in
    let two = c.in_ok-take_rows-2.ensures start one.0 one.1 (omega (arith, few, many)) in
    let more = two.2 in
    let three = c.in_ok-take_rows-3.ensures start two.0 two.1 (omega (arith, few, many, more)) in
    record { writing = (start, [], three.0, three.1) }
