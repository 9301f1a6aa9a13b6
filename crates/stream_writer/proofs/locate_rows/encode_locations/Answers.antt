use Rattle.std.proofs.Common.{◌++◌, ◌≤◌, ◌*◌, ◌∙◌, ℕ, List, length, take, ap, subst, sym, arith}
use Rattle.std.proofs.lemmas.List.{length-take}
use Rattle.array_layout.specs.declared.array.BufferRange.{BufferRange}
use Rattle.array_layout.specs.declared.array.FieldNode.{FieldNode}
use Rattle.values.specs.Limits.{max_fields}
use Rattle.values.specs.Rose.{kids_of}
use Rattle.body_writer.specs.Picked.{picked_rows}
use Rattle.body_writer.specs.Locations.{AreRowsOf}
use Rattle.stream_writer.specs.Batch.{batch_whole}
use Rattle.stream_writer.specs.JoinedRows.{joined_rows}
use Rattle.stream_writer.specs.PlaceRows.{placed_left}
use Rattle.stream_writer.specs.Stream.{message}
use Rattle.stream_writer.proofs.Counts.{body_nodes-few, body_ranges-few}
use Rattle.stream_writer.proofs.IndexedBodies.{plain-messages, record-made}
use Rattle.stream_writer.proofs.JoinedLemmas.{arrays-part, have-first}
use Rattle.stream_writer.proofs.PlaceRowLemmas.{first-batch, placed-many}
use Rattle.stream_writer.proofs.locate_rows.encode_locations.Goals as goal

pub located_columns-requires-clause-arrays : goal.located_columns-requires-clause-arrays
located_columns-requires-clause-arrays c =
    let left = c.args.left.now in
    arrays-part (take c.args.count) left.rows c.first-first.result left.columns.now left.arrays.now c.first-first.ensures
    c.requires.fits.arrays

pub located_columns-requires-clause-have : goal.located_columns-requires-clause-have
located_columns-requires-clause-have c =
    have-first c.args.count c.args.left.now.columns.now c.args.left.now.rows c.first-first.result c.first-first.ensures
    c.requires.fits.have

pub write_body_from_locations-requires-clause-rows : goal.write_body_from_locations-requires-clause-rows
write_body_from_locations-requires-clause-rows c =
    let left = c.args.left.now in
    let ls = kids_of c.args.layouts.now in
    let cells : AreRowsOf c.deref.result.now (picked_rows left.columns.now (joined_rows c.first-first.result)) =
    subst (λ cs. AreRowsOf cs (picked_rows left.columns.now (joined_rows c.first-first.result))) (sym c.deref.ensures.value)
    c.in_ok-columns.ensures.cells in (
      take c.args.count (placed_left left),
      first-batch ls left c.args.count c.first-first.result c.deref.result.now c.first-first.ensures cells c.requires.batch,
    )

pub record_message-requires-clause-nodes : goal.record_message-requires-clause-nodes
record_message-requires-clause-nodes c =
    let left = c.args.left.now in
    let ls = kids_of c.args.layouts.now in
    let rows = take c.args.count (placed_left left) in
    let cells : AreRowsOf c.deref.result.now (picked_rows left.columns.now (joined_rows c.first-first.result)) =
    subst (λ cs. AreRowsOf cs (picked_rows left.columns.now (joined_rows c.first-first.result))) (sym c.deref.ensures.value)
    c.in_ok-columns.ensures.cells in
    let made = first-batch ls left c.args.count c.first-first.result c.deref.result.now c.first-first.ensures cells c.requires.batch in
    subst (λ (ns : List FieldNode). length ns ≤ max_fields) (sym (c.in_ok-body.ensures.nodes rows made))
    (body_nodes-few ls rows c.requires.batch)

pub record_message-requires-clause-ranges : goal.record_message-requires-clause-ranges
record_message-requires-clause-ranges c =
    let left = c.args.left.now in
    let ls = kids_of c.args.layouts.now in
    let rows = take c.args.count (placed_left left) in
    let cells : AreRowsOf c.deref.result.now (picked_rows left.columns.now (joined_rows c.first-first.result)) =
    subst (λ cs. AreRowsOf cs (picked_rows left.columns.now (joined_rows c.first-first.result))) (sym c.deref.ensures.value)
    c.in_ok-columns.ensures.cells in
    let made = first-batch ls left c.args.count c.first-first.result c.deref.result.now c.first-first.ensures cells c.requires.batch in
    subst (λ (ss : List BufferRange). length ss ≤ 3 * max_fields) (sym (c.in_ok-body.ensures.ranges rows made))
    (body_ranges-few ls rows c.requires.batch)

pub returns-clause-bytes : goal.returns-clause-bytes
returns-clause-bytes c =
    let left = c.args.left.now in
    let ls = kids_of c.args.layouts.now in
    let rows = take c.args.count (placed_left left) in
    let cells : AreRowsOf c.deref.result.now (picked_rows left.columns.now (joined_rows c.first-first.result)) =
    subst (λ cs. AreRowsOf cs (picked_rows left.columns.now (joined_rows c.first-first.result))) (sym c.deref.ensures.value)
    c.in_ok-columns.ensures.cells in
    let made = first-batch ls left c.args.count c.first-first.result c.deref.result.now c.first-first.ensures cells c.requires.batch in
    let body = c.in_ok-body.body in
    let cut = length-take c.args.count (placed_left left) in
    let long = placed-many left.columns.now left.rows c.requires.fits.have in
    let whole =
    record-made c.args.count ls rows body.nodes.items body.ranges.items body.bytes.items
    (omega (arith, cut, long, c.requires.within)) (c.in_ok-body.ensures.nodes rows made)
    (c.in_ok-body.ensures.ranges rows made) (c.in_ok-body.ensures.bytes rows made) in
    c.in_ok-message.ensures.bytes
    ∙ ap (λ (before : List ℕ). before ++ message (batch_whole c.args.count body.nodes.items body.ranges.items
    (length body.bytes.items)) body.bytes.items) c.new.ensures.items
    ∙ whole ∙ sym (plain-messages ls rows)
