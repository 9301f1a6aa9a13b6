use Rattle.std.proofs.Common.{◌≡◌, ◌++◌, ◌*◌, ◌≤◌, ◌∙◌, ℕ, List, ap, arith, length, subst, sym}
use Rattle.std.proofs.lemmas.List.{length-map}
use Rattle.array_layout.specs.declared.array.BufferRange.{BufferRange}
use Rattle.array_layout.specs.declared.array.FieldNode.{FieldNode}
use Rattle.values.specs.Limits.{max_body_size, max_fields}
use Rattle.values.specs.Rose.{kids_of}
use Rattle.body_writer.proofs.Rows.{body-short, cells_in}
use Rattle.stream_writer.specs.Coding.{indexed_from, indexed_layouts, indexed_rows, values_at}
use Rattle.stream_writer.specs.Batch.{batch_whole}
use Rattle.stream_writer.specs.Stream.{dictionary_messages, message}
use Rattle.stream_writer.proofs.IndexedBodies.{all-text-cells, all-values, batch-made, record-made, text-trees}
use Rattle.stream_writer.proofs.Counts.{body_nodes-few, body_ranges-few}
use Rattle.stream_writer.proofs.IndexedRows.{indexed-batch}
use Rattle.stream_writer.proofs.coded_batch.coded_batch.Goals as goal

pub write_dictionaries-requires-clause-texts : goal.write_dictionaries-requires-clause-texts
write_dictionaries-requires-clause-texts c =
    all-text-cells c.args.coded.now (kids_of c.args.layouts.now) (cells_in c.args.rows.now) c.requires.texts.texts
    c.requires.batch

pub write_dictionaries-requires-clause-batches : goal.write_dictionaries-requires-clause-batches
write_dictionaries-requires-clause-batches c =
    all-values c.args.coded.now (kids_of c.args.layouts.now) (cells_in c.args.rows.now) c.requires.texts.texts
    c.requires.batch

pub write_indexed_body-requires-clause-columns : goal.write_indexed_body-requires-clause-columns
write_indexed_body-requires-clause-columns c =
    ap cells_in c.deref.ensures.value ∙ c.in_ok-columns.ensures.indices

pub write_indexed_body-requires-clause-batch : goal.write_indexed_body-requires-clause-batch
write_indexed_body-requires-clause-batch c =
    let ls = kids_of c.args.layouts.now in
    indexed-batch c.args.coded.now ls (cells_in c.args.rows.now)
    (text-trees c.args.coded.now ls c.requires.texts.texts) c.requires.batch

pub record_message-requires-clause-nodes : goal.record_message-requires-clause-nodes
record_message-requires-clause-nodes c =
    let ls = kids_of c.args.layouts.now in
    let coded = c.args.coded.now in
    let rows = cells_in c.args.rows.now in
    let own = indexed-batch coded ls rows (text-trees coded ls c.requires.texts.texts) c.requires.batch in
    subst (λ (ns : List FieldNode). length ns ≤ max_fields) (sym c.in_ok-body.ensures.nodes)
    (body_nodes-few (indexed_layouts coded 0 ls) (indexed_rows coded rows) own)

pub record_message-requires-clause-ranges : goal.record_message-requires-clause-ranges
record_message-requires-clause-ranges c =
    let ls = kids_of c.args.layouts.now in
    let coded = c.args.coded.now in
    let rows = cells_in c.args.rows.now in
    let own = indexed-batch coded ls rows (text-trees coded ls c.requires.texts.texts) c.requires.batch in
    subst (λ (ss : List BufferRange). length ss ≤ 3 * max_fields) (sym c.in_ok-body.ensures.ranges)
    (body_ranges-few (indexed_layouts coded 0 ls) (indexed_rows coded rows) own)

pub record_message-requires-clause-size : goal.record_message-requires-clause-size
record_message-requires-clause-size c =
    let ls = kids_of c.args.layouts.now in
    let coded = c.args.coded.now in
    let rows = cells_in c.args.rows.now in
    let own = indexed-batch coded ls rows (text-trees coded ls c.requires.texts.texts) c.requires.batch in
    subst (λ (bs : List ℕ). length bs ≤ max_body_size) (sym c.in_ok-body.ensures.bytes)
    (body-short (indexed_layouts coded 0 ls) (indexed_rows coded rows) own)

pub returns-clause-bytes : goal.returns-clause-bytes
returns-clause-bytes c =
    let ls = kids_of c.args.layouts.now in
    let coded = c.args.coded.now in
    let rows = cells_in c.args.rows.now in
    let body = c.in_ok-body.body in
    let items = length-map c.args.rows.now (λ row. row.items) in
    let same = length-map rows (indexed_from coded (λ j. values_at j rows) 0) in
    let many : length c.args.rows.now ≡ length (indexed_rows coded rows) = omega (arith, items, same) in
    let made =
    record-made (length c.args.rows.now) (indexed_layouts coded 0 ls) (indexed_rows coded rows) body.nodes.items
    body.ranges.items body.bytes.items many c.in_ok-body.ensures.nodes c.in_ok-body.ensures.ranges
    c.in_ok-body.ensures.bytes in
    batch-made coded ls rows c.write_dictionaries.new.bytes.items
    (message (batch_whole (length c.args.rows.now) body.nodes.items body.ranges.items (length body.bytes.items))
    body.bytes.items)
    c.in_ok-message.message
    (c.in_ok-columns.ensures.bytes
    ∙ ap (λ (before : List ℕ). before ++ dictionary_messages coded rows) c.new-bytes.ensures.items)
    made c.in_ok-message.ensures.bytes
