use Rattle.std.proofs.Common.{All, ◌++◌, ◌≤◌, ◌*◌, ◌∙◌, ℕ, List, length, take, drop, ap, subst, sym, arith}
use Rattle.std.proofs.lemmas.List.{length-take}
use Rattle.array_layout.specs.declared.array.BufferRange.{BufferRange}
use Rattle.array_layout.specs.declared.array.FieldNode.{FieldNode}
use Rattle.values.specs.Limits.{max_fields}
use Rattle.values.specs.Rose.{kids_of}
use Rattle.body_writer.specs.Batch.{IsBatch, body_bytes, body_nodes, body_ranges}
use Rattle.body_writer.specs.RowRanges.{IsRange, ranges_rows, rows_of}
use Rattle.stream_writer.specs.Batch.{batch_whole}
use Rattle.stream_writer.specs.Stream.{message}
use Rattle.stream_writer.proofs.IndexedBodies.{plain-messages, record-made}
use Rattle.stream_writer.proofs.Counts.{body_nodes-few, body_ranges-few}
use Rattle.stream_writer.proofs.batch_rows.encode_rows.Goals as goal

pub write_body_from_columns-requires-clause-ranges : goal.write_body_from_columns-requires-clause-ranges
write_body_from_columns-requires-clause-ranges c =
    subst (All (IsRange (length c.args.layouts.now))) (sym c.deref.ensures.value)
    (c.in_ok-ranges.ensures.sized (length c.args.layouts.now) c.requires.sized)

pub write_body_from_columns-requires-clause-batch : goal.write_body_from_columns-requires-clause-batch
write_body_from_columns-requires-clause-batch c =
    let same = ap ranges_rows c.deref.ensures.value ∙ c.in_ok-ranges.ensures.rows in
    subst (IsBatch (kids_of c.args.layouts.now)) (sym same) c.requires.batch

pub record_message-requires-clause-nodes : goal.record_message-requires-clause-nodes
record_message-requires-clause-nodes c =
    let ls = kids_of c.args.layouts.now in
    let rows = take c.args.count (drop c.args.from (rows_of c.args.batches.now)) in
    let same = ap ranges_rows c.deref.ensures.value ∙ c.in_ok-ranges.ensures.rows in
    subst (λ (ns : List FieldNode). length ns ≤ max_fields)
    (sym (c.in_ok-body.ensures.nodes ∙ ap (body_nodes ls) same)) (body_nodes-few ls rows c.requires.batch)

pub record_message-requires-clause-ranges : goal.record_message-requires-clause-ranges
record_message-requires-clause-ranges c =
    let ls = kids_of c.args.layouts.now in
    let rows = take c.args.count (drop c.args.from (rows_of c.args.batches.now)) in
    let same = ap ranges_rows c.deref.ensures.value ∙ c.in_ok-ranges.ensures.rows in
    subst (λ (ss : List BufferRange). length ss ≤ 3 * max_fields)
    (sym (c.in_ok-body.ensures.ranges ∙ ap (body_ranges ls) same)) (body_ranges-few ls rows c.requires.batch)

pub returns-clause-bytes : goal.returns-clause-bytes
returns-clause-bytes c =
    let ls = kids_of c.args.layouts.now in
    let left = drop c.args.from (rows_of c.args.batches.now) in
    let rows = take c.args.count left in
    let body = c.in_ok-body.body in
    let same = ap ranges_rows c.deref.ensures.value ∙ c.in_ok-ranges.ensures.rows in
    let cut = length-take c.args.count left in
    let made =
    record-made c.args.count ls rows body.nodes.items body.ranges.items body.bytes.items
    (omega (arith, cut, c.requires.within)) (c.in_ok-body.ensures.nodes ∙ ap (body_nodes ls) same)
    (c.in_ok-body.ensures.ranges ∙ ap (body_ranges ls) same) (c.in_ok-body.ensures.bytes ∙ ap (body_bytes ls) same) in
    c.in_ok-message.ensures.bytes
    ∙ ap (λ (before : List ℕ). before ++ message (batch_whole c.args.count body.nodes.items body.ranges.items
    (length body.bytes.items)) body.bytes.items) c.new.ensures.items
    ∙ made ∙ sym (plain-messages ls rows)
