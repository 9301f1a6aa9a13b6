use Rattle.std.proofs.Common.{◌++◌, ◌≤◌, ◌*◌, ◌∙◌, ℕ, List, length, take, ap, subst, sym, arith}
use Rattle.std.proofs.lemmas.List.{length-take}
use Rattle.array_layout.specs.declared.array.BufferRange.{BufferRange}
use Rattle.array_layout.specs.declared.array.FieldNode.{FieldNode}
use Rattle.values.specs.Limits.{max_fields}
use Rattle.values.specs.Rose.{kids_of}
use Rattle.body_writer.proofs.Rows.{body-sized}
use Rattle.stream_writer.specs.Batch.{batch_whole}
use Rattle.stream_writer.specs.Stream.{message}
use Rattle.stream_writer.specs.ViewedRows.{views_left}
use Rattle.stream_writer.proofs.IndexedBodies.{plain-messages, record-made}
use Rattle.stream_writer.proofs.Counts.{body_nodes-few, body_ranges-few}
use Rattle.stream_writer.proofs.viewed_rows.encode_views.Goals as goal

pub record_message-requires-clause-nodes : goal.record_message-requires-clause-nodes
record_message-requires-clause-nodes c =
    subst (λ (ns : List FieldNode). length ns ≤ max_fields) (sym c.in_ok-body.ensures.nodes)
    (body_nodes-few (kids_of c.args.layouts.now) (take c.args.count (views_left c.args.rows.now)) c.requires.batch)

pub record_message-requires-clause-ranges : goal.record_message-requires-clause-ranges
record_message-requires-clause-ranges c =
    subst (λ (ss : List BufferRange). length ss ≤ 3 * max_fields) (sym c.in_ok-body.ensures.ranges)
    (body_ranges-few (kids_of c.args.layouts.now) (take c.args.count (views_left c.args.rows.now)) c.requires.batch)

pub record_message-requires-clause-size : goal.record_message-requires-clause-size
record_message-requires-clause-size c =
    body-sized (kids_of c.args.layouts.now) (take c.args.count (views_left c.args.rows.now))
    c.in_ok-body.body.bytes.items c.requires.batch c.in_ok-body.ensures.bytes

pub returns-clause-bytes : goal.returns-clause-bytes
returns-clause-bytes c =
    let ls = kids_of c.args.layouts.now in
    let left = views_left c.args.rows.now in
    let body = c.in_ok-body.body in
    let cut = length-take c.args.count left in
    let made =
    record-made c.args.count ls (take c.args.count left) body.nodes.items body.ranges.items body.bytes.items
    (omega (arith, cut, c.requires.within)) c.in_ok-body.ensures.nodes c.in_ok-body.ensures.ranges
    c.in_ok-body.ensures.bytes in
    c.in_ok-message.ensures.bytes
    ∙ ap (λ (before : List ℕ). before ++ message (batch_whole c.args.count body.nodes.items body.ranges.items
    (length body.bytes.items)) body.bytes.items) c.new.ensures.items
    ∙ made ∙ sym (plain-messages ls (take c.args.count left))
