use Rattle.std.proofs.Common.{◌≡◌, ◌++◌, ◌≤◌, ◌*◌, ◌∙◌, ℕ, List, length, take, ap, subst, sym, arith}
use Rattle.std.proofs.lemmas.List.{length-take}
use Rattle.array_layout.specs.declared.array.BufferRange.{BufferRange}
use Rattle.array_layout.specs.declared.array.FieldNode.{FieldNode}
use Rattle.values.specs.Limits.{max_fields}
use Rattle.values.specs.Rose.{kids_of}
use Rattle.body_writer.specs.Batch.{IsBatch, body_bytes, body_nodes, body_ranges}
use Rattle.body_writer.specs.RowRanges.{ranges_rows}
use Rattle.body_writer.specs.Picked.{picked_rows}
use Rattle.stream_writer.specs.Batch.{batch_whole}
use Rattle.stream_writer.specs.RangeRows.{picked_left, whole_left}
use Rattle.stream_writer.specs.Stream.{message}
use Rattle.stream_writer.proofs.IndexedBodies.{plain-messages, record-made}
use Rattle.stream_writer.proofs.Counts.{body_nodes-few, body_ranges-few}
use Rattle.stream_writer.proofs.RangeLemmas.{picked-taken}
use Rattle.stream_writer.proofs.range_rows.encode_ranges.Goals as goal

pub cut_ranges-requires-clause-small : goal.cut_ranges-requires-clause-small
cut_ranges-requires-clause-small c =
    omega (arith, c.requires.fits.small, c.requires.fits.left, c.requires.within)

pub cut_ranges-requires-clause-ranges : goal.cut_ranges-requires-clause-ranges
cut_ranges-requires-clause-ranges c = (c.requires.fits.width, c.requires.fits.have.ranges)

pub write_body_from_picked_columns-requires : goal.write_body_from_picked_columns-requires
write_body_from_picked_columns-requires c =
    let r = c.args.rows.now in
    let same : picked_rows r.columns.now (ranges_rows c.deref.result.now) ≡ take c.args.count (picked_left r) =
    ap (picked_rows r.columns.now) (ap ranges_rows c.deref.ensures.value ∙ c.in_ok-ranges.ensures.rows)
    ∙ sym (picked-taken r.columns.now c.args.count (whole_left r)) in
    record {
      many = c.requires.fits.many;
      ranges = (
        c.requires.fits.width,
        record {
          ranges = rw c.deref.ensures.value (c.in_ok-ranges.ensures.sized c.requires.fits.width c.requires.fits.have.ranges);
          below = c.requires.fits.have.below;
        },
      );
      batch = subst (IsBatch (kids_of c.args.layouts.now)) (sym same) c.requires.batch;
    }

pub record_message-requires-clause-nodes : goal.record_message-requires-clause-nodes
record_message-requires-clause-nodes c =
    let ls = kids_of c.args.layouts.now in
    let r = c.args.rows.now in
    let rows = take c.args.count (picked_left r) in
    let same : picked_rows r.columns.now (ranges_rows c.deref.result.now) ≡ rows =
    ap (picked_rows r.columns.now) (ap ranges_rows c.deref.ensures.value ∙ c.in_ok-ranges.ensures.rows)
    ∙ sym (picked-taken r.columns.now c.args.count (whole_left r)) in
    subst (λ (ns : List FieldNode). length ns ≤ max_fields)
    (sym (c.in_ok-body.ensures.nodes ∙ ap (body_nodes ls) same)) (body_nodes-few ls rows c.requires.batch)

pub record_message-requires-clause-ranges : goal.record_message-requires-clause-ranges
record_message-requires-clause-ranges c =
    let ls = kids_of c.args.layouts.now in
    let r = c.args.rows.now in
    let rows = take c.args.count (picked_left r) in
    let same : picked_rows r.columns.now (ranges_rows c.deref.result.now) ≡ rows =
    ap (picked_rows r.columns.now) (ap ranges_rows c.deref.ensures.value ∙ c.in_ok-ranges.ensures.rows)
    ∙ sym (picked-taken r.columns.now c.args.count (whole_left r)) in
    subst (λ (ss : List BufferRange). length ss ≤ 3 * max_fields)
    (sym (c.in_ok-body.ensures.ranges ∙ ap (body_ranges ls) same)) (body_ranges-few ls rows c.requires.batch)

pub returns-clause-bytes : goal.returns-clause-bytes
returns-clause-bytes c =
    let ls = kids_of c.args.layouts.now in
    let r = c.args.rows.now in
    let rows = take c.args.count (picked_left r) in
    let body = c.in_ok-body.body in
    let same : picked_rows r.columns.now (ranges_rows c.deref.result.now) ≡ rows =
    ap (picked_rows r.columns.now) (ap ranges_rows c.deref.ensures.value ∙ c.in_ok-ranges.ensures.rows)
    ∙ sym (picked-taken r.columns.now c.args.count (whole_left r)) in
    let cut = length-take c.args.count (picked_left r) in
    let made =
    record-made c.args.count ls rows body.nodes.items body.ranges.items body.bytes.items
    (omega (arith, cut, c.requires.within)) (c.in_ok-body.ensures.nodes ∙ ap (body_nodes ls) same)
    (c.in_ok-body.ensures.ranges ∙ ap (body_ranges ls) same) (c.in_ok-body.ensures.bytes ∙ ap (body_bytes ls) same) in
    c.in_ok-message.ensures.bytes
    ∙ ap (λ (before : List ℕ). before ++ message (batch_whole c.args.count body.nodes.items body.ranges.items
    (length body.bytes.items)) body.bytes.items) c.new.ensures.items
    ∙ made ∙ sym (plain-messages ls rows)
