use Rattle.std.proofs.Common.{◌≤◌, ◌*◌, ℕ, List, length, subst, sym}
use Rattle.array_layout.specs.declared.array.BufferRange.{BufferRange}
use Rattle.array_layout.specs.declared.array.FieldNode.{FieldNode}
use Rattle.values.specs.Limits.{max_body_size, max_fields}
use Rattle.body_writer.specs.Slots.{cells_of}
use Rattle.body_writer.proofs.Rows.{body-short}
use Rattle.stream_writer.specs.Coding.{single_rows}
use Rattle.stream_writer.specs.DictionaryBatch.{text_layouts}
use Rattle.stream_writer.proofs.Counts.{body_nodes-few, body_ranges-few}
use Rattle.stream_writer.proofs.DictionaryBodies.{values-call, values-written}
use Rattle.stream_writer.proofs.dictionary_batch.write_values.Goals as goal

pub write_column_from_values-requires-clause-held : goal.write_column_from_values-requires-clause-held
write_column_from_values-requires-clause-held c =
    let new = c.new-body.ensures in
    (values-call (cells_of c.args.values.now) c.new-body.result c.text_tree-layout.result c.text_tree-layout.ensures
    c.requires (record { nodes = new.nodes; ranges = new.ranges; bytes = new.bytes })).1

pub write_column_from_values-requires-clause-light : goal.write_column_from_values-requires-clause-light
write_column_from_values-requires-clause-light c =
    let new = c.new-body.ensures in
    (values-call (cells_of c.args.values.now) c.new-body.result c.text_tree-layout.result c.text_tree-layout.ensures
    c.requires (record { nodes = new.nodes; ranges = new.ranges; bytes = new.bytes })).2

pub returns : goal.returns
returns c =
    let cells = cells_of c.args.values.now in
    let written =
    values-written cells c.new-body.result c.write_column_from_values.new.body c.text_tree-layout.result
    c.text_tree-layout.ensures c.requires
    (record { nodes = c.new-body.ensures.nodes; ranges = c.new-body.ensures.ranges; bytes = c.new-body.ensures.bytes })
    c.in_ok-write_column_from_values.ensures in
    record {
      nodes = written.nodes;
      ranges = written.ranges;
      bytes = written.bytes;
      few_nodes = subst (λ (ns : List FieldNode). length ns ≤ max_fields) (sym written.nodes)
          (body_nodes-few text_layouts (single_rows cells) c.requires);
      few_ranges = subst (λ (ss : List BufferRange). length ss ≤ 3 * max_fields) (sym written.ranges)
          (body_ranges-few text_layouts (single_rows cells) c.requires);
      size = subst (λ (bs : List ℕ). length bs ≤ max_body_size) (sym written.bytes)
          (body-short text_layouts (single_rows cells) c.requires);
    }
