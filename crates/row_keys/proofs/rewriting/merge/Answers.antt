use Rattle.std.proofs.Common.{ap, length, refl}
use Rattle.body_writer.specs.RowRanges.{ranges_rows}
use Rattle.row_keys.specs.Chunks.{Chunk}
use Rattle.row_keys.proofs.MergedChunks.{as_many, held_of, merged_of}
use Rattle.row_keys.proofs.rewriting.merge.Goals as goal

pub write_left-requires-clause-ranges : goal.write_left-requires-clause-ranges
write_left-requires-clause-ranges c =
    c.in_ok-left.ensures.ranges (length c.args.layouts.now) (c.if-not-are_wide.ensures refl)

pub write_left-requires-clause-many : goal.write_left-requires-clause-many
write_left-requires-clause-many c =
    as_many c.args.part.now c.in_ok-left.left.numbers.items (ranges_rows c.in_ok-left.left.ranges.items)
    c.requires.part c.in_ok-left.ensures.numbers c.in_ok-left.ensures.rows

pub write_left-requires-clause-held : goal.write_left-requires-clause-held
write_left-requires-clause-held c =
    held_of c.args.part.now c.args.layouts.now (ranges_rows c.in_ok-left.left.ranges.items) c.requires.part
    (c.if-not-are_wide.ensures refl) c.requires.held c.in_ok-left.ensures.rows

pub returns : goal.returns
returns c =
    merged_of c.args.part.now c.index-part-0.result c.head.inside.first c.span_of.result
    c.in_ok-left.left.numbers.items (ranges_rows c.in_ok-left.left.ranges.items) c.write_left.result c.requires.part
    c.requires.some c.index-part-0.is (ap (λ (x : Chunk). x.first) c.head.view_is)
    c.span_of.ensures c.in_ok-left.ensures.numbers c.in_ok-left.ensures.rows c.write_left.ensures
