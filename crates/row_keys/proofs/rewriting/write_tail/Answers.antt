use Rattle.std.proofs.Common.{◌+◌, ◌-◌, ◌∙◌, ap, arith, length, refl, sym}
use Rattle.body_writer.specs.RowRanges.{ranges_rows}
use Rattle.row_keys.specs.Chunks.{Chunk}
use Rattle.row_keys.proofs.Tails.{number_inside, tail_held, tail_long, tail_of}
use Rattle.row_keys.proofs.rewriting.write_tail.Goals as goal

pub overflow_sub-chunk-inside : goal.overflow_sub-chunk-inside
overflow_sub-chunk-inside c =
    let high = (number_inside c.args.chunk.now c.args.from c.requires.long c.requires.within).1 in
    let first = ap (λ (x : Chunk). x.first) c.chunk.view_is in
    let span = ap (λ (x : Chunk). x.span) c.chunk.view_is in
    let at = c.number_at-first.ensures in
    omega (arith, high, first, span, at)

pub write_left-requires-clause-ranges : goal.write_left-requires-clause-ranges
write_left-requires-clause-ranges c =
    c.in_ok-left.ensures.ranges (length c.args.layouts.now) (c.if-not-is_wide.ensures refl)

pub write_left-requires-clause-many : goal.write_left-requires-clause-many
write_left-requires-clause-many c =
    ap length c.in_ok-left.ensures.numbers
    ∙ tail_long c.args.chunk.now c.args.from c.requires.long c.requires.within ∙ sym (ap length c.in_ok-left.ensures.rows)

pub write_left-requires-clause-held : goal.write_left-requires-clause-held
write_left-requires-clause-held c =
    tail_held c.args.chunk.now c.args.from c.requires.long c.requires.within c.args.layouts.now
    (ranges_rows c.in_ok-left.left.ranges.items) (c.if-not-is_wide.ensures refl) c.requires.held
    c.in_ok-left.ensures.rows

pub returns : goal.returns
returns c =
    tail_of c.args.chunk.now c.args.from c.number_at-first.result
    (c.chunk.inside.first + c.chunk.inside.span - c.number_at-first.result) c.in_ok-left.left.numbers.items
    (ranges_rows c.in_ok-left.left.ranges.items) c.write_left.result c.requires.long c.requires.within
    c.number_at-first.ensures (ap (λ (x : Chunk). x.first + x.span - c.number_at-first.result) c.chunk.view_is)
    c.in_ok-left.ensures.numbers c.in_ok-left.ensures.rows c.write_left.ensures
