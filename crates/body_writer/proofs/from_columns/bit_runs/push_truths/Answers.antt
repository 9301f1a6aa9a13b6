use Rattle.std.proofs.Common.{◌-◌, ◌∙◌, ap, arith, length}
use Rattle.std.specs.Prelude.{Bool, ◌&&◌}
use Rattle.std.proofs.lemmas.List.{length-map}
use Rattle.bitmaps.specs.Bits.{bits_at, pairwise}
use Rattle.body_writer.specs.Slots.{truth_in}
use Rattle.body_writer.specs.Segments.{range_cells}
use Rattle.body_writer.proofs.RangeBits.{range-truths}
use Rattle.body_writer.proofs.from_columns.bit_runs.push_truths.Goals as goal

pub extend_from_bits-requires-2 : goal.extend_from_bits-requires-2
extend_from_bits-requires-2 c =
    let range = c.args.range.now in
    let bits = c.buffer-bits.result.now in
    let both : Bool → Bool → Bool = λ x y. x && y in
    let joined =
    ap (λ xs. pairwise both xs c.bits_of-values.result) c.bits_of.ensures.bits
    ∙ ap (pairwise both (bits_at bits range.from (range.to - range.from))) c.bits_of-values.ensures.bits
    ∙ range-truths range bits c.buffer.result.now c.requires.plain c.requires.layout c.buffer-bits.ensures
    c.buffer.ensures c.if-is_empty.ensures in
    let size = ap length (c.bits.ensures ∙ c.in_ok-both.ensures ∙ joined) ∙ length-map (range_cells range) truth_in in
    omega (arith, size, c.requires.room)
