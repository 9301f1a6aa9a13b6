use Rattle.std.proofs.Common.{◌∙◌}
use Rattle.std.specs.Prelude.{map}
use Rattle.body_writer.specs.Slots.{is_valid}
use Rattle.body_writer.proofs.Cells.{validity-some, all-read}
use Rattle.body_writer.proofs.from_values.buffers.validity.Goals as goal

pub returns : goal.returns
returns g c =
    let cells = c.args.cells.now in
    let datum = g.C.Cell.datum in
    validity-some (map datum cells) c.loop-cell.bits (λ e. c.if-count_nulls-eq0.false (c.count_nulls.ensures.value ∙ e))
    (all-read is_valid datum cells c.loop-cell.bits c.loop-cell.cell-index c.loop-cell-test.false c.loop-cell.invariant)
