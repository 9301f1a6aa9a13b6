use Rattle.std.proofs.Common.{◌∙◌}
use Rattle.body_writer.specs.Slots.{is_valid}
use Rattle.body_writer.proofs.Cells.{validity-some}
use Rattle.body_writer.specs.Texts.{bytes_cells}
use Rattle.body_writer.proofs.TextLemmas.{all-read}
use Rattle.body_writer.proofs.from_columns.texts.validity.Goals as goal

pub returns : goal.returns
returns c =
    let texts = c.args.texts.now in
    validity-some (bytes_cells texts) c.loop-text.bits (λ e. c.if-nulls-eq0.false (c.requires.nulls ∙ e))
    (all-read is_valid texts c.loop-text.bits c.loop-text.text-index c.loop-text-test.false c.loop-text.invariant)
