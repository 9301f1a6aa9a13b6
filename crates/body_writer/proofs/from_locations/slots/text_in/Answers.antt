use Rattle.std.proofs.Common.{sym, ◌∙◌, ap}
use Rattle.body_writer.specs.Texts.{as_bytes}
use Rattle.values.specs.Datum.{bytes}
use Rattle.body_writer.proofs.GatheredCells.{slot-missing, slot-text}
use Rattle.body_writer.proofs.from_locations.slots.text_in.Goals as goal

pub returns-then-is_null_at : goal.returns-then-is_null_at
returns-then-is_null_at c =
    ap as_bytes (slot-missing c.requires.0 c.args.array.now c.args.i c.requires.1.slot (sym c.is_null_at.ensures
    ∙ c.if-is_null_at.true))

pub returns : goal.returns
returns c =
    ap bytes c.slice.ensures
    ∙ slot-text c.requires.0 c.args.array.now c.args.i c.requires.1 (sym c.is_null_at.ensures ∙ c.if-is_null_at.false)
