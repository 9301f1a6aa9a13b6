use Rattle.std.proofs.Common.{◌∙◌, ap}
use Rattle.std.specs.Prelude.{not}
use Rattle.body_writer.specs.Slots.{is_valid}
use Rattle.body_writer.proofs.GatheredCells.{slot-valid}
use Rattle.body_writer.proofs.from_locations.slots.is_valid_at.Goals as goal

pub returns-in-Some : goal.returns-in-Some
returns-in-Some c =
    let there = c.in-Some.ensures c.requires.0 c.requires.1 in
    ap not c.is_null_at.ensures ∙ slot-valid c.requires.0 c.in-Some.array.now c.args.place.now.row there.slot
    ∙ ap is_valid there.holds
