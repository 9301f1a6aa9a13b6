use Rattle.std.proofs.Common.{◌∙◌, ap, sym}
use Rattle.std.specs.Prelude.{not}
use Rattle.values.specs.declared.layout.Layout.TheVariants.{Bool as Booleans}
use Rattle.body_writer.specs.Slots.{truth_in}
use Rattle.body_writer.proofs.GatheredCells.{slot-missing, slot-truth}
use Rattle.body_writer.proofs.from_locations.slots.truth_at.Goals as goal

pub returns-then-not-is_null_at : goal.returns-then-not-is_null_at
returns-then-not-is_null_at c =
    let there = c.in-Some.ensures Booleans c.requires in
    slot-truth c.in-Some.array.now c.args.place.now.row c.bit.result there.slot
    (sym c.is_null_at.ensures ∙ c.if-not-is_null_at.true) c.bit.ensures ∙ ap truth_in there.holds

pub returns-else-not-is_null_at : goal.returns-else-not-is_null_at
returns-else-not-is_null_at c =
    let there = c.in-Some.ensures Booleans c.requires in
    ap not c.if-not-is_null_at.false
    ∙ ap truth_in
    (slot-missing Booleans c.in-Some.array.now c.args.place.now.row there.slot
    (sym c.is_null_at.ensures ∙ c.if-not-is_null_at.false) ∙ there.holds)
