use Rattle.std.proofs.Common.{◌++◌, sym, ◌∙◌, ap}
use Rattle.std.proofs.lemmas.Result.{on_ok_weaker}
use Rattle.body_writer.proofs.GatheredCells.{slot-missing, slot-room, slot-there, slot-zeros}
use Rattle.body_writer.proofs.from_locations.slots.push_slot.Goals as goal

pub returns-then-is_null_at : goal.returns-then-is_null_at
returns-then-is_null_at c =
    on_ok_weaker c.push_zeros.result
    (λ pushed l slot is. pushed ∙ ap (λ bs. c.args.out.now.items ++ bs)
    (slot-zeros l c.args.width _ is
    (slot-missing l c.args.array.now c.args.i slot (sym c.is_null_at.ensures ∙ c.if-is_null_at.true))))
    c.push_zeros.ensures

pub fixed-requires : goal.fixed-requires
fixed-requires c = slot-room c.requires.0 c.args.array.now c.args.i c.args.width c.requires.1 c.requires.2

pub returns : goal.returns
returns c = λ l slot is.
    c.in_ok-extend_from_slice.ensures.items
    ∙ ap (λ bs. c.args.out.now.items ++ bs)
    (c.fixed.ensures.value
    ∙ slot-there l c.args.array.now c.args.i c.args.width slot is (sym c.is_null_at.ensures ∙ c.if-is_null_at.false))
