use Rattle.std.proofs.Common.{◌++◌, sym, ◌∙◌, ap}
use Rattle.std.proofs.lemmas.Result.{on_ok_weaker}
use Rattle.body_writer.proofs.GatheredCells.{slot-zeros}
use Rattle.body_writer.proofs.from_locations.slots.push_slot_at.Goals as goal

pub returns-in-None : goal.returns-in-None
returns-in-None c =
    on_ok_weaker c.push_zeros.result
    (λ pushed l fits is. pushed ∙ ap (λ bs. c.args.out.now.items ++ bs)
    (slot-zeros l c.args.width _ is (sym c.in-None.ensures)))
    c.push_zeros.ensures
