use Rattle.std.proofs.Common.{rules}
use Rattle.showing.proofs.Slots.{value-shown}
use Rattle.showing.proofs.cell.slot_cell.Goals as goal

pub returns-in-None-clause-value : goal.returns-in-None-clause-value
returns-in-None-clause-value c =
    value-shown c.args.body.now c.args.own.now _ _ c.args.i _ (search rules) c.in-None.is c.valid_cell.ensures.value
