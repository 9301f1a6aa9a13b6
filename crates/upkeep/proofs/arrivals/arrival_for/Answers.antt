use Rattle.std.proofs.Common.{rules}
use Rattle.upkeep.proofs.ArrivalRows.{batch_tells}
use Rattle.upkeep.proofs.arrivals.arrival_for.Goals as goal

pub returns : goal.returns
returns c =
    batch_tells c.first_cells_law.ensures c.args.view.now c.in-Some.filter c.args.columns.now c.args.rows
    (record { truths = c.in_ok-truths.truths; looked_up = c.in-Some-2.looked_up }) (search rules) (search rules)
    c.in_ok-truths.ensures (search rules)
