use Rattle.std.proofs.Common.{arith}
use Rattle.row_keys.proofs.RowPlaces.{turn_below}
use Rattle.row_keys.proofs.stored_chunk.count_in_turn.Goals as goal

pub returns : goal.returns
returns c =
    let from = c.saturating_sub.ensures in
    let least = c.min.ensures in
    turn_below c.args.first c.args.count c.args.number c.min.result (omega (arith, from, least))
