use Rattle.std.proofs.Common.{arith, refl}
use Rattle.row_keys.proofs.RowPlaces.{turn_found, turn_none_over, turn_none_under}
use Rattle.row_keys.proofs.stored_chunk.place_in_turn.Goals as goal
use Rattle.row_keys.proofs.stored_chunk.place_in_turn.Goals.{then-number-first-via-else-number-first+then-number-first-2, then-number-first-via-then-number-first}

pub returns-then-number-first : goal.returns-then-number-first
returns-then-number-first c = elim c.then-number-first.branch [
  | then-number-first-via-then-number-first w ↦
      let under = w.if-number-first.true in
      turn_none_under c.args.first c.args.count c.args.number (omega (arith, under))
  | then-number-first-via-else-number-first+then-number-first-2 w ↦
      let low = w.if-number-first.false in
      let past = w.if-number-first-2.true in
      turn_none_over c.args.first c.args.count c.args.number (omega (arith, low, past))
]

pub returns : goal.returns
returns c =
    let low = c.if-number-first.false in
    let below = c.if-number-first-2.false in
    turn_found c.args.first c.args.count c.args.number _ (omega (arith, low)) refl (omega (arith, below))
