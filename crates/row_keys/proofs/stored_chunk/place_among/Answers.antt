use Rattle.std.proofs.Common.{◌∙◌}
use Rattle.row_keys.proofs.RowPlaces.{found_at, found_nowhere, same_at}
use Rattle.row_keys.proofs.stored_chunk.place_among.Goals as goal

pub returns-then-is_number_at : goal.returns-then-is_number_at
returns-then-is_number_at c =
    let at = c.is_number_at.ensures.yes c.if-is_number_at.true in
    found_at c.requires.0 c.requires.1 c.args.numbers.now c.args.number c.args.near c.args.number c.requires.2 at.0 at.1

pub returns-then-is_number_at-2 : goal.returns-then-is_number_at-2
returns-then-is_number_at-2 c =
    let at = c.is_number_at-2.ensures.yes c.if-is_number_at-2.true in
    found_at c.requires.0 c.requires.1 c.args.numbers.now c.args.number c.count_below-place.result c.args.number
    c.requires.2 at.0 at.1

pub returns-else-is_number_at-2 : goal.returns-else-is_number_at-2
returns-else-is_number_at-2 c =
    let ns = c.args.numbers.now in
    let p = c.count_below-place.result in
    found_nowhere c.requires.0 c.requires.1 ns c.args.number p c.requires.2 c.count_below-place.ensures
    (λ d inside is. c.is_number_at-2.ensures.no c.if-is_number_at-2.false inside (same_at ns p c.args.number d inside ∙ is))
