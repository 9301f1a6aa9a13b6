use Rattle.std.proofs.Common.{refl}
use Rattle.row_keys.proofs.RetainedEntries.{not_there}
use Rattle.row_keys.proofs.numbers.place_of.Goals as goal

pub returns-else-is_at-3 : goal.returns-else-is_at-3
returns-else-is_at-3 c =
    not_there c.args.kept.now c.requires.0 c.args.number c.count_below-place.result c.requires.1
    c.count_below-place.ensures
    (λ k there is. c.if-is_at-3.ensures.no refl (record { one = k; there = there; number = is }))
