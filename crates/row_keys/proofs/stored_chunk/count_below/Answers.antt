use Rattle.std.proofs.Common.{of_calls, rules}
use Rattle.std.specs.Prelude.{nat_lt}
use Rattle.std.proofs.lemmas.Fn.{always_returns_same}
use Rattle.row_keys.proofs.RowPlaces.{rising_parted}
use Rattle.row_keys.proofs.stored_chunk.count_below.Goals as goal

pub returns : goal.returns
returns c =
    c.partition_point.ensures.partitioned (λ m. nat_lt m c.args.number)
    (always_returns_same _ _ _ (λ a r f k. search (rules, of_calls)))
    (rising_parted c.requires.0 c.requires.1 c.args.numbers.now c.args.number c.requires.2)
