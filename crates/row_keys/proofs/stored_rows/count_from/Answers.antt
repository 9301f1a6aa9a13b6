use Rattle.std.proofs.Common.{of_calls, rules}
use Rattle.std.specs.Prelude.{nat_le}
use Rattle.std.proofs.lemmas.Fn.{always_returns_same}
use Rattle.row_keys.proofs.ChunkedRows.{chunks_parted}
use Rattle.row_keys.proofs.stored_rows.count_from.Goals as goal

pub returns-clause-parted : goal.returns-clause-parted
returns-clause-parted c =
    c.partition_point.ensures.partitioned (λ x. nat_le x.first c.args.number)
    (always_returns_same _ _ _ (λ a r f k. search (rules, of_calls)))
    (chunks_parted c.args.chunks.now c.requires.0 c.args.number c.requires.1)
