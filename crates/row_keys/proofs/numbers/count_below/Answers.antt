use Rattle.std.proofs.Common.{of_calls, rules}
use Rattle.std.specs.Prelude.{nat_lt}
use Rattle.std.proofs.lemmas.Fn.{always_returns_same}
use Rattle.row_keys.proofs.RetainedEntries.{kept_parted}
use Rattle.row_keys.proofs.numbers.count_below.Goals as goal

pub returns : goal.returns
returns c =
    c.partition_point.ensures.partitioned (λ k. nat_lt k.number c.args.number)
    (always_returns_same _ _ _ (λ a r f k. search (rules, of_calls)))
    (kept_parted c.args.kept.now c.requires.0 c.args.number c.requires.1)
