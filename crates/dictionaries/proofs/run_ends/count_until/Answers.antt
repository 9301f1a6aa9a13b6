use Rattle.std.proofs.Common.{rules, of_calls}
use Rattle.std.specs.Prelude.{nat_le}
use Rattle.std.proofs.lemmas.Fn.{always_returns_same}
use Rattle.dictionaries.proofs.RunLemmas.{prefix-parted, rising-parted}
use Rattle.dictionaries.proofs.run_ends.count_until.Goals as goal

pub returns : goal.returns
returns c =
    prefix-parted c.args.ends.now c.args.i c.partition_point.result c.partition_point.ensures.bound
    (c.partition_point.ensures.partitioned (λ end. nat_le end c.args.i)
    (always_returns_same _ _ _ (λ a r f k. search (rules, of_calls)))
    (rising-parted c.args.ends.now c.args.i c.requires))
