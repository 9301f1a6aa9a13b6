use Rattle.std.specs.Ordering.{nat_cmp}
use Rattle.top_rows.proofs.ShortEntries.{first-pairs}
use Rattle.top_rows.proofs.short_entries.ShortEntries.first.Goals as goal

pub returns : goal.returns
returns g c =
    first-pairs g.K.Ord.cmp nat_cmp g.K.ShortKeys.sort_keys g.met.K.ShortKeys.ordered c.self.inside.pairs.keys c.args.self.now
    c.self.view_is c.args.most c.in_ok-numbers.numbers.items c.in_ok-numbers.ensures
