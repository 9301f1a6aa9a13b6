use Rattle.std.proofs.Common.{subst}
use Rattle.row_keys.specs.Entries.{all_entries}
use Rattle.row_keys.specs.Numbers.{AreDistinct}
use Rattle.row_keys.proofs.Indexes.{rows_distinct}
use Rattle.row_keys.proofs.numbers.Numbers.distinct_law.Goals as goal

pub returns : goal.returns
returns c =
    subst AreDistinct c.self.view_is
    (rows_distinct c.self.inside.keys c.self.inside.holders.items (all_entries c.self.inside.kept.items c.self.inside.len) c.self.inside.live
    c.self.invariant.index c.distinct_law.ensures)
