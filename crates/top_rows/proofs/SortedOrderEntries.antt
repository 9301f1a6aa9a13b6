-- The entries of rows are stored sorted.
use Rattle.std.specs.Ordering.{nat_cmp}
use Rattle.std.specs.Cmp.{nat_cmp_total}
use Rattle.std.proofs.lemmas.Map.Lookups.{exact_unsigned}
use Rattle.top_rows.specs.SortedOrderEntries.{EntriesAreSorted}
use Rattle.top_rows.proofs.Ties.{order_entries-are}

pub are_sorted : EntriesAreSorted
are_sorted kept rows ascending s k =
    order_entries-are nat_cmp nat_cmp_total exact_unsigned kept.order kept.order_entries rows ascending s k

pub ruleset sorting_laws = (are_sorted)
