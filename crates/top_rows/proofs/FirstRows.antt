-- The first entries are those of the first rows of a view.
use Rattle.std.specs.Prelude.{ℕ, map, take}
use Rattle.std.specs.Ordering.{nat_cmp}
use Rattle.std.specs.Cmp.{nat_cmp_total}
use Rattle.std.specs.List.Sorted.{IsStrictlySortedBy}
use Rattle.std.proofs.lemmas.Map.Lookups.{exact_unsigned}
use Rattle.view_lang.specs.Shifts.{NumberedRows}
use Rattle.top_rows.specs.OrderedEntries.{OrderedEntries}
use Rattle.top_rows.specs.EntryOrder.{entry_cmp}
use Rattle.top_rows.specs.ViewOrder.{AreFirst, IsKeptFor}
use Rattle.top_rows.proofs.Ties.{first-named}

pub first-sorted : (kept : OrderedEntries) (rows : NumberedRows) (n : ℕ) → IsStrictlySortedBy entry_cmp kept.order_entries
    → IsKeptFor kept rows → AreFirst kept.order n rows (map (λ p. p.1) (take n kept.order_entries))
first-sorted kept rows n ascends k =
    first-named nat_cmp nat_cmp_total exact_unsigned kept.order kept.order_entries rows n k.ascending ascends k.kept_rows
    k.keys
