-- The laws of order.
use Rattle.std.proofs.Common.{List, sym, subst}
use Rattle.values.specs.Datum.{Datum}
use Rattle.view_lang.specs.RowOrder.{row_cmp}
use Rattle.view_lang.specs.Sorted.{IsArranged}
use Rattle.view_lang.specs.ViewLaws.{RowsAreRanked, SortedIsTheArrangement}
use Rattle.view_lang.proofs.Orders.{row_cmp_total}
use Rattle.view_lang.proofs.StableOrder.{arranged-sorted, sorted_is}

pub rows-ranked : RowsAreRanked
rows-ranked os = row_cmp_total os

pub sorted-is-arrangement : SortedIsTheArrangement
sorted-is-arrangement os rows others =
    let P : List (List Datum) → Type 0 = λ l. IsArranged (row_cmp os) rows l in (
      (λ a. sorted_is (row_cmp os) (row_cmp_total os) rows others a.ascending a.stable),
      λ e. subst P (sym e) (arranged-sorted (row_cmp os) (row_cmp_total os) rows),
    )

pub ruleset order_laws = (rows-ranked, sorted-is-arrangement)
