-- Entries, and how they are ordered: by the sort keys one after the other, then by the name. The name of a row is its
-- number, or the grouping tuple of its group.
use Rattle.std.specs.Prelude.{List, ℕ}
use Rattle.std.specs.Cmp.{IsTotalOrder, nat_cmp_total, on_total, then_total}
use Rattle.std.specs.Cmp.Lexicographic.{lists_total, slice_cmp}
use Rattle.std.specs.Ordering.{nat_cmp, on, then_cmp}
use Rattle.std.specs.declared.cmp.Ordering.{Ordering}
use Rattle.top_rows.specs.contracts.sort_key.SortKeyOrd.TheImpl as order
use Rattle.top_rows.specs.contracts.sort_key.SortKeyOrd.TheImpl.Laws.{total-law}
use Rattle.top_rows.specs.declared.sort_key.SortKey.{SortKey}

abbrev pub sort_key_cmp : SortKey → SortKey → Ordering
sort_key_cmp = order.ghosts.cmp

pub sort_key_total : IsTotalOrder sort_key_cmp
sort_key_total = total-law

abbrev pub sort_keys_cmp : List SortKey → List SortKey → Ordering
sort_keys_cmp = slice_cmp sort_key_cmp

pub sort_keys_total : IsTotalOrder sort_keys_cmp
sort_keys_total = lists_total sort_key_total

abbrev pub tied_cmp : {N : Type 0} → (N → N → Ordering) → List SortKey × N → List SortKey × N → Ordering
tied_cmp cmp = then_cmp (on (λ p. p.0) (slice_cmp sort_key_cmp)) (on (λ p. p.1) cmp)

pub tied_total : {N : Type 0} (cmp : N → N → Ordering) → IsTotalOrder cmp → IsTotalOrder (tied_cmp cmp)
tied_total {N} cmp total =
    then_total (on_total (λ (p : List SortKey × N). p.0) (lists_total sort_key_total))
    (on_total (λ (p : List SortKey × N). p.1) total)

-- the sort keys of a row, and its number
abbrev pub RowEntry : Type 0
RowEntry = List SortKey × ℕ

abbrev pub entry_cmp : RowEntry → RowEntry → Ordering
entry_cmp = tied_cmp nat_cmp

pub entry_total : IsTotalOrder entry_cmp
entry_total = tied_total nat_cmp nat_cmp_total
