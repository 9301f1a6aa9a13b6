use Rattle.std.proofs.Common.{◌≡◌, ◌≤◌, length, map, take}
use Rattle.top_rows.specs.EntryOrder.{RowEntry}
use Rattle.top_rows.proofs.row_entries.first_numbers.Given as goal

abbrev pub invariant-loop-entry : goal.invariant-loop-entry
invariant-loop-entry l =
    (length l.numbers.items ≡ length l.yielded)
    × ((length l.yielded ≤ l.most)
    × (l.numbers.items ≡ map (λ (p : RowEntry). p.1) (take (length l.yielded) l.entries.keys)))
