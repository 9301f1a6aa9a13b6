use Rattle.std.proofs.Common.{◌≡◌, ℕ, ◌<◌, ◌≤◌, get_or, length}
use Rattle.std.specs.Prelude.{Some, min, slice_get}
use Rattle.values.specs.Rose.{Rose}
use Rattle.schema_meta.specs.Entry.{Entry}
use Rattle.arrays.specs.Checked.{CheckedColumn}
use Rattle.showing.specs.Tables.{IsWider, measured_rows}
use Rattle.showing.proofs.table.Table.measure.Given as goal

abbrev pub invariant-loop-place : goal.invariant-loop-place
invariant-loop-place l = record {
  few : l.place ≤ length l.fields;
  count : length l.self.widths.items ≡ length l.initial.self.widths.items;
  shown : (k : ℕ) (f : Rose Entry) (c : CheckedColumn) → k < l.place → slice_get l.fields k ≡ Some f
      → slice_get l.columns k ≡ Some c
      → IsWider f c (min l.rows measured_rows) (get_or l.initial.self.widths.items k 0) (get_or l.self.widths.items k 0);
  others : (k : ℕ) → l.place ≤ k → get_or l.self.widths.items k 0 ≡ get_or l.initial.self.widths.items k 0;
}
