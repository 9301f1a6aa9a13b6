use Rattle.std.proofs.Common.{◌≡◌, take}
use Rattle.top_rows.specs.SortKeys.{sort_keys_of}
use Rattle.top_rows.proofs.sort_key_list.each_key.Given as goal

abbrev pub invariant-loop-by : goal.invariant-loop-by
invariant-loop-by g l = l.keys.items ≡ sort_keys_of (take l.by-index l.order) (g.R.RowView.cells l.row)
