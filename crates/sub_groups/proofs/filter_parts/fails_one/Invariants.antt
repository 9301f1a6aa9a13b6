use Rattle.std.proofs.Common.{◌≡◌, drop}
use Rattle.std.specs.List.{list_any}
use Rattle.sub_groups.specs.FilterParts.{fails}
use Rattle.sub_groups.proofs.filter_parts.fails_one.Given as goal

abbrev pub invariant-loop-filter : goal.invariant-loop-filter
invariant-loop-filter g l =
    list_any (fails l.parts l.width (g.R.RowView.cells l.row)) (drop l.filter-index l.filters)
    ≡ list_any (fails l.parts l.width (g.R.RowView.cells l.row)) l.filters
