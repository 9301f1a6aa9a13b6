use Rattle.std.proofs.Common.{◌≡◌, take}
use Rattle.view_lang.specs.Views.{shown_row}
use Rattle.view_lang.proofs.rows.project.Given as goal

abbrev pub invariant-loop-output : goal.invariant-loop-output
invariant-loop-output g l = l.shown.items ≡ shown_row (take l.output-index l.outputs) (g.R.RowView.cells l.row)
