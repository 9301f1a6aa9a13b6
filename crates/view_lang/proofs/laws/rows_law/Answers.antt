use Rattle.view_lang.proofs.CellFits.{rows_are_light}
use Rattle.view_lang.proofs.KeyCells.{views_order_keys, views_use_keys}
use Rattle.view_lang.proofs.ViewRows.{views_can_sum, views_have_few_rows, views_have_rows}
use Rattle.view_lang.proofs.laws.rows_law.Goals as goal

pub returns : goal.returns
returns c = record {
  light = rows_are_light;
  sums = views_can_sum;
  views = views_have_rows;
  few = views_have_few_rows;
  keys = views_use_keys;
  ordered = views_order_keys;
}
