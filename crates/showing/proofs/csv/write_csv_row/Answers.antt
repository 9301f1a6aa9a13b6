use Rattle.std.proofs.Common.{ap, rules}
use Rattle.std.specs.Prelude.{codes}
use Rattle.showing.specs.Joined.{joined_behind}
use Rattle.showing.proofs.WrittenParts.{leaves-end, leaves-item}
use Rattle.showing.proofs.Lists.{row-fields-step, row-fields-none, row-fields-end, seen-in}
use Rattle.showing.proofs.csv.write_csv_row.Goals as goal
use Rattle.showing.proofs.csv.write_csv_row.Goals.{else-loop-column-test, then-loop-column-test+in_default}

pub loop-column-preserved : goal.loop-column-preserved
loop-column-preserved g c = record {
  text = search rules;
  wrote = leaves-item _ _ _ _ _ _ _ _ _ c.loop-column.invariant.wrote c.in_ok-write.ensures.bytes
      c.in_ok-write_cell.ensures
      (row-fields-step c.loop-column.fields.now c.in-Some.rest.now c.args.columns.now c.loop-column.column-index c.args.row
      c.in-Some.field.now c.column-item.result _ _ _ c.in-Some.ensures.cases.0 c.column-item.is c.loop-column-test.true
      (seen-in c.cell_at.result c.column-item.result c.args.row (search rules) c.cell_at.ensures.value));
}

pub returns : goal.returns
returns g c =
    leaves-end _ _ _ _ _ _ _ c.loop-column.invariant.wrote
    (ap (joined_behind c.loop-column.comma.now (codes ","))
    (elim c.loop-column-test.branch [
      | else-loop-column-test w ↦ row-fields-end c.loop-column.fields.now c.args.columns.now c.loop-column.column-index c.args.row
          w.loop-column-test.false
      | then-loop-column-test+in_default w ↦ row-fields-none c.loop-column.fields.now _ c.args.row w.in_default.ensures.cases
    ]))
    c.write_all.ensures.bytes
