use Rattle.std.proofs.Common.{arith}
use Rattle.std.specs.Option.{option_map}
use Rattle.view_lang.specs.Cells.{rows_of}
use Rattle.upkeep.proofs.ChangedStores.{still_same}
use Rattle.upkeep.proofs.MadeRows.{made_more}
use Rattle.upkeep.proofs.reading.make_rows.Goals as goal

pub loop-number-preserved : goal.loop-number-preserved
loop-number-preserved c = record {
  made =
      made_more c.args.stores.now.items c.loop-number.stores.items c.args.view.now c.args.numbers.now
      c.loop-number.number-index (rows_of c.loop-number.made.items) (rows_of c.push_some.new.rows.items)
      (option_map (λ r. r.items) c.in_ok-row.row) c.loop-number.invariant.same_rows.tables c.loop-number.invariant.same_rows.rows
      c.loop-number-test.true c.loop-number.invariant.made c.in_ok-row.ensures.row c.in_ok-push_some.ensures;
  same_rows = still_same c.loop-number.invariant.same_rows c.make_row.ensures.same_rows;
  visits = omega (arith, c.make_row.ensures.visits, c.loop-number.invariant.visits);
}
