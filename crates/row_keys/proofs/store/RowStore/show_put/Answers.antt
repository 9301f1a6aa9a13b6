use Rattle.std.proofs.Common.{subst, sym}
use Rattle.row_keys.specs.Slots.{CanRevert}
use Rattle.row_keys.specs.Store.{Store}
use Rattle.row_keys.proofs.HiddenRows.{show_few}
use Rattle.row_keys.proofs.store.RowStore.show_put.Goals as goal

pub put_back_last-requires-clause-few : goal.put_back_last-requires-clause-few
put_back_last-requires-clause-few c =
    let P : Store → Type 0 = λ s. CanRevert c.args.rows s.slots in
    subst P (sym c.retract.ensures.slots)
    (show_few c.args.self.now.table c.args.rows c.args.replaced.now c.args.self.now.slots c.requires.0)
