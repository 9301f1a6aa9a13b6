use Rattle.std.proofs.Common.{List, ap, length, subst, sym, ◌∙◌}
use Rattle.std.specs.Prelude.{slice_set}
use Rattle.row_keys.specs.Batches.{batch_rows, cells_in}
use Rattle.row_keys.specs.Numbered.{numbered}
use Rattle.row_keys.specs.Store.{Store}
use Rattle.view_lang.specs.Config.{View}
use Rattle.arrays.specs.Checked.{CheckedColumn}
use Rattle.upkeep.specs.LiveParts.{AreOf}
use Rattle.upkeep.specs.Stores.{rows_at, rows_in, tables_in}
use Rattle.upkeep.proofs.ArrivalRows.{appended_tells}
use Rattle.upkeep.proofs.FollowedViews.{current_alike}
use Rattle.upkeep.proofs.MainEdits.{live_anyhow, live_unchanged, new_live, new_needs, new_there}
use Rattle.upkeep.proofs.MainTable.{batch_length, of_set}
use Rattle.upkeep.proofs.live_tables.LiveTables.append.Goals as goal

pub invariant_of-self : goal.invariant_of-self
invariant_of-self c =
    live_unchanged c.self.inside.stores.items c.self.inside.views.items c.self.inside.states.items
    c.index_mut.result.now c.append_batch.new.self c.index_mut.ensures.value c.append_batch.ensures.table
    c.in_err-change.ensures.makes.1 c.self.invariant

pub follow_last-requires-clause-fits : goal.follow_last-requires-clause-fits
follow_last-requires-clause-fits c =
    new_needs c.numbers_law.ensures.appended c.numbers_law.ensures.live c.self.inside.stores.items
    c.self.inside.views.items c.deref-4.result.now c.self.inside.states.items c.index_mut.result.now
    c.append_batch.new.self c.index.result.now (batch_rows c.args.rows c.args.columns.items) c.args.rows
    c.deref-4.ensures.value c.self.invariant c.index_mut.ensures.value c.append_batch.ensures.table
    c.in_ok-change.ensures.slots.1 (batch_length (cells_in c.args.columns.items) c.args.rows) c.index.ensures
    c.rows_law.ensures.table c.rows_law.ensures.few

pub invariant_of-self-in-Ok : goal.invariant_of-self-in-Ok
invariant_of-self-in-Ok c =
    new_live c.numbers_law.ensures.appended c.self.inside.stores.items c.follow_last.new.stores.items
    c.self.inside.views.items c.deref-4.result.now c.self.inside.states.items c.follow_last.new.states.items
    c.index_mut.result.now c.append_batch.new.self (batch_rows c.args.rows c.args.columns.items) c.args.rows
    c.deref-4.ensures.value c.self.invariant c.index_mut.ensures.value c.append_batch.ensures.table
    c.in_ok-change.ensures.slots.1 (batch_length (cells_in c.args.columns.items) c.args.rows)
    c.follow_last.ensures.same_rows.tables c.follow_last.ensures.same_rows.rows c.in-Ok.ensures.kept

pub follow_last-requires-clause-there : goal.follow_last-requires-clause-there
follow_last-requires-clause-there c =
    new_there c.self.inside.stores.items c.index_mut.result.now c.append_batch.new.self
    (batch_rows c.args.rows c.args.columns.items) c.args.rows c.self.invariant.these.main
    c.in_ok-change.ensures.slots.1 (batch_length (cells_in c.args.columns.items) c.args.rows)

pub invariant_of-self-in-Err : goal.invariant_of-self-in-Err
invariant_of-self-in-Err c =
    live_anyhow (slice_set c.self.inside.stores.items 0 c.append_batch.new.self) c.follow_last.new.stores.items
    c.self.inside.views.items c.deref-4.result.now c.follow_last.new.states.items c.index_mut-in-Err.result.now
    c.restore.new.self c.deref-4.ensures.value
    (of_set c.self.inside.stores.items c.index_mut.result.now c.append_batch.new.self c.self.inside.views.items
    c.index_mut.ensures.value c.append_batch.ensures.table c.self.invariant.these) c.follow_last.ensures.same_rows.tables
    c.index_mut-in-Err.ensures.value (ap (λ (s : Store). s.table) c.restore.ensures) c.in-Err.ensures.err

pub arrivals_for-requires-clause-alike : goal.arrivals_for-requires-clause-alike
arrivals_for-requires-clause-alike c =
    let stores : List Store = c.self.inside.stores.items in
    ap length c.deref-2.ensures.value
    ∙ current_alike (tables_in stores) (rows_in stores) (numbered (rows_at (rows_in stores) 0))
    c.self.inside.views.items c.self.inside.states.items c.self.invariant.current
    ∙ sym (ap length c.deref.ensures.value)

pub follow_last-requires-clause-these : goal.follow_last-requires-clause-these
follow_last-requires-clause-these c =
    subst (λ (vs : List View). AreOf (slice_set c.self.inside.stores.items 0 c.append_batch.new.self) vs)
    (sym c.deref-4.ensures.value)
    (of_set c.self.inside.stores.items c.index_mut.result.now c.append_batch.new.self c.self.inside.views.items
    c.index_mut.ensures.value c.append_batch.ensures.table c.self.invariant.these)

pub follow_last-requires-clause-known : goal.follow_last-requires-clause-known
follow_last-requires-clause-known c =
    appended_tells c.self.inside.stores.items c.self.inside.views.items c.deref.result.now c.deref-4.result.now
    c.in_ok-arrivals.arrivals.items c.deref-5.result.now c.index_mut.result.now c.append_batch.new.self
    (batch_rows c.args.rows c.args.columns.items) (batch_rows c.args.rows c.deref-3.result.now) c.args.rows
    c.deref.ensures.value c.deref-4.ensures.value c.deref-5.ensures.value
    (ap (λ (cs : List CheckedColumn). batch_rows c.args.rows cs) c.deref-3.ensures.value)
    c.self.invariant.these.main c.in_ok-change.ensures.slots.1
    (batch_length (cells_in c.args.columns.items) c.args.rows) c.in_ok-arrivals.ensures
