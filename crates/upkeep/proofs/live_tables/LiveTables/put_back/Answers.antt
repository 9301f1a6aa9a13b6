use Rattle.std.proofs.Common.{subst, sym}
use Rattle.view_lang.specs.World.{table_at}
use Rattle.row_keys.specs.Slots.{CanPutBack}
use Rattle.upkeep.specs.LiveParts.{LiveParts}
use Rattle.upkeep.specs.Stores.{rows_at, rows_in, tables_in}
use Rattle.upkeep.proofs.MainEdits.{put_back_live, put_back_needs}
use Rattle.upkeep.proofs.MainTable.{put_back_there}
use Rattle.upkeep.proofs.live_tables.LiveTables.put_back.Goals as goal

pub follow_scattered-requires-clause-there : goal.follow_scattered-requires-clause-there
follow_scattered-requires-clause-there c =
    put_back_there (table_at (tables_in c.self.inside.stores.items) 0) c.args.numbers.now
    (rows_at (rows_in c.self.inside.stores.items) 0) (subst
    (λ (p : LiveParts). CanPutBack (table_at (tables_in p.stores) 0) c.args.numbers.now
    (rows_at (rows_in p.stores) 0)) (sym c.self.view_is) c.requires)

pub follow_scattered-requires-clause-fits : goal.follow_scattered-requires-clause-fits
follow_scattered-requires-clause-fits c =
    put_back_needs c.numbers_law.ensures.live c.numbers_law.ensures.few_put_back c.numbers_law.ensures.put_back
    c.self.inside.stores.items c.self.inside.views.items c.deref.result.now c.self.inside.states.items
    c.index.result.now c.args.numbers.now c.deref.ensures.value c.self.invariant c.index.ensures
    (subst
    (λ (p : LiveParts). CanPutBack (table_at (tables_in p.stores) 0) c.args.numbers.now
    (rows_at (rows_in p.stores) 0)) (sym c.self.view_is) c.requires) c.rows_law.ensures.table c.rows_law.ensures.few

pub invariant_of-self-2 : goal.invariant_of-self-2
invariant_of-self-2 c =
    put_back_live c.numbers_law.ensures.put_back c.self.inside.stores.items c.follow_scattered.new.stores.items
    c.self.inside.views.items c.deref.result.now c.self.inside.states.items c.follow_scattered.new.states.items
    c.index.result.now c.index_mut.result.now c.put_back.new.self c.args.numbers.now c.deref.ensures.value
    c.self.invariant c.index.ensures (subst
    (λ (p : LiveParts). CanPutBack (table_at (tables_in p.stores) 0) c.args.numbers.now
    (rows_at (rows_in p.stores) 0)) (sym c.self.view_is) c.requires) c.in_ok-follow_scattered.ensures.kept
    c.follow_scattered.ensures.same_rows.tables c.follow_scattered.ensures.same_rows.rows c.index_mut.ensures.value c.put_back.ensures.slots
