use Rattle.std.proofs.Common.{subst, sym}
use Rattle.row_keys.specs.Slots.{CanRevert}
use Rattle.upkeep.specs.LiveParts.{LiveParts}
use Rattle.upkeep.specs.Stores.{rows_at, rows_in}
use Rattle.upkeep.proofs.MainEdits.{take_back_live, take_back_needs}
use Rattle.upkeep.proofs.MainTable.{taken_there}
use Rattle.upkeep.proofs.live_tables.LiveTables.revert.Goals as goal

pub follow_last-requires-clause-there : goal.follow_last-requires-clause-there
follow_last-requires-clause-there c =
    taken_there c.args.count (rows_at (rows_in c.self.inside.stores.items) 0) (subst
    (λ (p : LiveParts). CanRevert c.args.count (rows_at (rows_in p.stores) 0)) (sym c.self.view_is) c.requires)

pub follow_last-requires-clause-fits : goal.follow_last-requires-clause-fits
follow_last-requires-clause-fits c =
    take_back_needs c.numbers_law.ensures.live c.numbers_law.ensures.reverted c.self.inside.stores.items
    c.self.inside.views.items c.deref.result.now c.self.inside.states.items c.index.result.now c.args.count
    c.deref.ensures.value c.self.invariant c.index.ensures (subst
    (λ (p : LiveParts). CanRevert c.args.count (rows_at (rows_in p.stores) 0)) (sym c.self.view_is) c.requires)
    c.rows_law.ensures.table
    c.rows_law.ensures.few

pub invariant_of-self-2 : goal.invariant_of-self-2
invariant_of-self-2 c =
    take_back_live c.numbers_law.ensures.reverted c.self.inside.stores.items c.follow_last.new.stores.items
    c.self.inside.views.items c.deref.result.now c.self.inside.states.items c.follow_last.new.states.items
    c.index.result.now c.index_mut.result.now c.revert.new.self c.args.count c.deref.ensures.value
    c.self.invariant c.index.ensures (subst
    (λ (p : LiveParts). CanRevert c.args.count (rows_at (rows_in p.stores) 0)) (sym c.self.view_is) c.requires)
    c.in_ok-follow_last.ensures.kept
    c.follow_last.ensures.same_rows.tables c.follow_last.ensures.same_rows.rows c.index_mut.ensures.value c.revert.ensures
