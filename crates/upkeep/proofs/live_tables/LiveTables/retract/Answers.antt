use Rattle.upkeep.proofs.MainEdits.{retract_alive, retract_live, retract_needs, retract_there}
use Rattle.upkeep.proofs.live_tables.LiveTables.retract.Goals as goal

pub follow_scattered-requires-clause-there : goal.follow_scattered-requires-clause-there
follow_scattered-requires-clause-there c =
    retract_there c.self.inside.stores.items c.index.result.now c.in_ok-numbers.numbers.items c.deref-2.result.now
    c.index.ensures c.self.invariant.these.main c.deref-2.ensures.value c.in_ok-numbers.ensures.numbers

pub follow_scattered-requires-clause-live : goal.follow_scattered-requires-clause-live
follow_scattered-requires-clause-live c = λ go.
    retract_alive c.self.inside.stores.items c.index.result.now c.in_ok-numbers.numbers.items c.deref-2.result.now
    c.index.ensures c.self.invariant.these.main c.deref-2.ensures.value c.in_ok-numbers.ensures.numbers

pub follow_scattered-requires-clause-fits : goal.follow_scattered-requires-clause-fits
follow_scattered-requires-clause-fits c =
    retract_needs c.numbers_law.ensures.live c.numbers_law.ensures.few_retracted c.numbers_law.ensures.retracted
    c.self.inside.stores.items c.self.inside.views.items c.deref.result.now c.self.inside.states.items
    c.index.result.now c.index-2.result.now c.in_ok-numbers.numbers.items c.deref-2.result.now c.deref.ensures.value
    c.self.invariant c.index.ensures c.index-2.ensures c.deref-2.ensures.value c.in_ok-numbers.ensures.numbers
    c.rows_law.ensures.table c.rows_law.ensures.few

pub invariant_of-self-2 : goal.invariant_of-self-2
invariant_of-self-2 c =
    retract_live c.numbers_law.ensures.retracted c.self.inside.stores.items c.follow_scattered.new.stores.items
    c.self.inside.views.items c.deref.result.now c.self.inside.states.items c.follow_scattered.new.states.items
    c.index.result.now c.index_mut.result.now c.retract.new.self c.in_ok-numbers.numbers.items c.deref-2.result.now
    c.deref-3.result.now c.deref.ensures.value c.self.invariant c.index.ensures c.deref-2.ensures.value
    c.deref-3.ensures.value c.in_ok-numbers.ensures.numbers c.in_ok-follow_scattered.ensures.kept
    c.follow_scattered.ensures.same_rows.tables c.follow_scattered.ensures.same_rows.rows c.index_mut.ensures.value c.retract.ensures.slots
