use Rattle.std.proofs.Common.{arith, false, true}
use Rattle.row_keys.proofs.RetainedIndex.{at_below, gone_not, index_on, kept_keyed, live_fits, seen_turned}
use Rattle.row_keys.proofs.numbers.Numbers.revive.Goals as goal

pub index_mut-requires : goal.index_mut-requires
index_mut-requires c =
    let keyed =
    kept_keyed c.self.inside.keys c.self.inside.holders.items c.self.inside.kept.items c.deref.result.now
    c.self.inside.len c.self.inside.live c.args.number c.entry_at-place.result c.args.self.now c.self.invariant
    c.self.view_is (at_below c.args.self.now c.args.number c.requires.0 false c.requires.1)
    c.entry_at-place.ensures c.deref.ensures.value in
    let many = c.self.invariant.index.as_many in
    omega (arith, keyed, many)

pub set_live-requires-clause-kept : goal.set_live-requires-clause-kept
set_live-requires-clause-kept c = λ gone.
    absurd (gone_not c.self.inside.keys c.self.inside.holders.items c.self.inside.kept.items c.self.inside.len
    c.self.inside.live c.args.number c.requires.0 c.args.self.now c.self.invariant c.self.view_is c.requires.1
    c.requires.3 gone)

pub overflow_add-self : goal.overflow_add-self
overflow_add-self c =
    let fits =
    live_fits c.self.inside.keys c.self.inside.holders.items c.self.inside.kept.items c.self.inside.len
    c.self.inside.live c.self.invariant in
    omega (arith, fits)

pub invariant_of-self : goal.invariant_of-self
invariant_of-self c =
    index_on c.self.inside.keys c.self.inside.holders.items c.self.inside.kept.items c.deref.result.now
    c.set_live.new.kept.items
    c.self.inside.len c.self.inside.live c.args.number c.requires.0 c.entry_at-place.result c.args.self.now
    c.self.invariant c.self.view_is c.entry_at-place.ensures c.deref.ensures.value c.requires.1 c.requires.2
    (c.set_live.ensures.order c.self.inside.len c.self.invariant.order)
    (c.set_live.ensures.flagged c.self.inside.len c.self.invariant.order)

pub returns : goal.returns
returns c =
    seen_turned c.self.inside.keys c.self.inside.kept.items c.set_live.new.kept.items c.self.inside.len c.args.number
    true c.args.self.now c.self.view_is (c.set_live.ensures.flagged c.self.inside.len c.self.invariant.order)
