use Rattle.std.proofs.Common.{false}
use Rattle.row_keys.proofs.RetainedIndex.{index_off, live_there, seen_turned}
use Rattle.row_keys.proofs.numbers.Numbers.retract.Goals as goal

pub overflow_sub-self : goal.overflow_sub-self
overflow_sub-self c =
    live_there c.self.inside.keys c.self.inside.holders.items c.self.inside.kept.items c.self.inside.len
    c.self.inside.live c.args.number c.requires.0 c.args.self.now c.self.invariant c.self.view_is c.requires.1

pub invariant_of-self : goal.invariant_of-self
invariant_of-self c =
    index_off c.self.inside.keys c.self.inside.holders.items c.self.inside.kept.items c.set_live.new.kept.items
    c.self.inside.len c.self.inside.live c.args.number c.requires.0 c.args.self.now c.self.invariant c.self.view_is
    c.requires.1
    (c.set_live.ensures.order c.self.inside.len c.self.invariant.order)
    (c.set_live.ensures.flagged c.self.inside.len c.self.invariant.order)

pub returns : goal.returns
returns c =
    seen_turned c.self.inside.keys c.self.inside.kept.items c.set_live.new.kept.items c.self.inside.len c.args.number
    false c.args.self.now c.self.view_is (c.set_live.ensures.flagged c.self.inside.len c.self.invariant.order)
