use Rattle.row_keys.proofs.RetainedIndex.{index_forgotten, seen_forgotten}
use Rattle.row_keys.proofs.numbers.Numbers.release.Goals as goal

pub invariant_of-self : goal.invariant_of-self
invariant_of-self c =
    index_forgotten c.self.inside.keys c.self.inside.holders.items c.self.inside.kept.items c.forget.new.kept.items
    c.self.inside.len c.self.inside.live c.args.number c.args.self.now c.self.invariant c.self.view_is c.requires.there
    c.requires.out
    (c.forget.ensures.order c.self.inside.len c.self.invariant.order)
    (c.forget.ensures.gone c.self.inside.len c.self.invariant.order)

pub invariant_of-self-else-forget : goal.invariant_of-self-else-forget
invariant_of-self-else-forget c =
    index_forgotten c.self.inside.keys c.self.inside.holders.items c.self.inside.kept.items c.forget.new.kept.items
    c.self.inside.len c.self.inside.live c.args.number c.args.self.now c.self.invariant c.self.view_is c.requires.there
    c.requires.out
    (c.forget.ensures.order c.self.inside.len c.self.invariant.order)
    (c.forget.ensures.gone c.self.inside.len c.self.invariant.order)

pub returns-then-forget : goal.returns-then-forget
returns-then-forget c =
    seen_forgotten c.self.inside.keys c.self.inside.holders.items c.self.inside.kept.items c.forget.new.kept.items
    c.self.inside.len c.self.inside.live c.args.number c.args.self.now c.self.invariant c.self.view_is c.requires.there
    (c.forget.ensures.gone c.self.inside.len c.self.invariant.order)

pub returns-else-forget : goal.returns-else-forget
returns-else-forget c =
    seen_forgotten c.self.inside.keys c.self.inside.holders.items c.self.inside.kept.items c.forget.new.kept.items
    c.self.inside.len c.self.inside.live c.args.number c.args.self.now c.self.invariant c.self.view_is c.requires.there
    (c.forget.ensures.gone c.self.inside.len c.self.invariant.order)
