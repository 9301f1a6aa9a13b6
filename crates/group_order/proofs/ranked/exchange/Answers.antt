use Rattle.std.proofs.Common.{◌∙◌, sym}
use Rattle.group_order.proofs.EntryChanges.{exchanged}
use Rattle.group_order.proofs.OrderedGroups.{same-keys}
use Rattle.group_order.proofs.ranked.exchange.Goals as goal

pub returns-then-eq : goal.returns-then-eq
returns-then-eq c =
    same-keys c.args.tuple c.args.before c.args.after c.args.entries.now (sym c.eq.ensures ∙ c.if-eq.true)

pub returns : goal.returns
returns c =
    exchanged c.args.entries.now c.remove.new.self c.insert.new.self c.args.before c.args.after c.args.tuple
    c.in_ok-tuple.tuple c.in_ok-tuple.ensures.tuple c.ascending_law.ensures c.in_ok-tuple.ensures.removed
    c.in_ok-insert.ensures
