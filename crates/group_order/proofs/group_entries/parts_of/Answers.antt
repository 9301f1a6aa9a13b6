use Rattle.std.proofs.Common.{◌≡◌, ◌∷◌, rules}
use Rattle.group_state.proofs.Taken.{taken-next}
use Rattle.group_order.specs.RankedParts.{entry_with}
use Rattle.group_order.proofs.group_entries.parts_of.Goals as goal

pub loop-entry-preserved : goal.loop-entry-preserved
loop-entry-preserved c =
    let x = c.in_ok-into_parts.field-0 in
    let left : c.loop-entry.entry-iterator ≡ c.in-Some.entry ∷ c.next.new.self = search rules in
    taken-next entry_with c.loop-entry.parts.items c.push.new.self.items x c.in-Some.entry c.loop-entry.entry-iterator
    c.next.new.self c.args.entries.keys c.in_ok-push.ensures.items left c.in_ok-into_parts.ensures
    c.loop-entry.invariant
