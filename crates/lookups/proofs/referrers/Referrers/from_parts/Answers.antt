use Rattle.lookups.proofs.Taken.{entries-next, numbers-ascend}
use Rattle.lookups.proofs.referrers.Referrers.from_parts.Goals as goal
use Rattle.std.proofs.Common.{◌≡◌, ◌∷◌, rules}

pub of-requires : goal.of-requires
of-requires c =
    let left : c.loop-key.key-iterator.rest.items ≡ c.in-Some.field-0 ∷ c.next.new.self.rest.items = search rules in
    numbers-ascend c.loop-key.rows.entries c.loop-key.key-iterator.rest.items c.next.new.self.rest.items
    c.args.parts.keys.items c.in-Some.field-0 left c.loop-key.invariant c.requires

pub loop-key-preserved-in_ok-insert : goal.loop-key-preserved-in_ok-insert
loop-key-preserved-in_ok-insert c =
    let left : c.loop-key.key-iterator.rest.items ≡ c.in-Some.field-0 ∷ c.next.new.self.rest.items = search rules in
    entries-next c.loop-key.rows.entries c.loop-key.key-iterator.rest.items c.next.new.self.rest.items
    c.args.parts.keys.items c.in-Some.field-0 left c.loop-key.invariant c.requires c.insert.new.self.entries _
    c.in_ok-of.ensures.value c.in_ok-insert.ensures.entries

pub loop-key-preserved : goal.loop-key-preserved
loop-key-preserved c =
    let left : c.loop-key.key-iterator.rest.items ≡ c.in-Some.field-0 ∷ c.next.new.self.rest.items = search rules in
    entries-next c.loop-key.rows.entries c.loop-key.key-iterator.rest.items c.next.new.self.rest.items
    c.args.parts.keys.items c.in-Some.field-0 left c.loop-key.invariant c.requires c.insert.new.self.entries _
    c.in_ok-of.ensures.value c.in_ok-insert.ensures.entries
