use Rattle.std.proofs.Common.{◌≡◌, ◌∷◌, rules, sym, ◌∙◌, ap, List, map, ◌++◌}
use Rattle.top_rows.proofs.Appended.{insert-next}
use Rattle.group_order.specs.GroupEntries.{GroupEntry, group_entry_cmp, group_entry_total}
use Rattle.group_order.specs.RankedParts.{entry_with}
use Rattle.group_order.specs.declared.parts.GroupEntryParts.{GroupEntryParts}
use Rattle.group_order.proofs.group_entries.GroupEntries.from_parts.Goals as goal

pub loop-entry-preserved : goal.loop-entry-preserved
loop-entry-preserved c =
    let left : c.loop-entry.entry-iterator.rest.items ≡ c.in-Some.entry ∷ c.next.new.self.rest.items = search rules in
    let whole = ap (λ (l : List GroupEntryParts). c.loop-entry.entries.keys ++ map entry_with l) (sym left)
    ∙ c.loop-entry.invariant in
    ap (λ (l : List GroupEntry). l ++ map entry_with c.next.new.self.rest.items) c.in_ok-insert.ensures.keys
    ∙ insert-next group_entry_cmp group_entry_total entry_with c.loop-entry.entries.keys c.in_ok-from_parts.field-0
    c.in-Some.entry c.next.new.self.rest.items c.args.parts.items c.in_ok-from_parts.ensures whole
    c.requires
