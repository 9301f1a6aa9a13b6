use Rattle.std.proofs.Common.{◌≡◌, ◌∷◌, rules, sym, ◌∙◌, ap, List, map, ◌++◌}
use Rattle.top_rows.proofs.Appended.{insert-next}
use Rattle.top_rows.specs.OrderParts.{entry_with}
use Rattle.top_rows.specs.EntryOrder.{RowEntry, entry_cmp, entry_total}
use Rattle.top_rows.specs.declared.parts.OrderEntryParts.{OrderEntryParts}
use Rattle.top_rows.proofs.ordered.Ordered.from_parts.Goals as goal

pub loop-entry-preserved : goal.loop-entry-preserved
loop-entry-preserved c =
    let left : c.loop-entry.entry-iterator.rest.items ≡ c.in-Some.entry ∷ c.next.new.self.rest.items = search rules in
    let whole = ap (λ (l : List OrderEntryParts). c.loop-entry.placed ++ map entry_with l) (sym left)
    ∙ c.loop-entry.invariant in
    ap (λ (l : List RowEntry). l ++ map entry_with c.next.new.self.rest.items) c.in_ok-insert_entry.ensures.ok
    ∙ insert-next entry_cmp entry_total entry_with c.loop-entry.placed c.from_parts.result c.in-Some.entry
    c.next.new.self.rest.items c.args.parts.order_entries.items c.from_parts.ensures whole c.requires
