use Rattle.std.proofs.Common.{◌∙◌, ◌<◌, All, List, ap, length, map, subst, sym}
use Rattle.std.proofs.lemmas.List.{length-map}
use Rattle.row_keys.specs.declared.numbers.RetainedEntry.{RetainedEntry}
use Rattle.row_keys.specs.Entries.{all_entries}
use Rattle.row_keys.specs.Index.{seen}
use Rattle.row_keys.specs.Parts.{part_of}
use Rattle.row_keys.proofs.RetainedEntries.{entries_long}
use Rattle.row_keys.proofs.TakenApart.{all_keyed, taken_order, taken_rows}
use Rattle.row_keys.proofs.numbers.Numbers.retained_rows.Goals as goal

pub rows_of-requires : goal.rows_of-requires
rows_of-requires c =
    let P : List RetainedEntry → Type 0 = λ ks. All (λ k. k.entry.key < length c.self.inside.keys) ks in
    subst P (sym c.deref.ensures.value)
    (all_keyed c.self.inside.keys c.self.inside.holders.items c.self.inside.kept.items c.self.inside.len
    c.self.inside.live c.self.invariant)

pub returns-clause-order : goal.returns-clause-order
returns-clause-order c =
    taken_order c.self.inside.keys c.self.inside.holders.items c.self.inside.kept.items c.in_ok-rows.rows.items
    c.self.inside.len c.self.inside.live (length c.args.self.now) c.self.invariant
    (c.in_ok-rows.ensures ∙ ap (map (part_of c.self.inside.keys)) c.deref.ensures.value)
    (sym (sym (entries_long c.self.inside.kept.items c.self.inside.len)
    ∙ sym (length-map (all_entries c.self.inside.kept.items c.self.inside.len) (seen c.self.inside.keys))
    ∙ ap length c.self.view_is))

pub returns-clause-rows : goal.returns-clause-rows
returns-clause-rows c =
    taken_rows c.self.inside.keys c.self.inside.holders.items c.self.inside.kept.items c.in_ok-rows.rows.items
    c.self.inside.len c.self.inside.live (length c.args.self.now) c.args.self.now c.self.invariant c.self.view_is
    (c.in_ok-rows.ensures ∙ ap (map (part_of c.self.inside.keys)) c.deref.ensures.value)
    (sym (sym (entries_long c.self.inside.kept.items c.self.inside.len)
    ∙ sym (length-map (all_entries c.self.inside.kept.items c.self.inside.len) (seen c.self.inside.keys))
    ∙ ap length c.self.view_is))
