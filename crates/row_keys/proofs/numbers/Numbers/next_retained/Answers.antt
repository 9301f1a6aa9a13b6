use Rattle.std.proofs.Common.{◌∙◌, ap, arith, length, sym}
use Rattle.std.proofs.lemmas.List.{length-map}
use Rattle.row_keys.specs.Entries.{all_entries, gone_entry}
use Rattle.row_keys.specs.Index.{seen}
use Rattle.row_keys.specs.Numbers.{Numbered}
use Rattle.row_keys.proofs.RetainedEntries.{entries_long}
use Rattle.row_keys.proofs.RetainedIndex.{kept_seen}
use Rattle.row_keys.proofs.numbers.Numbers.next_retained.Goals as goal

pub next_retained-requires-clause-inside : goal.next_retained-requires-clause-inside
next_retained-requires-clause-inside c =
    let long =
    sym (entries_long c.self.inside.kept.items c.self.inside.len)
    ∙ sym (length-map (all_entries c.self.inside.kept.items c.self.inside.len) (seen c.self.inside.keys))
    ∙ ap length c.self.view_is in
    omega (arith, long, c.requires)

pub returns-clause-within : goal.returns-clause-within
returns-clause-within c =
    let long =
    sym (entries_long c.self.inside.kept.items c.self.inside.len)
    ∙ sym (length-map (all_entries c.self.inside.kept.items c.self.inside.len) (seen c.self.inside.keys))
    ∙ ap length c.self.view_is in
    omega (arith, long, c.next_retained.ensures.within)

pub returns-clause-dead : goal.returns-clause-dead
returns-clause-dead c = λ k above below.
    let long =
    sym (entries_long c.self.inside.kept.items c.self.inside.len)
    ∙ sym (length-map (all_entries c.self.inside.kept.items c.self.inside.len) (seen c.self.inside.keys))
    ∙ ap length c.self.view_is in
    sym (ap (λ (x : Numbered). x.live)
    (kept_seen c.self.inside.keys c.self.inside.kept.items c.deref.result.now c.self.inside.len k gone_entry
    c.args.self.now c.self.view_is (omega (arith, long, below, c.next_retained.ensures.within))
    (sym (c.next_retained.ensures.gone k above below)) c.deref.ensures.value))
