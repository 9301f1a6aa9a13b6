use Rattle.std.proofs.Common.{◌∙◌, ap, length, sym}
use Rattle.std.proofs.lemmas.List.{length-map}
use Rattle.row_keys.specs.Entries.{all_entries}
use Rattle.row_keys.specs.Index.{seen}
use Rattle.row_keys.proofs.RetainedEntries.{entries_long}
use Rattle.row_keys.proofs.numbers.Numbers.len.Goals as goal

pub returns-clause-value : goal.returns-clause-value
returns-clause-value c =
    sym (entries_long c.self.inside.kept.items c.self.inside.len)
    ∙ sym (length-map (all_entries c.self.inside.kept.items c.self.inside.len) (seen c.self.inside.keys))
    ∙ ap length c.self.view_is
