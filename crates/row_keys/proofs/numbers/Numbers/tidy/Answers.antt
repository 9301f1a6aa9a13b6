use Rattle.std.proofs.Common.{◌∙◌, ap}
use Rattle.row_keys.specs.Entries.{all_entries}
use Rattle.row_keys.specs.Index.{seen_all}
use Rattle.row_keys.proofs.RetainedEntries.{entries_swept, index_swept}
use Rattle.row_keys.proofs.numbers.Numbers.tidy.Goals as goal

pub invariant_of-self : goal.invariant_of-self
invariant_of-self c =
    rw c.sweep.ensures
    (index_swept c.self.inside.keys c.self.inside.holders.items c.self.inside.kept.items c.self.inside.len
    c.self.inside.live c.self.invariant)

pub returns-then-self-len : goal.returns-then-self-len
returns-then-self-len c =
    ap (λ ks. seen_all c.self.inside.keys (all_entries ks c.self.inside.len)) c.sweep.ensures
    ∙ ap (seen_all c.self.inside.keys)
    (entries_swept c.self.inside.kept.items c.self.inside.len c.self.invariant.order).1
    ∙ c.self.view_is
