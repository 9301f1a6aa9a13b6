use Rattle.std.proofs.Common.{ap, length, sym, ◌∙◌}
use Rattle.row_keys.specs.Store.{Store}
use Rattle.row_keys.proofs.JoinedNumbers.{keyed_length}
use Rattle.row_keys.proofs.store.RowStore.appended.Goals as goal

pub returns : goal.returns
returns c =
    c.len.ensures.value
    ∙ sym (keyed_length c.self.inside.table c.self.inside.rows
    c.self.inside.numbers c.self.invariant.keyed).1
    ∙ ap (λ (s : Store). length s.slots) c.self.view_is
