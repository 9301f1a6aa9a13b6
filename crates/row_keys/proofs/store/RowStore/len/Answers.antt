use Rattle.std.proofs.Common.{ap, sym, ◌∙◌, length}
use Rattle.row_keys.specs.Store.{live_in}
use Rattle.row_keys.proofs.JoinedNumbers.{live_counted}
use Rattle.row_keys.proofs.store.RowStore.len.Goals as goal

pub returns-clause-value : goal.returns-clause-value
returns-clause-value c =
    c.live.ensures
    ∙ sym (live_counted c.self.inside.table c.self.inside.rows
    c.self.inside.numbers c.self.invariant.keyed)
    ∙ ap (λ s. length (live_in s)) c.self.view_is
