use Rattle.std.proofs.Common.{subst}
use Rattle.std.specs.Prelude.{MatchOption}
use Rattle.values.specs.Keys.{datum_of_key}
use Rattle.row_keys.specs.Store.{IsKnown, IsUnknown, Store}
use Rattle.row_keys.proofs.LookedUpRows.{key_known}
use Rattle.row_keys.proofs.store.RowStore.number_with.Goals as goal

pub returns : goal.returns
returns c =
    let P : Store → Type 0 = λ s. MatchOption c.find.result (IsUnknown s (datum_of_key c.args.key.now))
    (IsKnown s (datum_of_key c.args.key.now)) in
    subst P c.self.view_is
    (key_known c.self.inside.table c.self.inside.rows
    c.self.inside.numbers c.self.inside.visits c.args.key.now c.find.result c.self.invariant.keyed
    c.distinct_law.ensures c.self.invariant.given c.find.ensures)
