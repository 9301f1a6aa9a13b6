use Rattle.std.proofs.Common.{subst}
use Rattle.std.specs.Prelude.{MatchOption}
use Rattle.row_keys.specs.Store.{IsAbsent, IsFound, Store}
use Rattle.row_keys.proofs.StoreStates.{found_in}
use Rattle.row_keys.proofs.store.RowStore.find.Goals as goal

pub returns : goal.returns
returns c =
    let P : Store → Type 0 = λ s. MatchOption c.find.result (IsAbsent s c.args.key.now) (IsFound s c.args.key.now) in
    subst P c.self.view_is
    (found_in c.self.inside.table c.self.inside.rows c.self.inside.numbers
    c.self.inside.visits
    c.args.key.now c.find.result c.self.invariant c.find.ensures)
