use Rattle.std.proofs.Common.{◌≤◌, All, length, subst}
use Rattle.view_lang.specs.Laws.{AreKeyed}
use Rattle.view_lang.specs.Rows.{IsRow}
use Rattle.row_keys.specs.Slots.{contents_of}
use Rattle.row_keys.specs.Store.{Store, live_in}
use Rattle.row_keys.proofs.HeldRows.{rows_right}
use Rattle.row_keys.proofs.KeyedRows.{stored_few, stored_keyed}
use Rattle.row_keys.proofs.store.RowStore.rows_law.Goals as goal

pub returns-clause-held : goal.returns-clause-held
returns-clause-held c =
    let P : Store → Type 0 = λ s. All (IsRow s.table.columns) (live_in s) in
    subst P c.self.view_is
    (rows_right c.self.inside.table c.self.inside.rows c.self.inside.numbers c.self.invariant.keyed
    c.self.invariant.given c.self.invariant.right)

pub returns-clause-few : goal.returns-clause-few
returns-clause-few c =
    let P : Store → Type 0 = λ s. length (live_in s) ≤ s.table.max_rows in
    subst P c.self.view_is
    (stored_few c.self.inside.table c.self.inside.rows c.self.inside.numbers
    c.self.invariant)

pub returns-clause-keyed : goal.returns-clause-keyed
returns-clause-keyed c =
    let P : Store → Type 0 = λ s. AreKeyed s.table (contents_of s.slots) in
    subst P c.self.view_is
    (stored_keyed c.self.inside.table c.self.inside.rows c.self.inside.numbers
    c.self.invariant c.distinct_law.ensures)
