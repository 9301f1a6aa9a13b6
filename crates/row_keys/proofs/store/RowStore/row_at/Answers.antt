use Rattle.std.proofs.Common.{◌≡◌, ◌<◌, length, subst, sym}
use Rattle.view_lang.specs.Rows.{IsRow}
use Rattle.row_keys.specs.Slots.{HasKey, row_of}
use Rattle.row_keys.specs.Store.{Store}
use Rattle.row_keys.proofs.StoreStates.{row_lies}
use Rattle.row_keys.proofs.store.RowStore.row_at.Goals as goal

pub returns-clause-row : goal.returns-clause-row
returns-clause-row c =
    let P : Store → Type 0 = λ s. c.args.number < length s.slots in
    let Q : Store → Type 0 = λ s. c.row.result ≡ row_of s.slots c.args.number in
    subst Q c.self.view_is
    (row_lies c.self.inside.table c.self.inside.rows c.self.inside.numbers c.args.number c.row.result c.self.invariant
    (subst P (sym c.self.view_is) c.requires) c.row.ensures).0

pub returns-clause-held : goal.returns-clause-held
returns-clause-held c =
    let P : Store → Type 0 = λ s. c.args.number < length s.slots in
    let Q : Store → Type 0 = λ s. HasKey s.table c.row.result → IsRow s.table.columns c.row.result in
    subst Q c.self.view_is
    (row_lies c.self.inside.table c.self.inside.rows c.self.inside.numbers c.args.number c.row.result c.self.invariant
    (subst P (sym c.self.view_is) c.requires) c.row.ensures).1
