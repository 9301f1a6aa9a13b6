use Rattle.std.proofs.Common.{◌≡◌, ◌++◌, List, OnOk, sym, subst}
use Rattle.values.specs.Datum.{Datum}
use Rattle.body_writer.proofs.RowRangeLemmas.{column-long, range-column}
use Rattle.body_writer.proofs.from_columns.gather.push_cells.Goals as goal

pub returns : goal.returns
returns c =
    let range = c.args.range.now in
    let columns = range.batch.now.columns.items in
    let column = c.index.result.now in
    let long = column-long columns c.args.j range.batch.now.rows column c.requires.below c.index.ensures
    c.requires.cells in
    let P : List Datum → Type 0 =
    λ ds. OnOk c.push_values.result (c.push_values.new.values.items ≡ c.args.values.now.items ++ ds) in
    subst P
    (sym
    (range-column columns c.args.j range.from range.to range.batch.now.rows column c.requires.below c.index.ensures long
    c.requires.order c.requires.within)) c.push_values.ensures
