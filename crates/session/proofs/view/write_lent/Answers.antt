use Rattle.std.proofs.Common.{◌≡◌, List, Vec, ap, length, subst, sym, ◌∙◌}
use Rattle.std.specs.declared.alloc.Global.{Global}
use Rattle.values.specs.declared.schema.Schema.{Schema}
use Rattle.values.specs.declared.cell_view.CellView.{CellView}
use Rattle.stream_writer.specs.Sinks.{Writes}
use Rattle.stream_writer.specs.Stream.{canon}
use Rattle.stream_writer.specs.Table.{IsTable}
use Rattle.stream_writer.specs.ViewedRows.{viewed_columns}
use Rattle.session.specs.LentRows.{lent_columns}
use Rattle.session.proofs.LentRows.{lent_are, lent_many, lent_sized}
use Rattle.session.proofs.view.write_lent.Goals as goal

pub write_cells-requires-clause-table : goal.write_cells-requires-clause-table
write_cells-requires-clause-table g c =
    let fs = c.args.schema.now.fields.items in
    let rows = c.args.rows.now in
    let columns : List (Vec CellView Global) = c.deref.result.now in
    let same : viewed_columns columns ≡ lent_columns (length fs) rows =
    ap viewed_columns c.deref.ensures.value ∙ c.in_ok-columns.ensures
    ∙ ap (λ n. lent_columns n rows) (c.len.ensures ∙ c.schema.result.now.fields.ok.0
    ∙ ap (λ (s : Schema). length s.fields.items) c.schema.ensures) in
    subst (IsTable fs) (sym (lent_are fs rows columns c.requires.flat c.requires.table same)) c.requires.table

pub write_cells-requires-clause-many : goal.write_cells-requires-clause-many
write_cells-requires-clause-many g c =
    let fs = c.args.schema.now.fields.items in
    let rows = c.args.rows.now in
    let columns : List (Vec CellView Global) = c.deref.result.now in
    let same : viewed_columns columns ≡ lent_columns (length fs) rows =
    ap viewed_columns c.deref.ensures.value ∙ c.in_ok-columns.ensures
    ∙ ap (λ n. lent_columns n rows) (c.len.ensures ∙ c.schema.result.now.fields.ok.0
    ∙ ap (λ (s : Schema). length s.fields.items) c.schema.ensures) in
    lent_many (length fs) rows columns same

pub write_cells-requires-clause-sized : goal.write_cells-requires-clause-sized
write_cells-requires-clause-sized g c =
    let fs = c.args.schema.now.fields.items in
    let rows = c.args.rows.now in
    let columns : List (Vec CellView Global) = c.deref.result.now in
    let same : viewed_columns columns ≡ lent_columns (length fs) rows =
    ap viewed_columns c.deref.ensures.value ∙ c.in_ok-columns.ensures
    ∙ ap (λ n. lent_columns n rows) (c.len.ensures ∙ c.schema.result.now.fields.ok.0
    ∙ ap (λ (s : Schema). length s.fields.items) c.schema.ensures) in
    lent_sized (length fs) rows columns same

pub returns : goal.returns
returns g c =
    let fs = c.args.schema.now.fields.items in
    let rows = c.args.rows.now in
    let columns : List (Vec CellView Global) = c.deref.result.now in
    let same : viewed_columns columns ≡ lent_columns (length fs) rows =
    ap viewed_columns c.deref.ensures.value ∙ c.in_ok-columns.ensures
    ∙ ap (λ n. lent_columns n rows) (c.len.ensures ∙ c.schema.result.now.fields.ok.0
    ∙ ap (λ (s : Schema). length s.fields.items) c.schema.ensures) in
    subst (Writes (g.S.Sink.sunk c.args.sink.now) (g.S.Sink.sunk c.write_cells.new.sink) c.write_cells.result)
    (ap (canon fs) (lent_are fs rows columns c.requires.flat c.requires.table same)) c.write_cells.ensures
