use Rattle.std.proofs.Common.{◌≡◌, ◌<◌, List, [], ap, arith, length, refl, subst, sym, ◌∙◌}
use Rattle.values.specs.Datum.{Datum}
use Rattle.stream_writer.specs.Sinks.{Writes}
use Rattle.stream_writer.specs.Table.{IsTable}
use Rattle.view_lang.specs.Config.{View}
use Rattle.view_lang.specs.Views.{view_rows}
use Rattle.row_keys.specs.Slots.{live}
use Rattle.upkeep.specs.Inputs.{side_by}
use Rattle.upkeep.specs.LiveParts.{LiveParts, view_at}
use Rattle.upkeep.specs.StoreLaws.{rows_length}
use Rattle.upkeep.specs.Stores.{Rows, rows_at, rows_in, tables_in, world_of}
use Rattle.upkeep.specs.ViewedRows.{IsViewed, rows_shown}
use Rattle.session.specs.Steps.{IsReadAsView, stream_of}
use Rattle.session.proofs.LentViews.{in_some, shown_before, viewed_before}
use Rattle.session.proofs.Written.{on_ok, shown_fits, stream_is, view_read}
use Rattle.session.proofs.view.write_rows.Goals as goal

pub write_lent-requires-clause-table : goal.write_lent-requires-clause-table
write_lent-requires-clause-table g c =
    let old : LiveParts = c.args.tables.now in
    let mid : LiveParts = c.refresh.new.self in
    let place = c.args.place in
    let opened = c.in_ok-refresh.ensures.same_rows in
    let views = c.in_ok-refresh.ensures.views in
    let lent : c.in-Some.rows.items ≡ rows_shown mid.stores (view_at mid.views place) =
    in_some _ c.in-Some.is c.in_ok-rows.ensures.rows in
    let viewed : IsViewed mid.stores (view_at mid.views place) =
    in_some _ c.in-Some.is c.in_ok-rows.ensures.viewed in
    shown_fits c.rows_law.ensures.light c.rows_law.ensures.views c.rows_law.ensures.few c.config_law.ensures.views
    (tables_in old.stores) (rows_in old.stores) (view_at old.views place) c.args.schema.now.fields.items
    c.deref.result.now (viewed_before old mid place opened views viewed) c.requires.schema
    (c.deref.ensures.value ∙ lent ∙ shown_before old mid place opened views)

pub returns-in-Some-clause-writes : goal.returns-in-Some-clause-writes
returns-in-Some-clause-writes g c =
    let old : LiveParts = c.args.tables.now in
    let mid : LiveParts = c.refresh.new.self in
    let place = c.args.place in
    let opened = c.in_ok-refresh.ensures.same_rows in
    let views = c.in_ok-refresh.ensures.views in
    let rows : Rows = rows_in old.stores in
    let many = rows_length old.stores in
    let some : 0 < length rows = omega (arith, many, c.requires.main) in
    let lent : c.in-Some.rows.items ≡ rows_shown mid.stores (view_at mid.views place) =
    in_some _ c.in-Some.is c.in_ok-rows.ensures.rows in
    let plain : (view_at mid.views place).coded_outputs ≡ [] =
    in_some _ c.in-Some.is c.in_ok-rows.ensures.plain in
    let none : [] ≡ (view_at old.views place).coded_outputs =
    sym plain ∙ ap (λ (vs : List View). (view_at vs place).coded_outputs) views in
    subst (Writes (g.S.Sink.sunk c.args.sink.now) (g.S.Sink.sunk c.write_lent.new.sink) c.write_lent.result)
    (stream_is (tables_in old.stores) rows (view_at old.views place) c.args.schema.now.fields.items []
    c.deref.result.now some c.requires.schema none
    (c.deref.ensures.value ∙ lent ∙ shown_before old mid place opened views))
    c.write_lent.ensures

pub returns-in-Some-clause-read : goal.returns-in-Some-clause-read
returns-in-Some-clause-read g c =
    let old : LiveParts = c.args.tables.now in
    let mid : LiveParts = c.refresh.new.self in
    let place = c.args.place in
    let tables = tables_in old.stores in
    let rows : Rows = rows_in old.stores in
    let v : View = view_at old.views place in
    let all : List (List Datum) = view_rows v (side_by tables rows v) (live (rows_at rows 0)) in
    let many = rows_length old.stores in
    let some : 0 < length rows = omega (arith, many, c.requires.main) in
    let lent : IsViewed mid.stores (view_at mid.views place) =
    in_some _ c.in-Some.is c.in_ok-rows.ensures.viewed in
    let viewed = viewed_before old mid place c.in_ok-refresh.ensures.same_rows c.in_ok-refresh.ensures.views lent in
    let fits : IsTable c.args.schema.now.fields.items all =
    shown_fits c.rows_law.ensures.light c.rows_law.ensures.views c.rows_law.ensures.few c.config_law.ensures.views
    tables rows v c.args.schema.now.fields.items all viewed c.requires.schema refl in
    on_ok c.write_lent.result (IsReadAsView tables v (world_of rows) (stream_of tables v (world_of rows)))
    (view_read c.coded_law.ensures.means c.config_law.ensures.views tables rows v c.args.schema.now.fields.items all
    some viewed c.requires.schema refl fits)

pub returns-clause-read : goal.returns-clause-read
returns-clause-read g c =
    let tables = tables_in c.args.tables.now.stores in
    let rows : Rows = rows_in c.args.tables.now.stores in
    let v : View = view_at c.args.tables.now.views c.args.place in
    let all : List (List Datum) = view_rows v (side_by tables rows v) (live (rows_at rows 0)) in
    let many = rows_length c.args.tables.now.stores in
    let some : 0 < length rows = omega (arith, many, c.requires.main) in
    let viewed = viewed_before c.args.tables.now c.refresh.new.self c.args.place c.in_ok-refresh.ensures.same_rows
    c.in_ok-refresh.ensures.views c.in_ok-shown.ensures.viewed in
    let fits : IsTable c.args.schema.now.fields.items all =
    shown_fits c.rows_law.ensures.light c.rows_law.ensures.views c.rows_law.ensures.few c.config_law.ensures.views
    tables rows v c.args.schema.now.fields.items all viewed c.requires.schema refl in
    on_ok c.write_shown.result (IsReadAsView tables v (world_of rows) (stream_of tables v (world_of rows)))
    (view_read c.coded_law.ensures.means c.config_law.ensures.views tables rows v c.args.schema.now.fields.items all
    some viewed c.requires.schema refl fits)
