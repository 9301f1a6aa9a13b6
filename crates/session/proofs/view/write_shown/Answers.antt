use Rattle.std.proofs.Common.{◌≡◌, ◌<◌, ◌∙◌, List, [], ap, arith, length, subst, sym}
use Rattle.values.specs.Datum.{Datum}
use Rattle.stream_writer.specs.Sinks.{Writes}
use Rattle.view_lang.specs.Cells.{rows_of}
use Rattle.view_lang.specs.Config.{View}
use Rattle.view_lang.specs.Views.{view_rows}
use Rattle.row_keys.specs.Slots.{live}
use Rattle.upkeep.specs.Inputs.{side_by}
use Rattle.upkeep.specs.LiveParts.{view_at}
use Rattle.upkeep.specs.Shown.{AreJoined, AreStored, Shows}
use Rattle.upkeep.specs.StoreLaws.{rows_length}
use Rattle.upkeep.specs.Stores.{rows_at, rows_in, tables_in}
use Rattle.upkeep.specs.ViewStates.{width_in}
use Rattle.upkeep.specs.declared.shown.Shown.{Shown}
use Rattle.session.proofs.StoredViews.{stored_many}
use Rattle.session.proofs.Written.{coded_fits, shown_fits, stream_is, view_indexed}
use Rattle.session.proofs.view.write_shown.Goals as goal

pub write_coded-requires-clause-table : goal.write_coded-requires-clause-table
write_coded-requires-clause-table g c =
    let tables = tables_in c.args.tables.now.stores in
    let rows = rows_in c.args.tables.now.stores in
    let v : View = view_at c.args.tables.now.views c.args.place in
    let all : List (List Datum) = view_rows v (side_by tables rows v) (live (rows_at rows 0)) in
    let S : Shown → Type 0 = λ s. Shows v tables rows s all in
    let same : rows_of c.deref-in-Rows.result.now ≡ all = ap rows_of c.deref-in-Rows.ensures.value ∙ subst S c.in-Rows.is c.requires.shown in
    shown_fits c.rows_law.ensures.light c.rows_law.ensures.views c.rows_law.ensures.few c.config_law.ensures.views
    tables rows v c.args.schema.now.fields.items (rows_of c.deref-in-Rows.result.now) c.requires.viewed c.requires.schema same

pub write_coded-requires-clause-coded : goal.write_coded-requires-clause-coded
write_coded-requires-clause-coded g c =
    coded_fits (tables_in c.args.tables.now.stores) (view_at c.args.tables.now.views c.args.place)
    c.args.schema.now.fields.items c.deref.result.now c.requires.viewed.view c.requires.schema
    (c.deref.ensures.value ∙ ap (λ (v : View). v.coded_outputs) (c.view.view_is
    ∙ view_indexed c.views.result.now c.args.tables.now.views c.args.place c.index-views-place.result
    c.views.ensures c.requires.there c.index-views-place.is))

pub returns-in-Rows : goal.returns-in-Rows
returns-in-Rows g c =
    let tables = tables_in c.args.tables.now.stores in
    let rows = rows_in c.args.tables.now.stores in
    let v : View = view_at c.args.tables.now.views c.args.place in
    let all : List (List Datum) = view_rows v (side_by tables rows v) (live (rows_at rows 0)) in
    let S : Shown → Type 0 = λ s. Shows v tables rows s all in
    let same : rows_of c.deref-in-Rows.result.now ≡ all = ap rows_of c.deref-in-Rows.ensures.value ∙ subst S c.in-Rows.is c.requires.shown in
    let many = rows_length c.args.tables.now.stores in
    let some : 0 < length rows = omega (arith, many, c.requires.main) in
    subst (Writes (g.S.Sink.sunk c.args.sink.now) (g.S.Sink.sunk c.write_coded.new.sink) c.write_coded.result)
    (stream_is tables rows v c.args.schema.now.fields.items c.deref.result.now (rows_of c.deref-in-Rows.result.now) some
    c.requires.schema
    (c.deref.ensures.value ∙ ap (λ (x : View). x.coded_outputs) (c.view.view_is
    ∙ view_indexed c.views.result.now c.args.tables.now.views c.args.place c.index-views-place.result
    c.views.ensures c.requires.there c.index-views-place.is))
    same)
    c.write_coded.ensures

pub write_stored-requires : goal.write_stored-requires
write_stored-requires g c =
    let tables = tables_in c.args.tables.now.stores in
    let rows = rows_in c.args.tables.now.stores in
    let v : View = view_at c.args.tables.now.views c.args.place in
    let all : List (List Datum) = view_rows v (side_by tables rows v) (live (rows_at rows 0)) in
    let S : Shown → Type 0 = λ s. Shows v tables rows s all in
    let stored : AreStored v (width_in tables) (rows_at rows 0) c.in-Stored.stored all = subst S c.in-Stored.is c.requires.shown in
    record {
      live = stored.live;
      below = stored.below;
      many = stored_many tables v stored.outputs c.in-Stored.stored.columns.items c.args.schema.now.fields.items
          stored.plain stored.columns_are c.requires.schema;
      table = shown_fits c.rows_law.ensures.light c.rows_law.ensures.views c.rows_law.ensures.few
          c.config_law.ensures.views tables rows v c.args.schema.now.fields.items _ c.requires.viewed c.requires.schema
          stored.rows_are;
    }

pub returns-in-Stored : goal.returns-in-Stored
returns-in-Stored g c =
    let tables = tables_in c.args.tables.now.stores in
    let rows = rows_in c.args.tables.now.stores in
    let v : View = view_at c.args.tables.now.views c.args.place in
    let all : List (List Datum) = view_rows v (side_by tables rows v) (live (rows_at rows 0)) in
    let S : Shown → Type 0 = λ s. Shows v tables rows s all in
    let stored : AreStored v (width_in tables) (rows_at rows 0) c.in-Stored.stored all = subst S c.in-Stored.is c.requires.shown in
    let many = rows_length c.args.tables.now.stores in
    let some : 0 < length rows = omega (arith, many, c.requires.main) in
    subst (Writes (g.S.Sink.sunk c.args.sink.now) (g.S.Sink.sunk c.write_stored.new.sink) c.write_stored.result)
    (stream_is tables rows v c.args.schema.now.fields.items [] _ some c.requires.schema (sym stored.coded)
    stored.rows_are)
    c.write_stored.ensures

pub write_joined-requires : goal.write_joined-requires
write_joined-requires g c =
    let tables = tables_in c.args.tables.now.stores in
    let rows = rows_in c.args.tables.now.stores in
    let v : View = view_at c.args.tables.now.views c.args.place in
    let all : List (List Datum) = view_rows v (side_by tables rows v) (live (rows_at rows 0)) in
    let S : Shown → Type 0 = λ s. Shows v tables rows s all in
    let joined : AreJoined v tables rows c.in-Joined.joined all = subst S c.in-Joined.is c.requires.shown in
    record {
      joined = (v, all, joined);
      many = stored_many tables v joined.outputs c.in-Joined.joined.columns.items c.args.schema.now.fields.items
          joined.plain joined.columns_are c.requires.schema;
      table = shown_fits c.rows_law.ensures.light c.rows_law.ensures.views c.rows_law.ensures.few
          c.config_law.ensures.views tables rows v c.args.schema.now.fields.items _ c.requires.viewed c.requires.schema
          joined.rows_are;
    }

pub returns-in-Joined : goal.returns-in-Joined
returns-in-Joined g c =
    let tables = tables_in c.args.tables.now.stores in
    let rows = rows_in c.args.tables.now.stores in
    let v : View = view_at c.args.tables.now.views c.args.place in
    let all : List (List Datum) = view_rows v (side_by tables rows v) (live (rows_at rows 0)) in
    let S : Shown → Type 0 = λ s. Shows v tables rows s all in
    let joined : AreJoined v tables rows c.in-Joined.joined all = subst S c.in-Joined.is c.requires.shown in
    let many = rows_length c.args.tables.now.stores in
    let some : 0 < length rows = omega (arith, many, c.requires.main) in
    subst (Writes (g.S.Sink.sunk c.args.sink.now) (g.S.Sink.sunk c.write_joined.new.sink) c.write_joined.result)
    (stream_is tables rows v c.args.schema.now.fields.items [] _ some c.requires.schema (sym joined.coded)
    joined.rows_are)
    c.write_joined.ensures
