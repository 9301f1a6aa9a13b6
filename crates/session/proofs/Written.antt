-- The rows of a view can be written.
use Rattle.std.proofs.Common.{
  ◌≡◌,
  ℕ,
  zero,
  suc,
  ◌<◌,
  ◌&&◌,
  true,
  Result,
  Ok,
  Err,
  OnOk,
  List,
  [],
  ◌∷◌,
  length,
  get_or,
  refl,
  ap,
  ap₂,
  le-leb,
  subst,
  sym,
  ◌∙◌,
  arith,
}
use Rattle.std.specs.Prelude.{All}
use Rattle.std.proofs.lemmas.List.Elements.{All-weaker}
use Rattle.values.specs.Coded.{AreCoded}
use Rattle.values.specs.Datum.{Datum}
use Rattle.values.specs.Layouts.{null_weight}
use Rattle.values.specs.Limits.{max_null_weight}
use Rattle.values.specs.Logical.{NamedType, trees_of}
use Rattle.values.specs.Rose.{Rose, node, Roses, none, more, kids_of}
use Rattle.values.specs.declared.layout.Layout.{Layout}
use Rattle.schema_meta.specs.FieldLayouts.{null_weight_fits, null_weights_fit}
use Rattle.schema_meta.specs.SchemaLaw.{AreNamed}
use Rattle.schema_meta.specs.SchemaTree as written
use Rattle.stream_writer.specs.RoundTrip.{CodedMeansItsTable}
use Rattle.stream_writer.specs.Stream.{coded_canon}
use Rattle.stream_writer.specs.Table as writer
use Rattle.view_lang.specs.Config.{Table, View}
use Rattle.view_lang.specs.ConfigRules.{IsView}
use Rattle.view_lang.specs.Joined.{Side}
use Rattle.view_lang.specs.Laws.{Viewed, ViewsAreTables, ViewsHaveFewRows, ViewsHaveRows}
use Rattle.view_lang.specs.Rows.{IsRow, RowsAreLight}
use Rattle.view_lang.specs.TableRules.{AreColumns, AreSlim, AreWithin, IsSlim, IsTable, IsWithin}
use Rattle.view_lang.specs.ViewColumns.{view_columns}
use Rattle.view_lang.specs.Views.{view_of, view_rows}
use Rattle.row_keys.specs.Slots.{live}
use Rattle.upkeep.specs.LiveParts.{view_at}
use Rattle.upkeep.specs.Inputs.{side_by}
use Rattle.upkeep.specs.Stores.{Rows, rows_at, world_of}
use Rattle.session.specs.Steps.{IsReadAsView, stream_of}
use Rattle.session.proofs.Pasts.{contents_there}

mutual
  within_all : (fs : Roses NamedType) → AreWithin fs → written.AreWithin fs
  within_all none h = tt
  within_all (more f fs) h = (within_one f h.0, within_all fs h.1)

  within_one : (f : Rose NamedType) → IsWithin f → written.IsWithin f
  within_one (node f kids) h = (omega (arith, h.0.1), h.1, within_all kids h.2)

-- the columns of a view are those of a table
pub view_small :
    (views : ViewsAreTables) (tables : List Table) (v : View) (fields : List (Rose NamedType)) → All IsTable tables
    → IsView tables v → fields ≡ view_columns tables v → written.AreColumns fields
view_small views tables v fields right view named =
    let columns : List (Rose NamedType) = view_columns tables v in
    let own : AreColumns columns = views tables v right view in
    let small : written.AreColumns columns =
    record { few = own.small; within = within_all (kids_of columns) own.within } in
    subst written.AreColumns (sym named) small

-- the rows of the main table
abbrev main_rows : Rows → List (List Datum)
main_rows rows = live (rows_at rows 0)

module _ (light : RowsAreLight) (have : ViewsHaveRows) (few_rows : ViewsHaveFewRows) (views : ViewsAreTables) where
  pub shown_fits :
      (tables : List Table) (rows : Rows) (v : View) (fields : List (Rose NamedType)) (shown : List (List Datum))
      → Viewed tables v (side_by tables rows v) (main_rows rows) → fields ≡ view_columns tables v
      → shown ≡ view_rows v (side_by tables rows v) (main_rows rows) → writer.IsTable fields shown
  shown_fits tables rows v fields shown viewed named same =
      let columns : List (Rose NamedType) = view_columns tables v in
      let side : Side = side_by tables rows v in
      let own : AreColumns columns = views tables v viewed.right viewed.view in
      let whole : List (List Datum) = view_rows v side (main_rows rows) in
      let fit : writer.IsTable columns whole =
      record {
        columns = record { few = own.small; within = within_all (kids_of columns) own.within };
        layouts = own.layouts;
        few = few_rows tables v side (main_rows rows) viewed;
        sound = All-weaker (IsRow columns) (writer.IsRow columns)
            (λ row has. record { held = has.held; light = light columns row has }) whole
            (have tables v side (main_rows rows) viewed);
      } in
      let here : writer.IsTable columns shown =
      subst (λ (xs : List (List Datum)). writer.IsTable columns xs) (sym same) fit in
      subst (λ (fs : List (Rose NamedType)). writer.IsTable fs shown) (sym named) here

-- the outputs that are coded are texts of the columns that are written
pub coded_fits : (tables : List Table) (v : View) (fields : List (Rose NamedType)) (coded : List ℕ) → IsView tables v
    → fields ≡ view_columns tables v → coded ≡ v.coded_outputs → AreCoded coded fields
coded_fits tables v fields coded is named same =
    subst (λ (ks : List ℕ). AreCoded ks fields) (sym same)
    (subst (λ (fs : List (Rose NamedType)). AreCoded v.coded_outputs fs) (sym named) is.coded)

at_position : (views : List View) (k : ℕ) (v : View) → k < length views → v ≡ get_or views k v → v ≡ view_at views k
at_position [] k v below is = absurd (omega (arith, below))
at_position (w ∷ ws) zero v below is = is
at_position (w ∷ ws) (suc k) v below is = at_position ws k v (omega (arith, below)) is

-- the view at a position, as indexing gives it
pub view_indexed :
    (views given : List View) (k : ℕ) (v : View) → views ≡ given → k < length given → v ≡ get_or views k v
    → v ≡ view_at given k
view_indexed views given k v same below is =
    at_position given k v below (subst (λ (vs : List View). v ≡ get_or vs k v) same is)

-- the stream of the rows
pub stream_is :
    (tables : List Table) (rows : Rows) (v : View) (fields : List (Rose NamedType)) (coded : List ℕ)
    (shown : List (List Datum)) → 0 < length rows → fields ≡ view_columns tables v → coded ≡ v.coded_outputs
    → shown ≡ view_rows v (side_by tables rows v) (main_rows rows)
    → coded_canon fields coded shown ≡ stream_of tables v (world_of rows)
stream_is tables rows v fields coded shown some named same_coded same =
    ap (λ fs. coded_canon fs coded shown) named
    ∙ ap (λ ks. coded_canon (view_columns tables v) ks shown) same_coded
    ∙ ap (coded_canon (view_columns tables v) v.coded_outputs) same
    ∙ ap (λ c. coded_canon (view_columns tables v) v.coded_outputs (view_rows v (side_by tables rows v) c.live))
    (sym (contents_there rows 0 some))

mutual
  null_weight_within : (t : Rose Layout) → IsSlim t → null_weight_fits t ≡ true
  null_weight_within (node l kids) h =
      ap₂ (λ a b. a && b) (le-leb (null_weight (node l kids)) max_null_weight h.0) (all_null_weights_fit kids h.1)

  all_null_weights_fit : (ts : Roses Layout) → AreSlim ts → null_weights_fit ts ≡ true
  all_null_weights_fit none h = refl
  all_null_weights_fit (more t ts) h = ap₂ (λ a b. a && b) (null_weight_within t h.0) (all_null_weights_fit ts h.1)

columns_named : (fields : List (Rose NamedType)) → AreColumns fields → AreNamed fields
columns_named fields own = record {
  logical = own.logical;
  layouts = own.layouts;
  shallow = own.shallow;
  null_weight_within = all_null_weights_fit (trees_of (kids_of fields)) own.slim;
}

pub on_ok : {X E : Type 0} (r : Result X E) (P : Type 0) → P → OnOk r P
on_ok (Ok x) P p = p
on_ok (Err e) P p = tt

-- That stream is read as the view's table.
pub view_read :
    (means : CodedMeansItsTable) (views : ViewsAreTables) (tables : List Table) (rows : Rows) (v : View)
    (fields : List (Rose NamedType)) (shown : List (List Datum)) → 0 < length rows
    → Viewed tables v (side_by tables rows v) (main_rows rows) → fields ≡ view_columns tables v
    → shown ≡ view_rows v (side_by tables rows v) (main_rows rows) → writer.IsTable fields shown
    → IsReadAsView tables v (world_of rows) (stream_of tables v (world_of rows))
view_read means views tables rows v fields shown some viewed named same fits =
    let columns : List (Rose NamedType) = view_columns tables v in
    let whole : List (List Datum) = view_of tables v (world_of rows) in
    let cells : shown ≡ whole =
    same ∙ ap (λ c. view_rows v (side_by tables rows v) c.live) (sym (contents_there rows 0 some)) in
    let fit : writer.IsTable columns whole =
    subst (λ (fs : List (Rose NamedType)). writer.IsTable fs whole) named
    (subst (λ (xs : List (List Datum)). writer.IsTable fields xs) cells fits) in
    means columns v.coded_outputs whole fit (columns_named columns (views tables v viewed.right viewed.view))
    viewed.view.coded
