-- Views that show columns of the main table as they are stored.
use Rattle.std.proofs.Common.{◌≡◌, ℕ, zero, suc, ◌<◌, All, Bool, true, false, List, [], ◌∷◌, ◌++◌, Option, None, Some, get_or, length, map, refl, ap, ap₂, sym, subst, ◌∙◌, arith}
use Rattle.std.specs.Prelude.{cond}
use Rattle.std.specs.List.{cons_option}
use Rattle.std.specs.Option.{option_and_then, option_map}
use Rattle.std.proofs.lemmas.List.Elements.{All-head, All-map, All-tail}
use Rattle.values.specs.Datum.{Datum, null}
use Rattle.body_writer.specs.Picked.{picked, picked_rows}
use Rattle.view_lang.specs.Config.{Table, View}
use Rattle.view_lang.specs.Joined.{Side, joined_row, looked_up, or_missing}
use Rattle.view_lang.specs.Outputs.{Output, Outputs, columns, groups}
use Rattle.view_lang.specs.Rows.{IsRow}
use Rattle.view_lang.specs.Truth.{passes}
use Rattle.view_lang.specs.Views.{passing_row, shown_row, view_rows}
use Rattle.view_lang.specs.declared.view.Lookup.{Lookup}
use Rattle.row_keys.specs.Slots.{IsLiveAt, Slot, live, row_of}
use Rattle.row_keys.proofs.LiveRows.{held_long, live_row_is}
use Rattle.row_keys.specs.Store.{Store, live_in}
use Rattle.upkeep.specs.Inputs.{side_by}
use Rattle.upkeep.specs.Reading.{AreShown, projected_at}
use Rattle.upkeep.specs.Shown.{AreStored}
use Rattle.upkeep.specs.StoreLaws.{rows_there, table_there}
use Rattle.upkeep.specs.Stores.{rows_at, rows_in, tables_in}
use Rattle.upkeep.specs.ViewStates.{projected_by, projected_row, width_in}
use Rattle.upkeep.specs.declared.shown.StoredColumns.{StoredColumns}

abbrev column_of : Output → ℕ
column_of o = o.column

-- cells of a row are those of the row with more after it
cell_before : (row more : List Datum) (j : ℕ) → j < length row → get_or (row ++ more) j null ≡ get_or row j null
cell_before [] more j below = absurd (omega (arith, below))
cell_before (d ∷ ds) more zero below = refl
cell_before (d ∷ ds) more (suc j) below = cell_before ds more j (omega (arith, below))

shown_of : (outputs : List Output) (row more : List Datum) → All (λ o. o.column < length row) outputs
    → shown_row outputs (row ++ more) ≡ picked (map column_of outputs) row
shown_of [] row more below = refl
shown_of (o ∷ os) row more below =
    let P : Output → Type 0 = λ x. x.column < length row in
    ap₂ (λ d ds. d ∷ ds) (cell_before row more o.column (All-head P o os below))
    (shown_of os row more (All-tail P o os below))

pub no_more : (outputs : List Output) (row : List Datum) → shown_row outputs row ≡ picked (map column_of outputs) row
no_more [] row = refl
no_more (o ∷ os) row = ap (λ ds. get_or row o.column null ∷ ds) (no_more os row)

joined_more : (row : List Datum) (cells : Option (List Datum)) (joined : List Datum) (outputs : List Output)
    → All (λ o. o.column < length row) outputs → option_map (λ more. row ++ more) cells ≡ Some joined
    → shown_row outputs joined ≡ picked (map column_of outputs) row
joined_more row None joined outputs below is = absurd (cc)
joined_more row (Some more) joined outputs below is =
    let same : row ++ more ≡ joined = cc in
    ap (shown_row outputs) (sym same) ∙ shown_of outputs row more below

joined_shown : (l : Option Lookup) (side : Side) (row joined : List Datum) (outputs : List Output)
    → All (λ o. o.column < length row) outputs → joined_row l side row ≡ Some joined
    → shown_row outputs joined ≡ picked (map column_of outputs) row
unfolding joined_row
joined_shown None side row joined outputs below is =
    let same : row ≡ joined = cc in ap (shown_row outputs) (sym same) ∙ no_more outputs row
joined_shown (Some l) side row joined outputs below is =
    joined_more row (or_missing l.missing l.columns (looked_up (Some l) side row)) joined outputs below is

kept_joined : (b : List Datum → Bool) (o : Option (List Datum)) (joined : List Datum)
    → option_and_then (λ r. cond (b r) (Some r) None) o ≡ Some joined → o ≡ Some joined
kept_joined b None joined is = is
kept_joined b (Some r) joined is = by (b r) is
  where
    by : (x : Bool) → cond x (Some r) None ≡ Some joined → Some r ≡ Some joined
    by true h = h
    by false h = absurd (cc)

-- The projected row of a row is the shown row of its joined row.
pub made_of : (v : View) (side : Side) (row made cells : List Datum) (os : Outputs) (outputs : List Output)
    (kept : Option (List Datum)) → os ≡ columns outputs → kept ≡ passing_row v side row
    → ((joined : List Datum) → joined_row v.lookup side row ≡ Some joined → shown_row outputs joined ≡ cells)
    → projected_by os kept ≡ Some made → projected_by os kept ≡ Some cells
made_of v side row made cells (groups by gs having) outputs kept plain whole shown is = absurd (cc)
made_of v side row made cells (columns os) outputs None plain whole shown is = absurd (cc)
made_of v side row made cells (columns os) outputs (Some joined) plain whole shown is =
    let same : os ≡ outputs = cc in
    let there : joined_row v.lookup side row ≡ Some joined =
    kept_joined (passes v.filter) (joined_row v.lookup side row) joined (sym whole) in
    ap Some (ap (λ xs. shown_row xs joined) same ∙ shown joined there)

-- the projected rows of such a view
module _ (v : View) (side : Side) (slots : List Slot) (outputs : List Output) (plain : v.outputs ≡ columns outputs)
    (width : ℕ) (narrow : All (λ o. o.column < width) outputs)
    (wide : (n : ℕ) → IsLiveAt slots n → length (row_of slots n) ≡ width) where
  abbrev Made : ℕ → Type 0
  Made n = (row : List Datum) × (projected_row v side (row_of slots n) ≡ Some row)

  made_one : (n : ℕ) → IsLiveAt slots n → Made n
      → projected_row v side (row_of slots n) ≡ Some (picked (map column_of outputs) (row_of slots n))
  made_one n lives made =
      let row : List Datum = row_of slots n in
      let P : ℕ → Type 0 = λ w. All (λ o. o.column < w) outputs in
      let below : P (length row) = subst P (sym (wide n lives)) narrow in
      made_of v side row made.0 (picked (map column_of outputs) row) v.outputs outputs (passing_row v side row) plain refl
      (λ joined is. joined_shown v.lookup side row joined outputs below is) made.1

  pub made_all : (numbers : List ℕ) → All (IsLiveAt slots) numbers → All Made numbers
      → picked_rows (map column_of outputs) (map (row_of slots) numbers) ≡ projected_at v side slots numbers
  made_all [] lives made = refl
  made_all (n ∷ ns) lives made =
      ap (λ rows. picked (map column_of outputs) (row_of slots n) ∷ rows)
      (made_all ns (All-tail (IsLiveAt slots) n ns lives) (All-tail Made n ns made))
      ∙ sym (ap (λ o. cons_option o (projected_at v side slots ns))
      (made_one n (All-head (IsLiveAt slots) n ns lives) (All-head Made n ns made)))

pub columns_stored :
    (v : View) (side : Side) (slots : List Slot) (numbers : List ℕ) (outputs : List Output) (t : Table) (width : ℕ)
    (s : StoredColumns) → v.outputs ≡ columns outputs → v.coded_outputs ≡ [] → width ≡ length t.columns
    → All (λ o. o.column < width) outputs → All (IsRow t.columns) (live slots) → AreShown v side slots numbers
    → s.columns.items ≡ map column_of outputs → s.visits ≡ numbers
    → AreStored v width slots s (view_rows v side (live slots))
columns_stored v side slots numbers outputs t width s plain coded width_is narrow right shown columns_are visits_are =
    let wide : (n : ℕ) → IsLiveAt slots n → length (row_of slots n) ≡ width =
    λ n lives. held_long t.columns (row_of slots n) (live_row_is (IsRow t.columns) slots n right lives).held
    ∙ sym width_is in
    let B : ℕ → Type 0 = λ j. j < width in
    record {
      outputs = outputs;
      plain = plain;
      coded = coded;
      columns_are = columns_are;
      below = subst (All B) (sym columns_are) (All-map B column_of outputs narrow);
      live = subst (All (IsLiveAt slots)) (sym visits_are) shown.each_live;
      rows_are =
          ap (λ cs. picked_rows cs (map (row_of slots) s.visits)) columns_are
          ∙ ap (λ ns. picked_rows (map column_of outputs) (map (row_of slots) ns)) visits_are
          ∙ made_all v side slots outputs plain width narrow wide numbers shown.each_live shown.each_projected
          ∙ shown.rows;
    }

-- the same by the store of the main table
pub columns_shown :
    (stores : List Store) (v : View) (numbers : List ℕ) (outputs : List Output) (s : StoredColumns) (store : Store) (w : ℕ)
    → 0 < length stores → store ≡ get_or stores 0 store → v.outputs ≡ columns outputs → v.coded_outputs ≡ []
    → w ≡ width_in (tables_in stores) → All (λ o. o.column < w) outputs → All (IsRow store.table.columns) (live_in store)
    → AreShown v (side_by (tables_in stores) (rows_in stores) v) (rows_at (rows_in stores) 0) numbers
    → s.columns.items ≡ map (λ o. o.column) outputs → s.visits ≡ numbers
    → AreStored v (width_in (tables_in stores)) (rows_at (rows_in stores) 0) s
    (view_rows v (side_by (tables_in stores) (rows_in stores) v) (live (rows_at (rows_in stores) 0)))
columns_shown stores v numbers outputs s store w main is plain coded same narrow right shown columns_are visits_are =
    let width : ℕ = width_in (tables_in stores) in
    let slots : List Slot = rows_at (rows_in stores) 0 in
    let wide : width ≡ length store.table.columns =
    ap (λ (t : Table). length t.columns) (table_there stores 0 store is main) in
    let W : ℕ → Type 0 = λ n. All (λ o. o.column < n) outputs in
    let R : List Slot → Type 0 = λ ss. All (IsRow store.table.columns) (live ss) in
    columns_stored v (side_by (tables_in stores) (rows_in stores) v) slots numbers outputs store.table width s plain coded
    wide (subst W same narrow) (subst R (sym (rows_there stores 0 store is main)) right) shown columns_are visits_are
