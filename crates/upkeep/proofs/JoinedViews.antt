-- Views that show columns of joined rows as they are stored.
use Rattle.std.proofs.Common.{◌≡◌, ℕ, zero, suc, ◌+◌, ◌<◌, All, List, [], ◌∷◌, ◌++◌, Option, None, Some, get_or, length, map, refl, ap, ap₂, sym, subst, ◌∙◌, arith}
use Rattle.std.specs.Prelude.{IfSome, drop, replicate}
use Rattle.std.specs.List.{cons_option}
use Rattle.std.specs.Option.{option_map}
use Rattle.std.proofs.lemmas.List.{length-append, length-map}
use Rattle.std.proofs.lemmas.List.Elements.{All-head, All-map, All-tail}
use Rattle.values.specs.Datum.{Datum, null}
use Rattle.body_writer.specs.Picked.{beside, picked, picked_rows}
use Rattle.view_lang.specs.Config.{Table, View}
use Rattle.view_lang.specs.ConfigRules.{AreOutputs, IsLookup, IsOutput, IsView}
use Rattle.view_lang.specs.Joined.{Side, joined_by, joined_row, looked_up, or_missing}
use Rattle.view_lang.specs.Outputs.{Output, Outputs, columns}
use Rattle.view_lang.specs.ViewColumns.{joined_columns}
use Rattle.view_lang.specs.Views.{passing_row, shown_row, side_in, view_rows}
use Rattle.view_lang.specs.World.{table_at}
use Rattle.view_lang.specs.declared.view.Lookup.{Lookup}
use Rattle.view_lang.specs.declared.view.Missing.{Missing}
use Rattle.view_lang.specs.declared.view.Missing.TheVariants as missing
use Rattle.row_keys.specs.Locations.{row_if}
use Rattle.row_keys.specs.Slots.{IsLiveAt, Slot, live, row_of}
use Rattle.row_keys.specs.Store.{Store}
use Rattle.upkeep.specs.Inputs.{side_from}
use Rattle.upkeep.specs.JoinedRows.{AreLookedUp, JoinsWith, row_beside}
use Rattle.upkeep.specs.Reading.{AreShown, projected_at}
use Rattle.upkeep.specs.Shown.{AreJoined}
use Rattle.upkeep.specs.Stores.{main_slots, rows_in, slots_in, tables_in, world_of}
use Rattle.upkeep.specs.ViewStates.{projected_row, width_at, width_in}
use Rattle.upkeep.specs.declared.shown.JoinedColumns.{JoinedColumns}
use Rattle.upkeep.proofs.ShownColumns.{made_of, no_more}

abbrev column_of : Output → ℕ
column_of o = o.column

-- cells that don't exist are nulls

null_at : (k j : ℕ) → get_or (replicate k null) j null ≡ null
null_at zero j = refl
null_at (suc k) zero = refl
null_at (suc k) (suc j) = null_at k j

null_after : (k : ℕ) (row : List Datum) (j : ℕ) → get_or (row ++ replicate k null) j null ≡ get_or (row ++ []) j null
null_after k [] j = null_at k j
null_after k (d ∷ ds) zero = refl
null_after k (d ∷ ds) (suc j) = null_after k ds j

nulls_after : (columns : List ℕ) (k : ℕ) (row : List Datum)
    → picked columns (row ++ replicate k null) ≡ picked columns (row ++ [])
nulls_after [] k row = refl
nulls_after (j ∷ js) k row = ap₂ (λ d ds. d ∷ ds) (null_after k row j) (nulls_after js k row)

abbrev cells_if : Option (List Datum) → List Datum
cells_if None = []
cells_if (Some cells) = cells

-- what is shown of a joined row

joined_nulls : (m : Missing) (k : ℕ) (row joined : List Datum) (outputs : List Output)
    → option_map (λ more. row ++ more) (or_missing m k None) ≡ Some joined
    → shown_row outputs joined ≡ picked (map column_of outputs) (row ++ [])
joined_nulls missing.Drop k row joined outputs is = absurd (cc)
joined_nulls missing.Null k row joined outputs is =
    let same : row ++ replicate k null ≡ joined = cc in
    ap (shown_row outputs) (sym same) ∙ no_more outputs (row ++ replicate k null)
    ∙ nulls_after (map column_of outputs) k row

joined_cells : (l : Lookup) (row joined : List Datum) (cells : Option (List Datum)) (outputs : List Output)
    → joined_by (Some l) row cells ≡ Some joined
    → shown_row outputs joined ≡ picked (map column_of outputs) (row ++ cells_if cells)
joined_cells l row joined (Some more) outputs is =
    let same : row ++ more ≡ joined = cc in ap (shown_row outputs) (sym same) ∙ no_more outputs (row ++ more)
joined_cells l row joined None outputs is = joined_nulls l.missing l.columns row joined outputs is

joined_shown : (l : Lookup) (o : Option Lookup) (side : Side) (row joined : List Datum) (outputs : List Output)
    → o ≡ Some l → joined_row o side row ≡ Some joined
    → shown_row outputs joined ≡ picked (map column_of outputs) (row ++ cells_if (looked_up (Some l) side row))
unfolding joined_row
joined_shown l o side row joined outputs some is =
    let by : joined_by (Some l) row (looked_up (Some l) side row) ≡ Some joined =
    subst (λ (x : Option Lookup). joined_by x row (looked_up x side row) ≡ Some joined) some is in
    joined_cells l row joined (looked_up (Some l) side row) outputs by

row_if_is : (slots : List Slot) (o : Option ℕ) (cells : Option (List Datum)) → option_map (row_of slots) o ≡ cells
    → row_if (row_of slots) o ≡ cells_if cells
row_if_is slots None cells is = ap cells_if is
row_if_is slots (Some n) cells is = ap cells_if is

-- the projected rows of such a view
module _ (stores : List Store) (v : View) (l : Lookup) (outputs : List Output) (plain : v.outputs ≡ columns outputs)
    (looks : v.lookup ≡ Some l) where
  abbrev slots : List Slot
  slots = main_slots stores

  abbrev sides : List Slot
  sides = slots_in stores (suc l.side)

  abbrev Made : ℕ → Type 0
  Made n = (row : List Datum) × (projected_row v (side_from stores v) (row_of slots n) ≡ Some row)

  side_is : side_from stores v ≡ side_in (tables_in stores) (world_of (rows_in stores)) (Some l)
  side_is = ap (side_in (tables_in stores) (world_of (rows_in stores))) looks

  made_one : (n : ℕ) (o : Option ℕ) → option_map (row_of sides) o ≡ row_beside stores l n → Made n
      → projected_row v (side_from stores v) (row_of slots n)
      ≡ Some (picked (map column_of outputs) (row_of slots n ++ row_if (row_of sides) o))
  made_one n o found made =
      let row : List Datum = row_of slots n in
      let cells : List Datum = row_if (row_of sides) o in
      let there : cells ≡ cells_if (looked_up (Some l) (side_from stores v) row) =
      row_if_is sides o (row_beside stores l n) found ∙ ap (λ (s : Side). cells_if (looked_up (Some l) s row)) (sym side_is) in
      made_of v (side_from stores v) row made.0 (picked (map column_of outputs) (row ++ cells)) v.outputs outputs
      (passing_row v (side_from stores v) row) plain refl
      (λ joined is. joined_shown l v.lookup (side_from stores v) row joined outputs looks is
      ∙ ap (λ more. picked (map column_of outputs) (row ++ more)) (sym there)) made.1

  pub made_joined : (numbers : List ℕ) (found : List (Option ℕ)) → AreLookedUp stores l numbers found → All Made numbers
      → picked_rows (map column_of outputs) (beside (map (row_of slots) numbers) (map (row_if (row_of sides)) found))
      ≡ projected_at v (side_from stores v) slots numbers
  made_joined [] [] same made = refl
  made_joined [] (o ∷ os) same made = refl
  made_joined (n ∷ ns) [] same made = absurd (omega (arith, ap length same))
  made_joined (n ∷ ns) (o ∷ os) same made =
      let head : option_map (row_of sides) o ≡ row_beside stores l n =
      ap (λ xs. get_or xs 0 None) same in
      let tail : AreLookedUp stores l ns os = ap (λ xs. drop 1 xs) same in
      ap (λ rows. picked (map column_of outputs) (row_of slots n ++ row_if (row_of sides) o) ∷ rows)
      (made_joined ns os tail (All-tail Made n ns made))
      ∙ sym (ap (λ x. cons_option x (projected_at v (side_from stores v) slots ns))
      (made_one n o head (All-head Made n ns made)))

narrow : (tables : List Table) (l : Lookup) (os : Outputs) (outputs : List Output) → os ≡ columns outputs
    → AreOutputs (joined_columns tables (Some l)) os
    → All (λ o. o.column < width_in tables + width_at tables (suc l.side)) outputs
narrow tables l os outputs plain right =
    let fields = joined_columns tables (Some l) in
    let both : length fields ≡ width_in tables + width_at tables (suc l.side) =
    length-append (table_at tables 0).columns (table_at tables (suc l.side)).columns in
    let each : All (IsOutput fields) outputs = subst (AreOutputs fields) plain right in
    λ k d below. let here = each k d below in omega (arith, both, here.1)

pub columns_joined :
    (stores : List Store) (v : View) (l : Lookup) (outputs : List Output) (numbers : List ℕ) (j : JoinedColumns)
    → IsView (tables_in stores) v → v.lookup ≡ Some l → v.outputs ≡ columns outputs → v.coded_outputs ≡ []
    → AreShown v (side_from stores v) (main_slots stores) numbers → JoinsWith stores l outputs numbers j
    → AreJoined v (tables_in stores) (rows_in stores) j (view_rows v (side_from stores v) (live (main_slots stores)))
columns_joined stores v l outputs numbers j right looks plain coded shown joins =
    let tables : List Table = tables_in stores in
    let look : IsLookup tables (Some l) = subst (IsLookup tables) looks right.lookup in
    let typed : AreOutputs (joined_columns tables (Some l)) v.outputs =
    subst (λ (o : Option Lookup). AreOutputs (joined_columns tables o) v.outputs) looks right.outputs in
    let wide : ℕ = width_in tables + width_at tables (suc l.side) in
    let below : All (λ o. o.column < wide) outputs = narrow tables l v.outputs outputs plain typed in
    let C : ℕ → List ℕ → Type 0 = λ n cs. All (λ c. c < width_in tables + width_at tables n) cs in
    let L : ℕ → List (Option ℕ) → Type 0 = λ n os. All (λ o. IfSome o (IsLiveAt (slots_in stores n))) os in
    let at = sym joins.table_is in
    let rows : List ℕ → List ℕ → ℕ → List (List Datum) =
    λ cs ns n. picked_rows cs (beside (map (row_of (main_slots stores)) ns)
    (map (row_if (row_of (slots_in stores n))) j.side_numbers.items)) in
    record {
      outputs = outputs;
      plain = plain;
      coded = coded;
      columns_are = joins.columns_are;
      side = omega (arith, joins.table_is);
      there = subst (λ n. n < length tables) at look.0;
      below = subst (λ n. C n j.columns.items) at (subst (C (suc l.side)) (sym joins.columns_are)
          (All-map (λ c. c < wide) column_of outputs below));
      live = subst (All (IsLiveAt (main_slots stores))) (sym joins.visits_are) shown.each_live;
      sides_live = subst (λ n. L n j.side_numbers.items) at joins.live;
      many = sym (length-map j.side_numbers.items (option_map (row_of (slots_in stores (suc l.side)))))
          ∙ ap length joins.looked_up ∙ length-map numbers (row_beside stores l) ∙ sym (ap length joins.visits_are);
      rows_are =
          ap (λ cs. rows cs j.visits j.table) joins.columns_are
          ∙ ap (λ ns. rows (map column_of outputs) ns j.table) joins.visits_are
          ∙ ap (rows (map column_of outputs) numbers) joins.table_is
          ∙ made_joined stores v l outputs plain looks numbers j.side_numbers.items joins.looked_up shown.each_projected
          ∙ shown.rows;
    }
