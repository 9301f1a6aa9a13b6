-- What is stored for a view through changes of the main table's rows.
use Rattle.std.proofs.Common.{◌≡◌, ℕ, suc, ◌<◌, ◌≤◌, false, List, [], ◌∷◌, Option, None, Some, get_or, length, map, refl, ap, sym, subst, ◌∙◌, arith}
use Rattle.std.proofs.lemmas.List.{length-map}
use Rattle.values.specs.Datum.{Datum}
use Rattle.view_lang.specs.Config.{Table, View}
use Rattle.view_lang.specs.Images.{ImageFits, ImagePatched, image, image_by, shift_image}
use Rattle.view_lang.specs.Joined.{Side}
use Rattle.view_lang.specs.Shifts.{Fits, IsFew, NumberedRows, Shift, patched}
use Rattle.std.specs.Map.{keys_of}
use Rattle.std.specs.Option.{unwrap_or}
use Rattle.values.specs.Limits.{max_main_rows}
use Rattle.sub_groups.specs.SubGroups.{AreSubGroups, CanSubGroup}
use Rattle.sub_groups.specs.declared.sub_groups.SubGroups.{SubGroups}
use Rattle.row_keys.specs.NumberLaws.{AllCome}
use Rattle.row_keys.specs.Numbered.{numbered}
use Rattle.row_keys.specs.Slots.{Slot, row_of}
use Rattle.row_keys.specs.Store.{Store, live_in}
use Rattle.upkeep.specs.Stores.{rows_at, rows_in, tables_in}
use Rattle.upkeep.specs.StoreLaws.{rows_there, table_there}
use Rattle.upkeep.specs.ViewStates.{
  AreLinks,
  IsCurrent,
  IsMaterialized,
  KeepsLinks,
  columns_in,
  form_of,
  link_row,
  projected_row,
  turned,
  width_in,
}
use Rattle.upkeep.specs.declared.view_state.Materialized.{Materialized}
use Rattle.upkeep.specs.declared.view_state.Links.{Links}
use Rattle.upkeep.specs.declared.view_state.Links.TheVariants as links
use Rattle.upkeep.specs.declared.view_state.Turn.TheVariants as turn
use Rattle.upkeep.specs.declared.view_state.ViewState.{ViewState}

-- what is stored for a view's projected rows

longer : (n k : ℕ) (o : Option (List Datum)) (rows : NumberedRows) → length rows ≤ k
    → length (image_by n o rows) ≤ suc k
longer n k None rows h = omega (arith, h)
longer n k (Some r) rows h = omega (arith, h)

pub image_length : (make : List Datum → Option (List Datum)) (rows : NumberedRows)
    → length (image make rows) ≤ length rows
image_length make [] = omega arith
image_length make (e ∷ es) = longer e.0 (length es) (make e.1) (image make es) (image_length make es)

image_few : (make : List Datum → Option (List Datum)) (rows : NumberedRows) (change : List Shift) → IsFew rows change
    → IsFew (image make rows) (map (shift_image make) change)
image_few make rows change few =
    let shorter : length (image make rows) ≤ length rows = image_length make rows in
    let same : length (map (shift_image make) change) ≡ length change = length-map change (shift_image make) in
    omega (arith, few, shorter, same)

-- a change fits what is stored for the rows that it fits
pub follow_needs :
    (law : ImageFits) (tables : List Table) (v : View) (side : Side) (s : ViewState) (change : List Shift)
    (rows : NumberedRows) → IsCurrent tables v side s rows → Fits rows change → IsFew rows change → s.stale ≡ false
    → (kept : NumberedRows) × (IsMaterialized v s.kept kept
    × (Fits kept (map (shift_image (projected_row v side)) change)
    × IsFew kept (map (shift_image (projected_row v side)) change)))
follow_needs law tables v side s change rows current fits few fresh =
    let f : List Datum → Option (List Datum) = projected_row v side in (
      image f rows,
      ((current fresh).0, (law f rows change fits, image_few f rows change few)),
    )

-- and the links
pub link_needs :
    (law : ImageFits) (tables : List Table) (v : View) (side : Side) (s : ViewState) (change : List Shift)
    (rows : NumberedRows) → IsCurrent tables v side s rows → Fits rows change → IsFew rows change → s.stale ≡ false
    → (kept : NumberedRows) × (KeepsLinks s.links kept
    × (Fits kept (map (shift_image (link_row s.links v)) change)
    × IsFew kept (map (shift_image (link_row s.links v)) change)))
link_needs law tables v side s change rows current fits few fresh =
    let f : List Datum → Option (List Datum) = link_row s.links v in (
      image f rows,
      ((current fresh).1.1, (law f rows change fits, image_few f rows change few)),
    )

-- Links of the same form

pub links_same : (l now : Links) (v : View) → form_of now ≡ form_of l → link_row now v ≡ link_row l v
links_same (links.Rows r) (links.Rows q) v form = refl
links_same (links.Rows r) (links.SubGroups s) v form = absurd (cc)
links_same (links.SubGroups s) (links.Rows r) v form = absurd (cc)
links_same (links.SubGroups s) (links.SubGroups t) v form = refl

same_groups : (n : ℕ) (v : View) (s t : SubGroups) → t.groups.keys ≡ s.groups.keys
    → t.groups.columns ≡ s.groups.columns → AreSubGroups n v s → AreSubGroups n v t
same_groups n v s t keys columns are = record {
  look = are.look;
  by = are.by;
  outputs = are.outputs;
  having = are.having;
  grouped = are.grouped;
  can = subst (CanSubGroup n v are.look are.by) (sym columns) are.can;
  keyed = keys ∙ are.keyed;
}

pub links_stay :
    (tables : List Table) (v : View) (k next : Materialized) (l now : Links) → columns_in next ≡ columns_in k
    → form_of now ≡ form_of l → AreLinks tables v k l → AreLinks tables v next now
links_stay tables v k next (links.Rows r) (links.Rows q) kept form are = are
links_stay tables v k next (links.Rows r) (links.SubGroups s) kept form are = absurd (cc)
links_stay tables v k next (links.SubGroups s) (links.Rows r) kept form are = absurd (cc)
links_stay tables v k next (links.SubGroups s) (links.SubGroups t) kept form are =
    let both : (t.groups.keys, t.groups.columns) ≡ (s.groups.keys, s.groups.columns) =
    ap (λ o. unwrap_or o (s.groups.keys, s.groups.columns)) form in (
      same_groups (width_in tables) v s t (ap (λ b. b.0) both) (ap (λ b. b.1) both) are.0,
      kept ∙ are.1 ∙ ap (λ b. Some b.1) (sym both),
    )

-- a state of which both are updated for a change
pub followed :
    (fit : ImageFits) (patch : ImagePatched) (tables : List Table) (v : View) (side : Side) (s next : ViewState)
    (change : List Shift) → s.stale ≡ false → columns_in next.kept ≡ columns_in s.kept
    → form_of next.links ≡ form_of s.links
    → ((rows : NumberedRows) → Fits rows (map (shift_image (projected_row v side)) change) → IsMaterialized v s.kept rows
    → IsMaterialized v next.kept (patched rows (map (shift_image (projected_row v side)) change)))
    → ((rows : NumberedRows) → Fits rows (map (shift_image (link_row s.links v)) change) → KeepsLinks s.links rows
    → KeepsLinks next.links (patched rows (map (shift_image (link_row s.links v)) change)))
    → (rows : NumberedRows) → Fits rows change → IsCurrent tables v side s rows
    → IsCurrent tables v side next (patched rows change)
followed fit patch tables v side s next change was columns form kept links rows fits current = λ fresh.
    let f : List Datum → Option (List Datum) = projected_row v side in
    let g : List Datum → Option (List Datum) = link_row s.links v in
    let here = current was in (
      subst (IsMaterialized v next.kept) (sym (patch f rows change fits)) (kept (image f rows) (fit f rows change fits) here.0),
      (
        links_stay tables v s.kept next.kept s.links next.links columns form here.1.0,
        subst (λ (h : List Datum → Option (List Datum)). KeepsLinks next.links (image h (patched rows change)))
            (sym (links_same s.links next.links v form))
            (subst (KeepsLinks next.links) (sym (patch g rows change fits))
            (links (image g rows) (fit g rows change fits) here.1.1)),
      ),
    )

-- all live rows are inserted where there were none
pub rebuild_needs :
    AllCome → (stores : List Store) (s : Store) (numbers given : List ℕ) → s ≡ get_or stores 0 s → 0 < length stores
    → given ≡ numbers → numbers ≡ keys_of (numbered s.slots) → map (row_of s.slots) numbers ≡ live_in s
    → length (live_in s) ≤ max_main_rows
    → Fits [] (turned turn.Come (rows_at (rows_in stores) 0) given)
    × IsFew [] (turned turn.Come (rows_at (rows_in stores) 0) given)
rebuild_needs come_law stores s numbers given is main same named rows few =
    let here : rows_at (rows_in stores) 0 ≡ s.slots = rows_there stores 0 s is main in
    let many : length (turned turn.Come s.slots given) ≡ length given = length-map given _ in
    let live : length numbers ≡ length (live_in s) = sym (length-map numbers (row_of s.slots)) ∙ ap length rows in
    let long : length given ≡ length numbers = ap length same in
    let fits : Fits [] (turned turn.Come s.slots given) =
    subst (λ (ns : List ℕ). Fits [] (turned turn.Come s.slots ns)) (sym (same ∙ named)) (come_law s.slots).fits in
    subst (λ (ss : List Slot). Fits [] (turned turn.Come ss given) × IsFew [] (turned turn.Come ss given)) (sym here)
    (fits, omega (arith, many, live, long, few))

-- the width of the main table
pub main_width : (stores : List Store) (s : Store) → s ≡ get_or stores 0 s → 0 < length stores
    → length s.table.columns ≡ width_in (tables_in stores)
main_width stores s is main = ap (λ (t : Table). length t.columns) (sym (table_there stores 0 s is main))

-- all of them exist then
pub rebuilt :
    AllCome → (stores : List Store) (s : Store) (numbers given : List ℕ) → s ≡ get_or stores 0 s → 0 < length stores
    → given ≡ numbers → numbers ≡ keys_of (numbered s.slots)
    → patched [] (turned turn.Come (rows_at (rows_in stores) 0) given) ≡ numbered (rows_at (rows_in stores) 0)
rebuilt come_law stores s numbers given is main same named =
    let here : rows_at (rows_in stores) 0 ≡ s.slots = rows_there stores 0 s is main in
    ap (λ (ss : List Slot). patched [] (turned turn.Come ss given)) here
    ∙ ap (λ (ns : List ℕ). patched [] (turned turn.Come s.slots ns)) (same ∙ named)
    ∙ (come_law s.slots).patched_is ∙ ap numbered (sym here)

-- the state of a view of no rows
pub none_current :
    (tables : List Table) (v : View) (side : Side) (s : ViewState) → IsMaterialized v s.kept [] → AreLinks tables v s.kept s.links
    → KeepsLinks s.links [] → IsCurrent tables v side s []
none_current tables v side s kept right links = λ fresh. (kept, (right, links))
