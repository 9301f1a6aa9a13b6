-- Cells that compare as equal, and are neither lists nor structs, have the same value.
use Rattle.std.proofs.Common.{◌≡◌, ◌&&◌, Bool, ap, ap₂, false, not, refl, sym, true, true≢false, ◌∙◌}
use Rattle.std.specs.Cmp.{Equal-is}
use Rattle.std.specs.Ordering.{is_eq}
use Rattle.values.proofs.KeyLaws.{keys-ordered}
use Rattle.values.proofs.ShallowLemmas.{datum_cmp-shallow}
use Rattle.values.specs.CellViews.{shallow, viewed}
use Rattle.values.specs.Datum.{Datum, null, truth, whole, text, bytes, list, structure, no_items}
use Rattle.values.specs.KeyOrder.{KeysAreOrdered}
use Rattle.values.specs.Keys.{datum_of_key}
use Rattle.values.specs.Order.{datum_cmp}
use Rattle.values.specs.declared.cell_view.CellView.{CellView}
use Rattle.values.specs.declared.cell_view.CellView.TheVariants as cell
use Rattle.values.specs.declared.key.Key.{Key}
use Rattle.values.specs.declared.key.Key.TheVariants as key
use Rattle.view_lang.proofs.ExactKeys.{key_exact}
use Rattle.upkeep.specs.AlikeRows.{are_same, is_nested}

same_keyed : KeysAreOrdered → (j k : Key) → is_eq (datum_cmp (datum_of_key j) (datum_of_key k)) ≡ true
    → datum_of_key j ≡ datum_of_key k
same_keyed law j k h =
    ap datum_of_key (key_exact j k (law j k ∙ (Equal-is (datum_cmp (datum_of_key j) (datum_of_key k))).0 h))

same_value : KeysAreOrdered → (x y : Datum) → (shallow x ≡ list no_items → ⊥) → (shallow x ≡ structure no_items → ⊥)
    → is_eq (datum_cmp x y) ≡ true → x ≡ y
same_value law null null no_list no_struct h = refl
same_value law null (truth b) no_list no_struct h = absurd (true≢false (sym h))
same_value law null (whole b) no_list no_struct h = absurd (true≢false (sym h))
same_value law null (text b) no_list no_struct h = absurd (true≢false (sym h))
same_value law null (bytes b) no_list no_struct h = absurd (true≢false (sym h))
same_value law null (list b) no_list no_struct h = absurd (true≢false (sym h))
same_value law null (structure b) no_list no_struct h = absurd (true≢false (sym h))
same_value law (truth a) null no_list no_struct h = absurd (true≢false (sym h))
same_value law (truth a) (truth b) no_list no_struct h = same_keyed law (key.Bool a) (key.Bool b) h
same_value law (truth a) (whole b) no_list no_struct h = absurd (true≢false (sym h))
same_value law (truth a) (text b) no_list no_struct h = absurd (true≢false (sym h))
same_value law (truth a) (bytes b) no_list no_struct h = absurd (true≢false (sym h))
same_value law (truth a) (list b) no_list no_struct h = absurd (true≢false (sym h))
same_value law (truth a) (structure b) no_list no_struct h = absurd (true≢false (sym h))
same_value law (whole a) null no_list no_struct h = absurd (true≢false (sym h))
same_value law (whole a) (truth b) no_list no_struct h = absurd (true≢false (sym h))
same_value law (whole a) (whole b) no_list no_struct h = same_keyed law (key.Int a) (key.Int b) h
same_value law (whole a) (text b) no_list no_struct h = absurd (true≢false (sym h))
same_value law (whole a) (bytes b) no_list no_struct h = absurd (true≢false (sym h))
same_value law (whole a) (list b) no_list no_struct h = absurd (true≢false (sym h))
same_value law (whole a) (structure b) no_list no_struct h = absurd (true≢false (sym h))
same_value law (text a) null no_list no_struct h = absurd (true≢false (sym h))
same_value law (text a) (truth b) no_list no_struct h = absurd (true≢false (sym h))
same_value law (text a) (whole b) no_list no_struct h = absurd (true≢false (sym h))
same_value law (text a) (text b) no_list no_struct h = same_keyed law (key.Utf8 a) (key.Utf8 b) h
same_value law (text a) (bytes b) no_list no_struct h = absurd (true≢false (sym h))
same_value law (text a) (list b) no_list no_struct h = absurd (true≢false (sym h))
same_value law (text a) (structure b) no_list no_struct h = absurd (true≢false (sym h))
same_value law (bytes a) null no_list no_struct h = absurd (true≢false (sym h))
same_value law (bytes a) (truth b) no_list no_struct h = absurd (true≢false (sym h))
same_value law (bytes a) (whole b) no_list no_struct h = absurd (true≢false (sym h))
same_value law (bytes a) (text b) no_list no_struct h = absurd (true≢false (sym h))
same_value law (bytes a) (bytes b) no_list no_struct h = same_keyed law (key.Binary a) (key.Binary b) h
same_value law (bytes a) (list b) no_list no_struct h = absurd (true≢false (sym h))
same_value law (bytes a) (structure b) no_list no_struct h = absurd (true≢false (sym h))
same_value law (list a) y no_list no_struct h = absurd (no_list refl)
same_value law (structure a) y no_list no_struct h = absurd (no_struct refl)

plain_value : (x : Datum) → is_nested x ≡ false → (shallow x ≡ list no_items → ⊥) × (shallow x ≡ structure no_items → ⊥)
plain_value null plain = (λ h. absurd (cc), λ h. absurd (cc))
plain_value (truth b) plain = (λ h. absurd (cc), λ h. absurd (cc))
plain_value (whole n) plain = (λ h. absurd (cc), λ h. absurd (cc))
plain_value (text t) plain = (λ h. absurd (cc), λ h. absurd (cc))
plain_value (bytes b) plain = (λ h. absurd (cc), λ h. absurd (cc))
plain_value (list es) plain = absurd (true≢false plain)
plain_value (structure es) plain = absurd (true≢false plain)

-- What the test finds the same is the same.
known_by : (x y : Datum) (b : Bool) → is_nested x ≡ b → (not b && is_eq (datum_cmp x y)) ≡ true → x ≡ y
known_by x y true nested same = absurd (true≢false (sym same))
known_by x y false nested same =
    let plain = plain_value x nested in same_value keys-ordered x y plain.0 plain.1 same

pub known_same : (x y : Datum) → are_same x y ≡ true → x ≡ y
known_same x y same = known_by x y (is_nested x) refl same

-- where cells lie

nested_shallow : (x : Datum) → is_nested (shallow x) ≡ is_nested x
nested_shallow null = refl
nested_shallow (truth b) = refl
nested_shallow (whole n) = refl
nested_shallow (text t) = refl
nested_shallow (bytes b) = refl
nested_shallow (list es) = refl
nested_shallow (structure es) = refl

pub seen_same : (u w x y : Datum) → u ≡ shallow x → w ≡ shallow y → are_same u w ≡ are_same x y
seen_same u w x y is_x is_y =
    ap₂ are_same is_x is_y
    ∙ ap₂ (λ n c. not n && is_eq c) (nested_shallow x) (datum_cmp-shallow x y)

pub plain_cell : (u : CellView) (w : Datum) → (u ≡ cell.List → ⊥) → (u ≡ cell.Struct → ⊥)
    → is_eq (datum_cmp (viewed u) w) ≡ are_same (viewed u) w
plain_cell cell.Null w list_apart struct_apart = refl
plain_cell (cell.Bool b) w list_apart struct_apart = refl
plain_cell (cell.Int n) w list_apart struct_apart = refl
plain_cell (cell.Utf8 t) w list_apart struct_apart = refl
plain_cell (cell.Binary t) w list_apart struct_apart = refl
plain_cell cell.List w list_apart struct_apart = absurd (list_apart refl)
plain_cell cell.Struct w list_apart struct_apart = absurd (struct_apart refl)
