-- Views that show each row of the main table in the order of row numbers.
use Rattle.std.proofs.Common.{◌≡◌, ℕ, zero, suc, true, List, [], ◌∷◌, ◌++◌, Option, None, Some, map, replicate, take, refl, ap, ap₂, sym, subst, true≢false, arith, ◌∙◌}
use Rattle.std.specs.Cmp.{nat_cmp_total}
use Rattle.std.specs.List.{AllByRecursion}
use Rattle.std.specs.List.Sorted.{IsStrictlySortedBy}
use Rattle.std.specs.Map.{keys_of, values_of}
use Rattle.std.specs.Option.{option_and_then, option_map, unwrap_or}
use Rattle.std.specs.Ordering.{nat_cmp}
use Rattle.std.specs.Prelude.{cond, is_some}
use Rattle.values.specs.Datum.{Datum, null}
use Rattle.values.specs.Limits.{max_main_rows}
use Rattle.view_lang.specs.Cells.{cell_at}
use Rattle.view_lang.specs.Config.{Table, View}
use Rattle.view_lang.specs.Filter.{Filter}
use Rattle.view_lang.specs.Images.{image, image_by}
use Rattle.view_lang.specs.Laws.{Viewed}
use Rattle.view_lang.specs.Joined.{Side, joined_row, or_missing}
use Rattle.view_lang.specs.Outputs.{Outputs, columns, groups}
use Rattle.view_lang.specs.RowOrder.{row_cmp}
use Rattle.view_lang.specs.Shifts.{NumberedRows, row_at}
use Rattle.view_lang.specs.Sorted.{placed, sorted}
use Rattle.view_lang.specs.Truth.{passes}
use Rattle.view_lang.specs.Views.{output_rows, shown_row, shown_rows, view_input, view_rows}
use Rattle.view_lang.specs.declared.view.Lookup.{Lookup}
use Rattle.view_lang.specs.declared.view.Missing.{Missing}
use Rattle.view_lang.specs.declared.view.Missing.TheVariants as missing
use Rattle.view_lang.specs.declared.view.OrderBy.{OrderBy}
use Rattle.view_lang.proofs.OwnEntries.{HasOwn, own-entries}
use Rattle.lookups.specs.Keeping.{Keeps as KeepsReferrers}
use Rattle.top_rows.specs.OrderedEntries.{OrderedEntries}
use Rattle.row_keys.specs.Numbered.{numbered}
use Rattle.row_keys.specs.Slots.{Slot, live}
use Rattle.upkeep.specs.Reading.{AreShown, IsReadable, LiveAreShown}
use Rattle.upkeep.specs.Inputs.{side_by}
use Rattle.upkeep.specs.Stores.{Rows}
use Rattle.upkeep.specs.ViewStates.{
  AreIdle,
  AreLinks,
  EachIsCurrent,
  IsCurrent,
  IsMaterialized,
  IsMaterializedBy,
  KeepsLinks,
  ShowsEach,
  is_plain,
  leaves_none,
  link_row,
  projected_by,
  projected_row,
  referring_by,
  stays,
}
use Rattle.upkeep.specs.declared.view_state.Materialized.{Materialized}
use Rattle.upkeep.specs.declared.view_state.Materialized.TheVariants as kept
use Rattle.upkeep.specs.declared.view_state.Links.{Links}
use Rattle.upkeep.specs.declared.view_state.Links.TheVariants as links
use Rattle.upkeep.specs.declared.view_state.ViewState.{ViewState}
use Rattle.upkeep.proofs.MadeRows.{Laws, are_made, first_taken, made_rows, made_values, shown_by}

-- Each row has a projected row

filled : (m : Missing) (n : ℕ) (cells : Option (List Datum)) → stays m ≡ true
    → (more : List Datum) × (or_missing m n cells ≡ Some more)
filled m n (Some cells) is = (cells, refl)
filled missing.Null n None is = (replicate n null, refl)
filled missing.Drop n None is = absurd (cc)

joined_each : (l : Option Lookup) (side : Side) (row : List Datum) → leaves_none l ≡ true
    → (joined : List Datum) × (joined_row l side row ≡ Some joined)
unfolding joined_row
joined_each None side row is = (row, refl)
joined_each (Some l) side row is =
    let f = filled l.missing l.columns (side (cell_at row l.on)) is in
    (row ++ f.0, ap (option_map (λ (more : List Datum). row ++ more)) f.1)

made_each : (os : Outputs) (f : Option Filter) (joined : Option (List Datum)) (row : List Datum) → is_plain os ≡ true
    → f ≡ None → joined ≡ Some row
    → (made : List Datum) × (projected_by os (option_and_then (λ r. cond (passes f r) (Some r) None) joined) ≡ Some made)
unfolding passes
made_each (columns outs) None (Some joined) row plain none is = (shown_row outs joined, refl)
made_each (columns outs) None None row plain none is = absurd (cc)
made_each (columns outs) (Some f) joined row plain none is = absurd (cc)
made_each (groups by outs having) f joined row plain none is = absurd (cc)

made_of_each : (v : View) (side : Side) → ShowsEach v → (row : List Datum)
    → (made : List Datum) × (projected_row v side row ≡ Some made)
made_of_each v side each row =
    let j = joined_each v.lookup side row each.lookup in
    made_each v.outputs v.filter (joined_row v.lookup side row) j.0 each.plain each.filter j.1

same_numbers : (make : List Datum → Option (List Datum))
    → ((row : List Datum) → (made : List Datum) × (make row ≡ Some made)) → (rows : NumberedRows)
    → keys_of (image make rows) ≡ keys_of rows
same_numbers make each [] = refl
same_numbers make each (e ∷ es) =
    ap (λ (o : Option (List Datum)). keys_of (image_by e.0 o (image make es))) (each e.1).1
    ∙ ap (λ (ns : List ℕ). e.0 ∷ ns) (same_numbers make each es)

-- Rows in an order of no columns

placed_first : (x : List Datum) (xs : List (List Datum)) → placed (row_cmp []) x xs ≡ x ∷ xs
unfolding row_cmp
placed_first x [] = refl
placed_first x (y ∷ ys) = refl

unordered : (xs : List (List Datum)) → sorted (row_cmp []) xs ≡ xs
unfolding sorted
unordered [] = refl
unordered (x ∷ xs) = ap (placed (row_cmp []) x) (unordered xs) ∙ placed_first x xs

own_taken : (rows es : NumberedRows) → AllByRecursion (HasOwn nat_cmp nat_cmp_total rows) es → (n : ℕ)
    → map (λ m. row_at m rows) (take n (keys_of es)) ≡ map Some (take n (values_of es))
own_taken rows es own zero = refl
own_taken rows [] own (suc n) = refl
own_taken rows (e ∷ es) own (suc n) = ap₂ (λ x xs. x ∷ xs) own.0 (own_taken rows es own.1 n)

plain_outputs : (os : Outputs) (rows : List (List Datum)) → is_plain os ≡ true → made_rows os rows ≡ output_rows os rows
unfolding output_rows
plain_outputs (columns outs) rows plain = refl
plain_outputs (groups by outs having) rows plain = absurd (cc)

module _ (laws : Laws) (tables : List Table) (v : View) (side : Side) (slots : List Slot) (each : ShowsEach v) where
  abbrev made : NumberedRows
  made = image (projected_row v side) (numbered slots)

  made_numbers : keys_of made ≡ keys_of (numbered slots)
  made_numbers = same_numbers (projected_row v side) (made_of_each v side each) (numbered slots)

  ascending : IsStrictlySortedBy nat_cmp (keys_of made)
  ascending =
      (laws.fits (projected_row v side) (numbered slots) []
      (record { ascending = laws.ascend slots; in_turn = tt })).ascending

  taken : Viewed tables v side (live slots)
      → take (unwrap_or v.first max_main_rows) (values_of made) ≡ view_rows v side (live slots)
  unfolding view_rows shown_rows
  taken is =
      let most : ℕ = unwrap_or v.first max_main_rows in
      let out : List (List Datum) = output_rows v.outputs (view_input v side (live slots)) in
      let values : values_of made ≡ out =
      made_values laws v.outputs v side slots
      ∙ plain_outputs v.outputs (view_input v side (live slots)) each.plain in
      let stand : sorted (row_cmp v.order) out ≡ out =
      ap (λ (os : List OrderBy). sorted (row_cmp os) out) each.order ∙ unordered out in
      ap (take most) (values ∙ sym stand)
      ∙ first_taken v.first most (sorted (row_cmp v.order) out) refl (laws.few tables v side (live slots) is)

  live_shown : Viewed tables v side (live slots)
      → AreShown v side slots (take (unwrap_or v.first max_main_rows) (keys_of (numbered slots)))
  live_shown is =
      let most : ℕ = unwrap_or v.first max_main_rows in
      let numbers : List ℕ = take most (keys_of (numbered slots)) in
      let same : map (λ n. row_at n made) numbers ≡ map Some (view_rows v side (live slots)) =
      ap (λ (ns : List ℕ). map (λ n. row_at n made) (take most ns)) (sym made_numbers)
      ∙ own_taken made made (own-entries nat_cmp nat_cmp_total made ascending) most
      ∙ ap (map Some) (taken is) in
      let are = are_made laws v side slots numbers (view_rows v side (live slots)) same in
      shown_by v side slots numbers are

pub live_are_shown : Laws → LiveAreShown
live_are_shown laws tables v side slots is = live_shown laws tables v side slots is.kept is.viewed

-- the first live numbers, however the view's own was read
pub live_asked :
    (law : LiveAreShown) (v : View) (slots there : List Slot) (most : ℕ) (numbers : List ℕ) → slots ≡ there
    → most ≡ unwrap_or v.first max_main_rows → numbers ≡ take most (keys_of (numbered there)) → (tables : List Table)
    (side : Side) → IsReadable tables v side slots kept.Live → AreShown v side slots numbers
live_asked law v slots there most numbers same asked first tables side is =
    subst (AreShown v side slots)
    (sym (first ∙ ap (λ (m : ℕ). take m (keys_of (numbered there))) asked
    ∙ ap (λ (ss : List Slot). take (unwrap_or v.first max_main_rows) (keys_of (numbered ss))) (sym same)))
    (law tables v side slots is)

-- only plain views have an order
pub order_is_plain : (Each : Type 0) (os : Outputs) (order : List OrderBy) (o : OrderedEntries) (rows : NumberedRows)
    → IsMaterializedBy Each (kept.Order o) os order rows → is_plain os ≡ true
order_is_plain Each (columns outs) order o rows k = refl
order_is_plain Each (groups by outs having) order o rows k = absurd k

-- What is stored for such a view is that of any rows.

pub still_live : (v : View) (k : Materialized) (old new : NumberedRows) → k ≡ kept.Live → IsMaterialized v k old → IsMaterialized v k new
still_live v k old new is live =
    subst (λ (x : Materialized). IsMaterialized v x old → IsMaterialized v x new) (sym is) (λ each. each) live

none_refer : (l : Option Lookup) (rows : NumberedRows) → l ≡ None → image (referring_by l) rows ≡ []
none_refer None [] is = refl
none_refer None (e ∷ es) is = none_refer None es is
none_refer (Some l) rows is = absurd (cc)

-- and so are links, where no table is looked up
still_linked :
    (tables : List Table) (v : View) (k : Materialized) (l : Links) (old new : NumberedRows) → v.lookup ≡ None
    → AreLinks tables v k l → KeepsLinks l (image (link_row l v) old) → KeepsLinks l (image (link_row l v) new)
still_linked tables v k (links.Rows r) old new none are keeps =
    subst (KeepsReferrers r) (none_refer v.lookup old none ∙ sym (none_refer v.lookup new none)) keeps
still_linked tables v k (links.SubGroups s) old new none are keeps =
    absurd (true≢false (ap is_some (sym are.0.can.lookup ∙ none)))

pub still_current :
    (tables : List Table) (v : View) (side : Side) (s : ViewState) (old new : NumberedRows)
    → (s.kept ≡ kept.Live) × (v.lookup ≡ None) → IsCurrent tables v side s old → IsCurrent tables v side s new
still_current tables v side s old new nothing current = λ fresh.
    let was = current fresh in (
      still_live v s.kept (image (projected_row v side) old) (image (projected_row v side) new) nothing.0 was.0,
      (was.1.0, still_linked tables v s.kept s.links old new nothing.1 was.1.0 was.1.1),
    )

-- views of which nothing is stored, or that are stale
pub idle_current :
    (tables : List Table) (rows : Rows) (old new : NumberedRows) (vs : List View) (ss : List ViewState)
    → AreIdle vs ss → EachIsCurrent tables rows old vs ss → EachIsCurrent tables rows new vs ss
idle_current tables rows old new [] [] idle each = each
idle_current tables rows old new [] (s ∷ ss) idle each = each
idle_current tables rows old new (v ∷ vs) [] idle each = each
idle_current tables rows old new (v ∷ vs) (s ∷ ss) idle each = (
  λ fresh. still_current tables v (side_by tables rows v) s old new (idle 0 v s (omega arith) refl refl fresh) each.0
      fresh,
  idle_current tables rows old new vs ss (λ k w u below at_w at_u. idle (suc k) w u (omega (arith, below)) at_w at_u)
      each.1,
)
