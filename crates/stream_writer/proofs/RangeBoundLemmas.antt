-- Bounds on the weights of rows that lie in ranges.
use Rattle.std.proofs.Common.{◌≡◌, inl, inr, ℕ, ◌+◌, ◌-◌, ◌^◌, ◌<◌, ◌≤◌, Bool, true, false, IfSome, List, [], ◌∷◌, All, length, get_or, drop, refl, ap, sym, subst, ◌∙◌, arith}
use Rattle.std.specs.Prelude.{if◌then◌else◌, max, nat_lt, slice_get}
use Rattle.std.proofs.lemmas.Bool.{cases_lt}
use Rattle.std.proofs.lemmas.List.{drop_all, drop_more}
use Rattle.values.specs.Datum.{Datum, null, truth, whole, text, bytes, list, structure, items_of}
use Rattle.values.specs.Layouts.{Holds, HoldsEach, null_weight, weight}
use Rattle.values.specs.Limits.{max_cell_weight}
use Rattle.values.specs.Rose.{Rose, Roses, kids_of, node}
use Rattle.values.specs.Weights.{saturated}
use Rattle.values.specs.declared.layout.Layout.{Layout}
use Rattle.values.specs.declared.layout.Layout.TheVariants.{
  Binary,
  Bool as Booleans,
  Decimal,
  FixedSizeBinary,
  Int,
  List as Listed,
  Struct,
  Utf8,
}
use Rattle.values.specs.declared.layout.OffsetWidth.{OffsetWidth}
use Rattle.arrays.specs.Checked.{CheckedColumn}
use Rattle.arrays.specs.Weights.{Says}
use Rattle.schema_meta.specs.Rows.{row_at}
use Rattle.body_writer.specs.Batch.{row_weight}
use Rattle.body_writer.specs.RowRanges.{IsRange, cells_in, range_rows}
use Rattle.body_writer.specs.Picked.{picked, picked_rows}
use Rattle.body_writer.specs.declared.from_columns.batch.RowRange.{RowRange}
use Rattle.stream_writer.specs.BatchRows.{AreLightRows, max_light_row}
use Rattle.stream_writer.specs.RangeBounds.{BoundsCells, IsHeaviest}
use Rattle.stream_writer.specs.RangeRows.{HoldRows}
use Rattle.stream_writer.proofs.RangeLemmas.{all-rows, cell-of, each-row}
use Rattle.body_writer.proofs.WeighedRows.{weight_said}

-- the heaviest cell

pub none-heavy : (c : CheckedColumn) (from : ℕ) → IsHeaviest c from from 0
none-heavy c from = record { each = λ light k low high. absurd (omega (arith, low, high)); most_is = omega arith }

pub heavier :
    (c : CheckedColumn) (from i most w next : ℕ) → i < length c.cells
    → IfSome (slice_get c.cells i) (λ d. Says w (weight c.layouts d)) → next ≡ max most w → IsHeaviest c from i most
    → IsHeaviest c from (i + 1) next
heavier c from i most w next below says is before =
    let said = weight_said c i w below says in
    let bound = said.bound in
    let old = before.most_is in
    record {
      each = λ light k low high.
          (elim (cases_lt k i) [
            | inl less ↦ let here = before.each (omega (arith, light, is)) k low less in omega (arith, here, is)
            | inr over ↦
                let same : i ≡ k = omega (arith, over, high) in
                let exact = said.exact (omega (arith, light, is)) in
                let at = ap (λ m. weight c.layouts (get_or c.cells m null)) same in
                omega (arith, exact, at, is)
          ]);
      most_is = omega (arith, bound, old, is);
    }

pub whole-bound : (c : CheckedColumn) (from to most : ℕ) → to ≤ length c.cells
    → (most ≤ max_cell_weight → All (λ d. weight c.layouts d ≤ most) c.cells) → most ≤ max_cell_weight + 1
    → IsHeaviest c from to most
whole-bound c from to most within each bound = record {
  each = λ light k low high. each light k null (omega (arith, high, within));
  most_is = bound;
}

-- values of one layout that are stored as those of another

-- neither lists nor structs
pub record IsFlat (l : Layout) : Type 0 where
  pub list : (o : OffsetWidth) → l ≡ Listed o → ⊥
  pub struct : l ≡ Struct → ⊥

text-lies : (u : Rose Layout) (b : List ℕ) → Holds u (text b) → weight u (text b) ≡ 5 + length b
text-lies (node Booleans kids) b held = absurd held
text-lies (node (Int w s) kids) b held = absurd held
text-lies (node (Decimal p) kids) b held = absurd held
text-lies (node (FixedSizeBinary w) kids) b held = absurd held
text-lies (node (Utf8 o) kids) b held = refl
text-lies (node (Binary o) kids) b held = absurd held
text-lies (node (Listed o) kids) b held = absurd held
text-lies (node Struct kids) b held = absurd held

bytes-lie : (u : Rose Layout) (b : List ℕ) → Holds u (bytes b) → 5 + length b ≤ weight u (bytes b) + 4
bytes-lie (node Booleans kids) b held = absurd held
bytes-lie (node (Int w s) kids) b held = absurd held
bytes-lie (node (Decimal p) kids) b held = absurd held
bytes-lie (node (FixedSizeBinary w) kids) b held = omega (arith, held)
bytes-lie (node (Utf8 o) kids) b held = absurd held
bytes-lie (node (Binary o) kids) b held = omega arith
bytes-lie (node (Listed o) kids) b held = absurd held
bytes-lie (node Struct kids) b held = absurd held

flat-weight : (t u : Rose Layout) (l : Layout) (kids : Roses Layout) (d : Datum) (w : ℕ) → t ≡ node l kids → IsFlat l
    → Holds t d → Holds u d → null_weight t ≤ w → weight u d ≤ w → weight t d ≤ w + 4
flat-weight (node Booleans ks) u l kids d w is flat here there small light = omega (arith, small)
flat-weight (node (Int i s) ks) u l kids d w is flat here there small light = omega (arith, small)
flat-weight (node (Decimal p) ks) u l kids d w is flat here there small light = omega (arith, small)
flat-weight (node (FixedSizeBinary n) ks) u l kids d w is flat here there small light = omega (arith, small)
flat-weight (node (Utf8 o) ks) u l kids null w is flat here there small light = omega (arith, small)
flat-weight (node (Utf8 o) ks) u l kids (truth b) w is flat here there small light = absurd here
flat-weight (node (Utf8 o) ks) u l kids (whole z) w is flat here there small light = absurd here
flat-weight (node (Utf8 o) ks) u l kids (text b) w is flat here there small light =
    let lies = text-lies u b there in omega (arith, lies, light)
flat-weight (node (Utf8 o) ks) u l kids (bytes b) w is flat here there small light = absurd here
flat-weight (node (Utf8 o) ks) u l kids (list es) w is flat here there small light = absurd here
flat-weight (node (Utf8 o) ks) u l kids (structure es) w is flat here there small light = absurd here
flat-weight (node (Binary o) ks) u l kids null w is flat here there small light = omega (arith, small)
flat-weight (node (Binary o) ks) u l kids (truth b) w is flat here there small light = absurd here
flat-weight (node (Binary o) ks) u l kids (whole z) w is flat here there small light = absurd here
flat-weight (node (Binary o) ks) u l kids (text b) w is flat here there small light = absurd here
flat-weight (node (Binary o) ks) u l kids (bytes b) w is flat here there small light =
    let lie = bytes-lie u b there in omega (arith, lie, light)
flat-weight (node (Binary o) ks) u l kids (list es) w is flat here there small light = absurd here
flat-weight (node (Binary o) ks) u l kids (structure es) w is flat here there small light = absurd here
flat-weight (node (Listed o) ks) u l kids d w is flat here there small light = absurd (flat.list o (cc is))
flat-weight (node Struct ks) u l kids d w is flat here there small light = absurd (flat.struct (cc is))

pub null_weight-small : (n most : ℕ) → saturated n ≤ most → most ≤ max_cell_weight → n ≤ most
unfolding saturated
null_weight-small n most le small = by (nat_lt n (2 ^ 64)) le
  where
    by : (b : Bool) → (if b then n else 2 ^ 64 - 1) ≤ most → n ≤ most
    by true h = h
    by false h = absurd (omega (arith, h, small))

pub values-bounded :
    (t : Rose Layout) (l : Layout) (kids : Roses Layout) (c : CheckedColumn) (from to most own all : ℕ)
    → t ≡ node l kids → IsFlat l → All (λ d. Holds c.layouts d) c.cells → to ≤ length c.cells
    → IsHeaviest c from to most → own ≡ saturated (null_weight t) → all ≡ max most own → all ≤ max_cell_weight
    → BoundsCells t c from to (all + 4)
values-bounded t l kids c from to most own all is flat held within heaviest own_is all_is small = record {
  each = λ k low high here.
      let there : Holds c.layouts (get_or c.cells k null) = held k null (omega (arith, high, within)) in
      let light = heaviest.each (omega (arith, all_is, small)) k low high in
      flat-weight t c.layouts l kids (get_or c.cells k null) all is flat here there
      (null_weight-small (null_weight t) all (omega (arith, own_is, all_is)) small) (omega (arith, light, all_is));
  most_is = omega (arith, small);
}

-- Column by column: the sum of the bounds so far, and what the remaining columns weigh.
pub record LightSoFar (ts : List (Rose Layout)) (columns : List ℕ) (cells : List (List Datum)) (from to sum : ℕ)
    (ls : Roses Layout) (all : List ℕ) : Type 0 where
  pub held :
      (k : ℕ) → from ≤ k → k < to → HoldsEach (kids_of ts) (items_of (picked columns (row_at cells k)))
  pub light :
      (k : ℕ) → from ≤ k → k < to
      → row_weight ls (picked all (row_at cells k)) ≤ sum + row_weight (kids_of ts) (picked columns (row_at cells k))

pub light-first :
    (ls : List (Rose Layout)) (n : ℕ) (columns : List ℕ) (r : RowRange) → IsRange n r
    → HoldRows (kids_of ls) (picked_rows columns (range_rows r))
    → LightSoFar (drop 0 ls) (drop 0 columns) (cells_in r.batch.now.columns.items) r.from r.to 0 (kids_of ls) columns
light-first ls n columns r is held = record {
  held = each-row (λ row. HoldsEach (kids_of ls) (items_of row)) n columns r is held;
  light = λ k low high. omega arith;
}

light-next :
    (t : Rose Layout) (ts : List (Rose Layout)) (j : ℕ) (js : List ℕ) (columns : List CheckedColumn)
    (from to sum most : ℕ) (ls : Roses Layout) (all : List ℕ) (c : CheckedColumn) → j < length columns
    → c ≡ get_or columns j c → BoundsCells t c from to most
    → LightSoFar (t ∷ ts) (j ∷ js) (cells_in columns) from to sum ls all
    → LightSoFar ts js (cells_in columns) from to (sum + most) ls all
light-next t ts j js columns from to sum most ls all c h e bound before = record {
  held = λ k low high. (before.held k low high).1;
  light = λ k low high.
      let cell = cell-of columns j k c h e in
      let here : Holds t (get_or c.cells k null) =
      subst (λ (d : Datum). Holds t d) cell (before.held k low high).0 in
      let light = bound.each k low high here in
      let same = ap (weight t) cell in
      let so_far = before.light k low high in
      omega (arith, so_far, light, same);
}

pub light-more :
    (us : List (Rose Layout)) (js : List ℕ) (i : ℕ) (t : Rose Layout) (j : ℕ) (columns : List CheckedColumn)
    (from to sum most : ℕ) (ls : Roses Layout) (all : List ℕ) (c : CheckedColumn) → i < length us → i < length js
    → t ≡ get_or us i t → j ≡ get_or js i 0 → j < length columns
    → c ≡ get_or columns j c → BoundsCells t c from to most
    → LightSoFar (drop i us) (drop i js) (cells_in columns) from to sum ls all
    → LightSoFar (drop (i + 1) us) (drop (i + 1) js) (cells_in columns) from to (sum + most) ls all
light-more us js i t j columns from to sum most ls all c layouts picks t_is j_is h e bound before =
    let cells = cells_in columns in
    let A : List (Rose Layout) → Type 0 = λ ts. LightSoFar ts (drop i js) cells from to sum ls all in
    let B : List ℕ → Type 0 = λ ks. LightSoFar (t ∷ drop (i + 1) us) ks cells from to sum ls all in
    let first : drop i us ≡ t ∷ drop (i + 1) us =
    drop_more us i t layouts ∙ ap (λ x. x ∷ drop (i + 1) us) (sym t_is) in
    let second : drop i js ≡ j ∷ drop (i + 1) js =
    drop_more js i 0 picks ∙ ap (λ x. x ∷ drop (i + 1) js) (sym j_is) in
    light-next t (drop (i + 1) us) j (drop (i + 1) js) columns from to sum most ls all c h e bound
    (subst B second (subst A first before))

pub light-end :
    (ls : List (Rose Layout)) (n : ℕ) (columns : List ℕ) (r : RowRange) (i sum : ℕ) → IsRange n r → length ls ≤ i
    → sum ≤ max_light_row
    → LightSoFar (drop i ls) (drop i columns) (cells_in r.batch.now.columns.items) r.from r.to sum (kids_of ls) columns
    → AreLightRows (kids_of ls) (picked_rows columns (range_rows r))
light-end ls n columns r i sum is end small so_far =
    let cells = cells_in r.batch.now.columns.items in
    let A : List (Rose Layout) → Type 0 =
    λ ts. LightSoFar ts (drop i columns) cells r.from r.to sum (kids_of ls) columns in
    let last : LightSoFar [] (drop i columns) cells r.from r.to sum (kids_of ls) columns =
    subst A (drop_all i ls end) so_far in
    all-rows (λ row. row_weight (kids_of ls) row ≤ max_light_row) n columns r is
    (λ k low high. let light = last.light k low high in omega (arith, light, small))
