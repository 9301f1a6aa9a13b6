-- What a row weighs as one of other layouts, at most.
use Rattle.std.proofs.Common.{◌≡◌, ℕ, ℤ, ◌+◌, ◌-◌, ◌^◌, ◌<◌, ◌≤◌, Bool, List, [], ◌∷◌, drop, get_or, length, min, nat_le, refl, true, false, true≢false, ap, ap₂, arith, subst, sym, ◌∙◌}
use Rattle.std.specs.Prelude.{None, Some, is_some}
use Rattle.std.specs.Option.{unwrap_or}
use Rattle.std.proofs.lemmas.List.{drop_all, drop_more}
use Rattle.values.specs.CellViews.{shallow}
use Rattle.values.specs.Datum.{Datum, bytes, list, null, structure, text, truth, whole}
use Rattle.values.specs.Layouts.{null_weight, weight}
use Rattle.values.specs.Rose.{Rose, kids_of, node}
use Rattle.values.specs.Weights.{saturated}
use Rattle.values.specs.declared.layout.Layout.{Layout}
use Rattle.values.specs.declared.layout.Layout.TheVariants.{
  Binary,
  Bool as Booleans,
  Decimal,
  FixedSizeBinary,
  Int,
  List as Listed,
  Struct,
  Utf8,
}
use Rattle.arrays.specs.Checked.{CheckedColumn}
use Rattle.schema_meta.specs.Rows.{row_at}
use Rattle.body_writer.specs.Batch.{row_weight}
use Rattle.row_keys.specs.Batches.{cells_in}
use Rattle.row_keys.specs.RowsLeft.{Bounds, bytes_beyond}
use Rattle.row_keys.proofs.Weighed.{bound_saturated}

null-null_weight : (t : Rose Layout) → weight t null ≡ null_weight t
null-null_weight (node Booleans kids) = refl
null-null_weight (node (Int w s) kids) = refl
null-null_weight (node (Decimal p) kids) = refl
null-null_weight (node (FixedSizeBinary w) kids) = refl
null-null_weight (node (Utf8 o) kids) = refl
null-null_weight (node (Binary o) kids) = refl
null-null_weight (node (Listed o) kids) = refl
null-null_weight (node Struct kids) = refl

truth-null_weight : (t : Rose Layout) (b : Bool) → weight t (truth b) ≡ null_weight t
truth-null_weight (node Booleans kids) b = refl
truth-null_weight (node (Int w s) kids) b = refl
truth-null_weight (node (Decimal p) kids) b = refl
truth-null_weight (node (FixedSizeBinary w) kids) b = refl
truth-null_weight (node (Utf8 o) kids) b = refl
truth-null_weight (node (Binary o) kids) b = refl
truth-null_weight (node (Listed o) kids) b = refl
truth-null_weight (node Struct kids) b = refl

whole-null_weight : (t : Rose Layout) (z : ℤ) → weight t (whole z) ≡ null_weight t
whole-null_weight (node Booleans kids) z = refl
whole-null_weight (node (Int w s) kids) z = refl
whole-null_weight (node (Decimal p) kids) z = refl
whole-null_weight (node (FixedSizeBinary w) kids) z = refl
whole-null_weight (node (Utf8 o) kids) z = refl
whole-null_weight (node (Binary o) kids) z = refl
whole-null_weight (node (Listed o) kids) z = refl
whole-null_weight (node Struct kids) z = refl

text-beyond : (t : Rose Layout) (b : List ℕ) → weight t (text b) ≤ null_weight t + length b
text-beyond (node Booleans kids) b = omega arith
text-beyond (node (Int w s) kids) b = omega arith
text-beyond (node (Decimal p) kids) b = omega arith
text-beyond (node (FixedSizeBinary w) kids) b = omega arith
text-beyond (node (Utf8 o) kids) b = omega arith
text-beyond (node (Binary o) kids) b = omega arith
text-beyond (node (Listed o) kids) b = omega arith
text-beyond (node Struct kids) b = omega arith

bytes-beyond : (t : Rose Layout) (b : List ℕ) → weight t (bytes b) ≤ null_weight t + length b
bytes-beyond (node Booleans kids) b = omega arith
bytes-beyond (node (Int w s) kids) b = omega arith
bytes-beyond (node (Decimal p) kids) b = omega arith
bytes-beyond (node (FixedSizeBinary w) kids) b = omega arith
bytes-beyond (node (Utf8 o) kids) b = omega arith
bytes-beyond (node (Binary o) kids) b = omega arith
bytes-beyond (node (Listed o) kids) b = omega arith
bytes-beyond (node Struct kids) b = omega arith

some-none : (n : ℕ) → Some n ≡ None → ⊥
some-none n is = true≢false (ap is_some is)

-- The weight of a value is that of its slot, and of the bytes that it has beyond.
flat-weight : (t : Rose Layout) (d : Datum) (n : ℕ) → Some n ≡ bytes_beyond (shallow d) → weight t d ≤ null_weight t + n
flat-weight t null n is = let w = null-null_weight t in omega (arith, w)
flat-weight t (truth b) n is = let w = truth-null_weight t b in omega (arith, w)
flat-weight t (whole z) n is = let w = whole-null_weight t z in omega (arith, w)
flat-weight t (text b) n is =
    let w = text-beyond t b in
    let many = ap (λ o. unwrap_or o 0) is in
    omega (arith, w, many)
flat-weight t (bytes b) n is =
    let w = bytes-beyond t b in
    let many = ap (λ o. unwrap_or o 0) is in
    omega (arith, w, many)
flat-weight t (list es) n is = absurd (some-none n is)
flat-weight t (structure es) n is = absurd (some-none n is)

pub flat_bounds : (t : Rose Layout) (d : Datum) (n s w : ℕ) → Some n ≡ bytes_beyond (shallow d) → s ≡ saturated (null_weight t)
    → w ≡ min (s + n) (2 ^ 64 - 1) → Bounds w (weight t d)
flat_bounds t d n s w is slot_is sum = λ low.
    let own : Bounds s (null_weight t) = subst (λ k. Bounds k (null_weight t)) (sym slot_is) (bound_saturated (null_weight t)) in
    let part = own (omega (arith, low, sum)) in
    let whole = flat-weight t d n is in
    omega (arith, whole, part, low, sum)

-- what cells from one of them on weigh together
abbrev pub weight_from : List (Rose Layout) → List CheckedColumn → ℕ → ℕ
weight_from ts cs i = row_weight (kids_of ts) (row_at (cells_in cs) i)

pub cells_split : (ts : List (Rose Layout)) (cs : List CheckedColumn) (i k : ℕ) (t : Rose Layout) (c : CheckedColumn)
    → t ≡ get_or ts k t → c ≡ get_or cs k c → k < length ts → k < length cs
    → weight_from (drop k ts) (drop k cs) i
    ≡ weight t (get_or c.cells i null) + weight_from (drop (k + 1) ts) (drop (k + 1) cs) i
cells_split ts cs i k t c ist isc bt bc =
    ap₂ (λ xs ys. weight_from xs ys i) (drop_more ts k t bt) (drop_more cs k c bc)
    ∙ ap₂ (λ x (y : CheckedColumn). weight x (get_or y.cells i null)
    + weight_from (drop (k + 1) ts) (drop (k + 1) cs) i) (sym ist) (sym isc)

none-weigh : (ts : List (Rose Layout)) (i : ℕ) → weight_from ts [] i ≡ 0
none-weigh [] i = refl
none-weigh (t ∷ ts) i = refl

pub cells_none : (ts : List (Rose Layout)) (cs : List CheckedColumn) (i k : ℕ) → min (length ts) (length cs) ≤ k
    → weight_from (drop k ts) (drop k cs) i ≡ 0
cells_none ts cs i k past = by (nat_le (length ts) k) refl
  where
    by : (b : Bool) → nat_le (length ts) k ≡ b → weight_from (drop k ts) (drop k cs) i ≡ 0
    by true is = ap (λ xs. weight_from xs (drop k cs) i) (drop_all k ts (grind arith))
    by false is =
        ap (λ ys. weight_from (drop k ts) ys i) (drop_all k cs (grind arith)) ∙ none-weigh (drop k ts) i
