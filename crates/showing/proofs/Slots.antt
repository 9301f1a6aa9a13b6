-- The value as which the cell of a slot is read.
use Rattle.std.proofs.Common.{◌≡◌, ℕ, List, ◌+◌, ◌<◌, length, Ok, slice_get, sym, subst, ◌∙◌, arith}
use Rattle.std.specs.Prelude.{Option, None, IfSome, Bool, false, if◌then◌else◌}
use Rattle.values.specs.Datum.{Datum, null}
use Rattle.values.specs.Reading.{Reading, IsValid}
use Rattle.values.specs.Rose.{Rose, Roses, node}
use Rattle.values.proofs.Readings.{each_length, each_get}
use Rattle.array_layout.specs.declared.array.ArrayData.{ArrayData}
use Rattle.array_layout.specs.declared.array.DictionaryValues.{DictionaryValues}
use Rattle.array_layout.specs.Buffers.{is_null}
use Rattle.array_layout.specs.Cells.{cell, cell_by, cells, len_of, slot_by, value_by}
use Rattle.array_layout.specs.Placing.{bytes_of}
use Rattle.arrays.proofs.ColumnCells.{cell-valid}

-- the cell of a slot that isn't null, without a dictionary, is its value
pub value-shown :
    (b : List ℕ) (p : ArrayData) (here : ℕ → Reading Datum) (beside : ℕ → Reading (List Datum)) (i : ℕ)
    (r : Reading Datum)
    → is_null (bytes_of b p.validity) i ≡ false → p.dictionary ≡ None → r ≡ value_by p.layout b p here beside i
    → r ≡ cell_by b p here beside i
unfolding cell_by
value-shown b p here beside i r there is shows =
    let P : Option DictionaryValues → Type 0 = λ w. r ≡ slot_by w b p here beside i in
    let Q : Bool → Type 0 = λ n. r ≡ (if n then Ok null else slot_by p.dictionary b p here beside i) in
    subst Q (sym there) (subst P (sym is) shows)

cells-valid : (b : List ℕ) (t : Rose ArrayData) (ds : List Datum) → cells b t ≡ Ok ds → IsValid (cells b t)
cells-valid b t ds are = let P : Reading (List Datum) → Type 0 = λ m. IsValid m in subst P (sym are) tt

cells-length : (b : List ℕ) (t : Rose ArrayData) (ds : List Datum) → cells b t ≡ Ok ds → length ds ≡ len_of t
unfolding cells
cells-length b t ds are = each_length (cell b t) 0 (len_of t) ds are

-- the slots of a column are those of its cells
pub slot-below : (b : List ℕ) (p : ArrayData) (kids : Roses ArrayData) (ds : List Datum) (i : ℕ)
    → cells b (node p kids) ≡ Ok ds → i < length ds → i < p.len
slot-below b p kids ds i are below = omega (arith, below, cells-length b (node p kids) ds are)

pub slot-valid : (b : List ℕ) (t : Rose ArrayData) (ds : List Datum) (i : ℕ) → cells b t ≡ Ok ds → i < length ds
    → IsValid (cell b t i)
slot-valid b t ds i are below =
    cell-valid b t i (cells-valid b t ds are) (omega (arith, below, cells-length b t ds are))

pub slot-shown : (b : List ℕ) (t : Rose ArrayData) (ds : List Datum) (i : ℕ) (r : Reading Datum) → cells b t ≡ Ok ds
    → i < length ds → r ≡ cell b t i → IfSome (slice_get ds i) (λ d. r ≡ Ok d)
unfolding cells
slot-shown b t ds i r are below shows =
    let got = each_get (cell b t) 0 (len_of t) ds are i (omega (arith, below, cells-length b t ds are)) in
    let same : 0 + i ≡ i = omega arith in
    let P : ℕ → Type 0 = λ k. cell b t k ≡ Ok got.0 in
    let S : Option Datum → Type 0 = λ o. IfSome o (λ d. r ≡ Ok d) in
    subst S (sym got.1) (shows ∙ subst P same got.2)
