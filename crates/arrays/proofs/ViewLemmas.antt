-- The value as which a valid slot is read, viewed where it lies.
use Rattle.std.proofs.Common.{◌≡◌, ℕ, ℤ, List, ◌+◌, ◌<◌, length, refl, ap, sym, subst, ◌∙◌, arith}
use Rattle.std.specs.Prelude.{Ok, Err, true, get_or}
use Rattle.std.specs.Str.{is_utf8}
use Rattle.std.proofs.lemmas.Option.{get_or_from_slice_get}
use Rattle.values.specs.Reading.{Reading, IsValid, mapped}
use Rattle.values.proofs.Readings.{each_length, each_get}
use Rattle.values.specs.Rose.{Rose, Roses}
use Rattle.values.specs.Datum.{Datum, null, whole, text, list, structure, no_items}
use Rattle.values.specs.declared.layout.OffsetWidth.{OffsetWidth}
use Rattle.values.specs.declared.layout.Layout.{Layout}
use Rattle.values.specs.declared.layout.Layout.TheVariants.{Decimal, Utf8, List as Listed, Struct}
use Rattle.array_layout.specs.declared.array.ArrayData.{ArrayData}
use Rattle.array_layout.specs.Placing.{bytes_of}
use Rattle.array_layout.specs.Buffers.{number_at, slice_at}
use Rattle.array_layout.specs.Cells.{cell, cells, first_cell, row, value_by, len_of, list_of, structure_of}
use Rattle.arrays.proofs.CopyLemmas.{value_decimal, value_text}
use Rattle.values.specs.CellViews.{shallow}

abbrev value : Layout → List ℕ → ArrayData → Roses ArrayData → ℕ → Reading Datum
value l b p kids i = value_by l b p (λ j. first_cell b kids j) (λ j. row b kids j) i

shallow_read : (m : Reading Datum) (d : Datum) → m ≡ Ok d → mapped shallow m ≡ Ok (shallow d)
shallow_read m d is = ap (mapped shallow) is

pub view_decimal :
    (b : List ℕ) (p : ArrayData) (kids : Roses ArrayData) (d : ℕ) (z : ℤ) (i : ℕ) → p.layout ≡ Decimal d
    → IsValid (value p.layout b p kids i)
    → z ≡ number_at true 16 (bytes_of b p.values) i → mapped shallow (value p.layout b p kids i) ≡ Ok (whole z)
view_decimal b p kids d z i is valid same = shallow_read _ (whole z) (value_decimal b p kids d z i is valid same)

pub view_text :
    (b : List ℕ) (p : ArrayData) (kids : Roses ArrayData) (o : OffsetWidth) (t : List ℕ) (i : ℕ) → p.layout ≡ Utf8 o
    → is_utf8 (slice_at o (bytes_of b p.offsets) (bytes_of b p.values) i) ≡ true
    → t ≡ slice_at o (bytes_of b p.offsets) (bytes_of b p.values) i
    → mapped shallow (value p.layout b p kids i) ≡ Ok (text t)
view_text b p kids o t i is utf8 same =
    let U : List ℕ → Type 0 = λ s. is_utf8 s ≡ true in
    shallow_read _ (text t) (value_text b p kids o t i is (subst U (sym same) utf8) same)

list_viewed : (m : Reading (List Datum)) → IsValid (list_of m) → mapped shallow (list_of m) ≡ Ok (list no_items)
list_viewed (Ok ds) valid = refl
list_viewed (Err fs) valid = absurd valid

struct_viewed : (m : Reading (List Datum)) → IsValid (structure_of m)
    → mapped shallow (structure_of m) ≡ Ok (structure no_items)
struct_viewed (Ok ds) valid = refl
struct_viewed (Err fs) valid = absurd valid

pub view_list :
    (b : List ℕ) (p : ArrayData) (kids : Roses ArrayData) (o : OffsetWidth) (i : ℕ) → p.layout ≡ Listed o
    → IsValid (value p.layout b p kids i) → mapped shallow (value p.layout b p kids i) ≡ Ok (list no_items)
view_list b p kids o i is valid =
    let P : Layout → Type 0 = λ l. IsValid (value l b p kids i) in
    let Q : Layout → Type 0 = λ l. mapped shallow (value l b p kids i) ≡ Ok (list no_items) in
    subst Q (sym is) (list_viewed _ (subst P is valid))

pub view_struct :
    (b : List ℕ) (p : ArrayData) (kids : Roses ArrayData) (i : ℕ) → p.layout ≡ Struct
    → IsValid (value p.layout b p kids i) → mapped shallow (value p.layout b p kids i) ≡ Ok (structure no_items)
view_struct b p kids i is valid =
    let P : Layout → Type 0 = λ l. IsValid (value l b p kids i) in
    let Q : Layout → Type 0 = λ l. mapped shallow (value l b p kids i) ≡ Ok (structure no_items) in
    subst Q (sym is) (struct_viewed _ (subst P is valid))

pub ruleset view_laws = (view_decimal, view_text, view_list, view_struct)

-- the slot of a column's cell
pub cell_within : (b : List ℕ) (t : Rose ArrayData) (ds : List Datum) (i : ℕ) → cells b t ≡ Ok ds → i < length ds
    → i < len_of t
unfolding cells
cell_within b t ds i all below =
    let long = each_length (cell b t) 0 (len_of t) ds all in omega (arith, long, below)

cell_there : (b : List ℕ) (t : Rose ArrayData) (ds : List Datum) (i : ℕ) → cells b t ≡ Ok ds → i < length ds
    → cell b t i ≡ Ok (get_or ds i null)
unfolding cells
cell_there b t ds i all below =
    let got = each_get (cell b t) 0 (len_of t) ds all i (cell_within b t ds i all below) in
    let same : 0 + i ≡ i = omega arith in
    let P : ℕ → Type 0 = λ k. cell b t k ≡ Ok got.0 in
    let is : get_or ds i null ≡ got.0 = get_or_from_slice_get ds i got.0 null got.1 in
    subst P same got.2 ∙ ap (λ d. Ok d) (sym is)

pub cell_valid : (b : List ℕ) (t : Rose ArrayData) (ds : List Datum) (i : ℕ) → cells b t ≡ Ok ds → i < length ds
    → IsValid (cell b t i)
cell_valid b t ds i all below = subst IsValid (sym (cell_there b t ds i all below)) tt

abbrev value_or : Datum → Reading Datum → Datum
value_or x (Ok d) = d
value_or x (Err fs) = x

one_value : (m : Reading Datum) (x y : Datum) → m ≡ Ok x → m ≡ Ok y → x ≡ y
one_value m x y a b = ap (value_or x) (sym a ∙ b)

pub cell_viewed : (b : List ℕ) (t : Rose ArrayData) (ds : List Datum) (i : ℕ) (d : Datum) → cells b t ≡ Ok ds
    → i < length ds → mapped shallow (cell b t i) ≡ Ok d → d ≡ shallow (get_or ds i null)
cell_viewed b t ds i d all below is =
    one_value (mapped shallow (cell b t i)) d (shallow (get_or ds i null)) is
    (ap (mapped shallow) (cell_there b t ds i all below))

pub ruleset column_laws = (cell_within, cell_valid, cell_viewed)
