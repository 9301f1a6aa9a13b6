-- The cells of an array whose slots have no byte.
use Rattle.std.proofs.Common.{
  ◌≡◌,
  ℕ,
  zero,
  suc,
  ◌+◌,
  ◌-◌,
  ◌*◌,
  ◌==◌,
  ◌&&◌,
  Bool,
  true,
  false,
  List,
  [],
  length,
  replicate,
  take,
  drop,
  refl,
  ap,
  sym,
  arith,
  ◌∙◌,
}
use Rattle.std.specs.Prelude.{Option, None, Some, Ok, if◌then◌else◌, slice_range}
use Rattle.std.proofs.lemmas.Bool.{eqb-true}
use Rattle.std.proofs.lemmas.List.{length-replicate}
use Rattle.values.specs.Datum.{Datum, bytes, null}
use Rattle.values.specs.Reading.{Reading, both, cons, each}
use Rattle.values.specs.Rose.{Rose, node}
use Rattle.values.specs.declared.layout.Layout.{Layout}
use Rattle.values.specs.declared.layout.Layout.TheVariants.{
  Bool as Booleans,
  Int,
  Decimal,
  FixedSizeBinary,
  Utf8,
  Binary,
  List as Listed,
  Struct,
}
use Rattle.array_layout.specs.declared.array.DictionaryValues.{DictionaryValues}
use Rattle.array_layout.specs.declared.array.ArrayData.{ArrayData}
use Rattle.array_layout.specs.Placing.{bytes_of}
use Rattle.array_layout.specs.Buffers.{fixed_at, is_null}
use Rattle.array_layout.specs.Cells.{cell, cells, cell_by, first_cell, len_of, row, slot_by, value_by}
use Rattle.arrays.specs.Checked.{CheckedColumn, valid_of}
use Rattle.arrays.specs.NoBytes.{has_no_bytes, has_no_bytes_by, has_no_width}

both_true : (a b : Bool) → (a && b) ≡ true → (a ≡ true) × (b ≡ true)
both_true true b h = (refl, h)
both_true false b h = cc

no-range : (xs : List ℕ) (a b : ℕ) → b ≡ a → slice_range xs a b ≡ []
no-range xs a b e =
    let none : b - a ≡ 0 = omega (arith, e) in
    ap (λ n. take n (drop a xs)) none

no-null : (bits : List ℕ) (i : ℕ) → bits ≡ [] → is_null bits i ≡ false
unfolding is_null
no-null bits i none = ap (λ b. is_null b i) none

no-fixed : (w : ℕ) (bs : List ℕ) (i : ℕ) → (w == 0) ≡ true → fixed_at w bs i ≡ []
unfolding fixed_at
no-fixed w bs i h =
    let no = eqb-true w 0 h in
    no-range bs (w * i) (w * i + w) (omega (arith, no))

value-empty :
    (l : Layout) (b : List ℕ) (p : ArrayData) (here : ℕ → Reading Datum) (beside : ℕ → Reading (List Datum)) (i : ℕ)
    → has_no_width l ≡ true → value_by l b p here beside i ≡ Ok (bytes [])
value-empty Booleans b p here beside i h = cc
value-empty (Int w s) b p here beside i h = cc
value-empty (Decimal d) b p here beside i h = cc
value-empty (FixedSizeBinary w) b p here beside i h = ap (λ x. Ok (bytes x)) (no-fixed w (bytes_of b p.values) i h)
value-empty (Utf8 o) b p here beside i h = cc
value-empty (Binary o) b p here beside i h = cc
value-empty (Listed o) b p here beside i h = cc
value-empty Struct b p here beside i h = cc

slot-empty :
    (o : Option DictionaryValues) (n : ℕ) (b : List ℕ) (p : ArrayData) (here : ℕ → Reading Datum) (beside : ℕ
    → Reading (List Datum)) (i : ℕ)
    → has_no_bytes_by o n p.layout ≡ true → (n ≡ 0) × (slot_by o b p here beside i ≡ Ok (bytes []))
slot-empty None n b p here beside i h =
    let parts = both_true (n == 0) (has_no_width p.layout) h in
    (eqb-true n 0 parts.0, value-empty p.layout b p here beside i parts.1)
slot-empty (Some w) n b p here beside i h = cc

cell-empty : (b : List ℕ) (t : Rose ArrayData) (i : ℕ) → has_no_bytes t ≡ true → cell b t i ≡ Ok (bytes [])
unfolding cell_by
cell-empty b (node p kids) i h =
    let both_are = slot-empty p.dictionary p.validity.len b p (λ j. first_cell b kids j) (λ j. row b kids j) i h in
    let size = both_are.0 in
    let none = no-range b p.validity.from (p.validity.from + p.validity.len) (omega (arith, size)) in
    ap (λ n. if n then Ok null else slot_by p.dictionary b p (λ j. first_cell b kids j) (λ j. row b kids j) i)
    (no-null (bytes_of b p.validity) i none)
    ∙ both_are.1

-- n readings of one value
each-alike : (f : ℕ → Reading Datum) (d : Datum) (i n : ℕ) → ((k : ℕ) → f k ≡ Ok d) → each f i n ≡ Ok (replicate n d)
unfolding each
each-alike f d i zero same = refl
each-alike f d i (suc n) same =
    ap (λ m. both cons m (each f (i + 1) n)) (same i) ∙ ap (λ m. both cons (Ok d) m) (each-alike f d (i + 1) n same)

cells-empty : (b : List ℕ) (t : Rose ArrayData) → has_no_bytes t ≡ true
    → valid_of (cells b t) ≡ replicate (len_of t) (bytes [])
unfolding cells
cells-empty b t h = ap valid_of (each-alike (cell b t) (bytes []) 0 (len_of t) (λ k. cell-empty b t k h))

pub column-empty :
    (b : List ℕ) (t : Rose ArrayData) (c : CheckedColumn) → c.cells ≡ valid_of (cells b t) → has_no_bytes t ≡ true
    → c.cells ≡ replicate (length c.cells) (bytes [])
column-empty b t c are h =
    let all = are ∙ cells-empty b t h in
    let many : len_of t ≡ length c.cells = sym (ap length all ∙ length-replicate (len_of t) (bytes [])) in
    all ∙ ap (λ n. replicate n (bytes [])) many
