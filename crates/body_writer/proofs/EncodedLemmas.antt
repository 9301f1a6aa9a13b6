-- Slots that are indices into a dictionary.
use Rattle.std.proofs.Common.{
  ◌≡◌,
  ℕ,
  ℤ,
  pos,
  negsuc,
  ◌+◌,
  ◌*◌,
  ◌-◌,
  ◌^◌,
  ◌<◌,
  ◌≤◌,
  length,
  List,
  [],
  ◌∷◌,
  ◌++◌,
  Option,
  None,
  Some,
  Bool,
  true,
  false,
  refl,
  ap,
  sym,
  subst,
  ◌∙◌,
  append_assoc,
  append-nil,
  arith,
  inl,
  inr,
}
use Rattle.std.specs.Prelude.{slice_get}
use Rattle.std.specs.Option.{option_copied}
use Rattle.std.proofs.lemmas.Int.{ints}
use Rattle.std.proofs.lemmas.Bool.{cases_lt}
use Rattle.std.proofs.lemmas.List.{map-append}
use Rattle.byteorder.specs.Endian.{twos_complement}
use denote.Ref.{Bor}
use Rattle.values.specs.Datum.{Datum, null}
use Rattle.values.specs.Reading.{Reading, IsValid, must}
use Rattle.values.specs.Rose.{Roses, node, kids_of}
use Rattle.values.specs.declared.faults.StreamFault.TheVariants as fault
use Rattle.values.specs.declared.layout.IntWidth.{IntWidth}
use Rattle.values.specs.declared.layout.Layout.{Layout}
use Rattle.values.specs.declared.layout.Layout.TheVariants.{Int}
use Rattle.values.specs.Layouts.{bytes_in}
use Rattle.array_layout.specs.declared.array.DictionaryValues.{DictionaryValues}
use Rattle.array_layout.specs.declared.array.ArrayData.{ArrayData}
use Rattle.array_layout.specs.Placing.{bytes_of}
use Rattle.array_layout.specs.Buffers.{is_null, number_by, number_at, unsigned_at}
use Rattle.array_layout.specs.Cells.{cell, cell_by, slot_by, coded_by, indexed, first_cell, row}
use Rattle.body_writer.specs.Slots.{cell_of, cells_of}
use Rattle.body_writer.specs.Runs.{cell_in, slots}
use Rattle.arrays.proofs.DictionaryLemmas.{index_rooms}
use Rattle.body_writer.specs.declared.from_columns.segment.SlotRange.{SlotRange}
use Rattle.body_writer.specs.Segments.{IsIndexed}
use Rattle.body_writer.proofs.RunLemmas.{null-cell}
use Rattle.body_writer.proofs.BitLemmas.{slots-next, slots-none}
use Rattle.arrays.proofs.IndexLemmas.{low-half, high-half, numbers-room}

encoded-slot :
    (body : List ℕ) (p : ArrayData) (kids : Roses ArrayData) (w : DictionaryValues) (k : ℕ) → p.dictionary ≡ Some w
    → is_null (bytes_of body p.validity) k ≡ false → cell body (node p kids) k ≡ coded_by p.layout w.values (bytes_of
    body p.values) k
unfolding cell_by
encoded-slot body p kids w k e h =
    rw h (ap (λ d. slot_by d body p (λ j. first_cell body kids j) (λ j. row body kids j) k) e)

found-value : (r : Option (Bor Datum)) (m : Reading Datum) → must fault.DictionaryIndex (option_copied r) ≡ m
    → IsValid m → cell_of r ≡ cell_in m
found-value None m e h = absurd (subst IsValid (sym e) h)
found-value (Some b) m e h = ap cell_in e

-- a valid index isn't negative, so it is the number without its sign

as-pos : (w x : ℕ) → x < 2 ^ (8 * w) → (n : ℕ) → twos_complement w x ≡ pos n → x ≡ n
as-pos w x small n e = elim (cases_lt x (2 ^ (8 * w - 1))) [
  | inl l ↦ omega (arith, ints, sym (low-half w x l) ∙ e)
  | inr g ↦ absurd (omega (arith, ints, small, sym (high-half w x g) ∙ e))
]

as-number : (s : Bool) (w x : ℕ) → x < 2 ^ (8 * w) → (n : ℕ) → number_by s w x ≡ pos n → x ≡ n
as-number false w x small n e = omega (arith, ints, e)
as-number true w x small n e = as-pos w x small n e

found-at : (r : Option (Bor Datum)) (ds : List Datum) (x : ℕ) (z : ℤ) → ((n : ℕ) → z ≡ pos n → x ≡ n)
    → option_copied r ≡ slice_get ds x → IsValid (indexed ds z) → cell_of r ≡ cell_in (indexed ds z)
found-at r ds x (pos n) same got good =
    let here : slice_get ds x ≡ slice_get ds n = ap (λ k. slice_get ds k) (same n refl) in
    found-value r (indexed ds (pos n)) (ap (must fault.DictionaryIndex) (got ∙ here)) good
found-at r ds x (negsuc n) same got good = absurd good

pub value-found :
    (l : Layout) (ds : List Datum) (indices : List ℕ) (i : ℕ) (w : IntWidth) (s : Bool) (x : ℕ) (r : Option (Bor
    Datum)) → l ≡ Int w s → x ≡ unsigned_at (bytes_in w) indices i → x < 2 ^ (8 * bytes_in w)
    → option_copied r ≡ slice_get ds x → IsValid (coded_by l ds indices i)
    → cell_of r ≡ cell_in (coded_by l ds indices i)
unfolding number_at
value-found l ds indices i w s x r is at small got good =
    let P : Layout → Type 0 = λ k. IsValid (coded_by k ds indices i) → cell_of r ≡ cell_in (coded_by k ds indices i) in
    let u : ℕ = unsigned_at (bytes_in w) indices i in
    let little : u < 2 ^ (8 * bytes_in w) = subst (λ y. y < 2 ^ (8 * bytes_in w)) at small in
    subst P (sym is) (λ valid. found-at r ds x (number_by s (bytes_in w) u)
    (λ n k. at ∙ as-number s (bytes_in w) u little n k) got valid) good

pub value-there :
    (w : IntWidth) (ds : List Datum) (indices : List ℕ) (i x : ℕ) (r : Option (Bor Datum))
    → x ≡ unsigned_at (bytes_in w) indices i → x < 2 ^ (8 * bytes_in w) → option_copied r ≡ slice_get ds x
    → (s : Bool) → IsValid (coded_by (Int w s) ds indices i) → cell_of r ≡ cell_in (coded_by (Int w s) ds indices i)
value-there w ds indices i x r at small got s good = value-found (Int w s) ds indices i w s x r refl at small got good

pub ruleset index_laws = (value-found)

-- the value that is found is the slot's cell
pub encoded-cell :
    (body : List ℕ) (p : ArrayData) (kids : Roses ArrayData) (w : DictionaryValues) (k : ℕ) (r : Option (Bor Datum))
    → p.dictionary ≡ Some w
    → is_null (bytes_of body p.validity) k ≡ false
    → cell_of r ≡ cell_in (coded_by p.layout w.values (bytes_of body p.values) k)
    → cell_of r ≡ cell_in (cell body (node p kids) k)
encoded-cell body p kids w k r e there found = found ∙ sym (ap cell_in (encoded-slot body p kids w k e there))

pub encoded-valid :
    (body : List ℕ) (p : ArrayData) (kids : Roses ArrayData) (w : DictionaryValues) (k : ℕ) → p.dictionary ≡ Some w
    → is_null (bytes_of body p.validity) k ≡ false → IsValid (cell body (node p kids) k)
    → IsValid (coded_by p.layout w.values (bytes_of body p.values) k)
encoded-valid body p kids w k e there good = subst IsValid (encoded-slot body p kids w k e there) good

-- the value at an index is the slot's cell, whether it is null or valid

indexed-slot :
    (body : List ℕ) (p : ArrayData) (kids : Roses ArrayData) (d : DictionaryValues) (w : IntWidth) (s : Bool)
    (values : List Datum) (k : ℕ) → p.layout ≡ Int w s → p.dictionary ≡ Some d → d.values ≡ values
    → is_null (bytes_of body p.validity) k ≡ false
    → cell body (node p kids) k ≡ coded_by (Int w s) values (bytes_of body p.values) k
indexed-slot body p kids d w s values k is e same there =
    encoded-slot body p kids d k e there
    ∙ ap (λ ds. coded_by p.layout ds (bytes_of body p.values) k) same
    ∙ ap (λ l. coded_by l values (bytes_of body p.values) k) is

valid-cell : (r : Option (Bor Datum)) (m n : Reading Datum) → n ≡ m → (IsValid m → cell_of r ≡ cell_in m) → IsValid n
    → cell_of r ≡ cell_in n
valid-cell r m n is found good = found (subst IsValid is good) ∙ sym (ap cell_in is)

-- what reads the value in slot k, as a function of its index
abbrev Finds : IntWidth → List Datum → List ℕ → List ℕ → ℕ → Option (Bor Datum) → Type 0
Finds w values bits indices k r =
    (is_null bits k ≡ true → cell_of r ≡ null)
    × (is_null bits k ≡ false → (s : Bool) → IsValid (coded_by (Int w s) values indices k)
    → cell_of r ≡ cell_in (coded_by (Int w s) values indices k))

cell-by :
    (b : Bool) (body : List ℕ) (p : ArrayData) (kids : Roses ArrayData) (d : DictionaryValues) (w : IntWidth)
    (s : Bool) (values : List Datum) (k : ℕ) (r : Option (Bor Datum)) → p.layout ≡ Int w s → p.dictionary ≡ Some d
    → d.values ≡ values → is_null (bytes_of body p.validity) k ≡ b → IsValid (cell body (node p kids) k)
    → Finds w values (bytes_of body p.validity) (bytes_of body p.values) k r
    → cell_of r ≡ cell_in (cell body (node p kids) k)
cell-by true body p kids d w s values k r is e same here good finds =
    finds.0 here ∙ sym (ap cell_in (null-cell body p kids k here))
cell-by false body p kids d w s values k r is e same here good finds =
    valid-cell r (coded_by (Int w s) values (bytes_of body p.values) k) (cell body (node p kids) k)
    (indexed-slot body p kids d w s values k is e same here) (finds.1 here s) good

pub indexed-cell :
    (w : IntWidth) (values : List Datum) (range : SlotRange) (bits indices : List ℕ) (k : ℕ) (r : Option (Bor Datum))
    → IsIndexed w values range → bits ≡ bytes_of range.parts.body.now range.parts.own.now.validity
    → indices ≡ bytes_of range.parts.body.now range.parts.own.now.values → range.from ≤ k → k < range.to
    → (is_null bits k ≡ true → cell_of r ≡ null)
    → (is_null bits k ≡ false → (s : Bool) → IsValid (coded_by (Int w s) values indices k)
    → cell_of r ≡ cell_in (coded_by (Int w s) values indices k))
    → cell_of r ≡ cell_in (cell range.parts.body.now (node range.parts.own.now (kids_of range.parts.children.now)) k)
indexed-cell w values range bits indices k r indexed at lie from below missing found =
    let body = range.parts.body.now in
    let p = range.parts.own.now in
    let Q : List ℕ → Type 0 = λ ys. Finds w values ys indices k r in
    let R : List ℕ → Type 0 = λ ys. Finds w values (bytes_of body p.validity) ys k r in
    cell-by (is_null (bytes_of body p.validity) k) body p (kids_of range.parts.children.now) indexed.encoded.0 w
    indexed.layout.0 values k r indexed.layout.1 indexed.encoded.1.0 indexed.encoded.1.1 refl
    (indexed.checked.valid k from below) (subst R lie (subst Q at (missing, found)))

-- there is an index in each of the slots
pub indexed-room :
    (w : IntWidth) (values : List Datum) (range : SlotRange) (indices : List ℕ) (k : ℕ) → IsIndexed w values range
    → indices ≡ bytes_of range.parts.body.now range.parts.own.now.values → k < range.to
    → bytes_in w * (k + 1) ≤ length indices
indexed-room w values range indices k indexed lie below =
    let in_array = indexed.checked.within in
    numbers-room range.parts.own.now.layout indices w indexed.layout.0 (k + 1)
    (index_rooms range.parts.body.now range.parts.own.now (kids_of range.parts.children.now) indices (k + 1)
    indexed.checked.sound lie (omega (arith, below, in_array))) indexed.layout.1

-- slot after slot

pub encoded-step :
    (read : ℕ → Reading Datum) (i to : ℕ) (r : Option (Bor Datum)) (made next : List (Option (Bor Datum))) (total :
    List Datum) → i < to
    → cell_of r ≡ cell_in (read i) → next ≡ made ++ r ∷ [] → cells_of made ++ slots read i (to - i) ≡ total
    → cells_of next ++ slots read (i + 1) (to - (i + 1)) ≡ total
encoded-step read i to r made next total h e n is =
    let rest = slots read (i + 1) (to - (i + 1)) in
    ap (λ xs. cells_of xs ++ rest) n ∙ ap (λ xs. xs ++ rest) (map-append cell_of made (r ∷ []))
    ∙ append_assoc (cells_of made) (cell_of r ∷ []) rest ∙ ap (λ d. cells_of made ++ d ∷ rest) e
    ∙ ap (λ xs. cells_of made ++ xs) (sym (slots-next read i to h)) ∙ is

pub encoded-over :
    (read : ℕ → Reading Datum) (i to : ℕ) (made total : List Datum) → to ≤ i → made ++ slots read i (to - i) ≡ total
    → made ≡ total
encoded-over read i to made total h is =
    sym (append-nil made) ∙ ap (λ xs. made ++ xs) (sym (slots-none read i to h)) ∙ is

-- segment after segment
