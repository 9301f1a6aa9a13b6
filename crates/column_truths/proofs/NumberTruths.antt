-- Truths of whole numbers, from those of their bits.
use Rattle.std.proofs.Common.{◌≡◌, ℕ, ℤ, zero, suc, ◌+◌, ◌*◌, ◌<◌, ◌^◌, List, [], ◌∷◌, Ok, Some, None, drop, take, get_or, refl, ap, sym, subst, ◌∙◌, arith}
use Rattle.std.specs.Prelude.{Bool, Option, if◌then◌else◌, map, slice_index}
use Rattle.std.specs.List.{range_with_len}
use Rattle.std.specs.Ordering.{int_cmp}
use Rattle.std.proofs.lemmas.List.{get_or-drop, get_or-map, length-map}
use Rattle.std.proofs.lemmas.List.FromFn.{fill_by_all}
use Rattle.std.proofs.lemmas.Option.{get_or_from_slice_get}
use Rattle.byteorder.specs.Numbers.{little_from-lt}
use Rattle.bitmaps.specs.Truths.{Truth, truth_by, truths_by}
use Rattle.values.specs.Datum.{Datum, null, whole}
use Rattle.values.specs.Reading.{Reading, IsValid}
use Rattle.values.specs.Rose.{Rose, node, Roses}
use Rattle.values.specs.Layouts.{bytes_in}
use Rattle.values.specs.declared.layout.IntWidth.{IntWidth}
use Rattle.values.specs.declared.layout.IntWidth.TheVariants as int
use Rattle.values.specs.declared.layout.Layout.{Layout}
use Rattle.values.specs.declared.layout.Layout.TheVariants.{Int}
use Rattle.values.proofs.Readings.{valid_Ok}
use Rattle.array_layout.specs.declared.array.ArrayData.{ArrayData}
use Rattle.array_layout.specs.declared.array.DictionaryValues.{DictionaryValues}
use Rattle.array_layout.specs.Placing.{bytes_of}
use Rattle.array_layout.specs.Buffers.{is_null, number_at, number_by, unsigned_at}
use Rattle.array_layout.specs.Cells.{cell, cell_by, cells, first_cell, row, slot_by, value_by}
use Rattle.arrays.specs.Checked.{valid_of}
use Rattle.arrays.proofs.ColumnCells.{cell-valid, cell-stands, cells-length}
use Rattle.view_lang.specs.Truth.{compared, holds}
use Rattle.view_lang.specs.declared.filter.Comparison.{Comparison}
use Rattle.column_truths.specs.declared.spans.Span.{Span}
use Rattle.column_truths.specs.Compared.{compared_with}
use Rattle.column_truths.specs.Spans.{nulls_by, numbers_in, passes_span, passing_span}
use Rattle.column_truths.proofs.CodeLemmas.{by_null}

-- bytes are below 256 also in a part
small_take : (n : ℕ) (bytes : List ℕ) → ((k : ℕ) → slice_index bytes k < 256) → (k : ℕ) → slice_index (take n bytes) k < 256
small_take zero bytes small k = omega arith
small_take (suc n) [] small k = omega arith
small_take (suc n) (x ∷ bytes) small zero = small 0
small_take (suc n) (x ∷ bytes) small (suc k) = small_take n bytes (λ j. small (suc j)) k

small_drop : (n : ℕ) (bytes : List ℕ) → ((k : ℕ) → slice_index bytes k < 256) → (k : ℕ) → slice_index (drop n bytes) k < 256
small_drop n bytes small k =
    let P : ℕ → Type 0 = λ x. x < 256 in subst P (sym (get_or-drop n bytes k 0)) (small (n + k))

-- the bits of a number are within its width
pub unsigned_small : (w : IntWidth) (bytes : List ℕ) (i : ℕ) → ((k : ℕ) → slice_index bytes k < 256)
    → unsigned_at (bytes_in w) bytes i < numbers_in w
unfolding unsigned_at
unsigned_small w bytes i small =
    by w (little_from-lt 0 (bytes_in w) (drop (bytes_in w * i) bytes) (small_drop (bytes_in w * i) bytes small)) where
      by : {n : ℕ} (v : IntWidth) → n < 256 ^ bytes_in v → n < numbers_in v
      by int.Bits8 h = h
      by int.Bits16 h = h
      by int.Bits32 h = h
      by int.Bits64 h = h

-- two bitmaps, slot by slot
both_mapped : (f g : ℕ → Bool) (xs : List ℕ) → truths_by (map f xs) (map g xs) ≡ map (λ i. truth_by (f i) (g i)) xs
unfolding truths_by
both_mapped f g [] = refl
both_mapped f g (x ∷ xs) = ap (λ ts. truth_by (f x) (g x) ∷ ts) (both_mapped f g xs)

-- a slot that isn't null, of an array without a dictionary

plain_truth : (l : Layout) (w : IntWidth) (s : Bool) (c : Comparison) (k : ℤ) (body : List ℕ) (p : ArrayData)
    (item : ℕ → Reading Datum) (children : ℕ → Reading (List Datum)) (i : ℕ) (d : Datum)
    → l ≡ Int w s → value_by l body p item children i ≡ Ok d
    → compared c d (whole k) ≡ Some (holds c (int_cmp (number_at s (bytes_in w) (bytes_of body p.values) i) k))
plain_truth l w s c k body p item children i d is read =
    let P : Layout → Type 0 = λ m. value_by m body p item children i ≡ Ok d in
    let z = number_at s (bytes_in w) (bytes_of body p.values) i in
    let here : value_by (Int w s) body p item children i ≡ Ok d = subst P is read in
    let same : whole z ≡ d = cc in
    ap (λ e. compared c e (whole k)) (sym same)

slot_truth : (o : Option DictionaryValues) (w : IntWidth) (s : Bool) (c : Comparison) (k : ℤ) (body : List ℕ)
    (p : ArrayData) (item : ℕ → Reading Datum) (children : ℕ → Reading (List Datum)) (i : ℕ) (d : Datum)
    → o ≡ None → p.layout ≡ Int w s → slot_by o body p item children i ≡ Ok d
    → compared c d (whole k) ≡ Some (holds c (int_cmp (number_at s (bytes_in w) (bytes_of body p.values) i) k))
slot_truth o w s c k body p item children i d has is read =
    let P : Option DictionaryValues → Type 0 = λ m. slot_by m body p item children i ≡ Ok d in
    plain_truth p.layout w s c k body p item children i d is (subst P has read)

-- the numbers for which the comparison holds are those of the span
abbrev pub IsSpanOf : Comparison → ℤ → IntWidth → Bool → Span → Type 0
IsSpanOf c k w s span =
    (u : ℕ) → u < numbers_in w → holds c (int_cmp (number_by s (bytes_in w) u) k) ≡ passes_span w span u

number_taken : (c : Comparison) (k : ℤ) (w : IntWidth) (s : Bool) (span : Span) (bytes : List ℕ) (i : ℕ)
    → IsSpanOf c k w s span → ((j : ℕ) → slice_index bytes j < 256)
    → holds c (int_cmp (number_at s (bytes_in w) bytes i) k) ≡ passes_span w span (unsigned_at (bytes_in w) bytes i)
unfolding number_at
number_taken c k w s span bytes i value small =
    value (unsigned_at (bytes_in w) bytes i) (unsigned_small w bytes i small)

cell_truth : (body : List ℕ) (p : ArrayData) (kids : Roses ArrayData) (w : IntWidth) (s : Bool) (c : Comparison) (k : ℤ)
    (span : Span) (i : ℕ) (d : Datum)
    → p.dictionary ≡ None → p.layout ≡ Int w s → IsSpanOf c k w s span
    → ((j : ℕ) → slice_index (bytes_of body p.values) j < 256) → cell body (node p kids) i ≡ Ok d
    → compared c d (whole k)
    ≡ truth_by (passes_span w span (unsigned_at (bytes_in w) (bytes_of body p.values) i)) (is_null (bytes_of body p.validity) i)
unfolding cell_by
cell_truth body p kids w s c k span i d has is value small read =
    let z = number_at s (bytes_in w) (bytes_of body p.values) i in
    by_null (is_null (bytes_of body p.validity) i)
    (slot_by p.dictionary body p (λ j. first_cell body kids j) (λ j. row body kids j) i) c (whole k) d
    (Some (holds c (int_cmp z k))) read
    (slot_truth p.dictionary w s c k body p (λ j. first_cell body kids j) (λ j. row body kids j) i d has is)
    ∙ ap (λ b. if is_null (bytes_of body p.validity) i then None else Some b)
    (number_taken c k w s span (bytes_of body p.values) i value small)

-- all slots
pub numbers_compared : (body bits values : List ℕ) (p : ArrayData) (kids : Roses ArrayData) (w : IntWidth) (s : Bool)
    (c : Comparison) (k : ℤ) (span : Span) (known unknown : List Bool)
    → IsValid (cells body (node p kids)) → p.dictionary ≡ None → p.layout ≡ Int w s
    → bits ≡ bytes_of body p.validity → values ≡ bytes_of body p.values → IsSpanOf c k w s span
    → ((j : ℕ) → slice_index body j < 256)
    → known ≡ passing_span w span values p.len → unknown ≡ nulls_by bits p.len
    → truths_by known unknown ≡ compared_with c (whole k) (valid_of (cells body (node p kids)))
unfolding passing_span nulls_by
numbers_compared body bits values p kids w s c k span known unknown valid has is eb ev value small ek eu =
    let t : Rose ArrayData = node p kids in
    let ds = valid_of (cells body t) in
    let f : Datum → Truth = λ d. compared c d (whole k) in
    let all = cells-length body t valid in
    let T : List ℕ → ℕ → Bool = λ xs i. passes_span w span (unsigned_at (bytes_in w) xs i) in
    let F : ℕ → Truth = λ i. truth_by (T (bytes_of body p.values) i) (is_null (bytes_of body p.validity) i) in
    let bytes_small : (j : ℕ) → slice_index (bytes_of body p.values) j < 256 =
    small_take _ _ (small_drop _ body small) in
    let each : (i : ℕ) → i < p.len → get_or (compared_with c (whole k) ds) i (f null) ≡ F i =
    λ i below.
    let read = valid_Ok (cell body t i) (cell-valid body t i valid below) in
    let stands = cell-stands body t i read.0 valid below read.1 in
    get_or-map f ds i null (f null) (omega (arith, below, all))
    ∙ ap f (get_or_from_slice_get ds i read.0 null stands)
    ∙ cell_truth body p kids w s c k span i read.0 has is value bytes_small read.1 in
    ap (λ ks. truths_by ks unknown) ek
    ∙ ap (truths_by (map (T values) (range_with_len 0 p.len))) eu
    ∙ both_mapped (T values) (is_null bits) (range_with_len 0 p.len)
    ∙ ap (λ xs. map (λ i. truth_by (T xs i) (is_null bits i)) (range_with_len 0 p.len)) ev
    ∙ ap (λ xs. map (λ i. truth_by (T (bytes_of body p.values) i) (is_null xs i)) (range_with_len 0 p.len)) eb
    ∙ sym (fill_by_all F (compared_with c (whole k) ds) p.len (f null) (length-map ds f ∙ all) each)
