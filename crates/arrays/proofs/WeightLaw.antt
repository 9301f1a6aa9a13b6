-- The weight of a cell where it lies is the weight of its value.
use Rattle.std.proofs.Common.{
  ◌≡◌,
  ℕ,
  zero,
  suc,
  List,
  [],
  ◌+◌,
  ◌-◌,
  ◌<◌,
  ◌≤◌,
  length,
  drop,
  refl,
  ap,
  sym,
  subst,
  arith,
  length-drop,
}
use Rattle.std.specs.Prelude.{Option, None, Some, Ok, Bool, true, false, if◌then◌else◌}
use Rattle.values.specs.Reading.{Reading, cons, each}
use Rattle.values.proofs.Readings.{both_Ok, mapped_Ok}
use Rattle.values.specs.Rose.{Rose, node, Roses, none, more}
use Rattle.values.specs.Datum.{Datum, null, truth, whole, bytes, list, structure, items_of}
use Rattle.values.specs.declared.layout.OffsetWidth.{OffsetWidth}
use Rattle.values.specs.declared.layout.Layout.{Layout}
use Rattle.values.specs.declared.layout.Layout.TheVariants.{
  Bool as Booleans,
  Int,
  Decimal,
  FixedSizeBinary,
  Utf8,
  Binary,
  List as Listed,
  Struct,
}
use Rattle.values.specs.Layouts.{bytes_in, IsNode, null_weight, weight, items_weight, row_weight}
use Rattle.bitmaps.specs.Bits.{bit_at}
use Rattle.array_layout.specs.declared.array.DictionaryValues.{DictionaryValues}
use Rattle.array_layout.specs.declared.array.ArrayData.{ArrayData}
use Rattle.array_layout.specs.Placing.{bytes_of, layout_by, layout_of, layouts_of}
use Rattle.array_layout.specs.Buffers.{is_null, number_at, slice_at, fixed_at, offset_at}
use Rattle.array_layout.specs.Sound.{first_len, HasRoom, AreFit, AreLong, IsSound, AreSound}
use Rattle.array_layout.specs.Cells.{cell, first_cell, row, cell_by, slot_by, value_by, items_at, len_of}
use Rattle.arrays.proofs.DictionaryLemmas.{coded_weighs}
use Rattle.arrays.specs.Weights.{
  extent,
  sum_from,
  weight_by,
  slot_weight,
  weight_in,
  weight_at,
  first_weight,
  weight_beside,
}
use Rattle.arrays.proofs.ValidationLemmas.{text_fit, bytes_fit, struct_long, and_rest}
use Rattle.arrays.proofs.TypeLemmas.{text_holds, decimal_holds, first_is, first_long, some_child, length_take}

-- a null, and a value without bytes or items, weigh their slot
null_weighs : (t : Rose Layout) → null_weight t ≡ weight t null
null_weighs (node Booleans kids) = refl
null_weighs (node (Int w s) kids) = refl
null_weighs (node (Decimal p) kids) = refl
null_weighs (node (FixedSizeBinary w) kids) = refl
null_weighs (node (Utf8 o) kids) = refl
null_weighs (node (Binary o) kids) = refl
null_weighs (node (Listed o) kids) = refl
null_weighs (node Struct kids) = refl

slice_length :
    (b : List ℕ) (p : ArrayData) (o : OffsetWidth) (i : ℕ) → p.values.from + p.values.len ≤ length b → i < p.len
    → AreFit o (bytes_of b p.offsets) p.len p.values.len
    → extent o (bytes_of b p.offsets) i ≡ length (slice_at o (bytes_of b p.offsets) (bytes_of b p.values) i)
unfolding slice_at
slice_length b p o i lies below fit =
    let from : ℕ = offset_at o (bytes_of b p.offsets) i in
    let to : ℕ = offset_at o (bytes_of b p.offsets) (i + 1) in
    let within : to ≤ p.values.len = fit.within i below in
    let body_rest : length (drop p.values.from b) ≡ length b - p.values.from = length-drop p.values.from b in
    let many : ℕ = p.values.from + p.values.len - p.values.from in
    let all : length (bytes_of b p.values) ≡ many =
    length_take many (drop p.values.from b) (omega (arith, lies, body_rest)) in
    let rest : length (drop from (bytes_of b p.values)) ≡ length (bytes_of b p.values) - from =
    length-drop from (bytes_of b p.values) in
    sym (length_take (to - from) (drop from (bytes_of b p.values)) (omega (arith, within, all, rest)))

items_sum :
    (f : ℕ → Reading Datum) (g : ℕ → ℕ) (t : Rose Layout) (ts : Roses Layout) (i n m : ℕ) (ds : List Datum) → i + n ≤ m
    → ((j : ℕ) (d : Datum) → j < m → f j ≡ Ok d → g j ≡ weight t d) → each f i n ≡ Ok ds
    → sum_from g i n ≡ items_weight (more t ts) (items_of ds)
unfolding each sum_from
items_sum f g t ts i zero m ds within weighed read =
    let P : List Datum → Type 0 = λ es. 0 ≡ items_weight (more t ts) (items_of es) in
    let same : [] ≡ ds = cc in
    subst P same refl
items_sum f g t ts i (suc n) m ds within weighed read =
    let parts = both_Ok cons (f i) (each f (i + 1) n) ds read in
    let P : List Datum → Type 0 = λ es. g i + sum_from g (i + 1) n ≡ items_weight (more t ts) (items_of es) in
    let rest : sum_from g (i + 1) n ≡ items_weight (more t ts) (items_of parts.1) =
    items_sum f g t ts (i + 1) n m parts.1 (omega (arith, within)) weighed parts.3 in
    let here : g i ≡ weight t parts.0 = weighed i parts.0 (omega (arith, within)) parts.2 in
    subst P parts.4 (omega (arith, here, rest))

abbrev WeighedItems : List ℕ → Roses ArrayData → Type 0
WeighedItems b none = Unit {0}
WeighedItems b (more t ts) = (j : ℕ) (d : Datum) → j < len_of t → cell b t j ≡ Ok d
    → weight_at b t j ≡ weight (layout_of t) d

items_weighed :
    (b : List ℕ) (p : ArrayData) (kids : Roses ArrayData) (o : OffsetWidth) (i : ℕ) (ds : List Datum) → i < p.len
    → (0 < p.len → AreFit o (bytes_of b p.offsets) p.len (first_len kids)) → WeighedItems b kids → (kids ≡ none → ⊥)
    → items_at (λ j. first_cell b kids j) o (bytes_of b p.offsets) i ≡ Ok ds
    → sum_from (λ j. first_weight b kids j) (offset_at o (bytes_of b p.offsets) i) (extent o (bytes_of b p.offsets) i)
    ≡ items_weight (layouts_of kids) (items_of ds)
items_weighed b p none o i ds below fit weighed some read = absurd (some refl)
items_weighed b p (more t ts) o i ds below fit weighed some read =
    let offsets : List ℕ = bytes_of b p.offsets in
    let facts : AreFit o offsets p.len (first_len (more t ts)) = fit (omega (arith, below)) in
    let rising : offset_at o offsets i ≤ offset_at o offsets (i + 1) = facts.rising i below in
    let within : offset_at o offsets (i + 1) ≤ len_of t =
    subst (λ (n : ℕ). offset_at o offsets (i + 1) ≤ n) (first_is t ts) (facts.within i below) in
    items_sum (cell b t) (weight_at b t) (layout_of t) (layouts_of ts) (offset_at o offsets i) (extent o offsets i)
    (len_of t) ds
    (omega (arith, rising, within)) weighed read

abbrev bare : Layout → Roses ArrayData → ℕ
bare l kids = null_weight (node l (layouts_of kids))

abbrev weight_here : Layout → List ℕ → ArrayData → Roses ArrayData → ℕ → ℕ
weight_here l b p kids i = weight_by l b p (bare l kids) (λ j. first_weight b kids j) (λ j. weight_beside b kids j) i

value_weighs :
    (l : Layout) (b : List ℕ) (p : ArrayData) (kids : Roses ArrayData) (i : ℕ) (d : Datum) → p.layout ≡ l
    → IsSound b (node p kids) → i < p.len
    → WeighedItems b kids
    → ((ds : List Datum) → AreLong Struct (i + 1) kids → row b kids i ≡ Ok ds
    → weight_beside b kids i ≡ row_weight (layouts_of kids) (items_of ds))
    → value_by l b p (λ j. first_cell b kids j) (λ j. row b kids j) i ≡ Ok d
    → weight_here l b p kids i ≡ weight (node l (layouts_of kids)) d
value_weighs Booleans b p kids i d is sound below weighed rows read =
    let same : truth (bit_at (bytes_of b p.values) i) ≡ d = cc in
    subst (λ (e : Datum). bare Booleans kids ≡ weight (node Booleans (layouts_of kids)) e) same refl
value_weighs (Int w s) b p kids i d is sound below weighed rows read =
    let same : whole (number_at s (bytes_in w) (bytes_of b p.values) i) ≡ d = cc in
    subst (λ (e : Datum). bare (Int w s) kids ≡ weight (node (Int w s) (layouts_of kids)) e) same refl
value_weighs (Decimal n) b p kids i d is sound below weighed rows read =
    let facts = decimal_holds n (number_at true 16 (bytes_of b p.values) i) d read in
    subst (λ (e : Datum). bare (Decimal n) kids ≡ weight (node (Decimal n) (layouts_of kids)) e) facts.0 refl
value_weighs (FixedSizeBinary w) b p kids i d is sound below weighed rows read =
    let same : bytes (fixed_at w (bytes_of b p.values) i) ≡ d = cc in
    subst (λ (e : Datum). bare (FixedSizeBinary w) kids ≡ weight (node (FixedSizeBinary w) (layouts_of kids)) e) same
    refl
value_weighs (Utf8 o) b p kids i d is sound below weighed rows read =
    let facts = text_holds (slice_at o (bytes_of b p.offsets) (bytes_of b p.values) i) d read in
    let long = slice_length b p o i sound.0.own.values below (text_fit b p kids o i sound is below) in
    subst (λ (e : Datum). 5 + extent o (bytes_of b p.offsets) i ≡ weight (node (Utf8 o) (layouts_of kids)) e) facts.0
    (ap (λ n. 5 + n) long)
value_weighs (Binary o) b p kids i d is sound below weighed rows read =
    let same : bytes (slice_at o (bytes_of b p.offsets) (bytes_of b p.values) i) ≡ d = cc in
    let long = slice_length b p o i sound.0.own.values below (bytes_fit b p kids o i sound is below) in
    subst (λ (e : Datum). 5 + extent o (bytes_of b p.offsets) i ≡ weight (node (Binary o) (layouts_of kids)) e) same
    (ap (λ n. 5 + n) long)
value_weighs (Listed o) b p kids i d is sound below weighed rows read =
    let parts =
    mapped_Ok (λ ds. list (items_of ds)) (items_at (λ j. first_cell b kids j) o (bytes_of b p.offsets) i) d read in
    let P : Layout → Type 0 = λ l. HasRoom l b p (first_len kids) in
    let N : Layout → Type 0 = λ l. IsNode l (layouts_of kids) in
    subst (λ (e : Datum). weight_here (Listed o) b p kids i ≡ weight (node (Listed o) (layouts_of kids)) e) parts.2
    (ap (λ n. 5 + n)
    (items_weighed b p kids o i parts.0 below (subst P is sound.0.room) weighed
    (some_child o kids (subst N is sound.0.own.kids_fit)) parts.1))
value_weighs Struct b p kids i d is sound below weighed rows read =
    let parts = mapped_Ok (λ ds. structure (items_of ds)) (row b kids i) d read in
    subst (λ (e : Datum). weight_here Struct b p kids i ≡ weight (node Struct (layouts_of kids)) e) parts.2
    (ap (λ n. 1 + n) (rows parts.0 (struct_long b p kids i sound is below) parts.1))

encoded_or_plain :
    (o : Option DictionaryValues) (b : List ℕ) (p : ArrayData) (kids : Roses ArrayData) (i : ℕ) (d : Datum)
    → IsSound b (node p kids) → i < p.len → WeighedItems b kids
    → ((ds : List Datum) → AreLong Struct (i + 1) kids → row b kids i ≡ Ok ds
    → weight_beside b kids i ≡ row_weight (layouts_of kids) (items_of ds))
    → slot_by o b p (λ j. first_cell b kids j) (λ j. row b kids j) i ≡ Ok d
    → slot_weight o b p (bare (layout_by o p.layout) kids) (λ j. first_weight b kids j) (λ j. weight_beside b kids j) i
    ≡ weight (node (layout_by o p.layout) (layouts_of kids)) d
encoded_or_plain None b p kids i d sound below weighed rows read =
    value_weighs p.layout b p kids i d refl sound below weighed rows read
encoded_or_plain (Some w) b p kids i d sound below weighed rows read =
    coded_weighs p.layout w (bytes_of b p.values) i d (layouts_of kids) read sound.0.own.kids_fit

slot_weighs :
    (n : Bool) (t : Rose Layout) (m : Reading Datum) (w : ℕ) (d : Datum) → (m ≡ Ok d → w ≡ weight t d)
    → (if n then Ok null else m) ≡ Ok d
    → (if n then null_weight t else w) ≡ weight t d
slot_weighs true t m w d h e = let same : null ≡ d = cc in
    subst (λ (x : Datum). null_weight t ≡ weight t x) same (null_weighs t)
slot_weighs false t m w d h e = h e

mutual
  unfolding cell_by weight_in

  pub cell_weighs :
      (b : List ℕ) (t : Rose ArrayData) (i : ℕ) (d : Datum) → IsSound b t → i < len_of t → cell b t i ≡ Ok d
      → weight_at b t i ≡ weight (layout_of t) d
  cell_weighs b (node p kids) i d sound below read =
      slot_weighs (is_null (bytes_of b p.validity) i) (node (layout_by p.dictionary p.layout) (layouts_of kids))
      (slot_by p.dictionary b p (λ j. first_cell b kids j) (λ j. row b kids j) i)
      (slot_weight p.dictionary b p (bare (layout_by p.dictionary p.layout) kids) (λ j. first_weight b kids j)
      (λ j. weight_beside b kids j) i) d
      (λ e. encoded_or_plain p.dictionary b p kids i d sound below (items_weigh b kids sound.2)
      (λ ds long. row_weighs b kids i ds sound.2 long) e) read

  items_weigh : (b : List ℕ) (kids : Roses ArrayData) → AreSound b kids → WeighedItems b kids
  items_weigh b none sound = tt
  items_weigh b (more t ts) sound = λ j d below. cell_weighs b t j d sound.0 below

  row_weighs :
      (b : List ℕ) (kids : Roses ArrayData) (i : ℕ) (ds : List Datum) → AreSound b kids → AreLong Struct (i + 1) kids
      → row b kids i ≡ Ok ds
      → weight_beside b kids i ≡ row_weight (layouts_of kids) (items_of ds)
  row_weighs b none i ds sound long read =
      let same : [] ≡ ds = cc in subst (λ (es : List Datum). 0 ≡ row_weight none (items_of es)) same refl
  row_weighs b (more t ts) i ds sound long read =
      let parts = both_Ok cons (cell b t i) (row b ts i) ds read in
      let below : i < len_of t = first_long i t ts long in
      let here : weight_at b t i ≡ weight (layout_of t) parts.0 = cell_weighs b t i parts.0 sound.0 below parts.2 in
      let beside : weight_beside b ts i ≡ row_weight (layouts_of ts) (items_of parts.1) =
      row_weighs b ts i parts.1 sound.1 (and_rest (i + 1) t ts long) parts.3 in
      subst (λ (es : List Datum). weight_at b t i + weight_beside b ts i ≡ row_weight
      (more (layout_of t) (layouts_of ts)) (items_of es)) parts.4
      (omega (arith, here, beside))

pub ruleset weights = (cell_weighs)
