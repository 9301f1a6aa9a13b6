-- The value of a slot is one that its layout holds.
use Rattle.std.proofs.Common.{
  ◌≡◌,
  ◌⊎◌,
  inl,
  inr,
  ℕ,
  ℤ,
  pos,
  zero,
  suc,
  List,
  [],
  ◌∷◌,
  ◌+◌,
  ◌*◌,
  ◌-◌,
  ◌^◌,
  ◌<◌,
  ◌≤◌,
  ◌≤ℤ◌,
  ◌<ℤ◌,
  ◌-ℤ◌,
  neg_ℤ,
  length,
  drop,
  take,
  refl,
  ap,
  sym,
  subst,
  arith,
  length-drop,
}
use Rattle.std.specs.Prelude.{
  Result,
  Option,
  None,
  Some,
  Ok,
  Err,
  IfOk,
  Bool,
  true,
  false,
  if◌then◌else◌,
  nat_lt,
  nat_abs,
  slice_index,
  slice_range,
}
use Rattle.std.proofs.lemmas.List.{get_or-drop}
use Rattle.arrays.proofs.ValidationLemmas.{struct_long, at_least, and_rest}
use Rattle.arrays.proofs.CopyLemmas.{fixed_room}
use Rattle.std.specs.Str.{is_utf8}
use Rattle.bitmaps.specs.Bits.{bit_at}
use Rattle.byteorder.specs.Numbers.{little_from-lt}
use Rattle.values.specs.declared.faults.StreamFault.TheVariants as fault
use Rattle.values.specs.Reading.{Reading, one, cons, each}
use Rattle.values.proofs.Readings.{both_Ok, mapped_Ok}
use Rattle.values.specs.Rose.{Rose, node, Roses, none, more}
use Rattle.values.specs.Datum.{Datum, null, truth, whole, text, bytes, list, structure, items_of}
use Rattle.values.specs.declared.layout.IntWidth.{IntWidth}
use Rattle.values.specs.declared.layout.IntWidth.TheVariants as int
use Rattle.values.specs.declared.layout.OffsetWidth.{OffsetWidth}
use Rattle.values.specs.declared.layout.Layout.{Layout}
use Rattle.values.specs.declared.layout.Layout.TheVariants.{
  Bool as Booleans,
  Int,
  Decimal,
  FixedSizeBinary,
  Utf8,
  Binary,
  List as Listed,
  Struct,
}
use Rattle.values.specs.Layouts.{bytes_in, IsNode, FitsIn, Holds, HoldsAll, HoldsEach}
use Rattle.array_layout.specs.declared.array.DictionaryValues.{DictionaryValues}
use Rattle.array_layout.specs.declared.array.ArrayData.{ArrayData}
use Rattle.array_layout.specs.Placing.{bytes_of, layout_by, layout_of, layouts_of}
use Rattle.array_layout.specs.Buffers.{number_at, number_by, unsigned_at, slice_at, fixed_at, offset_at}
use Rattle.array_layout.specs.Sound.{first_len, HasRoom, AreFit, AreLong, IsSound, AreSound}
use Rattle.array_layout.specs.Cells.{
  cell,
  first_cell,
  row,
  cell_by,
  slot_by,
  value_by,
  items_at,
  text_of,
  decimal_of,
  len_of,
}
use Rattle.array_layout.specs.Typed.{IsTypedDictionary, IsTyped, AreTyped}
use Rattle.arrays.proofs.DictionaryLemmas.{coded_holds}

-- bytes are below 256, wherever they are read
abbrev pub AreBytes : List ℕ → Type 0
AreBytes b = (i : ℕ) → slice_index b i < 256

small_drop : (n : ℕ) (b : List ℕ) → AreBytes b → AreBytes (drop n b)
small_drop n b small = λ i. let P : ℕ → Type 0 = λ x. x < 256 in subst P (sym (get_or-drop n b i 0)) (small (n + i))

small_take : (n : ℕ) (b : List ℕ) → AreBytes b → (i : ℕ) → slice_index (take n b) i < 256
small_take zero b small i = omega arith
small_take (suc n) [] small i = omega arith
small_take (suc n) (x ∷ b) small zero = small 0
small_take (suc n) (x ∷ b) small (suc i) = small_take n b (λ j. small (suc j)) i

-- numbers are within their width
halves : (n h : ℕ) → n < h + h
    → (neg_ℤ (pos h) ≤ℤ (if nat_lt n h then pos n else pos n -ℤ pos (h + h)))
    × ((if nat_lt n h then pos n else pos n -ℤ pos (h + h)) <ℤ pos h)
halves n h small = (grind arith, grind arith)

unsigned : (n m : ℕ) → n < m → (pos 0 ≤ℤ pos n) × (pos n <ℤ pos m)
unsigned n m small = (grind arith, grind arith)

number_fits : (w : IntWidth) (s : Bool) (n : ℕ) → n < 256 ^ bytes_in w
    → FitsIn s (bytes_in w) (number_by s (bytes_in w) n)
number_fits int.Bits8 true n h = halves n (2 ^ 7) (omega (arith, h))
number_fits int.Bits16 true n h = halves n (2 ^ 15) (omega (arith, h))
number_fits int.Bits32 true n h = halves n (2 ^ 31) (omega (arith, h))
number_fits int.Bits64 true n h = halves n (2 ^ 63) (omega (arith, h))
number_fits int.Bits8 false n h = unsigned n _ h
number_fits int.Bits16 false n h = unsigned n _ h
number_fits int.Bits32 false n h = unsigned n _ h
number_fits int.Bits64 false n h = unsigned n _ h

slot_fits :
    (w : IntWidth) (s : Bool) (b : List ℕ) (p : ArrayData) (i : ℕ) → AreBytes b
    → FitsIn s (bytes_in w) (number_at s (bytes_in w) (bytes_of b p.values) i)
unfolding number_at unsigned_at
slot_fits w s b p i small =
    let values : AreBytes (bytes_of b p.values) = small_take _ _ (small_drop _ b small) in
    number_fits w s _ (little_from-lt 0 (bytes_in w) _ (small_drop (bytes_in w * i) (bytes_of b p.values) values))

-- what a valid reading of a slot says of its value
nullable : (t : Rose Layout) → Holds t null
nullable (node Booleans kids) = tt
nullable (node (Int w s) kids) = tt
nullable (node (Decimal p) kids) = tt
nullable (node (FixedSizeBinary w) kids) = tt
nullable (node (Utf8 o) kids) = tt
nullable (node (Binary o) kids) = tt
nullable (node (Listed o) kids) = tt
nullable (node Struct kids) = tt

pub text_holds : (t : List ℕ) (d : Datum) → text_of t ≡ Ok d → (text t ≡ d) × (is_utf8 t ≡ true)
text_holds t d read = by_cases (is_utf8 t) read where
  by_cases : (u : Bool) → (if u then Ok (text t) else Err (one fault.NotUtf8)) ≡ Ok d → (text t ≡ d) × (u ≡ true)
  by_cases true e = (cc, refl)
  by_cases false e = cc

pub decimal_holds : (p : ℕ) (z : ℤ) (d : Datum) → decimal_of p z ≡ Ok d → (whole z ≡ d) × (nat_abs z < 10 ^ p)
decimal_holds p z d read = by_cases (nat_lt (nat_abs z) (10 ^ p)) refl read where
  by_cases :
      (u : Bool) → nat_lt (nat_abs z) (10 ^ p) ≡ u → (if u then Ok (whole z) else Err (one fault.DecimalRange)) ≡ Ok d
      → (whole z ≡ d) × (nat_abs z < 10 ^ p)
  by_cases true same e = (cc, grind arith)
  by_cases false same e = cc

-- items that are read one by one, each held by the first child
all_hold :
    (f : ℕ → Reading Datum) (t : Rose Layout) (ts : Roses Layout) (i n m : ℕ) (ds : List Datum) → i + n ≤ m
    → ((j : ℕ) (d : Datum) → j < m → f j ≡ Ok d → Holds t d) → each f i n ≡ Ok ds → HoldsAll (more t ts) (items_of ds)
unfolding each
all_hold f t ts i zero m ds within held read =
    let P : List Datum → Type 0 = λ es. HoldsAll (more t ts) (items_of es) in
    let same : [] ≡ ds = cc in
    subst P same tt
all_hold f t ts i (suc n) m ds within held read =
    let parts = both_Ok cons (f i) (each f (i + 1) n) ds read in
    let P : List Datum → Type 0 = λ es. HoldsAll (more t ts) (items_of es) in
    let rest : HoldsAll (more t ts) (items_of parts.1) =
    all_hold f t ts (i + 1) n m parts.1 (omega (arith, within)) held parts.3 in
    subst P parts.4 (held i parts.0 (omega (arith, within)) parts.2, rest)

-- the values of valid slots, by layout
abbrev HeldItems : List ℕ → Roses ArrayData → Type 0
HeldItems b none = Unit {0}
HeldItems b (more t ts) = (j : ℕ) (d : Datum) → j < len_of t → cell b t j ≡ Ok d → Holds (layout_of t) d

pub first_is : (t : Rose ArrayData) (ts : Roses ArrayData) → first_len (more t ts) ≡ len_of t
first_is (node p kids) ts = refl

items_hold :
    (b : List ℕ) (p : ArrayData) (kids : Roses ArrayData) (o : OffsetWidth) (i : ℕ) (ds : List Datum) → i < p.len
    → (0 < p.len → AreFit o (bytes_of b p.offsets) p.len (first_len kids)) → HeldItems b kids → (kids ≡ none → ⊥)
    → items_at (λ j. first_cell b kids j) o (bytes_of b p.offsets) i ≡ Ok ds → HoldsAll (layouts_of kids) (items_of ds)
items_hold b p none o i ds below fit held some read = absurd (some refl)
items_hold b p (more t ts) o i ds below fit held some read =
    let offsets : List ℕ = bytes_of b p.offsets in
    let facts : AreFit o offsets p.len (first_len (more t ts)) = fit (omega (arith, below)) in
    let rising : offset_at o offsets i ≤ offset_at o offsets (i + 1) = facts.rising i below in
    let within : offset_at o offsets (i + 1) ≤ len_of t =
    subst (λ (n : ℕ). offset_at o offsets (i + 1) ≤ n) (first_is t ts) (facts.within i below) in
    all_hold (cell b t) (layout_of t) (layouts_of ts) (offset_at o offsets i)
    (offset_at o offsets (i + 1) - offset_at o offsets i) (len_of t) ds
    (omega (arith, rising, within)) held read

pub length_take : (n : ℕ) (xs : List ℕ) → n ≤ length xs → length (take n xs) ≡ n
length_take zero xs h = refl
length_take (suc n) [] h = absurd (omega (arith, h))
length_take (suc n) (x ∷ xs) h = ap suc (length_take n xs (omega (arith, h)))

length_range : (xs : List ℕ) (i n : ℕ) → i + n ≤ length xs → length (slice_range xs i (i + n)) ≡ n
length_range xs i n h =
    let rest : length (drop i xs) ≡ length xs - i = length-drop i xs in
    let P : ℕ → Type 0 = λ k. length (take k (drop i xs)) ≡ n in
    let same : n ≡ (i + n) - i = omega arith in
    subst P same (length_take n (drop i xs) (omega (arith, h, rest)))

fixed_length :
    (w : ℕ) (b : List ℕ) (p : ArrayData) (i : ℕ) → w * i + w ≤ p.values.len → p.values.from + p.values.len ≤ length b
    → length (fixed_at w (bytes_of b p.values) i) ≡ w
unfolding fixed_at
fixed_length w b p i room lies =
    let all : length (bytes_of b p.values) ≡ p.values.len = length_range b p.values.from p.values.len lies in
    length_range (bytes_of b p.values) (w * i) w (omega (arith, room, all))

pub some_child : (o : OffsetWidth) (kids : Roses ArrayData) → IsNode (Listed o) (layouts_of kids) → kids ≡ none → ⊥
some_child o none h e = h
some_child o (more t ts) h e = cc

pub first_long : (i : ℕ) (t : Rose ArrayData) (ts : Roses ArrayData) → AreLong Struct (i + 1) (more t ts) → i < len_of t
first_long i t ts long = let most : i + 1 ≤ len_of t = at_least (i + 1) t ts long in omega (arith, most)

value_holds :
    (l : Layout) (b : List ℕ) (p : ArrayData) (kids : Roses ArrayData) (i : ℕ) (d : Datum) → p.layout ≡ l → AreBytes b
    → IsSound b (node p kids) → i < p.len
    → HeldItems b kids
    → ((ds : List Datum) → AreLong Struct (i + 1) kids → row b kids i ≡ Ok ds
    → HoldsEach (layouts_of kids) (items_of ds))
    → value_by l b p (λ j. first_cell b kids j) (λ j. row b kids j) i ≡ Ok d → Holds (node l (layouts_of kids)) d
value_holds Booleans b p kids i d is small sound below held rows read =
    let same : truth (bit_at (bytes_of b p.values) i) ≡ d = cc in
    subst (λ (e : Datum). Holds (node Booleans (layouts_of kids)) e) same tt
value_holds (Int w s) b p kids i d is small sound below held rows read =
    let same : whole (number_at s (bytes_in w) (bytes_of b p.values) i) ≡ d = cc in
    subst (λ (e : Datum). Holds (node (Int w s) (layouts_of kids)) e) same (slot_fits w s b p i small)
value_holds (Decimal n) b p kids i d is small sound below held rows read =
    let facts = decimal_holds n (number_at true 16 (bytes_of b p.values) i) d read in
    subst (λ (e : Datum). Holds (node (Decimal n) (layouts_of kids)) e) facts.0 facts.1
value_holds (FixedSizeBinary w) b p kids i d is small sound below held rows read =
    let same : bytes (fixed_at w (bytes_of b p.values) i) ≡ d = cc in
    let room : w * i + w ≤ p.values.len = fixed_room b p kids w i sound is below in
    let lies : p.values.from + p.values.len ≤ length b = sound.0.own.values in
    subst (λ (e : Datum). Holds (node (FixedSizeBinary w) (layouts_of kids)) e) same (fixed_length w b p i room lies)
value_holds (Utf8 o) b p kids i d is small sound below held rows read =
    let facts = text_holds (slice_at o (bytes_of b p.offsets) (bytes_of b p.values) i) d read in
    subst (λ (e : Datum). Holds (node (Utf8 o) (layouts_of kids)) e) facts.0 facts.1
value_holds (Binary o) b p kids i d is small sound below held rows read =
    let same : bytes (slice_at o (bytes_of b p.offsets) (bytes_of b p.values) i) ≡ d = cc in
    subst (λ (e : Datum). Holds (node (Binary o) (layouts_of kids)) e) same tt
value_holds (Listed o) b p kids i d is small sound below held rows read =
    let parts =
    mapped_Ok (λ ds. list (items_of ds)) (items_at (λ j. first_cell b kids j) o (bytes_of b p.offsets) i) d read in
    let P : Layout → Type 0 = λ l. HasRoom l b p (first_len kids) in
    let N : Layout → Type 0 = λ l. IsNode l (layouts_of kids) in
    subst (λ (e : Datum). Holds (node (Listed o) (layouts_of kids)) e) parts.2
    (items_hold b p kids o i parts.0 below (subst P is sound.0.room) held
    (some_child o kids (subst N is sound.0.own.kids_fit)) parts.1)
value_holds Struct b p kids i d is small sound below held rows read =
    let parts = mapped_Ok (λ ds. structure (items_of ds)) (row b kids i) d read in
    subst (λ (e : Datum). Holds (node Struct (layouts_of kids)) e) parts.2
    (rows parts.0 (struct_long b p kids i sound is below) parts.1)

slot_holds :
    (o : Option DictionaryValues) (b : List ℕ) (p : ArrayData) (kids : Roses ArrayData) (i : ℕ) (d : Datum)
    → IsTypedDictionary o → AreBytes b → IsSound b (node p kids)
    → i < p.len → HeldItems b kids
    → ((ds : List Datum) → AreLong Struct (i + 1) kids → row b kids i ≡ Ok ds
    → HoldsEach (layouts_of kids) (items_of ds))
    → slot_by o b p (λ j. first_cell b kids j) (λ j. row b kids j) i ≡ Ok d
    → Holds (node (layout_by o p.layout) (layouts_of kids)) d
slot_holds None b p kids i d dictionary small sound below held rows read =
    value_holds p.layout b p kids i d refl small sound below held rows read
slot_holds (Some w) b p kids i d dictionary small sound below held rows read =
    coded_holds p.layout w (bytes_of b p.values) i d (layouts_of kids) read sound.0.own.kids_fit dictionary

pub null_or_value : (n : Bool) (m : Reading Datum) (d : Datum) → (if n then Ok null else m) ≡ Ok d
    → (null ≡ d) ⊎ (m ≡ Ok d)
null_or_value true m d e = inl cc
null_or_value false m d e = inr e

mutual
  unfolding cell_by

  pub holds_cell :
      (b : List ℕ) (t : Rose ArrayData) (i : ℕ) (d : Datum) → IsTyped t → AreBytes b → IsSound b t → i < len_of t
      → cell b t i ≡ Ok d
      → Holds (layout_of t) d
  holds_cell b (node p kids) i d typed small sound below read =
      let l : Rose Layout = node (layout_by p.dictionary p.layout) (layouts_of kids) in
      elim (null_or_value _ _ d read) [
        | inl e ↦ subst (λ (x : Datum). Holds l x) e (nullable l)
        | inr e ↦
            slot_holds p.dictionary b p kids i d typed.0 small sound below (holds_items b kids typed.1 small sound.2)
            (λ ds long. holds_row b kids i ds typed.1 small sound.2 long) e
      ]

  holds_items : (b : List ℕ) (kids : Roses ArrayData) → AreTyped kids → AreBytes b → AreSound b kids → HeldItems b kids
  holds_items b none typed small sound = tt
  holds_items b (more t ts) typed small sound = λ j d below. holds_cell b t j d typed.0 small sound.0 below

  holds_row :
      (b : List ℕ) (kids : Roses ArrayData) (i : ℕ) (ds : List Datum) → AreTyped kids → AreBytes b → AreSound b kids
      → AreLong Struct (i + 1) kids
      → row b kids i ≡ Ok ds → HoldsEach (layouts_of kids) (items_of ds)
  holds_row b none i ds typed small sound long read =
      let same : [] ≡ ds = cc in subst (λ (es : List Datum). HoldsEach none (items_of es)) same tt
  holds_row b (more t ts) i ds typed small sound long read =
      let parts = both_Ok cons (cell b t i) (row b ts i) ds read in
      let below : i < len_of t = first_long i t ts long in
      subst (λ (es : List Datum). HoldsEach (more (layout_of t) (layouts_of ts)) (items_of es)) parts.4 (
        holds_cell b t i parts.0 typed.0 small sound.0 below parts.2,
        holds_row b ts i parts.1 typed.1 small sound.1 (and_rest (i + 1) t ts long) parts.3,
      )

pub read_holds :
    {E : Type 0} (r : Result Datum E) (b : List ℕ) (t : Rose ArrayData) (i : ℕ) → IsTyped t → AreBytes b → IsSound b t
    → i < len_of t
    → IfOk r (λ v. cell b t i ≡ Ok v) → IfOk r (λ v. Holds (layout_of t) v)
read_holds (Ok d) b t i typed small sound below read = holds_cell b t i d typed small sound below read
read_holds (Err e) b t i typed small sound below read = tt

pub ruleset typing = (read_holds)
